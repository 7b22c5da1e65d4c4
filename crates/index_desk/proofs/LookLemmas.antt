-- What a look finds in tables is so in each history for which they stand.
use Rattle.index_desk.proofs.Words.{Result, IfOk-weaker, Ghosts, History, StandsFor, Tables, ReadsTables, by_history, by_tables}
use Rattle.std.proofs.Common.{IfOk}
use Rattle.index_rules.specs.declared.answer.Fault.{Fault}
use Rattle.index_rules.specs.declared.rows.WalkEnd.{WalkEnd}
use Rattle.index_desk.specs.Looks.{Finding, HandsOver, LooksBy, WalksTables}

module _ {S : Type 0} (g : Ghosts S) (old new : S) where
  pub looks_by : {X : Type 0} (result : Result X Fault) (Holds : Finding X)
      → ((h : History) → StandsFor (g.tables old) h → (found : X) → Holds Tables by_tables (g.tables old) found
      → Holds History by_history h found)
      → (g.IsHonest new → IfOk result (Holds Tables by_tables (g.tables old))) → ReadsTables g old new result
      → LooksBy g old new result Holds
  looks_by result Holds after found look = record {
    found = found;
    history = λ honest. IfOk-weaker result _ _ (λ it holds h stands. after h stands it holds) (found honest);
    look = look;
  }

  pub hands_over : {X Rows : Type 0} (result : Result X WalkEnd) (Are : Finding Rows) (rows_in : Tables → Rows) (Hands : Rows → Type 0)
      → ((T : Tables) → Are Tables by_tables T (rows_in T))
      → ((h : History) → StandsFor (g.tables old) h → Are History by_history h (rows_in (g.tables old)))
      → (g.IsHonest old → g.IsClean new → Hands (rows_in (g.tables old))) → (rows : Rows) × Hands rows → WalksTables g old new result
      → HandsOver g old new result Are Hands
  hands_over result Are rows_in Hands are after walked given look = record {
    walked = λ honest clean. (rows_in (g.tables old), are (g.tables old), walked honest clean);
    history = λ honest clean h stands. (rows_in (g.tables old), after h stands, walked honest clean);
    given = given;
    look = look;
  }
