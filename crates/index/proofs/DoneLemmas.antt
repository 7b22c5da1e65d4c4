-- What work did on an index, and what a crash may leave of it.
use Rattle.index.proofs.Words.{◌≡◌, ℕ, true, false, List, [], ◌∷◌, Option, Result, inl, inr, refl, sym, subst, ∥∥₁_map, History, IsLegal}
use Rattle.index.proofs.Words.{StandsFor, Tables, history_after, Accepted, Call, Exchange, HasCall, Rules, by_history, by_tables, LinesEnd}
use Rattle.index.proofs.Words.{LinesEnd-choice, LineEnd, end_of, LeavesTables, End, Task, AnswerLines, Done, DoneExchanges, DoneLines}
use Rattle.index.proofs.Words.{DoneLook, FindsOnly, Keeping, IsDoneInPart, WasDone, WasDoneInPart, Carries, TaskEnds, Works, CountWrong}
use Rattle.index.proofs.Words.{WriteReport, Fault}
use Rattle.index_cli.specs.DeskAnswers.{by_desk}
use Rattle.index_cli.specs.LinesWent.{Answered, LinesMayHaveMade}
use Rattle.index_cli.specs.Went.{MayHaveMade}
use Rattle.index_cli.proofs.Choices.{AsksLine-choice, AsksOne-choice}
use Rattle.index_cli.proofs.RunEnds.{LinesEnd-map}
use Rattle.index_desk.proofs.LeavesLemmas.{look_leaves}
use Rattle.index_desk.specs.Looks.{ReadsTables}
use Rattle.index_rules.specs.declared.books.Books.{Ghosts}
use Rattle.index.specs.Tasks.{CountsWrong, WritesReport}
use Rattle.index_desk.specs.Takes.{answers_fault}
use Rattle.index_http.specs.Steps.{DeskStep}
use Rattle.index.specs.Chains.{WorkLeadsTo, leading_to}

-- a legal history for which these tables stand
abbrev pub LegalFor : Tables → Type 0
LegalFor T = (h : History) × IsLegal h × StandsFor T h

abbrev pub same_for : (T T' : Tables) → T' ≡ T → LegalFor T → LegalFor T'
same_for T T' same it = (it.0, it.1, subst (λ T. StandsFor T it.0) (sym same) it.2)

-- ---- the call that a crash may leave

module _ {S : Type 0} (rules : Rules S) (s : S) (T : Tables) where
  pub one_made : (exchanges : List Exchange) → MayHaveMade rules exchanges s T → (call : Call) × HasCall rules s call T
  one_made [] made = absurd made
  one_made (exchange ∷ earlier) (inl made) =
      (AsksOne-choice ((call : Call) × HasCall rules s call T) ⊥ (λ it. ⊥) _ (λ it call answer. Unit {0})
      (λ none. absurd none) (λ call answer it. ((call, it.1), tt)) exchange made).0
  one_made (exchange ∷ earlier) (inr made) = one_made earlier made

  pub line_made : (later : Answered) → LinesMayHaveMade rules later s T → (call : Call) × HasCall rules s call T
  line_made [] made = absurd made
  line_made ((line, reply) ∷ later) (inl made) =
      (AsksLine-choice ((call : Call) × HasCall rules s call T) ⊥ (λ it. ⊥) _ (λ it call answer. Unit {0})
      (λ none. absurd none) (λ call answer it. ((call, it.1), tt)) line reply made).0
  line_made ((line, reply) ∷ later) (inr made) = line_made later made

-- ---- of fewer tables

module _ (MayLeave Less : Tables → Type 0) (less : (T : Tables) → Less T → MayLeave T) where
  part_map : {S : Type 0} (rules : Rules S) (done : Done) (s : S) → IsDoneInPart rules done s MayLeave → IsDoneInPart rules done s Less
  part_map rules (DoneLines lines text) s it = record {
    earlier = it.earlier;
    told = it.told;
    later = it.later;
    all = it.all;
    whole = it.whole;
    reached = it.reached;
    answered = it.answered;
    none = it.none;
    shut = it.shut;
    crash = λ T left. it.crash T (less T left);
  }
  part_map rules (DoneExchanges exchanges) s it = record {
    later = it.later;
    earlier = it.earlier;
    all = it.all;
    reached = it.reached;
    answered = it.answered;
    shut = it.shut;
    crash = λ T left. it.crash T (less T left);
  }
  part_map rules DoneLook s it = λ T left. it T (less T left)

  pub was_part_map : (T : Tables) (done : Done) → WasDoneInPart T MayLeave done → WasDoneInPart T Less done
  was_part_map T done it = record {
    tables = λ one. part_map by_tables done T (it.tables one);
    history = λ h legal stands. part_map by_history done h (it.history h legal stands);
  }

-- work that was cut short leads to files in which only tables are found that it may leave
pub cut_to : {X : Type 0} (k : Keeping X) (next : X) (T : Tables) (done : Done) (MayLeave : Tables → Type 0) → WasDoneInPart T MayLeave done
    → FindsOnly k next MayLeave → (¬ k.HoldsNone next) → WorkLeadsTo k false next T done
cut_to k next T done MayLeave went finds there = (
  there,
  was_part_map MayLeave (λ found. ⊥) (λ found none. absurd none) T done went,
  λ found holds. ∥∥₁_map (finds found holds) (λ may.
      was_part_map MayLeave (λ left. left ≡ found) (λ left same. subst MayLeave (sym same) may) T done went),
)

-- ---- the history that a run carries on

-- what was made of a history is one history
module _ (h : History) (T : Tables) where
  made_leading : (exchanges : List Exchange) → MayHaveMade by_history exchanges h T
      → (later : LegalFor T) × MayHaveMade (leading_to later.0) exchanges h T
  made_leading [] made = absurd made
  made_leading (exchange ∷ earlier) (inl made) =
      let it = AsksOne-choice (LegalFor T) ⊥ (λ it. ⊥) _
      (λ it call answer. (answers_fault answer ≡ true) × HasCall (leading_to it.0) h call T) (λ none. absurd none)
      (λ call answer it. ((history_after h call Accepted, it.1.1.0, it.1.1.1), (it.0, (it.1.0, refl)))) exchange made in
      (it.0, inl it.1)
  made_leading (exchange ∷ earlier) (inr made) = let it = made_leading earlier made in (it.0, inr it.1)

  line_leading : (later : Answered) → LinesMayHaveMade by_history later h T
      → (then : LegalFor T) × LinesMayHaveMade (leading_to then.0) later h T
  line_leading [] made = absurd made
  line_leading ((line, reply) ∷ later) (inl made) =
      let it = AsksLine-choice (LegalFor T) ⊥ (λ it. ⊥) _
      (λ it call answer. (answers_fault answer ≡ true) × HasCall (leading_to it.0) h call T) (λ none. absurd none)
      (λ call answer it. ((history_after h call Accepted, it.1.1.0, it.1.1.1), (it.0, (it.1.0, refl)))) line reply made in
      (it.0, inl it.1)
  line_leading ((line, reply) ∷ later) (inr made) = let it = line_leading later made in (it.0, inr it.1)

pub carried : (done : Done) (h : History) (T : Tables) → IsDoneInPart by_history done h (λ left. left ≡ T)
    → (later : LegalFor T) × Carries false done h later.0 T
carried (DoneLines lines text) h T went = elim (went.crash T refl) [
  | inl shows ↦ ((went.reached, shows.0, shows.1), (went, inl refl))
  | inr made ↦ let it = line_leading went.reached T went.later made in (it.0, (went, inr it.1))
]
carried (DoneExchanges exchanges) h T went = elim (went.crash T refl) [
  | inl shows ↦ ((went.reached, shows.0, shows.1), (went, inl refl))
  | inr made ↦ let it = made_leading went.reached T went.later made in (it.0, (went, inr it.1))
]
carried DoneLook h T shows = let it = shows T refl in ((h, it.0, it.1), refl)

-- ---- work at a desk

module _ {S : Type 0} (desk : DeskStep S) where
  abbrev first : Tables
  first = desk.books.tables desk.old

  -- what is said of lines is said of what was done
  abbrev AnsweredAs : Done → Type 0
  AnsweredAs done = (desk.books.IsHonest desk.new → WasDone first (desk.books.tables desk.new) done)
      × (desk.books.IsHonest desk.old → desk.books.IsClean desk.new → WasDoneInPart first (desk.books.may_leave desk.new) done)

  -- lines that a desk answered
  pub lines_work : (U : Tables) (given left had has : Option (List ℕ)) (ended : Result ℕ LineEnd)
      → LinesEnd (by_desk desk) U given left had has ended → Works desk (AnswerLines given left had has) (end_of ended)
  lines_work U given left had has ended it =
      let chosen = LinesEnd-choice ((done : Done) × AnsweredAs done) (by_desk desk) (λ a lines text T. a.0 ≡ DoneLines lines text) U
      (λ lines text told. ((DoneLines lines text, (told.answered, told.went)), refl)) given left had has ended it in
      record {
        done = chosen.0.0;
        ends = λ honest clean. record {
          ended = ended;
          is = refl;
          told = LinesEnd-map (λ lines text T. chosen.0.0 ≡ DoneLines lines text) _ U first (λ lines text is. is)
              given left had has ended chosen.1;
        };
        answered = chosen.0.1.0;
        went = chosen.0.1.1;
      }

  -- an honest store leaves its tables
  abbrev Settles : Type 0
  Settles = (s : S) → desk.books.IsHonest s → (T : Tables) → desk.books.may_leave s T → T ≡ desk.books.tables s

  -- no table was changed
  look_works : (task : Task) (result : Result ℕ End) → Settles → LeavesTables desk.books desk.old desk.new
      → (desk.books.IsHonest desk.old → desk.books.IsClean desk.new → TaskEnds task first result DoneLook) → Works desk task result
  look_works task result settled leaves ends = record {
    done = DoneLook;
    ends = ends;
    answered = λ honest. record {
      tables = λ one. record { later = first; is = refl; shows = leaves.unchanged honest };
      history = λ h legal stands. record {
        later = h;
        is = refl;
        shows = (legal, subst (λ T. StandsFor T h) (sym (leaves.unchanged honest)) stands);
      };
    };
    went = λ honest clean. record {
      tables = λ one T may. settled desk.old honest T (leaves.crash T may);
      history = λ h legal stands T may.
          (legal, subst (λ T. StandsFor T h) (sym (settled desk.old honest T (leaves.crash T may))) stands);
    };
  }

  pub report_works : (before after : Option (List ℕ)) (result : Result ℕ End) → Settles → LeavesTables desk.books desk.old desk.new
      → (desk.books.IsHonest desk.old → desk.books.IsClean desk.new → WritesReport before after first result DoneLook)
      → Works desk (WriteReport before after) result
  report_works before after result = look_works (WriteReport before after) result

  pub count_works : (result : Result ℕ End) → Settles → LeavesTables desk.books desk.old desk.new
      → (desk.books.IsHonest desk.old → desk.books.IsClean desk.new → CountsWrong first result DoneLook) → Works desk CountWrong result
  count_works result = look_works CountWrong result

pub looked_leaves : {S X : Type 0} (g : Ghosts S) (old new : S) (result : Result X Fault) → ReadsTables g old new result
    → LeavesTables g old new
looked_leaves g old new result look = look_leaves g old new result look
