-- How a desk answers lines, and connections: by its tables, and by each legal history of them.
use Rattle.std.specs.Prelude.{◌≡◌, List, Option, IfSome, length, ℕ}
use Rattle.std.specs.List.{AllByRecursion}
use Rattle.index_desk.specs.ByRules.{ByRules, OfEach, StandsAfter}
use Rattle.index_http.specs.Steps.{DeskStep}
use Rattle.index_cli.specs.Connections.{Exchange}
use Rattle.index_cli.specs.Ends.{Telling}
use Rattle.index_cli.specs.LinesWent.{LinesWent}
use Rattle.index_cli.specs.Serving.{ExchangesAreAnswered}
use Rattle.index_cli.specs.Telling.{TextAnswersLines}
use Rattle.index_cli.specs.Went.{Went}

-- lines were answered by this text
pub record LinesAreAnswered {S : Type 0} (desk : DeskStep S) (lines : List (List ℕ))
    (text : List ℕ) : Type 0 where
  -- if the store is honest at the end, all were answered, and the tables are those after them
  pub answered : ByRules desk.books desk.old desk.new
      (λ S rules s. StandsAfter rules (TextAnswersLines rules s lines text))
  -- also if a fault has shut the store
  pub went : desk.books.IsHonest desk.old → desk.books.IsClean desk.new
      → OfEach (desk.books.tables desk.old)
      (λ S rules s. LinesWent rules lines text s (desk.books.may_leave desk.new))

-- `LinesAreAnswered`, whatever the tables
abbrev pub by_desk : {S : Type 0} → DeskStep S → Telling
by_desk desk lines text T = LinesAreAnswered desk lines text

-- connections were answered, each at the given moment, or at some moment if none is given
pub record DeskAnswersConnections {S : Type 0} (desk : DeskStep S) (Are : List Exchange → Type 0)
    (given : Option ℕ) (IsCount : ℕ → Type 0) : Type 0 where
  pub exchanges : List Exchange
  pub are : Are exchanges
  pub counted : IsCount (length exchanges)
  pub are_given : AllByRecursion (λ exchange. IfSome given (λ it. exchange.at ≡ it)) exchanges
  -- if the store is honest at the end, all were answered, and the tables are those after them
  pub answered : ByRules desk.books desk.old desk.new
      (λ S rules s. StandsAfter rules (ExchangesAreAnswered rules exchanges s))
  -- also if a fault has shut the store
  pub went : desk.books.IsHonest desk.old → desk.books.IsClean desk.new
      → OfEach (desk.books.tables desk.old)
      (λ S rules s. Went rules exchanges s (desk.books.may_leave desk.new))
