-- Texts that are put together from pieces.
use Rattle.std.specs.Prelude.{◌++◌, OnOk, Result}
use Rattle.index_rules.specs.Maps.{Bytes}
use Rattle.index_pages.specs.Rest.{Rest, IsNext}

-- A text was appended. `holds` says which texts the buffer may have so far: a count has every text
-- of its length.
pub record ExtendsText {O : Type 0} (holds : O → Bytes → Type 0) (before after : O)
    (text : Bytes) : Type 0 where
  pub behind : (front : Bytes) → holds before front → holds after (front ++ text)

-- this text was appended, unless memory ran out
abbrev pub Adds : {O A E : Type 0} → (O → Bytes → Type 0) → O → O → Result A E → Bytes → Type 0
Adds holds before after result text = OnOk result (ExtendsText holds before after text)

-- the text of this row was appended
pub record ExtendsByRow {R O : Type 0} (rest : Rest R) (row : R) (later : Rest R)
    (holds : O → Bytes → Type 0) (before after : O) : Type 0 where
  pub text : Bytes
  pub next : IsNext rest row text later
  pub adds : ExtendsText holds before after text

-- what texts are appended to, before and after
pub record PiecesStep (O : Type 0) : Type 1 where
  pub holds : O → Bytes → Type 0
  pub old : O
  pub new : O

abbrev pub to_pieces : {O : Type 0} → (O → Bytes → Type 0) → O → O → PiecesStep O
to_pieces holds old new = record { holds = holds; old = old; new = new }

-- the text of this row was appended, and the page has the rest to write, unless memory ran out
abbrev pub AddsRow : {R O A E : Type 0} → Rest R → R → Rest R → PiecesStep O → Result A E → Type 0
AddsRow rest row later out result =
    OnOk result (ExtendsByRow rest row later out.holds out.old out.new)
