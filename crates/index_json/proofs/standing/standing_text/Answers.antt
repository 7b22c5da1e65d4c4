use Rattle.std.proofs.Common.{◌≡◌, ℕ, List, [], ◌∷◌, map, Option, Some, None, false, refl, arith}
use Rattle.std.proofs.lemmas.Grind.{common_steps}
use Rattle.serde_json.specs.Data.{string}
use Rattle.serde_json.specs.View.{items_of}
use Rattle.serde_json.specs.Written.{has_float, items_have_float}
use Rattle.index_rules.specs.declared.records.CaseRecord.{CaseRecord}
use Rattle.index_rules.specs.declared.standing.Standing.{Standing}
use Rattle.index_rules.specs.declared.standing.Standing.TheVariants as standing
use Rattle.index_json.specs.StandingText.{case_value, moment_value, standing_text_of, standing_value}
use Rattle.index_json.proofs.standing.standing_text.Goals as goal

texts-no_float : (texts : List (List ℕ)) → items_have_float (items_of (map string texts)) ≡ false
texts-no_float [] = refl
texts-no_float (text ∷ texts) = texts-no_float texts

moment-no_float : (moment : Option ℕ) → has_float (moment_value moment) ≡ false
moment-no_float None = refl
moment-no_float (Some at) = refl

case-no_float : (opened : Option CaseRecord) → has_float (case_value opened) ≡ false
case-no_float None = refl
case-no_float (Some opened) = rw (moment-no_float opened.state.first) refl

-- a standing has no float
standing-no_float : (s : Standing) → has_float (standing_value s) ≡ false
standing-no_float (standing.Free name) = refl
standing-no_float (standing.Prohibited name) = refl
standing-no_float (standing.Held held) = rw (case-no_float held.case, texts-no_float held.owners) refl

pub returns : goal.returns
unfolding standing_text_of
returns c = record {
  text = record {
    value = grind (arith, common_steps, standing-no_float c.args.standing.now);
    memory = tt;
  };
}
