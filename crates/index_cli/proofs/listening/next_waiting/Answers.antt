use Rattle.index_cli.proofs.Words.{rules, arith, ◌≡◌, List, [], ◌∷◌, ◌++◌, length, length-append, ap, subst, sym, refl, Result, Ok, Err}
use Rattle.index_cli.proofs.Words.{AddsBehind}
use Rattle.std.proofs.Common.{IfOk}
use Rattle.std.proofs.lemmas.List.{nil_from_length}
use Rattle.index_cli.specs.Waiting.{TakesFirst}
use Rattle.index_cli.proofs.listening.next_waiting.Goals as goal
use Rattle.index_cli.proofs.listening.next_waiting.Goals.{then-is_ok+in_ok-set_nonblocking, else-is_ok}

-- if none waits and none waited, the one that comes is the first
comes : {A E : Type 0} → (old new : List A) → length old ≡ 0 → length new ≡ 0 → (result : Result A E)
    → IfOk result (λ first. TakesFirst old new first)
comes old new none left (Ok first) = (
  first ∷ [],
  subst (λ o. o ++ first ∷ [] ≡ first ∷ new) (sym (nil_from_length old none))
      (subst (λ n. first ∷ [] ≡ first ∷ n) (sym (nil_from_length new left)) refl),
)
comes old new none left (Err error) = tt

-- none waited if none waits behind those that did
none_before : {A : Type 0} → (most : _) (old mid : List A) → AddsBehind most old mid → length mid ≡ 0 → length old ≡ 0
none_before most old mid adds none = omega (arith, length-append old adds.0, ap length adds.1, none)

pub returns-in-None-clause-order : goal.returns-in-None-clause-order
returns-in-None-clause-order c =
    let none : length c.if-is_ok.waiting.items ≡ 0 = search rules in
    let left : length c.pop_front.new.self.items ≡ 0 = search rules in
    let old = c.args.waiting.now.items in
    comes old c.pop_front.new.self.items (elim c.if-is_ok.branch as (λ _. length old ≡ 0) [
      | then-is_ok+in_ok-set_nonblocking w ↦ none_before w.min.result old c.if-is_ok.waiting.items (search rules) none
      | else-is_ok w ↦ search rules
    ]) left c.next_connection.result
