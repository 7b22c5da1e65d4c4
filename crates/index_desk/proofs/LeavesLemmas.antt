-- Calls that leave the tables, and the count of failed stores, which does not fall.
use Rattle.index_desk.proofs.Words.{◌∙◌, ◌+◌, ℕ, Bool, true, false, inl, inr, refl, arith, Result, Ghosts, CountsStoreFault, LeavesTables}
use Rattle.index_desk.proofs.Words.{ReadsTables}
use Rattle.std.proofs.lemmas.Bool.{cases_lt}
use Rattle.index_io.specs.Counts.{last_count}
use Rattle.index_rules.specs.declared.answer.Fault.{Fault}
use Rattle.index_desk.specs.Looks.{NeverFalls}

-- ---- the count

-- that stays
pub none_fell : (count : ℕ) → NeverFalls count count
none_fell count = inl (omega arith)

-- that has counted one fault, or none
pub never_falls : (is_store_fault : Bool) (before now : ℕ) → CountsStoreFault before now is_store_fault → NeverFalls before now
never_falls false before now same = inl (omega (arith, same))
never_falls true before now next = elim (cases_lt last_count (before + 1)) [
  | inl far ↦ inr (omega (arith, next, far))
  | inr near ↦ inl (omega (arith, next, near))
]

-- of two calls, one after the other
pub never_fell : (before mid now : ℕ) → NeverFalls before mid → NeverFalls mid now → NeverFalls before now
never_fell before mid now (inl less) (inl more) = inl (omega (arith, less, more))
never_fell before mid now (inr last) (inl more) = inr (omega (arith, last, more))
never_fell before mid now earlier (inr last) = inr last

-- ---- calls

module _ {S : Type 0} (g : Ghosts S) where
  -- that asked for nothing
  pub leaves_none : (s : S) → LeavesTables g s s
  leaves_none s = record { unchanged = λ _. refl; honest = λ it. it; clean = λ it. it; crash = λ _ left. left; counted = none_fell _ }

  -- that looked
  pub look_leaves : {X : Type 0} (old new : S) (result : Result X Fault) → ReadsTables g old new result → LeavesTables g old new
  look_leaves old new result look = record {
    unchanged = look.unchanged;
    honest = look.honest;
    clean = look.clean;
    crash = look.crash;
    counted = never_falls _ _ _ look.stores;
  }

  -- two, one after the other
  pub leaves_on : (old mid new : S) → LeavesTables g old mid → LeavesTables g mid new → LeavesTables g old new
  leaves_on old mid new before after = record {
    unchanged = λ honest. after.unchanged honest ∙ before.unchanged (after.honest honest);
    honest = λ honest. before.honest (after.honest honest);
    clean = λ clean. before.clean (after.clean clean);
    crash = λ T left. before.crash T (after.crash T left);
    counted = never_fell _ _ _ before.counted after.counted;
  }
