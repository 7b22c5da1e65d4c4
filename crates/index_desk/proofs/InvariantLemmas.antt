-- Calls one after the other keep what each of them keeps.
use Rattle.index_desk.proofs.Words.{subst, sym, Ghosts, HasOneBearer, IsSound, KeepsInvariants, LeavesTables}

module _ {S : Type 0} (g : Ghosts S) where
  pub keeps_on : (first now new : S) → KeepsInvariants g first now → KeepsInvariants g now new → KeepsInvariants g first new
  keeps_on first now new before after = record {
    one_bearer = λ honest one. after.one_bearer honest (before.one_bearer (after.honest honest) one);
    sound = λ honest sound. after.sound honest (before.sound (after.honest honest) sound);
    honest = λ honest. before.honest (after.honest honest);
    clean = λ clean. before.clean (after.clean clean);
  }

  -- so does a call that changes no table
  pub looks_keep : (old new : S) → LeavesTables g old new → KeepsInvariants g old new
  looks_keep old new looked = record {
    one_bearer = λ honest one. subst HasOneBearer (sym (looked.unchanged honest)) one;
    sound = λ honest sound. subst IsSound (sym (looked.unchanged honest)) sound;
    honest = looked.honest;
    clean = looked.clean;
  }
