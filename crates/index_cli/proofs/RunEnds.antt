-- The ends of a run.
use Rattle.index_cli.proofs.Words.{◌≡◌, ◌≢◌, ℕ, ◌⊎◌, inl, inr, List, Option, Result, Ok, Err, sym, subst, HasFailed, Tables, LineEnd}
use Rattle.index_cli.proofs.Words.{ReadFault, WriteFault, AllLinesAreAnswered, LineIsPartlyAnswered, LinesBeforeAreAnswered, LinesEnd}
use Rattle.index_cli.proofs.Words.{Telling, Charges}
use Rattle.index_cli.specs.declared.end.LineEnd.TheVariants.{OutOfMemory}
use Rattle.index_cli.proofs.Cuts.{Charges-trans}

-- at each end but that of a writer
pub LinesEnd-before : (tells : Telling) (T : Tables) (a b w0 w1 : Option (List ℕ)) (r : Result ℕ LineEnd) (end : LineEnd)
    → r ≡ Err end → r ≢ Err WriteFault → LinesBeforeAreAnswered tells T a b w0 w1 → LinesEnd tells T a b w0 w1 r
LinesEnd-before tells T a b w0 w1 r ReadFault is other before = subst (λ r. LinesEnd tells T a b w0 w1 r) (sym is) before
LinesEnd-before tells T a b w0 w1 r OutOfMemory is other before = subst (λ r. LinesEnd tells T a b w0 w1 r) (sym is) before
LinesEnd-before tells T a b w0 w1 r WriteFault is other before = absurd (other is)

-- a read failed, or nothing may be read any more
pub failed_or_spent : (f0 f1 f2 first left now : ℕ) (a b c : Option (List ℕ)) → f1 ≡ f0
    → Charges first left a b → Charges left now b c → HasFailed f1 f2 ⊎ (now ≡ 0) → HasFailed f0 f2 ⊎ Charges first 0 a c
failed_or_spent f0 f1 f2 first left now a b c same charged more (inl failed) = inl (subst (λ n. HasFailed n f2) same failed)
failed_or_spent f0 f1 f2 first left now a b c same charged more (inr none) =
    inr (subst (λ n. Charges first n a c) none (Charges-trans first left now a b c charged more))

-- ---- if more may be told of the same lines by the same text

module _ (tells tells' : Telling) (T T' : Tables) (f : (lines : List (List ℕ)) (text : List ℕ) → tells lines text T
    → tells' lines text T') where
  all_map : (a b w0 w1 : Option (List ℕ)) (count : ℕ) → AllLinesAreAnswered tells T a b w0 w1 count
      → AllLinesAreAnswered tells' T' a b w0 w1 count
  all_map a b w0 w1 count e = record {
    input = e.input;
    text = e.text;
    is_input = e.is_input;
    taken = e.taken;
    at_end = e.at_end;
    told = f _ _ e.told;
    wrote = e.wrote;
    counted = e.counted;
  }

  pub before_map : (a b w0 w1 : Option (List ℕ)) → LinesBeforeAreAnswered tells T a b w0 w1 → LinesBeforeAreAnswered tells' T' a b w0 w1
  before_map a b w0 w1 e = record {
    input = e.input;
    done = e.done;
    more = e.more;
    text = e.text;
    is_input = e.is_input;
    lines = e.lines;
    taken = e.taken;
    told = f _ _ e.told;
    wrote = e.wrote;
  }

  during_map : (a b w0 w1 : Option (List ℕ)) → LineIsPartlyAnswered tells T a b w0 w1 → LineIsPartlyAnswered tells' T' a b w0 w1
  during_map a b w0 w1 e = record {
    input = e.input;
    done = e.done;
    line = e.line;
    more = e.more;
    text = e.text;
    count = e.count;
    is_input = e.is_input;
    lines = e.lines;
    taken = e.taken;
    told = f _ _ e.told;
    less = e.less;
    wrote = e.wrote;
  }

  pub LinesEnd-map : (a b w0 w1 : Option (List ℕ)) (result : Result ℕ LineEnd) → LinesEnd tells T a b w0 w1 result
      → LinesEnd tells' T' a b w0 w1 result
  LinesEnd-map a b w0 w1 (Ok count) e = all_map a b w0 w1 count e
  LinesEnd-map a b w0 w1 (Err ReadFault) e = before_map a b w0 w1 e
  LinesEnd-map a b w0 w1 (Err WriteFault) e = during_map a b w0 w1 e
  LinesEnd-map a b w0 w1 (Err OutOfMemory) e = before_map a b w0 w1 e
