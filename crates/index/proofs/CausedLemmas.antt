-- Why work ended early.
use Rattle.index.proofs.Words.{◌≡◌, ◌∙◌, ℕ, true, false, Result, Ok, Err, ap, inl, inr, refl, subst, sym, IsTrue, Fault, ReportFault}
use Rattle.index.proofs.Words.{ServeEnd, End, end_of_fault, end_of_report, end_of_serving, is_store, IsNoListening}
use Rattle.index_rules.specs.StoreFaults.{CountsStoreFault, is_store_fault}
use Rattle.index_rules.specs.declared.answer.Fault.TheVariants as fault
use Rattle.index_desk.specs.Reports.{reports_store}
use Rattle.index_desk.specs.declared.desk.report.ReportFault.TheVariants as report_fault
use Rattle.index_cli.specs.Causes.{HaveFailed}
use Rattle.index_cli.specs.declared.end.ServeEnd.TheVariants as serve_end
use Rattle.index_cli.proofs.CauseLemmas.{store_counted}
use Rattle.index.specs.declared.end.End.TheVariants as end
use Rattle.index.specs.Ends.{ServingIsCaused, StoreIsCaused}

-- ---- serve

pub serving_is_caused : (CannotAccept : Type 0) (ended : Result (Unit {0}) ServeEnd) → (ended ≡ Err serve_end.ReadFault → CannotAccept)
    → ServingIsCaused CannotAccept (end_of_serving ended)
serving_is_caused CannotAccept (Ok done) read is = let no : Ok 0 ≡ Err (end.Connections serve_end.ReadFault) = is in absurd (cc no)
serving_is_caused CannotAccept (Err early) read is =
    let both : Err (end.Connections early) ≡ Err (end.Connections serve_end.ReadFault) = is in
    let same : early ≡ serve_end.ReadFault = cc in
    read (ap (λ (it : ServeEnd). Err it) same)

pub serving_store : (before now : ℕ) (ended : Result (Unit {0}) ServeEnd) → (ended ≡ Err serve_end.Store → HaveFailed 1 before now)
    → StoreIsCaused before now (end_of_serving ended)
serving_store before now (Ok done) store = tt
serving_store before now (Err serve_end.Store) store = λ _. store refl
serving_store before now (Err serve_end.ReadFault) store = λ is. let no : false ≡ true = is in absurd (cc no)
serving_store before now (Err serve_end.Clock) store = λ is. let no : false ≡ true = is in absurd (cc no)

-- it did not begin
pub listening_is_caused : (CannotAccept : Type 0) (told : End) → IsNoListening told → ServingIsCaused CannotAccept (Err told)
listening_is_caused CannotAccept told (inl (cause, of_address, is)) read =
    let no : Err (end.Listen cause) ≡ Err (end.Connections serve_end.ReadFault) = ap (λ (e : End). Err e) (sym is) ∙ read in absurd (cc no)
listening_is_caused CannotAccept told (inr is) read =
    let no : Err end.WriteFault ≡ Err (end.Connections serve_end.ReadFault) = ap (λ (e : End). Err e) (sym is) ∙ read in absurd (cc no)

pub listening_store : (before now : ℕ) (told : End) → IsNoListening told → StoreIsCaused before now (Err told)
listening_store before now told (inl (cause, of_address, is)) store =
    let no : false ≡ true = subst (λ (e : End). IsTrue (is_store e)) is store in absurd (cc no)
listening_store before now told (inr is) store =
    let no : false ≡ true = subst (λ (e : End). IsTrue (is_store e)) is store in absurd (cc no)

-- ---- report, check

pub report_is_caused : (why : ReportFault) (Failed : Type 0) → ((count : ℕ) → why ≡ report_fault.WriteFault count → Failed)
    → end_of_report why ≡ end.WriteFault → Failed
report_is_caused (report_fault.WriteFault count) Failed write is = write count refl
report_is_caused report_fault.OutOfMemory Failed write is = let no : end.OutOfMemory ≡ end.WriteFault = is in absurd (cc no)
report_is_caused report_fault.Store Failed write is = absurd (cc is)

pub report_store : (before now : ℕ) (why : ReportFault) → CountsStoreFault before now (reports_store (Err why))
    → IsTrue (is_store (end_of_report why)) → HaveFailed 1 before now
report_store before now report_fault.Store counts is = store_counted before now counts
report_store before now report_fault.OutOfMemory counts is = let no : false ≡ true = is in absurd (cc no)
report_store before now (report_fault.WriteFault count) counts is = let no : false ≡ true = is in absurd (cc no)

pub look_store : (before now : ℕ) (why : Fault) → CountsStoreFault before now (is_store_fault why) → IsTrue (is_store (end_of_fault why))
    → HaveFailed 1 before now
look_store before now fault.Store counts is = store_counted before now counts
look_store before now fault.OutOfMemory counts is = let no : false ≡ true = is in absurd (cc no)
