use Rattle.index_sql_writes.proofs.Words.{inl, length, IsUtf8, rules, sym, ap, subst, ◌∙◌, [], ◌∷◌, refl, put_file_text}
use Rattle.index_sql_writes.specs.Statements.{file_cells}
use Rattle.index_sql_writes.proofs.PutRecords.{file_put, file_fits}
use Rattle.index_sql_writes.proofs.TakenLemmas.{fitting, step_of, too_much}
use Rattle.index_sql_writes.proofs.SureWrites.{put_file_sure}
use Rattle.index_sql_writes.proofs.statements.put_file.Goals as goal

pub returns-in_err-size : goal.returns-in_err-size
returns-in_err-size g c = too_much g.S.Store _ (c.args.known.now.size ∷ []) _ _ _ _ c.from_residual.ensures.1
    (inl c.in_err-size.ensures.too_much.1)

pub returns : goal.returns
returns g c =
    let file = c.args.file.now in
    let known = c.args.known.now in
    let digest = ap length (sym c.to_bytes-digest.ensures.value) ∙ c.to_bytes-digest.ensures.digest.size in
    let requires = subst IsUtf8 c.as_str.ensures c.as_str.utf8 in
    let fits = file_fits file known c.text.ensures.file_name c.text-2.ensures.normal c.text-3.ensures.release digest requires in
    fitting g.S.Store _ (known.size ∷ []) put_file_text (file_cells file known) (file_cells file known) _ _ _ refl
    (step_of g.S.Store put_file_text (file_cells file known) _ _ _ _ _ put_file_sure (λ count. file_put file known fits _ _ count)
    (search rules) c.run_statement.ensures)
