use Rattle.index_http.proofs.Words.{◌≡◌, rules, true, has_fault}
use Rattle.index_http.proofs.PassLemmas.{cut, finished, goes_on}
use Rattle.index_http.proofs.page_text.end_text.Goals as goal

pub returns-in-Err-OutOfMemory-clause-text : goal.returns-in-Err-OutOfMemory-clause-text
returns-in-Err-OutOfMemory-clause-text g c = λ start rows is_open fresh walks.
    let faulty : has_fault c.args.walked ≡ true = search rules in
    rw c.abandon-in-Err-OutOfMemory.ensures.kept
    (cut start _ rows c.args.walked _ _ faulty is_open fresh c.abandon-in-Err-OutOfMemory.ensures.written walks)

pub returns-in-Err-Store-clause-text : goal.returns-in-Err-Store-clause-text
returns-in-Err-Store-clause-text g c = λ start rows is_open fresh walks.
    let faulty : has_fault c.args.walked ≡ true = search rules in
    rw c.abandon-in-Err-Store.ensures.kept (cut start _ rows c.args.walked _ _ faulty is_open fresh c.abandon-in-Err-Store.ensures.written
    walks)

pub returns-in-Err-clause-text : goal.returns-in-Err-clause-text
returns-in-Err-clause-text g c = λ start rows is_open fresh walks.
    let there : goes_on c.args.walked ≡ true = search rules in
    rw c.in-Err.is at (finished start _ rows _ c.args.walked c.finish.result there fresh c.finish.ensures.page c.finish.ensures.stopped
    walks)
