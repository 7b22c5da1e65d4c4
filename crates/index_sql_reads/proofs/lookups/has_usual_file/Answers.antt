use Rattle.index_sql_reads.proofs.Words.{◌≡◌, ◌∙◌, sym, true, has_release_in}
use Rattle.index_sql_reads.proofs.FindsLemmas.{finds_as}
use Rattle.index_sql_reads.proofs.ReleaseLemmas.{release_is_there}
use Rattle.index_sql_reads.proofs.lookups.has_usual_file.Goals as goal

pub returns-in-Some-2 : goal.returns-in-Some-2
returns-in-Some-2 g c =
    finds_as g.S.Store (λ T it. it ≡ true → has_release_in T c.args.name.now c.args.release.now ≡ true) c.in_ok-file.ensures
    (λ T found is. release_is_there T _ _ _ c.in-Some-2.file (sym found ∙ c.in-Some-2.is) (sym c.is_undeleted_of.ensures ∙ is))
