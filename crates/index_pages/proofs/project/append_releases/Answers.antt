use Rattle.index_pages.proofs.Words.{◌≡◌, ◌∙◌, ◌∷◌, ◌++◌, rules, comma_if, json_text}
use Rattle.index_pages.proofs.JsonLemmas.{releases-next}
use Rattle.index_pages.proofs.PieceLemmas.{adds_both}
use Rattle.index_pages.proofs.project.append_releases.Goals as goal

pub loop-release-preserved : goal.loop-release-preserved
loop-release-preserved g c =
    let loop = c.loop-release in
    let release = c.in-Some.release.now in
    let so_far = loop.invariant in
    let step : loop.release-iterator ≡ release ∷ c.next.new.self = search rules in (
      so_far.0 ++ (comma_if loop.is_later ++ json_text release),
      adds_both so_far.1 c.in_ok-append_release.ensures,
      releases-next so_far.0 loop.is_later release c.next.new.self ∙ rw step at so_far.2,
    )
