use Rattle.std.proofs.Common.{rules, subst, sym, ◌≤◌, length}
use Rattle.std.proofs.lemmas.Fn.{filter_same}
use Rattle.index_cache.specs.Entries.{body_bytes}
use Rattle.index_cache.proofs.SparedLemmas.{spared_bytes, spared_length}
use Rattle.index_cache.proofs.entries.keep_spared.Goals as goal

pub returns-clause-spared : goal.returns-clause-spared
returns-clause-spared c = filter_same _ _ _ (λ x b f' k. search rules) _ _ c.retain.ensures.filtered

pub returns-clause-fewer : goal.returns-clause-fewer
returns-clause-fewer c = let same = returns-clause-spared c in (
  subst (λ items. body_bytes items ≤ body_bytes c.args.bodies.now.items) (sym same)
      (spared_bytes c.args.change.now c.args.bodies.now.items),
  subst (λ items. length items ≤ length c.args.bodies.now.items) (sym same) (spared_length c.args.change.now c.args.bodies.now.items),
)
