use Rattle.index_plain.proofs.Words.{None, sym, ◌∙◌}
use Rattle.index_rules.proofs.OwnerLists.{pair_total, exact_pair}
use Rattle.index_plain.proofs.TreeLemmas.{take_back}
use Rattle.index_plain.proofs.accounts.put_both.Goals as goal

pub returns-in-Err-clause-bearer : goal.returns-in-Err-clause-bearer
returns-in-Err-clause-bearer c = record {
  written = tt;
  unchanged = c.remove.ensures ∙ take_back pair_total exact_pair _ _ (
    c.args.known.token,
    c.args.user.now,
  ) tt None (sym c.requires) c.in_ok-put.ensures.written;
}
