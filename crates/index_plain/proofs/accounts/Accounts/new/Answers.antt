use Rattle.index_plain.proofs.Words.{ap, ◌∙◌, from_entries, nat_list_cmp_total, exact_bytes, bytes_cmp, pairs_of}
use Rattle.index_plain.proofs.PairLemmas.{pairs_empty}
use Rattle.index_plain.proofs.BearerLemmas.{bearers_none}
use Rattle.index_plain.proofs.accounts.Accounts.new.Goals as goal

pub invariant_of-result : goal.invariant_of-result
invariant_of-result c =
    record {
      agree = bearers_none _ _
          (ap (λ es. from_entries {R = bytes_cmp} es) c.new.ensures.empty)
          (ap (λ es. pairs_of bytes_cmp bytes_cmp (from_entries {R = bytes_cmp} es)) c.new-2.ensures.empty
          ∙ pairs_empty nat_list_cmp_total nat_list_cmp_total exact_bytes exact_bytes);
    }
