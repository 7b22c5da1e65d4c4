use Rattle.index_plain.proofs.Words.{◌≡◌, rules, ap, ◌∙◌, BTreeMap, empty, insert, from_entries, nat_list_cmp_total, exact_bytes}
use Rattle.index_plain.proofs.Words.{UserRecord, Bytes, Map, bytes_cmp, pairs_of}
use Rattle.index_plain.proofs.PairLemmas.{pairs_empty}
use Rattle.index_plain.proofs.plain.PlainBooks.with_first_user.Goals as goal

no_pairs : {X : Type 0} → pairs_of bytes_cmp bytes_cmp (empty {X = BTreeMap Bytes X}) ≡ empty
no_pairs = pairs_empty nat_list_cmp_total nat_list_cmp_total exact_bytes exact_bytes

pub returns : goal.returns
returns c =
    let user = c.in_ok-user.user in
    let account = c.in_ok-user.record in
    let users = c.in_ok-put.ensures.written ∙ ap (λ (m : Map UserRecord). insert m user account) c.new-accounts.ensures
    ∙ ap (λ (it : Bytes × UserRecord). insert empty it.0 it.1) c.in_ok-user.ensures.first in
    let owners = ap (λ es. pairs_of bytes_cmp bytes_cmp (from_entries {R = bytes_cmp} es)) c.new-2.ensures.empty ∙ no_pairs in
    let yanks = ap (λ es. pairs_of bytes_cmp bytes_cmp (from_entries {R = bytes_cmp} es)) c.new-5.ensures.empty ∙ no_pairs in
    record {
      tables = λ i. record {
        users = users i;
        names = from_entries (c.new.ensures.empty i);
        owners = owners i;
        files = from_entries (c.new-3.ensures.empty i);
        bodies = from_entries (c.new-4.ensures.empty i);
        yanks = yanks i;
        cases = from_entries (c.new-6.ensures.empty i);
        bans = from_entries (c.new-7.ensures.empty i);
      };
      failures = search rules;
      bad_first_user = search rules;
      fault = search rules;
    }
