use Rattle.index_plain.proofs.Words.{ap, ◌∙◌, remove, Pairs, bytes_cmp, map_of, pairs_of}
use Rattle.index_plain.proofs.BearerLemmas.{bearers_move, bearers_same, new_token_not_there}
use Rattle.index_plain.proofs.accounts.Accounts.put_with_token.Goals as goal

pub put_both-requires : goal.put_both-requires
put_both-requires c =
    let before = c.args.self.now in
    new_token_not_there (map_of bytes_cmp before.users) c.args.user.now c.args.known
    (pairs_of bytes_cmp bytes_cmp (map_of bytes_cmp before.bearers)) c.args.former before.agree c.requires.former c.requires.other

pub invariant_of-self-2 : goal.invariant_of-self-2
invariant_of-self-2 c =
    let before = c.args.self.now in
    let user = c.args.user.now in
    let former = c.args.former in
    let users = map_of bytes_cmp before.users in
    let bearers = pairs_of bytes_cmp bytes_cmp (map_of bytes_cmp before.bearers) in
    record {
      agree = bearers_same _ _ _ _ c.in_ok-put_both.ensures.user.written
          (c.remove.ensures ∙ ap (λ (m : Pairs). remove m (former, user)) c.in_ok-put_both.ensures.bearer.written)
          (bearers_move users user c.args.known bearers former c.requires.former c.requires.other before.agree);
    }
