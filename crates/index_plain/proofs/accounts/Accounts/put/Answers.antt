use Rattle.index_plain.proofs.Words.{refl, sym, ap, ◌∙◌, Some, bytes_cmp, same-is, map_of, pairs_of}
use Rattle.index_plain.proofs.BearerLemmas.{bearers_add, bearers_same, bearers_stay, either_way, new_user_not_there}
use Rattle.index_plain.proofs.accounts.Accounts.put.Goals as goal

pub invariant_of-self : goal.invariant_of-self
invariant_of-self c =
    let before = c.args.self.now in
    let user = c.args.user.now in
    let users = map_of bytes_cmp before.users in
    let bearers = pairs_of bytes_cmp bytes_cmp (map_of bytes_cmp before.bearers) in
    let token = sym c.token_of.ensures ∙ c.in-Some.is
    ∙ ap Some (same-is c.in-Some.former c.args.known.token (sym c.eq.ensures ∙ c.if-eq.true)) in
    record {
      agree = either_way c.put.result _ _ _ _ _ c.put.ensures.written c.put.ensures.written c.put.ensures.unchanged c.put.ensures.unchanged
          (λ put _. bearers_same _ _ _ _ put refl (bearers_stay users user c.args.known bearers token before.agree))
          (λ same _. bearers_same _ _ _ _ same refl before.agree);
    }

pub put_both-requires : goal.put_both-requires
put_both-requires c =
    let before = c.args.self.now in
    new_user_not_there (map_of bytes_cmp before.users) c.args.user.now c.args.known
    (pairs_of bytes_cmp bytes_cmp (map_of bytes_cmp before.bearers)) before.agree (sym c.token_of.ensures ∙ c.in-None.is)

pub invariant_of-self-in-None : goal.invariant_of-self-in-None
invariant_of-self-in-None c =
    let before = c.args.self.now in
    let users = map_of bytes_cmp before.users in
    let bearers = pairs_of bytes_cmp bytes_cmp (map_of bytes_cmp before.bearers) in
    let wrote = c.put_both.ensures in
    record {
      agree = either_way c.put_both.result _ _ _ _ _ wrote.user.written wrote.bearer.written wrote.user.unchanged wrote.bearer.unchanged
          (λ put bearer. bearers_same _ _ _ _ put bearer
          (bearers_add users c.args.user.now c.args.known bearers (sym c.token_of.ensures ∙ c.in-None.is) before.agree))
          (λ same bearer. bearers_same _ _ _ _ same bearer before.agree);
    }
