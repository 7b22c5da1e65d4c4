use Rattle.index.proofs.Words.{◌≡◌, ap, Ok, Err, Some, true, true≢false, is_fault_end, is_ok, subst, sym, IfSome_then, image_at}
use Rattle.index.proofs.Words.{IsBadFirstUserByHex}
use Rattle.index.specs.Openings.{OpeningEnds}
use Rattle.index.proofs.InitLemmas.{bad_user_told, made_told, shut_to_next}
use Rattle.index.proofs.PairLemmas.{no_first_user, only_first_user}
use Rattle.index.proofs.VolumeRuns.{database_of_opened}
use Rattle.index.proofs.new_pair.create.Goals as goal

pub returns-in-Ok-open : goal.returns-in-Ok-open
returns-in-Ok-open g c =
    let user = c.args.user.now in
    let digits = c.args.token.now in
    let token = c.in-Ok.token in
    let read = c.in-Ok.ensures.read in
    let conn = c.in-Ok-open.conn in
    let made = c.create_beside-made.result in
    let makes = c.create_beside-made.ensures in
    let told = c.end_of_made.ensures in
    let valid : ¬ IsBadFirstUserByHex user digits = λ bad. true≢false (ap is_ok (c.in-Ok.ensures.bad_first_user.1 bad)) in
    record {
      bad_first_user = only_first_user user digits token c.end_of_made.result read
          (bad_user_told user token conn made c.end_of_made.result makes told) valid;
      opened = Some (Ok conn);
      ends = subst (OpeningEnds c.args.page_sums (image_at g.S.Start)) c.in-Ok-open.is c.open.ensures;
      shut = tt;
      ended = (token, read, record { made = made; ends = makes; told = told });
      made = λ ok. (
        token,
        read,
        conn,
        c.in-Ok-open.ensures.opened,
        database_of_opened _ _ c.in-Ok-open.ensures.opened,
        c.in-Ok-open.ensures.sums,
        made_told user token conn made c.end_of_made.result makes told ok,
      );
    }

pub returns-in-Err-open : goal.returns-in-Err-open
returns-in-Err-open g c =
    let user = c.args.user.now in
    let digits = c.args.token.now in
    let token = c.in-Ok.token in
    let read = c.in-Ok.ensures.read in
    let failed = c.in-Err-open.failed in
    let start = image_at g.S.Start in
    let ends = subst (OpeningEnds c.args.page_sums start) c.in-Err-open.is c.open.ensures in
    let valid : ¬ IsBadFirstUserByHex user digits = λ bad. true≢false (ap is_ok (c.in-Ok.ensures.bad_first_user.1 bad)) in
    record {
      bad_first_user = no_first_user user digits c.end_of_failed.result
          (subst (λ why. is_fault_end why ≡ true) (sym c.end_of_failed.ensures) ends.fault) valid;
      opened = Some (Err failed);
      ends = ends;
      shut = (
        ap Err c.end_of_failed.ensures,
        (token, read, λ volume. IfSome_then failed.left ends.shut (λ left leaves. shut_to_next user token start left leaves volume)),
      );
      ended = tt;
      made = λ ok. absurd (true≢false (sym ok));
    }
