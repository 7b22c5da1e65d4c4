use Rattle.index_plain.proofs.Words.{sym, ap, ◌∙◌, option_copied, bytes_cmp, plain_tables, pairs_of, map_of}
use Rattle.index_plain.proofs.UserLemmas.{IsBearer-missed, IsBearer-there, is_known}
use Rattle.index_plain.proofs.plain.PlainBooks.bearer.Goals as goal

pub returns-in_err-user : goal.returns-in_err-user
returns-in_err-user c =
    let books = c.args.self.now in
    let bearers = pairs_of bytes_cmp bytes_cmp (map_of bytes_cmp books.accounts.bearers) in
    IsBearer-missed (plain_tables books) bearers books.accounts.agree c.args.token _ c.from_residual.result c.from_residual.ensures
    c.in_err-user.ensures

pub unreachable-requires : goal.unreachable-requires
unreachable-requires c =
    let books = c.args.self.now in
    let bearers = pairs_of bytes_cmp bytes_cmp (map_of bytes_cmp books.accounts.bearers) in
    is_known (plain_tables books) bearers books.accounts.agree c.args.token c.in_ok-user.user.now c.in_ok-user.ensures
    (sym c.find.ensures ∙ ap option_copied c.in-None.is)

pub returns : goal.returns
returns c =
    let books = c.args.self.now in
    let bearers = pairs_of bytes_cmp bytes_cmp (map_of bytes_cmp books.accounts.bearers) in
    IsBearer-there (plain_tables books) bearers books.accounts.agree c.args.token c.in_ok-user.user.now c.in-Some.known.now
    c.in_ok-user.ensures (sym c.find.ensures ∙ ap option_copied c.in-Some.is)
