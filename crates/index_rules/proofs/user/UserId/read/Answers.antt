use Rattle.index_rules.proofs.Words.{◌≡◌, ℕ, sym, true, arith, and_parts, nat_tests}
use Rattle.std.proofs.Common.{◌<◌}
use Rattle.index_rules.specs.Users.{is_user_letter}
use Rattle.index_names.proofs.AsciiLemmas.{IsAscii-list_all}
use Rattle.index_rules.proofs.user.UserId.read.Goals as goal

user_letter-ascii : (c : ℕ) → is_user_letter c ≡ true → c < 128
user_letter-ascii c passes = grind (arith, nat_tests)

pub ascii-requires : goal.ascii-requires
ascii-requires c = IsAscii-list_all is_user_letter user_letter-ascii c.args.bytes.now (and_parts _ _ (sym c.if-not-is_user_id.ensures)).1
