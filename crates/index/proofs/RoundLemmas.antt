-- How many connections the rounds of a run have.
use Rattle.index.proofs.Words.{◌≤◌, ◌<◌, ℕ, arith}
use Rattle.std.proofs.Common.{◌*◌, ◌^◌}
use Rattle.std.proofs.lemmas.Nat.{mul-le}

-- two numbers of 32 bits have a product of 64
pub product_fits : (requests rounds : ℕ) → requests < 2 ^ 32 → rounds < 2 ^ 32 → requests * rounds < 2 ^ 64
product_fits requests rounds few fewer =
    let most : requests * rounds ≤ 4294967295 * 4294967295 =
    mul-le requests rounds 4294967295 4294967295 (omega (arith, few)) (omega (arith, fewer)) in
    omega (arith, most)
