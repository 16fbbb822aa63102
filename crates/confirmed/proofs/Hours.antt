-- The confirmed MW of one lower side.
-- Assumes nothing.
use Rattle.std.proofs.Common.{◌≡◌, ℕ, ◌*◌, ◌/◌, ◌^◌, ◌≤◌, ◌<◌, arith}
use Rattle.std.proofs.Math.Nat.{mul_comm, mul-le-mul, mul-le-mul_left, div-le_of_le-mul}
use borrow.Author.Tests.{lt-ltb, le-ltb}
use Rattle.rules.specs.Nominations.{confirmed_of}

-- a product of two numbers of 32 bits
pub product_fits : (m R : ℕ) → m < 2 ^ 32 → R < 2 ^ 32 → m * R < 2 ^ 64
product_fits m R h l =
    let most : m * R ≤ 4294967295 * 4294967295 = mul-le-mul {n₂ = 4294967295} {m₂ = 4294967295} (omega arith) (omega arith) in
    omega arith

-- what is confirmed is no more than the lower side
pub cut_fits : (R T m : ℕ) → R < T → m < 2 ^ 32 → m * R / T < 2 ^ 32
cut_fits R T m h l =
    let more : m * R ≤ m * T = mul-le-mul_left m (omega arith) in
    let most : m * R / T ≤ m = div-le_of_le-mul T (rw (mul_comm T m) more) in
    omega arith

pub cut : (R T m : ℕ) → R < T → m * R / T ≡ confirmed_of R T m
unfolding confirmed_of
cut R T m h = rw (lt-ltb R T h)

pub uncut : (R T m : ℕ) → T ≤ R → m ≡ confirmed_of R T m
unfolding confirmed_of
uncut R T m h = rw (le-ltb R T h)
