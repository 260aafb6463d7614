-- Sums and differences of products of coordinates, as the code computes them.
use Rattle.std.proofs.Common.{◌^◌, ◌≤◌, ℤ, ◌+ℤ◌, ◌-ℤ◌, nat_abs, arith, w64, SFits, to_z, of_z}
use Rattle.std.proofs.lemmas.Int.{ints}
use Rattle.ring.proofs.Limits.{back, fits}

pub three_less_fit : (a b c : ℤ) → nat_abs a ≤ 2 ^ 60 → nat_abs b ≤ 2 ^ 60 → nat_abs c ≤ 2 ^ 60 → SFits w64 (to_z w64 (of_z w64 (to_z w64 (of_z w64 a) +ℤ to_z w64 (of_z w64 b))) -ℤ to_z w64 (of_z w64 c))
three_less_fit a b c p q r =
    let e = back a (omega arith) in
    let f = back b (omega arith) in
    let g = back (a +ℤ b) (omega (arith, ints)) in
    let h = back c (omega arith) in
    rw (e, f, g, h) (fits (a +ℤ b -ℤ c) (omega (arith, ints)))
