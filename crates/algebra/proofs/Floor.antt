-- Division of an integer by a natural number, rounded down.
use Rattle.std.proofs.Common.{◌≡◌, ℕ, ◌<◌, ℤ, pos, ◌+ℤ◌, ◌*ℤ◌, nat_abs, ap, ◌∙◌}
use Rattle.std.specs.Int.{int_div_euclid, int_rem_euclid}
use Rattle.algebra.proofs.Euclid.{divided, remainder_natural, remainder_small}

-- z = q·n + r, and r is below n
pub record Floor (z : ℤ) (n : ℕ) (q : ℤ) (r : ℕ) : Type 0 where
  pub below : r < n
  pub sum : z ≡ q *ℤ pos n +ℤ pos r

pub floor_euclid : (z : ℤ) (n : ℕ) → 0 < n → Floor z n (int_div_euclid z (pos n)) (nat_abs (int_rem_euclid z (pos n)))
floor_euclid z n h = record {
  below = remainder_small z (pos n) h;
  sum = divided z (pos n) h ∙ ap (λ (r : ℤ). int_div_euclid z (pos n) *ℤ pos n +ℤ r) (remainder_natural z (pos n));
}

pub floor : (z : ℤ) (n : ℕ) → 0 < n → (q : ℤ) × (r : ℕ) × Floor z n q r
floor z n h = (int_div_euclid z (pos n), nat_abs (int_rem_euclid z (pos n)), floor_euclid z n h)
