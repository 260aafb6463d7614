-- Coordinates within their limits, and what fits 64 bits.
use Rattle.std.proofs.Common.{◌≡◌, ℕ, ◌*◌, ◌^◌, ◌≤◌, ℤ, pos, ◌+ℤ◌, ◌*ℤ◌, nat_abs, sym, ap, subst, ap₂, mul-le-mul, arith, w64, SFits, to_z, of_z, lit≤}
use Rattle.std.proofs.lemmas.Int.{ints, to_z-of_z, unsigned_abs-mul}
use Rattle.algebra.proofs.Whole.{unsigned_abs-add}
use Rattle.ring.specs.declared.elements.Element.{Element}
use Rattle.ring.specs.declared.elements.Coordinates.{Coordinates}
use Rattle.ring.specs.declared.elements.Coordinates.TheVariants.{One, Two}
use Rattle.ring.specs.Elements.{element, ops, value}

pub fits : (z : ℤ) → nat_abs z ≤ 2 ^ 62 → SFits w64 z
fits z h = omega (arith, ints)

pub back : (z : ℤ) → nat_abs z ≤ 2 ^ 62 → to_z w64 (of_z w64 z) ≡ z
back z h = to_z-of_z w64 z (fits z h)

-- sums of two and of three numbers as the code computes them
pub two_fit : (a c : ℤ) → nat_abs a ≤ 2 ^ 60 → nat_abs c ≤ 3 * 2 ^ 60 → SFits w64 (to_z w64 (of_z w64 a) +ℤ c)
two_fit a c p r =
    let e = back a (omega arith) in
    rw e (fits (a +ℤ c) (omega (arith, unsigned_abs-add a c)))

pub three_fit : (a b c : ℤ) → nat_abs a ≤ 2 ^ 60 → nat_abs b ≤ 2 ^ 60 → nat_abs c ≤ 2 ^ 60 → SFits w64 (to_z w64 (of_z w64 (to_z w64 (of_z w64 a) +ℤ to_z w64 (of_z w64 b))) +ℤ c)
three_fit a b c p q r =
    let e = back a (omega arith) in
    let f = back b (omega arith) in
    let h = unsigned_abs-add a b in
    let g = back (a +ℤ b) (omega (arith, h)) in
    rw (e, f, g) (fits (a +ℤ b +ℤ c) (omega (arith, h, unsigned_abs-add (a +ℤ b) c)))

-- a product as the code computes it, through the bits
module _ (a b : ℤ) (m n : ℕ) (p : nat_abs a ≤ m) (q : nat_abs b ≤ n) (small : m ≤ 2 ^ 62) (also : n ≤ 2 ^ 62) (few : m * n ≤ 2 ^ 62) where
  pub product_bound : nat_abs (a *ℤ b) ≤ m * n
  product_bound = rw unsigned_abs-mul (mul-le-mul p q)

  pub product_fits : SFits w64 (to_z w64 (of_z w64 a) *ℤ to_z w64 (of_z w64 b))
  product_fits =
      let e = back a (omega arith) in
      let f = back b (omega arith) in
      rw (e, f) (fits (a *ℤ b) (omega (arith, product_bound)))

  pub product_is : to_z w64 (of_z w64 (to_z w64 (of_z w64 a) *ℤ to_z w64 (of_z w64 b))) ≡ a *ℤ b
  product_is =
      let e = back a (omega arith) in
      let f = back b (omega arith) in
      rw (e, f) (back (a *ℤ b) (omega (arith, product_bound)))

-- the product of two coordinates within the limits of a ring's calls
module _ (a b : ℤ) (p : nat_abs a ≤ 2 ^ 30) (q : nat_abs b ≤ 2 ^ 30) where
  pub coordinates_fit : SFits w64 (to_z w64 (of_z w64 a) *ℤ to_z w64 (of_z w64 b))
  coordinates_fit = product_fits a b (2 ^ 30) (2 ^ 30) p q (lit≤ tt) (lit≤ tt) (lit≤ tt)

  pub coordinates_product : to_z w64 (of_z w64 (to_z w64 (of_z w64 a) *ℤ to_z w64 (of_z w64 b))) ≡ a *ℤ b
  coordinates_product = product_is a b (2 ^ 30) (2 ^ 30) p q (lit≤ tt) (lit≤ tt) (lit≤ tt)

  pub coordinates_bound : nat_abs (to_z w64 (of_z w64 (to_z w64 (of_z w64 a) *ℤ to_z w64 (of_z w64 b)))) ≤ 2 ^ 60
  coordinates_bound = rw coordinates_product (product_bound a b (2 ^ 30) (2 ^ 30) p q (lit≤ tt) (lit≤ tt) (lit≤ tt))

-- the operations at coordinates that are known
module _ (k : Coordinates) (a b : Element) where
  pub sum_one : k ≡ One → (x : ℤ) → x ≡ a.x +ℤ b.x → record { x = x; y = pos 0 } ≡ element k ((ops k).add (value k a) (value k b))
  sum_one e x h = subst (λ (j : Coordinates). record { x = x; y = pos 0 } ≡ element j ((ops j).add (value j a) (value j b))) (sym e) (ap (λ (z : ℤ). record { x = z; y = pos 0 }) h)

  pub sum_two : (s t : ℤ) → k ≡ Two s t → (x y : ℤ) → x ≡ a.x +ℤ b.x → y ≡ a.y +ℤ b.y → record { x = x; y = y } ≡ element k ((ops k).add (value k a) (value k b))
  sum_two s t e x y h i = subst (λ (j : Coordinates). record { x = x; y = y } ≡ element j ((ops j).add (value j a) (value j b))) (sym e) (ap₂ (λ (z w : ℤ). record { x = z; y = w }) h i)

  pub product_one : k ≡ One → (x : ℤ) → x ≡ a.x *ℤ b.x → record { x = x; y = pos 0 } ≡ element k ((ops k).mul (value k a) (value k b))
  product_one e x h = subst (λ (j : Coordinates). record { x = x; y = pos 0 } ≡ element j ((ops j).mul (value j a) (value j b))) (sym e) (ap (λ (z : ℤ). record { x = z; y = pos 0 }) h)

  pub product_at : (j : Coordinates) → k ≡ j → (r : Element) → r ≡ element j ((ops j).mul (value j a) (value j b)) → r ≡ element k ((ops k).mul (value k a) (value k b))
  product_at j e r h = subst (λ (i : Coordinates). r ≡ element i ((ops i).mul (value i a) (value i b))) (sym e) h
