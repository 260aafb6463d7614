-- Division in a plane: to round a times the conjugate of b over the norm of b leaves a small remainder.
use Rattle.std.proofs.Common.{◌≡◌, ℕ, ◌+◌, ◌*◌, ◌<◌, ◌≤◌, [], ◌∷◌, ℤ, pos, negsuc, ◌+ℤ◌, ◌-ℤ◌, ◌*ℤ◌, nat_abs, sym, refl, ap, ◌∙◌, subst, ⊎_elim, mul-le-mul, pos_of_ne-zero, le_of_mul-le-mul_right, arith}
use Rattle.std.proofs.lemmas.Int.{ints, unsigned_abs-mul}
use Rattle.std.proofs.lemmas.Bool.{cases_lt}
use Rattle.algebra.specs.Ring.{Ops, CommRing}
use Rattle.algebra.specs.Integers.{ℤ_ops}
use Rattle.algebra.specs.Divisors.{sub}
use Rattle.algebra.specs.Euclidean.{Divided}
use Rattle.algebra.specs.Quadratic.{Quad, quad_ops, conjugate, norm_form}
use Rattle.algebra.proofs.Floor.{Floor, floor}
use Rattle.algebra.proofs.Integers.{ℤ_ring}
use Rattle.algebra.proofs.Quadratic.{quad_ring}
use Rattle.algebra.proofs.Quote.{ring, quote, quoteℤ}
use Rattle.algebra.proofs.Whole.{unsigned_abs-add}
use Rattle.planes.specs.declared.Plane.{Plane}
use Rattle.planes.specs.declared.Plane.TheVariants.{Square, Hexagonal}
use Rattle.planes.specs.Planes.{Nearest, left_over, norm, over, pair, plane, trace}
use Rattle.planes.proofs.Norms.{mul-conjugate_is_norm, norm-conjugate, norm-mul, zero_from_norm}

abbrev pub arithmetic : Plane → Ops (Quad ℤ)
arithmetic p = quad_ops ℤ_ops (negsuc 0) (trace p)

form_apart : (t e f : ℤ) → norm_form ℤ_ops (negsuc 0) t (pair e f) ≡ e *ℤ e +ℤ f *ℤ f +ℤ t *ℤ (e *ℤ f)
form_apart t e f = ring ℤ_ring (t ∷ e ∷ f ∷ []) (λ k. search quoteℤ depth 9) (λ k. search quoteℤ depth 9) refl

trace_small : (p : Plane) (n : ℕ) → nat_abs (trace p) * n ≤ n
trace_small Square n = omega arith
trace_small Hexagonal n = omega arith

-- the norm is at most E² + F² + EF
norm_at_most : (p : Plane) (e f : ℤ) → norm p (pair e f) ≤ nat_abs e * nat_abs e + nat_abs f * nat_abs f + nat_abs e * nat_abs f
norm_at_most p e f =
    let same = ap nat_abs (form_apart (trace p) e f) in
    let both = unsigned_abs-add (e *ℤ e +ℤ f *ℤ f) (trace p *ℤ (e *ℤ f)) in
    let squares = unsigned_abs-add (e *ℤ e) (f *ℤ f) in
    let small = trace_small p (nat_abs e * nat_abs f) in
    let ee = unsigned_abs-mul e e in
    let ff = unsigned_abs-mul f f in
    let ef = unsigned_abs-mul e f in
    let tef = unsigned_abs-mul (trace p) (e *ℤ f) ∙ ap (λ (n : ℕ). nat_abs (trace p) * n) ef in
    omega (arith, same, both, squares, small, ee, ff, tef)

three_quarters : (e f n : ℕ) → 2 * e ≤ n → 2 * f ≤ n → 4 * (e * e + f * f + e * f) ≤ 3 * (n * n)
three_quarters e f n h k =
    let a : 2 * e * (2 * e) ≤ n * n = mul-le-mul h h in
    let b : 2 * f * (2 * f) ≤ n * n = mul-le-mul k k in
    let c : 2 * e * (2 * f) ≤ n * n = mul-le-mul h k in
    omega arith

pub times_whole : (t x y n : ℤ) → (quad_ops ℤ_ops (negsuc 0) t).mul (pair x y) (pair n (pos 0)) ≡ pair (x *ℤ n) (y *ℤ n)
times_whole t x y n = λ i. pair (re i) (im i)
  where
    re : x *ℤ n +ℤ negsuc 0 *ℤ (y *ℤ pos 0) ≡ x *ℤ n
    re = ring ℤ_ring (x ∷ y ∷ n ∷ []) (λ k. search quoteℤ depth 9) (λ k. search quoteℤ depth 9) refl

    im : x *ℤ pos 0 +ℤ y *ℤ n +ℤ t *ℤ (y *ℤ pos 0) ≡ y *ℤ n
    im = ring ℤ_ring (t ∷ x ∷ y ∷ n ∷ []) (λ k. search quoteℤ depth 9) (λ k. search quoteℤ depth 9) refl

moved : {A : Type 0} {o : Ops A} (R : CommRing o) (u v w s : A) → o.mul (sub o u (o.mul v w)) s ≡ sub o (o.mul u s) (o.mul v (o.mul w s))
moved R u v w s = ring R (u ∷ v ∷ w ∷ s ∷ []) (λ k. search quote depth 9) (λ k. search quote depth 9) refl

added_back : {A : Type 0} {o : Ops A} (R : CommRing o) (u v : A) → u ≡ o.add v (sub o u v)
added_back R u v = ring R (u ∷ v ∷ []) (λ k. search quote depth 9) (λ k. search quote depth 9) refl

module _ (p : Plane) (a b q : Quad ℤ) where
  abbrev left : ℤ
  left = (over p a b).re -ℤ q.re *ℤ pos (norm p b)

  abbrev right : ℤ
  right = (over p a b).im -ℤ q.im *ℤ pos (norm p b)

  rest_over : over p (left_over p a b q) b ≡ pair left right
  rest_over =
      moved (quad_ring ℤ_ring (negsuc 0) (trace p)) a q b (conjugate ℤ_ops (negsuc 0) (trace p) b)
      ∙ ap (λ (s : Quad ℤ). sub (arithmetic p) (over p a b) ((arithmetic p).mul q s)) (mul-conjugate_is_norm p b)
      ∙ ap (λ (s : Quad ℤ). sub (arithmetic p) (over p a b) s) (times_whole (trace p) q.re q.im (pos (norm p b)))

  rest_norm : norm p (left_over p a b q) * norm p b ≡ norm p (pair left right)
  rest_norm = ap (λ (n : ℕ). norm p (left_over p a b q) * n) (sym (norm-conjugate p b)) ∙ sym (norm-mul p (left_over p a b q) (conjugate ℤ_ops (negsuc 0) (trace p) b)) ∙ ap (norm p) rest_over

  -- by rounding both coordinates
  module _ (nonzero : 0 < norm p b) (re : Nearest (over p a b).re (norm p b) q.re) (im : Nearest (over p a b).im (norm p b) q.im) where
    pub remainder_small : 4 * norm p (left_over p a b q) ≤ 3 * norm p b
    remainder_small =
        let low = norm_at_most p left right in
        let most = three_quarters (nat_abs left) (nat_abs right) (norm p b) re.near im.near in
        let all : 4 * norm p (left_over p a b q) * norm p b ≤ 3 * norm p b * norm p b = omega (arith, rest_norm, low, most) in
        le_of_mul-le-mul_right all nonzero

    pub divided : Divided (arithmetic p) (plane p).euclidean a b q (left_over p a b q)
    divided = record { sum = added_back (quad_ring ℤ_ring (negsuc 0) (trace p)) a ((arithmetic p).mul q b); smaller = omega (arith, remainder_small, nonzero) }

-- the nearest multiple is the one below or the one above
off_below : (z q n r : ℤ) → z ≡ q *ℤ n +ℤ r → z -ℤ q *ℤ n ≡ r
off_below z q n r h = ap (λ (v : ℤ). v -ℤ q *ℤ n) h ∙ ring ℤ_ring (q ∷ n ∷ r ∷ []) (λ k. search quoteℤ depth 9) (λ k. search quoteℤ depth 9) refl

off_above : (z q n r : ℤ) → z ≡ q *ℤ n +ℤ r → z -ℤ (q +ℤ pos 1) *ℤ n ≡ r -ℤ n
off_above z q n r h = ap (λ (v : ℤ). v -ℤ (q +ℤ pos 1) *ℤ n) h ∙ ring ℤ_ring (q ∷ n ∷ r ∷ []) (λ k. search quoteℤ depth 9) (λ k. search quoteℤ depth 9) refl

module _ (z : ℤ) (n : ℕ) (q : ℤ) (r : ℕ) (f : Floor z n q r) where
  pub nearest_below : 2 * r ≤ n → Nearest z n q
  nearest_below h = record { near = subst (λ (v : ℤ). 2 * nat_abs v ≤ n) (sym (off_below z q (pos n) (pos r) f.sum)) h }

  pub nearest_above : n ≤ 2 * r → Nearest z n (q +ℤ pos 1)
  nearest_above h =
      let b = f.below in
      let small : 2 * nat_abs (pos r -ℤ pos n) ≤ n = omega (arith, ints) in
      record { near = subst (λ (v : ℤ). 2 * nat_abs v ≤ n) (sym (off_above z q (pos n) (pos r) f.sum)) small }

pub nearest_exists : (z : ℤ) (n : ℕ) → 0 < n → (q : ℤ) × Nearest z n q
nearest_exists z n h =
    let f = floor z n h in
    ⊎_elim (λ l. (f.0, nearest_below z n f.0 f.1 f.2 (omega (arith, l)))) (λ g. (f.0 +ℤ pos 1, nearest_above z n f.0 f.1 f.2 g)) (cases_lt (2 * f.1) n)

pub division : (p : Plane) (a b : Quad ℤ) → (b ≡ (arithmetic p).zero → ⊥) → (q : Quad ℤ) × (r : Quad ℤ) × Divided (arithmetic p) (plane p).euclidean a b q r
division p a b apart =
    let some : 0 < norm p b = pos_of_ne-zero (λ e. apart (zero_from_norm p b e)) in
    let x = nearest_exists (over p a b).re (norm p b) some in
    let y = nearest_exists (over p a b).im (norm p b) some in
    (pair x.0 y.0, left_over p a b (pair x.0 y.0), divided p a b (pair x.0 y.0) some x.1 y.1)
