-- Residues modulo m: with m = g·m' and g the content, the multiples of m have second coordinates divisible by g, and
-- the whole numbers among them are the multiples of the width.
use Rattle.std.proofs.Common.{◌≡◌, ℕ, zero, suc, ◌+◌, ◌*◌, ◌/◌, ◌%◌, ◌<◌, [], ◌∷◌, length, ℤ, pos, negsuc, ◌+ℤ◌, ◌-ℤ◌, ◌*ℤ◌, neg_ℤ, nat_abs, Some, sym, refl, ap, ◌∙◌, subst, ap₂, ⊎_elim, le_refl, mod-lt, mod-eq_of_lt, div-lt_iff_lt-mul, mul-le-mul, div-add-mod', div-le_self, mul-div_cancel, arith}
use native.Mathlib.Nat.{div-eq_of_lt, mod-le}
use lib.Arith.{digits_div, digits_mod, digits_lt}
use Rattle.std.proofs.lemmas.List.FromFn.{length-map-range_with_len}
use Rattle.std.proofs.lemmas.Int.{ints, unsigned_abs-mul}
use Rattle.std.specs.List.{slice_get}
use Rattle.algebra.specs.Ring.{Ops, CommRing}
use Rattle.algebra.specs.Integers.{ℤ_ops}
use Rattle.algebra.specs.Divisors.{Congruent, Divides}
use Rattle.algebra.specs.Euclidean.{Listed}
use Rattle.algebra.specs.Quadratic.{Quad, conjugate, norm_form}
use Rattle.algebra.specs.Statements.{IsGcd}
use Rattle.algebra.proofs.Floor.{Floor, floor}
use Rattle.algebra.proofs.Gcd.{gcd_is}
use Rattle.algebra.proofs.Integers.{ℤ_ring}
use Rattle.algebra.proofs.Once.{map_counting_listed, nth_map_counting}
use Rattle.algebra.proofs.Quadratic.{quad_ring}
use Rattle.algebra.proofs.Quote.{ring, quote, quoteℤ}
use Rattle.algebra.proofs.Whole.{zero_from_unsigned_abs, zero_product}
use Rattle.planes.specs.declared.Plane.{Plane}
use Rattle.planes.specs.Planes.{content, norm, pair, residues, trace, width}
use Rattle.planes.proofs.Division.{arithmetic, times_whole}
use Rattle.planes.proofs.Norms.{mul-conjugate_is_norm, norm-mul}

-- the greatest common divisor of two integers
pub record Gcd (x y : ℤ) (g : ℕ) : Type 0 where
  pub left : Divides ℤ_ops (pos g) x
  pub right : Divides ℤ_ops (pos g) y
  pub combination : (u : ℤ) × (v : ℤ) × (pos g ≡ u *ℤ x +ℤ v *ℤ y)

neg-mul : (q g : ℤ) → neg_ℤ (q *ℤ g) ≡ neg_ℤ q *ℤ g
neg-mul q g = ring ℤ_ring (q ∷ g ∷ []) (λ k. search quoteℤ) (λ k. search quoteℤ) refl

one-mul : (z : ℤ) → z ≡ pos 1 *ℤ z
one-mul z = ring ℤ_ring (z ∷ []) (λ k. search quoteℤ) (λ k. search quoteℤ) refl

minus_mul : (z : ℤ) → neg_ℤ z ≡ negsuc 0 *ℤ z
minus_mul z = ring ℤ_ring (z ∷ []) (λ k. search quoteℤ) (λ k. search quoteℤ) refl

signed_divides : (z : ℤ) (g : ℕ) → Divides ℤ_ops (pos g) (pos (nat_abs z)) → Divides ℤ_ops (pos g) z
signed_divides (pos n) g d = d
signed_divides (negsuc n) g d = (neg_ℤ d.0, ap neg_ℤ d.1 ∙ neg-mul d.0 (pos g))

signed : (z : ℤ) → (s : ℤ) × (pos (nat_abs z) ≡ s *ℤ z)
signed (pos n) = (pos 1, one-mul (pos n))
signed (negsuc n) = (negsuc 0, minus_mul (negsuc n))

regroup : (u s x v r y : ℤ) → u *ℤ (s *ℤ x) +ℤ v *ℤ (r *ℤ y) ≡ (u *ℤ s) *ℤ x +ℤ (v *ℤ r) *ℤ y
regroup u s x v r y = ring ℤ_ring (u ∷ s ∷ x ∷ v ∷ r ∷ y ∷ []) (λ k. search quoteℤ depth 9) (λ k. search quoteℤ depth 9) refl

pub gcd_signed : (x y : ℤ) (g : ℕ) → IsGcd (nat_abs x) (nat_abs y) g → Gcd x y g
gcd_signed x y g i =
    let s = signed x in
    let r = signed y in
    let u = i.combination.0 in
    let v = i.combination.1 in
    record {
      left = signed_divides x g i.divides_left;
      right = signed_divides y g i.divides_right;
      combination = (u *ℤ s.0, v *ℤ r.0, i.combination.2 ∙ ap₂ (λ (a b : ℤ). u *ℤ a +ℤ v *ℤ b) s.1 r.1 ∙ regroup u s.0 x v r.0 y);
    }

-- a multiple of g that is smaller than g is 0
pub small_multiple : (z k : ℤ) (g : ℕ) → z ≡ k *ℤ pos g → nat_abs z < g → z ≡ pos 0
small_multiple z k g e h = zero_from_unsigned_abs z (less (nat_abs z) (nat_abs k) g (ap nat_abs e ∙ unsigned_abs-mul k (pos g)) h)
  where
    less : (a b c : ℕ) → a ≡ b * c → a < c → a ≡ 0
    less a zero c e h = omega (arith, e)
    less a (suc b) c e h = absurd (omega (arith, e, h))

module _ {A : Type 0} {o : Ops A} (R : CommRing o) where
  bring_out : (c m g : A) → o.mul c (o.mul m g) ≡ o.mul (o.mul m c) g
  bring_out c m g = ring R (c ∷ m ∷ g ∷ []) (λ k. search quote depth 9) (λ k. search quote depth 9) refl

  sum_multiple : (h q k r m : A) → o.add (o.mul h (o.mul q m)) (o.mul k (o.mul r m)) ≡ o.mul (o.add (o.mul h q) (o.mul k r)) m
  sum_multiple h q k r m = ring R (h ∷ q ∷ k ∷ r ∷ m ∷ []) (λ k. search quote depth 9) (λ k. search quote depth 9) refl

form_whole : (t n : ℤ) → norm_form ℤ_ops (negsuc 0) t (pair n (pos 0)) ≡ n *ℤ n
form_whole t n = ring ℤ_ring (t ∷ n ∷ []) (λ k. search quoteℤ depth 9) (λ k. search quoteℤ depth 9) refl

-- the multiple of (x, y) by (v − t·u, u) has the second coordinate u·x + v·y
step_im : (t u v x y : ℤ) → u *ℤ x +ℤ v *ℤ y ≡ (v -ℤ t *ℤ u) *ℤ y +ℤ u *ℤ x +ℤ t *ℤ (u *ℤ y)
step_im t u v x y = ring ℤ_ring (t ∷ u ∷ v ∷ x ∷ y ∷ []) (λ k. search quoteℤ depth 9 fits 3000) (λ k. search quoteℤ depth 9 fits 3000) refl

-- h·(c, g) + k·(w, 0), by coordinates
steps_re : (t h c g k w : ℤ) → h *ℤ c +ℤ negsuc 0 *ℤ (pos 0 *ℤ g) +ℤ (k *ℤ w +ℤ negsuc 0 *ℤ (pos 0 *ℤ pos 0)) ≡ h *ℤ c +ℤ k *ℤ w
steps_re t h c g k w = ring ℤ_ring (t ∷ h ∷ c ∷ g ∷ k ∷ w ∷ []) (λ k. search quoteℤ depth 9 fits 3000) (λ k. search quoteℤ depth 9 fits 3000) refl

steps_im : (t h c g k w : ℤ) → h *ℤ g +ℤ pos 0 *ℤ c +ℤ t *ℤ (pos 0 *ℤ g) +ℤ (k *ℤ pos 0 +ℤ pos 0 *ℤ w +ℤ t *ℤ (pos 0 *ℤ pos 0)) ≡ h *ℤ g
steps_im t h c g k w = ring ℤ_ring (t ∷ h ∷ c ∷ g ∷ k ∷ w ∷ []) (λ k. search quoteℤ depth 9 fits 3000) (λ k. search quoteℤ depth 9 fits 3000) refl

off_re : (a h c k w u : ℤ) → a -ℤ h *ℤ c ≡ k *ℤ w +ℤ u → a -ℤ u ≡ h *ℤ c +ℤ k *ℤ w
off_re a h c k w u e = omega (arith, ints, e)

off_im : (a h g v : ℤ) → a ≡ h *ℤ g +ℤ v → a -ℤ v ≡ h *ℤ g
off_im a h g v e = omega (arith, ints, e)

-- the second coordinate of a multiple of g·(x, y)
multiple_im : (t a b x y g : ℤ) → a *ℤ (y *ℤ g) +ℤ b *ℤ (x *ℤ g) +ℤ t *ℤ (b *ℤ (y *ℤ g)) ≡ (a *ℤ y +ℤ b *ℤ x +ℤ t *ℤ (b *ℤ y)) *ℤ g
multiple_im t a b x y g = ring ℤ_ring (t ∷ a ∷ b ∷ x ∷ y ∷ g ∷ []) (λ k. search quoteℤ depth 9 fits 3000) (λ k. search quoteℤ depth 9 fits 3000) refl

-- e·m̄ = q·n by coordinates, where e is whole; so e·(u·x + v·y) is a multiple of n
whole_multiple : (t e x y a b n u v : ℤ) → e *ℤ (x +ℤ t *ℤ y) ≡ a *ℤ n → e *ℤ neg_ℤ y ≡ b *ℤ n → e *ℤ (u *ℤ x +ℤ v *ℤ y) ≡ (u *ℤ (a +ℤ t *ℤ b) -ℤ v *ℤ b) *ℤ n
whole_multiple t e x y a b n u v h k =
    apart ∙ ap₂ (λ (r s : ℤ). u *ℤ (r +ℤ t *ℤ s) -ℤ v *ℤ s) h k ∙ together
  where
    apart : e *ℤ (u *ℤ x +ℤ v *ℤ y) ≡ u *ℤ (e *ℤ (x +ℤ t *ℤ y) +ℤ t *ℤ (e *ℤ neg_ℤ y)) -ℤ v *ℤ (e *ℤ neg_ℤ y)
    apart = ring ℤ_ring (t ∷ e ∷ x ∷ y ∷ u ∷ v ∷ []) (λ k. search quoteℤ depth 12 fits 3000) (λ k. search quoteℤ depth 12 fits 3000) refl

    together : u *ℤ (a *ℤ n +ℤ t *ℤ (b *ℤ n)) -ℤ v *ℤ (b *ℤ n) ≡ (u *ℤ (a +ℤ t *ℤ b) -ℤ v *ℤ b) *ℤ n
    together = ring ℤ_ring (t ∷ a ∷ b ∷ n ∷ u ∷ v ∷ []) (λ k. search quoteℤ depth 12 fits 3000) (λ k. search quoteℤ depth 12 fits 3000) refl

-- (e, 0)·(r, s)
whole_re : (e r s : ℤ) → e *ℤ r +ℤ negsuc 0 *ℤ (pos 0 *ℤ s) ≡ e *ℤ r
whole_re e r s = ring ℤ_ring (e ∷ r ∷ s ∷ []) (λ k. search quoteℤ depth 9) (λ k. search quoteℤ depth 9) refl

whole_im : (t e r s : ℤ) → e *ℤ s +ℤ pos 0 *ℤ r +ℤ t *ℤ (pos 0 *ℤ s) ≡ e *ℤ s
whole_im t e r s = ring ℤ_ring (t ∷ e ∷ r ∷ s ∷ []) (λ k. search quoteℤ depth 9) (λ k. search quoteℤ depth 9) refl

difference_small : (a b n : ℕ) → a < n → b < n → nat_abs (pos a -ℤ pos b) < n
difference_small a b n h k = omega (arith, ints)

difference_none : (a b : ℕ) → pos a -ℤ pos b ≡ pos 0 → a ≡ b
difference_none a b h = omega (arith, ints, h)

module _ (p : Plane) (m : Quad ℤ) (nonzero : 0 < norm p m) where
  abbrev g : ℕ
  g = content m

  abbrev R : CommRing (arithmetic p)
  R = quad_ring ℤ_ring (negsuc 0) (trace p)

  pub content_is : Gcd m.re m.im g
  content_is = gcd_signed m.re m.im g (gcd_is (nat_abs m.re) (nat_abs m.im))

  -- m without its content
  abbrev core : Quad ℤ
  core = pair content_is.left.0 content_is.right.0

  core_times : m ≡ (arithmetic p).mul core (pair (pos g) (pos 0))
  core_times =
      (λ i. pair (content_is.left.1 i) (content_is.right.1 i)) ∙ sym (times_whole (trace p) content_is.left.0 content_is.right.0 (pos g))

  norm_core : norm p m ≡ norm p core * g * g
  norm_core =
      let whole : norm p (pair (pos g) (pos 0)) ≡ g * g = ap nat_abs (form_whole (trace p) (pos g)) in
      ap (norm p) core_times ∙ norm-mul p core (pair (pos g) (pos 0)) ∙ ap (λ (n : ℕ). norm p core * n) whole ∙ omega arith

  pub content_positive : 0 < g
  content_positive = go g norm_core
    where
      go : (n : ℕ) → norm p m ≡ norm p core * n * n → 0 < n
      go zero e = absurd (omega (arith, e, nonzero))
      go (suc n) e = omega arith

  width_core : width p m ≡ norm p core * g
  width_core = ap (λ (n : ℕ). n / g) norm_core ∙ mul-div_cancel (norm p core * g) content_positive

  pub norm_width : norm p m ≡ g * width p m
  norm_width = let e = ap (λ (n : ℕ). g * n) width_core in omega (arith, norm_core, e)

  pub width_positive : 0 < width p m
  width_positive = go (width p m) norm_width
    where
      go : (n : ℕ) → norm p m ≡ g * n → 0 < n
      go zero e = absurd (omega (arith, e, nonzero))
      go (suc n) e = omega arith

  -- the width is a multiple of m
  pub width_multiple : Divides (arithmetic p) m (pair (pos (width p m)) (pos 0))
  width_multiple =
      let c = conjugate ℤ_ops (negsuc 0) (trace p) core in
      (c, sym (ap ((arithmetic p).mul c) core_times ∙ bring_out R c core (pair (pos g) (pos 0)) ∙ ap (λ (n : Quad ℤ). (arithmetic p).mul n (pair (pos g) (pos 0))) (mul-conjugate_is_norm p core) ∙ times_whole (trace p) (pos (norm p core)) (pos 0) (pos g) ∙ (λ i. pair (pos (sym width_core i)) (pos (nought i)))))
    where
      nought : 0 * g ≡ 0
      nought = omega arith

  -- some multiple of m has the content as its second coordinate
  pub step_exists : (c : ℤ) × Divides (arithmetic p) m (pair c (pos g))
  step_exists =
      let u = content_is.combination.0 in
      let v = content_is.combination.1 in
      let q = pair (v -ℤ trace p *ℤ u) u in
      (((arithmetic p).mul q m).re, (q, (λ i. pair ((arithmetic p).mul q m).re ((content_is.combination.2 ∙ step_im (trace p) u v m.re m.im) i))))

  -- to take away h steps and k widths leaves a residue
  module _ (c : ℤ) (step : Divides (arithmetic p) m (pair c (pos g))) (a : Quad ℤ) (h k : ℤ) (u v : ℕ) (second : Floor a.im g h v) (first : Floor (a.re -ℤ h *ℤ c) (width p m) k u) where
    pub residue_congruent : Congruent (arithmetic p) m a (pair (pos u) (pos v))
    residue_congruent =
        let w = width_multiple in
        let whole = pair h (pos 0) in
        let rest = pair k (pos 0) in (
          (arithmetic p).add ((arithmetic p).mul whole step.0) ((arithmetic p).mul rest w.0),
          (λ i. pair ((off_re a.re h c k (pos (width p m)) (pos u) first.sum ∙ sym (steps_re (trace p) h c (pos g) k (pos (width p m)))) i) ((off_im a.im h (pos g) (pos v) second.sum ∙ sym (steps_im (trace p) h c (pos g) k (pos (width p m)))) i))
              ∙ ap₂ (λ (s t : Quad ℤ). (arithmetic p).add ((arithmetic p).mul whole s) ((arithmetic p).mul rest t)) step.1 w.1
              ∙ sum_multiple R whole step.0 rest w.0 m,
        )

    pub residue_nth : slice_get (residues p m) (v * width p m + u) ≡ Some (pair (pos u) (pos v))
    residue_nth =
        let low : v * width p m + u < norm p m = subst (λ (n : ℕ). v * width p m + u < n) (sym norm_width) (digits_lt second.below first.below) in
        nth_map_counting (λ i. pair (pos (i % width p m)) (pos (i / width p m))) (norm p m) (v * width p m + u) low
        ∙ ap₂ (λ (s t : ℕ). Some (pair (pos s) (pos t))) (digits_mod v first.below) (digits_div v first.below)

  pub residue_exists : (a : Quad ℤ) → (r : Quad ℤ) × Listed (residues p m) r × Congruent (arithmetic p) m a r
  residue_exists a =
      let s = step_exists in
      let y = floor a.im g content_positive in
      let x = floor (a.re -ℤ y.0 *ℤ s.0) (width p m) width_positive in
      (pair (pos x.1) (pos y.1), (y.1 * width p m + x.1, residue_nth s.0 s.1 a y.0 x.0 x.1 y.1 y.2 x.2), residue_congruent s.0 s.1 a y.0 x.0 x.1 y.1 y.2 x.2)

  -- the second coordinate of a multiple of m is a multiple of the content
  multiple_second : (q : Quad ℤ) → (k : ℤ) × (((arithmetic p).mul q m).im ≡ k *ℤ pos g)
  multiple_second q = (
    q.re *ℤ core.im +ℤ q.im *ℤ core.re +ℤ trace p *ℤ (q.im *ℤ core.im),
    ap₂ (λ (x y : ℤ). q.re *ℤ y +ℤ q.im *ℤ x +ℤ trace p *ℤ (q.im *ℤ y)) content_is.left.1 content_is.right.1 ∙ multiple_im (trace p) q.re q.im core.re core.im (pos g),
  )

  -- a whole multiple of m, times the content, is a multiple of the norm
  whole_first : (e : ℤ) (q : Quad ℤ) → pair e (pos 0) ≡ (arithmetic p).mul q m → (k : ℤ) × (e *ℤ pos g ≡ k *ℤ pos (norm p m))
  whole_first e q h =
      let c = conjugate ℤ_ops (negsuc 0) (trace p) m in
      let both : (arithmetic p).mul (pair e (pos 0)) c ≡ pair (q.re *ℤ pos (norm p m)) (q.im *ℤ pos (norm p m)) =
      ap (λ (z : Quad ℤ). (arithmetic p).mul z c) h ∙ R.mul_assoc q m c ∙ ap ((arithmetic p).mul q) (mul-conjugate_is_norm p m) ∙ times_whole (trace p) q.re q.im (pos (norm p m)) in
      let u = content_is.combination.0 in
      let v = content_is.combination.1 in (
        u *ℤ (q.re +ℤ trace p *ℤ q.im) -ℤ v *ℤ q.im,
        ap (λ (z : ℤ). e *ℤ z) content_is.combination.2 ∙ whole_multiple (trace p) e m.re m.im q.re q.im (pos (norm p m)) u v (sym (whole_re e c.re c.im) ∙ ap (λ (z : Quad ℤ). z.re) both) (sym (whole_im (trace p) e c.re c.im) ∙ ap (λ (z : Quad ℤ). z.im) both),
      )

  same_pair : (u v s t : ℕ) → u < width p m → s < width p m → v < g → t < g → Congruent (arithmetic p) m (pair (pos u) (pos v)) (pair (pos s) (pos t)) → (u ≡ s) × (v ≡ t)
  same_pair u v s t hu hs hv ht d =
      let l = multiple_second d.0 in
      let im : pos v -ℤ pos t ≡ pos 0 = small_multiple (pos v -ℤ pos t) l.0 g (ap (λ (z : Quad ℤ). z.im) d.1 ∙ l.1) (difference_small v t g hv ht) in
      let whole : pair (pos u -ℤ pos s) (pos 0) ≡ (arithmetic p).mul d.0 m = (λ i. pair (pos u -ℤ pos s) (sym im i)) ∙ d.1 in
      let k = whole_first (pos u -ℤ pos s) d.0 whole in
      let few : nat_abs ((pos u -ℤ pos s) *ℤ pos g) < norm p m = rw (unsigned_abs-mul (pos u -ℤ pos s) (pos g), norm_width) (below (nat_abs (pos u -ℤ pos s)) (width p m) g (difference_small u s (width p m) hu hs) content_positive) in
      let none = small_multiple ((pos u -ℤ pos s) *ℤ pos g) k.0 (norm p m) k.1 few in
      (difference_none u s (no_factor (pos u -ℤ pos s) g content_positive none), difference_none v t im)
    where
      below : (a b n : ℕ) → a < b → 0 < n → a * n < n * b
      below a b zero h k = absurd (omega (arith, k))
      below a b (suc n) h k = let l = mul-le-mul h (le_refl (suc n)) in omega (arith, l)

      no_factor : (x : ℤ) (n : ℕ) → 0 < n → x *ℤ pos n ≡ pos 0 → x ≡ pos 0
      no_factor x n h e = zero_from_unsigned_abs x (⊎_elim (λ z. z) (λ z. absurd (omega (arith, z, h))) (zero_product (nat_abs x) n (sym (unsigned_abs-mul x (pos n)) ∙ ap nat_abs e)))

  pub residue_unique : (i j : ℕ) (r s : Quad ℤ) → slice_get (residues p m) i ≡ Some r → slice_get (residues p m) j ≡ Some s → Congruent (arithmetic p) m r s → i ≡ j
  residue_unique i j r s h k d =
      let f : ℕ → Quad ℤ = λ n. pair (pos (n % width p m)) (pos (n / width p m)) in
      let a = map_counting_listed f (norm p m) i r h in
      let b = map_counting_listed f (norm p m) j s k in
      let e = same_pair (i % width p m) (i / width p m) (j % width p m) (j / width p m) (mod-lt i width_positive) (mod-lt j width_positive) (row i a.0) (row j b.0) (subst (λ (z : Quad ℤ). Congruent (arithmetic p) m (f i) z) b.1 (subst (λ (z : Quad ℤ). Congruent (arithmetic p) m z s) a.1 d)) in
      let t = ap (λ (n : ℕ). n * width p m) e.1 in
      omega (arith, div-add-mod' i (width p m), div-add-mod' j (width p m), e.0, t)
    where
      row : (n : ℕ) → n < norm p m → n / width p m < g
      row n l = (div-lt_iff_lt-mul width_positive).1 (rw norm_width at l)

  pub residues_count : length (residues p m) ≡ norm p m
  residues_count = length-map-range_with_len (λ i. pair (pos (i % width p m)) (pos (i / width p m))) 0 (norm p m)

  pub residues_first : slice_get (residues p m) 0 ≡ Some (pair (pos 0) (pos 0))
  residues_first =
      nth_map_counting (λ i. pair (pos (i % width p m)) (pos (i / width p m))) (norm p m) 0 nonzero
      ∙ ap₂ (λ (s t : ℕ). Some (pair (pos s) (pos t))) (mod-eq_of_lt width_positive) (div-eq_of_lt width_positive)

  -- a residue's coordinates are natural numbers below the norm
  pub residues_below : (r : Quad ℤ) → Listed (residues p m) r → (nat_abs r.re < norm p m) × (nat_abs r.im < norm p m)
  residues_below r l =
      let a = map_counting_listed (λ i. pair (pos (i % width p m)) (pos (i / width p m))) (norm p m) l.0 r l.1 in
      let x = ap (λ (z : Quad ℤ). nat_abs z.re) a.1 in
      let y = ap (λ (z : Quad ℤ). nat_abs z.im) a.1 in
      let s = mod-le l.0 (width p m) in
      let t = div-le_self l.0 (width p m) in
      (omega (arith, x, s, a.0), omega (arith, y, t, a.0))
