-- What is written is read.
use Rattle.std.proofs.Common.{◌≡◌, ℕ, zero, suc, ◌+◌, ◌*◌, ◌^◌, ◌<◌, ◌≤◌, true, false, eqb, ◌⊎◌, List, [], ◌∷◌, ◌++◌, length, get_or, ℤ, pos, negsuc, Some, None, Ok, codes, decimal, Result, refl, ap, ◌∙◌, inl, inr, ⊎_elim, mul-le-mul, arith, lit<, lit≤, length-append, rules}
use lib.Signed.{mag}
use Rattle.std.specs.Int.{IsInRange}
use Rattle.std.specs.Fmt.{signed_decimal}
use Rattle.std.specs.List.{AllByRecursion}
use Rattle.std.specs.Str.Parse.{digits_value as value}
use Rattle.std.proofs.lemmas.Fmt.{decimal_digit, decimal_nonempty, digits_decimal, first_decimal, length-decimal-le, length_signed_le, digits_value-decimal}
use Rattle.std.proofs.ByRecursion.{All-append, All-from_get_or, All-weaker}
use Rattle.std.proofs.lemmas.Str.Parse.{digit_at}
use Rattle.std.proofs.lemmas.Bool.{and_from, cond-true, cond-false, eq-eqb, le-leb, ne_eqb, not_from_false}
use Rattle.refusal.specs.declared.Cause.{Cause}
use Rattle.ring.specs.declared.elements.Element.{Element}
use Rattle.ring.specs.declared.elements.Coordinates.{Coordinates}
use Rattle.ring.specs.declared.elements.Coordinates.TheVariants.{One, Two}
use Rattle.text.specs.declared.request.RingName.{RingName}
use Rattle.text.specs.declared.request.RingName.TheVariants.{Integers, Gaussian, Eisenstein}
use Rattle.text.specs.declared.request.Rank.{Rank as Order}
use Rattle.text.specs.declared.request.Rank.TheVariants.{One as RankOne, Two as RankTwo, Three as RankThree}
use Rattle.text.specs.declared.request.Matrix.{Matrix as Square}
use Rattle.text.specs.declared.request.Matrix.TheVariants.{One as MatrixOne, Two as MatrixTwo, Three as MatrixThree}
use Rattle.text.specs.declared.request.Request.{Request}
use Rattle.text.specs.declared.state.State.{State}
use Rattle.text.specs.declared.state.State.TheVariants.{Ring, Rank, Matrix, Done}
use Rattle.text.specs.Lines.{entered, line_answer, read_answer, reading}
use Rattle.text.specs.Parts.{front, back}
use Rattle.text.specs.Requests.{coordinates_of, elements, entries_of, matrix_answer, matrix_of, number_of, rank_answer, rank_of, ranked, ring_answer, size}
use Rattle.text.specs.Values.{begun, coordinate_answer, element_answer, natural, negated, next, number_answer}
use Rattle.text.specs.Written.{Short, WellFormed, Writable, element_written, elements_written, line_written, ring_written, written}
use Rattle.text.proofs.Numerals.{own}

-- m is none of the bytes
abbrev Lacks : ℕ → List ℕ → Type 0
Lacks m bs = AllByRecursion (λ b. eqb m b ≡ false) bs

-- bytes from lo to hi lack a mark that is not between them
lacks : (m lo hi : ℕ) (bs : List ℕ) → (m < lo) ⊎ (hi < m) → AllByRecursion (IsInRange lo hi) bs → Lacks m bs
lacks m lo hi bs out h = All-weaker (IsInRange lo hi) (λ b. eqb m b ≡ false) (λ b i. ne_eqb m b (λ e. ⊎_elim (λ l. omega arith) (λ l. omega arith) out)) bs h

pub cut_between : (m : ℕ) (xs ys : List ℕ) → Lacks m xs → (front m (xs ++ (m ∷ ys)) ≡ xs) × (back m (xs ++ (m ∷ ys)) ≡ Some ys)
cut_between m [] ys h = let e = eq-eqb m m refl in (rw e, rw e)
cut_between m (x ∷ xs) ys h =
    let r = cut_between m xs ys h.1 in
    (rw h.0 (ap (λ (t : List ℕ). x ∷ t) r.0), rw h.0 r.1)

pub cut_nowhere : (m : ℕ) (xs : List ℕ) → Lacks m xs → (front m xs ≡ xs) × (back m xs ≡ None)
cut_nowhere m [] h = (refl, refl)
cut_nowhere m (x ∷ xs) h =
    let r = cut_nowhere m xs h.1 in
    (rw h.0 (ap (λ (t : List ℕ). x ∷ t) r.0), rw h.0 r.1)

begun_from : (bs : List ℕ) → 0 < length bs → (get_or bs 0 0 ≡ 48 → length bs ≡ 1) → begun bs ≡ true
begun_from [] l h = absurd (omega arith)
begun_from (b ∷ []) l h = refl
begun_from (b ∷ c ∷ bs) l h = not_from_false (eqb b 48) (ne_eqb b 48 (λ e. let w = h e in omega arith))

begun_decimal : (n : ℕ) → n < 2 ^ 64 → begun (decimal n) ≡ true
begun_decimal zero l = rw (decimal_digit 0 (lit< tt))
begun_decimal (suc n) l = begun_from (decimal (suc n)) (decimal_nonempty (suc n) l) (λ e. absurd (let f = first_decimal (suc n) (omega arith) l in omega arith))

pub number_forth : (n : ℕ) → n < 10 ^ 15 → number_answer (decimal n) ≡ Ok n
number_forth n l =
    let small : n < 2 ^ 64 = omega arith in
    cond-true _ _ _ (and_from _ _ (begun_decimal n small) (le-leb _ _ (length-decimal-le 15 n (lit< tt) l small)))
    ∙ cond-true _ _ _ (digits_decimal own n small)
    ∙ ap Ok (digits_value-decimal own n small)

decimal_bytes : (n : ℕ) → n < 2 ^ 64 → AllByRecursion (IsInRange 48 57) (decimal n)
decimal_bytes n l = All-from_get_or (IsInRange 48 57) (decimal n) 0 (λ i h. digit_at (decimal n) i (own.to _ (digits_decimal own n l)) h)

wider : (lo hi low high : ℕ) (bs : List ℕ) → low ≤ lo → hi ≤ high → AllByRecursion (IsInRange lo hi) bs → AllByRecursion (IsInRange low high) bs
wider lo hi low high bs l h a = All-weaker (IsInRange lo hi) (IsInRange low high) (λ b i. (omega arith, omega arith)) bs a

pub signed_bytes : (z : ℤ) → Short z → AllByRecursion (IsInRange 45 57) (signed_decimal z)
signed_bytes (pos n) l = wider 48 57 45 57 (decimal n) (lit≤ tt) (lit≤ tt) (decimal_bytes n (omega arith))
signed_bytes (negsuc n) l = ((lit≤ tt, lit≤ tt), wider 48 57 45 57 (decimal (suc n)) (lit≤ tt) (lit≤ tt) (decimal_bytes (suc n) (omega arith)))

pub coordinate_forth : (z : ℤ) → Short z → coordinate_answer (signed_decimal z) ≡ Ok z
coordinate_forth (pos n) l =
    let small : n < 2 ^ 64 = omega arith in
    cond-false _ _ _ (ne_eqb (get_or (decimal n) 0 0) 45 (λ e. let d = digit_at (decimal n) 0 (own.to _ (digits_decimal own n small)) (decimal_nonempty n small) in omega arith))
    ∙ ap (λ (r : Result ℕ Cause). next r natural) (number_forth n l)
coordinate_forth (negsuc n) l = ap (λ (r : Result ℕ Cause). next r negated) (number_forth (suc n) l)

pub element_forth : (k : Coordinates) (e : Element) → Writable k e → element_answer k (element_written k e) ≡ Ok e
element_forth One e w = ap (λ (r : Result ℤ Cause). next r (λ x. Ok (record { x = x; y = pos 0 }))) (coordinate_forth e.x w.x_short) ∙ ap Ok w.member
element_forth (Two a b) e w =
    let c = cut_between 58 (signed_decimal e.x) (signed_decimal e.y) (lacks 58 45 57 (signed_decimal e.x) (inr (lit< tt)) (signed_bytes e.x w.x_short)) in
    rw (c.0, c.1, coordinate_forth e.x w.x_short, coordinate_forth e.y w.y_short)

element_bytes : (k : Coordinates) (e : Element) → Writable k e → AllByRecursion (IsInRange 45 58) (element_written k e)
element_bytes One e w = wider 45 57 45 58 (signed_decimal e.x) (lit≤ tt) (lit≤ tt) (signed_bytes e.x w.x_short)
element_bytes (Two a b) e w =
    All-append (IsInRange 45 58) (signed_decimal e.x) (58 ∷ signed_decimal e.y)
    (wider 45 57 45 58 (signed_decimal e.x) (lit≤ tt) (lit≤ tt) (signed_bytes e.x w.x_short))
    ((lit≤ tt, lit≤ tt), wider 45 57 45 58 (signed_decimal e.y) (lit≤ tt) (lit≤ tt) (signed_bytes e.y w.y_short))

no_comma : (k : Coordinates) (e : Element) → Writable k e → Lacks 44 (element_written k e)
no_comma k e w = lacks 44 45 58 (element_written k e) (inl (lit< tt)) (element_bytes k e w)

pub elements_forth : (k : Coordinates) (es : List Element) → 0 < length es → AllByRecursion (Writable k) es → elements k (length es) (Some (elements_written k es)) ≡ Ok es
elements_forth k [] l w = absurd (omega arith)
elements_forth k (e ∷ []) l w =
    let c = cut_nowhere 44 (element_written k e) (no_comma k e w.0) in
    rw (c.0, c.1, element_forth k e w.0)
elements_forth k (e ∷ f ∷ es) l w =
    let c = cut_between 44 (element_written k e) (elements_written k (f ∷ es)) (no_comma k e w.0) in
    let r = elements_forth k (f ∷ es) (omega arith) w.1 in
    rw (c.0, c.1, element_forth k e w.0, r)

pub elements_bytes : (k : Coordinates) (es : List Element) → AllByRecursion (Writable k) es → AllByRecursion (IsInRange 44 58) (elements_written k es)
elements_bytes k [] w = tt
elements_bytes k (e ∷ []) w = wider 45 58 44 58 (element_written k e) (lit≤ tt) (lit≤ tt) (element_bytes k e w.0)
elements_bytes k (e ∷ f ∷ es) w =
    All-append (IsInRange 44 58) (element_written k e) (44 ∷ elements_written k (f ∷ es))
    (wider 45 58 44 58 (element_written k e) (lit≤ tt) (lit≤ tt) (element_bytes k e w.0))
    ((lit≤ tt, lit≤ tt), elements_bytes k (f ∷ es) w.1)

-- the length of what is written
signed_length : (z : ℤ) → Short z → length (signed_decimal z) ≤ 17
signed_length z l = length_signed_le 16 z (omega (arith, mag_short z l)) (omega (arith, mag_short z l))
  where
    mag_short : (z : ℤ) → Short z → mag z < 10 ^ 15
    mag_short (pos n) l = l
    mag_short (negsuc n) l = omega arith

element-length : (k : Coordinates) (e : Element) → Writable k e → length (element_written k e) ≤ 35
element-length One e w = let x = signed_length e.x w.x_short in omega arith
element-length (Two a b) e w =
    let x = signed_length e.x w.x_short in
    let y = signed_length e.y w.y_short in
    rw length-append (omega arith)

elements_length : (k : Coordinates) (es : List Element) → AllByRecursion (Writable k) es → length (elements_written k es) ≤ 36 * length es
elements_length k [] w = omega arith
elements_length k (e ∷ []) w = let x = element-length k e w.0 in omega arith
elements_length k (e ∷ f ∷ es) w =
    let x = element-length k e w.0 in
    let y = elements_length k (f ∷ es) w.1 in
    rw length-append (omega arith)

-- a line whose key has small letters
pub line_forth : (s : State) (key value rest : List ℕ) (t : State) → AllByRecursion (IsInRange 97 122) key → Lacks 10 value → entered s key value ≡ Ok t → line_answer s (line_written key value rest) ≡ Ok (t, rest)
line_forth s key value rest t letters l e =
    let c = cut_between 10 (key ++ (61 ∷ value)) rest (All-append _ key (61 ∷ value) (lacks 10 97 122 key (inl (lit< tt)) letters) (refl, l)) in
    let d = cut_between 61 key value (lacks 61 97 122 key (inl (lit< tt)) letters) in
    rw (c.0, c.1, d.0, d.1, e)

ring_forth : (r : RingName) → (ring_answer (ring_written r) ≡ Ok r) × Lacks 10 (ring_written r) × (length (ring_written r) ≡ 1)
ring_forth Integers = (refl, (refl, tt), refl)
ring_forth Gaussian = (refl, (refl, tt), refl)
ring_forth Eisenstein = (refl, (refl, tt), refl)

-- the number of a rank is 1, 2 or 3
number_within : (r : Order) → IsInRange 1 3 (number_of r)
number_within RankOne = (lit≤ tt, lit≤ tt)
number_within RankTwo = (lit≤ tt, lit≤ tt)
number_within RankThree = (lit≤ tt, lit≤ tt)

ranked_forth : (r : Order) → ranked (number_of r) ≡ Ok r
ranked_forth RankOne = refl
ranked_forth RankTwo = refl
ranked_forth RankThree = refl

rank_forth : (r : Order) → rank_answer (decimal (number_of r)) ≡ Ok r
rank_forth r = let l = number_within r in ap (λ (n : Result ℕ Cause). next n ranked) (number_forth (number_of r) (omega arith)) ∙ ranked_forth r

-- a matrix is its rank and its entries
matrix_whole : (m : Square) → matrix_of (rank_of m) (entries_of m) ≡ m
matrix_whole (MatrixOne es) = refl
matrix_whole (MatrixTwo es) = refl
matrix_whole (MatrixThree es) = refl

matrix_forth : (k : Coordinates) (m : Square) → length (entries_of m) ≡ size (rank_of m) → AllByRecursion (Writable k) (entries_of m) → matrix_answer k (rank_of m) (elements_written k (entries_of m)) ≡ Ok m
matrix_forth k m square each =
    let l = number_within (rank_of m) in
    let some : 1 ≤ size (rank_of m) = mul-le-mul l.0 l.0 in
    let r = elements_forth k (entries_of m) (omega arith) each in
    rw (← square, r) (ap Ok (matrix_whole m))

-- line by line
reading_more : (lines n : ℕ) (s : State) (key value rest : List ℕ) (t : State) (q : Request) → AllByRecursion (IsInRange 97 122) key → Lacks 10 value → entered s key value ≡ Ok t → reading lines (suc n) t rest ≡ Ok q → reading (suc lines) n s (line_written key value rest) ≡ Ok q
reading_more lines n s key value rest t q letters l e r = rw (line_forth s key value rest t letters l e) r

line_length : (key value rest : List ℕ) → length key ≤ 6 → length (line_written key value rest) ≤ 8 + length value + length rest
line_length key value rest l = simp length-append (omega arith)

pub read_forth : (q : Request) → WellFormed q → read_answer (written q) ≡ Ok q
read_forth q w =
    let k = coordinates_of q.ring in
    let rank = rank_of q.matrix in
    let es = entries_of q.matrix in
    let rows = elements_written k es in
    let last = line_written (codes "matrix") rows [] in
    let middle = line_written (codes "rank") (decimal (number_of rank)) last in
    let l = number_within rank in
    let many : size rank ≤ 9 = mul-le-mul l.1 l.1 in
    let m = matrix_forth k q.matrix w.square w.entries in
    let r = ring_forth q.ring in
    let no_end = lacks 10 44 58 rows (inl (lit< tt)) (elements_bytes k es w.entries) in
    let digits = lacks 10 48 57 (decimal (number_of rank)) (inl (lit< tt)) (decimal_bytes (number_of rank) (omega arith)) in
    let c = reading_more 0 3 (Matrix q.ring rank) (codes "matrix") rows [] (Done q) q (search rules) no_end (rw m) refl in
    let b = reading_more 1 2 (Rank q.ring) (codes "rank") (decimal (number_of rank)) last (Matrix q.ring rank) q (search rules) digits (rw (rank_forth rank)) c in
    let a = reading_more 2 1 Ring (codes "ring") (ring_written q.ring) middle (Rank q.ring) q (search rules) r.1 (rw r.0) b in
    let n₁ = line_length (codes "ring") (ring_written q.ring) middle (lit≤ tt) in
    let n₂ = line_length (codes "rank") (decimal (number_of rank)) last (lit≤ tt) in
    let n₃ = line_length (codes "matrix") rows [] (lit≤ tt) in
    let n₄ = elements_length k es w.entries in
    let n₅ = length-decimal-le 1 (number_of rank) (lit< tt) (omega arith) (omega arith) in
    let short : length (written q) ≤ 16384 = omega (arith, r.2, w.square) in
    cond-true _ _ _ (le-leb _ _ short) ∙ a
