-- What is read was written.
use Rattle.std.proofs.Common.{◌≡◌, ℕ, zero, suc, ◌^◌, ◌<◌, Bool, true, false, cond, ◌&&◌, eqb, leb, List, [], ◌∷◌, ◌++◌, length, get_or, drop, ℤ, pos, negsuc, Some, None, Ok, Err, codes, decimal, Option, Result, sym, refl, ap, ◌∙◌, subst, ap₂, arith, lit<}
use Rattle.std.specs.Fmt.{signed_decimal}
use Rattle.std.specs.List.{AllByRecursion}
use Rattle.std.specs.Str.{all_ascii_digits}
use Rattle.std.specs.Str.Parse.{digits_value as value}
use Rattle.std.proofs.lemmas.Fmt.{decimal-digits_value}
use Rattle.std.proofs.lemmas.Slice.Eq.{HasBytesAt, text_from_reads}
use Rattle.std.proofs.lemmas.Str.Parse.{digits_value_short}
use Rattle.std.proofs.lemmas.Bool.Decides.{nat_tests}
use Rattle.std.proofs.lemmas.Bool.{and_parts, eqb-true, leb-true}
use Rattle.refusal.specs.Numbers.{refused}
use Rattle.refusal.specs.declared.Cause.{Cause}
use Rattle.refusal.specs.declared.Cause.TheVariants.{Line, Value}
use Rattle.ring.specs.declared.elements.Element.{Element}
use Rattle.ring.specs.declared.elements.Coordinates.{Coordinates}
use Rattle.ring.specs.declared.elements.Coordinates.TheVariants.{One, Two}
use Rattle.text.specs.declared.request.RingName.{RingName}
use Rattle.text.specs.declared.request.RingName.TheVariants.{Integers, Gaussian, Eisenstein}
use Rattle.text.specs.declared.request.Rank.{Rank as Order}
use Rattle.text.specs.declared.request.Rank.TheVariants.{One as RankOne, Two as RankTwo, Three as RankThree}
use Rattle.text.specs.declared.request.Matrix.{Matrix as Square}
use Rattle.text.specs.declared.request.Request.{Request}
use Rattle.text.specs.declared.state.State.{State}
use Rattle.text.specs.declared.state.State.TheVariants.{Ring, Rank, Matrix, Done}
use Rattle.text.specs.Parts.{front, back}
use Rattle.text.specs.Keys.{reads, spells}
use Rattle.text.specs.Lines.{finished, line_answer, placed, read_answer, reading}
use Rattle.text.specs.Requests.{coordinates_of, elements, entries_of, lettered, matrix_answer, matrix_of, number_of, rank_answer, rank_of, ranked, ring_answer, size}
use Rattle.text.specs.Values.{begun, coordinate_answer, digits_answer, element_answer, natural, negated, next, number_answer}
use Rattle.text.specs.Written.{Short, WellFormed, Writable, element_written, elements_written, line_written, ring_written, written}
use Rattle.text.proofs.Chains.{Taken, cond_ok, given_ok, line_ok, next_ok, same_ok}
use Rattle.text.proofs.Numerals.{own}

-- a text is its two parts with the mark between them
pub joined_at : (m : ℕ) (bs rest : List ℕ) → back m bs ≡ Some rest → bs ≡ front m bs ++ (m ∷ rest)
joined_at m [] rest h = cc
joined_at m (b ∷ bs) rest h = grind (arith, nat_tests, joined_at m bs rest)

pub all_front : (m : ℕ) (bs : List ℕ) → back m bs ≡ None → bs ≡ front m bs
all_front m [] h = refl
all_front m (b ∷ bs) h = grind (arith, nat_tests, all_front m bs)

begun_tells : (bs : List ℕ) → begun bs ≡ true → (0 < length bs) × (get_or bs 0 0 ≡ 48 → length bs ≡ 1)
begun_tells [] h = cc
begun_tells (b ∷ []) h = (omega arith, λ e. refl)
begun_tells (b ∷ c ∷ bs) h = (omega arith, λ e. grind (arith, nat_tests))

pub number_back : (bs : List ℕ) (n : ℕ) → number_answer bs ≡ Ok n → (bs ≡ decimal n) × (n < 10 ^ 15)
number_back bs n h =
    let a = cond_ok (begun bs && leb (length bs) 15) (digits_answer bs) Value n h in
    let t = and_parts (begun bs) (leb (length bs) 15) a.test in
    let d = cond_ok (all_ascii_digits bs) (Ok (value 10 bs)) Value n a.then in
    let e = same_ok (value 10 bs) n d.then in
    let s = digits_value_short own bs 15 d.test (leb-true _ _ t.1) in
    let w = begun_tells bs t.0 in
    (sym (decimal-digits_value own bs d.test w.0 w.1 (omega arith)) ∙ ap decimal e, rw (sym e) s)

first_byte : (bs : List ℕ) → get_or bs 0 0 ≡ 45 → bs ≡ 45 ∷ drop 1 bs
first_byte [] h = absurd (omega arith)
first_byte (b ∷ bs) h = ap (λ (c : ℕ). c ∷ bs) h

negated_back : (n : ℕ) (z : ℤ) → negated n ≡ Ok z → n < 10 ^ 15 → (45 ∷ decimal n ≡ signed_decimal z) × Short z
negated_back zero z h l = cc
negated_back (suc n) z h l = let e = same_ok (negsuc n) z h in (ap signed_decimal e, subst Short e l)

pub coordinate_back : (bs : List ℕ) (z : ℤ) → coordinate_answer bs ≡ Ok z → (bs ≡ signed_decimal z) × Short z
coordinate_back bs z h = go (eqb (get_or bs 0 0) 45) refl h
  where
    go : (t : Bool) → eqb (get_or bs 0 0) 45 ≡ t → cond t (next (number_answer (drop 1 bs)) negated) (next (number_answer bs) natural) ≡ Ok z → (bs ≡ signed_decimal z) × Short z
    go true e q =
        let p = next_ok (number_answer (drop 1 bs)) negated z q in
        let n = number_back (drop 1 bs) p.value p.first in
        let w = negated_back p.value z p.then n.1 in
        (first_byte bs (eqb-true _ 45 e) ∙ ap (λ (t : List ℕ). 45 ∷ t) n.0 ∙ w.0, w.1)
    go false e q =
        let p = next_ok (number_answer bs) natural z q in
        let n = number_back bs p.value p.first in
        let w = same_ok (pos p.value) z p.then in
        (n.0 ∙ ap signed_decimal w, subst Short w n.1)

pub element_back : (k : Coordinates) (bs : List ℕ) (e : Element) → element_answer k bs ≡ Ok e → (bs ≡ element_written k e) × Writable k e
element_back One bs e h =
    let p = next_ok (coordinate_answer bs) _ e h in
    let c = coordinate_back bs p.value p.first in
    let w = same_ok _ e p.then in
    subst (λ (f : Element). (bs ≡ element_written One f) × Writable One f) w (c.0, record { x_short = c.1; y_short = lit< tt; member = refl })
element_back (Two a b) bs e h =
    let o = given_ok (back 58 bs) Value _ e h in
    let p = next_ok (coordinate_answer (front 58 bs)) _ e o.then in
    let q = next_ok (coordinate_answer o.value) _ e p.then in
    let x = coordinate_back (front 58 bs) p.value p.first in
    let y = coordinate_back o.value q.value q.first in
    let w = same_ok _ e q.then in
    subst (λ (f : Element). (bs ≡ element_written (Two a b) f) × Writable (Two a b) f) w
    (joined_at 58 bs o.value o.first ∙ ap₂ (λ (u v : List ℕ). u ++ (58 ∷ v)) x.0 y.0, record { x_short = x.1; y_short = y.1; member = refl })

-- the elements that were read, as they stood
pub record Listing (k : Coordinates) (n : ℕ) (o : Option (List ℕ)) (es : List Element) : Type 0 where
  pub count : length es ≡ n
  pub each : AllByRecursion (Writable k) es
  pub bytes : (bs : List ℕ) → o ≡ Some bs → bs ≡ elements_written k es

none_read : (k : Coordinates) (n : ℕ) (es : List Element) → elements k n None ≡ Ok es → es ≡ []
none_read k zero es h = sym (same_ok [] es h)
none_read k (suc n) es h = cc

some_read : (k : Coordinates) (n : ℕ) (bs : List ℕ) (es : List Element) → elements k n (Some bs) ≡ Ok es → (e : Element) × (fs : List Element) × (es ≡ e ∷ fs)
some_read k zero bs es h = cc
some_read k (suc n) bs es h =
    let p = next_ok (element_answer k (front 44 bs)) _ es h in
    let q = next_ok (elements k n (back 44 bs)) _ es p.then in
    (p.value, q.value, sym (same_ok _ es q.then))

-- an element before those that were read
joined_more : (k : Coordinates) (bs : List ℕ) (e : Element) (n : ℕ) (es : List Element) → front 44 bs ≡ element_written k e → (o : Option (List ℕ)) → back 44 bs ≡ o → elements k n o ≡ Ok es → Listing k n o es → bs ≡ elements_written k (e ∷ es)
joined_more k bs e n es f None b t r = rw (none_read k n es t) (all_front 44 bs b ∙ f)
joined_more k bs e n es f (Some rest) b t r =
    let s = some_read k n rest es t in
    let w = subst (λ (fs : List Element). rest ≡ elements_written k fs) s.2 (r.bytes rest refl) in
    rw s.2 (joined_at 44 bs rest b ∙ ap₂ (λ (u v : List ℕ). u ++ (44 ∷ v)) f w)

pub elements_back : (k : Coordinates) (n : ℕ) (o : Option (List ℕ)) (es : List Element) → elements k n o ≡ Ok es → Listing k n o es
elements_back k zero None es h =
    let w = same_ok [] es h in
    subst (Listing k 0 None) w (record { count = refl; each = tt; bytes = λ bs e. cc })
elements_back k zero (Some bs) es h = cc
elements_back k (suc n) None es h = cc
elements_back k (suc n) (Some bs) es h =
    let p = next_ok (element_answer k (front 44 bs)) _ es h in
    let q = next_ok (elements k n (back 44 bs)) _ es p.then in
    let e = element_back k (front 44 bs) p.value p.first in
    let r = elements_back k n (back 44 bs) q.value q.first in
    subst (Listing k (suc n) (Some bs)) (same_ok _ es q.then)
    (record {
      count = ap suc r.count;
      each = (e.1, r.each);
      bytes = λ t w. sym (some_same bs t w) ∙ joined_more k bs p.value n q.value e.0 (back 44 bs) refl q.first r;
    })
  where
    some_same : (s t : List ℕ) → Some s ≡ Some t → s ≡ t
    some_same s t w = cc

reads_at : (bs : List ℕ) (i : ℕ) (name : List ℕ) → reads bs i name ≡ true → HasBytesAt bs i name
reads_at bs i [] h = tt
reads_at bs i (c ∷ name) h = let p = and_parts (eqb (get_or bs i 0) c) (reads bs (suc i) name) h in (eqb-true _ c p.0, reads_at bs (suc i) name p.1)

pub key_back : (bs name : List ℕ) → spells bs name ≡ true → bs ≡ name
key_back bs name h = let p = and_parts (eqb (length bs) (length name)) (reads bs 0 name) h in text_from_reads bs name (eqb-true _ _ p.0) (reads_at bs 0 name p.1)

lettered_back : (b : ℕ) (r : RingName) → lettered b ≡ Ok r → b ∷ [] ≡ ring_written r
lettered_back b Integers h = let e : b ≡ 90 = grind (arith, nat_tests) in rw e
lettered_back b Gaussian h = let e : b ≡ 71 = grind (arith, nat_tests) in rw e
lettered_back b Eisenstein h = let e : b ≡ 69 = grind (arith, nat_tests) in rw e

pub ring_back : (bs : List ℕ) (r : RingName) → ring_answer bs ≡ Ok r → bs ≡ ring_written r
ring_back [] r h = cc
ring_back (b ∷ []) r h = lettered_back b r h
ring_back (b ∷ c ∷ bs) r h = grind (arith, nat_tests)

-- a rank that is read is the number
ranked_back : (n : ℕ) (r : Order) → ranked n ≡ Ok r → n ≡ number_of r
ranked_back n RankOne h = grind (arith, nat_tests)
ranked_back n RankTwo h = grind (arith, nat_tests)
ranked_back n RankThree h = grind (arith, nat_tests)

pub rank_back : (bs : List ℕ) (r : Order) → rank_answer bs ≡ Ok r → bs ≡ decimal (number_of r)
rank_back bs r h =
    let p = next_ok (number_answer bs) ranked r h in
    (number_back bs p.value p.first).0 ∙ ap decimal (ranked_back p.value r p.then)

-- a matrix as it stood
pub record Laid (k : Coordinates) (rank : Order) (bs : List ℕ) (m : Square) : Type 0 where
  pub rank_kept : rank_of m ≡ rank
  pub bytes : bs ≡ elements_written k (entries_of m)
  pub square : length (entries_of m) ≡ size rank
  pub each : AllByRecursion (Writable k) (entries_of m)

laid : (k : Coordinates) (rank : Order) (bs : List ℕ) (es : List Element) → Listing k (size rank) (Some bs) es → Laid k rank bs (matrix_of rank es)
laid k RankOne bs es r = record { rank_kept = refl; bytes = r.bytes bs refl; square = r.count; each = r.each }
laid k RankTwo bs es r = record { rank_kept = refl; bytes = r.bytes bs refl; square = r.count; each = r.each }
laid k RankThree bs es r = record { rank_kept = refl; bytes = r.bytes bs refl; square = r.count; each = r.each }

pub matrix_back : (k : Coordinates) (rank : Order) (bs : List ℕ) (m : Square) → matrix_answer k rank bs ≡ Ok m → Laid k rank bs m
matrix_back k rank bs m h =
    let p = next_ok (elements k (size rank) (Some bs)) _ m h in
    subst (Laid k rank bs) (same_ok _ m p.then) (laid k rank bs p.value (elements_back k (size rank) (Some bs) p.value p.first))

-- a line as it stood
pub line_back : (s : State) (text : List ℕ) (t : State) (rest : List ℕ) (k : Taken s text t rest) (key : List ℕ) → spells (front 61 (front 10 text)) key ≡ true → text ≡ line_written key k.value rest
line_back s text t rest k key e =
    joined_at 10 text rest k.ends
    ∙ ap (λ (u : List ℕ). u ++ (10 ∷ rest)) (joined_at 61 (front 10 text) k.value k.parts ∙ ap (λ (u : List ℕ). u ++ (61 ∷ k.value)) (key_back (front 61 (front 10 text)) key e))

placed_ok : {X : Type 0} (n : ℕ) (r : Result X Cause) (x : X) → placed n r ≡ Ok x → r ≡ Ok x
placed_ok n (Ok y) x h = ap Ok (same_ok y x h)
placed_ok n (Err c) x h = cc

-- the three lines as they stood
pub record RingLine (text : List ℕ) (t : State) (rest : List ℕ) : Type 0 where
  pub ring : RingName
  pub is : t ≡ Rank ring
  pub bytes : text ≡ line_written (codes "ring") (ring_written ring) rest

pub record RankLine (ring : RingName) (text : List ℕ) (t : State) (rest : List ℕ) : Type 0 where
  pub rank : Order
  pub is : t ≡ Matrix ring rank
  pub bytes : text ≡ line_written (codes "rank") (decimal (number_of rank)) rest

pub record MatrixLine (ring : RingName) (rank : Order) (text : List ℕ) (t : State) (rest : List ℕ) : Type 0 where
  pub matrix : Square
  pub is : t ≡ Done (record { ring = ring; matrix = matrix })
  pub value : List ℕ
  pub bytes : text ≡ line_written (codes "matrix") value rest
  pub laid : Laid (coordinates_of ring) rank value matrix

ring_line : (text : List ℕ) (t : State) (rest : List ℕ) → line_answer Ring text ≡ Ok (t, rest) → RingLine text t rest
ring_line text t rest h =
    let k = line_ok Ring text t rest h in
    let a = cond_ok (spells (front 61 (front 10 text)) (codes "ring")) _ Line t k.says in
    let p = next_ok (ring_answer k.value) _ t a.then in
    record {
      ring = p.value;
      is = sym (same_ok _ t p.then);
      bytes = line_back Ring text t rest k (codes "ring") a.test ∙ ap (λ (u : List ℕ). line_written (codes "ring") u rest) (ring_back k.value p.value p.first);
    }

rank_line : (ring : RingName) (text : List ℕ) (t : State) (rest : List ℕ) → line_answer (Rank ring) text ≡ Ok (t, rest) → RankLine ring text t rest
rank_line ring text t rest h =
    let k = line_ok (Rank ring) text t rest h in
    let a = cond_ok (spells (front 61 (front 10 text)) (codes "rank")) _ Line t k.says in
    let p = next_ok (rank_answer k.value) _ t a.then in
    record {
      rank = p.value;
      is = sym (same_ok _ t p.then);
      bytes = line_back (Rank ring) text t rest k (codes "rank") a.test ∙ ap (λ (u : List ℕ). line_written (codes "rank") u rest) (rank_back k.value p.value p.first);
    }

matrix_line : (ring : RingName) (rank : Order) (text : List ℕ) (t : State) (rest : List ℕ) → line_answer (Matrix ring rank) text ≡ Ok (t, rest) → MatrixLine ring rank text t rest
matrix_line ring rank text t rest h =
    let k = line_ok (Matrix ring rank) text t rest h in
    let a = cond_ok (spells (front 61 (front 10 text)) (codes "matrix")) _ Line t k.says in
    let p = next_ok (matrix_answer (coordinates_of ring) rank k.value) _ t a.then in
    record {
      matrix = p.value;
      is = sym (same_ok _ t p.then);
      value = k.value;
      bytes = line_back (Matrix ring rank) text t rest k (codes "matrix") a.test;
      laid = matrix_back (coordinates_of ring) rank k.value p.value p.first;
    }

finished_back : (n : ℕ) (q p : Request) (text : List ℕ) → finished n (Done q) text ≡ Ok p → (text ≡ []) × (q ≡ p)
finished_back n q p [] h = (refl, same_ok q p h)
finished_back n q p (b ∷ bs) h = cc

-- what is left once the ring is known, and once the rank is
record FromMatrix (ring : RingName) (rank : Order) (text : List ℕ) (q : Request) : Type 0 where
  matrix : Square
  value : List ℕ
  request : record { ring = ring; matrix = matrix } ≡ q
  bytes : text ≡ line_written (codes "matrix") value []
  laid : Laid (coordinates_of ring) rank value matrix

from_matrix : (ring : RingName) (rank : Order) (text : List ℕ) (q : Request) → reading 1 3 (Matrix ring rank) text ≡ Ok q → FromMatrix ring rank text q
from_matrix ring rank text q h =
    let b = next_ok (placed 3 (line_answer (Matrix ring rank) text)) _ q h in
    let k = matrix_line ring rank text b.value.0 b.value.1 (placed_ok 3 _ b.value b.first) in
    let f = finished_back 4 (record { ring = ring; matrix = k.matrix }) q b.value.1 (subst (λ (s : State). finished 4 s b.value.1 ≡ Ok q) k.is b.then) in
    record { matrix = k.matrix; value = k.value; request = f.1; bytes = k.bytes ∙ ap (line_written (codes "matrix") k.value) f.0; laid = k.laid }

record FromRank (ring : RingName) (text : List ℕ) (q : Request) : Type 0 where
  rank : Order
  rest : List ℕ
  bytes : text ≡ line_written (codes "rank") (decimal (number_of rank)) rest
  then : FromMatrix ring rank rest q

from_rank : (ring : RingName) (text : List ℕ) (q : Request) → reading 2 2 (Rank ring) text ≡ Ok q → FromRank ring text q
from_rank ring text q h =
    let b = next_ok (placed 2 (line_answer (Rank ring) text)) _ q h in
    let k = rank_line ring text b.value.0 b.value.1 (placed_ok 2 _ b.value b.first) in
    record {
      rank = k.rank;
      rest = b.value.1;
      bytes = k.bytes;
      then = from_matrix ring k.rank b.value.1 q (subst (λ (s : State). reading 1 3 s b.value.1 ≡ Ok q) k.is b.then);
    }

-- from the lines to the request
request_back : (ring : RingName) (rank : Order) (m : Square) (value text : List ℕ) → Laid (coordinates_of ring) rank value m → text ≡ line_written (codes "ring") (ring_written ring) (line_written (codes "rank") (decimal (number_of rank)) (line_written (codes "matrix") value [])) → (text ≡ written (record { ring = ring; matrix = m })) × WellFormed (record { ring = ring; matrix = m })
request_back ring rank m value text laid w =
    let e = sym laid.rank_kept in
    (w ∙ ap₂ (λ (r : Order) (v : List ℕ). line_written (codes "ring") (ring_written ring) (line_written (codes "rank") (decimal (number_of r)) (line_written (codes "matrix") v []))) e laid.bytes, record { square = laid.square ∙ ap size e; entries = laid.each })

pub read_back : (text : List ℕ) (q : Request) → read_answer text ≡ Ok q → (text ≡ written q) × WellFormed q
read_back text q h =
    let a = cond_ok (leb (length text) 16384) (reading 3 1 Ring text) (refused Line 0) q h in
    let b = next_ok (placed 1 (line_answer Ring text)) _ q a.then in
    let k = ring_line text b.value.0 b.value.1 (placed_ok 1 _ b.value b.first) in
    let r = from_rank k.ring b.value.1 q (subst (λ (s : State). reading 2 2 s b.value.1 ≡ Ok q) k.is b.then) in
    let m = r.then in
    let w = k.bytes ∙ ap (line_written (codes "ring") (ring_written k.ring)) (r.bytes ∙ ap (line_written (codes "rank") (decimal (number_of r.rank))) m.bytes) in
    subst (λ (p : Request). (text ≡ written p) × WellFormed p) m.request (request_back k.ring r.rank m.matrix m.value text m.laid w)
