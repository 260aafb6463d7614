-- What an answer tells of the steps that led to it.
use Rattle.std.proofs.Common.{◌≡◌, ℕ, ◌+◌, Bool, true, false, cond, List, Some, None, Ok, Err, codes, Option, Result, sym, refl, ap, ◌∙◌}
use Rattle.refusal.specs.declared.Cause.TheVariants.{Line}
use Rattle.text.specs.declared.state.State.{State}
use Rattle.text.specs.declared.state.State.TheVariants.{Ring, Rank, Matrix, Done}
use Rattle.text.specs.Keys.{spells}
use Rattle.text.specs.Lines.{entered, line_answer, line_of}
use Rattle.text.specs.Parts.{front, back}
use Rattle.text.specs.Requests.{coordinates_of, matrix_answer, rank_answer, ring_answer}
use Rattle.text.specs.Values.{given, next}

pub same_ok : {X E : Type 0} (x y : X) → ◌≡◌ {A = Result X E} (Ok x) (Ok y) → x ≡ y
same_ok x y h = cc

pub record Passed {X Y E : Type 0} (r : Result X E) (f : X → Result Y E) (y : Y) : Type 0 where
  pub value : X
  pub first : r ≡ Ok value
  pub then : f value ≡ Ok y

pub next_ok : {X Y E : Type 0} (r : Result X E) (f : X → Result Y E) (y : Y) → next r f ≡ Ok y → Passed r f y
next_ok (Ok x) f y h = record { value = x; first = refl; then = h }
next_ok (Err e) f y h = cc

pub record Present {X Y E : Type 0} (o : Option X) (f : X → Result Y E) (y : Y) : Type 0 where
  pub value : X
  pub first : o ≡ Some value
  pub then : f value ≡ Ok y

pub given_ok : {X Y E : Type 0} (o : Option X) (e : E) (f : X → Result Y E) (y : Y) → given o e f ≡ Ok y → Present o f y
given_ok (Some x) e f y h = record { value = x; first = refl; then = h }
given_ok None e f y h = cc

pub record Allowed {X E : Type 0} (b : Bool) (r : Result X E) (x : X) : Type 0 where
  pub test : b ≡ true
  pub then : r ≡ Ok x

-- a test that a fault would follow
pub cond_ok : {X E : Type 0} (b : Bool) (r : Result X E) (e : E) (x : X) → cond b r (Err e) ≡ Ok x → Allowed b r x
cond_ok true r e x h = record { test = refl; then = h }
cond_ok false r e x h = cc

-- each line leads to the state of the next
pub entered_follows : (s : State) (key bs : List ℕ) (t : State) → entered s key bs ≡ Ok t → line_of s + 1 ≡ line_of t
entered_follows Ring key bs t h =
    let a = cond_ok (spells key (codes "ring")) _ Line t h in
    let p = next_ok (ring_answer bs) _ t a.then in
    ap line_of (same_ok _ t p.then)
entered_follows (Rank r) key bs t h =
    let a = cond_ok (spells key (codes "rank")) _ Line t h in
    let p = next_ok (rank_answer bs) _ t a.then in
    ap line_of (same_ok _ t p.then)
entered_follows (Matrix r n) key bs t h =
    let a = cond_ok (spells key (codes "matrix")) _ Line t h in
    let p = next_ok (matrix_answer (coordinates_of r) n bs) _ t a.then in
    ap line_of (same_ok _ t p.then)
entered_follows (Done q) key bs t h = cc

-- the parts of a line that was read
pub record Taken (s : State) (text : List ℕ) (t : State) (rest : List ℕ) : Type 0 where
  pub value : List ℕ
  pub ends : back 10 text ≡ Some rest
  pub parts : back 61 (front 10 text) ≡ Some value
  pub says : entered s (front 61 (front 10 text)) value ≡ Ok t

pub line_ok : (s : State) (text : List ℕ) (t : State) (rest : List ℕ) → line_answer s text ≡ Ok (t, rest) → Taken s text t rest
line_ok s text t rest h =
    let a = given_ok (back 10 text) Line _ (t, rest) h in
    let b = given_ok (back 61 (front 10 text)) Line _ (t, rest) a.then in
    let d = next_ok (entered s (front 61 (front 10 text)) b.value) _ (t, rest) b.then in
    let e : ◌≡◌ {A = State × List ℕ} (d.value, a.value) (t, rest) = same_ok (d.value, a.value) (t, rest) d.then in
    record { value = b.value; ends = a.first ∙ ap Some (ap (λ (q : State × List ℕ). q.1) e); parts = b.first; says = d.first ∙ ap Ok (ap (λ (q : State × List ℕ). q.0) e) }

pub line_follows : (s : State) (text : List ℕ) (t : State) (rest : List ℕ) → Ok (t, rest) ≡ line_answer s text → line_of s + 1 ≡ line_of t
line_follows s text t rest h = let k = line_ok s text t rest (sym h) in entered_follows s (front 61 (front 10 text)) k.value t k.says
