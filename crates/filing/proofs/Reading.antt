-- What a request of rank 1 comes to.
use Rattle.std.proofs.Common.{◌≡◌, ℕ, List, Ok, Err, Result, subst}
use Rattle.refusal.specs.declared.Refusal.{Refusal}
use Rattle.ring.proofs.Checks.{met_refuses, refuses}
use Rattle.ring.specs.declared.elements.Element.{Element}
use Rattle.text.specs.declared.request.Matrix.TheVariants.{One}
use Rattle.text.specs.declared.request.Request.{Request}
use Rattle.text.specs.Lines.{read_answer}
use Rattle.location.specs.Located.{LocatedAt, location_check}
use Rattle.filing.specs.Filed.{AfterReading, ByRank, FiledAnswer, IsFiled, Placed, meaning_of, only_entry}

pub not_filed : (bytes : List ℕ) (q : Request) (es : List Element) (e : Refusal) → Ok q ≡ read_answer bytes → q.matrix ≡ One es → Placed q.ring (only_entry es) (Err e) → FiledAnswer bytes (Err e)
not_filed bytes q es e read one p =
    let k = location_check (meaning_of q.ring) (only_entry es) in
    let h : ByRank q.ring (One es) (Err e) = refuses k (IsFiled q.ring (only_entry es)) e (met_refuses k (LocatedAt (meaning_of q.ring) (only_entry es)) e p) in
    subst (λ (a : Result Request Refusal). AfterReading a (Err e)) read (rw one h)
