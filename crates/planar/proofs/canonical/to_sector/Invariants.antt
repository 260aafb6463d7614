use Rattle.std.proofs.Common.{◌≡◌, ℕ, ◌+◌, ◌^◌, ◌<◌, ◌≤◌, false, nat_abs}
use Rattle.planes.specs.Planes.{pair, sector, turns}
use Rattle.planar.proofs.canonical.to_sector.Given as goal

abbrev pub invariant-loop-k : goal.invariant-loop-k
invariant-loop-k l = record {
  turned : pair l.turned.x l.turned.y ≡ turns l.p l._k (pair l.fn.e.x l.fn.e.y);
  x_bound : nat_abs l.turned.x ≤ 2 ^ (30 + l._k);
  y_bound : nat_abs l.turned.y ≤ 2 ^ (30 + l._k);
  outside : (k : ℕ) → k < l._k → sector l.p (turns l.p k (pair l.fn.e.x l.fn.e.y)) ≡ false;
}
