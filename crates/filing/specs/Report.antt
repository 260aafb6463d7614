-- The lines that tell where a matrix is filed, the last without its end.
use Rattle.std.specs.Prelude.{ℕ, List, ◌∷◌, ◌++◌, codes, decimal}
use Rattle.text.specs.Requests.{coordinates_of}
use Rattle.text.specs.Written.{element_written, ring_written}
use Rattle.location.specs.declared.Location.{Location}
use Rattle.filing.specs.declared.Filed.{Filed}

-- with the ring's letter and the form as they are written
abbrev pub report_of : List ℕ → List ℕ → Location → List ℕ
report_of ring h l = codes "ring=" ++ (ring ++ ((10 ∷ codes "rank=1") ++ ((10 ∷ codes "index=") ++ (decimal l.index ++ ((10 ∷ codes "sublattices=") ++ (decimal l.sublattices ++ ((10 ∷ codes "lattice=") ++ (decimal l.lattice ++ ((10 ∷ codes "h=") ++ h)))))))))

abbrev pub report : Filed → List ℕ
report f = report_of (ring_written f.ring) (element_written (coordinates_of f.ring) f.location.form) f.location
