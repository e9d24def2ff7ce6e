-- Octets that are lent, without the place where they lie.
use Rattle.std.specs.Prelude.{ℕ, List, Option, None, Some}
use Rattle.std.specs.Borrow.{Bor}

-- the same octets, as if they lay at one place
abbrev pub unplaced : Bor (List ℕ) → Bor (List ℕ)
unplaced lent = record { ref_ptr = (0, 0); now = lent.now }

abbrev pub unplaced_there : Option (Bor (List ℕ)) → Option (Bor (List ℕ))
unplaced_there None = None
unplaced_there (Some lent) = Some (unplaced lent)
