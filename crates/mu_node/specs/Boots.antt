-- What a boot of a node finds in the octets of a flash.
use Rattle.std.specs.Prelude.{List, ℕ}
use Rattle.mu_model_record.specs.Kinds.{IsBlank, IsDamaged}
use Rattle.mu_model_represents.specs.Boots.{IsForeignToNodes}
use Rattle.mu_store.specs.declared.booting.BootWhy.{BootWhy}
use Rattle.mu_store.specs.declared.booting.BootWhy.TheVariants.{Flash, Blank, Foreign, Damaged}

-- why it found no node; a node's tag is judged after the marks and the banks
abbrev pub IsNodeKind : List ℕ → BootWhy → Type 0
IsNodeKind image Flash = Unit {0}
IsNodeKind image Blank = IsBlank image
IsNodeKind image Foreign = IsForeignToNodes image
IsNodeKind image (Damaged bank want found) = IsDamaged image bank want found
