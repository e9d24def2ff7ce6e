-- Marks (this profile).
use Rattle.std.specs.Prelude.{ℕ, ◌==◌, if◌then◌else◌}
use Rattle.mu_cells.specs.declared.mark.Mark.{Mark}
use Rattle.mu_cells.specs.declared.mark.Mark.TheVariants.{Unset, Set, Other}

-- what an octet is as a mark
abbrev pub mark_of : ℕ → Mark
mark_of octet = if octet == 255 then Unset else (if octet == 254 then Set else Other)
