-- What the fields of a message show of a report of missing blocks or chunks (MshMBT, Block Status).
use Rattle.std.specs.Prelude.{ℕ, List, [], ◌∷◌}
use Rattle.mu_model_wire.specs.Fields.{Shown, octets as shown_octets}
use Rattle.mu_model_wire.specs.Names.{missing, bits}
use Rattle.mu_model_wire.specs.Reports.{shown_numbers}
use Rattle.mu_model_wire.specs.declared.reports.Report.{Report}
use Rattle.mu_model_wire.specs.declared.reports.Report.TheVariants.{All, Nothing, Bits, List as Listed}

-- the format of a report on the wire
abbrev pub format_of : Report → ℕ
format_of All = 0
format_of Nothing = 1
format_of (Bits os) = 2
format_of (Listed ns) = 3

abbrev pub bits_shown : Report → List Shown
bits_shown (Bits os) = shown_octets bits os.items ∷ []
bits_shown _ = []

abbrev pub list_shown : Report → List (List Shown)
list_shown (Listed ns) = shown_numbers missing ns.items
list_shown _ = []
