-- When the numbers and octets of a report are in their ranges.
use Rattle.std.specs.Prelude.{ℕ, ◌≤◌, List, [], ◌∷◌, length}
use Rattle.mu_model_wire.specs.Fields.{pattern}
use Rattle.mu_model_wire.specs.Names.{missing}
use Rattle.mu_model_wire.specs.Reports.{shown_numbers}
use Rattle.mu_model_wire.specs.Spelling.{EntriesFit, entries_spelling}
use Rattle.mu_model_wire.specs.declared.reports.Report.{Report}
use Rattle.mu_model_wire.specs.declared.reports.Report.TheVariants.{All, Nothing, Bits, List as Listed}

-- the patterns of the numbers have at most so many octets
abbrev pub ListFits : List ℕ → ℕ → Type 0
ListFits numbers most =
    EntriesFit (pattern missing ∷ []) (shown_numbers missing numbers)
    × (length (entries_spelling (pattern missing ∷ []) (shown_numbers missing numbers)) ≤ most)

-- what follows the chunk size of a Block Status has at most 374 octets
abbrev pub ReportFits : Report → Type 0
ReportFits All = Unit {0}
ReportFits Nothing = Unit {0}
ReportFits (Bits octets) = length octets.items ≤ 374
ReportFits (Listed numbers) = ListFits numbers.items 374
