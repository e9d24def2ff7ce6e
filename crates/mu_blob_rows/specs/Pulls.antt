-- When a Partial Block Report is due, by what was received of the block that comes.
use Rattle.std.specs.Prelude.{ℕ, ◌+◌, Bool, true, not, ◌||◌, nat_le, List, Option, Some, None}
use Rattle.std.specs.List.{list_any}
use Rattle.mu_model_wire.specs.Reports.{has}
use Rattle.mu_model_node.specs.BlobServer.{PullReport}

-- none was sent for this block, or none of the last one's chunks is missing still, or a second has passed since it
abbrev pub is_due_by : List Bool → ℕ → Option PullReport → Bool
is_due_by received now None = true
is_due_by received now (Some last) = not (list_any (λ k. not (has received k)) last.chunks) || nat_le (last.moment + 1000) now
