-- The grammar: all rows, and the names of their messages.
use Rattle.std.specs.Prelude.{List, ◌++◌}
use Rattle.mu_model_wire.specs.Fields.{Row}
use Rattle.mu_model_wire.specs.Blob.{blob_rows}
use Rattle.mu_model_wire.specs.Update.{update_rows}
use Rattle.mu_model_wire.specs.Distribution.{distribution_rows}

abbrev pub rows : List Row
rows = blob_rows ++ update_rows ++ distribution_rows
