-- The rows of each part of the grammar.
use Rattle.std.specs.Prelude.{List}
use Rattle.mu_model_wire.specs.Fields.{Row}
use Rattle.mu_model_wire.specs.Blob.{blob_rows}
use Rattle.mu_model_wire.specs.Update.{update_rows}
use Rattle.mu_model_wire.specs.Distribution.{distribution_rows}
use Rattle.mu_access.specs.declared.reading.Part.{Part}
use Rattle.mu_access.specs.declared.reading.Part.TheVariants.{Blob, Update, Distribution}

abbrev pub rows_of : Part → List Row
rows_of Blob = blob_rows
rows_of Update = update_rows
rows_of Distribution = distribution_rows
