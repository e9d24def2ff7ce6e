-- Where replies come from whose fields are in the ranges of the grammar.
use Rattle.std.specs.Prelude.{◌≤◌, length}
use Rattle.mu_model_node.specs.BlobServer.{BlobPhase, NextBlock, NextChunk, Complete, Suspended}
use Rattle.mu_blob_answers.specs.Fits.{CanShow, HasShown}
use Rattle.mu_reference.specs.declared.update_table.UpdateStep.{UpdateStep}
use Rattle.mu_reference.specs.declared.update_table.UpdateStep.TheVariants.{Answer}

-- a row of the update table answers with a known status
abbrev pub IsKnown : UpdateStep → Type 0
IsKnown (Answer status) = status ≤ 7
IsKnown _ = Unit {0}

-- a Transfer Status can show the phase
abbrev pub IsShown : BlobPhase → Type 0
IsShown (NextBlock t p) = CanShow p × (length t.held ≤ 256)
IsShown (NextChunk t p c) = CanShow p × (length t.held ≤ 256)
IsShown (Suspended t p) = CanShow p × (length t.held ≤ 256)
IsShown (Complete t) = HasShown t.parameters × (length t.held ≤ 256)
IsShown _ = Unit {0}
