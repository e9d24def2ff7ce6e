use Rattle.std.proofs.Common.{◌∙◌, take, ap}
use Rattle.mu_block.specs.Coming.{is_whole}
use Rattle.mu_block.specs.Buffer.{coming}
use Rattle.mu_block.proofs.Views.{open_shows, full_by}
use Rattle.mu_block.proofs.buffer.BlockBuffer.is_full.Goals as goal

pub returns-then-self : goal.returns-then-self
returns-then-self c = full_by (take c.self.inside.size c.self.inside.octets) c.self.inside.chunk_size c.self.inside.came c.self.inside.left c.self.invariant.missing ∙ ap is_whole (open_shows c.self.inside.open (coming c.self.inside.number c.self.inside.chunk_size c.self.inside.size c.self.inside.came c.self.inside.octets) c.args.self.now c.self.view_is c.if-self.true)
