use Rattle.std.proofs.Common.{◌∙◌, Option, take, ap}
use Rattle.std.specs.Prelude.{is_some}
use Rattle.mu_model_node.specs.Slots.{at}
use Rattle.mu_block.specs.Coming.{Coming, chunks_of}
use Rattle.mu_block.specs.Buffer.{coming}
use Rattle.mu_block.proofs.Views.{open_shows, there_by}
use Rattle.mu_block.proofs.buffer.BlockBuffer.has.Goals as goal

pub returns-then-self : goal.returns-then-self
returns-then-self c = c.contains.ensures ∙ there_by (take c.self.inside.size c.self.inside.octets) c.self.inside.chunk_size c.self.inside.came c.args.chunk ∙ ap (λ (v : Option Coming). is_some (at (chunks_of v) c.args.chunk)) (open_shows c.self.inside.open (coming c.self.inside.number c.self.inside.chunk_size c.self.inside.size c.self.inside.came c.self.inside.octets) c.args.self.now c.self.view_is c.if-self.true)
