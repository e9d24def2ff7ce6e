use Rattle.std.proofs.Common.{◌∙◌, Option, take, sym, ap}
use Rattle.mu_model_node.specs.Slots.{received}
use Rattle.mu_block.specs.Coming.{Coming, chunks_of}
use Rattle.mu_block.specs.Buffer.{coming}
use Rattle.mu_block.proofs.Views.{open_shows}
use Rattle.mu_model_wire.specs.Reports.{complement}
use Rattle.mu_block.proofs.Chunks.{came_there}
use Rattle.mu_block.proofs.Counts.{twice}
use Rattle.mu_block.proofs.buffer.BlockBuffer.received.Goals as goal

pub returns-then-self : goal.returns-then-self
returns-then-self c =
    c.missing-then-self.ensures ∙ ap complement c.missing.ensures ∙ twice c.self.inside.came
    ∙ sym (came_there (take c.self.inside.size c.self.inside.octets) c.self.inside.chunk_size c.self.inside.came) ∙ ap (λ (v : Option Coming). received (chunks_of v)) (open_shows c.self.inside.open (coming c.self.inside.number c.self.inside.chunk_size c.self.inside.size c.self.inside.came c.self.inside.octets) c.args.self.now c.self.view_is c.if-self.true)
