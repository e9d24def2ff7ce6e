use Rattle.std.proofs.Common.{◌∙◌, Option, length, take, sym, ap}
use Rattle.mu_block.specs.Coming.{Coming, chunks_of}
use Rattle.mu_block.specs.Buffer.{coming}
use Rattle.mu_block.proofs.Views.{open_shows}
use Rattle.mu_block.proofs.Chunks.{count_of_chunks}
use Rattle.mu_block.proofs.buffer.BlockBuffer.count.Goals as goal

pub returns-then-self : goal.returns-then-self
returns-then-self c = c.bound.ensures.bound ∙ sym (count_of_chunks (take c.self.inside.size c.self.inside.octets) c.self.inside.chunk_size c.self.inside.came) ∙ ap (λ (v : Option Coming). length (chunks_of v)) (open_shows c.self.inside.open (coming c.self.inside.number c.self.inside.chunk_size c.self.inside.size c.self.inside.came c.self.inside.octets) c.args.self.now c.self.view_is c.if-self.true)
