use Rattle.std.proofs.Common.{◌∙◌, Option, take, ap}
use Rattle.std.specs.Prelude.{is_none}
use Rattle.std.specs.List.{count_by}
use Rattle.mu_block.specs.Coming.{Coming, chunks_of}
use Rattle.mu_block.specs.Buffer.{coming}
use Rattle.mu_block.proofs.Views.{open_shows, missing_by}
use Rattle.mu_block.proofs.buffer.BlockBuffer.missing_count.Goals as goal

pub returns-then-self : goal.returns-then-self
returns-then-self c = c.self.invariant.missing ∙ missing_by (take c.self.inside.size c.self.inside.octets) c.self.inside.chunk_size c.self.inside.came ∙ ap (λ (v : Option Coming). count_by is_none (chunks_of v)) (open_shows c.self.inside.open (coming c.self.inside.number c.self.inside.chunk_size c.self.inside.size c.self.inside.came c.self.inside.octets) c.args.self.now c.self.view_is c.if-self.true)
