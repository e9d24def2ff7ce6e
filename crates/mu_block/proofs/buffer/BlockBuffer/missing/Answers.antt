use Rattle.std.proofs.Common.{◌∙◌, Option, take, sym, ap}
use Rattle.mu_model_node.specs.Slots.{received, missing}
use Rattle.mu_block.specs.Coming.{Coming, chunks_of}
use Rattle.mu_block.specs.Buffer.{coming}
use Rattle.mu_block.proofs.Views.{open_shows, missing_set}
use Rattle.mu_model_wire.specs.Reports.{complement}
use Rattle.mu_block.proofs.Chunks.{came_there}
use Rattle.mu_block.proofs.buffer.BlockBuffer.missing.Goals as goal

pub returns-then-self-clause-missing : goal.returns-then-self-clause-missing
returns-then-self-clause-missing c = c.missing.ensures ∙ missing_set (take c.self.inside.size c.self.inside.octets) c.self.inside.chunk_size c.self.inside.came ∙ ap (λ (v : Option Coming). missing (chunks_of v)) (open_shows c.self.inside.open (coming c.self.inside.number c.self.inside.chunk_size c.self.inside.size c.self.inside.came c.self.inside.octets) c.args.self.now c.self.view_is c.if-self.true)

pub returns-then-self-clause-rest : goal.returns-then-self-clause-rest
returns-then-self-clause-rest c = c.missing.ensures ∙ ap complement (sym (came_there (take c.self.inside.size c.self.inside.octets) c.self.inside.chunk_size c.self.inside.came) ∙ ap (λ (v : Option Coming). received (chunks_of v)) (open_shows c.self.inside.open (coming c.self.inside.number c.self.inside.chunk_size c.self.inside.size c.self.inside.came c.self.inside.octets) c.args.self.now c.self.view_is c.if-self.true))
