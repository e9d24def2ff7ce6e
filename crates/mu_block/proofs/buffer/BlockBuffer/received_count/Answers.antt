use Rattle.std.proofs.Common.{◌∙◌, ℕ, ◌-◌, Option, take, ap}
use Rattle.mu_model_node.specs.Slots.{held_count}
use Rattle.mu_block.specs.Coming.{Coming, chunks_of}
use Rattle.mu_block.specs.Buffer.{coming}
use Rattle.mu_block.proofs.Views.{open_shows, received_by}
use Rattle.mu_block.proofs.buffer.BlockBuffer.received_count.Goals as goal

pub returns-then-self : goal.returns-then-self
returns-then-self c =
    ap (λ (n : ℕ). n - c.self.inside.left) c.bound.ensures.bound
    ∙ received_by (take c.self.inside.size c.self.inside.octets) c.self.inside.chunk_size c.self.inside.came c.self.inside.left c.self.invariant.missing ∙ ap (λ (v : Option Coming). held_count (chunks_of v)) (open_shows c.self.inside.open (coming c.self.inside.number c.self.inside.chunk_size c.self.inside.size c.self.inside.came c.self.inside.octets) c.args.self.now c.self.view_is c.if-self.true)
