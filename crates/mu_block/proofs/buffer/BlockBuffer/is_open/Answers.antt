use Rattle.mu_block.specs.Buffer.{coming}
use Rattle.mu_block.proofs.Views.{is_coming, open_is_coming}
use Rattle.mu_block.proofs.buffer.BlockBuffer.is_open.Goals as goal

pub returns-clause-sound : goal.returns-clause-sound
returns-clause-sound c =
    open_is_coming c.self.inside.open (coming c.self.inside.number c.self.inside.chunk_size c.self.inside.size c.self.inside.came c.self.inside.octets) c.args.self.now c.self.view_is
    (is_coming c.self.inside.number c.self.inside.chunk_size c.self.inside.size c.self.inside.came c.self.inside.left c.self.inside.octets c.self.invariant)
