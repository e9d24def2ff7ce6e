use Rattle.std.proofs.Common.{◌∙◌, sym}
use Rattle.mu_block.proofs.Views.{whole_shows, whole_sized}
use Rattle.mu_block.proofs.buffer.BlockBuffer.octets.Goals as goal

pub returns-clause-octets : goal.returns-clause-octets
returns-clause-octets c =
    whole_shows c.self.inside.open c.self.inside.number c.self.inside.chunk_size c.self.inside.size c.self.inside.came c.self.inside.left c.self.inside.octets c.args.self.now c.split_at.result.0.now
    c.self.view_is c.self.invariant (sym c.is_full.ensures ∙ c.if-not-is_full.false) c.chunks.ensures.joined c.split_at.ensures.front

pub returns-clause-length : goal.returns-clause-length
returns-clause-length c =
    whole_sized c.self.inside.open c.self.inside.number c.self.inside.chunk_size c.self.inside.size c.self.inside.came c.self.inside.left c.self.inside.octets c.args.self.now c.split_at.result.0.now
    c.self.view_is c.self.invariant (sym c.is_full.ensures ∙ c.if-not-is_full.false) c.split_at.ensures.front
