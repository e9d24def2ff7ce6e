use Rattle.mu_block.proofs.Views.{opens}
use Rattle.mu_block.proofs.buffer.BlockBuffer.open.Goals as goal

pub returns : goal.returns
returns c = opens c.args.number c.args.chunk_size c.args.size c.chunk_count-count.result c.new-self-inside.result c.self.inside.octets c.new-self-inside.ensures c.chunk_count-count.ensures.count
