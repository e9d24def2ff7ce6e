use Rattle.mu_model_completion.proofs.Theorem.{push_completes}
use Rattle.mu_model_completion.proofs.Sharp.{takes_all}
use Rattle.mu_model_completion.proofs.laws.push_completes.Goals as goal

pub returns-clause-completes : goal.returns-clause-completes
returns-clause-completes c plan image to members from mode n le =
    push_completes c.plans_stay.ensures c.fields_are_read.ensures
    (record {
      blocks_joined = c.blocks-2.ensures.joined;
      blocks_within = c.blocks-2.ensures.within;
      block_long = c.blocks-2.ensures.length;
      chunks_joined = c.chunks.ensures.joined;
      chunks_within = c.chunks.ensures.within;
      chunk_long = c.chunks.ensures.length;
    })
    c.metadata.ensures.read_back c.images.ensures.tested plan image to members from mode n le

pub returns-clause-takes_all : goal.returns-clause-takes_all
returns-clause-takes_all c plan image to members from mode group few full =
    takes_all c.plans_stay.ensures c.fields_are_read.ensures
    (record {
      blocks_joined = c.blocks-2.ensures.joined;
      blocks_within = c.blocks-2.ensures.within;
      block_long = c.blocks-2.ensures.length;
      chunks_joined = c.chunks.ensures.joined;
      chunks_within = c.chunks.ensures.within;
      chunk_long = c.chunks.ensures.length;
    })
    c.metadata.ensures.read_back c.images.ensures.tested plan image to members from mode group few full
