use Rattle.mu_model_completion.proofs.PullTheorem.{pull_completes}
use Rattle.mu_model_completion.proofs.laws.pull_completes.Goals as goal

pub returns : goal.returns
returns c plan image to members from mode n le =
    pull_completes c.plans_stay.ensures c.fields_are_read.ensures
    (record {
      blocks_joined = c.blocks-2.ensures.joined;
      blocks_within = c.blocks-2.ensures.within;
      block_long = c.blocks-2.ensures.length;
      chunks_joined = c.chunks.ensures.joined;
      chunks_within = c.chunks.ensures.within;
      chunk_long = c.chunks.ensures.length;
    })
    c.metadata.ensures.read_back c.images.ensures.tested plan image to members from mode n le
