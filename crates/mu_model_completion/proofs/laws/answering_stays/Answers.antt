use Rattle.mu_model_completion.proofs.Stays.{answering_stays}
use Rattle.mu_model_completion.proofs.laws.answering_stays.Goals as goal

pub returns : goal.returns
returns c plan image to config node ts update mode can one_of none_twice unicast others in_time =
    answering_stays c.plans_stay.ensures c.fields_are_read.ensures
    (record {
      blocks_joined = c.blocks-2.ensures.joined;
      blocks_within = c.blocks-2.ensures.within;
      block_long = c.blocks-2.ensures.length;
      chunks_joined = c.chunks.ensures.joined;
      chunks_within = c.chunks.ensures.within;
      chunk_long = c.chunks.ensures.length;
    })
    c.metadata.ensures.read_back c.images.ensures.tested plan image to config node update mode can c.named_sets.ensures.named c.named_sets.ensures.read c.reports.ensures.one_set c.reports.ensures.in_order c.reports.ensures.of_a_set ts one_of none_twice unicast others in_time
