use Rattle.mu_model_written_node.proofs.Changed.{begun_is, dropped_is, put_is}
use Rattle.mu_model_written_node.proofs.laws.changed_in_a_store.Goals as goal

pub returns-clause-begun : goal.returns-clause-begun
returns-clause-begun c s b n note d bank p can has stored mtu sound =
    (begun_is (record {
      laws = record {
        good = c.images_of_banks.ensures.good;
        sound = c.represented_is_sound.ensures.node;
        tagged = c.states_stay.ensures.tagged;
        emptied = c.states_stay.ensures.emptied;
        a_tag = c.written_node.ensures.tag;
        read_back = c.written_node.ensures.read_back;
        kept = c.node_is_kept.ensures.kept;
        steps = c.node_steps.ensures.one_record;
        nodes = c.runs_are_read.ensures.nodes;
      };
      begun = c.states_stay.ensures.begun;
      block = c.states_stay.ensures.block;
      new_part = c.parts.ensures.new_part;
      begins = c.node_is_kept.ensures.begins;
      drops = c.node_is_kept.ensures.drops;
      puts = c.blocks_of_jobs.ensures.node;
      begin_steps = c.node_steps.ensures.begin;
      put_steps = c.node_steps.ensures.block;
    }) s b n note d bank can has) p stored mtu sound

pub returns-clause-dropped : goal.returns-clause-dropped
returns-clause-dropped c s b n note d bank can has stored filling sound =
    (dropped_is (record {
      laws = record {
        good = c.images_of_banks.ensures.good;
        sound = c.represented_is_sound.ensures.node;
        tagged = c.states_stay.ensures.tagged;
        emptied = c.states_stay.ensures.emptied;
        a_tag = c.written_node.ensures.tag;
        read_back = c.written_node.ensures.read_back;
        kept = c.node_is_kept.ensures.kept;
        steps = c.node_steps.ensures.one_record;
        nodes = c.runs_are_read.ensures.nodes;
      };
      begun = c.states_stay.ensures.begun;
      block = c.states_stay.ensures.block;
      new_part = c.parts.ensures.new_part;
      begins = c.node_is_kept.ensures.begins;
      drops = c.node_is_kept.ensures.drops;
      puts = c.blocks_of_jobs.ensures.node;
      begin_steps = c.node_steps.ensures.begin;
      put_steps = c.node_steps.ensures.block;
    }) s b n note d bank can has) stored filling sound

pub returns-clause-put : goal.returns-clause-put
returns-clause-put c s b n note d i octets state is has can =
    put_is (record {
      laws = record {
        good = c.images_of_banks.ensures.good;
        sound = c.represented_is_sound.ensures.node;
        tagged = c.states_stay.ensures.tagged;
        emptied = c.states_stay.ensures.emptied;
        a_tag = c.written_node.ensures.tag;
        read_back = c.written_node.ensures.read_back;
        kept = c.node_is_kept.ensures.kept;
        steps = c.node_steps.ensures.one_record;
        nodes = c.runs_are_read.ensures.nodes;
      };
      begun = c.states_stay.ensures.begun;
      block = c.states_stay.ensures.block;
      new_part = c.parts.ensures.new_part;
      begins = c.node_is_kept.ensures.begins;
      drops = c.node_is_kept.ensures.drops;
      puts = c.blocks_of_jobs.ensures.node;
      begin_steps = c.node_steps.ensures.begin;
      put_steps = c.node_steps.ensures.block;
    }) s b n note d i octets state is has can
