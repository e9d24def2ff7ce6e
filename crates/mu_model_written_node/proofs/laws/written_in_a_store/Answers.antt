use Rattle.mu_model_written_node.proofs.Written.{lost, taken, applied, activated}
use Rattle.mu_model_written_node.proofs.laws.written_in_a_store.Goals as goal

pub returns-clause-lost : goal.returns-clause-lost
returns-clause-lost c s part note d bank filling can fills is =
    (lost (record {
      good = c.images_of_banks.ensures.good;
      sound = c.represented_is_sound.ensures.node;
      tagged = c.states_stay.ensures.tagged;
      emptied = c.states_stay.ensures.emptied;
      a_tag = c.written_node.ensures.tag;
      read_back = c.written_node.ensures.read_back;
      kept = c.node_is_kept.ensures.kept;
      steps = c.node_steps.ensures.one_record;
      nodes = c.runs_are_read.ensures.nodes;
    }) s part note d bank can) c.node_is_kept.ensures.goes c.node_is_kept.ensures.none_left filling fills is

pub returns-clause-taken : goal.returns-clause-taken
returns-clause-taken c s part note d bank filling j can fills offered has is =
    (taken (record {
      good = c.images_of_banks.ensures.good;
      sound = c.represented_is_sound.ensures.node;
      tagged = c.states_stay.ensures.tagged;
      emptied = c.states_stay.ensures.emptied;
      a_tag = c.written_node.ensures.tag;
      read_back = c.written_node.ensures.read_back;
      kept = c.node_is_kept.ensures.kept;
      steps = c.node_steps.ensures.one_record;
      nodes = c.runs_are_read.ensures.nodes;
    }) s part note d bank can j is has offered) c.node_is_kept.ensures.comes c.node_is_kept.ensures.first filling fills

pub returns-clause-applied : goal.returns-clause-applied
returns-clause-applied c s b n note d bank can has stored is =
    (applied (record {
      good = c.images_of_banks.ensures.good;
      sound = c.represented_is_sound.ensures.node;
      tagged = c.states_stay.ensures.tagged;
      emptied = c.states_stay.ensures.emptied;
      a_tag = c.written_node.ensures.tag;
      read_back = c.written_node.ensures.read_back;
      kept = c.node_is_kept.ensures.kept;
      steps = c.node_steps.ensures.one_record;
      nodes = c.runs_are_read.ensures.nodes;
    }) s b n note d bank can has) c.node_is_kept.ensures.asked stored is

pub returns-clause-activated : goal.returns-clause-activated
returns-clause-activated c s b n note d bank can has stored is =
    (activated (record {
      good = c.images_of_banks.ensures.good;
      sound = c.represented_is_sound.ensures.node;
      tagged = c.states_stay.ensures.tagged;
      emptied = c.states_stay.ensures.emptied;
      a_tag = c.written_node.ensures.tag;
      read_back = c.written_node.ensures.read_back;
      kept = c.node_is_kept.ensures.kept;
      steps = c.node_steps.ensures.one_record;
      nodes = c.runs_are_read.ensures.nodes;
    }) s b n note d bank can has stored) c.node_is_kept.ensures.activated is
