use Rattle.mu_model_mesh_safety.proofs.Every.{LineLaws, FactLaws, every_world, every_cut, every_list, every_list_stays, every_fact, every_fact_stays}
use Rattle.mu_model_mesh_safety.proofs.ShownLaws.{MemberLaws}
use Rattle.mu_model_mesh_safety.proofs.ShownOctets.{octets_offer}
use Rattle.mu_model_mesh_safety.proofs.laws.every_world_is_safe.Goals as goal

lines_of : goal.After-rows_are_reached → LineLaws
lines_of c = record {
  fit = c.images.ensures.fit;
  metadata = c.images.ensures.metadata;
  made = c.made.ensures.size;
  lines = c.starts_are_offered.ensures.lines;
  range = c.script_event_is_in_range.ensures.range;
  octets = c.octets_say_fit.ensures;
  greatest = c.moments_are_the_greatest.ensures.steps;
  nodes = c.nodes_send_fit.ensures;
  updaters = c.updaters_send_fit.ensures;
  distributors = c.distributors_send_fit.ensures;
  packets = c.packets_say_starts.ensures;
  from = c.starts_are_offered.ensures.from;
  unused = c.starts_are_in_order.ensures.new;
  stocked = c.starts_are_in_order.ensures.stocked;
}

members_of : goal.After-rows_are_reached → MemberLaws
members_of c = record {
  again = c.metadata.ensures.read_back;
  ids = c.firmware_ids.ensures;
  octets = octets_offer c.grammar_holds.ensures c.reads_what_is_spelled.ensures c.metadata.ensures.in_range;
  one = c.one_node_is_safe.ensures;
  fit = c.nodes_send_fit.ensures;
  taken = c.jobs_are_logged.ensures.taken;
  asked = c.jobs_are_logged.ensures.asked;
  rise = c.versions_rise.ensures.rise;
  since = c.versions_rise.ensures.since;
  held = c.verified_is_held.ensures;
  came = c.took_was_offered.ensures;
  read = c.starts_are_offered.ensures.both;
  receivers = c.rows_are_told.ensures.receivers;
  nothing = c.nothing_else.ensures;
  stay = c.plans_stay.ensures;
  say = c.packets_say_starts.ensures;
  own = c.offers_agree.ensures.own;
  starts = c.offers_agree.ensures.starts;
  heard = c.offers_agree.ensures.heard;
  heard_own = c.offers_agree.ensures.heard_own;
  rows = c.offers_agree.ensures.rows;
  lists = c.offers_agree.ensures.lists;
  order = c.runs_are_in_order.ensures.order;
  stand = c.rows_are_told-2.ensures.stand;
  two = c.opcodes_are_kept.ensures.two;
  row_reached = c.lists_are_reached.ensures.rows;
  list_true = c.lists_are_reached.ensures.new;
  row_true = c.rows_are_reached.ensures.new;
}

pub returns-clause-worlds : goal.returns-clause-worlds
returns-clause-worlds c = every_world (lines_of c) (members_of c)

pub returns-clause-cuts : goal.returns-clause-cuts
returns-clause-cuts c = every_cut (lines_of c) (members_of c)

facts_of : goal.After-rows_are_reached → FactLaws
facts_of c = record {
  sent = c.told_is_reached.ensures.all;
  lost = c.runs_are_in_order.ensures.numbers;
  rise = c.starts_are_offered-2.ensures.counters;
  jobs = c.jobs_are_logged.ensures.job;
  on = c.jobs_go_on.ensures;
}

pub returns-clause-lists : goal.returns-clause-lists
returns-clause-lists c = every_list (lines_of c) (members_of c)

pub returns-clause-lists_after : goal.returns-clause-lists_after
returns-clause-lists_after c = every_list_stays (lines_of c) (members_of c)

pub returns-clause-facts : goal.returns-clause-facts
returns-clause-facts c = every_fact (lines_of c) (members_of c) (facts_of c)

pub returns-clause-facts_after : goal.returns-clause-facts_after
returns-clause-facts_after c = every_fact_stays (lines_of c) (members_of c) (facts_of c)
