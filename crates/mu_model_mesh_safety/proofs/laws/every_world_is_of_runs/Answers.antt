use Rattle.mu_model_mesh_safety.proofs.Every.{every_run}
use Rattle.mu_model_mesh_safety.proofs.laws.every_world_is_of_runs.Goals as goal

pub returns : goal.returns
returns c = every_run (record {
  fit = c.images.ensures.fit;
  metadata = c.images.ensures.metadata;
  made = c.made.ensures.size;
  lines = c.starts_are_offered.ensures.lines;
  range = c.script_event_is_in_range.ensures.range;
  octets = c.octets_say_fit.ensures;
  greatest = c.moments_are_the_greatest.ensures.steps;
  nodes = c.nodes_send_fit.ensures;
  updaters = c.updaters_send_fit.ensures;
  distributors = c.distributors_send_fit.ensures;
  packets = c.packets_say_starts.ensures;
  from = c.starts_are_offered.ensures.from;
  unused = c.starts_are_in_order.ensures.new;
  stocked = c.starts_are_in_order.ensures.stocked;
})
