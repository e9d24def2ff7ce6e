use Rattle.std.proofs.Common.{◌≡◌, map, drop}
use Rattle.mu_reference_node.specs.Logging.{what_of}
use Rattle.mu_world.specs.Outcome.{with_entries}
use Rattle.mu_world.proofs.state.State.enter_all.Given as goal

abbrev pub invariant-loop-what : goal.invariant-loop-what
invariant-loop-what l = record {
  log : with_entries l.self l.address (map what_of (drop l.what-index l.entries)) ≡ with_entries l.fn.self l.fn.address (map what_of l.entries);
}
