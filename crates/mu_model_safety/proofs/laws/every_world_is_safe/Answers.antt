use Rattle.mu_model_safety.proofs.Worlds.{every_world, every_cut}
use Rattle.mu_model_safety.proofs.laws.every_world_is_safe.Goals as goal

pub returns-clause-worlds : goal.returns-clause-worlds
returns-clause-worlds c = every_world c.images.ensures.fit c.made.ensures.size c.event_is_in_range.ensures c.one_node_is_safe.ensures

pub returns-clause-cuts : goal.returns-clause-cuts
returns-clause-cuts c = every_cut c.images.ensures.fit c.made.ensures.size c.event_is_in_range.ensures c.one_node_is_safe.ensures
