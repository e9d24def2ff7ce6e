use Rattle.mu_model_mesh_images.proofs.Active.{new_images_are_offered}
use Rattle.mu_model_mesh_images.proofs.Events.{EventLaws}
use Rattle.mu_model_mesh_images.proofs.Runs.{offers_are_of_images}
use Rattle.mu_model_mesh_images.proofs.laws.offers_are_images.Goals as goal

pub returns : goal.returns
returns c =
    let laws : EventLaws = record {
      order = c.runs_are_in_order.ensures.order;
      stored = c.starts_are_of_images.ensures;
      read = c.starts_are_offered.ensures.both;
      nodes = c.nodes_send_fit.ensures;
      plans = c.plans_stay.ensures;
    } in
    let offers = offers_are_of_images laws c.images.ensures.fit c.every_world_is_of_runs.ensures in
    record {
      offers = offers;
      images = new_images_are_offered c.metadata.ensures.read_back c.every_world_is_safe.ensures.worlds c.every_world_is_safe.ensures.facts offers;
    }
