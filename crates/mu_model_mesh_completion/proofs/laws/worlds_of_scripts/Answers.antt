use Rattle.mu_model_mesh_completion.proofs.OfRuns.{WorldLaws, worlds_of_scripts}
use Rattle.mu_model_mesh_completion.proofs.Worked.{one_node}
use Rattle.mu_model_mesh_completion.proofs.laws.worlds_of_scripts.Goals as goal

pub returns : goal.returns
returns c =
    let laws : WorldLaws = record {
      runs = record {
        nodes = record {
          images = c.images.ensures.metadata;
          requests = c.states_are_sound.ensures.requests;
          time = c.states_are_sound.ensures.time;
          phases = c.states_are_sound.ensures.phases;
          told = c.told_phase.ensures;
        };
        boots = c.states_are_sound.ensures.boots;
        work = c.flash_work.ensures.left;
      };
      plans = c.plans_stay.ensures;
    } in
    record { worlds = worlds_of_scripts laws c.every_world_is_of_runs.ensures; one_node = one_node c.images.ensures.fit c.states_are_sound.ensures.boots }
