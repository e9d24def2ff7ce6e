use Rattle.mu_model_mesh_completion.proofs.Scripts.{ScriptLaws, push_scripts_complete, pull_scripts_complete}
use Rattle.mu_model_mesh_completion.proofs.laws.scripts_complete.Goals as goal

pub returns : goal.returns
returns c =
    let laws : ScriptLaws = record { worlds = c.worlds_of_scripts.ensures.worlds; made = c.made.ensures.size; in_range = c.script_event_is_in_range.ensures.range } in
    record { push = push_scripts_complete laws c.settle_completes.ensures.push; pull = pull_scripts_complete laws c.settle_completes.ensures.pull }
