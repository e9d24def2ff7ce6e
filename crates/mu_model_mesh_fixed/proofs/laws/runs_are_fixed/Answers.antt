use Rattle.mu_model_mesh_fixed.proofs.Events.{CutLaws}
use Rattle.mu_model_mesh_fixed.proofs.Sound.{SoundLaws}
use Rattle.mu_model_mesh_fixed.proofs.Runs.{text_fixes, lines_fix, refused_untraced}
use Rattle.mu_model_mesh_fixed.proofs.laws.runs_are_fixed.Goals as goal

pub returns : goal.returns
returns c =
    let laws : CutLaws = record { ends = c.boots_are_told.ensures.ends; nodes = c.boots_are_told.ensures.nodes; distributors = c.boots_are_told.ensures.distributors } in
    let sound : SoundLaws = record {
      events = c.states_are_sound.ensures.events;
      boots = c.states_are_sound.ensures.boots;
      leaves = c.flash_work.ensures.left;
      order = c.runs_are_in_order.ensures.order;
    } in
    record {
      by_text = text_fixes laws sound c.every_world_is_of_runs.ensures;
      by_lines = lines_fix laws sound c.every_world_is_of_runs.ensures;
      refused = refused_untraced laws sound c.every_world_is_of_runs.ensures c.lines_come_to_one_thing.ensures.one;
    }
