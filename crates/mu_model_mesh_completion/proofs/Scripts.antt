-- Completion in scripts.
use Rattle.std.proofs.Common.{ℕ, length, subst, Option, Some, Result, Ok}
use Rattle.mu_model_script.specs.Event.{Event, Settle}
use Rattle.mu_model_script.specs.declared.LineFault.{LineFault}
use Rattle.mu_model_updater.specs.Updater.{UpdaterLine}
use Rattle.mu_model_mesh.specs.Mesh.{Mesh}
use Rattle.mu_model_mesh.specs.MeshJudged.{mesh_judged_by}
use Rattle.mu_model_mesh.specs.MeshRun.{IsDone}
use Rattle.mu_model_completion.specs.Completion.{push_turns, pull_turns}
use Rattle.mu_model_image.specs.Laws.{MadeImageHasItsSize}
use Rattle.mu_model_script.specs.Laws.{ScriptEventIsInRange}
use Rattle.mu_model_mesh_completion.proofs.Lines.{made_in_range}
use Rattle.mu_model_mesh_completion.specs.Laws.{SettlesTo, sending_of, PushSettles, PullSettles, WorldsOfScripts, SettlesIn, PushScriptsComplete, PullScriptsComplete}

settled : (line : UpdaterLine) (m next : Mesh) (least : ℕ) (s : SettlesIn line m least next) → SettlesTo s.turns m s.text next
settled line m next least s =
    let done : IsDone m (mesh_judged_by m s.settle (Ok (Some (Settle s.turns)))) s.text next = subst (λ (r : Result (Option Event) LineFault). IsDone m (mesh_judged_by m s.settle r) s.text next) s.says s.done.done in
    done.1

pub record ScriptLaws : Type 0 where
  pub worlds : WorldsOfScripts
  pub made : MadeImageHasItsSize
  pub in_range : ScriptEventIsInRange

pub push_scripts_complete : ScriptLaws → PushSettles → PushScriptsComplete
push_scripts_complete laws settle line m next mode s =
    settle line m next s.text s.turns (laws.worlds s.before s.shown m s.run) (made_in_range laws.made laws.in_range s.before line s.made) s.can mode s.enough
    (settled line m next (push_turns (sending_of line) (length line.receivers)) s)

pub pull_scripts_complete : ScriptLaws → PullSettles → PullScriptsComplete
pull_scripts_complete laws settle line to m next mode one s =
    settle line to m next s.text s.turns (laws.worlds s.before s.shown m s.run) (made_in_range laws.made laws.in_range s.before line s.made) s.can mode one s.enough
    (settled line m next (pull_turns (sending_of line)) s)
