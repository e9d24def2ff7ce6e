use Rattle.mu_model_script.specs.Limits.{most_lines, first_lines}
use Rattle.mu_model_world.specs.World.{new_world}
use Rattle.mu_model_world.specs.Run.{Step, Bars, Wears}
use Rattle.mu_top.specs.Replay.{ScriptEnds}
use Rattle.mu_top.proofs.HeldRuns.{ends_world}
use Rattle.mu_top.proofs.Working.{completes, alone}
use Rattle.mu_top.proofs.replay.replay.Goals as goal

pub returns-clause-ends : goal.returns-clause-ends
returns-clause-ends g c = ends_world most_lines _ _ _ _ c.run.result (rw c.in-Ok.ensures at c.run.ensures.ends)

pub returns-clause-complete : goal.returns-clause-complete
returns-clause-complete g c = λ reads writes.
    completes Step Bars Wears new_world most_lines ScriptEnds
    (λ held left written status ends must reads writes. record {
      must = must;
      fixed = λ fixes unworn. alone Step Bars Wears new_world most_lines held left written status
          (λ text whole number place word refuses prints. c.runs.ensures.refused (first_lines most_lines held) text whole number place word fixes refuses prints) must unworn;
    })
    _ _ _ _ c.run.result (ends_world most_lines _ _ _ _ c.run.result (rw c.in-Ok.ensures at c.run.ensures.ends)) (λ is. reads (c.run.ensures.source is)) (λ is. writes (c.run.ensures.sink is))
