use Rattle.mu_model_completion.specs.Completion.{push_turns, pull_turns}
use Rattle.mu_model_completion.proofs.Nobody.{nobody}
use Rattle.mu_model_completion.proofs.laws.nobody_is_dropped.Goals as goal
use Rattle.std.proofs.Common.{length, [], ◌∷◌}

pub returns-clause-push : goal.returns-clause-push
returns-clause-push c plan image to members from mode n =
    nobody c.drops_stay.ensures c.clients_are_sound.ensures.events c.clients_are_sound.ensures.begins plan image to members from (push_turns plan.sending (length to))
    (λ m le. c.push_completes.ensures.completes plan image to members from mode m le) n

pub returns-clause-pull : goal.returns-clause-pull
returns-clause-pull c plan image to members from mode n =
    nobody c.drops_stay.ensures c.clients_are_sound.ensures.events c.clients_are_sound.ensures.begins plan image (to ∷ []) members from (pull_turns plan.sending)
    (λ m le. c.pull_completes.ensures plan image to members from mode m le) n
