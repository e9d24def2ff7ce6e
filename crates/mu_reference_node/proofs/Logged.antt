-- The log looks at no transfer.
use Rattle.std.proofs.Common.{◌≡◌, ℕ, List, refl, sym, ap, ◌∙◌, Option, Some, None}
use Rattle.mu_model_node.specs.NodeState.{Job, NodeState, update_phase, update_number}
use Rattle.mu_model_node.specs.Log.{LogEntry, logged_by, logged}
use Rattle.mu_model_node.specs.There.{there}
use Rattle.mu_reference_node.specs.Logging.{bare}

bare_logged : (old new : Option Job) (before after : ℕ) → logged_by (there bare old) (there bare new) before after ≡ logged_by old new before after
bare_logged None None before after = refl
bare_logged None (Some new) before after = refl
bare_logged (Some old) None before after = refl
bare_logged (Some old) (Some new) before after = refl

pub logged_here : (s t : NodeState) (old new : Option Job) (before after : ℕ) (entries : List LogEntry) → old ≡ there bare s.durable.job → new ≡ there bare t.durable.job → before ≡ update_number (update_phase s) → after ≡ update_number (update_phase t) → entries ≡ logged_by old new before after → entries ≡ logged s t
logged_here s t old new before after entries e k b a is = is ∙ (rw (e, k, b, a) (bare_logged s.durable.job t.durable.job (update_number (update_phase s)) (update_number (update_phase t))))
