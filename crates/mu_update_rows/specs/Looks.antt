-- What the rows look at of a node in the model.
use Rattle.std.specs.Prelude.{ℕ, ◌≡◌, ◌&&◌, List, [], ◌∷◌, map, Option, Some, None, is_some}
pub use Rattle.mu_model_node.specs.There.{there}
use Rattle.mu_model_image.specs.declared.Meta.{Meta}
use Rattle.mu_model_node.specs.Slots.{is_full}
use Rattle.mu_model_node.specs.NodeState.{Job, NodeState, UpdatePhase, Idle, TransferError, TransferActive, Verifying, Succeeded, Failed, Applying}
use Rattle.mu_update_rows.specs.declared.look.ActiveMetas.{ActiveMetas}
use Rattle.mu_update_rows.specs.declared.look.JobLook.{JobLook}
use Rattle.mu_update_rows.specs.declared.look.NodeLook.{NodeLook}
use Rattle.mu_update_rows.specs.declared.phases.Phase.{Phase}
use Rattle.mu_update_rows.specs.declared.phases.Phase.TheVariants.{Idle as AtIdle, TransferError as AtTransferError, TransferActive as AtTransferActive, Verifying as AtVerifying, Succeeded as AtSucceeded, Failed as AtFailed, Applying as AtApplying}

abbrev pub listed : {A : Type 0} → Option A → List A
listed None = []
listed (Some a) = a ∷ []

-- the metadata of the active images by index
abbrev pub one_or_two : ActiveMetas → List Meta
one_or_two active = active.first ∷ listed active.second

abbrev pub look_at : Job → JobLook
look_at j = record { id = j.id; index = j.index; meta = j.meta; ttl = j.ttl; base = j.base; stored = j.stored; is_whole = is_some j.parameters && is_full j.held }

-- the numbers are those of the node
pub record LooksAs (look : NodeLook) (s : NodeState) : Type 0 where
  pub capacity : look.capacity ≡ s.durable.capacity
  pub active : one_or_two look.active ≡ map (λ image. image.meta) s.durable.images
  pub job : look.job ≡ there look_at s.durable.job
  pub link : look.link ≡ s.session.link

-- a phase without what it has
abbrev pub kind_of : UpdatePhase → Phase
kind_of Idle = AtIdle
kind_of (TransferError j) = AtTransferError
kind_of (TransferActive j) = AtTransferActive
kind_of (Verifying j) = AtVerifying
kind_of (Succeeded j) = AtSucceeded
kind_of (Failed j) = AtFailed
kind_of (Applying j) = AtApplying

-- the phase on the wire (MshDFU, Update Phase)
abbrev pub phase_number : Phase → ℕ
phase_number AtIdle = 0
phase_number AtTransferError = 1
phase_number AtTransferActive = 2
phase_number AtVerifying = 3
phase_number AtSucceeded = 4
phase_number AtFailed = 5
phase_number AtApplying = 6
