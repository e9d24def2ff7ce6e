-- The phase from what is looked at.
use Rattle.std.proofs.Common.{◌≡◌, Bool, true, false, Option, Some, None, refl, cond}
use Rattle.std.specs.Prelude.{◌&&◌, is_some}
use Rattle.mu_model_node.specs.Slots.{is_full}
use Rattle.mu_model_node.specs.declared.Parameters.{Parameters}
use Rattle.mu_model_node.specs.declared.Link.{Link}
use Rattle.mu_model_node.specs.declared.Link.TheVariants.{Cut, Ready, Running}
use Rattle.mu_model_node.specs.declared.Stored.{Stored}
use Rattle.mu_model_node.specs.declared.Stored.TheVariants.{Filling, Verified, Refused, Applied}
use Rattle.mu_model_node.specs.NodeState.{Job, NodeState, UpdatePhase, Idle, TransferError, TransferActive, Verifying, Succeeded, Failed, Applying, link_phase, filling_phase, stored_phase, job_phase, update_phase}
use Rattle.mu_update_rows.specs.Looks.{there, look_at, LooksAs, kind_of}
use Rattle.mu_update_rows.specs.Decided.{linked_seen, stored_seen, phase_seen}
use Rattle.mu_update_rows.specs.declared.look.NodeLook.{NodeLook}

linked_is : (j : Job) (link : Link) → linked_seen link ≡ kind_of (link_phase j link)
linked_is j Cut = refl
linked_is j Ready = refl
linked_is j Running = refl

full_is : (j : Job) (link : Link) (full : Bool) → stored_seen link full Filling ≡ kind_of (cond full (Verifying j) (link_phase j link))
full_is j link true = refl
full_is j link false = linked_is j link

filling_is : (j : Job) (link : Link) (p : Option Parameters) → stored_seen link (is_some p && is_full j.held) Filling ≡ kind_of (filling_phase j link p)
filling_is j link None = linked_is j link
filling_is j link (Some p) = full_is j link (is_full j.held)

stored_is : (j : Job) (link : Link) (stored : Stored) → stored_seen link (is_some j.parameters && is_full j.held) stored ≡ kind_of (stored_phase j link stored)
stored_is j link Filling = filling_is j link j.parameters
stored_is j link Verified = refl
stored_is j link Refused = refl
stored_is j link Applied = refl

job_is : (link : Link) (job : Option Job) → phase_seen link (there look_at job) ≡ kind_of (job_phase link job)
job_is link None = refl
job_is link (Some j) = stored_is j link j.stored

pub phase_is : (look : NodeLook) (s : NodeState) → LooksAs look s → phase_seen look.link look.job ≡ kind_of (update_phase s)
phase_is look s looks = rw (looks.link, looks.job) (job_is s.session.link s.durable.job)

-- ---- the job that a phase has is the node's

abbrev pub JobIs : UpdatePhase → Option Job → Type 0
JobIs Idle job = job ≡ None
JobIs (TransferError j) job = job ≡ Some j
JobIs (TransferActive j) job = job ≡ Some j
JobIs (Verifying j) job = job ≡ Some j
JobIs (Succeeded j) job = job ≡ Some j
JobIs (Failed j) job = job ≡ Some j
JobIs (Applying j) job = job ≡ Some j

linked_has : (j : Job) (link : Link) → JobIs (link_phase j link) (Some j)
linked_has j Cut = refl
linked_has j Ready = refl
linked_has j Running = refl

full_has : (j : Job) (link : Link) (full : Bool) → JobIs (cond full (Verifying j) (link_phase j link)) (Some j)
full_has j link true = refl
full_has j link false = linked_has j link

filling_has : (j : Job) (link : Link) (p : Option Parameters) → JobIs (filling_phase j link p) (Some j)
filling_has j link None = linked_has j link
filling_has j link (Some p) = full_has j link (is_full j.held)

stored_has : (j : Job) (link : Link) (stored : Stored) → JobIs (stored_phase j link stored) (Some j)
stored_has j link Filling = filling_has j link j.parameters
stored_has j link Verified = refl
stored_has j link Refused = refl
stored_has j link Applied = refl

pub phase_has : (link : Link) (job : Option Job) → JobIs (job_phase link job) job
phase_has link None = refl
phase_has link (Some j) = stored_has j link j.stored
