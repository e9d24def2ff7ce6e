-- What a sound node tells can be shown.
use Rattle.std.proofs.Common.{◌≡◌, ◌≤◌, ◌<◌, ℕ, zero, suc, Bool, true, false, List, [], ◌∷◌, take, drop, refl, ap, cond, arith, Option, Some, None}
use Rattle.std.specs.Prelude.{is_some}
use Rattle.mu_model_image.specs.Meta.{Image}
use Rattle.mu_model_node.specs.declared.Parameters.{Parameters}
use Rattle.mu_model_node.specs.Slots.{Slots, is_full}
use Rattle.mu_model_node.specs.BlobServer.{Transfer, CurrentBlock, Session, Lacking, serving_phase, transfer_phase}
use Rattle.mu_model_node.specs.declared.Link.{Link}
use Rattle.mu_model_node.specs.declared.Link.TheVariants.{Cut, Ready, Running}
use Rattle.mu_model_node.specs.declared.Stored.{Stored}
use Rattle.mu_model_node.specs.declared.Stored.TheVariants.{Filling, Verified, Refused, Applied}
use Rattle.mu_model_node.specs.NodeState.{Job, NodeState, UpdatePhase, Idle, TransferError, TransferActive, Verifying, Succeeded, Failed, Applying, update_number, link_phase, filling_phase, stored_phase, job_phase, serving_in, transfer_of, blob_phase}
use Rattle.mu_model_node.specs.Sound.{HasBlocks, StoredIs, HasJob, IsNodeState, IsTransfer, IsPhase}
use Rattle.mu_blob_rows.specs.declared.looks.BlobPhase.{BlobPhase as PhaseLook}
use Rattle.mu_blob_rows.specs.declared.looks.BlobPhase.TheVariants.{Inactive as InactiveLook, WaitingForStart as WaitingLook, NextBlock as BlockLook, NextChunk as ChunkLook, Complete as CompleteLook, Suspended as SuspendedLook}
use Rattle.mu_blob_rows.specs.Looks.{phase_with}
use Rattle.mu_blob_answers.specs.Fits.{IsShown as LookIsShown}
use Rattle.mu_reference.specs.Words.{ids_of}
use Rattle.mu_reference.specs.UpdateRows.{JobIs}
use Rattle.mu_reference.specs.Fits.{IsShown}
use Rattle.mu_update_rows.specs.Fits.{AreIds}
use Rattle.mu_blob_answers.specs.Fits.{CanShow, HasShown}

-- ---- phases

shows : (t : Transfer) (p : Parameters) → IsTransfer t p → CanShow p
shows t p h = record { mode = h.blocks.mode_below; size = h.some; log_above = omega (arith, h.blocks.log_above); log_below = omega (arith, h.blocks.log_below); mtu = h.blocks.mtu_above }

transfer_shown : (t : Transfer) (parameters : Option Parameters) (link : Link) (current : Option CurrentBlock) → IsPhase (transfer_phase t parameters link current) → IsShown (transfer_phase t parameters link current)
transfer_shown t None Cut current h = tt
transfer_shown t None Ready current h = tt
transfer_shown t None Running current h = tt
transfer_shown t (Some p) Cut current h = (shows t p h, h.few_blocks)
transfer_shown t (Some p) Ready current h = (shows t p h, h.few_blocks)
transfer_shown t (Some p) Running None h = (shows t p h, h.few_blocks)
transfer_shown t (Some p) Running (Some c) h = (shows t p h.transfer, h.transfer.few_blocks)

lacking_shown : (l : Session) (t : Transfer) → IsPhase (serving_phase l (Lacking t)) → IsShown (serving_phase l (Lacking t))
lacking_shown l t h = transfer_shown t t.parameters l.link l.current h

linked_shown : (j : Job) (l : Session) (link : Link) → IsPhase (serving_phase l (serving_in (link_phase j link))) → IsShown (serving_phase l (serving_in (link_phase j link)))
linked_shown j l Cut h = lacking_shown l (transfer_of j) h
linked_shown j l Ready h = lacking_shown l (transfer_of j) h
linked_shown j l Running h = lacking_shown l (transfer_of j) h

has_shown : (size : ℕ) (parameters : Option Parameters) (held : Slots) → 0 < size → is_some parameters ≡ true → HasBlocks size parameters held → HasShown parameters
has_shown size None held some e h = cc
has_shown size (Some p) held some e h = record { mode = h.mode_below; size = omega (arith, h.size); log_above = omega (arith, h.log_above); log_below = omega (arith, h.log_below); mtu = h.mtu_above }

full_shown : (j : Job) (l : Session) (link : Link) (full : Bool) → HasShown j.parameters → IsPhase (serving_phase l (serving_in (cond full (Verifying j) (link_phase j link)))) → IsShown (serving_phase l (serving_in (cond full (Verifying j) (link_phase j link))))
full_shown j l link true k h = (k, h)
full_shown j l link false k h = linked_shown j l link h

filling_shown : (j : Job) (l : Session) (link : Link) (parameters : Option Parameters) → j.parameters ≡ parameters → 0 < j.meta.size → HasBlocks j.meta.size j.parameters j.held → IsPhase (serving_phase l (serving_in (filling_phase j link parameters))) → IsShown (serving_phase l (serving_in (filling_phase j link parameters)))
filling_shown j l link None e some k h = linked_shown j l link h
filling_shown j l link (Some p) e some k h = full_shown j l link (is_full j.held) (has_shown j.meta.size j.parameters j.held some (ap is_some e) k) h

stored_shown : (j : Job) (l : Session) (link : Link) (stored : Stored) → StoredIs j stored → 0 < j.meta.size → HasBlocks j.meta.size j.parameters j.held → IsPhase (serving_phase l (serving_in (stored_phase j link stored))) → IsShown (serving_phase l (serving_in (stored_phase j link stored)))
stored_shown j l link Filling is some k h = filling_shown j l link j.parameters refl some k h
stored_shown j l link Verified is some k h = (has_shown j.meta.size j.parameters j.held some is.parameters k, h)
stored_shown j l link Refused is some k h = tt
stored_shown j l link Applied is some k h = (has_shown j.meta.size j.parameters j.held some is.parameters k, h)

job_shown : (capacity : ℕ) (images : List Image) (l : Session) (link : Link) (job : Option Job) → HasJob capacity images job → IsPhase (serving_phase l (serving_in (job_phase link job))) → IsShown (serving_phase l (serving_in (job_phase link job)))
job_shown capacity images l link None k h = tt
job_shown capacity images l link (Some j) k h = stored_shown j l link j.stored k.stored k.some k.blocks h

pub phase_is_shown : (s : NodeState) → IsNodeState s → IsPhase (blob_phase s) → IsShown (blob_phase s)
phase_is_shown s k h = job_shown s.durable.capacity s.durable.images s.session s.session.link s.durable.job k.durable.job h

-- so of the phase that a look finds
pub look_is_shown : (phase : PhaseLook) (held chunks : Slots) → IsShown (phase_with phase held chunks) → LookIsShown phase
look_is_shown InactiveLook held chunks h = tt
look_is_shown (WaitingLook t) held chunks h = tt
look_is_shown (BlockLook t p) held chunks h = h.0
look_is_shown (ChunkLook t p b) held chunks h = h.0
look_is_shown (CompleteLook t) held chunks h = h.0
look_is_shown (SuspendedLook t p) held chunks h = h.0

-- ---- update replies

pub phase_with_job : (phase : UpdatePhase) (j : Job) → JobIs phase (Some j) → 1 ≤ update_number phase
phase_with_job Idle j h = cc
phase_with_job (TransferError i) j h = omega arith
phase_with_job (TransferActive i) j h = omega arith
phase_with_job (Verifying i) j h = omega arith
phase_with_job (Succeeded i) j h = omega arith
phase_with_job (Failed i) j h = omega arith
phase_with_job (Applying i) j h = omega arith

pub phase_below : (phase : UpdatePhase) → update_number phase ≤ 6
phase_below Idle = omega arith
phase_below (TransferError i) = omega arith
phase_below (TransferActive i) = omega arith
phase_below (Verifying i) = omega arith
phase_below (Succeeded i) = omega arith
phase_below (Failed i) = omega arith
phase_below (Applying i) = omega arith

all_ids : (images : List Image) → AreIds (ids_of images)
all_ids [] = tt
all_ids (image ∷ images) = (omega arith, all_ids images)

taken_ids : (n : ℕ) (ids : List (List ℕ)) → AreIds ids → AreIds (take n ids)
taken_ids zero ids h = tt
taken_ids (suc n) [] h = tt
taken_ids (suc n) (id ∷ ids) h = (h.0, taken_ids n ids h.1)

dropped_ids : (n : ℕ) (ids : List (List ℕ)) → AreIds ids → AreIds (drop n ids)
dropped_ids zero ids h = h
dropped_ids (suc n) [] h = tt
dropped_ids (suc n) (id ∷ ids) h = dropped_ids n ids h.1

pub ids_are : (images : List Image) (first limit : ℕ) → AreIds (take limit (drop first (ids_of images)))
ids_are images first limit = taken_ids limit _ (dropped_ids first _ (all_ids images))
