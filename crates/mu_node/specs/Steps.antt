-- What a step of the update table is decided over, as the node has it in memory, and which fault may come of it.
use Rattle.std.specs.Prelude.{◌≡◌, ℕ, true, map, Option, IsSomeAnd, IfSome, IsOk, IfErr, Result, is_some}
use Rattle.mu_model_record.specs.Record.{entry_of, capacity_of}
use Rattle.mu_model_node.specs.declared.FlashWork.{FlashWork}
use Rattle.mu_model_node.specs.declared.FlashWork.TheVariants.{Untouched, Recorded, Begun, PutBlock}
use Rattle.mu_model_node.specs.NodeOutcome.{Outcome}
use Rattle.mu_model_node.specs.UpdateTable.{success}
use Rattle.mu_model_stored_node.specs.NodeIn.{meta_in}
use Rattle.mu_update_rows.specs.Looks.{one_or_two}
use Rattle.mu_update_rows.specs.declared.look.NodeLook.{NodeLook}
use Rattle.mu_update_rows.specs.declared.look.JobLook.{JobLook}
use Rattle.mu_update_rows.specs.declared.table.UpdateStep.{UpdateStep}
use Rattle.mu_update_rows.specs.declared.table.UpdateStep.TheVariants.{MakeReady, Hear, Take, Lose, Apply, Answer}
use Rattle.mu_store.specs.declared.faults.StoreFault.{StoreFault}
use Rattle.mu_store.specs.declared.faults.StoreFault.TheVariants.{Flash}
use Rattle.mu_note.specs.Views.{active_banks}
use Rattle.mu_place.specs.declared.place.Place.{Place}
use Rattle.mu_place.specs.Place.{place_record}
use Rattle.mu_place.specs.Calls.{WornAtLast}
use Rattle.mu_kept.specs.Views.{job_in}
use Rattle.mu_blobsrv.specs.Views.{store_of, session_of}
use Rattle.mu_node.specs.declared.node.Node.{Node}
use Rattle.mu_node.specs.Views.{server_in, place_in, note_in}

-- a job that is looked at is in the note and in the BLOB part
abbrev pub JobIsKept : {F : Type 0} {g : _} → Option JobLook → Node F g → Type 0
JobIsKept job node = IfSome job (λ j. IsSomeAnd (note_in node).job (λ k. k.stored ≡ j.stored) × (is_some (job_in (store_of (server_in node))) ≡ true))

-- the look is of this node
pub record IsLookAt {F : Type 0} {g : _} (look : NodeLook) (node : Node F g) : Type 0 where
  pub capacity : look.capacity ≡ capacity_of (place_record (place_in node))
  pub active : one_or_two look.active ≡ map (λ (b : ℕ). meta_in (entry_of (place_record (place_in node)) b)) (active_banks (note_in node).active)
  pub job : JobIsKept look.job node
  pub link : look.link ≡ (session_of (server_in node)).link

-- the status that is answered after a step
abbrev pub status_by : UpdateStep → ℕ
status_by (Answer status) = status
status_by _ = success

-- Which fault may come of a step: none where nothing is written, and where a record is, `Worn` exactly at the last count.
abbrev pub StepFault : {F T : Type 0} {g : _} → UpdateStep → Place F g → Result T StoreFault → Type 0
StepFault (Take what) old result = WornAtLast old result
StepFault Lose old result = WornAtLast old result
StepFault Apply old result = WornAtLast old result
StepFault MakeReady old result = IsOk result
StepFault Hear old result = IsOk result
StepFault (Answer status) old result = IsOk result

-- the same by what an outcome does to the flash
abbrev pub WorkFault : {F T : Type 0} {g : _} → FlashWork → Place F g → Result T StoreFault → Type 0
WorkFault (Recorded is_long) old result = WornAtLast old result
WorkFault (Begun is_long) old result = WornAtLast old result
WorkFault (PutBlock pages) old result = IfErr result (λ why. why ≡ Flash)
WorkFault Untouched old result = IsOk result

abbrev pub UpdateFault : {F T : Type 0} {g : _} → Outcome → Place F g → Result T StoreFault → Type 0
UpdateFault o old result = WorkFault o.work old result
