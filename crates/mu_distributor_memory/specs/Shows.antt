-- What is in memory, as the distributor of the model has it.
use Rattle.std.specs.Prelude.{◌≡◌, ℕ, Bool, List, Option, length}
use Rattle.mu_model_image.specs.declared.Meta.{Meta}
use Rattle.mu_distributor_note.specs.declared.note.NoteHead.{NoteHead}
use Rattle.std.specs.Option.{option_map}
use Rattle.mu_distmsg.specs.declared.message.ReceiverRow.{ReceiverRow}
use Rattle.mu_model_distributor.specs.Requests.{DistRequest}
use Rattle.mu_model_distributor.specs.Sound.{DistRequestFits}
use Rattle.mu_model_distributor.specs.DistState.{DistState, job_of}
use Rattle.mu_distributor_kept.specs.declared.phase.UploadPhase.{UploadPhase}
use Rattle.mu_distributor_rows.specs.declared.looks.UploadLook.{UploadLook}
use Rattle.mu_distributor_rows.specs.Due.{IsDueIn}
use Rattle.mu_distributor_rows.specs.Looks.{Seen, job_look, phase_of}
use Rattle.mu_distributor_rows.specs.Receivers.{AreRowsOf}
use Rattle.mu_distributor_answers.specs.declared.steps.Decision.{Decision}
use Rattle.mu_distributor_answers.specs.declared.steps.DistStep.{DistStep}
use Rattle.mu_distributor_answers.specs.Fits.{IsKnownStep, CanStep, IsWritten}
use Rattle.mu_distributor_answers.specs.Images.{AreImages}
use Rattle.mu_distributor_answers.specs.Steps.{stepped, KeepsRows, is_on_distribution, is_of_distribution, ComesTo}
use Rattle.mu_distributor_memory.specs.declared.memory.Memory.{Memory}
use Rattle.mu_distributor_memory.specs.Looks.{look_seen}

abbrev pub rows_in : Memory → List ReceiverRow
rows_in m = m.rows.items

-- the phase of the upload in the record
abbrev pub upload_in : Memory → UploadPhase
upload_in m = m.head.upload

-- the banks of the images, in the order in which they were stored
abbrev pub banks_in : Memory → List ℕ
banks_in m = m.head.banks.items

-- what the rows of the table look at, with the octets of a bank and the job of the upload
abbrev pub seen_in : Memory → ℕ → Option UploadLook → Seen
seen_in m capacity job = look_seen m.head m.metas m.lags (length m.rows.items) capacity job

-- ---- of a distributor

-- all but the receivers: what a note says, with the metadata of its images, and whether the record says that an upload is active that was broken off
pub record IsHeadBy (head : NoteHead) (metas : List Meta) (lags : Bool) (s : DistState) : Type 0 where
  pub phase : s.durable.phase ≡ head.phase
  pub counter : s.durable.counter ≡ head.counter
  pub settings : s.durable.settings ≡ head.settings
  pub images : AreImages head.banks.items metas s.durable.images
  pub recorded : phase_of s.durable.upload ≡ head.upload
  pub lags_is : s.lags ≡ lags
  pub upload_ttl : s.durable.upload_ttl ≡ head.upload_ttl
  pub upload_meta : s.durable.upload_meta ≡ head.upload_meta

abbrev pub IsHeadOf : Memory → DistState → Type 0
IsHeadOf m s = IsHeadBy m.head m.metas m.lags s

pub record IsMemoryOf (m : Memory) (s : DistState) : Type 0 where
  pub head : IsHeadOf m s
  pub rows : AreRowsOf (rows_in m) s

-- what isn't in memory
pub record IsBeside (capacity : ℕ) (job : Option UploadLook) (s : DistState) : Type 0 where
  pub capacity_is : s.durable.capacity ≡ capacity
  pub job_is : option_map job_look (job_of s.durable.upload) ≡ job

-- ---- a decision

-- all but the receivers is as before
pub record SameHead (old new : Memory) : Type 0 where
  pub head : new.head ≡ old.head
  pub metas : new.metas ≡ old.metas
  pub lags : new.lags ≡ old.lags

-- the receivers are those that a request leaves, all else is as before, and the request comes to the step that is handed back
pub record IsDecided (old new : Memory) (capacity : ℕ) (job : Option UploadLook) (request : DistRequest) (d : Decision) : Type 0 where
  pub same : SameHead old new
  pub known : IsKnownStep d.step
  pub can : CanStep (seen_in old capacity job) d.step
  pub written : IsWritten d.step d.due
  pub kind : is_of_distribution d.step ≡ is_on_distribution request
  pub keeps : KeepsRows d.step (rows_in old) (rows_in new)
  pub step : (address : ℕ) (s : DistState) → IsMemoryOf old s → IsBeside capacity job s → ComesTo address s request (rows_in new) d.step
  pub due : (address : ℕ) (s : DistState) → IsMemoryOf old s → IsBeside capacity job s → IsDueIn d.due s (stepped address s (rows_in new) d.step)
