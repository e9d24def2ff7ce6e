-- What the change that a BLOB message makes comes to in a store that represents a node: the note stays (this profile).
use Rattle.std.specs.Prelude.{◌≡◌, ℕ, ◌^◌, ◌<◌, List, ◌∷◌, Some, length}
use Rattle.mu_model_image.specs.Pieces.{piece_count}
use Rattle.mu_model_record.specs.Record.{IsFilling, entry_of}
use Rattle.mu_model_record.specs.Store.{StoreState}
use Rattle.mu_model_record.specs.Next.{record_steps, block_steps}
use Rattle.mu_model_record.specs.Changes.{begun, emptied, with_block}
use Rattle.mu_model_node.specs.declared.Parameters.{Parameters}
use Rattle.mu_model_node.specs.declared.Stored.TheVariants.{Filling}
use Rattle.mu_model_node.specs.BlobServer.{Begins, Drops, Puts}
use Rattle.mu_model_node.specs.FlashWork.{page_octets}
use Rattle.mu_model_node.specs.NodeState.{NodeDurable}
use Rattle.mu_model_node.specs.NodeOutcome.{job_changed, work_of}
use Rattle.mu_model_node.specs.Sound.{IsNodeDurable}
use Rattle.mu_model_represents.specs.BlobPart.{BlobJob}
use Rattle.mu_model_represents.specs.NodeNote.{NoteJob, NodeNote}
use Rattle.mu_model_represents.specs.RepresentsNode.{job_in, IsNodeOf}
use Rattle.mu_model_represents.specs.StoreStates.{IsStoreState}
use Rattle.mu_model_jobs.specs.Parts.{with_part}
use Rattle.mu_model_jobs.specs.States.{CanPut}
use Rattle.mu_model_jobs.specs.Transfers.{begun_job, dropped_job}
use Rattle.mu_model_stored_node.specs.Kept.{with_next}
use Rattle.mu_model_written_node.specs.Written.{CanWrite, IsWorked, IsWritten}

-- the job's bank is begun by these parameters
abbrev pub begun_store : StoreState → BlobJob → Parameters → StoreState
begun_store s b p = begun s b.bank p.size p.log (with_part (Some (begun_job b p)) s.present.tag)

abbrev pub BegunIsWritten : Type 0
BegunIsWritten =
    (s : StoreState) (b : BlobJob) (n : NoteJob) (note : NodeNote) (d : NodeDurable) (bank : ℕ) (p : Parameters) → CanWrite s (Some b) note d bank → note.job ≡ Some n → n.stored ≡ Filling
    → p.mtu < 2 ^ 16 → IsNodeDurable (with_next d (Some (job_changed (Begins p) (job_in s b n))))
    → IsWorked s (begun_store s b p) (Some (begun_job b p)) note d (with_next d (Some (job_changed (Begins p) (job_in s b n)))) (λ (fresh : ℕ). s ∷ record_steps fresh s (begun_store s b p)) (work_of (Begins p))

-- the job's bank, which is being filled, is given up
abbrev pub dropped_store : StoreState → BlobJob → StoreState
dropped_store s b = emptied s b.bank (with_part (Some (dropped_job b)) s.present.tag)

abbrev pub DroppedIsWritten : Type 0
DroppedIsWritten =
    (s : StoreState) (b : BlobJob) (n : NoteJob) (note : NodeNote) (d : NodeDurable) (bank : ℕ) → CanWrite s (Some b) note d bank → note.job ≡ Some n → n.stored ≡ Filling
    → IsFilling (entry_of s.present b.bank) → IsNodeDurable (with_next d (Some (job_changed Drops (job_in s b n))))
    → IsWritten s (dropped_store s b) (Some (dropped_job b)) note d (with_next d (Some (job_changed Drops (job_in s b n))))

-- a block of the job is put: no record says so
abbrev pub PutIsWorked : Type 0
PutIsWorked =
    (s : StoreState) (b : BlobJob) (n : NoteJob) (note : NodeNote) (d : NodeDurable) (i : ℕ) (octets : List ℕ) → IsStoreState s → IsNodeOf s (Some b) note d → note.job ≡ Some n → CanPut s b.bank i octets
    → IsWorked s (with_block s b.bank i octets) (Some b) note d (record d { job = Some (job_changed (Puts i octets) (job_in s b n)) })
    (λ (fresh : ℕ). block_steps (piece_count (length octets) page_octets) s (with_block s b.bank i octets)) (work_of (Puts i octets))
