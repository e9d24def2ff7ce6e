-- What the calls on a store make of a node's job. With the node's tag in the record that is written, the state after it is the node's
-- (the tag is read back).
use Rattle.std.specs.Prelude.{◌≡◌, ℕ, ◌+◌, ◌<◌, true, false, List, [], Option, Some, None, set}
use Rattle.std.specs.List.{AllZip}
use Rattle.mu_model_image.specs.Meta.{Image, IsFit}
use Rattle.mu_model_image.specs.Pieces.{block_count}
use Rattle.mu_model_record.specs.declared.BankState.{BankState}
use Rattle.mu_model_record.specs.Record.{IsRecord, IsFilling, entry_of}
use Rattle.mu_model_record.specs.Store.{Content, StoreState}
use Rattle.mu_model_record.specs.Changes.{tagged, with_bank, begun, emptied, sealed_up}
use Rattle.mu_model_node.specs.declared.Parameters.{Parameters}
use Rattle.mu_model_node.specs.declared.Stored.TheVariants.{Filling, Verified, Refused, Applied}
use Rattle.mu_model_node.specs.Slots.{empty, is_full, joined}
use Rattle.mu_model_node.specs.NodeState.{Job, NodeDurable}
use Rattle.mu_model_node.specs.TimeTable.{image_of_job}
use Rattle.mu_model_represents.specs.BlobPart.{BlobJob, NoneFilling}
use Rattle.mu_model_represents.specs.Images.{is_among, HasImage}
use Rattle.mu_model_represents.specs.NodeNote.{NodeNote}
use Rattle.mu_model_represents.specs.StoreStates.{IsStoreState}
use Rattle.mu_model_represents.specs.RepresentsNode.{IsNodeOf}
use Rattle.mu_model_represents.specs.Written.{KeepsNode}

-- what is kept after one record, with this job
abbrev pub with_next : NodeDurable → Option Job → NodeDurable
with_next d job = record { count = d.count + 1; capacity = d.capacity; images = d.images; job = job }

abbrev pub bank_of : Option BlobJob → ℕ
bank_of None = 0
bank_of (Some b) = b.bank

-- a store that represents a node keeps it
abbrev pub NodeIsKept : Type 0
NodeIsKept =
    (s : StoreState) (part : Option BlobJob) (note : NodeNote) (d : NodeDurable) → IsStoreState s → IsNodeOf s part note d → KeepsNode s note.active (bank_of part) d

-- a bank that isn't active may change: the active images stay
abbrev pub ImagesStay : Type 0
ImagesStay =
    (s : StoreState) (bank : ℕ) (entry : BankState) (content : Content) (tag active : List ℕ) (images : List Image) → is_among active bank ≡ false
    → AllZip (HasImage s) active images → AllZip (HasImage (with_bank s bank entry content tag)) active images

-- a node that has this job
pub record HasJob (s : StoreState) (active : List ℕ) (bank : ℕ) (d : NodeDurable) (j : Job) : Type 0 where
  pub keeps : KeepsNode s active bank d
  pub job : d.job ≡ Some j

-- an Update Apply has reached the new image: a commit
abbrev pub JobIsAsked : Type 0
JobIsAsked =
    (s : StoreState) (tag active : List ℕ) (bank : ℕ) (d : NodeDurable) (j : Job) → HasJob s active bank d j → IsRecord (tagged s tag).present → j.stored ≡ Verified
    → KeepsNode (tagged s tag) active bank (with_next d (Some (record j { stored = Applied })))

-- the bank is begun
abbrev pub JobBegins : Type 0
JobBegins =
    (s : StoreState) (p : Parameters) (tag active : List ℕ) (bank : ℕ) (d : NodeDurable) (j : Job) → IsStoreState s → HasJob s active bank d j
    → IsRecord (begun s bank p.size p.log tag).present → j.stored ≡ Filling
    → KeepsNode (begun s bank p.size p.log tag) active bank (with_next d (Some (record j { parameters = Some p; held = empty (block_count p.size p.log) })))

-- the bank is given up, and the job stays: as one that was offered, or as one that was refused
abbrev pub JobDrops : Type 0
JobDrops =
    (s : StoreState) (tag active : List ℕ) (bank : ℕ) (d : NodeDurable) (j : Job) → IsStoreState s → HasJob s active bank d j
    → IsRecord (emptied s bank tag).present → IsFilling (entry_of s.present bank) → j.stored ≡ Filling
    → KeepsNode (emptied s bank tag) active bank (with_next d (Some (record j { parameters = None; held = [] })))

abbrev pub JobIsRefused : Type 0
JobIsRefused =
    (s : StoreState) (tag active : List ℕ) (bank : ℕ) (d : NodeDurable) (j : Job) → IsStoreState s → HasJob s active bank d j
    → IsRecord (emptied s bank tag).present → IsFilling (entry_of s.present bank)
    → KeepsNode (emptied s bank tag) active bank (with_next d (Some (record j { stored = Refused; parameters = None; held = [] })))

-- a job that was just offered
pub record IsOffered (j : Job) : Type 0 where
  pub stored : j.stored ≡ Filling
  pub parameters : j.parameters ≡ None
  pub held : j.held ≡ []

-- The job goes, or another one comes in its place: where its bank was being filled, that is given up.
abbrev pub JobGoes : Type 0
JobGoes =
    (s : StoreState) (tag active : List ℕ) (bank : ℕ) (d : NodeDurable) (j : Job) → IsStoreState s → HasJob s active bank d j
    → IsRecord (emptied s bank tag).present → IsFilling (entry_of s.present bank) → KeepsNode (emptied s bank tag) active bank (with_next d None)

abbrev pub JobComes : Type 0
JobComes =
    (s : StoreState) (tag active : List ℕ) (bank : ℕ) (d : NodeDurable) (j next : Job) → IsStoreState s → HasJob s active bank d j
    → IsRecord (emptied s bank tag).present → IsFilling (entry_of s.present bank) → IsOffered next → KeepsNode (emptied s bank tag) active bank (with_next d (Some next))

-- where no bank was being filled
abbrev pub NoJobIsLeft : Type 0
NoJobIsLeft =
    (s : StoreState) (tag active : List ℕ) (bank : ℕ) (d : NodeDurable) → KeepsNode s active bank d → IsRecord (tagged s tag).present → NoneFilling s.present
    → KeepsNode (tagged s tag) active bank (with_next d None)

abbrev pub FirstJobComes : Type 0
FirstJobComes =
    (s : StoreState) (tag active : List ℕ) (bank : ℕ) (d : NodeDurable) (next : Job) → KeepsNode s active bank d → IsRecord (tagged s tag).present → NoneFilling s.present
    → bank < s.present.number → is_among active bank ≡ false → IsOffered next → KeepsNode (tagged s tag) active bank (with_next d (Some next))

-- all blocks are held, and are the image that was offered: the bank is Sealed
abbrev pub JobIsVerified : Type 0
JobIsVerified =
    (s : StoreState) (tag active : List ℕ) (bank : ℕ) (d : NodeDurable) (j : Job) → IsStoreState s → HasJob s active bank d j
    → IsRecord (sealed_up s bank j.meta (joined j.held) tag).present → IsFilling (entry_of s.present bank) → is_full j.held ≡ true → IsFit (joined j.held) j.meta
    → (p : Parameters) → j.parameters ≡ Some p → j.meta.size ≡ p.size
    → KeepsNode (sealed_up s bank j.meta (joined j.held) tag) active bank (with_next d (Some (record j { stored = Verified })))

-- The job's image becomes the active one of its index, and the job goes. No bank is being filled then.
abbrev pub activated_as : NodeDurable → Job → NodeDurable
activated_as d j = record { count = d.count + 1; capacity = d.capacity; images = set d.images j.index (image_of_job j); job = None }

abbrev pub JobIsActivated : Type 0
JobIsActivated =
    (s : StoreState) (tag active : List ℕ) (bank : ℕ) (d : NodeDurable) (j : Job) → IsStoreState s → HasJob s active bank d j
    → IsRecord (tagged s tag).present → NoneFilling s.present → j.stored ≡ Applied
    → KeepsNode (tagged s tag) (set active j.index bank) bank (activated_as d j)
