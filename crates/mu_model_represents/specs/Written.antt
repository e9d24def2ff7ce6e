-- What a record that is written says of the state that it was written for: the tag is read back.
use Rattle.std.specs.Prelude.{◌≡◌, ◌+◌, ◌++◌, ℕ, ◌<◌, false, List, Option, Some, None, length}
use Rattle.std.specs.List.{AllByRecursion, AllZip}
use Rattle.mu_model_flash.specs.Bits.{AreOctets}
use Rattle.mu_model_record.specs.Record.{IsRecord, entry_of, capacity_of}
use Rattle.mu_model_record.specs.Store.{StoreState, content_of_bank}
use Rattle.mu_model_record.specs.ChangeLaws.{IsTag}
use Rattle.mu_model_node.specs.NodeState.{Job, NodeDurable}
use Rattle.mu_model_node.specs.Sound.{IsNodeDurable}
use Rattle.mu_model_represents.specs.BlobPart.{BlobJob, blob_part, note_part, IsBlobPart, NoneFilling, BankGoesWith, held_by, PartFits, blob_octets}
use Rattle.mu_model_represents.specs.Images.{is_among, AllDiffer, HasImage}
use Rattle.mu_model_represents.specs.Numbers.{HasNodeNumbers}
use Rattle.mu_model_represents.specs.RepresentsNode.{StoredGoesWith, IsNodeOf, part_of_node, note_of_node, node_tag, old_node_tag}

-- ---- the BLOB part, before any note

abbrev pub BlobPartIsReadBack : Type 0
BlobPartIsReadBack =
    (part : Option BlobJob) (note : List ℕ) → PartFits part → length note ≡ 1728 → AreOctets note
    → IsTag (blob_octets part ++ note) × IsBlobPart part (blob_part (blob_octets part ++ note)) × (note_part (blob_octets part ++ note) ≡ note)

-- ---- a node

-- The bank of a job isn't active. It goes with the job's parameters and stored phase, and holds its blocks.
pub record KeepsJob (s : StoreState) (active : List ℕ) (bank : ℕ) (j : Job) : Type 0 where
  pub there : bank < s.present.number
  pub apart : is_among active bank ≡ false
  pub goes_with : BankGoesWith s.present bank j.parameters
  pub stored : StoredGoesWith j.stored j.meta j.parameters (entry_of s.present bank)
  pub held : j.held ≡ held_by j.parameters (content_of_bank s bank)

abbrev pub KeepsJobs : StoreState → List ℕ → ℕ → Option Job → Type 0
KeepsJobs s active bank None = NoneFilling s.present
KeepsJobs s active bank (Some j) = KeepsJob s active bank j

-- all but the tag
pub record KeepsNode (s : StoreState) (active : List ℕ) (bank : ℕ) (d : NodeDurable) : Type 0 where
  pub in_range : IsRecord s.present
  pub one_more : s.present.number ≡ 1 + length active
  pub count : d.count ≡ s.present.count
  pub capacity : d.capacity ≡ capacity_of s.present
  pub differ : AllDiffer active
  pub images : AllZip (HasImage s) active d.images
  pub job : KeepsJobs s active bank d.job

-- the tags that may be written
abbrev pub NodeTagIsATag : Type 0
NodeTagIsATag =
    (active : List ℕ) (bank : ℕ) (d : NodeDurable) → IsNodeDurable d → HasNodeNumbers d
    → length active ≡ length d.images → AllByRecursion (λ (b : ℕ). b < 256) active → bank < 256
    → IsTag (node_tag active bank d.job) × IsTag (old_node_tag active bank d.job)

-- with it the store is the node, and says the two parts that it was written from
abbrev pub NodeTagIsReadBack : Type 0
NodeTagIsReadBack =
    (s : StoreState) (active : List ℕ) (bank : ℕ) (d : NodeDurable) → IsNodeDurable d → HasNodeNumbers d → KeepsNode s active bank d
    → s.present.tag ≡ node_tag active bank d.job → IsNodeOf s (part_of_node bank d.job) (note_of_node active d.job) d

-- with the old note too, where there is one image
abbrev pub OldNodeTagIsReadBack : Type 0
OldNodeTagIsReadBack =
    (s : StoreState) (active : List ℕ) (bank : ℕ) (d : NodeDurable) → IsNodeDurable d → HasNodeNumbers d → KeepsNode s active bank d
    → length d.images ≡ 1 → s.present.tag ≡ old_node_tag active bank d.job → IsNodeOf s (part_of_node bank d.job) (note_of_node active d.job) d
