-- The blocks of a job: as they are put, and as the image that they make.
use Rattle.std.specs.Prelude.{◌≡◌, ◌<◌, ℕ, true, List, Some, length, map}
use Rattle.mu_model_image.specs.Meta.{Image}
use Rattle.mu_model_image.specs.Pieces.{block_count, block_length, blocks_of}
use Rattle.mu_model_record.specs.Store.{held, StoreState, content_of_bank}
use Rattle.mu_model_record.specs.Changes.{with_block}
use Rattle.mu_model_node.specs.declared.Parameters.{Parameters}
use Rattle.mu_model_node.specs.NodeState.{Job, NodeDurable}
use Rattle.mu_model_node.specs.Slots.{Slots, is_full, joined, put}
use Rattle.mu_model_node.specs.Sound.{HaveLengths}
use Rattle.mu_model_node.specs.BlobServer.{Puts, changed}
use Rattle.mu_model_represents.specs.BlobPart.{BlobJob, transfer_in}
use Rattle.mu_model_represents.specs.Images.{HasImage}
use Rattle.mu_model_represents.specs.NodeNote.{NodeNote}
use Rattle.mu_model_represents.specs.StoreStates.{IsStoreState}
use Rattle.mu_model_represents.specs.RepresentsNode.{IsNodeOf}

-- ---- the image that they make

-- so the blocks of a job stay the same where its bank is Sealed with them
abbrev pub HeldBlocksAreCut : Type 0
HeldBlocksAreCut =
    (slots : Slots) (size log : ℕ) → length slots ≡ block_count size log → HaveLengths (block_length size log) slots
    → is_full slots ≡ true → length (joined slots) ≡ size → slots ≡ map Some (blocks_of (joined slots) log)

abbrev pub CutBlocksAreAllHeld : Type 0
CutBlocksAreAllHeld = (octets : List ℕ) (log : ℕ) → (is_full (map Some (blocks_of octets log)) ≡ true) × (joined (map Some (blocks_of octets log)) ≡ octets)

-- ---- a block that is put

-- a job whose bank holds blocks, with parameters
pub record TakesBlocks (s : StoreState) (b : BlobJob) : Type 0 where
  pub there : b.bank < s.present.number
  pub parameters : Parameters
  pub begun : b.parameters ≡ Some parameters
  pub blocks : Slots
  pub content : content_of_bank s b.bank ≡ held blocks

abbrev pub BlockIsPut : Type 0
BlockIsPut =
    (s : StoreState) (b : BlobJob) (i : ℕ) (octets : List ℕ) → IsStoreState s → TakesBlocks s b
    → transfer_in (with_block s b.bank i octets) b ≡ changed (Puts i octets) (transfer_in s b)

-- and all else that is kept stays: images,
abbrev pub ImagesStayByBlocks : Type 0
ImagesStayByBlocks =
    (s : StoreState) (b : BlobJob) (i : ℕ) (octets : List ℕ) → IsStoreState s → TakesBlocks s b
    → (bank : ℕ) (x : Image) → HasImage s bank x → HasImage (with_block s b.bank i octets) bank x

-- and a node
abbrev pub NodeBlockIsPut : Type 0
NodeBlockIsPut =
    (s : StoreState) (b : BlobJob) (note : NodeNote) (d : NodeDurable) (j : Job) (i : ℕ) (octets : List ℕ) → IsStoreState s → TakesBlocks s b
    → IsNodeOf s (Some b) note d → d.job ≡ Some j
    → IsNodeOf (with_block s b.bank i octets) (Some b) note (record d { job = Some (record j { held = put j.held i octets }) })
