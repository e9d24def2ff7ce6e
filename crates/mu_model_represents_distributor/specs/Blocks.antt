-- A block of an upload that is put.
use Rattle.std.specs.Prelude.{ℕ, List, Some}
use Rattle.mu_model_record.specs.Store.{StoreState}
use Rattle.mu_model_record.specs.Changes.{with_block}
use Rattle.mu_model_node.specs.BlobServer.{Puts, changed}
use Rattle.mu_model_distributor.specs.DistState.{DistDurable}
use Rattle.mu_model_represents.specs.BlobPart.{BlobJob, transfer_in}
use Rattle.mu_model_represents.specs.Blocks.{TakesBlocks}
use Rattle.mu_model_represents.specs.StoreStates.{IsStoreState}
use Rattle.mu_model_represents_distributor.specs.DistributorNote.{DistributorNote}
use Rattle.mu_model_represents_distributor.specs.RepresentsDistributor.{upload_by, IsDistributorOf}

-- all but the upload's blocks stays
abbrev pub DistributorBlockIsPut : Type 0
DistributorBlockIsPut =
    (s : StoreState) (b : BlobJob) (n : DistributorNote) (d : DistDurable) (i : ℕ) (octets : List ℕ) → IsStoreState s → TakesBlocks s b
    → IsDistributorOf s (Some b) n d
    → IsDistributorOf (with_block s b.bank i octets) (Some b) n
    (record d { upload = upload_by n.upload (Some (record { transfer = changed (Puts i octets) (transfer_in s b); bank = b.bank })) })
