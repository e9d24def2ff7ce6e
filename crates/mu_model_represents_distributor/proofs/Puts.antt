-- A block of an upload that is put.
use Rattle.std.proofs.Common.{ℕ, Some, List, [], ◌∷◌, sym}
use Rattle.std.specs.List.{AllZip}
use Rattle.mu_model_record.specs.Store.{StoreState}
use Rattle.mu_model_record.specs.Changes.{with_block}
use Rattle.mu_model_distributor.specs.DistState.{StoredImage}
use Rattle.mu_model_represents.specs.BlobPart.{BlobJob}
use Rattle.mu_model_represents.specs.Blocks.{TakesBlocks, BlockIsPut, ImagesStayByBlocks}
use Rattle.mu_model_represents.specs.StoreStates.{IsStoreState}
use Rattle.mu_model_represents_distributor.specs.Blocks.{DistributorBlockIsPut}
use Rattle.mu_model_represents_distributor.specs.RepresentsDistributor.{HasStored, upload_by}

module _ (stay : ImagesStayByBlocks) (s : StoreState) (b : BlobJob) (i : ℕ) (octets : List ℕ) (state : IsStoreState s) (takes : TakesBlocks s b) where
  stored_stay : (banks : List ℕ) (xs : List StoredImage) → AllZip (HasStored s) banks xs → AllZip (HasStored (with_block s b.bank i octets)) banks xs
  stored_stay [] [] all = tt
  stored_stay [] (x ∷ xs) all = absurd all
  stored_stay (a ∷ banks) [] all = absurd all
  stored_stay (a ∷ banks) (x ∷ xs) all =
      (record { there = all.0.there; image = stay s b i octets state takes a x.image all.0.image }, stored_stay banks xs all.1)

pub distributor_block : ImagesStayByBlocks → BlockIsPut → DistributorBlockIsPut
distributor_block stay put s b n d i octets state takes is = record {
  is_record = is.is_record;
  count = is.count;
  capacity = is.capacity;
  images = (stored_stay stay s b i octets state takes) n.banks d.images is.images;
  phase = is.phase;
  counter = is.counter;
  settings = is.settings;
  receivers = is.receivers;
  upload_ttl = is.upload_ttl;
  upload_meta = is.upload_meta;
  upload = λ k. upload_by n.upload (Some (record { transfer = sym (put s b i octets state takes) k; bank = b.bank }));
}
