-- What isn't foreign is represented.
use Rattle.std.proofs.Common.{ℕ, List, [], ◌∷◌, refl}
use Rattle.std.specs.List.{AllByRecursion, AllZip}
use Rattle.mu_model_record.specs.Record.{entry_of, capacity_of}
use Rattle.mu_model_record.specs.Store.{StoreState}
use Rattle.mu_model_distributor.specs.DistState.{StoredImage}
use Rattle.mu_model_represents.specs.Images.{IsSealed, SealedBankHasAnImage}
use Rattle.mu_model_represents.specs.StoreStates.{IsStoreState}
use Rattle.mu_model_represents_distributor.specs.Laws.{DistributorRecordIsADistributor}
use Rattle.mu_model_represents_distributor.specs.RepresentsDistributor.{HasStored, upload_job_in, upload_by}

stored_in : SealedBankHasAnImage → (s : StoreState) → IsStoreState s → (banks : List ℕ) → AllByRecursion (λ (b : ℕ). IsSealed (entry_of s.present b)) banks → (xs : List StoredImage) × AllZip (HasStored s) banks xs
stored_in found s state [] sealed = ([], tt)
stored_in found s state (b ∷ banks) sealed =
    let one = found s b state sealed.0 in
    let rest = stored_in found s state banks sealed.1 in
    (record { bank = b; image = one.0 } ∷ rest.0, (record { there = refl; image = one.1 }, rest.1))

pub distributor_record : SealedBankHasAnImage → DistributorRecordIsADistributor
distributor_record found s part n state is =
    let images = stored_in found s state n.banks is.banks_sealed in (
      record {
        count = s.present.count;
        capacity = capacity_of s.present;
        images = images.0;
        phase = n.phase;
        counter = n.counter;
        settings = n.settings;
        receivers = n.receivers;
        upload_ttl = n.upload_ttl;
        upload_meta = n.upload_meta;
        upload = upload_by n.upload (upload_job_in s part);
      },
      record {
        is_record = is;
        count = refl;
        capacity = refl;
        images = images.1;
        phase = refl;
        counter = refl;
        settings = refl;
        receivers = refl;
        upload_ttl = refl;
        upload_meta = refl;
        upload = refl;
      },
    )
