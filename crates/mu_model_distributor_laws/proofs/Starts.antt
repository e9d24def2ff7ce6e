-- Where a distributor's run may begin beside a boot.
use Rattle.std.proofs.Common.{◌≡◌, ℕ, List, [], ◌∷◌, refl, sym, ap, subst, ◌∙◌}
use Rattle.mu_model_image.specs.Meta.{Image}
use Rattle.mu_model_distributor.specs.DistState.{job_of, DistDurable, DistState}
use Rattle.mu_model_distributor.specs.declared.DistPhase.TheVariants.{Idle}
use Rattle.mu_model_distributor.specs.Receivers.{empty_banks}
use Rattle.mu_model_distributor.specs.DistEvents.{stored_in, live, stocked}
use Rattle.mu_model_distributor.specs.Sound.{IsDistState}
use Rattle.mu_model_distributor_laws.specs.Starts.{StartsAreInOrder, NewIsUnused, StockedIsUnused}
use Rattle.mu_model_distributor_laws.proofs.Records.{stocked_is_sound}
use Rattle.mu_model_distributor_laws.proofs.RunLaws.{begun}
use Rattle.mu_model_distributor_laws.proofs.Steps.{new_is_sound}

pub starts_in_order : StartsAreInOrder
starts_in_order address d fresh h few = begun address d fresh h few

pub new_is_unused : NewIsUnused
new_is_unused address pages fresh some most few = record { durable = new_is_sound pages some most; fresh = few; live = refl; phase = refl; counter = refl; receivers = refl; upload = refl }

-- what is stocked
abbrev Stands : DistState → DistState → Type 0
Stands s t = (t.durable.phase ≡ s.durable.phase) × (t.durable.counter ≡ s.durable.counter) × (t.durable.receivers ≡ s.durable.receivers) × (t.durable.upload ≡ s.durable.upload)

stored_stands : (s : DistState) (image : Image) (banks : List ℕ) → Stands s (stored_in s image banks)
stored_stands s image [] = (refl, refl, refl, refl)
stored_stands s image (bank ∷ others) = (refl, refl, refl, refl)

stored_live : (address : ℕ) (d : DistDurable) (fresh : ℕ) (image : Image) (banks : List ℕ) → d.phase ≡ Idle
    → stored_in (live address d fresh) image banks ≡ live address (stored_in (live address d fresh) image banks).durable (stored_in (live address d fresh) image banks).fresh
stored_live address d fresh image [] e = refl
stored_live address d fresh image (bank ∷ others) e = rw e refl

pub stocked_is_unused : StockedIsUnused
stocked_is_unused address s image h meta fits =
    let order = begun address s.durable s.fresh h.durable h.fresh in
    let sound : IsDistState s = subst IsDistState (sym h.live) order.sound in
    let stays : IsDistState (stocked s image) = stocked_is_sound s image sound (ap job_of h.upload) meta fits in
    let k : Stands s (stocked s image) = stored_stands s image (empty_banks s.durable.images (job_of s.durable.upload)) in
    let banks : List ℕ = empty_banks s.durable.images (job_of s.durable.upload) in
    record {
      durable = stays.durable;
      fresh = stays.fresh;
      live = subst (λ (t : DistState). stored_in t image banks ≡ live address (stored_in t image banks).durable (stored_in t image banks).fresh) (sym h.live) (stored_live address s.durable s.fresh image banks h.phase);
      phase = k.0 ∙ h.phase;
      counter = k.1 ∙ h.counter;
      receivers = k.2 ∙ h.receivers;
      upload = k.3 ∙ h.upload;
    }
