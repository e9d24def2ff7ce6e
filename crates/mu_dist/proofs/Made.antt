-- A new distributor is represented by the store that was made for it.
use Rattle.std.proofs.Common.{◌≡◌, ◌<◌, ◌≤◌, ℕ, zero, suc, true, List, [], ◌∷◌, length, get_or, replicate, refl, sym, subst, arith}
use Rattle.mu_model_flash.specs.Flash.{Seen}
use Rattle.mu_model_record.specs.Record.{IsFilling, entry_of}
use Rattle.mu_model_record.specs.Store.{StoreState}
use Rattle.mu_model_record.specs.Changes.{first_state}
use Rattle.mu_model_record.specs.Represents.{RepresentsStore}
use Rattle.mu_model_distributor.specs.DistEvents.{new_distributor}
use Rattle.mu_model_distributor.specs.DistState.{job_of}
use Rattle.mu_model_distributor.specs.Receivers.{is_stored_in}
use Rattle.mu_model_distributor_laws.specs.Laws.{NewIsSound}
use Rattle.mu_model_represents.specs.Images.{IsSealed}
use Rattle.mu_model_represents.specs.Laws.{RepresentedIsAState}
use Rattle.mu_model_represents_distributor.specs.Numbers.{HasDistributorNumbers}
use Rattle.mu_model_represents_distributor.specs.RepresentsDistributor.{IsDistributor, note_of_distributor, part_of_upload}
use Rattle.mu_model_represents.specs.StoreStates.{IsStoreState}
use Rattle.mu_model_represents_distributor.specs.Written.{KeepsDistributor, DistributorTagIsReadBack}
use Rattle.mu_store.specs.View.{store_flash, StoreHolds}
use Rattle.mu_store.specs.declared.store.Store.{Store}
use Rattle.mu_dist.specs.Made.{new_tag, RepresentsBy}

module _ (pages : ℕ) (least : 1 ≤ pages) (few : pages ≤ 256) where
  new_numbers : HasDistributorNumbers (new_distributor pages)
  new_numbers = record { count = record { least = omega arith; most = omega arith }; mtu = tt }

  abbrev state_of : List ℕ → StoreState
  state_of tag = first_state 4 pages tag

  none_filling : (tag : List ℕ) (b : ℕ) → IsFilling (entry_of (state_of tag).present b) → ⊥
  none_filling tag zero h = h
  none_filling tag (suc zero) h = h
  none_filling tag (suc (suc zero)) h = h
  none_filling tag (suc (suc (suc zero))) h = h
  none_filling tag (suc (suc (suc (suc b)))) h = h

  none_sealed : (tag : List ℕ) (b : ℕ) → IsSealed (entry_of (state_of tag).present b) → is_stored_in (new_distributor pages).images b ≡ true
  none_sealed tag zero h = absurd h
  none_sealed tag (suc zero) h = absurd h
  none_sealed tag (suc (suc zero)) h = absurd h
  none_sealed tag (suc (suc (suc zero))) h = absurd h
  none_sealed tag (suc (suc (suc (suc b)))) h = absurd h

  kept : (tag : List ℕ) → IsStoreState (state_of tag) → KeepsDistributor (state_of tag) (new_distributor pages)
  kept tag is = record {
    in_range = is.in_range;
    four_banks = refl;
    count = refl;
    capacity = refl;
    images = tt;
    no_other = none_sealed tag;
    upload = none_filling tag;
  }

  represented : NewIsSound → RepresentedIsAState → DistributorTagIsReadBack → (tag flash : List ℕ) → tag ≡ new_tag → RepresentsStore (state_of tag) flash → RepresentsBy new_tag (new_distributor pages) flash
  represented begins sound read_back tag flash new is = (
    state_of tag,
    is,
    (
      part_of_upload (job_of (new_distributor pages).upload),
      note_of_distributor (new_distributor pages),
      read_back (state_of tag) (new_distributor pages) (begins pages least few) new_numbers (kept tag (sound (state_of tag) flash is)) new,
    ),
    new,
  )

  pub made : {F : Type 0} {g : _} (seen : F → Seen) → NewIsSound → RepresentedIsAState → DistributorTagIsReadBack → (tag : List ℕ) → tag ≡ new_tag → (store : Store F g) (last : F) → last ≡ store_flash store
      → StoreHolds seen store (state_of tag) → RepresentsBy new_tag (new_distributor pages) (seen last).octets
  made seen begins sound read_back tag new store last same holds =
      subst (λ (f : _). RepresentsBy new_tag (new_distributor pages) (seen f).octets) (sym same)
      (represented begins sound read_back tag (seen store.base.flash).octets new (store.base.place.page, holds.at.word, holds.at.represents))
