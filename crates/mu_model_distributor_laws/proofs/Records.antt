-- Long records, and images that are stocked.
use Rattle.std.proofs.Common.{◌≡◌, ◌≤◌, ℕ, ◌+◌, ◌/◌, ◌%◌, Bool, true, false, List, [], ◌∷◌, ◌++◌, length, drop, refl, sym, arith, None}
use Rattle.std.specs.Prelude.{◌==◌, ◌&&◌, ◌||◌, not}
use Rattle.std.specs.List.{list_any}
use Rattle.std.proofs.lemmas.Bool.Decides.{nat_tests}
use Rattle.std.proofs.lemmas.List.{length-append}
use Rattle.mu_model_image.specs.Meta.{Image, IsMeta}
use Rattle.mu_model_node.specs.Sound.{IsActiveImage}
use Rattle.mu_model_distributor.specs.DistState.{StoredImage, Receiver, job_of, DistState}
use Rattle.mu_model_distributor.specs.Commit.{is_past, is_long}
use Rattle.mu_model_distributor.specs.Receivers.{empty_banks}
use Rattle.mu_model_distributor.specs.DistEvents.{stored_in}
use Rattle.mu_model_distributor.specs.Sound.{IsReceiver, AreReceivers, IsDistState}
use Rattle.mu_model_distributor_laws.specs.Laws.{receivers_octets, LongIsPastTheEnd, StockedIsSound}
use Rattle.mu_model_distributor_laws.proofs.Images.{IsEmptyBank, empty_bank, stored_join, differ_join}
use Rattle.mu_model_distributor_laws.proofs.Moved.{fresh_below}

-- ---- long records

abbrev is_set : ℕ → Bool
is_set octet = not (octet == 0)

or_right : (x y : Bool) → y ≡ true → (x || y) ≡ true
or_right true y e = refl
or_right false y e = e

-- an address has an octet that isn't 0
upper_set : (a : ℕ) (rest : Bool) (b : Bool) → (a / 256 % 256 == 0) ≡ b → 1 ≤ a → a ≤ 0x7FFF → a % 256 ≡ 0 → (not b || rest) ≡ true
upper_set a rest false e h k z = refl
upper_set a rest true e h k z = let zero_is : a / 256 % 256 ≡ 0 = grind (arith, nat_tests) in let never : ⊥ = omega arith in absurd never

address_set : (a : ℕ) (rest : Bool) (b : Bool) → (a % 256 == 0) ≡ b → 1 ≤ a → a ≤ 0x7FFF → (not b || (is_set (a / 256 % 256) || rest)) ≡ true
address_set a rest false e h k = refl
address_set a rest true e h k = let zero_is : a % 256 ≡ 0 = grind (arith, nat_tests) in upper_set a rest (a / 256 % 256 == 0) refl h k zero_is

statuses_set : (x y : Bool) → not (x && y) ≡ (not x || (not y || false))
statuses_set true true = refl
statuses_set true false = refl
statuses_set false y = refl

past_of : (rest : List Receiver) → AreReceivers rest → is_past rest ≡ list_any is_set (drop 4 (receivers_octets rest))
past_of [] h = refl
past_of (r ∷ []) h = statuses_set (r.update_status == 0) (r.transfer_status == 0)
past_of (r ∷ s ∷ more) h =
    let own : IsReceiver s = h.1.0 in
    sym (or_right (is_set r.update_status) _ (or_right (is_set r.transfer_status) _ (address_set s.address _ (s.address % 256 == 0) refl own.address_above own.address_below)))

pub long_is_past : LongIsPastTheEnd
long_is_past (a ∷ b ∷ c ∷ d ∷ e ∷ f ∷ g ∷ i ∷ j ∷ k ∷ rest) h = past_of rest h.1.1.1.1.1.1.1.1.1.1
long_is_past [] h = refl
long_is_past (a ∷ []) h = refl
long_is_past (a ∷ b ∷ []) h = refl
long_is_past (a ∷ b ∷ c ∷ []) h = refl
long_is_past (a ∷ b ∷ c ∷ d ∷ []) h = refl
long_is_past (a ∷ b ∷ c ∷ d ∷ e ∷ []) h = refl
long_is_past (a ∷ b ∷ c ∷ d ∷ e ∷ f ∷ []) h = refl
long_is_past (a ∷ b ∷ c ∷ d ∷ e ∷ f ∷ g ∷ []) h = refl
long_is_past (a ∷ b ∷ c ∷ d ∷ e ∷ f ∷ g ∷ i ∷ []) h = refl
long_is_past (a ∷ b ∷ c ∷ d ∷ e ∷ f ∷ g ∷ i ∷ j ∷ []) h = refl

-- ---- an image that is stocked

stored_sound : (s : DistState) (image : Image) (banks : List ℕ) → empty_banks s.durable.images (job_of s.durable.upload) ≡ banks → IsDistState s → job_of s.durable.upload ≡ None → IsMeta image.meta → IsActiveImage s.durable.capacity image → IsDistState (stored_in s image banks)
stored_sound s image [] e h none meta fits = h
stored_sound s image (bank ∷ others) e h none meta fits =
    let k : IsEmptyBank s.durable.images bank = empty_bank s.durable.images (job_of s.durable.upload) bank others e in
    let x : StoredImage = record { bank = bank; image = image } in
    let more : length (s.durable.images ++ x ∷ []) ≡ length s.durable.images + 1 = length-append s.durable.images (x ∷ []) in
    record {
      durable = record {
        capacity = h.durable.capacity;
        images = stored_join s.durable.capacity s.durable.images x h.durable.images (record { bank = k.below; meta = meta; image = fits });
        banks = differ_join s.durable.images x h.durable.banks k.free;
        counter = h.durable.counter;
        unbegun = h.durable.unbegun;
        begun = h.durable.begun;
        image = λ busy. rw more (omega (arith, h.durable.image busy));
        some_receiver = h.durable.some_receiver;
        receivers = h.durable.receivers;
        addresses = h.durable.addresses;
        few_receivers = h.durable.few_receivers;
        upload_ttl = h.durable.upload_ttl;
        upload_meta = h.durable.upload_meta;
        upload_job = rw none tt;
        upload = h.durable.upload;
      };
      fresh = fresh_below (is_long s.durable) s.fresh h.fresh;
      current = h.current;
      client = h.client;
      progress = h.progress;
      percents = h.percents;
    }

pub stocked_is_sound : StockedIsSound
stocked_is_sound s image h none meta fits = stored_sound s image (empty_banks s.durable.images (job_of s.durable.upload)) refl h none meta fits
