-- What holds of every place.
use Rattle.std.proofs.Common.{◌≡◌, ◌∙◌, ℕ, ◌<◌, ◌≤◌, Bool, false, Option, Some, None, List, [], length, map, take, refl, sym, ap, subst, arith}
use Rattle.std.specs.Prelude.{IfSome, is_some, slice_index_or}
use Rattle.std.proofs.lemmas.List.{ext_get_or, get_or-map, get_or-take, length-map}
use Rattle.mu_model_flash.specs.Flash.{Seen, IsSound, Unchanged}
use Rattle.mu_model_flash.specs.Laws.{RunsAreRead}
use Rattle.mu_model_flash.specs.Run.{either, Ran}
use Rattle.mu_model_image.specs.Pieces.{block_count}
use Rattle.mu_model_record.specs.declared.Record.{Record}
use Rattle.mu_model_record.specs.declared.BankState.{BankState}
use Rattle.mu_model_record.specs.declared.BankState.TheVariants.{Filling as Fills}
use Rattle.mu_model_record.specs.Record.{IsRecord, IsFilling, entry_of}
use Rattle.mu_model_record.specs.Store.{Content, held, StoreState, content_of_bank, BankHolds}
use Rattle.mu_model_record.specs.Represents.{RepresentsStore}
use Rattle.mu_model_record.specs.Ways.{as_store, StateOf, reading_of}
use Rattle.mu_store.specs.declared.base.Base.{Base}
use Rattle.mu_store.specs.declared.filling.Filling.{Filling}
use Rattle.mu_store.specs.Base.{BaseHolds}
use Rattle.mu_store.specs.Booted.{is_held, FillingHolds}
use Rattle.mu_place.specs.declared.place.Place.{Place}
use Rattle.mu_place.specs.declared.place.Place.TheVariants.{Rest, Fill, Halted}
use Rattle.mu_place.specs.Place.{place_seen, place_fault, place_record, place_filling, place_held, PlaceHolds, HasBlocks}

pub place_is_record : {F : Type 0} {g : _} (place : Place F g) → place_fault place ≡ None → IsRecord (place_record place)
place_is_record (Rest store) none = store.base.in_range
place_is_record (Fill filling) none = filling.base.in_range
place_is_record (Halted stopped) none = absurd (cc none)

pub place_rests : {F : Type 0} {g : _} (place : Place F g) → place_fault place ≡ None → place_filling place ≡ None → (b : ℕ) → ¬ IsFilling (entry_of (place_record place) b)
place_rests (Rest store) fault none = store.rests
place_rests (Fill filling) fault none = absurd (cc none)
place_rests (Halted stopped) fault none = absurd (cc fault)

pub filling_there : {F : Type 0} {g : _} (place : Place F g) → IfSome (place_filling place) (λ f. f.bank < (place_record place).number)
filling_there (Rest store) = tt
filling_there (Fill filling) = filling.there
filling_there (Halted stopped) = tt

pub filling_entry : {F : Type 0} {g : _} (place : Place F g) → IfSome (place_filling place) (λ f. entry_of (place_record place) f.bank ≡ Fills f.size f.log)
filling_entry (Rest store) = tt
filling_entry (Fill filling) = filling.entry
filling_entry (Halted stopped) = tt

pub filling_few : {F : Type 0} {g : _} (place : Place F g) → IfSome (place_filling place) (λ f. block_count f.size f.log ≤ 256)
filling_few (Rest store) = tt
filling_few (Fill filling) = filling.few
filling_few (Halted stopped) = tt

pub filling_as_many : {F : Type 0} {g : _} (place : Place F g) → IfSome (place_filling place) (λ f. length (place_held place) ≡ block_count f.size f.log)
filling_as_many (Rest store) = tt
filling_as_many (Fill filling) = filling.as_many
filling_as_many (Halted stopped) = tt

pub none_held : {F : Type 0} {g : _} (place : Place F g) → place_filling place ≡ None → place_held place ≡ []
none_held (Rest store) none = refl
none_held (Fill filling) none = absurd (cc none)
none_held (Halted stopped) none = refl

is_some-held : (block : Option (List ℕ)) → is_some block ≡ is_held block
is_some-held None = refl
is_some-held (Some octets) = refl

-- a state that the flash represents
module _ {F : Type 0} {g : _} (seen : F → Seen) where
  pub place_present : (place : Place F g) (s : StoreState) → PlaceHolds seen place s → s.present ≡ place_record place
  place_present (Rest store) s holds = holds.fields
  place_present (Fill filling) s holds = holds.base.fields
  place_present (Halted stopped) s holds = absurd holds

  filling_blocks : (filling : Filling F g) (s : StoreState) → FillingHolds seen filling s → HasBlocks s filling.bank (take (block_count filling.size filling.log) filling.held)
  filling_blocks filling s holds = (holds.blocks, holds.content, flags)
    where
      image : List ℕ
      image = (seen filling.base.flash).octets

      entry : entry_of s.present filling.bank ≡ Fills filling.size filling.log
      entry = ap (λ (r : Record). entry_of r filling.bank) holds.base.fields ∙ filling.entry

      there : filling.bank < s.present.number
      there = subst (λ (r : Record). filling.bank < r.number) (sym holds.base.fields) filling.there

      long : length holds.blocks ≡ block_count filling.size filling.log
      long =
          (subst (λ (k : Content). BankHolds s.present filling.bank (Fills filling.size filling.log) k image) holds.content
          (subst (λ (e : BankState). BankHolds s.present filling.bank e (content_of_bank s filling.bank) image) entry (holds.base.at.represents.banks filling.bank there))).0

      flag : (i : ℕ) → i < block_count filling.size filling.log → slice_index_or (map is_some holds.blocks) i false ≡ slice_index_or (take (block_count filling.size filling.log) filling.held) i false
      flag i lt =
          get_or-map is_some holds.blocks i None false (omega (arith, lt, long))
          ∙ is_some-held (slice_index_or holds.blocks i None)
          ∙ sym (holds.flags i lt)
          ∙ sym (get_or-take (block_count filling.size filling.log) filling.held i false lt)

      size : length (map is_some holds.blocks) ≡ block_count filling.size filling.log
      size = length-map holds.blocks is_some ∙ long

      flags : map is_some holds.blocks ≡ take (block_count filling.size filling.log) filling.held
      flags = ext_get_or false (map is_some holds.blocks) (take (block_count filling.size filling.log) filling.held) (size ∙ sym filling.as_many) (λ i lt. flag i (omega (arith, lt, size)))

  pub place_blocks : (place : Place F g) (s : StoreState) → PlaceHolds seen place s → IfSome (place_filling place) (λ f. HasBlocks s f.bank (place_held place))
  place_blocks (Rest store) s holds = tt
  place_blocks (Fill filling) s holds = filling_blocks filling s holds
  place_blocks (Halted stopped) s holds = absurd holds

-- a call that begins no operation
same_seen : (a : Seen) → Unchanged a a
same_seen a = record {
  pages = refl;
  told = refl;
  octets = λ t. refl;
  clock = λ t. refl;
  left = λ t m c. (λ x. x, λ x. x);
  armed = refl;
  off = refl;
  only_armed = refl;
  faults = omega arith;
}

module _ {F : Type 0} {g : _} (seen : F → Seen) (sound : (f : F) → IsSound (seen f)) (read : (a b : F) → RunsAreRead StateOf reading_of (seen a) (seen b)) where
  ran_base : (base : Base F g) (s : StoreState) → BaseHolds seen base s → Ran (either RepresentsStore) s [] (seen base.flash) (seen base.flash)
  ran_base base s holds =
      (read base.flash base.flash).none as_store s (sound base.flash) (same_seen (seen base.flash)) holds.at.on (λ told. (base.place.page, holds.at.word, holds.at.represents))

  pub place_idle : (place : Place F g) (s : StoreState) → PlaceHolds seen place s → Ran (either RepresentsStore) s [] (place_seen seen place) (place_seen seen place)
  place_idle (Rest store) s holds = ran_base store.base s holds
  place_idle (Fill filling) s holds = ran_base filling.base s holds.base
  place_idle (Halted stopped) s holds = absurd holds
