-- States that the flash represents, and the blocks that they hold.
use Rattle.std.proofs.Common.{◌≡◌, ◌∙◌, ℕ, ◌<◌, Bool, true, false, Option, Some, None, List, [], length, map, replicate, refl, sym, ap, subst}
use Rattle.std.specs.Prelude.{IfSome, IsTrue}
use Rattle.mu_model_flash.specs.Flash.{Seen}
use Rattle.mu_model_image.specs.declared.Meta.{Meta}
use Rattle.mu_model_image.specs.Pieces.{block_count, blocks_of}
use Rattle.mu_model_record.specs.declared.Record.{Record}
use Rattle.mu_model_record.specs.declared.BankState.{BankState}
use Rattle.mu_model_record.specs.declared.BankState.TheVariants.{Empty, Filling, Sealed}
use Rattle.mu_model_record.specs.Record.{entry_of}
use Rattle.mu_model_record.specs.Store.{Content, nothing, held, whole, StoreState, content_of_bank}
use Rattle.mu_model_node.specs.declared.Parameters.{Parameters}
use Rattle.mu_model_node.specs.Slots.{Slots, received}
use Rattle.mu_model_node.specs.Sound.{HasBlocks as HasSoundBlocks}
use Rattle.mu_model_represents.specs.BlobPart.{blocks_by, held_by, TakesBy, BankGoesWith}
use Rattle.mu_model_represents.specs.StoreStates.{ContentOf}
use Rattle.mu_note.specs.declared.blob.BlobJob.{BlobJob}
use Rattle.mu_place.specs.declared.place.FillingBank.{FillingBank}
use Rattle.mu_place.specs.declared.place.Place.{Place}
use Rattle.mu_place.specs.declared.place.Place.TheVariants.{Rest, Fill, Halted}
use Rattle.mu_place.specs.Place.{place_seen, place_fault, PlaceHolds, HasBlocks}
use Rattle.mu_kept.specs.Views.{is_filling, flags_by, flags_with}
use Rattle.mu_kept.specs.Calls.{bank_begun}
use Rattle.mu_kept.proofs.Showing.{received-all}
use Rattle.mu_kept.proofs.Fitting.{Knows, fills_is}

module _ {F : Type 0} {g : _} (seen : F → Seen) where
  pub holds_told : (place : Place F g) (s : StoreState) → PlaceHolds seen place s → IsTrue (place_seen seen place).told
  holds_told (Rest store) s holds = holds.at.told
  holds_told (Fill filling) s holds = holds.base.at.told
  holds_told (Halted stopped) s holds = absurd holds

  pub holds_fault : (place : Place F g) (s : StoreState) → PlaceHolds seen place s → place_fault place ≡ None
  holds_fault (Rest store) s holds = refl
  holds_fault (Fill filling) s holds = refl
  holds_fault (Halted stopped) s holds = absurd holds

-- a Sealed bank holds all blocks of its image
sealed_blocks : (meta : Meta) (content : Content) (log n : ℕ) → ContentOf (Sealed meta) content → length (blocks_by log content) ≡ n
    → received (blocks_by log content) ≡ replicate n true
sealed_blocks meta nothing log n fits long = absurd fits
sealed_blocks meta (held blocks) log n fits long = absurd fits
sealed_blocks meta (whole octets) log n fits long = received-all (blocks_of octets log) n long

-- one that is being filled holds those that are marked
filled_blocks : (s : StoreState) (bank log : ℕ) (marks : List Bool) → HasBlocks s bank marks → received (blocks_by log (content_of_bank s bank)) ≡ marks
filled_blocks s bank log marks has = ap (λ (c : Content). received (blocks_by log c)) has.1 ∙ has.2

module _ (s : StoreState) (bank : ℕ) (marks : List Bool) where
  blocks_shown : (p : Parameters) (e : BankState) → TakesBy p e → ContentOf e (content_of_bank s bank)
      → length (blocks_by p.log (content_of_bank s bank)) ≡ block_count p.size p.log → (is_filling e ≡ true → HasBlocks s bank marks)
      → received (blocks_by p.log (content_of_bank s bank)) ≡ flags_by e marks p
  blocks_shown p Empty takes content long has = absurd takes
  blocks_shown p (Filling size log) takes content long has = filled_blocks s bank p.log marks (has refl)
  blocks_shown p (Sealed meta) takes content long has = sealed_blocks meta (content_of_bank s bank) p.log (block_count p.size p.log) content long

  pub held_shown : (size : ℕ) (q : Option Parameters) (r : Record) → BankGoesWith r bank q → ContentOf (entry_of r bank) (content_of_bank s bank)
      → HasSoundBlocks size q (held_by q (content_of_bank s bank)) → ((p : Parameters) → q ≡ Some p → is_filling (entry_of r bank) ≡ true → HasBlocks s bank marks)
      → received (held_by q (content_of_bank s bank)) ≡ flags_with (entry_of r bank) marks q
  held_shown size None r goes content sound has = refl
  held_shown size (Some p) r goes content sound has = blocks_shown p (entry_of r bank) goes content sound.count (has p refl)

-- the marks are those of the job's bank
pub marked : (s : StoreState) (r : Record) (marks : List Bool) (filling : Option FillingBank) (j : BlobJob) → Knows r filling marks → BankGoesWith r j.bank j.parameters
    → IfSome filling (λ f. HasBlocks s f.bank marks) → (p : Parameters) → j.parameters ≡ Some p → is_filling (entry_of r j.bank) ≡ true → HasBlocks s j.bank marks
marked s r marks filling j k goes has p is h =
    subst (λ (o : Option FillingBank). IfSome o (λ f. HasBlocks s f.bank marks)) (fills_is r marks filling j k goes h ∙ ap (bank_begun j) is) has
