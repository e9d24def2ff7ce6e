-- The typed state that a boot makes of a flash that represents a state.
use Rattle.std.proofs.Common.{◌≡◌, ℕ, ◌<◌, Bool, false, IsTrue, Option, Some, None, List, sym, ◌∙◌, ap, subst}
use Rattle.std.specs.Prelude.{slice_index_or}
use Rattle.mu_model_image.specs.Pieces.{block_count}
use Rattle.mu_model_flash.specs.Flash.{Seen, Unchanged}
use Rattle.mu_model_record.specs.declared.Record.{Record}
use Rattle.mu_model_record.specs.declared.BankState.TheVariants.{Filling as Fills}
use Rattle.mu_model_record.specs.Page.{Word}
use Rattle.mu_model_record.specs.Record.{entry_of}
use Rattle.mu_model_record.specs.Store.{StoreState, content_of_bank}
use Rattle.mu_model_record.specs.Represents.{RepresentsAt}
use Rattle.mu_record.specs.declared.write.Place.{Place}
use Rattle.mu_record.specs.Place.{HoldsAt}
use Rattle.mu_store.specs.declared.judge.Marks.{Marks}
use Rattle.mu_store.specs.declared.base.Base.{Base}
use Rattle.mu_store.specs.declared.booting.Booted.{Booted}
use Rattle.mu_store.specs.declared.booting.Booted.TheVariants.{Rest, Fill}
use Rattle.mu_store.specs.Base.{BaseHolds}
use Rattle.mu_store.specs.Judged.{IsSoundMarks, IsWhole}
use Rattle.mu_store.specs.Booted.{BootedHolds, IsMade}
use Rattle.mu_store.proofs.JudgeLemmas.{fields_are, held_at, held_blocks}
use Rattle.mu_store.specs.Known.{Known}

base_holds : {F : Type 0} {g : _} (seen : F → Seen) (flash : F) (page : ℕ) (r : Record) (base : Base F g) (d : StoreState) → base.flash ≡ flash → base.place ≡ record { page = page; fresh = 0 } → base.fields ≡ r
    → HoldsAt (seen flash) page 0 d → d.present ≡ r → BaseHolds seen base d
base_holds {F = F} seen flash page r base d flash_is place_is fields_is at present = record {
  at = subst (λ (f : F). HoldsAt (seen f) base.place.page base.place.fresh d) (sym flash_is) (subst (λ (p : Place). HoldsAt (seen flash) p.page p.fresh d) (sym place_is) at);
  fields = present ∙ sym fields_is;
}

module _ (known : Known) where
  pub booted_holds : {F : Type 0} {g : _} (seen : F → Seen) (a : Seen) (flash : F) (page : ℕ) (r : Record) (marks : Option Marks) (booted : Booted F g) → IsMade flash page r marks booted
      → IsTrue a.told → a.off ≡ false → Unchanged a (seen flash) → IsWhole a.octets page r marks → IsSoundMarks r marks → (p : ℕ) (word : Word) (d : StoreState) → RepresentsAt p word d a.octets → BootedHolds seen booted d
  booted_holds seen a flash page r None (Rest store) made told on same whole sound p word d at =
      base_holds seen flash page r store.base d made.flash_is made.place_is made.record_is ((held_at known) page p word d a r None at whole (seen flash) same told on) ((fields_are known) page p word d a r None at whole (seen flash) same told on)
  booted_holds seen a flash page r None (Fill filling) made told on same whole sound p word d at = absurd made.marks_are
  booted_holds seen a flash page r (Some m) (Rest store) made told on same whole sound p word d at = absurd made.marks_are
  booted_holds seen a flash page r (Some m) (Fill filling) made told on same whole sound p word d at =
      let present = (fields_are known) page p word d a r (Some m) at whole (seen flash) same told on in
      let there : m.bank < d.present.number = subst (λ (s : Record). m.bank < s.number) (sym present) sound.0 in
      let entry : entry_of d.present m.bank ≡ Fills m.size m.log = ap (λ (s : Record). entry_of s m.bank) present ∙ sound.1 in
      let b = held_blocks p word d a.octets at m.bank m.size m.log m.held there entry whole.marks_are in
      let are = made.marks_are in
      record {
        base = base_holds seen flash page r filling.base d made.flash_is made.place_is made.record_is ((held_at known) page p word d a r (Some m) at whole (seen flash) same told on) present;
        blocks = b.0;
        content = ap (λ (n : ℕ). content_of_bank d n) are.0 ∙ b.1;
        flags = λ i lt. ap (λ (l : List Bool). slice_index_or l i false) are.3 ∙ b.2 i (subst (λ (n : ℕ). i < block_count n m.log) are.1 (subst (λ (n : ℕ). i < block_count filling.size n) are.2 lt));
      }
