-- What a flash in memory means: it tells the octets that it holds now as the only image.
use Rattle.std.specs.Prelude.{◌≡◌, ℕ, ◌*◌, Bool, true, ◌<◌, ◌==◌, if◌then◌else◌, Option, Some, None, false, List, [], ◌∷◌, length, refl}
use Rattle.std.specs.Option.{ForSome}
use Rattle.std.proofs.Common.{subst, sym}
use Rattle.mu_model_image.specs.Sizes.{page_octets}
use Rattle.mu_model_flash.specs.Bits.{blank}
use Rattle.mu_model_flash.specs.declared.Armed.{Armed}
use Rattle.mu_model_flash.specs.declared.Pattern.{Pattern}
use Rattle.mu_model_flash.specs.Flash.{Seen, IsBefore, IsImage, IsSound}
use Rattle.mu_outside.specs.declared.cells.Cells.{Cells}

abbrev pub memory : Cells → Option Armed → Bool → Bool → Seen
memory cells armed off only_armed = record {
  pages = cells.pages;
  told = true;
  octets = cells.octets.items;
  clock = cells.clock;
  left_since = λ m c. c ≡ cells.octets.items;
  armed = armed;
  off = off;
  only_armed = only_armed;
  faults = cells.faults;
}

pub memory_is_sound : (cells : Cells) (armed : Option Armed) (off only_armed : Bool) → IsBefore 0 armed → (off ≡ true → armed ≡ None) → IsSound (memory cells armed off only_armed)
memory_is_sound cells armed off only_armed not_past none_off = record {
  few_pages = cells.few_pages;
  faults_counted = cells.faults_counted;
  clock_counted = λ told. cells.clock_counted;
  is_image = λ told. cells.is_image;
  all_images = λ told m c is. subst (λ (x : List ℕ). IsImage cells.pages x) (sym is) cells.is_image;
  now_counts = λ told m le. refl;
  only_now = λ told c is. is;
  not_past = not_past;
  none_off = none_off;
}

-- the power that is on isn't off
pub never_off : (armed : Option Armed) → false ≡ true → armed ≡ None
never_off armed off = absurd (cc off)

pub before_some : (armed : Option Armed) → ForSome armed (λ a. 0 < a.number) → IsBefore 0 armed
before_some None h = tt
before_some (Some a) h = h a refl

-- as a constructor makes it: all FF, with the power on and none armed
pub record IsNew (pages : ℕ) (f : Seen) : Type 0 where
  pub pages_are : f.pages ≡ pages
  pub told : f.told ≡ true
  pub octets : f.octets ≡ blank (page_octets * pages)
  pub clock : f.clock ≡ 0
  pub armed : f.armed ≡ None
  pub on : f.off ≡ false
  pub only_armed : f.only_armed ≡ true
  pub faults : f.faults ≡ 0

-- as a constructor makes it of octets, with the power on and none armed, where calls fail by their numbers
pub record Holds (octets : List ℕ) (f : Seen) : Type 0 where
  pub pages_are : page_octets * f.pages ≡ length octets
  pub told : f.told ≡ true
  pub octets_are : f.octets ≡ octets
  pub clock : f.clock ≡ 0
  pub armed : f.armed ≡ None
  pub on : f.off ≡ false
  pub faults : f.faults ≡ 0

-- the pattern of the first entry with this number, or none
abbrev pub pattern_named : List (ℕ × Pattern) → ℕ → Option Pattern
pattern_named [] number = None
pattern_named (entry ∷ rest) number = if entry.0 == number then Some entry.1 else pattern_named rest number
