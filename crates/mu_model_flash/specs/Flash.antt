-- All that a flash means at a moment, as plain values (this profile's cut model).
use Rattle.std.specs.Prelude.{◌≡◌, ℕ, ◌+◌, ◌-◌, ◌*◌, ◌^◌, ◌<◌, ◌≤◌, ◌↔◌, min, Bool, true, false, IsTrue, Option, Some, None, IfSome, List, [], length}
use Rattle.mu_model_image.specs.Sizes.{page_octets}
use Rattle.mu_model_flash.specs.declared.Armed.{Armed}
use Rattle.mu_model_flash.specs.Bits.{AreOctets}
use Rattle.mu_model_flash.specs.Patterns.{IsLeftBy}

pub record Seen : Type 1 where
  pub pages : ℕ
  -- whether content and clock are told
  pub told : Bool
  -- what reads give
  pub octets : List ℕ
  -- operations begun
  pub clock : ℕ
  -- what a power cut at some moment since that operation may have left
  pub left_since : ℕ → List ℕ → Type 0
  -- the armed operation, or none
  pub armed : Option Armed
  -- whether the power is off
  pub off : Bool
  -- whether its calls fail by an armed operation alone
  pub only_armed : Bool
  -- how many of its calls have failed
  pub faults : ℕ

-- a clock after so many operations more: it is kept as a u64 and stays at its last value
abbrev pub ticks : ℕ → ℕ → ℕ
ticks clock n = min (clock + n) (2 ^ 64 - 1)

-- the armed operation after so many operations that began and didn't reach it
abbrev pub fallen : Option Armed → ℕ → Option Armed
fallen None n = None
fallen (Some a) n = Some (record { number = a.number - n; pattern = a.pattern })

-- so many operations can begin before the armed one
abbrev pub IsBefore : ℕ → Option Armed → Type 0
IsBefore n armed = IfSome armed (λ a. n < a.number)

-- octets of so many pages
pub record IsImage (pages : ℕ) (c : List ℕ) : Type 0 where
  pub size : length c ≡ page_octets * pages
  pub octets : AreOctets c

-- what holds of every flash at every moment
pub record IsSound (f : Seen) : Type 0 where
  pub few_pages : f.pages < 2 ^ 32
  pub faults_counted : f.faults < 2 ^ 64
  pub clock_counted : IsTrue f.told → f.clock < 2 ^ 64
  pub is_image : IsTrue f.told → IsImage f.pages f.octets
  pub all_images : IsTrue f.told → (m : ℕ) (c : List ℕ) → f.left_since m c → IsImage f.pages c
  -- what reads give is always one of the images, and the only one where the clock stands at m
  pub now_counts : IsTrue f.told → (m : ℕ) → m ≤ f.clock → f.left_since m f.octets
  pub only_now : IsTrue f.told → (c : List ℕ) → f.left_since f.clock c → c ≡ f.octets
  -- number 1 is the next operation
  pub not_past : IsBefore 0 f.armed
  pub none_off : f.off ≡ true → f.armed ≡ None

-- no meaning has changed but the count of faults
pub record Unchanged (old new : Seen) : Type 0 where
  pub pages : new.pages ≡ old.pages
  pub told : new.told ≡ old.told
  pub octets : IsTrue old.told → new.octets ≡ old.octets
  pub clock : IsTrue old.told → new.clock ≡ old.clock
  pub left : IsTrue old.told → (m : ℕ) (c : List ℕ) → new.left_since m c ↔ old.left_since m c
  pub armed : new.armed ≡ old.armed
  pub off : new.off ≡ old.off
  pub only_armed : new.only_armed ≡ old.only_armed
  pub faults : old.faults ≤ new.faults

-- where the power goes off in an operation, its range is left by the pattern of the armed one
abbrev pub LeftByPattern : Seen → Seen → ℕ → List ℕ → Type 0
LeftByPattern old new at bytes =
    IsTrue old.told → old.off ≡ false → new.off ≡ true → IfSome old.armed (λ a. IsLeftBy a.pattern old.octets at bytes new.octets)

-- this operation is armed, or none, and nothing else has changed
pub record ArmedAs (armed : Option Armed) (old new : Seen) : Type 0 where
  pub set : new.armed ≡ armed
  pub pages : new.pages ≡ old.pages
  pub told : new.told ≡ old.told
  pub octets : new.octets ≡ old.octets
  pub clock : new.clock ≡ old.clock
  pub left : (m : ℕ) (c : List ℕ) → new.left_since m c ↔ old.left_since m c
  pub off : new.off ≡ old.off
  pub only_armed : new.only_armed ≡ old.only_armed
  pub faults : new.faults ≡ old.faults

-- the power is on and nothing is armed, and nothing else has changed
pub record PoweredOn (old new : Seen) : Type 0 where
  pub on : new.off ≡ false
  pub armed : new.armed ≡ None
  pub pages : new.pages ≡ old.pages
  pub told : new.told ≡ old.told
  pub octets : new.octets ≡ old.octets
  pub clock : new.clock ≡ old.clock
  pub left : (m : ℕ) (c : List ℕ) → new.left_since m c ↔ old.left_since m c
  pub only_armed : new.only_armed ≡ old.only_armed
  pub faults : new.faults ≡ old.faults

-- a flash that tells its number of pages and its count of faults alone, as a real one does
abbrev pub untold : ℕ → ℕ → Seen
untold pages faults = record {
  pages = pages;
  told = false;
  octets = [];
  clock = 0;
  left_since = λ m c. ⊥;
  armed = None;
  off = false;
  only_armed = false;
  faults = faults;
}

pub untold_is_sound : (pages faults : ℕ) → pages < 2 ^ 32 → faults < 2 ^ 64 → IsSound (untold pages faults)
untold_is_sound pages faults few counted = record {
  few_pages = few;
  faults_counted = counted;
  clock_counted = λ told. absurd (cc told);
  is_image = λ told. absurd (cc told);
  all_images = λ told m c left. absurd (cc told);
  now_counts = λ told m le. absurd (cc told);
  only_now = λ told c left. absurd (cc told);
  not_past = tt;
  none_off = λ off. absurd (cc off);
}
