-- What is promised of a run, in the words of its reader: images, clock and number.
use Rattle.std.specs.Prelude.{◌≡◌, ◌⊎◌, ℕ, ◌+◌, ◌-◌, ◌^◌, ◌<◌, ◌≤◌, true, false, Some, List, [], ◌∷◌, length}
use Rattle.mu_model_flash.specs.declared.Armed.{Armed}
use Rattle.mu_model_flash.specs.Flash.{Seen}
use Rattle.mu_model_flash.specs.Run.{either, state_at, last_of, ByPattern}

-- the clock grew by so many, or stands at its last value
abbrev pub GrewBy : ℕ → ℕ → ℕ → Type 0
GrewBy n old new = (new ≡ old + n) ⊎ (new ≡ 2 ^ 64 - 1)

-- the octets stand for one of these states
abbrev pub OneOf : {S : Type 0} → (S → List ℕ → Type 0) → List S → List ℕ → Type 0
OneOf Stands [] c = ⊥
OneOf Stands (s ∷ states) c = Stands s c ⊎ OneOf Stands states c

-- the octets stand for the state before or after operation j
abbrev pub Near : {S : Type 0} → (S → List ℕ → Type 0) → S → List S → ℕ → List ℕ → Type 0
Near Stands s steps j c = Stands (state_at s steps (j - 1)) c ⊎ Stands (state_at s steps j) c

-- every image that a cut since the beginning may have left stands for one of these states
abbrev pub EveryImage : {S : Type 0} → (S → List ℕ → Type 0) → List S → Seen → Seen → Type 0
EveryImage Stands states old new = (c : List ℕ) → new.left_since old.clock c → OneOf Stands states c

-- every image that a cut since an earlier moment may have left is one that it may have left before, or stands for one of these states
abbrev pub EarlierImages : {S : Type 0} → (S → List ℕ → Type 0) → List S → Seen → Seen → Type 0
EarlierImages Stands states old new = (m : ℕ) (c : List ℕ) → m ≤ old.clock → new.left_since m c → old.left_since m c ⊎ OneOf Stands states c

-- What is promised where every operation was done.
pub record Done {S : Type 0} (Stands : S → List ℕ → Type 0) (s : S) (steps : List S) (old new : Seen) : Type 0 where
  pub stands : Stands (last_of s steps) new.octets
  pub every_image : EveryImage Stands (s ∷ steps) old new
  pub earlier_images : EarlierImages Stands (s ∷ steps) old new
  pub clock_grew : GrewBy (length steps) old.clock new.clock
  pub number_fell : (a : Armed) → old.armed ≡ Some a → (length steps < a.number) × (new.armed ≡ Some (record { number = a.number - length steps; pattern = a.pattern }))
  pub power_on : new.off ≡ false

-- What is promised where a call failed.
pub record Failing {S : Type 0} (Stands : S → List ℕ → Type 0) (s : S) (steps : List S) (old new : Seen) : Type 0 where
  pub stands : OneOf Stands (s ∷ steps) new.octets
  pub every_image : EveryImage Stands (s ∷ steps) old new
  pub earlier_images : EarlierImages Stands (s ∷ steps) old new
  -- with the clock grown by j and below its last value
  pub by_clock : (j : ℕ) → new.clock ≡ old.clock + j → new.clock < 2 ^ 64 - 1 → (j ≤ length steps) × Near Stands s steps j new.octets
  -- with an armed operation, where the power goes off
  pub by_power : (a : Armed) → old.armed ≡ Some a → old.off ≡ false → new.off ≡ true
      → (a.number ≤ length steps) × Near Stands s steps a.number new.octets × GrewBy a.number old.clock new.clock × ByPattern (either Stands) s steps a.number a.pattern new.octets
