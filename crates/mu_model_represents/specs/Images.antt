-- Images in the banks of a store (this profile).
use Rattle.std.specs.Prelude.{◌≡◌, ◌==◌, ◌<◌, ℕ, Bool, false, List, [], ◌∷◌}
use Rattle.std.specs.List.{list_any}
use Rattle.mu_model_image.specs.Meta.{Image, IsMeta}
use Rattle.mu_model_record.specs.declared.BankState.{BankState}
use Rattle.mu_model_record.specs.declared.BankState.TheVariants.{Empty, Filling, Sealed}
use Rattle.mu_model_record.specs.Record.{entry_of, capacity_of}
use Rattle.mu_model_record.specs.Store.{whole, StoreState, content_of_bank}
use Rattle.mu_model_node.specs.Sound.{IsActiveImage}
use Rattle.mu_model_represents.specs.StoreStates.{IsStoreState}

abbrev pub IsSealed : BankState → Type 0
IsSealed Empty = ⊥
IsSealed (Filling size log) = ⊥
IsSealed (Sealed meta) = Unit {0}

abbrev pub is_among : List ℕ → ℕ → Bool
is_among banks bank = list_any (λ (b : ℕ). b == bank) banks

abbrev pub AllDiffer : List ℕ → Type 0
AllDiffer [] = Unit {0}
AllDiffer (b ∷ banks) = (is_among banks b ≡ false) × AllDiffer banks

-- The bank is Sealed with the image's metadata, and holds its octets.
pub record HasImage (s : StoreState) (bank : ℕ) (image : Image) : Type 0 where
  pub entry : entry_of s.present bank ≡ Sealed image.meta
  pub content : content_of_bank s bank ≡ whole image.octets

-- The image is in the ranges of metadata, fits them, and has room in a bank.
pub record IsGoodImage (capacity : ℕ) (x : Image) : Type 0 where
  pub meta : IsMeta x.meta
  pub active : IsActiveImage capacity x

-- ---- what the banks of a store hold

abbrev pub BankIsOneImage : Type 0
BankIsOneImage = (s : StoreState) (bank : ℕ) (x y : Image) → HasImage s bank x → HasImage s bank y → x ≡ y

abbrev pub BankImageIsGood : Type 0
BankImageIsGood =
    (s : StoreState) (bank : ℕ) (x : Image) → IsStoreState s → HasImage s bank x → (bank < s.present.number) × IsGoodImage (capacity_of s.present) x

-- a bank that is Sealed has an image
abbrev pub SealedBankHasAnImage : Type 0
SealedBankHasAnImage = (s : StoreState) (bank : ℕ) → IsStoreState s → IsSealed (entry_of s.present bank) → (x : Image) × HasImage s bank x
