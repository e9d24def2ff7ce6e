-- A store with images in given banks, and one bank more that may be Filling or Sealed: each such plan is a state of a store.
use Rattle.std.specs.Prelude.{◌≡◌, ◌==◌, ℕ, ◌<◌, ◌≤◌, Bool, true, false, Option, Some, None, List, [], ◌∷◌, take}
use Rattle.mu_model_image.specs.Meta.{Image}
use Rattle.mu_model_record.specs.declared.BankState.{BankState}
use Rattle.mu_model_record.specs.declared.BankState.TheVariants.{Empty, Sealed}
use Rattle.mu_model_record.specs.Record.{IsEntryInRange, IsFilling, entry_of, capacity_of}
use Rattle.mu_model_record.specs.Store.{Content, nothing, whole, StoreState, content_of_bank}
use Rattle.mu_model_record.specs.ChangeLaws.{IsTag}
use Rattle.mu_model_represents.specs.BlobPart.{NoneFilling}
use Rattle.mu_model_represents.specs.Images.{IsSealed, HasImage, IsGoodImage}
use Rattle.mu_model_represents.specs.StoreStates.{ContentOf, IsStoreState}
use Rattle.mu_model_represents.specs.Numbers.{IsCount}

abbrev pub entry_by : BankState → Option Image → Bool → BankState
entry_by e (Some x) t = Sealed x.meta
entry_by e None true = e
entry_by e None false = Empty

abbrev pub content_by : Content → Option Image → Bool → Content
content_by c (Some x) t = whole x.octets
content_by c None true = c
content_by c None false = nothing

-- all but the images
pub record Plan : Type 0 where
  pub count : ℕ
  pub pages : ℕ
  pub number : ℕ
  pub tag : List ℕ
  -- the bank that has none of them, with what is in it
  pub bank : ℕ
  pub entry : BankState
  pub content : Content

abbrev pub made : Plan → (ℕ → Option Image) → StoreState
made p placed = record {
  present = record {
    count = p.count;
    pages = p.pages;
    number = p.number;
    banks = entry_by p.entry (placed 0) (0 == p.bank) ∷ entry_by p.entry (placed 1) (1 == p.bank) ∷ entry_by p.entry (placed 2) (2 == p.bank) ∷ entry_by p.entry (placed 3) (3 == p.bank) ∷ [];
    tag = p.tag;
  };
  contents = take p.number (content_by p.content (placed 0) (0 == p.bank) ∷ content_by p.content (placed 1) (1 == p.bank) ∷ content_by p.content (placed 2) (2 == p.bank) ∷ content_by p.content (placed 3) (3 == p.bank) ∷ []);
}

pub record IsPlan (p : Plan) (placed : ℕ → Option Image) : Type 0 where
  pub count : IsCount p.count
  pub pages_least : 1 ≤ p.pages
  pub pages_most : p.pages ≤ 256
  pub number_least : 2 ≤ p.number
  pub number_most : p.number ≤ 4
  pub tag : IsTag p.tag
  pub there : (b : ℕ) (x : Image) → placed b ≡ Some x → b < p.number
  pub good : (b : ℕ) (x : Image) → placed b ≡ Some x → IsGoodImage (capacity_of (made p placed).present) x
  pub bank : p.bank < p.number
  pub entry : IsEntryInRange (made p placed).present p.entry
  pub content : ContentOf p.entry p.content

-- the state that it is, and what its banks hold
pub record IsAsPlanned (p : Plan) (placed : ℕ → Option Image) : Type 0 where
  pub state : IsStoreState (made p placed)
  pub image : (b : ℕ) (x : Image) → placed b ≡ Some x → HasImage (made p placed) b x
  pub entry : placed p.bank ≡ None → entry_of (made p placed).present p.bank ≡ p.entry
  pub content : placed p.bank ≡ None → content_of_bank (made p placed) p.bank ≡ p.content
  pub none_filling : ¬ IsFilling p.entry → NoneFilling (made p placed).present
  pub sealed_image : (b : ℕ) → ¬ IsSealed p.entry → IsSealed (entry_of (made p placed).present b) → (x : Image) × (placed b ≡ Some x)

abbrev pub StoresAreMade : Type 0
StoresAreMade = (p : Plan) (placed : ℕ → Option Image) → IsPlan p placed → IsAsPlanned p placed
