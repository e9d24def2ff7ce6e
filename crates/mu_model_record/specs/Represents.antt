-- When the octets of a flash represent the state of a store (this profile).
use Rattle.mu_model_image.specs.Sizes.{page_octets}
use Rattle.mu_model_record.specs.Record.{IsRecord, IsWordOf, entry_of}
use Rattle.std.specs.Prelude.{◌≡◌, ◌⊎◌, ℕ, ◌+◌, ◌-◌, ◌*◌, ◌<◌, ◌≤◌, List, length}
use Rattle.mu_model_flash.specs.Bits.{blank}
use Rattle.mu_model_record.specs.declared.Record.{Record}
use Rattle.mu_model_record.specs.Page.{page_of, slot_in, Word, slot_word, IsWord, IsSafePage}
use Rattle.mu_model_record.specs.Store.{StoreState, content_of_bank, pages_of, BankHolds}

-- a record with a smaller count
abbrev pub IsOlder : ℕ → Word → Type 0
IsOlder count word = (r : Record) × IsWordOf word r × IsRecord r × (r.count < count)

-- The present record is this word of this control page. Each other word of the control pages is a record with a smaller count. A slot, or a page
-- whose slot 0 has format 1, that is no code word has a pair of octets in which one bit is 1 in both.
pub record ControlPages (page : ℕ) (word : Word) (r : Record) (image : List ℕ) : Type 0 where
  pub one_of_two : page < 2
  pub there : IsWord (page_of image page) word
  pub spells : IsWordOf word r
  pub others : (q : ℕ) → q < 2 → (v : Word) → IsWord (page_of image q) v → ((q ≡ page) × (v ≡ word)) ⊎ IsOlder r.count v
  pub safe : (q : ℕ) → q < 2 → IsSafePage (page_of image q)

-- The same flash, with the place of the present record named.
pub record RepresentsAt (page : ℕ) (word : Word) (d : StoreState) (image : List ℕ) : Type 0 where
  pub size : length image ≡ page_octets * pages_of d.present
  pub in_range : IsRecord d.present
  pub control : ControlPages page word d.present image
  pub as_many : length d.contents ≡ d.present.number
  pub banks : (b : ℕ) → b < d.present.number → BankHolds d.present b (entry_of d.present b) (content_of_bank d b) image

abbrev pub RepresentsStore : StoreState → List ℕ → Type 0
RepresentsStore d image = (page : ℕ) × (word : Word) × RepresentsAt page word d image

-- so many slots of a control page read FF after its word
abbrev pub IsFollowedBy : ℕ → ℕ → List ℕ → Type 0
IsFollowedBy page fresh image = (k : ℕ) → 4 ≤ k + fresh → k < 4 → slot_in (page_of image page) k ≡ blank 1024

-- The word stands before the slots that are fresh. After a long record none is.
abbrev pub IsBeforeFresh : Word → ℕ → Type 0
IsBeforeFresh word fresh = 0 < fresh → (content : List ℕ) × (word ≡ slot_word (3 - fresh) content)
