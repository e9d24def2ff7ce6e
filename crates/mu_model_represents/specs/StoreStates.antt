-- Which states a store can be in, without the octets of a flash (this profile).
use Rattle.std.specs.Prelude.{◌≡◌, ℕ, ◌<◌, length}
use Rattle.mu_model_image.specs.Meta.{IsFit}
use Rattle.mu_model_image.specs.Pieces.{block_count, block_length}
use Rattle.mu_model_record.specs.declared.BankState.{BankState}
use Rattle.mu_model_record.specs.declared.BankState.TheVariants.{Empty, Filling, Sealed}
use Rattle.mu_model_record.specs.Record.{IsRecord, entry_of}
use Rattle.mu_model_record.specs.Store.{Content, nothing, held, whole, StoreState, content_of_bank}
use Rattle.mu_model_node.specs.Sound.{HaveLengths}

-- A bank holds what its entry says: what is held of its blocks has their lengths, and the octets of a Sealed one are fit.
abbrev pub ContentOf : BankState → Content → Type 0
ContentOf Empty nothing = Unit {0}
ContentOf (Filling size log) (held blocks) = (length blocks ≡ block_count size log) × HaveLengths (block_length size log) blocks
ContentOf (Sealed meta) (whole octets) = IsFit octets meta
ContentOf Empty (held blocks) = ⊥
ContentOf Empty (whole octets) = ⊥
ContentOf (Filling size log) nothing = ⊥
ContentOf (Filling size log) (whole octets) = ⊥
ContentOf (Sealed meta) nothing = ⊥
ContentOf (Sealed meta) (held blocks) = ⊥

pub record IsStoreState (s : StoreState) : Type 0 where
  pub in_range : IsRecord s.present
  pub as_many : length s.contents ≡ s.present.number
  pub contents : (b : ℕ) → b < s.present.number → ContentOf (entry_of s.present b) (content_of_bank s b)
