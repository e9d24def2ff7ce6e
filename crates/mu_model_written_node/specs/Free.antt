-- The bank of a node that isn't active (this profile): there is one.
use Rattle.std.specs.Prelude.{◌≡◌, ◌<◌, ℕ, false, List, Option, Some, None}
use Rattle.std.specs.List.{AllByRecursion}
use Rattle.mu_model_record.specs.declared.Record.{Record}
use Rattle.mu_model_record.specs.Record.{IsRecord, IsFilling, entry_of}
use Rattle.mu_model_represents.specs.BlobPart.{NoneFilling}
use Rattle.mu_model_represents.specs.Images.{is_among}
use Rattle.mu_model_shown_node.specs.Shown.{InMemory, IsNodeMemory}

pub record IsFreeBank (r : Record) (active : List ℕ) (bank : ℕ) : Type 0 where
  pub there : bank < r.number
  pub apart : is_among active bank ≡ false
  pub alone : (b : ℕ) → b < r.number → is_among active b ≡ false → b ≡ bank

abbrev pub OneBankIsFree : Type 0
OneBankIsFree =
    (m : InMemory) (bank : ℕ) → IsNodeMemory m → IsRecord m.present → bank < m.present.number → is_among m.note.active bank ≡ false
    → IsFreeBank m.present m.note.active bank

abbrev pub ActiveBanksAreThere : Type 0
ActiveBanksAreThere = (m : InMemory) → IsNodeMemory m → IsRecord m.present → AllByRecursion (λ (b : ℕ). b < m.present.number) m.note.active

-- which bank is being filled, if one is: the free one
abbrev pub FillsBank : Option ℕ → Record → ℕ → Type 0
FillsBank None r bank = NoneFilling r
FillsBank (Some f) r bank = (f ≡ bank) × IsFilling (entry_of r f)
