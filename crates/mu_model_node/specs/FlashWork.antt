-- What an event does to the flash: the durable states that it goes through, and the one that stands after each operation.
use Rattle.std.specs.Prelude.{ℕ, ◌*◌, ◌-◌, ◌==◌, Bool, true, false, List, [], ◌∷◌, ◌++◌, if◌then◌else◌, replicate}
pub use Rattle.mu_model_image.specs.Sizes.{page_octets}
pub use Rattle.mu_model_node.specs.declared.FlashWork.{FlashWork}
pub use Rattle.mu_model_node.specs.declared.FlashWork.TheVariants.{Untouched, Recorded, Begun, PutBlock}

-- the slots after the present record that this run may still use, after a further record: a long record leaves none, and a
-- short one begins a control page where there is none
abbrev pub fresh_after : Bool → ℕ → ℕ
fresh_after true fresh = 0
fresh_after false fresh = if fresh == 0 then 3 else fresh - 1

-- the durable states that an event goes through, the old one first
abbrev pub passed_by : {D : Type 0} → D → D → FlashWork → List D
passed_by old new Untouched = old ∷ []
passed_by old new _ = old ∷ new ∷ []

-- a record is one program into a fresh slot; else the other control page is erased first
abbrev pub record_work : {D : Type 0} → Bool → ℕ → D → D → List D
record_work true fresh old new = old ∷ new ∷ []
record_work false fresh old new = if fresh == 0 then old ∷ new ∷ [] else new ∷ []

-- the durable state that stands after each flash operation of an event
abbrev pub work_by : {D : Type 0} → ℕ → D → D → FlashWork → List D
work_by fresh old new Untouched = []
work_by fresh old new (Recorded is_long) = record_work is_long fresh old new
work_by fresh old new (Begun is_long) = old ∷ record_work is_long fresh old new
work_by fresh old new (PutBlock pages) = replicate (2 * pages) old ++ new ∷ []
