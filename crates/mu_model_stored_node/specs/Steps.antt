-- The operations of a store are the flash work of a node, state by state.
use Rattle.std.specs.Prelude.{◌≡◌, ℕ, false, List, ◌∷◌, Contains}
use Rattle.std.specs.List.{AllByRecursion, AllZip}
use Rattle.mu_model_record.specs.declared.Record.{Record}
use Rattle.mu_model_record.specs.Record.{IsShort}
use Rattle.mu_model_record.specs.Store.{StoreState}
use Rattle.mu_model_record.specs.Next.{record_steps, block_steps}
use Rattle.mu_model_record.specs.Next.{fresh_after as slots_after}
use Rattle.mu_model_node.specs.declared.FlashWork.{FlashWork}
use Rattle.mu_model_node.specs.declared.FlashWork.TheVariants.{Recorded, Begun, PutBlock}
use Rattle.mu_model_node.specs.FlashWork.{fresh_after, passed_by, work_by}
use Rattle.mu_model_node.specs.NodeState.{NodeDurable}
use Rattle.mu_model_represents.specs.StoreStates.{IsStoreState}
use Rattle.mu_model_represents.specs.RepresentsNode.{IsNode}

-- both notions of what is fresh agree after a record of a node, which is short
abbrev pub NodeFreshIsTheSame : Type 0
NodeFreshIsTheSame = (fresh : ℕ) (e : StoreState) (n : NodeDurable) → IsStoreState e → IsNode e n → slots_after fresh e.present ≡ fresh_after false fresh

-- so they do after any short record
abbrev pub ShortFreshIsTheSame : Type 0
ShortFreshIsTheSame = (fresh : ℕ) (r : Record) → IsShort r → slots_after fresh r ≡ fresh_after false fresh

-- a record
abbrev pub NodeRecordSteps : Type 0
NodeRecordSteps =
    (fresh : ℕ) (s e : StoreState) (d n : NodeDurable) → IsStoreState e → IsNode s d → IsNode e n
    → AllZip IsNode (record_steps fresh s e) (work_by fresh d n (Recorded false))

-- a bank that is begun: its mark page is erased first
abbrev pub NodeBeginSteps : Type 0
NodeBeginSteps =
    (fresh : ℕ) (s e : StoreState) (d n : NodeDurable) → IsStoreState e → IsNode s d → IsNode e n
    → AllZip IsNode (s ∷ record_steps fresh s e) (work_by fresh d n (Begun false))

-- a block of so many pages
abbrev pub NodeBlockSteps : Type 0
NodeBlockSteps =
    (fresh pages : ℕ) (s e : StoreState) (d n : NodeDurable) → IsNode s d → IsNode e n → AllZip IsNode (block_steps pages s e) (work_by fresh d n (PutBlock pages))

-- what stands after an operation is one of the states passed
abbrev pub WorkIsOfThePassed : Type 0
WorkIsOfThePassed = (fresh : ℕ) (d n : NodeDurable) (work : FlashWork) → AllByRecursion (λ (x : NodeDurable). Contains (passed_by d n work) x) (work_by fresh d n work)
