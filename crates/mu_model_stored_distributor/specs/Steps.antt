-- The operations of a store are the flash work of a distributor, state by state.
use Rattle.std.specs.Prelude.{◌≡◌, ℕ, List, ◌∷◌, Contains}
use Rattle.std.specs.List.{AllByRecursion, AllZip}
use Rattle.mu_model_record.specs.Store.{StoreState}
use Rattle.mu_model_record.specs.Next.{record_steps, block_steps}
use Rattle.mu_model_record.specs.Next.{fresh_after as slots_after}
use Rattle.mu_model_node.specs.declared.FlashWork.{FlashWork}
use Rattle.mu_model_node.specs.declared.FlashWork.TheVariants.{Recorded, Begun, PutBlock}
use Rattle.mu_model_node.specs.FlashWork.{fresh_after, passed_by, work_by}
use Rattle.mu_model_distributor.specs.DistState.{DistDurable}
use Rattle.mu_model_distributor.specs.Commit.{is_long}
use Rattle.mu_model_represents.specs.StoreStates.{IsStoreState}
use Rattle.mu_model_represents_distributor.specs.RepresentsDistributor.{IsDistributor}

-- both notions of what is fresh agree after a record of a distributor, which is long by its receivers
abbrev pub DistributorFreshIsTheSame : Type 0
DistributorFreshIsTheSame = (fresh : ℕ) (e : StoreState) (n : DistDurable) → IsStoreState e → IsDistributor e n → slots_after fresh e.present ≡ fresh_after (is_long n) fresh

-- a record
abbrev pub DistributorRecordSteps : Type 0
DistributorRecordSteps =
    (fresh : ℕ) (s e : StoreState) (d n : DistDurable) → IsStoreState e → IsDistributor s d → IsDistributor e n
    → AllZip IsDistributor (record_steps fresh s e) (work_by fresh d n (Recorded (is_long n)))

-- a bank that is begun: its mark page is erased first
abbrev pub DistributorBeginSteps : Type 0
DistributorBeginSteps =
    (fresh : ℕ) (s e : StoreState) (d n : DistDurable) → IsStoreState e → IsDistributor s d → IsDistributor e n
    → AllZip IsDistributor (s ∷ record_steps fresh s e) (work_by fresh d n (Begun (is_long n)))

-- a block of so many pages
abbrev pub DistributorBlockSteps : Type 0
DistributorBlockSteps =
    (fresh pages : ℕ) (s e : StoreState) (d n : DistDurable) → IsDistributor s d → IsDistributor e n
    → AllZip IsDistributor (block_steps pages s e) (work_by fresh d n (PutBlock pages))

-- what stands after an operation is one of the states passed
abbrev pub WorkIsOfThePassed : Type 0
WorkIsOfThePassed = (fresh : ℕ) (d n : DistDurable) (work : FlashWork) → AllByRecursion (λ (x : DistDurable). Contains (passed_by d n work) x) (work_by fresh d n work)
