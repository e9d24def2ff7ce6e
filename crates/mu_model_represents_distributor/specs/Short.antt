-- Which records of a distributor are short, and how runs of a store are read.
use Rattle.std.specs.Prelude.{◌≡◌, ◌↔◌, false, List}
use Rattle.std.specs.List.{AllZip}
use Rattle.mu_model_flash.specs.Run.{either, Refines}
use Rattle.mu_model_record.specs.Record.{IsShort}
use Rattle.mu_model_record.specs.Store.{StoreState}
use Rattle.mu_model_record.specs.Represents.{RepresentsStore}
use Rattle.mu_model_distributor.specs.DistState.{DistDurable}
use Rattle.mu_model_distributor.specs.Commit.{is_long}
use Rattle.mu_model_represents.specs.StoreStates.{IsStoreState}
use Rattle.mu_model_represents_distributor.specs.RepresentsDistributor.{IsDistributor, RepresentsDistributor}

-- a record of a distributor is written short where the model says that it isn't long
abbrev pub DistributorRecordIsLongByReceivers : Type 0
DistributorRecordIsLongByReceivers = (s : StoreState) (d : DistDurable) → IsStoreState s → IsDistributor s d → (is_long d ≡ false) ↔ IsShort s.present

-- a run through states of a store is a run through the states that they represent
abbrev pub StoresAreReadAsDistributors : Type 0
StoresAreReadAsDistributors =
    (s : StoreState) (xs : List StoreState) (d : DistDurable) (ds : List DistDurable) → IsDistributor s d → AllZip IsDistributor xs ds
    → Refines (either RepresentsStore) (either RepresentsDistributor) s xs d ds
