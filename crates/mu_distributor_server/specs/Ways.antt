-- The ways in which the octets of a flash with a distributor are read as states.
use Rattle.mu_model_flash.specs.Run.{Reading, either}
use Rattle.mu_model_record.specs.Store.{StoreState}
use Rattle.mu_model_record.specs.Represents.{RepresentsStore}
use Rattle.mu_model_distributor.specs.DistState.{DistDurable}
use Rattle.mu_model_represents_distributor.specs.RepresentsDistributor.{RepresentsDistributor}

pub data Way : Type 0 where
  as_store : Way
  as_distributor : Way

abbrev pub StateOf : Way → Type 0
StateOf as_store = StoreState
StateOf as_distributor = DistDurable

abbrev pub reading_of : (way : Way) → Reading (StateOf way)
reading_of as_store = either RepresentsStore
reading_of as_distributor = either RepresentsDistributor
