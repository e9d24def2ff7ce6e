-- The ways in which the octets of a node's flash are read as states.
use Rattle.mu_model_flash.specs.Run.{Reading, either}
use Rattle.mu_model_record.specs.Store.{StoreState}
use Rattle.mu_model_record.specs.Represents.{RepresentsStore}
use Rattle.mu_model_node.specs.NodeState.{NodeDurable}
use Rattle.mu_model_represents.specs.RepresentsNode.{RepresentsNode}

pub data Way : Type 0 where
  as_store : Way
  as_node : Way

abbrev pub StateOf : Way → Type 0
StateOf as_store = StoreState
StateOf as_node = NodeDurable

abbrev pub reading_of : (way : Way) → Reading (StateOf way)
reading_of as_store = either RepresentsStore
reading_of as_node = either RepresentsNode
