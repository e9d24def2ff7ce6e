-- Which records are short, and how runs of a store are read.
use Rattle.std.specs.Prelude.{◌≡◌, ◌↔◌, List}
use Rattle.std.specs.List.{AllZip}
use Rattle.mu_model_flash.specs.Bits.{part_of}
use Rattle.mu_model_flash.specs.Run.{either, Refines}
use Rattle.mu_model_record.specs.declared.Record.{Record}
use Rattle.mu_model_record.specs.Record.{zeros, IsRecord, IsShort}
use Rattle.mu_model_record.specs.Store.{StoreState}
use Rattle.mu_model_record.specs.Represents.{RepresentsStore}
use Rattle.mu_model_node.specs.NodeState.{NodeDurable}
use Rattle.mu_model_represents.specs.BlobPart.{note_part}
use Rattle.mu_model_represents.specs.StoreStates.{IsStoreState}
use Rattle.mu_model_represents.specs.RepresentsNode.{IsNode, RepresentsNode}

-- a record is short by the octets of its note from 192 on
abbrev pub RecordIsShortByItsNote : Type 0
RecordIsShortByItsNote = (r : Record) → IsRecord r → IsShort r ↔ (part_of (note_part r.tag) 192 1536 ≡ zeros 1536)

-- each record of a node is written short
abbrev pub NodeRecordIsShort : Type 0
NodeRecordIsShort = (s : StoreState) (d : NodeDurable) → IsStoreState s → IsNode s d → IsShort s.present

-- a run through states of a store is a run through the states that they represent
abbrev pub StoresAreReadAsNodes : Type 0
StoresAreReadAsNodes =
    (s : StoreState) (xs : List StoreState) (d : NodeDurable) (ds : List NodeDurable) → IsNode s d → AllZip IsNode xs ds
    → Refines (either RepresentsStore) (either RepresentsNode) s xs d ds
