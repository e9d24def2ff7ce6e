-- What holds of stores and octets that represent what a node keeps, and of the BLOB part of any record.
use Rattle.std.specs.Prelude.{◌≡◌, ◌≢◌, ◌⊎◌, ℕ, List, Option, Some, None, slice_index}
use Rattle.mu_model_record.specs.declared.Record.{Record}
use Rattle.mu_model_record.specs.Record.{IsRecord}
use Rattle.mu_model_record.specs.Store.{StoreState}
use Rattle.mu_model_record.specs.Represents.{RepresentsStore}
use Rattle.mu_model_node.specs.declared.Parameters.{Parameters}
use Rattle.mu_model_node.specs.NodeState.{NodeDurable}
use Rattle.mu_model_node.specs.Slots.{Slots}
use Rattle.mu_model_node.specs.Sound.{HasBlocks, IsNodeDurable}
use Rattle.mu_model_represents.specs.BlobPart.{BlobJob, note_part, IsBlobPart, IsBlobRecord, transfer_in, ParametersFit, PartFits}
use Rattle.mu_model_represents.specs.NodeNote.{NodeNote}
use Rattle.mu_model_represents.specs.StoreStates.{IsStoreState}
use Rattle.mu_model_represents.specs.Numbers.{HasMtu, HasNodeNumbers}
use Rattle.mu_model_represents.specs.RepresentsNode.{IsNodeRecord, IsNodeOf, IsNode, RepresentsNode}

-- ---- at most one

abbrev pub BlobPartIsOne : Type 0
BlobPartIsOne = (r : Record) (p q : Option BlobJob) → IsBlobRecord r p → IsBlobRecord r q → p ≡ q

abbrev pub OctetsAreOneJob : Type 0
OctetsAreOneJob = (p q : Option BlobJob) (octets : List ℕ) → IsBlobPart p octets → IsBlobPart q octets → p ≡ q

abbrev pub StoreIsOneNode : Type 0
StoreIsOneNode = (s : StoreState) (d e : NodeDurable) → IsNode s d → IsNode s e → d ≡ e

abbrev pub OctetsAreOneNode : Type 0
OctetsAreOneNode = (image : List ℕ) (d e : NodeDurable) → RepresentsNode d image → RepresentsNode e image → d ≡ e

-- the note of a node's record begins with 1 or 3
abbrev pub NodeNotesAreOfTwoKinds : Type 0
NodeNotesAreOfTwoKinds =
    (r : Record) (part : Option BlobJob) (note : NodeNote) → IsNodeRecord r part note
    → (slice_index (note_part r.tag) 0 ≡ 1) ⊎ (slice_index (note_part r.tag) 0 ≡ 3)

-- so one that begins with another number is no node's
abbrev pub OtherKindsAreNoNodes : Type 0
OtherKindsAreNoNodes = (s : StoreState) → slice_index s.present.tag 64 ≢ 1 → slice_index s.present.tag 64 ≢ 3 → (d : NodeDurable) → ¬ IsNode s d

-- ---- each octet of a tag counts

-- Two records of one node, by both parts of their tags, have one tag, where both have the old note or both the new one, and where the TTL
-- that stands without a job is the same.
abbrev pub NodeTagIsOne : Type 0
NodeTagIsOne =
    (r q : Record) (part : Option BlobJob) (note : NodeNote) → IsRecord r → IsRecord q → IsNodeRecord r part note → IsNodeRecord q part note
    → slice_index r.tag 64 ≡ slice_index q.tag 64 → (note.job ≡ None → slice_index r.tag 67 ≡ slice_index q.tag 67) → r.tag ≡ q.tag

-- whatever the note: with one job, and one note, the tag is one
abbrev pub TagIsOneByItsNote : Type 0
TagIsOneByItsNote =
    (r q : Record) (part : Option BlobJob) → IsRecord r → IsRecord q → IsBlobRecord r part → IsBlobRecord q part → note_part r.tag ≡ note_part q.tag
    → r.tag ≡ q.tag

-- ---- what is represented is sound

-- the state of a store that octets represent
abbrev pub RepresentedIsAState : Type 0
RepresentedIsAState = (s : StoreState) (image : List ℕ) → RepresentsStore s image → IsStoreState s

-- a job of the BLOB part has its places, and its blocks are as its parameters say
abbrev pub BlobPartIsSound : Type 0
BlobPartIsSound =
    (s : StoreState) (j : BlobJob) → IsStoreState s → IsBlobRecord s.present (Some j)
    → PartFits (Some j) × HasBlocks j.size j.parameters (transfer_in s j).held

-- and parameters that blocks have come by fit a BLOB part
abbrev pub ParametersOfBlocksFit : Type 0
ParametersOfBlocksFit = (size : ℕ) (p : Option Parameters) (held : Slots) → HasBlocks size p held → HasMtu p → ParametersFit size p

abbrev pub NodeIsSound : Type 0
NodeIsSound = (s : StoreState) (d : NodeDurable) → IsStoreState s → IsNode s d → IsNodeDurable d × HasNodeNumbers d

abbrev pub RepresentedNodeIsSound : Type 0
RepresentedNodeIsSound = (image : List ℕ) (d : NodeDurable) → RepresentsNode d image → IsNodeDurable d × HasNodeNumbers d

-- ---- what isn't foreign is represented

-- a store whose record is a node's represents what that node keeps
abbrev pub NodeRecordIsANode : Type 0
NodeRecordIsANode =
    (s : StoreState) (part : Option BlobJob) (note : NodeNote) → IsStoreState s → IsNodeRecord s.present part note
    → (d : NodeDurable) × IsNodeOf s part note d

-- ---- what is sound is represented

abbrev pub SoundNodeIsRepresented : Type 0
SoundNodeIsRepresented = (d : NodeDurable) → IsNodeDurable d → HasNodeNumbers d → (s : StoreState) × IsStoreState s × IsNode s d
