-- What holds of stores and octets that represent what a distributor keeps.
use Rattle.std.specs.Prelude.{◌≡◌, ◌≢◌, ℕ, List, Option, slice_index}
use Rattle.mu_model_record.specs.declared.Record.{Record}
use Rattle.mu_model_record.specs.Record.{IsRecord}
use Rattle.mu_model_record.specs.Store.{StoreState}
use Rattle.mu_model_node.specs.NodeState.{NodeDurable}
use Rattle.mu_model_distributor.specs.DistState.{DistDurable}
use Rattle.mu_model_distributor.specs.Sound.{IsDistDurable}
use Rattle.mu_model_represents.specs.BlobPart.{BlobJob}
use Rattle.mu_model_represents.specs.StoreStates.{IsStoreState}
use Rattle.mu_model_represents.specs.RepresentsNode.{IsNode, RepresentsNode}
use Rattle.mu_model_represents_distributor.specs.DistributorNote.{DistributorNote}
use Rattle.mu_model_represents_distributor.specs.Numbers.{HasDistributorNumbers}
use Rattle.mu_model_represents_distributor.specs.RepresentsDistributor.{IsDistributorRecord, IsDistributorOf, IsDistributor, RepresentsDistributor}

-- ---- at most one

abbrev pub StoreIsOneDistributor : Type 0
StoreIsOneDistributor = (s : StoreState) (d e : DistDurable) → IsDistributor s d → IsDistributor s e → d ≡ e

abbrev pub StoreIsNotBoth : Type 0
StoreIsNotBoth = (s : StoreState) (d : NodeDurable) (e : DistDurable) → IsNode s d → IsDistributor s e → ⊥

abbrev pub OctetsAreOneDistributor : Type 0
OctetsAreOneDistributor = (image : List ℕ) (d e : DistDurable) → RepresentsDistributor d image → RepresentsDistributor e image → d ≡ e

abbrev pub OctetsAreNotBoth : Type 0
OctetsAreNotBoth = (image : List ℕ) (d : NodeDurable) (e : DistDurable) → RepresentsNode d image → RepresentsDistributor e image → ⊥

-- a note that begins with another number than 2 is no distributor's
abbrev pub OtherKindsAreNoDistributors : Type 0
OtherKindsAreNoDistributors = (s : StoreState) → slice_index s.present.tag 64 ≢ 2 → (d : DistDurable) → ¬ IsDistributor s d

-- ---- each octet of a tag counts

abbrev pub DistributorTagIsOne : Type 0
DistributorTagIsOne =
    (r q : Record) (part : Option BlobJob) (n : DistributorNote) → IsRecord r → IsRecord q → IsDistributorRecord r part n → IsDistributorRecord q part n
    → r.tag ≡ q.tag

-- ---- what is represented is sound

abbrev pub DistributorIsSound : Type 0
DistributorIsSound = (s : StoreState) (d : DistDurable) → IsStoreState s → IsDistributor s d → IsDistDurable d × HasDistributorNumbers d

abbrev pub RepresentedDistributorIsSound : Type 0
RepresentedDistributorIsSound = (image : List ℕ) (d : DistDurable) → RepresentsDistributor d image → IsDistDurable d × HasDistributorNumbers d

-- ---- what isn't foreign is represented

-- a store whose record is a distributor's represents what that distributor keeps
abbrev pub DistributorRecordIsADistributor : Type 0
DistributorRecordIsADistributor =
    (s : StoreState) (part : Option BlobJob) (n : DistributorNote) → IsStoreState s → IsDistributorRecord s.present part n
    → (d : DistDurable) × IsDistributorOf s part n d

-- ---- what is sound is represented

abbrev pub SoundDistributorIsRepresented : Type 0
SoundDistributorIsRepresented = (d : DistDurable) → IsDistDurable d → HasDistributorNumbers d → (s : StoreState) × IsStoreState s × IsDistributor s d
