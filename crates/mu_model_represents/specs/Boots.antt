-- What a boot of a BLOB server or a node finds foreign: what a store's boot does, and, where that finds a store, a tag that isn't theirs. So the tag
-- is judged after the marks and the banks (this profile).
use Rattle.std.specs.Prelude.{◌≡◌, ◌⊎◌, ℕ, List, Option}
use Rattle.mu_model_record.specs.declared.Record.{Record}
use Rattle.mu_model_record.specs.Kinds.{IsForeign, IsStore}
use Rattle.mu_model_record.specs.Store.{StoreState}
use Rattle.mu_model_record.specs.Represents.{RepresentsStore}
use Rattle.mu_model_node.specs.NodeState.{NodeDurable}
use Rattle.mu_model_represents.specs.BlobPart.{BlobJob, IsBlobRecord, IsNoBlobRecord}
use Rattle.mu_model_represents.specs.RepresentsNode.{IsNoNodeRecord, RepresentsNode}

-- the store, or its record by this test
abbrev pub IsForeignBy : (Record → Type 0) → List ℕ → Type 0
IsForeignBy Fails image = IsForeign image ⊎ ((r : Record) × IsStore image r × Fails r)

abbrev pub IsForeignToServers : List ℕ → Type 0
IsForeignToServers image = IsForeignBy IsNoBlobRecord image

abbrev pub IsForeignToNodes : List ℕ → Type 0
IsForeignToNodes image = IsForeignBy IsNoNodeRecord image

-- ---- octets that represent what one keeps aren't foreign to it

-- a boot finds the store that octets represent, and nothing else
abbrev pub RepresentedStoreIsFound : Type 0
RepresentedStoreIsFound = (image : List ℕ) (s : StoreState) → RepresentsStore s image → (¬ IsForeign image) × ((r : Record) → IsStore image r → r ≡ s.present)

abbrev pub ServersAreNotForeign : Type 0
ServersAreNotForeign =
    (image : List ℕ) (s : StoreState) (part : Option BlobJob) → RepresentsStore s image → IsBlobRecord s.present part → ¬ IsForeignToServers image

abbrev pub NodesAreNotForeign : Type 0
NodesAreNotForeign = (image : List ℕ) (d : NodeDurable) → RepresentsNode d image → ¬ IsForeignToNodes image
