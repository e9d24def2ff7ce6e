-- What a boot of a distributor finds foreign: what a store's boot does, and, where that finds a store, a tag that is no distributor's (this
-- profile).
use Rattle.std.specs.Prelude.{ℕ, List}
use Rattle.mu_model_node.specs.NodeState.{NodeDurable}
use Rattle.mu_model_distributor.specs.DistState.{DistDurable}
use Rattle.mu_model_represents.specs.Boots.{IsForeignBy, IsForeignToNodes}
use Rattle.mu_model_represents.specs.RepresentsNode.{RepresentsNode}
use Rattle.mu_model_represents_distributor.specs.RepresentsDistributor.{IsNoDistributorRecord, RepresentsDistributor}

abbrev pub IsForeignToDistributors : List ℕ → Type 0
IsForeignToDistributors image = IsForeignBy IsNoDistributorRecord image

-- octets that represent what a distributor keeps aren't foreign to it
abbrev pub DistributorsAreNotForeign : Type 0
DistributorsAreNotForeign = (image : List ℕ) (d : DistDurable) → RepresentsDistributor d image → ¬ IsForeignToDistributors image

-- and what a node or a distributor represents is foreign to the other
abbrev pub OthersAreForeign : Type 0
OthersAreForeign =
    (image : List ℕ) → ((d : NodeDurable) → RepresentsNode d image → IsForeignToDistributors image)
    × ((d : DistDurable) → RepresentsDistributor d image → IsForeignToNodes image)
