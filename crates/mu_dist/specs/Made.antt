-- What stands on a flash once a distributor was made on it (this profile).
use Rattle.std.specs.Prelude.{◌≡◌, ℕ, IsTrue, List, [], ◌∷◌}
use Rattle.mu_model_flash.specs.Flash.{Seen}
use Rattle.mu_model_flash.specs.Run.{either, Ran}
use Rattle.mu_model_record.specs.Represents.{RepresentsStore}
use Rattle.mu_model_record.specs.Store.{StoreState}
use Rattle.mu_model_record.specs.Turns.{Anything}
use Rattle.mu_model_distributor.specs.DistEvents.{new_distributor}
use Rattle.mu_model_distributor.specs.DistState.{DistDurable}
use Rattle.mu_model_represents_distributor.specs.RepresentsDistributor.{IsDistributor, distributor_tag}

-- the tag of a new distributor, however many pages its banks have
abbrev pub new_tag : List ℕ
new_tag = distributor_tag (new_distributor 1)

-- the octets represent what a distributor keeps, by a record with this tag
abbrev pub RepresentsBy : List ℕ → DistDurable → List ℕ → Type 0
RepresentsBy tag d image = (s : StoreState) × RepresentsStore s image × IsDistributor s d × (s.present.tag ≡ tag)

-- three operations were done, and the octets represent a new distributor
pub record MakesDistributor (pages : ℕ) (old new : Seen) : Type 0 where
  pub represents : IsTrue old.told → RepresentsBy new_tag (new_distributor pages) new.octets
  pub done : Ran (either Anything) tt (tt ∷ tt ∷ tt ∷ []) old new
