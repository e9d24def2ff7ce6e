-- The rules on a distributor's note that look neither at the record's banks nor at the BLOB part (this profile).
use Rattle.std.specs.Prelude.{◌≡◌, ◌^◌, ℕ, ◌<◌, ◌≤◌, false, List, length}
use Rattle.mu_model_distributor.specs.declared.Settings.{Settings}
use Rattle.mu_model_distributor.specs.declared.DistPhase.TheVariants.{Idle}
use Rattle.mu_model_distributor.specs.DistState.{Receiver, is_at_rest}
use Rattle.mu_model_distributor.specs.Sound.{AreSettings, no_settings, AreReceivers, AddressesDiffer}
use Rattle.mu_model_represents.specs.Images.{AllDiffer}
use Rattle.mu_model_represents_distributor.specs.DistributorNote.{DistributorNote, SpellsDistributor}

-- before the first distribution, and from then on
pub record IsBegun (n : DistributorNote) : Type 0 where
  pub counter : n.counter < 2 ^ 48
  pub unbegun : n.counter ≡ 0 → (n.phase ≡ Idle) × (n.settings ≡ no_settings)
  pub begun : 0 < n.counter → AreSettings n.settings

-- a distribution has an image and a receiver
pub record HasDistribution (n : DistributorNote) : Type 0 where
  pub image : is_at_rest n.phase ≡ false → n.settings.image < length n.banks
  pub some_receiver : is_at_rest n.phase ≡ false → 0 < length n.receivers

-- receivers are in their ranges, and no two have one address
abbrev pub AreRows : List Receiver → Type 0
AreRows receivers = AreReceivers receivers × AddressesDiffer receivers

pub record FollowsRules (n : DistributorNote) : Type 0 where
  pub banks : AllDiffer n.banks
  pub begun : IsBegun n
  pub distribution : HasDistribution n
  pub receivers : AreRows n.receivers

-- octets that are the note of a distributor
pub record IsDistributorNote (n : DistributorNote) (octets : List ℕ) : Type 0 where
  pub spelled : SpellsDistributor n octets
  pub rules : FollowsRules n

-- settings whose mode and policy share an octet
pub record HasModeAndPolicy (s : Settings) : Type 0 where
  pub mode : s.mode ≤ 2
  pub policy : s.policy ≤ 1
