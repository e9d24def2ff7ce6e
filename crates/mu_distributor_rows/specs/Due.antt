-- Whether a record is due: exactly where what is kept would be another (this profile).
use Rattle.std.specs.Prelude.{ℕ, ◌≡◌, Bool, true, false, Result, Ok, Err}
use Rattle.mu_model_distributor.specs.DistState.{DistDurable, DistState}
use Rattle.mu_distributor_rows.specs.declared.distribution.DistributionStep.{DistributionStep}
use Rattle.mu_distributor_rows.specs.declared.distribution.DistributionStep.TheVariants.{Keep, Refuse}

abbrev pub IsDue : Bool → (old new : DistDurable) → Type 0
IsDue true old new = ¬ (new ≡ old)
IsDue false old new = new ≡ old

-- what a request comes to that isn't refused
abbrev pub IsDueIn : Bool → DistState → Result DistState ℕ → Type 0
IsDueIn due s (Ok t) = IsDue due s.durable t.durable
IsDueIn due s (Err status) = Unit {0}

-- what a request comes to that says itself whether a record is due
abbrev pub IsDueOf : Result Bool ℕ → DistState → DistState → Type 0
IsDueOf (Ok due) s t = IsDue due s.durable t.durable
IsDueOf (Err status) s t = Unit {0}

-- each step of a distribution changes what is kept, but for those that say that nothing changes
abbrev pub changes : DistributionStep → Bool
changes Keep = false
changes (Refuse status) = false
changes _ = true
