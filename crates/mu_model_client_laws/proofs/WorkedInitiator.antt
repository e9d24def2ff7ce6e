-- Worked rows of an initiator, evaluated.
use Rattle.std.proofs.Common.{refl}
use Rattle.mu_model_client_laws.specs.WorkedInitiator.{Initiates}

pub initiates : Initiates
initiates = record {
  asked = refl;
  done = refl;
  had = refl;
  stored = refl;
  busy = refl;
  silent = refl;
  four = refl;
  verified = refl;
  refused = refl;
  unsent = refl;
  failed = refl;
  verify_only = refl;
  waits = refl;
}
