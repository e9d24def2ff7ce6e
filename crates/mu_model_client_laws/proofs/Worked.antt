-- Worked rows, evaluated.
use Rattle.std.proofs.Common.{refl}
use Rattle.mu_model_client_laws.specs.Worked.{RepairsTheUnion, Completes, DropsTheSilent, DropsByStatus, EachStatusDrops, DropsOthers, GoesOn, CancellingTellsTheRound}

pub repairs : RepairsTheUnion
repairs = record { grouped = refl; alone = refl }

pub completes : Completes
completes = record { succeeded = refl }

pub silent : DropsTheSilent
silent = record {
  check = refl;
  starting = refl;
  information = refl;
  transfer = refl;
  block = refl;
  pull = refl;
  get = refl;
  verify = refl;
  confirm = refl;
  four = refl;
  apply = refl;
  cancel = refl;
}

pub refusals : DropsByStatus
refusals = record {
  check = refl;
  starting = refl;
  size = refl;
  low_log = refl;
  high_log = refl;
  chunk = refl;
  mtu = refl;
  chunks = refl;
  mode = refl;
  transfer = refl;
  block = refl;
  pull = refl;
  get = refl;
  apply = refl;
}

pub each_status : EachStatusDrops
each_status = record {
  check = refl;
  starting = refl;
  transfer = refl;
  block = refl;
  pull = refl;
  get = refl;
  apply = refl;
}

pub others : DropsOthers
others = record { barren = refl; four = refl; transfer_error = refl; verification_failed = refl; verifying = refl }

pub goes_on : GoesOn
goes_on = record { transfer = refl; verified = refl; applying = refl; canceling = refl; rows_stay = refl; sent = refl; stages = refl }

pub cancels : CancellingTellsTheRound
cancels = record { rows_stay = refl; asked = refl; answered = refl; present = refl }
