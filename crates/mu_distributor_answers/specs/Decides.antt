-- When a step is what the table says for a request, over what is looked at (MshDFU, Firmware Distribution Server behavior).
use Rattle.std.specs.Prelude.{◌≡◌, ℕ, List}
use Rattle.mu_distmsg.specs.declared.message.ReceiverRow.{ReceiverRow}
use Rattle.mu_model_distributor.specs.Requests.{DistRequest}
use Rattle.mu_model_distributor.specs.DistState.{DistState}
use Rattle.mu_distributor_rows.specs.declared.looks.DistLook.{DistLook}
use Rattle.mu_distributor_rows.specs.Due.{IsDueIn}
use Rattle.mu_distributor_rows.specs.Looks.{seen, LooksAs}
use Rattle.mu_model_distributor.specs.Sound.{DistRequestFits}
use Rattle.mu_distributor_rows.specs.Receivers.{AreRowsOf, AreShownRows}
use Rattle.mu_distributor_answers.specs.declared.steps.Decision.{Decision}
use Rattle.mu_distributor_answers.specs.Fits.{IsKnownStep, CanStep, IsWritten}
use Rattle.mu_distributor_answers.specs.Steps.{stepped, KeepsRows, is_on_distribution, is_of_distribution, ComesTo}

-- for every model distributor that looks so and has these receivers, the request comes to the step, and a record is due exactly where
-- what is kept would be another
pub record Decides (look : DistLook) (old new : List ReceiverRow) (request : DistRequest) (d : Decision) : Type 0 where
  pub known : IsKnownStep d.step
  pub can : CanStep (seen look) d.step
  pub written : IsWritten d.step d.due
  pub kind : is_of_distribution d.step ≡ is_on_distribution request
  pub keeps : KeepsRows d.step old new
  pub shown : DistRequestFits request → AreShownRows old → AreShownRows new
  pub step : (address : ℕ) (s : DistState) → LooksAs look s → AreRowsOf old s → ComesTo address s request new d.step
  pub due : (address : ℕ) (s : DistState) → LooksAs look s → AreRowsOf old s → IsDueIn d.due s (stepped address s new d.step)
