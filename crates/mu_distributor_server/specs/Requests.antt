-- Requests that a distributor over flash does here.
use Rattle.std.specs.Prelude.{◌≡◌, ℕ, Bool, true, false, List, [], ◌∷◌, Result, Ok, Err}
use Rattle.mu_distmsg.specs.declared.message.ReceiverRow.{ReceiverRow}
use Rattle.mu_model_distributor.specs.Commit.{Outcome}
use Rattle.mu_model_distributor.specs.DistMessages.{ByDistribution}
use Rattle.mu_model_distributor.specs.DistState.{DistState}
use Rattle.mu_model_distributor.specs.Replies.{DistReply}
use Rattle.mu_model_distributor.specs.Requests.{DistRequest, ReceiversAdd, ReceiversDeleteAll, ReceiversGet, CapabilitiesGet, DistributionGet, UploadGet, StartUploadOob, FirmwareGet, FirmwareGetByIndex}
use Rattle.mu_distributor_rows.specs.Due.{IsDue}
use Rattle.mu_distributor_rows.specs.Receivers.{with_rows}
use Rattle.mu_distributor_server.specs.declared.distributor.Distributor.{Distributor}
use Rattle.mu_distributor_server.specs.Shows.{Shows}

-- those that only ask
abbrev pub is_asking : DistRequest → Bool
is_asking (ReceiversGet first limit) = true
is_asking CapabilitiesGet = true
is_asking DistributionGet = true
is_asking UploadGet = true
is_asking StartUploadOob = true
is_asking (FirmwareGet fwid) = true
is_asking (FirmwareGetByIndex index) = true
is_asking _ = false

-- and those on receivers
abbrev pub is_done_here : DistRequest → Bool
is_done_here (ReceiversAdd entries) = true
is_done_here ReceiversDeleteAll = true
is_done_here request = is_asking request

-- the status that answers one that only asks: no image is fetched by a URI (MshDFU, Status)
abbrev pub asked_status : DistRequest → ℕ
asked_status StartUploadOob = 9
asked_status _ = 0

-- What a request made, with the status that is answered: it is in the state that this leads to, and what is told is told of that.
pub record Changed {F : Type 0} {g : _} (o : Outcome) (to : ℕ) (shown : DistState → DistReply) (new : Distributor F g) : Type 0 where
  pub shows : Shows new o.next
  pub sends : o.sends ≡ (to, ByDistribution (shown o.next)) ∷ []

-- in memory the receivers are those that a request leads to, or it was refused
abbrev pub StandsBy : {F : Type 0} {g : _} → Distributor F g → DistState → List ReceiverRow → Result Bool ℕ → Type 0
StandsBy v s rows (Ok due) = Shows v (with_rows s rows) × IsDue due s.durable (with_rows s rows).durable
StandsBy v s rows (Err status) = Shows v s
