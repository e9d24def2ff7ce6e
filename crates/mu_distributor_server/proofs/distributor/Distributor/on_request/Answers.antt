use Rattle.std.proofs.Common.{ℕ, subst}
use Rattle.std.specs.Prelude.{Result, Ok}
use Rattle.mu_store.specs.declared.faults.StoreFault.{StoreFault}
use Rattle.mu_model_distributor.specs.DistEvents.{at_moment}
use Rattle.mu_model_distributor.specs.DistTable.{on_request}
use Rattle.mu_blobsrv.specs.Views.{place_of}
use Rattle.mu_distributor_answers.specs.Messages.{dist_request_of}
use Rattle.mu_distributor_server.specs.Events.{FaultBy}
use Rattle.mu_distributor_server.specs.Views.{place_in, address_of}
use Rattle.mu_distributor_server.proofs.Asked.{handed, fault_ok, worked, broken}
use Rattle.mu_distributor_server.proofs.distributor.Distributor.on_request.Goals as goal

abbrev done : ℕ → Result ℕ StoreFault
done n = Ok n

pub returns-in-Ok-clause-works : goal.returns-in-Ok-clause-works
returns-in-Ok-clause-works g c s h sound =
    let holds = handed g.F.Flash.seen c.args.self.now c.hand_moment.new.self s c.args.now c.hand_moment.ensures.server (c.hand_moment.ensures.shows s h.shows) h.carries in
    worked g.F.Flash.seen c.args.self.now c.hand_moment.new.self c.change.new.self s (on_request (address_of c.args.self.now) (at_moment s c.args.now) c.args.from (dist_request_of c.args.request.now)) c.hand_moment.ensures.server c.in-Ok.status
    (c.in-Ok.ensures.did (address_of c.args.self.now) c.args.from (at_moment s c.args.now) (c.hand_moment.ensures.shows s h.shows)).shows
    (c.in-Ok.ensures.works (address_of c.args.self.now) c.args.from (at_moment s c.args.now) holds sound)

pub returns-in-Ok-clause-faults : goal.returns-in-Ok-clause-faults
returns-in-Ok-clause-faults g c none s h =
    let o = on_request (address_of c.args.self.now) (at_moment s c.args.now) c.args.from (dist_request_of c.args.request.now) in
    fault_ok o.work (place_in c.args.self.now) c.in-Ok.status tt
    (subst (λ (b : _). FaultBy o.work (place_of b) (done c.in-Ok.status)) c.hand_moment.ensures.server (c.in-Ok.ensures.faults (address_of c.args.self.now) c.args.from (at_moment s c.args.now) (c.hand_moment.ensures.shows s h)))

pub returns-in-Err-clause-works : goal.returns-in-Err-clause-works
returns-in-Err-clause-works g c s h sound =
    let holds = handed g.F.Flash.seen c.args.self.now c.hand_moment.new.self s c.args.now c.hand_moment.ensures.server (c.hand_moment.ensures.shows s h.shows) h.carries in
    broken g.F.Flash.seen c.args.self.now c.hand_moment.new.self c.change.new.self s (on_request (address_of c.args.self.now) (at_moment s c.args.now) c.args.from (dist_request_of c.args.request.now)) c.hand_moment.ensures.server ℕ c.in-Err.why
    (c.in-Err.ensures.works (address_of c.args.self.now) c.args.from (at_moment s c.args.now) holds sound)
