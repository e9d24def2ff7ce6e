use Rattle.std.proofs.Common.{◌∙◌, ℕ, List, refl, sym, ap, subst}
use Rattle.std.specs.Prelude.{Result, Ok}
use Rattle.mu_store.specs.declared.faults.StoreFault.{StoreFault}
use Rattle.mu_model_distributor.specs.Commit.{Outcome, answered}
use Rattle.mu_model_distributor.specs.DistTable.{on_request}
use Rattle.mu_model_distributor.specs.Receivers.{receivers_add, receivers_status}
use Rattle.mu_distributor_rows.specs.Receivers.{entries_of}
use Rattle.mu_distributor_answers.specs.Messages.{dist_request_of}
use Rattle.mu_distributor_answers.specs.Steps.{shown_to}
use Rattle.mu_distributor_answers.specs.declared.messages.DistRequest.{DistRequest as DistRequestHere}
use Rattle.mu_distributor_server.specs.Events.{FaultBy}
use Rattle.mu_distributor_server.specs.Requests.{asked_status, Changed}
use Rattle.mu_distributor_server.specs.Views.{server_in, place_in}
use Rattle.mu_distributor_server.proofs.Asked.{stands_by, did_by, works_by, asks, asked_so, idle_work}
use Rattle.mu_distributor_server.proofs.distributor.Distributor.change.Goals as goal

abbrev done : ℕ → Result ℕ StoreFault
done n = Ok n

pub returns-in-ReceiversAdd-clause-did : goal.returns-in-ReceiversAdd-clause-did
returns-in-ReceiversAdd-clause-did g c address to s h =
    did_by to _ _ (ap (λ (r : DistRequestHere). on_request address s to (dist_request_of r)) c.in-ReceiversAdd.is ∙ ap (λ (es : List (ℕ × ℕ)). answered s to receivers_status (receivers_add s (entries_of es))) (sym c.as_slice.ensures.value) ∙ ap (answered s to receivers_status) (c.add_receivers-changed.ensures.step s h.memory)) _ c.receivers.result receivers_status _ (ap (λ (r : DistRequestHere). shown_to (dist_request_of r)) c.in-ReceiversAdd.is)
    (c.receivers.ensures.did s _ to receivers_status (stands_by c.args.self.now _ refl refl c.add_receivers-changed.ensures.same s c.add_receivers-changed.result h (c.add_receivers-changed.ensures.due s h.memory) c.add_receivers-changed.ensures.refused))

pub returns-in-ReceiversAdd-clause-works : goal.returns-in-ReceiversAdd-clause-works
returns-in-ReceiversAdd-clause-works g c address to s h =
    works_by g.F.Flash.seen s (server_in c.args.self.now) _ c.receivers.result _ _ (ap (λ (r : DistRequestHere). on_request address s to (dist_request_of r)) c.in-ReceiversAdd.is ∙ ap (λ (es : List (ℕ × ℕ)). answered s to receivers_status (receivers_add s (entries_of es))) (sym c.as_slice.ensures.value) ∙ ap (answered s to receivers_status) (c.add_receivers-changed.ensures.step s h.shows.memory))
    (c.receivers.ensures.works s _ to receivers_status (stands_by c.args.self.now _ refl refl c.add_receivers-changed.ensures.same s c.add_receivers-changed.result h.shows (c.add_receivers-changed.ensures.due s h.shows.memory) c.add_receivers-changed.ensures.refused) h.carries)

pub returns-in-ReceiversAdd-clause-faults : goal.returns-in-ReceiversAdd-clause-faults
returns-in-ReceiversAdd-clause-faults g c address to s h =
    subst (λ (o : Outcome). FaultBy o.work (place_in c.args.self.now) c.receivers.result) (sym (ap (λ (r : DistRequestHere). on_request address s to (dist_request_of r)) c.in-ReceiversAdd.is ∙ ap (λ (es : List (ℕ × ℕ)). answered s to receivers_status (receivers_add s (entries_of es))) (sym c.as_slice.ensures.value) ∙ ap (answered s to receivers_status) (c.add_receivers-changed.ensures.step s h.memory)))
    (c.receivers.ensures.faults s _ to receivers_status (stands_by c.args.self.now _ refl refl c.add_receivers-changed.ensures.same s c.add_receivers-changed.result h (c.add_receivers-changed.ensures.due s h.memory) c.add_receivers-changed.ensures.refused))

pub returns-in-ReceiversDeleteAll-clause-did : goal.returns-in-ReceiversDeleteAll-clause-did
returns-in-ReceiversDeleteAll-clause-did g c address to s h =
    did_by to _ _ (ap (λ (r : DistRequestHere). on_request address s to (dist_request_of r)) c.in-ReceiversDeleteAll.is ∙ ap (answered s to receivers_status) (c.delete_receivers-changed.ensures.step s h.memory)) _ c.receivers-in-ReceiversDeleteAll.result receivers_status _ (ap (λ (r : DistRequestHere). shown_to (dist_request_of r)) c.in-ReceiversDeleteAll.is)
    (c.receivers-in-ReceiversDeleteAll.ensures.did s _ to receivers_status (stands_by c.args.self.now _ refl refl c.delete_receivers-changed.ensures.same s c.delete_receivers-changed.result h (c.delete_receivers-changed.ensures.due s h.memory) c.delete_receivers-changed.ensures.refused))

pub returns-in-ReceiversDeleteAll-clause-works : goal.returns-in-ReceiversDeleteAll-clause-works
returns-in-ReceiversDeleteAll-clause-works g c address to s h =
    works_by g.F.Flash.seen s (server_in c.args.self.now) _ c.receivers-in-ReceiversDeleteAll.result _ _ (ap (λ (r : DistRequestHere). on_request address s to (dist_request_of r)) c.in-ReceiversDeleteAll.is ∙ ap (answered s to receivers_status) (c.delete_receivers-changed.ensures.step s h.shows.memory))
    (c.receivers-in-ReceiversDeleteAll.ensures.works s _ to receivers_status (stands_by c.args.self.now _ refl refl c.delete_receivers-changed.ensures.same s c.delete_receivers-changed.result h.shows (c.delete_receivers-changed.ensures.due s h.shows.memory) c.delete_receivers-changed.ensures.refused) h.carries)

pub returns-in-ReceiversDeleteAll-clause-faults : goal.returns-in-ReceiversDeleteAll-clause-faults
returns-in-ReceiversDeleteAll-clause-faults g c address to s h =
    subst (λ (o : Outcome). FaultBy o.work (place_in c.args.self.now) c.receivers-in-ReceiversDeleteAll.result) (sym (ap (λ (r : DistRequestHere). on_request address s to (dist_request_of r)) c.in-ReceiversDeleteAll.is ∙ ap (answered s to receivers_status) (c.delete_receivers-changed.ensures.step s h.memory)))
    (c.receivers-in-ReceiversDeleteAll.ensures.faults s _ to receivers_status (stands_by c.args.self.now _ refl refl c.delete_receivers-changed.ensures.same s c.delete_receivers-changed.result h (c.delete_receivers-changed.ensures.due s h.memory) c.delete_receivers-changed.ensures.refused))

pub returns-in_default-clause-did : goal.returns-in_default-clause-did
returns-in_default-clause-did g c address to s h =
    let asking = asks c.args.request.now c.requires.here c.in_default.not-ReceiversAdd c.in_default.not-ReceiversDeleteAll in
    rw c.asked_status.ensures.status
    (subst (λ (o : Outcome). Changed o to (shown_to (dist_request_of c.args.request.now) (asked_status (dist_request_of c.args.request.now))) c.args.self.now)
    (sym (asked_so address s to (dist_request_of c.args.request.now) asking)) (record { shows = h; sends = refl }))

pub returns-in_default-clause-works : goal.returns-in_default-clause-works
returns-in_default-clause-works g c address to s h =
    let asking = asks c.args.request.now c.requires.here c.in_default.not-ReceiversAdd c.in_default.not-ReceiversDeleteAll in
    works_by g.F.Flash.seen s (server_in c.args.self.now) (server_in c.args.self.now) (done c.asked_status.result) _ _ (asked_so address s to (dist_request_of c.args.request.now) asking)
    (λ sound. idle_work g.F.Flash.seen (server_in c.args.self.now) s h.carries c.runs.ensures c.distributor_runs_are_read.ensures.distributors (c.known.ensures.idle h.carries.store h.carries.holds) c.asked_status.result)

pub returns-in_default-clause-faults : goal.returns-in_default-clause-faults
returns-in_default-clause-faults g c address to s h =
    let asking = asks c.args.request.now c.requires.here c.in_default.not-ReceiversAdd c.in_default.not-ReceiversDeleteAll in
    subst (λ (o : Outcome). FaultBy o.work (place_in c.args.self.now) (done c.asked_status.result)) (sym (asked_so address s to (dist_request_of c.args.request.now) asking)) refl
