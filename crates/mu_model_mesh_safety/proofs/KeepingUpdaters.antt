-- Each updater goes on with its run.
use Rattle.std.proofs.Common.{◌≡◌, ℕ, ◌<◌, ◌*◌, ◌^◌, ◌+◌, List, [], ◌∷◌, ◌++◌, refl, sym, ap, ◌∙◌, append_assoc, append-nil, Contains}
use Rattle.std.specs.List.{AllByRecursion}
use Rattle.mu_model_image.specs.Meta.{Image}
use Rattle.mu_model_wire.specs.Packet.{Packet}
use Rattle.mu_model_node.specs.Events.{NodeEvent}
use Rattle.mu_model_client.specs.declared.Plan.{Plan}
use Rattle.mu_model_packets.specs.Laws.{PacketFits, UpdatersSendFit}
use Rattle.mu_model_updater.specs.Laws.{IsInRange, SendsFromItsAddress}
use Rattle.mu_model_updater.specs.Updater.{Updater, new_updater, updater_step, updater_after, sent_in, come_by, come_in}
use Rattle.mu_model_mesh.specs.Mesh.{UpdaterMember}
use Rattle.mu_model_mesh_safety.specs.Runs.{AreIn, UpdaterRun}
use Rattle.mu_model_mesh_safety.proofs.KeepingLists.{all_append, all_right}
use Rattle.mu_model_mesh_safety.proofs.KeepingPackets.{AllFrom, in_wider, sent_other, sent_own}

-- ---- one event more

after_more : (u : Updater) (run : List (NodeEvent × ℕ)) (e : NodeEvent × ℕ) → updater_after u (run ++ e ∷ []) ≡ (updater_step (updater_after u run) e.0 e.1).next
after_more u [] e = refl
after_more u (first ∷ run) e = after_more (updater_step u first.0 first.1).next run e

sent_more : (u : Updater) (run : List (NodeEvent × ℕ)) (e : NodeEvent × ℕ) → sent_in u (run ++ e ∷ []) ≡ sent_in u run ++ (updater_step (updater_after u run) e.0 e.1).sent
sent_more u [] e = append-nil (updater_step u e.0 e.1).sent
sent_more u (first ∷ run) e =
    let step = updater_step u first.0 first.1 in
    ap (λ ps. step.sent ++ ps) (sent_more step.next run e) ∙ sym (append_assoc step.sent (sent_in step.next run) _)

come_more : (run : List (NodeEvent × ℕ)) (e : NodeEvent × ℕ) → come_in (run ++ e ∷ []) ≡ come_in run ++ come_by e.0
come_more [] e = append-nil (come_by e.0)
come_more (first ∷ run) e = ap (λ ps. come_by first.0 ++ ps) (come_more run e) ∙ sym (append_assoc (come_by first.0) (come_in run) (come_by e.0))

-- ---- the bag grows by what others send

pub updater_wider : (bag more : List Packet) (address other : ℕ) (u : UpdaterMember) → (address ≡ other → ⊥) → AllFrom other more → UpdaterRun bag address u → UpdaterRun (bag ++ more) address u
updater_wider bag more address other u apart from r = record {
  id = r.id;
  plan = r.plan;
  image = r.image;
  to = r.to;
  run = r.run;
  from = r.from;
  blob_id = r.blob_id;
  small = r.small;
  range = r.range;
  first = r.first;
  state = r.state;
  come = in_wider bag more _ r.come;
  sent = sent_other bag more _ address other apart from r.sent;
}

-- ---- an event comes

-- what the longer run has sent
sent_on : (bag : List Packet) (address : ℕ) (old : UpdaterMember) (event : NodeEvent) (now : ℕ) (r : UpdaterRun bag address old)
    → sent_in (new_updater r.plan r.image r.to) (r.run ++ (event, now) ∷ []) ≡ sent_in (new_updater r.plan r.image r.to) r.run ++ (updater_step old.updater event now).sent
sent_on bag address old event now r =
    let start = new_updater r.plan r.image r.to in
    sent_more start r.run (event, now) ∙ ap (λ u. sent_in start r.run ++ (updater_step u event now).sent) (sym r.state)

pub updater_on : (bag : List Packet) (address : ℕ) (old new : UpdaterMember) (event : NodeEvent) (now : ℕ) → new.updater ≡ (updater_step old.updater event now).next
    → AreIn bag (come_by event) → UpdaterRun bag address old → UpdaterRun (bag ++ (updater_step old.updater event now).sent) address new
updater_on bag address old new event now next come r =
    let start = new_updater r.plan r.image r.to in
    record {
      id = r.id;
      plan = r.plan;
      image = r.image;
      to = r.to;
      run = r.run ++ (event, now) ∷ [];
      from = r.from;
      blob_id = r.blob_id;
      small = r.small;
      range = r.range;
      first = r.first;
      state = next ∙ (ap (λ u. (updater_step u event now).next) r.state ∙ sym (after_more start r.run (event, now)));
      come = in_wider bag _ _ (rw (come_more r.run (event, now)) (all_append (λ (p : Packet). Contains bag p) (come_in r.run) (come_by event) r.come come));
      sent = rw (sent_on bag address old event now r) (sent_own bag (updater_step old.updater event now).sent (sent_in start r.run) address r.sent);
    }

pub updater_begins : (address id : ℕ) (plan : Plan) (image : Image) (to : List (ℕ × ℕ)) (moment : ℕ) → plan.sending.from ≡ address → plan.sending.id ≡ address * 2 ^ 48 + id → id < 2 ^ 48
    → IsInRange plan to → AllByRecursion (λ (receiver : ℕ × ℕ). receiver.1 ≡ 0) to → UpdaterRun [] address (record { moment = moment; updater = new_updater plan image to })
updater_begins address id plan image to moment from blob_id small range first = record {
  id = id;
  plan = plan;
  image = image;
  to = to;
  run = [];
  from = from;
  blob_id = blob_id;
  small = small;
  range = range;
  first = first;
  state = refl;
  come = tt;
  sent = tt;
}

-- ---- what it sends

pub updater_sends_from : SendsFromItsAddress → (bag : List Packet) (address : ℕ) (u : UpdaterMember) (event : NodeEvent) (now : ℕ) → UpdaterRun bag address u → AllFrom address (updater_step u.updater event now).sent
updater_sends_from send bag address u event now r =
    let all = send r.plan r.image r.to (r.run ++ (event, now) ∷ []) in
    rw (← r.from) (all_right (λ (p : Packet). p.from ≡ r.plan.sending.from) (sent_in (new_updater r.plan r.image r.to) r.run) _ (rw (sent_on bag address u event now r) at all))

pub updater_sends_fit : UpdatersSendFit → (bag : List Packet) (address : ℕ) (u : UpdaterMember) (event : NodeEvent) (now : ℕ) → UpdaterRun bag address u → AllByRecursion PacketFits (updater_step u.updater event now).sent
updater_sends_fit send bag address u event now r =
    let all = send r.plan r.image r.to (r.run ++ (event, now) ∷ []) in
    all_right PacketFits (sent_in (new_updater r.plan r.image r.to) r.run) _ (rw (sent_on bag address u event now r) at all)
