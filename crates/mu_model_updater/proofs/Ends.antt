-- An updater that has ended stays so and sends nothing.
use Rattle.std.proofs.Common.{◌≡◌, ℕ, Bool, true, false, List, [], ◌∷◌, map, refl, ap, subst, sym, ◌∙◌, cond, Option, Some, None}
use Rattle.std.specs.Prelude.{◌==◌}
use Rattle.mu_model_wire.specs.Packet.{Packet}
use Rattle.mu_model_node.specs.Events.{NodeEvent, PacketComes, TimeComes}
use Rattle.mu_model_node.specs.NodeMessages.{Request}
use Rattle.mu_model_client.specs.Answers.{Answer, answer_at}
use Rattle.mu_model_client.specs.Begin.{is_ended}
use Rattle.mu_model_client.specs.Client.{Place, Before, At, Verified, Ended, Client, at_moment}
use Rattle.mu_model_client.specs.Due.{by_place}
use Rattle.mu_model_client.specs.Packets.{ClientStep, answer_handled, client_packet, client_time, request_packet}
use Rattle.mu_model_updater.specs.Updater.{Updater, updater_step}
use Rattle.mu_model_updater.specs.Laws.{EndsStay}

pub record Rests (c next : Client) (sent : List Packet) : Type 0 where
  pub stays : next.place ≡ c.place
  pub silent : sent ≡ []

-- ---- packets

answer_rests : (c : Client) (from now : ℕ) (answer : Option Answer) → Rests c (answer_handled c from now answer).next (answer_handled c from now answer).sent
answer_rests c from now None = record { stays = refl; silent = refl }
answer_rests c from now (Some answer) = record { stays = refl; silent = refl }

pub packet_rests : (c : Client) (packet : Packet) (now : ℕ) → Rests c (client_packet c packet now).next (client_packet c packet now).sent
packet_rests c packet now = by_address (packet.to == c.sending.from)
  where
    step : Bool → ClientStep
    step b = cond b (answer_handled c packet.from now (answer_at packet.payload)) (answer_handled c packet.from now None)

    by_address : (b : Bool) → Rests c (step b).next (step b).sent
    by_address true = answer_rests c packet.from now (answer_at packet.payload)
    by_address false = answer_rests c packet.from now None

-- ---- time

at_end : (c : Client) (image : List ℕ) (place : Place) → is_ended place ≡ true → ((by_place c image place).next.place ≡ c.place) × ((by_place c image place).packets ≡ [])
at_end c image (Before step) h = cc
at_end c image (At step) h = cc
at_end c image Verified h = cc
at_end c image (Ended part) h = (refl, refl)

time_rests : (c : Client) (image : List ℕ) (now : ℕ) → is_ended c.place ≡ true → Rests c (client_time c image now).next (client_time c image now).sent
time_rests c image now h =
    let k = at_end (at_moment c now) image c.place h in
    record { stays = k.0; silent = ap (λ (packets : List (ℕ × Request)). map (request_packet c.sending.from) packets) k.1 }

event_rests : (u : Updater) (event : NodeEvent) (now : ℕ) → is_ended u.client.place ≡ true → Rests u.client (updater_step u event now).next.client (updater_step u event now).sent
event_rests u (PacketComes packet) now h = packet_rests u.client packet now
event_rests u TimeComes now h = time_rests u.client u.image.octets now h

pub ends_stay : EndsStay
ends_stay u [] h = (refl, refl)
ends_stay u (e ∷ run) h =
    let k = event_rests u e.0 e.1 h in
    let more = ends_stay (updater_step u e.0 e.1).next run (subst (λ (place : Place). is_ended place ≡ true) (sym k.stays) h) in
    (more.0 ∙ k.stays, rw k.silent more.1)
