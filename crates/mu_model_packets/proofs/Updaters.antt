-- What an updater sends is in every range.
use Rattle.std.proofs.Common.{◌≡◌, ℕ, true, false, List, [], ◌∷◌, map, refl, sym, subst, cond, Option, Some, None}
use Rattle.std.specs.Prelude.{◌==◌}
use Rattle.std.specs.List.{AllByRecursion}
use Rattle.mu_model_wire.specs.Packet.{Packet}
use Rattle.mu_model_node.specs.Events.{NodeEvent, PacketComes, TimeComes}
use Rattle.mu_model_node.specs.NodeMessages.{Request}
use Rattle.mu_model_client.specs.Answers.{Answer, answer_at}
use Rattle.mu_model_client.specs.Client.{Client}
use Rattle.mu_model_client.specs.Packets.{request_packet, answer_handled, client_packet}
use Rattle.mu_model_client_laws.specs.Wire.{RequestsKeepTheirOpcodes}
use Rattle.mu_model_updater.specs.Updater.{Updater, new_updater, updater_step, asked_by, sent_in}
use Rattle.mu_model_packets.specs.Laws.{PacketFits, UpdatersSendFit}
use Rattle.mu_model_packets.proofs.Lists.{joined}
use Rattle.mu_model_packets.proofs.Requests.{request_fits}

-- ---- events

silent : (c : Client) (from now : ℕ) (answer : Option Answer) → (answer_handled c from now answer).sent ≡ []
silent c from now None = refl
silent c from now (Some answer) = refl

packet_silent : (c : Client) (packet : Packet) (now : ℕ) → (client_packet c packet now).sent ≡ []
packet_silent c packet now =
    elim (packet.to == c.sending.from) as (λ b. (cond b (answer_handled c packet.from now (answer_at packet.payload)) (answer_handled c packet.from now None)).sent ≡ []) [
      | true ↦ silent c packet.from now (answer_at packet.payload)
      | false ↦ refl
    ]

event_sends : (u : Updater) (event : NodeEvent) (now : ℕ) → (updater_step u event now).sent ≡ map (request_packet u.client.sending.from) (asked_by u event now)
event_sends u (PacketComes packet) now = packet_silent u.client packet now
event_sends u TimeComes now = refl

-- ---- runs

abbrev Fit : List Packet → Type 0
Fit sent = AllByRecursion PacketFits sent

asked_fit : RequestsKeepTheirOpcodes → (from : ℕ) (asked : List (ℕ × Request)) → Fit (map (request_packet from) asked)
asked_fit keeps from [] = tt
asked_fit keeps from (x ∷ asked) = (request_fits keeps from x.0 x.1, asked_fit keeps from asked)

run_fits : RequestsKeepTheirOpcodes → (u : Updater) (run : List (NodeEvent × ℕ)) → Fit (sent_in u run)
run_fits keeps u [] = tt
run_fits keeps u (e ∷ run) =
    joined PacketFits (updater_step u e.0 e.1).sent (sent_in (updater_step u e.0 e.1).next run)
    (subst Fit (sym (event_sends u e.0 e.1)) (asked_fit keeps u.client.sending.from (asked_by u e.0 e.1)))
    (run_fits keeps (updater_step u e.0 e.1).next run)

pub updaters_send_fit : RequestsKeepTheirOpcodes → UpdatersSendFit
updaters_send_fit keeps plan image to run = run_fits keeps (new_updater plan image to) run
