-- What a node reads in a distributor's packets.
use Rattle.std.proofs.Common.{◌≡◌, ◌<◌, ℕ, ◌^◌, true, false, List, [], ◌∷◌, ◌++◌, map, refl, sym, ap, subst, ◌∙◌, cond, arith, Option, Some, None, inl, inr}
use Rattle.std.specs.Prelude.{◌==◌}
use Rattle.std.specs.List.{AllByRecursion}
use Rattle.mu_model_image.specs.Laws.{MetaIsReadBack}
use Rattle.mu_model_wire.specs.Opcodes.{OneOctetIsKept, TwoOctetsAreKept}
use Rattle.mu_model_wire.specs.Packet.{Packet}
use Rattle.mu_model_node.specs.UpdateMessages.{UpdateStart, UpdateRequest, InformationGet, MetadataCheck, UpdateGet, StartUpdate, UpdateCancel, UpdateApply}
use Rattle.mu_model_node.specs.NodeMessages.{Request, OfUpdate, OfBlob, request_at}
use Rattle.mu_model_node.specs.Events.{NodeEvent, PacketComes, TimeComes}
use Rattle.mu_model_node.specs.Safe.{Happening, Done, CutPower, Torn}
use Rattle.mu_model_client_laws.specs.Wire.{StartInRange, RequestsAreRead}
use Rattle.mu_model_distributor.specs.DistMessages.{Taken, taken_at, Sent, ByDistribution, ByBlob, ByClient, sent_octets, sent_packet}
use Rattle.mu_model_distributor.specs.DistState.{DistState}
use Rattle.mu_model_distributor.specs.DistEvents.{at_moment, on_packet, on_event, passed_over}
use Rattle.mu_model_distributor.specs.Runs.{happened}
use Rattle.mu_model_distributor_laws.specs.RunLaws.{sent_by, sent_in}
use Rattle.mu_model_distributor_laws.specs.Starts.{StartsAreInOrder}
use Rattle.mu_model_offers.specs.Laws.{Run, begin_of, sent_of, HasStart, IsOwnStart}
use Rattle.mu_model_offers.specs.Packets.{packets_by, packets_in, IsPacketOf, PacketsSayStarts}
use Rattle.mu_model_offers.proofs.Below.{Below}
use Rattle.mu_model_offers.proofs.Own.{IsOwnAs, run_own}
use Rattle.mu_model_offers.proofs.Agree.{begin_order}
use Rattle.mu_model_offers.proofs.Read.{IsOther, reply_other, blob_other, transfer_other, information_other, check_other, get_other, cancel_other, apply_other}

-- ---- each packet is of a message

abbrev Spelled : ℕ → List (ℕ × Sent) → List Packet → Type 0
Spelled address sends packets = packets ≡ map (sent_packet address) sends

packet_spelled : (address : ℕ) (s : DistState) (from : ℕ) (taken : Option Taken) → Spelled address (on_packet address s from taken).sends (on_packet address s from taken).sent
packet_spelled address s from (Some taken) = refl
packet_spelled address s from None = refl

pub event_spelled : (address : ℕ) (s : DistState) (event : NodeEvent) → Spelled address (on_event address s event).sends (on_event address s event).sent
event_spelled address s (PacketComes packet) =
    elim (packet.to == address) as (λ b. Spelled address (cond b (on_packet address s packet.from (taken_at packet.payload)) (passed_over s)).sends (cond b (on_packet address s packet.from (taken_at packet.payload)) (passed_over s)).sent) [
      | true ↦ packet_spelled address s packet.from (taken_at packet.payload)
      | false ↦ refl
    ]
event_spelled address s TimeComes = refl

happening_spelled : (address : ℕ) (s : DistState) (h : Happening) → Spelled address (sent_by address s h) (packets_by address s h)
happening_spelled address s (Done event now) = event_spelled address (at_moment s now) event
happening_spelled address s CutPower = refl
happening_spelled address s (Torn event now operations) = refl

map_join : {A B : Type 0} (f : A → B) (xs ys : List A) → map f (xs ++ ys) ≡ map f xs ++ map f ys
map_join f [] ys = refl
map_join f (x ∷ xs) ys = ap (λ zs. f x ∷ zs) (map_join f xs ys)

run_spelled : (address : ℕ) (s : DistState) (hs : List Happening) → Spelled address (sent_in address s hs) (packets_in address s hs)
run_spelled address s [] = refl
run_spelled address s (h ∷ hs) =
    rw (happening_spelled address s h, run_spelled address (happened address s h) hs) (sym (map_join (sent_packet address) (sent_by address s h) (sent_in address (happened address s h) hs)))

-- ---- what is read

-- what is read as an Update Start is that one
abbrev Says : Sent → UpdateStart → Type 0
Says sent u = request_at (sent_octets sent) ≡ Some (OfUpdate (StartUpdate u)) → sent ≡ ByClient (OfUpdate (StartUpdate u))

never : {A : Type 0} (read : Option Request) (u : UpdateStart) → IsOther read → read ≡ Some (OfUpdate (StartUpdate u)) → A
never read u h e = absurd (subst IsOther e h)

start_says : RequestsAreRead → (address to : ℕ) (v u : UpdateStart) → address < 2 ^ 16 → IsOwnStart address to v → Says (ByClient (OfUpdate (StartUpdate v))) u
start_says reads address to v u small h e =
    let range : StartInRange v = record { ttl = h.ttl; base = h.base; id = omega (arith, h.id, h.own_below); index = h.index; metadata = omega (arith, h.metadata_length) } in
    let again : request_at (sent_octets (ByClient (OfUpdate (StartUpdate v)))) ≡ Some (OfUpdate (StartUpdate v)) = reads (OfUpdate (StartUpdate v)) range in
    let same : Some (OfUpdate (StartUpdate v)) ≡ Some (OfUpdate (StartUpdate u)) = sym again ∙ e in
    let start : v ≡ u = cc in
    ap (λ x. ByClient (OfUpdate (StartUpdate x))) start

module _ (one : OneOctetIsKept) (two : TwoOctetsAreKept) where
  update_says : RequestsAreRead → (address to : ℕ) (request : UpdateRequest) (u : UpdateStart) → address < 2 ^ 16 → IsOwnAs address (to, ByClient (OfUpdate request)) → Says (ByClient (OfUpdate request)) u
  update_says reads address to (StartUpdate v) u small h = start_says reads address to v u small h
  update_says reads address to (InformationGet first limit) u small h = λ e. never _ u (information_other one two first limit) e
  update_says reads address to (MetadataCheck index metadata) u small h = λ e. never _ u (check_other one two index metadata) e
  update_says reads address to UpdateGet u small h = λ e. never _ u (get_other one two) e
  update_says reads address to UpdateCancel u small h = λ e. never _ u (cancel_other one two) e
  update_says reads address to UpdateApply u small h = λ e. never _ u (apply_other one two) e

  pub sent_says : RequestsAreRead → (address to : ℕ) (sent : Sent) (u : UpdateStart) → address < 2 ^ 16 → IsOwnAs address (to, sent) → Says sent u
  sent_says reads address to (ByDistribution reply) u small h = λ e. never _ u (reply_other one two reply) e
  sent_says reads address to (ByBlob reply) u small h = λ e. never _ u (blob_other one two reply) e
  sent_says reads address to (ByClient (OfUpdate request)) u small h = update_says reads address to request u small h
  sent_says reads address to (ByClient (OfBlob request)) u small h = λ e. never _ u (transfer_other one two request) e

  -- ---- runs

  all_say : RequestsAreRead → (r : Run) (sends : List (ℕ × Sent)) → r.address < 2 ^ 16 → AllByRecursion (IsOwnAs r.address) sends → ((to : ℕ) (u : UpdateStart) → HasStart sends to u → HasStart (sent_of r) to u) → AllByRecursion (IsPacketOf r) (map (sent_packet r.address) sends)
  all_say reads r [] small h w = tt
  all_say reads r ((to, sent) ∷ sends) small h w =
      (record { from = refl; start = λ u e. w to u (inl (refl, sent_says reads r.address to sent u small h.0 e)) }, all_say reads r sends small h.1 (λ at u k. w at u (inr k)))

  pub packets_say : Below → MetaIsReadBack → StartsAreInOrder → RequestsAreRead → PacketsSayStarts
  packets_say below again order reads r h small =
      subst (AllByRecursion (IsPacketOf r)) (sym (run_spelled r.address (begin_of r) r.happenings))
      (all_say reads r (sent_of r) small (run_own below again r.address (begin_of r) r.happenings h.happenings (begin_order order r h)) (λ to u k. k))
