-- What a distributor shows of a node was reached by the node.
use Rattle.std.proofs.Common.{◌≡◌, ℕ, true, false, List, [], ◌∷◌, ◌++◌, refl, subst, cond, Option, Some, None, Result, Ok, Err, inl, inr}
use Rattle.std.specs.Prelude.{◌==◌}
use Rattle.std.specs.List.{AllByRecursion}
use Rattle.mu_model_image.specs.Meta.{firmware_id, own_company}
use Rattle.mu_model_wire.specs.declared.Refusal.{Refusal}
use Rattle.mu_model_wire.specs.Fields.{Message}
use Rattle.mu_model_wire.specs.Packet.{Packet}
use Rattle.mu_model_wire.specs.Reading.{message_at}
use Rattle.mu_model_wire.specs.Table.{rows}
use Rattle.mu_model_node.specs.BlobMessages.{BlobRequest, blob_request_of}
use Rattle.mu_model_node.specs.Events.{PacketComes, TimeComes}
use Rattle.mu_model_node.specs.NodeState.{restarted as node_restarted}
use Rattle.mu_model_node.specs.Safe.{Happening, Done, CutPower, Torn}
use Rattle.mu_model_node.specs.UpdateMessages.{InformationStatus}
use Rattle.mu_model_client.specs.Answers.{Answer, FromUpdate, answer_of, answer_in, answer_at}
use Rattle.mu_model_client.specs.Rows.{Row}
use Rattle.mu_model_distributor.specs.Requests.{DistRequest, dist_request_of}
use Rattle.mu_model_distributor.specs.DistMessages.{Taken, OfDistribution, OfBlob, OfReceiver, taken_as, taken_in, taken_at}
use Rattle.mu_model_distributor.specs.DistState.{Receiver, DistDurable, DistState, is_at_rest, transfer_id, offered, receiver_of}
use Rattle.mu_model_distributor.specs.Distribution.{meta_of}
use Rattle.mu_model_distributor.specs.DistEvents.{dist_step, live}
use Rattle.mu_model_distributor.specs.Runs.{happened, state_after}
use Rattle.mu_model_distributor_laws.specs.Planned.{has_transfer}
use Rattle.mu_model_distributor_laws.specs.RowsTold.{Heard, heard_as, heard_event, heard_by, heard_in, InOrder, none, here, later, Told, verdict as told_verdict, found as told_found, told, shown, shown_since, RowsAreTold}
use Rattle.mu_model_distributor_laws.specs.Lists.{list_at, TellsRows, ListsAreTold}
use Rattle.mu_model_told.specs.Reached.{WasReached, IsReached, SentIsReached, sent_in}
use Rattle.mu_model_listed.specs.Laws.{come_by, come_in, HasPayload, ComesFrom, Both, AreBoth, log_of, heard_of, durable_of, RowIsReached, verdict, found, reached, active, active_since, RowsAreReached, ListIsReached, ListsAreReached}

-- ---- what came

-- what is heard of a packet is what a client reads
abbrev Reads : Option Taken → Option Answer → Type 0
Reads (Some (OfReceiver answer)) read = read ≡ Some answer
Reads _ read = Unit {0}

taken_reads : (dist : Option DistRequest) (blob : Option BlobRequest) (answer : Option Answer) → Reads (taken_as dist blob answer) answer
taken_reads (Some request) blob answer = tt
taken_reads None (Some request) answer = tt
taken_reads None None (Some answer) = refl
taken_reads None None None = tt

result_reads : (r : Result Message Refusal) → Reads (taken_in r) (answer_in r)
result_reads (Ok m) = taken_reads (dist_request_of m) (blob_request_of m) (answer_of m)
result_reads (Err e) = tt

-- a packet of the node tells what was reached
abbrev Says : Both → Packet → Type 0
Says b p = p.from ≡ b.config.address → IsReached b.node (log_of b) (answer_at p.payload)

-- and so does what is heard
abbrev IsTrueOf : Both → Heard → Type 0
IsTrueOf b h = h.from ≡ b.config.address → IsReached b.node (log_of b) (Some h.answer)

payload_reached : (b : Both) (payload : List ℕ) (sent : List Packet) → AllByRecursion (λ (p : Packet). IsReached b.node (log_of b) (answer_at p.payload)) sent → HasPayload payload sent → IsReached b.node (log_of b) (answer_at payload)
payload_reached b payload [] h k = absurd k
payload_reached b payload (p ∷ sent) h (inl e) = subst (λ (os : List ℕ). IsReached b.node (log_of b) (answer_at os)) e h.0
payload_reached b payload (p ∷ sent) h (inr k) = payload_reached b payload sent h.1 k

come_says : (b : Both) (sent come : List Packet) → AllByRecursion (λ (p : Packet). IsReached b.node (log_of b) (answer_at p.payload)) sent → ComesFrom b.config.address sent come → AllByRecursion (Says b) come
come_says b sent [] h k = tt
come_says b sent (p ∷ come) h k = ((λ from. payload_reached b p.payload sent h (k.0 from)), come_says b sent come h k.1)

-- ---- what is heard

as_true : (b : Both) (d : DistDurable) (from : ℕ) (taken : Option Taken) (read : Option Answer) → Reads taken read → (from ≡ b.config.address → IsReached b.node (log_of b) read) → AllByRecursion (IsTrueOf b) (heard_as b.address d from taken)
as_true b d from None read h k = tt
as_true b d from (Some (OfDistribution request)) read h k = tt
as_true b d from (Some (OfBlob request)) read h k = tt
as_true b d from (Some (OfReceiver answer)) read h k =
    elim (has_transfer d.phase) as (λ t. AllByRecursion (IsTrueOf b) (cond t (record { from = from; answer = answer; id = transfer_id b.address d; offer = meta_of (offered d) } ∷ []) [])) [
      | true ↦ ((λ e. subst (λ (x : Option Answer). IsReached b.node (log_of b) x) h (k e)), tt)
      | false ↦ tt
    ]

packet_true : (b : Both) (d : DistDurable) (p : Packet) → Says b p → AllByRecursion (IsTrueOf b) (heard_event b.address d (PacketComes p))
packet_true b d p h =
    elim (p.to == b.address) as (λ t. AllByRecursion (IsTrueOf b) (cond t (heard_as b.address d p.from (taken_at p.payload)) [])) [
      | true ↦ as_true b d p.from (taken_at p.payload) (answer_at p.payload) (result_reads (message_at rows p.payload)) h
      | false ↦ tt
    ]

by_true : (b : Both) (d : DistDurable) (h : Happening) → AllByRecursion (Says b) (come_by h) → AllByRecursion (IsTrueOf b) (heard_by b.address d h)
by_true b d (Done (PacketComes p) now) h = packet_true b d p h.0
by_true b d (Done TimeComes now) h = tt
by_true b d (Torn (PacketComes p) now operations) h = packet_true b d p h.0
by_true b d (Torn TimeComes now operations) h = tt
by_true b d CutPower h = tt

left_all : {A : Type 0} (P : A → Type 0) (xs ys : List A) → AllByRecursion P (xs ++ ys) → AllByRecursion P xs
left_all P [] ys h = tt
left_all P (x ∷ xs) ys h = (h.0, left_all P xs ys h.1)

right_all : {A : Type 0} (P : A → Type 0) (xs ys : List A) → AllByRecursion P (xs ++ ys) → AllByRecursion P ys
right_all P [] ys h = h
right_all P (x ∷ xs) ys h = right_all P xs ys h.1

both_all : {A : Type 0} (P : A → Type 0) (xs ys : List A) → AllByRecursion P xs → AllByRecursion P ys → AllByRecursion P (xs ++ ys)
both_all P [] ys h k = k
both_all P (x ∷ xs) ys h k = (h.0, both_all P xs ys h.1 k)

heard_true : (b : Both) (s : DistState) (hs : List Happening) → AllByRecursion (Says b) (come_in hs) → AllByRecursion (IsTrueOf b) (heard_in b.address s hs)
heard_true b s [] h = tt
heard_true b s (x ∷ hs) h =
    both_all (IsTrueOf b) (heard_by b.address s.durable x) (heard_in b.address (happened b.address s x) hs)
    (by_true b s.durable x (left_all (Says b) (come_by x) (come_in hs) h))
    (heard_true b (happened b.address s x) hs (right_all (Says b) (come_by x) (come_in hs) h))

-- what stands among what is heard is true
among : (b : Both) {xs heard : List Heard} → InOrder xs heard → AllByRecursion (IsTrueOf b) heard → AllByRecursion (IsTrueOf b) xs
among b none h = tt
among b (here k) h = (h.0, among b k h.1)
among b (later k) h = among b k h.1

second : {x y : Heard} {heard : List Heard} → InOrder (x ∷ y ∷ []) heard → InOrder (y ∷ []) heard
second (here k) = later k
second (later k) = later (second k)

-- ---- rows

row_reached : (b : Both) (r : Receiver) → AllByRecursion (IsTrueOf b) (heard_of b) → r.address ≡ b.config.address → Told b.distributor (transfer_id b.address (durable_of b)) (durable_of b).counter (heard_of b) r → RowIsReached b r
row_reached b r all from (told_verdict h) = verdict h
row_reached b r all from (told_found e h) = found e h
row_reached b r all from (told is h) = reached is (subst (λ id. WasReached b.node (log_of b) id r.phase) h.of ((among b h.heard_it all).0 from))
row_reached b r all from (shown is h) =
    let said = among b h.heard_both all in
    active h.phase is h.reported (subst (λ id. WasReached b.node (log_of b) id h.phase) h.of (said.0 from))
    (record { meta = h.offer; offered = (r.address, FromUpdate (InformationStatus h.count r.index (firmware_id own_company h.offer ∷ h.more)), second h.heard_both); active = (said.1.0 from).0 })
row_reached b r all from (shown_since is e h) =
    active_since h.phase is e h.reported h.was (record { meta = h.offer; offered = (r.address, FromUpdate (InformationStatus h.count r.index (firmware_id own_company h.offer ∷ h.more)), h.heard_it); active = ((among b h.heard_it all).0 from).0 })

-- ---- both

all_heard : SentIsReached → (b : Both) → AreBoth b → AllByRecursion (IsTrueOf b) (heard_of b)
all_heard law b h =
    heard_true b (live b.address b.distributor b.fresh) b.to_distributor
    (come_says b (sent_in b.config (node_restarted b.node) b.to_node) (come_in b.to_distributor) (law b.config b.node b.to_node h.node h.numbers h.to_node) h.comes)

receivers_reached : (b : Both) (rs : List Receiver) → AllByRecursion (IsTrueOf b) (heard_of b) → AllByRecursion (Told b.distributor (transfer_id b.address (durable_of b)) (durable_of b).counter (heard_of b)) rs → AllByRecursion (λ (r : Receiver). r.address ≡ b.config.address → RowIsReached b r) rs
receivers_reached b [] all h = tt
receivers_reached b (r ∷ rs) all h = ((λ e. row_reached b r all e h.0), receivers_reached b rs all h.1)

pub rows_are_reached : SentIsReached → RowsAreTold → RowsAreReached
rows_are_reached sent law b h =
    receivers_reached b (durable_of b).receivers (all_heard sent b h) (law b.address b.distributor b.fresh b.to_distributor h.distributor h.fresh h.to_distributor)

shown_reached : (b : Both) (given : List Row) → AllByRecursion (IsTrueOf b) (heard_of b) → AllByRecursion (λ (row : Row). Told b.distributor (transfer_id b.address (durable_of b)) (durable_of b).counter (heard_of b) (receiver_of row)) given → ListIsReached b (Some given)
shown_reached b [] all h = tt
shown_reached b (row ∷ given) all h = ((λ e. row_reached b (receiver_of row) all e h.0), shown_reached b given all h.1)

list_reached : (b : Both) (given : Option (List Row)) → AllByRecursion (IsTrueOf b) (heard_of b) → TellsRows b.address b.distributor b.fresh b.to_distributor given → ListIsReached b given
list_reached b None all h = tt
list_reached b (Some given) all h = shown_reached b given all h

lists_reached : (b : Both) (sent : List Packet) → AllByRecursion (IsTrueOf b) (heard_of b) → AllByRecursion (λ (p : Packet). TellsRows b.address b.distributor b.fresh b.to_distributor (list_at p.payload)) sent → AllByRecursion (λ (p : Packet). ListIsReached b (list_at p.payload)) sent
lists_reached b [] all h = tt
lists_reached b (p ∷ sent) all h = (list_reached b (list_at p.payload) all h.0, lists_reached b sent all h.1)

pub lists_are_reached : SentIsReached → ListsAreTold → ListsAreReached
lists_are_reached sent law b event now h fits =
    lists_reached b (dist_step b.address (state_after b.address (live b.address b.distributor b.fresh) b.to_distributor) event now).sent (all_heard sent b h)
    (law b.address b.distributor b.fresh b.to_distributor event now h.distributor h.fresh h.to_distributor fits)
