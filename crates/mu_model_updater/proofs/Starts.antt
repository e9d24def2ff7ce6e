-- What an updater sends: Update Starts of its plan, from its address, and nothing that is an answer.
use Rattle.std.proofs.Common.{◌≡◌, ◌==◌, ℕ, false, List, [], ◌∷◌, ◌++◌, map, refl, sym, ap, ◌∙◌, subst, arith}
use Rattle.std.proofs.lemmas.Bool.Decides.{nat_tests}
use Rattle.std.specs.List.{AllByRecursion}
use Rattle.mu_model_wire.specs.Packet.{Packet}
use Rattle.mu_model_node.specs.BlobMessages.{BlobInformationGet, TransferGet, TransferStart, TransferCancel, BlockStart, BlockGet, ChunkTransfer}
use Rattle.mu_model_node.specs.Events.{NodeEvent, PacketComes, TimeComes}
use Rattle.mu_model_node.specs.NodeMessages.{Request, OfUpdate, OfBlob}
use Rattle.mu_model_node.specs.UpdateMessages.{UpdateStart, InformationGet, MetadataCheck, UpdateGet, StartUpdate, UpdateCancel, UpdateApply}
use Rattle.mu_model_client.specs.declared.Plan.{Plan}
use Rattle.mu_model_client.specs.Begin.{purpose_of}
use Rattle.mu_model_client.specs.Packets.{request_message, request_octets, request_packet}
use Rattle.mu_model_client_laws.specs.Asked.{IsOfPlan}
use Rattle.mu_model_client_laws.specs.Wire.{RequestsKeepTheirOpcodes, RequestsAreNoAnswers}
use Rattle.mu_model_updater.specs.Updater.{Updater, new_updater, updater_step, sent_in, start_in, starts_of, starts_in, asked_by}
use Rattle.mu_model_updater.specs.Laws.{IsOffered, StartsAreOffered, SendsFromItsAddress, SaysNothing, NothingElse}
use Rattle.mu_model_updater.proofs.Ends.{packet_rests}
use Rattle.mu_model_updater.proofs.Runs.{ClientLaws, DoesPlan, begins, event_goes, event_asks}

-- ---- lists

pub both_all : {A : Type 0} (P : A → Type 0) (xs ys : List A) → AllByRecursion P xs → AllByRecursion P ys → AllByRecursion P (xs ++ ys)
both_all P [] ys h k = k
both_all P (x ∷ xs) ys h k = (h.0, both_all P xs ys h.1 k)

pub weaker : {A : Type 0} (P Q : A → Type 0) (xs : List A) → ((x : A) → P x → Q x) → AllByRecursion P xs → AllByRecursion Q xs
weaker P Q [] f h = tt
weaker P Q (x ∷ xs) f h = (f x h.0, weaker P Q xs f h.1)

-- ---- Update Starts

abbrev pub Asks : Plan → List (ℕ × ℕ) → List (ℕ × Request) → Type 0
Asks plan to asked = AllByRecursion (λ (x : ℕ × Request). IsOfPlan plan.sending (purpose_of plan) to x.0 x.1) asked

abbrev Offers : Plan → List (ℕ × ℕ) → List (ℕ × UpdateStart) → Type 0
Offers plan to starts = AllByRecursion (λ (x : ℕ × UpdateStart). IsOffered plan to x.0 x.1) starts

request_offers : (plan : Plan) (to : List (ℕ × ℕ)) (address : ℕ) (request : Request) → IsOfPlan plan.sending (purpose_of plan) to address request → Offers plan to (start_in address request)
request_offers plan to address (OfUpdate (StartUpdate u)) h = (record { ttl = h.ttl; base = h.base; id = h.id; metadata = h.metadata; receiver = h.receiver }, tt)
request_offers plan to address (OfUpdate (InformationGet first limit)) h = tt
request_offers plan to address (OfUpdate (MetadataCheck index metadata)) h = tt
request_offers plan to address (OfUpdate UpdateGet) h = tt
request_offers plan to address (OfUpdate UpdateCancel) h = tt
request_offers plan to address (OfUpdate UpdateApply) h = tt
request_offers plan to address (OfBlob request) h = tt

asked_offers : (plan : Plan) (to : List (ℕ × ℕ)) (asked : List (ℕ × Request)) → Asks plan to asked → Offers plan to (starts_of asked)
asked_offers plan to [] h = tt
asked_offers plan to (x ∷ asked) h = both_all _ (start_in x.0 x.1) (starts_of asked) (request_offers plan to x.0 x.1 h.0) (asked_offers plan to asked h.1)

run_offers : (known : ClientLaws) (plan : Plan) (to : List (ℕ × ℕ)) (u : Updater) (run : List (NodeEvent × ℕ)) → DoesPlan plan to u.client → Offers plan to (starts_in u run)
run_offers known plan to u [] h = tt
run_offers known plan to u (e ∷ run) h =
    both_all _ (starts_of (asked_by u e.0 e.1)) (starts_in (updater_step u e.0 e.1).next run) (asked_offers plan to (asked_by u e.0 e.1) (event_asks known plan to u e.0 e.1 h))
    (run_offers known plan to (updater_step u e.0 e.1).next run (event_goes known plan to u e.0 e.1 h))

pub starts_are_offered : ClientLaws → StartsAreOffered
starts_are_offered known plan image to run = run_offers known plan to (new_updater plan image to) run (begins known plan to)

-- ---- packets are requests

pub event_sends : (u : Updater) (event : NodeEvent) (now : ℕ) → (updater_step u event now).sent ≡ map (request_packet u.client.sending.from) (asked_by u event now)
event_sends u (PacketComes packet) now = (packet_rests u.client packet now).silent
event_sends u TimeComes now = refl

requests_all : (P : Packet → Type 0) (from : ℕ) (asked : List (ℕ × Request)) → ((x : ℕ × Request) → P (request_packet from x)) → AllByRecursion P (map (request_packet from) asked)
requests_all P from [] h = tt
requests_all P from (x ∷ asked) h = (h x, requests_all P from asked h)

run_all : (P : Packet → Type 0) → ((from : ℕ) (x : ℕ × Request) → P (request_packet from x)) → (u : Updater) (run : List (NodeEvent × ℕ)) → AllByRecursion P (sent_in u run)
run_all P h u [] = tt
run_all P h u (e ∷ run) =
    both_all P (updater_step u e.0 e.1).sent (sent_in (updater_step u e.0 e.1).next run)
    (subst (λ (sent : List Packet). AllByRecursion P sent) (sym (event_sends u e.0 e.1)) (requests_all P u.client.sending.from (asked_by u e.0 e.1) (h u.client.sending.from)))
    (run_all P h (updater_step u e.0 e.1).next run)

-- from its address
run_from : (known : ClientLaws) (plan : Plan) (to : List (ℕ × ℕ)) (u : Updater) (run : List (NodeEvent × ℕ)) → DoesPlan plan to u.client → AllByRecursion (λ (p : Packet). p.from ≡ plan.sending.from) (sent_in u run)
run_from known plan to u [] h = tt
run_from known plan to u (e ∷ run) h =
    both_all (λ (p : Packet). p.from ≡ plan.sending.from) (updater_step u e.0 e.1).sent (sent_in (updater_step u e.0 e.1).next run)
    (subst (λ (sent : List Packet). AllByRecursion (λ (p : Packet). p.from ≡ plan.sending.from) sent) (sym (event_sends u e.0 e.1))
    (requests_all (λ (p : Packet). p.from ≡ plan.sending.from) u.client.sending.from (asked_by u e.0 e.1) (λ x. ap (λ s. s.from) h.sending)))
    (run_from known plan to (updater_step u e.0 e.1).next run (event_goes known plan to u e.0 e.1 h))

pub sends_from_its_address : ClientLaws → SendsFromItsAddress
sends_from_its_address known plan image to run = run_from known plan to (new_updater plan image to) run (begins known plan to)

-- ---- nothing else

no_list_opcode : (request : Request) → ((request_message request).opcode == 0x8315) ≡ false
no_list_opcode (OfUpdate (InformationGet first limit)) = refl
no_list_opcode (OfUpdate (MetadataCheck index metadata)) = refl
no_list_opcode (OfUpdate UpdateGet) = refl
no_list_opcode (OfUpdate (StartUpdate u)) = refl
no_list_opcode (OfUpdate UpdateCancel) = refl
no_list_opcode (OfUpdate UpdateApply) = refl
no_list_opcode (OfBlob TransferGet) = refl
no_list_opcode (OfBlob (TransferStart transfer p)) = refl
no_list_opcode (OfBlob (TransferCancel transfer)) = refl
no_list_opcode (OfBlob (BlockStart block size)) = refl
no_list_opcode (OfBlob BlockGet) = refl
no_list_opcode (OfBlob BlobInformationGet) = refl
no_list_opcode (OfBlob (ChunkTransfer chunk part)) = refl

differ : (a b : ℕ) → (a == b) ≡ false → a ≡ b → ⊥
differ a b e k = grind (arith, nat_tests)

says_nothing : RequestsKeepTheirOpcodes → RequestsAreNoAnswers → (request : Request) → SaysNothing (request_octets request)
says_nothing opcodes answers request = record {
  no_answer = answers request;
  no_list = λ m h k. differ (request_message request).opcode 0x8315 (no_list_opcode request) (sym (opcodes request m h) ∙ k);
}

pub nothing_else : RequestsKeepTheirOpcodes → RequestsAreNoAnswers → NothingElse
nothing_else opcodes answers plan image to run = run_all (λ (p : Packet). SaysNothing p.payload) (λ from x. says_nothing opcodes answers x.1) (new_updater plan image to) run
