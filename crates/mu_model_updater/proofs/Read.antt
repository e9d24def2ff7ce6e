-- What a node reads as an Update Start in what an updater sends is one.
use Rattle.std.proofs.Common.{◌≡◌, ◌<◌, ◌≤◌, ◌^◌, ℕ, List, [], ◌∷◌, ◌++◌, length, map, refl, sym, subst, arith, Option, Some, None, Result, Ok, Err, inl, inr}
use Rattle.std.specs.List.{AllByRecursion}
use Rattle.mu_model_image.specs.Meta.{IsMeta, meta_octets}
use Rattle.mu_model_wire.specs.Fields.{Message}
use Rattle.mu_model_wire.specs.Packet.{Packet}
use Rattle.mu_model_wire.specs.Reading.{message_at}
use Rattle.mu_model_wire.specs.Table.{rows as grammar}
use Rattle.mu_model_wire.specs.declared.Refusal.{Refusal}
use Rattle.mu_model_node.specs.BlobMessages.{BlobInformationGet, TransferGet, TransferStart, TransferCancel, BlockStart, BlockGet, ChunkTransfer}
use Rattle.mu_model_node.specs.Events.{NodeEvent}
use Rattle.mu_model_node.specs.NodeMessages.{Request, OfUpdate, OfBlob, request_in, request_at}
use Rattle.mu_model_node.specs.UpdateMessages.{UpdateStart, InformationGet, MetadataCheck, UpdateGet, StartUpdate, UpdateCancel, UpdateApply}
use Rattle.mu_model_client.specs.declared.Plan.{Plan}
use Rattle.mu_model_client.specs.Begin.{purpose_of}
use Rattle.mu_model_client.specs.Packets.{request_message, request_octets, request_packet}
use Rattle.mu_model_client_laws.specs.Asked.{HasReceiver, IsStart, IsOfPlan}
use Rattle.mu_model_client_laws.specs.Wire.{StartInRange, RequestsAreRead, RequestsKeepTheirOpcodes}
use Rattle.mu_model_updater.specs.Updater.{Updater, new_updater, updater_step, sent_in, start_in, starts_of, starts_in, asked_by}
use Rattle.mu_model_updater.specs.Laws.{IsOffered, StartsAreOffered, IsInRange, HasStart, IsStartOf, StartsAreRead, IsOfferedAs, ReadStartsAreOffered}
use Rattle.mu_model_updater.proofs.Runs.{ClientLaws, DoesPlan, begins, event_goes, event_asks}
use Rattle.mu_model_updater.proofs.Starts.{Asks, both_all, weaker, event_sends}

-- ---- more starts

has_left : (starts more : List (ℕ × UpdateStart)) (to : ℕ) (u : UpdateStart) → HasStart starts to u → HasStart (starts ++ more) to u
has_left [] more to u h = absurd h
has_left (x ∷ starts) more to u (inl e) = inl e
has_left (x ∷ starts) more to u (inr h) = inr (has_left starts more to u h)

has_right : (more starts : List (ℕ × UpdateStart)) (to : ℕ) (u : UpdateStart) → HasStart starts to u → HasStart (more ++ starts) to u
has_right [] starts to u h = h
has_right (x ∷ more) starts to u h = inr (has_right more starts to u h)

-- what holds of an Update Start where the starts are more
wider : (starts all : List (ℕ × UpdateStart)) (to : ℕ) → ((u : UpdateStart) → HasStart starts to u → HasStart all to u) → (request : Option Request) → IsStartOf starts to request → IsStartOf all to request
wider starts all to f None h = tt
wider starts all to f (Some (OfBlob request)) h = tt
wider starts all to f (Some (OfUpdate (StartUpdate u))) h = f u h
wider starts all to f (Some (OfUpdate (InformationGet first limit))) h = tt
wider starts all to f (Some (OfUpdate (MetadataCheck index metadata))) h = tt
wider starts all to f (Some (OfUpdate UpdateGet)) h = tt
wider starts all to f (Some (OfUpdate UpdateCancel)) h = tt
wider starts all to f (Some (OfUpdate UpdateApply)) h = tt

abbrev Read : List (ℕ × UpdateStart) → Packet → Type 0
Read starts p = IsStartOf starts p.to (request_at p.payload)

-- ---- one request

index_in_range : (receivers : List (ℕ × ℕ)) (to index : ℕ) → AllByRecursion (λ (receiver : ℕ × ℕ). receiver.1 < 2 ^ 8) receivers → HasReceiver receivers to index → index < 2 ^ 8
index_in_range [] to index h k = absurd k
index_in_range (r ∷ receivers) to index h (inl e) = subst (λ (n : ℕ). n < 2 ^ 8) e.1 h.0
index_in_range (r ∷ receivers) to index h (inr k) = index_in_range receivers to index h.1 k

meta_length : (plan : Plan) → IsMeta plan.meta → length (meta_octets plan.meta) ≤ 255
meta_length plan h = let digest = h.digest_length in omega (arith, digest)

in_range : (plan : Plan) (to : List (ℕ × ℕ)) (address : ℕ) (u : UpdateStart) → IsInRange plan to → IsStart plan.sending (purpose_of plan) to address u → StartInRange u
in_range plan to address u h k = record {
  ttl = subst (λ (n : ℕ). n < 2 ^ 8) (sym k.ttl) h.ttl;
  base = subst (λ (n : ℕ). n < 2 ^ 16) (sym k.base) h.base;
  id = subst (λ (n : ℕ). n < 2 ^ 64) (sym k.id) h.id;
  index = index_in_range to address u.index h.indexes k.receiver;
  metadata = subst (λ (octets : List ℕ). length octets ≤ 255) (sym k.metadata) (meta_length plan h.meta);
}

module _ (read : RequestsAreRead) (opcodes : RequestsKeepTheirOpcodes) where
  -- another request isn't read as an Update Start
  message_other : (starts : List (ℕ × UpdateStart)) (to : ℕ) (request : Request) (m : Message) → IsStartOf [] to (Some request) → m.opcode ≡ (request_message request).opcode → IsStartOf starts to (request_in (Ok m))
  message_other starts to (OfUpdate (StartUpdate u)) m h e = absurd h
  message_other starts to (OfUpdate (InformationGet first limit)) m h e = rw e tt
  message_other starts to (OfUpdate (MetadataCheck index metadata)) m h e = rw e tt
  message_other starts to (OfUpdate UpdateGet) m h e = rw e tt
  message_other starts to (OfUpdate UpdateCancel) m h e = rw e tt
  message_other starts to (OfUpdate UpdateApply) m h e = rw e tt
  message_other starts to (OfBlob TransferGet) m h e = rw e tt
  message_other starts to (OfBlob (TransferStart transfer p)) m h e = rw e tt
  message_other starts to (OfBlob (TransferCancel transfer)) m h e = rw e tt
  message_other starts to (OfBlob (BlockStart block size)) m h e = rw e tt
  message_other starts to (OfBlob BlockGet) m h e = rw e tt
  message_other starts to (OfBlob BlobInformationGet) m h e = rw e tt
  message_other starts to (OfBlob (ChunkTransfer chunk part)) m h e = rw e tt

  result_other : (starts : List (ℕ × UpdateStart)) (to : ℕ) (request : Request) (r : Result Message Refusal) → IsStartOf [] to (Some request) → message_at grammar (request_octets request) ≡ r → IsStartOf starts to (request_in r)
  result_other starts to request (Err e) h k = tt
  result_other starts to request (Ok m) h k = message_other starts to request m h (opcodes request m k)

  other : (starts : List (ℕ × UpdateStart)) (to : ℕ) (request : Request) → IsStartOf [] to (Some request) → IsStartOf starts to (request_at (request_octets request))
  other starts to request h = result_other starts to request (message_at grammar (request_octets request)) h refl

  module _ (plan : Plan) (to : List (ℕ × ℕ)) (range : IsInRange plan to) where
    request_read : (more : List (ℕ × UpdateStart)) (address : ℕ) (request : Request) → IsOfPlan plan.sending (purpose_of plan) to address request → IsStartOf (start_in address request ++ more) address (request_at (request_octets request))
    request_read more address (OfUpdate (StartUpdate u)) h = rw (read (OfUpdate (StartUpdate u)) (in_range plan to address u range h)) (inl (refl, refl))
    request_read more address (OfUpdate (InformationGet first limit)) h = other more address (OfUpdate (InformationGet first limit)) tt
    request_read more address (OfUpdate (MetadataCheck index metadata)) h = other more address (OfUpdate (MetadataCheck index metadata)) tt
    request_read more address (OfUpdate UpdateGet) h = other more address (OfUpdate UpdateGet) tt
    request_read more address (OfUpdate UpdateCancel) h = other more address (OfUpdate UpdateCancel) tt
    request_read more address (OfUpdate UpdateApply) h = other more address (OfUpdate UpdateApply) tt
    request_read more address (OfBlob request) h = other more address (OfBlob request) tt

    -- ---- all

    asked_read : (from : ℕ) (asked : List (ℕ × Request)) → Asks plan to asked → AllByRecursion (Read (starts_of asked)) (map (request_packet from) asked)
    asked_read from [] h = tt
    asked_read from (x ∷ asked) h = (
      request_read (starts_of asked) x.0 x.1 h.0,
      weaker (Read (starts_of asked)) (Read (starts_of (x ∷ asked))) (map (request_packet from) asked)
          (λ p k. wider (starts_of asked) (starts_of (x ∷ asked)) p.to (λ u k. has_right (start_in x.0 x.1) (starts_of asked) p.to u k) (request_at p.payload) k)
          (asked_read from asked h.1),
    )

    run_read : (known : ClientLaws) (u : Updater) (run : List (NodeEvent × ℕ)) → DoesPlan plan to u.client → AllByRecursion (Read (starts_in u run)) (sent_in u run)
    run_read known u [] h = tt
    run_read known u (e ∷ run) h =
        let next = (updater_step u e.0 e.1).next in
        let asked = asked_by u e.0 e.1 in
        let first : AllByRecursion (Read (starts_of asked)) (updater_step u e.0 e.1).sent =
        subst (λ (sent : List Packet). AllByRecursion (Read (starts_of asked)) sent) (sym (event_sends u e.0 e.1)) (asked_read u.client.sending.from asked (event_asks known plan to u e.0 e.1 h)) in
        both_all (Read (starts_in u (e ∷ run))) (updater_step u e.0 e.1).sent (sent_in next run)
        (weaker (Read (starts_of asked)) (Read (starts_in u (e ∷ run))) (updater_step u e.0 e.1).sent
        (λ p k. wider (starts_of asked) (starts_in u (e ∷ run)) p.to (λ s k. has_left (starts_of asked) (starts_in next run) p.to s k) (request_at p.payload) k) first)
        (weaker (Read (starts_in next run)) (Read (starts_in u (e ∷ run))) (sent_in next run)
        (λ p k. wider (starts_in next run) (starts_in u (e ∷ run)) p.to (λ s k. has_right (starts_of asked) (starts_in next run) p.to s k) (request_at p.payload) k)
        (run_read known next run (event_goes known plan to u e.0 e.1 h)))

pub starts_are_read : RequestsAreRead → RequestsKeepTheirOpcodes → ClientLaws → StartsAreRead
starts_are_read read opcodes known plan image to run range = run_read read opcodes plan to range known (new_updater plan image to) run (begins known plan to)

-- ---- what is read is offered

start_offered : (plan : Plan) (receivers : List (ℕ × ℕ)) (starts : List (ℕ × UpdateStart)) (to : ℕ) (u : UpdateStart) → AllByRecursion (λ (x : ℕ × UpdateStart). IsOffered plan receivers x.0 x.1) starts → HasStart starts to u → IsOffered plan receivers to u
start_offered plan receivers [] to u h k = absurd k
start_offered plan receivers (x ∷ starts) to u h (inl e) = subst (λ (address : ℕ). IsOffered plan receivers address u) e.0 (subst (λ (s : UpdateStart). IsOffered plan receivers x.0 s) e.1 h.0)
start_offered plan receivers (x ∷ starts) to u h (inr k) = start_offered plan receivers starts to u h.1 k

offered_as : (plan : Plan) (receivers : List (ℕ × ℕ)) (starts : List (ℕ × UpdateStart)) (to : ℕ) (request : Option Request) → AllByRecursion (λ (x : ℕ × UpdateStart). IsOffered plan receivers x.0 x.1) starts → IsStartOf starts to request → IsOfferedAs plan receivers to request
offered_as plan receivers starts to None h k = tt
offered_as plan receivers starts to (Some (OfBlob request)) h k = tt
offered_as plan receivers starts to (Some (OfUpdate (StartUpdate u))) h k = start_offered plan receivers starts to u h k
offered_as plan receivers starts to (Some (OfUpdate (InformationGet first limit))) h k = tt
offered_as plan receivers starts to (Some (OfUpdate (MetadataCheck index metadata))) h k = tt
offered_as plan receivers starts to (Some (OfUpdate UpdateGet)) h k = tt
offered_as plan receivers starts to (Some (OfUpdate UpdateCancel)) h k = tt
offered_as plan receivers starts to (Some (OfUpdate UpdateApply)) h k = tt

pub read_starts_are_offered : StartsAreOffered → StartsAreRead → ReadStartsAreOffered
read_starts_are_offered offered law plan image to run range =
    weaker (Read (starts_in (new_updater plan image to) run)) (λ (p : Packet). IsOfferedAs plan to p.to (request_at p.payload)) (sent_in (new_updater plan image to) run)
    (λ p k. offered_as plan to (starts_in (new_updater plan image to) run) p.to (request_at p.payload) (offered plan image to run) k)
    (law plan image to run range)
