-- A message with an opcode of its own is read as one of its kind or as none, and then says nothing out of range.
use Rattle.std.proofs.Common.{◌≡◌, ◌<◌, ◌≤◌, ℕ, ◌+◌, ◌*◌, List, [], ◌∷◌, refl, sym, subst, arith, Option, Some, None, Result, Ok, Err}
use Rattle.std.specs.Prelude.{MatchOption}
use Rattle.mu_model_wire.specs.declared.Refusal.{Refusal}
use Rattle.mu_model_wire.specs.Fields.{Message}
use Rattle.mu_model_wire.specs.Opcodes.{Keeps as KeepsIn, OneOctetIsKept, TwoOctetsAreKept}
use Rattle.mu_model_wire.specs.Packet.{Packet}
use Rattle.mu_model_wire.specs.Reading.{message_at}
use Rattle.mu_model_wire.specs.Table.{rows}
use Rattle.mu_model_node.specs.BlobMessages.{BlobRequest, blob_request_of}
use Rattle.mu_model_node.specs.NodeMessages.{request_of}
use Rattle.mu_model_node.specs.Sound.{BlobRequestFits}
use Rattle.mu_model_client.specs.Answers.{Answer, answer_of}
use Rattle.mu_model_distributor.specs.Requests.{dist_request_of}
use Rattle.mu_model_distributor.specs.DistMessages.{taken_as, taken_of}
use Rattle.mu_model_distributor.specs.Sound.{AnswerFits, TakenFits}
use Rattle.mu_model_distributor_laws.specs.Lists.{list_of}
use Rattle.mu_model_client_laws.specs.Wire.{InRange}
use Rattle.mu_model_packets.specs.Laws.{PacketFits, OffersNothing, IsAnswer}
use Rattle.mu_model_packets.proofs.Tested.{Opens, opening, IsTested, message_tested}
use Rattle.mu_model_packets.proofs.Asked.{message_asks, blob_fits, answer_fits}
use Rattle.mu_model_packets.proofs.Packets.{packet_says}

-- ---- an opcode that is read is the message's

abbrev pub Keeps : ℕ → List ℕ → Type 0
Keeps opcode bytes = KeepsIn rows opcode bytes

-- opcodes of two octets, and of one
pub keeps_two : TwoOctetsAreKept → (bytes : List ℕ) (low : ℕ) (body : List ℕ) → bytes ≡ 0x83 ∷ low ∷ body → Keeps (0x83 * 256 + low) bytes
keeps_two two bytes low body e = rw e (two rows 0x83 low body (omega arith) (omega arith))

pub keeps_67 : OneOctetIsKept → (bytes body : List ℕ) → bytes ≡ 0x67 ∷ body → Keeps 0x67 bytes
keeps_67 one bytes body e = rw e (one rows 0x67 body (omega arith))

pub keeps_68 : OneOctetIsKept → (bytes body : List ℕ) → bytes ≡ 0x68 ∷ body → Keeps 0x68 bytes
keeps_68 one bytes body e = rw e (one rows 0x68 body (omega arith))

-- ---- what a message says is in range

record MessageFits (m : Message) : Type 0 where
  asks : MatchOption (request_of m) (Unit {0}) InRange
  distributor : MatchOption (taken_of m) (Unit {0}) TakenFits

-- octets that are read as a message of this opcode, if at all; they begin as its opening does, and it is no request of a
-- distribution
pub record IsOther (opcode : ℕ) (bytes : List ℕ) : Type 0 where
  pub keeps : Keeps opcode bytes
  pub opens : Opens (opening opcode) bytes
  pub distribution : (m : Message) → m.opcode ≡ opcode → dist_request_of m ≡ None

took : (blob : Option BlobRequest) (answer : Option Answer) → MatchOption blob (Unit {0}) BlobRequestFits → MatchOption answer (Unit {0}) AnswerFits → MatchOption (taken_as None blob answer) (Unit {0}) TakenFits
took (Some request) answer h k = h
took None (Some answer) h k = k
took None None h k = tt

taken_fits : (m : Message) → dist_request_of m ≡ None → IsTested m → MatchOption (taken_of m) (Unit {0}) TakenFits
taken_fits m e h = rw e (took (blob_request_of m) (answer_of m) (blob_fits m h) (answer_fits m h))

message_fits : (opcode : ℕ) (bytes : List ℕ) (m : Message) → IsOther opcode bytes → message_at rows bytes ≡ Ok m → MessageFits m
message_fits opcode bytes m other e =
    let one : m.opcode ≡ opcode = other.keeps m e in
    let tested = message_tested bytes m e (subst (λ (o : ℕ). Opens (opening o) bytes) (sym one) other.opens) in
    record { asks = message_asks m tested; distributor = taken_fits m (other.distribution m one) tested }

-- what is read of a packet says no more than its message
by_message : (p : Packet) (r : Result Message Refusal) → message_at rows p.payload ≡ r → ((m : Message) → message_at rows p.payload ≡ Ok m → MessageFits m) → PacketFits p
by_message p (Ok m) e h =
    let fits = h m e in
    packet_says p (rw e fits.asks) (rw e fits.distributor)
by_message p (Err d) e h = packet_says p (rw e tt) (rw e tt)

pub packet_fits : (opcode : ℕ) (p : Packet) → IsOther opcode p.payload → PacketFits p
packet_fits opcode p other = by_message p (message_at rows p.payload) refl (λ m e. message_fits opcode p.payload m other e)

-- ---- answers

-- no message of the opcode is a request of a node, or a Receivers List
pub record IsReply (opcode : ℕ) : Type 0 where
  pub request : (m : Message) → m.opcode ≡ opcode → request_of m ≡ None
  pub list : (m : Message) → m.opcode ≡ opcode → list_of m ≡ None

offers_nothing : (opcode : ℕ) (p : Packet) (r : Result Message Refusal) → message_at rows p.payload ≡ r → IsReply opcode → Keeps opcode p.payload → OffersNothing p
offers_nothing opcode p (Ok m) e reply keeps =
    let none : request_of m ≡ None = reply.request m (keeps m e) in
    let no_list : list_of m ≡ None = reply.list m (keeps m e) in
    record { no_start = rw (e, none) (λ u h. cc); no_list = rw e no_list }
offers_nothing opcode p (Err d) e reply keeps = record { no_start = rw e (λ u h. cc); no_list = rw e refl }

pub packet_answers : (opcode : ℕ) (p : Packet) → IsOther opcode p.payload → IsReply opcode → IsAnswer p
packet_answers opcode p other reply = record {
  fits = packet_fits opcode p other;
  offers_nothing = offers_nothing opcode p (message_at rows p.payload) refl reply other.keeps;
}
