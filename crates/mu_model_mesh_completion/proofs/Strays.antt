-- What a distributor at rest sends beside the typed members: Partial Block Reports to whoever uploads to it. Whatever their numbers are
-- and wherever they go, no node and no updater does anything at one, since no updater sends to a distributor.
use Rattle.std.proofs.Common.{◌≡◌, ◌<◌, ℕ, ◌+◌, Bool, true, false, List, [], ◌∷◌, length, map, refl, sym, ap, subst, ◌∙◌, cond, arith, Option, Some, None, Result, Ok, Err, ◌⊎◌, inl, inr}
use Rattle.std.specs.Prelude.{◌%◌, ◌==◌, nat_lt}
use Rattle.std.specs.List.{AllByRecursion, flat_map}
use Rattle.std.proofs.lemmas.Bool.{le-ltb, eqb-true}
use Rattle.mu_model_wire.specs.Fields.{Message}
use Rattle.mu_model_wire.specs.Opcodes.{OneOctetIsKept}
use Rattle.mu_model_wire.specs.Packet.{Packet}
use Rattle.mu_model_wire.specs.Reading.{message_at}
use Rattle.mu_model_wire.specs.Spelling.{spelling}
use Rattle.mu_model_wire.specs.Table.{rows}
use Rattle.mu_model_wire.specs.declared.Refusal.{Refusal}
use Rattle.mu_model_node.specs.BlobMessages.{PartialBlockReport, blob_message_of}
use Rattle.mu_model_node.specs.NodeMessages.{request_of, request_in, request_at}
use Rattle.mu_model_client.specs.declared.Sending.{Sending}
use Rattle.mu_model_client.specs.Answers.{PartIs, Answer, FromBlob, answer_of, answer_in, answer_at}
use Rattle.mu_model_client.specs.Begin.{is_ended}
use Rattle.mu_model_client.specs.Client as client
use Rattle.mu_model_client.specs.Client.{Purpose, Blob, Update, Receiver, Place, Before, At, Verified, Ended, Client}
use Rattle.mu_model_client.specs.Told.{place_told, row_told, is_present, row_counted, told_if, told}
use Rattle.mu_model_distributor.specs.DistMessages.{taken_of, taken_as, taken_in, taken_at}
use Rattle.mu_model_completion.specs.Turn.{Sent}
use Rattle.mu_model_mesh_completion.proofs.Aims.{addresses_of, ClientAims}
use Rattle.mu_model_mesh_completion.proofs.Worlds.{packet_of}

-- ---- octets that are read as a Partial Block Report, or as no message

abbrev Keeps : Result Message Refusal → Type 0
Keeps read = (m : Message) → read ≡ Ok m → m.opcode ≡ 0x68

abbrev pub IsReport : List ℕ → Type 0
IsReport payload = Keeps (message_at rows payload)

begun_with : OneOctetIsKept → (bytes body : List ℕ) → bytes ≡ 0x68 ∷ body → IsReport bytes
begun_with kept bytes body e = rw e (kept rows 0x68 body (omega arith))

pub report_is : OneOctetIsKept → (chunks : List ℕ) → IsReport (spelling rows (blob_message_of (PartialBlockReport chunks)))
report_is kept chunks = begun_with kept (spelling rows (blob_message_of (PartialBlockReport chunks))) _ refl

-- ---- a node and a distributor are asked nothing

none_asked : (m : Message) → m.opcode ≡ 0x68 → request_of m ≡ None
none_asked m e = rw e refl

asks_by : (read : Result Message Refusal) → Keeps read → request_in read ≡ None
asks_by (Ok m) h = none_asked m (h m refl)
asks_by (Err e) h = refl

pub asks_nothing : (payload : List ℕ) → IsReport payload → request_at payload ≡ None
asks_nothing payload h = asks_by (message_at rows payload) h

only_heard : (m : Message) → m.opcode ≡ 0x68 → taken_of m ≡ taken_as None None (answer_of m)
only_heard m e = rw e refl

taken_by : (read : Result Message Refusal) → Keeps read → taken_in read ≡ taken_as None None (answer_in read)
taken_by (Ok m) h = only_heard m (h m refl)
taken_by (Err e) h = refl

pub takes_answer : (payload : List ℕ) → IsReport payload → taken_at payload ≡ taken_as None None (answer_at payload)
takes_answer payload h = taken_by (message_at rows payload) h

-- ---- what a client hears

abbrev pub SaysPart : Option Answer → Type 0
SaysPart None = Unit {0}
SaysPart (Some answer) = (chunks : List ℕ) × (answer ≡ FromBlob (PartIs chunks))

says_part : (m : Message) → m.opcode ≡ 0x68 → SaysPart (answer_of m)
says_part m e = rw e (_, refl)

says_by : (read : Result Message Refusal) → Keeps read → SaysPart (answer_in read)
says_by (Ok m) h = says_part m (h m refl)
says_by (Err e) h = tt

pub says_only : (payload : List ℕ) → IsReport payload → SaysPart (answer_at payload)
says_only payload h = says_by (message_at rows payload) h

-- a report changes no row, and nothing else of a client that has ended
same_row : (p : Sending) (chunks : List ℕ) (r : Receiver) (purpose : Purpose) → row_told p (FromBlob (PartIs chunks)) r purpose ≡ r
same_row p chunks r Blob = refl
same_row p chunks r (Update offered apply) = refl

same_counted : (p : Sending) (chunks : List ℕ) (r : Receiver) (purpose : Purpose) (present : Bool) → row_counted p (FromBlob (PartIs chunks)) r purpose present ≡ r
same_counted p chunks r purpose true = same_row p chunks r purpose
same_counted p chunks r purpose false = refl

same_place : (p : Sending) (answer : Answer) (r : Receiver) (place : Place) → is_ended place ≡ true → place_told p answer r place ≡ r
same_place p answer r (Before step) h = cc
same_place p answer r (At step) h = cc
same_place p answer r Verified h = cc
same_place p answer r (Ended part) h = refl

ended_if : (c : Client) (chunks : List ℕ) (r : Receiver) (b : Bool) → is_ended c.place ≡ true → told_if c (FromBlob (PartIs chunks)) r b ≡ r
ended_if c chunks r true h = same_place c.sending (FromBlob (PartIs chunks)) _ c.place h ∙ same_counted c.sending chunks r c.purpose (is_present c.place)
ended_if c chunks r false h = refl

ended_same : (c : Client) (from : ℕ) (chunks : List ℕ) (rs : List Receiver) → is_ended c.place ≡ true → map (λ (r : Receiver). told_if c (FromBlob (PartIs chunks)) r (r.row.address == from)) rs ≡ rs
ended_same c from chunks [] h = refl
ended_same c from chunks (r ∷ rs) h = rw (ended_if c chunks r (r.row.address == from) h, ended_same c from chunks rs h) refl

module _ (D : ℕ → Type 0) where
  -- a report of somebody to whom no client sends
  pub record IsStray (packet : Packet) : Type 0 where
    pub sender : D packet.from → ⊥
    pub report : IsReport packet.payload

  other_if : (c : Client) (from : ℕ) (answer : Answer) (r : Receiver) (b : Bool) → (r.row.address == from) ≡ b → D r.row.address → (D from → ⊥) → told_if c answer r b ≡ r
  other_if c from answer r true e d none = absurd (none (subst D (eqb-true r.row.address from e) d))
  other_if c from answer r false e d none = refl

  others_same : (c : Client) (from : ℕ) (answer : Answer) (rs : List Receiver) → AllByRecursion D (addresses_of D rs) → (D from → ⊥) → map (λ (r : Receiver). told_if c answer r (r.row.address == from)) rs ≡ rs
  others_same c from answer [] d none = refl
  others_same c from answer (r ∷ rs) d none = rw (other_if c from answer r (r.row.address == from) refl d.0 none, others_same c from answer rs d.1 none) refl

  pub told_same : (c : Client) (image : List ℕ) (from : ℕ) (chunks : List ℕ) (now : ℕ) → (is_ended c.place ≡ true) ⊎ ClientAims D c image → (D from → ⊥) → told c from (FromBlob (PartIs chunks)) now ≡ client.at_moment c now
  told_same c image from chunks now (inl h) none = ap (λ (rs : List Receiver). record (client.at_moment c now) { receivers = rs }) (ended_same c from chunks c.receivers h)
  told_same c image from chunks now (inr h) none = ap (λ (rs : List Receiver). record (client.at_moment c now) { receivers = rs }) (others_same c from (FromBlob (PartIs chunks)) c.receivers h.addresses none)

-- ---- packets of typed members among strays

pub data Entry : Type 0 where
  Own : Sent → Entry
  Stray : Packet → Entry

abbrev pub packet_in : Entry → Packet
packet_in (Own p) = packet_of p
packet_in (Stray packet) = packet

abbrev pub own_of : Entry → List Sent
own_of (Own p) = p ∷ []
own_of (Stray packet) = []

abbrev pub own_in : List Entry → List Sent
own_in es = flat_map own_of es

abbrev pub EntryIs : (Packet → Type 0) → Entry → Type 0
EntryIs S (Own p) = Unit {0}
EntryIs S (Stray packet) = S packet

-- what was sent, among strays of a kind
pub record Mixed (S : Packet → Type 0) (sent : List Sent) : Type 0 where
  pub entries : List Entry
  pub own : own_in entries ≡ sent
  pub strays : AllByRecursion (EntryIs S) entries

abbrev pub NoStray : Packet → Type 0
NoStray packet = ⊥

pub only_own : (es : List Entry) → AllByRecursion (EntryIs NoStray) es → map packet_in es ≡ map packet_of (own_in es)
only_own [] h = refl
only_own (Own p ∷ es) h = ap (λ (xs : List Packet). packet_of p ∷ xs) (only_own es h.1)
only_own (Stray packet ∷ es) h = absurd h.0

pub own_packets : (sent : List Sent) → map packet_in (map Own sent) ≡ map packet_of sent
own_packets [] = refl
own_packets (p ∷ sent) = ap (λ (xs : List Packet). packet_of p ∷ xs) (own_packets sent)

pub own_all : (sent : List Sent) → own_in (map Own sent) ≡ sent
own_all [] = refl
own_all (p ∷ sent) = ap (λ (ps : List Sent). p ∷ ps) (own_all sent)

pub own_strays : (S : Packet → Type 0) (sent : List Sent) → AllByRecursion (EntryIs S) (map Own sent)
own_strays S [] = tt
own_strays S (p ∷ sent) = (tt, own_strays S sent)

pub stray_packets : (packets : List Packet) → map packet_in (map Stray packets) ≡ packets
stray_packets [] = refl
stray_packets (x ∷ packets) = ap (λ (xs : List Packet). x ∷ xs) (stray_packets packets)

pub stray_none : (packets : List Packet) → own_in (map Stray packets) ≡ []
stray_none [] = refl
stray_none (x ∷ packets) = stray_none packets

pub stray_all : (S : Packet → Type 0) (packets : List Packet) → AllByRecursion S packets → AllByRecursion (EntryIs S) (map Stray packets)
stray_all S [] h = tt
stray_all S (x ∷ packets) h = (h.0, stray_all S packets h.1)
