-- What a packet makes of a distributor's rows.
use Rattle.std.proofs.Common.{◌≡◌, ◌<◌, ℕ, Bool, true, false, List, [], ◌∷◌, map, refl, sym, ap, subst, ◌∙◌, cond, Option, Some, None, Result, Ok, Err}
use Rattle.std.specs.Prelude.{◌==◌, ◌&&◌, nat_lt, MatchOption}
use Rattle.std.proofs.lemmas.Bool.{eqb-true}
use Rattle.std.proofs.lemmas.Bool.Decides.{nat_tests}
use Rattle.std.proofs.Common.{arith}
use Rattle.mu_model_wire.specs.Packet.{Packet}
use Rattle.mu_model_image.specs.declared.Meta.{Meta}
use Rattle.mu_model_node.specs.BlobMessages.{BlobRequest}
use Rattle.mu_model_node.specs.Events.{NodeEvent, PacketComes, TimeComes}
use Rattle.mu_model_client.specs.Answers.{Answer, FromUpdate, FromBlob}
use Rattle.mu_model_client.specs.Rows.{Row, rank, row_after, row_canceled}
use Rattle.mu_model_client.specs.Client.{Purpose, Update, Receiver as Told, Client, rows, row_of as row_in}
use Rattle.mu_model_client.specs.Begin.{take_cancel, canceled as told_canceled, purpose_of}
use Rattle.mu_model_client.specs.Told.{is_present, told, told_if}
use Rattle.mu_model_client_laws.specs.Laws.{Each as EachTold, phase_said as said_of, FollowsPacket, RowsFollowPackets}
use Rattle.mu_model_distributor.specs.Requests.{DistRequest, ReceiversAdd, ReceiversDeleteAll, ReceiversGet, CapabilitiesGet, DistributionGet, DistributionStart, DistributionSuspend, DistributionCancel, DistributionApply, UploadGet, StartUpload, StartUploadOob, UploadCancel, FirmwareGet, FirmwareGetByIndex, FirmwareDelete, FirmwareDeleteAll}
use Rattle.mu_model_distributor.specs.DistMessages.{Taken, OfDistribution, OfBlob, OfReceiver, taken_at}
use Rattle.mu_model_distributor.specs.declared.DistPhase.{DistPhase}
use Rattle.mu_model_distributor.specs.declared.DistPhase.TheVariants.{Idle, TransferActive, TransferSuccess, ApplyingUpdate, Completed, Failed, CancelingUpdate, TransferSuspended}
use Rattle.mu_model_distributor.specs.DistState.{Receiver, DistDurable, DistState, transfer_id, offered, is_at_rest, row_of, receiver_of}
use Rattle.mu_model_distributor.specs.Commit.{recorded_if, committed, ends, answered}
use Rattle.mu_model_distributor.specs.Distribution.{meta_of, plan_of, with_client, in_phase, cancels, distribution_status, distribution_cancel}
use Rattle.mu_model_distributor.specs.DistTable.{hears, on_taken}
use Rattle.mu_model_distributor.specs.DistEvents.{on_packet, dist_step}
use Rattle.mu_model_distributor.specs.Sound.{HasRows, HasClient, IsDistState}
use Rattle.mu_model_distributor_laws.specs.Planned.{has_transfer, StandsIn, DoesPlan, IsPlanned}
use Rattle.mu_model_distributor_laws.specs.RowMoves.{Each, Says, RowChange, stands, told as by_answer, canceled, unconfirmed, RowMoves, ReceiversMove, begins, adds, empties, moves}
use Rattle.mu_model_rows.specs.Distributors.{phase_heard, may_cancel, phase_said, phase_kept}

-- ---- packets that change no row

abbrev IsRequest : DistRequest → Type 0
IsRequest DistributionCancel = ⊥
IsRequest _ = Unit {0}

abbrev ChangesNone : Option Taken → Type 0
ChangesNone (Some (OfReceiver answer)) = ⊥
ChangesNone (Some (OfDistribution request)) = IsRequest request
ChangesNone _ = Unit {0}

said_none : (address : ℕ) (d : DistDurable) (from : ℕ) (taken : Option Taken) → ChangesNone taken → (r : Receiver) → phase_said address d from taken r ≡ r.phase
said_none address d from None h r = refl
said_none address d from (Some (OfReceiver answer)) h r = absurd h
said_none address d from (Some (OfBlob request)) h r = refl
said_none address d from (Some (OfDistribution (ReceiversAdd entries))) h r = refl
said_none address d from (Some (OfDistribution ReceiversDeleteAll)) h r = refl
said_none address d from (Some (OfDistribution (ReceiversGet first limit))) h r = refl
said_none address d from (Some (OfDistribution CapabilitiesGet)) h r = refl
said_none address d from (Some (OfDistribution DistributionGet)) h r = refl
said_none address d from (Some (OfDistribution (DistributionStart ask))) h r = refl
said_none address d from (Some (OfDistribution DistributionSuspend)) h r = refl
said_none address d from (Some (OfDistribution DistributionCancel)) h r = absurd h
said_none address d from (Some (OfDistribution DistributionApply)) h r = refl
said_none address d from (Some (OfDistribution UploadGet)) h r = refl
said_none address d from (Some (OfDistribution (StartUpload u))) h r = refl
said_none address d from (Some (OfDistribution StartUploadOob)) h r = refl
said_none address d from (Some (OfDistribution UploadCancel)) h r = refl
said_none address d from (Some (OfDistribution (FirmwareGet fwid))) h r = refl
said_none address d from (Some (OfDistribution (FirmwareGetByIndex index))) h r = refl
said_none address d from (Some (OfDistribution (FirmwareDelete fwid))) h r = refl
said_none address d from (Some (OfDistribution FirmwareDeleteAll)) h r = refl

said_kept : (address : ℕ) (d : DistDurable) (from : ℕ) (taken : Option Taken) → ChangesNone taken → (rs : List Receiver) → map (phase_said address d from taken) rs ≡ map phase_kept rs
said_kept address d from taken h [] = refl
said_kept address d from taken h (r ∷ rs) = rw (said_none address d from taken h r, said_kept address d from taken h rs) refl

no_answer : (taken : Option Taken) (answer : Answer) → ChangesNone taken → taken ≡ Some (OfReceiver answer) → ⊥
no_answer taken answer h e = subst ChangesNone e h

no_cancel : (taken : Option Taken) → ChangesNone taken → taken ≡ Some (OfDistribution DistributionCancel) → ⊥
no_cancel taken h e = subst ChangesNone e h

row_stands : (address : ℕ) (d : DistDurable) (p : Packet) (old new : Receiver) → ChangesNone (taken_at p.payload) → RowChange address d (PacketComes p) old new → new.phase ≡ old.phase
row_stands address d p old new h (stands e) = e
row_stands address d p old new h (by_answer row answer there is says of) = absurd (no_answer (taken_at p.payload) answer h says.2)
row_stands address d p old new h (canceled from says low of) = absurd (no_cancel (taken_at p.payload) h says.2)
row_stands address d p old new h (unconfirmed e not of) = cc

rows_stand : (address : ℕ) (d : DistDurable) (p : Packet) (rs ss : List Receiver) → ChangesNone (taken_at p.payload) → Each (RowMoves address d (PacketComes p)) rs ss → map phase_kept ss ≡ map phase_kept rs
rows_stand address d p [] [] h k = refl
rows_stand address d p [] (s ∷ ss) h k = absurd k
rows_stand address d p (r ∷ rs) [] h k = absurd k
rows_stand address d p (r ∷ rs) (s ∷ ss) h k = rw (row_stands address d p r s h k.0.phase_change, rows_stand address d p rs ss h k.1) refl

-- while a distribution goes on
busy_stand : (address : ℕ) (d e : DistDurable) (p : Packet) → is_at_rest d.phase ≡ false → ChangesNone (taken_at p.payload) → ReceiversMove address d (PacketComes p) e → map phase_kept e.receivers ≡ map phase_kept d.receivers
busy_stand address d e p busy h (begins from ask says rest counter settings rows) = let never : true ≡ false = sym rest ∙ busy in cc
busy_stand address d e p busy h (adds from entries says idle counter rows) = let never : true ≡ false = sym (ap is_at_rest idle) ∙ busy in cc
busy_stand address d e p busy h (empties from says idle counter rows) = let never : true ≡ false = sym (ap is_at_rest idle) ∙ busy in cc
busy_stand address d e p busy h (moves counter each) = rows_stand address d p d.receivers e.receivers h each

-- ---- the record that an event makes

recorded_rows : (t : DistState) (b : Bool) → (recorded_if t b).durable.receivers ≡ t.durable.receivers
recorded_rows t true = refl
recorded_rows t false = refl

pub committed_rows : (s t : DistState) → (committed s t).durable.receivers ≡ t.durable.receivers
committed_rows s t = recorded_rows t _

pub client_rows : (rest : Bool) (receivers : List Receiver) (progress : List ℕ) (client : Option Client) (c : Client) → HasClient rest receivers progress client → client ≡ Some c → map receiver_of (rows c) ≡ receivers
client_rows true receivers progress client c h e = let never : None ≡ Some c = sym h ∙ e in cc
client_rows false receivers progress None c h e = absurd h
client_rows false receivers progress (Some x) c h e = let same : x ≡ c = cc in subst (λ (y : Client). map receiver_of (rows y) ≡ receivers) same h.receivers

-- a distribution that goes on has a client
has_client : (rest : Bool) (receivers : List Receiver) (progress : List ℕ) (client : Option Client) → rest ≡ false → HasClient rest receivers progress client → client ≡ None → ⊥
has_client true receivers progress client e h k = cc
has_client false receivers progress None e h k = h
has_client false receivers progress (Some c) e h k = cc

-- ---- a Distribution Cancel

canceled_phase : (row : Row) → (row_canceled row).phase ≡ (row_canceled (row_of (receiver_of row) 0)).phase
canceled_phase row = elim (nat_lt (rank row.phase) 5) as (λ b. (cond b (record row { phase = 7 }) row).phase ≡ (cond b (record (row_of (receiver_of row) 0) { phase = 7 }) (row_of (receiver_of row) 0)).phase) [ true ↦ refl | false ↦ refl ]

canceled_rows : (rs : List Told) → map phase_kept (map receiver_of (map row_in (map told_canceled rs))) ≡ map (λ (r : Receiver). (row_canceled (row_of r 0)).phase) (map receiver_of (map row_in rs))
canceled_rows [] = refl
canceled_rows (r ∷ rs) = rw (canceled_phase r.row, canceled_rows rs) refl

-- what each phase of the distribution makes of the rows
abbrev CancelsTo : DistState → List Receiver → Type 0
CancelsTo s receivers = map phase_kept receivers ≡ map (λ (r : Receiver). cond (may_cancel s.durable.phase) (row_canceled (row_of r 0)).phase r.phase) s.durable.receivers

cancels_by : (s : DistState) → IsDistState s → is_at_rest s.durable.phase ≡ false → may_cancel s.durable.phase ≡ true → (client : Option Client) → s.client ≡ client → CancelsTo s (committed s (cancels s client)).durable.receivers
cancels_by s h busy may None e = absurd (has_client (is_at_rest s.durable.phase) s.durable.receivers s.progress s.client busy h.client e)
cancels_by s h busy may (Some c) e =
    ap (λ rs. map phase_kept rs) (committed_rows s (cancels s (Some c)))
    ∙ (canceled_rows c.receivers
    ∙ (ap (λ rs. map (λ (r : Receiver). (row_canceled (row_of r 0)).phase) rs) (client_rows (is_at_rest s.durable.phase) s.durable.receivers s.progress s.client c h.client e)
    ∙ ap (λ b. map (λ (r : Receiver). cond b (row_canceled (row_of r 0)).phase r.phase) s.durable.receivers) (sym may)))

stays_by : (s : DistState) (receivers : List Receiver) → receivers ≡ s.durable.receivers → may_cancel s.durable.phase ≡ false → CancelsTo s receivers
stays_by s receivers e may = ap (λ rs. map phase_kept rs) e ∙ ap (λ b. map (λ (r : Receiver). cond b (row_canceled (row_of r 0)).phase r.phase) s.durable.receivers) (sym may)

cancel_exact : (s : DistState) (to : ℕ) → IsDistState s → is_at_rest s.durable.phase ≡ false → (p : DistPhase) → s.durable.phase ≡ p → CancelsTo s (answered s to distribution_status (distribution_cancel s p)).next.durable.receivers
cancel_exact s to h busy TransferActive e = cancels_by s h busy (ap may_cancel e) s.client refl
cancel_exact s to h busy TransferSuccess e = cancels_by s h busy (ap may_cancel e) s.client refl
cancel_exact s to h busy TransferSuspended e = cancels_by s h busy (ap may_cancel e) s.client refl
cancel_exact s to h busy ApplyingUpdate e = stays_by s s.durable.receivers refl (ap may_cancel e)
cancel_exact s to h busy CancelingUpdate e = stays_by s (committed s s).durable.receivers (committed_rows s s) (ap may_cancel e)
cancel_exact s to h busy Idle e = let never : true ≡ false = sym (ap is_at_rest e) ∙ busy in cc
cancel_exact s to h busy Completed e = let never : true ≡ false = sym (ap is_at_rest e) ∙ busy in cc
cancel_exact s to h busy Failed e = let never : true ≡ false = sym (ap is_at_rest e) ∙ busy in cc

-- ---- what a receiver says

after_same : (id : ℕ) (meta : Meta) (row : Row) (answer : Answer) → (row_after id meta row answer).phase ≡ (row_after id meta (row_of (receiver_of row) 0) answer).phase
after_same id meta row (FromUpdate reply) = refl
after_same id meta row (FromBlob answer) = refl

said_is : (address : ℕ) (d : DistDurable) (c : Client) (row : Row) (answer : Answer) → DoesPlan address d c → said_of c.sending.id c.purpose row answer ≡ (row_after (transfer_id address d) (meta_of (offered d)) row answer).phase
said_is address d c row answer plan =
    ap (λ (purpose : Purpose). said_of c.sending.id purpose row answer) plan.purpose
    ∙ ap (λ id. (row_after id (meta_of (offered d)) row answer).phase) (ap (λ p. p.id) plan.sending)

heard_row : (address : ℕ) (d : DistDurable) (c : Client) (from : ℕ) (answer : Answer) (a b : Told) → DoesPlan address d c → is_present c.place ≡ has_transfer d.phase → FollowsPacket c from answer a b → b.row.phase ≡ phase_heard address d from answer (receiver_of a.row)
heard_row address d c from answer a b plan place h = by_presence (has_transfer d.phase) refl
  where
    said : ℕ
    said = (row_after (transfer_id address d) (meta_of (offered d)) (row_of (receiver_of a.row) 0) answer).phase

    by_source : is_present c.place ≡ true → (s : Bool) → (a.row.address == from) ≡ s → b.row.phase ≡ cond s said a.row.phase
    by_source there true e = h.theirs there (eqb-true a.row.address from e) ∙ (said_is address d c a.row answer plan ∙ after_same (transfer_id address d) (meta_of (offered d)) a.row answer)
    by_source there false e = h.others (λ k. let never : ⊥ = grind (arith, nat_tests) in never)

    by_presence : (t : Bool) → has_transfer d.phase ≡ t → b.row.phase ≡ cond (has_transfer d.phase && (a.row.address == from)) said a.row.phase
    by_presence true e = subst (λ t. b.row.phase ≡ cond (t && (a.row.address == from)) said a.row.phase) (sym e) (by_source (place ∙ e) (a.row.address == from) refl)
    by_presence false e = subst (λ t. b.row.phase ≡ cond (t && (a.row.address == from)) said a.row.phase) (sym e) (h.canceled (place ∙ e))

heard_rows : (address : ℕ) (d : DistDurable) (c : Client) (from : ℕ) (answer : Answer) (rs ss : List Told) → DoesPlan address d c → is_present c.place ≡ has_transfer d.phase → EachTold (FollowsPacket c from answer) rs ss
    → map phase_kept (map receiver_of (map row_in ss)) ≡ map (phase_heard address d from answer) (map receiver_of (map row_in rs))
heard_rows address d c from answer [] [] plan place h = refl
heard_rows address d c from answer [] (s ∷ ss) plan place h = absurd h
heard_rows address d c from answer (r ∷ rs) [] plan place h = absurd h
heard_rows address d c from answer (r ∷ rs) (s ∷ ss) plan place h = rw (heard_row address d c from answer r s plan place h.0, heard_rows address d c from answer rs ss plan place h.1) refl

own : (P : Client → Type 0) (client : Option Client) (c : Client) → client ≡ Some c → MatchOption client (Unit {0}) P → P c
own P None c e h = cc
own P (Some x) c e h = let same : x ≡ c = cc in subst P same h

hears_exact : RowsFollowPackets → (address : ℕ) (s : DistState) (from : ℕ) (answer : Answer) → IsDistState s → IsPlanned address s → is_at_rest s.durable.phase ≡ false → (client : Option Client) → s.client ≡ client
    → map phase_kept (hears s from answer client).next.durable.receivers ≡ map (phase_heard address s.durable from answer) s.durable.receivers
hears_exact law address s from answer h plan busy None e = absurd (has_client (is_at_rest s.durable.phase) s.durable.receivers s.progress s.client busy h.client e)
hears_exact law address s from answer h plan busy (Some c) e =
    ap (λ rs. map phase_kept rs) (committed_rows s (with_client s (told c from answer s.moment)))
    ∙ (heard_rows address s.durable c from answer c.receivers (told c from answer s.moment).receivers (own (DoesPlan address s.durable) s.client c e plan.plan) (own (StandsIn s.durable.phase) s.client c e plan.place) (law c from answer s.moment)
    ∙ ap (λ rs. map (phase_heard address s.durable from answer) rs) (client_rows (is_at_rest s.durable.phase) s.durable.receivers s.progress s.client c h.client e))

-- ---- any packet at the distributor

abbrev Exact : ℕ → DistState → Packet → Option Taken → Type 0
Exact address s p taken = map phase_kept (on_packet address s p.from taken).next.durable.receivers ≡ map (phase_said address s.durable p.from taken) s.durable.receivers

module _ (law : RowsFollowPackets) (address : ℕ) (s : DistState) (p : Packet) (h : IsDistState s) (plan : IsPlanned address s) (busy : is_at_rest s.durable.phase ≡ false) where
  unchanged : (taken : Option Taken) → taken_at p.payload ≡ taken → ChangesNone taken → ReceiversMove address s.durable (PacketComes p) (on_packet address s p.from taken).next.durable → Exact address s p taken
  unchanged taken e none move =
      busy_stand address s.durable (on_packet address s p.from taken).next.durable p busy (subst ChangesNone (sym e) none) move ∙ sym (said_kept address s.durable p.from taken none s.durable.receivers)

  pub packet_exact : (taken : Option Taken) → taken_at p.payload ≡ taken → ReceiversMove address s.durable (PacketComes p) (on_packet address s p.from taken).next.durable → Exact address s p taken
  packet_exact None e move = unchanged None e tt move
  packet_exact (Some (OfBlob request)) e move = unchanged (Some (OfBlob request)) e tt move
  packet_exact (Some (OfReceiver answer)) e move = hears_exact law address s p.from answer h plan busy s.client refl
  packet_exact (Some (OfDistribution DistributionCancel)) e move = cancel_exact s p.from h busy s.durable.phase refl
  packet_exact (Some (OfDistribution (ReceiversAdd entries))) e move = unchanged _ e tt move
  packet_exact (Some (OfDistribution ReceiversDeleteAll)) e move = unchanged _ e tt move
  packet_exact (Some (OfDistribution (ReceiversGet first limit))) e move = unchanged _ e tt move
  packet_exact (Some (OfDistribution CapabilitiesGet)) e move = unchanged _ e tt move
  packet_exact (Some (OfDistribution DistributionGet)) e move = unchanged _ e tt move
  packet_exact (Some (OfDistribution (DistributionStart ask))) e move = unchanged _ e tt move
  packet_exact (Some (OfDistribution DistributionSuspend)) e move = unchanged _ e tt move
  packet_exact (Some (OfDistribution DistributionApply)) e move = unchanged _ e tt move
  packet_exact (Some (OfDistribution UploadGet)) e move = unchanged _ e tt move
  packet_exact (Some (OfDistribution (StartUpload u))) e move = unchanged _ e tt move
  packet_exact (Some (OfDistribution StartUploadOob)) e move = unchanged _ e tt move
  packet_exact (Some (OfDistribution UploadCancel)) e move = unchanged _ e tt move
  packet_exact (Some (OfDistribution (FirmwareGet fwid))) e move = unchanged _ e tt move
  packet_exact (Some (OfDistribution (FirmwareGetByIndex index))) e move = unchanged _ e tt move
  packet_exact (Some (OfDistribution (FirmwareDelete fwid))) e move = unchanged _ e tt move
  packet_exact (Some (OfDistribution FirmwareDeleteAll)) e move = unchanged _ e tt move
