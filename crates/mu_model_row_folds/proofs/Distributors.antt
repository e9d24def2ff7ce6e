-- The rows of a distributor are folds.
use Rattle.std.proofs.Common.{◌≡◌, ◌+◌, ◌*◌, ℕ, zero, suc, Bool, true, false, List, [], ◌∷◌, ◌++◌, length, map, replicate, refl, sym, ap, subst, ◌∙◌, cond, arith, Option, Some, None}
use Rattle.std.specs.Prelude.{◌==◌, ◌&&◌, ◌^◌, max, ◌⊎◌, slice_get, slice_index_or}
use Rattle.std.proofs.Common.{inl, inr}
use Rattle.std.specs.List.{AllByRecursion}
use Rattle.std.proofs.lemmas.Bool.{eqb-true, eq-eqb}
use Rattle.mu_model_image.specs.declared.Meta.{Meta}
use Rattle.mu_model_wire.specs.Packet.{Packet}
use Rattle.mu_model_node.specs.declared.FlashWork.{FlashWork}
use Rattle.mu_model_node.specs.declared.FlashWork.TheVariants.{Untouched, Recorded, Begun, PutBlock}
use Rattle.mu_model_node.specs.FlashWork.{work_by}
use Rattle.mu_model_node.specs.Events.{NodeEvent, PacketComes, TimeComes}
use Rattle.mu_model_node.specs.Safe.{Happening, Done, CutPower, Torn}
use Rattle.mu_model_client.specs.Answers.{Answer}
use Rattle.mu_model_client.specs.Client.{Receiver as ClientReceiver, row_of as row_in, Client, rows}
use Rattle.mu_model_client.specs.Rows.{row_after, row_canceled}
use Rattle.mu_model_distributor.specs.declared.Settings.{Settings}
use Rattle.mu_model_distributor.specs.Requests.{ReceiversAdd, ReceiversDeleteAll, ReceiversGet, CapabilitiesGet, DistributionGet, DistributionStart, DistributionSuspend, DistributionCancel, DistributionApply, UploadGet, StartUpload, StartUploadOob, UploadCancel, FirmwareGet, FirmwareGetByIndex, FirmwareDelete, FirmwareDeleteAll}
use Rattle.mu_model_distributor.specs.DistMessages.{Taken, OfDistribution, OfBlob, OfReceiver, taken_at}
use Rattle.mu_model_distributor.specs.declared.DistPhase.{DistPhase}
use Rattle.mu_model_distributor.specs.declared.DistPhase.TheVariants.{Idle, TransferActive, TransferSuccess, ApplyingUpdate, Completed, Failed, CancelingUpdate, TransferSuspended}
use Rattle.mu_model_distributor.specs.DistState.{StoredImage, Receiver, DistDurable, DistState, transfer_id, offered, is_at_rest, row_of, receiver_of}
use Rattle.mu_model_distributor.specs.Distribution.{meta_of, renewed}
use Rattle.mu_model_distributor.specs.DistTime.{has_turns}
use Rattle.mu_model_distributor.specs.DistEvents.{dist_step, dist_work, restarted}
use Rattle.mu_model_distributor.specs.Runs.{happened, left_after, state_after}
use Rattle.mu_model_distributor.specs.Sound.{HasClient, IsDistDurable, IsDistState}
use Rattle.mu_model_distributor_laws.specs.Laws.{EventFits, EventsKeepStatesSound, BootsAreSound, WorkLeavesOldOrNew, WorkLeadsToTheNew}
use Rattle.mu_model_distributor_laws.specs.Planned.{has_transfer, EventsKeepPlanned, BootsArePlanned}
use Rattle.mu_model_distributor_laws.specs.Rests.{RestMoves, begins as rest_begins, adds as rest_adds, empties as rest_empties, stands as rest_stands, RestsMove}
use Rattle.mu_model_distributor_laws.specs.RowMoves.{Each, RowMoves, ReceiversMove, begins, adds, empties, moves, RowsMoveByCause}
use Rattle.mu_model_distributor_laws.specs.RowsTold.{OffersStand}
use Rattle.mu_model_distributor_laws.specs.RunLaws.{HappeningFits, IsInOrder}
use Rattle.mu_model_rows.specs.Clients.{fails_now, phase_in_time}
use Rattle.mu_model_rows.specs.Distributors.{may_cancel, phase_said, phase_kept, phases_waited, RowsAreExact}
use Rattle.mu_model_row_folds.specs.Folds.{Counted, Told, Canceled, folded, Folds}
use Rattle.mu_model_row_folds.specs.Updaters.{none_counted, counted_in_time}
use Rattle.mu_model_row_folds.specs.Distributors.{shown, rows_kept, counted_said, counted_waited, counted_by, counted_happening, counted_in, IsOne, DistributorRowsAreFolds, IsNew, RowsBeginUnknown}
use Rattle.mu_model_row_folds.proofs.Folds.{told_same, canceled_same, folds_then, folds_none}
use Rattle.mu_model_row_folds.proofs.Updaters.{waited_by}

-- ---- rows at each place

-- of the same receivers and images
abbrev Same : Receiver → Receiver → Type 0
Same r e = (e.address ≡ r.address) × (e.index ≡ r.index)

same_rows : (rs : List Receiver) → Each Same rs rs
same_rows [] = tt
same_rows (r ∷ rs) = ((refl, refl), same_rows rs)

moved_rows : (address : ℕ) (d : DistDurable) (event : NodeEvent) (rs es : List Receiver) → Each (RowMoves address d event) rs es → Each Same rs es
moved_rows address d event [] [] h = tt
moved_rows address d event [] (e ∷ es) h = absurd h
moved_rows address d event (r ∷ rs) [] h = absurd h
moved_rows address d event (r ∷ rs) (e ∷ es) h = ((h.0.address_same, h.0.index_same), moved_rows address d event rs es h.1)

first_same : (x y : ℕ) (xs ys : List ℕ) → x ∷ xs ≡ y ∷ ys → (x ≡ y) × (xs ≡ ys)
first_same x y xs ys e = (cc, cc)

-- the phases after, by what counted
folds_map : {X : Type 0} (row : X → Receiver) (f : X → ℕ) (g : X → List Counted) (id : ℕ) (offer : Meta) → ((x : X) → f x ≡ folded id offer (row x).index (row x).phase (g x)) → (xs : List X) (es : List Receiver)
    → Each Same (map row xs) es → map phase_kept es ≡ map f xs → Folds id offer (map shown (map row xs)) (map g xs) (map shown es)
folds_map row f g id offer k [] [] h e = tt
folds_map row f g id offer k [] (y ∷ es) h e = absurd h
folds_map row f g id offer k (x ∷ xs) [] h e = absurd h
folds_map row f g id offer k (x ∷ xs) (y ∷ es) h e =
    let both = first_same y.phase (f x) _ _ e in
    (record { address_same = h.0.0; index_same = h.0.1; phase_is = both.0 ∙ k x }, folds_map row f g id offer k xs es h.1 both.1)

map_own : (rs : List Receiver) → map (λ (r : Receiver). r) rs ≡ rs
map_own [] = refl
map_own (r ∷ rs) = ap (λ (xs : List Receiver). r ∷ xs) (map_own rs)

folds_rows : (f : Receiver → ℕ) (g : Receiver → List Counted) (id : ℕ) (offer : Meta) → ((r : Receiver) → f r ≡ folded id offer r.index r.phase (g r)) → (rs es : List Receiver) → Each Same rs es → map phase_kept es ≡ map f rs
    → Folds id offer (map shown rs) (map g rs) (map shown es)
folds_rows f g id offer k rs es h e =
    subst (λ (xs : List Receiver). Folds id offer (map shown xs) (map g rs) (map shown es)) (map_own rs)
    (folds_map (λ (r : Receiver). r) f g id offer k rs es (subst (λ (xs : List Receiver). Each Same xs es) (sym (map_own rs)) h) e)

-- ---- a packet

heard_so : (address : ℕ) (d : DistDurable) (answer : Answer) (r : Receiver) (b : Bool)
    → cond b (row_after (transfer_id address d) (meta_of (offered d)) (row_of r 0) answer).phase r.phase ≡ folded (transfer_id address d) (meta_of (offered d)) r.index r.phase (cond b (Told answer ∷ []) [])
heard_so address d answer r true = sym (told_same (transfer_id address d) (meta_of (offered d)) (row_of r 0) answer)
heard_so address d answer r false = refl

canceled_so : (address : ℕ) (d : DistDurable) (r : Receiver) (b : Bool) → cond b (row_canceled (row_of r 0)).phase r.phase ≡ folded (transfer_id address d) (meta_of (offered d)) r.index r.phase (cond b (Canceled ∷ []) [])
canceled_so address d r true = sym (canceled_same (transfer_id address d) (meta_of (offered d)) (row_of r 0))
canceled_so address d r false = refl

said_so : (address : ℕ) (d : DistDurable) (from : ℕ) (taken : Option Taken) (r : Receiver) → phase_said address d from taken r ≡ folded (transfer_id address d) (meta_of (offered d)) r.index r.phase (counted_said d from taken r)
said_so address d from None r = refl
said_so address d from (Some (OfReceiver answer)) r = heard_so address d answer r (has_transfer d.phase && (r.address == from))
said_so address d from (Some (OfBlob request)) r = refl
said_so address d from (Some (OfDistribution (ReceiversAdd entries))) r = refl
said_so address d from (Some (OfDistribution ReceiversDeleteAll)) r = refl
said_so address d from (Some (OfDistribution (ReceiversGet first limit))) r = refl
said_so address d from (Some (OfDistribution CapabilitiesGet)) r = refl
said_so address d from (Some (OfDistribution DistributionGet)) r = refl
said_so address d from (Some (OfDistribution (DistributionStart ask))) r = refl
said_so address d from (Some (OfDistribution DistributionSuspend)) r = refl
said_so address d from (Some (OfDistribution DistributionCancel)) r = canceled_so address d r (may_cancel d.phase)
said_so address d from (Some (OfDistribution DistributionApply)) r = refl
said_so address d from (Some (OfDistribution UploadGet)) r = refl
said_so address d from (Some (OfDistribution (StartUpload u))) r = refl
said_so address d from (Some (OfDistribution StartUploadOob)) r = refl
said_so address d from (Some (OfDistribution UploadCancel)) r = refl
said_so address d from (Some (OfDistribution (FirmwareGet fwid))) r = refl
said_so address d from (Some (OfDistribution (FirmwareGetByIndex index))) r = refl
said_so address d from (Some (OfDistribution (FirmwareDelete fwid))) r = refl
said_so address d from (Some (OfDistribution FirmwareDeleteAll)) r = refl

abbrev OfStep : (address : ℕ) → DistState → List (List Counted) → List Receiver → Type 0
OfStep address s counted es = Folds (transfer_id address s.durable) (meta_of (offered s.durable)) (rows_kept s) counted (map shown es)

kept_folds : (address : ℕ) (s : DistState) (es : List Receiver) → Each Same s.durable.receivers es → map phase_kept es ≡ map phase_kept s.durable.receivers → OfStep address s (map none_counted s.durable.receivers) es
kept_folds address s es h e = folds_rows phase_kept none_counted (transfer_id address s.durable) (meta_of (offered s.durable)) (λ r. refl) s.durable.receivers es h e

packet_folds : (address : ℕ) (s : DistState) (packet : Packet) (es : List Receiver) → Each Same s.durable.receivers es → (b : Bool)
    → map phase_kept es ≡ cond b (map (phase_said address s.durable packet.from (taken_at packet.payload)) s.durable.receivers) (map phase_kept s.durable.receivers)
    → OfStep address s (cond b (map (counted_said s.durable packet.from (taken_at packet.payload)) s.durable.receivers) (map none_counted s.durable.receivers)) es
packet_folds address s packet es h true e =
    folds_rows (phase_said address s.durable packet.from (taken_at packet.payload)) (counted_said s.durable packet.from (taken_at packet.payload)) (transfer_id address s.durable) (meta_of (offered s.durable))
    (said_so address s.durable packet.from (taken_at packet.payload)) s.durable.receivers es h e
packet_folds address s packet es h false e = kept_folds address s es h e

-- ---- time

abbrev of_client : ClientReceiver → Receiver
of_client r = receiver_of (row_in r)

client_rows : (rs : List ClientReceiver) → map receiver_of (map row_in rs) ≡ map of_client rs
client_rows [] = refl
client_rows (r ∷ rs) = ap (λ (xs : List Receiver). of_client r ∷ xs) (client_rows rs)

time_folds_by : (address : ℕ) (s : DistState) (now : ℕ) (c : Client) (es : List Receiver) → map receiver_of (rows c) ≡ s.durable.receivers → Each Same s.durable.receivers es → (b : Bool)
    → map phase_kept es ≡ cond b (map (phase_in_time c now) c.receivers) (map phase_kept s.durable.receivers)
    → OfStep address s (cond b (map (counted_in_time c now) c.receivers) (map none_counted s.durable.receivers)) es
time_folds_by address s now c es is h true e =
    let own_rows : map of_client c.receivers ≡ s.durable.receivers = sym (client_rows c.receivers) ∙ is in
    subst (λ (xs : List Receiver). Folds (transfer_id address s.durable) (meta_of (offered s.durable)) (map shown xs) (map (counted_in_time c now) c.receivers) (map shown es)) own_rows
    (folds_map of_client (phase_in_time c now) (counted_in_time c now) (transfer_id address s.durable) (meta_of (offered s.durable))
    (λ r. waited_by (transfer_id address s.durable) (meta_of (offered s.durable)) r.row (fails_now c now r)) c.receivers es (subst (λ (xs : List Receiver). Each Same xs es) (sym own_rows) h) e)
time_folds_by address s now c es is h false e = kept_folds address s es h e

time_folds : (address : ℕ) (s : DistState) (now : ℕ) (es : List Receiver) → (client : Option Client) → HasClient false s.durable.receivers s.progress client → Each Same s.durable.receivers es → map phase_kept es ≡ phases_waited s now client
    → OfStep address s (counted_waited s now client) es
time_folds address s now es None has h e = absurd has
time_folds address s now es (Some c) has h e = time_folds_by address s now c es has.receivers h (has_turns s.durable.phase) e

-- ---- at rest

-- nothing counts
rest_transfer : (phase : DistPhase) → is_at_rest phase ≡ true → has_transfer phase ≡ false
rest_transfer Idle e = refl
rest_transfer Completed e = refl
rest_transfer Failed e = refl
rest_transfer TransferActive e = absurd cc
rest_transfer TransferSuccess e = absurd cc
rest_transfer ApplyingUpdate e = absurd cc
rest_transfer CancelingUpdate e = absurd cc
rest_transfer TransferSuspended e = absurd cc

rest_cancel : (phase : DistPhase) → is_at_rest phase ≡ true → may_cancel phase ≡ false
rest_cancel Idle e = refl
rest_cancel Completed e = refl
rest_cancel Failed e = refl
rest_cancel TransferActive e = absurd cc
rest_cancel TransferSuccess e = absurd cc
rest_cancel ApplyingUpdate e = absurd cc
rest_cancel CancelingUpdate e = absurd cc
rest_cancel TransferSuspended e = absurd cc

rest_said : (d : DistDurable) (from : ℕ) (taken : Option Taken) (r : Receiver) → is_at_rest d.phase ≡ true → counted_said d from taken r ≡ []
rest_said d from None r rest = refl
rest_said d from (Some (OfReceiver answer)) r rest = ap (λ b. cond (b && (r.address == from)) (Told answer ∷ []) []) (rest_transfer d.phase rest)
rest_said d from (Some (OfBlob request)) r rest = refl
rest_said d from (Some (OfDistribution (ReceiversAdd entries))) r rest = refl
rest_said d from (Some (OfDistribution ReceiversDeleteAll)) r rest = refl
rest_said d from (Some (OfDistribution (ReceiversGet first limit))) r rest = refl
rest_said d from (Some (OfDistribution CapabilitiesGet)) r rest = refl
rest_said d from (Some (OfDistribution DistributionGet)) r rest = refl
rest_said d from (Some (OfDistribution (DistributionStart ask))) r rest = refl
rest_said d from (Some (OfDistribution DistributionSuspend)) r rest = refl
rest_said d from (Some (OfDistribution DistributionCancel)) r rest = ap (λ b. cond b (Canceled ∷ []) []) (rest_cancel d.phase rest)
rest_said d from (Some (OfDistribution DistributionApply)) r rest = refl
rest_said d from (Some (OfDistribution UploadGet)) r rest = refl
rest_said d from (Some (OfDistribution (StartUpload u))) r rest = refl
rest_said d from (Some (OfDistribution StartUploadOob)) r rest = refl
rest_said d from (Some (OfDistribution UploadCancel)) r rest = refl
rest_said d from (Some (OfDistribution (FirmwareGet fwid))) r rest = refl
rest_said d from (Some (OfDistribution (FirmwareGetByIndex index))) r rest = refl
rest_said d from (Some (OfDistribution (FirmwareDelete fwid))) r rest = refl
rest_said d from (Some (OfDistribution FirmwareDeleteAll)) r rest = refl

all_none : (f : Receiver → List Counted) → ((r : Receiver) → f r ≡ []) → (rs : List Receiver) → map f rs ≡ map none_counted rs
all_none f h [] = refl
all_none f h (r ∷ rs) = ap (λ c. c ∷ map f rs) (h r) ∙ ap (λ (cs : List (List Counted)). [] ∷ cs) (all_none f h rs)

rest_none : (address : ℕ) (s : DistState) (event : NodeEvent) (now : ℕ) → is_at_rest s.durable.phase ≡ true → s.client ≡ None → counted_by address s event now ≡ map none_counted s.durable.receivers
rest_none address s (PacketComes packet) now rest none =
    elim (packet.to == address) as (λ b. cond b (map (counted_said s.durable packet.from (taken_at packet.payload)) s.durable.receivers) (map none_counted s.durable.receivers) ≡ map none_counted s.durable.receivers) [
      | true ↦ all_none (counted_said s.durable packet.from (taken_at packet.payload)) (λ r. rest_said s.durable packet.from (taken_at packet.payload) r rest) s.durable.receivers
      | false ↦ refl
    ]
rest_none address s TimeComes now rest none = ap (λ (c : Option Client). counted_waited s (max s.moment now) c) none

pub no_client : (s : DistState) → is_at_rest s.durable.phase ≡ true → IsDistState s → s.client ≡ None
no_client s rest h = subst (λ b. HasClient b s.durable.receivers s.progress s.client) rest h.client

-- ---- events

pub record DistLaws : Type 0 where
  pub keeps : EventsKeepStatesSound
  pub boots : BootsAreSound
  pub moves : RowsMoveByCause
  pub exact : RowsAreExact
  pub rests : RestsMove
  pub stand : OffersStand
  pub leaves : WorkLeavesOldOrNew
  pub leads : WorkLeadsToTheNew
  pub plans : EventsKeepPlanned
  pub boots_planned : BootsArePlanned

never_idle : (d : DistDurable) → is_at_rest d.phase ≡ false → d.phase ≡ Idle → ⊥
never_idle d busy idle = let rest : is_at_rest d.phase ≡ true = ap is_at_rest idle in cc

above : (n : ℕ) (m : ℕ) → m ≡ n + 1 → m ≡ n → ⊥
above n m e f = omega (arith, e, f)

module _ (laws : DistLaws) where
  busy_same : (address : ℕ) (d e : DistDurable) (event : NodeEvent) → is_at_rest d.phase ≡ false → ReceiversMove address d event e → Each Same d.receivers e.receivers
  busy_same address d e event busy (begins from ask says rest counter settings receivers) = absurd cc
  busy_same address d e event busy (adds from entries says idle counter receivers) = absurd (never_idle d busy idle)
  busy_same address d e event busy (empties from says idle counter receivers) = absurd (never_idle d busy idle)
  busy_same address d e event busy (moves counter rows) = moved_rows address d event d.receivers e.receivers rows

  busy_folds : (address : ℕ) (s : DistState) (event : NodeEvent) (now : ℕ) → EventFits event → IsInOrder address s → is_at_rest s.durable.phase ≡ false
      → OfStep address s (counted_by address s event now) (dist_step address s event now).next.durable.receivers
  busy_folds address s (PacketComes packet) now fits h busy =
      packet_folds address s packet (dist_step address s (PacketComes packet) now).next.durable.receivers
      (busy_same address s.durable (dist_step address s (PacketComes packet) now).next.durable (PacketComes packet) busy (laws.moves address s (PacketComes packet) now fits h.sound h.planned)) (packet.to == address)
      (laws.exact address s (PacketComes packet) now fits h.sound h.planned busy)
  busy_folds address s TimeComes now fits h busy =
      time_folds address s (max s.moment now) (dist_step address s TimeComes now).next.durable.receivers s.client (subst (λ b. HasClient b s.durable.receivers s.progress s.client) busy h.sound.client)
      (busy_same address s.durable (dist_step address s TimeComes now).next.durable TimeComes busy (laws.moves address s TimeComes now fits h.sound h.planned))
      (laws.exact address s TimeComes now fits h.sound h.planned busy)

  pub rest_same : (d e : DistDurable) → (d.phase ≡ Idle → ⊥) → e.counter ≡ d.counter → RestMoves d e → e.receivers ≡ d.receivers
  rest_same d e not_idle same (rest_begins counter) = absurd (above d.counter e.counter counter same)
  rest_same d e not_idle same (rest_adds entries idle still counter receivers) = absurd (not_idle idle)
  rest_same d e not_idle same (rest_empties idle still counter receivers) = absurd (not_idle idle)
  rest_same d e not_idle same (rest_stands phase counter receivers) = receivers

  rest_folds : (address : ℕ) (s : DistState) (event : NodeEvent) (now : ℕ) → IsDistState s → is_at_rest s.durable.phase ≡ true → (s.durable.phase ≡ Idle → ⊥)
      → (dist_step address s event now).next.durable.counter ≡ s.durable.counter → OfStep address s (counted_by address s event now) (dist_step address s event now).next.durable.receivers
  rest_folds address s event now h rest not_idle same =
      let receivers = rest_same s.durable (dist_step address s event now).next.durable not_idle same (laws.rests address s event now h rest) in
      let none = rest_none address s event now rest (no_client s rest h) in
      subst (λ (cs : List (List Counted)). OfStep address s cs (dist_step address s event now).next.durable.receivers) (sym none)
      (subst (λ (es : List Receiver). OfStep address s (map none_counted s.durable.receivers) es) (sym receivers)
      (folds_none shown (transfer_id address s.durable) (meta_of (offered s.durable)) s.durable.receivers))

  event_folds : (address : ℕ) (s : DistState) (event : NodeEvent) (now : ℕ) → EventFits event → IsInOrder address s → (s.durable.phase ≡ Idle → ⊥)
      → (dist_step address s event now).next.durable.counter ≡ s.durable.counter → OfStep address s (counted_by address s event now) (dist_step address s event now).next.durable.receivers
  event_folds address s event now fits h not_idle same = by_rest (is_at_rest s.durable.phase) refl
    where
      by_rest : (b : Bool) → is_at_rest s.durable.phase ≡ b → OfStep address s (counted_by address s event now) (dist_step address s event now).next.durable.receivers
      by_rest true rest = rest_folds address s event now h.sound rest not_idle same
      by_rest false busy = busy_folds address s event now fits h busy

-- ---- what a cut leaves

-- the new state stands after the last operation alone
last_of : (old new : DistDurable) (k operations : ℕ) → (operations ≡ suc k → ⊥) → slice_index_or (old ∷ (replicate k old ++ new ∷ [])) operations old ≡ old
last_of old new zero zero h = refl
last_of old new zero (suc zero) h = absurd (h refl)
last_of old new zero (suc (suc operations)) h = refl
last_of old new (suc k) zero h = refl
last_of old new (suc k) (suc operations) h = last_of old new k operations (λ e. h (ap suc e))

put_length : (old new : DistDurable) (k : ℕ) → length (replicate k old ++ new ∷ []) ≡ suc k
put_length old new zero = refl
put_length old new (suc k) = ap suc (put_length old new k)

none_of : (old : DistDurable) (operations : ℕ) → slice_index_or (old ∷ []) operations old ≡ old
none_of old zero = refl
none_of old (suc operations) = refl

pub not_last : (fresh : ℕ) (old new : DistDurable) (work : FlashWork) (operations : ℕ) → (operations ≡ length (work_by fresh old new work) → ⊥) → slice_index_or (old ∷ work_by fresh old new work) operations old ≡ old
not_last fresh old new Untouched operations h = none_of old operations
not_last fresh old new (Recorded true) operations h = last_of old new 1 operations h
not_last fresh old new (Recorded false) operations h =
    elim (fresh == 0) as (λ b. (operations ≡ length (cond b (old ∷ new ∷ []) (new ∷ [])) → ⊥) → slice_index_or (old ∷ cond b (old ∷ new ∷ []) (new ∷ [])) operations old ≡ old) [
      | true ↦ λ k. last_of old new 1 operations k
      | false ↦ λ k. last_of old new 0 operations k
    ] h
not_last fresh old new (Begun true) operations h = last_of old new 2 operations h
not_last fresh old new (Begun false) operations h =
    elim (fresh == 0) as (λ b. (operations ≡ length (old ∷ cond b (old ∷ new ∷ []) (new ∷ [])) → ⊥) → slice_index_or (old ∷ (old ∷ cond b (old ∷ new ∷ []) (new ∷ []))) operations old ≡ old) [
      | true ↦ λ k. last_of old new 2 operations k
      | false ↦ λ k. last_of old new 1 operations k
    ] h
not_last fresh old new (PutBlock pages) operations h = last_of old new (2 * pages) operations (λ e. h (e ∙ sym (put_length old new (2 * pages))))

-- ---- happenings

module _ (laws : DistLaws) where
  torn_folds : (address : ℕ) (s : DistState) (event : NodeEvent) (now operations : ℕ) → EventFits event → IsInOrder address s → (s.durable.phase ≡ Idle → ⊥)
      → (left_after address s event now operations).counter ≡ s.durable.counter → (b : Bool) → (operations == length (dist_work address s event now)) ≡ b
      → OfStep address s (cond b (counted_by address s event now) (map none_counted s.durable.receivers)) (left_after address s event now operations).receivers
  torn_folds address s event now operations fits h not_idle same true e =
      let all : operations ≡ length (dist_work address s event now) = eqb-true operations (length (dist_work address s event now)) e in
      let new : left_after address s event now operations ≡ (dist_step address s event now).next.durable = ap (λ k. left_after address s event now k) all ∙ laws.leads address s event now fits h.sound in
      subst (λ (d : DistDurable). OfStep address s (counted_by address s event now) d.receivers) (sym new)
      (event_folds laws address s event now fits h not_idle (ap (λ (d : DistDurable). d.counter) (sym new) ∙ same))
  torn_folds address s event now operations fits h not_idle same false e =
      let old : left_after address s event now operations ≡ s.durable =
      not_last s.fresh s.durable (dist_step address s event now).next.durable (dist_step address s event now).work operations
      (λ all. (let yes : (operations == length (dist_work address s event now)) ≡ true = eq-eqb operations (length (dist_work address s event now)) all in cc)) in
      subst (λ (d : DistDurable). OfStep address s (map none_counted s.durable.receivers) d.receivers) (sym old)
      (folds_none shown (transfer_id address s.durable) (meta_of (offered s.durable)) s.durable.receivers)

  happening_folds : (address : ℕ) (s : DistState) (h : Happening) → HappeningFits h → IsInOrder address s → (s.durable.phase ≡ Idle → ⊥) → (happened address s h).durable.counter ≡ s.durable.counter
      → OfStep address s (counted_happening address s h) (happened address s h).durable.receivers
  happening_folds address s (Done event now) fits order not_idle same = event_folds laws address s event now fits order not_idle same
  happening_folds address s CutPower fits order not_idle same = folds_none shown (transfer_id address s.durable) (meta_of (offered s.durable)) s.durable.receivers
  happening_folds address s (Torn event now operations) fits order not_idle same =
      torn_folds address s event now operations fits order not_idle same (operations == length (dist_work address s event now)) refl

  -- ---- order

  one_of : (old new fallback : DistDurable) (xs : List DistDurable) (k : ℕ) → AllByRecursion (λ (x : DistDurable). (x ≡ old) ⊎ (x ≡ new)) xs → (fallback ≡ old) ⊎ (fallback ≡ new) → (slice_index_or xs k fallback ≡ old) ⊎ (slice_index_or xs k fallback ≡ new)
  one_of old new fallback [] k all f = f
  one_of old new fallback (x ∷ xs) zero all f = all.0
  one_of old new fallback (x ∷ xs) (suc k) all f = one_of old new fallback xs k all.1 f

  left_is : (address : ℕ) (s : DistState) (event : NodeEvent) (now operations : ℕ) → (left_after address s event now operations ≡ s.durable) ⊎ (left_after address s event now operations ≡ (dist_step address s event now).next.durable)
  left_is address s event now operations =
      one_of s.durable (dist_step address s event now).next.durable s.durable (s.durable ∷ dist_work address s event now) operations (inl refl, laws.leaves address s event now) (inl refl)

  boot_order : (address : ℕ) (d : DistDurable) → IsDistDurable d → IsInOrder address (restarted address d)
  boot_order address d h = record { sound = laws.boots address d h; planned = laws.boots_planned address d }

  pub happening_order : (address : ℕ) (s : DistState) (h : Happening) → HappeningFits h → IsInOrder address s → IsInOrder address (happened address s h)
  happening_order address s (Done event now) fits order = record { sound = laws.keeps address s event now fits order.sound; planned = laws.plans address s event now fits order.sound order.planned }
  happening_order address s CutPower fits order = boot_order address s.durable order.sound.durable
  happening_order address s (Torn event now operations) fits order =
      let next : IsDistDurable (dist_step address s event now).next.durable = (laws.keeps address s event now fits order.sound).durable in
      boot_order address (left_after address s event now operations)
      (elim (left_is address s event now operations) [
        | inl e ↦ subst IsDistDurable (sym e) order.sound.durable
        | inr e ↦ subst IsDistDurable (sym e) next
      ])

  -- ---- what is offered

  -- the transfer and its image are as they were
  record SameOffer (address : ℕ) (d e : DistDurable) : Type 0 where
    pub id : transfer_id address e ≡ transfer_id address d
    pub image : offered e ≡ offered d

  same_offer : (address : ℕ) (d e : DistDurable) → e.counter ≡ d.counter → e.settings ≡ d.settings → e.images ≡ d.images → SameOffer address d e
  same_offer address d e counter settings images = record {
    id = ap (λ n. address * 2 ^ 48 + n) counter;
    image = ap (λ (xs : List StoredImage). slice_get xs e.settings.image) images ∙ ap (λ (x : Settings). slice_get d.images x.image) settings;
  }

  event_offer : (address : ℕ) (s : DistState) (event : NodeEvent) (now : ℕ) → IsDistState s → is_at_rest s.durable.phase ≡ false → SameOffer address s.durable (dist_step address s event now).next.durable
  event_offer address s event now h busy = let stands = laws.stand address s event now h busy in same_offer address s.durable (dist_step address s event now).next.durable stands.0 stands.1 stands.2

  happening_offer : (address : ℕ) (s : DistState) (h : Happening) → IsDistState s → is_at_rest s.durable.phase ≡ false → SameOffer address s.durable (happened address s h).durable
  happening_offer address s (Done event now) h busy = event_offer address s event now h busy
  happening_offer address s CutPower h busy = same_offer address s.durable s.durable refl refl refl
  happening_offer address s (Torn event now operations) h busy =
      elim (left_is address s event now operations) [
        | inl e ↦ subst (λ (d : DistDurable). SameOffer address s.durable d) (sym e) (same_offer address s.durable s.durable refl refl refl)
        | inr e ↦ subst (λ (d : DistDurable). SameOffer address s.durable d) (sym e) (event_offer address s event now h busy)
      ]

  -- ---- at rest

  -- nothing counts, of whatever offer
  rest_event : (address : ℕ) (s : DistState) (event : NodeEvent) (now id : ℕ) (offer : Meta) → IsDistState s → is_at_rest s.durable.phase ≡ true → (s.durable.phase ≡ Idle → ⊥)
      → (dist_step address s event now).next.durable.counter ≡ s.durable.counter → Folds id offer (rows_kept s) (counted_by address s event now) (map shown (dist_step address s event now).next.durable.receivers)
  rest_event address s event now id offer h rest not_idle same =
      let receivers = rest_same laws s.durable (dist_step address s event now).next.durable not_idle same (laws.rests address s event now h rest) in
      let none = rest_none address s event now rest (no_client s rest h) in
      subst (λ (cs : List (List Counted)). Folds id offer (rows_kept s) cs (map shown (dist_step address s event now).next.durable.receivers)) (sym none)
      (subst (λ (es : List Receiver). Folds id offer (rows_kept s) (map none_counted s.durable.receivers) (map shown es)) (sym receivers) (folds_none shown id offer s.durable.receivers))

  rest_torn : (address : ℕ) (s : DistState) (event : NodeEvent) (now operations id : ℕ) (offer : Meta) → EventFits event → IsDistState s → is_at_rest s.durable.phase ≡ true → (s.durable.phase ≡ Idle → ⊥)
      → (left_after address s event now operations).counter ≡ s.durable.counter → (b : Bool) → (operations == length (dist_work address s event now)) ≡ b
      → Folds id offer (rows_kept s) (cond b (counted_by address s event now) (map none_counted s.durable.receivers)) (map shown (left_after address s event now operations).receivers)
  rest_torn address s event now operations id offer fits h rest not_idle same true e =
      let all : operations ≡ length (dist_work address s event now) = eqb-true operations (length (dist_work address s event now)) e in
      let new : left_after address s event now operations ≡ (dist_step address s event now).next.durable = ap (λ k. left_after address s event now k) all ∙ laws.leads address s event now fits h in
      subst (λ (d : DistDurable). Folds id offer (rows_kept s) (counted_by address s event now) (map shown d.receivers)) (sym new)
      (rest_event address s event now id offer h rest not_idle (ap (λ (d : DistDurable). d.counter) (sym new) ∙ same))
  rest_torn address s event now operations id offer fits h rest not_idle same false e =
      let old : left_after address s event now operations ≡ s.durable =
      not_last s.fresh s.durable (dist_step address s event now).next.durable (dist_step address s event now).work operations
      (λ all. (let yes : (operations == length (dist_work address s event now)) ≡ true = eq-eqb operations (length (dist_work address s event now)) all in cc)) in
      subst (λ (d : DistDurable). Folds id offer (rows_kept s) (map none_counted s.durable.receivers) (map shown d.receivers)) (sym old) (folds_none shown id offer s.durable.receivers)

  rest_happening : (address : ℕ) (s : DistState) (h : Happening) (id : ℕ) (offer : Meta) → HappeningFits h → IsDistState s → is_at_rest s.durable.phase ≡ true → (s.durable.phase ≡ Idle → ⊥)
      → (happened address s h).durable.counter ≡ s.durable.counter → Folds id offer (rows_kept s) (counted_happening address s h) (rows_kept (happened address s h))
  rest_happening address s (Done event now) id offer fits h rest not_idle same = rest_event address s event now id offer h rest not_idle same
  rest_happening address s CutPower id offer fits h rest not_idle same = folds_none shown id offer s.durable.receivers
  rest_happening address s (Torn event now operations) id offer fits h rest not_idle same =
      rest_torn address s event now operations id offer fits h rest not_idle same (operations == length (dist_work address s event now)) refl

  pub still_rests : (d e : DistDurable) → is_at_rest d.phase ≡ true → e.counter ≡ d.counter → (d.phase ≡ Idle → ⊥) → RestMoves d e → is_at_rest e.phase ≡ true
  still_rests d e rest same not_idle (rest_begins counter) = absurd (above d.counter e.counter counter same)
  still_rests d e rest same not_idle (rest_adds entries idle still counter receivers) = absurd (not_idle idle)
  still_rests d e rest same not_idle (rest_empties idle still counter receivers) = absurd (not_idle idle)
  still_rests d e rest same not_idle (rest_stands (inl phase) counter receivers) = ap is_at_rest phase ∙ rest
  still_rests d e rest same not_idle (rest_stands (inr idle) counter receivers) = ap is_at_rest idle

  rest_stays : (address : ℕ) (s : DistState) (h : Happening) → IsDistState s → is_at_rest s.durable.phase ≡ true → (s.durable.phase ≡ Idle → ⊥)
      → (happened address s h).durable.counter ≡ s.durable.counter → is_at_rest (happened address s h).durable.phase ≡ true
  rest_stays address s (Done event now) h rest not_idle same = still_rests s.durable (dist_step address s event now).next.durable rest same not_idle (laws.rests address s event now h rest)
  rest_stays address s CutPower h rest not_idle same = rest
  rest_stays address s (Torn event now operations) h rest not_idle same =
      elim (left_is address s event now operations) [
        | inl e ↦ ap (λ (d : DistDurable). is_at_rest d.phase) e ∙ rest
        | inr e ↦
            ap (λ (d : DistDurable). is_at_rest d.phase) e
            ∙ still_rests s.durable (dist_step address s event now).next.durable rest (ap (λ (d : DistDurable). d.counter) (sym e) ∙ same) not_idle (laws.rests address s event now h rest)
      ]

  rest_run : (address : ℕ) (s : DistState) (hs : List Happening) (id : ℕ) (offer : Meta) → IsInOrder address s → AllByRecursion HappeningFits hs → IsOne address s hs → is_at_rest s.durable.phase ≡ true
      → Folds id offer (rows_kept s) (counted_in address s hs) (rows_kept (state_after address s hs))
  rest_run address s [] id offer order fits one rest = folds_none shown id offer s.durable.receivers
  rest_run address s (h ∷ hs) id offer order fits one rest =
      let next : DistState = happened address s h in
      folds_then id offer (rows_kept s) (rows_kept next) (rows_kept (state_after address next hs)) (counted_happening address s h) (counted_in address next hs)
      (rest_happening address s h id offer fits.0 order.sound rest one.0 one.1)
      (rest_run address next hs id offer (happening_order address s h fits.0 order) fits.1 one.2 (rest_stays address s h order.sound rest one.0 one.1))

  -- ---- runs

  abbrev OfRun : (address : ℕ) → DistState → List Happening → Type 0
  OfRun address s hs = Folds (transfer_id address s.durable) (meta_of (offered s.durable)) (rows_kept s) (counted_in address s hs) (rows_kept (state_after address s hs))

  by_rest : (address : ℕ) (s : DistState) (h : Happening) (hs : List Happening) → IsInOrder address s → AllByRecursion HappeningFits (h ∷ hs) → IsOne address s (h ∷ hs) → OfRun address (happened address s h) hs
      → (b : Bool) → is_at_rest s.durable.phase ≡ b → OfRun address s (h ∷ hs)
  by_rest address s h hs order fits one others true rest = rest_run address s (h ∷ hs) (transfer_id address s.durable) (meta_of (offered s.durable)) order fits one rest
  by_rest address s h hs order fits one others false busy =
      let next : DistState = happened address s h in
      let same = happening_offer address s h order.sound busy in
      let moved = subst (λ n. Folds n (meta_of (offered next.durable)) (rows_kept next) (counted_in address next hs) (rows_kept (state_after address next hs))) same.id others in
      folds_then (transfer_id address s.durable) (meta_of (offered s.durable)) (rows_kept s) (rows_kept next) (rows_kept (state_after address next hs)) (counted_happening address s h) (counted_in address next hs)
      (happening_folds address s h fits.0 order one.0 one.1)
      (subst (λ (o : Option StoredImage). Folds (transfer_id address s.durable) (meta_of o) (rows_kept next) (counted_in address next hs) (rows_kept (state_after address next hs))) same.image moved)

  pub distributor_rows : DistributorRowsAreFolds
  distributor_rows address s [] order fits one = folds_none shown (transfer_id address s.durable) (meta_of (offered s.durable)) s.durable.receivers
  distributor_rows address s (h ∷ hs) order fits one =
      by_rest address s h hs order fits one (distributor_rows address (happened address s h) hs (happening_order address s h fits.0 order) fits.1 one.2) (is_at_rest s.durable.phase) refl

-- ---- where a distribution begins

new_rows : (rs : List Receiver) → AllByRecursion IsNew (map renewed rs)
new_rows [] = tt
new_rows (r ∷ rs) = (record { phase = refl; update_status = refl; transfer_status = refl }, new_rows rs)

begun_new : {address : ℕ} {d e : DistDurable} {event : NodeEvent} → e.counter ≡ d.counter + 1 → ReceiversMove address d event e → AllByRecursion IsNew e.receivers
begun_new {d = d} one (begins from ask says rest counter settings receivers) = subst (λ (rs : List Receiver). AllByRecursion IsNew rs) (sym receivers) (new_rows d.receivers)
begun_new {d = d} {e = e} one (adds from entries says idle counter receivers) = absurd (above d.counter e.counter one counter)
begun_new {d = d} {e = e} one (empties from says idle counter receivers) = absurd (above d.counter e.counter one counter)
begun_new {d = d} {e = e} one (moves counter rows) = absurd (above d.counter e.counter one counter)

pub begin_unknown : RowsMoveByCause → RowsBeginUnknown
begin_unknown moving address s event now fits order one = begun_new one (moving address s event now fits order.sound order.planned)
