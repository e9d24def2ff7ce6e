-- What an event makes of a distributor's client and of the statuses that are kept.
use Rattle.std.proofs.Common.{◌≡◌, ℕ, Bool, true, false, List, [], ◌∷◌, length, map, refl, sym, ap, subst, ◌∙◌, cond, Option, Some, None, Result, Ok, Err}
use Rattle.std.specs.Prelude.{⊤, ◌==◌, not, nat_lt, nat_le, is_none}
use Rattle.std.specs.List.{list_any}
use Rattle.mu_model_image.specs.declared.Meta.{Meta}
use Rattle.mu_model_node.specs.declared.Link.{Link}
use Rattle.mu_model_node.specs.declared.Link.TheVariants.{Cut, Ready, Running}
use Rattle.mu_model_node.specs.BlobServer.{Session, Change, Same, Begins, Drops, Puts}
use Rattle.mu_model_node.specs.BlobTable.{Served, on_blob, on_server_time}
use Rattle.mu_model_node.specs.Events.{NodeEvent, PacketComes, TimeComes}
use Rattle.mu_model_client.specs.declared.Stage.{Stage}
use Rattle.mu_model_client.specs.declared.Stage.TheVariants.{Transfer, Verified, Applying, Canceling, Ended}
use Rattle.mu_model_client.specs.Answers.{Answer}
use Rattle.mu_model_client.specs.Begin.{stage_of, take_apply, take_cancel, canceled}
use Rattle.mu_model_client.specs.Client.{Client, is_active, rows}
use Rattle.mu_model_client.specs.Due.{due}
use Rattle.mu_model_client.specs.Told.{told}
use Rattle.mu_model_distributor.specs.declared.Settings.{Settings}
use Rattle.mu_model_distributor.specs.declared.DistPhase.{DistPhase}
use Rattle.mu_model_distributor.specs.declared.DistPhase.TheVariants.{Idle, TransferActive, TransferSuccess, ApplyingUpdate, Completed, Failed, CancelingUpdate, TransferSuspended}
use Rattle.mu_model_distributor.specs.Requests.{Entry, UploadStart, DistRequest, ReceiversAdd, ReceiversDeleteAll, ReceiversGet, CapabilitiesGet, DistributionGet, DistributionStart, DistributionSuspend, DistributionCancel, DistributionApply, UploadGet, StartUpload, StartUploadOob, UploadCancel, FirmwareGet, FirmwareGetByIndex, FirmwareDelete, FirmwareDeleteAll}
use Rattle.mu_model_distributor.specs.Replies.{DistReply}
use Rattle.mu_model_distributor.specs.DistMessages.{Taken, OfDistribution, OfBlob, OfReceiver, taken_at, Sent}
use Rattle.mu_model_distributor.specs.DistState.{UploadJob, Upload, NoUpload, Uploading, Broken, Uploaded, run_upload, DistState, is_at_rest, server_of, offered, receiver_of, rows_of}
use Rattle.mu_model_distributor.specs.Commit.{recorded_if, committed, ends, answered}
use Rattle.mu_model_distributor.specs.Receivers.{added, is_idle, empty_banks, receivers_status, receivers_add, receivers_delete_all}
use Rattle.mu_model_distributor.specs.Distribution.{plan_of, stage_in, with_client, in_phase, at_rest, are_settings, is_uploading, last_counter, next_distribution, begins, distribution_status, distribution_start, distribution_suspend, cancels, distribution_cancel, applies, distribution_apply}
use Rattle.mu_model_distributor.specs.Uploads.{with_session, offered_meta, same_upload_start, has_image, takes_in, takes_or_resumes, offers, upload_status, upload_start, upload_cancel}
use Rattle.mu_model_distributor.specs.Firmware.{index_of, is_in_upload, no_index, firmware_status, firmware_delete, firmware_delete_all}
use Rattle.mu_model_distributor.specs.DistTable.{by_blob, on_request, blob_changed, hears, on_taken}
use Rattle.mu_model_distributor.specs.DistTime.{is_whole, verified, verifies, broken_by, server_waits, has_phase, goes_on_by, goes_on, has_verified, advanced, after_turn, octets_of, has_turns, client_turns, client_waits, waits, on_time}
use Rattle.mu_model_distributor.specs.DistEvents.{passed_over, at_moment, on_packet, on_event, dist_step}
use Rattle.mu_model_distributor.specs.Sound.{HasClient, IsDistState}
use Rattle.mu_model_rows.specs.Clients.{Each, StatusesStand}
use Rattle.mu_model_row_folds.specs.DistributorStatuses.{both_kept, AllStandInPlace, DropsStandIn, placed_each, placed_by}
use Rattle.mu_model_row_folds.proofs.Statuses.{Keeps, kept_same, kept_map, time_kept}
use Rattle.mu_model_row_folds.proofs.Placed.{told_all, both_row, told_placed, kept_all, kept_both, canceled_keeps, begun_stand, kept_rows, own_kept}

abbrev SameStatuses : DistState → DistState → Type 0
SameStatuses s t = map both_kept t.durable.receivers ≡ map both_kept s.durable.receivers

-- drops stand in the client, and while a distribution goes on the kept statuses stay
record Moves (s t : DistState) : Type 0 where
  pub stand : DropsStandIn t.client
  pub same : IsDistState s → is_at_rest s.durable.phase ≡ false → SameStatuses s t

-- they are put in their places
pub record EventMoves (s t : DistState) : Type 0 where
  pub stand : DropsStandIn t.client
  pub follow : IsDistState s → is_at_rest s.durable.phase ≡ false → IsDistState t → map both_kept t.durable.receivers ≡ placed_by t.client (map both_kept s.durable.receivers)

lift : (s t : DistState) → Moves s t → EventMoves s t
lift s t m = record {
  stand = m.stand;
  follow = λ h busy k.
      own_kept (is_at_rest t.durable.phase) t.durable.receivers t.progress t.client k.client m.stand
      ∙ ap (λ xs. placed_by t.client xs) (m.same h busy);
}

busy_not : (p q : DistPhase) → p ≡ q → is_at_rest q ≡ true → is_at_rest p ≡ false → ⊥
busy_not p q e rest busy = let never : true ≡ false = sym rest ∙ (ap is_at_rest (sym e) ∙ busy) in cc

client_both : (s : DistState) (c : Client) → s.client ≡ Some c → IsDistState s → is_at_rest s.durable.phase ≡ false → map both_row c.receivers ≡ map both_kept s.durable.receivers
client_both s c e h busy =
    let has = subst (λ b. HasClient b s.durable.receivers s.progress (Some c)) busy (subst (λ (o : Option Client). HasClient (is_at_rest s.durable.phase) s.durable.receivers s.progress o) e h.client) in
    sym (kept_rows c.receivers) ∙ ap (λ xs. map both_kept xs) has.receivers

module _ (s : DistState) (h : DropsStandIn s.client) where
  own : (c : Client) → s.client ≡ Some c → AllStandInPlace c
  own c e = subst DropsStandIn e h

  stays : (t : DistState) → t.client ≡ s.client → t.durable.receivers ≡ s.durable.receivers → Moves s t
  stays t c r = record { stand = subst DropsStandIn (sym c) h; same = λ k busy. ap (λ xs. map both_kept xs) r }

  -- the client goes on with the same statuses
  turned : (c n : Client) → s.client ≡ Some c → Each Keeps c.receivers n.receivers → (t : DistState) → t.client ≡ Some n → t.durable.receivers ≡ map receiver_of (rows n) → Moves s t
  turned c n e kept t is r = record {
    stand = subst DropsStandIn (sym is) (kept_all c.receivers n.receivers kept (own c e));
    same = λ k busy.
        ap (λ xs. map both_kept xs) r ∙ (kept_rows n.receivers ∙ (kept_both c.receivers n.receivers kept ∙ client_both s c e k busy));
  }

  recorded_moves : (t : DistState) (b : Bool) → Moves s t → Moves s (recorded_if t b)
  recorded_moves t true m = m
  recorded_moves t false m = record { stand = m.stand; same = m.same }

  committed_moves : (t : DistState) → Moves s t → Moves s (committed s t)
  committed_moves t m = recorded_moves t _ m

  -- ---- requests

  abbrev Leads : Result DistState ℕ → Type 0
  Leads (Ok t) = Moves s t
  Leads (Err status) = ⊤

  split : (b : Bool) (x y : Result DistState ℕ) → Leads x → Leads y → Leads (cond b x y)
  split true x y k l = k
  split false x y k l = l

  led : (to : ℕ) (show : ℕ → DistState → DistReply) (r : Result DistState ℕ) → Leads r → Moves s (answered s to show r).next
  led to show (Ok t) m = committed_moves t m
  led to show (Err status) m = stays s refl refl

  begins_lead : (address : ℕ) (ask : Option Settings) → is_at_rest s.durable.phase ≡ true → Leads (begins address s ask)
  begins_lead address None rest = tt
  begins_lead address (Some ask) rest =
      split (is_uploading (run_upload s)) _ _ tt
      (split (nat_le (length s.durable.images) ask.image) _ _ tt
      (split (length s.durable.receivers == 0) _ _ tt
      (split (s.durable.counter == last_counter) _ _ tt
      (record {
        stand = begun_stand (plan_of address (next_distribution s ask).durable) (rows_of (next_distribution s ask)) (stage_in TransferActive);
        same = λ k busy. (let never : true ≡ false = sym rest ∙ busy in absurd cc);
      }))))

  start_leads : (address : ℕ) (ask : Option Settings) (p : DistPhase) → s.durable.phase ≡ p → Leads (distribution_start address s ask p)
  start_leads address ask Idle e = begins_lead address ask (ap is_at_rest e)
  start_leads address ask Completed e = begins_lead address ask (ap is_at_rest e)
  start_leads address ask Failed e = begins_lead address ask (ap is_at_rest e)
  start_leads address ask TransferActive e = split (are_settings ask s.durable.settings) _ _ (stays s refl refl) tt
  start_leads address ask TransferSuccess e = split (are_settings ask s.durable.settings) _ _ (stays s refl refl) tt
  start_leads address ask ApplyingUpdate e = split (are_settings ask s.durable.settings) _ _ (stays s refl refl) tt
  start_leads address ask CancelingUpdate e = split (are_settings ask s.durable.settings) _ _ (stays s refl refl) tt
  start_leads address ask TransferSuspended e =
      split (are_settings ask s.durable.settings) _ _ (record { stand = begun_stand (plan_of address (in_phase s TransferActive).durable) (rows_of (in_phase s TransferActive)) (stage_in TransferActive); same = λ k busy. refl }) tt

  suspend_leads : (p : DistPhase) → Leads (distribution_suspend s p)
  suspend_leads TransferActive = stays (in_phase s TransferSuspended) refl refl
  suspend_leads TransferSuspended = stays s refl refl
  suspend_leads Idle = tt
  suspend_leads TransferSuccess = tt
  suspend_leads ApplyingUpdate = tt
  suspend_leads Completed = tt
  suspend_leads Failed = tt
  suspend_leads CancelingUpdate = tt

  cancels_move : (client : Option Client) → s.client ≡ client → Moves s (cancels s client)
  cancels_move None e = stays (in_phase s CancelingUpdate) refl refl
  cancels_move (Some c) e = turned c (take_cancel c) e (kept_map canceled canceled_keeps c.receivers) (cancels s (Some c)) refl refl

  cancel_leads : (p : DistPhase) → Leads (distribution_cancel s p)
  cancel_leads TransferActive = cancels_move s.client refl
  cancel_leads TransferSuccess = cancels_move s.client refl
  cancel_leads TransferSuspended = cancels_move s.client refl
  cancel_leads Completed = record { stand = tt; same = λ k busy. refl }
  cancel_leads Failed = record { stand = tt; same = λ k busy. refl }
  cancel_leads ApplyingUpdate = tt
  cancel_leads Idle = stays s refl refl
  cancel_leads CancelingUpdate = stays s refl refl

  applies_move : (client : Option Client) → s.client ≡ client → Moves s (applies s client)
  applies_move None e = stays (in_phase s ApplyingUpdate) refl refl
  applies_move (Some c) e = turned c (take_apply c) e (kept_same c.receivers) (applies s (Some c)) refl refl

  apply_leads : (p : DistPhase) → Leads (distribution_apply s p)
  apply_leads TransferSuccess = applies_move s.client refl
  apply_leads ApplyingUpdate = stays s refl refl
  apply_leads Idle = tt
  apply_leads TransferActive = tt
  apply_leads Completed = tt
  apply_leads Failed = tt
  apply_leads CancelingUpdate = tt
  apply_leads TransferSuspended = tt

  -- receivers are added and go while it is idle alone
  idle_rests : (p : DistPhase) → is_idle p ≡ true → is_at_rest p ≡ true
  idle_rests Idle e = refl
  idle_rests Completed e = refl
  idle_rests Failed e = refl
  idle_rests TransferActive e = absurd cc
  idle_rests TransferSuccess e = absurd cc
  idle_rests ApplyingUpdate e = absurd cc
  idle_rests CancelingUpdate e = absurd cc
  idle_rests TransferSuspended e = absurd cc

  at_rest_alone : (t : DistState) → t.client ≡ s.client → is_idle s.durable.phase ≡ true → Moves s t
  at_rest_alone t c idle = record {
    stand = subst DropsStandIn (sym c) h;
    same = λ k busy. (let never : true ≡ false = sym (idle_rests s.durable.phase idle) ∙ busy in absurd cc);
  }

  add_by : (entries : List Entry) (b : Bool) → is_idle s.durable.phase ≡ b → (y : Result DistState ℕ) → (is_idle s.durable.phase ≡ true → Leads y) → Leads (cond (not b) (Err 7) y)
  add_by entries true e y k = k e
  add_by entries false e y k = tt

  add_leads : (entries : List Entry) → Leads (receivers_add s entries)
  add_leads entries = add_by entries (is_idle s.durable.phase) refl _ (λ idle. split (nat_lt 128 (length (added s.durable.receivers entries))) _ _ tt (at_rest_alone _ refl idle))

  delete_by : (b : Bool) → is_idle s.durable.phase ≡ b → (x : DistState) → x.client ≡ s.client → (y : Result DistState ℕ) → Leads y → Leads (cond b (Ok x) y)
  delete_by true e x c y k = at_rest_alone x c e
  delete_by false e x c y k = k

  delete_leads : Leads (receivers_delete_all s)
  delete_leads = delete_by (is_idle s.durable.phase) refl _ refl _ tt

  takes_lead : (u : UploadStart) (meta : Meta) (banks : List ℕ) → Leads (takes_in s u meta banks)
  takes_lead u meta [] = tt
  takes_lead u meta (bank ∷ others) = split (nat_lt s.durable.capacity u.size) _ _ tt (stays _ refl refl)

  takes_or_lead : (u : UploadStart) (meta : Meta) (upload : Upload) → Leads (takes_or_resumes s u meta upload)
  takes_or_lead u meta (Broken (Some j)) = split (same_upload_start u s.durable j) _ _ (stays _ refl refl) (takes_lead u meta (empty_banks s.durable.images None))
  takes_or_lead u meta (Broken None) = takes_lead u meta (empty_banks s.durable.images None)
  takes_or_lead u meta NoUpload = takes_lead u meta (empty_banks s.durable.images None)
  takes_or_lead u meta (Uploading j) = takes_lead u meta (empty_banks s.durable.images None)
  takes_or_lead u meta Uploaded = takes_lead u meta (empty_banks s.durable.images None)

  offers_lead : (u : UploadStart) (upload : Upload) (offer : Option Meta) → Leads (offers s u upload offer)
  offers_lead u upload None = tt
  offers_lead u upload (Some meta) = split (has_image s.durable.images meta) _ _ (stays _ refl refl) (takes_or_lead u meta upload)

  upload_leads : (u : UploadStart) (upload : Upload) → Leads (upload_start s u upload)
  upload_leads u (Uploading j) = split (same_upload_start u s.durable j) _ _ (stays _ refl refl) tt
  upload_leads u NoUpload = split (is_at_rest s.durable.phase) _ _ (offers_lead u NoUpload (offered_meta u)) tt
  upload_leads u (Broken job) = split (is_at_rest s.durable.phase) _ _ (offers_lead u (Broken job) (offered_meta u)) tt
  upload_leads u Uploaded = split (is_at_rest s.durable.phase) _ _ (offers_lead u Uploaded (offered_meta u)) tt

  firmware_leads : (fwid : List ℕ) → Leads (firmware_delete s fwid)
  firmware_leads fwid =
      split (not (is_at_rest s.durable.phase)) _ _ tt
      (split (is_in_upload (run_upload s)) _ _ tt (split (is_none (index_of s.durable.images fwid)) _ _ tt (stays _ refl refl)))

  all_lead : Leads (firmware_delete_all s)
  all_lead = split (not (is_at_rest s.durable.phase)) _ _ tt (split (is_in_upload (run_upload s)) _ _ tt (stays _ refl refl))

  request_moves : (address to : ℕ) (request : DistRequest) → Moves s (on_request address s to request).next
  request_moves address to (ReceiversAdd entries) = led to receivers_status (receivers_add s entries) (add_leads entries)
  request_moves address to ReceiversDeleteAll = led to receivers_status (receivers_delete_all s) delete_leads
  request_moves address to (ReceiversGet first limit) = stays s refl refl
  request_moves address to CapabilitiesGet = stays s refl refl
  request_moves address to DistributionGet = stays s refl refl
  request_moves address to (DistributionStart ask) = led to distribution_status (distribution_start address s ask s.durable.phase) (start_leads address ask s.durable.phase refl)
  request_moves address to DistributionSuspend = led to distribution_status (distribution_suspend s s.durable.phase) (suspend_leads s.durable.phase)
  request_moves address to DistributionCancel = led to distribution_status (distribution_cancel s s.durable.phase) (cancel_leads s.durable.phase)
  request_moves address to DistributionApply = led to distribution_status (distribution_apply s s.durable.phase) (apply_leads s.durable.phase)
  request_moves address to UploadGet = stays s refl refl
  request_moves address to (StartUpload u) = led to upload_status (upload_start s u (run_upload s)) (upload_leads u (run_upload s))
  request_moves address to StartUploadOob = stays s refl refl
  request_moves address to UploadCancel = committed_moves (upload_cancel s) (stays _ refl refl)
  request_moves address to (FirmwareGet fwid) = stays s refl refl
  request_moves address to (FirmwareGetByIndex index) = stays s refl refl
  request_moves address to (FirmwareDelete fwid) = led to (firmware_status no_index (Some fwid)) (firmware_delete s fwid) (firmware_leads fwid)
  request_moves address to FirmwareDeleteAll = led to (firmware_status no_index None) (firmware_delete_all s) all_lead

  change_moves : (c : Change) (l : Session) → Moves s (with_session (blob_changed s c) l)
  change_moves Same l = stays _ refl refl
  change_moves (Begins p) l = stays _ refl refl
  change_moves Drops l = stays _ refl refl
  change_moves (Puts block octets) l = stays _ refl refl

  -- ---- answers

  heard_so : (c n : Client) (t : DistState) (b : Bool) → t.client ≡ Some n → t.durable.receivers ≡ map receiver_of (rows n) → AllStandInPlace n → (IsDistState s → is_at_rest s.durable.phase ≡ false → map both_row n.receivers ≡ placed_each n.receivers (map both_kept s.durable.receivers))
      → EventMoves s (recorded_if t b)
  heard_so c n t true is r all k = record {
    stand = subst DropsStandIn (sym is) all;
    follow = λ f busy g.
        ap (λ xs. map both_kept xs) r ∙ (kept_rows n.receivers ∙ (k f busy ∙ ap (λ (o : Option Client). placed_by o (map both_kept s.durable.receivers)) (sym is)));
  }
  heard_so c n t false is r all k = record {
    stand = subst DropsStandIn (sym is) all;
    follow = λ f busy g.
        ap (λ xs. map both_kept xs) r ∙ (kept_rows n.receivers ∙ (k f busy ∙ ap (λ (o : Option Client). placed_by o (map both_kept s.durable.receivers)) (sym is)));
  }

  hears_move : StatusesStand → (from : ℕ) (answer : Answer) (client : Option Client) → s.client ≡ client → EventMoves s (hears s from answer client).next
  hears_move law from answer None e = lift s s (stays s refl refl)
  hears_move law from answer (Some c) e =
      let n : Client = told c from answer s.moment in
      heard_so c n (with_client s n) _ refl refl (told_all c c.receivers n.receivers (law c from answer s.moment) (own c e))
      (λ k busy. told_placed c c.receivers n.receivers (law c from answer s.moment) (own c e) ∙ ap (λ xs. placed_each n.receivers xs) (client_both s c e k busy))

  taken_moves : StatusesStand → (address from : ℕ) (taken : Taken) → EventMoves s (on_taken address s from taken).next
  taken_moves law address from (OfDistribution request) = lift s _ (request_moves address from request)
  taken_moves law address from (OfBlob request) = lift s _ (change_moves (on_blob (server_of s) from request).change (on_blob (server_of s) from request).session)
  taken_moves law address from (OfReceiver answer) = hears_move law from answer s.client refl

-- ---- time

-- the client may begin anew or go, with the rows as they are
record Turns (u v : DistState) : Type 0 where
  pub stand : DropsStandIn v.client
  pub rows_same : v.durable.receivers ≡ u.durable.receivers

module _ (address : ℕ) (u : DistState) (c : Client) (h : DropsStandIn u.client) where
  remains : Turns u u
  remains = record { stand = h; rows_same = refl }

  rests : (p : DistPhase) → Turns u (at_rest u p)
  rests p = record { stand = tt; rows_same = refl }

  going_turns : (p : DistPhase) (b : Bool) → Turns u (goes_on_by address (in_phase u p) b)
  going_turns p true = record { stand = h; rows_same = refl }
  going_turns p false = record { stand = begun_stand (plan_of address (in_phase u p).durable) (rows_of (in_phase u p)) (stage_in p); rows_same = refl }

  either : (b : Bool) (x y : DistState) → Turns u x → Turns u y → Turns u (cond b x y)
  either true x y k l = k
  either false x y k l = l

  verifying_turns : Turns u (has_verified address u c)
  verifying_turns =
      let p : DistPhase = cond (u.durable.settings.policy == 1) ApplyingUpdate TransferSuccess in
      either (not (has_phase u.durable.receivers (4 ∷ 6 ∷ 8 ∷ []))) (at_rest u Failed) (goes_on address u c p) (rests Failed) (going_turns p (list_any is_active c.receivers))

  advanced_turns : (p : DistPhase) (stage : Stage) → Turns u (advanced address u c p stage)
  advanced_turns TransferActive Transfer = remains
  advanced_turns TransferActive Verified = verifying_turns
  advanced_turns TransferActive Applying = verifying_turns
  advanced_turns TransferActive Canceling = verifying_turns
  advanced_turns TransferActive Ended = verifying_turns
  advanced_turns ApplyingUpdate Ended = record { stand = tt; rows_same = refl }
  advanced_turns ApplyingUpdate Transfer = remains
  advanced_turns ApplyingUpdate Verified = remains
  advanced_turns ApplyingUpdate Applying = remains
  advanced_turns ApplyingUpdate Canceling = remains
  advanced_turns CancelingUpdate Ended = rests Idle
  advanced_turns CancelingUpdate Transfer = remains
  advanced_turns CancelingUpdate Verified = remains
  advanced_turns CancelingUpdate Applying = remains
  advanced_turns CancelingUpdate Canceling = remains
  advanced_turns Idle stage = remains
  advanced_turns TransferSuccess stage = remains
  advanced_turns Completed stage = remains
  advanced_turns Failed stage = remains
  advanced_turns TransferSuspended stage = remains

abbrev Alike : DistState → DistState → Type 0
Alike s t = (t.client ≡ s.client) × (t.durable.receivers ≡ s.durable.receivers)

broken_alike : (s : DistState) (link : Link) (upload : Upload) → Alike s (broken_by link upload s)
broken_alike s Cut (Uploading j) = (refl, refl)
broken_alike s Cut NoUpload = (refl, refl)
broken_alike s Cut (Broken job) = (refl, refl)
broken_alike s Cut Uploaded = (refl, refl)
broken_alike s Ready upload = (refl, refl)
broken_alike s Running upload = (refl, refl)

module _ (address : ℕ) (s : DistState) (h : DropsStandIn s.client) where
  client_moves : (t : DistState) (reports : List (ℕ × Sent)) (client : Option Client) → s.client ≡ client → Alike s t → Moves s (client_waits address s t reports client).next
  client_moves t reports None e a = committed_moves s h t (stays s h t a.0 a.1)
  client_moves t reports (Some c) e a = by_turns (has_turns t.durable.phase)
    where
      n : Client
      n = (due c (octets_of (offered t.durable)) t.moment).next

      went : Moves s (with_client t n)
      went = turned s h c n e (time_kept c t.moment) (with_client t n) refl refl

      turns : Turns (with_client t n) (after_turn address t n)
      turns = advanced_turns address (with_client t n) n went.stand t.durable.phase (stage_of n)

      by_turns : (b : Bool) → Moves s (cond b (client_turns address s t reports (due c (octets_of (offered t.durable)) t.moment)) (ends s t (λ u. reports))).next
      by_turns true = committed_moves s h (after_turn address t n) (record {
        stand = turns.stand;
        same = λ k busy. ap (λ xs. map both_kept xs) turns.rows_same ∙ went.same k busy;
      })
      by_turns false = committed_moves s h t (stays s h t a.0 a.1)

  waits_moves : (o : Served) → Moves s (waits address s o).next
  waits_moves o = client_moves (server_waits s o) (map by_blob o.replies) s.client refl (broken_alike (with_session s o.session) o.session.link (run_upload s))

  verified_moves : (j : UploadJob) (b : Bool) → Moves s (verified s j b)
  verified_moves j true = stays s h _ refl refl
  verified_moves j false = stays s h _ refl refl

  uploading_moves : (j : UploadJob) (b : Bool) → Moves s (cond b (verifies s j) (waits address s (on_server_time (server_of s) (server_of s).serving))).next
  uploading_moves j true = committed_moves s h _ (verified_moves j _)
  uploading_moves j false = waits_moves (on_server_time (server_of s) (server_of s).serving)

  time_moves : (upload : Upload) → Moves s (on_time address s upload).next
  time_moves (Uploading j) = uploading_moves j (is_whole j.transfer)
  time_moves NoUpload = waits_moves (on_server_time (server_of s) (server_of s).serving)
  time_moves (Broken job) = waits_moves (on_server_time (server_of s) (server_of s).serving)
  time_moves Uploaded = waits_moves (on_server_time (server_of s) (server_of s).serving)

  -- ---- any event

  packet_moves : StatusesStand → (from : ℕ) (taken : Option Taken) → EventMoves s (on_packet address s from taken).next
  packet_moves law from (Some taken) = taken_moves s h law address from taken
  packet_moves law from None = lift s s (stays s h s refl refl)

  event_moves : StatusesStand → (event : NodeEvent) → EventMoves s (on_event address s event).next
  event_moves law (PacketComes packet) =
      elim (packet.to == address) as (λ b. EventMoves s (cond b (on_packet address s packet.from (taken_at packet.payload)) (passed_over s)).next) [
        | true ↦ packet_moves law packet.from (taken_at packet.payload)
        | false ↦ lift s s (stays s h s refl refl)
      ]
  event_moves law TimeComes = lift s _ (time_moves (run_upload s))

pub step_moves : StatusesStand → (address : ℕ) (s : DistState) (event : NodeEvent) (now : ℕ) → DropsStandIn s.client → EventMoves (at_moment s now) (dist_step address s event now).next
step_moves law address s event now h = event_moves address (at_moment s now) h law event
