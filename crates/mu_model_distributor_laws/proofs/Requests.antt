-- Each request on receivers and on the distribution keeps a state sound.
use Rattle.std.proofs.Common.{◌≡◌, ◌<◌, ◌≤◌, ℕ, ◌+◌, Bool, true, false, List, [], ◌++◌, length, map, drop, refl, sym, ap, ◌∙◌, cond, arith, Option, Some, None, Result, Ok, Err}
use Rattle.std.specs.Prelude.{⊤, ◌==◌, not, nat_lt, nat_le}
use Rattle.std.specs.List.{AllByRecursion}
use Rattle.std.proofs.lemmas.Bool.Decides.{nat_tests}
use Rattle.mu_model_client.specs.Client.{Client}
use Rattle.mu_model_client.specs.Begin.{take_apply, take_cancel}
use Rattle.mu_model_distributor.specs.declared.Settings.{Settings}
use Rattle.mu_model_distributor.specs.Requests.{Entry, DistributionStart}
use Rattle.mu_model_distributor.specs.declared.DistPhase.{DistPhase}
use Rattle.mu_model_distributor.specs.declared.DistPhase.TheVariants.{Idle, TransferActive, TransferSuccess, ApplyingUpdate, Completed, Failed, CancelingUpdate, TransferSuspended}
use Rattle.mu_model_distributor.specs.DistState.{Receiver, Upload, NoUpload, Uploading, Broken, Uploaded, run_upload, DistDurable, DistState, is_at_rest, no_progress}
use Rattle.mu_model_distributor.specs.Receivers.{added, with_receivers, is_idle, receivers_add, receivers_delete_all}
use Rattle.mu_model_distributor.specs.Distribution.{in_phase, at_rest, are_settings, is_uploading, renewed, begins, resumes, distribution_start, distribution_suspend, cancels, distribution_cancel, applies, distribution_apply}
use Rattle.mu_model_distributor.specs.Sound.{AreSettings, IsDistDurable, HasUpload, HasClient, IsDistState, IsEntry, DistRequestFits}
use Rattle.mu_model_distributor_laws.proofs.ClientDue.{rows_same, cancel_rows}
use Rattle.mu_model_distributor_laws.proofs.Rows.{ArePercents, none_percents, none_length, percents_join}
use Rattle.mu_model_distributor_laws.proofs.Added.{added_joins, longer_progress, renewed_are, renewed_differ, renewed_length}
use Rattle.mu_model_distributor_laws.proofs.Moved.{with_receivers as receivers_durable, client_turned, phase_moved, IsReady, ready, begun_sound, run_job}

-- what a request leads to is sound
abbrev pub Leads : Result DistState ℕ → Type 0
Leads (Ok t) = IsDistState t
Leads (Err status) = ⊤

pub split : (b : Bool) (x y : Result DistState ℕ) → (b ≡ true → Leads x) → (b ≡ false → Leads y) → Leads (cond b x y)
split true x y h k = h refl
split false x y h k = k refl

-- ---- receivers

is_idle_true : (p : DistPhase) → not (is_idle p) ≡ false → p ≡ Idle
is_idle_true Idle e = refl
is_idle_true TransferActive e = cc
is_idle_true TransferSuccess e = cc
is_idle_true ApplyingUpdate e = cc
is_idle_true Completed e = cc
is_idle_true Failed e = cc
is_idle_true CancelingUpdate e = cc
is_idle_true TransferSuspended e = cc

-- at rest there is no client
rests_client : (b : Bool) (old new : List Receiver) (progress other : List ℕ) (client : Option Client) → b ≡ true → HasClient b old progress client → HasClient b new other client
rests_client true old new progress other client e h = h
rests_client false old new progress other client e h = cc

others : (s : DistState) (new : List Receiver) (progress : List ℕ) → IsDistState s → s.durable.phase ≡ Idle → IsDistDurable (record (s.durable) { receivers = new }) → length progress ≡ length new → ArePercents progress → IsDistState (with_receivers s new progress)
others s new progress h idle durable long percents = record {
  durable = durable;
  fresh = h.fresh;
  current = h.current;
  client = rests_client (is_at_rest s.durable.phase) s.durable.receivers new s.progress progress s.client (ap is_at_rest idle) h.client;
  progress = long;
  percents = percents;
}

never_busy : (p : DistPhase) {A : Type 0} → p ≡ Idle → is_at_rest p ≡ false → A
never_busy p idle busy = let never : true ≡ false = sym (ap is_at_rest idle) ∙ busy in cc

adds : (s : DistState) (entries : List Entry) → AllByRecursion IsEntry entries → IsDistState s → s.durable.phase ≡ Idle → nat_lt 128 (length (added s.durable.receivers entries)) ≡ false → IsDistState (with_receivers s (added s.durable.receivers entries) (s.progress ++ no_progress (drop (length s.durable.receivers) (added s.durable.receivers entries))))
adds s entries fits h idle few =
    let k = added_joins s.durable.receivers entries fits h.durable.receivers h.durable.addresses in
    others s (added s.durable.receivers entries) _ h idle
    (receivers_durable s.durable (added s.durable.receivers entries) h.durable k.receivers k.differ (grind (arith, nat_tests)) (λ busy. never_busy s.durable.phase idle busy))
    (longer_progress s.progress s.durable.receivers (added s.durable.receivers entries) h.progress k.longer)
    (percents_join s.progress _ h.percents (none_percents _))

pub adds_soundly : (s : DistState) (entries : List Entry) → AllByRecursion IsEntry entries → IsDistState s → Leads (receivers_add s entries)
adds_soundly s entries fits h =
    split (not (is_idle s.durable.phase)) _ _ (λ e. tt)
    (λ e. split (nat_lt 128 (length (added s.durable.receivers entries))) _ _ (λ k. tt) (λ k. adds s entries fits h (is_idle_true s.durable.phase e) k))

empties : (s : DistState) → IsDistState s → s.durable.phase ≡ Idle → IsDistState (with_receivers s [] [])
empties s h idle = others s [] [] h idle (receivers_durable s.durable [] h.durable tt tt (omega arith) (λ busy. never_busy s.durable.phase idle busy)) refl tt

pub empties_soundly : (s : DistState) → IsDistState s → Leads (receivers_delete_all s)
empties_soundly s h = by_phase s.durable.phase refl
  where
    by_phase : (p : DistPhase) → s.durable.phase ≡ p → Leads (cond (is_idle p) (Ok (with_receivers s [] [])) (Err 7))
    by_phase Idle e = empties s h e
    by_phase TransferActive e = tt
    by_phase TransferSuccess e = tt
    by_phase ApplyingUpdate e = tt
    by_phase Completed e = tt
    by_phase Failed e = tt
    by_phase CancelingUpdate e = tt
    by_phase TransferSuspended e = tt

-- ---- a distribution begins

not_uploading : (upload : Upload) → is_uploading upload ≡ false → HasUpload TransferActive upload
not_uploading NoUpload e = tt
not_uploading (Uploading j) e = cc
not_uploading (Broken job) e = tt
not_uploading Uploaded e = tt

begun_ready : (s : DistState) (ask : Settings) → AreSettings ask → IsDistState s → is_uploading (run_upload s) ≡ false → nat_le (length s.durable.images) ask.image ≡ false → (length s.durable.receivers == 0) ≡ false → (s.durable.counter == 281474976710655) ≡ false → IsReady (record s { durable = record (s.durable) { phase = TransferActive; counter = s.durable.counter + 1; settings = ask; receivers = map renewed s.durable.receivers; upload = run_upload s }; lags = false; progress = no_progress s.durable.receivers })
begun_ready s ask fits h up image some last =
    let long : length (map renewed s.durable.receivers) ≡ length s.durable.receivers = renewed_length s.durable.receivers in
    let bound : s.durable.counter < 281474976710656 = h.durable.counter in
    let few : length s.durable.receivers ≤ 128 = h.durable.few_receivers in
    record {
      durable = record {
        capacity = h.durable.capacity;
        images = h.durable.images;
        banks = h.durable.banks;
        counter = let next : s.durable.counter + 1 < 281474976710656 = grind (arith, nat_tests) in next;
        unbegun = λ e. absurd (omega (arith, e));
        begun = λ e. fits;
        image = λ e. grind (arith, nat_tests);
        some_receiver = λ e. rw long (grind (arith, nat_tests));
        receivers = renewed_are s.durable.receivers h.durable.receivers;
        addresses = renewed_differ s.durable.receivers h.durable.addresses;
        few_receivers = rw long few;
        upload_ttl = h.durable.upload_ttl;
        upload_meta = h.durable.upload_meta;
        upload_job = rw (run_job s.lags s.durable.upload) (h.durable.upload_job);
        upload = not_uploading (run_upload s) up;
      };
      fresh = h.fresh;
      current = rw (run_job s.lags s.durable.upload) (h.current);
      progress = none_length s.durable.receivers ∙ sym long;
      percents = none_percents s.durable.receivers;
    }

begins_soundly : (address : ℕ) (s : DistState) (ask : Option Settings) → DistRequestFits (DistributionStart ask) → IsDistState s → Leads (begins address s ask)
begins_soundly address s None fits h = tt
begins_soundly address s (Some ask) fits h =
    split (is_uploading (run_upload s)) _ _ (λ a. tt)
    (λ a. split (nat_le (length s.durable.images) ask.image) _ _ (λ b. tt)
    (λ b. split (length s.durable.receivers == 0) _ _ (λ c. tt)
    (λ c. split (s.durable.counter == 281474976710655) _ _ (λ d. tt)
    (λ d. begun_sound address _ (begun_ready s ask fits h a b c d)))))

goes_again : (address : ℕ) (s : DistState) → IsDistState s → is_at_rest s.durable.phase ≡ false → IsDistState (resumes address s)
goes_again address s h busy = begun_sound address (in_phase s TransferActive) (ready _ (phase_moved s TransferActive h busy refl))

busy_in : (s : DistState) (p : DistPhase) → s.durable.phase ≡ p → is_at_rest p ≡ false → is_at_rest s.durable.phase ≡ false
busy_in s p e k = ap is_at_rest e ∙ k

pub starts_soundly : (address : ℕ) (s : DistState) (ask : Option Settings) (p : DistPhase) → s.durable.phase ≡ p → DistRequestFits (DistributionStart ask) → IsDistState s → Leads (distribution_start address s ask p)
starts_soundly address s ask Idle e fits h = begins_soundly address s ask fits h
starts_soundly address s ask Completed e fits h = begins_soundly address s ask fits h
starts_soundly address s ask Failed e fits h = begins_soundly address s ask fits h
starts_soundly address s ask TransferSuspended e fits h = split (are_settings ask s.durable.settings) _ _ (λ k. goes_again address s h (busy_in s TransferSuspended e refl)) (λ k. tt)
starts_soundly address s ask TransferActive e fits h = split (are_settings ask s.durable.settings) _ _ (λ k. h) (λ k. tt)
starts_soundly address s ask TransferSuccess e fits h = split (are_settings ask s.durable.settings) _ _ (λ k. h) (λ k. tt)
starts_soundly address s ask ApplyingUpdate e fits h = split (are_settings ask s.durable.settings) _ _ (λ k. h) (λ k. tt)
starts_soundly address s ask CancelingUpdate e fits h = split (are_settings ask s.durable.settings) _ _ (λ k. h) (λ k. tt)

-- ---- the others

pub suspends_soundly : (s : DistState) (p : DistPhase) → s.durable.phase ≡ p → IsDistState s → Leads (distribution_suspend s p)
suspends_soundly s TransferActive e h = phase_moved s TransferSuspended h (busy_in s TransferActive e refl) refl
suspends_soundly s TransferSuspended e h = h
suspends_soundly s Idle e h = tt
suspends_soundly s TransferSuccess e h = tt
suspends_soundly s ApplyingUpdate e h = tt
suspends_soundly s Completed e h = tt
suspends_soundly s Failed e h = tt
suspends_soundly s CancelingUpdate e h = tt

canceled : (s : DistState) (client : Option Client) → s.client ≡ client → IsDistState s → is_at_rest s.durable.phase ≡ false → IsDistState (cancels s client)
canceled s None e h busy = phase_moved s CancelingUpdate h busy refl
canceled s (Some c) e h busy = client_turned (in_phase s CancelingUpdate) c (take_cancel c) (phase_moved s CancelingUpdate h busy refl) e (cancel_rows c)

-- from one phase at rest to Idle
rests_durable : (d : DistDurable) → IsDistDurable d → is_at_rest d.phase ≡ true → IsDistDurable (record d { phase = Idle })
rests_durable d h rest = record {
  capacity = h.capacity;
  images = h.images;
  banks = h.banks;
  counter = h.counter;
  unbegun = λ e. (refl, (h.unbegun e).1);
  begun = h.begun;
  image = λ e. cc;
  some_receiver = λ e. cc;
  receivers = h.receivers;
  addresses = h.addresses;
  few_receivers = h.few_receivers;
  upload_ttl = h.upload_ttl;
  upload_meta = h.upload_meta;
  upload_job = h.upload_job;
  upload = rests_upload d.upload h.upload;
}
  where
    rests_upload : (upload : Upload) → HasUpload d.phase upload → HasUpload Idle upload
    rests_upload NoUpload k = tt
    rests_upload (Uploading j) k = refl
    rests_upload (Broken job) k = tt
    rests_upload Uploaded k = tt

rested : (s : DistState) (p : DistPhase) → s.durable.phase ≡ p → is_at_rest p ≡ true → IsDistState s → IsDistState (at_rest s Idle)
rested s p e rest h = record {
  durable = rests_durable s.durable h.durable (ap is_at_rest e ∙ rest);
  fresh = h.fresh;
  current = h.current;
  client = refl;
  progress = h.progress;
  percents = h.percents;
}

pub cancels_soundly : (s : DistState) (p : DistPhase) → s.durable.phase ≡ p → IsDistState s → Leads (distribution_cancel s p)
cancels_soundly s TransferActive e h = canceled s s.client refl h (busy_in s TransferActive e refl)
cancels_soundly s TransferSuccess e h = canceled s s.client refl h (busy_in s TransferSuccess e refl)
cancels_soundly s TransferSuspended e h = canceled s s.client refl h (busy_in s TransferSuspended e refl)
cancels_soundly s Completed e h = rested s Completed e refl h
cancels_soundly s Failed e h = rested s Failed e refl h
cancels_soundly s ApplyingUpdate e h = tt
cancels_soundly s Idle e h = h
cancels_soundly s CancelingUpdate e h = h

applied : (s : DistState) (client : Option Client) → s.client ≡ client → IsDistState s → is_at_rest s.durable.phase ≡ false → IsDistState (applies s client)
applied s None e h busy = phase_moved s ApplyingUpdate h busy refl
applied s (Some c) e h busy = client_turned (in_phase s ApplyingUpdate) c (take_apply c) (phase_moved s ApplyingUpdate h busy refl) e (rows_same c.receivers)

pub applies_soundly : (s : DistState) (p : DistPhase) → s.durable.phase ≡ p → IsDistState s → Leads (distribution_apply s p)
applies_soundly s TransferSuccess e h = applied s s.client refl h (busy_in s TransferSuccess e refl)
applies_soundly s ApplyingUpdate e h = h
applies_soundly s Idle e h = tt
applies_soundly s TransferActive e h = tt
applies_soundly s Completed e h = tt
applies_soundly s Failed e h = tt
applies_soundly s CancelingUpdate e h = tt
applies_soundly s TransferSuspended e h = tt
