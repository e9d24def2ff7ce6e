-- A record of a distributor, as its flash work.
use Rattle.std.proofs.Common.{◌≡◌, ◌∙◌, ℕ, ◌+◌, Bool, true, false, None, List, [], ◌∷◌, refl, sym, ap, subst, arith}
use Rattle.std.proofs.lemmas.Slice.Zip.{AllZip-long}
use Rattle.std.specs.List.{AllZip}
use Rattle.std.specs.Prelude.{IfOk, Result, Ok, Err, MatchResult, if◌then◌else◌, ◌&&◌, nat_lt, ◌-◌, ◌^◌}
use Rattle.mu_model_flash.specs.Flash.{Seen}
use Rattle.mu_model_flash.specs.Laws.{RunLaws, RunsAreRead}
use Rattle.mu_model_flash.specs.Run.{either, last_of, Ran, Broke}
use Rattle.mu_model_node.specs.declared.FlashWork.TheVariants.{Recorded}
use Rattle.mu_model_node.specs.FlashWork.{work_by, fresh_after}
use Rattle.mu_model_record.specs.declared.Record.{Record}
use Rattle.mu_model_record.specs.Record.{IsRecord}
use Rattle.mu_model_record.specs.Represents.{RepresentsStore}
use Rattle.mu_model_record.specs.Store.{StoreState}
use Rattle.mu_model_record.specs.ChangeLaws.{IsTag, IsNotLast}
use Rattle.mu_model_record.specs.Next.{record_steps, is_short}
use Rattle.mu_model_record.specs.Next.{fresh_after as slots_after}
use Rattle.mu_model_distributor.specs.Commit.{is_long}
use Rattle.mu_model_distributor.specs.DistState.{DistDurable, DistState, job_of}
use Rattle.mu_model_distributor.specs.Sound.{IsDistDurable}
use Rattle.mu_model_represents.specs.Laws.{RepresentedIsAState}
use Rattle.mu_model_represents.specs.StoreStates.{IsStoreState}
use Rattle.mu_model_represents_distributor.specs.Laws.{DistributorIsSound}
use Rattle.mu_model_represents_distributor.specs.Numbers.{HasUploadMtu, HasDistributorNumbers}
use Rattle.mu_model_represents_distributor.specs.RepresentsDistributor.{IsDistributor, RepresentsDistributor, part_of_upload, note_of_distributor, distributor_tag}
use Rattle.mu_model_represents_distributor.specs.Short.{StoresAreReadAsDistributors}
use Rattle.mu_model_represents_distributor.specs.Written.{KeepsDistributor, DistributorTagIsATag, DistributorTagIsReadBack}
use Rattle.mu_model_stored_distributor.specs.Kept.{DistributorIsKept}
use Rattle.mu_model_stored_distributor.specs.Steps.{DistributorFreshIsTheSame, DistributorRecordSteps}
use Rattle.mu_store.specs.declared.faults.StoreFault.{StoreFault}
use Rattle.mu_place.specs.declared.place.Place.{Place}
use Rattle.mu_place.specs.declared.place.Place.TheVariants.{Rest, Fill, Halted}
use Rattle.mu_place.specs.Place.{place_flash, place_seen, place_fault, place_record, place_fresh, PlaceHolds}
use Rattle.mu_place.specs.Calls.{WornAtLast, IsFlash, PlaceGoes}
use Rattle.mu_blobsrv.specs.declared.server.BlobServer.{BlobServer}
use Rattle.mu_blobsrv.specs.Views.{place_of}
use Rattle.mu_distributor_server.specs.Events.{ServerWorks}
use Rattle.mu_distributor_server.specs.Shows.{Carries}
use Rattle.mu_distributor_server.specs.Ways.{as_store, as_distributor, StateOf, reading_of}

-- ---- a place that holds a state

module _ {F : Type 0} {g : _} (seen : F → Seen) where
  pub seen_of_flash : (p : Place F g) → seen (place_flash p) ≡ place_seen seen p
  seen_of_flash (Rest store) = refl
  seen_of_flash (Fill filling) = refl
  seen_of_flash (Halted stopped) = refl

  pub held_represents : (p : Place F g) (s : StoreState) → PlaceHolds seen p s → RepresentsStore s (place_seen seen p).octets
  held_represents (Rest store) s holds = (store.base.place.page, holds.at.word, holds.at.represents)
  held_represents (Fill filling) s holds = (filling.base.place.page, holds.base.at.word, holds.base.at.represents)
  held_represents (Halted stopped) s holds = absurd holds

  pub held_present : (p : Place F g) (s : StoreState) → PlaceHolds seen p s → s.present ≡ place_record p
  held_present (Rest store) s holds = holds.fields
  held_present (Fill filling) s holds = holds.base.fields
  held_present (Halted stopped) s holds = absurd holds

-- ---- what goes on unless the record before was the last

-- P, where the call was done or the flash failed
abbrev pub Unworn : {T : Type 0} → Result T StoreFault → Type 0 → Type 0
Unworn result P = MatchResult result (λ _. P) (λ why. IsFlash why → P)

pub unworn : {T : Type 0} {P Q : Type 0} (result : Result T StoreFault) → Unworn result P → (P → Q) → Unworn result Q
unworn (Ok t) p f = f p
unworn (Err why) p f = λ flash. f (p flash)

pub not_last : {F T : Type 0} {g : _} (old : Place F g) (result : Result T StoreFault) → place_fault old ≡ None → IsRecord (place_record old) → WornAtLast old result
    → Unworn result (IsNotLast (place_record old))
not_last old (Ok t) none is worn =
    let never : (place_record old).count ≡ 2 ^ 32 - 1 → ⊥ = λ e. (worn none).1 e in
    omega (arith, is.count_most, never)
not_last old (Err why) none is worn = λ flash.
    let never : (place_record old).count ≡ 2 ^ 32 - 1 → ⊥ = λ e. cc ((worn none).1 e, flash) in
    omega (arith, is.count_most, never)

-- ---- a run that is read

module _ {F : Type 0} {g : _} (seen : F → Seen) (runs : RunLaws StateOf reading_of seen) (refines : StoresAreReadAsDistributors) (old new : Place F g) where
  read_runs : RunsAreRead StateOf reading_of (place_seen seen old) (place_seen seen new)
  read_runs =
      subst (λ (a : Seen). RunsAreRead StateOf reading_of a (place_seen seen new)) (seen_of_flash seen old)
      (subst (λ (b : Seen). RunsAreRead StateOf reading_of (seen (place_flash old)) b) (seen_of_flash seen new) (runs.read (place_flash old) (place_flash new)))

  pub ran_as : (s : StoreState) (xs : List StoreState) (d : DistDurable) (ds : List DistDurable) → IsDistributor s d → AllZip IsDistributor xs ds
      → Ran (either RepresentsStore) s xs (place_seen seen old) (place_seen seen new) → Ran (either RepresentsDistributor) d ds (place_seen seen old) (place_seen seen new)
  ran_as s xs d ds is zip ran = read_runs.ran as_store as_distributor s xs d ds (sym (AllZip-long IsDistributor xs ds zip)) (λ told. refines s xs d ds is zip) ran

  pub broke_as : (s : StoreState) (xs : List StoreState) (d : DistDurable) (ds : List DistDurable) → IsDistributor s d → AllZip IsDistributor xs ds
      → Broke (either RepresentsStore) s xs (place_seen seen old) (place_seen seen new) → Broke (either RepresentsDistributor) d ds (place_seen seen old) (place_seen seen new)
  broke_as s xs d ds is zip broke = read_runs.broke as_store as_distributor s xs d ds (sym (AllZip-long IsDistributor xs ds zip)) (λ told. refines s xs d ds is zip) broke

-- ---- a record that is written

pub record RecordLaws {F : Type 0} (seen : F → Seen) : Type 0 where
  pub runs : RunLaws StateOf reading_of seen
  pub refines : StoresAreReadAsDistributors
  pub represented : RepresentedIsAState
  pub sound : DistributorIsSound
  pub tag : DistributorTagIsATag
  pub read_back : DistributorTagIsReadBack
  pub kept : DistributorIsKept
  pub fresh : DistributorFreshIsTheSame
  pub steps : DistributorRecordSteps

last_state : (b : Bool) (s t : StoreState) → last_of s (if b then t ∷ [] else s ∷ t ∷ []) ≡ t
last_state true s t = refl
last_state false s t = refl

pub record IsWritten (s : StoreState) (d : DistDurable) : Type 0 where
  pub is_state : IsStoreState s
  pub is : IsDistributor s d

module _ {F : Type 0} {g : _} (seen : F → Seen) (laws : RecordLaws seen) (old new : BlobServer F g) (s t : DistState) (from : Carries seen old s) (to : StoreState)
    (fresh : t.fresh ≡ fresh_after (is_long t.durable) s.fresh) where
  abbrev Slots : Type 0
  Slots = place_fresh (place_of new) ≡ slots_after (place_fresh (place_of old)) (place_record (place_of new))

  carried : IsWritten to t.durable → Slots → PlaceHolds seen (place_of new) to → Carries seen new t
  carried w slots holds = record {
    fresh =
        fresh ∙ ap (fresh_after (is_long t.durable)) from.fresh ∙ sym (laws.fresh (place_fresh (place_of old)) to t.durable w.is_state w.is)
        ∙ ap (slots_after (place_fresh (place_of old))) (held_present seen (place_of new) to holds) ∙ sym slots;
    store = to;
    holds = holds;
    represents = w.is;
  }

  steps : IsWritten to t.durable → AllZip IsDistributor (record_steps (place_fresh (place_of old)) from.store to) (work_by s.fresh s.durable t.durable (Recorded (is_long t.durable)))
  steps w =
      subst (λ (f : ℕ). AllZip IsDistributor (record_steps (place_fresh (place_of old)) from.store to) (work_by f s.durable t.durable (Recorded (is_long t.durable)))) (sym from.fresh)
      (laws.steps (place_fresh (place_of old)) from.store to s.durable t.durable w.is_state from.represents w.is)

  pub record_works : {T : Type 0} (result : Result T StoreFault) → Unworn result (IsWritten to t.durable) → IfOk result (λ _. Slots)
      → PlaceGoes seen from.store (record_steps (place_fresh (place_of old)) from.store to) (place_of old) (place_of new) result
      → ServerWorks seen s t (Recorded (is_long t.durable)) old new result
  record_works (Ok u) w slots goes = (
    ran_as seen laws.runs laws.refines (place_of old) (place_of new) from.store (record_steps (place_fresh (place_of old)) from.store to) s.durable
        (work_by s.fresh s.durable t.durable (Recorded (is_long t.durable))) from.represents (steps w) goes.0,
    carried w slots
        (subst (λ (x : StoreState). PlaceHolds seen (place_of new) x) (last_state (is_short to.present && nat_lt 0 (place_fresh (place_of old))) from.store to) goes.1),
  )
  record_works (Err why) w slots goes = λ flash.
      broke_as seen laws.runs laws.refines (place_of old) (place_of new) from.store (record_steps (place_fresh (place_of old)) from.store to) s.durable
      (work_by s.fresh s.durable t.durable (Recorded (is_long t.durable))) from.represents (steps (w flash)) (goes flash)

-- ---- what it says

module _ {F : Type 0} (seen : F → Seen) (laws : RecordLaws seen) where
  pub state_kept : {g : _} (server : BlobServer F g) (s : DistState) (c : Carries seen server s) → IsStoreState c.store
  state_kept server s c = laws.represented c.store (place_seen seen (place_of server)).octets (held_represents seen (place_of server) c.store c.holds)

  pub keeps_kept : {g : _} (server : BlobServer F g) (s : DistState) (c : Carries seen server s) → KeepsDistributor c.store s.durable
  keeps_kept server s c = laws.kept c.store c.represents.0 c.represents.1 s.durable (state_kept server s c) c.represents.2

  pub numbers_kept : {g : _} (server : BlobServer F g) (s : DistState) (c : Carries seen server s) → HasDistributorNumbers s.durable
  numbers_kept server s c = (laws.sound c.store s.durable (state_kept server s c) c.represents).1

  pub numbers_next : (r : Record) (d e : DistDurable) → IsNotLast r → d.count ≡ r.count → e.count ≡ d.count + 1 → HasUploadMtu (job_of e.upload) → HasDistributorNumbers e
  numbers_next r d e last same next mtu = record { count = record { least = omega (arith, next); most = omega (arith, last, same, next) }; mtu = mtu }

  pub written_next : (to : StoreState) (e : DistDurable) → IsStoreState to → KeepsDistributor to e → IsDistDurable e → HasDistributorNumbers e → to.present.tag ≡ distributor_tag e → IsWritten to e
  written_next to e is keeps sound numbers tag =
      record { is_state = is; is = (part_of_upload (job_of e.upload), note_of_distributor e, laws.read_back to e sound numbers keeps tag) }

  pub is_tag : (tag : List ℕ) (e : DistDurable) → tag ≡ distributor_tag e → IsDistDurable e → HasDistributorNumbers e → IsTag tag
  is_tag tag e same sound numbers = subst IsTag (sym same) (laws.tag e sound numbers)
