-- What a boot of a distributor gives.
use Rattle.std.proofs.Common.{◌≡◌, ◌∙◌, ℕ, false, List, Option, Some, None, refl, sym, ap, subst, inl, inr}
use Rattle.std.specs.Option.{option_map}
use Rattle.std.specs.Prelude.{is_some, Result, Ok, Err, IfOk, IfErr, OnErr, MatchResult}
use Rattle.mu_model_flash.specs.Flash.{Seen}
use Rattle.mu_model_record.specs.declared.Record.{Record}
use Rattle.mu_model_record.specs.Record.{capacity_of}
use Rattle.mu_model_record.specs.Kinds.{IsStore}
use Rattle.mu_model_record.specs.Store.{StoreState}
use Rattle.mu_model_node.specs.Slots.{received}
use Rattle.mu_model_node.specs.BlobServer.{asleep}
use Rattle.mu_model_distributor.specs.DistState.{UploadJob, DistDurable, job_of}
use Rattle.mu_model_distributor.specs.DistEvents.{restarted}
use Rattle.mu_model_represents.specs.BlobPart.{BlobJob, IsNoBlobRecord}
use Rattle.mu_model_represents_distributor.specs.Boots.{IsForeignToDistributors, DistributorsAreNotForeign}
use Rattle.mu_model_represents_distributor.specs.DistributorNote.{DistributorNote, UploadPhase, UploadIdle, UploadActive, UploadError, UploadSuccess}
use Rattle.mu_model_represents.specs.Laws.{BlobPartIsOne}
use Rattle.mu_model_represents_distributor.specs.RepresentsDistributor.{UploadGoesWith, IsDistributor, IsDistributorOf, IsNoDistributorRecord, RepresentsDistributor, upload_job_in, upload_by, part_of_upload}
use Rattle.mu_model_stored_distributor.specs.DistributorIn.{DistributorNoteIsRead}
use Rattle.mu_note.specs.declared.blob.BlobJob.{BlobJob as JobHere}
use Rattle.mu_note.specs.Views.{part_job}
use Rattle.mu_distributor_kept.specs.declared.phase.UploadPhase.{UploadPhase as UploadPhaseHere}
use Rattle.mu_distributor_kept.specs.declared.phase.UploadPhase.TheVariants.{Idle, TransferActive, TransferError, TransferSuccess}
use Rattle.mu_distributor_kept.specs.Views.{upload_phase}
use Rattle.mu_distributor_rows.specs.Decided.{is_in_part}
use Rattle.mu_distributor_memory.specs.declared.memory.Memory.{Memory}
use Rattle.mu_distributor_memory.specs.Shows.{upload_in}
use Rattle.mu_store.specs.Booted.{booted_record, booted_fresh, IsKind}
use Rattle.mu_store.specs.declared.booting.BootFail.{BootFail}
use Rattle.mu_store.specs.declared.booting.BootWhy.{BootWhy}
use Rattle.mu_store.specs.declared.booting.BootWhy.TheVariants.{Flash, Blank, Foreign, Damaged}
use Rattle.mu_store.specs.declared.booting.Booted.{Booted}
use Rattle.mu_store.specs.declared.booting.Booted.TheVariants.{Rest, Fill}
use Rattle.mu_place.specs.Place.{placed, place_record, place_fresh, PlaceHolds}
use Rattle.mu_kept.specs.Shows.{held_in}
use Rattle.mu_kept.specs.Views.{job_in, part_in, flags_in}
use Rattle.mu_blobsrv.specs.declared.server.BlobServer.{BlobServer}
use Rattle.mu_blobsrv.specs.Views.{store_of, place_of, session_of}
use Rattle.mu_distributor_server.specs.declared.distributor.Distributor.{Distributor}
use Rattle.mu_distributor_server.specs.Boots.{IsDistributorKind, IsBooted}
use Rattle.mu_distributor_server.specs.Shows.{blocks_of, IsServing, Holds}
use Rattle.mu_distributor_server.specs.Views.{server_in, memory_in, moment_of}
use Rattle.mu_distributor_server.proofs.Booted.{one_of}

-- the record that a boot found, and its fresh slots
pub record_placed : {F : Type 0} {g : _} (booted : Booted F g) → booted_record booted ≡ place_record (placed booted)
record_placed (Rest store) = refl
record_placed (Fill filling) = refl

pub fresh_placed : {F : Type 0} {g : _} (booted : Booted F g) → booted_fresh booted ≡ place_fresh (placed booted)
fresh_placed (Rest store) = refl
fresh_placed (Fill filling) = refl

-- what is no store is no distributor
pub no_store : (image : List ℕ) (why : BootWhy) → IsKind image why → IsDistributorKind image why
no_store image Flash is = tt
no_store image Blank is = is
no_store image Foreign is = inl is
no_store image (Damaged bank want found) is = is

-- a record that is no BLOB server's is no distributor's
pub no_distributor : (r : Record) → IsNoBlobRecord r → IsNoDistributorRecord r
no_distributor r none part note is = none part is.blob

-- a store whose record is no distributor's is foreign to distributors
pub foreign : (image : List ℕ) (r q : Record) → IsStore image r → r ≡ q → IsNoDistributorRecord q → IsForeignToDistributors image
foreign image r q store same none = inr (r, store, subst (λ (p : Record). IsNoDistributorRecord p) (sym same) none)

pub is_foreign : (image : List ℕ) (why : BootWhy) → why ≡ Foreign → IsForeignToDistributors image → IsDistributorKind image why
is_foreign image why e is = subst (λ (w : BootWhy). IsDistributorKind image w) (sym e) is

-- and no distributor's flash is
pub never : (P : Type 0) (image : List ℕ) (d : DistDurable) → DistributorsAreNotForeign → RepresentsDistributor d image → IsForeignToDistributors image → P
never P image d law found is = absurd (law image d found is)

-- ---- what the BLOB server keeps of it

job_by : (phase : UploadPhase) (at : _) (s : StoreState) (part : Option BlobJob) → UploadGoesWith phase at part → job_of (upload_by phase (upload_job_in s part)) ≡ upload_job_in s part
job_by UploadIdle at s part goes = ap (upload_job_in s) (sym goes)
job_by UploadActive at s None goes = refl
job_by UploadActive at s (Some b) goes = refl
job_by UploadError at s part goes = refl
job_by UploadSuccess at s part goes = ap (upload_job_in s) (sym goes)

part_by : (s : StoreState) (part : Option BlobJob) → part_of_upload (upload_job_in s part) ≡ part
part_by s None = refl
part_by s (Some b) = refl

blocks_by : (s : StoreState) (part : Option BlobJob) → blocks_of (upload_job_in s part) ≡ held_in s part
blocks_by s None = refl
blocks_by s (Some b) = refl

-- what a boot says of the server that it found, beside a state that its flash represents
pub record IsFound {F : Type 0} {g : _} (seen : F → Seen) (server : BlobServer F g) (s : StoreState) : Type 0 where
  pub holds : PlaceHolds seen (place_of server) s
  pub present : s.present ≡ place_record (place_of server)
  pub shows : received (held_in s (part_in (store_of server))) ≡ flags_in (store_of server)
  pub session : session_of server ≡ asleep
  pub fresh : place_fresh (place_of server) ≡ 0

serving : {F : Type 0} {g : _} (seen : F → Seen) (server : BlobServer F g) (s : StoreState) (n : DistributorNote) (d : DistDurable) (address : ℕ) → IsFound seen server s
    → IsDistributorOf s (part_in (store_of server)) n d → IsServing server (restarted address d)
serving seen server s n d address found of =
    let job : job_of d.upload ≡ upload_job_in s (part_in (store_of server)) = ap job_of of.upload ∙ job_by n.upload n.phase s (part_in (store_of server)) of.is_record.upload in
    record {
      count = of.count ∙ ap (λ (r : Record). r.count) found.present;
      capacity = of.capacity ∙ ap capacity_of found.present;
      job = ap part_of_upload job ∙ part_by s (part_in (store_of server));
      blocks = ap (λ (o : Option UploadJob). received (blocks_of o)) job ∙ ap received (blocks_by s (part_in (store_of server))) ∙ found.shows;
      session = sym found.session;
    }

pub kinds_of : {F : Type 0} {g : _} (image : List ℕ) (server : BlobServer F g) (result : Result (Distributor F g) (BootFail F)) → IsStore image (place_record (place_of server)) → IfOk result (λ v. server_in v ≡ server)
    → IfErr result (λ fail. fail.why ≡ Foreign) → OnErr result (IsNoDistributorRecord (place_record (place_of server)))
    → MatchResult result (λ v. IsStore image (place_record (place_of (server_in v)))) (λ fail. IsDistributorKind image fail.why)
kinds_of image server (Ok v) store same why none = subst (λ s. IsStore image (place_record (place_of s))) (sym same) store
kinds_of image server (Err fail) store same why none = is_foreign image fail.why why (foreign image (place_record (place_of server)) (place_record (place_of server)) store refl none)

module _ {F : Type 0} {g : _} (seen : F → Seen) (read : DistributorNoteIsRead) (one : BlobPartIsOne) (address : ℕ) (d : DistDurable) (s : StoreState) (is : IsDistributor s d) where
  holds_of : (v : Distributor F g) → IsFound seen (server_in v) s → IsBooted seen (server_in v) (memory_in v) → moment_of v ≡ 0 → Holds seen v (restarted address d)
  holds_of v found booted moment =
      let of : IsDistributorOf s (part_in (store_of (server_in v))) booted.note d =
      one_of read one s (place_record (place_of (server_in v))) (part_in (store_of (server_in v))) booted.note d found.present booted.rules is in
      record {
        shows = record {
          memory = booted.memory address s d found.holds is;
          server = serving seen (server_in v) s booted.note d address found of;
          moment = sym moment;
        };
        carries = record { fresh = sym found.fresh; store = s; holds = found.holds; represents = is };
      }

  pub state_of : (image : List ℕ) (server : BlobServer F g) (result : Result (Distributor F g) (BootFail F)) → IsFound seen server s → IsStore image (place_record (place_of server)) → DistributorsAreNotForeign
      → RepresentsDistributor d image → IfOk result (λ v. server_in v ≡ server) → IfOk result (λ v. IsBooted seen server (memory_in v)) → IfOk result (λ v. moment_of v ≡ 0)
      → OnErr result (IsNoDistributorRecord (place_record (place_of server))) → MatchResult result (λ v. Holds seen v (restarted address d)) (λ fail. fail.why ≡ Flash)
  state_of image server (Ok v) found store law has same booted moment none =
      holds_of v (subst (λ w. IsFound seen w s) (sym same) found) (subst (λ w. IsBooted seen w (memory_in v)) (sym same) booted) moment
  state_of image server (Err fail) found store law has same booted moment none =
      never (fail.why ≡ Flash) image d law has (foreign image (place_record (place_of server)) (place_record (place_of server)) store refl none)

-- ---- while no upload is in part there is no job

some_part : (job : Option JobHere) → is_some (option_map part_job job) ≡ is_some job
some_part None = refl
some_part (Some j) = refl

pub none_at_rest : (phase : UploadPhaseHere) (q : UploadPhase) (at : _) (job : Option JobHere) → upload_phase phase ≡ q → UploadGoesWith q at (option_map part_job job) → is_in_part phase ≡ false
    → is_some job ≡ false
none_at_rest Idle q at job e goes part =
    let none : option_map part_job job ≡ None = subst (λ (p : UploadPhase). UploadGoesWith p at (option_map part_job job)) (sym e) goes in
    sym (some_part job) ∙ ap is_some none
none_at_rest TransferSuccess q at job e goes part =
    let none : option_map part_job job ≡ None = subst (λ (p : UploadPhase). UploadGoesWith p at (option_map part_job job)) (sym e) goes in
    sym (some_part job) ∙ ap is_some none
none_at_rest TransferActive q at job e goes part = absurd (cc)
none_at_rest TransferError q at job e goes part = absurd (cc)

pub rests_booted : {F : Type 0} {g : _} (seen : F → Seen) (server : BlobServer F g) (m : Memory) → IsBooted seen server m → is_in_part (upload_in m) ≡ false → is_some (job_in (store_of server)) ≡ false
rests_booted seen server m booted part = none_at_rest (upload_in m) booted.note.upload booted.note.phase (job_in (store_of server)) booted.upload booted.rules.upload part

pub four_booted : {F : Type 0} {g : _} (seen : F → Seen) (server : BlobServer F g) (m : Memory) → IsBooted seen server m → (place_record (place_of server)).number ≡ 4
four_booted seen server m booted = booted.rules.four_banks
