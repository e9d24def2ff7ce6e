-- What a boot of a distributor gives.
use Rattle.std.proofs.Common.{◌≡◌, ◌∙◌, ℕ, ◌+◌, ◌≤◌, Bool, true, false, List, [], ◌∷◌, map, take, length, Option, Some, None, refl, sym, ap, subst, inl, inr}
use Rattle.std.specs.Prelude.{◌==◌, ◌&&◌, not, is_some}
use Rattle.std.specs.List.{AllZip}
use Rattle.mu_distmsg.specs.declared.message.ReceiverRow.{ReceiverRow}
use Rattle.mu_model_image.specs.declared.Meta.{Meta}
use Rattle.mu_model_record.specs.declared.Record.{Record}
use Rattle.mu_model_record.specs.Record.{entry_of}
use Rattle.mu_model_record.specs.Store.{StoreState}
use Rattle.mu_model_node.specs.declared.Parameters.{Parameters}
use Rattle.mu_model_node.specs.declared.Link.{Link}
use Rattle.mu_model_node.specs.declared.Link.TheVariants.{Cut, Ready, Running}
use Rattle.mu_model_node.specs.Slots.{is_full}
use Rattle.mu_model_node.specs.BlobServer.{Transfer, CurrentBlock, Session, serving_of, serving_by, Lacking, Whole, blob_number, serving_phase, transfer_phase}
use Rattle.mu_model_distributor.specs.DistState.{StoredImage, UploadJob, DistDurable, no_progress}
use Rattle.mu_model_distributor.specs.DistTime.{is_whole}
use Rattle.mu_model_distributor.specs.DistEvents.{restarted, is_broken_off}
use Rattle.mu_model_represents.specs.BlobPart.{BlobJob, note_part, IsBlobRecord, transfer_in}
use Rattle.mu_model_represents_distributor.specs.DistributorNote.{DistributorNote}
use Rattle.mu_model_represents.specs.Laws.{BlobPartIsOne}
use Rattle.mu_model_represents_distributor.specs.RepresentsDistributor.{UploadGoesWith, HasStored, IsDistributorRecord, IsDistributorOf, IsDistributor, upload_job_in, upload_by, bank_of}
use Rattle.mu_model_stored_distributor.specs.DistributorIn.{DistributorNoteIsRead}
use Rattle.mu_distributor_kept.specs.declared.phase.UploadPhase.{UploadPhase}
use Rattle.mu_distributor_kept.specs.declared.phase.UploadPhase.TheVariants.{Idle, TransferActive, TransferError, TransferSuccess}
use Rattle.mu_distributor_kept.specs.Views.{upload_phase, row_receivers}
use Rattle.mu_distributor_note.specs.declared.note.NoteHead.{NoteHead}
use Rattle.mu_distributor_note.specs.Views.{distributor_note}
use Rattle.mu_distributor_note.specs.Rules.{IsDistributorNote}
use Rattle.mu_distributor_rows.specs.Looks.{meta_of, phase_of}
use Rattle.mu_distributor_rows.specs.Receivers.{progress_in, AreRowsOf}
use Rattle.mu_distributor_memory.specs.Shows.{IsHeadBy}
use Rattle.mu_distributor_server.specs.Boots.{GoesWith, meta_by, lags_in}
use Rattle.mu_kept.specs.Shows.{served_in}

-- ---- the rules

pub rules_of : (r : Record) (part : Option BlobJob) (head : NoteHead) (rows : List ReceiverRow) → IsBlobRecord r part → IsDistributorNote (distributor_note head rows) (note_part r.tag)
    → GoesWith r part (distributor_note head []) → IsDistributorRecord r part (distributor_note head rows)
rules_of r part head rows blob is goes = record {
  four_banks = goes.four_banks;
  blob = blob;
  note_octets = is.spelled;
  banks_differ = is.rules.banks;
  banks_sealed = goes.banks_sealed;
  all_sealed = goes.all_sealed;
  counter = is.rules.begun.counter;
  unbegun = is.rules.begun.unbegun;
  begun = is.rules.begun.begun;
  image = is.rules.distribution.image;
  some_receiver = is.rules.distribution.some_receiver;
  receivers = is.rules.receivers.0;
  addresses = is.rules.receivers.1;
  upload = goes.upload;
  upload_job = goes.upload_job;
}

-- and a record that keeps these rules in its note keeps the others
pub goes_of : (r : Record) (part : Option BlobJob) (n : DistributorNote) → IsDistributorRecord r part n → GoesWith r part n
goes_of r part n is = record { four_banks = is.four_banks; banks_sealed = is.banks_sealed; all_sealed = is.all_sealed; upload = is.upload; upload_job = is.upload_job }

pub note_of_record : (r : Record) (part : Option BlobJob) (n : DistributorNote) → IsDistributorRecord r part n → IsDistributorNote n (note_part r.tag)
note_of_record r part n is = record {
  spelled = is.note_octets;
  rules = record {
    banks = is.banks_differ;
    begun = record { counter = is.counter; unbegun = is.unbegun; begun = is.begun };
    distribution = record { image = is.image; some_receiver = is.some_receiver };
    receivers = (is.receivers, is.addresses);
  };
}

-- ---- images

images_zip : (s : StoreState) (banks : List ℕ) (images : List StoredImage) → AllZip (HasStored s) banks images
    → (banks ≡ map bank_of images) × (map (λ (b : ℕ). meta_by (entry_of s.present b)) banks ≡ map meta_of images)
images_zip s [] [] all = (refl, refl)
images_zip s [] (x ∷ images) all = absurd all
images_zip s (b ∷ banks) [] all = absurd all
images_zip s (b ∷ banks) (x ∷ images) all =
    let rest = images_zip s banks images all.1 in
    let meta : meta_by (entry_of s.present b) ≡ x.image.meta = ap meta_by all.0.image.entry in
    ((λ i. sym all.0.there i ∷ rest.0 i), (λ i. meta i ∷ rest.1 i))

-- ---- the upload

recorded_by : (phase : UploadPhase) (at : _) (job : Option UploadJob) (part : Option BlobJob) → is_some job ≡ is_some part → UploadGoesWith (upload_phase phase) at part
    → phase_of (upload_by (upload_phase phase) job) ≡ phase
recorded_by Idle at job part same goes = refl
recorded_by TransferActive at None part same goes = absurd (cc (goes.0))
recorded_by TransferActive at (Some j) part same goes = refl
recorded_by TransferError at job part same goes = refl
recorded_by TransferSuccess at job part same goes = refl

some_job : (s : StoreState) (part : Option BlobJob) → is_some (upload_job_in s part) ≡ is_some part
some_job s None = refl
some_job s (Some b) = refl

-- the phase 4 is that of a transfer whose blocks are all held
lacking_phase : (t : Transfer) (parameters : Option Parameters) (link : Link) (current : Option CurrentBlock) → (blob_number (transfer_phase t parameters link current) == 4) ≡ false
lacking_phase t None Cut current = refl
lacking_phase t None Ready current = refl
lacking_phase t None Running current = refl
lacking_phase t (Some p) Cut current = refl
lacking_phase t (Some p) Ready current = refl
lacking_phase t (Some p) Running None = refl
lacking_phase t (Some p) Running (Some c) = refl

whole_by : (l : Session) (t : Transfer) (full : Bool) (p : Parameters) → t.parameters ≡ Some p
    → (blob_number (serving_phase l (Rattle.std.proofs.Common.cond full (Whole t) (Lacking t))) == 4) ≡ full
whole_by l t true p e = refl
whole_by l t false p e = lacking_phase t t.parameters l.link l.current

whole_phase_by : (l : Session) (t : Transfer) (parameters : Option Parameters) → t.parameters ≡ parameters
    → (blob_number (serving_phase l (serving_by t parameters)) == 4) ≡ (is_some parameters && is_full t.held)
whole_phase_by l t None e = lacking_phase t t.parameters l.link l.current
whole_phase_by l t (Some p) e = whole_by l t (is_full t.held) p e

pub whole_phase : (l : Session) (t : Transfer) → (blob_number (serving_phase l (serving_of t)) == 4) ≡ is_whole t
whole_phase l t = whole_phase_by l t t.parameters refl

pub lags_is : (phase : UploadPhase) (at : _) (s : StoreState) (part : Option BlobJob) (l : Session) → UploadGoesWith (upload_phase phase) at part
    → is_broken_off (upload_by (upload_phase phase) (upload_job_in s part)) ≡ lags_in phase (serving_phase l (served_in s part))
lags_is Idle at s part l goes = refl
lags_is TransferActive at s None l goes = absurd (cc (goes.0))
lags_is TransferActive at s (Some b) l goes = ap not (sym (whole_phase l (transfer_in s b)))
lags_is TransferError at s part l goes = refl
lags_is TransferSuccess at s part l goes = refl

-- ---- what is in memory

blank_progress : (rows : List ReceiverRow) → map (λ (row : ReceiverRow). row.progress) rows ≡ map (λ (row : ReceiverRow). 0) rows → no_progress (row_receivers rows) ≡ map progress_in rows
blank_progress [] blank = refl
blank_progress (row ∷ rows) blank =
    let first : row.progress ≡ 0 = ap (λ (l : List ℕ). Rattle.std.proofs.Common.get_or l 0 0) blank in
    let rest : map (λ (r : ReceiverRow). r.progress) rows ≡ map (λ (r : ReceiverRow). 0) rows = ap (λ (l : List ℕ). Rattle.std.proofs.Common.drop 1 l) blank in
    λ i. sym first i ∷ blank_progress rows rest i

module _ (address : ℕ) (s : StoreState) (r : Record) (part : Option BlobJob) (head : NoteHead) (rows : List ReceiverRow) (metas : List Meta) (l : Session) (d : DistDurable) (present : s.present ≡ r) (rules : IsDistributorRecord r part (distributor_note head rows)) (shown : take (length head.banks.items) metas ≡ map (λ (b : ℕ). meta_by (entry_of r b)) head.banks.items) (blank : map (λ (row : ReceiverRow). row.progress) rows ≡ map (λ (row : ReceiverRow). 0) rows) (of : IsDistributorOf s part (distributor_note head rows) d) where
  zip : (head.banks.items ≡ map bank_of d.images) × (map (λ (b : ℕ). meta_by (entry_of s.present b)) head.banks.items ≡ map meta_of d.images)
  zip = images_zip s head.banks.items d.images of.images

  pub head_booted : (lags : Bool) → lags ≡ lags_in head.upload (serving_phase l (served_in s part)) → IsHeadBy head metas lags (restarted address d)
  head_booted lags is = record {
    phase = of.phase;
    counter = of.counter;
    settings = of.settings;
    images = record { banks = zip.0; metas = shown ∙ ap (λ (q : Record). map (λ (b : ℕ). meta_by (entry_of q b)) head.banks.items) (sym present) ∙ zip.1 };
    recorded = ap phase_of of.upload ∙ recorded_by head.upload head.phase (upload_job_in s part) part (some_job s part) rules.upload;
    lags_is = ap is_broken_off of.upload ∙ lags_is head.upload head.phase s part l rules.upload ∙ sym is;
    upload_ttl = of.upload_ttl;
    upload_meta = of.upload_meta;
  }

  pub rows_booted : AreRowsOf rows (restarted address d)
  rows_booted = record { receivers = of.receivers; progress = ap no_progress of.receivers ∙ blank_progress rows blank }

-- the note that a distributor's record spells is one, and so is its job
pub one_of : DistributorNoteIsRead → BlobPartIsOne → (s : StoreState) (r : Record) (part : Option BlobJob) (n : DistributorNote) (d : DistDurable) → s.present ≡ r
    → IsDistributorRecord r part n → IsDistributor s d → IsDistributorOf s part n d
one_of read one s r part n d present rules found =
    let there : IsDistributorRecord r found.0 found.1 = subst (λ (q : Record). IsDistributorRecord q found.0 found.1) present found.2.is_record in
    let notes : found.1 ≡ n = sym (read found.1 (note_part r.tag) there.note_octets) ∙ read n (note_part r.tag) rules.note_octets in
    let parts : found.0 ≡ part = one r found.0 part there.blob rules.blob in
    subst (λ (p : Option BlobJob). IsDistributorOf s p n d) parts (subst (λ (m : DistributorNote). IsDistributorOf s found.0 m d) notes found.2)

-- a record that is a distributor's keeps the rules that look at its banks, by the note and the job that were read
pub keeps_rules : DistributorNoteIsRead → BlobPartIsOne → (r : Record) (part : Option BlobJob) (head : NoteHead) (rows : List ReceiverRow) → IsBlobRecord r part
    → IsDistributorNote (distributor_note head rows) (note_part r.tag) → (other : Option BlobJob) (n : DistributorNote) → IsDistributorRecord r other n → GoesWith r part (distributor_note head [])
keeps_rules read one r part head rows blob is other n rules =
    let notes : n ≡ distributor_note head rows = sym (read n (note_part r.tag) rules.note_octets) ∙ read (distributor_note head rows) (note_part r.tag) is.spelled in
    let parts : other ≡ part = one r other part rules.blob blob in
    let goes : GoesWith r part (distributor_note head rows) =
    subst (λ (p : Option BlobJob). GoesWith r p (distributor_note head rows)) parts (subst (λ (m : DistributorNote). GoesWith r other m) notes (goes_of r other n rules)) in
    record { four_banks = goes.four_banks; banks_sealed = goes.banks_sealed; all_sealed = goes.all_sealed; upload = goes.upload; upload_job = goes.upload_job }
