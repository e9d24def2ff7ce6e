-- A node in memory after a record.
use Rattle.std.proofs.Common.{◌≡◌, ◌∙◌, ℕ, List, [], ◌∷◌, Bool, true, false, Option, Some, None, refl, sym, ap, subst, arith}
use Rattle.std.specs.Prelude.{◌≢◌, ◌==◌, ◌||◌, IfSome}
use Rattle.std.specs.List.{AllByRecursion}
use Rattle.std.specs.Option.{option_map}
use Rattle.std.proofs.lemmas.Bool.Decides.{nat_tests}
use Rattle.mu_model_record.specs.declared.Record.{Record}
use Rattle.mu_model_record.specs.declared.BankState.{BankState}
use Rattle.mu_model_record.specs.declared.BankState.TheVariants.{Empty, Filling, Sealed}
use Rattle.mu_model_record.specs.Record.{IsRecord, IsFilling, entry_of}
use Rattle.mu_model_record.specs.Next.{fresh_after}
use Rattle.mu_model_record.specs.Changes.{next_record}
use Rattle.mu_model_node.specs.Slots.{Slots, received}
use Rattle.mu_model_node.specs.NodeState.{NodeDurable}
use Rattle.mu_model_node.specs.FlashWork.{fresh_after as fresh_left}
use Rattle.mu_model_represents.specs.BlobPart.{IsBlobRecord}
use Rattle.mu_model_represents.specs.Images.{IsSealed, is_among}
use Rattle.mu_model_represents.specs.NodeNote.{note_octets}
use Rattle.mu_model_represents.specs.Notes.{NoteFits}
use Rattle.mu_model_represents.specs.RepresentsNode.{HasNodeJob}
use Rattle.mu_model_stored_node.specs.Kept.{with_next}
use Rattle.mu_model_shown_node.specs.Shown.{IsNodeMemory, job_with, IsShown}
use Rattle.mu_model_shown_node.specs.Next.{ActiveStay, IsNext, NextIsShown, OthersStay}
use Rattle.mu_model_written_node.specs.Memory.{WrittenIsANode, WrittenIsShort}
use Rattle.mu_note.specs.declared.blob.BlobJob.{BlobJob}
use Rattle.mu_note.specs.declared.node.NodeNote.{NodeNote as NoteHere}
use Rattle.mu_note.specs.Views.{part_job, note_job, node_note, active_banks}
use Rattle.mu_place.specs.declared.place.FillingBank.{FillingBank}
use Rattle.mu_place.specs.Place.{place_record, place_fresh}
use Rattle.mu_kept.specs.Calls.{banks_given_up}
use Rattle.mu_kept.specs.Calls.{note_in as note_of_store}
use Rattle.mu_kept.specs.Tags.{tag_with}
use Rattle.mu_kept.specs.Views.{job_in, part_in, flags_in}
use Rattle.mu_blobsrv.specs.declared.server.BlobServer.{BlobServer}
use Rattle.mu_blobsrv.specs.Views.{store_of, place_of}
use Rattle.mu_node.specs.Rules.{GoesWith}
use Rattle.mu_node.specs.Memory.{memory_with}

-- ---- the active banks stay

pub same_banks : (active : List ℕ) (r : Record) (tag : List ℕ) → ActiveStay active r (next_record r r.banks tag)
same_banks active r tag b is = refl

no_both : (entry : BankState) → IsSealed entry → IsFilling entry → ⊥
no_both Empty a b = a
no_both (Filling size log) a b = a
no_both (Sealed meta) a b = b

apart_by : (t : Bool) (a b : ℕ) → (a == b) ≡ t → a ≢ b → (a == b) ≡ false
apart_by true a b e ne = absurd (ne (grind (arith, nat_tests)))
apart_by false a b e ne = e

is_apart : (a b : ℕ) → a ≢ b → (a == b) ≡ false
is_apart a b ne = apart_by (a == b) a b refl ne

-- the bank that is being filled isn't active
pub filling_apart : (active : List ℕ) (r : Record) (f : ℕ) → AllByRecursion (λ (b : ℕ). IsSealed (entry_of r b)) active → IsFilling (entry_of r f) → is_among active f ≡ false
filling_apart [] r f all filling = refl
filling_apart (b ∷ active) r f all filling =
    let ne : b ≢ f = λ e. no_both (entry_of r f) (subst (λ (c : ℕ). IsSealed (entry_of r c)) e all.0) filling in
    ap (λ (t : Bool). t || is_among active f) (is_apart b f ne) ∙ filling_apart active r f all.1 filling

-- ---- what a call of the server says of a record that it wrote

pub record HasWritten {F : Type 0} {g : _} (v w : BlobServer F g) (l : NoteHere) (banks : List BankState) (job : Option BlobJob) : Type 0 where
  pub fields : place_record (place_of w) ≡ next_record (place_record (place_of v)) banks (tag_with job (note_octets (node_note l)))
  pub fresh : place_fresh (place_of w) ≡ fresh_after (place_fresh (place_of v)) (place_record (place_of w))
  pub job_is : job_in (store_of w) ≡ job
  pub note : note_of_store (store_of w) ≡ note_octets (node_note l)

-- by the octets of the note that was handed in
pub has_written : {F : Type 0} {g : _} (v w : BlobServer F g) (l : NoteHere) (banks : List BankState) (job : Option BlobJob) (octets : List ℕ) → octets ≡ note_octets (node_note l)
    → place_record (place_of w) ≡ next_record (place_record (place_of v)) banks (tag_with job octets) → place_fresh (place_of w) ≡ fresh_after (place_fresh (place_of v)) (place_record (place_of w))
    → job_in (store_of w) ≡ job → note_of_store (store_of w) ≡ octets → HasWritten v w l banks job
has_written v w l banks job octets e fields fresh is note = record {
  fields = fields ∙ ap (λ (o : List ℕ). next_record (place_record (place_of v)) banks (tag_with job o)) e;
  fresh = fresh;
  job_is = is;
  note = note ∙ e;
}

-- the laws that are used
pub record Laws : Type 0 where
  pub written : WrittenIsANode
  pub short : WrittenIsShort
  pub shown : NextIsShown

module _ {F : Type 0} {g : _} (laws : Laws) (v w : BlobServer F g) (k l : NoteHere) (banks : List BankState) (job : Option BlobJob)
    (rules : IsNodeMemory (memory_with v k)) (is : IsRecord (place_record (place_of v))) (wrote : HasWritten v w l banks job)
    (stay : ActiveStay (active_banks k.active) (place_record (place_of v)) (next_record (place_record (place_of v)) banks (tag_with job (note_octets (node_note l)))))
    (active : active_banks l.active ≡ active_banks k.active) where
  is_next : IsNext (memory_with v k) (memory_with w l)
  is_next = record {
    counted = ap (λ (r : Record). r.count) wrote.fields;
    number = ap (λ (r : Record). r.number) wrote.fields;
    pages = ap (λ (r : Record). r.pages) wrote.fields;
    active = subst (λ (r : Record). ActiveStay (active_banks k.active) (place_record (place_of v)) r) (sym wrote.fields) stay;
  }

  pub rules_after : NoteFits (option_map note_job l.job) → IsBlobRecord (place_record (place_of w)) (part_in (store_of w))
      → HasNodeJob (next_record (place_record (place_of v)) banks (tag_with job (note_octets (node_note l)))) (active_banks l.active) (option_map part_job job) (option_map note_job l.job)
      → IsNodeMemory (memory_with w l)
  rules_after fits blob has = laws.written (memory_with v k) (memory_with w l) rules is (record {
    is_next = is_next;
    active = active;
    note = wrote.note;
    fits = fits;
    blob = blob;
    job = rw (wrote.fields, wrote.job_is) has;
  })

  pub shown_after : (d : NodeDurable) (blocks : Slots) → IsShown (memory_with v k) d → received blocks ≡ flags_in (store_of w)
      → IsShown (memory_with w l) (with_next d (job_with (option_map part_job job) (option_map note_job l.job) blocks))
  shown_after d blocks shown held =
      subst (λ (q : Option BlobJob). IsShown (memory_with w l) (with_next d (job_with (option_map part_job q) (option_map note_job l.job) blocks))) wrote.job_is
      (laws.shown (memory_with v k) (memory_with w l) d blocks shown is_next active held)

  pub left_after : IsNodeMemory (memory_with w l) → IsRecord (place_record (place_of w)) → (fresh : ℕ) → fresh ≡ place_fresh (place_of v) → fresh_left false fresh ≡ place_fresh (place_of w)
  left_after after in_range fresh e =
      ap (fresh_left false) e ∙ sym (laws.short (memory_with w l) (place_fresh (place_of v)) after in_range) ∙ sym wrote.fresh

-- a node's rules, by its server and its note
pub goes_with : {F : Type 0} {g : _} (w : BlobServer F g) (l : NoteHere) → IsNodeMemory (memory_with w l) → GoesWith (place_record (place_of w)) (part_in (store_of w)) (node_note l)
goes_with w l rules = record { octets = rules.note_octets; differ = rules.active_differ; are_sealed = rules.active_sealed; job = rules.job }

-- the banks after the one that was being filled, if one was, is given up
pub given_up_stay : OthersStay → (active : List ℕ) (r : Record) (filling : Option FillingBank) (tag : List ℕ) → AllByRecursion (λ (b : ℕ). IsSealed (entry_of r b)) active
    → IfSome filling (λ f. entry_of r f.bank ≡ Filling f.size f.log) → ActiveStay active r (next_record r (banks_given_up filling r.banks) tag)
given_up_stay law active r None tag all entry = same_banks active r tag
given_up_stay law active r (Some f) tag all entry =
    law r f.bank Empty active tag (filling_apart active r f.bank all (subst (λ (e : BankState). IsFilling e) (sym entry) tt))
