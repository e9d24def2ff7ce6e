-- The tag of a node that is written is read back.
use Rattle.std.proofs.Common.{◌≡◌, ℕ, zero, suc, ◌+◌, ◌<◌, ◌≤◌, Option, Some, None, List, [], ◌∷◌, ◌++◌, length, refl, sym, ◌∙◌, ap, subst, arith, length-append}
use Rattle.std.specs.Prelude.{slice_get}
use Rattle.std.specs.List.{AllByRecursion, AllZip}
use Rattle.mu_model_image.specs.Meta.{Image}
use Rattle.mu_model_image.specs.Laws.{MetaIsReadBack}
use Rattle.mu_model_flash.specs.Bits.{AreOctets}
use Rattle.mu_model_record.specs.declared.BankState.{BankState}
use Rattle.mu_model_record.specs.declared.BankState.TheVariants.{Empty, Filling, Sealed}
use Rattle.mu_model_record.specs.Record.{IsRecord, entry_of}
use Rattle.mu_model_record.specs.Store.{StoreState}
use Rattle.mu_model_node.specs.declared.Parameters.{Parameters}
use Rattle.mu_model_node.specs.NodeState.{Job, NodeDurable}
use Rattle.mu_model_node.specs.Slots.{Slots}
use Rattle.mu_model_node.specs.Sound.{HasBlocks, IsNewer, HasJob, IsNodeDurable}
use Rattle.mu_model_represents.specs.BlobPart.{blob_part, note_part, IsBlobPart, HasBlobRules, blob_octets, ParametersFit, PartFits}
use Rattle.mu_model_represents.specs.Images.{IsSealed, HasImage}
use Rattle.mu_model_represents.specs.NodeNote.{IsNodeNote, index_of, first_of, note_octets, old_note_octets}
use Rattle.mu_model_represents.specs.Numbers.{HasMtu, HasNumbersOf, HasNodeNumbers}
use Rattle.mu_model_represents.specs.RepresentsNode.{IsNodeOf, IsNewerThan, IsNewerThanBank, HasNodeJob, job_by, part_of_node, note_jobs, note_of_node, node_tag, old_node_tag}
use Rattle.mu_model_record.specs.ChangeLaws.{IsTag}
use Rattle.mu_model_represents.specs.Written.{KeepsJobs, KeepsNode}
use Rattle.mu_model_represents.proofs.Octets.{octets_append, part_whole, part_past, part_all}
use Rattle.mu_model_represents.proofs.StoreLemmas.{bank_there}
use Rattle.mu_model_represents.proofs.NodeSound.{as_many}
use Rattle.mu_model_represents.proofs.BlobWritten.{part_written, length_part, part_octets}
use Rattle.mu_model_represents.proofs.NoteWritten.{NoteFits, AreActive, one, two, is_written, old_is_written, octets_note, octets_old_note, length_note, length_old_note}

-- ---- the two parts of a tag

pub blob_of_tag : (part note : List ℕ) → length part ≡ 64 → blob_part (part ++ note) ≡ part
blob_of_tag part note many = part_whole part note 64 many

pub note_of_tag : (part note : List ℕ) → length part ≡ 64 → length note ≡ 1728 → note_part (part ++ note) ≡ note
note_of_tag part note many more = part_past part note 64 0 1728 many ∙ part_all note 1728 more

pub tag_of : (part note : List ℕ) → length part ≡ 64 → length note ≡ 1728 → AreOctets part → AreOctets note → IsTag (part ++ note)
tag_of part note many more small fine = (omega (arith, length-append part note, many, more), octets_append part note small fine)

-- ---- what fits

pub fit_parameters : (size : ℕ) (p : Option Parameters) (held : Slots) → HasBlocks size p held → HasMtu p → ParametersFit size p
fit_parameters size None held blocks mtu = tt
fit_parameters size (Some p) held blocks mtu = record {
  mode_least = blocks.mode_above;
  mode_most = blocks.mode_below;
  mtu_least = blocks.mtu_above;
  mtu_most = mtu;
  log_most = omega (arith, blocks.log_below);
  same_size = blocks.size;
}

sealed_is : (b : BankState) → IsSealed b → b ≡ Empty → ⊥
sealed_is Empty h e = h
sealed_is (Filling size log) h e = h
sealed_is (Sealed meta) h e = cc e

pub has_sealed : (s : StoreState) (bank : ℕ) (x : Image) → HasImage s bank x → IsSealed (entry_of s.present bank)
has_sealed s bank x has = subst (λ (e : BankState). IsSealed e) (sym has.entry) tt

all_sealed : (s : StoreState) (banks : List ℕ) (xs : List Image) → AllZip (HasImage s) banks xs → AllByRecursion (λ (b : ℕ). IsSealed (entry_of s.present b)) banks
all_sealed s [] [] all = tt
all_sealed s [] (x ∷ xs) all = absurd all
all_sealed s (b ∷ banks) [] all = absurd all
all_sealed s (b ∷ banks) (x ∷ xs) all = (has_sealed s b x all.0, all_sealed s banks xs all.1)

are_active : (s : StoreState) (banks : List ℕ) (xs : List Image) → IsRecord s.present → AllZip (HasImage s) banks xs → 1 ≤ length xs → length xs ≤ 2 → AreActive banks
are_active s [] [] range all some few = absurd (omega arith)
are_active s [] (x ∷ xs) range all some few = absurd all
are_active s (a ∷ banks) [] range all some few = absurd all
are_active s (a ∷ []) (x ∷ xs) range all some few = one a (omega (arith, bank_there s.present a range (sealed_is (entry_of s.present a) (has_sealed s a x all.0)), range.number_most))
are_active s (a ∷ b ∷ banks) (x ∷ []) range all some few = absurd all.1
are_active s (a ∷ b ∷ []) (x ∷ y ∷ xs) range all some few = two a b
    (omega (arith, bank_there s.present a range (sealed_is (entry_of s.present a) (has_sealed s a x all.0)), range.number_most))
    (omega (arith, bank_there s.present b range (sealed_is (entry_of s.present b) (has_sealed s b y all.1.0)), range.number_most))
are_active s (a ∷ b ∷ c ∷ banks) (x ∷ y ∷ []) range all some few = absurd all.1.1
are_active s (a ∷ b ∷ c ∷ banks) (x ∷ y ∷ z ∷ xs) range all some few = absurd (omega arith)

index_within : (xs : List Image) (index version : ℕ) → IsNewer version (slice_get xs index) → index < length xs
index_within [] index version newer = absurd newer
index_within (x ∷ xs) zero version newer = omega arith
index_within (x ∷ xs) (suc index) version newer = let rest = index_within xs index version newer in omega (arith, rest)

newer_bank : (s : StoreState) (version : ℕ) (banks : List ℕ) (xs : List Image) → AllZip (HasImage s) banks xs → (index : ℕ) → IsNewer version (slice_get xs index) → IsNewerThanBank s.present version (slice_get banks index)
newer_bank s version [] [] all index newer = newer
newer_bank s version [] (y ∷ xs) all index newer = absurd all
newer_bank s version (b ∷ banks) [] all index newer = absurd all
newer_bank s version (b ∷ banks) (y ∷ xs) all zero newer = subst (λ (e : BankState). IsNewerThan version e) (sym all.0.entry) newer
newer_bank s version (b ∷ banks) (y ∷ xs) all (suc index) newer = newer_bank s version banks xs all.1 index newer

-- ---- a job

part_fits : (bank : ℕ) (d : NodeDurable) (job : Option Job) → HasJob d.capacity d.images job → HasNumbersOf job → ((j : Job) → job ≡ Some j → bank < 256) → PartFits (part_of_node bank job)
part_fits bank d None is numbers low = tt
part_fits bank d (Some j) is numbers low = record {
  id = numbers.id;
  size = numbers.meta.size;
  base = numbers.base;
  bank = low j refl;
  parameters = fit_parameters j.meta.size j.parameters j.held is.blocks numbers.mtu;
}

note_fits : (d : NodeDurable) (job : Option Job) → IsNodeDurable d → HasJob d.capacity d.images job → HasNumbersOf job → NoteFits (note_jobs job)
note_fits d None sound is numbers = tt
note_fits d (Some j) sound is numbers = record { ttl = numbers.ttl; meta = numbers.meta; index = omega (arith, index_within d.images j.index j.meta.version is.newer, sound.two_images) }

-- the tags are octets
pub are_tags : (active : List ℕ) (bank : ℕ) (d : NodeDurable) → IsNodeDurable d → HasNodeNumbers d → AreActive active → bank < 256 → IsTag (node_tag active bank d.job) × IsTag (old_node_tag active bank d.job)
are_tags active bank d sound numbers acts low =
    let fits = part_fits bank d d.job sound.job numbers.job (λ j is. low) in
    let note = note_fits d d.job sound sound.job numbers.job in
    let part = part_octets (part_of_node bank d.job) fits in
    let many = length_part (part_of_node bank d.job) in (
      tag_of (blob_octets (part_of_node bank d.job)) (note_octets (note_of_node active d.job)) many (length_note (note_of_node active d.job) acts note) part (octets_note (note_of_node active d.job) acts note),
      tag_of (blob_octets (part_of_node bank d.job)) (old_note_octets (note_of_node active d.job)) many (length_old_note (note_of_node active d.job) acts note) part (octets_old_note (note_of_node active d.job) acts note),
    )

pub low_active : (banks : List ℕ) → 1 ≤ length banks → length banks ≤ 2 → AllByRecursion (λ (b : ℕ). b < 256) banks → AreActive banks
low_active [] some few low = absurd (omega arith)
low_active (a ∷ []) some few low = one a low.0
low_active (a ∷ b ∷ []) some few low = two a b low.0 low.1.0
low_active (a ∷ b ∷ c ∷ banks) some few low = absurd (omega arith)

pub tags_written : (active : List ℕ) (bank : ℕ) (d : NodeDurable) → IsNodeDurable d → HasNodeNumbers d → length active ≡ length d.images → AllByRecursion (λ (b : ℕ). b < 256) active → bank < 256
    → IsTag (node_tag active bank d.job) × IsTag (old_node_tag active bank d.job)
tags_written active bank d sound numbers many low least = are_tags active bank d sound numbers (low_active active (omega (arith, many, sound.some_image)) (omega (arith, many, sound.two_images)) low) least

module _ (s : StoreState) (active : List ℕ) (bank : ℕ) (d : NodeDurable) (sound : IsNodeDurable d) (keeps : KeepsNode s active bank d) where
  low_bank : (job : Option Job) → KeepsJobs s active bank job → (j : Job) → job ≡ Some j → bank < 256
  low_bank None kept j is = absurd cc
  low_bank (Some k) kept j is = omega (arith, kept.there, keeps.in_range.number_most)

  index_zero : (job : Option Job) → HasJob d.capacity d.images job → length d.images ≡ 1 → index_of (note_jobs job) ≡ 0
  index_zero None is alone = refl
  index_zero (Some j) is alone = omega (arith, index_within d.images j.index j.meta.version is.newer, alone)

  part_rules : (job : Option Job) → HasJob d.capacity d.images job → KeepsJobs s active bank job → HasBlobRules s.present (part_of_node bank job)
  part_rules None is kept = kept
  part_rules (Some j) is kept = record { size_least = is.some; size_most = omega (arith, is.room, keeps.capacity); bank = kept.there; goes_with = kept.goes_with }

  node_job : (job : Option Job) → HasJob d.capacity d.images job → KeepsJobs s active bank job → HasNodeJob s.present active (part_of_node bank job) (note_jobs job)
  node_job None is kept = tt
  node_job (Some j) is kept = record { bank = kept.apart; size = refl; newer = newer_bank s j.meta.version active d.images keeps.images j.index is.newer; stored = kept.stored }

  same_job : (job : Option Job) → KeepsJobs s active bank job → job ≡ job_by s (part_of_node bank job) (note_jobs job)
  same_job None kept = refl
  same_job (Some j) kept = λ i. Some (record {
    id = j.id;
    index = j.index;
    meta = j.meta;
    ttl = j.ttl;
    base = j.base;
    stored = j.stored;
    parameters = j.parameters;
    held = kept.held i;
  })

  actives : AreActive active
  actives = are_active s active d.images keeps.in_range keeps.images sound.some_image sound.two_images

  -- the record's rules, where its tag has the two parts
  is_node : HasNumbersOf d.job → IsBlobPart (part_of_node bank d.job) (blob_part s.present.tag) → IsNodeNote s.present.number (note_of_node active d.job) (note_part s.present.tag) → IsNodeOf s (part_of_node bank d.job) (note_of_node active d.job) d
  is_node numbers part note = record {
    is_record = record {
      blob = record { octets = part; rules = part_rules d.job sound.job keeps.job };
      note_octets = note;
      active_differ = keeps.differ;
      active_sealed = all_sealed s active d.images keeps.images;
      job = node_job d.job sound.job keeps.job;
    };
    count = keeps.count;
    capacity = keeps.capacity;
    images = keeps.images;
    job = same_job d.job keeps.job;
  }

module _ (s : StoreState) (active : List ℕ) (bank : ℕ) (d : NodeDurable) (sound : IsNodeDurable d) (numbers : HasNodeNumbers d) (keeps : KeepsNode s active bank d) where
  fits_part : PartFits (part_of_node bank d.job)
  fits_part = part_fits bank d d.job sound.job numbers.job ((low_bank s active bank d sound keeps) d.job keeps.job)

  fits_note : NoteFits (note_jobs d.job)
  fits_note = note_fits d d.job sound sound.job numbers.job

  acts : AreActive active
  acts = actives s active bank d sound keeps

  many_note : length (note_octets (note_of_node active d.job)) ≡ 1728
  many_note = length_note (note_of_node active d.job) acts fits_note

  many_old_note : length (old_note_octets (note_of_node active d.job)) ≡ 1728
  many_old_note = length_old_note (note_of_node active d.job) acts fits_note

  -- a tag of these parts
  of_parts : (note : List ℕ) → length note ≡ 1728 → IsNodeNote (1 + length active) (note_of_node active d.job) note → s.present.tag ≡ blob_octets (part_of_node bank d.job) ++ note → IsNodeOf s (part_of_node bank d.job) (note_of_node active d.job) d
  of_parts note many is tag =
      let part = part_of_node bank d.job in
      let first = sym (ap blob_part tag ∙ blob_of_tag (blob_octets part) note (length_part part)) in
      let second = sym (ap note_part tag ∙ note_of_tag (blob_octets part) note (length_part part) many) in
      let octets = subst (λ (xs : List ℕ). IsBlobPart part xs) first (part_written part fits_part) in
      let count = subst (λ (n : ℕ). IsNodeNote n (note_of_node active d.job) note) (sym keeps.one_more) is in
      (is_node s active bank d sound keeps) numbers.job octets (subst (λ (xs : List ℕ). IsNodeNote s.present.number (note_of_node active d.job) xs) second count)

  pub read_back : MetaIsReadBack → s.present.tag ≡ node_tag active bank d.job → IsNodeOf s (part_of_node bank d.job) (note_of_node active d.job) d
  read_back back tag = of_parts (note_octets (note_of_node active d.job)) many_note (is_written back (note_of_node active d.job) acts fits_note) tag

  pub old_read_back : MetaIsReadBack → length d.images ≡ 1 → s.present.tag ≡ old_node_tag active bank d.job → IsNodeOf s (part_of_node bank d.job) (note_of_node active d.job) d
  old_read_back back alone tag = of_parts (old_note_octets (note_of_node active d.job)) many_old_note
      (old_is_written back (note_of_node active d.job) acts fits_note (single active acts (sym (as_many s active d.images keeps.images) ∙ alone)) ((index_zero s active bank d sound keeps) d.job sound.job alone)) tag
    where
      single : (active : List ℕ) → AreActive active → length active ≡ 1 → active ≡ first_of active ∷ []
      single _ (one a lt) is = refl
      single _ (two a b lt less) is = absurd (omega arith)
