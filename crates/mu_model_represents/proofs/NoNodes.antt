-- Records that are no node's.
use Rattle.std.proofs.Common.{◌≡◌, ⊎_elim, ℕ, ◌+◌, ◌^◌, ◌<◌, Option, Some, None, List, [], ◌∷◌, ◌++◌, length, refl, sym, ◌∙◌, ap, subst, arith}
use Rattle.std.specs.List.{All}
use Rattle.sha2.specs.Sha256.{sha256, digest_bytes, hash_after, compress, rounds, schedule, first_words}
use Rattle.mu_model_image.specs.declared.Meta.{Meta}
use Rattle.mu_model_image.specs.Meta.{IsMeta}
use Rattle.mu_model_image.specs.Laws.{MetaIsReadBack, ImagesHaveMetadata}
use Rattle.mu_model_flash.specs.Bits.{part_of}
use Rattle.mu_model_record.specs.declared.Record.{Record}
use Rattle.mu_model_record.specs.declared.BankState.{BankState}
use Rattle.mu_model_record.specs.declared.BankState.TheVariants.{Empty, Filling, Sealed}
use Rattle.mu_model_record.specs.Record.{zeros}
use Rattle.mu_model_node.specs.declared.Parameters.{Parameters}
use Rattle.mu_model_node.specs.declared.Stored.{Stored}
use Rattle.mu_model_node.specs.declared.Stored.TheVariants.{Verified, Refused}
use Rattle.mu_model_node.specs.declared.Stored.TheVariants.{Filling as Coming}
use Rattle.mu_model_node.specs.NodeState.{Job}
use Rattle.mu_model_node.specs.Worked.{digest_abc}
use Rattle.mu_model_represents.specs.BlobPart.{BlobJob, blob_part, note_part, IsBlobPart, ParametersFit, PartFits, blob_octets}
use Rattle.mu_model_represents.specs.NodeNote.{NoteJob, NodeNote, IsNodeNote, note_octets}
use Rattle.mu_model_represents.specs.RepresentsNode.{IsNodeRecord, part_of_job, note_of_job, note_of_node, node_tag, old_node_tag}
use Rattle.mu_model_represents.specs.WorkedNode.{DigestIsOctets, record_of, first, new, coming, meta_at, begun_with, job_with, taken_job, NoNodes}
use Rattle.mu_model_represents.proofs.BlobWritten.{part_written, length_part}
use Rattle.mu_model_represents.proofs.NoteWritten.{NoteFits, AreActive, one, two, is_written, length_note}
use Rattle.mu_model_represents.proofs.NodeOnce.{part_once, note_once}
use Rattle.mu_model_represents.proofs.NodeWritten.{blob_of_tag, note_of_tag}

-- a record says the parts that its tag was written from
module _ (back : MetaIsReadBack) (r : Record) (part : Option BlobJob) (note : NodeNote) (fits : PartFits part) (fine : NoteFits note.job) (acts : AreActive note.active) (tag : r.tag ≡ blob_octets part ++ note_octets note) (banks : r.number ≡ 1 + length note.active) where
  said : (p : Option BlobJob) (n : NodeNote) → IsNodeRecord r p n → IsNodeRecord r part note
  said p n is =
      let first = sym (ap blob_part tag ∙ blob_of_tag (blob_octets part) (note_octets note) (length_part part)) in
      let second = sym (ap note_part tag ∙ note_of_tag (blob_octets part) (note_octets note) (length_part part) (length_note note acts fine)) in
      let octets : IsBlobPart part (blob_part r.tag) = subst (λ (xs : List ℕ). IsBlobPart part xs) first (part_written part fits) in
      let count : IsNodeNote r.number note (note_octets note) = subst (λ (k : ℕ). IsNodeNote k note (note_octets note)) (sym banks) (is_written back note acts fine) in
      let written : IsNodeNote r.number note (note_part r.tag) = subst (λ (xs : List ℕ). IsNodeNote r.number note xs) second count in
      let same_part : p ≡ part = part_once p part (blob_part r.tag) is.blob.octets octets in
      let same_note : n ≡ note = note_once r.number n note (note_part r.tag) is.note_octets written in
      subst (λ (m : NodeNote). IsNodeRecord r part m) same_note (subst (λ (q : Option BlobJob). IsNodeRecord r q n) same_part is)

-- the digest of 61 62 63
digest_is : sha256 (0x61 ∷ 0x62 ∷ 0x63 ∷ []) ≡ digest_abc
unfolding sha256 digest_bytes hash_after compress rounds schedule first_words
digest_is = refl

pub abc_octets : ImagesHaveMetadata → DigestIsOctets
abc_octets metas = subst (λ (xs : List ℕ). All (λ octet. octet < 256) xs) digest_is (metas 0 (0x61 ∷ 0x62 ∷ 0x63 ∷ []) (omega arith) (omega arith) (omega arith)).digest_octets

module _ (back : MetaIsReadBack) (metas : ImagesHaveMetadata) where
  good : (size version : ℕ) → 0 < size → size < 2 ^ 32 → version < 2 ^ 32 → IsMeta (record { size = size; version = version; digest = digest_abc })
  good size version some fits fine = record {
    some = some;
    size = fits;
    version = fine;
    digest_length = refl;
    digest_octets = abc_octets metas;
  }

  -- a job of size 3
  part_fits : (stored : Stored) (p : Option Parameters) (version index bank : ℕ) → ParametersFit 3 p → bank < 256 → PartFits (Some (part_of_job bank (job_with stored p (meta_at version) index)))
  part_fits stored p version index bank fits low = record { id = omega arith; size = omega arith; base = omega arith; bank = low; parameters = fits }

  begun_fits : ParametersFit 3 (Some begun_with)
  begun_fits = record { mode_least = omega arith; mode_most = omega arith; mtu_least = omega arith; mtu_most = omega arith; log_most = omega arith; same_size = refl }

  note_fits : (stored : Stored) (p : Option Parameters) (version index : ℕ) → version < 2 ^ 32 → index < 256 → NoteFits (Some (note_of_job (job_with stored p (meta_at version) index)))
  note_fits stored p version index fine low = record { ttl = omega arith; meta = good 3 version (omega arith) (omega arith) fine; index = low }

  -- two banks with a job
  with_job : (other : BankState) (stored : Stored) (q : Option Parameters) (version index bank : ℕ) → ParametersFit 3 q → version < 2 ^ 32 → index < 256 → bank < 256
      → let job = job_with stored q (meta_at version) index in let r = record_of 2 (first ∷ other ∷ Empty ∷ Empty ∷ []) (node_tag (0 ∷ []) bank (Some job)) in
      (p : Option BlobJob) (n : NodeNote) → IsNodeRecord r p n → IsNodeRecord r (Some (part_of_job bank job)) (note_of_node (0 ∷ []) (Some job))
  with_job other stored q version index bank fits fine low few =
      let job = job_with stored q (meta_at version) index in
      said back (record_of 2 (first ∷ other ∷ Empty ∷ Empty ∷ []) (node_tag (0 ∷ []) bank (Some job))) (Some (part_of_job bank job)) (note_of_node (0 ∷ []) (Some job))
      (part_fits stored q version index bank fits few) (note_fits stored q version index fine low) (one 0 (omega arith)) refl refl

  -- banks without a job
  without_job : (number : ℕ) (banks : List BankState) (active : List ℕ) → AreActive active → number ≡ 1 + length active
      → let r = record_of number banks (node_tag active 0 None) in (p : Option BlobJob) (n : NodeNote) → IsNodeRecord r p n → IsNodeRecord r None (note_of_node active None)
  without_job number banks active acts many = said back (record_of number banks (node_tag active 0 None)) None (note_of_node active None) tt tt acts refl many

  old_kind : (n : NodeNote) → IsNodeNote 3 n (note_part (old_node_tag (0 ∷ []) 2 None)) → ⊥
  unfolding part_of zeros
  old_kind n is = ⊎_elim
      (λ new. absurd (omega (arith, new.kind_at_0)))
      (λ old. let alone : length n.active ≡ 1 = ap (length {A = ℕ}) old.active_at_1 in absurd (omega (arith, is.one_more, alone)))
      is.spells

  pub no_nodes : NoNodes
  no_nodes = record {
    active_empty = λ p n is. (without_job 2 (Empty ∷ first ∷ Empty ∷ Empty ∷ []) (0 ∷ []) (one 0 (omega arith)) refl p n is).active_sealed.0;
    active_past = λ p n is. (without_job 2 (first ∷ first ∷ Empty ∷ Empty ∷ []) (2 ∷ []) (one 2 (omega arith)) refl p n is).active_sealed.0;
    active_twice = λ p n is. let h = (without_job 3 (first ∷ first ∷ Empty ∷ Empty ∷ []) (0 ∷ 0 ∷ []) (two 0 0 (omega arith) (omega arith)) refl p n is).active_differ.0 in cc h;
    job_in_active = λ p n is. let h = (with_job Empty Coming None 2 0 0 tt (omega arith) (omega arith) (omega arith) p n is).job.bank in cc h;
    job_past = λ p n is. let h = (with_job Empty Coming None 2 0 2 tt (omega arith) (omega arith) (omega arith) p n is).blob.rules.bank in absurd (omega (arith, h));
    filling_alone = λ p n is. (without_job 2 (first ∷ coming ∷ Empty ∷ Empty ∷ []) (0 ∷ []) (one 0 (omega arith)) refl p n is).blob.rules 1 tt;
    filling_unbegun = λ p n is. (with_job coming Coming None 2 0 1 tt (omega arith) (omega arith) (omega arith) p n is).blob.rules.goes_with 1 tt;
    begun_empty = λ p n is. (with_job Empty Coming (Some begun_with) 2 0 1 begun_fits (omega arith) (omega arith) (omega arith) p n is).blob.rules.goes_with;
    other_log = λ p n is. let h = (with_job (Filling 3 13) Coming (Some begun_with) 2 0 1 begun_fits (omega arith) (omega arith) (omega arith) p n is).blob.rules.goes_with.1 in absurd (omega (arith, h));
    other_size = λ p n is. let h = (with_job (Filling 4 12) Coming (Some begun_with) 2 0 1 begun_fits (omega arith) (omega arith) (omega arith) p n is).blob.rules.goes_with.0 in absurd (omega (arith, h));
    coming_sealed = λ p n is. (with_job new Coming (Some begun_with) 2 0 1 begun_fits (omega arith) (omega arith) (omega arith) p n is).job.stored;
    verified_filling = λ p n is. let h = (with_job coming Verified (Some begun_with) 2 0 1 begun_fits (omega arith) (omega arith) (omega arith) p n is).job.stored.1 in cc h;
    verified_other = λ p n is. let h = (with_job (Sealed (meta_at 3)) Verified (Some begun_with) 2 0 1 begun_fits (omega arith) (omega arith) (omega arith) p n is).job.stored.1 in
        let same : meta_at 3 ≡ meta_at 2 = cc h in let v : (meta_at 3).version ≡ (meta_at 2).version = ap (λ (m : Meta). m.version) same in absurd (omega (arith, v));
    refused_begun = λ p n is. let h = (with_job coming Refused (Some begun_with) 2 0 1 begun_fits (omega arith) (omega arith) (omega arith) p n is).job.stored in cc h;
    equal_version = λ p n is. let h = (with_job Empty Coming None 1 0 1 tt (omega arith) (omega arith) (omega arith) p n is).job.newer in absurd (omega (arith, h));
    no_image = λ p n is. (with_job Empty Coming None 2 1 1 tt (omega arith) (omega arith) (omega arith) p n is).job.newer;
    too_big = λ p n is. let h = (big p n is).blob.rules.size_most in absurd (omega (arith, h));
    half_a_job = λ p n is. (half p n is).job;
    two_sizes = λ p n is. let h = (sizes p n is).job.size in absurd (omega (arith, h));
    old_of_three = λ p n is. old_kind n is.note_octets;
  }
    where
      big_job : Job
      big_job = job_with Coming None (record { size = 4097; version = 2; digest = digest_abc }) 0

      big : let r = record_of 2 (first ∷ Empty ∷ Empty ∷ Empty ∷ []) (node_tag (0 ∷ []) 1 (Some (job_with Coming None (record { size = 4097; version = 2; digest = digest_abc }) 0))) in
          (p : Option BlobJob) (n : NodeNote) → IsNodeRecord r p n → IsNodeRecord r (Some (part_of_job 1 (job_with Coming None (record { size = 4097; version = 2; digest = digest_abc }) 0))) (note_of_node (0 ∷ []) (Some (job_with Coming None (record { size = 4097; version = 2; digest = digest_abc }) 0)))
      big = let job = job_with Coming None (record { size = 4097; version = 2; digest = digest_abc }) 0 in
          said back (record_of 2 (first ∷ Empty ∷ Empty ∷ Empty ∷ []) (node_tag (0 ∷ []) 1 (Some job))) (Some (part_of_job 1 job)) (note_of_node (0 ∷ []) (Some job))
          (record { id = omega arith; size = omega arith; base = omega arith; bank = omega arith; parameters = tt }) (record { ttl = omega arith; meta = good 4097 2 (omega arith) (omega arith) (omega arith); index = omega arith }) (one 0 (omega arith)) refl refl

      half : let r = record_of 2 (first ∷ Empty ∷ Empty ∷ Empty ∷ []) (blob_octets (Some (part_of_job 1 taken_job)) ++ note_octets (record { active = 0 ∷ []; job = None })) in
          (p : Option BlobJob) (n : NodeNote) → IsNodeRecord r p n → IsNodeRecord r (Some (part_of_job 1 taken_job)) (record { active = 0 ∷ []; job = None })
      half = said back (record_of 2 (first ∷ Empty ∷ Empty ∷ Empty ∷ []) (blob_octets (Some (part_of_job 1 taken_job)) ++ note_octets (record { active = 0 ∷ []; job = None }))) (Some (part_of_job 1 taken_job)) (record { active = 0 ∷ []; job = None })
          (part_fits Coming None 2 0 1 tt (omega arith)) tt (one 0 (omega arith)) refl refl

      sizes : let b : BlobJob = record { id = 7; size = 4; base = 0; bank = 1; parameters = None } in let k : NoteJob = record { stored = Coming; ttl = 5; meta = meta_at 2; index = 0 } in
          let r = record_of 2 (first ∷ Empty ∷ Empty ∷ Empty ∷ []) (blob_octets (Some b) ++ note_octets (record { active = 0 ∷ []; job = Some k })) in
          (p : Option BlobJob) (n : NodeNote) → IsNodeRecord r p n → IsNodeRecord r (Some b) (record { active = 0 ∷ []; job = Some k })
      sizes = let b : BlobJob = record { id = 7; size = 4; base = 0; bank = 1; parameters = None } in let k : NoteJob = record { stored = Coming; ttl = 5; meta = meta_at 2; index = 0 } in
          said back (record_of 2 (first ∷ Empty ∷ Empty ∷ Empty ∷ []) (blob_octets (Some b) ++ note_octets (record { active = 0 ∷ []; job = Some k }))) (Some b) (record { active = 0 ∷ []; job = Some k })
          (record { id = omega arith; size = omega arith; base = omega arith; bank = omega arith; parameters = tt }) (record { ttl = omega arith; meta = good 3 2 (omega arith) (omega arith) (omega arith); index = omega arith }) (one 0 (omega arith)) refl refl
