-- What a store represents after a record.
use Rattle.std.proofs.Common.{◌≡◌, ◌∙◌, ◌<◌, ℕ, zero, suc, ◌+◌, Bool, set, List, [], ◌∷◌, length, Option, Some, None, refl, sym, ap, subst, arith}
use Rattle.std.specs.Prelude.{◌≢◌, ◌||◌, false}
use Rattle.std.specs.List.{AllByRecursion, AllZip}
use Rattle.mu_model_image.specs.declared.Meta.{Meta}
use Rattle.mu_model_image.specs.Meta.{Image, IsMeta}
use Rattle.mu_model_record.specs.declared.Record.{Record}
use Rattle.mu_model_record.specs.declared.BankState.{BankState}
use Rattle.mu_model_record.specs.declared.BankState.TheVariants.{Sealed}
use Rattle.mu_model_record.specs.Record.{IsFilling, entry_of}
use Rattle.mu_model_record.specs.Store.{StoreState}
use Rattle.mu_model_record.specs.Next.{record_steps}
use Rattle.mu_model_record.specs.Changes.{tagged, emptied}
use Rattle.mu_model_record.specs.ChangeLaws.{IsTag}
use Rattle.mu_model_node.specs.declared.FlashWork.TheVariants.{Recorded}
use Rattle.mu_model_node.specs.declared.Stored.{Stored}
use Rattle.mu_model_node.specs.declared.Stored.TheVariants.{Verified, Applied}
use Rattle.mu_model_node.specs.TimeTable.{image_of_job}
use Rattle.mu_model_node.specs.FlashWork.{work_by}
use Rattle.mu_model_node.specs.NodeState.{Job, NodeDurable}
use Rattle.mu_model_node.specs.Sound.{IsNodeDurable}
use Rattle.mu_model_represents.specs.BlobPart.{BlobJob, NoneFilling, HasBlobRules}
use Rattle.mu_model_represents.specs.Images.{is_among, HasImage, BankImageIsGood}
use Rattle.mu_model_represents.specs.Laws.{NodeIsSound}
use Rattle.mu_model_represents.specs.NodeNote.{NoteJob, NodeNote}
use Rattle.mu_model_represents.specs.Numbers.{HasJobNumbers, HasNumbersOf, HasNodeNumbers}
use Rattle.mu_model_represents.specs.RepresentsNode.{StoredGoesWith, job_in, part_of_job, note_of_job, part_of_node, note_of_node, node_tag, IsNodeJob, HasNodeJob, job_by, IsNodeOf, IsNode}
use Rattle.mu_model_represents.specs.Short.{StoresAreReadAsNodes}
use Rattle.mu_model_represents.specs.StoreStates.{IsStoreState}
use Rattle.mu_model_represents.specs.Written.{KeepsJobs, KeepsNode, NodeTagIsATag, NodeTagIsReadBack}
use Rattle.mu_model_jobs.specs.States.{TaggedIsAState, EmptiedIsAState}
use Rattle.mu_model_stored_node.specs.Kept.{with_next, bank_of, IsOffered, NodeIsKept, JobIsAsked, JobGoes, JobComes, NoJobIsLeft, FirstJobComes, activated_as, JobIsActivated}
use Rattle.mu_model_stored_node.specs.Steps.{NodeRecordSteps}
use Rattle.mu_model_written_node.specs.Free.{IsFreeBank, FillsBank}
use Rattle.mu_model_written_node.proofs.Free.{apart_test, filling_within}
use Rattle.mu_model_written_node.specs.Written.{CanWrite, IsWritten, tag_by, note_with, given_up, applied_note, activated_note}

pub zip_length : {A B : Type 0} (P : A → B → Type 0) (xs : List A) (ys : List B) → AllZip P xs ys → length xs ≡ length ys
zip_length P [] [] all = refl
zip_length P [] (y ∷ ys) all = absurd all
zip_length P (x ∷ xs) [] all = absurd all
zip_length P (x ∷ xs) (y ∷ ys) all = ap suc (zip_length P xs ys all.1)

active_octets : BankImageIsGood → (s : StoreState) → IsStoreState s → (active : List ℕ) (images : List Image) → AllZip (HasImage s) active images → AllByRecursion (λ (b : ℕ). b < 256) active
active_octets good s state [] images all = tt
active_octets good s state (b ∷ active) [] all = absurd all
active_octets good s state (b ∷ active) (x ∷ images) all = (omega (arith, (good s b x state all.0).0, state.in_range.number_most), active_octets good s state active images all.1)

-- ---- the job, and the free bank

job_apart : (r : Record) (active : List ℕ) (b : BlobJob) (n : Option NoteJob) → HasNodeJob r active (Some b) n → is_among active b.bank ≡ false
job_apart r active b None has = absurd has
job_apart r active b (Some n) has = has.bank

free_kept : (s : StoreState) (part : Option BlobJob) (note : NodeNote) (d : NodeDurable) (bank : ℕ) → IsNodeOf s part note d → IsFreeBank s.present note.active bank
    → KeepsNode s note.active (bank_of part) d → KeepsNode s note.active bank d
free_kept s None note d bank is free k = record {
  in_range = k.in_range;
  one_more = k.one_more;
  count = k.count;
  capacity = k.capacity;
  differ = k.differ;
  images = k.images;
  job = subst (λ (q : Option Job). KeepsJobs s note.active bank q) (sym is.job) is.is_record.blob.rules;
}
free_kept s (Some b) note d bank is free k =
    subst (λ (c : ℕ). KeepsNode s note.active c d) (free.alone b.bank is.is_record.blob.rules.bank (job_apart s.present note.active b note.job is.is_record.job)) k

-- where a bank is being filled there is a job
filled_job : (s : StoreState) (part : Option BlobJob) (n : Option NoteJob) (active : List ℕ) (f : ℕ) → IsFilling (entry_of s.present f) → HasBlobRules s.present part → HasNodeJob s.present active part n
    → (j : Job) × (job_by s part n ≡ Some j)
filled_job s None n active f filling rules has = absurd (rules f filling)
filled_job s (Some b) None active f filling rules has = absurd has
filled_job s (Some b) (Some n) active f filling rules has = (job_in s b n, refl)

job_numbers : (d : NodeDurable) (j : Job) → HasNodeNumbers d → d.job ≡ Some j → HasJobNumbers j
job_numbers d j has is = subst HasNumbersOf is has.job

pub record Laws : Type 0 where
  pub good : BankImageIsGood
  pub sound : NodeIsSound
  pub tagged : TaggedIsAState
  pub emptied : EmptiedIsAState
  pub a_tag : NodeTagIsATag
  pub read_back : NodeTagIsReadBack
  pub kept : NodeIsKept
  pub steps : NodeRecordSteps
  pub nodes : StoresAreReadAsNodes

module _ (laws : Laws) (s : StoreState) (part : Option BlobJob) (note : NodeNote) (d : NodeDurable) (bank : ℕ) (can : CanWrite s part note d bank) where
  pub here : IsNode s d
  here = (part, note, can.is)

  pub keeps : KeepsNode s note.active bank d
  keeps = free_kept s part note d bank can.is can.free (laws.kept s part note d can.state can.is)

  pub few_banks : bank < 256
  few_banks = omega (arith, can.free.there, can.state.in_range.number_most)

  pub numbers : (images : List Image) (job : Option Job) → AllByRecursion (λ (x : Image). IsMeta x.meta) images → HasNumbersOf job
      → HasNodeNumbers (record { count = d.count + 1; capacity = d.capacity; images = images; job = job })
  numbers images job are has = record { count = record { least = omega arith; most = omega (arith, can.is.count, can.counted) }; images = are; job = has }

  pub same_images : (job : Option Job) → HasNumbersOf job → HasNodeNumbers (with_next d job)
  same_images job has = numbers d.images job (laws.sound s d can.state here).1.images has

  pub is_tag : (job : Option Job) → IsNodeDurable (with_next d job) → HasNumbersOf job → IsTag (node_tag note.active bank job)
  is_tag job is has =
      (laws.a_tag note.active bank (with_next d job) is (same_images job has) (zip_length (HasImage s) note.active d.images can.is.images)
      (active_octets laws.good s can.state note.active d.images can.is.images) few_banks).0

  -- what is written is read back
  pub is_read : (e : StoreState) (job : Option Job) → IsNodeDurable (with_next d job) → HasNumbersOf job → IsStoreState e → KeepsNode e note.active bank (with_next d job)
      → e.present.tag ≡ node_tag note.active bank job → IsWritten s e (part_of_node bank job) (note_of_node note.active job) d (with_next d job)
  is_read e job is has state kept tag =
      let node = laws.read_back e note.active bank (with_next d job) is (same_images job has) kept tag in
      let zipped = λ (fresh : ℕ). laws.steps fresh s e d (with_next d job) state here (part_of_node bank job, note_of_node note.active job, node) in
      record {
        state = state;
        is = node;
        as_many = λ fresh. zip_length IsNode (record_steps fresh s e) (work_by fresh d (with_next d job) (Recorded false)) (zipped fresh);
        reads = λ fresh. laws.nodes s (record_steps fresh s e) d (work_by fresh d (with_next d job) (Recorded false)) here (zipped fresh);
      }

  -- ---- the job goes, or another one comes

  lost_none : IsNodeDurable (with_next d None) → NoJobIsLeft → NoneFilling s.present
      → IsWritten s (tagged s (tag_by None (note_with note None))) None (note_with note None) d (with_next d None)
  lost_none is law none =
      let tag = tag_by None (note_with note None) in
      let state = laws.tagged s tag can.state can.counted (is_tag None is tt) in
      is_read (tagged s tag) None is tt state (law s tag note.active bank d keeps state.in_range none) refl

  lost_some : IsNodeDurable (with_next d None) → JobGoes → IsFilling (entry_of s.present bank)
      → IsWritten s (emptied s bank (tag_by None (note_with note None))) None (note_with note None) d (with_next d None)
  lost_some is law filling =
      let tag = tag_by None (note_with note None) in
      let state = laws.emptied s bank tag can.state can.counted (is_tag None is tt) can.free.there in
      let job = filled_job s part note.job note.active bank filling can.is.is_record.blob.rules can.is.is_record.job in
      is_read (emptied s bank tag) None is tt state (law s tag note.active bank d job.0 can.state (record { keeps = keeps; job = can.is.job ∙ job.1 }) state.in_range filling) refl

  pub lost : JobGoes → NoJobIsLeft → (filling : Option ℕ) → FillsBank filling s.present bank → IsNodeDurable (with_next d None)
      → IsWritten s (given_up filling s (tag_by None (note_with note None))) None (note_with note None) d (with_next d None)
  lost goes left None fills is = lost_none is left fills
  lost goes left (Some f) fills is =
      subst (λ (c : ℕ). IsWritten s (emptied s c (tag_by None (note_with note None))) None (note_with note None) d (with_next d None)) (sym fills.0)
      (lost_some is goes (subst (λ (c : ℕ). IsFilling (entry_of s.present c)) fills.0 fills.1))

  module _ (j : Job) (is : IsNodeDurable (with_next d (Some j))) (has : HasJobNumbers j) (offered : IsOffered j) where
    taken_none : FirstJobComes → NoneFilling s.present
        → IsWritten s (tagged s (tag_by (Some (part_of_job bank j)) (note_with note (Some (note_of_job j))))) (Some (part_of_job bank j)) (note_with note (Some (note_of_job j))) d (with_next d (Some j))
    taken_none law none =
        let tag = tag_by (Some (part_of_job bank j)) (note_with note (Some (note_of_job j))) in
        let state = laws.tagged s tag can.state can.counted (is_tag (Some j) is has) in
        is_read (tagged s tag) (Some j) is has state (law s tag note.active bank d j keeps state.in_range none can.free.there can.free.apart offered) refl

    taken_some : JobComes → IsFilling (entry_of s.present bank)
        → IsWritten s (emptied s bank (tag_by (Some (part_of_job bank j)) (note_with note (Some (note_of_job j))))) (Some (part_of_job bank j)) (note_with note (Some (note_of_job j))) d (with_next d (Some j))
    taken_some law filling =
        let tag = tag_by (Some (part_of_job bank j)) (note_with note (Some (note_of_job j))) in
        let state = laws.emptied s bank tag can.state can.counted (is_tag (Some j) is has) can.free.there in
        let job = filled_job s part note.job note.active bank filling can.is.is_record.blob.rules can.is.is_record.job in
        is_read (emptied s bank tag) (Some j) is has state (law s tag note.active bank d job.0 j can.state (record { keeps = keeps; job = can.is.job ∙ job.1 }) state.in_range filling offered) refl

    pub taken : JobComes → FirstJobComes → (filling : Option ℕ) → FillsBank filling s.present bank
        → IsWritten s (given_up filling s (tag_by (Some (part_of_job bank j)) (note_with note (Some (note_of_job j))))) (Some (part_of_job bank j)) (note_with note (Some (note_of_job j))) d (with_next d (Some j))
    taken comes first None fills = taken_none first fills
    taken comes first (Some f) fills =
        subst (λ (c : ℕ). IsWritten s (emptied s c (tag_by (Some (part_of_job bank j)) (note_with note (Some (note_of_job j))))) (Some (part_of_job bank j)) (note_with note (Some (note_of_job j))) d (with_next d (Some j))) (sym fills.0)
        (taken_some comes (subst (λ (c : ℕ). IsFilling (entry_of s.present c)) fills.0 fills.1))

-- ---- the same job goes on

module _ (laws : Laws) (s : StoreState) (b : BlobJob) (n : NoteJob) (note : NodeNote) (d : NodeDurable) (bank : ℕ) (can : CanWrite s (Some b) note d bank) (has : note.job ≡ Some n) where
  pub job_is : d.job ≡ Some (job_in s b n)
  job_is = can.is.job ∙ ap (λ (q : Option NoteJob). job_by s (Some b) q) has

  pub rule : IsNodeJob s.present note.active b n
  rule = subst (λ (q : Option NoteJob). HasNodeJob s.present note.active (Some b) q) has can.is.is_record.job

  pub here_is : b.bank ≡ bank
  here_is = can.free.alone b.bank can.is.is_record.blob.rules.bank rule.bank

  pub numbers_of : HasJobNumbers (job_in s b n)
  numbers_of = job_numbers d (job_in s b n) (laws.sound s d can.state (here laws s (Some b) note d bank can)).1 job_is

  applied_part : part_of_job bank (record (job_in s b n) { stored = Applied }) ≡ b
  applied_part = λ i. record { id = b.id; size = rule.size i; base = b.base; bank = sym here_is i; parameters = b.parameters }

  pub applied : JobIsAsked → n.stored ≡ Verified → IsNodeDurable (with_next d (Some (record (job_in s b n) { stored = Applied })))
      → IsWritten s (tagged s (tag_by (Some b) (note_with note (Some (applied_note n))))) (Some b) (note_with note (Some (applied_note n))) d (with_next d (Some (record (job_in s b n) { stored = Applied })))
  applied law stored is =
      let j : Job = record (job_in s b n) { stored = Applied } in
      let numbers : HasJobNumbers j = record { id = numbers_of.id; meta = numbers_of.meta; ttl = numbers_of.ttl; base = numbers_of.base; mtu = numbers_of.mtu } in
      let P : BlobJob → Type 0 = λ c. IsWritten s (tagged s (tag_by (Some c) (note_with note (Some (applied_note n))))) (Some c) (note_with note (Some (applied_note n))) d (with_next d (Some j)) in
      let tag = tag_by (Some (part_of_job bank j)) (note_with note (Some (applied_note n))) in
      let state = laws.tagged s tag can.state can.counted (is_tag laws s (Some b) note d bank can (Some j) is numbers) in
      subst P applied_part
      (is_read laws s (Some b) note d bank can (tagged s tag) (Some j) is numbers state
      (law s tag note.active bank d (job_in s b n) (record { keeps = keeps laws s (Some b) note d bank can; job = job_is }) state.in_range stored) refl)

-- ---- the image of a job becomes active

length_set : {A : Type 0} (xs : List A) (i : ℕ) (x : A) → length (set xs i x) ≡ length xs
length_set [] i x = refl
length_set (y ∷ ys) zero x = refl
length_set (y ∷ ys) (suc i) x = ap suc (length_set ys i x)

all_set : {A : Type 0} (P : A → Type 0) (xs : List A) (i : ℕ) (x : A) → AllByRecursion P xs → P x → AllByRecursion P (set xs i x)
all_set P [] i x all is = tt
all_set P (y ∷ ys) zero x all is = (is, all.1)
all_set P (y ∷ ys) (suc i) x all is = (all.0, all_set P ys i x all.1 is)

-- no bank is being filled where all are Sealed
sealed_isnt : (entry : BankState) (meta : Meta) → entry ≡ Sealed meta → IsFilling entry → ⊥
sealed_isnt entry meta e filling = subst IsFilling e filling

pub not_among_filling : BankImageIsGood → (s : StoreState) (active : List ℕ) (images : List Image) (f : ℕ) → AllZip (HasImage s) active images → IsFilling (entry_of s.present f) → is_among active f ≡ false
not_among_filling good s [] images f all filling = refl
not_among_filling good s (b ∷ active) [] f all filling = absurd all
not_among_filling good s (b ∷ active) (x ∷ images) f all filling =
    let ne : b ≢ f = λ e. sealed_isnt (entry_of s.present f) x.meta (subst (λ (k : ℕ). entry_of s.present k ≡ Sealed x.meta) e all.0.entry) filling in
    ap (λ (t : Bool). t || is_among active f) (apart_test b f ne) ∙ not_among_filling good s active images f all.1 filling

module _ (laws : Laws) (s : StoreState) (b : BlobJob) (n : NoteJob) (note : NodeNote) (d : NodeDurable) (bank : ℕ) (can : CanWrite s (Some b) note d bank) (has : note.job ≡ Some n) (stored : n.stored ≡ Applied) where
  applied_entry : entry_of s.present b.bank ≡ Sealed n.meta
  applied_entry = (subst (λ (q : Stored). StoredGoesWith q n.meta b.parameters (entry_of s.present b.bank)) stored (rule laws s b n note d bank can has).stored).1

  none_filling : NoneFilling s.present
  none_filling f filling =
      let there = filling_within s.present f can.state.in_range filling in
      let same : f ≡ bank = can.free.alone f there (not_among_filling laws.good s note.active d.images f can.is.images filling) in
      sealed_isnt (entry_of s.present f) n.meta (subst (λ (k : ℕ). entry_of s.present k ≡ Sealed n.meta) (here_is laws s b n note d bank can has ∙ sym same) applied_entry) filling

  pub activated : JobIsActivated → IsNodeDurable (activated_as d (job_in s b n))
      → IsWritten s (tagged s (tag_by None (activated_note note b n))) None (activated_note note b n) d (activated_as d (job_in s b n))
  activated law is =
      let j : Job = job_in s b n in
      let next = activated_as d j in
      let at = here_is laws s b n note d bank can has in
      let was = laws.sound s d can.state (here laws s (Some b) note d bank can) in
      let of_job = numbers_of laws s b n note d bank can has in
      let in_numbers : HasNodeNumbers next = numbers laws s (Some b) note d bank can (set d.images j.index (image_of_job j)) None (all_set (λ (x : Image). IsMeta x.meta) d.images j.index (image_of_job j) was.1.images of_job.meta) tt in
      let active : List ℕ = set note.active n.index bank in
      let octets = all_set (λ (k : ℕ). k < 256) note.active n.index bank (active_octets laws.good s can.state note.active d.images can.is.images) (few_banks laws s (Some b) note d bank can) in
      let many : length active ≡ length next.images = length_set note.active n.index bank ∙ zip_length (HasImage s) note.active d.images can.is.images ∙ sym (length_set d.images j.index (image_of_job j)) in
      let tag = tag_by None (record { active = active; job = None }) in
      let a_tag = laws.a_tag active bank next is in_numbers many octets (few_banks laws s (Some b) note d bank can) in
      let state = laws.tagged s tag can.state can.counted a_tag.0 in
      let kept = law s tag note.active bank d j can.state (record { keeps = keeps laws s (Some b) note d bank can; job = job_is laws s b n note d bank can has }) state.in_range none_filling stored in
      let node = laws.read_back (tagged s tag) active bank next is in_numbers kept refl in
      let zipped = λ (fresh : ℕ). laws.steps fresh s (tagged s tag) d next state (here laws s (Some b) note d bank can) (None, record { active = active; job = None }, node) in
      let P : ℕ → Type 0 = λ k. IsWritten s (tagged s (tag_by None (record { active = set note.active n.index k; job = None }))) None (record { active = set note.active n.index k; job = None }) d next in
      subst P (sym at) (record {
        state = state;
        is = node;
        as_many = λ fresh. zip_length IsNode (record_steps fresh s (tagged s tag)) (work_by fresh d next (Recorded false)) (zipped fresh);
        reads = λ fresh. laws.nodes s (record_steps fresh s (tagged s tag)) d (work_by fresh d next (Recorded false)) (here laws s (Some b) note d bank can) (zipped fresh);
      })
