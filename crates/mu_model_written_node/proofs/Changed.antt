-- What a store represents after the change of a BLOB message.
use Rattle.std.proofs.Common.{◌≡◌, ◌∙◌, ◌<◌, ◌≤◌, ◌^◌, ℕ, zero, suc, false, List, [], ◌∷◌, length, Option, Some, None, refl, sym, ap, subst, arith}
use Rattle.std.specs.Prelude.{slice_get}
use Rattle.std.specs.List.{AllByRecursion, AllZip}
use Rattle.mu_model_image.specs.Meta.{Image}
use Rattle.mu_model_image.specs.Pieces.{block_count, piece_count}
use Rattle.mu_model_record.specs.declared.Record.{Record}
use Rattle.mu_model_record.specs.declared.BankState.{BankState}
use Rattle.mu_model_record.specs.declared.BankState.TheVariants.{Empty}
use Rattle.mu_model_record.specs.Record.{IsFilling, entry_of, capacity_of}
use Rattle.mu_model_record.specs.Store.{Content, nothing, held, StoreState}
use Rattle.mu_model_record.specs.Next.{record_steps, block_steps}
use Rattle.mu_model_record.specs.Changes.{with_bank, with_block, filling_entry}
use Rattle.mu_model_node.specs.declared.FlashWork.{FlashWork}
use Rattle.mu_model_node.specs.declared.FlashWork.TheVariants.{Recorded}
use Rattle.mu_model_node.specs.declared.Parameters.{Parameters}
use Rattle.mu_model_node.specs.declared.Stored.TheVariants.{Filling}
use Rattle.mu_model_node.specs.BlobServer.{Begins, Drops, Puts}
use Rattle.mu_model_node.specs.FlashWork.{page_octets, work_by}
use Rattle.mu_model_node.specs.NodeState.{Job, NodeDurable}
use Rattle.mu_model_node.specs.NodeOutcome.{job_changed, work_of}
use Rattle.mu_model_node.specs.Slots.{Slots, empty}
use Rattle.mu_model_node.specs.Sound.{IsNewer, IsNodeDurable}
use Rattle.mu_model_represents.specs.BlobPart.{BlobJob, blob_part, note_part, IsBlobPart, BankGoesWith, FitParameters, ParametersFit, FitsPart}
use Rattle.mu_model_represents.specs.Blocks.{TakesBlocks, NodeBlockIsPut}
use Rattle.mu_model_represents.specs.Images.{IsSealed, HasImage}
use Rattle.mu_model_represents.specs.NodeNote.{NoteJob, NodeNote, IsNodeNote}
use Rattle.mu_model_represents.specs.RepresentsNode.{IsNewerThan, IsNewerThanBank, IsNodeJob, HasNodeJob, job_in, job_by, IsNodeOf, IsNode}
use Rattle.mu_model_represents.specs.StoreStates.{IsStoreState}
use Rattle.mu_model_represents.specs.Written.{KeepsNode}
use Rattle.mu_model_jobs.specs.Parts.{with_part, NewPartKeepsTheNote}
use Rattle.mu_model_jobs.specs.States.{BegunIsAState, BlockIsAState, CanBegin, CanPut}
use Rattle.mu_model_jobs.specs.Transfers.{begun_job, dropped_job}
use Rattle.mu_model_stored_node.specs.Kept.{with_next, HasJob, JobBegins, JobDrops}
use Rattle.mu_model_stored_node.specs.Steps.{NodeBeginSteps, NodeBlockSteps}
use Rattle.mu_model_written_node.proofs.Free.{filling_within}
use Rattle.mu_model_written_node.proofs.Written.{Laws, zip_length, not_among_filling, here, job_is, here_is, numbers_of}
use Rattle.mu_model_written_node.specs.Changed.{begun_store, dropped_store}
use Rattle.mu_model_written_node.specs.Written.{CanWrite, IsWorked, IsWritten}

newer_bank : (e : StoreState) (version : ℕ) (active : List ℕ) (images : List Image) → AllZip (HasImage e) active images → (index : ℕ) → IsNewer version (slice_get images index)
    → IsNewerThanBank e.present version (slice_get active index)
newer_bank e version [] [] all index newer = newer
newer_bank e version [] (x ∷ images) all index newer = absurd all
newer_bank e version (b ∷ active) [] all index newer = absurd all
newer_bank e version (b ∷ active) (x ∷ images) all zero newer = subst (λ (entry : BankState). IsNewerThan version entry) (sym all.0.entry) newer
newer_bank e version (b ∷ active) (x ∷ images) all (suc index) newer = newer_bank e version active images all.1 index newer

are_sealed : (e : StoreState) (active : List ℕ) (images : List Image) → AllZip (HasImage e) active images → AllByRecursion (λ (b : ℕ). IsSealed (entry_of e.present b)) active
are_sealed e [] [] all = tt
are_sealed e [] (x ∷ images) all = absurd all
are_sealed e (b ∷ active) [] all = absurd all
are_sealed e (b ∷ active) (x ∷ images) all = (subst IsSealed (sym all.0.entry) tt, are_sealed e active images all.1)

-- a job whose bank is being filled has parameters
has_parameters : (r : Record) (bank : ℕ) (q : Option Parameters) → BankGoesWith r bank q → IsFilling (entry_of r bank) → (p : Parameters) × (q ≡ Some p)
has_parameters r bank None goes filling = absurd (goes bank filling)
has_parameters r bank (Some p) goes filling = (p, refl)

-- ---- the job with other parameters, and the same note

abbrev part_by : BlobJob → Option Parameters → BlobJob
part_by b q = record { id = b.id; size = b.size; base = b.base; bank = b.bank; parameters = q }

abbrev job_with : Job → Option Parameters → Slots → Job
job_with j q slots = record j { parameters = q; held = slots }

module _ (s : StoreState) (b : BlobJob) (n : NoteJob) (note : NodeNote) (d : NodeDurable) (is : IsNodeOf s (Some b) note d) (has : note.job ≡ Some n) where
  rule : IsNodeJob s.present note.active b n
  rule = subst (λ (x : Option NoteJob). HasNodeJob s.present note.active (Some b) x) has is.is_record.job

  node_after : (q : Option Parameters) (slots : Slots) (entry : BankState) (content : Content) (tag : List ℕ) → IsBlobPart (Some (part_by b q)) (blob_part tag) → note_part tag ≡ note_part s.present.tag
      → IsNewer n.meta.version (slice_get d.images n.index) → KeepsNode (with_bank s b.bank entry content tag) note.active b.bank (with_next d (Some (job_with (job_in s b n) q slots)))
      → IsNodeOf (with_bank s b.bank entry content tag) (Some (part_by b q)) note (with_next d (Some (job_with (job_in s b n) q slots)))
  node_after q slots entry content tag octets same newer kept =
      let e : StoreState = with_bank s b.bank entry content tag in
      let job : IsNodeJob e.present note.active (part_by b q) n = record {
        bank = kept.job.apart;
        size = rule.size;
        newer = newer_bank e n.meta.version note.active d.images kept.images n.index newer;
        stored = kept.job.stored;
      } in
      record {
        is_record = record {
          blob = record {
            octets = octets;
            rules = record {
              size_least = is.is_record.blob.rules.size_least;
              size_most = is.is_record.blob.rules.size_most;
              bank = kept.job.there;
              goes_with = kept.job.goes_with;
            };
          };
          note_octets = subst (λ (l : List ℕ). IsNodeNote s.present.number note l) (sym same) is.is_record.note_octets;
          active_differ = kept.differ;
          active_sealed = are_sealed e note.active d.images kept.images;
          job = subst (λ (x : Option NoteJob). HasNodeJob e.present note.active (Some (part_by b q)) x) (sym has) job;
        };
        count = kept.count;
        capacity = kept.capacity;
        images = kept.images;
        job = ap (λ (slots : Slots). Some (job_with (job_in s b n) q slots)) kept.job.held ∙ ap (λ (x : Option NoteJob). job_by e (Some (part_by b q)) x) (sym has);
      }

-- ---- the laws that are used

pub record ChangeLaws : Type 0 where
  pub laws : Laws
  pub begun : BegunIsAState
  pub block : BlockIsAState
  pub new_part : NewPartKeepsTheNote
  pub begins : JobBegins
  pub drops : JobDrops
  pub puts : NodeBlockIsPut
  pub begin_steps : NodeBeginSteps
  pub put_steps : NodeBlockSteps

worked : Laws → (s e : StoreState) (part : Option BlobJob) (note : NodeNote) (d n : NodeDurable) (steps : ℕ → List StoreState) (work : FlashWork) → IsNode s d → IsStoreState e → IsNodeOf e part note n
    → ((fresh : ℕ) → AllZip IsNode (steps fresh) (work_by fresh d n work)) → IsWorked s e part note d n steps work
worked laws s e part note d n steps work here state node zipped = record {
  state = state;
  is = node;
  as_many = λ fresh. zip_length IsNode (steps fresh) (work_by fresh d n work) (zipped fresh);
  reads = λ fresh. laws.nodes s (steps fresh) d (work_by fresh d n work) here (zipped fresh);
}

module _ (c : ChangeLaws) (s : StoreState) (b : BlobJob) (n : NoteJob) (note : NodeNote) (d : NodeDurable) (bank : ℕ) (can : CanWrite s (Some b) note d bank) (has : note.job ≡ Some n) where
  has_job : HasJob s note.active b.bank d (job_in s b n)
  has_job = record { keeps = c.laws.kept s (Some b) note d can.state can.is; job = job_is c.laws s b n note d bank can has }

  alone : (a : ℕ) → IsFilling (entry_of s.present a) → a ≡ b.bank
  alone a filling =
      can.free.alone a (filling_within s.present a can.state.in_range filling) (not_among_filling c.laws.good s note.active d.images a can.is.images filling)
      ∙ sym (here_is c.laws s b n note d bank can has)

  fits : (q : Option Parameters) → ParametersFit b.size q → FitsPart (part_by b q)
  fits q parameters =
      let numbers = numbers_of c.laws s b n note d bank can has in
      record {
        id = numbers.id;
        size = subst (λ (size : ℕ). size < 2 ^ 32) (rule s b n note d can.is has).size numbers.meta.size;
        base = numbers.base;
        bank = omega (arith, can.is.is_record.blob.rules.bank, can.state.in_range.number_most);
        parameters = parameters;
      }

  pub begun_is : (p : Parameters) → n.stored ≡ Filling → p.mtu < 2 ^ 16 → IsNodeDurable (with_next d (Some (job_changed (Begins p) (job_in s b n))))
      → IsWorked s (begun_store s b p) (Some (begun_job b p)) note d (with_next d (Some (job_changed (Begins p) (job_in s b n)))) (λ (fresh : ℕ). s ∷ record_steps fresh s (begun_store s b p)) (work_of (Begins p))
  begun_is p stored mtu sound =
      let blocks = sound.job.blocks in
      let same : p.size ≡ b.size = blocks.size ∙ (rule s b n note d can.is has).size in
      let parameters : FitParameters b.size p = record {
        mode_least = blocks.mode_above;
        mode_most = blocks.mode_below;
        mtu_least = blocks.mtu_above;
        mtu_most = mtu;
        log_most = omega (arith, blocks.log_below);
        same_size = same;
      } in
      let tag : List ℕ = with_part (Some (begun_job b p)) s.present.tag in
      let part = c.new_part (Some (begun_job b p)) s.present.tag (fits (Some p) parameters) (can.state.in_range.tag_size, can.state.in_range.tag_octets) in
      let can_begin : CanBegin s b.bank p.size p.log = record {
        there = can.is.is_record.blob.rules.bank;
        size_least = subst (λ (size : ℕ). 0 < size) (sym blocks.size) sound.job.some;
        size_most = subst (λ (size : ℕ). size ≤ capacity_of s.present) (sym same) can.is.is_record.blob.rules.size_most;
        log_least = blocks.log_above;
        log_most = blocks.log_below;
        alone = alone;
      } in
      let state = c.begun s b.bank p.size p.log tag can.state can.counted part.0 can_begin in
      let kept = c.begins s p tag note.active b.bank d (job_in s b n) can.state has_job state.in_range stored in
      let slots : Slots = empty (block_count p.size p.log) in
      let node = node_after s b n note d can.is has (Some p) slots (filling_entry p.size p.log) (held slots) tag part.1 part.2 sound.job.newer kept in
      let next : NodeDurable = with_next d (Some (job_changed (Begins p) (job_in s b n))) in
      worked c.laws s (begun_store s b p) (Some (begun_job b p)) note d next (λ (fresh : ℕ). s ∷ record_steps fresh s (begun_store s b p)) (work_of (Begins p)) (Some b, note, can.is) state node
      (λ fresh. c.begin_steps fresh s (begun_store s b p) d next state (Some b, note, can.is) (Some (begun_job b p), note, node))

  pub dropped_is : n.stored ≡ Filling → IsFilling (entry_of s.present b.bank) → IsNodeDurable (with_next d (Some (job_changed Drops (job_in s b n))))
      → IsWritten s (dropped_store s b) (Some (dropped_job b)) note d (with_next d (Some (job_changed Drops (job_in s b n))))
  dropped_is stored filling sound =
      let tag : List ℕ = with_part (Some (dropped_job b)) s.present.tag in
      let part = c.new_part (Some (dropped_job b)) s.present.tag (fits None tt) (can.state.in_range.tag_size, can.state.in_range.tag_octets) in
      let state = c.laws.emptied s b.bank tag can.state can.counted part.0 can.is.is_record.blob.rules.bank in
      let kept = c.drops s tag note.active b.bank d (job_in s b n) can.state has_job state.in_range filling stored in
      let node = node_after s b n note d can.is has None [] Empty nothing tag part.1 part.2 sound.job.newer kept in
      let next : NodeDurable = with_next d (Some (job_changed Drops (job_in s b n))) in
      worked c.laws s (dropped_store s b) (Some (dropped_job b)) note d next (λ (fresh : ℕ). record_steps fresh s (dropped_store s b)) (Recorded false) (Some b, note, can.is) state node
      (λ fresh. c.laws.steps fresh s (dropped_store s b) d next state (Some b, note, can.is) (Some (dropped_job b), note, node))

pub put_is : ChangeLaws → (s : StoreState) (b : BlobJob) (n : NoteJob) (note : NodeNote) (d : NodeDurable) (i : ℕ) (octets : List ℕ) → IsStoreState s → IsNodeOf s (Some b) note d → note.job ≡ Some n
    → CanPut s b.bank i octets
    → IsWorked s (with_block s b.bank i octets) (Some b) note d (record d { job = Some (job_changed (Puts i octets) (job_in s b n)) })
    (λ (fresh : ℕ). block_steps (piece_count (length octets) page_octets) s (with_block s b.bank i octets)) (work_of (Puts i octets))
put_is c s b n note d i octets state is has can =
    let pages : ℕ = piece_count (length octets) page_octets in
    let e : StoreState = with_block s b.bank i octets in
    let next : NodeDurable = record d { job = Some (job_changed (Puts i octets) (job_in s b n)) } in
    let p = has_parameters s.present b.bank b.parameters is.is_record.blob.rules.goes_with (subst IsFilling (sym can.entry) tt) in
    let takes : TakesBlocks s b = record { there = can.there; parameters = p.0; begun = p.1; blocks = can.blocks; content = can.content } in
    let job : d.job ≡ Some (job_in s b n) = is.job ∙ ap (λ (x : Option NoteJob). job_by s (Some b) x) has in
    let node : IsNodeOf e (Some b) note next = c.puts s b note d (job_in s b n) i octets state takes is job in
    worked c.laws s e (Some b) note d next (λ (fresh : ℕ). block_steps pages s e) (work_of (Puts i octets)) (Some b, note, is) (c.block s b.bank i octets state can) node
    (λ fresh. c.put_steps fresh pages s e d next (Some b, note, is) (Some b, note, node))
