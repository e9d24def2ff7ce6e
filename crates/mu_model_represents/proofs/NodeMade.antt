-- Each sound state of a node is represented by a store.
use Rattle.std.proofs.Common.{◌≡◌, ℕ, zero, suc, ◌+◌, ◌*◌, ◌<◌, ◌≤◌, false, Option, Some, None, List, [], ◌∷◌, length, refl, sym, ◌∙◌, ap, subst, arith}
use Rattle.std.specs.Prelude.{slice_get, is_some}
use Rattle.std.specs.List.{AllByRecursion, AllZip}
use Rattle.std.proofs.lemmas.Option.{slice_get_within, slice_get_past}
use Rattle.mu_model_image.specs.declared.Meta.{Meta}
use Rattle.mu_model_image.specs.Meta.{Image, IsMeta}
use Rattle.mu_model_image.specs.Laws.{BlocksAreThoseWithin, MetaIsReadBack}
use Rattle.mu_model_record.specs.declared.BankState.{BankState}
use Rattle.mu_model_record.specs.declared.BankState.TheVariants.{Empty, Sealed}
use Rattle.mu_model_record.specs.declared.BankState.TheVariants.{Filling as FillingBank}
use Rattle.mu_model_record.specs.declared.Record.{Record}
use Rattle.mu_model_record.specs.Record.{IsEntryInRange, IsFilling, entry_of, capacity_of}
use Rattle.mu_model_record.specs.Store.{Content, nothing, whole, StoreState, content_of_bank}
use Rattle.mu_model_record.specs.Store.{held as held_blocks}
use Rattle.mu_model_node.specs.declared.Parameters.{Parameters}
use Rattle.mu_model_node.specs.declared.Stored.{Stored}
use Rattle.mu_model_node.specs.declared.Stored.TheVariants.{Filling, Verified, Refused, Applied}
use Rattle.mu_model_node.specs.NodeState.{Job, NodeDurable}
use Rattle.mu_model_node.specs.Slots.{Slots, joined}
use Rattle.mu_model_node.specs.Sound.{IsActiveImage, HasBlocks, AreBlocks, IsWhole, StoredIs, IsJob, HasJob, IsNodeDurable}
use Rattle.mu_model_represents.specs.BlobPart.{TakesBy, BankGoesWith, NoneFilling, blocks_by, held_by}
use Rattle.mu_model_represents.specs.Images.{is_among, AllDiffer, HasImage}
use Rattle.mu_model_represents.specs.Numbers.{HasNumbersOf, HasNodeNumbers}
use Rattle.mu_model_represents.specs.StoreStates.{ContentOf, IsStoreState}
use Rattle.mu_model_represents.specs.RepresentsNode.{StoredGoesWith, IsNode, node_tag, part_of_node, note_of_node}
use Rattle.mu_model_represents.specs.Written.{KeepsJobs, KeepsNode}
use Rattle.mu_model_represents.proofs.Cuts.{held_is_cut}
use Rattle.mu_model_represents.specs.Made.{Plan, made, IsPlan}
use Rattle.mu_model_represents.proofs.Made.{has_image, entry_there, content_there, none_filling, is_made}
use Rattle.mu_model_represents.proofs.NodeWritten.{are_tags, read_back}
use Rattle.mu_model_represents.proofs.NoteWritten.{AreActive, one, two}

-- what the bank of a job is, and what it holds
abbrev entry_for : Option Parameters → Stored → Meta → BankState
entry_for None stored meta = Empty
entry_for (Some p) Filling meta = FillingBank p.size p.log
entry_for (Some p) Verified meta = Sealed meta
entry_for (Some p) Applied meta = Sealed meta
entry_for (Some p) Refused meta = Empty

abbrev content_for : Option Parameters → Stored → Slots → Content
content_for None stored slots = nothing
content_for (Some p) Filling slots = held_blocks slots
content_for (Some p) Verified slots = whole (joined slots)
content_for (Some p) Applied slots = whole (joined slots)
content_for (Some p) Refused slots = nothing

abbrev entry_of_job : Option Job → BankState
entry_of_job None = Empty
entry_of_job (Some j) = entry_for j.parameters j.stored j.meta

abbrev content_of_job : Option Job → Content
content_of_job None = nothing
content_of_job (Some j) = content_for j.parameters j.stored j.held

-- a sound job's bank
record IsGoodBank (capacity : ℕ) (j : Job) (p : Option Parameters) (stored : Stored) : Type 0 where
  range : (r : Record) → capacity_of r ≡ capacity → IsEntryInRange r (entry_for p stored j.meta)
  content : ContentOf (entry_for p stored j.meta) (content_for p stored j.held)
  goes_with : (r : Record) (bank : ℕ) → entry_of r bank ≡ entry_for p stored j.meta → ((IsFilling (entry_for p stored j.meta) → ⊥) → NoneFilling r) → BankGoesWith r bank p
  stored_goes : StoredGoesWith stored j.meta p (entry_for p stored j.meta)
  held_is : j.held ≡ held_by p (content_for p stored j.held)

module _ (within : BlocksAreThoseWithin) (capacity : ℕ) (j : Job) (some : 0 < j.meta.size) (room : j.meta.size ≤ capacity) (metas : IsMeta j.meta) where
  whole_bank : (p : Parameters) → AreBlocks j.meta.size p j.held → IsWhole j → j.held ≡ blocks_by p.log (whole (joined j.held))
  whole_bank p blocks is = (held_is_cut within j.held p.size p.log blocks.count blocks.lengths is.full (is.fit.size ∙ sym blocks.size))

  good_bank : (p : Option Parameters) (stored : Stored) → j.parameters ≡ p → HasBlocks j.meta.size p j.held → StoredIs j stored → IsGoodBank capacity j p stored
  good_bank None Filling is blocks stored = record { range = λ r c. tt; content = tt; goes_with = λ r bank e none. none (λ h. h); stored_goes = tt; held_is = blocks }
  good_bank None Verified is blocks stored = absurd (let h = sym (ap is_some is) ∙ stored.parameters in cc h)
  good_bank None Refused is blocks stored = record { range = λ r c. tt; content = tt; goes_with = λ r bank e none. none (λ h. h); stored_goes = refl; held_is = blocks }
  good_bank None Applied is blocks stored = absurd (let h = sym (ap is_some is) ∙ stored.parameters in cc h)
  good_bank (Some p) Filling is blocks stored = record {
    range = λ r c. (omega (arith, some, blocks.size), omega (arith, room, c, blocks.size), blocks.log_above, blocks.log_below);
    content = (blocks.count, blocks.lengths);
    goes_with = λ r bank e none. subst (λ (b : BankState). TakesBy p b) (sym e) (refl, refl);
    stored_goes = tt;
    held_is = refl;
  }
  good_bank (Some p) Refused is blocks stored = absurd (let h = sym is ∙ stored in cc h)
  good_bank (Some p) Verified is blocks stored = record {
    range = λ r c. (metas, omega (arith, room, c));
    content = stored.fit;
    goes_with = λ r bank e none. subst (λ (b : BankState). TakesBy p b) (sym e) (sym blocks.size, blocks.log_above, blocks.log_below);
    stored_goes = (refl, refl);
    held_is = whole_bank p blocks stored;
  }
  good_bank (Some p) Applied is blocks stored = record {
    range = λ r c. (metas, omega (arith, room, c));
    content = stored.fit;
    goes_with = λ r bank e none. subst (λ (b : BankState). TakesBy p b) (sym e) (sym blocks.size, blocks.log_above, blocks.log_below);
    stored_goes = (refl, refl);
    held_is = whole_bank p blocks stored;
  }

-- ---- the store

abbrev plan_for : (count pages : ℕ) (active : List ℕ) (bank : ℕ) (job : Option Job) → Plan
plan_for count pages active bank job = record {
  count = count;
  pages = pages;
  number = 1 + bank;
  tag = node_tag active bank job;
  bank = bank;
  entry = entry_of_job job;
  content = content_of_job job;
}

module _ (within : BlocksAreThoseWithin) (d : NodeDurable) (sound : IsNodeDurable d) (numbers : HasNodeNumbers d) (active : List ℕ) (acts : AreActive active) (pages : ℕ) (some : 1 ≤ pages) (few : pages ≤ 256) (room : d.capacity ≡ 4096 * pages) where
  abbrev bank : ℕ
  bank = length d.images

  abbrev plan : Plan
  plan = plan_for d.count pages active (length d.images) d.job

  abbrev placed : ℕ → Option Image
  placed = slice_get d.images

  job_bank : (j : Job) → IsJob d.capacity d.images j → HasNumbersOf (Some j) → IsGoodBank d.capacity j j.parameters j.stored
  job_bank j is fits = (good_bank within d.capacity j is.some is.room fits.meta) j.parameters j.stored refl is.blocks is.stored

  range_of : (r : Record) → capacity_of r ≡ d.capacity → (job : Option Job) → HasJob d.capacity d.images job → HasNumbersOf job → IsEntryInRange r (entry_of_job job)
  range_of r c None is fits = tt
  range_of r c (Some j) is fits = (job_bank j is fits).range r c

  content_ok : (job : Option Job) → HasJob d.capacity d.images job → HasNumbersOf job → ContentOf (entry_of_job job) (content_of_job job)
  content_ok None is fits = tt
  content_ok (Some j) is fits = (job_bank j is fits).content

  good_at : (xs : List Image) → AllByRecursion (λ (x : Image). IsMeta x.meta) xs → (b : ℕ) (x : Image) → slice_get xs b ≡ Some x → IsMeta x.meta
  good_at [] all b x at = absurd cc
  good_at (y ∷ xs) all zero x at = let same : y ≡ x = cc at in subst (λ (z : Image). IsMeta z.meta) same all.0
  good_at (y ∷ xs) all (suc b) x at = good_at xs all.1 b x at

  is_plan : IsPlan plan placed
  is_plan = record {
    count = numbers.count;
    pages_least = some;
    pages_most = few;
    number_least = omega (arith, sound.some_image);
    number_most = omega (arith, sound.two_images);
    tag = (are_tags active bank d sound numbers acts (omega (arith, sound.two_images))).0;
    there = λ b x at. omega (arith, slice_get_within d.images b x at);
    good = λ b x at. record { meta = good_at d.images numbers.images b x at; active = subst (λ (n : ℕ). IsActiveImage n x) room (sound.images b x at) };
    bank = omega arith;
    entry = range_of (made plan placed).present (sym room) d.job sound.job numbers.job;
    content = content_ok d.job sound.job numbers.job;
  }

  free : placed bank ≡ None
  free = slice_get_past d.images (length d.images) (omega arith)

  not_filling : (job : Option Job) → entry_of_job job ≡ Empty → IsFilling (entry_of_job job) → ⊥
  not_filling job is h = subst (λ (b : BankState). IsFilling b) is h

  keeps_job : (job : Option Job) → HasJob d.capacity d.images job → HasNumbersOf job → is_among active bank ≡ false → entry_of (made plan placed).present bank ≡ entry_of_job job → content_of_bank (made plan placed) bank ≡ content_of_job job
      → ((IsFilling (entry_of_job job) → ⊥) → NoneFilling (made plan placed).present) → KeepsJobs (made plan placed) active bank job
  keeps_job None is fits apart entry content none = none (λ h. h)
  keeps_job (Some j) is fits apart entry content none =
      let good = job_bank j is fits in
      record {
        there = omega arith;
        apart = apart;
        goes_with = good.goes_with (made plan placed).present bank entry none;
        stored = subst (λ (b : BankState). StoredGoesWith j.stored j.meta j.parameters b) (sym entry) good.stored_goes;
        held = good.held_is ∙ ap (held_by j.parameters) (sym content);
      }

  keeps : length active ≡ length d.images → AllDiffer active → is_among active bank ≡ false → AllZip (HasImage (made plan placed)) active d.images → KeepsNode (made plan placed) active bank d
  keeps many differ apart images = record {
    in_range = (is_made plan placed is_plan).in_range;
    one_more = ap (λ (n : ℕ). 1 + n) (sym many);
    count = refl;
    capacity = room;
    differ = differ;
    images = images;
    job = keeps_job d.job sound.job numbers.job apart (entry_there plan placed is_plan free) (content_there plan placed is_plan free) (none_filling plan placed is_plan);
  }

  is_there : MetaIsReadBack → length active ≡ length d.images → AllDiffer active → is_among active bank ≡ false → AllZip (HasImage (made plan placed)) active d.images → (s : StoreState) × IsStoreState s × IsNode s d
  is_there back many differ apart images =
      (made plan placed, is_made plan placed is_plan, (part_of_node bank d.job, note_of_node active d.job, (read_back (made plan placed) active bank d sound numbers (keeps many differ apart images)) back refl))

module _ (within : BlocksAreThoseWithin) (back : MetaIsReadBack) (count capacity pages : ℕ) (job : Option Job) (some : 1 ≤ pages) (few : pages ≤ 256) (room : capacity ≡ 4096 * pages) where
  abbrev of_images : List Image → NodeDurable
  of_images images = record { count = count; capacity = capacity; images = images; job = job }

  by_images : (images : List Image) → IsNodeDurable (of_images images) → HasNodeNumbers (of_images images) → (s : StoreState) × IsStoreState s × IsNode s (of_images images)
  by_images [] sound numbers = absurd (omega (arith, sound.some_image))
  by_images (x ∷ []) sound numbers =
      let acts = one 0 (omega arith) in
      let in_place = has_image (plan_for count pages (0 ∷ []) 1 job) (slice_get (x ∷ [])) ((is_plan within (of_images (x ∷ [])) sound numbers (0 ∷ []) acts pages some few room)) in
      (is_there within (of_images (x ∷ [])) sound numbers (0 ∷ []) acts pages some few room) back refl (refl, tt) refl (in_place 0 x refl, tt)
  by_images (x ∷ y ∷ []) sound numbers =
      let acts = two 0 1 (omega arith) (omega arith) in
      let in_place = has_image (plan_for count pages (0 ∷ 1 ∷ []) 2 job) (slice_get (x ∷ y ∷ [])) ((is_plan within (of_images (x ∷ y ∷ [])) sound numbers (0 ∷ 1 ∷ []) acts pages some few room)) in
      (is_there within (of_images (x ∷ y ∷ [])) sound numbers (0 ∷ 1 ∷ []) acts pages some few room) back refl (refl, (refl, tt)) refl (in_place 0 x refl, (in_place 1 y refl, tt))
  by_images (x ∷ y ∷ z ∷ images) sound numbers = absurd (omega (arith, sound.two_images))

pub node_made : BlocksAreThoseWithin → MetaIsReadBack → (d : NodeDurable) → IsNodeDurable d → HasNodeNumbers d → (s : StoreState) × IsStoreState s × IsNode s d
node_made within back d sound numbers =
    let c = sound.capacity in
    (by_images within back d.count d.capacity c.0 d.job c.1 c.2 c.3) d.images sound numbers
