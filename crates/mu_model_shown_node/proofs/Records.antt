-- A node in memory, after a record or a block.
use Rattle.std.proofs.Common.{◌≡◌, ◌∙◌, ℕ, zero, suc, ◌+◌, ◌*◌, Bool, true, false, List, [], ◌∷◌, Option, Some, None, set, refl, sym, ap, subst, arith}
use Rattle.std.specs.Prelude.{◌≢◌, ◌==◌, ◌||◌, slice_get, slice_set, slice_index_or}
use Rattle.std.specs.List.{AllZip, AllByRecursion}
use Rattle.std.proofs.lemmas.Bool.Decides.{nat_tests}
use Rattle.std.proofs.lemmas.List.{get_or-set_other}
use Rattle.mu_model_image.specs.declared.Meta.{Meta}
use Rattle.mu_model_image.specs.Meta.{Image}
use Rattle.mu_model_record.specs.declared.Record.{Record}
use Rattle.mu_model_record.specs.declared.BankState.{BankState}
use Rattle.mu_model_record.specs.declared.BankState.TheVariants.{Empty, Sealed}
use Rattle.mu_model_record.specs.Record.{entry_of, capacity_of}
use Rattle.mu_model_record.specs.Changes.{next_record}
use Rattle.mu_model_node.specs.declared.Stored.{Stored}
use Rattle.mu_model_node.specs.declared.Stored.TheVariants.{Filling, Applied}
use Rattle.mu_model_node.specs.Slots.{Slots, received}
use Rattle.mu_model_node.specs.NodeState.{Job, NodeDurable}
use Rattle.mu_model_node.specs.TimeTable.{image_of_job}
use Rattle.mu_model_represents.specs.BlobPart.{BlobJob}
use Rattle.mu_model_represents.specs.Images.{IsSealed, is_among, AllDiffer}
use Rattle.mu_model_represents.specs.NodeNote.{NoteJob}
use Rattle.mu_model_represents.specs.RepresentsNode.{IsNewerThan, IsNewerThanBank, StoredGoesWith, IsNodeJob, HasNodeJob}
use Rattle.mu_model_stored_node.specs.Kept.{with_next, activated_as}
use Rattle.mu_model_shown_node.specs.Shown.{InMemory, IsNodeMemory, HasMeta, job_with, IsShown}
use Rattle.mu_model_shown_node.specs.Next.{ActiveStay, IsNext, SaysJob, IsSameUpdate, IsTaken}

-- ---- banks

same_bank : (b : ℕ) (rest : Bool) → ((b == b) || rest) ≡ true
same_bank b rest = let same : (b == b) ≡ true = grind (arith, nat_tests) in ap (λ (t : Bool). t || rest) same

or_true : (t : Bool) → (t || true) ≡ true
or_true true = refl
or_true false = refl

by_or : (t rest : Bool) → (t || rest) ≡ false → (t ≡ false) × (rest ≡ false)
by_or true rest e = cc
by_or false rest e = (refl, e)

turned : (a b : ℕ) → (a == b) ≡ false → (b == a) ≡ false
turned a b e = grind (arith, nat_tests)

-- the others stay too
rest_stay : (b : ℕ) (active : List ℕ) (old new : Record) → ActiveStay (b ∷ active) old new → ActiveStay active old new
rest_stay b active old new stay c is = stay c (ap (λ (t : Bool). (b == c) || t) is ∙ or_true (b == c))

first_stays : (b : ℕ) (active : List ℕ) (old new : Record) → ActiveStay (b ∷ active) old new → entry_of new b ≡ entry_of old b
first_stays b active old new stay = stay b (same_bank b (is_among active b))

among : (active : List ℕ) (i bank : ℕ) → slice_get active i ≡ Some bank → is_among active bank ≡ true
among [] i bank is = absurd cc
among (b ∷ active) zero bank is =
    let same : b ≡ bank = cc in
    subst (λ (c : ℕ). ((b == c) || is_among active c) ≡ true) same (same_bank b (is_among active b))
among (b ∷ active) (suc i) bank is = ap (λ (t : Bool). (b == bank) || t) (among active i bank is) ∙ or_true (b == bank)

apart_from : (active : List ℕ) (bank b : ℕ) → is_among active bank ≡ false → is_among active b ≡ true → b ≢ bank
apart_from active bank b apart among same =
    let other : is_among active bank ≡ true = subst (λ (c : ℕ). is_among active c ≡ true) same among in
    absurd cc

pub others_stay : (r : Record) (bank : ℕ) (entry : BankState) (active tag : List ℕ) → is_among active bank ≡ false → ActiveStay active r (next_record r (slice_set r.banks bank entry) tag)
others_stay r bank entry active tag apart b is =
    get_or-set_other r.banks bank b entry Empty (apart_from active bank b apart is)

-- ---- what is kept

metas_stay : (active : List ℕ) (images : List Image) (old new : Record) → ActiveStay active old new → AllZip (HasMeta old) active images → AllZip (HasMeta new) active images
metas_stay [] [] old new stay all = tt
metas_stay [] (x ∷ images) old new stay all = absurd all
metas_stay (b ∷ active) [] old new stay all = absurd all
metas_stay (b ∷ active) (x ∷ images) old new stay all = (first_stays b active old new stay ∙ all.0, metas_stay active images old new (rest_stay b active old new stay) all.1)

pub next_shown : (m next : InMemory) (d : NodeDurable) (blocks : Slots) → IsShown m d → IsNext m next → next.note.active ≡ m.note.active → received blocks ≡ next.held
    → IsShown next (with_next d (job_with next.part next.note.job blocks))
next_shown m next d blocks shown is active held = record {
  count = ap (λ (n : ℕ). n + 1) shown.count ∙ sym is.counted;
  capacity = shown.capacity ∙ ap (λ (n : ℕ). 4096 * n) (sym is.pages);
  images = subst (λ (l : List ℕ). AllZip (HasMeta next.present) l d.images) (sym active) (metas_stay m.note.active d.images m.present next.present is.active shown.images);
  blocks = blocks;
  held = held;
  job = refl;
}

pub block_shown : (m next : InMemory) (d : NodeDurable) (blocks : Slots) → IsShown m d → next.present ≡ m.present → next.note ≡ m.note → received blocks ≡ next.held
    → IsShown next (record d { job = job_with next.part next.note.job blocks })
block_shown m next d blocks shown present note held = record {
  count = shown.count ∙ ap (λ (r : Record). r.count) (sym present);
  capacity = shown.capacity ∙ ap (λ (r : Record). capacity_of r) (sym present);
  images = rw (present, note) shown.images;
  blocks = blocks;
  held = held;
  job = refl;
}

same_banks : (old new : Record) → new.banks ≡ old.banks → (b : ℕ) → entry_of new b ≡ entry_of old b
same_banks old new is b = ap (λ (l : List BankState). slice_index_or l b Empty) is

metas_set : (r : Record) (active : List ℕ) (images : List Image) (i bank : ℕ) (x : Image) → AllZip (HasMeta r) active images → HasMeta r bank x → AllZip (HasMeta r) (set active i bank) (set images i x)
metas_set r [] [] i bank x all has = tt
metas_set r [] (y ∷ images) i bank x all has = absurd all
metas_set r (a ∷ active) [] i bank x all has = absurd all
metas_set r (a ∷ active) (y ∷ images) zero bank x all has = (has, all.1)
metas_set r (a ∷ active) (y ∷ images) (suc i) bank x all has = (all.0, metas_set r active images i bank x all.1 has)

-- the job of both halves
both : (r : Record) (active : List ℕ) (part : Option BlobJob) (job : Option NoteJob) (b : BlobJob) (n : NoteJob) → part ≡ Some b → job ≡ Some n → HasNodeJob r active part job → IsNodeJob r active b n
both r active part job b n is has rules = subst (λ (o : Option NoteJob). HasNodeJob r active (Some b) o) has (subst (λ (o : Option BlobJob). HasNodeJob r active o job) is rules)

applied : (r : Record) (active : List ℕ) (b : BlobJob) (n : NoteJob) → n.stored ≡ Applied → IsNodeJob r active b n → entry_of r b.bank ≡ Sealed n.meta
applied r active b n stored is = (subst (λ (q : Stored). StoredGoesWith q n.meta b.parameters (entry_of r b.bank)) stored is.stored).1

some_is : {A : Type 0} (x y : A) → Some x ≡ Some y → x ≡ y
some_is x y is = cc

pub activated_shown : (m next : InMemory) (d : NodeDurable) (j : Job) (b : BlobJob) (n : NoteJob) → IsNodeMemory m → IsShown m d → d.job ≡ Some j → m.part ≡ Some b → m.note.job ≡ Some n
    → n.stored ≡ Applied → next.present.count ≡ m.present.count + 1 → next.present.pages ≡ m.present.pages → next.present.banks ≡ m.present.banks
    → next.note.active ≡ set m.note.active n.index b.bank → next.part ≡ None → next.note.job ≡ None → next.held ≡ [] → IsShown next (activated_as d j)
activated_shown m next d j b n rules shown there part note stored counted pages banks active no_part no_job none =
    let halves : job_with m.part m.note.job shown.blocks ≡ job_with (Some b) (Some n) shown.blocks =
    ap (λ (o : Option BlobJob). job_with o m.note.job shown.blocks) part ∙ ap (λ (o : Option NoteJob). job_with (Some b) o shown.blocks) note in
    let is : Some j ≡ job_with (Some b) (Some n) shown.blocks = sym there ∙ shown.job ∙ halves in
    let job = some_is j _ is in
    let rule = both m.present m.note.active m.part m.note.job b n part note rules.job in
    let here : entry_of next.present b.bank ≡ Sealed j.meta =
    same_banks m.present next.present banks b.bank ∙ applied m.present m.note.active b n stored rule ∙ ap (λ (k : Job). Sealed k.meta) (sym job) in
    let stay : ActiveStay m.note.active m.present next.present = λ c among. same_banks m.present next.present banks c in
    let kept : AllZip (HasMeta next.present) (set m.note.active n.index b.bank) (set d.images n.index (image_of_job j)) =
    metas_set next.present m.note.active d.images n.index b.bank (image_of_job j) (metas_stay m.note.active d.images m.present next.present stay shown.images) here in
    let index : j.index ≡ n.index = ap (λ (k : Job). k.index) job in
    record {
      count = ap (λ (k : ℕ). k + 1) shown.count ∙ sym counted;
      capacity = shown.capacity ∙ ap (λ (k : ℕ). 4096 * k) (sym pages);
      images =
          subst (λ (l : List ℕ). AllZip (HasMeta next.present) l (set d.images j.index (image_of_job j))) (sym active)
          (subst (λ (i : ℕ). AllZip (HasMeta next.present) (set m.note.active n.index b.bank) (set d.images i (image_of_job j))) (sym index) kept);
      blocks = [];
      held = sym none;
      job = sym (ap (λ (o : Option BlobJob). job_with o next.note.job []) no_part);
    }

-- ---- the rules

sealed_stay : (active : List ℕ) (old new : Record) → ActiveStay active old new → AllByRecursion (λ (b : ℕ). IsSealed (entry_of old b)) active → AllByRecursion (λ (b : ℕ). IsSealed (entry_of new b)) active
sealed_stay [] old new stay all = tt
sealed_stay (b ∷ active) old new stay all =
    (subst (λ (e : BankState). IsSealed e) (sym (first_stays b active old new stay)) all.0, sealed_stay active old new (rest_stay b active old new stay) all.1)

pub next_node : (m next : InMemory) → IsNodeMemory m → IsNext m next → next.note.active ≡ m.note.active → SaysJob next → IsNodeMemory next
next_node m next rules is active says = record {
  blob = says.blob;
  note_octets = says.note;
  active_differ = subst (λ (l : List ℕ). AllDiffer l) (sym active) rules.active_differ;
  active_sealed = subst (λ (l : List ℕ). AllByRecursion (λ (b : ℕ). IsSealed (entry_of next.present b)) l) (sym active) (sealed_stay m.note.active m.present next.present is.active rules.active_sealed);
  job = says.job;
}

newer_stays : (active : List ℕ) (old new : Record) (version index : ℕ) → ActiveStay active old new → IsNewerThanBank old version (slice_get active index) → IsNewerThanBank new version (slice_get active index)
newer_stays active old new version index stay newer = by_place (slice_get active index) refl newer
  where
    by_place : (o : Option ℕ) → slice_get active index ≡ o → IsNewerThanBank old version o → IsNewerThanBank new version o
    by_place None is h = h
    by_place (Some bank) is h = subst (λ (e : BankState). IsNewerThan version e) (sym (stay bank (among active index bank is))) h

pub goes_on : (active : List ℕ) (old new : Record) (b c : BlobJob) (n o : NoteJob) → IsNodeJob old active b n → ActiveStay active old new → IsSameUpdate b c n o
    → StoredGoesWith o.stored o.meta c.parameters (entry_of new c.bank) → IsNodeJob new active c o
goes_on active old new b c n o is stay same stored = record {
  bank = ap (λ (k : ℕ). is_among active k) same.bank ∙ is.bank;
  size = ap (λ (meta : Meta). meta.size) same.meta ∙ is.size ∙ sym same.size;
  newer = rw (same.meta, same.index) (newer_stays active old new n.meta.version n.index stay is.newer);
  stored = stored;
}

offered : (r : Record) (b : BlobJob) (n : NoteJob) → n.stored ≡ Filling → b.parameters ≡ None → StoredGoesWith n.stored n.meta b.parameters (entry_of r b.bank)
offered r b n stored none = rw (stored, none) tt

pub taken : (active : List ℕ) (old new : Record) (b : BlobJob) (n : NoteJob) → IsTaken active old b n → ActiveStay active old new → IsNodeJob new active b n
taken active old new b n is stay = record {
  bank = is.bank;
  size = is.size;
  newer = newer_stays active old new n.meta.version n.index stay is.newer;
  stored = offered new b n is.stored is.parameters;
}

among_set : (active : List ℕ) (i bank b : ℕ) → is_among active b ≡ false → (bank == b) ≡ false → is_among (set active i bank) b ≡ false
among_set [] i bank b none apart = refl
among_set (a ∷ active) zero bank b none apart =
    let parts = by_or (a == b) (is_among active b) none in
    ap (λ (t : Bool). t || is_among active b) apart ∙ parts.1
among_set (a ∷ active) (suc i) bank b none apart =
    let parts = by_or (a == b) (is_among active b) none in
    ap (λ (t : Bool). t || is_among (set active i bank) b) parts.0 ∙ among_set active i bank b parts.1 apart

differ_set : (active : List ℕ) (i bank : ℕ) → AllDiffer active → is_among active bank ≡ false → AllDiffer (set active i bank)
differ_set [] i bank apart none = tt
differ_set (a ∷ active) zero bank apart none = ((by_or (a == bank) (is_among active bank) none).1, apart.1)
differ_set (a ∷ active) (suc i) bank apart none =
    let parts = by_or (a == bank) (is_among active bank) none in
    (among_set active i bank a apart.0 (turned a bank parts.0), differ_set active i bank apart.1 parts.1)

sealed_set : (r : Record) (active : List ℕ) (i bank : ℕ) → AllByRecursion (λ (b : ℕ). IsSealed (entry_of r b)) active → IsSealed (entry_of r bank) → AllByRecursion (λ (b : ℕ). IsSealed (entry_of r b)) (set active i bank)
sealed_set r [] i bank all has = tt
sealed_set r (a ∷ active) zero bank all has = (has, all.1)
sealed_set r (a ∷ active) (suc i) bank all has = (all.0, sealed_set r active i bank all.1 has)

pub activated_node : (m next : InMemory) (b : BlobJob) (n : NoteJob) → IsNodeMemory m → m.part ≡ Some b → m.note.job ≡ Some n → n.stored ≡ Applied → next.present.number ≡ m.present.number
    → next.present.banks ≡ m.present.banks → next.note.active ≡ set m.note.active n.index b.bank → next.part ≡ None → next.note.job ≡ None → SaysJob next → IsNodeMemory next
activated_node m next b n rules part note stored number banks active no_part no_job says =
    let rule = both m.present m.note.active m.part m.note.job b n part note rules.job in
    let here : entry_of next.present b.bank ≡ Sealed n.meta = same_banks m.present next.present banks b.bank ∙ applied m.present m.note.active b n stored rule in
    let stay : ActiveStay m.note.active m.present next.present = λ c among. same_banks m.present next.present banks c in
    record {
      blob = says.blob;
      note_octets = says.note;
      active_differ = subst (λ (l : List ℕ). AllDiffer l) (sym active) (differ_set m.note.active n.index b.bank rules.active_differ rule.bank);
      active_sealed = subst (λ (l : List ℕ). AllByRecursion (λ (c : ℕ). IsSealed (entry_of next.present c)) l) (sym active)
          (sealed_set next.present m.note.active n.index b.bank (sealed_stay m.note.active m.present next.present stay rules.active_sealed) (subst (λ (e : BankState). IsSealed e) (sym here) tt));
      job = says.job;
    }
