-- What a node keeps, after each call.
use Rattle.std.proofs.Common.{◌≡◌, ◌∙◌, ◌<◌, ◌≤◌, ℕ, zero, suc, ◌+◌, ◌⊎◌, inl, inr, Bool, true, false, List, [], ◌∷◌, length, set, Option, Some, None, refl, sym, ap, subst, arith}
use Rattle.std.specs.Prelude.{◌≢◌, ◌==◌, ◌||◌, is_some}
use Rattle.std.specs.List.{AllZip}
use Rattle.std.proofs.Math.ListN.{length-set}
use Rattle.std.proofs.lemmas.Bool.Decides.{nat_tests}
use Rattle.mu_model_image.specs.declared.Meta.{Meta}
use Rattle.mu_model_image.specs.Meta.{Image, IsFit}
use Rattle.mu_model_image.specs.Pieces.{block_count, block_length}
use Rattle.mu_model_record.specs.declared.BankState.{BankState}
use Rattle.mu_model_record.specs.declared.BankState.TheVariants.{Empty, Sealed}
use Rattle.mu_model_record.specs.declared.BankState.TheVariants.{Filling as FillingBank}
use Rattle.mu_model_record.specs.Record.{IsRecord, IsFilling, IsEntryInRange, entry_of}
use Rattle.mu_model_record.specs.Store.{Content, nothing, held, whole, StoreState, content_of_bank}
use Rattle.mu_model_record.specs.Changes.{next_record, tagged, with_bank, begun, emptied, sealed_up}
use Rattle.mu_model_node.specs.declared.Parameters.{Parameters}
use Rattle.mu_model_node.specs.declared.Stored.{Stored}
use Rattle.mu_model_node.specs.declared.Stored.TheVariants.{Filling, Verified, Refused, Applied}
use Rattle.mu_model_node.specs.Slots.{Slots, empty, is_full, joined}
use Rattle.mu_model_node.specs.NodeState.{Job, NodeDurable}
use Rattle.mu_model_node.specs.Sound.{HaveLengths}
use Rattle.mu_model_node.specs.TimeTable.{image_of_job}
use Rattle.mu_model_represents.specs.BlobPart.{BlobJob, NoneFilling, TakesBy, BankGoesWith, HasBlobRules, blocks_by, held_by}
use Rattle.mu_model_represents.specs.Blocks.{HeldBlocksAreCut, CutBlocksAreAllHeld}
use Rattle.mu_model_represents.specs.Images.{is_among, AllDiffer, HasImage}
use Rattle.mu_model_represents.specs.NodeNote.{NoteJob, NodeNote}
use Rattle.mu_model_represents.specs.StoreStates.{ContentOf, IsStoreState}
use Rattle.mu_model_represents.specs.RepresentsNode.{StoredGoesWith, HasNodeJob, job_by, IsNodeOf}
use Rattle.mu_model_represents.specs.Written.{KeepsJob, KeepsJobs, KeepsNode}
use Rattle.mu_model_jobs.specs.Places.{BanksChange}
use Rattle.mu_model_stored_node.specs.Kept.{with_next, bank_of, HasJob, IsOffered, activated_as}

-- ---- from the relation

jobs_of : (s : StoreState) (part : Option BlobJob) (active : List ℕ) (n : Option NoteJob) → HasBlobRules s.present part → HasNodeJob s.present active part n
    → KeepsJobs s active (bank_of part) (job_by s part n)
jobs_of s None active None rules has = rules
jobs_of s None active (Some n) rules has = absurd has
jobs_of s (Some b) active None rules has = absurd has
jobs_of s (Some b) active (Some n) rules has = record { there = rules.bank; apart = has.bank; goes_with = rules.goes_with; stored = has.stored; held = refl }

pub node_kept : (s : StoreState) (part : Option BlobJob) (note : NodeNote) (d : NodeDurable) → IsStoreState s → IsNodeOf s part note d → KeepsNode s note.active (bank_of part) d
node_kept s part note d state is = record {
  in_range = state.in_range;
  one_more = is.is_record.note_octets.one_more;
  count = is.count;
  capacity = is.capacity;
  differ = is.is_record.active_differ;
  images = is.images;
  job = subst (λ (q : Option Job). KeepsJobs s note.active (bank_of part) q) (sym is.job) (jobs_of s part note.active note.job is.is_record.blob.rules is.is_record.job);
}

-- ---- the images

by_or : (t rest : Bool) → (t || rest) ≡ false → (t ≡ false) × (rest ≡ false)
by_or true rest e = cc
by_or false rest e = (refl, e)

differ : (a b : ℕ) → (a == b) ≡ false → a ≢ b
differ a b e = grind (arith, nat_tests)

same_or_other : (i k : ℕ) → (i ≡ k) ⊎ (i ≢ k)
same_or_other i k = grind arith

-- what a bank that is Filling by these parameters holds
record FillsBy (p : Parameters) (c : Content) : Type 0 where
  counted : length (held_by (Some p) c) ≡ block_count p.size p.log
  lengths : HaveLengths (block_length p.size p.log) (held_by (Some p) c)

by_content : (p : Parameters) (c : Content) → ContentOf (FillingBank p.size p.log) c → FillsBy p c
by_content p nothing h = absurd h
by_content p (held blocks) h = record { counted = h.0; lengths = h.1 }
by_content p (whole octets) h = absurd h

filling_blocks : (p : Parameters) (e : BankState) (c : Content) → IsFilling e → TakesBy p e → ContentOf e c → FillsBy p c
filling_blocks p Empty c was takes h = absurd was
filling_blocks p (FillingBank size log) c was takes h = by_content p c (subst (λ (n : ℕ). ContentOf (FillingBank p.size n) c) takes.1 (subst (λ (n : ℕ). ContentOf (FillingBank n log) c) takes.0 h))
filling_blocks p (Sealed meta) c was takes h = absurd was

filling_log : (s : StoreState) (p : Parameters) (e : BankState) → IsFilling e → TakesBy p e → IsEntryInRange s.present e → (12 ≤ p.log) × (p.log ≤ 14)
filling_log s p Empty was takes h = absurd was
filling_log s p (FillingBank size log) was takes h = (omega (arith, takes.1, h.2), omega (arith, takes.1, h.3))
filling_log s p (Sealed meta) was takes h = absurd was

module _ (law : BanksChange) where
  image_stays : (s : StoreState) (bank b : ℕ) (entry : BankState) (content : Content) (tag : List ℕ) (x : Image) → b ≢ bank → HasImage s b x
      → HasImage (with_bank s bank entry content tag) b x
  image_stays s bank b entry content tag x ne has = record {
    entry = law.entry_other s bank b entry content tag ne ∙ has.entry;
    content = law.content_other s bank b entry content tag ne ∙ has.content;
  }

  pub images_stay : (s : StoreState) (bank : ℕ) (entry : BankState) (content : Content) (tag active : List ℕ) (images : List Image) → is_among active bank ≡ false
      → AllZip (HasImage s) active images → AllZip (HasImage (with_bank s bank entry content tag)) active images
  images_stay s bank entry content tag [] [] apart all = tt
  images_stay s bank entry content tag [] (x ∷ images) apart all = absurd all
  images_stay s bank entry content tag (b ∷ active) [] apart all = absurd all
  images_stay s bank entry content tag (b ∷ active) (x ∷ images) apart all =
      let parts = by_or (b == bank) (is_among active bank) apart in
      (image_stays s bank b entry content tag x (differ b bank parts.0) all.0, images_stay s bank entry content tag active images parts.1 all.1)

tagged_images : (s : StoreState) (tag active : List ℕ) (images : List Image) → AllZip (HasImage s) active images → AllZip (HasImage (tagged s tag)) active images
tagged_images s tag [] [] all = tt
tagged_images s tag [] (x ∷ images) all = absurd all
tagged_images s tag (b ∷ active) [] all = absurd all
tagged_images s tag (b ∷ active) (x ∷ images) all = (record { entry = all.0.entry; content = all.0.content }, tagged_images s tag active images all.1)

-- ---- a node after one record, from what is kept of its job

job_is : (s : StoreState) (active : List ℕ) (bank : ℕ) (d : NodeDurable) (j : Job) → HasJob s active bank d j → KeepsJob s active bank j
job_is s active bank d j has = subst (λ (q : Option Job). KeepsJobs s active bank q) has.job has.keeps.job

after_tag : (s : StoreState) (tag active : List ℕ) (bank bank' : ℕ) (d : NodeDurable) (job : Option Job) → KeepsNode s active bank d → IsRecord (tagged s tag).present
    → KeepsJobs (tagged s tag) active bank' job → KeepsNode (tagged s tag) active bank' (with_next d job)
after_tag s tag active bank bank' d job k is kept = record {
  in_range = is;
  one_more = k.one_more;
  count = ap (λ (n : ℕ). n + 1) k.count;
  capacity = k.capacity;
  differ = k.differ;
  images = tagged_images s tag active d.images k.images;
  job = kept;
}

goes_same : (s : StoreState) (tag : List ℕ) (bank : ℕ) (q : Option Parameters) → BankGoesWith s.present bank q → BankGoesWith (tagged s tag).present bank q
goes_same s tag bank None h = h
goes_same s tag bank (Some p) h = h

pub is_asked : (s : StoreState) (tag active : List ℕ) (bank : ℕ) (d : NodeDurable) (j : Job) → HasJob s active bank d j → IsRecord (tagged s tag).present → j.stored ≡ Verified
    → KeepsNode (tagged s tag) active bank (with_next d (Some (record j { stored = Applied })))
is_asked s tag active bank d j has is stored =
    let k = job_is s active bank d j has in
    let was : StoredGoesWith Verified j.meta j.parameters (entry_of s.present bank) = subst (λ (q : Stored). StoredGoesWith q j.meta j.parameters (entry_of s.present bank)) stored k.stored in
    after_tag s tag active bank bank d (Some (record j { stored = Applied })) has.keeps is
    (record { there = k.there; apart = k.apart; goes_with = goes_same s tag bank j.parameters k.goes_with; stored = was; held = k.held })

pub none_left : (s : StoreState) (tag active : List ℕ) (bank : ℕ) (d : NodeDurable) → KeepsNode s active bank d → IsRecord (tagged s tag).present → NoneFilling s.present
    → KeepsNode (tagged s tag) active bank (with_next d None)
none_left s tag active bank d k is none = after_tag s tag active bank bank d None k is none

-- a job that was just offered goes with a record in which no bank is Filling
offered : (e : StoreState) (active : List ℕ) (bank : ℕ) (next : Job) → IsOffered next → NoneFilling e.present → bank < e.present.number → is_among active bank ≡ false
    → KeepsJob e active bank next
offered e active bank next o none there apart = record {
  there = there;
  apart = apart;
  goes_with = subst (λ (q : Option Parameters). BankGoesWith e.present bank q) (sym o.parameters) none;
  stored = subst (λ (q : Stored). StoredGoesWith q next.meta next.parameters (entry_of e.present bank)) (sym o.stored)
      (subst (λ (q : Option Parameters). StoredGoesWith Filling next.meta q (entry_of e.present bank)) (sym o.parameters) tt);
  held = o.held ∙ sym (ap (λ (q : Option Parameters). held_by q (content_of_bank e bank)) o.parameters);
}

pub first_comes : (s : StoreState) (tag active : List ℕ) (bank : ℕ) (d : NodeDurable) (next : Job) → KeepsNode s active bank d → IsRecord (tagged s tag).present
    → NoneFilling s.present → bank < s.present.number → is_among active bank ≡ false → IsOffered next → KeepsNode (tagged s tag) active bank (with_next d (Some next))
first_comes s tag active bank d next k is none there apart o = after_tag s tag active bank bank d (Some next) k is (offered (tagged s tag) active bank next o none there apart)

module _ (law : BanksChange) (s : StoreState) (active : List ℕ) (bank : ℕ) (d : NodeDurable) (j : Job) (state : IsStoreState s) (has : HasJob s active bank d j) where
  -- the job's bank changes
  after_bank : (entry : BankState) (content : Content) (tag : List ℕ) (job : Option Job) → IsRecord (with_bank s bank entry content tag).present
      → KeepsJobs (with_bank s bank entry content tag) active bank job → KeepsNode (with_bank s bank entry content tag) active bank (with_next d job)
  after_bank entry content tag job is kept = record {
    in_range = is;
    one_more = has.keeps.one_more;
    count = ap (λ (n : ℕ). n + 1) has.keeps.count;
    capacity = has.keeps.capacity;
    differ = has.keeps.differ;
    images = images_stay law s bank entry content tag active d.images (job_is s active bank d j has).apart has.keeps.images;
    job = kept;
  }

  there : bank < s.present.number
  there = (job_is s active bank d j has).there

  entry_is : (entry : BankState) (content : Content) (tag : List ℕ) → entry_of (with_bank s bank entry content tag).present bank ≡ entry
  entry_is entry content tag = law.entry_here s bank bank entry content tag state there refl

  content_is : (entry : BankState) (content : Content) (tag : List ℕ) → content_of_bank (with_bank s bank entry content tag) bank ≡ content
  content_is entry content tag = law.content_here s bank bank entry content tag state there refl

  pub job_begins : (p : Parameters) (tag : List ℕ) → IsRecord (begun s bank p.size p.log tag).present → j.stored ≡ Filling
      → KeepsNode (begun s bank p.size p.log tag) active bank (with_next d (Some (record j { parameters = Some p; held = empty (block_count p.size p.log) })))
  job_begins p tag is stored =
      let e : BankState = FillingBank p.size p.log in
      let c : Content = held (empty (block_count p.size p.log)) in
      after_bank e c tag (Some (record j { parameters = Some p; held = empty (block_count p.size p.log) })) is
      (record {
        there = there;
        apart = (job_is s active bank d j has).apart;
        goes_with = subst (λ (x : BankState). TakesBy p x) (sym (entry_is e c tag)) (refl, refl);
        stored = subst (λ (q : Stored). StoredGoesWith q j.meta (Some p) (entry_of (begun s bank p.size p.log tag).present bank)) (sym stored)
            (subst IsFilling (sym (entry_is e c tag)) tt);
        held = sym (ap (blocks_by p.log) (content_is e c tag));
      })

  -- where the bank was being filled and is given up, none is
  none_filling : (tag : List ℕ) → IsFilling (entry_of s.present bank) → NoneFilling (emptied s bank tag).present
  none_filling tag was b filling = elim (same_or_other b bank) [
    | inl e ↦ subst IsFilling (law.entry_here s bank b Empty nothing tag state there e) filling
    | inr ne ↦ ne (state.in_range.one_filling b bank (subst IsFilling (law.entry_other s bank b Empty nothing tag ne) filling) was)
  ]

  pub job_drops : (tag : List ℕ) → IsRecord (emptied s bank tag).present → IsFilling (entry_of s.present bank) → j.stored ≡ Filling
      → KeepsNode (emptied s bank tag) active bank (with_next d (Some (record j { parameters = None; held = [] })))
  job_drops tag is was stored =
      after_bank Empty nothing tag (Some (record j { parameters = None; held = [] })) is
      (offered (emptied s bank tag) active bank (record j { parameters = None; held = [] }) (record { stored = stored; parameters = refl; held = refl }) (none_filling tag was) there (job_is s active bank d j has).apart)

  pub job_refused : (tag : List ℕ) → IsRecord (emptied s bank tag).present → IsFilling (entry_of s.present bank)
      → KeepsNode (emptied s bank tag) active bank (with_next d (Some (record j { stored = Refused; parameters = None; held = [] })))
  job_refused tag is was =
      after_bank Empty nothing tag (Some (record j { stored = Refused; parameters = None; held = [] })) is
      (record { there = there; apart = (job_is s active bank d j has).apart; goes_with = none_filling tag was; stored = refl; held = refl })

  pub job_goes : (tag : List ℕ) → IsRecord (emptied s bank tag).present → IsFilling (entry_of s.present bank) → KeepsNode (emptied s bank tag) active bank (with_next d None)
  job_goes tag is was = after_bank Empty nothing tag None is (none_filling tag was)

  pub job_comes : (tag : List ℕ) (next : Job) → IsRecord (emptied s bank tag).present → IsFilling (entry_of s.present bank) → IsOffered next
      → KeepsNode (emptied s bank tag) active bank (with_next d (Some next))
  job_comes tag next is was o =
      after_bank Empty nothing tag (Some next) is (offered (emptied s bank tag) active bank next o (none_filling tag was) there (job_is s active bank d j has).apart)

  pub job_verified : HeldBlocksAreCut → (tag : List ℕ) → IsRecord (sealed_up s bank j.meta (joined j.held) tag).present → IsFilling (entry_of s.present bank)
      → is_full j.held ≡ true → IsFit (joined j.held) j.meta → (p : Parameters) → j.parameters ≡ Some p → j.meta.size ≡ p.size
      → KeepsNode (sealed_up s bank j.meta (joined j.held) tag) active bank (with_next d (Some (record j { stored = Verified })))
  job_verified cut tag is was full fit p begun size =
      let k = job_is s active bank d j has in
      let takes : TakesBy p (entry_of s.present bank) = subst (λ (q : Option Parameters). BankGoesWith s.present bank q) begun k.goes_with in
      let blocks = filling_blocks p (entry_of s.present bank) (content_of_bank s bank) was takes (state.contents bank there) in
      let logs = filling_log s p (entry_of s.present bank) was takes (state.in_range.entries bank there) in
      let c : Content = whole (joined j.held) in
      let e : BankState = Sealed j.meta in
      let now : j.held ≡ held_by (Some p) (content_of_bank s bank) = k.held ∙ ap (λ (q : Option Parameters). held_by q (content_of_bank s bank)) begun in
      let count : length j.held ≡ block_count p.size p.log = ap (length {A = Option (List ℕ)}) now ∙ blocks.counted in
      let lengths : HaveLengths (block_length p.size p.log) j.held = subst (λ (x : Slots). HaveLengths (block_length p.size p.log) x) (sym now) blocks.lengths in
      let sealed : j.held ≡ held_by (Some p) (whole (joined j.held)) = cut j.held p.size p.log count lengths full (fit.size ∙ size) in
      after_bank e c tag (Some (record j { stored = Verified })) is
      (record {
        there = there;
        apart = k.apart;
        goes_with = subst (λ (q : Option Parameters). BankGoesWith (sealed_up s bank j.meta (joined j.held) tag).present bank q) (sym begun)
            (subst (λ (x : BankState). TakesBy p x) (sym (entry_is e c tag)) (size, logs.0, logs.1));
        stored = (ap is_some begun, entry_is e c tag);
        held = sealed ∙ (λ i. held_by (sym begun i) (sym (content_is e c tag) i));
      })

-- ---- the job's image becomes an active one

among_set : (active : List ℕ) (i bank b : ℕ) → is_among active b ≡ false → (bank == b) ≡ false → is_among (set active i bank) b ≡ false
among_set [] i bank b none apart = none
among_set (a ∷ active) zero bank b none apart =
    let parts = by_or (a == b) (is_among active b) none in
    ap (λ (t : Bool). t || is_among active b) apart ∙ parts.1
among_set (a ∷ active) (suc i) bank b none apart =
    let parts = by_or (a == b) (is_among active b) none in
    ap (λ (t : Bool). t || is_among (set active i bank) b) parts.0 ∙ among_set active i bank b parts.1 apart

turned : (a b : ℕ) → (a == b) ≡ false → (b == a) ≡ false
turned a b e = grind (arith, nat_tests)

differ_set : (active : List ℕ) (i bank : ℕ) → AllDiffer active → is_among active bank ≡ false → AllDiffer (set active i bank)
differ_set [] i bank apart none = tt
differ_set (a ∷ active) zero bank apart none = ((by_or (a == bank) (is_among active bank) none).1, apart.1)
differ_set (a ∷ active) (suc i) bank apart none =
    let parts = by_or (a == bank) (is_among active bank) none in
    (among_set active i bank a apart.0 (turned a bank parts.0), differ_set active i bank apart.1 parts.1)

images_set : (e : StoreState) (active : List ℕ) (images : List Image) (i bank : ℕ) (x : Image) → AllZip (HasImage e) active images → HasImage e bank x
    → AllZip (HasImage e) (set active i bank) (set images i x)
images_set e [] [] i bank x all has = tt
images_set e [] (y ∷ images) i bank x all has = absurd all
images_set e (a ∷ active) [] i bank x all has = absurd all
images_set e (a ∷ active) (y ∷ images) zero bank x all has = (has, all.1)
images_set e (a ∷ active) (y ∷ images) (suc i) bank x all has = (all.0, images_set e active images i bank x all.1 has)

-- what a bank that is Sealed with the job's blocks holds
whole_held : CutBlocksAreAllHeld → (q : Option Parameters) (c : Content) (meta : Meta) (h : Slots) → is_some q ≡ true → ContentOf (Sealed meta) c → h ≡ held_by q c
    → c ≡ whole (joined h)
whole_held law None c meta h some is e = cc
whole_held law (Some p) nothing meta h some is e = absurd is
whole_held law (Some p) (held blocks) meta h some is e = absurd is
whole_held law (Some p) (whole octets) meta h some is e = ap (λ (xs : List ℕ). whole xs) (sym (ap joined e ∙ (law octets p.log).1))

pub is_activated : CutBlocksAreAllHeld → (s : StoreState) (tag active : List ℕ) (bank : ℕ) (d : NodeDurable) (j : Job) → IsStoreState s → HasJob s active bank d j
    → IsRecord (tagged s tag).present → NoneFilling s.present → j.stored ≡ Applied → KeepsNode (tagged s tag) (set active j.index bank) bank (activated_as d j)
is_activated law s tag active bank d j state has is none stored =
    let k = job_is s active bank d j has in
    let was : StoredGoesWith Applied j.meta j.parameters (entry_of s.present bank) = subst (λ (q : Stored). StoredGoesWith q j.meta j.parameters (entry_of s.present bank)) stored k.stored in
    let content : ContentOf (Sealed j.meta) (content_of_bank s bank) = subst (λ (e : BankState). ContentOf e (content_of_bank s bank)) was.1 (state.contents bank k.there) in
    record {
      in_range = is;
      one_more = has.keeps.one_more ∙ ap (λ (n : ℕ). 1 + n) (sym (length-set active j.index bank));
      count = ap (λ (n : ℕ). n + 1) has.keeps.count;
      capacity = has.keeps.capacity;
      differ = differ_set active j.index bank has.keeps.differ k.apart;
      images = images_set (tagged s tag) active d.images j.index bank (image_of_job j) (tagged_images s tag active d.images has.keeps.images)
          (record { entry = was.1; content = whole_held law j.parameters (content_of_bank s bank) j.meta j.held was.0 content k.held });
      job = none;
    }
