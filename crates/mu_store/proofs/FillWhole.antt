-- A bank that was filled and is sealed.
use Rattle.std.proofs.Common.{◌≡◌, inl, inr, ⊎_elim, ℕ, ◌+◌, ◌*◌, ◌^◌, ◌<◌, ◌≤◌, Option, List, [], ◌∷◌, length, refl, sym, ◌∙◌, ap, subst, arith, get_or-set_same, get_or-set_other}
use Rattle.std.specs.Prelude.{slice_index_or}
use Rattle.std.proofs.lemmas.Bool.{cases_eq}
use Rattle.std.proofs.Math.ListN.{set}
use Rattle.sha2.specs.Sha256.{sha256}
use Rattle.mu_model_flash.specs.Bits.{AreOctets, part_of}
use Rattle.mu_model_flash.specs.Flash.{Seen}
use Rattle.mu_model_flash.specs.Run.{either, Ran, Broke}
use Rattle.mu_model_flash.specs.Laws.{RunsJoin}
use Rattle.mu_model_record.specs.Ways.{as_store, StateOf, reading_of}
use Rattle.mu_model_image.specs.declared.Meta.{Meta}
use Rattle.mu_model_image.specs.Meta.{IsMeta, image_of}
use Rattle.mu_model_record.specs.declared.Record.{Record}
use Rattle.mu_model_record.specs.declared.BankState.{BankState}
use Rattle.mu_model_record.specs.declared.BankState.TheVariants.{Empty as Blank, Sealed}
use Rattle.mu_model_record.specs.Record.{IsRecord, IsFilling, entry_of}
use Rattle.mu_model_record.specs.Store.{whole, StoreState, bank_place}
use Rattle.mu_model_record.specs.Free.{IsFree}
use Rattle.mu_model_record.specs.Represents.{RepresentsStore}
use Rattle.mu_model_record.specs.Next.{IsNext, record_steps}
use Rattle.mu_model_record.specs.Changes.{next_record, sealed_up}
use Rattle.mu_store.proofs.RunLemmas.{last_same}
use Rattle.mu_record.specs.declared.write.Place.{Place}
use Rattle.mu_record.specs.Place.{HoldsAt}
use Rattle.mu_store.specs.declared.store.Store.{Store}
use Rattle.mu_store.specs.declared.whole.Part.{Part}
use Rattle.mu_store.specs.declared.whole.FillFail.{FillFail}
use Rattle.mu_store.specs.declared.whole.FillWhy.{FillWhy}
use Rattle.mu_store.specs.declared.whole.FillWhy.TheVariants.{Flash, Worn, Read, Empty, TooBig}
use Rattle.mu_store.specs.Base.{BaseHolds}
use Rattle.mu_store.specs.Source.{Gave}
use Rattle.mu_store.specs.Puts.{page_steps, pages_for, HasRoom, TakesAll, Leaves, StopsBefore}
use Rattle.mu_store.specs.Filled.{Asked, filled_up, whole_steps, IsLeft, FailsBy}
use Rattle.mu_store.proofs.WholeLemmas.{bank_free}
use Rattle.mu_store.specs.Known.{Known}

-- the record that says that a bank is Sealed
module _ (known : Known) (r : Record) (sound : IsRecord r) (bank : ℕ) (there : bank < r.number) (meta : Meta) where
  pub whole_record : (tag : List ℕ) → r.count + 1 < 2 ^ 32 → length tag ≡ 1792 → AreOctets tag → IsMeta meta → meta.size ≤ 4096 * r.pages → IsRecord (next_record r (set r.banks bank (Sealed meta)) tag)
  whole_record tag not_worn tag_size small range most = known.records.banked r tag sound not_worn (tag_size, small) bank (Sealed meta) there (range, most) (λ never. absurd never)

  -- no bank is being filled
  pub whole_rests : ((b : ℕ) → ¬ IsFilling (entry_of r b)) → (b : ℕ) → ¬ IsFilling (slice_index_or (set r.banks bank (Sealed meta)) b Blank)
  whole_rests rests b filling = ⊎_elim
      (λ same. subst (λ (e : BankState). IsFilling e) (get_or-set_same r.banks bank (Sealed meta) Blank (omega (arith, there, sound.number_most, sound.four))) (subst (λ (n : ℕ). IsFilling (slice_index_or (set r.banks bank (Sealed meta)) n Blank)) same filling))
      (λ other. rests b (subst (λ (e : BankState). IsFilling e) (get_or-set_other r.banks bank b (Sealed meta) Blank other) filling))
      (cases_eq b bank)

-- the state that it gives
module _ (known : Known) (a : Seen) (page fresh : ℕ) (d : StoreState) (holds : HoldsAt a page fresh d) (fields : Record) (is : d.present ≡ fields) (bank : ℕ) (there : bank < fields.number) where
  pub whole_then : (fields.count ≡ 4294967295 → ⊥) → (tag : List ℕ) → length tag ≡ 1792 → AreOctets tag → (version : ℕ) (octets : List ℕ) → IsMeta (image_of version octets).meta → length octets ≤ 4096 * fields.pages
      → part_of a.octets (bank_place fields bank) (length octets) ≡ octets → IsNext a.octets d (sealed_up d bank (image_of version octets).meta octets tag)
  whole_then not_last tag tag_size small version octets range most lies =
      known.states.banked page holds.word d a.octets holds.represents bank (Sealed (image_of version octets).meta) (whole octets) tag there_d
      ((whole_record known) d.present holds.represents.in_range bank there_d (image_of version octets).meta tag not_worn tag_size small range most_d)
      (λ image out. (
        known.ranges.writes.part_outside a.octets image 0 8192 out (bank_place d.present bank) (length octets) (inr (omega arith)) (omega (arith, known.places.bank_within d.present bank (length octets) there_d most_d, holds.represents.size)) ∙ lies_d,
        record { size = refl; digest = refl },
      ))
    where
      there_d : bank < d.present.number
      there_d = subst (λ (r : Record). bank < r.number) (sym is) there

      most_d : length octets ≤ 4096 * d.present.pages
      most_d = subst (λ (r : Record). length octets ≤ 4096 * r.pages) (sym is) most

      not_worn : d.present.count + 1 < 2 ^ 32
      not_worn = omega (arith, ap (λ (r : Record). r.count) is, not_last, holds.represents.in_range.count_most)

      lies_d : part_of a.octets (bank_place d.present bank) (length octets) ≡ octets
      lies_d = subst (λ (r : Record). part_of a.octets (bank_place r bank) (length octets) ≡ octets) (sym is) lies

module _ (known : Known) {F : Type 0} {g : _} (seen : F → Seen) (old : Store F g) (asked : Asked) (there : asked.bank < old.base.fields.number) (is_empty : entry_of old.base.fields asked.bank ≡ Blank) where
  -- the bank is free
  pub room_of : (d : StoreState) → BaseHolds seen old.base d → (size : ℕ) → size ≤ 4096 * old.base.fields.pages → HasRoom d (bank_place old.base.fields asked.bank) size
  room_of d holds size most =
      let r : Record = old.base.fields in
      let free : IsFree d (bank_place d.present asked.bank) (4096 * d.present.pages) = bank_free d asked.bank holds.at.represents.in_range
      (subst (λ (x : Record). entry_of x asked.bank ≡ Blank) (sym holds.fields) is_empty) (subst (λ (x : Record). (b : ℕ) → ¬ IsFilling (entry_of x b)) (sym holds.fields) old.rests) in (
        bank_place old.base.fields asked.bank,
        4096 * old.base.fields.pages,
        subst (λ (x : Record). IsFree d (bank_place x asked.bank) (4096 * x.pages)) holds.fields free,
        omega arith,
        omega (arith, most),
      )

  left_of : (before after : Option (List ℕ)) (octets : List ℕ) (new : Seen) → Leaves seen asked.bank before after old.base octets new → IsLeft seen old before after octets new
  left_of before after octets new leaves = record { gave = leaves.gave; runs = λ d holds. leaves.runs d holds (room_of d holds (4096 * old.base.fields.pages) (omega arith)) }

  -- a page failed
  pub fails_by : (before after : Option (List ℕ)) (fail : FillFail F) (why : FillWhy) → StopsBefore seen asked.bank before after old.base fail why → FailsBy seen old asked before after (seen fail.flash) why
  fails_by before after fail Flash (octets, some, most, gave, breaks) = record {
    octets = octets;
    some = some;
    most = most;
    gave = gave;
    runs = λ d holds. inl (breaks d holds (room_of d holds (length octets) most));
  }
  fails_by before after fail Read (octets, most, leaves) = (octets, most, left_of before after octets (seen fail.flash) leaves)
  fails_by before after fail TooBig (octets, more, leaves) = (octets, more, left_of before after octets (seen fail.flash) leaves)
  fails_by before after fail Worn stops = absurd stops
  fails_by before after fail Empty stops = absurd stops

  module _ (before after : Option (List ℕ)) (part : Part F g) (takes : TakesAll seen asked.bank before after old.base part) where
    nil : (xs : List ℕ) → length xs ≡ 0 → xs ≡ []
    nil [] none = refl
    nil (x ∷ xs) none = absurd (omega (arith, none))

    -- the source had nothing
    pub fails_empty : (fail : FillFail F) → fail.flash ≡ part.base.flash → part.size ≡ 0 → FailsBy seen old asked before after (seen fail.flash) Empty
    fails_empty fail same none =
        let is : takes.octets ≡ [] = nil takes.octets (sym takes.size ∙ none) in (
          takes.at_end,
          record {
            gave = subst (λ (l : List ℕ). Gave before after l) is takes.gave;
            runs = λ d holds.
                subst (λ flash. Ran (either RepresentsStore) d [] (seen old.base.flash) (seen flash)) (sym same)
                (subst (λ (l : List ℕ). Ran (either RepresentsStore) d (page_steps (pages_for (length l)) d) (seen old.base.flash) (seen part.base.flash)) is
                (takes.puts.runs d holds (room_of d holds (length takes.octets) takes.most)).0);
          },
        )

    -- what the code makes of the octets is their metadata
    pub meta_is : (digest : List ℕ) → digest ≡ sha256 takes.octets → record { size = part.size; version = asked.version; digest = digest } ≡ (image_of asked.version takes.octets).meta
    meta_is digest is = λ i. record { size = takes.size i; version = asked.version; digest = is i }

    module _ (d : StoreState) (holds : BaseHolds seen old.base d) where
      mid : Ran (either RepresentsStore) d (page_steps (pages_for (length takes.octets)) d) (seen old.base.flash) (seen part.base.flash) × BaseHolds seen part.base d
      mid = takes.puts.runs d holds (room_of d holds (length takes.octets) takes.most)

      pub mid_holds : BaseHolds seen part.base d
      mid_holds = mid.1

      pub whole_next : (old.base.fields.count ≡ 4294967295 → ⊥) → length asked.tag ≡ 1792 → AreOctets asked.tag → IsMeta (image_of asked.version takes.octets).meta → IsNext (seen part.base.flash).octets d (filled_up d asked takes.octets)
      whole_next not_last tag_size small range =
          (whole_then known) (seen part.base.flash) part.base.place.page part.base.place.fresh d mid_holds.at old.base.fields holds.fields asked.bank there not_last asked.tag tag_size small asked.version takes.octets range takes.most
          (takes.puts.put holds.at.told)

      -- the record that the code writes
      pub whole_present : (m : Meta) → m ≡ (image_of asked.version takes.octets).meta → (entries : List BankState) → entries ≡ set part.base.fields.banks asked.bank (Sealed m) → (filled_up d asked takes.octets).present ≡ next_record part.base.fields entries asked.tag
      whole_present m m_is entries e =
          ap (λ (r : Record). next_record r (set r.banks asked.bank (Sealed (image_of asked.version takes.octets).meta)) asked.tag) (holds.fields ∙ sym takes.puts.fields)
          ∙ ap (λ (x : Meta). next_record part.base.fields (set part.base.fields.banks asked.bank (Sealed x)) asked.tag) (sym m_is)
          ∙ ap (λ (l : List BankState). next_record part.base.fields l asked.tag) (sym e)

      steps_are : (e : StoreState) (a b : Seen) (R : List StoreState → Seen → Seen → Type 0) → R (record_steps part.base.place.fresh d e) a b → R (record_steps old.base.place.fresh d e) a b
      steps_are e a b R given = subst (λ (p : Place). R (record_steps p.fresh d e) a b) takes.puts.place given

      pub whole_ran : (c : Seen) → RunsJoin StateOf reading_of (seen old.base.flash) (seen part.base.flash) c → (e : StoreState) → Ran (either RepresentsStore) d (record_steps part.base.place.fresh d e) (seen part.base.flash) c → Ran (either RepresentsStore) d (whole_steps old.base.place.fresh d (length takes.octets) e) (seen old.base.flash) c
      whole_ran c join e ran =
          let p : ℕ = pages_for (length takes.octets) in
          join.ran as_store d (page_steps (pages_for (length takes.octets)) d) (record_steps old.base.place.fresh d e) mid.0
          (subst (λ (s : StoreState). Ran (either RepresentsStore) s (record_steps old.base.place.fresh d e) (seen part.base.flash) c) (sym (last_same d (pages_for (length takes.octets) + pages_for (length takes.octets))))
          (steps_are e (seen part.base.flash) c (λ steps. Ran (either RepresentsStore) d steps) ran))

      pub whole_broke : (c : Seen) → RunsJoin StateOf reading_of (seen old.base.flash) (seen part.base.flash) c → (e : StoreState) → Broke (either RepresentsStore) d (record_steps part.base.place.fresh d e) (seen part.base.flash) c → Broke (either RepresentsStore) d (whole_steps old.base.place.fresh d (length takes.octets) e) (seen old.base.flash) c
      whole_broke c join e broke =
          join.broke as_store d (page_steps (pages_for (length takes.octets)) d) (record_steps old.base.place.fresh d e) mid.0
          (subst (λ (s : StoreState). Broke (either RepresentsStore) s (record_steps old.base.place.fresh d e) (seen part.base.flash) c) (sym (last_same d (pages_for (length takes.octets) + pages_for (length takes.octets))))
          (steps_are e (seen part.base.flash) c (λ steps. Broke (either RepresentsStore) d steps) broke))
