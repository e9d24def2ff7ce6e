-- Runs of a store of a node that is being made.
use Rattle.std.proofs.Common.{◌≡◌, ◌∙◌, ◌⊎◌, ◌<◌, ◌/◌, ℕ, zero, suc, ◌+◌, ◌-◌, Bool, true, false, Option, List, [], ◌∷◌, ◌++◌, length, replicate, drop, refl, sym, ap, subst, inl, inr, arith, length-append}
use Rattle.std.specs.Prelude.{nat_lt, ◌&&◌, if◌then◌else◌, ◌^◌, ◌↔◌, Result, Ok, Err, IfOk, IfErr, IsErrAnd}
use Rattle.std.proofs.lemmas.Bool.Decides.{nat_tests}
use Rattle.std.proofs.lemmas.List.{length-replicate, replicate-append-replicate}
use Rattle.std.proofs.lemmas.Slice.Eq.{bytes_eq-Decides}
use Rattle.mu_model_flash.specs.Flash.{Seen}
use Rattle.mu_model_flash.specs.Laws.{RunLaws}
use Rattle.mu_model_flash.specs.Run.{either, Refines, Ran, Broke}
use Rattle.mu_model_record.specs.declared.Record.{Record}
use Rattle.mu_model_record.specs.Record.{zeros}
use Rattle.mu_model_record.specs.Store.{StoreState}
use Rattle.mu_model_record.specs.Represents.{RepresentsStore}
use Rattle.mu_model_record.specs.Next.{is_short, record_steps, fresh_after}
use Rattle.mu_model_record.specs.Turns.{Anything}
use Rattle.mu_model_record.specs.Ways.{StateOf, reading_of, as_store, as_anything}
use Rattle.mu_store.specs.Filled.{Asked, filled_record, filled_up, whole_steps, IsFilled, IsLeft, FailsBy}
use Rattle.mu_store.specs.Puts.{page_steps, pages_for}
use Rattle.mu_store.specs.Source.{Gave, IsAtEnd}
use Rattle.mu_store.specs.View.{store_flash, store_record, store_fresh}
use Rattle.mu_store.specs.declared.store.Store.{Store}
use Rattle.mu_store.specs.declared.whole.FillFail.{FillFail}
use Rattle.mu_store.specs.declared.whole.FillWhy.{FillWhy}
use Rattle.mu_store.specs.declared.whole.FillWhy.TheVariants.{Flash, Worn, Read, Empty, TooBig}
use Rattle.mu_updsrv.specs.Made.{image_operations, first_and, IsUnmade, UnmadeBy}
use Rattle.mu_updsrv.specs.Making.{IsShortTag, IsMaking, Fills, Unfilled}

-- ---- short records

short_test : (r : Record) → IsShortTag r.tag → is_short r ≡ true
short_test r short = let decides = bytes_eq-Decides (drop 256 r.tag) (zeros 1536) in decides.1 short

some_fresh : (slots : ℕ) → nat_lt 0 (suc slots) ≡ true
some_fresh slots = grind (arith, nat_tests)

three_by : (b : Bool) → b ≡ true → (if b then (if nat_lt 0 0 then 0 - 1 else 3) else 0) ≡ 3
three_by true is = refl
three_by false is = absurd cc

pub first_slots : (r : Record) → IsShortTag r.tag → fresh_after 0 r ≡ 3
first_slots r short = three_by (is_short r) (short_test r short)

fewer_by : (b c : Bool) (slots : ℕ) → b ≡ true → c ≡ true → (if b then (if c then suc slots - 1 else 3) else 0) ≡ slots
fewer_by true true slots is has = omega arith
fewer_by true false slots is has = absurd cc
fewer_by false c slots is has = absurd cc

fewer_slots : (r : Record) (slots : ℕ) → IsShortTag r.tag → fresh_after (suc slots) r ≡ slots
fewer_slots r slots short = fewer_by (is_short r) (nat_lt 0 (suc slots)) slots (short_test r short) (some_fresh slots)

one_by : (b c : Bool) (d e : StoreState) → b ≡ true → c ≡ true → (if b && c then e ∷ [] else d ∷ e ∷ []) ≡ e ∷ []
one_by true true d e is has = refl
one_by true false d e is has = absurd cc
one_by false c d e is has = absurd cc

one_step : (slots : ℕ) (d e : StoreState) → IsShortTag e.present.tag → record_steps (suc slots) d e ≡ e ∷ []
one_step slots d e short = one_by (is_short e.present) (nat_lt 0 (suc slots)) d e (short_test e.present short) (some_fresh slots)

-- ---- how many operations

page_length : (pages : ℕ) (d : StoreState) → length (page_steps pages d) ≡ pages + pages
page_length pages d = length-replicate (pages + pages) d

more_length : (size : ℕ) (d : StoreState) (steps : List StoreState) → length steps ≡ 1 → length (page_steps (pages_for size) d ++ steps) ≡ image_operations size
more_length size d steps one =
    let parts = length-append (page_steps (pages_for size) d) steps in
    let pages = page_length (pages_for size) d in
    omega (arith, parts, pages, one)

whole_length : (slots size : ℕ) (d e : StoreState) → IsShortTag e.present.tag → length (whole_steps (suc slots) d size e) ≡ image_operations size
whole_length slots size d e short = more_length size d (record_steps (suc slots) d e) (ap length (one_step slots d e short))

-- ---- any octets

any_reading : (d : StoreState) (xs : List StoreState) (k : ℕ) → length xs ≡ k → Refines (either RepresentsStore) (either Anything) d xs tt (replicate k tt)
any_reading d [] zero is = λ c h. tt
any_reading d [] (suc k) is = absurd cc
any_reading d (x ∷ xs) zero is = absurd cc
any_reading d (x ∷ xs) (suc k) is = ((λ c h. tt), (λ c h. inl tt), any_reading x xs k cc)

more_of : (more k : ℕ) → first_and more ++ replicate k tt ≡ first_and (more + k)
more_of more k = ap (λ (l : List (Unit {0})). tt ∷ tt ∷ tt ∷ l) (replicate-append-replicate more k tt)

module _ {F : Type 0} (seen : F → Seen) (laws : RunLaws StateOf reading_of seen) where
  as_any : (a b : F) (d : StoreState) (xs : List StoreState) (k : ℕ) → length xs ≡ k → Ran (either RepresentsStore) d xs (seen a) (seen b) → Ran (either Anything) tt (replicate k tt) (seen a) (seen b)
  as_any a b d xs k is ran = (laws.read a b).ran as_store as_anything d xs tt (replicate k tt) (is ∙ sym (length-replicate k tt)) (λ told. any_reading d xs k is) ran

  broke_any : (a b : F) (d : StoreState) (xs : List StoreState) (k : ℕ) → length xs ≡ k → Broke (either RepresentsStore) d xs (seen a) (seen b) → Broke (either Anything) tt (replicate k tt) (seen a) (seen b)
  broke_any a b d xs k is broke = (laws.read a b).broke as_store as_anything d xs tt (replicate k tt) (is ∙ sym (length-replicate k tt)) (λ told. any_reading d xs k is) broke

  then_done : (f a b : F) (more k : ℕ) → Ran (either Anything) tt (first_and more) (seen f) (seen a) → Ran (either Anything) tt (replicate k tt) (seen a) (seen b) → Ran (either Anything) tt (first_and (more + k)) (seen f) (seen b)
  then_done f a b more k x y =
      subst (λ (l : List (Unit {0})). Ran (either Anything) tt l (seen f) (seen b)) (more_of more k) ((laws.join f a b).ran as_anything tt (first_and more) (replicate k tt) x y)

  then_broke : (f a b : F) (more k : ℕ) → Ran (either Anything) tt (first_and more) (seen f) (seen a) → Broke (either Anything) tt (replicate k tt) (seen a) (seen b) → Broke (either Anything) tt (first_and (more + k)) (seen f) (seen b)
  then_broke f a b more k x y =
      subst (λ (l : List (Unit {0})). Broke (either Anything) tt l (seen f) (seen b)) (more_of more k) ((laws.join f a b).broke as_anything tt (first_and more) (replicate k tt) x y)

  -- the first record failed
  pub first_broke : (f a : F) (more : ℕ) → Broke (either Anything) tt (tt ∷ tt ∷ tt ∷ []) (seen f) (seen a) → Broke (either Anything) tt (first_and more) (seen f) (seen a)
  first_broke f a more broke = (laws.read f a).longer as_anything tt (tt ∷ tt ∷ tt ∷ []) (replicate more tt) broke

  module _ {g : _} (old : Store F g) (asked : Asked) (before after : Option (List ℕ)) (short : IsShortTag asked.tag) where
    pub fills : (new : Store F g) → IsFilled seen old asked before after new → store_fresh new ≡ fresh_after (store_fresh old) (store_record new) → Fills seen old asked before after new
    fills new is slots =
        let new_short : IsShortTag (store_record new).tag = subst (λ (r : Record). IsShortTag r.tag) (sym is.fields) short in
        record {
          octets = is.octets;
          some = is.some;
          most = is.most;
          gave = is.gave;
          at_end = is.at_end;
          makes = λ flash d n more m. record {
            fields = is.fields ∙ ap (λ (r : Record). filled_record r asked is.octets) m.fields;
            slots_are = slots ∙ ap (λ (k : ℕ). fresh_after k (store_record new)) m.slots_are ∙ fewer_slots (store_record new) n new_short;
            holds = λ told. (is.runs d (m.holds told)).1;
            done = λ told.
                then_done flash (store_flash old) (store_flash new) more (image_operations (length is.octets)) (m.done told)
                (as_any (store_flash old) (store_flash new) d (whole_steps (store_fresh old) d (length is.octets) (filled_up d asked is.octets)) (image_operations (length is.octets))
                (ap (λ (k : ℕ). length (whole_steps k d (length is.octets) (filled_up d asked is.octets))) m.slots_are ∙ whole_length n (length is.octets) d (filled_up d asked is.octets) short)
                (is.runs d (m.holds told)).0);
          };
        }

    module _ (flash failed : F) (d : StoreState) (slots more : ℕ) (m : IsMaking seen flash d (suc slots) more old) where
      left : (octets : List ℕ) → IsLeft seen old before after octets (seen failed) → IsUnmade (Gave before after) more octets (seen flash) (seen failed)
      left octets is = record {
        gave = is.gave;
        done = λ told.
            then_done flash (store_flash old) failed more (length octets / 4096 + length octets / 4096) (m.done told)
            (as_any (store_flash old) failed d (page_steps (length octets / 4096) d) (length octets / 4096 + length octets / 4096) (page_length (length octets / 4096) d) (is.runs d (m.holds told)));
      }

      -- at the pages, or at the record
      broken : (octets : List ℕ) (e : StoreState) → IsShortTag e.present.tag
          → Broke (either RepresentsStore) d (page_steps (pages_for (length octets)) d) (seen (store_flash old)) (seen failed)
          ⊎ (IsAtEnd after × Broke (either RepresentsStore) d (whole_steps (store_fresh old) d (length octets) e) (seen (store_flash old)) (seen failed))
          → Broke (either Anything) tt (replicate (image_operations (length octets)) tt) (seen (store_flash old)) (seen failed)
      broken octets e tag (inl at_pages) =
          broke_any (store_flash old) failed d (page_steps (pages_for (length octets)) d ++ d ∷ []) (image_operations (length octets)) (more_length (length octets) d (d ∷ []) refl)
          ((laws.read (store_flash old) failed).longer as_store d (page_steps (pages_for (length octets)) d) (d ∷ []) at_pages)
      broken octets e tag (inr at_record) =
          broke_any (store_flash old) failed d (whole_steps (store_fresh old) d (length octets) e) (image_operations (length octets))
          (ap (λ (k : ℕ). length (whole_steps k d (length octets) e)) m.slots_are ∙ whole_length slots (length octets) d e tag) at_record.1

      pub unfilled : (why : FillWhy) → (why ≡ Worn → ⊥) → FailsBy seen old asked before after (seen failed) why
          → UnmadeBy (Gave before after) (IsAtEnd after) (store_record old).pages more (seen flash) (seen failed) why
      unfilled Worn known fails = absurd (known refl)
      unfilled Flash known fails = (
        fails.octets,
        fails.most,
        fails.gave,
        λ told.
            then_broke flash (store_flash old) failed more (image_operations (length fails.octets)) (m.done told)
            (broken fails.octets (filled_up d asked fails.octets) short (fails.runs d (m.holds told))),
      )
      unfilled Read known fails = (fails.0, fails.1, left fails.0 fails.2)
      unfilled Empty known fails = (fails.0, left [] fails.1)
      unfilled TooBig known fails = (fails.0, fails.1, left fails.0 fails.2)

    pub fills_result : (result : Result (Store F g) (FillFail F)) → IfOk result (IsFilled seen old asked before after) → IfOk result (λ new. store_fresh new ≡ fresh_after (store_fresh old) (store_record new))
        → IfOk result (Fills seen old asked before after)
    fills_result (Ok new) is slots = fills new is slots
    fills_result (Err fail) is slots = tt

    pub unfilled_result : (result : Result (Store F g) (FillFail F)) → (store_record old).count < 2 ^ 32 - 1 → IfErr result (λ fail. FailsBy seen old asked before after (seen fail.flash) fail.why)
        → IsErrAnd result (λ fail. fail.why ≡ Worn) ↔ ((store_record old).count ≡ 2 ^ 32 - 1) → IfErr result (Unfilled seen old before after)
    unfilled_result (Ok new) few fails worn = tt
    unfilled_result (Err fail) few fails worn = λ flash d slots more m. unfilled flash fail.flash d slots more m fail.why (λ is. absurd (omega (arith, worn.0 is, few))) fails

  -- the first record failed, and nothing was read
  pub unformatted : (Given : List ℕ → Type 0) (AtEnd : Type 0) (pages : ℕ) (f a : F) (why : FillWhy) → why ≡ Flash → Given [] → Broke (either Anything) tt (tt ∷ tt ∷ tt ∷ []) (seen f) (seen a)
      → UnmadeBy Given AtEnd pages 0 (seen f) (seen a) why
  unformatted Given AtEnd pages f a Flash is gave broke = ([], omega arith, gave, λ told. first_broke f a (0 + image_operations 0) broke)
  unformatted Given AtEnd pages f a Worn is gave broke = absurd cc
  unformatted Given AtEnd pages f a Read is gave broke = absurd cc
  unformatted Given AtEnd pages f a Empty is gave broke = absurd cc
  unformatted Given AtEnd pages f a TooBig is gave broke = absurd cc
