-- Operations of a call on a range that has nothing of what the banks hold.
use Rattle.std.proofs.Common.{◌≡◌, inl, inr, ℕ, ◌+◌, ◌*◌, ◌<◌, ◌≤◌, IsTrue, List, [], ◌∷◌, length, get_or, replicate, sym, ◌∙◌, ap, subst, arith}
use Rattle.mu_model_flash.specs.Bits.{blank, written, SameOutside}
use Rattle.mu_model_flash.specs.Flash.{Seen, IsSound}
use Rattle.mu_model_flash.specs.Run.{either, exact, Ran, Broke}
use Rattle.mu_model_flash.specs.Laws.{RunsAreRead}
use Rattle.mu_model_record.specs.declared.Record.{Record}
use Rattle.mu_model_record.specs.declared.BankState.{BankState}
use Rattle.mu_model_record.specs.declared.BankState.TheVariants.{Empty, Filling, Sealed}
use Rattle.mu_model_record.specs.Page.{slot_in}
use Rattle.mu_model_record.specs.Turns.{StaysOutside}
use Rattle.mu_model_record.specs.Record.{IsFilling, entry_of}
use Rattle.mu_model_record.specs.Store.{Content, StoreState, content_of_bank}
use Rattle.mu_model_record.specs.Represents.{RepresentsStore}
use Rattle.mu_model_record.specs.Ways.{as_store, outside, StateOf, reading_of}
use Rattle.mu_model_record.specs.Free.{IsFreeOf}
use Rattle.mu_record.specs.Place.{IsPlace, HoldsAt}
use Rattle.mu_store.proofs.PartLemmas.{get-blank, length-blank}
use Rattle.mu_store.proofs.RunLemmas.{length_same}
use Rattle.mu_store.specs.Known.{Known}

-- so many operations on such a range
module _ (known : Known) (a b : Seen) (reads : RunsAreRead StateOf reading_of a b) (page fresh : ℕ) (d : StoreState) (holds : HoldsAt a page fresh d) (at n : ℕ) (past : 8192 ≤ at) (free : (bank : ℕ) → bank < d.present.number → IsFreeOf d.present bank (entry_of d.present bank) (content_of_bank d bank) at n) (k : ℕ) where
  pub free_ran : Ran (either (StaysOutside at n a.octets)) tt (replicate k tt) a b → Ran (either RepresentsStore) d (replicate k d) a b
  free_ran ran = reads.ran (outside at n a.octets) as_store tt (replicate k tt) d (replicate k d) (length_same tt d k) (λ told. known.places.free_reads page holds.word d a.octets at n past free holds.represents k) ran

  pub free_broke : Broke (either (StaysOutside at n a.octets)) tt (replicate k tt) a b → Broke (either RepresentsStore) d (replicate k d) a b
  free_broke broke = reads.broke (outside at n a.octets) as_store tt (replicate k tt) d (replicate k d) (length_same tt d k) (λ told. known.places.free_reads page holds.word d a.octets at n past free holds.represents k) broke

-- the state after it
module _ (known : Known) where
  pub still_holds : (a b : Seen) (page fresh : ℕ) (d : StoreState) (holds : HoldsAt a page fresh d) (at n : ℕ) → 8192 ≤ at → ((bank : ℕ) → bank < d.present.number → IsFreeOf d.present bank (entry_of d.present bank) (content_of_bank d bank) at n)
      → IsTrue b.told → b.off ≡ a.off → SameOutside at n a.octets b.octets → HoldsAt b page fresh d
  still_holds a b page fresh d holds at n past free told off out = record {
    told = told;
    on = off ∙ holds.on;
    word = holds.word;
    represents = known.free page holds.word d a.octets b.octets at n past free out holds.represents;
    is_before = holds.is_before;
  }

-- the place of the present record
module _ (known : Known) where
  pub still_place : (a b : Seen) (page fresh at n : ℕ) → IsSound a → IsPlace a page fresh → 8192 ≤ at → b.pages ≡ a.pages → (IsTrue b.told → IsTrue a.told) → (IsTrue a.told → SameOutside at n a.octets b.octets) → IsPlace b page fresh
  still_place a b page fresh at n sound is past pages back out = record {
    both = omega (arith, is.both, pages);
    one_of_two = is.one_of_two;
    few = is.few;
    is_blank = λ told k le lt.
        let was = back told in
        ap (λ (p : List ℕ). slot_in p k) (known.ranges.writes.part_outside a.octets b.octets at n (out was) (4096 * page) 4096 (inl (omega (arith, past, is.one_of_two))) (omega (arith, (sound.is_image was).size, is.both, is.one_of_two))) ∙ is.is_blank was k le lt;
  }

-- a mark page, where no bank is being filled
pub marks_free : (r : Record) (bank : ℕ) → bank < r.number → ((b : ℕ) → ¬ IsFilling (entry_of r b)) → (content : ℕ → Content) → (b : ℕ) → b < r.number → IsFreeOf r b (entry_of r b) (content b) (4096 * (2 + bank)) 4096
marks_free r bank there rests content b lt = free (entry_of r b) (rests b)
  where
    free : (e : BankState) → ¬ IsFilling e → IsFreeOf r b e (content b) (4096 * (2 + bank)) 4096
    free Empty no_filling = tt
    free (Filling s log) no_filling = absurd (no_filling tt)
    free (Sealed meta) no_filling = inr (omega (arith, there))

module _ (known : Known) (a b : Seen) (sound : IsSound a) (page : ℕ) (lies : page < a.pages) (ran : Ran exact a.octets (written a.octets (4096 * page) (blank 4096) ∷ []) a b) where
  pub page_out : IsTrue a.told → SameOutside (4096 * page) 4096 a.octets b.octets
  page_out told = subst (λ (o : List ℕ). SameOutside (4096 * page) 4096 a.octets o) (sym (ran.ends told)) (known.ranges.writes.outside_written a.octets (4096 * page) 4096 (omega (arith, (sound.is_image told).size, lies)) (blank 4096) (length-blank 4096))

  pub page_blank : IsTrue a.told → (i : ℕ) → i < 4096 → get_or b.octets (4096 * page + i) 0 ≡ 255
  page_blank told i lt =
      let ff : length (blank 4096) ≡ 4096 = length-blank 4096 in
      ap (λ (o : List ℕ). get_or o (4096 * page + i) 0) (ran.ends told)
      ∙ known.ranges.writes.written_inside a.octets (4096 * page) (blank 4096) (omega (arith, ff, (sound.is_image told).size, lies)) i (omega (arith, ff, lt)) ∙ get-blank 4096 i lt
