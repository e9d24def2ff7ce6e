-- The first record of a flash.
use Rattle.std.proofs.Common.{Result, Ok, Err, ◌≡◌, inl, inr, ℕ, ◌*◌, ◌<◌, ◌≤◌, IsTrue, List, [], ◌∷◌, length, refl, sym, ◌∙◌, ap, subst, arith}
use Rattle.std.specs.Prelude.{OnOk}
use Rattle.mu_model_flash.specs.Bits.{blank, written, SameOutside}
use Rattle.mu_model_flash.specs.Flash.{Seen, IsSound}
use Rattle.mu_model_flash.specs.Run.{either, exact, Ran, Broke, Runs, Refines}
use Rattle.mu_model_flash.specs.Laws.{WriteLaws, RunsAreRead}
use Rattle.mu_model_record.specs.declared.Record.{Record}
use Rattle.mu_model_record.specs.Code.{coded}
use Rattle.mu_model_record.specs.Page.{page_of, slot_place, page_word, slot_word}
use Rattle.mu_model_record.specs.Turns.{Anything}
use Rattle.mu_model_record.specs.Represents.{ControlPages}
use Rattle.mu_model_record.specs.NextLaws.{IsLongContent, IsShortContent, FirstRecordLaws}
use Rattle.mu_model_record.specs.Ways.{as_octets, as_anything, StateOf, reading_of}
use Rattle.mu_record.specs.Place.{IsFirst}
use Rattle.mu_record.proofs.PartLemmas.{length-blank}

module _ (law : FirstRecordLaws) (c b : List ℕ) (within : 8192 ≤ length b) (blank_one : page_of b 1 ≡ blank 4096) (r : Record) where
  -- a long one
  pub first_long : (octets : List ℕ) → IsLongContent r octets → c ≡ written b (4096 * 0) (coded octets) → IsFirst r 0 c
  first_long octets is written_is = record {
    word = page_word octets;
    control = subst (λ (x : List ℕ). ControlPages 0 (page_word octets) r x) (sym written_is) (law.long b within blank_one r octets is);
    is_before = λ some. absurd (omega (arith, some));
    followed = λ k le lt. absurd (omega (arith, le, lt));
  }

  -- a short one
  pub first_short : page_of b 0 ≡ blank 4096 → (octets : List ℕ) → IsShortContent r octets → c ≡ written b (slot_place 0 0) (coded octets) → IsFirst r 3 c
  first_short blank_zero octets is written_is =
      subst (λ (x : List ℕ). IsFirst r 3 x) (sym written_is)
      (let both = law.short b within blank_one blank_zero r octets is in record { word = slot_word 0 octets; control = both.0; is_before = λ some. (octets, refl); followed = both.1 })

-- an operation, whatever the octets are
anything_one : (o p : List ℕ) → Refines exact (either Anything) o (p ∷ []) tt (tt ∷ [])
anything_one o p = (λ c is. tt, λ c torn. inl tt, λ c is. tt)

anything_two : (o p q : List ℕ) → Refines exact (either Anything) o (p ∷ q ∷ []) tt (tt ∷ tt ∷ [])
anything_two o p q = (λ c is. tt, λ c torn. inl tt, (λ c is. tt, λ c torn. inl tt, λ c is. tt))

-- the same for calls
module _ (a b : Seen) (reads : RunsAreRead StateOf reading_of a b) (o p : List ℕ) where
  pub ran_one : Ran exact o (p ∷ []) a b → Ran (either Anything) tt (tt ∷ []) a b
  ran_one ran = reads.ran as_octets as_anything o (p ∷ []) tt (tt ∷ []) refl (λ told. anything_one o p) ran

  pub broke_one : Broke exact o (p ∷ []) a b → Broke (either Anything) tt (tt ∷ []) a b
  broke_one broke = reads.broke as_octets as_anything o (p ∷ []) tt (tt ∷ []) refl (λ told. anything_one o p) broke

  module _ {T E : Type 0} where
    pub runs_one : (result : Result T E) → Runs exact o (p ∷ []) a b result → Runs (either Anything) tt (tt ∷ []) a b result
    runs_one (Ok v) ran = ran_one ran
    runs_one (Err e) broke = broke_one broke

    pub runs_two : (q : List ℕ) (result : Result T E) → Runs exact o (p ∷ q ∷ []) a b result → Runs (either Anything) tt (tt ∷ tt ∷ []) a b result
    runs_two q (Ok v) ran = reads.ran as_octets as_anything o (p ∷ q ∷ []) tt (tt ∷ tt ∷ []) refl (λ told. anything_two o p q) ran
    runs_two q (Err e) broke = reads.broke as_octets as_anything o (p ∷ q ∷ []) tt (tt ∷ tt ∷ []) refl (λ told. anything_two o p q) broke

-- what holds where a call was done
pub where_done : {T E : Type 0} (P : Type 0) (o : List ℕ) (steps : List (List ℕ)) (a b : Seen) (result : Result T E) → Runs exact o steps a b result → (Ran exact o steps a b → P) → OnOk result P
where_done P o steps a b (Ok v) ran then = then ran
where_done P o steps a b (Err e) broke then = tt

-- a page that was erased
module _ (writes : WriteLaws) (a b : Seen) (sound : IsSound a) (both : 2 ≤ a.pages) where
  pub page_erased : (page : ℕ) → page < 2 → Ran exact a.octets (written a.octets (4096 * page) (blank 4096) ∷ []) a b → IsTrue a.told → page_of b.octets page ≡ blank 4096
  page_erased page two ran told =
      ap (λ (o : List ℕ). page_of o page) (ran.ends told) ∙ writes.part_written a.octets (4096 * page) 4096 (omega (arith, (sound.is_image told).size, both, two)) (blank 4096) (length-blank 4096)

  pub page_kept : Ran exact a.octets (written a.octets (4096 * 0) (blank 4096) ∷ []) a b → IsTrue a.told → page_of b.octets 1 ≡ page_of a.octets 1
  page_kept ran told =
      let size = (sound.is_image told).size in
      let out : SameOutside (4096 * 0) 4096 a.octets b.octets = subst (λ (x : List ℕ). SameOutside (4096 * 0) 4096 a.octets x) (sym (ran.ends told)) (writes.outside_written a.octets (4096 * 0) 4096 (omega (arith, size, both)) (blank 4096) (length-blank 4096)) in
      writes.part_outside a.octets b.octets (4096 * 0) 4096 out (4096 * 1) 4096 (inr (omega arith)) (omega (arith, size, both))
