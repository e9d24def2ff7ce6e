-- A bank that is filled piece by piece.
use Rattle.std.proofs.Common.{◌≡◌, ◌⊎◌, inl, inr, ⊎_elim, ℕ, ◌+◌, ◌*◌, ◌<◌, ◌≤◌, IsTrue, List, [], ◌++◌, length, replicate, refl, sym, ◌∙◌, ap, subst, arith, length-append}
use Rattle.mu_model_flash.specs.Bits.{part_of}
use Rattle.mu_model_flash.specs.Flash.{Seen, IsSound}
use Rattle.mu_model_flash.specs.Run.{either, Ran, Broke}
use Rattle.mu_model_flash.specs.Laws.{RunLaws}
use Rattle.mu_model_image.specs.declared.Meta.{Meta}
use Rattle.mu_model_record.specs.declared.BankState.{BankState}
use Rattle.mu_model_record.specs.declared.BankState.TheVariants.{Empty, Filling, Sealed}
use Rattle.mu_model_record.specs.Record.{IsRecord, IsFilling, IsEntryInRange, entry_of}
use Rattle.mu_model_record.specs.Store.{StoreState, content_of_bank, bank_place}
use Rattle.mu_model_record.specs.Free.{IsFreeOf, IsFree}
use Rattle.mu_model_record.specs.Represents.{RepresentsStore}
use Rattle.mu_model_record.specs.Ways.{as_store, StateOf, reading_of}
use Rattle.mu_store.proofs.PartLemmas.{part_joined, wider}
use Rattle.mu_store.proofs.RunLemmas.{told_on, unchanged_keeps, unchanged_same}
use Rattle.mu_store.specs.declared.base.Base.{Base}
use Rattle.mu_store.specs.Base.{BaseHolds}
use Rattle.mu_store.specs.Puts.{pages_for, HasRoom, Puts, Breaks}
use Rattle.mu_store.proofs.BlockPut.{two_ran, two_broke}
use Rattle.mu_store.specs.Known.{Known}

-- a bank that is Empty, where none is being filled, has nothing of what the banks hold
pub bank_free : (d : StoreState) (bank : ℕ) → IsRecord d.present → entry_of d.present bank ≡ Empty → ((b : ℕ) → ¬ IsFilling (entry_of d.present b)) → IsFree d (bank_place d.present bank) (4096 * d.present.pages)
bank_free d bank sound is rests b lt = apart (entry_of d.present b) refl
  where
    mul_le : (m n k : ℕ) → m ≤ n → m * k ≤ n * k
    mul_le m n k le = grind arith

    split : (a c : ℕ) → (a ≡ c → ⊥) → (a < c) ⊎ (c < a)
    split a c ne = grind arith

    other : (meta : Meta) → entry_of d.present b ≡ Sealed meta → b ≡ bank → ⊥
    other meta e same =
        let gone : Empty ≡ Sealed meta = sym is ∙ ap (λ (n : ℕ). entry_of d.present n) (sym same) ∙ e in
        absurd cc

    apart : (e : BankState) → entry_of d.present b ≡ e → IsFreeOf d.present b e (content_of_bank d b) (bank_place d.present bank) (4096 * d.present.pages)
    apart Empty e = tt
    apart (Filling s log) e = absurd (rests b (subst (λ (x : BankState). IsFilling x) (sym e) tt))
    apart (Sealed meta) e =
        let range = subst (λ (x : BankState). IsEntryInRange d.present x) e (sound.entries b lt) in
        let pages : ℕ = d.present.pages in
        ⊎_elim
        (λ low.
        let le = mul_le (b + 1) bank d.present.pages (omega (arith, low)) in
        let next : (b + 1) * d.present.pages ≡ b * d.present.pages + d.present.pages = omega arith in
        inl (omega (arith, le, next, range.1)))
        (λ high.
        let le = mul_le (bank + 1) b d.present.pages (omega (arith, high)) in
        let next : (bank + 1) * d.present.pages ≡ bank * d.present.pages + d.present.pages = omega arith in
        inr (omega (arith, le, next)))
        (split b bank (other meta e))

-- the pages of octets and of a piece after them
pub pages_more : (n m k : ℕ) → n ≡ 4096 * k → pages_for (n + m) ≡ k + pages_for m
pages_more n m k is = omega (arith, is)

pub pages_whole : (n k : ℕ) → n ≡ 4096 * k → pages_for n ≡ k
pages_whole n k is = omega (arith, is)

module _ (known : Known) {F : Type 0} {g : _} (seen : F → Seen) (run : RunLaws StateOf reading_of seen) where
  here : (base : Base F g) (d : StoreState) → BaseHolds seen base d → RepresentsStore d (seen base.flash).octets
  here base d holds = (base.place.page, holds.at.word, holds.at.represents)

  -- nothing
  pub puts_none : (at : ℕ) (base : Base F g) → IsSound (seen base.flash) → Puts seen at [] base base
  unfolding part_of
  puts_none at base sound = record {
    fields = refl;
    place = refl;
    keeps = unchanged_keeps (seen base.flash) (seen base.flash) (unchanged_same (seen base.flash));
    stays = λ told. known.ranges.writes.outside_same at 0 (seen base.flash).octets;
    put = λ told. refl;
    runs = λ d holds room. ((run.read base.flash base.flash).none as_store d sound (unchanged_same (seen base.flash)) holds.at.on (λ told. here base d holds), holds);
  }

  -- a piece more
  module _ (at k : ℕ) (xs ys : List ℕ) (long : length xs ≡ 4096 * k) (old mid : Base F g) (first : Puts seen at xs old mid) where
    more : pages_for (length (xs ++ ys)) ≡ k + pages_for (length ys)
    more = ap pages_for (length-append xs ys) ∙ pages_more (length xs) (length ys) k long

    steps : (n : ℕ) → n ≡ pages_for (length ys) → (pages_for (length xs) + pages_for (length xs)) + (n + n) ≡ pages_for (length (xs ++ ys)) + pages_for (length (xs ++ ys))
    steps n is = omega (arith, more, is, pages_whole (length xs) k long)

    room_first : (d : StoreState) → HasRoom d at (length (xs ++ ys)) → HasRoom d at (length xs)
    room_first d room = (room.0, room.1, room.2, room.3, omega (arith, room.4, more, pages_whole (length xs) k long))

    room_then : (d : StoreState) → HasRoom d at (length (xs ++ ys)) → HasRoom d (at + length xs) (length ys)
    room_then d room = (room.0, room.1, room.2, omega (arith, room.3), omega (arith, room.4, more, long))

    pub puts_more : (new : Base F g) → IsSound (seen mid.flash) → (IsTrue (seen mid.flash).told → at + length xs + 4096 * pages_for (length ys) ≤ length (seen mid.flash).octets) → Puts seen (at + length xs) ys mid new → Puts seen at (xs ++ ys) old new
    puts_more new sound within second = record {
      fields = second.fields ∙ first.fields;
      place = second.place ∙ first.place;
      keeps = (run.join old.flash mid.flash new.flash).keeps first.keeps second.keeps;
      stays = λ told.
          let now = told_on a b first.keeps told in
          known.ranges.writes.outside_on at size a.octets b.octets c.octets
          (wider at size at (4096 * pages_for (length xs)) a.octets b.octets (omega arith) (omega (arith, more, pages_whole (length xs) k long)) (first.stays told))
          (wider at size (at + length xs) (4096 * pages_for (length ys)) b.octets c.octets (omega arith) (omega (arith, more, long)) (second.stays now));
      put = λ told.
          let now = told_on a b first.keeps told in
          let low : part_of c.octets at (length xs) ≡ xs = known.ranges.writes.part_outside b.octets c.octets (at + length xs) (4096 * pages_for (length ys)) (second.stays now) at (length xs) (inl (omega arith)) (omega (arith, within now)) ∙ first.put told in
          ap (λ (n : ℕ). part_of c.octets at n) (length-append xs ys) ∙ sym (part_joined c.octets at (length xs) (length ys)) ∙ (λ i. low i ++ second.put now i);
      runs = λ d holds room.
          let one = first.runs d holds (room_first d room) in
          let two = second.runs d one.1 (room_then d room) in (
            subst (λ (n : ℕ). Ran (either RepresentsStore) d (replicate n d) a c) (steps (pages_for (length ys)) refl)
                (two_ran d (pages_for (length xs) + pages_for (length xs)) (pages_for (length ys) + pages_for (length ys)) a b c (run.join old.flash mid.flash new.flash) one.0 two.0),
            two.1,
          );
    }
      where
        a : Seen
        a = seen old.flash

        b : Seen
        b = seen mid.flash

        c : Seen
        c = seen new.flash

        size : ℕ
        size = 4096 * pages_for (length (xs ++ ys))

    pub breaks_more : (new : F) → Breaks seen (at + length xs) ys mid (seen new) → Breaks seen at (xs ++ ys) old (seen new)
    breaks_more new broke d holds room =
        let one = first.runs d holds (room_first d room) in
        let two = broke d one.1 (room_then d room) in
        subst (λ (n : ℕ). Broke (either RepresentsStore) d (replicate n d) (seen old.flash) (seen new)) (steps (pages_for (length ys)) refl)
        (two_broke d (pages_for (length xs) + pages_for (length xs)) (pages_for (length ys) + pages_for (length ys)) (seen old.flash) (seen mid.flash) (seen new) (run.join old.flash mid.flash new) one.0 two)
