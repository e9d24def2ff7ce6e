-- A bank that a source fills, page by page.
use Rattle.std.proofs.Common.{◌≡◌, ℕ, ◌+◌, ◌*◌, ◌/◌, ◌<◌, ◌≤◌, true, false, Option, List, [], ◌∷◌, ◌++◌, length, refl, sym, ◌∙◌, subst, arith, length-append}
use Rattle.std.proofs.lemmas.List.{append-nil}
use Rattle.mu_image.specs.Digests.{HasTaken}
use Rattle.mu_model_flash.specs.Flash.{Seen, IsSound}
use Rattle.mu_model_flash.specs.Run.{either, Ran}
use Rattle.mu_model_flash.specs.Laws.{RunLaws}
use Rattle.mu_model_record.specs.Ways.{StateOf, reading_of}
use Rattle.mu_model_record.specs.Represents.{RepresentsStore}
use Rattle.mu_model_record.specs.Store.{bank_place}
use Rattle.mu_store.specs.declared.base.Base.{Base}
use Rattle.mu_store.specs.declared.whole.Part.{Part}
use Rattle.mu_store.specs.declared.whole.FillFail.{FillFail}
use Rattle.mu_store.specs.declared.whole.FillWhy.{FillWhy}
use Rattle.mu_store.specs.declared.whole.FillWhy.TheVariants.{Flash, Worn, Read, Empty, TooBig}
use Rattle.mu_store.specs.Source.{Gave, GivesMore}
use Rattle.mu_store.specs.Puts.{page_steps, pages_for, Puts, Breaks, TakesPiece, StopsAt, TakesAll, Leaves, StopsBefore}
use Rattle.mu_store.proofs.SourceLemmas.{gave_on, gave_none}
use Rattle.mu_store.proofs.WholeLemmas.{pages_whole, puts_none, puts_more, breaks_more}
use Rattle.mu_store.specs.Known.{Known}

-- so many whole pages lie in the bank
pub record SoFar {F : Type 0} {g : _} (seen : F → Seen) (at k : ℕ) (before after : Option (List ℕ)) (old : Base F g) (part : Part F g) : Type 0 where
  pub octets : List ℕ
  pub long : length octets ≡ 4096 * k
  pub size : part.size ≡ 4096 * k
  pub gave : Gave before after octets
  pub taken : HasTaken part.digesting octets
  pub puts : Puts seen at octets old part.base

-- the source ended it after so many whole pages
leaves : {F : Type 0} {g : _} (seen : F → Seen) (bank k : ℕ) (before after : Option (List ℕ)) (old mid : Base F g) (xs ys : List ℕ) → length xs ≡ 4096 * k → k ≤ old.fields.pages → length ys < 4096 → Gave before after (xs ++ ys) → Puts seen (bank_place old.fields bank) xs old mid
    → Leaves seen bank before after old (xs ++ ys) (seen mid.flash)
leaves seen bank k before after old mid xs ys long few short gave puts = record {
  gave = gave;
  runs = λ d holds room.
      let full : pages_for (4096 * old.fields.pages) ≡ old.fields.pages = omega arith in
      let here : pages_for (length xs) ≡ k = pages_whole (length xs) k long in
      let pages : length (xs ++ ys) / 4096 ≡ pages_for (length xs) = omega (arith, here, length-append xs ys, long, short) in
      subst (λ (n : ℕ). Ran (either RepresentsStore) d (page_steps n d) (seen old.flash) (seen mid.flash)) (sym pages)
      (puts.runs d holds (room.0, room.1, room.2, room.3, omega (arith, room.4, full, here, few))).0;
}

module _ (known : Known) {F : Type 0} {g : _} (seen : F → Seen) (run : RunLaws StateOf reading_of seen) (bank : ℕ) (old : Base F g) where
  -- before the first page
  pub so_none : (before : Option (List ℕ)) (part : Part F g) → part.base ≡ old → part.size ≡ 0 → HasTaken part.digesting [] → IsSound (seen old.flash) → SoFar seen (bank_place old.fields bank) 0 before before old part
  so_none before part is size taken sound = record {
    octets = [];
    long = refl;
    size = size;
    gave = gave_none before;
    taken = taken;
    puts = subst (λ (b : Base F g). Puts seen (bank_place old.fields bank) [] old b) (sym is) ((puts_none known) seen run (bank_place old.fields bank) old sound);
  }

  module _ (k : ℕ) (few : k < old.fields.pages) (before mid after : Option (List ℕ)) (part : Part F g) (so : SoFar seen (bank_place old.fields bank) k before mid old part) where
    module _ (next : Part F g) (sound : IsSound (seen part.base.flash)) (inside : bank_place old.fields bank + 4096 * (k + 1) ≤ 4096 * (seen part.base.flash).pages) (page : ℕ) (page_is : 4096 * page ≡ bank_place old.fields bank + 4096 * k) (takes : TakesPiece seen (4096 * page) mid after part next) where
      here : 4096 * page ≡ bank_place old.fields bank + length so.octets
      here = omega (arith, page_is, so.long)

      small : 4096 * pages_for (length takes.piece) ≤ 4096
      small = omega (arith, takes.most)

      puts : Puts seen (bank_place old.fields bank) (so.octets ++ takes.piece) old next.base
      puts = (puts_more known) seen run (bank_place old.fields bank) k so.octets takes.piece so.long old part.base so.puts next.base sound (λ told. omega (arith, (sound.is_image told).size, inside, so.long, small))
          (subst (λ (n : ℕ). Puts seen n takes.piece part.base next.base) here takes.puts)

      -- a whole page more
      pub so_next : length takes.piece ≡ 4096 → SoFar seen (bank_place old.fields bank) (k + 1) before after old next
      so_next whole = record {
        octets = so.octets ++ takes.piece;
        long = omega (arith, length-append so.octets takes.piece, so.long, whole);
        size = omega (arith, takes.size, so.size, whole);
        gave = gave_on before mid after so.octets takes.piece so.gave takes.gave;
        taken = takes.taken so.octets so.taken;
        puts = puts;
      }

      -- the last page
      pub all_next : length takes.piece < 4096 → TakesAll seen bank before after old next
      all_next less = record {
        octets = so.octets ++ takes.piece;
        most = omega (arith, length-append so.octets takes.piece, so.long, less, few);
        gave = gave_on before mid after so.octets takes.piece so.gave takes.gave;
        at_end = takes.end less;
        size = omega (arith, takes.size, so.size, so.long, length-append so.octets takes.piece);
        taken = takes.taken so.octets so.taken;
        puts = puts;
      }

    -- a page that failed
    pub stops_next : (page : ℕ) → 4096 * page ≡ bank_place old.fields bank + 4096 * k → (fail : FillFail F) (why : FillWhy) → StopsAt seen (4096 * page) mid after part.base fail why → StopsBefore seen bank before after old fail why
    stops_next page page_is fail Flash (piece, some, most, gave, breaks) =
        let here : 4096 * page ≡ bank_place old.fields bank + length so.octets = omega (arith, page_is, so.long) in (
          so.octets ++ piece,
          omega (arith, length-append so.octets piece, some),
          omega (arith, length-append so.octets piece, so.long, most, few),
          gave_on before mid after so.octets piece so.gave gave,
          (breaks_more known) seen run (bank_place old.fields bank) k so.octets piece so.long old part.base so.puts fail.flash (subst (λ (n : ℕ). Breaks seen n piece part.base (seen fail.flash)) here breaks),
        )
    stops_next page page_is fail Read (piece, short, gave, same) = (
      so.octets ++ piece,
      omega (arith, length-append so.octets piece, so.long, short, few),
      subst (λ flash. Leaves seen bank before after old (so.octets ++ piece) (seen flash)) (sym same)
          (leaves seen bank k before after old part.base so.octets piece so.long (omega (arith, few)) short (gave_on before mid after so.octets piece so.gave gave) so.puts),
    )
    stops_next page page_is fail Worn stops = absurd stops
    stops_next page page_is fail Empty stops = absurd stops
    stops_next page page_is fail TooBig stops = absurd stops

  -- the bank is full
  module _ (before mid after : Option (List ℕ)) (part : Part F g) (so : SoFar seen (bank_place old.fields bank) old.fields.pages before mid old part) where
    pub all_full : GivesMore mid after false → TakesAll seen bank before after old part
    all_full (gave, end) = record {
      octets = so.octets;
      most = omega (arith, so.long);
      gave = subst (λ (l : List ℕ). Gave before after l) (append-nil so.octets) (gave_on before mid after so.octets [] so.gave gave);
      at_end = end;
      size = so.size ∙ sym so.long;
      taken = so.taken;
      puts = so.puts;
    }

    pub stops_full : (fail : FillFail F) → fail.flash ≡ part.base.flash → GivesMore mid after true → StopsBefore seen bank before after old fail TooBig
    stops_full fail same (octet, gave) = (
      so.octets ++ octet ∷ [],
      omega (arith, length-append so.octets (octet ∷ []), so.long),
      subst (λ flash. Leaves seen bank before after old (so.octets ++ octet ∷ []) (seen flash)) (sym same)
          (leaves seen bank old.fields.pages before after old part.base so.octets (octet ∷ []) so.long (omega arith) (omega arith) (gave_on before mid after so.octets (octet ∷ []) so.gave gave) so.puts),
    )

    pub fails_full : (fail : FillFail F) → fail.flash ≡ part.base.flash → Gave mid after [] → StopsBefore seen bank before after old fail Read
    fails_full fail same gave = (
      so.octets ++ [],
      omega (arith, length-append so.octets [], so.long),
      subst (λ flash. Leaves seen bank before after old (so.octets ++ []) (seen flash)) (sym same)
          (leaves seen bank old.fields.pages before after old part.base so.octets [] so.long (omega arith) (omega arith) (gave_on before mid after so.octets [] so.gave gave) so.puts),
    )
