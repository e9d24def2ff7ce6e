-- A block that is put into the bank that is being filled.
use Rattle.std.proofs.Common.{◌≡◌, ◌⊎◌, inl, inr, ⊎_elim, ℕ, ◌+◌, ◌-◌, ◌*◌, ◌^◌, ◌<◌, ◌≤◌, Option, Some, None, List, [], ◌∷◌, length, get_or, refl, sym, ◌∙◌, ap, subst, arith, get_or-set_other, get_or-set_same}
use Rattle.std.specs.Prelude.{slice_index_or}
use Rattle.std.proofs.lemmas.Bool.{cases_eq}
use Rattle.std.proofs.lemmas.Nat.{pow_pos}
use Rattle.std.proofs.Math.ListN.{set, length-set}
use Rattle.mu_model_image.specs.Pieces.{block_count, block_length, piece_count}
use Rattle.mu_model_flash.specs.Bits.{written, part_of, SameOutside}
use Rattle.mu_model_flash.specs.Run.{either, Refines}
use Rattle.mu_model_record.specs.declared.BankState.{BankState}
use Rattle.mu_model_record.specs.declared.BankState.TheVariants.{Empty, Filling, Sealed}
use Rattle.mu_model_record.specs.Page.{Word}
use Rattle.mu_model_record.specs.Turns.{before, after, MarkTurns}
use Rattle.mu_model_record.specs.Record.{IsFilling, IsEntryInRange, entry_of}
use Rattle.mu_model_record.specs.Store.{Content, nothing, held, StoreState, content_of_bank, pages_of, mark_place, bank_place, block_place, BlockLies, BankHolds}
use Rattle.mu_model_record.specs.Free.{Apart, IsFreeOf, IsFree}
use Rattle.mu_model_record.specs.Represents.{RepresentsAt, RepresentsStore}
use Rattle.mu_model_record.specs.Changes.{blocks_in, with_block}
use Rattle.mu_model_record.proofs.ControlLemmas.{control_same, same_page}
use Rattle.mu_model_record.proofs.FrameLemmas.{bank_within, block_begins, block_in_size, bank_same}
use Rattle.mu_model_flash.specs.Laws.{RangeLaws}

-- whole pages
module _ (log : ℕ) (least : 12 ≤ log) (few : log ≤ 14) where
  logs : (log ≡ 12) ⊎ ((log ≡ 13) ⊎ (log ≡ 14))
  logs = split log least few
    where
      split : (l : ℕ) → 12 ≤ l → l ≤ 14 → (l ≡ 12) ⊎ ((l ≡ 13) ⊎ (l ≡ 14))
      split l ge le = grind arith

  -- a block begins and ends at a page
  pub whole_pages : (pages : ℕ) × (2 ^ log ≡ 4096 * pages)
  whole_pages = ⊎_elim
      (λ is. (1, ap (λ (l : ℕ). 2 ^ l) is))
      (λ more. ⊎_elim (λ is. (2, ap (λ (l : ℕ). 2 ^ l) is)) (λ is. (4, ap (λ (l : ℕ). 2 ^ l) is)) more)
      logs

-- so many octets in whole pages
pub in_pages : (len most : ℕ) → len ≤ 4096 * most → 4096 * piece_count len 4096 ≤ 4096 * most
in_pages len most le = omega (arith, le)

pub at_least : (len : ℕ) → len ≤ 4096 * piece_count len 4096
at_least len = omega arith

mul_le : (m n k : ℕ) → m ≤ n → m * k ≤ n * k
mul_le m n k le = grind arith

-- the pages of a block lie within its bank, and before the next block
module _ (size log i pages : ℕ) (least : 12 ≤ log) (few : log ≤ 14) (fits : size ≤ 4096 * pages) (lt : i < block_count size log) where
  w : (n : ℕ) × (2 ^ log ≡ 4096 * n)
  w = whole_pages log least few

  len_block : block_length size log i ≤ 2 ^ log
  len_block = let next : (i + 1) * 2 ^ log ≡ i * 2 ^ log + 2 ^ log = omega arith in omega (arith, next)

  pub within_next : i * 2 ^ log + 4096 * piece_count (block_length size log i) 4096 ≤ (i + 1) * 2 ^ log
  within_next =
      let low : block_length size log i ≤ 4096 * w.0 = omega (arith, len_block, w.1) in
      let top = in_pages (block_length size log i) w.0 low in
      let next : (i + 1) * 2 ^ log ≡ i * 2 ^ log + 2 ^ log = omega arith in
      omega (arith, top, next, w.1)

  pub within_bank : i * 2 ^ log + 4096 * piece_count (block_length size log i) 4096 ≤ 4096 * pages
  within_bank =
      let inner = block_in_size size log i lt in
      let begins = block_begins size log i lt in
      let place : i * 2 ^ log ≡ 4096 * (i * w.0) = ap (λ (n : ℕ). i * n) w.1 ∙ omega arith in
      let q : ℕ = i * w.0 in
      let le : block_length size log i ≤ 4096 * (pages - q) = omega (arith, inner, begins, place, fits) in
      let top = in_pages (block_length size log i) (pages - q) le in
      omega (arith, top, place, begins, fits)

-- the range of a block that isn't held has nothing of what the banks hold
module _ (ranges : RangeLaws) (page : ℕ) (word : Word) (d : StoreState) (image : List ℕ) (at : RepresentsAt page word d image) (bank size log : ℕ) (there : bank < d.present.number) (entry : entry_of d.present bank ≡ Filling size log) (blocks : List (Option (List ℕ))) (content : content_of_bank d bank ≡ held blocks) where
  range : IsEntryInRange d.present (Filling size log)
  range = subst (λ (e : BankState). IsEntryInRange d.present e) entry (at.in_range.entries bank there)

  filling : BankHolds d.present bank (Filling size log) (held blocks) image
  filling = subst (λ (k : Content). BankHolds d.present bank (Filling size log) k image) content (subst (λ (e : BankState). BankHolds d.present bank e (content_of_bank d bank) image) entry (at.banks bank there))

  not_filling : (a : ℕ) → (a ≡ bank → ⊥) → IsFilling (entry_of d.present a) → ⊥
  not_filling a other f = other (at.in_range.one_filling a bank f (subst (λ (e : BankState). IsFilling e) (sym entry) tt))

  -- marks lie on the mark page
  pub mark_low : (j : ℕ) → j < block_count size log → j < 4096
  mark_low j lt = ⊎_elim (λ low. low) (λ high. absurd (never high)) (split j 4096)
    where
      split : (a b : ℕ) → (a < b) ⊎ (b ≤ a)
      split a b = grind arith

      never : 4096 ≤ j → ⊥
      never high =
          let begins : j * 2 ^ log < size = block_begins size log j lt in
          let pages = whole_pages log range.2 range.3 in
          let rows : 4096 * 2 ^ log ≤ j * 2 ^ log = mul_le 4096 j (2 ^ log) high in
          let some : 0 < pages.0 = positive pages.0 pages.1 in
          omega (arith, begins, rows, pages.1, some, range.1, at.in_range.pages_most)
        where
          positive : (n : ℕ) → 2 ^ log ≡ 4096 * n → 0 < n
          positive n is = let p : 0 < 2 ^ log = pow_pos log in omega (arith, p, is)

  module _ (i : ℕ) (lt : i < block_count size log) where
    -- another block lies elsewhere
    order : (j : ℕ) → j < block_count size log → (j ≡ i → ⊥) → Apart (block_place d.present bank log i) (4096 * piece_count (block_length size log i) 4096) (block_place d.present bank log j) (block_length size log j)
    order j j_lt other = ⊎_elim (λ below. inl (low below)) (λ above. inr (high above)) (split j i other)
      where
        split : (a b : ℕ) → (a ≡ b → ⊥) → (a < b) ⊎ (b < a)
        split a b ne = grind arith

        low : j < i → block_place d.present bank log j + block_length size log j ≤ block_place d.present bank log i
        low below =
            let rows : (j + 1) * 2 ^ log ≤ i * 2 ^ log = mul_le (j + 1) i (2 ^ log) (omega (arith, below)) in
            let next : (j + 1) * 2 ^ log ≡ j * 2 ^ log + 2 ^ log = omega arith in
            omega (arith, rows, next)

        high : i < j → block_place d.present bank log i + 4096 * piece_count (block_length size log i) 4096 ≤ block_place d.present bank log j
        high above =
            let rows : (i + 1) * 2 ^ log ≤ j * 2 ^ log = mul_le (i + 1) j (2 ^ log) (omega (arith, above)) in
            let inner = within_next size log i d.present.pages range.2 range.3 range.1 lt in
            omega (arith, rows, inner)

    -- another bank lies elsewhere
    elsewhere : (b : ℕ) → (b ≡ bank → ⊥) → (size' : ℕ) → size' ≤ 4096 * d.present.pages → Apart (block_place d.present bank log i) (4096 * piece_count (block_length size log i) 4096) (bank_place d.present b) size'
    elsewhere b other size' fits = ⊎_elim (λ below. inl (low below)) (λ above. inr (high above)) (split b bank other)
      where
        split : (a b : ℕ) → (a ≡ b → ⊥) → (a < b) ⊎ (b < a)
        split a b ne = grind arith

        low : b < bank → bank_place d.present b + size' ≤ block_place d.present bank log i
        low below =
            let rows : (b + 1) * d.present.pages ≤ bank * d.present.pages = mul_le (b + 1) bank d.present.pages (omega (arith, below)) in
            omega (arith, rows, fits)

        high : bank < b → block_place d.present bank log i + 4096 * piece_count (block_length size log i) 4096 ≤ bank_place d.present b
        high above =
            let rows : (bank + 1) * d.present.pages ≤ b * d.present.pages = mul_le (bank + 1) b d.present.pages (omega (arith, above)) in
            let inner = within_bank size log i d.present.pages range.2 range.3 range.1 lt in
            omega (arith, rows, inner)

    -- the pages of the block lie in the flash, past the control pages
    pub block_past : 8192 ≤ block_place d.present bank log i
    block_past = omega arith

    pub block_in_flash : block_place d.present bank log i + 4096 * piece_count (block_length size log i) 4096 ≤ 4096 * pages_of d.present
    block_in_flash =
        let inner = within_bank size log i d.present.pages range.2 range.3 range.1 lt in
        let outer = bank_within d.present bank (4096 * d.present.pages) there (omega arith) in
        omega (arith, inner, outer)

    module _ (none : (octets : List ℕ) → slice_index_or blocks i None ≡ Some octets → ⊥) where
      own : IsFreeOf d.present bank (Filling size log) (held blocks) (block_place d.present bank log i) (4096 * piece_count (block_length size log i) 4096)
      own = (λ j j_lt. inl (omega (arith, mark_low j j_lt, there)), λ j octets j_lt is. order j j_lt (λ e. none octets (ap (λ (k : ℕ). slice_index_or blocks k None) (sym e) ∙ is)))

      pub block_free : IsFree d (block_place d.present bank log i) (4096 * piece_count (block_length size log i) 4096)
      block_free b b_lt = ⊎_elim (λ is. here is) (λ other. each (entry_of d.present b) refl (not_filling b other) other) (cases_eq b bank)
        where
          here : b ≡ bank → IsFreeOf d.present b (entry_of d.present b) (content_of_bank d b) (block_place d.present bank log i) (4096 * piece_count (block_length size log i) 4096)
          here is =
              subst (λ (m : ℕ). IsFreeOf d.present m (entry_of d.present m) (content_of_bank d m) (block_place d.present bank log i) (4096 * piece_count (block_length size log i) 4096)) (sym is)
              (subst (λ (e : BankState). IsFreeOf d.present bank e (content_of_bank d bank) (block_place d.present bank log i) (4096 * piece_count (block_length size log i) 4096)) (sym entry)
              (subst (λ (k : Content). IsFreeOf d.present bank (Filling size log) k (block_place d.present bank log i) (4096 * piece_count (block_length size log i) 4096)) (sym content) own))

          each : (e : BankState) → entry_of d.present b ≡ e → (IsFilling e → ⊥) → (b ≡ bank → ⊥) → IsFreeOf d.present b e (content_of_bank d b) (block_place d.present bank log i) (4096 * piece_count (block_length size log i) 4096)
          each Empty is not other = tt
          each (Filling s l) is not other = absurd (not tt)
          each (Sealed meta) is not other = elsewhere b other meta.size (subst (λ (e : BankState). IsEntryInRange d.present e) is (at.in_range.entries b b_lt)).1

    -- with the mark set
    module _ (octets : List ℕ) (lies : part_of image (block_place d.present bank log i) (block_length size log i) ≡ octets) (c : List ℕ) (marked : c ≡ written image (mark_place bank i) (254 ∷ [])) where
      mark_within : mark_place bank i + 1 ≤ length image
      mark_within =
          let outer = bank_within d.present bank 0 there (omega arith) in
          omega (arith, mark_low i lt, there, outer, at.size)

      out : SameOutside (mark_place bank i) 1 image c
      out = subst (λ (x : List ℕ). SameOutside (mark_place bank i) 1 image x) (sym marked) (ranges.writes.outside_written image (mark_place bank i) 1 mark_within (254 ∷ []) refl)

      set_mark : get_or c (mark_place bank i) 0 ≡ 254
      set_mark =
          let zero : mark_place bank i ≡ mark_place bank i + 0 = omega arith in
          ap (λ (n : ℕ). get_or c n 0) zero ∙ ap (λ (x : List ℕ). get_or x (mark_place bank i + 0) 0) marked ∙ ranges.writes.written_inside image (mark_place bank i) (254 ∷ []) mark_within 0 (omega arith)

      same_part : (j : ℕ) → j < block_count size log → part_of c (block_place d.present bank log j) (block_length size log j) ≡ part_of image (block_place d.present bank log j) (block_length size log j)
      same_part j j_lt =
          let inner = block_in_size size log j j_lt in
          let outer = bank_within d.present bank size there range.1 in
          ranges.writes.part_outside image c (mark_place bank i) 1 out (block_place d.present bank log j) (block_length size log j) (inr (omega (arith, mark_low i lt, there))) (omega (arith, inner, outer, at.size))

      same_mark : (j : ℕ) → (j ≡ i → ⊥) → get_or c (mark_place bank j) 0 ≡ get_or image (mark_place bank j) 0
      same_mark j other = ⊎_elim (λ below. out.before (mark_place bank j) (omega (arith, below))) (λ above. out.after (mark_place bank j) (omega (arith, above))) (split j i other)
        where
          split : (a b : ℕ) → (a ≡ b → ⊥) → (a < b) ⊎ (b < a)
          split a b ne = grind arith

      set_blocks : List (Option (List ℕ))
      set_blocks = set blocks i (Some octets)

      blocks_long : i < length blocks
      blocks_long = omega (arith, lt, filling.0)

      one_block : (j : ℕ) → j < block_count size log → BlockLies d.present bank size log j (slice_index_or (set blocks i (Some octets)) j None) c
      one_block j j_lt = ⊎_elim (λ is. mine is) (λ other. another other) (cases_eq j i)
        where
          mine : j ≡ i → BlockLies d.present bank size log j (slice_index_or (set blocks i (Some octets)) j None) c
          mine is = subst (λ (k : ℕ). BlockLies d.present bank size log k (slice_index_or (set blocks i (Some octets)) k None) c) (sym is)
              (subst (λ (o : Option (List ℕ)). BlockLies d.present bank size log i o c) (sym (get_or-set_same blocks i (Some octets) None blocks_long)) (set_mark, same_part i lt ∙ lies))

          lie : (o : Option (List ℕ)) → (j ≡ i → ⊥) → BlockLies d.present bank size log j o image → BlockLies d.present bank size log j o c
          lie None other l = same_mark j other ∙ l
          lie (Some x) other l = (same_mark j other ∙ l.0, same_part j j_lt ∙ l.1)

          another : (j ≡ i → ⊥) → BlockLies d.present bank size log j (slice_index_or (set blocks i (Some octets)) j None) c
          another other = subst (λ (o : Option (List ℕ)). BlockLies d.present bank size log j o c) (sym (get_or-set_other blocks i j (Some octets) None other)) (lie (slice_index_or blocks j None) other (filling.1 j j_lt))

      bank_long : bank < length d.contents
      bank_long = omega (arith, there, at.as_many)

      blocks_are : blocks_in (content_of_bank d bank) ≡ blocks
      blocks_are = ap blocks_in content

      contents : List Content
      contents = set d.contents bank (held (set (blocks_in (content_of_bank d bank)) i (Some octets)))

      pub block_represents : RepresentsAt page word (with_block d bank i octets) c
      block_represents = record {
        size = out.size ∙ at.size;
        in_range = at.in_range;
        control = control_same page word d.present image c (λ q two. (same_page ranges) image c (mark_place bank i) 1 q out (inl (omega (arith, two))) (omega (arith, at.size, two))) at.control;
        as_many = length-set d.contents bank (held (set (blocks_in (content_of_bank d bank)) i (Some octets))) ∙ at.as_many;
        banks = λ b b_lt. ⊎_elim (λ is. mine b is) (λ other. another b b_lt other) (cases_eq b bank);
      }
        where
          mine : (b : ℕ) → b ≡ bank → BankHolds d.present b (entry_of d.present b) (slice_index_or (set d.contents bank (held (set (blocks_in (content_of_bank d bank)) i (Some octets)))) b nothing) c
          mine b is =
              subst (λ (n : ℕ). BankHolds d.present n (entry_of d.present n) (slice_index_or (set d.contents bank (held (set (blocks_in (content_of_bank d bank)) i (Some octets)))) n nothing) c) (sym is)
              (subst (λ (k : Content). BankHolds d.present bank (entry_of d.present bank) k c) (sym (get_or-set_same d.contents bank (held (set (blocks_in (content_of_bank d bank)) i (Some octets))) nothing bank_long))
              (subst (λ (bs : List (Option (List ℕ))). BankHolds d.present bank (entry_of d.present bank) (held (set bs i (Some octets))) c) (sym blocks_are)
              (subst (λ (e : BankState). BankHolds d.present bank e (held (set blocks i (Some octets))) c) (sym entry) (length-set blocks i (Some octets) ∙ filling.0, one_block))))

          free : (b : ℕ) (e : BankState) (k : Content) → b < d.present.number → (IsFilling e → ⊥) → IsFreeOf d.present b e k (mark_place bank i) 1
          free b Empty k b_lt not = tt
          free b (Filling s l) k b_lt not = absurd (not tt)
          free b (Sealed meta) k b_lt not = inr (omega (arith, mark_low i lt, there))

          another : (b : ℕ) → b < d.present.number → (b ≡ bank → ⊥) → BankHolds d.present b (entry_of d.present b) (slice_index_or (set d.contents bank (held (set (blocks_in (content_of_bank d bank)) i (Some octets)))) b nothing) c
          another b b_lt other =
              subst (λ (k : Content). BankHolds d.present b (entry_of d.present b) k c) (sym (get_or-set_other d.contents bank b (held (set (blocks_in (content_of_bank d bank)) i (Some octets))) nothing other))
              ((bank_same ranges) d.present b image c (mark_place bank i) 1 out at.size b_lt (entry_of d.present b) (content_of_bank d b) (at.in_range.entries b b_lt) (free b (entry_of d.present b) (content_of_bank d b) b_lt (not_filling b other)) (at.banks b b_lt))

-- the mark of a block whose octets lie at their place
module _ (ranges : RangeLaws) where
  pub mark_reads : (page : ℕ) (word : Word) (d : StoreState) (image : List ℕ) (at : RepresentsAt page word d image) (bank size log : ℕ) → bank < d.present.number → entry_of d.present bank ≡ Filling size log → (blocks : List (Option (List ℕ))) → content_of_bank d bank ≡ held blocks
      → (i : ℕ) → i < block_count size log → (octets : List ℕ) → part_of image (block_place d.present bank log i) (block_length size log i) ≡ octets
      → Refines (either (MarkTurns image (mark_place bank i))) (either RepresentsStore) before (after ∷ []) d (with_block d bank i octets ∷ [])
  mark_reads page word d image at bank size log there entry blocks content i lt octets lies = (
    λ c is. was c is,
    λ c t. ⊎_elim (λ x. inl (was c x)) (λ x. inr (now c x)) t,
    λ c is. now c is,
  )
    where
      was : (c : List ℕ) → c ≡ image → RepresentsStore d c
      was c is = (page, word, subst (λ (x : List ℕ). RepresentsAt page word d x) (sym is) at)

      now : (c : List ℕ) → c ≡ written image (mark_place bank i) (254 ∷ []) → RepresentsStore (with_block d bank i octets) c
      now c is = (page, word, (block_represents ranges) page word d image at bank size log there entry blocks content i lt octets lies c is)
