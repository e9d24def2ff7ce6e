-- A bank that begins to be filled, or is given up.
use Rattle.std.proofs.Common.{◌≡◌, ◌⊎◌, ⊎_elim, ℕ, zero, suc, ◌+◌, ◌*◌, ◌^◌, ◌<◌, ◌≤◌, Bool, false, Option, None, List, length, get_or, replicate, refl, sym, ◌∙◌, ap, subst, arith, get_or-set_same}
use Rattle.std.specs.Prelude.{slice_index_or}
use Rattle.std.proofs.lemmas.List.{length-replicate}
use Rattle.std.proofs.Math.ListN.{set}
use Rattle.mu_model_image.specs.Pieces.{block_count}
use Rattle.mu_model_flash.specs.Bits.{AreOctets}
use Rattle.mu_model_flash.specs.Flash.{Seen}
use Rattle.mu_model_record.specs.declared.Record.{Record}
use Rattle.mu_model_record.specs.declared.BankState.{BankState}
use Rattle.mu_model_record.specs.declared.BankState.TheVariants.{Empty, Filling}
use Rattle.mu_model_record.specs.Record.{IsRecord, IsFilling, entry_of}
use Rattle.mu_model_record.specs.Store.{nothing, held, StoreState, content_of_bank, mark_place, BlockLies}
use Rattle.mu_model_record.specs.Next.{IsNext}
use Rattle.mu_model_record.specs.Changes.{next_record, emptied, begun}
use Rattle.mu_record.specs.Place.{HoldsAt}
use Rattle.mu_store.specs.Marks.{no_flags}
use Rattle.mu_store.specs.Booted.{is_held}
use Rattle.mu_store.proofs.ReadLemmas.{get-no_flags}
use Rattle.mu_store.specs.Known.{Known}

-- no block
abbrev pub no_block : Option (List ℕ)
no_block = None

pub none_held : (n i : ℕ) → slice_index_or (replicate n no_block) i no_block ≡ no_block
none_held zero i = refl
none_held (suc n) zero = refl
none_held (suc n) (suc i) = none_held n i

-- a bank has at most 256 blocks
module _ (known : Known) where
  pub few_blocks : (size log : ℕ) → size ≤ 4096 * 256 → 12 ≤ log → log ≤ 14 → block_count size log ≤ 256
  few_blocks size log most least few = ⊎_elim (λ le. le) (λ gt. absurd (never gt)) (split (block_count size log) 256)
    where
      split : (a b : ℕ) → (a ≤ b) ⊎ (b < a)
      split a b = grind arith

      logs : (l : ℕ) → 12 ≤ l → l ≤ 14 → (l ≡ 12) ⊎ ((l ≡ 13) ⊎ (l ≡ 14))
      logs l ge le = grind arith

      large : 4096 ≤ 2 ^ log
      large = ⊎_elim (λ is. subst (λ (l : ℕ). 4096 ≤ 2 ^ l) (sym is) (omega arith)) (λ more. ⊎_elim (λ is. subst (λ (l : ℕ). 4096 ≤ 2 ^ l) (sym is) (omega arith)) (λ is. subst (λ (l : ℕ). 4096 ≤ 2 ^ l) (sym is) (omega arith)) more) (logs log least few)

      never : 256 < block_count size log → ⊥
      never gt =
          let begins : 256 * 2 ^ log < size = known.places.block_begins size log 256 gt in
          let p : ℕ = 2 ^ log in
          omega (arith, begins, large, most)

module _ (known : Known) (a : Seen) (page fresh : ℕ) (d : StoreState) (holds : HoldsAt a page fresh d) (fields : Record) (is : d.present ≡ fields) (not_last : fields.count ≡ 4294967295 → ⊥) (tag : List ℕ) (tag_size : length tag ≡ 1792) (small : AreOctets tag) (bank : ℕ) (there : bank < fields.number) where
  sound : IsRecord d.present
  sound = holds.represents.in_range

  not_worn : d.present.count + 1 < 2 ^ 32
  not_worn = omega (arith, ap (λ (r : Record). r.count) is, not_last, sound.count_most)

  pub there_d : bank < d.present.number
  there_d = subst (λ (r : Record). bank < r.number) (sym is) there

  pub emptied_then : IsNext a.octets d (emptied d bank tag)
  emptied_then = known.states.banked page holds.word d a.octets holds.represents bank Empty nothing tag there_d (known.records.banked d.present tag sound not_worn (tag_size, small) bank Empty there_d tt (λ never. absurd never)) (λ image out. tt)

  pub emptied_is : (entries : List BankState) → entries ≡ set fields.banks bank Empty → (emptied d bank tag).present ≡ next_record fields entries tag
  emptied_is entries e = ap (λ (r : Record). next_record r (set r.banks bank Empty) tag) is ∙ ap (λ (l : List BankState). next_record fields l tag) (sym e)

  module _ (size log : ℕ) (some : 0 < size) (most : size ≤ 4096 * fields.pages) (least : 12 ≤ log) (few : log ≤ 14) (rests : (b : ℕ) → ¬ IsFilling (entry_of fields b)) where
    most_d : size ≤ 4096 * d.present.pages
    most_d = subst (λ (r : Record). size ≤ 4096 * r.pages) (sym is) most

    pub blocks_few : block_count size log ≤ 256
    blocks_few = (few_blocks known) size log (omega (arith, most_d, sound.pages_most)) least few

    begun_record : IsRecord (next_record d.present (set d.present.banks bank (Filling size log)) tag)
    begun_record = known.records.banked d.present tag sound not_worn (tag_size, small) bank (Filling size log) there_d (some, most_d, least, few)
        (λ f other g. absurd (subst (λ (r : Record). ¬ IsFilling (entry_of r other)) (sym is) (rests other) g))

    pub begun_then : ((i : ℕ) → i < 4096 → get_or a.octets (mark_place bank i) 0 ≡ 255) → IsNext a.octets d (begun d bank size log tag)
    begun_then marks = known.states.banked page holds.word d a.octets holds.represents bank (Filling size log) (held (replicate (block_count size log) None)) tag there_d begun_record
        (λ image out. (
          length-replicate (block_count size log) None,
          λ i lt.
              subst (λ (o : Option (List ℕ)). BlockLies d.present bank size log i o image) (sym (none_held (block_count size log) i))
              (out.after (mark_place bank i) (omega arith) ∙ marks i (omega (arith, lt, blocks_few))),
        ))

    pub begun_is : (entries : List BankState) → entries ≡ set fields.banks bank (Filling size log) → (begun d bank size log tag).present ≡ next_record fields entries tag
    begun_is entries e = ap (λ (r : Record). next_record r (set r.banks bank (Filling size log)) tag) is ∙ ap (λ (l : List BankState). next_record fields l tag) (sym e)

    pub begun_content : content_of_bank (begun d bank size log tag) bank ≡ held (replicate (block_count size log) None)
    begun_content = get_or-set_same d.contents bank (held (replicate (block_count size log) None)) nothing (omega (arith, there_d, holds.represents.as_many))

    pub begun_flags : (flags : List Bool) → flags ≡ no_flags → (i : ℕ) → i < block_count size log → slice_index_or flags i false ≡ is_held (slice_index_or (replicate (block_count size log) None) i None)
    begun_flags flags f i lt = ap (λ (l : List Bool). slice_index_or l i false) f ∙ get-no_flags i ∙ ap is_held (sym (none_held (block_count size log) i))
