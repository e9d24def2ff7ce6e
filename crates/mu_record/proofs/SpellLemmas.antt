-- A record as octets, part by part.
use Rattle.std.proofs.Common.{◌++◌, ◌-◌, ◌≡◌, ◌⊎◌, ⊎_elim, inl, inr, ℕ, ◌+◌, ◌*◌, ◌/◌, ◌%◌, ◌^◌, ◌<◌, ◌≤◌, List, [], ◌∷◌, length, get_or, refl, sym, ◌∙◌, ap, subst, arith, take, drop}
use Rattle.std.specs.Prelude.{slice_index_or}
use Rattle.std.proofs.lemmas.List.{ext_get_or, get_or-drop, get_or_past, take_all, length-drop}
use Rattle.byteorder.specs.Endian.{little_number}
use Rattle.std.proofs.lemmas.List.Elements.{All-from_get_or}
use Rattle.mu_model_image.specs.Laws.{MetaThatIsReadIsInRange}
use Rattle.mu_model_record.specs.declared.BankState.{BankState}
use Rattle.mu_model_record.specs.declared.BankState.TheVariants.{Empty, Filling, Sealed}
use Rattle.mu_record.specs.Ranges.{IsInRange, AreInRange, HasOneFilling, HasRanges}
use Rattle.mu_model_flash.specs.Bits.{AreOctets, part_of, written, SameOutside}
use Rattle.mu_model_flash.specs.Laws.{WriteLaws}
use Rattle.mu_model_record.specs.declared.Record.{Record}
use Rattle.mu_model_record.specs.Record.{zeros, IsEntry, entry_of, IsSpelled, IsEntryInRange, IsFilling, IsRecord}
use Rattle.mu_record.specs.Entries.{AreEntries}
use Rattle.mu_record.specs.Header.{header_of}
use Rattle.mu_record.proofs.PartLemmas.{length-part, get-part}
use Rattle.mu_record.proofs.EntryLemmas.{length-zeros, get-zeros}

-- a part of a part
pub part-part : (c : List ℕ) (at n p m : ℕ) → at + n ≤ length c → p + m ≤ n → part_of (part_of c at n) p m ≡ part_of c (at + p) m
part-part c at n p m within inner =
    let whole : length (part_of c at n) ≡ n = length-part c at n within in
    let here : length (part_of (part_of c at n) p m) ≡ m = length-part (part_of c at n) p m (omega (arith, whole, inner)) in
    let there : length (part_of c (at + p) m) ≡ m = length-part c (at + p) m (omega (arith, within, inner)) in
    ext_get_or 0 (part_of (part_of c at n) p m) (part_of c (at + p) m) (here ∙ sym there) (λ i lt.
    let low : i < m = omega (arith, lt, here) in
    let place : at + (p + i) ≡ at + p + i = omega arith in
    get-part (part_of c at n) p m i low
    ∙ get-part c at n (p + i) (omega (arith, low, inner))
    ∙ ap (λ (k : ℕ). get_or c k 0) place
    ∙ sym (get-part c (at + p) m i low))

pub zeros_part : (n at m : ℕ) → at + m ≤ n → part_of (zeros n) at m ≡ zeros m
zeros_part n at m within =
    let size = length-part (zeros n) at m (omega (arith, within, length-zeros n)) in
    ext_get_or 0 (part_of (zeros n) at m) (zeros m) (size ∙ sym (length-zeros m)) (λ i lt.
    get-part (zeros n) at m i (omega (arith, lt, size)) ∙ get-zeros n (at + i) ∙ sym (get-zeros m i))

-- the parts of a record
record IsLaid (format : ℕ) (r : Record) (octets : List ℕ) : Type 0 where
  size : length octets ≡ 2048
  head : part_of octets 0 16 ≡ header_of format r
  banks : AreEntries r.banks (part_of octets 16 192)
  gap : part_of octets 208 48 ≡ zeros 48
  tag : part_of octets 256 1792 ≡ r.tag

module _ (format : ℕ) (r : Record) (octets : List ℕ) (laid : IsLaid format r octets) where
  at_head : (k : ℕ) → k < 16 → get_or octets k 0 ≡ get_or (header_of format r) k 0
  at_head k lt =
      let e : k ≡ 0 + k = omega arith in
      ap (λ (n : ℕ). get_or octets n 0) e ∙ sym (get-part octets 0 16 k lt) ∙ ap (λ (l : List ℕ). get_or l k 0) laid.head

  in_head : (p m : ℕ) → p + m ≤ 16 → part_of octets p m ≡ part_of (header_of format r) p m
  in_head p m le = let e : p ≡ 0 + p = omega arith in ap (λ (n : ℕ). part_of octets n m) e ∙ sym (part-part octets 0 16 p m (omega (arith, laid.size)) le) ∙ ap (λ (l : List ℕ). part_of l p m) laid.head

  name : part_of octets 0 4 ≡ 0x4D ∷ 0x55 ∷ 0x46 ∷ 0x31 ∷ []
  unfolding part_of
  name = in_head 0 4 (omega arith)

  four_zeros : part_of octets 12 4 ≡ zeros 4
  unfolding part_of zeros
  four_zeros = in_head 12 4 (omega arith)

  rest_of : (k p : ℕ) → p + k < 16 → get_or (drop p octets) k 0 ≡ get_or (header_of format r) (p + k) 0
  rest_of k p lt = get_or-drop p octets k 0 ∙ at_head (p + k) lt

  laid_spelled : r.pages < 2 ^ 16 → r.count < 2 ^ 32 → IsSpelled format r octets
  laid_spelled pages count = record {
    whole = laid.size;
    name_at_0 = name;
    format_at_4 = at_head 4 (omega arith);
    number_at_5 = at_head 5 (omega arith);
    pages_at_6 = two (rest_of 0 6 (omega arith)) (rest_of 1 6 (omega arith));
    count_at_8 = four (rest_of 0 8 (omega arith)) (rest_of 1 8 (omega arith)) (rest_of 2 8 (omega arith)) (rest_of 3 8 (omega arith));
    zero_at_12 = four_zeros;
    bank_at_16 = λ b lt. subst (λ (l : List ℕ). IsEntry (entry_of r b) l) (part-part octets 16 192 (48 * b) 48 (omega (arith, laid.size)) (omega (arith, lt))) (laid.banks b lt);
    zero_at_208 = laid.gap;
    tag_at_256 = laid.tag;
  }
    where
      two : {a b : ℕ} → a ≡ r.pages % 256 → b ≡ r.pages / 256 % 256 → a + 256 * (b + 256 * 0) ≡ r.pages
      two p q = omega (arith, p, q, pages)

      four : {a b c d : ℕ} → a ≡ r.count % 256 → b ≡ r.count / 256 % 256 → c ≡ r.count / 65536 % 256 → d ≡ r.count / 16777216 % 256 → a + 256 * (b + 256 * (c + 256 * (d + 256 * 0))) ≡ r.count
      four p q s t = omega (arith, p, q, s, t, count)

-- octets that spell a record in its ranges
module _ (format : ℕ) (r : Record) (octets : List ℕ) (small : AreOctets octets) (spelled : IsSpelled format r octets) where
  part_small : (at n i : ℕ) → i < n → get_or (part_of octets at n) i 0 < 256
  part_small at n i lt = subst (λ (x : ℕ). x < 256) (sym (get-part octets at n i lt)) (small (at + i))

  part_in_part : (at n p m i : ℕ) → at + n ≤ length octets → p + m ≤ n → i < m → get_or (part_of (part_of octets at n) p m) i 0 < 256
  part_in_part at n p m i within inner lt = subst (λ (l : List ℕ). get_or l i 0 < 256) (sym (part-part octets at n p m within inner)) (part_small (at + p) m i lt)

  module _ (law : MetaThatIsReadIsInRange) where
    in_range : (entry : BankState) (o : List ℕ) → length (part_of o 8 40) ≡ 40 → ((i : ℕ) → i < 40 → get_or (part_of o 8 40) i 0 < 256) → IsEntry entry o → IsInRange r.pages entry → IsEntryInRange r entry
    in_range Empty o size low is range = tt
    in_range (Filling s log) o size low is range = range
    in_range (Sealed meta) o size low is range =
        let fits : (i : ℕ) → i < length (part_of o 8 40) → get_or (part_of o 8 40) i 0 < 256 = λ i lt. low i (omega (arith, lt, size)) in
        (law (part_of o 8 40) meta (All-from_get_or (λ (x : ℕ). x < 256) (part_of o 8 40) 0 fits) is.metadata_at_8, range.1)

    past : (b : ℕ) → length r.banks ≡ 4 → IsFilling (entry_of r b) → b < 4
    past b four filling = ⊎_elim (λ lt. lt) (λ le. absurd (subst (λ (e : BankState). IsFilling e) (get_or_past r.banks b Empty (omega (arith, four, le))) filling)) (split b 4)
      where
        split : (a c : ℕ) → (a < c) ⊎ (c ≤ a)
        split a c = grind arith

    pub spelled_record : length r.banks ≡ 4 → r.count < 2 ^ 32 → (2 ≤ r.number) × (r.number ≤ 4) × (1 ≤ r.pages) × (r.pages ≤ 256) × (1 ≤ r.count) → AreInRange r → HasOneFilling r → IsRecord r
    spelled_record four count numbers ranges one = record {
      number_least = numbers.0;
      number_most = numbers.1;
      pages_least = numbers.2;
      pages_most = numbers.3;
      count_least = numbers.4;
      count_most = count;
      four = four;
      entries = λ b lt.
          let few : b < 4 = omega (arith, lt, numbers.1) in
          let within : 16 + 48 * b + 48 ≤ length octets = omega (arith, few, spelled.whole) in
          let size : length (part_of octets (16 + 48 * b) 48) ≡ 48 = length-part octets (16 + 48 * b) 48 within in
          in_range (entry_of r b) (part_of octets (16 + 48 * b) 48) (length-part (part_of octets (16 + 48 * b) 48) 8 40 (omega (arith, size)))
          (λ i lt'. part_in_part (16 + 48 * b) 48 8 40 i within (omega arith) lt') (spelled.bank_at_16 b few) ((ranges b few).there lt);
      not_there = λ b le few. (ranges b few).not_there le;
      one_filling = λ a b fa fb. one a b (past a four fa) (past b four fb) fa fb;
      tag_size = ap (length {A = ℕ}) (sym spelled.tag_at_256) ∙ length-part octets 256 1792 (omega (arith, spelled.whole));
      tag_octets = λ i. subst (λ (l : List ℕ). get_or l i 0 < 256) spelled.tag_at_256 (tag_small i (split i 1792));
    }
      where
        split : (a c : ℕ) → (a < c) ⊎ (c ≤ a)
        split a c = grind arith

        tag_small : (i : ℕ) → (i < 1792) ⊎ (1792 ≤ i) → get_or (part_of octets 256 1792) i 0 < 256
        tag_small i (inl lt) = part_small 256 1792 i lt
        tag_small i (inr le) = subst (λ (x : ℕ). x < 256) (sym (get_or_past (part_of octets 256 1792) i 0 (omega (arith, length-part octets 256 1792 (omega (arith, spelled.whole)), le)))) (omega arith)

-- a record that was put there
module _ (writes : WriteLaws) (format : ℕ) (r : Record) (head entries : List ℕ) (head_is : head ≡ header_of format r) (head_size : length head ≡ 16) (banks_are : AreEntries r.banks entries) (banks_size : length entries ≡ 192) (tag_size : length r.tag ≡ 1792) where
  first : List ℕ
  first = written (zeros 2048) 0 head

  second : List ℕ
  second = written first 16 entries

  third : List ℕ
  third = written second 256 r.tag

  size : length (zeros 2048) ≡ 2048
  size = length-zeros 2048

  out_first : SameOutside 0 16 (zeros 2048) first
  unfolding first
  out_first = writes.outside_written (zeros 2048) 0 16 (omega (arith, size)) head head_size

  out_second : SameOutside 16 192 first second
  unfolding second
  out_second = writes.outside_written first 16 192 (omega (arith, size, out_first.size)) entries banks_size

  out_third : SameOutside 256 1792 second third
  unfolding third
  out_third = writes.outside_written second 256 1792 (omega (arith, size, out_first.size, out_second.size)) r.tag tag_size

  laid : IsLaid format r third
  unfolding first second third
  laid = record {
    size = out_third.size ∙ out_second.size ∙ out_first.size ∙ size;
    head = writes.part_outside second third 256 1792 out_third 0 16 (inl (omega arith)) (omega (arith, size, out_first.size, out_second.size))
        ∙ writes.part_outside first second 16 192 out_second 0 16 (inl (omega arith)) (omega (arith, size, out_first.size))
        ∙ writes.part_written (zeros 2048) 0 16 (omega (arith, size)) head head_size ∙ head_is;
    banks = subst (λ (l : List ℕ). AreEntries r.banks l)
        (sym (writes.part_outside second third 256 1792 out_third 16 192 (inl (omega arith)) (omega (arith, size, out_first.size, out_second.size))
        ∙ writes.part_written first 16 192 (omega (arith, size, out_first.size)) entries banks_size)) banks_are;
    gap = writes.part_outside second third 256 1792 out_third 208 48 (inl (omega arith)) (omega (arith, size, out_first.size, out_second.size))
        ∙ writes.part_outside first second 16 192 out_second 208 48 (inr (omega arith)) (omega (arith, size, out_first.size))
        ∙ writes.part_outside (zeros 2048) first 0 16 out_first 208 48 (inr (omega arith)) (omega (arith, size))
        ∙ zeros_part 2048 208 48 (omega arith);
    tag = writes.part_written second 256 1792 (omega (arith, size, out_first.size, out_second.size)) r.tag tag_size;
  }

  pub put_spelled : r.pages < 2 ^ 16 → r.count < 2 ^ 32 → (a b c : List ℕ) → a ≡ written (zeros 2048) 0 head → b ≡ written a 16 entries → c ≡ written b 256 r.tag → IsSpelled format r c
  unfolding first second third
  put_spelled pages count a b c a_is b_is c_is =
      subst (λ (o : List ℕ). IsSpelled format r o)
      (sym (c_is ∙ ap (λ (x : List ℕ). written x 256 r.tag) (b_is ∙ ap (λ (x : List ℕ). written x 16 entries) a_is)))
      (laid_spelled format r third laid pages count)

number_of_part : (octets : List ℕ) (at n width : ℕ) → length octets ≤ at + n → little_number width (take n (drop at octets)) ≡ little_number width (drop at octets)
number_of_part octets at n width le = ap (λ (l : List ℕ). little_number width l) (take_all n (drop at octets) (omega (arith, length-drop at octets, le)))

-- a record that was read
pub read_spelled : (format count pages : ℕ) (banks : List BankState) (tag octets : List ℕ) → length octets ≡ 2048
    → (part_of octets 0 4 ≡ 0x4D ∷ 0x55 ∷ 0x46 ∷ 0x31 ∷ []) × (get_or octets 4 0 ≡ format) × (part_of octets 12 4 ≡ zeros 4) × (part_of octets 208 48 ≡ zeros 48)
    → AreEntries banks (part_of octets 16 192) → count ≡ little_number 4 (take 2040 (drop 8 octets)) → pages ≡ little_number 2 (take 2042 (drop 6 octets)) → tag ≡ part_of octets 256 1792
    → IsSpelled format (record { count = count; pages = pages; number = get_or octets 5 0; banks = banks; tag = tag }) octets
read_spelled format count pages banks tag octets size framed entries count_is pages_is tag_is = record {
  whole = size;
  name_at_0 = framed.0;
  format_at_4 = framed.1;
  number_at_5 = refl;
  pages_at_6 = sym (pages_is ∙ number_of_part octets 6 2042 2 (omega (arith, size)));
  count_at_8 = sym (count_is ∙ number_of_part octets 8 2040 4 (omega (arith, size)));
  zero_at_12 = framed.2;
  bank_at_16 = λ b lt. subst (λ (l : List ℕ). IsEntry (slice_index_or banks b Empty) l) (part-part octets 16 192 (48 * b) 48 (omega (arith, size)) (omega (arith, lt))) (entries b lt);
  zero_at_208 = framed.3;
  tag_at_256 = sym tag_is;
}

pub spelled_framed : (format : ℕ) (r : Record) (octets : List ℕ) → IsSpelled format r octets
    → (part_of octets 0 4 ≡ 0x4D ∷ 0x55 ∷ 0x46 ∷ 0x31 ∷ []) × (get_or octets 4 0 ≡ format) × (part_of octets 12 4 ≡ zeros 4) × (part_of octets 208 48 ≡ zeros 48)
spelled_framed format r octets s = (s.name_at_0, s.format_at_4, s.zero_at_12, s.zero_at_208)

pub spelled_entry : (format : ℕ) (r : Record) (octets : List ℕ) (b : ℕ) → b < 4 → IsSpelled format r octets → IsEntry (entry_of r b) (part_of (part_of octets 16 192) (48 * b) 48)
spelled_entry format r octets b lt s = subst (λ (l : List ℕ). IsEntry (entry_of r b) l) (sym (part-part octets 16 192 (48 * b) 48 (omega (arith, s.whole)) (omega (arith, lt)))) (s.bank_at_16 b lt)

weaker_range : (r : Record) (entry : BankState) → IsEntryInRange r entry → IsInRange r.pages entry
weaker_range r Empty range = tt
weaker_range r (Filling s log) range = range
weaker_range r (Sealed meta) range = (range.0.some, range.1)

pub record_ranges : (r : Record) → IsRecord r → HasRanges r
record_ranges r sound = (
  (sound.number_least, sound.number_most, sound.pages_least, sound.pages_most, sound.count_least),
  λ b lt. record { there = λ few. weaker_range r (entry_of r b) (sound.entries b few); not_there = λ le. sound.not_there b le lt },
  λ a b la lb fa fb. sound.one_filling a b fa fb,
)

pub zeros_after : (slot : List ℕ) → length slot ≡ 512 → written (zeros 2048) 0 slot ≡ slot ++ zeros 1536
unfolding written
zeros_after slot size = ap (λ (l : List ℕ). slot ++ l) (ap (λ (n : ℕ). drop (0 + n) (zeros 2048)) size ∙ rest)
  where
    rest : drop 512 (zeros 2048) ≡ zeros 1536
    rest = ext_get_or 0 (drop 512 (zeros 2048)) (zeros 1536) (length-drop 512 (zeros 2048) ∙ ap (λ (n : ℕ). n - 512) (length-zeros 2048) ∙ sym (length-zeros 1536))
        (λ i lt. get_or-drop 512 (zeros 2048) i 0 ∙ get-zeros 2048 (512 + i) ∙ sym (get-zeros 1536 i))
