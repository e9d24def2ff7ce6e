-- Entries of banks as octets.
use Rattle.std.proofs.Common.{get_or-set_other, get_or-set_same, ◌≡◌, ◌⊎◌, inl, ⊎_elim, ℕ, ◌+◌, ◌-◌, ◌*◌, ◌^◌, ◌<◌, ◌≤◌, Option, Some, None, List, [], ◌∷◌, ◌++◌, length, take, drop, get_or, slice_range, MatchOption, refl, sym, ◌∙◌, ap, subst, arith}
use Rattle.std.specs.Prelude.{slice_index_or, replicate}
use Rattle.std.proofs.lemmas.List.{length-drop, ext_get_or, length-replicate, get_or-replicate, get_or_past, take_all, append-nil, drop-drop}
use Rattle.std.proofs.Math.ListN.{set}
use borrow.Rule.Slice.PartMut.{put_mid}
use Rattle.byteorder.specs.Endian.{little_bytes, little_number}
use Rattle.mu_model_image.specs.declared.Meta.{Meta}
use Rattle.mu_model_image.specs.Meta.{meta_octets, meta_from, IsMeta}
use Rattle.mu_model_image.specs.Laws.{MetaIsReadBack}
use Rattle.mu_model_flash.specs.Bits.{part_of, written}
use Rattle.mu_model_flash.specs.Laws.{WriteLaws}
use Rattle.mu_model_record.specs.declared.BankState.{BankState}
use Rattle.mu_model_record.specs.declared.BankState.TheVariants.{Empty, Filling, Sealed}
use Rattle.mu_model_record.specs.Record.{zeros, IsEntry, IsFillingEntry, IsSealedEntry}
use Rattle.mu_record.proofs.PartLemmas.{length-part, get-part, range-part}

pub length-zeros : (n : ℕ) → length (zeros n) ≡ n
unfolding zeros
length-zeros n = length-replicate n 0

pub get-zeros : (n k : ℕ) → get_or (zeros n) k 0 ≡ 0
unfolding zeros
get-zeros n k = let z : List ℕ = replicate n 0 in let size : length z ≡ n = length-replicate n 0 in ⊎_elim (λ lt. get_or-replicate n k 0 0 lt) (λ le. get_or_past z k 0 (omega (arith, size, le))) (split k n)
  where
    split : (a b : ℕ) → (a < b) ⊎ (b ≤ a)
    split a b = grind arith

-- a part of octets that are all 0
pub zero_part : (octets : List ℕ) (at n : ℕ) → at + n ≤ length octets → ((k : ℕ) → k < length (slice_range octets at (at + n)) → get_or (slice_range octets at (at + n)) k 0 ≡ 0) → part_of octets at n ≡ zeros n
zero_part octets at n within each =
    let size : length (part_of octets at n) ≡ n = length-part octets at n within in
    let same : slice_range octets at (at + n) ≡ part_of octets at n = range-part octets at n in
    ext_get_or 0 (part_of octets at n) (zeros n) (size ∙ sym (length-zeros n)) (λ i lt.
    ap (λ (l : List ℕ). get_or l i 0) (sym same) ∙ each i (omega (arith, ap length same, lt)) ∙ sym (get-zeros n i))

pub part_zero : (octets : List ℕ) (at n : ℕ) → part_of octets at n ≡ zeros n → (k : ℕ) → k < length (slice_range octets at (at + n)) → get_or (slice_range octets at (at + n)) k 0 ≡ 0
part_zero octets at n is k lt = ap (λ (l : List ℕ). get_or l k 0) (range-part octets at n ∙ is) ∙ get-zeros n k

pub all_zero : (octets : List ℕ) (n : ℕ) → length octets ≡ n → ((k : ℕ) → k < length octets → get_or octets k 0 ≡ 0) → octets ≡ zeros n
all_zero octets n size each = ext_get_or 0 octets (zeros n) (size ∙ sym (length-zeros n)) (λ i lt. each i lt ∙ sym (get-zeros n i))

pub zero_all : (octets : List ℕ) (n : ℕ) → octets ≡ zeros n → (k : ℕ) → k < length octets → get_or octets k 0 ≡ 0
zero_all octets n is k lt = ap (λ (l : List ℕ). get_or l k 0) is ∙ get-zeros n k

-- a write to a part of a slice
pub put_written : (old s bytes : List ℕ) (at n : ℕ) → s ≡ bytes → n ≡ length bytes → put_mid at n old s ≡ written old at bytes
unfolding written
put_written old s bytes at n is size = λ i. take at old ++ (is i ++ (drop-drop n at old ∙ ap (λ (m : ℕ). drop (at + m) old) size) i)

-- a number at the beginning of the rest
pub number_from : (octets : List ℕ) (at width : ℕ) → little_number width (take (length octets - at) (drop at octets)) ≡ little_number width (drop at octets)
number_from octets at width = ap (λ (l : List ℕ). little_number width l) (take_all (length octets - at) (drop at octets) (omega (arith, length-drop at octets)))

-- the entry of a bank that is Filling
pub filling_entry : (size log : ℕ) (buf : List ℕ) → size < 2 ^ 32 → buf ≡ little_bytes 4 size ++ zeros 40 → IsFillingEntry size log (1 ∷ log ∷ 0 ∷ 0 ∷ (buf ++ []))
unfolding part_of zeros
filling_entry size log buf fits is =
    let P : List ℕ → Type 0 = λ b. IsFillingEntry size log (1 ∷ log ∷ 0 ∷ 0 ∷ (b ++ [])) in
    subst P (sym is) (record {
      state = refl;
      log_at_1 = refl;
      zero_at_2 = refl;
      size_at_4 = omega (arith, fits);
      no_metadata_at_8 = refl;
    })

-- the entry of a bank that is Sealed
pub sealed_entry : (meta : Meta) (buf : List ℕ) → IsMeta meta → MetaIsReadBack → buf ≡ meta_octets meta → IsSealedEntry meta (2 ∷ 0 ∷ 0 ∷ 0 ∷ 0 ∷ 0 ∷ 0 ∷ 0 ∷ (buf ++ []))
unfolding part_of zeros
sealed_entry meta buf sound back is =
    let size : length (buf ++ []) ≡ 40 = ap length (append-nil buf ∙ is) ∙ omega (arith, sound.digest_length) in
    record {
      state = refl;
      no_log_at_1 = refl;
      zero_at_2 = refl;
      no_size_at_4 = refl;
      metadata_at_8 = ap meta_from (take_all 40 (buf ++ []) (omega (arith, size)) ∙ append-nil buf ∙ is) ∙ back meta sound;
    }

-- no other entry has this state
pub only_filling : (octets : List ℕ) → get_or octets 0 0 ≡ 1 → ((size log : ℕ) → ¬ IsFillingEntry size log octets) → (entry : BankState) → ¬ IsEntry entry octets
only_filling octets is never Empty e = let z : get_or octets 0 0 ≡ 0 = ap (λ (l : List ℕ). get_or l 0 0) e ∙ get-zeros 48 0 in omega (arith, is, z)
only_filling octets is never (Filling size log) e = never size log e
only_filling octets is never (Sealed meta) e = omega (arith, is, e.state)

pub only_sealed : (octets : List ℕ) → get_or octets 0 0 ≡ 2 → ((meta : Meta) → ¬ IsSealedEntry meta octets) → (entry : BankState) → ¬ IsEntry entry octets
only_sealed octets is never Empty e = let z : get_or octets 0 0 ≡ 0 = ap (λ (l : List ℕ). get_or l 0 0) e ∙ get-zeros 48 0 in omega (arith, is, z)
only_sealed octets is never (Filling size log) e = omega (arith, is, e.state)
only_sealed octets is never (Sealed meta) e = never meta e

pub only_empty : (octets : List ℕ) → (get_or octets 0 0 ≡ 1 → ⊥) → (get_or octets 0 0 ≡ 2 → ⊥) → (octets ≡ zeros 48 → ⊥) → (entry : BankState) → ¬ IsEntry entry octets
only_empty octets not_one not_two not_zero Empty e = not_zero e
only_empty octets not_one not_two not_zero (Filling size log) e = not_one e.state
only_empty octets not_one not_two not_zero (Sealed meta) e = not_two e.state

pub weaker_none : {T : Type 0} (A B : Type 0) (C : T → Type 0) (o : Option T) → (A → B) → MatchOption o A C → MatchOption o B C
weaker_none A B C None weak m = weak m
weaker_none A B C (Some t) weak m = m

-- one entry more is put
pub put_entry : WriteLaws → (banks : List BankState) (old entry : List ℕ) (b : ℕ) → length old ≡ 192 → length entry ≡ 48 → b < 4 → IsEntry (slice_index_or banks b Empty) entry
    → ((k : ℕ) → k < b → IsEntry (slice_index_or banks k Empty) (part_of old (48 * k) 48))
    → (k : ℕ) → k < b + 1 → IsEntry (slice_index_or banks k Empty) (part_of (written old (48 * b) entry) (48 * k) 48)
put_entry writes banks old entry b size fits few is before k lt = ⊎_elim
    (λ below.
    subst (λ (l : List ℕ). IsEntry (slice_index_or banks k Empty) l)
    (sym (writes.part_outside old (written old (48 * b) entry) (48 * b) 48 (writes.outside_written old (48 * b) 48 (omega (arith, size, few)) entry fits) (48 * k) 48 (inl (omega (arith, below))) (omega (arith, size, few, below))))
    (before k below))
    (λ same.
    subst (λ (j : ℕ). IsEntry (slice_index_or banks j Empty) (part_of (written old (48 * b) entry) (48 * j) 48)) (sym same)
    (subst (λ (l : List ℕ). IsEntry (slice_index_or banks b Empty) l) (sym (writes.part_written old (48 * b) 48 (omega (arith, size, few)) entry fits)) is))
    (split k b lt)
  where
    split : (k b : ℕ) → k < b + 1 → (k < b) ⊎ (k ≡ b)
    split k b lt = grind arith

-- one entry more is read
pub take_entry : (banks : List BankState) (octets : List ℕ) (b : ℕ) (entry : BankState) → length banks ≡ 4 → b < 4 → IsEntry entry (part_of octets (48 * b) 48)
    → ((k : ℕ) → k < b → IsEntry (slice_index_or banks k Empty) (part_of octets (48 * k) 48))
    → (k : ℕ) → k < b + 1 → IsEntry (slice_index_or (set banks b entry) k Empty) (part_of octets (48 * k) 48)
take_entry banks octets b entry four few is before k lt = ⊎_elim
    (λ below.
    let other : k ≡ b → ⊥ = λ e. omega (arith, e, below) in
    subst (λ (e : BankState). IsEntry e (part_of octets (48 * k) 48)) (sym (get_or-set_other banks b k entry Empty other)) (before k below))
    (λ same.
    let here : b < length banks = omega (arith, four, few) in
    subst (λ (j : ℕ). IsEntry (slice_index_or (set banks b entry) j Empty) (part_of octets (48 * j) 48)) (sym same)
    (subst (λ (e : BankState). IsEntry e (part_of octets (48 * b) 48)) (sym (get_or-set_same banks b entry Empty here)) is))
    (split k b lt)
  where
    split : (k b : ℕ) → k < b + 1 → (k < b) ⊎ (k ≡ b)
    split k b lt = grind arith

-- octets in the middle that are all 0
pub sealed_zero : (octets : List ℕ) → 48 ≤ length octets → part_of octets 1 7 ≡ zeros 7 → (get_or octets 1 0 ≡ 0) × (part_of octets 2 2 ≡ zeros 2) × (part_of octets 4 4 ≡ zeros 4)
sealed_zero octets long is = (at 1 (omega arith) (omega arith), zero_from 2 2 (omega arith) (omega arith), zero_from 4 4 (omega arith) (omega arith))
  where
    at : (k : ℕ) → 1 ≤ k → k < 8 → get_or octets k 0 ≡ 0
    at k some lt =
        let e : 1 + (k - 1) ≡ k = omega (arith, some) in
        ap (λ (n : ℕ). get_or octets n 0) (sym e) ∙ sym (get-part octets 1 7 (k - 1) (omega (arith, lt))) ∙ ap (λ (l : List ℕ). get_or l (k - 1) 0) is ∙ get-zeros 7 (k - 1)

    zero_from : (p n : ℕ) → 1 ≤ p → p + n ≤ 8 → part_of octets p n ≡ zeros n
    zero_from p n some few =
        let size = length-part octets p n (omega (arith, few, long)) in
        ext_get_or 0 (part_of octets p n) (zeros n) (size ∙ sym (length-zeros n)) (λ i lt.
        get-part octets p n i (omega (arith, lt, size)) ∙ at (p + i) (omega (arith, some)) (omega (arith, lt, size, few)) ∙ sym (get-zeros n i))

pub zero_sealed : (meta : Meta) (octets : List ℕ) → 48 ≤ length octets → IsSealedEntry meta octets → part_of octets 1 7 ≡ zeros 7
zero_sealed meta octets long e =
    let size = length-part octets 1 7 (omega (arith, long)) in
    ext_get_or 0 (part_of octets 1 7) (zeros 7) (size ∙ sym (length-zeros 7)) (λ i lt.
    get-part octets 1 7 i (omega (arith, lt, size)) ∙ at (1 + i) (omega arith) (omega (arith, lt, size)) ∙ sym (get-zeros 7 i))
  where
    from : (p n : ℕ) → part_of octets p n ≡ zeros n → (k : ℕ) → p ≤ k → k < p + n → get_or octets k 0 ≡ 0
    from p n is k le lt =
        let here : p + (k - p) ≡ k = omega (arith, le) in
        ap (λ (m : ℕ). get_or octets m 0) (sym here) ∙ sym (get-part octets p n (k - p) (omega (arith, lt, le))) ∙ ap (λ (l : List ℕ). get_or l (k - p) 0) is ∙ get-zeros n (k - p)

    places : (k : ℕ) → 1 ≤ k → k < 8 → (k ≡ 1) ⊎ (((2 ≤ k) × (k < 4)) ⊎ ((4 ≤ k) × (k < 8)))
    places k some lt = grind arith

    at : (k : ℕ) → 1 ≤ k → k < 8 → get_or octets k 0 ≡ 0
    at k some lt = ⊎_elim
        (λ one. ap (λ (m : ℕ). get_or octets m 0) one ∙ e.no_log_at_1)
        (λ more. ⊎_elim (λ two. from 2 2 e.zero_at_2 k two.0 (omega (arith, two.1))) (λ four. from 4 4 e.no_size_at_4 k four.0 (omega (arith, four.1))) more)
        (places k some lt)
