-- Octets and the numbers in them.
use Rattle.std.proofs.Common.{◌≡◌, ◌⊎◌, ⊎_elim, ℕ, suc, zero, ◌+◌, ◌^◌, ◌<◌, ◌≤◌, List, [], ◌∷◌, ◌++◌, length, take, drop, get_or, sym, ◌∙◌, ap, subst, arith}
use Rattle.std.specs.Prelude.{slice_index, replicate}
use Rattle.std.specs.List.{All}
use Rattle.std.specs.Int.{byte_at, bytes_low_first}
use Rattle.std.proofs.lemmas.List.{get_or-drop, get_or-take, get_or_past, length-take, get_or_default, drop_at, take_at, take_all, drop-drop, ext_get_or, length-drop, length-take-le, get_or-replicate, length-replicate}
use Rattle.byteorder.specs.Endian.{little_bytes}
use Rattle.byteorder.specs.Numbers.{little_from-lt}
use Rattle.mu_model_flash.specs.Bits.{AreOctets, part_of}
use Rattle.mu_model_record.specs.Record.{zeros, number_at}

either : (n i : ℕ) → (i < n) ⊎ (n ≤ i)
either n i = grind arith

pub octets_drop : (n : ℕ) (xs : List ℕ) → AreOctets xs → AreOctets (drop n xs)
octets_drop n xs small i = subst (λ (x : ℕ). x < 256) (sym (get_or-drop n xs i 0)) (small (n + i))

octets_take : (n : ℕ) (xs : List ℕ) → AreOctets xs → AreOctets (take n xs)
octets_take n xs small i = ⊎_elim
    (λ lt. subst (λ (x : ℕ). x < 256) (sym (get_or-take n xs i 0 lt)) (small i))
    (λ ge. subst (λ (x : ℕ). x < 256) (sym (get_or_past (take n xs) i 0 (omega (arith, length-take n xs, ge)))) (omega arith))
    (either n i)

pub octets_part : (xs : List ℕ) (place n : ℕ) → AreOctets xs → AreOctets (part_of xs place n)
unfolding part_of
octets_part xs place n small = octets_take n (drop place xs) (octets_drop place xs small)

pub number_fits : (width : ℕ) (xs : List ℕ) (place : ℕ) → AreOctets xs → number_at width xs place < 256 ^ width
number_fits width xs place small = little_from-lt 0 width (drop place xs) (octets_drop place xs small)

pub all_octets : (xs : List ℕ) → AreOctets xs → All (λ octet. octet < 256) xs
all_octets xs small k d lt = subst (λ (x : ℕ). x < 256) (get_or_default xs k 0 d lt) (small k)

-- ---- octets of what is written

pub octets_none : AreOctets []
octets_none i = omega arith

pub octets_cons : (x : ℕ) (xs : List ℕ) → x < 256 → AreOctets xs → AreOctets (x ∷ xs)
octets_cons x xs lt small zero = lt
octets_cons x xs lt small (suc i) = small i

pub octets_append : (xs ys : List ℕ) → AreOctets xs → AreOctets ys → AreOctets (xs ++ ys)
octets_append [] ys small more = more
octets_append (x ∷ xs) ys small more = octets_cons x (xs ++ ys) (small 0) (octets_append xs ys (λ i. small (suc i)) more)

pub octets_all : (xs : List ℕ) → All (λ octet. octet < 256) xs → AreOctets xs
octets_all xs small i = ⊎_elim
    (λ lt. small i 0 lt)
    (λ ge. subst (λ (x : ℕ). x < 256) (sym (get_or_past xs i 0 ge)) (omega arith))
    (either (length xs) i)

pub octets_zeros : (n : ℕ) → AreOctets (zeros n)
unfolding zeros
octets_zeros zero = octets_none
octets_zeros (suc n) = octets_cons 0 (replicate n 0) (omega arith) (octets_zeros n)

byte_small : (i x : ℕ) → byte_at i x < 256
byte_small zero x = omega arith
byte_small (suc i) x = omega arith

octets_low_first : (i n x : ℕ) → AreOctets (bytes_low_first i n x)
octets_low_first i zero x = octets_none
octets_low_first i (suc n) x = octets_cons (byte_at i x) (bytes_low_first (suc i) n x) (byte_small i x) (octets_low_first (suc i) n x)

pub octets_little : (n x : ℕ) → AreOctets (little_bytes n x)
octets_little n x = octets_low_first 0 n x

-- ---- places past the first octets

pub length_zeros : (n : ℕ) → length (zeros n) ≡ n
unfolding zeros
length_zeros n = length-replicate n 0

pub drop_past : (xs ys : List ℕ) (n k : ℕ) → length xs ≡ n → drop (n + k) (xs ++ ys) ≡ drop k ys
drop_past xs ys n k is = sym (drop-drop k n (xs ++ ys)) ∙ ap (drop k) (drop_at xs ys n is)

pub part_past : (xs ys : List ℕ) (n k m : ℕ) → length xs ≡ n → part_of (xs ++ ys) (n + k) m ≡ part_of ys k m
unfolding part_of
part_past xs ys n k m is = ap (take m) (drop_past xs ys n k is)

pub index_past : (xs ys : List ℕ) (n k : ℕ) → length xs ≡ n → slice_index (xs ++ ys) (n + k) ≡ slice_index ys k
index_past [] ys n k is = ap (λ (m : ℕ). slice_index ys m) (omega (arith, is))
index_past (x ∷ xs) ys zero k is = absurd (omega arith)
index_past (x ∷ xs) ys (suc n) k is =
    let rest = index_past xs ys n k (omega arith) in
    ap (λ (m : ℕ). slice_index (x ∷ (xs ++ ys)) m) (next n k) ∙ rest
  where
    next : (n k : ℕ) → suc n + k ≡ suc (n + k)
    next n k = omega arith

pub part_whole : (xs ys : List ℕ) (n : ℕ) → length xs ≡ n → part_of (xs ++ ys) 0 n ≡ xs
unfolding part_of
part_whole xs ys n is = take_at xs ys n is

zeros_at : (n k m i : ℕ) → k + m ≤ n → i < m → get_or (take m (drop k (replicate {A = ℕ} n 0))) i 0 ≡ get_or (replicate {A = ℕ} m 0) i 0
zeros_at n k m i within low =
    get_or-take m (drop k (replicate n 0)) i 0 low ∙ get_or-drop k (replicate n 0) i 0 ∙ get_or-replicate n (k + i) 0 0 (omega arith) ∙ sym (get_or-replicate m i 0 0 low)

pub part_zeros : (n k m : ℕ) → k + m ≤ n → part_of (zeros n) k m ≡ zeros m
unfolding part_of zeros
part_zeros n k m within =
    let many : length (take m (drop k (replicate {A = ℕ} n 0))) ≡ m = length-take-le m (drop k (replicate n 0)) (omega (arith, length-drop k (replicate {A = ℕ} n 0), length-replicate {A = ℕ} n 0)) in
    ext_get_or 0 (take m (drop k (replicate n 0))) (replicate m 0) (many ∙ sym (length-replicate m 0)) (λ i lt. zeros_at n k m i within (subst (λ (x : ℕ). i < x) many lt))

pub part_all : (xs : List ℕ) (n : ℕ) → length xs ≡ n → part_of xs 0 n ≡ xs
unfolding part_of
part_all xs n is = take_all n xs (omega arith)
