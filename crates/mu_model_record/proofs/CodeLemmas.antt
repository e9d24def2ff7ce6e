-- Coded lists, and what a torn erase or program makes of them.
use Rattle.std.proofs.Common.{◌≡◌, ◌⊎◌, inl, inr, ⊎_elim, ℕ, zero, suc, ◌+◌, ◌-◌, ◌*◌, ◌<◌, List, [], ◌∷◌, ◌++◌, length, take, drop, get_or, refl, sym, ◌∙◌, ap, subst, arith, append_assoc}
use Rattle.std.proofs.lemmas.Bool.{cases_eq}
use Rattle.std.proofs.lemmas.List.{take_more, take_more_set}
use Rattle.std.proofs.Math.ListN.{set, length-set}
use Rattle.mu_model_flash.specs.Bits.{AreOctets, IsMixOf}
use Rattle.mu_model_record.specs.Code.{coded, content_of, IsCodeWord, HasPairOfOnes, IsSafe, Fades}
use Rattle.mu_model_record.proofs.CodeBits.{pair_or_ones, ones_stay, never_pair}

pub length-coded : (xs : List ℕ) → length (coded xs) ≡ 2 * length xs
length-coded [] = refl
length-coded (x ∷ xs) = omega (arith, length-coded xs)

pub coded-append : (xs ys : List ℕ) → coded (xs ++ ys) ≡ coded xs ++ coded ys
coded-append [] ys = refl
coded-append (x ∷ xs) ys = ap (λ (l : List ℕ). x ∷ (255 - x) ∷ l) (coded-append xs ys)

pub coded_is : (xs : List ℕ) → AreOctets xs → IsCodeWord (coded xs)
coded_is [] small = tt
coded_is (x ∷ xs) small = (omega (arith, small 0), coded_is xs (λ i. small (suc i)))

pub content-coded : (xs : List ℕ) → content_of (coded xs) ≡ xs
content-coded [] = refl
content-coded (x ∷ xs) = ap (λ (l : List ℕ). x ∷ l) (content-coded xs)

pub coded-content : (word : List ℕ) → IsCodeWord word → coded (content_of word) ≡ word
coded-content [] is = refl
coded-content (x ∷ []) is = absurd is
coded-content (x ∷ y ∷ rest) is =
    let other : 255 - x ≡ y = omega (arith, is.0) in
    λ i. x ∷ other i ∷ coded-content rest is.1 i

-- a list is a code word or not
pub code_or_not : (word : List ℕ) → IsCodeWord word ⊎ ¬ IsCodeWord word
code_or_not [] = inl tt
code_or_not (x ∷ []) = inr (λ is. is)
code_or_not (x ∷ y ∷ rest) = ⊎_elim
    (λ sum. ⊎_elim (λ more. inl (sum, more)) (λ not_more. inr (λ is. not_more is.1)) (code_or_not rest))
    (λ not_sum. inr (λ is. not_sum is.0))
    (cases_eq (x + y) 255)

-- each octet has its bits or ones
abbrev pub Raised : List ℕ → List ℕ → Type 0
Raised [] [] = Unit {0}
Raised (x ∷ xs) (g ∷ gs) = IsMixOf x 255 g × Raised xs gs
Raised [] (g ∷ gs) = ⊥
Raised (x ∷ xs) [] = ⊥

pub raised_from : (xs gs : List ℕ) → length gs ≡ length xs → ((i : ℕ) → i < length xs → IsMixOf (get_or xs i 0) 255 (get_or gs i 0)) → Raised xs gs
raised_from [] [] same each = tt
raised_from [] (g ∷ gs) same each = absurd (omega (arith, same))
raised_from (x ∷ xs) [] same each = absurd (omega (arith, same))
raised_from (x ∷ xs) (g ∷ gs) same each = (each 0 (omega arith), raised_from xs gs (omega (arith, same)) (λ i lt. each (suc i) (omega (arith, lt))))

pub raised_code : (xs gs : List ℕ) → IsCodeWord xs → Raised xs gs → (gs ≡ xs) ⊎ HasPairOfOnes gs
raised_code [] [] is r = inl refl
raised_code [] (g ∷ gs) is r = absurd r
raised_code (x ∷ []) gs is r = absurd is
raised_code (x ∷ y ∷ xs) [] is r = absurd r
raised_code (x ∷ y ∷ xs) (g ∷ []) is r = absurd r.1
raised_code (x ∷ y ∷ xs) (g ∷ h ∷ gs) is r = ⊎_elim
    (λ same. ⊎_elim (λ rest. inl (λ i. same.0 i ∷ same.1 i ∷ rest i)) (λ has. inr (inr has)) (raised_code xs gs is.1 r.1.1))
    (λ ones. inr (inl ones))
    (pair_or_ones x y g h is.0 r.0 r.1.0)

pub raised_ones : (xs gs : List ℕ) → HasPairOfOnes xs → Raised xs gs → HasPairOfOnes gs
raised_ones [] gs has r = absurd has
raised_ones (x ∷ []) gs has r = absurd has
raised_ones (x ∷ y ∷ xs) [] has r = absurd r
raised_ones (x ∷ y ∷ xs) (g ∷ []) has r = absurd r.1
raised_ones (x ∷ y ∷ xs) (g ∷ h ∷ gs) (inl here) r = let stay = ones_stay x y g h here.0 here.1 here.2 here.3 r.0 r.1.0 in inl (here.0, here.1, stay.0, stay.1)
raised_ones (x ∷ y ∷ xs) (g ∷ h ∷ gs) (inr there) r = inr (raised_ones xs gs there r.1.1)

-- a torn erase leaves a safe word as it was, or with a pair of ones
pub raised_safe : (xs gs : List ℕ) → IsSafe xs → Raised xs gs → Fades xs gs
raised_safe xs gs (inl is) r = raised_code xs gs is r
raised_safe xs gs (inr has) r = inr (raised_ones xs gs has r)

-- and then it is no code word that it wasn't
pub ones_no_code : (xs : List ℕ) → HasPairOfOnes xs → IsCodeWord xs → ⊥
ones_no_code [] has is = has
ones_no_code (x ∷ []) has is = has
ones_no_code (x ∷ y ∷ xs) (inl here) is = never_pair x y x y here.0 here.1 here.2 here.3 (λ k. inl refl) (λ k. inl refl) is.0
ones_no_code (x ∷ y ∷ xs) (inr there) is = ones_no_code xs there is.1

-- octets that begin with a pair of FF
pub ones_first : (xs : List ℕ) → HasPairOfOnes (255 ∷ 255 ∷ xs)
ones_first xs = inl (0, omega arith, refl, refl)

-- one pair more
pub coded_more : (page xs : List ℕ) (i x : ℕ) → length page ≡ 2 * length xs → i < length xs → x ≡ get_or xs i 0 → take (2 * i) page ≡ coded (take i xs)
    → take (2 * (i + 1)) (set (set page (2 * i) x) (2 * i + 1) (255 - x)) ≡ coded (take (i + 1) xs)
coded_more page xs i x size lt is so_far =
    let e : 2 * (i + 1) ≡ 2 * i + 1 + 1 = omega arith in
    let second = take_more_set (set page (2 * i) x) (2 * i + 1) (255 - x) (omega (arith, length-set page (2 * i) x, size, lt)) in
    let first = take_more_set page (2 * i) x (omega (arith, size, lt)) in
    let more = take_more xs i 0 lt in
    let pair : get_or xs i 0 ∷ [] ≡ x ∷ [] = ap (λ (n : ℕ). n ∷ []) (sym is) in
    ap (λ (n : ℕ). take n (set (set page (2 * i) x) (2 * i + 1) (255 - x))) e ∙ second
    ∙ ap (λ (l : List ℕ). l ++ (255 - x) ∷ []) (first ∙ ap (λ (l : List ℕ). l ++ x ∷ []) so_far)
    ∙ append_assoc (coded (take i xs)) (x ∷ []) ((255 - x) ∷ [])
    ∙ sym (coded-append (take i xs) (x ∷ []))
    ∙ ap (λ (l : List ℕ). coded (take i xs ++ l)) (sym pair)
    ∙ ap coded (sym more)

-- a code word, pair by pair
pub code_pairs : (word : List ℕ) (n : ℕ) → length word ≡ 2 * n → ((i : ℕ) → i < n → get_or word (2 * i) 0 + get_or word (2 * i + 1) 0 ≡ 255) → IsCodeWord word
code_pairs [] n size each = tt
code_pairs (x ∷ []) n size each = absurd (omega (arith, size))
code_pairs (x ∷ y ∷ rest) zero size each = absurd (omega (arith, size))
code_pairs (x ∷ y ∷ rest) (suc n) size each = (each 0 (omega arith), code_pairs rest n (omega (arith, size)) (λ i lt. shift i (each (suc i) (omega (arith, lt)))))
  where
    shift : (i : ℕ) → get_or (x ∷ y ∷ rest) (2 * suc i) 0 + get_or (x ∷ y ∷ rest) (2 * suc i + 1) 0 ≡ 255 → get_or rest (2 * i) 0 + get_or rest (2 * i + 1) 0 ≡ 255
    shift i sum =
        let even : 2 * suc i ≡ suc (suc (2 * i)) = omega arith in
        let odd : 2 * suc i + 1 ≡ suc (suc (2 * i + 1)) = omega arith in
        ap (λ (k : ℕ). get_or (x ∷ y ∷ rest) k 0 + get_or (x ∷ y ∷ rest) (suc (suc (2 * i + 1))) 0) (sym even)
        ∙ ap (λ (k : ℕ). get_or (x ∷ y ∷ rest) (2 * suc i) 0 + get_or (x ∷ y ∷ rest) k 0) (sym odd)
        ∙ sum

pub pair_of_code : (word : List ℕ) (i : ℕ) → IsCodeWord word → 2 * i < length word → get_or word (2 * i) 0 + get_or word (2 * i + 1) 0 ≡ 255
pair_of_code [] i is lt = absurd (omega (arith, lt))
pair_of_code (x ∷ []) i is lt = absurd is
pair_of_code (x ∷ y ∷ rest) zero is lt = is.0
pair_of_code (x ∷ y ∷ rest) (suc i) is lt =
    let even : 2 * suc i ≡ suc (suc (2 * i)) = omega arith in
    let odd : 2 * suc i + 1 ≡ suc (suc (2 * i + 1)) = omega arith in
    ap (λ (k : ℕ). get_or (x ∷ y ∷ rest) k 0 + get_or (x ∷ y ∷ rest) (2 * suc i + 1) 0) even
    ∙ ap (λ (k : ℕ). get_or (x ∷ y ∷ rest) (suc (suc (2 * i))) 0 + get_or (x ∷ y ∷ rest) k 0) odd
    ∙ pair_of_code rest i is.1 (omega (arith, lt))

pub length-content : (word : List ℕ) (n : ℕ) → length word ≡ 2 * n → length (content_of word) ≡ n
length-content [] n size = omega (arith, size)
length-content (x ∷ []) n size = absurd (omega (arith, size))
length-content (x ∷ y ∷ rest) zero size = absurd (omega (arith, size))
length-content (x ∷ y ∷ rest) (suc n) size = let more = length-content rest n (omega (arith, size)) in omega (arith, more)

pub get-content : (word : List ℕ) (i n : ℕ) → length word ≡ 2 * n → i < n → get_or (content_of word) i 0 ≡ get_or word (2 * i) 0
get-content [] i n size lt = absurd (omega (arith, size, lt))
get-content (x ∷ []) i n size lt = absurd (omega (arith, size))
get-content (x ∷ y ∷ rest) i zero size lt = absurd (omega (arith, lt))
get-content (x ∷ y ∷ rest) zero (suc n) size lt = refl
get-content (x ∷ y ∷ rest) (suc i) (suc n) size lt =
    let even : 2 * suc i ≡ suc (suc (2 * i)) = omega arith in
    get-content rest i n (omega (arith, size)) (omega (arith, lt)) ∙ ap (λ (k : ℕ). get_or (x ∷ y ∷ rest) k 0) (sym even)

-- the coded octets of a part
pub drop-coded : (xs : List ℕ) (n : ℕ) → drop (2 * n) (coded xs) ≡ coded (drop n xs)
drop-coded xs zero = refl
drop-coded [] (suc n) = let e : 2 * suc n ≡ suc (suc (2 * n)) = omega arith in ap (λ (k : ℕ). drop k (coded [])) e
drop-coded (x ∷ xs) (suc n) = let e : 2 * suc n ≡ suc (suc (2 * n)) = omega arith in ap (λ (k : ℕ). drop k (coded (x ∷ xs))) e ∙ drop-coded xs n

pub take-coded : (xs : List ℕ) (n : ℕ) → take (2 * n) (coded xs) ≡ coded (take n xs)
take-coded xs zero = refl
take-coded [] (suc n) = let e : 2 * suc n ≡ suc (suc (2 * n)) = omega arith in ap (λ (k : ℕ). take k (coded [])) e
take-coded (x ∷ xs) (suc n) = let e : 2 * suc n ≡ suc (suc (2 * n)) = omega arith in ap (λ (k : ℕ). take k (coded (x ∷ xs))) e ∙ ap (λ (l : List ℕ). x ∷ (255 - x) ∷ l) (take-coded xs n)

-- a part of a code word that begins and ends at even places
pub drop_code : (word : List ℕ) (n : ℕ) → IsCodeWord word → IsCodeWord (drop (2 * n) word)
drop_code word zero is = is
drop_code [] (suc n) is = let e : 2 * suc n ≡ suc (suc (2 * n)) = omega arith in subst (λ (k : ℕ). IsCodeWord (drop k [])) (sym e) tt
drop_code (x ∷ []) (suc n) is = absurd is
drop_code (x ∷ y ∷ rest) (suc n) is = let e : 2 * suc n ≡ suc (suc (2 * n)) = omega arith in subst (λ (k : ℕ). IsCodeWord (drop k (x ∷ y ∷ rest))) (sym e) (drop_code rest n is.1)

pub take_code : (word : List ℕ) (n : ℕ) → IsCodeWord word → IsCodeWord (take (2 * n) word)
take_code word zero is = tt
take_code [] (suc n) is = let e : 2 * suc n ≡ suc (suc (2 * n)) = omega arith in subst (λ (k : ℕ). IsCodeWord (take k [])) (sym e) tt
take_code (x ∷ []) (suc n) is = absurd is
take_code (x ∷ y ∷ rest) (suc n) is = let e : 2 * suc n ≡ suc (suc (2 * n)) = omega arith in subst (λ (k : ℕ). IsCodeWord (take k (x ∷ y ∷ rest))) (sym e) (is.0, take_code rest n is.1)

-- a pair of ones in a part
pub drop_ones : (word : List ℕ) (n : ℕ) → HasPairOfOnes (drop (2 * n) word) → HasPairOfOnes word
drop_ones word zero has = has
drop_ones [] (suc n) has = let e : 2 * suc n ≡ suc (suc (2 * n)) = omega arith in absurd (subst (λ (k : ℕ). HasPairOfOnes (drop k [])) e has)
drop_ones (x ∷ []) (suc n) has =
    let e : 2 * suc n ≡ suc (suc (2 * n)) = omega arith in
    absurd (none (2 * n) (subst (λ (k : ℕ). HasPairOfOnes (drop k (x ∷ []))) e has))
  where
    none : (k : ℕ) → HasPairOfOnes (drop (suc k) []) → ⊥
    none k h = h
drop_ones (x ∷ y ∷ rest) (suc n) has = let e : 2 * suc n ≡ suc (suc (2 * n)) = omega arith in inr (drop_ones rest n (subst (λ (k : ℕ). HasPairOfOnes (drop k (x ∷ y ∷ rest))) e has))

pub take_ones : (n : ℕ) (word : List ℕ) → HasPairOfOnes (take n word) → HasPairOfOnes word
take_ones zero word has = absurd has
take_ones (suc n) [] has = absurd has
take_ones (suc zero) (x ∷ word) has = absurd has
take_ones (suc (suc n)) (x ∷ []) has = absurd has
take_ones (suc (suc n)) (x ∷ y ∷ rest) (inl here) = inl here
take_ones (suc (suc n)) (x ∷ y ∷ rest) (inr there) = inr (take_ones n rest there)
