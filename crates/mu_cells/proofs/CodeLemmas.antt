-- The loops that put and take a code word pair by pair.
use Rattle.std.proofs.Common.{◌≡◌, ℕ, ◌+◌, ◌-◌, ◌*◌, ◌<◌, List, [], ◌∷◌, ◌++◌, length, take, get_or, sym, ◌∙◌, ap, arith, append_assoc, get_or-set_other, get_or-set_same}
use borrow.Author.Count.{below_more}
use Rattle.std.proofs.lemmas.List.{take_more, take_more_set}
use Rattle.std.proofs.Math.ListN.{set, length-set}
use Rattle.mu_model_record.specs.Code.{coded}
use Rattle.mu_model_record.specs.Laws.{OneOctetIsOnePair}

-- one pair more
pub coded_more : OneOctetIsOnePair → (word xs : List ℕ) (i x : ℕ) → length word ≡ 2 * length xs → i < length xs → x ≡ get_or xs i 0 → take (2 * i) word ≡ coded (take i xs)
    → take (2 * (i + 1)) (set (set word (2 * i) x) (2 * i + 1) (255 - x)) ≡ coded (take (i + 1) xs)
coded_more one_more word xs i x size lt is so_far =
    let e : 2 * (i + 1) ≡ 2 * i + 1 + 1 = omega arith in
    let second = take_more_set (set word (2 * i) x) (2 * i + 1) (255 - x) (omega (arith, length-set word (2 * i) x, size, lt)) in
    let first = take_more_set word (2 * i) x (omega (arith, size, lt)) in
    let more = take_more xs i 0 lt in
    ap (λ (n : ℕ). take n (set (set word (2 * i) x) (2 * i + 1) (255 - x))) e ∙ second
    ∙ ap (λ (l : List ℕ). l ++ (255 - x) ∷ []) (first ∙ ap (λ (l : List ℕ). l ++ x ∷ []) so_far)
    ∙ append_assoc (coded (take i xs)) (x ∷ []) ((255 - x) ∷ [])
    ∙ sym (one_more (take i xs) x)
    ∙ ap (λ (n : ℕ). coded (take i xs ++ n ∷ [])) is
    ∙ ap coded (sym more)

-- one octet more
pub taken_more : (word octets : List ℕ) (i : ℕ) → i < length octets → ((k : ℕ) → k < i → get_or octets k 0 ≡ get_or word (2 * k) 0)
    → (k : ℕ) → k < i + 1 → get_or (set octets i (get_or word (2 * i) 0)) k 0 ≡ get_or word (2 * k) 0
taken_more word octets i there so_far =
    below_more (λ (k : ℕ). get_or (set octets i (get_or word (2 * i) 0)) k 0 ≡ get_or word (2 * k) 0) i
    (λ k lt. get_or-set_other octets i k (get_or word (2 * i) 0) 0 (λ e. omega (arith, e, lt)) ∙ so_far k lt)
    (get_or-set_same octets i (get_or word (2 * i) 0) 0 there)
