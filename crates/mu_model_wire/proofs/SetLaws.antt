-- Sets of numbers below a bound.
use Rattle.std.proofs.Common.{◌≡◌, ℕ, zero, suc, ◌+◌, ◌<◌, Bool, true, false, cond, not, ◌||◌, [], ◌∷◌, length, refl, sym, ap, ◌∙◌, arith, add-one, length-append}
use Rattle.std.specs.List.{range_with_len, filter}
use Rattle.std.specs.List.Sorted.{IsStrictlyIncreasing}
use Rattle.std.proofs.lemmas.List.{get_or-map, length-map}
use Rattle.std.proofs.lemmas.List.Kept.{IsStrictlyIncreasing-filter}
use Rattle.std.proofs.lemmas.List.FromFn.{length-range_with_len, get_or-range_with_len, get_or-map-range_with_len}
use Rattle.mu_model_wire.specs.Reports.{has, members, complement, MembersAreThose, MembersRise, ComplementHasTheOthers, ComplementHasTheRest, UnionHasBoth}
use Rattle.mu_model_wire.proofs.ReportLaws.{member, filter_more}

pub are_those : MembersAreThose
are_those = member

rises : (n : ℕ) → IsStrictlyIncreasing (range_with_len 0 n)
rises n k h =
    let long = length-range_with_len 0 n in
    omega (arith, get_or-range_with_len 0 n k 0 (omega arith), get_or-range_with_len 0 n (k + 1) 0 (omega arith))

pub rise : MembersRise
rise set = IsStrictlyIncreasing-filter (has set) (range_with_len 0 (length set)) (rises (length set))

pub others : ComplementHasTheOthers
others set k h = get_or-map not set k false false h

pub both : UnionHasBoth
both set other k h = get_or-map-range_with_len (λ (i : ℕ). has set i || has other i) 0 (length set) k k false h (omega arith)

-- how many numbers below n pass
passing : (ℕ → Bool) → ℕ → ℕ
passing p n = length (filter p (range_with_len 0 n))

length_one : (b : Bool) (n : ℕ) → length (cond b (n ∷ []) []) ≡ cond b 1 0
length_one true n = refl
length_one false n = refl

more : (p : ℕ → Bool) (n : ℕ) → passing p (suc n) ≡ passing p n + cond (p n) 1 0
unfolding passing
more p n =
    ap (λ (m : ℕ). length (filter p (range_with_len 0 m))) (sym (add-one n)) ∙ ap (length {A = ℕ}) (filter_more p n)
    ∙ length-append (filter p (range_with_len 0 n)) (cond (p n) (n ∷ []) []) ∙ ap (λ (k : ℕ). length (filter p (range_with_len 0 n)) + k) (length_one (p n) n)

one_of_two : (a b : Bool) → b ≡ not a → cond {A = ℕ} a 1 0 + cond {A = ℕ} b 1 0 ≡ 1
one_of_two true true e = absurd cc
one_of_two true false e = refl
one_of_two false true e = refl
one_of_two false false e = absurd cc

split : (p q : ℕ → Bool) (n : ℕ) → ((k : ℕ) → k < n → q k ≡ not (p k)) → passing p n + passing q n ≡ n
unfolding passing
split p q zero each = refl
split p q (suc n) each =
    omega (arith, more p n, more q n, split p q n (λ k h. each k (omega arith)), one_of_two (p n) (q n) (each n (omega arith)))

pub rest : ComplementHasTheRest
unfolding passing
rest set =
    ap (λ (n : ℕ). length (members set) + passing (has (complement set)) n) (length-map set not)
    ∙ split (has set) (has (complement set)) (length set) (others set)
