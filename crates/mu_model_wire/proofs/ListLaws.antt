-- Lists of number patterns, by their rule and as the grammar reads them.
use Rattle.std.proofs.Common.{◌≡◌, ℕ, zero, suc, ◌+◌, ◌^◌, ◌≤◌, ◌<◌, ◌↔◌, Bool, true, false, IsTrue, eqb, cond, get_or, List, [], ◌∷◌, ◌++◌, length, take, drop, map, Option, Some, None, Result, Ok, Err, refl, sym, ap, subst, ◌∙◌, arith, inl, inr, append_assoc, length-append, length-drop}
use Rattle.std.specs.List.{All}
use Rattle.std.proofs.lemmas.Bool.{lt-ltb, le-ltb, cases_lt, false≢true, ne_eqb}
use Rattle.std.proofs.lemmas.List.{take_at, drop_at, take-append-drop, get_or-take, get_or-drop, get_or_append_left, length-take-le}
use Rattle.std.proofs.lemmas.List.Elements.{All-head, All-tail}
use Rattle.mu_model_wire.specs.declared.Refusal.{Refusal}
use Rattle.mu_model_wire.specs.declared.Why.{Why}
use Rattle.mu_model_wire.specs.declared.Why.TheVariants.{Short, Value}
use Rattle.mu_model_wire.specs.Patterns.{pattern_length, pattern_number, pattern_spelling, IsPattern, list_spelling, IsListFault}
use Rattle.mu_model_wire.specs.Fields.{pattern, number, Shown}
use Rattle.mu_model_wire.specs.Reading.{◌>>=◌, Left, after, refuse, word_at, octets_at, pattern_at, or_value, entries_at}
use Rattle.mu_model_wire.specs.Reports.{shown_numbers, ListsAreRead, ListsHaveNoFault, ListFaultsAreOne, GrammarReadsLists, GrammarRefusesLists}
use Rattle.mu_model_wire.proofs.PatternLaws.{shortest, read}

-- ---- one pattern

word_first : (left : Left) → 0 < length left.octets → word_at 1 left ≡ Ok (get_or left.octets 0 0, after 1 left)
unfolding word_at
word_first left some = rw (le-ltb (length left.octets) 1 some) (ap (λ (n : ℕ). Ok (n, after 1 left)) (omega arith))

octets_there : (k : ℕ) (left : Left) → k ≤ length left.octets → octets_at k left ≡ Ok (take k left.octets, after k left)
unfolding octets_at
octets_there k left enough = rw (le-ltb (length left.octets) k enough) refl

octets_lack : (k : ℕ) (left : Left) → length left.octets < k → octets_at k left ≡ refuse left.at Short
unfolding octets_at
octets_lack k left few = rw (lt-ltb (length left.octets) k few) refl

-- the pattern that stands there
pub pattern_is : (left : Left) (r : Result (List ℕ × Left) Refusal) → 0 < length left.octets
    → octets_at (pattern_length (get_or left.octets 0 0)) left ≡ r
    → pattern_at left ≡ (r >>= λ taken. or_value left.at (pattern_number taken.0) taken.1)
unfolding pattern_at
pattern_is left r some e = rw (word_first left some, e) refl

some_octets : (p : List ℕ) (n : ℕ) → IsPattern p n → 0 < length p
some_octets [] n h = absurd h
some_octets (a ∷ p) n h = omega arith

-- a pattern in front is read
good_at : (left : Left) (p others : List ℕ) (n : ℕ) → IsPattern p n → left.octets ≡ p ++ others → pattern_at left ≡ Ok (n, after (length p) left)
good_at left p others n is e =
    let some = some_octets p n is in
    let r = (read p n).0 is in
    let total : length left.octets ≡ length p + length others = ap (length {A = ℕ}) e ∙ length-append p others in
    let first : get_or left.octets 0 0 ≡ get_or p 0 0 = ap (λ (xs : List ℕ). get_or xs 0 0) e ∙ get_or_append_left p others 0 0 some in
    let k : pattern_length (get_or left.octets 0 0) ≡ length p = ap pattern_length first ∙ sym r.0 in
    let taken : take (length p) left.octets ≡ p = ap (λ (xs : List ℕ). take (length p) xs) e ∙ take_at p others (length p) refl in
    let there : octets_at (pattern_length (get_or left.octets 0 0)) left ≡ Ok (p, after (length p) left) =
    ap (λ (m : ℕ). octets_at m left) k ∙ octets_there (length p) left (omega arith) ∙ ap (λ (xs : List ℕ). Ok (xs, after (length p) left)) taken in
    pattern_is left (Ok (p, after (length p) left)) (omega arith) there ∙ rw r.1 refl

-- what stands there begins no pattern
record IsBad (octets : List ℕ) (cut : Bool) : Type 0 where
  some : 0 < length octets
  none : (p others : List ℕ) (n : ℕ) → octets ≡ p ++ others → IsPattern p n → ⊥
  cut_short : IsTrue cut ↔ (length octets < pattern_length (get_or octets 0 0))

value_none : (o : Option ℕ) (at : ℕ) (left : Left) → ((n : ℕ) → o ≡ Some n → ⊥) → or_value at o left ≡ refuse at Value
value_none None at left never = refl
value_none (Some n) at left never = absurd (never n refl)

no_pattern : (octets : List ℕ) (k n : ℕ) → k ≤ length octets → k ≡ pattern_length (get_or octets 0 0) → pattern_number (take k octets) ≡ Some n → IsPattern (take k octets) n
no_pattern octets zero n enough is e = absurd cc
no_pattern octets (suc k) n enough is e =
    (read (take (suc k) octets) n).1 (length-take-le (suc k) octets enough ∙ is ∙ ap pattern_length (sym (get_or-take (suc k) octets 0 0 (omega arith))), e)

bad_at : (left : Left) (cut : Bool) → IsBad left.octets cut → pattern_at left ≡ refuse left.at (cond cut Short Value)
bad_at left true bad =
    pattern_is left (refuse left.at Short) bad.some (octets_lack (pattern_length (get_or left.octets 0 0)) left (bad.cut_short.0 refl))
bad_at left false bad =
    let k = pattern_length (get_or left.octets 0 0) in
    let enough : k ≤ length left.octets = elim (cases_lt (length left.octets) k) [ inl few ↦ absurd (false≢true (bad.cut_short.1 few)) | inr enough ↦ enough ] in
    pattern_is left (Ok (take k left.octets, after k left)) bad.some (octets_there k left enough)
    ∙ value_none (pattern_number (take k left.octets)) left.at (after k left)
    (λ n e. bad.none (take k left.octets) (drop k left.octets) n (sym (take-append-drop k left.octets)) (no_pattern left.octets k n enough refl e))

-- ---- entries of one pattern

-- what is left isn't empty
filled : (left : Left) → 0 < length left.octets → eqb (length left.octets) 0 ≡ false
filled left some = ne_eqb (length left.octets) 0 (λ (e : length left.octets ≡ 0). omega arith)

one_more : (fuel name n : ℕ) (left next : Left) → 0 < length left.octets → pattern_at left ≡ Ok (n, next)
    → entries_at (suc fuel) (pattern name ∷ []) left ≡ (entries_at fuel (pattern name ∷ []) next >>= λ others. Ok ((number name n ∷ []) ∷ others))
one_more fuel name n left next some e = rw (filled left some, e) refl

no_more : (fuel name : ℕ) (left : Left) (why : Refusal) → 0 < length left.octets → pattern_at left ≡ Err why
    → entries_at (suc fuel) (pattern name ∷ []) left ≡ Err why
no_more fuel name left why some e = rw (filled left some, e) refl

done : (fuel name : ℕ) (left : Left) → left.octets ≡ [] → entries_at fuel (pattern name ∷ []) left ≡ Ok []
done zero name left e = refl
done (suc fuel) name left e = rw (ap (λ (xs : List ℕ). eqb (length xs) 0) e) refl

-- what numbers in front leave
pattern_of : (n : ℕ) → n < 2 ^ 16 → IsPattern (pattern_spelling n) n
pattern_of n fits = (shortest (pattern_spelling n) n).1 (fits, refl)

fuelled : (fuel n : ℕ) (P : ℕ → Type 0) → n ≤ fuel → 0 < n → ((less : ℕ) → n ≤ suc less → P (suc less)) → P fuel
fuelled zero n P enough some step = absurd (omega arith)
fuelled (suc fuel) n P enough some step = step fuel enough

all_read : (numbers : List ℕ) (name fuel : ℕ) (left : Left) → All (λ n. n < 2 ^ 16) numbers → left.octets ≡ list_spelling numbers → length left.octets ≤ fuel
    → entries_at fuel (pattern name ∷ []) left ≡ Ok (shown_numbers name numbers)
all_read [] name fuel left fit e enough = done fuel name left e
all_read (n ∷ ns) name fuel left fit e enough =
    let is = pattern_of n (All-head (λ (m : ℕ). m < 2 ^ 16) n ns fit) in
    let p = pattern_spelling n in
    let some = some_octets p n is in
    let total : length left.octets ≡ length p + length (list_spelling ns) = ap (length {A = ℕ}) e ∙ length-append p (list_spelling ns) in
    let rest : (after (length p) left).octets ≡ list_spelling ns = ap (λ (xs : List ℕ). drop (length p) xs) e ∙ drop_at p (list_spelling ns) (length p) refl in
    let short : length (after (length p) left).octets ≡ length (list_spelling ns) = ap (length {A = ℕ}) rest in
    fuelled fuel (length left.octets) (λ (f : ℕ). entries_at f (pattern name ∷ []) left ≡ Ok (shown_numbers name (n ∷ ns))) enough (omega arith)
    (λ (less : ℕ) (h : length left.octets ≤ suc less).
    one_more less name n left (after (length p) left) (omega arith) (good_at left p (list_spelling ns) n is e)
    ∙ ap (λ (r : Result (List (List Shown)) Refusal). r >>= λ others. Ok ((number name n ∷ []) ∷ others))
    (all_read ns name less (after (length p) left) (All-tail (λ (m : ℕ). m < 2 ^ 16) n ns fit) rest (omega arith)))

-- the refusal at a bad pattern behind numbers
refused : (numbers : List ℕ) (name fuel : ℕ) (left : Left) (others : List ℕ) (cut : Bool) → All (λ n. n < 2 ^ 16) numbers
    → left.octets ≡ list_spelling numbers ++ others → IsBad others cut → length left.octets ≤ fuel
    → entries_at fuel (pattern name ∷ []) left ≡ refuse (left.at + length (list_spelling numbers)) (cond cut Short Value)
refused [] name fuel left others cut fit e bad enough =
    let here : IsBad left.octets cut = let P : List ℕ → Type 0 = λ xs. IsBad xs cut in subst P (sym e) bad in
    fuelled fuel (length left.octets) (λ (f : ℕ). entries_at f (pattern name ∷ []) left ≡ refuse (left.at + 0) (cond cut Short Value)) enough here.some
    (λ (less : ℕ) (h : length left.octets ≤ suc less).
    no_more less name left (record { at = left.at; why = cond cut Short Value }) here.some (bad_at left cut here)
    ∙ ap (λ (at : ℕ). refuse at (cond cut Short Value)) (omega arith))
refused (n ∷ ns) name fuel left others cut fit e bad enough =
    let is = pattern_of n (All-head (λ (m : ℕ). m < 2 ^ 16) n ns fit) in
    let p = pattern_spelling n in
    let some = some_octets p n is in
    let parts : left.octets ≡ p ++ (list_spelling ns ++ others) = e ∙ append_assoc p (list_spelling ns) others in
    let total : length left.octets ≡ length p + length (list_spelling ns ++ others) = ap (length {A = ℕ}) parts ∙ length-append p (list_spelling ns ++ others) in
    let rest : (after (length p) left).octets ≡ list_spelling ns ++ others = ap (λ (xs : List ℕ). drop (length p) xs) parts ∙ drop_at p (list_spelling ns ++ others) (length p) refl in
    let short : length (after (length p) left).octets ≡ length (list_spelling ns ++ others) = ap (length {A = ℕ}) rest in
    let place : left.at + length p + length (list_spelling ns) ≡ left.at + length (list_spelling (n ∷ ns)) = omega (arith, length-append p (list_spelling ns)) in
    fuelled fuel (length left.octets) (λ (f : ℕ). entries_at f (pattern name ∷ []) left ≡ refuse (left.at + length (list_spelling (n ∷ ns))) (cond cut Short Value)) enough (omega arith)
    (λ (less : ℕ) (h : length left.octets ≤ suc less).
    one_more less name n left (after (length p) left) (omega arith) (good_at left p (list_spelling ns ++ others) n is parts)
    ∙ ap (λ (r : Result (List (List Shown)) Refusal). r >>= λ more. Ok ((number name n ∷ []) ∷ more))
    (refused ns name less (after (length p) left) others cut (All-tail (λ (m : ℕ). m < 2 ^ 16) n ns fit) rest bad (omega arith))
    ∙ ap (λ (at : ℕ). refuse at (cond cut Short Value)) place)

-- ---- the laws

pub grammar_reads : GrammarReadsLists
grammar_reads name left numbers is = all_read numbers name (length left.octets) left is.numbers_fit is.spelled (omega arith)

fault_is_bad : (octets : List ℕ) (at : ℕ) (cut : Bool) → IsListFault octets at cut → IsBad (drop at octets) cut
fault_is_bad octets at cut fault =
    let first : get_or (drop at octets) 0 0 ≡ get_or octets at 0 = get_or-drop at octets 0 0 ∙ ap (λ (i : ℕ). get_or octets i 0) (omega arith) in
    let k : pattern_length (get_or (drop at octets) 0 0) ≡ pattern_length (get_or octets at 0) = ap pattern_length first in
    let count = length-drop at octets in
    let inside = fault.within in
    record {
      some = omega arith;
      none = fault.bad;
      cut_short = (λ h. let few = fault.cut_short.0 h in omega arith, λ few. fault.cut_short.1 (omega arith));
    }

pub grammar_refuses : GrammarRefusesLists
grammar_refuses name left at cut fault =
    let numbers = fault.before.0 in
    let is = fault.before.1 in
    let inside = fault.within in
    let place : length (list_spelling numbers) ≡ at = ap (length {A = ℕ}) (sym is.spelled) ∙ length-take-le at left.octets (omega arith) in
    let parts : left.octets ≡ list_spelling numbers ++ drop at left.octets = sym (take-append-drop at left.octets) ∙ ap (λ (xs : List ℕ). xs ++ drop at left.octets) is.spelled in
    refused numbers name (length left.octets) left (drop at left.octets) cut is.numbers_fit parts (fault_is_bad left.octets at cut fault) (omega arith)
    ∙ ap (λ (n : ℕ). refuse (left.at + n) (cond cut Short Value)) place

first_number : List Shown → ℕ
first_number (number name n ∷ shown) = n
first_number _ = 0

shown_back : (name : ℕ) (numbers : List ℕ) → map first_number (shown_numbers name numbers) ≡ numbers
unfolding first_number
shown_back name [] = refl
shown_back name (n ∷ ns) = ap (λ (xs : List ℕ). n ∷ xs) (shown_back name ns)

pub one_list : ListsAreRead
one_list octets a b is other =
    let same = sym (grammar_reads 0 (record { at = 0; octets = octets }) a is) ∙ grammar_reads 0 (record { at = 0; octets = octets }) b other in
    let shown : shown_numbers 0 a ≡ shown_numbers 0 b = cc in
    sym (shown_back 0 a) ∙ ap (map first_number) shown ∙ shown_back 0 b

pub no_fault : ListsHaveNoFault
no_fault octets numbers at cut is fault =
    let same = sym (grammar_reads 0 (record { at = 0; octets = octets }) numbers is) ∙ grammar_refuses 0 (record { at = 0; octets = octets }) at cut fault in
    absurd cc

same_cut : (cut short : Bool) → cond cut Short Value ≡ cond short Short Value → cut ≡ short
same_cut true true e = refl
same_cut false false e = refl
same_cut true false e = absurd cc
same_cut false true e = absurd cc

abbrev place_of : Result (List (List Shown)) Refusal → ℕ
place_of (Ok x) = 0
place_of (Err refusal) = refusal.at

abbrev why_of : Result (List (List Shown)) Refusal → Why
why_of (Ok x) = Value
why_of (Err refusal) = refusal.why

pub one_fault : ListFaultsAreOne
one_fault octets at place cut short fault other =
    let same = sym (grammar_refuses 0 (record { at = 0; octets = octets }) at cut fault) ∙ grammar_refuses 0 (record { at = 0; octets = octets }) place short other in
    let places : 0 + at ≡ 0 + place = ap place_of same in
    let whys : cond cut Short Value ≡ cond short Short Value = ap why_of same in
    (omega arith, same_cut cut short whys)
