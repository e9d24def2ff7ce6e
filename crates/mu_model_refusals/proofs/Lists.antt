-- A list of octets is the patterns of some numbers, or has a first bad one.
use Rattle.std.proofs.Common.{◌≡◌, ℕ, zero, suc, ◌+◌, ◌-◌, ◌≤◌, ◌<◌, ◌↔◌, ◌⊎◌, Bool, true, false, IsTrue, get_or, List, [], ◌∷◌, ◌++◌, length, take, drop, Option, Some, None, refl, sym, ap, subst, ◌∙◌, arith, inl, inr, length-append, length-drop, take-add, rules}
use Rattle.std.proofs.lemmas.Bool.{cases_lt}
use Rattle.std.proofs.lemmas.List.{take_at, take-append-drop, length-take-le, drop_at, get_or-take, get_or-drop, get_or_append_left, drop-drop}
use Rattle.mu_model_wire.specs.Patterns.{pattern_length, pattern_number, pattern_spelling, IsPattern, IsList, IsListFault, ShortestPatternIsThePattern, PatternIsRead}

abbrev pub ListOrFault : List ℕ → Type 0
ListOrFault octets = ((numbers : List ℕ) × IsList octets numbers) ⊎ ((at : ℕ) × (cut : Bool) × IsListFault octets at cut)

empty_list : IsList [] []
empty_list = record { numbers_fit = search rules; spelled = refl }

-- a pattern in front of a list
one_more : ShortestPatternIsThePattern → (octets : List ℕ) (k n : ℕ) (numbers : List ℕ) → IsPattern (take k octets) n → IsList (drop k octets) numbers → IsList octets (n ∷ numbers)
one_more shortest octets k n numbers is list =
    let s = (shortest (take k octets) n).0 is in
    let front : octets ≡ pattern_spelling n ++ drop k octets = sym (take-append-drop k octets) ∙ ap (λ xs. xs ++ drop k octets) s.1 in
    record {
      numbers_fit = grind (arith, s.0, list.numbers_fit);
      spelled = front ∙ ap (λ xs. pattern_spelling n ++ xs) list.spelled;
    }

-- what stands at the beginning of octets that begin with no pattern
record BeginsBad (octets : List ℕ) (cut : Bool) : Type 0 where
  some : 0 < length octets
  none : (pattern others : List ℕ) (n : ℕ) → octets ≡ pattern ++ others → IsPattern pattern n → ⊥
  cut_short : IsTrue cut ↔ (length octets < pattern_length (get_or octets 0 0))

fault_here : (octets : List ℕ) (cut : Bool) → BeginsBad octets cut → IsListFault octets 0 cut
fault_here octets cut bad = record {
  before = ([], empty_list);
  within = bad.some;
  bad = bad.none;
  cut_short = (λ h. let few = bad.cut_short.0 h in omega (arith, few), λ h. bad.cut_short.1 (omega (arith, h)));
}

some_octets : (p : List ℕ) (n : ℕ) → IsPattern p n → 0 < length p
some_octets [] n h = absurd h
some_octets (a ∷ p) n h = omega arith

-- the pattern that octets begin with has as many as the first one announces
front_pattern : PatternIsRead → (octets pattern others : List ℕ) (n : ℕ) → octets ≡ pattern ++ others → IsPattern pattern n
    → (length pattern ≡ pattern_length (get_or octets 0 0)) × (pattern_number pattern ≡ Some n)
front_pattern read octets pattern others n e is =
    let r = (read pattern n).0 is in
    let first : get_or octets 0 0 ≡ get_or pattern 0 0 = ap (λ (xs : List ℕ). get_or xs 0 0) e ∙ get_or_append_left pattern others 0 0 (some_octets pattern n is) in
    (r.0 ∙ ap pattern_length (sym first), r.1)

cut_off : PatternIsRead → (octets : List ℕ) → 0 < length octets → length octets < pattern_length (get_or octets 0 0) → BeginsBad octets true
cut_off read octets some few = record {
  some = some;
  none = λ pattern others n e is.
      let f = front_pattern read octets pattern others n e is in
      let c : length octets ≡ length pattern + length others = ap (length {A = ℕ}) e ∙ length-append pattern others in
      let long = f.0 in
      let never : ⊥ = omega (arith, few, c, long) in never;
  cut_short = (λ h. few, λ h. refl);
}

no_number : PatternIsRead → (octets : List ℕ) → 0 < length octets → pattern_length (get_or octets 0 0) ≤ length octets → pattern_number (take (pattern_length (get_or octets 0 0)) octets) ≡ None → BeginsBad octets false
no_number read octets some enough nothing = record {
  some = some;
  none = λ pattern others n e is.
      let f = front_pattern read octets pattern others n e is in
      let front : take (pattern_length (get_or octets 0 0)) octets ≡ pattern = ap (λ xs. take (pattern_length (get_or octets 0 0)) xs) e ∙ take_at pattern others (pattern_length (get_or octets 0 0)) f.0 in
      let no : None ≡ Some n = sym nothing ∙ ap pattern_number front ∙ f.1 in absurd cc;
  cut_short = (λ h. absurd (let no : false ≡ true = h in cc), λ few. absurd (let never : ⊥ = omega (arith, few, enough) in never));
}

-- a fault behind a pattern
fault_behind : ShortestPatternIsThePattern → (octets : List ℕ) (k n at : ℕ) (cut : Bool) → k ≤ length octets → IsPattern (take k octets) n → IsListFault (drop k octets) at cut → IsListFault octets (k + at) cut
fault_behind shortest octets k n at cut enough is fault =
    let m : length (drop k octets) ≡ length octets - k = length-drop k octets in
    let place : drop (k + at) octets ≡ drop at (drop k octets) = sym (drop-drop at k octets) in
    let front : take (k + at) octets ≡ take k octets ++ take at (drop k octets) = take-add k at octets in
    let kept : take k (take (k + at) octets) ≡ take k octets = ap (take k) front ∙ take_at (take k octets) (take at (drop k octets)) k (length-take-le k octets enough) in
    let rest : drop k (take (k + at) octets) ≡ take at (drop k octets) = ap (drop k) front ∙ drop_at (take k octets) (take at (drop k octets)) k (length-take-le k octets enough) in
    let first : get_or octets (k + at) 0 ≡ get_or (drop k octets) at 0 = sym (get_or-drop k octets at 0) in
    let within = fault.within in
    record {
      before = (n ∷ fault.before.0, one_more shortest (take (k + at) octets) k n fault.before.0 (subst (λ xs. IsPattern xs n) (sym kept) is) (subst (λ xs. IsList xs fault.before.0) (sym rest) fault.before.1));
      within = omega (arith, m, within, enough);
      bad = λ pattern others v e h. fault.bad pattern others v (sym place ∙ e) h;
      cut_short = (λ h. let few = fault.cut_short.0 h in rw first (omega (arith, few, m, enough)), λ h. fault.cut_short.1 (let few : length octets < k + at + pattern_length (get_or (drop k octets) at 0) = rw first at h in omega (arith, few, m, enough)));
    }

front_is : PatternIsRead → (octets : List ℕ) (n k : ℕ) → pattern_length (get_or octets 0 0) ≡ k → k ≤ length octets → pattern_number (take k octets) ≡ Some n → IsPattern (take k octets) n
front_is read octets n zero size enough is = absurd (let no : None ≡ Some n = is in cc)
front_is read octets n (suc k) size enough is =
    (read (take (suc k) octets) n).1 (length-take-le (suc k) octets enough ∙ sym size ∙ ap pattern_length (sym (get_or-take (suc k) octets 0 0 (omega arith))), is)

judged : PatternIsRead → ShortestPatternIsThePattern → (octets : List ℕ) (k : ℕ) → 0 < length octets → pattern_length (get_or octets 0 0) ≡ k → k ≤ length octets
    → ListOrFault (drop k octets) → (o : Option ℕ) → pattern_number (take k octets) ≡ o → ListOrFault octets
judged read shortest octets k some size enough more None is =
    let here : pattern_number (take (pattern_length (get_or octets 0 0)) octets) ≡ None = ap (λ j. pattern_number (take j octets)) size ∙ is in
    inr (0, false, fault_here octets false (no_number read octets some (omega (arith, size, enough)) here))
judged read shortest octets k some size enough more (Some n) is =
    let pattern = front_is read octets n k size enough is in
    elim more [
      | inl h ↦ inl (n ∷ h.0, one_more shortest octets k n h.0 pattern h.1)
      | inr h ↦ inr (k + h.0, h.1, fault_behind shortest octets k n h.0 h.1 enough pattern h.2)
    ]

by_size : PatternIsRead → ShortestPatternIsThePattern → (fuel : ℕ) → ((xs : List ℕ) → length xs ≤ fuel → ListOrFault xs) → (octets : List ℕ) (k : ℕ) → 0 < length octets → length octets ≤ suc fuel
    → pattern_length (get_or octets 0 0) ≡ k → k ≤ length octets → ListOrFault octets
by_size read shortest fuel again octets zero some few size enough =
    let here : pattern_number (take (pattern_length (get_or octets 0 0)) octets) ≡ None = ap (λ j. pattern_number (take j octets)) size in
    inr (0, false, fault_here octets false (no_number read octets some (omega (arith, size)) here))
by_size read shortest fuel again octets (suc k) some few size enough =
    let m : length (drop (suc k) octets) ≡ length octets - suc k = length-drop (suc k) octets in
    judged read shortest octets (suc k) some size enough (again (drop (suc k) octets) (omega (arith, m, few))) (pattern_number (take (suc k) octets)) refl

list_within : PatternIsRead → ShortestPatternIsThePattern → (fuel : ℕ) (octets : List ℕ) → length octets ≤ fuel → ListOrFault octets
list_within read shortest fuel [] few = inl ([], empty_list)
list_within read shortest zero (a ∷ rest) few = absurd (let never : ⊥ = omega (arith, few) in never)
list_within read shortest (suc fuel) (a ∷ rest) few = elim (cases_lt (length (a ∷ rest)) (pattern_length a)) [
  | inl lacks ↦ inr (0, true, fault_here (a ∷ rest) true (cut_off read (a ∷ rest) (omega arith) lacks))
  | inr enough ↦ by_size read shortest fuel (list_within read shortest fuel) (a ∷ rest) (pattern_length a) (omega arith) few refl enough
]

pub list_or_fault : PatternIsRead → ShortestPatternIsThePattern → (octets : List ℕ) → ListOrFault octets
list_or_fault read shortest octets = list_within read shortest (length octets) octets (omega arith)
