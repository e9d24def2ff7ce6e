-- Steps of a list of number patterns.
use Rattle.std.proofs.Common.{◌≡◌, ℕ, zero, suc, ◌+◌, ◌^◌, ◌≤◌, ◌<◌, true, false, get_or, List, [], ◌∷◌, ◌++◌, length, take, drop, Some, None, refl, sym, ap, ◌∙◌, arith, length-append, length-drop}
use Rattle.std.proofs.Math.Seq.{take-add}
use Rattle.std.proofs.lemmas.List.{take-append-drop, append-nil, get_or-take, get_or-drop, length-take-le, take_at, get_or_append_left, take_more}
use Rattle.std.proofs.lemmas.List.Concat.{flat_map-append}
use Rattle.std.proofs.lemmas.List.Elements.{All-push, All-nil}
use Rattle.mu_model_wire.specs.Patterns.{pattern_length, pattern_number, pattern_spelling, IsPattern, list_spelling, IsList, IsListFault, ShortestPatternIsThePattern, PatternIsRead}

spelling_more : (numbers : List ℕ) (n : ℕ) → list_spelling (numbers ++ n ∷ []) ≡ list_spelling numbers ++ pattern_spelling n
spelling_more numbers n = flat_map-append pattern_spelling numbers (n ∷ []) ∙ ap (λ (xs : List ℕ). list_spelling numbers ++ xs) (append-nil (pattern_spelling n))

-- the spelling of some numbers is no longer than that of all
pub spelling_front : (numbers : List ℕ) (i : ℕ) → length (list_spelling (take i numbers)) ≤ length (list_spelling numbers)
spelling_front numbers i =
    let parts : list_spelling numbers ≡ list_spelling (take i numbers) ++ list_spelling (drop i numbers) =
    ap list_spelling (sym (take-append-drop i numbers)) ∙ flat_map-append pattern_spelling (take i numbers) (drop i numbers) in
    omega (arith, ap (length {A = ℕ}) parts, length-append (list_spelling (take i numbers)) (list_spelling (drop i numbers)))

-- one number more
pub spelling_step : (numbers : List ℕ) (i n : ℕ) → i < length numbers → get_or numbers i 0 ≡ n
    → list_spelling (take (i + 1) numbers) ≡ list_spelling (take i numbers) ++ pattern_spelling n
spelling_step numbers i n inside is =
    ap list_spelling (take_more numbers i 0 inside ∙ ap (λ (m : ℕ). take i numbers ++ m ∷ []) is) ∙ spelling_more (take i numbers) n

-- a spelling that is too long already stays so
pub too_long : (numbers : List ℕ) (i n : ℕ) (octets : List ℕ) → i < length numbers → get_or numbers i 0 ≡ n → octets ≡ list_spelling (take i numbers)
    → 379 < length octets + length (pattern_spelling n) → 379 < length (list_spelling numbers)
too_long numbers i n octets inside is so_far long =
    omega (arith, spelling_front numbers (i + 1), ap (length {A = ℕ}) (spelling_step numbers i n inside is), ap (length {A = ℕ}) so_far, length-append (list_spelling (take i numbers)) (pattern_spelling n))

pub nothing : (octets : List ℕ) → IsList (take 0 octets) []
nothing octets = record { numbers_fit = All-nil (λ (n : ℕ). n < 2 ^ 16); spelled = refl }

pub more : ShortestPatternIsThePattern → PatternIsRead → (octets numbers : List ℕ) (at k n : ℕ) → IsList (take at octets) numbers → k ≤ length (drop at octets) → k ≡ pattern_length (get_or octets at 0)
    → pattern_number (take k (drop at octets)) ≡ Some n → IsList (take (at + k) octets) (numbers ++ n ∷ [])
more shortest read octets numbers at zero n before enough is e = absurd cc
more shortest read octets numbers at (suc k) n before enough is e =
    let p = take (suc k) (drop at octets) in
    let first : get_or p 0 0 ≡ get_or octets at 0 = get_or-take (suc k) (drop at octets) 0 0 (omega arith) ∙ get_or-drop at octets 0 0 ∙ ap (λ (i : ℕ). get_or octets i 0) (omega arith) in
    let pattern = (read p n).1 (length-take-le (suc k) (drop at octets) enough ∙ is ∙ ap pattern_length (sym first), e) in
    let s = (shortest p n).0 pattern in
    record {
      numbers_fit = All-push (λ (m : ℕ). m < 2 ^ 16) numbers n before.numbers_fit s.0;
      spelled = take-add at (suc k) octets ∙ ap (λ (xs : List ℕ). xs ++ p) before.spelled ∙ ap (λ (xs : List ℕ). list_spelling numbers ++ xs) s.1 ∙ sym (spelling_more numbers n);
    }

pub some_read : (octets : List ℕ) (k : ℕ) {n : ℕ} → pattern_number (take k octets) ≡ Some n → 0 < k
some_read octets zero {n} e = absurd cc
some_read octets (suc k) {n} e = omega arith

some_octets : (p : List ℕ) (n : ℕ) → IsPattern p n → 0 < length p
some_octets [] n h = absurd h
some_octets (a ∷ p) n h = omega arith

-- what a pattern at a place says
in_front : PatternIsRead → (octets p others : List ℕ) (at n : ℕ) → drop at octets ≡ p ++ others → IsPattern p n
    → (length p ≡ pattern_length (get_or octets at 0)) × (length p ≤ length (drop at octets)) × (pattern_number (take (pattern_length (get_or octets at 0)) (drop at octets)) ≡ Some n)
in_front read octets p others at n e is =
    let some = some_octets p n is in
    let r = (read p n).0 is in
    let first : get_or octets at 0 ≡ get_or p 0 0 =
    ap (λ (i : ℕ). get_or octets i 0) (omega arith) ∙ sym (get_or-drop at octets 0 0) ∙ ap (λ (xs : List ℕ). get_or xs 0 0) e ∙ get_or_append_left p others 0 0 some in
    let count : length p ≡ pattern_length (get_or octets at 0) = r.0 ∙ ap pattern_length (sym first) in
    let taken : take (pattern_length (get_or octets at 0)) (drop at octets) ≡ p = ap (λ (xs : List ℕ). take (pattern_length (get_or octets at 0)) xs) e ∙ take_at p others _ count in
    (count, omega (arith, ap (length {A = ℕ}) e, length-append p others), ap pattern_number taken ∙ r.1)

pub cut : PatternIsRead → (octets numbers : List ℕ) (at k : ℕ) → IsList (take at octets) numbers → at < length octets → k ≡ pattern_length (get_or octets at 0)
    → length (drop at octets) < k → IsListFault octets at true
cut read octets numbers at k before inside is few =
    let count = length-drop at octets in
    record {
      before = (numbers, before);
      within = inside;
      bad = λ p others n e pattern. let f = in_front read octets p others at n e pattern in omega arith;
      cut_short = (λ h. omega arith, λ h. refl);
    }

pub wrong : PatternIsRead → (octets numbers : List ℕ) (at k : ℕ) → IsList (take at octets) numbers → at < length octets → k ≡ pattern_length (get_or octets at 0)
    → k ≤ length (drop at octets) → pattern_number (take k (drop at octets)) ≡ None → IsListFault octets at false
wrong read octets numbers at k before inside is enough e =
    let count = length-drop at octets in
    let none : pattern_number (take (pattern_length (get_or octets at 0)) (drop at octets)) ≡ None = ap (λ (m : ℕ). pattern_number (take m (drop at octets))) (sym is) ∙ e in
    record {
      before = (numbers, before);
      within = inside;
      bad = λ p others n same pattern. let f = in_front read octets p others at n same pattern in let clash = sym none ∙ f.2 in absurd cc;
      cut_short = (λ h. absurd cc, λ h. absurd (omega arith));
    }
