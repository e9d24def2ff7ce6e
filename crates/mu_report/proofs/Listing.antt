-- The members of a set, listed by going from one to the next, and gathered from a list.
use Rattle.std.proofs.Common.{◌≡◌, ℕ, zero, suc, ◌-◌, ◌+◌, ◌*◌, ◌/◌, ◌%◌, ◌≤◌, ◌<◌, ◌↔◌, min, Bool, true, false, IsTrue, cond, get_or, set as put, List, [], ◌∷◌, ◌++◌, length, take, refl, sym, ap, subst, ◌∙◌, arith, inl, inr, add-one, length-append, length-set}
use Rattle.std.specs.Prelude.{Contains}
use Rattle.std.specs.List.{range_with_len, filter, All}
use Rattle.std.proofs.lemmas.Bool.{cases_lt, cases_eq, cases_Bool}
use Rattle.std.proofs.lemmas.Bool.Decides.{nat_tests}
use Rattle.std.proofs.lemmas.List.Concat.{flat_map-append}
use Rattle.std.proofs.lemmas.List.FromFn.{filter_of_map_range_with_len_more}
use Rattle.std.proofs.lemmas.List.{map-id, append-nil, take_more, get_or-set_same, get_or-set_other, get_or-take, length-take-le}
use Rattle.std.proofs.lemmas.List.Elements.{All-push, Contains-push, Contains-push_cases, Contains-append_left}
use Rattle.mu_model_wire.specs.Patterns.{pattern_spelling, list_spelling}
use Rattle.mu_model_wire.specs.Reports.{has, members}
use Rattle.mu_report.specs.Words.{count_below, bit, word_bit, set_of_words, AreWords}
use Rattle.mu_report.proofs.Counts.{count_add, count_same, count_past, count-suc, count-zero, members_count}
use Rattle.mu_report.proofs.Bits.{has-set, set-length}

-- ---- from one to the next

filter_more : (p : ℕ → Bool) (n : ℕ) → filter p (range_with_len 0 (n + 1)) ≡ filter p (range_with_len 0 n) ++ cond (p n) (n ∷ []) []
filter_more p n =
    ap (filter p) (sym (map-id (range_with_len 0 (n + 1)))) ∙ filter_of_map_range_with_len_more p (λ (k : ℕ). k) 0 n n (omega arith)
    ∙ ap (λ (xs : List ℕ). filter p xs ++ cond (p n) (n ∷ []) []) (map-id (range_with_len 0 n))

skip : (p : ℕ → Bool) (at gap : ℕ) → ((i : ℕ) → at ≤ i → i < at + gap → p i ≡ false) → filter p (range_with_len 0 (at + gap)) ≡ filter p (range_with_len 0 at)
skip p at zero none = let same : at + 0 ≡ at = omega arith in ap (λ (n : ℕ). filter p (range_with_len 0 n)) same
skip p at (suc gap) none =
    let turn : at + suc gap ≡ at + gap + 1 = omega arith in
    ap (λ (n : ℕ). filter p (range_with_len 0 n)) turn ∙ filter_more p (at + gap)
    ∙ ap (λ (b : Bool). filter p (range_with_len 0 (at + gap)) ++ cond b ((at + gap) ∷ []) []) (none (at + gap) (omega arith) (omega arith))
    ∙ append-nil (filter p (range_with_len 0 (at + gap)))
    ∙ skip p at gap (λ i low high. none i low (omega arith))

pub skip_to : (p : ℕ → Bool) (at to : ℕ) → at ≤ to → ((i : ℕ) → at ≤ i → i < to → p i ≡ false) → filter p (range_with_len 0 to) ≡ filter p (range_with_len 0 at)
skip_to p at to h none =
    let parts : to ≡ at + (to - at) = omega arith in
    ap (λ (n : ℕ). filter p (range_with_len 0 n)) parts ∙ skip p at (to - at) (λ i low high. none i low (omega arith))

pub next_is : (p : ℕ → Bool) (at m : ℕ) → at ≤ m → ((i : ℕ) → at ≤ i → i < m → p i ≡ false) → p m ≡ true
    → filter p (range_with_len 0 (m + 1)) ≡ filter p (range_with_len 0 at) ++ m ∷ []
next_is p at m h none pass =
    filter_more p m ∙ ap (λ (b : Bool). filter p (range_with_len 0 m) ++ cond b (m ∷ []) []) pass ∙ ap (λ (xs : List ℕ). xs ++ m ∷ []) (skip_to p at m h none)

-- the members before a place are no more than all
pub front_le : (set : List Bool) (n : ℕ) → n ≤ length set → length (filter (has set) (range_with_len 0 n)) ≤ length (members set)
unfolding count_below
front_le set n h =
    let parts : n + (length set - n) ≡ length set = omega arith in
    omega (arith, count_add (has set) n (length set - n), ap (count_below (has set)) parts)

-- ---- gathered from a list

pub record Gathered (numbers : List ℕ) (set : List Bool) (n : ℕ) : Type 0 where
  pub bound : length set ≡ n
  pub all : All (λ k. k < n) numbers
  pub named : (k : ℕ) → Contains numbers k ↔ IsTrue (has set k)

pub gather : (numbers : List ℕ) (set now : List Bool) (n index : ℕ) → index < length numbers → get_or numbers index 0 < n
    → now ≡ put set (get_or numbers index 0) true → Gathered (take index numbers) set n → Gathered (take (index + 1) numbers) now n
gather numbers set now n index inside small e so_far =
    let m = get_or numbers index 0 in
    let front = take index numbers in
    let whole : take (index + 1) numbers ≡ front ++ m ∷ [] = take_more numbers index 0 inside in
    let bound = so_far.bound in
    let at : (k : ℕ) → has now k ≡ has (put set m true) k = λ k. ap (λ (xs : List Bool). has xs k) e in
    let P : List ℕ → Type 0 = λ xs. Gathered xs now n in
    subst P (sym whole) (record {
      bound = ap (length {A = Bool}) e ∙ length-set set m true ∙ so_far.bound;
      all = All-push (λ (k : ℕ). k < n) front m so_far.all small;
      named = λ k. (
        λ h. elim (Contains-push_cases front m k h) [
          | inl before ↦ elim (cases_eq k m) [
            | inl same ↦ at k ∙ ap (has (put set m true)) same ∙ get_or-set_same set m true false (omega arith)
            | inr other ↦ at k ∙ get_or-set_other set m k true false other ∙ (so_far.named k).0 before
          ]
          | inr same ↦ at k ∙ ap (has (put set m true)) (sym same) ∙ get_or-set_same set m true false (omega arith)
        ],
        λ h. elim (cases_eq k m) [
          | inl same ↦ (let Q : ℕ → Type 0 = λ i. Contains (front ++ m ∷ []) i in subst Q (sym same) (Contains-push front m))
          | inr other ↦ Contains-append_left front (m ∷ []) k ((so_far.named k).1 (sym (get_or-set_other set m k true false other) ∙ sym (at k) ∙ h))
        ],
      );
    })

-- ---- how long the list of patterns is

spelling_more : (numbers : List ℕ) (n : ℕ) → list_spelling (numbers ++ n ∷ []) ≡ list_spelling numbers ++ pattern_spelling n
spelling_more numbers n = flat_map-append pattern_spelling numbers (n ∷ []) ∙ ap (λ (xs : List ℕ). list_spelling numbers ++ xs) (append-nil (pattern_spelling n))

one_octet : (n : ℕ) → n < 128 → length (pattern_spelling n) ≡ 1
one_octet n h = grind (arith, nat_tests)

two_octets : (n : ℕ) → 128 ≤ n → n < 2048 → length (pattern_spelling n) ≡ 2
two_octets n low high = grind (arith, nat_tests)

pub listed : (ℕ → Bool) → ℕ → ℕ
listed p n = length (list_spelling (filter p (range_with_len 0 n)))

listed_more : (p : ℕ → Bool) (n : ℕ) → listed p (n + 1) ≡ listed p n + cond (p n) (length (pattern_spelling n)) 0
unfolding listed
listed_more p n =
    elim (cases_Bool (p n)) [
      | inl pass ↦ (
          let whole : filter p (range_with_len 0 (n + 1)) ≡ filter p (range_with_len 0 n) ++ n ∷ [] = filter_more p n ∙ ap (λ (b : Bool). filter p (range_with_len 0 n) ++ cond b (n ∷ []) []) pass in
          ap (λ (xs : List ℕ). length (list_spelling xs)) whole ∙ ap (length {A = ℕ}) (spelling_more (filter p (range_with_len 0 n)) n)
          ∙ length-append (list_spelling (filter p (range_with_len 0 n))) (pattern_spelling n)
          ∙ ap (λ (b : Bool). length (list_spelling (filter p (range_with_len 0 n))) + cond b (length (pattern_spelling n)) 0) (sym pass))
      | inr fail ↦ (
          let whole : filter p (range_with_len 0 (n + 1)) ≡ filter p (range_with_len 0 n) = filter_more p n ∙ ap (λ (b : Bool). filter p (range_with_len 0 n) ++ cond b (n ∷ []) []) fail ∙ append-nil (filter p (range_with_len 0 n)) in
          let none : length (list_spelling (filter p (range_with_len 0 n))) ≡ length (list_spelling (filter p (range_with_len 0 n))) + 0 = omega arith in
          ap (λ (xs : List ℕ). length (list_spelling xs)) whole ∙ none
          ∙ ap (λ (b : Bool). length (list_spelling (filter p (range_with_len 0 n))) + cond b (length (pattern_spelling n)) 0) (sym fail))
    ]

twice : (b : Bool) → cond {A = ℕ} b 2 0 ≡ 2 * cond {A = ℕ} b 1 0
twice true = refl
twice false = refl

step_short : (l' l c' c m' m t : ℕ) → l + m ≡ 2 * c → l' ≡ l + t → c' ≡ c + t → m' ≡ c' → m ≡ c → l' + m' ≡ 2 * c'
step_short l' l c' c m' m t h hl hc a b = omega arith

step_long : (l' l c' c m' m t : ℕ) → l + m ≡ 2 * c → l' ≡ l + 2 * t → c' ≡ c + t → m' ≡ m → l' + m' ≡ 2 * c'
step_long l' l c' c m' m t h hl hc a = omega arith

-- members below 128 have one octet, the others two
pub listed_length : (p : ℕ → Bool) (n : ℕ) → n ≤ 2048 → listed p n + count_below p (min n 128) ≡ 2 * count_below p n
unfolding listed
listed_length p zero h =
    let none = count-zero p in
    let least : min 0 128 ≡ 0 = omega arith in
    let same = ap (count_below p) least in
    omega arith
listed_length p (suc n) h =
    let before = listed_length p n (omega arith) in
    let list : listed p (suc n) ≡ listed p n + cond (p n) (length (pattern_spelling n)) 0 = ap (listed p) (sym (add-one n)) ∙ listed_more p n in
    let count : count_below p (suc n) ≡ count_below p n + cond (p n) 1 0 = ap (count_below p) (sym (add-one n)) ∙ count-suc p n in
    elim (cases_lt n 128) [
      | inl short ↦ (
          let one : cond (p n) (length (pattern_spelling n)) 0 ≡ cond (p n) 1 0 = ap (λ (k : ℕ). cond (p n) k 0) (one_octet n short) in
          let now : min (suc n) 128 ≡ suc n = omega arith in
          let then : min n 128 ≡ n = omega arith in
          let a = ap (count_below p) now in
          let b = ap (count_below p) then in
          step_short (listed p (suc n)) (listed p n) (count_below p (suc n)) (count_below p n) (count_below p (min (suc n) 128)) (count_below p (min n 128)) (cond (p n) 1 0)
          before (list ∙ ap (λ (k : ℕ). listed p n + k) one) count a b)
      | inr long ↦ (
          let two : cond (p n) (length (pattern_spelling n)) 0 ≡ 2 * cond (p n) 1 0 = ap (λ (k : ℕ). cond (p n) k 0) (two_octets n long (omega arith)) ∙ twice (p n) in
          let same : min (suc n) 128 ≡ min n 128 = omega arith in
          let a = ap (count_below p) same in
          step_long (listed p (suc n)) (listed p n) (count_below p (suc n)) (count_below p n) (count_below p (min (suc n) 128)) (count_below p (min n 128)) (cond (p n) 1 0)
          before (list ∙ ap (λ (k : ℕ). listed p n + k) two) count a)
    ]

-- the first two words have the numbers below 128
first_words : (words : List ℕ) (bound : ℕ) → AreWords words bound → count_below (word_bit (take 2 words)) (64 * length (take 2 words)) ≡ count_below (word_bit words) (min bound 128)
unfolding word_bit
first_words words bound are =
    let two : 64 * length (take 2 words) ≡ 128 = omega (arith, length-take-le 2 words (omega (arith, are.count))) in
    let front : count_below (word_bit (take 2 words)) 128 ≡ count_below (word_bit words) 128 =
    count_same (word_bit (take 2 words)) (word_bit words) 128 (λ k h. ap (λ (w : ℕ). bit w (k % 64)) (get_or-take 2 words (k / 64) 0 (omega arith))) in
    ap (count_below (word_bit (take 2 words))) two ∙ front
    ∙ elim (cases_lt bound 128) [
      | inl few ↦ (let least : bound ≡ min bound 128 = omega arith in count_past (word_bit words) bound 128 (omega arith) are.past ∙ ap (count_below (word_bit words)) least)
      | inr many ↦ (let least : 128 ≡ min bound 128 = omega arith in ap (count_below (word_bit words)) least)
    ]

-- the list of a set, with the members below 128 counted in its first two words
pub spelled : (words : List ℕ) (bound : ℕ) → AreWords words bound
    → length (list_spelling (members (set_of_words words bound))) + count_below (word_bit (take 2 words)) (64 * length (take 2 words)) ≡ 2 * length (members (set_of_words words bound))
unfolding listed
spelled words bound are =
    let s = set_of_words words bound in
    let long = set-length words bound in
    let most = are.most in
    let first : count_below (word_bit (take 2 words)) (64 * length (take 2 words)) ≡ count_below (has s) (min (length s) 128) =
    first_words words bound are ∙ count_same (word_bit words) (has s) (min bound 128) (λ k h. sym (has-set words bound k are))
    ∙ ap (λ (n : ℕ). count_below (has s) (min n 128)) (sym long) in
    let all = listed_length (has s) (length s) (omega arith) in
    ap (λ (n : ℕ). length (list_spelling (members s)) + n) first ∙ all ∙ ap (λ (n : ℕ). 2 * n) (sym (members_count s))
