-- Words that lie one behind the other.
use Rattle.std.proofs.Common.{◌≡◌, ◌<◌, ◌≤◌, ◌⊎◌, ℕ, suc, ◌+◌, Bool, true, false, List, [], ◌∷◌, ◌++◌, length, take, drop, get_or, Option, Some, None, cond, inl, inr, refl, ap, arith, add-one, drop-cons, length-append, length-drop}
use Rattle.std.specs.Prelude.{sum, sum_by, Result, Ok, Err, IsOk, OnOk, is_err, ◌↔◌}
use Rattle.std.proofs.lemmas.Bool.{cases_lt}
use Rattle.std.proofs.lemmas.List.Sums.{sum_by-append}
use Rattle.std.proofs.lemmas.List.{take-append-le, take_all, drop-append-le, length-take}
use Rattle.mu_command_line.specs.Words.{words_of, with_word, if_few}

sum-cons : (x : ℕ) (xs : List ℕ) → sum (x ∷ xs) ≡ x + sum xs
sum-cons x xs = let e = sum_by-append (λ (n : ℕ). n) (x ∷ []) xs in omega (arith, e)

lengths-cons : (word : List ℕ) (words : List (List ℕ)) → sum_by (length {A = ℕ}) (word ∷ words) ≡ length word + sum_by (length {A = ℕ}) words
lengths-cons word words = let e = sum_by-append (length {A = ℕ}) (word ∷ []) words in omega (arith, e)

pub sum-push : (lengths : List ℕ) (n : ℕ) → sum (lengths ++ n ∷ []) ≡ sum lengths + n
sum-push lengths n = let e = sum_by-append (λ (n : ℕ). n) lengths (n ∷ []) in omega (arith, e)

pub length-words_of : (lengths octets : List ℕ) → length (words_of lengths octets) ≡ length lengths
length-words_of [] octets = refl
length-words_of (size ∷ sizes) octets = ap (λ n. suc n) (length-words_of sizes (drop size octets))

-- behind the first word
behind : (size : ℕ) (sizes octets : List ℕ) → sum (size ∷ sizes) ≡ length octets → (size ≤ length octets) × (sum sizes ≡ length (drop size octets))
behind size sizes octets h =
    let e = sum-cons size sizes in
    let d = length-drop size octets in (omega arith, omega arith)

pub sum_by-words_of : (lengths octets : List ℕ) → sum lengths ≡ length octets → sum_by length (words_of lengths octets) ≡ length octets
sum_by-words_of [] octets h = h
sum_by-words_of (size ∷ sizes) octets h =
    let rest = behind size sizes octets h in
    let more = sum_by-words_of sizes (drop size octets) rest.1 in
    let e = lengths-cons (take size octets) (words_of sizes (drop size octets)) in
    let t = length-take size octets in
    let d = length-drop size octets in omega arith

pub words_of-append : (lengths octets word : List ℕ) → sum lengths ≡ length octets → words_of (lengths ++ length word ∷ []) (octets ++ word) ≡ words_of lengths octets ++ word ∷ []
words_of-append [] [] word h = rw (take_all (length word) word (omega arith)) refl
words_of-append [] (octet ∷ octets) word h = absurd (omega arith)
words_of-append (size ∷ sizes) octets word h =
    let rest = behind size sizes octets h in
    let more = words_of-append sizes (drop size octets) word rest.1 in
    let t = take-append-le size octets word rest.0 in
    let d = drop-append-le size octets word rest.0 in
    rw (t, d, more) refl

fits : (words : List (List ℕ)) → length words ≤ 32 → sum_by (length {A = ℕ}) words ≤ 8192 → if_few words ≡ Some words
fits words few small = grind arith

passes : (words : List (List ℕ)) → (32 < length words) ⊎ (8192 < sum_by (length {A = ℕ}) words) → if_few words ≡ None
passes words out = elim out [ inl many ↦ grind arith | inr large ↦ grind arith ]

length-push : (words : List (List ℕ)) (word : List ℕ) → length (words ++ word ∷ []) ≡ length words + 1
length-push words word = length-append words (word ∷ [])

sizes-push : (lengths octets word : List ℕ) → sum lengths ≡ length octets → sum_by (length {A = ℕ}) (words_of lengths octets ++ word ∷ []) ≡ length octets + length word
sizes-push lengths octets word h =
    let e = sum_by-append (length {A = ℕ}) (words_of lengths octets) (word ∷ []) in
    let s = sum_by-words_of lengths octets h in omega arith

abbrev unless_overfull : Bool → List ℕ → List ℕ → Option (List (List ℕ))
unless_overfull overfull lengths octets = cond overfull None (Some (words_of lengths octets))

-- a word for which there is room
pub with_word-room : (overfull : Bool) (lengths octets word : List ℕ) → sum lengths ≡ length octets → length lengths < 32 → length octets + length word ≤ 8192
    → with_word (unless_overfull overfull lengths octets) word ≡ unless_overfull overfull (lengths ++ length word ∷ []) (octets ++ word)
with_word-room true lengths octets word h few small = refl
with_word-room false lengths octets word h few small =
    let n = length-words_of lengths octets in
    let p = length-push (words_of lengths octets) word in
    let s = sizes-push lengths octets word h in
    rw (words_of-append lengths octets word h) (fits (words_of lengths octets ++ word ∷ []) (omega arith) (omega arith))

-- a word for which there is none
pub with_word-none : (overfull : Bool) (lengths octets word : List ℕ) → sum lengths ≡ length octets → (32 ≤ length lengths) ⊎ (8192 < length octets + length word)
    → with_word (unless_overfull overfull lengths octets) word ≡ None
with_word-none true lengths octets word h out = refl
with_word-none false lengths octets word h out =
    let n = length-words_of lengths octets in
    let p = length-push (words_of lengths octets) word in
    let s = sizes-push lengths octets word h in
    passes (words_of lengths octets ++ word ∷ []) (elim out [ inl many ↦ inl (omega arith) | inr large ↦ inr (omega arith) ])

-- ---- one word after the other

pub words_of-step : (lengths octets : List ℕ) (k : ℕ) → k < length lengths
    → words_of (drop k lengths) octets ≡ take (get_or lengths k 0) octets ∷ words_of (drop (k + 1) lengths) (drop (get_or lengths k 0) octets)
words_of-step lengths octets k h = rw (drop-cons lengths k 0, add-one) refl

pub behind-step : (lengths octets : List ℕ) (k : ℕ) → k < length lengths → sum (drop k lengths) ≡ length octets
    → (get_or lengths k 0 ≤ length octets) × (sum (drop (k + 1) lengths) ≡ length (drop (get_or lengths k 0) octets))
behind-step lengths octets k h e =
    let step : drop k lengths ≡ get_or lengths k 0 ∷ drop (k + 1) lengths = rw (drop-cons lengths k 0, add-one) refl in
    behind (get_or lengths k 0) (drop (k + 1) lengths) octets (rw step at e)

-- ---- octets that were taken, or for which there is no room

pub was_taken : {E P : Type 0} (r : Result (Unit {0}) E) → false ≡ is_err r → OnOk r P → P
was_taken (Ok x) is h = h
was_taken (Err e) is h = cc is

pub was_too_long : {E : Type 0} (r : Result (Unit {0}) E) (n room : ℕ) → true ≡ is_err r → IsOk r ↔ (n ≤ room) → room < n
was_too_long (Ok x) n room is h = cc is
was_too_long (Err e) n room is h =
    elim (cases_lt room n) [
      | inl above ↦ above
      | inr below ↦ cc (h.1 below)
    ]

pub was_short : {E P : Type 0} (r : Result (Unit {0}) E) → false ≡ is_err r → IsOk r ↔ P → P
was_short (Ok x) is h = h.0 refl
was_short (Err e) is h = cc is
