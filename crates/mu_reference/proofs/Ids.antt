-- Steps of the loop over images.
use Rattle.std.proofs.Common.{◌≡◌, ◌<◌, ◌≤◌, ℕ, ◌+◌, ◌-◌, List, [], ◌∷◌, ◌++◌, length, take, drop, get_or, refl, sym, ap, ◌∙◌, arith, length-drop, min}
use Rattle.std.proofs.lemmas.List.{take_more, take_min, get_or-drop}

-- so many from a place on
abbrev pub from_on : {A : Type 0} → List A → ℕ → ℕ → List A
from_on xs first n = take n (drop first xs)

pub one_more : {A : Type 0} (xs : List A) (first i : ℕ) (d : A) → first ≤ i → i < length xs → from_on xs first (i + 1 - first) ≡ from_on xs first (i - first) ++ get_or xs i d ∷ []
one_more xs first i d h k =
    let count : i + 1 - first ≡ i - first + 1 = omega arith in
    let within : i - first < length (drop first xs) = rw length-drop (omega arith) in
    let place : first + (i - first) ≡ i = omega arith in
    let more = take_more (drop first xs) (i - first) d within in
    rw count (more ∙ ap (λ x. take (i - first) (drop first xs) ++ x ∷ []) (get_or-drop first xs (i - first) d ∙ ap (λ n. get_or xs n d) place))

pub none_yet : {A : Type 0} (xs : List A) (first : ℕ) → from_on xs first (first - first) ≡ []
none_yet xs first = let zero_left : first - first ≡ 0 = omega arith in rw zero_left refl

-- what there is up to the end that was asked for
pub up_to : {A : Type 0} (xs : List A) (first limit last : ℕ) → last ≡ min (length xs) (first + limit) → first ≤ last → from_on xs first (last - first) ≡ take limit (drop first xs)
up_to xs first limit last e h =
    let rest : length (drop first xs) ≡ length xs - first = length-drop first xs in
    let count : last - first ≡ min limit (length (drop first xs)) = omega arith in
    rw count (take_min limit (drop first xs))

pub past_end : {A : Type 0} (xs : List A) (first limit last : ℕ) → last ≡ min (length xs) (first + limit) → last ≤ first → take limit (drop first xs) ≡ []
past_end xs first limit last e h =
    let rest : length (drop first xs) ≡ length xs - first = length-drop first xs in
    let none : min limit (length (drop first xs)) ≡ 0 = omega arith in
    sym (take_min limit (drop first xs)) ∙ rw none refl
