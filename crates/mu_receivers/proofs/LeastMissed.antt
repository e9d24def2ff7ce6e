-- The least block that somebody misses.
use Rattle.std.proofs.Common.{◌≡◌, ◌≤◌, ◌<◌, ◌+◌, ℕ, zero, suc, get_or, List, [], ◌∷◌, ◌++◌, refl, sym, ap, ◌∙◌, true, false, Bool, Some, None, take, length, arith}
use Rattle.std.specs.Prelude.{◌||◌, if◌then◌else◌}
use Rattle.std.specs.List.{list_any, find, range_with_len}
use Rattle.std.proofs.lemmas.List.{take_more, map-append}
use Rattle.std.proofs.lemmas.List.Folds.{list_any-append}
use Rattle.mu_model_client.specs.Client.{Receiver}
use Rattle.mu_receivers.specs.declared.slot.Slot.{Slot}
use Rattle.mu_receivers.specs.Receivers.{receiver_of, receivers_of}

pub any_more : (p : Receiver → Bool) (slots : List Slot) (i : ℕ) (s : Slot) → i < length slots → s ≡ get_or slots i s
    → list_any p (receivers_of (take (i + 1) slots)) ≡ (list_any p (receivers_of (take i slots)) || (p (receiver_of s) || false))
any_more p slots i s lt is =
    ap (λ x. list_any p (receivers_of x)) (take_more slots i s lt ∙ ap (λ x. take i slots ++ x ∷ []) (sym is))
    ∙ ap (list_any p) (map-append receiver_of (take i slots) (s ∷ []))
    ∙ list_any-append p (receivers_of (take i slots)) (receiver_of s ∷ [])

pub or_none : (x y : Bool) → x ≡ false → y ≡ false → (x || (y || false)) ≡ false
or_none x y e f = ap (λ z. z || (y || false)) e ∙ ap (λ z. z || false) f

pub or_first : (x y : Bool) → x ≡ true → (x || (y || false)) ≡ true
or_first x y e = ap (λ z. z || (y || false)) e

true_last : (x : Bool) → (x || true) ≡ true
true_last true = refl
true_last false = refl

pub or_last : (x y : Bool) → y ≡ true → (x || (y || false)) ≡ true
or_last x y e = ap (λ z. x || (z || false)) e ∙ true_last x

-- the first number from a on that passes
pub found : (p : ℕ → Bool) (a d m : ℕ) → ((i : ℕ) → a ≤ i → i < a + d → p i ≡ false) → p (a + d) ≡ true → d < m → find p (range_with_len a m) ≡ Some (a + d)
found p a d zero none here lt = absurd (omega arith)
found p a zero (suc m) none here lt =
    let z : a + 0 ≡ a = omega arith in
    ap (λ x. if x then Some a else find p (range_with_len (a + 1) m)) (ap p (sym z) ∙ here) ∙ ap (λ x. Some x) (sym z)
found p a (suc d) (suc m) none here lt =
    let z : a + suc d ≡ (a + 1) + d = omega arith in
    ap (λ x. if x then Some a else find p (range_with_len (a + 1) m)) (none a (omega arith) (omega arith))
    ∙ found p (a + 1) d m (λ i low high. none i (omega (arith, low)) (omega (arith, high))) (ap p (sym z) ∙ here) (omega (arith, lt))
    ∙ ap (λ x. Some x) (sym z)

pub none_found : (p : ℕ → Bool) (a m : ℕ) → ((i : ℕ) → a ≤ i → i < a + m → p i ≡ false) → find p (range_with_len a m) ≡ None
none_found p a zero none = refl
none_found p a (suc m) none =
    ap (λ x. if x then Some a else find p (range_with_len (a + 1) m)) (none a (omega arith) (omega arith))
    ∙ none_found p (a + 1) m (λ i low high. none i (omega (arith, low)) (omega (arith, high)))

pub first_is : (p : ℕ → Bool) (n least : ℕ) → ((i : ℕ) → i < least → p i ≡ false) → p least ≡ true → least < n → find p (range_with_len 0 n) ≡ Some least
first_is p n least none here lt =
    let z : 0 + least ≡ least = omega arith in
    found p 0 least n (λ i low high. none i (omega (arith, high))) (ap p z ∙ here) lt ∙ ap (λ x. Some x) z

pub none_is : (p : ℕ → Bool) (n : ℕ) → ((i : ℕ) → i < n → p i ≡ false) → find p (range_with_len 0 n) ≡ None
none_is p n none = none_found p 0 n (λ i low high. none i (omega (arith, high)))
