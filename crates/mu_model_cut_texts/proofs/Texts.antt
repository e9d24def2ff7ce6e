-- The text of a boot: its numbers, and where it ends.
use Rattle.std.proofs.Common.{◌≡◌, ◌≤◌, ◌<◌, ◌+◌, ◌/◌, ◌%◌, ℕ, zero, suc, true, false, List, [], ◌∷◌, ◌++◌, refl, sym, ap, subst, ◌∙◌, cond, arith, append_assoc}
use Rattle.std.specs.Prelude.{◌==◌, codes}
use Rattle.std.specs.List.{AllByRecursion}
use Rattle.std.specs.Fmt.{digits, decimal, digits_onto, digit_glyph}
use Rattle.std.proofs.lemmas.Bool.Decides.{nat_tests}
use Rattle.std.proofs.lemmas.List.{append_cancel_left}
use Rattle.mu_model_script.specs.Texts.{address_text, boot_text}
use Rattle.mu_model_cut_texts.specs.Laws.{BootTextsEnd}

-- ---- digits

-- a digit is past the blank and the LF
abbrev pub IsDigit : ℕ → Type 0
IsDigit octet = 48 ≤ octet

abbrev pub AreDigits : List ℕ → Type 0
AreDigits octets = AllByRecursion IsDigit octets

is_glyph : (d : ℕ) → d < 10 → digit_glyph false d ≡ 48 + d
is_glyph d below = grind (arith, nat_tests)

more_digits : (xs ys : List ℕ) → AreDigits xs → AreDigits ys → AreDigits (xs ++ ys)
more_digits [] ys h k = k
more_digits (x ∷ xs) ys h k = (h.0, more_digits xs ys h.1 k)

-- digits that are put before others
abbrev Puts : List ℕ → List ℕ → Type 0
Puts octets after = (front : List ℕ) × AreDigits front × (octets ≡ front ++ after)

one_put : (n : ℕ) (after : List ℕ) → (digit_glyph false (n % 10) ∷ after) ≡ (48 + n % 10) ∷ after
one_put n after = let below : n % 10 < 10 = omega arith in ap (λ d. d ∷ after) (is_glyph (n % 10) below)

joined : (front after : List ℕ) (d : ℕ) → front ++ (d ∷ after) ≡ (front ++ d ∷ []) ++ after
joined front after d = sym (append_assoc front (d ∷ []) after)

digits_put : (k n : ℕ) (after : List ℕ) → Puts (digits_onto k 10 false n after) after
digits_put zero n after = ([], tt, refl)
digits_put (suc k) n after =
    let more = digits_put k (n / 10) (digit_glyph false (n % 10) ∷ after) in
    let digit : ℕ = 48 + n % 10 in
    let is_digit : 48 ≤ digit = omega arith in
    elim (n / 10 == 0) as (λ b. Puts (cond b (digit_glyph false (n % 10) ∷ after) (digits_onto k 10 false (n / 10) (digit_glyph false (n % 10) ∷ after))) after) [
      | true ↦ (digit ∷ [], (is_digit, tt), one_put n after)
      | false ↦ (more.0 ++ digit ∷ [], more_digits more.0 (digit ∷ []) more.1 (is_digit, tt), more.2 ∙ (ap (λ xs. more.0 ++ xs) (one_put n after) ∙ joined more.0 after digit))
    ]

last_put : (k n : ℕ) → Puts (digits_onto (suc k) 10 false n []) ((48 + n % 10) ∷ [])
last_put k n =
    let more = digits_put k (n / 10) (digit_glyph false (n % 10) ∷ []) in
    elim (n / 10 == 0) as (λ b. Puts (cond b (digit_glyph false (n % 10) ∷ []) (digits_onto k 10 false (n / 10) (digit_glyph false (n % 10) ∷ []))) ((48 + n % 10) ∷ [])) [
      | true ↦ ([], tt, one_put n [])
      | false ↦ (more.0, more.1, more.2 ∙ ap (λ xs. more.0 ++ xs) (one_put n []))
    ]

-- a number ends in its last digit
decimal_ends : (n : ℕ) → Puts (decimal n) ((48 + n % 10) ∷ [])
unfolding digits
decimal_ends n = last_put 63 n

are_digits : (n : ℕ) → AreDigits (decimal n)
are_digits n =
    let ends = decimal_ends n in
    let digit : 48 ≤ 48 + n % 10 = omega arith in
    subst AreDigits (sym ends.2) (more_digits ends.0 ((48 + n % 10) ∷ []) ends.1 (digit, tt))

none_left : (ds : List ℕ) (x : ℕ) → [] ≡ ds ++ x ∷ [] → ⊥
none_left [] x e = cc
none_left (d ∷ ds) x e = cc

same_last : (ds es : List ℕ) (x y : ℕ) → ds ++ x ∷ [] ≡ es ++ y ∷ [] → x ≡ y
same_last [] [] x y h = cc
same_last [] (e ∷ es) x y h = let none : [] ≡ es ++ y ∷ [] = cc in absurd (none_left es y none)
same_last (d ∷ ds) [] x y h = let none : [] ≡ ds ++ x ∷ [] = cc in absurd (none_left ds x none)
same_last (d ∷ ds) (e ∷ es) x y h = same_last ds es x y cc

-- the next number is another text
pub next_differs : (n : ℕ) → decimal (n + 1) ≡ decimal n → ⊥
next_differs n h =
    let ends = decimal_ends n in
    let next = decimal_ends (n + 1) in
    let same : 48 + (n + 1) % 10 ≡ 48 + n % 10 = same_last next.0 ends.0 (48 + (n + 1) % 10) (48 + n % 10) (sym next.2 ∙ (h ∙ ends.2)) in
    omega (arith, same)

-- ---- where a token ends

cut_at : (end : ℕ) → end < 48 → (xs xs' ys ys' : List ℕ) → AreDigits xs → AreDigits xs' → xs ++ end ∷ ys ≡ xs' ++ end ∷ ys' → (xs ≡ xs') × (ys ≡ ys')
cut_at end below [] [] ys ys' h h' e = (refl, cc)
cut_at end below [] (x ∷ xs') ys ys' h h' e =
    let same : end ≡ x = cc in
    let digit : 48 ≤ x = h'.0 in
    absurd (omega (arith, same, digit, below))
cut_at end below (x ∷ xs) [] ys ys' h h' e =
    let same : x ≡ end = cc in
    let digit : 48 ≤ x = h.0 in
    absurd (omega (arith, same, digit, below))
cut_at end below (x ∷ xs) (x' ∷ xs') ys ys' h h' e =
    let same : x ≡ x' = cc in
    let others = cut_at end below xs xs' ys ys' h.1 h'.1 cc in
    let fronts : xs ≡ xs' = others.0 in
    (cc, others.1)

regrouped : (x y z w rest : List ℕ) (blank end : ℕ) → ((x ++ (blank ∷ (y ++ (blank ∷ (z ++ (blank ∷ w)))))) ++ end ∷ []) ++ rest ≡ x ++ (blank ∷ (y ++ (blank ∷ (z ++ (blank ∷ (w ++ (end ∷ rest)))))))
regrouped x y z w rest blank end = simp append_assoc

tail_same : (x : ℕ) (xs ys : List ℕ) → x ∷ xs ≡ x ∷ ys → xs ≡ ys
tail_same x xs ys e = cc

-- the numbers of a boot, and what is printed after it
pub record Parts (count held count' held' : ℕ) (rest rest' : List ℕ) : Type 0 where
  pub counts : decimal count ≡ decimal count'
  pub helds : decimal held ≡ decimal held'
  pub rests : rest ≡ rest'

pub boot_parts : (address count held count' held' : ℕ) (rest rest' : List ℕ) → boot_text address count held ++ rest ≡ boot_text address count' held' ++ rest' → Parts count held count' held' rest rest'
boot_parts address count held count' held' rest rest' e =
    let both = sym (regrouped (codes "boot") (address_text address) (decimal count) (decimal held) rest 32 10) ∙ (e ∙ regrouped (codes "boot") (address_text address) (decimal count') (decimal held') rest' 32 10) in
    let word = tail_same 32 _ _ (append_cancel_left (codes "boot") _ _ both) in
    let place = tail_same 32 _ _ (append_cancel_left (address_text address) _ _ word) in
    let first = cut_at 32 (omega arith) (decimal count) (decimal count') _ _ (are_digits count) (are_digits count') place in
    let second = cut_at 10 (omega arith) (decimal held) (decimal held') rest rest' (are_digits held) (are_digits held') first.1 in
    record { counts = first.0; helds = second.0; rests = second.1 }

numbers_print : (address count held count' held' : ℕ) → decimal count ≡ decimal count' → decimal held ≡ decimal held' → boot_text address count held ≡ boot_text address count' held'
numbers_print address count held count' held' e f =
    ap (λ (c : List ℕ). (codes "boot" ++ (32 ∷ (address_text address ++ (32 ∷ (c ++ (32 ∷ decimal held)))))) ++ 10 ∷ []) e
    ∙ ap (λ (h : List ℕ). (codes "boot" ++ (32 ∷ (address_text address ++ (32 ∷ (decimal count' ++ (32 ∷ h)))))) ++ 10 ∷ []) f

pub texts_end : BootTextsEnd
texts_end address count held count' held' rest rest' e =
    let parts = boot_parts address count held count' held' rest rest' e in
    (numbers_print address count held count' held' parts.counts parts.helds, parts.rests)
