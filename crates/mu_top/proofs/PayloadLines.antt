-- Facts about lines of payloads.
use Rattle.std.proofs.Common.{◌≡◌, ℕ, ◌+◌, ◌/◌, ◌%◌, List, [], ◌∷◌, ◌++◌, length, Bool, true, false, Option, Some, None, Result, Ok, Err, IsOk, refl, subst, arith}
use Rattle.std.specs.Prelude.{◌==◌, if◌then◌else◌}
use Rattle.std.specs.List.{AllPass}
use Rattle.std.proofs.lemmas.List.Elements.{All-cons}
use Rattle.std.proofs.lemmas.Bool.{eqb-false}
use Rattle.std.specs.Result.{MatchResult}
use Rattle.hex.specs.declared.error.FromHexError.{FromHexError}
use Rattle.hex.specs.Hex.{decode_sized, is_hex_digit}
use Rattle.hex.proofs.HexLemmas.{IsOk-decode_sized}
use Rattle.mu_top.specs.declared.payloads.PayloadText.{PayloadText}
use Rattle.mu_model_wire.specs.Fields.{Message}
use Rattle.mu_model_script.specs.Runs as runs
use Rattle.mu_top.specs.Payloads.{DoesPayload, BarsPayload, Prints, PayloadLine, Refused, payload_line, printed, first_bad_digit, bad_hex}

refused_prints_nothing : (shown : Message → List ℕ) (line : PayloadLine) (place : ℕ) (word text : List ℕ) → line ≡ Refused place word → Prints shown line text → ⊥
refused_prints_nothing shown line place word text is prints = subst (λ l. Prints shown l text) is prints

-- a run through these lines has done the one in the middle
through : (w : PayloadText) (front : List (List ℕ)) (line : List ℕ) (others : List (List ℕ)) (text : List ℕ) (last : PayloadText) (place : ℕ) (word : List ℕ)
    → payload_line line ≡ Refused place word → runs.Run DoesPayload w (front ++ line ∷ others) text last → ⊥
through w [] line others text last place word is run = refused_prints_nothing (printed w) (payload_line line) place word run.1 is run.3.1
through w (first ∷ front) line others text last place word is run = through run.0 front line others run.2 last place word is run.4

-- a list of lines with a refused one has no trace
pub payloads_alone : (start : PayloadText) (lines : List (List ℕ)) (text whole : List ℕ) (number place : ℕ) (word : List ℕ)
    → runs.Refuses DoesPayload BarsPayload start lines text number place word → runs.Prints DoesPayload start lines whole → ⊥
payloads_alone start lines text whole number place word refuses prints =
    through start refuses.before refuses.line refuses.others whole prints.end place word refuses.refused (subst (λ ls. runs.Run DoesPayload start ls whole prints.end) refuses.cut prints.run)

-- ---- hexadecimal

all_digits : (at : ℕ) (text : List ℕ) → first_bad_digit at text ≡ None → AllPass is_hex_digit text
all_digits at [] is = λ k d within. absurd (omega (arith, within))
all_digits at (x ∷ xs) is = by (is_hex_digit x) refl (λ rest. all_digits (at + 1) xs rest)
  where
    by : (b : Bool) → is_hex_digit x ≡ b → (first_bad_digit (at + 1) xs ≡ None → AllPass is_hex_digit xs) → AllPass is_hex_digit (x ∷ xs)
    by true e rest = All-cons (λ y. is_hex_digit y ≡ true) x xs e (rest (rw e at is))
    by false e rest =
        let bad : Some at ≡ None = rw e at is in
        absurd cc

-- hexadecimal in which nothing is wrong is decoded
pub decodes : (text : List ℕ) → bad_hex text ≡ None → IsOk (decode_sized text (length text / 2))
decodes text is = by (first_bad_digit 0 text) refl
  where
    odd : (n : ℕ) → (if n % 2 == 1 then Some (length text) else None) ≡ None → n % 2 ≡ 0
    odd n none = by_case (n % 2 == 1) refl
      where
        by_case : (b : Bool) → (n % 2 == 1) ≡ b → n % 2 ≡ 0
        by_case true e =
            let bad : Some (length text) ≡ None = rw e at none in
            absurd cc
        by_case false e = omega (arith, eqb-false (n % 2) 1 e)

    by : (o : Option ℕ) → first_bad_digit 0 text ≡ o → IsOk (decode_sized text (length text / 2))
    by (Some place) e =
        let bad : Some place ≡ None = rw e at is in
        absurd cc
    by None e =
        let even = odd (length text) (rw e at is) in
        let digits = IsOk-decode_sized text (length text / 2) in
        digits.1 (omega (arith, even), all_digits 0 text e)

-- so the call that decodes doesn't fail
pub decoded : (text : List ℕ) (n : ℕ) → n ≡ length text / 2 → (r : Result (Unit {0}) FromHexError) (out : List ℕ) → bad_hex text ≡ None
    → MatchResult (decode_sized text n) (λ bytes. (r ≡ Ok tt) × (out ≡ bytes)) (λ e. r ≡ Err e) → r ≡ Ok tt
decoded text n half r out none value = by (decode_sized text n) (rw half (decodes text none)) value
  where
    by : (d : Result (List ℕ) FromHexError) → IsOk d → MatchResult d (λ bytes. (r ≡ Ok tt) × (out ≡ bytes)) (λ e. r ≡ Err e) → r ≡ Ok tt
    by (Ok bytes) ok is = is.0
    by (Err e) ok is = absurd cc
