-- Octets cut at the first separator, and octets in hexadecimal that are too few or too many.
use Rattle.std.proofs.Common.{◌≡◌, ◌<◌, ◌≤◌, ℕ, ◌+◌, ◌-◌, ◌⊎◌, ◌/◌, Bool, true, false, List, [], ◌∷◌, length, take, drop, cond, Bor, Option, Some, None, Result, Ok, Err, inl, inr, refl, sym, arith, length-drop}
use Rattle.std.specs.Prelude.{nat_eq, nat_lt}
use Rattle.std.proofs.lemmas.List.{take_all}
use Rattle.std.proofs.lemmas.List.Splits.{slice_split_first, slice_split_none}
use Rattle.std.proofs.lemmas.List.Sums.{fails_before_first}
use Rattle.std.specs.Option.{option_copied, is_some}
use Rattle.std.specs.List.{position, position_or_len, onto_first}
use Rattle.hex.specs.Hex.{decode_of}
use Rattle.hex.specs.declared.error.FromHexError.{FromHexError}
use Rattle.hex.proofs.HexLemmas.{decode_of-ok}
use Rattle.mu_model_script.specs.declared.LineWhy.TheVariants.{Token as BadToken}
use Rattle.mu_model_script.specs.Pieces.{pieces, placed}
use Rattle.mu_script.specs.Cursor.{pieces_behind}
use Rattle.mu_model_script.specs.Lines.{nothing_left, refuse}
use Rattle.mu_model_script.specs.Tokens.{octets_of, if_length, made_of}

placed_below : (n len i : ℕ) → cond (nat_lt n len) (Some n) None ≡ Some i → (n < len) × (n ≡ i)
placed_below n len i h = grind arith

placed_nowhere : (n len : ℕ) → cond (nat_lt n len) (Some n) None ≡ None → len ≤ n
placed_nowhere n len h = grind arith

abbrev is_at : ℕ → ℕ → Bool
is_at separator octet = nat_eq octet separator

-- the first piece ends at the first separator
pub pieces-first : (separator : ℕ) (octets : List ℕ) (place : ℕ) → Some place ≡ position (λ octet. nat_eq octet separator) octets
    → pieces separator octets ≡ take place octets ∷ pieces separator (take (length octets - (place + 1)) (drop (place + 1) octets))
pieces-first separator octets place h =
    let p = placed_below (position_or_len (is_at separator) octets) (length octets) place (sym h) in
    let size = length-drop (place + 1) octets in
    let whole : take (length octets - (place + 1)) (drop (place + 1) octets) ≡ drop (place + 1) octets = take_all (length octets - (place + 1)) (drop (place + 1) octets) (omega (arith, size)) in
    rw (whole, ← p.1) (slice_split_first (is_at separator) octets 0 p.0)

-- without a separator there is one piece
pub pieces-one : (separator : ℕ) (octets : List ℕ) → None ≡ position (λ octet. nat_eq octet separator) octets → pieces separator octets ≡ octets ∷ []
pieces-one separator octets h =
    let none = placed_nowhere (position_or_len (is_at separator) octets) (length octets) (sym h) in
    slice_split_none (is_at separator) octets (λ k d below. fails_before_first (is_at separator) octets k d (omega arith))

-- digits of no octet, or of more octets than there may be
outside : (most : ℕ) (text : List ℕ) (read : Result (List ℕ) FromHexError) → decode_of text ≡ read → (length text / 2 ≡ 0) ⊎ (most < length text / 2) → if_length most read ≡ None
outside most text (Ok octets) is out =
    let size = (decode_of-ok text octets is).2 in
    elim out [ inl few ↦ grind arith | inr many ↦ grind arith ]
outside most text (Err e) is out = refl

pub octets_of-outside : (most : ℕ) (text : List ℕ) → (length text / 2 ≡ 0) ⊎ (most < length text / 2) → octets_of most text ≡ None
octets_of-outside most text out = outside most text (decode_of text) refl out

-- there is always a piece
onto_first-made : (a b : List ℕ) (octet : ℕ) (parts : List (List ℕ)) → made_of (a ∷ b ∷ onto_first octet parts) ≡ None
onto_first-made a b octet [] = refl
onto_first-made a b octet (part ∷ parts) = refl

pub made_of-more : (a b rest : List ℕ) → made_of (a ∷ b ∷ pieces 58 rest) ≡ None
made_of-more a b [] = refl
made_of-more a b (octet ∷ octets) =
    elim (nat_eq octet 58) as (λ t. made_of (a ∷ b ∷ cond t ([] ∷ pieces 58 octets) (onto_first octet (pieces 58 octets))) ≡ None) [
      | true ↦ refl
      | false ↦ onto_first-made a b octet (pieces 58 octets)
    ]

pub made_of-cut : (text first behind second : List ℕ) (more : Option (Bor (List ℕ)))
    → pieces 58 text ≡ first ∷ pieces 58 behind → pieces 58 behind ≡ second ∷ pieces_behind 58 (option_copied more) → is_some more ≡ true
    → made_of (pieces 58 text) ≡ None
made_of-cut text first behind second (Some rest) cut again is = rw (cut, again) (made_of-more first second rest.now)
made_of-cut text first behind second None cut again is = cc is

onto_first-left : (at octet : ℕ) (parts : List (List ℕ)) → nothing_left (placed at (onto_first octet parts)) ≡ refuse at BadToken
onto_first-left at octet [] = refl
onto_first-left at octet (part ∷ parts) = refl

pub nothing_left-pieces : (at : ℕ) (rest : List ℕ) → nothing_left (placed at (pieces 32 rest)) ≡ refuse at BadToken
nothing_left-pieces at [] = refl
nothing_left-pieces at (octet ∷ octets) =
    elim (nat_eq octet 32) as (λ t. nothing_left (placed at (cond t ([] ∷ pieces 32 octets) (onto_first octet (pieces 32 octets)))) ≡ refuse at BadToken) [
      | true ↦ refl
      | false ↦ onto_first-left at octet (pieces 32 octets)
    ]
