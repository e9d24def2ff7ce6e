-- The place of a token in a line.
use Rattle.std.proofs.Common.{◌≡◌, ◌≢◌, ℕ, suc, ◌+◌, Bool, true, false, eqb, List, [], ◌∷◌, length, drop, get_or, ◌<◌, drop-cons, slice_get, refl, sym, ap, ◌∙◌, arith}
use Rattle.std.proofs.lemmas.Bool.{ne_eqb}
use Rattle.std.specs.List.{onto_first}
use Rattle.mu_model_script.specs.Pieces.{placed, pieces, blank}
use Rattle.mu_model_world.specs.Judged.{place_at}

-- the place of token n of what begins at a place
abbrev pub place_in : ℕ → ℕ → List ℕ → ℕ
place_in at n octets = place_at (slice_get (placed at (pieces blank octets)) n)

first_at : (at octet : ℕ) (ps : List (List ℕ)) → place_at (slice_get (placed at (onto_first octet ps)) 0) ≡ at
first_at at octet [] = refl
first_at at octet (p ∷ ps) = refl

pub first_place : (at : ℕ) (octets : List ℕ) → place_in at 0 octets ≡ at
first_place at [] = refl
first_place at (octet ∷ octets) = by (eqb octet blank) refl
  where
    by : (b : Bool) → eqb octet blank ≡ b → place_in at 0 (octet ∷ octets) ≡ at
    by true e = rw e refl
    by false e = rw e (first_at at octet (pieces blank octets))

-- past a blank
pub place_past_blank : (at n : ℕ) (octets : List ℕ) → place_in at (suc n) (blank ∷ octets) ≡ place_in (at + 1) n octets
place_past_blank at n octets =
    let same : at + 0 + 1 ≡ at + 1 = omega arith in
    ap (λ k. place_at (slice_get (placed k (pieces blank octets)) n)) same

onto_at : (at n octet : ℕ) (ps : List (List ℕ)) → place_at (slice_get (placed at (onto_first octet ps)) (suc n)) ≡ place_at (slice_get (placed (at + 1) ps) (suc n))
onto_at at n octet [] = refl
onto_at at n octet (p ∷ ps) =
    let same : at + suc (length p) + 1 ≡ at + 1 + length p + 1 = omega arith in
    ap (λ k. place_at (slice_get (placed k ps) n)) same

-- past another octet
pub place_past_octet : (at n octet : ℕ) (octets : List ℕ) → octet ≢ blank → place_in at (suc n) (octet ∷ octets) ≡ place_in (at + 1) (suc n) octets
place_past_octet at n octet octets other = rw (ne_eqb octet blank other) (onto_at at n octet (pieces blank octets))

pub place_past_end : (at n : ℕ) → place_in at (suc n) [] ≡ 0
place_past_end at n = refl

-- behind the last blank before it
pub place_found : (line : List ℕ) (i token left : ℕ) → left ≡ 1 → i < length line → get_or line i 0 ≡ blank → place_in i left (drop i line) ≡ place_in 0 token line → i + 1 ≡ place_in 0 token line
place_found line i token left one within at_blank place =
    let cut : drop i line ≡ blank ∷ drop (suc i) line = drop-cons line i 0 within ∙ ap (λ o. o ∷ drop (suc i) line) at_blank in
    sym (first_place (i + 1) (drop (suc i) line)) ∙ (sym (place_past_blank i 0 (drop (suc i) line)) ∙ (ap (place_in i 1) (sym cut) ∙ (ap (λ n. place_in i n (drop i line)) (sym one) ∙ place)))
