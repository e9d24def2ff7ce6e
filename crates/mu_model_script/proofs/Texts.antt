-- Pieces, and the hexadecimal texts of addresses and octets.
use Rattle.std.proofs.Common.{◌≡◌, ◌<◌, ◌≤◌, ◌^◌, ℕ, zero, suc, Bool, true, false, List, [], ◌∷◌, length, Some, Ok, cond, refl, arith}
use Rattle.std.specs.Prelude.{nat_eq, All, Contains}
use Rattle.std.specs.Int.{w16, to_be_bytes}
use Rattle.std.specs.List.{onto_first}
use Rattle.std.proofs.lemmas.Nat.{from_be_bytes-to_be_bytes_2}
use Rattle.std.proofs.lemmas.Bool.{eqb-false}
use Rattle.std.proofs.lemmas.List.Elements.{All-cons, All-head, All-nil, All-tail}
use Rattle.hex.specs.Hex.{encode_lower, IsBytes}
use Rattle.hex.proofs.HexLemmas.{decode_sized-encode_lower, decode_of-encode_lower}
use Rattle.mu_model_script.specs.Pieces.{pieces}
use Rattle.mu_model_script.specs.Tokens.{address_of, octets_of, if_length}
use Rattle.mu_model_script.specs.Texts.{address_text}

-- ---- pieces

abbrev lacks : ℕ → List ℕ → Type 0
lacks separator piece = Contains piece separator → ⊥

lacks-cons : (separator octet : ℕ) (octets : List ℕ) → nat_eq octet separator ≡ false → lacks separator octets → lacks separator (octet ∷ octets)
lacks-cons separator octet octets other without (zero, below, is) = eqb-false octet separator other is
lacks-cons separator octet octets other without (suc k, below, is) = without (k, omega arith, is)

onto_first-lacks : (separator octet : ℕ) (parts : List (List ℕ)) → nat_eq octet separator ≡ false → All (lacks separator) parts → All (lacks separator) (onto_first octet parts)
onto_first-lacks separator octet [] other h = All-cons (lacks separator) (octet ∷ []) [] (lacks-cons separator octet [] other (λ (k, below, is). omega arith)) (All-nil (lacks separator))
onto_first-lacks separator octet (part ∷ parts) other h =
    All-cons (lacks separator) (octet ∷ part) parts (lacks-cons separator octet part other (All-head (lacks separator) part parts h)) (All-tail (lacks separator) part parts h)

pub pieces-lack : (separator : ℕ) (octets : List ℕ) → All (lacks separator) (pieces separator octets)
pieces-lack separator [] = All-cons (lacks separator) [] [] (λ (k, below, is). omega arith) (All-nil (lacks separator))
pieces-lack separator (octet ∷ octets) =
    let more = pieces-lack separator octets in
    let P : Bool → Type 0 = λ t. nat_eq octet separator ≡ t → All (lacks separator) (cond t ([] ∷ pieces separator octets) (onto_first octet (pieces separator octets))) in
    elim (nat_eq octet separator) as P [
      | true ↦ λ is. All-cons (lacks separator) [] (pieces separator octets) (λ (k, below, at). omega arith) more
      | false ↦ λ other. onto_first-lacks separator octet (pieces separator octets) other more
    ] refl

-- ---- texts

bytes_of_address : (address : ℕ) → IsBytes (to_be_bytes w16 address)
bytes_of_address address zero = omega arith
bytes_of_address address (suc zero) = omega arith
bytes_of_address address (suc (suc i)) = omega arith

pub address_of-address_text : (address : ℕ) → address < 2 ^ 16 → address_of (address_text address) ≡ Some address
address_of-address_text address small =
    rw (decode_sized-encode_lower (to_be_bytes w16 address) 2 refl (bytes_of_address address), from_be_bytes-to_be_bytes_2 address small) refl

within : (most : ℕ) (octets : List ℕ) → 1 ≤ length octets → length octets ≤ most → if_length most (Ok octets) ≡ Some octets
within most octets low high = grind arith

pub octets_of-encode_lower : (most : ℕ) (octets : List ℕ) → IsBytes octets → 1 ≤ length octets → length octets ≤ most → octets_of most (encode_lower octets) ≡ Some octets
octets_of-encode_lower most octets bytes low high = rw (decode_of-encode_lower octets bytes) (within most octets low high)
