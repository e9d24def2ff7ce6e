-- Octets are the spelling of the number that they are read as.
use Rattle.std.proofs.Common.{◌≡◌, ℕ, zero, suc, ◌+◌, ◌*◌, ◌/◌, ◌%◌, ◌^◌, ◌≤◌, ◌<◌, get_or, List, [], ◌∷◌, ◌++◌, length, take, refl, sym, ap, ◌∙◌, arith}
use Rattle.std.proofs.lemmas.List.{get_or-append-add}
use Rattle.std.proofs.Math.Nat.{div-div-eq-div-mul, pow-suc}
use Rattle.std.specs.Int.{byte_at, bytes_low_first}
use Rattle.byteorder.specs.Endian.{little_bytes, little_number, little_from}
use Rattle.byteorder.specs.Numbers.{little_from-cons}
use Rattle.mu_model_wire.specs.Laws.{AreOctets}

-- octet j + 1 of a number is octet j of what is above its lowest octet
byte_above : (j n : ℕ) → byte_at (suc j) n ≡ byte_at j (n / 256)
byte_above zero n = refl
byte_above (suc j) n =
    let shift : n / 256 ^ suc (suc j) ≡ n / 256 / 256 ^ suc j = ap (λ (p : ℕ). n / p) (pow-suc 256 (suc j) ∙ omega arith) ∙ sym (div-div-eq-div-mul n 256 (256 ^ suc j)) in
    ap (λ (x : ℕ). x % 256) shift

bytes_above : (j k n : ℕ) → bytes_low_first (suc j) k n ≡ bytes_low_first j k (n / 256)
bytes_above j zero n = refl
bytes_above j (suc k) n = rw (byte_above j n, bytes_above (suc j) k n) refl

pub bytes_back : (k : ℕ) (xs : List ℕ) → AreOctets xs → k ≤ length xs → little_bytes k (little_number k xs) ≡ take k xs
bytes_back zero xs octets long = refl
bytes_back (suc k) [] octets long = absurd (omega (arith, long))
bytes_back (suc k) (x ∷ xs) octets long =
    let small : x < 256 = octets 0 in
    let others = little_number k xs in
    let moved : little_from 1 k (x ∷ xs) ≡ others = little_from-cons 0 k x xs in
    let low : (x + 256 * others) % 256 ≡ x = omega arith in
    let high : (x + 256 * others) / 256 ≡ others = omega arith in
    let ih = bytes_back k xs (λ i. octets (suc i)) (omega (arith, long)) in
    rw (moved, bytes_above 0 k (x + 256 * others), low, high, ih) refl

pub octets_after : (own others bytes : List ℕ) → AreOctets bytes → bytes ≡ own ++ others → AreOctets others
octets_after own others bytes octets same i =
    let e : get_or bytes (length own + i) 0 ≡ get_or others i 0 = ap (λ (xs : List ℕ). get_or xs (length own + i) 0) same ∙ get_or-append-add own others i 0 in
    omega (arith, octets (length own + i), e)
