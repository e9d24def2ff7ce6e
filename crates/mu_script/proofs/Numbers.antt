-- The number that digits write, digit by digit.
use Rattle.std.proofs.Common.{◌≡◌, ◌<◌, ◌≤◌, ℕ, ◌+◌, ◌-◌, ◌*◌, List, [], ◌∷◌, length, drop, get_or, refl, arith, add-one, drop-cons}
use Rattle.mu_model_script.specs.Tokens.{digits_value}

-- further digits make a number no smaller
pub digits_value-ge : (n : ℕ) (digits : List ℕ) → n ≤ digits_value n digits
digits_value-ge n [] = omega arith
digits_value-ge n (digit ∷ digits) = let more = digits_value-ge (10 * n + (digit - 48)) digits in omega (arith, more)

-- one digit more
pub digits_value-drop : (n : ℕ) (digits : List ℕ) (i : ℕ) → i < length digits → digits_value n (drop i digits) ≡ digits_value (10 * n + (get_or digits i 0 - 48)) (drop (i + 1) digits)
digits_value-drop n digits i h = rw (drop-cons digits i 0, add-one) refl
