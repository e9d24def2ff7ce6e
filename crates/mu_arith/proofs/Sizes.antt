-- Sizes of blocks.
use Rattle.std.proofs.Common.{◌≡◌, ℕ, ◌+◌, ◌-◌, ◌*◌, ◌/◌, ◌%◌, ◌^◌, ◌≤◌, ◌<◌, min, lit≤, ap, inl, inr, arith, sym, ◌∙◌}
use Rattle.std.proofs.Math.Nat.{pow-le-pow_right, add-mul, one-mul}
use Rattle.std.proofs.lemmas.Nat.{one_shl, div_below, div-add-mod', div-mul-add, mod_below}
use Rattle.std.proofs.lemmas.Bool.{cases_lt}
use Rattle.std.specs.Int.{div_ceil}

-- the size of a block, as the code computes it
pub shifted : (log : ℕ) → log ≤ 14 → (1 * 2 ^ log) % 2 ^ 32 ≡ 2 ^ log
shifted log most = one_shl log 32 (omega arith)

pub least : (log : ℕ) → 12 ≤ log → 4096 ≤ 2 ^ log
least log h = pow-le-pow_right {n = 2} (lit≤ tt) h

pub most : (log : ℕ) → log ≤ 14 → 2 ^ log ≤ 16384
most log h = pow-le-pow_right {n = 2} (lit≤ tt) h

-- an image has at most 256 blocks
pub few : (size n : ℕ) → size ≤ 1048576 → 4096 ≤ n → (size + n - 1) / n ≤ 256
few size n small large = let h = div_below (size + n - 1) n 257 (omega arith) (omega arith) in omega arith

-- a division rounded up, in two ways
pub rounded : (size n : ℕ) → 0 < n → div_ceil size n ≡ (size + n - 1) / n
rounded size n some =
    let q = size / n in
    let r = size % n in
    let parts : q * n + r ≡ size = div-add-mod' size n in
    let small : r < n = mod_below size n some in
    elim (cases_lt 0 r) [
      | inl rest ↦ (
          let next : (q + 1) * n ≡ q * n + n = add-mul q 1 n ∙ ap (λ (x : ℕ). q * n + x) (one-mul n) in
          let sum : size + n - 1 ≡ (q + 1) * n + (r - 1) = omega arith in
          let up : min 1 r ≡ 1 = omega arith in
          ap (λ (x : ℕ). q + x) up ∙ sym (div-mul-add (q + 1) n (r - 1) (omega arith)) ∙ ap (λ (x : ℕ). x / n) (sym sum))
      | inr none ↦ (
          let sum : size + n - 1 ≡ q * n + (n - 1) = omega arith in
          let up : q + min 1 r ≡ q = omega arith in
          up ∙ sym (div-mul-add q n (n - 1) (omega arith)) ∙ ap (λ (x : ℕ). x / n) (sym sum))
    ]

-- the same with the size of a block as the code computes it
pub counted : (size log count : ℕ) → 12 ≤ log → log ≤ 14 → count ≡ div_ceil size ((1 * 2 ^ log) % 2 ^ 32) → count ≡ (size + 2 ^ log - 1) / 2 ^ log
counted size log count low high e =
    let some = least log low in
    e ∙ ap (div_ceil size) (shifted log high) ∙ rounded size (2 ^ log) (omega arith)

pub few_blocks : (size log count : ℕ) → size ≤ 1048576 → 12 ≤ log → log ≤ 14 → count ≡ div_ceil size ((1 * 2 ^ log) % 2 ^ 32) → count ≤ 256
few_blocks size log count small low high e =
    omega (arith, counted size log count low high e, few size (2 ^ log) small (least log low))
