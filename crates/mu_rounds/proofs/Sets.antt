-- Chunks lie in their block and in the image.
use Rattle.std.proofs.Common.{◌≡◌, ◌≤◌, ◌<◌, ◌+◌, ◌-◌, ◌*◌, ◌/◌, ◌^◌, ℕ, arith}
use Rattle.std.specs.Prelude.{min}
use Rattle.std.proofs.Math.Nat.{mul-le-mul_left}
use Rattle.std.proofs.lemmas.Nat.{pow_pos}
use Rattle.mu_model_client.specs.declared.Sending.{Sending}
use Rattle.mu_model_client.specs.Client.{block_total, chunk_total}
use Rattle.mu_receivers.specs.Reads.{Within}
use Rattle.mu_told.specs.Told.{IsSendable}

rounded : (s l b : ℕ) → 0 < l → b < (s + l - 1) / l → b * l < s
rounded s l b pos lt =
    let up : l * (b + 1) ≤ l * ((s + l - 1) / l) = mul-le-mul_left l (omega (arith, lt)) in
    omega (arith, up, pos)

pub begins_within : (p : Sending) (b k : ℕ) → IsSendable p → b < block_total p → k < chunk_total p b → Within p b k
begins_within p b k range block chunk =
    let some : 0 < 2 ^ p.log = pow_pos p.log in
    let front : b * 2 ^ p.log < p.size = rounded p.size (2 ^ p.log) b some block in
    let inside : k * p.chunk < min p.size ((b + 1) * 2 ^ p.log) - b * 2 ^ p.log = rounded (min p.size ((b + 1) * 2 ^ p.log) - b * 2 ^ p.log) p.chunk k (omega (arith, range.chunk_least)) chunk in
    let next : (b + 1) * 2 ^ p.log ≡ b * 2 ^ p.log + 2 ^ p.log = omega arith in
    record { image = omega (arith, front, inside, next); block = omega (arith, front, inside, next) }
