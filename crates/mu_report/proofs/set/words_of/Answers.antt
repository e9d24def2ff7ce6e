use Rattle.std.proofs.Common.{◌≡◌, ◌<◌, ◌*◌, ℕ, length, get_or, drop}
use Rattle.byteorder.specs.Endian.{little_number}
use Rattle.mu_report.proofs.Octets.{read_words}
use Rattle.mu_report.proofs.set.words_of.Goals as goal

pub returns-clause-bits : goal.returns-clause-bits
returns-clause-bits c =
    let count : length c.read_u64_into.new.dst ≡ 32 = c.read_u64_into.auto.dst in
    let read : (k : ℕ) → k < length c.read_u64_into.new.dst → get_or c.read_u64_into.new.dst k 0 ≡ little_number 8 (drop (8 * k) c.padded.result) = c.read_u64_into.ensures in
    read_words c.args.octets.now c.padded.result c.read_u64_into.new.dst count c.requires (λ k. (c.type_inv.octets k).fits) c.padded.ensures read
