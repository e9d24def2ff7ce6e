-- What octets say of the job of a BLOB server.
use Rattle.std.proofs.Common.{◌≡◌, ◌≤◌, ℕ, List, Option, Some, None, arith}
use Rattle.std.specs.Prelude.{slice_index}
use Rattle.mu_model_record.specs.Record.{zeros, number_at}
use Rattle.mu_model_node.specs.declared.Parameters.{Parameters}
use Rattle.mu_model_represents.specs.BlobPart.{BlobJob, HasParameters, SpellsJob, IsBlobPart}

-- with mode 0 there are no parameters, and their places are 0
pub mode_0 : (size : ℕ) (q : Option Parameters) (octets : List ℕ) → slice_index octets 1 ≡ 0 → HasParameters size q octets
    → (number_at 2 octets 2 ≡ 0) × (slice_index octets 19 ≡ 0)
mode_0 size None octets zero h = (h.no_mtu_at_2, h.no_log_at_19)
mode_0 size (Some p) octets zero h = absurd (omega (arith, zero, h.mode_at_1, h.mode_least))

-- with another it is push or pull, and the MTU is at least 20
pub mode_some : (size : ℕ) (q : Option Parameters) (octets : List ℕ) → (slice_index octets 1 ≡ 0 → ⊥) → HasParameters size q octets
    → (slice_index octets 1 ≤ 2) × (20 ≤ number_at 2 octets 2)
mode_some size None octets some h = absurd (some h.no_mode_at_1)
mode_some size (Some p) octets some h = (omega (arith, h.mode_at_1, h.mode_most), omega (arith, h.mtu_at_2, h.mtu_least))

pub none_spelled : (octets : List ℕ) → (octets ≡ zeros 64 → ⊥) → ((j : BlobJob) → SpellsJob j octets → ⊥) → (part : Option BlobJob) → IsBlobPart part octets → ⊥
none_spelled octets some none None h = some h
none_spelled octets some none (Some j) h = none j h
