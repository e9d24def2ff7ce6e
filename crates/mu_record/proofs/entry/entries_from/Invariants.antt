use Rattle.std.proofs.Common.{◌≡◌, ℕ, ◌*◌, ◌<◌, length}
use Rattle.std.specs.Prelude.{slice_index_or}
use Rattle.mu_model_flash.specs.Bits.{part_of}
use Rattle.mu_model_record.specs.declared.BankState.TheVariants.{Empty}
use Rattle.mu_model_record.specs.Record.{IsEntry}
use Rattle.mu_record.proofs.entry.entries_from.Given as goal

abbrev pub invariant-loop-b : goal.invariant-loop-b
invariant-loop-b l = record {
  four : length l.banks ≡ 4;
  each : (k : ℕ) → k < l.b → IsEntry (slice_index_or l.banks k Empty) (part_of l.octets (48 * k) 48);
}
