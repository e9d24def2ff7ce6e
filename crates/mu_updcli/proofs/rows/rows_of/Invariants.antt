use Rattle.std.proofs.Common.{◌≡◌, map, take}
use Rattle.arrayvec.specs.ArrayVec.{array_vec_len}
use Rattle.mu_model_client.specs.Client.{row_of as row_seen}
use Rattle.mu_receivers.specs.Receivers.{receivers_of}
use Rattle.mu_updcli.specs.Client.{row_shown}
use Rattle.mu_updcli.proofs.rows.rows_of.Given as goal

abbrev pub invariant-loop-slot : goal.invariant-loop-slot
invariant-loop-slot l = record {
  count : array_vec_len l.rows ≡ l.slot-index;
  rows : map row_shown l.rows.items ≡ map row_seen (receivers_of (take l.slot-index l.slots));
}
