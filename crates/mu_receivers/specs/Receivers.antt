-- A receiver that is kept, as the model's receiver.
use Rattle.std.specs.Prelude.{List, [], map, if◌then◌else◌}
use Rattle.mu_model_client.specs.Client.{Receiver}
use Rattle.mu_model_client.specs.Rows.{Row}
use Rattle.mu_receivers.specs.declared.slot.Slot.{Slot}

abbrev pub row_of : Slot → Row
row_of s = record {
  address = s.address;
  index = s.index;
  phase = s.phase;
  update_status = s.update_status;
  transfer_status = s.transfer_status;
  progress = s.progress;
}

abbrev pub receiver_of : Slot → Receiver
receiver_of s = record {
  row = row_of s;
  standing = s.standing;
  pending = s.pending;
  heard = s.heard;
  silent = s.silent;
  barren = s.barren;
  blocks = s.blocks;
  chunks = s.chunks;
  wanted = if s.wants then s.wanted else [];
}

abbrev pub receivers_of : List Slot → List Receiver
receivers_of slots = map receiver_of slots

-- the receiver before the time event
abbrev pub before : Slot → Receiver
before s = record (receiver_of s) {
  row = record (row_of s) { phase = s.was.phase };
  standing = s.was.standing;
  pending = s.was.pending;
  heard = s.was.heard;
  silent = s.was.silent;
  wanted = if s.was.wants then s.wanted else [];
}
