use Rattle.std.proofs.Common.{refl}
use Rattle.mu_model_wire.specs.Reading as reading
use Rattle.mu_model_mesh.proofs.laws.worked_objections.Goals as goal

pub returns : goal.returns
unfolding reading.opcode_at reading.word_at
returns c = record {
  used = refl;
  again = refl;
  fourth = refl;
  fifth = refl;
  kind = refl;
  past = refl;
  late_stock = refl;
  late_updater = refl;
  cut_updater = refl;
  cut_distributor = refl;
  tear_updater = refl;
  active_distributor = refl;
  rows_node = refl;
  rows_updater = refl;
  phase_updater = refl;
  time_unknown = refl;
  to_node = refl;
  to_distributor = refl;
  to_updater = refl;
  no_packet = refl;
  no_member = refl;
  shown = refl;
  not_shown = refl;
  as_distributor = refl;
  as_updater = refl;
  of_updater = refl;
  of_stranger = refl;
}
