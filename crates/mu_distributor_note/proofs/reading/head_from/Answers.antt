use Rattle.std.proofs.Common.{◌∙◌, [], ap}
use Rattle.std.specs.Prelude.{slice_index}
use Rattle.mu_model_image.specs.Meta.{meta_of}
use Rattle.mu_distributor_note.proofs.Octets.{range-part, number_from}
use Rattle.mu_distributor_note.proofs.reading.head_from.Goals as goal

pub returns : goal.returns
returns c = λ i. record {
  phase = c.phase_from.ensures i;
  upload = c.upload_from.ensures i;
  banks = c.banks_from.ensures i;
  counter = (c.read_u64.ensures ∙ number_from c.args.octets.now 8 8) i;
  settings = c.settings_from.ensures i;
  receivers = [];
  upload_ttl = slice_index c.args.octets.now 27;
  upload_meta = (c.meta_of.ensures ∙ ap meta_of (range-part c.args.octets.now 28 40)) i;
}
