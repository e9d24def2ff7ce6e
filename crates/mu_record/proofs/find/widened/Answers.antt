use Rattle.std.proofs.Common.{◌∙◌, List, ℕ, ap}
use Rattle.mu_model_flash.specs.Bits.{written}
use Rattle.mu_record.proofs.SpellLemmas.{zeros_after}
use Rattle.mu_record.proofs.find.widened.Goals as goal

pub returns : goal.returns
returns c =
    c.put.ensures.written ∙ ap (λ (z : List ℕ). written z 0 c.args.slot.now) c.no_octets-octets.ensures ∙ zeros_after c.args.slot.now c.told-slot
