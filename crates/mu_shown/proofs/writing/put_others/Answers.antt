use Rattle.std.proofs.Common.{ap, ◌∙◌, get_or, take, ◌∷◌}
use Rattle.std.specs.List.{flat_map}
use Rattle.mu_shown.specs.Seen.{value_seen}
use Rattle.mu_shown.specs.declared.fields.Field.{Field}
use Rattle.mu_shown.proofs.Told.{adds_then, adds_as, take_more, flat_more}
use Rattle.mu_shown.proofs.writing.put_others.Goals as goal

pub loop-field-preserved : goal.loop-field-preserved
loop-field-preserved g c =
    let values = c.args.fields.now in
    let i = c.loop-field.field-index in
    let other = λ (v : Field). 58 ∷ value_seen v in
    adds_as (flat_more other (take i values) (get_or values i _) ∙ ap (flat_map other) (take_more values i _ c.loop-field-test.true)) (adds_then c.loop-field.invariant c.put_other-done.ensures)
