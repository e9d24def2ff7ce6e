use Rattle.std.proofs.Common.{ap, ◌∙◌, get_or, take}
use Rattle.std.specs.List.{flat_map}
use Rattle.mu_shown.specs.Seen.{field_seen}
use Rattle.mu_shown.proofs.Told.{adds_then, adds_as, take_more, flat_more}
use Rattle.mu_shown.proofs.writing.put_fields.Goals as goal

pub loop-field-preserved : goal.loop-field-preserved
loop-field-preserved g c =
    let fields = c.args.fields.now in
    let i = c.loop-field.field-index in
    adds_as (flat_more field_seen (take i fields) (get_or fields i _) ∙ ap (flat_map field_seen) (take_more fields i _ c.loop-field-test.true)) (adds_then c.loop-field.invariant c.put_field-done.ensures)
