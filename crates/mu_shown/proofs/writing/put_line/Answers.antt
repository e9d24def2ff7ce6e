use Rattle.std.proofs.Common.{◌≡◌, ap, ◌∙◌}
use Rattle.std.specs.List.{flat_map}
use Rattle.mu_shown.specs.Lines.{field_text}
use Rattle.mu_shown.specs.Seen.{field_seen}
use Rattle.mu_shown.proofs.Told.{adds_then, adds_as, added, seen_texts}
use Rattle.mu_shown.proofs.writing.put_line.Goals as goal

pub returns : goal.returns
returns g c = λ m shows.
    let fields : flat_map field_seen c.as_slice.result.now ≡ flat_map field_text m.fields = ap (flat_map field_seen) c.as_slice.ensures.value ∙ (seen_texts c.args.line.now.fields.items ∙ ap (flat_map field_text) shows.fields) in
    added _ _ _ _ _ _ _ (adds_then (adds_then (adds_then (adds_as shows.name c.put-named.ensures) (adds_as fields c.put_fields-shown.ensures)) (adds_as shows.list c.put_list-listed.ensures)) c.put.ensures)
