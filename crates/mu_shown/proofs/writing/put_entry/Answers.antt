use Rattle.std.proofs.Common.{◌<◌, sym, ap, ◌∙◌, length, ◌∷◌, arith}
use Rattle.std.specs.List.{flat_map}
use Rattle.mu_shown.specs.Lines.{joined, value_text}
use Rattle.mu_shown.specs.Seen.{seen, value_seen}
use Rattle.mu_shown.specs.declared.fields.Field.{Field}
use Rattle.mu_shown.proofs.Told.{adds_then, adds_as, joined_map, twice, rest_whole}
use Rattle.mu_shown.proofs.writing.put_entry.Goals as goal

pub returns : goal.returns
returns g c =
    let some : 0 < length c.args.fields.now = grind (arith, c.is_empty.ensures, c.if-is_empty.false) in
    adds_as (joined_map 58 value_seen c.args.fields.now _ some ∙ ap (joined 58) (sym (twice value_text seen c.args.fields.now))) (adds_then c.put_value-first.ensures (adds_as (ap (flat_map (λ (v : Field). 58 ∷ value_seen v)) (rest_whole c.args.fields.now)) c.put_others.ensures))
