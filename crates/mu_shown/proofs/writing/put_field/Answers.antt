use Rattle.std.proofs.Common.{ℕ, ap, ◌∙◌, ◌++◌, ◌∷◌, [], List}
use Rattle.mu_model_wire.specs.Names.{field_texts, text_of}
use Rattle.mu_shown.proofs.Told.{adds_then, adds_as}
use Rattle.mu_shown.proofs.writing.put_field.Goals as goal

pub returns : goal.returns
returns g c = adds_then (adds_as (ap (λ (t : List ℕ). 32 ∷ t ++ 61 ∷ []) (c.text.ensures ∙ ap (text_of field_texts) c.name.ensures)) c.put_name-named.ensures) c.put_value.ensures
