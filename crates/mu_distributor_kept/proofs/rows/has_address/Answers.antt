use Rattle.std.proofs.Common.{◌≡◌, ◌∙◌, ℕ, Bool, List, [], ◌∷◌, refl, ap}
use Rattle.std.specs.Prelude.{◌==◌, ◌||◌}
use Rattle.std.specs.List.{list_any}
use Rattle.mu_distmsg.specs.declared.message.ReceiverRow.{ReceiverRow}
use Rattle.mu_model_distributor.specs.Receivers.{has_address}
use Rattle.mu_distributor_kept.specs.Views.{row_receivers}
use Rattle.mu_distributor_kept.proofs.rows.has_address.Goals as goal

-- a row is looked for by its address alone
found_address : (rows : List ReceiverRow) (address : ℕ) → list_any (λ (r : ReceiverRow). r.address == address) rows ≡ has_address (row_receivers rows) address
found_address [] address = refl
found_address (r ∷ rows) address = ap (λ (b : Bool). (r.address == address) || b) (found_address rows address)

pub returns : goal.returns
returns c = c.any_has.ensures ∙ found_address c.args.rows.now c.args.address
