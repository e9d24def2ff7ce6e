-- The rules on rows and on banks, from the first to the last.
use Rattle.std.proofs.Common.{◌≡◌, ℕ, false, List, ◌∷◌, sym, subst}
use Rattle.mu_distmsg.specs.declared.message.ReceiverRow.{ReceiverRow}
use Rattle.mu_model_distributor.specs.Receivers.{has_address}
use Rattle.mu_model_distributor.specs.Sound.{IsReceiver}
use Rattle.mu_model_represents.specs.Images.{is_among, AllDiffer}
use Rattle.mu_distributor_kept.specs.Views.{row_receiver, row_receivers}
use Rattle.mu_distributor_note.specs.Rules.{AreRows}

-- what is said of the first row
pub record IsFirst (r : ReceiverRow) (rest : List ReceiverRow) : Type 0 where
  pub receiver : IsReceiver (row_receiver r)
  pub apart : has_address (row_receivers rest) r.address ≡ false

pub first_row : (r : ReceiverRow) (rest rows : List ReceiverRow) → rows ≡ r ∷ rest → AreRows (row_receivers rows) → IsFirst r rest × AreRows (row_receivers rest)
first_row r rest rows e h =
    let k = subst (λ (l : List ReceiverRow). AreRows (row_receivers l)) e h in
    (record { receiver = k.0.0; apart = k.1.0 }, (k.0.1, k.1.1))

pub rows_joined : (r : ReceiverRow) (rest rows : List ReceiverRow) → rows ≡ r ∷ rest → IsFirst r rest → AreRows (row_receivers rest) → AreRows (row_receivers rows)
rows_joined r rest rows e f h =
    subst (λ (l : List ReceiverRow). AreRows (row_receivers l)) (sym e) ((f.receiver, h.0), (f.apart, h.1))

pub first_bank : (b : ℕ) (rest banks : List ℕ) → banks ≡ b ∷ rest → AllDiffer banks → (is_among rest b ≡ false) × AllDiffer rest
first_bank b rest banks e h = let k = subst AllDiffer e h in (k.0, k.1)

pub banks_joined : (b : ℕ) (rest banks : List ℕ) → banks ≡ b ∷ rest → is_among rest b ≡ false → AllDiffer rest → AllDiffer banks
banks_joined b rest banks e f h = subst AllDiffer (sym e) (f, h)
