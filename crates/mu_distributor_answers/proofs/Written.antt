-- A list of receivers is in the ranges of the grammar, and shows the model's rows.
use Rattle.std.proofs.Common.{◌≡◌, ◌≤◌, ◌<◌, ◌*◌, ◌/◌, ℕ, zero, suc, List, [], ◌∷◌, map, length, get_or, refl, ap, arith}
use Rattle.std.specs.List.{All}
use Rattle.mu_model_wire.specs.Spelling.{Fits, EntriesFit, entries_spelling}
use Rattle.mu_model_wire.specs.Distribution.{distribution_rows, row_fields}
use Rattle.mu_model_wire.specs.Fields.{Shown}
use Rattle.mu_model_distributor.specs.Replies.{row_shown as row_of_model}
use Rattle.mu_distmsg.specs.declared.message.ReceiverRow.{ReceiverRow}
use Rattle.mu_distmsg.specs.declared.message.DistMsg.{DistMsg}
use Rattle.mu_distmsg.specs.declared.message.DistMsg.TheVariants.{ReceiversList}
use Rattle.mu_distmsg.specs.View.{view, row_shown, RowIsEven, IsEven, InRange}
use Rattle.mu_distributor_rows.specs.Receivers.{row_here}
use Rattle.mu_distributor_rows.specs.Replies.{AreListed}

pub rows_shown : (rows : List ReceiverRow) → map row_shown rows ≡ map row_of_model (map row_here rows)
rows_shown [] = refl
rows_shown (r ∷ rows) = ap (λ (l : List (List Shown)). row_shown r ∷ l) (rows_shown rows)

rows_fit : (rows : List ReceiverRow) → AreListed rows → EntriesFit row_fields (map row_shown rows)
rows_fit [] listed = tt
rows_fit (r ∷ rows) listed =
    let row = listed.0 in
    let receiver = row.shown.receiver in
    let progress = row.shown.progress in
    let half : r.progress / 2 ≤ 50 = omega (arith, progress) in
    (search (arith, receiver.address_above, receiver.address_below, receiver.index, receiver.phase, receiver.update_status, receiver.transfer_status, half), rows_fit rows listed.1)

rows_length : (rows : List ReceiverRow) → length (entries_spelling row_fields (map row_shown rows)) ≡ 5 * length rows
rows_length [] = refl
rows_length (r ∷ rows) = let ih = rows_length rows in omega (arith, ih)

even_at : (rows : List ReceiverRow) → AreListed rows → (k : ℕ) (d : ReceiverRow) → k < length rows → RowIsEven (get_or rows k d)
even_at [] listed k d lt = absurd (omega arith)
even_at (r ∷ rows) listed zero d lt = listed.0.even
even_at (r ∷ rows) listed (suc k) d lt = even_at rows listed.1 k d (omega arith)

pub rows_even : (rows : List ReceiverRow) → AreListed rows → All RowIsEven rows
rows_even rows listed = even_at rows listed

pub list_fits : (count first : ℕ) (rows : List ReceiverRow) → count < 65536 → first < 65536 → length rows ≤ 74 → AreListed rows → Fits distribution_rows (view (ReceiversList count first (record { items = rows })))
list_fits count first rows cl fl most listed =
    let l = rows_length rows in
    (((refl, cl), ((refl, fl), (refl, omega arith, rows_fit rows listed))), omega (arith, l, most))

pub in_range : (m : DistMsg) → Fits distribution_rows (view m) → IsEven m → InRange m
in_range m fits even = record { fits = fits; even = even }
