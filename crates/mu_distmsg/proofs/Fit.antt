-- What is read is in range.
use Rattle.std.proofs.Common.{◌≡◌, ◌≤◌, ◌<◌, ◌*◌, Bool, List, [], ◌∷◌, ◌++◌, length, map, Result, Ok, Err, refl, arith, length-append, inl, inr}
use Rattle.std.proofs.lemmas.Bool.{cases_lt}
use Rattle.std.proofs.lemmas.List.{get_or_append_left, get_or_at}
use Rattle.std.specs.List.{All}
use Rattle.mu_distmsg.specs.declared.message.ReceiverRow.{ReceiverRow}
use Rattle.std.specs.Prelude.{ℕ, IfOk, IsTrue, ◌↔◌}
use Rattle.mu_model_wire.specs.Spelling.{Fits, EntriesFit, entries_spelling}
use Rattle.mu_distmsg.specs.declared.message.DistMsg.TheVariants.{ReceiversAdd, ReceiversList}
use Rattle.mu_model_wire.specs.declared.Refusal.{Refusal}
use Rattle.mu_model_wire.specs.Reading.{Gives, message_at}
use Rattle.mu_model_wire.specs.Laws.{AreOctets, ReadsWhatIsSpelled}
use Rattle.mu_model_wire.specs.Distribution.{distribution_rows, receiver_fields, row_fields}
use Rattle.mu_distmsg.specs.declared.message.DistMsg.{DistMsg}
use Rattle.mu_distmsg.specs.View.{view, pair_shown, row_shown, RowIsEven, IsEven, InRange}

pub is_fit : ReadsWhatIsSpelled → (bytes : List ℕ) (r : Result DistMsg Refusal) → AreOctets bytes → Gives view r (message_at distribution_rows bytes) → IfOk r (λ m. IsEven m) → IfOk r (λ m. InRange m)
is_fit law bytes (Ok m) octets given even = record { fits = ((law distribution_rows bytes (view m) refl octets).0 given).0; even = even }
is_fit law bytes (Err e) octets given even = tt

pub all_even_push : (rows : List ReceiverRow) (row : ReceiverRow) → All RowIsEven rows → RowIsEven row → All RowIsEven (rows ++ row ∷ [])
all_even_push rows row even last = λ k d lt. elim (cases_lt k (length rows)) [
  | inl below ↦ rw (get_or_append_left rows (row ∷ []) d k below) (even k d below)
  | inr past ↦ rw (get_or_at rows row [] d k (omega (arith, lt, past, length-append rows (row ∷ [])))) last
]

-- ---- ranges

pairs_length : (pairs : List (ℕ × ℕ)) → length (entries_spelling receiver_fields (map pair_shown pairs)) ≡ 3 * length pairs
pairs_length [] = refl
pairs_length (p ∷ pairs) = let ih = pairs_length pairs in omega (arith, ih)

rows_length : (rows : List ReceiverRow) → length (entries_spelling row_fields (map row_shown rows)) ≡ 5 * length rows
rows_length [] = refl
rows_length (r ∷ rows) = let ih = rows_length rows in omega (arith, ih)

pub pairs_fit : (pairs : List (ℕ × ℕ)) (b : Bool) → 0 < length pairs → length pairs ≤ 126 → IsTrue b ↔ EntriesFit receiver_fields (map pair_shown pairs)
    → IsTrue b ↔ Fits distribution_rows (view (ReceiversAdd (record { items = pairs })))
pairs_fit pairs b some most is =
    let l = pairs_length pairs in
    ((λ t. ((refl, omega (arith, l, some), is.0 t), omega (arith, l, most))), (λ fits. is.1 fits.0.2))

pub rows_fit : (c f : ℕ) (rows : List ReceiverRow) (b : Bool) → c < 65536 → f < 65536 → length rows ≤ 74 → IsTrue b ↔ (EntriesFit row_fields (map row_shown rows) × All RowIsEven rows)
    → IsTrue b ↔ InRange (ReceiversList c f (record { items = rows }))
rows_fit c f rows b cl fl most is =
    let l = rows_length rows in
    ((λ t. let both = is.0 t in record { fits = (((refl, cl), ((refl, fl), (refl, omega arith, both.0))), omega (arith, l, most)); even = both.1 }), (λ range. is.1 (range.fits.0.1.1.2, range.even)))

pub in_range_of : (m : DistMsg) (b : Bool) → IsEven m → IsTrue b ↔ Fits distribution_rows (view m) → IsTrue b ↔ InRange m
in_range_of m b even is = ((λ t. record { fits = is.0 t; even = even }), (λ range. is.1 range.fits))
