-- The octets of rows that are written one after the other.
use Rattle.std.proofs.Common.{◌≡◌, ℕ, ◌+◌, ◌*◌, ◌-◌, ◌≤◌, ◌++◌, List, [], ◌∷◌, length, take, drop, get_or, ◌<◌, ◌∙◌, sym, ap, refl, arith, append_assoc, append-nil, length-append}
use Rattle.std.specs.List.{flat_map}
use borrow.Rule.Slice.PartMut.{put_mid}
use Rattle.std.proofs.lemmas.List.{take_at, drop_at, take_more, flat_map_more}
use Rattle.mu_distmsg.specs.declared.message.ReceiverRow.{ReceiverRow}
use Rattle.mu_model_record.specs.Record.{zeros}
use Rattle.mu_model_represents_distributor.specs.DistributorNote.{receiver_octets}
use Rattle.mu_distributor_kept.specs.Views.{row_receiver, row_receivers}
use Rattle.mu_distributor_note.proofs.Octets.{drop-zeros}

abbrev pub row_octets : ReceiverRow → List ℕ
row_octets r = receiver_octets (row_receiver r)

pub length_rows : (rows : List ReceiverRow) → length (flat_map row_octets rows) ≡ 6 * length rows
length_rows [] = refl
length_rows (r ∷ rows) = let six : length (row_octets r) ≡ 6 = refl in omega (arith, length-append (row_octets r) (flat_map row_octets rows), length_rows rows)

pub rows_written : (rows : List ReceiverRow) → flat_map row_octets rows ≡ flat_map receiver_octets (row_receivers rows)
rows_written [] = refl
rows_written (r ∷ rows) = ap (λ (l : List ℕ). row_octets r ++ l) (rows_written rows)

-- one more row, in the octets that are 0 yet
pub row_put : (done row : List ℕ) (at size left less : ℕ) → length done ≡ at → size ≡ 6 → less ≡ left - 6
    → put_mid at size (done ++ zeros left) row ≡ (done ++ row) ++ zeros less
row_put done row at size left less is_at is_six is_less =
    ap (λ (l : List ℕ). l ++ (row ++ drop size (drop at (done ++ zeros left)))) (take_at done (zeros left) at is_at)
    ∙ ap (λ (l : List ℕ). done ++ (row ++ drop size l)) (drop_at done (zeros left) at is_at)
    ∙ ap (λ (l : List ℕ). done ++ (row ++ l)) (drop-zeros size left ∙ ap zeros (omega (arith, is_six, is_less)))
    ∙ sym (append_assoc done row (zeros less))

-- the octets of one row more
pub row_next : (rows : List ReceiverRow) (i : ℕ) (d : ReceiverRow) (row : List ℕ) → i < length rows → row ≡ row_octets (get_or rows i d)
    → flat_map row_octets (take (i + 1) rows) ≡ flat_map row_octets (take i rows) ++ row
row_next rows i d row lt is =
    ap (flat_map row_octets) (take_more rows i d lt) ∙ sym (flat_map_more row_octets [] (take i rows) (get_or rows i d))
    ∙ ap (λ (l : List ℕ). flat_map row_octets (take i rows) ++ l) (sym is)

-- ---- the octets before the rows

pub first_put : (o a b : List ℕ) → o ≡ zeros 128 → length a ≡ 28 → put_mid 28 40 (a ++ drop 28 o) b ≡ a ++ (b ++ zeros 60)
first_put o a b blank long =
    ap (λ (l : List ℕ). l ++ (b ++ drop 40 (drop 28 (a ++ drop 28 o)))) (take_at a (drop 28 o) 28 long)
    ∙ ap (λ (l : List ℕ). a ++ (b ++ drop 40 l)) (drop_at a (drop 28 o) 28 long)
    ∙ ap (λ (l : List ℕ). a ++ (b ++ drop 40 (drop 28 l))) blank
    ∙ ap (λ (l : List ℕ). a ++ (b ++ drop 40 l)) (drop-zeros 28 128)
    ∙ ap (λ (l : List ℕ). a ++ (b ++ l)) (drop-zeros 40 100)

pub all_joined : (h m z r : List ℕ) → (h ++ (m ++ z)) ++ (r ++ []) ≡ h ++ (m ++ (z ++ r))
all_joined h m z r =
    ap (λ (l : List ℕ). (h ++ (m ++ z)) ++ l) (append-nil r) ∙ append_assoc h (m ++ z) r ∙ ap (λ (l : List ℕ). h ++ l) (append_assoc m z r)
