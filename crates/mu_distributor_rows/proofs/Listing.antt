-- Rows as a message shows them.
use Rattle.std.proofs.Common.{◌≡◌, ◌∙◌, ℕ, zero, suc, ◌+◌, ◌-◌, ◌*◌, ◌/◌, ◌%◌, ◌<◌, ◌≤◌, ⊎_elim, min, List, [], ◌∷◌, ◌++◌, map, length, take, drop, get_or, refl, sym, ap, subst, arith, length-append, length-drop}
use Rattle.std.specs.List.{AllByRecursion, drop-map}
use Rattle.std.proofs.lemmas.Bool.{cases_lt}
use Rattle.std.proofs.lemmas.List.{map-append, take-map, take_all, drop_all, length-map}
use Rattle.mu_model_distributor.specs.Sound.{IsReceiver}
use Rattle.mu_distmsg.specs.declared.message.ReceiverRow.{ReceiverRow}
use Rattle.mu_model_client.specs.Rows.{Row}
use Rattle.mu_model_distributor.specs.DistState.{Receiver, DistState, rows_by, rows_of}
use Rattle.mu_model_distributor.specs.Receivers.{rounded, receivers_list}
use Rattle.mu_model_distributor.specs.Replies.{DistReply, ReceiversList}
use Rattle.mu_distributor_kept.specs.Views.{row_receiver, row_receivers}
use Rattle.mu_distributor_rows.specs.Receivers.{progress_in, row_here, AreRowsOf, IsShownRow}
use Rattle.mu_distributor_rows.specs.Replies.{IsListedRow, AreListed}

-- the rows of a distributor are those in memory
rows_here : (rows : List ReceiverRow) → rows_by (row_receivers rows) (map progress_in rows) ≡ map row_here rows
rows_here [] = refl
rows_here (r ∷ rows) = ap (λ (l : List Row). row_here r ∷ l) (rows_here rows)

pub rows_are : (s : DistState) (rows : List ReceiverRow) → AreRowsOf rows s → rows_of s ≡ map row_here rows
rows_are s rows are = (λ i. rows_by (are.receivers i) (are.progress i)) ∙ rows_here rows

-- ---- one by one

pub record Shown (shown rows : List ReceiverRow) (i : ℕ) : Type 0 where
  pub count : length shown ≡ i
  pub listed : AreListed shown
  pub are : map row_here shown ≡ map rounded (map row_here (take i rows))

listed_more : (shown : List ReceiverRow) (r : ReceiverRow) → AreListed shown → IsListedRow r → AreListed (shown ++ r ∷ [])
listed_more [] r h is = (is, tt)
listed_more (x ∷ shown) r h is = (h.0, listed_more shown r h.1 is)

-- a row that is shown is shown rounded
pub listed_row : (r q : ReceiverRow) → IsShownRow r → row_receiver q ≡ row_receiver r → q.progress ≡ 2 * (r.progress / 2) → IsListedRow q
listed_row r q is same even = record {
  shown = record { receiver = subst IsReceiver (sym same) is.receiver; progress = omega (arith, is.progress, even) };
  even = omega (arith, even);
}

pub shown_at : (rows : List ReceiverRow) (i : ℕ) (d : ReceiverRow) → AllByRecursion IsShownRow rows → i < length rows → IsShownRow (get_or rows i d)
shown_at [] i d h lt = absurd (omega arith)
shown_at (r ∷ rows) zero d h lt = h.0
shown_at (r ∷ rows) (suc i) d h lt = shown_at rows i d h.1 (omega (arith, lt))

pub shown_more : (shown rows : List ReceiverRow) (i : ℕ) (r q : ReceiverRow) → take (i + 1) rows ≡ take i rows ++ r ∷ [] → row_here q ≡ rounded (row_here r) → IsListedRow q
    → Shown shown rows i → Shown (shown ++ q ∷ []) rows (i + 1)
shown_more shown rows i r q next same is h = record {
  count = length-append shown (q ∷ []) ∙ ap (λ (n : ℕ). n + 1) h.count;
  listed = listed_more shown q h.listed is;
  are =
      map-append row_here shown (q ∷ []) ∙ (λ k. h.are k ++ same k ∷ [])
      ∙ sym (ap (λ (l : List ReceiverRow). map rounded (map row_here l)) next
      ∙ ap (map rounded) (map-append row_here (take i rows) (r ∷ [])) ∙ map-append rounded (map row_here (take i rows)) (row_here r ∷ []));
}

-- ---- the list

drop_clipped : (rows : List ReceiverRow) (first from : ℕ) → from ≡ min first (length rows) → drop from rows ≡ drop first rows
drop_clipped rows first from is =
    ⊎_elim (λ (lt : first < length rows). ap (λ (n : ℕ). drop n rows) (omega (arith, is, lt)))
    (λ (le : length rows ≤ first). drop_all from rows (omega (arith, is, le)) ∙ sym (drop_all first rows le)) (cases_lt first (length rows))

take_clipped : (wanted most : ℕ) (rows : List ReceiverRow) → most ≡ min wanted (length rows) → take most rows ≡ take wanted rows
take_clipped wanted most rows is =
    ⊎_elim (λ (lt : wanted < length rows). ap (λ (n : ℕ). take n rows) (omega (arith, is, lt)))
    (λ (le : length rows ≤ wanted). take_all most rows (omega (arith, is, le)) ∙ sym (take_all wanted rows le)) (cases_lt wanted (length rows))

map_twice : (l : List ReceiverRow) → map rounded (map row_here l) ≡ map (λ (r : ReceiverRow). rounded (row_here r)) l
map_twice [] = refl
map_twice (r ∷ l) = ap (λ (m : List Row). rounded (row_here r) ∷ m) (map_twice l)

part_shown : (rows : List ReceiverRow) (n k : ℕ) → take n (drop k (map rounded (map row_here rows))) ≡ map rounded (map row_here (take n (drop k rows)))
part_shown rows n k =
    ap (λ (l : List Row). take n (drop k l)) (map_twice rows) ∙ ap (take n) (drop-map (λ (r : ReceiverRow). rounded (row_here r)) k rows)
    ∙ take-map (λ (r : ReceiverRow). rounded (row_here r)) n (drop k rows) ∙ sym (map_twice (take n (drop k rows)))

clipped_at : (rows : List ReceiverRow) (first from most wanted : ℕ) → from ≡ min first (length rows) → most ≡ min wanted (length rows - from)
    → take most (drop from rows) ≡ take wanted (drop first rows)
clipped_at rows first from most wanted is_from is_most =
    let past : drop from rows ≡ drop first rows = drop_clipped rows first from is_from in
    let count : length (drop from rows) ≡ length rows - from = length-drop from rows in
    ap (take most) past ∙ take_clipped wanted most (drop first rows) (is_most ∙ ap (λ (n : ℕ). min wanted n) (sym count ∙ ap (λ (l : List ReceiverRow). length l) past))

-- from a place that is within the rows, and no more than there are
clipped : (rows : List ReceiverRow) (first from most limit : ℕ) → from ≡ min first (length rows) → most ≡ min (min limit 74) (length rows - from)
    → take most (drop from rows) ≡ take (min limit 74) (drop first rows)
clipped rows first from most limit is_from is_most = clipped_at rows first from most (min limit 74) is_from is_most

pub listed : (s : DistState) (rows : List ReceiverRow) (first limit from most : ℕ) → AreRowsOf rows s → from ≡ min first (length rows) → most ≡ min (min limit 74) (length rows - from)
    → receivers_list first limit s ≡ ReceiversList (length rows) first (map rounded (map row_here (take most (drop from rows))))
listed s rows first limit from most are is_from is_most =
    (λ i. ReceiversList (length (are.receivers i)) first (take (min limit 74) (drop first (map rounded (rows_are s rows are i)))))
    ∙ (λ i. ReceiversList (length-map rows row_receiver i) first (part_shown rows (min limit 74) first i))
    ∙ ap (λ (l : List ReceiverRow). ReceiversList (length rows) first (map rounded (map row_here l))) (sym (clipped rows first from most limit is_from is_most))
