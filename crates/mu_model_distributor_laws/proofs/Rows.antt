-- The receivers that are kept, and the rows of a client.
use Rattle.std.proofs.Common.{◌≡◌, ◌<◌, ◌≤◌, ℕ, suc, List, [], ◌∷◌, ◌++◌, length, map, refl, sym, ap, subst, ◌∙◌, arith}
use Rattle.std.specs.List.{AllByRecursion}
use Rattle.std.proofs.lemmas.List.{length-map}
use Rattle.mu_model_client.specs.Rows.{Row}
use Rattle.mu_model_client.specs.Client.{Receiver as Told, row_of}
use Rattle.mu_model_distributor.specs.DistState.{Receiver, receiver_of, progress_of, rows_by, no_progress}
use Rattle.mu_model_distributor.specs.Receivers.{has_address}
use Rattle.mu_model_distributor.specs.Sound.{IsReceiver, AreReceivers, AddressesDiffer}
use Rattle.mu_model_distributor_laws.proofs.ClientRows.{Keeps, InRange}
use Rattle.mu_model_distributor_laws.proofs.ClientDue.{RowsKeep}

abbrev pub kept_of : List Told → List Receiver
kept_of rs = map receiver_of (map row_of rs)

abbrev pub percents_of : List Told → List ℕ
percents_of rs = map progress_of (map row_of rs)

abbrev pub ArePercents : List ℕ → Type 0
ArePercents ns = AllByRecursion (λ n. n ≤ 100) ns

-- ---- what a client makes of the receivers

in_range : (row : Row) → IsReceiver (receiver_of row) → row.progress ≤ 100 → InRange row
in_range row h k = record { phase = h.phase; update_status = h.update_status; transfer_status = h.transfer_status; progress = k }

receiver_kept : (old new : Row) → Keeps old new → InRange new → IsReceiver (receiver_of old) → IsReceiver (receiver_of new)
receiver_kept old new k r h = record {
  address_above = subst (λ n. 1 ≤ n) (sym k.address) h.address_above;
  address_below = subst (λ n. n ≤ 0x7FFF) (sym k.address) h.address_below;
  index = subst (λ n. n < 256) (sym k.index) h.index;
  phase = r.phase;
  update_status = r.update_status;
  transfer_status = r.transfer_status;
}

pub kept_ranges : (rs ss : List Told) → RowsKeep rs ss → AreReceivers (kept_of rs) → ArePercents (percents_of rs) → AreReceivers (kept_of ss) × ArePercents (percents_of ss)
kept_ranges [] [] k h p = (tt, tt)
kept_ranges [] (s ∷ ss) k h p = absurd k
kept_ranges (r ∷ rs) [] k h p = absurd k
kept_ranges (r ∷ rs) (s ∷ ss) k h p =
    let now : InRange s.row = k.0.in_range (in_range r.row h.0 p.0) in
    let rest = kept_ranges rs ss k.1 h.1 p.1 in
    ((receiver_kept r.row s.row k.0 now h.0, rest.0), (now.progress, rest.1))

kept_has : (rs ss : List Told) → RowsKeep rs ss → (address : ℕ) → has_address (kept_of ss) address ≡ has_address (kept_of rs) address
kept_has [] [] k address = refl
kept_has [] (s ∷ ss) k address = absurd k
kept_has (r ∷ rs) [] k address = absurd k
kept_has (r ∷ rs) (s ∷ ss) k address = rw (k.0.address, kept_has rs ss k.1 address) refl

pub kept_differ : (rs ss : List Told) → RowsKeep rs ss → AddressesDiffer (kept_of rs) → AddressesDiffer (kept_of ss)
kept_differ [] [] k h = tt
kept_differ [] (s ∷ ss) k h = absurd k
kept_differ (r ∷ rs) [] k h = absurd k
kept_differ (r ∷ rs) (s ∷ ss) k h = (kept_has rs ss k.1 s.row.address ∙ (rw (k.0.address) h.0), kept_differ rs ss k.1 h.1)

pub kept_length : (rs ss : List Told) → RowsKeep rs ss → length (kept_of ss) ≡ length (kept_of rs)
kept_length [] [] k = refl
kept_length [] (s ∷ ss) k = absurd k
kept_length (r ∷ rs) [] k = absurd k
kept_length (r ∷ rs) (s ∷ ss) k = ap suc (kept_length rs ss k.1)

pub percents_length : (rs : List Told) → length (percents_of rs) ≡ length (kept_of rs)
percents_length [] = refl
percents_length (r ∷ rs) = ap suc (percents_length rs)

-- ---- the receivers with their progress

pub rows_back : (receivers : List Receiver) (progress : List ℕ) → length progress ≡ length receivers → (map receiver_of (rows_by receivers progress) ≡ receivers) × (map progress_of (rows_by receivers progress) ≡ progress)
rows_back [] [] e = (refl, refl)
rows_back [] (n ∷ progress) e = absurd (omega arith)
rows_back (r ∷ receivers) [] e = absurd (omega arith)
rows_back (r ∷ receivers) (n ∷ progress) e =
    let rest = rows_back receivers progress (omega arith) in
    (ap (λ more. r ∷ more) rest.0, ap (λ more. n ∷ more) rest.1)

pub none_percents : (receivers : List Receiver) → ArePercents (no_progress receivers)
none_percents [] = tt
none_percents (r ∷ receivers) = (omega arith, none_percents receivers)

pub none_length : (receivers : List Receiver) → length (no_progress receivers) ≡ length receivers
none_length receivers = length-map receivers _

pub percents_join : (a b : List ℕ) → ArePercents a → ArePercents b → ArePercents (a ++ b)
percents_join [] b h k = k
percents_join (n ∷ a) b h k = (h.0, percents_join a b h.1 k)
