-- Receivers that are added to the rows.
use Rattle.std.proofs.Common.{◌≡◌, ◌∙◌, ℕ, ◌+◌, ◌<◌, ◌≤◌, Bool, true, false, List, [], ◌∷◌, ◌++◌, map, length, take, drop, get_or, Result, Ok, Err, refl, sym, ap, subst, cond, arith, append_assoc, append-nil, length-append, drop-cons, add-one}
use Rattle.std.specs.Prelude.{◌==◌, nat_lt}
use Rattle.std.proofs.lemmas.List.{length-map, map-append, take_at, drop_at}
use Rattle.std.proofs.lemmas.Bool.{lt-ltb, le-ltb}
use Rattle.std.proofs.lemmas.Bool.Decides.{nat_tests}
use Rattle.mu_distmsg.specs.declared.message.ReceiverRow.{ReceiverRow}
use Rattle.mu_model_distributor.specs.Requests.{Entry}
use Rattle.mu_model_distributor.specs.declared.DistPhase.{DistPhase}
use Rattle.mu_model_distributor.specs.declared.DistPhase.TheVariants.{Idle}
use Rattle.mu_model_distributor.specs.DistState.{Receiver, DistDurable, DistState, no_progress}
use Rattle.mu_model_distributor.specs.Receivers.{new_receiver, has_address, added, is_idle, receivers_add, receivers_delete_all, with_receivers, busy_with_distribution, insufficient_resources}
use Rattle.mu_model_distributor.specs.Replies.{most_receivers}
use Rattle.mu_distributor_kept.specs.Views.{row_receiver, row_receivers}
use Rattle.mu_distributor_rows.specs.Due.{IsDue}
use Rattle.mu_distributor_rows.specs.Receivers.{progress_in, AreRowsOf, with_rows, rows_stepped, entry_of_pair, entries_of, GrownBy, Grown}

-- ---- one by one

pub drop_next : {A : Type 0} (xs : List A) (i : ℕ) (d : A) → i < length xs → drop i xs ≡ get_or xs i d ∷ drop (i + 1) xs
drop_next xs i d lt = drop-cons xs i d lt ∙ ap (λ (n : ℕ). get_or xs i d ∷ drop n xs) (sym (add-one i))

pub record Adding (old new : List ReceiverRow) (entries : List (ℕ × ℕ)) (i : ℕ) : Type 0 where
  pub grown : Grown old new
  pub left : added (row_receivers new) (entries_of (drop i entries)) ≡ added (row_receivers old) (entries_of entries)

pub nothing_grown : (rows : List ReceiverRow) → Grown rows rows
nothing_grown rows = ([], record { is = sym (append-nil rows); blank = refl })

zero_more : (tail : List ReceiverRow) (r : ReceiverRow) → no_progress (row_receivers (tail ++ r ∷ [])) ≡ no_progress (row_receivers tail) ++ 0 ∷ []
zero_more tail r =
    ap no_progress (map-append row_receiver tail (r ∷ [])) ∙ map-append (λ (x : Receiver). 0) (row_receivers tail) (row_receiver r ∷ [])

blank_more : (tail : List ReceiverRow) (r : ReceiverRow) → map progress_in tail ≡ no_progress (row_receivers tail) → r.progress ≡ 0
    → map progress_in (tail ++ r ∷ []) ≡ no_progress (row_receivers (tail ++ r ∷ []))
blank_more tail r e z = map-append progress_in tail (r ∷ []) ∙ (λ i. e i ++ z i ∷ []) ∙ sym (zero_more tail r)

grown_more : (old new : List ReceiverRow) (r : ReceiverRow) → r.progress ≡ 0 → Grown old new → Grown old (new ++ r ∷ [])
grown_more old new r z g =
    (g.0 ++ r ∷ [], record { is = ap (λ (l : List ReceiverRow). l ++ r ∷ []) g.1.is ∙ append_assoc old g.0 (r ∷ []); blank = blank_more g.0 r g.1.blank z })

-- the next entry
entry_step : (new : List ReceiverRow) (entries rest : List (ℕ × ℕ)) (e : ℕ × ℕ) → entries ≡ e ∷ rest → (b : Bool) → has_address (row_receivers new) e.0 ≡ b
    → added (row_receivers new) (entries_of entries) ≡ cond b (added (row_receivers new) (entries_of rest)) (added (row_receivers new ++ new_receiver (entry_of_pair e) ∷ []) (entries_of rest))
entry_step new entries rest e is b there =
    ap (λ (l : List (ℕ × ℕ)). added (row_receivers new) (entries_of l)) is
    ∙ ap (λ (c : Bool). cond c (added (row_receivers new) (entries_of rest)) (added (row_receivers new ++ new_receiver (entry_of_pair e) ∷ []) (entries_of rest))) there

pub passed_over : (old new : List ReceiverRow) (entries : List (ℕ × ℕ)) (i : ℕ) (e : ℕ × ℕ) → drop i entries ≡ e ∷ drop (i + 1) entries → has_address (row_receivers new) e.0 ≡ true
    → Adding old new entries i → Adding old new entries (i + 1)
passed_over old new entries i e is there h = record {
  grown = h.grown;
  left = sym (entry_step new (drop i entries) (drop (i + 1) entries) e is true there) ∙ h.left;
}

pub put : (old new : List ReceiverRow) (entries : List (ℕ × ℕ)) (i : ℕ) (e : ℕ × ℕ) (r : ReceiverRow) → drop i entries ≡ e ∷ drop (i + 1) entries
    → has_address (row_receivers new) e.0 ≡ false → row_receiver r ≡ new_receiver (entry_of_pair e) → r.progress ≡ 0
    → Adding old new entries i → Adding old (new ++ r ∷ []) entries (i + 1)
put old new entries i e r is there one zero h = record {
  grown = grown_more old new r zero h.grown;
  left =
      ap (λ (l : List Receiver). added l (entries_of (drop (i + 1) entries))) (map-append row_receiver new (r ∷ []) ∙ ap (λ (x : Receiver). row_receivers new ++ x ∷ []) one)
      ∙ sym (entry_step new (drop i entries) (drop (i + 1) entries) e is false there) ∙ h.left;
}

added_step : (b : Bool) (xs ys : List Receiver) (n : ℕ) → n ≤ length xs → n ≤ length ys → n ≤ length (cond b xs ys)
added_step true xs ys n h k = h
added_step false xs ys n h k = k

-- none goes
added_longer : (receivers : List Receiver) (entries : List Entry) → length receivers ≤ length (added receivers entries)
added_longer receivers [] = omega arith
added_longer receivers (e ∷ entries) =
    added_step (has_address receivers e.address) (added receivers entries) (added (receivers ++ new_receiver e ∷ []) entries) (length receivers) (added_longer receivers entries)
    (omega (arith, added_longer (receivers ++ new_receiver e ∷ []) entries, length-append receivers (new_receiver e ∷ [])))

pub too_many : (old new : List ReceiverRow) (entries : List (ℕ × ℕ)) (i : ℕ) (e : ℕ × ℕ) → drop i entries ≡ e ∷ drop (i + 1) entries → has_address (row_receivers new) e.0 ≡ false
    → length new ≡ 128 → Adding old new entries i → 128 < length (added (row_receivers old) (entries_of entries))
too_many old new entries i e is there full h =
    let one : List Receiver = row_receivers new ++ new_receiver (entry_of_pair e) ∷ [] in
    let longer : length one ≤ length (added one (entries_of (drop (i + 1) entries))) = added_longer one (entries_of (drop (i + 1) entries)) in
    let count : length one ≡ 129 = length-append (row_receivers new) (new_receiver (entry_of_pair e) ∷ []) ∙ ap (λ (n : ℕ). n + 1) (length-map new row_receiver ∙ full) in
    let same : length (added one (entries_of (drop (i + 1) entries))) ≡ length (added (row_receivers old) (entries_of entries)) =
    ap (λ (l : List Receiver). length l) (sym (entry_step new (drop i entries) (drop (i + 1) entries) e is false there) ∙ h.left) in
    omega (arith, longer, count, same)

-- ---- the request

pub add_busy : (s : DistState) (phase : DistPhase) (entries : List Entry) → s.durable.phase ≡ phase → is_idle phase ≡ false → receivers_add s entries ≡ Err busy_with_distribution
add_busy s phase entries is busy = rw (is, busy) refl

pub add_full : (s : DistState) (phase : DistPhase) (rows : List ReceiverRow) (entries : List Entry) → s.durable.phase ≡ phase → is_idle phase ≡ true → AreRowsOf rows s
    → 128 < length (added (row_receivers rows) entries) → receivers_add s entries ≡ Err insufficient_resources
add_full s phase rows entries is idle are many =
    let more : nat_lt most_receivers (length (added s.durable.receivers entries)) ≡ true = rw are.receivers (lt-ltb 128 (length (added (row_receivers rows) entries)) many) in
    rw (is, idle, more) refl

-- with the rows that have grown
grown_rows : (s : DistState) (old new : List ReceiverRow) (entries : List Entry) → AreRowsOf old s → Grown old new → row_receivers new ≡ added (row_receivers old) entries
    → with_receivers s (added s.durable.receivers entries) (s.progress ++ no_progress (drop (length s.durable.receivers) (added s.durable.receivers entries))) ≡ with_rows s new
grown_rows s old new entries are g e =
    let all : added s.durable.receivers entries ≡ row_receivers new = ap (λ (l : List Receiver). added l entries) are.receivers ∙ sym e in
    let parts : row_receivers new ≡ row_receivers old ++ row_receivers g.0 = ap row_receivers g.1.is ∙ map-append row_receiver old g.0 in
    let rest : drop (length s.durable.receivers) (added s.durable.receivers entries) ≡ row_receivers g.0 =
    ap (drop (length s.durable.receivers)) (all ∙ parts) ∙ drop_at (row_receivers old) (row_receivers g.0) (length s.durable.receivers) (ap (λ (l : List Receiver). length l) (sym are.receivers)) in
    let progress : s.progress ++ no_progress (drop (length s.durable.receivers) (added s.durable.receivers entries)) ≡ map progress_in new =
    (λ i. are.progress i ++ no_progress (rest i)) ∙ ap (λ (l : List ℕ). map progress_in old ++ l) (sym g.1.blank) ∙ sym (map-append progress_in old g.0) ∙ ap (map progress_in) (sym g.1.is) in
    λ i. with_receivers s (all i) (progress i)

pub add_fits : (s : DistState) (phase : DistPhase) (old new : List ReceiverRow) (entries : List Entry) → s.durable.phase ≡ phase → is_idle phase ≡ true → AreRowsOf old s → Grown old new
    → row_receivers new ≡ added (row_receivers old) entries → length new ≤ 128 → receivers_add s entries ≡ Ok (with_rows s new)
add_fits s phase old new entries is idle are g e few =
    let count : length (added s.durable.receivers entries) ≤ 128 = omega (arith, ap (λ (l : List Receiver). length l) (ap (λ (l : List Receiver). added l entries) are.receivers ∙ sym e), length-map new row_receiver, few) in
    let fits : nat_lt most_receivers (length (added s.durable.receivers entries)) ≡ false = le-ltb 128 (length (added s.durable.receivers entries)) count in
    let rests : is_idle s.durable.phase ≡ true = ap is_idle is ∙ idle in
    rw (rests, fits) (ap Ok (grown_rows s old new entries are g e))

-- ---- whether a record is due

with_same : (s : DistState) (rows : List ReceiverRow) → AreRowsOf rows s → (with_rows s rows).durable ≡ s.durable
with_same s rows are = λ i. record (s.durable) { receivers = sym are.receivers i }

pub rows_due : (s : DistState) (old new : List ReceiverRow) (due : Bool) → (due ≡ false → new ≡ old) → (due ≡ true → length new ≡ length old → ⊥) → AreRowsOf old s
    → IsDue due s.durable (with_rows s new).durable
rows_due s old new false same differ are = subst (λ (l : List ReceiverRow). (with_rows s l).durable ≡ s.durable) (sym (same refl)) (with_same s old are)
rows_due s old new true same differ are = λ e.
    let count : length (row_receivers new) ≡ length s.durable.receivers = ap (λ (d : DistDurable). length d.receivers) e in
    differ refl (sym (length-map new row_receiver) ∙ count ∙ ap (λ (l : List Receiver). length l) are.receivers ∙ length-map old row_receiver)

-- the rows that were there stand in front
pub grown_front : (old new : List ReceiverRow) (n : ℕ) → n ≡ length old → Grown old new → take n new ≡ old
grown_front old new n is g = ap (take n) g.1.is ∙ take_at old g.0 n (sym is)

no_row : (tail : List ReceiverRow) → length tail ≡ 0 → tail ≡ []
no_row [] e = refl
no_row (r ∷ tail) e = absurd (omega arith)

grown_none : (old new : List ReceiverRow) → Grown old new → length new ≤ length old → new ≡ old
grown_none old new g few =
    let count : length new ≡ length old + length g.0 = ap (λ (l : List ReceiverRow). length l) g.1.is ∙ length-append old g.0 in
    let none : g.0 ≡ [] = no_row g.0 (omega (arith, count, few)) in
    g.1.is ∙ ap (λ (l : List ReceiverRow). old ++ l) none ∙ append-nil old

at_most : (a b : ℕ) → nat_lt a b ≡ false → b ≤ a
at_most a b e = grind (arith, nat_tests)

more_than : (a b : ℕ) → nat_lt a b ≡ true → a < b
more_than a b e = grind (arith, nat_tests)

-- whether there are more rows than before
pub grown_due : (s : DistState) (old new : List ReceiverRow) (n m : ℕ) → n ≡ length old → m ≡ length new → Grown old new → AreRowsOf old s → IsDue (nat_lt n m) s.durable (with_rows s new).durable
grown_due s old new n m is_old is_new g are =
    rows_due s old new (nat_lt n m) (λ e. grown_none old new g (omega (arith, at_most n m e, is_old, is_new))) (λ e same. omega (arith, more_than n m e, is_old, is_new, same)) are
