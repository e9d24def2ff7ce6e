-- What a client's time event, its beginning, and its orders do to its rows.
use Rattle.std.proofs.Common.{◌≡◌, ℕ, ◌+◌, Bool, true, false, List, [], ◌∷◌, map, refl, ap, cond, arith, ◌⊎◌, inl, inr, ◌∙◌}
use Rattle.std.specs.Prelude.{⊤, ◌==◌, nat_lt, nat_le}
use Rattle.std.specs.List.{list_any}
use Rattle.std.proofs.lemmas.Bool.Decides.{nat_tests}
use Rattle.mu_model_client.specs.declared.Plan.{Plan}
use Rattle.mu_model_client.specs.declared.Stage.{Stage}
use Rattle.mu_model_client.specs.Answers.{Answer}
use Rattle.mu_model_client.specs.Rows.{Row, rank}
use Rattle.mu_model_client.specs.Client.{Step, Pull, Apply, Confirm, Cancel, Receiver, is_in, is_pending, is_begun_for, Item, Place, Before, At, Verified, Ended, Client, at_moment, row_of, rows, round_time}
use Rattle.mu_model_client.specs.Lists.{chunk_items, wanted_of}
use Rattle.mu_model_client.specs.Begin.{resumed, resume, take_cancel}
use Rattle.mu_model_client.specs.Told.{told}
use Rattle.mu_model_client.specs.Due.{Due, Next, Go, Rests, Ends, after, begun_if, begun, in_step, begins_if, goes_on, next_step, silent_after, with_silent, fell_silent, silent_if, counted_if, round_counted, unheard, round_or_next, after_counting, if_round_over, by_round, by_wanted, list_is_sent, by_list, is_done, by_step, by_place, due}
use Rattle.mu_model_distributor.specs.Sound.{AnswerFits}
use Rattle.mu_model_distributor_laws.proofs.ClientRows.{Keeps, keeps_same, then_keeps, told_keeps}

-- ---- rows one by one

abbrev pub RowsBy : (Row → Row → Type 0) → List Receiver → List Receiver → Type 0
RowsBy R [] [] = ⊤
RowsBy R (r ∷ rs) (s ∷ ss) = R r.row s.row × RowsBy R rs ss
RowsBy R _ _ = ⊥

abbrev pub RowsKeep : List Receiver → List Receiver → Type 0
RowsKeep rs ss = RowsBy Keeps rs ss

by_same : (R : Row → Row → Type 0) → ((row : Row) → R row row) → (rs : List Receiver) → RowsBy R rs rs
by_same R h [] = tt
by_same R h (r ∷ rs) = (h r.row, by_same R h rs)

by_then : (R : Row → Row → Type 0) → ((a b c : Row) → R a b → R b c → R a c) → (rs ss ts : List Receiver) → RowsBy R rs ss → RowsBy R ss ts → RowsBy R rs ts
by_then R trans [] [] [] h k = tt
by_then R trans [] [] (t ∷ ts) h k = absurd k
by_then R trans [] (s ∷ ss) ts h k = absurd h
by_then R trans (r ∷ rs) [] ts h k = absurd h
by_then R trans (r ∷ rs) (s ∷ ss) [] h k = absurd k
by_then R trans (r ∷ rs) (s ∷ ss) (t ∷ ts) h k = (trans r.row s.row t.row h.0 k.0, by_then R trans rs ss ts h.1 k.1)

by_mapped : (R : Row → Row → Type 0) (f : Receiver → Receiver) (rs : List Receiver) → ((r : Receiver) → R r.row (f r).row) → RowsBy R rs (map f rs)
by_mapped R f [] h = tt
by_mapped R f (r ∷ rs) h = (h r, by_mapped R f rs h)

by_other : (R S : Row → Row → Type 0) → ((a b : Row) → R a b → S a b) → (rs ss : List Receiver) → RowsBy R rs ss → RowsBy S rs ss
by_other R S f [] [] h = tt
by_other R S f [] (s ∷ ss) h = absurd h
by_other R S f (r ∷ rs) [] h = absurd h
by_other R S f (r ∷ rs) (s ∷ ss) h = (f r.row s.row h.0, by_other R S f rs ss h.1)

pub rows_same : (rs : List Receiver) → RowsKeep rs rs
rows_same rs = by_same Keeps keeps_same rs

rows_mapped : (f : Receiver → Receiver) (rs : List Receiver) → ((r : Receiver) → Keeps r.row (f r).row) → RowsKeep rs (map f rs)
rows_mapped f rs h = by_mapped Keeps f rs h

-- ---- orders

pub told_rows : (c : Client) (from : ℕ) (answer : Answer) (now : ℕ) → AnswerFits answer → RowsKeep c.receivers (told c from answer now).receivers
told_rows c from answer now h = rows_mapped _ c.receivers (λ r. told_keeps (at_moment c now) answer r (r.row.address == from) h)

canceled_kept : (row : Row) (b : Bool) → Keeps row (cond b (record row { phase = 7 }) row)
canceled_kept row true = record { address = refl; index = refl; in_range = λ k. record { phase = omega arith; update_status = k.update_status; transfer_status = k.transfer_status; progress = k.progress } }
canceled_kept row false = keeps_same row

pub cancel_rows : (c : Client) → RowsKeep c.receivers (take_cancel c).receivers
cancel_rows c = rows_mapped _ c.receivers (λ r. canceled_kept r.row (nat_lt (rank r.row.phase) 5))

-- a client that begins has the rows that it was given
resumed_rows : (stage : Stage) (given : List Row) → map row_of (map (resumed stage) given) ≡ given
resumed_rows stage [] = refl
resumed_rows stage (row ∷ given) = ap (λ more. row ∷ more) (resumed_rows stage given)

pub begin_rows : (plan : Plan) (given : List Row) (stage : Stage) → rows (resume plan given stage) ≡ given
begin_rows plan given stage = resumed_rows stage given

-- ---- time

-- a row's phase stands, or the row was asked to confirm in vain
pub record Times (old new : Row) : Type 0 where
  pub keeps : Keeps old new
  pub phase : (new.phase ≡ old.phase) ⊎ ((old.phase ≡ 8 → ⊥) × (new.phase ≡ 9))

abbrev pub RowsTime : List Receiver → List Receiver → Type 0
RowsTime rs ss = RowsBy Times rs ss

still : (row : Row) → Times row row
still row = record { keeps = keeps_same row; phase = inl refl }

phase_then : (a b c : ℕ) → (b ≡ a) ⊎ ((a ≡ 8 → ⊥) × (b ≡ 9)) → (c ≡ b) ⊎ ((b ≡ 8 → ⊥) × (c ≡ 9)) → (c ≡ a) ⊎ ((a ≡ 8 → ⊥) × (c ≡ 9))
phase_then a b c (inl e) (inl k) = inl (k ∙ e)
phase_then a b c (inl e) (inr k) = inr (λ x. k.0 (e ∙ x), k.1)
phase_then a b c (inr h) (inl k) = inr (h.0, k ∙ h.1)
phase_then a b c (inr h) (inr k) = inr (h.0, k.1)

times_then_row : (a b c : Row) → Times a b → Times b c → Times a c
times_then_row a b c h k = record { keeps = then_keeps h.keeps k.keeps; phase = phase_then a.phase b.phase c.phase h.phase k.phase }

times_same : (rs : List Receiver) → RowsTime rs rs
times_same rs = by_same Times still rs

times_then : (rs ss ts : List Receiver) → RowsTime rs ss → RowsTime ss ts → RowsTime rs ts
times_then rs ss ts h k = by_then Times times_then_row rs ss ts h k

times_mapped : (f : Receiver → Receiver) (rs : List Receiver) → ((r : Receiver) → Times r.row (f r).row) → RowsTime rs (map f rs)
times_mapped f rs h = by_mapped Times f rs h

pub times_keep : (rs ss : List Receiver) → RowsTime rs ss → RowsKeep rs ss
times_keep rs ss h = by_other Times Keeps (λ a b k. k.keeps) rs ss h

abbrev Fine : Client → Due → Type 0
Fine c d = RowsTime c.receivers d.next.receivers

split : (c : Client) (b : Bool) (x y : Due) → Fine c x → Fine c y → Fine c (cond b x y)
split c true x y h k = h
split c false x y h k = k

begun_kept : (step : Step) (r : Receiver) (b : Bool) → Times r.row (begun_if r b).row
begun_kept step r true = still r.row
begun_kept step r false = still r.row

pub step_rows : (c : Client) (step : Step) → RowsTime c.receivers (in_step c step).receivers
step_rows c step = times_mapped (begun step) c.receivers (λ r. begun_kept step r (is_in step r))

begins_fine : (c : Client) (image : List ℕ) (step : Step) (b : Bool) → Fine c (begins_if c image step b)
begins_fine c image step true = step_rows c step
begins_fine c image step false = times_same c.receivers

goes_fine : (c : Client) (image : List ℕ) (next : Next) → Fine c (goes_on c image next)
goes_fine c image (Go step) = begins_fine c image step (list_any (is_begun_for step) c.receivers)
goes_fine c image Rests = times_same c.receivers
goes_fine c image (Ends part) = times_same c.receivers

next_fine : (c : Client) (image : List ℕ) (step : Step) → Fine c (next_step c image step)
next_fine c image step = goes_fine c image (after c.sending c.purpose c.receivers step)

unconfirmed_kept : (row : Row) (b : Bool) → (row.phase == 8) ≡ b → Times row (cond b row (record row { phase = 9 }))
unconfirmed_kept row true e = still row
unconfirmed_kept row false e = record {
  keeps = record { address = refl; index = refl; in_range = λ k. record { phase = omega arith; update_status = k.update_status; transfer_status = k.transfer_status; progress = k.progress } };
  phase = inr (λ is. let never : ⊥ = grind (arith, nat_tests) in never, refl);
}

silent_kept : (r : Receiver) (step : Step) → Times r.row (fell_silent r step).row
silent_kept r Apply = still r.row
silent_kept r Cancel = still r.row
silent_kept r Confirm = unconfirmed_kept r.row (r.row.phase == 8) refl
silent_kept r _ = still r.row

silent_if_kept : (step : Step) (r : Receiver) (b : Bool) → Times r.row (silent_if step r b).row
silent_if_kept step r true = silent_kept r step
silent_if_kept step r false = still r.row

counted_kept : (step : Step) (r : Receiver) (b : Bool) → Times r.row (counted_if step r b).row
counted_kept step r true = silent_if_kept step (with_silent (silent_after step r) r) (nat_le 5 (silent_after step r))
counted_kept step r false = still r.row

pub counting_rows : (c : Client) (step : Step) → RowsTime c.receivers (after_counting c step).receivers
counting_rows c step = times_mapped (round_counted step) c.receivers (λ r. counted_kept step r r.pending)

round_or_fine : (c : Client) (image : List ℕ) (step : Step) (b : Bool) → Fine c (round_or_next c image step b)
round_or_fine c image step true = times_mapped unheard c.receivers (λ r. still r.row)
round_or_fine c image step false = next_fine c image step

round_over_fine : (c : Client) (image : List ℕ) (step : Step) (b : Bool) → Fine c (if_round_over c image step b)
round_over_fine c image step true = times_then _ _ _ (counting_rows c step) (round_or_fine (after_counting c step) image step (list_any is_pending (after_counting c step).receivers))
round_over_fine c image step false = times_same c.receivers

round_fine : (c : Client) (image : List ℕ) (step : Step) → Fine c (by_round c image step)
round_fine c image step = round_over_fine c image step (nat_le (c.began + round_time c.sending) c.moment)

wanted_fine : (c : Client) (image : List ℕ) (step : Step) (items : List Item) → Fine c (by_wanted c image step items)
wanted_fine c image step [] = round_fine c image step
wanted_fine c image step (item ∷ items) = times_mapped _ c.receivers (λ r. still r.row)

sent_fine : (c : Client) (image : List ℕ) (step : Step) → Fine c (list_is_sent c image step)
sent_fine c image (Pull b) = wanted_fine c image (Pull b) (chunk_items c.sending b wanted_of c.receivers)
sent_fine c image step = round_fine c image step

list_fine : (c : Client) (image : List ℕ) (step : Step) (items : List Item) → Fine c (by_list c image step items)
list_fine c image step [] = sent_fine c image step
list_fine c image step (item ∷ items) = times_same c.receivers

step_fine : (c : Client) (image : List ℕ) (step : Step) (b : Bool) → Fine c (by_step c image step b)
step_fine c image step true = next_fine c image step
step_fine c image step false = list_fine c image step c.queue

place_fine : (c : Client) (image : List ℕ) (place : Place) → Fine c (by_place c image place)
place_fine c image (Before step) = goes_fine c image (Go step)
place_fine c image (At step) = step_fine c image step (is_done c step)
place_fine c image Verified = times_same c.receivers
place_fine c image (Ended part) = times_same c.receivers

pub due_times : (c : Client) (image : List ℕ) (now : ℕ) → RowsTime c.receivers (due c image now).next.receivers
due_times c image now = place_fine (at_moment c now) image c.place

pub due_rows : (c : Client) (image : List ℕ) (now : ℕ) → RowsKeep c.receivers (due c image now).next.receivers
due_rows c image now = times_keep c.receivers (due c image now).next.receivers (due_times c image now)
