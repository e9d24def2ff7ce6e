-- Time changes the phase of a row exactly where it isn't confirmed.
use Rattle.std.proofs.Common.{◌≡◌, ℕ, Bool, true, false, List, [], ◌∷◌, map, refl, sym, ap, subst, ◌∙◌, cond}
use Rattle.std.specs.Prelude.{◌+◌, ◌&&◌, ◌||◌, nat_le, not}
use Rattle.std.specs.List.{list_any}
use Rattle.mu_model_client.specs.Rows.{row_unconfirmed}
use Rattle.mu_model_client.specs.Client.{Step, Check, Start, Information, Transfer, Block, Chunks, Pull, Get, Verify, Apply, Confirm, Cancel, Receiver, is_in, is_pending, is_begun_for, Item, Place, Before, At, Verified, Ended, Client, at_moment, round_time}
use Rattle.mu_model_client.specs.Lists.{chunk_items, wanted_of}
use Rattle.mu_model_client.specs.Going.{Going, Next, Go, Rests, Ends, after, begun_if, begun, begins_if, goes_on, next_step, silent_after, most_silent, fell_silent, silent_if, with_silent, counted_if, round_counted, unheard, unwanted, round_or_next, after_counting, if_round_over, by_round, by_wanted, list_is_sent, by_list, is_empty, is_done, by_step, by_place, going}
use Rattle.mu_model_rows.specs.Clients.{Each, confirms, IsInTime, TimeIsExact}

-- ---- phases that stay

abbrev Kept : List Receiver → List Receiver → Type 0
Kept rs ss = Each (λ (a b : Receiver). b.row.phase ≡ a.row.phase) rs ss

kept_same : (rs : List Receiver) → Kept rs rs
kept_same [] = tt
kept_same (r ∷ rs) = (refl, kept_same rs)

kept_map : (f : Receiver → Receiver) → ((r : Receiver) → (f r).row.phase ≡ r.row.phase) → (rs : List Receiver) → Kept rs (map f rs)
kept_map f h [] = tt
kept_map f h (r ∷ rs) = (h r, kept_map f h rs)

kept_then : (rs ss ts : List Receiver) → Kept rs ss → Kept ss ts → Kept rs ts
kept_then [] [] [] h k = tt
kept_then [] [] (t ∷ ts) h k = absurd k
kept_then [] (s ∷ ss) ts h k = absurd h
kept_then (r ∷ rs) [] ts h k = absurd h
kept_then (r ∷ rs) (s ∷ ss) [] h k = absurd k
kept_then (r ∷ rs) (s ∷ ss) (t ∷ ts) h k = (k.0 ∙ h.0, kept_then rs ss ts h.1 k.1)

begun_kept : (r : Receiver) (b : Bool) → (begun_if r b).row.phase ≡ r.row.phase
begun_kept r true = refl
begun_kept r false = refl

begins_kept : (x : Client) (step : Step) (b : Bool) → Kept x.receivers (begins_if x step b).next.receivers
begins_kept x step true = kept_map (begun step) (λ r. begun_kept r (is_in step r)) x.receivers
begins_kept x step false = kept_same x.receivers

goes_kept : (x : Client) (next : Next) → Kept x.receivers (goes_on x next).next.receivers
goes_kept x (Go step) = begins_kept x step (list_any (is_begun_for step) x.receivers)
goes_kept x Rests = kept_same x.receivers
goes_kept x (Ends part) = kept_same x.receivers

next_kept : (x : Client) (step : Step) → Kept x.receivers (next_step x step).next.receivers
next_kept x step = goes_kept x (after x.sending x.purpose x.receivers step)

-- ---- a step whose silence changes no row

abbrev KeepsRows : Step → Type 0
KeepsRows step = (r : Receiver) → (fell_silent r step).row.phase ≡ r.row.phase

silent_kept : (step : Step) → KeepsRows step → (r : Receiver) (b : Bool) → (silent_if step r b).row.phase ≡ r.row.phase
silent_kept step k r true = k r
silent_kept step k r false = refl

counted_kept : (step : Step) → KeepsRows step → (r : Receiver) (b : Bool) → (counted_if step r b).row.phase ≡ r.row.phase
counted_kept step k r true = silent_kept step k (with_silent (silent_after step r) r) (nat_le most_silent (silent_after step r))
counted_kept step k r false = refl

counting_kept : (x : Client) (step : Step) → KeepsRows step → Kept x.receivers (after_counting x step).receivers
counting_kept x step k = kept_map (round_counted step) (λ r. counted_kept step k r r.pending) x.receivers

round_or_kept : (x : Client) (step : Step) (b : Bool) → Kept x.receivers (round_or_next x step b).next.receivers
round_or_kept x step true = kept_map unheard (λ r. refl) x.receivers
round_or_kept x step false = next_kept x step

over_kept : (x : Client) (step : Step) → KeepsRows step → (b : Bool) → Kept x.receivers (if_round_over x step b).next.receivers
over_kept x step k true =
    kept_then x.receivers (after_counting x step).receivers (if_round_over x step true).next.receivers (counting_kept x step k)
    (round_or_kept (after_counting x step) step (list_any is_pending (after_counting x step).receivers))
over_kept x step k false = kept_same x.receivers

round_kept : (x : Client) (step : Step) → KeepsRows step → Kept x.receivers (by_round x step).next.receivers
round_kept x step k = over_kept x step k (nat_le (x.began + round_time x.sending) x.moment)

wanted_kept : (x : Client) (step : Step) → KeepsRows step → (items : List Item) → Kept x.receivers (by_wanted x step items).next.receivers
wanted_kept x step k [] = round_kept x step k
wanted_kept x step k (item ∷ items) = kept_map unwanted (λ r. refl) x.receivers

sent_kept : (x : Client) (step : Step) → KeepsRows step → Kept x.receivers (list_is_sent x step).next.receivers
sent_kept x (Pull b) k = wanted_kept x (Pull b) k (chunk_items x.sending b wanted_of x.receivers)
sent_kept x step k = round_kept x step k

list_kept : (x : Client) (step : Step) → KeepsRows step → (items : List Item) → Kept x.receivers (by_list x step items).next.receivers
list_kept x step k [] = sent_kept x step k
list_kept x step k (item ∷ items) = kept_same x.receivers

step_kept : (x : Client) (step : Step) → KeepsRows step → (b : Bool) → Kept x.receivers (by_step x step b).next.receivers
step_kept x step k true = next_kept x step
step_kept x step k false = list_kept x step k x.queue

-- ---- what fails

third_false : (a b p d : Bool) → (a && (b && (false && (p && d)))) ≡ false
third_false true true p d = refl
third_false true false p d = refl
third_false false b p d = refl

second_false : (a c p d : Bool) → (a && (false && (c && (p && d)))) ≡ false
second_false true c p d = refl
second_false false c p d = refl

fourth_false : (a b c d : Bool) → (a && (b && (c && (false && d)))) ≡ false
fourth_false true true true d = refl
fourth_false true true false d = refl
fourth_false true false c d = refl
fourth_false false b c d = refl

module _ (x : Client) where
  abbrev fails : Receiver → Bool
  fails r = confirms x.place && (is_empty x.queue && (nat_le (x.began + round_time x.sending) x.moment && (r.pending && nat_le most_silent (r.silent + 1))))

  abbrev Is : Receiver → Receiver → Type 0
  Is before after = after.row.phase ≡ cond (fails before) (row_unconfirmed before.row).phase before.row.phase

  is_kept : (a b : Receiver) → fails a ≡ false → b.row.phase ≡ a.row.phase → Is a b
  is_kept a b e h = subst (λ f. b.row.phase ≡ cond f (row_unconfirmed a.row).phase a.row.phase) (sym e) h

  all_kept : ((r : Receiver) → fails r ≡ false) → (rs ss : List Receiver) → Kept rs ss → Each Is rs ss
  all_kept none [] [] h = tt
  all_kept none [] (s ∷ ss) h = absurd h
  all_kept none (r ∷ rs) [] h = absurd h
  all_kept none (r ∷ rs) (s ∷ ss) h = (is_kept r s (none r) h.0, all_kept none rs ss h.1)

  elsewhere : (place : Place) → x.place ≡ place → confirms place ≡ false → (r : Receiver) → fails r ≡ false
  elsewhere place e f r =
      ap (λ p. confirms p && (is_empty x.queue && (nat_le (x.began + round_time x.sending) x.moment && (r.pending && nat_le most_silent (r.silent + 1))))) e
      ∙ ap (λ b. b && (is_empty x.queue && (nat_le (x.began + round_time x.sending) x.moment && (r.pending && nat_le most_silent (r.silent + 1))))) f

  other_step : (step : Step) → x.place ≡ At step → confirms (At step) ≡ false → KeepsRows step → Each Is x.receivers (by_step x step (is_done x step)).next.receivers
  other_step step e f k = all_kept (elsewhere (At step) e f) x.receivers (by_step x step (is_done x step)).next.receivers (step_kept x step k (is_done x step))

  -- ---- in Confirm

  unfailed : (r : Receiver) → r.pending ≡ false → Is r r
  unfailed r e =
      is_kept r r (ap (λ p. confirms x.place && (is_empty x.queue && (nat_le (x.began + round_time x.sending) x.moment && (p && nat_le most_silent (r.silent + 1))))) e ∙ fourth_false (confirms x.place) (is_empty x.queue) (nat_le (x.began + round_time x.sending) x.moment) (nat_le most_silent (r.silent + 1))) refl

  first_unpending : (p rest : Bool) → (p || rest) ≡ false → (p ≡ false) × (rest ≡ false)
  first_unpending true rest h = cc
  first_unpending false rest h = (refl, h)

  unpending : (rs : List Receiver) → list_any is_pending rs ≡ false → Each Is rs rs
  unpending [] h = tt
  unpending (r ∷ rs) h = let k = first_unpending r.pending (list_any is_pending rs) h in (unfailed r k.0, unpending rs k.1)

  counted_is : (r : Receiver) (p : Bool) → (counted_if Confirm r p).row.phase ≡ cond (p && nat_le most_silent (r.silent + 1)) (row_unconfirmed r.row).phase r.row.phase
  counted_is r true =
      elim (nat_le most_silent (r.silent + 1)) as (λ b. (silent_if Confirm (with_silent (r.silent + 1) r) b).row.phase ≡ cond b (row_unconfirmed r.row).phase r.row.phase) [ true ↦ refl | false ↦ refl ]
  counted_is r false = refl

  fails_is : (r : Receiver) → confirms x.place ≡ true → is_empty x.queue ≡ true → nat_le (x.began + round_time x.sending) x.moment ≡ true → fails r ≡ (r.pending && nat_le most_silent (r.silent + 1))
  fails_is r a b c = rw (a, b, c) refl

  counting_is : confirms x.place ≡ true → is_empty x.queue ≡ true → nat_le (x.began + round_time x.sending) x.moment ≡ true → (rs : List Receiver) → Each Is rs (map (round_counted Confirm) rs)
  counting_is a b c [] = tt
  counting_is a b c (r ∷ rs) = (
    subst (λ f. (round_counted Confirm r).row.phase ≡ cond f (row_unconfirmed r.row).phase r.row.phase) (sym (fails_is r a b c)) (counted_is r r.pending),
    counting_is a b c rs,
  )

  then_kept : (rs ss ts : List Receiver) → Each Is rs ss → Kept ss ts → Each Is rs ts
  then_kept [] [] [] h k = tt
  then_kept [] [] (t ∷ ts) h k = absurd k
  then_kept [] (s ∷ ss) ts h k = absurd h
  then_kept (r ∷ rs) [] ts h k = absurd h
  then_kept (r ∷ rs) (s ∷ ss) [] h k = absurd k
  then_kept (r ∷ rs) (s ∷ ss) (t ∷ ts) h k = (k.0 ∙ h.0, then_kept rs ss ts h.1 k.1)

  confirm_round : x.place ≡ At Confirm → x.queue ≡ [] → (b : Bool) → nat_le (x.began + round_time x.sending) x.moment ≡ b → Each Is x.receivers (if_round_over x Confirm b).next.receivers
  confirm_round e q true c =
      then_kept x.receivers (after_counting x Confirm).receivers (if_round_over x Confirm true).next.receivers
      (counting_is (ap confirms e) (ap is_empty q) c x.receivers)
      (round_or_kept (after_counting x Confirm) Confirm (list_any is_pending (after_counting x Confirm).receivers))
  confirm_round e q false c =
      all_kept (λ r. ap (λ o. confirms x.place && (is_empty x.queue && (o && (r.pending && nat_le most_silent (r.silent + 1))))) c ∙ third_false (confirms x.place) (is_empty x.queue) r.pending (nat_le most_silent (r.silent + 1)))
      x.receivers x.receivers (kept_same x.receivers)

  confirm_list : x.place ≡ At Confirm → (items : List Item) → x.queue ≡ items → Each Is x.receivers (by_list x Confirm items).next.receivers
  confirm_list e [] q = confirm_round e q (nat_le (x.began + round_time x.sending) x.moment) refl
  confirm_list e (item ∷ items) q =
      all_kept (λ r. ap (λ n. confirms x.place && (is_empty n && (nat_le (x.began + round_time x.sending) x.moment && (r.pending && nat_le most_silent (r.silent + 1))))) q ∙ second_false (confirms x.place) (nat_le (x.began + round_time x.sending) x.moment) r.pending (nat_le most_silent (r.silent + 1)))
      x.receivers x.receivers (kept_same x.receivers)

  confirm_step : x.place ≡ At Confirm → (b : Bool) → list_any is_pending x.receivers ≡ b → Each Is x.receivers (by_step x Confirm (not b)).next.receivers
  confirm_step e true p = confirm_list e x.queue refl
  confirm_step e false p = unpending x.receivers p

  at_step : (step : Step) → x.place ≡ At step → Each Is x.receivers (by_step x step (is_done x step)).next.receivers
  at_step Check e = other_step Check e refl (λ r. refl)
  at_step Start e = other_step Start e refl (λ r. refl)
  at_step Information e = other_step Information e refl (λ r. refl)
  at_step Transfer e = other_step Transfer e refl (λ r. refl)
  at_step (Block b) e = other_step (Block b) e refl (λ r. refl)
  at_step (Chunks b) e = other_step (Chunks b) e refl (λ r. refl)
  at_step (Pull b) e = other_step (Pull b) e refl (λ r. refl)
  at_step (Get b) e = other_step (Get b) e refl (λ r. refl)
  at_step Verify e = other_step Verify e refl (λ r. refl)
  at_step Apply e = other_step Apply e refl (λ r. refl)
  at_step Confirm e = confirm_step e (list_any is_pending x.receivers) refl
  at_step Cancel e = other_step Cancel e refl (λ r. refl)

  at_place : (place : Place) → x.place ≡ place → Each Is x.receivers (by_place x place).next.receivers
  at_place (Before step) e = all_kept (elsewhere (Before step) e refl) x.receivers (goes_on x (Go step)).next.receivers (goes_kept x (Go step))
  at_place (At step) e = at_step step e
  at_place Verified e = all_kept (elsewhere Verified e refl) x.receivers x.receivers (kept_same x.receivers)
  at_place (Ended part) e = all_kept (elsewhere (Ended part) e refl) x.receivers x.receivers (kept_same x.receivers)

in_time : (c : Client) (now : ℕ) (rs ss : List Receiver) → Each (Is (at_moment c now)) rs ss → Each (IsInTime c now) rs ss
in_time c now [] [] h = tt
in_time c now [] (s ∷ ss) h = absurd h
in_time c now (r ∷ rs) [] h = absurd h
in_time c now (r ∷ rs) (s ∷ ss) h = (record { phase_is = h.0 }, in_time c now rs ss h.1)

pub time_is_exact : TimeIsExact
time_is_exact c now = in_time c now c.receivers (going c now).next.receivers (at_place (at_moment c now) c.place refl)
