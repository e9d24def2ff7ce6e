-- The status of a drop stands in its row, over the whole run of an updater.
use Rattle.std.proofs.Common.{◌≡◌, ◌≤◌, ℕ, Bool, true, false, List, [], ◌∷◌, map, refl, sym, ap, subst, ◌∙◌, cond, arith, Option, Some, None, ◌⊎◌, inl, inr}
use Rattle.std.specs.Prelude.{◌+◌, ◌==◌, nat_le}
use Rattle.std.specs.List.{AllByRecursion, list_any}
use Rattle.mu_model_node.specs.Events.{NodeEvent, PacketComes, TimeComes}
use Rattle.mu_model_client.specs.declared.Dropped.{Dropped}
use Rattle.mu_model_client.specs.declared.Dropped.TheVariants.{Status}
use Rattle.mu_model_client.specs.Answers.{Answer, answer_at}
use Rattle.mu_model_client.specs.Begin.{new_active}
use Rattle.mu_model_client.specs.Client.{Step, Check, Start, Information, Transfer, Block, Chunks, Pull, Get, Verify, Apply, Confirm, Cancel, step_number, Standing, Gone, stands_active, is_active, is_in, is_pending, is_begun_for, Receiver, Item, Place, Before, At, Verified, Ended, Client, at_moment, round_time}
use Rattle.mu_model_client.specs.Going.{Next, Go, Rests, Ends, after, begun_if, begun, begins_if, goes_on, next_step, silent_after, most_silent, fell_silent, silent_if, with_silent, counted_if, round_counted, unheard, unwanted, round_or_next, after_counting, if_round_over, by_round, by_wanted, list_is_sent, by_list, is_done, by_step, by_place, going}
use Rattle.mu_model_client.specs.Lists.{chunk_items, wanted_of}
use Rattle.mu_model_client.specs.Packets.{answer_handled}
use Rattle.mu_model_client.specs.Rows.{Row, with_phase, apply_failed, apply_success}
use Rattle.mu_model_client.specs.Told.{told}
use Rattle.mu_model_client_laws.specs.Laws.{Each as EachTold, StaysGone, DropsStay, IsSound, BeginsSound, EventsKeepSound}
use Rattle.mu_model_updater.specs.Updater.{Updater, new_updater, updater_step, updater_after}
use Rattle.mu_model_rows.specs.Clients.{Each, IsUpdateStep, IsBlobStep, IsNoStatus, StatusStands, as_before, by_update as now_by_update, by_transfer as now_by_transfer, by_none, StatusesStand}
use Rattle.mu_model_row_folds.specs.Statuses.{StandsInRow, nowhere, by_update, by_transfer, DropsStandInRows}

pub record StatusLaws : Type 0 where
  pub stand : StatusesStand
  pub stay : DropsStay
  pub begins : BeginsSound
  pub events : EventsKeepSound

-- ---- what time leaves

pub record Keeps (before after : Receiver) : Type 0 where
  pub update : after.row.update_status ≡ before.row.update_status
  pub transfer : after.row.transfer_status ≡ before.row.transfer_status
  pub standing : (after.standing ≡ before.standing) ⊎ IsNoStatus after.standing

abbrev pub Kept : List Receiver → List Receiver → Type 0
Kept rs ss = Each Keeps rs ss

same : (r : Receiver) → Keeps r r
same r = record { update = refl; transfer = refl; standing = inl refl }

pub kept_same : (rs : List Receiver) → Kept rs rs
kept_same [] = tt
kept_same (r ∷ rs) = (same r, kept_same rs)

pub kept_map : (f : Receiver → Receiver) → ((r : Receiver) → Keeps r (f r)) → (rs : List Receiver) → Kept rs (map f rs)
kept_map f h [] = tt
kept_map f h (r ∷ rs) = (h r, kept_map f h rs)

stands_then : (a b c : Standing) → (b ≡ a) ⊎ IsNoStatus b → (c ≡ b) ⊎ IsNoStatus c → (c ≡ a) ⊎ IsNoStatus c
stands_then a b c h (inr k) = inr k
stands_then a b c (inl e) (inl f) = inl (f ∙ e)
stands_then a b c (inr h) (inl f) = inr (subst IsNoStatus (sym f) h)

keeps_then : (a b c : Receiver) → Keeps a b → Keeps b c → Keeps a c
keeps_then a b c h k = record { update = k.update ∙ h.update; transfer = k.transfer ∙ h.transfer; standing = stands_then a.standing b.standing c.standing h.standing k.standing }

kept_then : (rs ss ts : List Receiver) → Kept rs ss → Kept ss ts → Kept rs ts
kept_then [] [] [] h k = tt
kept_then [] [] (t ∷ ts) h k = absurd k
kept_then [] (s ∷ ss) ts h k = absurd h
kept_then (r ∷ rs) [] ts h k = absurd h
kept_then (r ∷ rs) (s ∷ ss) [] h k = absurd k
kept_then (r ∷ rs) (s ∷ ss) (t ∷ ts) h k = (keeps_then r s t h.0 k.0, kept_then rs ss ts h.1 k.1)

begun_kept : (r : Receiver) (b : Bool) → Keeps r (begun_if r b)
begun_kept r true = record { update = refl; transfer = refl; standing = inl refl }
begun_kept r false = record { update = refl; transfer = refl; standing = inl refl }

begins_kept : (x : Client) (step : Step) (b : Bool) → Kept x.receivers (begins_if x step b).next.receivers
begins_kept x step true = kept_map (begun step) (λ r. begun_kept r (is_in step r)) x.receivers
begins_kept x step false = kept_same x.receivers

goes_kept : (x : Client) (next : Next) → Kept x.receivers (goes_on x next).next.receivers
goes_kept x (Go step) = begins_kept x step (list_any (is_begun_for step) x.receivers)
goes_kept x Rests = kept_same x.receivers
goes_kept x (Ends part) = kept_same x.receivers

next_kept : (x : Client) (step : Step) → Kept x.receivers (next_step x step).next.receivers
next_kept x step = goes_kept x (after x.sending x.purpose x.receivers step)

unconfirmed_update : (b : Bool) (row : Row) → (cond b row (with_phase apply_failed row)).update_status ≡ row.update_status
unconfirmed_update true row = refl
unconfirmed_update false row = refl

unconfirmed_transfer : (b : Bool) (row : Row) → (cond b row (with_phase apply_failed row)).transfer_status ≡ row.transfer_status
unconfirmed_transfer true row = refl
unconfirmed_transfer false row = refl

-- who falls silent isn't dropped by a status
silent_so : (step : Step) (r : Receiver) → Keeps r (fell_silent r step)
silent_so Check r = record { update = refl; transfer = refl; standing = inr tt }
silent_so Start r = record { update = refl; transfer = refl; standing = inr tt }
silent_so Information r = record { update = refl; transfer = refl; standing = inr tt }
silent_so Transfer r = record { update = refl; transfer = refl; standing = inr tt }
silent_so (Block b) r = record { update = refl; transfer = refl; standing = inr tt }
silent_so (Chunks b) r = record { update = refl; transfer = refl; standing = inr tt }
silent_so (Pull b) r = record { update = refl; transfer = refl; standing = inr tt }
silent_so (Get b) r = record { update = refl; transfer = refl; standing = inr tt }
silent_so Verify r = record { update = refl; transfer = refl; standing = inr tt }
silent_so Apply r = record { update = refl; transfer = refl; standing = inl refl }
silent_so Confirm r = record {
  update = unconfirmed_update (r.row.phase == apply_success) r.row;
  transfer = unconfirmed_transfer (r.row.phase == apply_success) r.row;
  standing = inr tt;
}
silent_so Cancel r = record { update = refl; transfer = refl; standing = inl refl }

silent_kept : (step : Step) (r : Receiver) (b : Bool) → Keeps r (silent_if step r b)
silent_kept step r true = silent_so step r
silent_kept step r false = same r

counts : (n : ℕ) (r : Receiver) → Keeps r (with_silent n r)
counts n r = record { update = refl; transfer = refl; standing = inl refl }

counted_kept : (step : Step) (r : Receiver) (b : Bool) → Keeps r (counted_if step r b)
counted_kept step r true =
    keeps_then r (with_silent (silent_after step r) r) (counted_if step r true) (counts (silent_after step r) r)
    (silent_kept step (with_silent (silent_after step r) r) (nat_le most_silent (silent_after step r)))
counted_kept step r false = same r

counting_kept : (x : Client) (step : Step) → Kept x.receivers (after_counting x step).receivers
counting_kept x step = kept_map (round_counted step) (λ r. counted_kept step r r.pending) x.receivers

round_or_kept : (x : Client) (step : Step) (b : Bool) → Kept x.receivers (round_or_next x step b).next.receivers
round_or_kept x step true = kept_map unheard (λ r. record { update = refl; transfer = refl; standing = inl refl }) x.receivers
round_or_kept x step false = next_kept x step

over_kept : (x : Client) (step : Step) (b : Bool) → Kept x.receivers (if_round_over x step b).next.receivers
over_kept x step true =
    kept_then x.receivers (after_counting x step).receivers (if_round_over x step true).next.receivers (counting_kept x step)
    (round_or_kept (after_counting x step) step (list_any is_pending (after_counting x step).receivers))
over_kept x step false = kept_same x.receivers

round_kept : (x : Client) (step : Step) → Kept x.receivers (by_round x step).next.receivers
round_kept x step = over_kept x step (nat_le (x.began + round_time x.sending) x.moment)

wanted_kept : (x : Client) (step : Step) (items : List Item) → Kept x.receivers (by_wanted x step items).next.receivers
wanted_kept x step [] = round_kept x step
wanted_kept x step (item ∷ items) = kept_map unwanted (λ r. record { update = refl; transfer = refl; standing = inl refl }) x.receivers

sent_kept : (x : Client) (step : Step) → Kept x.receivers (list_is_sent x step).next.receivers
sent_kept x (Pull b) = wanted_kept x (Pull b) (chunk_items x.sending b wanted_of x.receivers)
sent_kept x step = round_kept x step

list_kept : (x : Client) (step : Step) (items : List Item) → Kept x.receivers (by_list x step items).next.receivers
list_kept x step [] = sent_kept x step
list_kept x step (item ∷ items) = kept_same x.receivers

step_kept : (x : Client) (step : Step) (b : Bool) → Kept x.receivers (by_step x step b).next.receivers
step_kept x step true = next_kept x step
step_kept x step false = list_kept x step x.queue

place_kept : (x : Client) (place : Place) → Kept x.receivers (by_place x place).next.receivers
place_kept x (Before step) = goes_kept x (Go step)
place_kept x (At step) = step_kept x step (is_done x step)
place_kept x Verified = kept_same x.receivers
place_kept x (Ended part) = kept_same x.receivers

pub time_kept : (c : Client) (now : ℕ) → Kept c.receivers (going c now).next.receivers
time_kept c now = place_kept (at_moment c now) c.place

-- ---- a receiver

no_status : (standing : Standing) (step status : ℕ) → standing ≡ Gone (Status step status) → IsNoStatus standing → ⊥
no_status standing step status e h = subst IsNoStatus e h

gone : (r : Receiver) (cause : Dropped) → r.standing ≡ Gone cause → is_active r ≡ false
gone r cause e = ap stands_active e

time_stands : (r e : Receiver) → Keeps r e → StaysGone r e → StandsInRow r → StandsInRow e
time_stands r e k g (nowhere none update transfer) =
    nowhere (elim k.standing as (λ _. IsNoStatus e.standing) [ inl same ↦ subst IsNoStatus (sym same) none | inr now ↦ now ]) (k.update ∙ update) (k.transfer ∙ transfer)
time_stands r e k g (by_update step is standing transfer) =
    by_update step is (g.stays (gone r _ standing) ∙ (standing ∙ ap (λ s. Gone (Status (step_number step) s)) (sym k.update))) (k.transfer ∙ transfer)
time_stands r e k g (by_transfer step is standing update) =
    by_transfer step is (g.stays (gone r _ standing) ∙ (standing ∙ ap (λ s. Gone (Status (step_number step) s)) (sym k.transfer))) (k.update ∙ update)

-- ---- steps of updates and of BLOBs

blob_number : (step : Step) → IsBlobStep step → (3 ≤ step_number step) × (step_number step ≤ 7)
blob_number Information h = (omega arith, omega arith)
blob_number Transfer h = (omega arith, omega arith)
blob_number (Block b) h = (omega arith, omega arith)
blob_number (Pull b) h = (omega arith, omega arith)
blob_number (Get b) h = (omega arith, omega arith)
blob_number Check h = absurd h
blob_number Start h = absurd h
blob_number (Chunks b) h = absurd h
blob_number Verify h = absurd h
blob_number Apply h = absurd h
blob_number Confirm h = absurd h
blob_number Cancel h = absurd h

update_number : (step : Step) → IsUpdateStep step → (step_number step ≤ 2) ⊎ (8 ≤ step_number step)
update_number Check h = inl (omega arith)
update_number Start h = inl (omega arith)
update_number Apply h = inr (omega arith)
update_number Information h = absurd h
update_number Transfer h = absurd h
update_number (Block b) h = absurd h
update_number (Chunks b) h = absurd h
update_number (Pull b) h = absurd h
update_number (Get b) h = absurd h
update_number Verify h = absurd h
update_number Confirm h = absurd h
update_number Cancel h = absurd h

same_number : (m n s t : ℕ) → Gone (Status m s) ≡ Gone (Status n t) → m ≡ n
same_number m n s t e = cc

apart : (a b : Step) → IsUpdateStep a → IsBlobStep b → (s t : ℕ) → Gone (Status (step_number a) s) ≡ Gone (Status (step_number b) t) → ⊥
apart a b update blob s t e =
    let number : step_number a ≡ step_number b = same_number (step_number a) (step_number b) s t e in
    let least = (blob_number b blob).0 in
    let most = (blob_number b blob).1 in
    elim (update_number a update) as (λ _. ⊥) [
      | inl low ↦ omega (arith, number, least, low)
      | inr high ↦ omega (arith, number, most, high)
    ]

-- ---- a packet

told_stands : (c : Client) (r e : Receiver) → StatusStands c r e → StaysGone r e → StandsInRow r → StandsInRow e
told_stands c r e (as_before standing update transfer) g (nowhere none u t) = nowhere (subst IsNoStatus (sym standing) none) (update ∙ u) (transfer ∙ t)
told_stands c r e (as_before standing update transfer) g (by_update step is was t) = by_update step is (standing ∙ (was ∙ ap (λ s. Gone (Status (step_number step) s)) (sym update))) (transfer ∙ t)
told_stands c r e (as_before standing update transfer) g (by_transfer step is was u) = by_transfer step is (standing ∙ (was ∙ ap (λ s. Gone (Status (step_number step) s)) (sym transfer))) (update ∙ u)
told_stands c r e (now_by_update now is place standing transfer) g (nowhere none u t) = by_update now is standing (transfer ∙ t)
told_stands c r e (now_by_update now is place standing transfer) g (by_update step was_is was t) = by_update now is standing (transfer ∙ t)
told_stands c r e (now_by_update now is place standing transfer) g (by_transfer step was_is was u) =
    absurd (apart now step is was_is _ _ (sym standing ∙ (g.stays (gone r _ was) ∙ was)))
told_stands c r e (now_by_transfer now is place standing update) g (nowhere none u t) = by_transfer now is standing (update ∙ u)
told_stands c r e (now_by_transfer now is place standing update) g (by_update step was_is was t) =
    absurd (apart step now was_is is _ _ (sym was ∙ (sym (g.stays (gone r _ was)) ∙ standing)))
told_stands c r e (now_by_transfer now is place standing update) g (by_transfer step was_is was u) = by_transfer now is standing (update ∙ u)
told_stands c r e (by_none none update transfer) g (nowhere was u t) = nowhere none (update ∙ u) (transfer ∙ t)
told_stands c r e (by_none none update transfer) g (by_update step is was t) = absurd (no_status e.standing _ _ (g.stays (gone r _ was) ∙ was) none)
told_stands c r e (by_none none update transfer) g (by_transfer step is was u) = absurd (no_status e.standing _ _ (g.stays (gone r _ was) ∙ was) none)

-- ---- all receivers

all_told : (c : Client) (rs es : List Receiver) → Each (StatusStands c) rs es → EachTold StaysGone rs es → AllByRecursion StandsInRow rs → AllByRecursion StandsInRow es
all_told c [] [] h g k = tt
all_told c [] (e ∷ es) h g k = absurd h
all_told c (r ∷ rs) [] h g k = absurd h
all_told c (r ∷ rs) (e ∷ es) h g k = (told_stands c r e h.0 g.0 k.0, all_told c rs es h.1 g.1 k.1)

all_timed : (rs es : List Receiver) → Kept rs es → EachTold StaysGone rs es → AllByRecursion StandsInRow rs → AllByRecursion StandsInRow es
all_timed [] [] h g k = tt
all_timed [] (e ∷ es) h g k = absurd h
all_timed (r ∷ rs) [] h g k = absurd h
all_timed (r ∷ rs) (e ∷ es) h g k = (time_stands r e h.0 g.0 k.0, all_timed rs es h.1 g.1 k.1)

-- ---- an updater

pub record Holds (c : Client) : Type 0 where
  pub sound : IsSound c
  pub stand : AllByRecursion StandsInRow c.receivers

moved : (c : Client) (now : ℕ) → Holds c → Holds (at_moment c now)
moved c now h = record { sound = h.sound; stand = h.stand }

module _ (laws : StatusLaws) where
  answer_holds : (c : Client) (from now : ℕ) (answer : Option Answer) → Holds c → Holds (answer_handled c from now answer).next
  answer_holds c from now None h = moved c now h
  answer_holds c from now (Some answer) h = record {
    sound = laws.events.tells c from answer now h.sound;
    stand = all_told c c.receivers (told c from answer now).receivers (laws.stand c from answer now) (laws.stay.tells c from answer now h.sound) h.stand;
  }

  event_holds : (u : Updater) (event : NodeEvent) (now : ℕ) → Holds u.client → Holds (updater_step u event now).next.client
  event_holds u (PacketComes packet) now h =
      elim (packet.to == u.client.sending.from)
      as (λ b. Holds (cond b (answer_handled u.client packet.from now (answer_at packet.payload)) (answer_handled u.client packet.from now None)).next) [
        | true ↦ answer_holds u.client packet.from now (answer_at packet.payload) h
        | false ↦ moved u.client now h
      ]
  event_holds u TimeComes now h = record {
    sound = laws.events.dues u.client u.image.octets now h.sound;
    stand = all_timed u.client.receivers (going u.client now).next.receivers (time_kept u.client now) (laws.stay.dues u.client u.image.octets now h.sound) h.stand;
  }

  run_holds : (u : Updater) (run : List (NodeEvent × ℕ)) → Holds u.client → Holds (updater_after u run).client
  run_holds u [] h = h
  run_holds u (e ∷ run) h = run_holds (updater_step u e.0 e.1).next run (event_holds u e.0 e.1 h)

  new_stand : (to : List (ℕ × ℕ)) → AllByRecursion StandsInRow (map new_active to)
  new_stand [] = tt
  new_stand (receiver ∷ to) = (nowhere tt refl refl, new_stand to)

  pub drops_stand : DropsStandInRows
  drops_stand plan image to run = (run_holds (new_updater plan image to) run (record { sound = laws.begins.starts plan to; stand = new_stand to })).stand
