-- No time event of a client changes the moment that was handed in with it.
use Rattle.std.proofs.Common.{◌≡◌, ◌+◌, ℕ, Bool, true, false, List, [], ◌∷◌, refl, max}
use Rattle.std.specs.Prelude.{nat_le}
use Rattle.std.specs.List.{list_any}
use Rattle.mu_model_client.specs.Client.{Step, Check, Start, Information, Transfer, Block, Chunks, Pull, Get, Verify, Apply, Confirm, Cancel, is_pending, is_begun_for, Item, Place, Before, At, Verified, Ended, Client, at_moment, round_time}
use Rattle.mu_model_client.specs.Lists.{chunk_items, wanted_of}
use Rattle.mu_model_client.specs.Due as d
use Rattle.mu_model_client.specs.Due.{Due, Next, Go, Rests, Ends, due}

module _ (image : List ℕ) where
  begins : (c : Client) (step : Step) (b : Bool) → (d.begins_if c image step b).next.moment ≡ c.moment
  begins c step true = refl
  begins c step false = refl

  goes : (c : Client) (next : Next) → (d.goes_on c image next).next.moment ≡ c.moment
  goes c (Go step) = begins c step (list_any (is_begun_for step) c.receivers)
  goes c Rests = refl
  goes c (Ends part) = refl

  round : (c : Client) (step : Step) (b : Bool) → (d.round_or_next c image step b).next.moment ≡ c.moment
  round c step true = refl
  round c step false = goes c (d.after c.sending c.purpose c.receivers step)

  over : (c : Client) (step : Step) (b : Bool) → (d.if_round_over c image step b).next.moment ≡ c.moment
  over c step true = round (d.after_counting c step) step (list_any is_pending (d.after_counting c step).receivers)
  over c step false = refl

  by_round : (c : Client) (step : Step) → (d.by_round c image step).next.moment ≡ c.moment
  by_round c step = over c step (nat_le (c.began + round_time c.sending) c.moment)

  wanted : (c : Client) (step : Step) (items : List Item) → (d.by_wanted c image step items).next.moment ≡ c.moment
  wanted c step [] = by_round c step
  wanted c step (item ∷ items) = refl

  sent : (c : Client) (step : Step) → (d.list_is_sent c image step).next.moment ≡ c.moment
  sent c (Pull b) = wanted c (Pull b) (chunk_items c.sending b wanted_of c.receivers)
  sent c Check = by_round c Check
  sent c Start = by_round c Start
  sent c Information = by_round c Information
  sent c Transfer = by_round c Transfer
  sent c (Block b) = by_round c (Block b)
  sent c (Chunks b) = by_round c (Chunks b)
  sent c (Get b) = by_round c (Get b)
  sent c Verify = by_round c Verify
  sent c Apply = by_round c Apply
  sent c Confirm = by_round c Confirm
  sent c Cancel = by_round c Cancel

  list : (c : Client) (step : Step) (items : List Item) → (d.by_list c image step items).next.moment ≡ c.moment
  list c step [] = sent c step
  list c step (item ∷ items) = refl

  by_step : (c : Client) (step : Step) (b : Bool) → (d.by_step c image step b).next.moment ≡ c.moment
  by_step c step true = goes c (d.after c.sending c.purpose c.receivers step)
  by_step c step false = list c step c.queue

  by_place : (c : Client) (place : Place) → (d.by_place c image place).next.moment ≡ c.moment
  by_place c (Before step) = begins c step (list_any (is_begun_for step) c.receivers)
  by_place c (At step) = by_step c step (d.is_done c step)
  by_place c Verified = refl
  by_place c (Ended part) = refl

  pub due_keeps : (c : Client) (now : ℕ) → (due c image now).next.moment ≡ max c.moment now
  due_keeps c now = by_place (at_moment c now) c.place
