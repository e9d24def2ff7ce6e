-- The ways in which a time event goes: each law of `due` is proved once for each of them.
use Rattle.std.proofs.Common.{◌≡◌, ◌≤◌, ◌+◌, ℕ, List, [], ◌∷◌, refl, sym, true, false, Bool, Option, Some, None, arith, map}
use Rattle.std.specs.Prelude.{nat_le}
use Rattle.std.specs.List.{list_any}
use Rattle.std.proofs.lemmas.Bool.Decides.{nat_tests}
use Rattle.mu_model_client.specs.Client.{Step, Check, Start, Information, Transfer, Block, Chunks, Pull, Get, Verify, Apply, Confirm, Cancel, Part, part_of, is_pending, is_begun_for, Item, Place, Before, At, Verified, Ended, Client, at_moment, round_time}
use Rattle.mu_model_client.specs.Lists.{chunk_items, wanted_of}
use Rattle.mu_model_client.specs.Due as d
use Rattle.mu_model_client.specs.Due.{Due, Next, Go, Rests, Ends, due}

-- the round of this step is over, and its list was sent
pub record IsCounted (c : Client) (step : Step) : Type 0 where
  pub place_is : c.place ≡ At step
  pub over : c.began + round_time c.sending ≤ c.moment

abbrev pub counted_as : Client → Option Step → Client
counted_as c None = c
counted_as c (Some step) = d.after_counting c step

abbrev pub Counted : Client → Option Step → Type 0
Counted c None = Unit {0}
Counted c (Some step) = IsCounted c step

pub record Ways (c : Client) (image : List ℕ) (P : Due → Type 0) : Type 0 where
  pub idle : P (d.sends_nothing c)
  pub rests : (o : Option Step) → Counted c o → P (d.sends_nothing (record (counted_as c o) { place = Verified; queue = [] }))
  pub ends : (o : Option Step) → Counted c o → (part : Part) → P (d.sends_nothing (d.ended part (counted_as c o)))
  pub begins :
      (o : Option Step) → Counted c o → (step : Step) → list_any (is_begun_for step) (counted_as c o).receivers ≡ true
      → P (d.sends (d.in_step (counted_as c o) step) image (d.first_of (counted_as c o) step))
  pub goes_on_with : (items : List Item) → c.queue ≡ items → P (d.sends c image items)
  pub wants : (b : ℕ) → c.place ≡ At (Pull b) → (items : List Item) → chunk_items c.sending b wanted_of c.receivers ≡ items
      → P (d.sends (record c { receivers = map d.unwanted c.receivers }) image items)
  pub again : (step : Step) → IsCounted c step → P (d.new_round (d.after_counting c step) image step)

module _ (c : Client) (image : List ℕ) (P : Due → Type 0) (w : Ways c image P) where
  by_begin : (o : Option Step) → Counted c o → (step : Step) → (b : Bool) → b ≡ list_any (is_begun_for step) (counted_as c o).receivers
      → P (d.begins_if (counted_as c o) image step b)
  by_begin o h step true e = w.begins o h step (sym e)
  by_begin o h step false e = w.ends o h (part_of step)

  by_next : (o : Option Step) → Counted c o → (next : Next) → P (d.goes_on (counted_as c o) image next)
  by_next o h (Go step) = by_begin o h step (list_any (is_begun_for step) (counted_as c o).receivers) refl
  by_next o h Rests = w.rests o h
  by_next o h (Ends part) = w.ends o h part

  by_pending : (step : Step) → IsCounted c step → (b : Bool) → P (d.round_or_next (d.after_counting c step) image step b)
  by_pending step h true = w.again step h
  by_pending step h false = by_next (Some step) h (d.after c.sending c.purpose (d.after_counting c step).receivers step)

  by_time : (step : Step) → c.place ≡ At step → (b : Bool) → b ≡ nat_le (c.began + round_time c.sending) c.moment → P (d.if_round_over c image step b)
  by_time step e true h =
      by_pending step (record { place_is = e; over = grind (arith, nat_tests, h) }) (list_any is_pending (d.after_counting c step).receivers)
  by_time step e false h = w.idle

  by_round : (step : Step) → c.place ≡ At step → P (d.by_round c image step)
  by_round step e = by_time step e (nat_le (c.began + round_time c.sending) c.moment) refl

  by_wanted : (b : ℕ) → c.place ≡ At (Pull b) → (items : List Item) → chunk_items c.sending b wanted_of c.receivers ≡ items → P (d.by_wanted c image (Pull b) items)
  by_wanted b e [] h = by_round (Pull b) e
  by_wanted b e (item ∷ items) h = w.wants b e (item ∷ items) h

  by_sent : (step : Step) → c.place ≡ At step → P (d.list_is_sent c image step)
  by_sent (Pull b) e = by_wanted b e (chunk_items c.sending b wanted_of c.receivers) refl
  by_sent Check e = by_round Check e
  by_sent Start e = by_round Start e
  by_sent Information e = by_round Information e
  by_sent Transfer e = by_round Transfer e
  by_sent (Block b) e = by_round (Block b) e
  by_sent (Chunks b) e = by_round (Chunks b) e
  by_sent (Get b) e = by_round (Get b) e
  by_sent Verify e = by_round Verify e
  by_sent Apply e = by_round Apply e
  by_sent Confirm e = by_round Confirm e
  by_sent Cancel e = by_round Cancel e

  by_list : (step : Step) → c.place ≡ At step → (items : List Item) → c.queue ≡ items → P (d.by_list c image step items)
  by_list step e [] h = by_sent step e
  by_list step e (item ∷ items) h = w.goes_on_with (item ∷ items) h

  by_step : (step : Step) → c.place ≡ At step → (b : Bool) → P (d.by_step c image step b)
  by_step step e true = by_next None tt (d.after c.sending c.purpose c.receivers step)
  by_step step e false = by_list step e c.queue refl

  pub by_place : (place : Place) → c.place ≡ place → P (d.by_place c image place)
  by_place (Before step) e = by_next None tt (Go step)
  by_place (At step) e = by_step step e (d.is_done c step)
  by_place Verified e = w.idle
  by_place (Ended part) e = w.idle

-- what holds of each way holds of the time event
pub each_way : (c : Client) (image : List ℕ) (now : ℕ) (P : Due → Type 0) → Ways (at_moment c now) image P → P (due c image now)
each_way c image now P w = by_place (at_moment c now) image P w c.place refl
