-- Each event keeps a sound client within its bounds.
use Rattle.std.proofs.Common.{◌≡◌, ◌⊎◌, inl, inr, ◌≤◌, ◌<◌, ◌+◌, ◌==◌, ℕ, zero, suc, List, [], ◌∷◌, refl, sym, ◌∙◌, ap, subst, true, false, Bool, Option, Some, None, arith, map, cond}
use Rattle.std.specs.Prelude.{if◌then◌else◌, nat_le, max, drop}
use Rattle.std.specs.List.{AllByRecursion, find, range_with_len, list_any}
use Rattle.std.proofs.Math.Nat.{le-max_left}
use Rattle.std.proofs.lemmas.Bool.Decides.{nat_tests}
use Rattle.mu_model_client.specs.declared.Sending.{Sending}
use Rattle.mu_model_client.specs.Answers.{Answer}
use Rattle.mu_model_client.specs.Rows.{row_unconfirmed}
use Rattle.mu_model_client.specs.Client.{Purpose, Blob, Update, Step, Check, Start, Information, Transfer, Block, Chunks, Pull, Get, Verify, Apply, Confirm, Cancel, step_number, Part, part_of, Receiver, is_active, is_pending, misses_chunks, is_in, is_begun_for, Item, Place, Before, At, Verified, Ended, Client, at_moment, block_total, chunk_total, round_time, is_push}
use Rattle.mu_model_client.specs.declared.Dropped.TheVariants.{Silent}
use Rattle.mu_model_client.specs.Begin as b
use Rattle.mu_model_client.specs.Told as t
use Rattle.mu_model_client.specs.Told.{told}
use Rattle.mu_model_client.specs.Lists.{chunk_items, wanted_of}
use Rattle.mu_model_client.specs.Due.{due}
use Rattle.mu_model_client.specs.Going as g
use Rattle.mu_model_client.specs.Going.{Next, Go, Rests, Ends}
use Rattle.mu_model_client_laws.specs.Laws.{IsAsked, IsSound}
use Rattle.mu_model_client_bounds.specs.Bounds.{StepFits, PlaceFits, HasLength, HasChunks, WantsAt, IsWithin, IsBounded, EventsBounded}
use Rattle.mu_model_client_bounds.proofs.Sets.{none_in, none_at, loose}
use Rattle.mu_model_client_bounds.proofs.Answered.{answers, drops, row_counted, by_place}

-- ---- lists of receivers

all_map : (P Q : Receiver → Type 0) (f : Receiver → Receiver) → ((r : Receiver) → P r → Q (f r)) → (rs : List Receiver) → AllByRecursion P rs → AllByRecursion Q (map f rs)
all_map P Q f h [] a = tt
all_map P Q f h (r ∷ rs) a = (h r a.0, all_map P Q f h rs a.1)

all_to : (P Q : Receiver → Type 0) → ((r : Receiver) → P r → Q r) → (rs : List Receiver) → AllByRecursion P rs → AllByRecursion Q rs
all_to P Q h [] a = tt
all_to P Q h (r ∷ rs) a = (h r a.0, all_to P Q h rs a.1)

both_map : (P S Q : Receiver → Type 0) (f : Receiver → Receiver) → ((r : Receiver) → P r → S r → Q (f r)) → (rs : List Receiver) → AllByRecursion P rs → AllByRecursion S rs
    → AllByRecursion Q (map f rs)
both_map P S Q f h [] a s = tt
both_map P S Q f h (r ∷ rs) a s = (h r a.0 s.0, both_map P S Q f h rs a.1 s.1)

-- ---- a packet

asked_row : (p : Sending) (place : Place) (answer : Answer) (r : Receiver) (purpose : Purpose) (present : Bool) → IsAsked place r → IsAsked place (t.row_counted p answer r purpose present)
asked_row p place answer r Blob true a = a
asked_row p place answer r (Update offered applies) true a = record { may = a.may; few = a.few }
asked_row p place answer r purpose false a = a

told_within : (c : Client) (answer : Answer) (r : Receiver) (theirs : Bool) → PlaceFits c.sending c.place → IsWithin c.sending c.place r → IsAsked c.place r
    → IsWithin c.sending c.place (t.told_if c answer r theirs)
told_within c answer r true k a asked =
    by_place c.sending c.place (t.row_counted c.sending answer r c.purpose (t.is_present c.place)) answer k
    (asked_row c.sending c.place answer r c.purpose (t.is_present c.place) asked)
    (row_counted c.sending c.place r answer c.purpose (t.is_present c.place) a)
told_within c answer r false k a asked = a

later : (began moment now : ℕ) → began ≤ moment → began ≤ max moment now
later began moment now h = (let k = le-max_left moment now in omega (arith, h, k))

told_bounded : (c : Client) (from : ℕ) (answer : Answer) (now : ℕ) → IsSound c → IsBounded c → IsBounded (told c from answer now)
told_bounded c from answer now s h = record {
  began = later c.began c.moment now h.began;
  fits = h.fits;
  receivers = both_map (IsWithin c.sending c.place) (IsAsked c.place) (IsWithin c.sending c.place) (λ r. t.told_if c answer r (r.row.address == from))
      (λ r a asked. told_within c answer r (r.row.address == from) h.fits a asked) c.receivers h.receivers s;
}

-- ---- another place

moved_within : (p : Sending) (place next : Place) → PlaceFits p place → ((wanted : List Bool) → HasChunks p wanted → WantsAt p next wanted) → (r : Receiver) → IsWithin p place r
    → IsWithin p next r
moved_within p place next k to r a = record {
  silent = a.silent;
  barren = a.barren;
  few_barren = a.few_barren;
  blocks = a.blocks;
  chunks = a.chunks;
  wanted = to r.wanted (loose p place r.wanted k a.wanted);
}

-- a place that asks of no block
placed : (c : Client) (next : Place) (queue : List Item) → PlaceFits c.sending next → ((wanted : List Bool) → HasChunks c.sending wanted → WantsAt c.sending next wanted) → IsBounded c
    → IsBounded (record c { place = next; queue = queue })
placed c next queue k to h = record {
  began = h.began;
  fits = k;
  receivers = all_to (IsWithin c.sending c.place) (IsWithin c.sending next) (moved_within c.sending c.place next h.fits to) c.receivers h.receivers;
}

queued : (c : Client) (queue : List Item) → IsBounded c → IsBounded (record c { queue = queue })
queued c queue h = record { began = h.began; fits = h.fits; receivers = h.receivers }

-- ---- what comes after a step

abbrev NextFits : Sending → Next → Type 0
NextFits p (Go step) = StepFits p step
NextFits p Rests = Unit {0}
NextFits p (Ends part) = Unit {0}

found_test : (test : Bool) (from block most : ℕ) (rest o : Option ℕ) → cond test (Some from) rest ≡ o → o ≡ Some block → from < most → (rest ≡ o → block < most) → block < most
found_test true from block most rest o e is h k = let same : from ≡ block = cc in omega (arith, h)
found_test false from block most rest o e is h k = k e

found_below : (f : ℕ → Bool) (from n most : ℕ) (o : Option ℕ) → find f (range_with_len from n) ≡ o → from + n ≤ most → (block : ℕ) → o ≡ Some block → block < most
found_below f from zero most o e h block is = cc
found_below f from (suc n) most o e h block is =
    found_test (f from) from block most (find f (range_with_len (from + 1) n)) o e is (omega (arith, h)) (λ k. found_below f (from + 1) n most o k (omega (arith, h)) block is)

module _ (p : Sending) (purpose : Purpose) (rs : List Receiver) where
  block_or_fits : (next : Next) (o : Option ℕ) → NextFits p next → ((block : ℕ) → o ≡ Some block → block < block_total p) → NextFits p (g.block_or next o)
  block_or_fits next None h k = h
  block_or_fits next (Some block) h k = k block refl

  blocks_over : (q : Purpose) → NextFits p (g.after_blocks q)
  blocks_over Blob = tt
  blocks_over (Update offered applies) = tt

  next_block_fits : NextFits p (g.next_block p purpose rs)
  next_block_fits =
      block_or_fits (g.after_blocks purpose) (g.least_missed p rs) (blocks_over purpose)
      (found_below (g.is_missed rs) 0 (block_total p) (block_total p) (g.least_missed p rs) refl (omega arith))

  chunks_or_fits : (step : Step) (next : Next) (test : Bool) → StepFits p step → NextFits p next → NextFits p (cond test (Go step) next)
  chunks_or_fits step next true h k = h
  chunks_or_fits step next false h k = k

  chunk_step_fits : (block : ℕ) (push : Bool) → block < block_total p → StepFits p (cond push (Chunks block) (Pull block))
  chunk_step_fits block true h = h
  chunk_step_fits block false h = h

  verified_fits : (applies : Bool) → NextFits p (g.after_verify applies)
  verified_fits true = tt
  verified_fits false = tt

  after_fits : (step : Step) → StepFits p step → NextFits p (g.after p purpose rs step)
  after_fits Check h = tt
  after_fits Start h = tt
  after_fits Information h = tt
  after_fits Transfer h = next_block_fits
  after_fits (Block block) h =
      chunks_or_fits (g.chunk_step p block) (g.next_block p purpose rs) (list_any misses_chunks rs) (chunk_step_fits block (is_push p) h) next_block_fits
  after_fits (Chunks block) h = h
  after_fits (Pull block) h = next_block_fits
  after_fits (Get block) h = chunks_or_fits (Chunks block) (g.next_block p purpose rs) (list_any misses_chunks rs) h next_block_fits
  after_fits Verify h = verified_fits (g.applies purpose)
  after_fits Apply h = tt
  after_fits Confirm h = tt
  after_fits Cancel h = tt

-- ---- a step begins

begun_within : (p : Sending) (place : Place) (step : Step) (r : Receiver) (is_in_it : Bool) → IsWithin p place r → IsWithin p (At step) (g.begun_if r is_in_it)
begun_within p place step r true a = record { silent = omega arith; barren = a.barren; few_barren = a.few_barren; blocks = a.blocks; chunks = a.chunks; wanted = none_in p step }
begun_within p place step r false a = record { silent = a.silent; barren = a.barren; few_barren = a.few_barren; blocks = a.blocks; chunks = a.chunks; wanted = none_in p step }

in_step_bounded : (c : Client) (step : Step) (queue : List Item) → StepFits c.sending step → IsBounded c → IsBounded (record (g.in_step c step) { queue = queue })
in_step_bounded c step queue k h = record {
  began = omega arith;
  fits = k;
  receivers = all_map (IsWithin c.sending c.place) (IsWithin c.sending (At step)) (g.begun step) (λ r a. begun_within c.sending c.place step r (is_in step r) a) c.receivers h.receivers;
}

begins : (c : Client) (step : Step) (some : Bool) → StepFits c.sending step → IsBounded c → IsBounded (g.begins_if c step some).next
begins c step true k h = in_step_bounded c step (drop g.most_packets (g.first_of c step)) k h
begins c step false k h = placed c (Ended (part_of step)) [] tt (λ wanted w. w) h

goes_on : (c : Client) (next : Next) → NextFits c.sending next → IsBounded c → IsBounded (g.goes_on c next).next
goes_on c (Go step) k h = begins c step (list_any (is_begun_for step) c.receivers) k h
goes_on c Rests k h = placed c Verified [] tt (λ wanted w. w) h
goes_on c (Ends part) k h = placed c (Ended part) [] tt (λ wanted w. w) h

step_fits : (c : Client) (step : Step) → c.place ≡ At step → IsBounded c → StepFits c.sending step
step_fits c step e h = subst (λ place. PlaceFits c.sending place) e h.fits

next_step : (c : Client) (step : Step) → c.place ≡ At step → IsBounded c → IsBounded (g.next_step c step).next
next_step c step e h =
    goes_on c (g.after c.sending c.purpose c.receivers step) (after_fits c.sending c.purpose c.receivers step (step_fits c step e h)) h

-- ---- a round ends

module _ (p : Sending) (place : Place) where
  fell_within : (step : Step) (r : Receiver) → IsWithin p place r → IsWithin p place (g.fell_silent r step)
  fell_within Apply r a = answers p place r a
  fell_within Cancel r a = answers p place r a
  fell_within Confirm r a =
      drops p place (Silent 10) (record r { row = row_unconfirmed r.row })
      (record { silent = a.silent; barren = a.barren; few_barren = a.few_barren; blocks = a.blocks; chunks = a.chunks; wanted = a.wanted })
  fell_within Check r a = drops p place (Silent 1) r a
  fell_within Start r a = drops p place (Silent 2) r a
  fell_within Information r a = drops p place (Silent 3) r a
  fell_within Transfer r a = drops p place (Silent 4) r a
  fell_within (Block block) r a = drops p place (Silent 5) r a
  fell_within (Chunks block) r a = drops p place (Silent 6) r a
  fell_within (Pull block) r a = drops p place (Silent 6) r a
  fell_within (Get block) r a = drops p place (Silent 7) r a
  fell_within Verify r a = drops p place (Silent 8) r a

  pull_most : (r : Receiver) (heard : Bool) → r.silent < 5 → g.pull_silent r heard ≤ 5
  pull_most r true h = omega arith
  pull_most r false h = omega (arith, h)

  silent_most : (step : Step) (r : Receiver) → r.silent < 5 → g.silent_after step r ≤ 5
  silent_most (Pull block) r h = pull_most r r.heard h
  silent_most Check r h = omega (arith, h)
  silent_most Start r h = omega (arith, h)
  silent_most Information r h = omega (arith, h)
  silent_most Transfer r h = omega (arith, h)
  silent_most (Block block) r h = omega (arith, h)
  silent_most (Chunks block) r h = omega (arith, h)
  silent_most (Get block) r h = omega (arith, h)
  silent_most Verify r h = omega (arith, h)
  silent_most Apply r h = omega (arith, h)
  silent_most Confirm r h = omega (arith, h)
  silent_most Cancel r h = omega (arith, h)

  silent_within : (silent : ℕ) (r : Receiver) → silent ≤ 5 → IsWithin p place r → IsWithin p place (g.with_silent silent r)
  silent_within silent r h a = record { silent = h; barren = a.barren; few_barren = a.few_barren; blocks = a.blocks; chunks = a.chunks; wanted = a.wanted }

  fallen_within : (step : Step) (r : Receiver) (five : Bool) → IsWithin p place r → IsWithin p place (g.silent_if step r five)
  fallen_within step r true a = fell_within step r a
  fallen_within step r false a = a

  counted_within : (step : Step) (r : Receiver) (pending : Bool) → r.pending ≡ pending → IsAsked place r → IsWithin p place r → IsWithin p place (g.counted_if step r pending)
  counted_within step r true e asked a =
      fallen_within step (g.with_silent (g.silent_after step r) r) (nat_le g.most_silent (g.silent_after step r))
      (silent_within (g.silent_after step r) r (silent_most step r (asked.few e)) a)
  counted_within step r false e asked a = a

counting_bounded : (c : Client) (step : Step) → IsSound c → IsBounded c → IsBounded (g.after_counting c step)
counting_bounded c step s h = record {
  began = h.began;
  fits = h.fits;
  receivers = both_map (IsWithin c.sending c.place) (IsAsked c.place) (IsWithin c.sending c.place) (g.round_counted step)
      (λ r a asked. counted_within c.sending c.place step r r.pending refl asked a) c.receivers h.receivers s;
}

unheard_within : (p : Sending) (place : Place) (r : Receiver) → IsWithin p place r → IsWithin p place (g.unheard r)
unheard_within p place r a = record { silent = a.silent; barren = a.barren; few_barren = a.few_barren; blocks = a.blocks; chunks = a.chunks; wanted = a.wanted }

unwanted_within : (p : Sending) (place : Place) (r : Receiver) → IsWithin p place r → IsWithin p place (g.unwanted r)
unwanted_within p place r a = record { silent = a.silent; barren = a.barren; few_barren = a.few_barren; blocks = a.blocks; chunks = a.chunks; wanted = none_at p place }

new_round_bounded : (c : Client) (step : Step) → IsBounded c → IsBounded (g.new_round c step).next
new_round_bounded c step h = record {
  began = omega arith;
  fits = h.fits;
  receivers = all_map (IsWithin c.sending c.place) (IsWithin c.sending c.place) g.unheard (unheard_within c.sending c.place) c.receivers h.receivers;
}

round_or_next : (c : Client) (step : Step) (pending : Bool) → c.place ≡ At step → IsBounded c → IsBounded (g.round_or_next c step pending).next
round_or_next c step true e h = new_round_bounded c step h
round_or_next c step false e h = next_step c step e h

if_round_over : (c : Client) (step : Step) (over : Bool) → c.place ≡ At step → IsSound c → IsBounded c → IsBounded (g.if_round_over c step over).next
if_round_over c step true e s h = round_or_next (g.after_counting c step) step (list_any is_pending (g.after_counting c step).receivers) e (counting_bounded c step s h)
if_round_over c step false e s h = h

-- ---- time

module _ (c : Client) (s : IsSound c) (h : IsBounded c) where
  by_round : (step : Step) → c.place ≡ At step → IsBounded (g.by_round c step).next
  by_round step e = if_round_over c step (nat_le (c.began + round_time c.sending) c.moment) e s h

  by_wanted : (step : Step) (items : List Item) → c.place ≡ At step → IsBounded (g.by_wanted c step items).next
  by_wanted step [] e = by_round step e
  by_wanted step (item ∷ items) e = record {
    began = h.began;
    fits = h.fits;
    receivers = all_map (IsWithin c.sending c.place) (IsWithin c.sending c.place) g.unwanted (unwanted_within c.sending c.place) c.receivers h.receivers;
  }

  list_is_sent : (step : Step) → c.place ≡ At step → IsBounded (g.list_is_sent c step).next
  list_is_sent (Pull block) e = by_wanted (Pull block) (chunk_items c.sending block wanted_of c.receivers) e
  list_is_sent Check e = by_round Check e
  list_is_sent Start e = by_round Start e
  list_is_sent Information e = by_round Information e
  list_is_sent Transfer e = by_round Transfer e
  list_is_sent (Block block) e = by_round (Block block) e
  list_is_sent (Chunks block) e = by_round (Chunks block) e
  list_is_sent (Get block) e = by_round (Get block) e
  list_is_sent Verify e = by_round Verify e
  list_is_sent Apply e = by_round Apply e
  list_is_sent Confirm e = by_round Confirm e
  list_is_sent Cancel e = by_round Cancel e

  by_list : (step : Step) (items : List Item) → c.place ≡ At step → IsBounded (g.by_list c step items).next
  by_list step [] e = list_is_sent step e
  by_list step (item ∷ items) e = queued c (drop g.most_packets (item ∷ items)) h

  by_step : (step : Step) (over : Bool) → c.place ≡ At step → IsBounded (g.by_step c step over).next
  by_step step true e = next_step c step e h
  by_step step false e = by_list step c.queue e

  before_fits : (step : Step) → c.place ≡ Before step → StepFits c.sending step
  before_fits step e = subst (λ place. PlaceFits c.sending place) e h.fits

  in_place : (place : Place) → c.place ≡ place → IsBounded (g.by_place c place).next
  in_place (Before step) e = goes_on c (Go step) (before_fits step e) h
  in_place (At step) e = by_step step (g.is_done c step) e
  in_place Verified e = h
  in_place (Ended part) e = h

at_moment_bounded : (c : Client) (now : ℕ) → IsBounded c → IsBounded (at_moment c now)
at_moment_bounded c now h = record { began = later c.began c.moment now h.began; fits = h.fits; receivers = h.receivers }

due_bounded : (c : Client) (image : List ℕ) (now : ℕ) → IsSound c → IsBounded c → IsBounded (due c image now).next
due_bounded c image now s h = in_place (at_moment c now) s (at_moment_bounded c now h) c.place refl

-- ---- applying and cancelling

canceled_within : (p : Sending) (place : Place) (r : Receiver) → IsWithin p place r → IsWithin p (Before Cancel) (b.canceled r)
canceled_within p place r a = record { silent = a.silent; barren = a.barren; few_barren = a.few_barren; blocks = a.blocks; chunks = a.chunks; wanted = none_at p (Before Cancel) }

pub events_bounded : EventsBounded
events_bounded = record {
  tells = told_bounded;
  dues = due_bounded;
  applies = λ c e h. placed c (Before Apply) [] tt (λ wanted w. w) h;
  cancels = λ c h. record {
    began = h.began;
    fits = tt;
    receivers = all_map (IsWithin c.sending c.place) (IsWithin c.sending (Before Cancel)) b.canceled (canceled_within c.sending c.place) c.receivers h.receivers;
  };
}
