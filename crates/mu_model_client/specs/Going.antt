-- What a time event of a client does: the first case that applies, one definition a case (this profile).
use Rattle.std.specs.Prelude.{ℕ, ◌+◌, not, nat_le, Bool, true, false, List, [], ◌∷◌, map, take, drop, Option, Some, None, if◌then◌else◌}
use Rattle.std.specs.List.{list_any, find}
use Rattle.mu_model_client.specs.Sets.{below}
use Rattle.mu_model_client.specs.Rows.{row_unconfirmed}
use Rattle.mu_model_client.specs.Client.{Sending, Silent, Purpose, Blob, Update, Step, Check, Start, Information, Transfer, Block, Chunks, Pull, Get, Verify, Apply, Confirm, Cancel, step_number, Part, Transferring, Applying, Cancelling, part_of, Receiver, is_pending, misses_block, misses_chunks, is_in, is_begun_for, Item, Place, Before, At, Verified, Ended, Client, at_moment, block_total, round_time, is_push}
use Rattle.mu_model_client.specs.Lists.{again_message, messages, chunk_items, wanted_of, first_list}
use Rattle.mu_model_client.specs.Told.{answered, dropped}

-- the client after a time event, and the items that it sends
pub record Going : Type 0 where
  pub next : Client
  pub items : List Item

-- ---- what comes after a step

pub data Next : Type 0 where
  Go : Step → Next
  Rests : Next
  Ends : Part → Next

abbrev pub after_blocks : Purpose → Next
after_blocks Blob = Ends Transferring
after_blocks (Update offered apply) = Go Verify

abbrev pub block_or : Next → Option ℕ → Next
block_or next None = next
block_or next (Some b) = Go (Block b)

-- the least block that an active receiver misses
abbrev pub is_missed : List Receiver → ℕ → Bool
is_missed receivers b = list_any (misses_block b) receivers

abbrev pub least_missed : Sending → List Receiver → Option ℕ
least_missed p receivers = find (is_missed receivers) (below (block_total p))

abbrev pub next_block : Sending → Purpose → List Receiver → Next
next_block p purpose receivers = block_or (after_blocks purpose) (least_missed p receivers)

-- where an active receiver misses chunks of the block
abbrev pub chunks_or : Step → Next → List Receiver → Next
chunks_or step next receivers = if list_any misses_chunks receivers then Go step else next

abbrev pub chunk_step : Sending → ℕ → Step
chunk_step p b = if is_push p then Chunks b else Pull b

abbrev pub applies : Purpose → Bool
applies Blob = false
applies (Update offered apply) = apply

abbrev pub after_verify : Bool → Next
after_verify true = Go Apply
after_verify false = Rests

abbrev pub after : Sending → Purpose → List Receiver → Step → Next
after p purpose receivers Check = Go Start
after p purpose receivers Start = Go Information
after p purpose receivers Information = Go Transfer
after p purpose receivers Transfer = next_block p purpose receivers
after p purpose receivers (Block b) = chunks_or (chunk_step p b) (next_block p purpose receivers) receivers
after p purpose receivers (Chunks b) = Go (Get b)
after p purpose receivers (Pull b) = next_block p purpose receivers
after p purpose receivers (Get b) = chunks_or (Chunks b) (next_block p purpose receivers) receivers
after p purpose receivers Verify = after_verify (applies purpose)
after p purpose receivers Apply = Go Confirm
after p purpose receivers Confirm = Ends Applying
after p purpose receivers Cancel = Ends Cancelling

-- ---- sending

-- packets of a time event
abbrev pub most_packets : ℕ
most_packets = 16

-- the first of a list are sent, the others stay
abbrev pub sends : Client → List Item → Going
sends c items =
    record { next = record c { queue = drop most_packets items }; items = take most_packets items }

abbrev pub sends_nothing : Client → Going
sends_nothing c = record { next = c; items = [] }

-- ---- 1: the next step

-- all receivers of a step are pending, with no silent round and no wanted chunk
abbrev pub begun_if : Receiver → Bool → Receiver
begun_if r true = record r { pending = true; heard = false; silent = 0; wanted = [] }
begun_if r false = record r { pending = false; heard = false; wanted = [] }

abbrev pub begun : Step → Receiver → Receiver
begun step r = begun_if r (is_in step r)

abbrev pub in_step : Client → Step → Client
in_step c step = record c { receivers = map (begun step) c.receivers; place = At step; began = c.moment }

abbrev pub first_of : Client → Step → List Item
first_of c step = first_list c.sending c.purpose (in_step c step).receivers step

abbrev pub ended : Part → Client → Client
ended part c = record c { place = Ended part; queue = [] }

-- without a receiver the step isn't begun, and its part has ended
abbrev pub begins_if : Client → Step → Bool → Going
begins_if c step true = sends (in_step c step) (first_of c step)
begins_if c step false = sends_nothing (ended (part_of step) c)

abbrev pub goes_on : Client → Next → Going
goes_on c (Go step) = begins_if c step (list_any (is_begun_for step) c.receivers)
goes_on c Rests = sends_nothing (record c { place = Verified; queue = [] })
goes_on c (Ends part) = sends_nothing (ended part c)

abbrev pub next_step : Client → Step → Going
next_step c step = goes_on c (after c.sending c.purpose c.receivers step)

-- ---- 4: the end of a round

-- silent rounds, with this one; in pull only without a word since the round began
abbrev pub pull_silent : Receiver → Bool → ℕ
pull_silent r true = 0
pull_silent r false = r.silent + 1

abbrev pub silent_after : Step → Receiver → ℕ
silent_after (Pull b) r = pull_silent r r.heard
silent_after step r = r.silent + 1

-- silent rounds that drop
abbrev pub most_silent : ℕ
most_silent = 5

-- dropped as Silent; in applying and cancelling it counts as having answered; a row that isn't confirmed is Apply Failed
abbrev pub fell_silent : Receiver → Step → Receiver
fell_silent r Apply = answered r
fell_silent r Cancel = answered r
fell_silent r Confirm = dropped (Silent 10) (record r { row = row_unconfirmed r.row })
fell_silent r step = dropped (Silent (step_number step)) r

abbrev pub silent_if : Step → Receiver → Bool → Receiver
silent_if step r true = fell_silent r step
silent_if step r false = r

abbrev pub with_silent : ℕ → Receiver → Receiver
with_silent silent r = record r { silent = silent }

abbrev pub counted : Step → Receiver → Receiver
counted step r = silent_if step (with_silent (silent_after step r) r) (nat_le most_silent (silent_after step r))

abbrev pub counted_if : Step → Receiver → Bool → Receiver
counted_if step r true = counted step r
counted_if step r false = r

abbrev pub round_counted : Step → Receiver → Receiver
round_counted step r = counted_if step r r.pending

abbrev pub unheard : Receiver → Receiver
unheard r = record r { heard = false }

-- the list of the new round is made before its flags are cleared
abbrev pub new_round : Client → Step → Going
new_round c step =
    sends (record c { receivers = map unheard c.receivers; began = c.moment }) (messages (again_message c.sending c.purpose step) c.receivers)

abbrev pub round_or_next : Client → Step → Bool → Going
round_or_next c step true = new_round c step
round_or_next c step false = next_step c step

abbrev pub round_ends : Client → Step → Going
round_ends c step = round_or_next c step (list_any is_pending c.receivers)

abbrev pub after_counting : Client → Step → Client
after_counting c step = record c { receivers = map (round_counted step) c.receivers }

-- 5: or nothing
abbrev pub if_round_over : Client → Step → Bool → Going
if_round_over c step true = round_ends (after_counting c step) step
if_round_over c step false = sends_nothing c

abbrev pub by_round : Client → Step → Going
by_round c step = if_round_over c step (nat_le (c.began + round_time c.sending) c.moment)

-- ---- 3: wanted chunks, in pull

abbrev pub unwanted : Receiver → Receiver
unwanted r = record r { wanted = [] }

abbrev pub by_wanted : Client → Step → List Item → Going
by_wanted c step [] = by_round c step
by_wanted c step (item ∷ items) = sends (record c { receivers = map unwanted c.receivers }) (item ∷ items)

abbrev pub list_is_sent : Client → Step → Going
list_is_sent c (Pull b) = by_wanted c (Pull b) (chunk_items c.sending b wanted_of c.receivers)
list_is_sent c step = by_round c step

-- ---- 2: the rest of the list

abbrev pub by_list : Client → Step → List Item → Going
by_list c step [] = list_is_sent c step
by_list c step (item ∷ items) = sends c (item ∷ items)

-- ---- the order of the cases

abbrev pub is_empty : List Item → Bool
is_empty [] = true
is_empty (item ∷ items) = false

-- nobody is pending; chunks in push are over once all are sent
abbrev pub is_done : Client → Step → Bool
is_done c (Chunks b) = is_empty c.queue
is_done c step = not (list_any is_pending c.receivers)

abbrev pub by_step : Client → Step → Bool → Going
by_step c step true = next_step c step
by_step c step false = by_list c step c.queue

abbrev pub by_place : Client → Place → Going
by_place c (Before step) = goes_on c (Go step)
by_place c (At step) = by_step c step (is_done c step)
by_place c Verified = sends_nothing c
by_place c (Ended part) = sends_nothing c

-- a client's time event at a moment
abbrev pub going : Client → ℕ → Going
going c now = by_place (at_moment c now) c.place
