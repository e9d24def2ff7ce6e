-- What a client's events send is its plan, and so is what it has still to send.
use Rattle.std.proofs.Common.{◌≡◌, ℕ, zero, suc, ◌+◌, Bool, true, false, List, [], ◌∷◌, ◌++◌, map, take, drop, refl, sym, ◌∙◌, Option, inl, inr}
use Rattle.std.specs.Prelude.{nat_le}
use Rattle.std.specs.List.{AllByRecursion, list_any, flat_map}
use Rattle.mu_model_node.specs.UpdateMessages.{UpdateRequest, InformationGet, MetadataCheck, UpdateGet, StartUpdate, UpdateCancel, UpdateApply}
use Rattle.mu_model_node.specs.NodeMessages.{Request, OfUpdate, OfBlob}
use Rattle.mu_model_client.specs.declared.Sending.{Sending}
use Rattle.mu_model_client.specs.Sets.{below}
use Rattle.mu_model_client.specs.Rows.{Row}
use Rattle.mu_model_client.specs.Client.{Purpose, Step, Check, Start, Information, Transfer, Block, Chunks, Pull, Get, Verify, Apply, Confirm, Cancel, Receiver, is_pending, is_begun_for, Item, Says, Sends, Place, Before, At, Verified, Ended, Client, at_moment, row_of, rows, chunk_total, round_time}
use Rattle.mu_model_client.specs.Lists.{step_message, pull_again, again_message, said_to, said_if, messages, lacking, destinations, chunk_items, missing_of, wanted_of, first_list, sent_for}
use Rattle.mu_model_client.specs.Due.{Due, Next, Go, Rests, Ends, sends, after, in_step, begins_if, goes_on, next_step, round_or_next, after_counting, if_round_over, by_round, by_wanted, list_is_sent, by_list, is_done, by_step, by_place, due}
use Rattle.mu_model_distributor_laws.specs.Planned.{HasRow, IsAsked, IsItem}
use Rattle.mu_model_distributor_laws.proofs.ClientDue.{RowsKeep, times_keep, step_rows, counting_rows}

-- ---- rows that stand

abbrev pub Within : List Row → List Row → Type 0
Within given other = (to index : ℕ) → HasRow given to index → HasRow other to index

pub within_kept : (rs ss : List Receiver) → RowsKeep rs ss → Within (map row_of rs) (map row_of ss)
within_kept [] [] k to index h = absurd h
within_kept [] (s ∷ ss) k to index h = absurd k
within_kept (r ∷ rs) [] k to index h = absurd k
within_kept (r ∷ rs) (s ∷ ss) k to index (inl e) = inl (k.0.address ∙ e.0, k.0.index ∙ e.1)
within_kept (r ∷ rs) (s ∷ ss) k to index (inr h) = inr (within_kept rs ss k.1 to index h)

pub within_back : (rs ss : List Receiver) → RowsKeep rs ss → Within (map row_of ss) (map row_of rs)
within_back [] [] k to index h = absurd h
within_back [] (s ∷ ss) k to index h = absurd k
within_back (r ∷ rs) [] k to index h = absurd k
within_back (r ∷ rs) (s ∷ ss) k to index (inl e) = inl (sym k.0.address ∙ e.0, sym k.0.index ∙ e.1)
within_back (r ∷ rs) (s ∷ ss) k to index (inr h) = inr (within_back rs ss k.1 to index h)

-- ---- items

abbrev pub Items : Sending → Purpose → List Row → List Item → Type 0
Items p purpose given items = AllByRecursion (IsItem p purpose given) items

abbrev pub Packets : Sending → Purpose → List Row → List (ℕ × Request) → Type 0
Packets p purpose given packets = AllByRecursion (λ (x : ℕ × Request). IsAsked p purpose given x.0 x.1) packets

update_within : (p : Sending) (purpose : Purpose) (given other : List Row) (to : ℕ) (request : UpdateRequest) → Within given other → IsAsked p purpose given to (OfUpdate request) → IsAsked p purpose other to (OfUpdate request)
update_within p purpose given other to (StartUpdate u) w h = record { ttl = h.ttl; base = h.base; id = h.id; metadata = h.metadata; receiver = w to u.index h.receiver }
update_within p purpose given other to (InformationGet first limit) w h = tt
update_within p purpose given other to (MetadataCheck index metadata) w h = tt
update_within p purpose given other to UpdateGet w h = tt
update_within p purpose given other to UpdateCancel w h = tt
update_within p purpose given other to UpdateApply w h = tt

asked_within : (p : Sending) (purpose : Purpose) (given other : List Row) (to : ℕ) (request : Request) → Within given other → IsAsked p purpose given to request → IsAsked p purpose other to request
asked_within p purpose given other to (OfUpdate request) w h = update_within p purpose given other to request w h
asked_within p purpose given other to (OfBlob request) w h = tt

pub items_within : (p : Sending) (purpose : Purpose) (given other : List Row) (items : List Item) → Within given other → Items p purpose given items → Items p purpose other items
items_within p purpose given other [] w h = tt
items_within p purpose given other (Says to request ∷ items) w h = (asked_within p purpose given other to request w h.0, items_within p purpose given other items w h.1)
items_within p purpose given other (Sends to b k ∷ items) w h = (tt, items_within p purpose given other items w h.1)

pub packets_within : (p : Sending) (purpose : Purpose) (given other : List Row) (packets : List (ℕ × Request)) → Within given other → Packets p purpose given packets → Packets p purpose other packets
packets_within p purpose given other [] w h = tt
packets_within p purpose given other (x ∷ packets) w h = (asked_within p purpose given other x.0 x.1 w h.0, packets_within p purpose given other packets w h.1)

items_join : (p : Sending) (purpose : Purpose) (given : List Row) (a b : List Item) → Items p purpose given a → Items p purpose given b → Items p purpose given (a ++ b)
items_join p purpose given [] b h k = k
items_join p purpose given (x ∷ a) b h k = (h.0, items_join p purpose given a b h.1 k)

items_drop : (p : Sending) (purpose : Purpose) (given : List Row) (n : ℕ) (items : List Item) → Items p purpose given items → Items p purpose given (drop n items)
items_drop p purpose given zero items h = h
items_drop p purpose given (suc n) [] h = tt
items_drop p purpose given (suc n) (x ∷ items) h = items_drop p purpose given n items h.1

sent_are : (p : Sending) (purpose : Purpose) (given : List Row) (image : List ℕ) (n : ℕ) (items : List Item) → Items p purpose given items → Packets p purpose given (map (sent_for p image) (take n items))
sent_are p purpose given image zero items h = tt
sent_are p purpose given image (suc n) [] h = tt
sent_are p purpose given image (suc n) (Says to request ∷ items) h = (h.0, sent_are p purpose given image n items h.1)
sent_are p purpose given image (suc n) (Sends to b k ∷ items) h = (tt, sent_are p purpose given image n items h.1)

-- ---- lists that are made

-- what is said to one receiver
abbrev SaysRight : Sending → Purpose → (Receiver → Option Request) → Type 0
SaysRight p purpose message = (given : List Row) (r : Receiver) → HasRow given r.row.address r.row.index → Items p purpose given (said_to r.row.address (message r))

said_right : (p : Sending) (purpose : Purpose) (given : List Row) (r : Receiver) (request : Option Request) (b : Bool) → Items p purpose given (said_to r.row.address request) → Items p purpose given (said_if r request b)
said_right p purpose given r request true h = h
said_right p purpose given r request false h = tt

messages_right : (p : Sending) (purpose : Purpose) (given : List Row) (message : Receiver → Option Request) (rs : List Receiver) → SaysRight p purpose message → Within (map row_of rs) given → Items p purpose given (messages message rs)
messages_right p purpose given message [] says w = tt
messages_right p purpose given message (r ∷ rs) says w =
    items_join p purpose given _ _ (said_right p purpose given r (message r) (is_pending r) (says given r (w r.row.address r.row.index (inl (refl, refl)))))
    (messages_right p purpose given message rs says (λ to index h. w to index (inr h)))

step_right : (p : Sending) (purpose : Purpose) (step : Step) → SaysRight p purpose (step_message p purpose step)
step_right p purpose Check given r h = (tt, tt)
step_right p purpose Start given r h = (record { ttl = refl; base = refl; id = refl; metadata = refl; receiver = h }, tt)
step_right p purpose Information given r h = (tt, tt)
step_right p purpose Transfer given r h = (tt, tt)
step_right p purpose (Block b) given r h = (tt, tt)
step_right p purpose (Chunks b) given r h = tt
step_right p purpose (Pull b) given r h = tt
step_right p purpose (Get b) given r h = (tt, tt)
step_right p purpose Verify given r h = (tt, tt)
step_right p purpose Apply given r h = (tt, tt)
step_right p purpose Confirm given r h = (tt, tt)
step_right p purpose Cancel given r h = (tt, tt)

pull_right : (p : Sending) (purpose : Purpose) (given : List Row) (to : ℕ) (b : Bool) → Items p purpose given (said_to to (pull_again b))
pull_right p purpose given to true = tt
pull_right p purpose given to false = (tt, tt)

again_right : (p : Sending) (purpose : Purpose) (step : Step) → SaysRight p purpose (again_message p purpose step)
again_right p purpose (Pull b) given r h = pull_right p purpose given r.row.address r.heard
again_right p purpose Check given r h = step_right p purpose Check given r h
again_right p purpose Start given r h = step_right p purpose Start given r h
again_right p purpose Information given r h = step_right p purpose Information given r h
again_right p purpose Transfer given r h = step_right p purpose Transfer given r h
again_right p purpose (Block b) given r h = step_right p purpose (Block b) given r h
again_right p purpose (Chunks b) given r h = step_right p purpose (Chunks b) given r h
again_right p purpose (Get b) given r h = step_right p purpose (Get b) given r h
again_right p purpose Verify given r h = step_right p purpose Verify given r h
again_right p purpose Apply given r h = step_right p purpose Apply given r h
again_right p purpose Confirm given r h = step_right p purpose Confirm given r h
again_right p purpose Cancel given r h = step_right p purpose Cancel given r h

chunks_to : (p : Sending) (purpose : Purpose) (given : List Row) (b k : ℕ) (tos : List ℕ) → Items p purpose given (map (λ to. Sends to b k) tos)
chunks_to p purpose given b k [] = tt
chunks_to p purpose given b k (to ∷ tos) = (tt, chunks_to p purpose given b k tos)

chunks_in : (p : Sending) (purpose : Purpose) (given : List Row) (b : ℕ) (tos : ℕ → List ℕ) (ks : List ℕ) → Items p purpose given (flat_map (λ k. map (λ to. Sends to b k) (tos k)) ks)
chunks_in p purpose given b tos [] = tt
chunks_in p purpose given b tos (k ∷ ks) = items_join p purpose given _ _ (chunks_to p purpose given b k (tos k)) (chunks_in p purpose given b tos ks)

chunks_right : (p : Sending) (purpose : Purpose) (given : List Row) (b : ℕ) (missing : Receiver → List Bool) (rs : List Receiver) → Items p purpose given (chunk_items p b missing rs)
chunks_right p purpose given b missing rs = chunks_in p purpose given b (λ k. destinations p (lacking missing rs k)) (below (chunk_total p b))

first_right : (p : Sending) (purpose : Purpose) (given : List Row) (rs : List Receiver) (step : Step) → Within (map row_of rs) given → Items p purpose given (first_list p purpose rs step)
first_right p purpose given rs (Chunks b) w = chunks_right p purpose given b missing_of rs
first_right p purpose given rs Check w = messages_right p purpose given (step_message p purpose Check) rs (step_right p purpose Check) w
first_right p purpose given rs Start w = messages_right p purpose given (step_message p purpose Start) rs (step_right p purpose Start) w
first_right p purpose given rs Information w = messages_right p purpose given (step_message p purpose Information) rs (step_right p purpose Information) w
first_right p purpose given rs Transfer w = messages_right p purpose given (step_message p purpose Transfer) rs (step_right p purpose Transfer) w
first_right p purpose given rs (Block b) w = messages_right p purpose given (step_message p purpose (Block b)) rs (step_right p purpose (Block b)) w
first_right p purpose given rs (Pull b) w = messages_right p purpose given (step_message p purpose (Pull b)) rs (step_right p purpose (Pull b)) w
first_right p purpose given rs (Get b) w = messages_right p purpose given (step_message p purpose (Get b)) rs (step_right p purpose (Get b)) w
first_right p purpose given rs Verify w = messages_right p purpose given (step_message p purpose Verify) rs (step_right p purpose Verify) w
first_right p purpose given rs Apply w = messages_right p purpose given (step_message p purpose Apply) rs (step_right p purpose Apply) w
first_right p purpose given rs Confirm w = messages_right p purpose given (step_message p purpose Confirm) rs (step_right p purpose Confirm) w
first_right p purpose given rs Cancel w = messages_right p purpose given (step_message p purpose Cancel) rs (step_right p purpose Cancel) w

-- ---- a time event

-- what it sends and has still to send is the client's plan, to the rows that are given
pub record Right (given : List Row) (c : Client) (d : Due) : Type 0 where
  pub sending : d.next.sending ≡ c.sending
  pub purpose : d.next.purpose ≡ c.purpose
  pub queue : Items c.sending c.purpose given d.next.queue
  pub packets : Packets c.sending c.purpose given d.packets

sends_right : (given : List Row) (c : Client) (image : List ℕ) (items : List Item) → Items c.sending c.purpose given items → Right given c (sends c image items)
sends_right given c image items h = record { sending = refl; purpose = refl; queue = items_drop c.sending c.purpose given 16 items h; packets = sent_are c.sending c.purpose given image 16 items h }

begins_right : (given : List Row) (c : Client) (image : List ℕ) (step : Step) (b : Bool) → Within (rows c) given → Right given c (begins_if c image step b)
begins_right given c image step true w =
    let back : Within (rows (in_step c step)) (rows c) = within_back c.receivers (in_step c step).receivers (times_keep _ _ (step_rows c step)) in
    let items = first_right c.sending c.purpose given (in_step c step).receivers step (λ to index h. w to index (back to index h)) in
    record { sending = refl; purpose = refl; queue = items_drop c.sending c.purpose given 16 _ items; packets = sent_are c.sending c.purpose given image 16 _ items }
begins_right given c image step false w = record { sending = refl; purpose = refl; queue = tt; packets = tt }

goes_right : (given : List Row) (c : Client) (image : List ℕ) (next : Next) → Within (rows c) given → Right given c (goes_on c image next)
goes_right given c image (Go step) w = begins_right given c image step (list_any (is_begun_for step) c.receivers) w
goes_right given c image Rests w = record { sending = refl; purpose = refl; queue = tt; packets = tt }
goes_right given c image (Ends part) w = record { sending = refl; purpose = refl; queue = tt; packets = tt }

next_right : (given : List Row) (c : Client) (image : List ℕ) (step : Step) → Within (rows c) given → Right given c (next_step c image step)
next_right given c image step w = goes_right given c image (after c.sending c.purpose c.receivers step) w

round_or_right : (given : List Row) (c : Client) (image : List ℕ) (step : Step) (b : Bool) → Within (rows c) given → Right given c (round_or_next c image step b)
round_or_right given c image step true w =
    let items = messages_right c.sending c.purpose given (again_message c.sending c.purpose step) c.receivers (again_right c.sending c.purpose step) w in
    record { sending = refl; purpose = refl; queue = items_drop c.sending c.purpose given 16 _ items; packets = sent_are c.sending c.purpose given image 16 _ items }
round_or_right given c image step false w = next_right given c image step w

round_over_right : (given : List Row) (c : Client) (image : List ℕ) (step : Step) (b : Bool) → Items c.sending c.purpose given c.queue → Within (rows c) given → Right given c (if_round_over c image step b)
round_over_right given c image step true h w =
    let back : Within (rows (after_counting c step)) (rows c) = within_back c.receivers (after_counting c step).receivers (times_keep _ _ (counting_rows c step)) in
    let k = round_or_right given (after_counting c step) image step (list_any is_pending (after_counting c step).receivers) (λ to index x. w to index (back to index x)) in
    record { sending = k.sending; purpose = k.purpose; queue = k.queue; packets = k.packets }
round_over_right given c image step false h w = record { sending = refl; purpose = refl; queue = h; packets = tt }

round_right : (given : List Row) (c : Client) (image : List ℕ) (step : Step) → Items c.sending c.purpose given c.queue → Within (rows c) given → Right given c (by_round c image step)
round_right given c image step h w = round_over_right given c image step (nat_le (c.began + round_time c.sending) c.moment) h w

wanted_right : (given : List Row) (c : Client) (image : List ℕ) (step : Step) (items : List Item) → Items c.sending c.purpose given c.queue → Items c.sending c.purpose given items → Within (rows c) given → Right given c (by_wanted c image step items)
wanted_right given c image step [] h k w = round_right given c image step h w
wanted_right given c image step (item ∷ items) h k w = record { sending = refl; purpose = refl; queue = items_drop c.sending c.purpose given 16 (item ∷ items) k; packets = sent_are c.sending c.purpose given image 16 (item ∷ items) k }

list_right : (given : List Row) (c : Client) (image : List ℕ) (step : Step) → Items c.sending c.purpose given c.queue → Within (rows c) given → Right given c (list_is_sent c image step)
list_right given c image (Pull b) h w = wanted_right given c image (Pull b) (chunk_items c.sending b wanted_of c.receivers) h (chunks_right c.sending c.purpose given b wanted_of c.receivers) w
list_right given c image Check h w = round_right given c image Check h w
list_right given c image Start h w = round_right given c image Start h w
list_right given c image Information h w = round_right given c image Information h w
list_right given c image Transfer h w = round_right given c image Transfer h w
list_right given c image (Block b) h w = round_right given c image (Block b) h w
list_right given c image (Chunks b) h w = round_right given c image (Chunks b) h w
list_right given c image (Get b) h w = round_right given c image (Get b) h w
list_right given c image Verify h w = round_right given c image Verify h w
list_right given c image Apply h w = round_right given c image Apply h w
list_right given c image Confirm h w = round_right given c image Confirm h w
list_right given c image Cancel h w = round_right given c image Cancel h w

rest_right : (given : List Row) (c : Client) (image : List ℕ) (step : Step) (items : List Item) → Items c.sending c.purpose given c.queue → Items c.sending c.purpose given items → Within (rows c) given → Right given c (by_list c image step items)
rest_right given c image step [] h k w = list_right given c image step h w
rest_right given c image step (item ∷ items) h k w = sends_right given c image (item ∷ items) k

done_right : (given : List Row) (c : Client) (image : List ℕ) (step : Step) (b : Bool) → Items c.sending c.purpose given c.queue → Within (rows c) given → Right given c (by_step c image step b)
done_right given c image step true h w = next_right given c image step w
done_right given c image step false h w = rest_right given c image step c.queue h h w

place_right : (given : List Row) (c : Client) (image : List ℕ) (place : Place) → Items c.sending c.purpose given c.queue → Within (rows c) given → Right given c (by_place c image place)
place_right given c image (Before step) h w = goes_right given c image (Go step) w
place_right given c image (At step) h w = done_right given c image step (is_done c step) h w
place_right given c image Verified h w = record { sending = refl; purpose = refl; queue = h; packets = tt }
place_right given c image (Ended part) h w = record { sending = refl; purpose = refl; queue = h; packets = tt }

pub due_right : (c : Client) (image : List ℕ) (now : ℕ) → Items c.sending c.purpose (rows c) c.queue → Right (rows c) c (due c image now)
due_right c image now h =
    let k = place_right (rows c) (at_moment c now) image c.place h (λ to index x. x) in
    record { sending = k.sending; purpose = k.purpose; queue = k.queue; packets = k.packets }
