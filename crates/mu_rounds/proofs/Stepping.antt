-- How the machine comes from one step to the next as the model does.
use Rattle.std.proofs.Common.{◌≡◌, ◌≤◌, ◌<◌, ◌+◌, ℕ, List, [], ◌∷◌, ◌++◌, refl, sym, ap, subst, ◌∙◌, true, false, Bool, Option, Some, None, map, take, drop, length, arith}
use Rattle.std.specs.Prelude.{slice_index_or, max, nat_le, not, ◌||◌, ◌&&◌, is_none, is_some, IfSome}
use Rattle.std.specs.List.{list_any}
use Rattle.std.proofs.lemmas.Bool.{false≢true}
use Rattle.mu_model_client.specs.declared.Sending.{Sending}
use Rattle.mu_model_client.specs.Sets.{has_some}
use Rattle.mu_model_client.specs.Client.{Receiver, Purpose, Step, Check, Start, Information, Transfer, Block, Chunks, Pull, Get, Verify, Apply, Confirm, Cancel, Place, Before, At, Verified, Ended, Part, Item, Client, Blob, Update, is_in, is_active, chunk_total, block_total, is_begun_for, is_pending, part_of, round_time, at_moment}
use Rattle.mu_model_client.specs.Lists.{messages, step_message, again_message, first_list, chunk_items, missing_of, wanted_of, said_if}
use Rattle.mu_model_client.specs.Going.{Going, Next, Go, sends, sends_nothing, begun, begun_if, in_step, first_of, begins_if, goes_on, next_step, after, block_or, least_missed, after_blocks, new_round, unheard, round_ends, round_or_next, round_counted, counted_if, counted, silent_if, silent_after, most_silent, fell_silent, with_silent, after_counting, if_round_over, by_round, by_wanted, unwanted, list_is_sent, by_list, is_empty, is_done, by_step, by_place, going}
use Rattle.mu_receivers.specs.declared.slot.Slot.{Slot}
use Rattle.mu_receivers.specs.Receivers.{receiver_of, receivers_of}
use Rattle.mu_receivers.specs.Messages.{list_message, listed, messages_left}
use Rattle.mu_receivers.specs.Slots.{Each, KeepsList, KeepsWas, IsBegun, IsCounted, IsRenewed, IsUnwanting, IsAsked, AreFew}
use Rattle.mu_receivers.specs.Chunks.{rest}
use Rattle.mu_told.specs.Told.{IsSendable, StepFits, WantsOf}
use Rattle.mu_rounds.specs.After.{PlaceFits, block_at, chunk_block, is_chunk_step}
use Rattle.mu_rounds.specs.Rounds.{rest_of, chunks_left, list_left, queue_of, client_of, LeftFits, AllWant, IsActiveWhere, AllActive, HasShape, GoesOn, KeepsLeft, IsFree, rests}
use Rattle.mu_rounds.specs.declared.left.Left.{Left}
use Rattle.mu_rounds.specs.declared.rounds.Rounds.{Rounds}
use Rattle.mu_rounds.proofs.Lists.{each_written, few_written, each_flat, each_so, each_then, receivers_are, receivers_stay, messages_are, any_map, key_of, key_same, keys_stay, rest_same}

-- ---- clients

pub client_same : (a b : Client) → a.sending ≡ b.sending → a.purpose ≡ b.purpose → a.receivers ≡ b.receivers → a.place ≡ b.place → a.queue ≡ b.queue → a.began ≡ b.began
    → a.moment ≡ b.moment → a ≡ b
client_same a b e1 e2 e3 e4 e5 e6 e7 =
    ap (λ x. record a { sending = x }) e1
    ∙ ap (λ x. record a { sending = b.sending; purpose = x }) e2
    ∙ ap (λ x. record a { sending = b.sending; purpose = b.purpose; receivers = x }) e3
    ∙ ap (λ x. record a { sending = b.sending; purpose = b.purpose; receivers = b.receivers; place = x }) e4
    ∙ ap (λ x. record a { sending = b.sending; purpose = b.purpose; receivers = b.receivers; place = b.place; queue = x }) e5
    ∙ ap (λ x. record a { sending = b.sending; purpose = b.purpose; receivers = b.receivers; place = b.place; queue = b.queue; began = x }) e6
    ∙ ap (λ x. record a { sending = b.sending; purpose = b.purpose; receivers = b.receivers; place = b.place; queue = b.queue; began = b.began; moment = x }) e7

-- what is to be sent is the list
pub listed_so : (c : Client) (c2 : Client) → c ≡ c2 → sends c2 c2.queue ≡ sends c c.queue
listed_so c c2 e = ap (λ x. sends x x.queue) (sym e)

pub goes_as : (old new : Rounds) (g g2 : Going) → GoesOn old new g → g2 ≡ g → GoesOn old new g2
goes_as old new g g2 goes e = record {
  going = e ∙ goes.going;
  sending = goes.sending;
  purpose = goes.purpose;
  was = goes.was;
  shape = goes.shape;
}

-- a change before it goes on
pub goes_after : (a b c : Rounds) (g g2 : Going) → b.sending ≡ a.sending → b.purpose ≡ a.purpose → Each KeepsWas a.slots.items b.slots.items → GoesOn b c g → g2 ≡ g → GoesOn a c g2
goes_after a b c g g2 sending purpose was goes e = record {
  going = e ∙ goes.going;
  sending = goes.sending ∙ sending;
  purpose = goes.purpose ∙ purpose;
  was = each_then KeepsWas KeepsWas KeepsWas a.slots.items b.slots.items c.slots.items was goes.was
      (λ x y z first second. record { receiver = second.receiver ∙ first.receiver; message = second.message ∙ first.message });
  shape = goes.shape;
}

pub none_some : (left : Left) → None ≡ Some left → ⊥
none_some left e = cc

-- no chunks are left
pub nothing_left : (old new : Rounds) → old.left ≡ None → KeepsLeft old new
nothing_left old new none left some = absurd (none_some left (sym none ∙ some))

-- ---- lists

no_message : (p : Sending) (purpose : Purpose) (b : ℕ) (s : Slot) (x : Bool) → said_if (receiver_of s) None x ≡ []
no_message p purpose b s true = refl
no_message p purpose b s false = refl

-- there are no messages in the step on chunks
pub no_messages : (p : Sending) (purpose : Purpose) (b : ℕ) (slots : List Slot) → messages_left p purpose (Chunks b) slots ≡ []
no_messages p purpose b [] = refl
no_messages p purpose b (s ∷ slots) = ap (λ x. x ++ messages_left p purpose (Chunks b) slots) (no_message p purpose b s s.listed) ∙ no_messages p purpose b slots

pub list_of_chunks : (p : Sending) (purpose : Purpose) (slots : List Slot) (b : ℕ) (left : Option Left) → list_left p purpose slots (Chunks b) left ≡ chunks_left p slots left
list_of_chunks p purpose slots b None = no_messages p purpose b slots
list_of_chunks p purpose slots b (Some left) = refl

-- the messages that are kept
pub listed_stays : (p : Sending) (purpose : Purpose) (step : Step) (old new : Slot) → receiver_of new ≡ receiver_of old → new.listed ≡ old.listed → listed p purpose step new ≡ listed p purpose step old
listed_stays p purpose step old new r l = ap (λ x. said_if x (list_message p purpose step x) new.listed) r ∙ ap (said_if (receiver_of old) (list_message p purpose step (receiver_of old))) l

-- a list of messages looks at the address and the index alone
said_same : (p : Sending) (purpose : Purpose) (step : Step) (a b : Receiver) (x : Bool) → a.row.address ≡ b.row.address → a.row.index ≡ b.row.index
    → said_if a (list_message p purpose step a) x ≡ said_if b (list_message p purpose step b) x
said_same p purpose Check a b x to index = cc
said_same p purpose Start a b x to index = cc
said_same p purpose Information a b x to index = cc
said_same p purpose Transfer a b x to index = cc
said_same p purpose (Block n) a b x to index = cc
said_same p purpose (Chunks n) a b x to index = cc
said_same p purpose (Pull n) a b x to index = cc
said_same p purpose (Get n) a b x to index = cc
said_same p purpose Verify a b x to index = cc
said_same p purpose Apply a b x to index = cc
said_same p purpose Confirm a b x to index = cc
said_same p purpose Cancel a b x to index = cc

pub messages_kept : (p : Sending) (purpose : Purpose) (step : Step) (R : Slot → Slot → Type 0) (olds news : List Slot) → Each R olds news
    → ((old new : Slot) → R old new → KeepsList old new) → messages_left p purpose step news ≡ messages_left p purpose step olds
messages_kept p purpose step R olds news all one =
    each_flat (listed p purpose step) (listed p purpose step) olds news all.long
    (λ k d lt.
    let old = slice_index_or olds k d in
    let new = slice_index_or news k d in
    let kept : KeepsList old new = one old new (all.each k d lt) in
    ap (said_if (receiver_of new) (list_message p purpose step (receiver_of new))) kept.message
    ∙ said_same p purpose step (receiver_of new) (receiver_of old) old.listed kept.address kept.index)

-- ---- a step begins

first_messages : (p : Sending) (purpose : Purpose) (rs : List Receiver) (step : Step) → ((b : ℕ) → step ≡ Chunks b → ⊥) → first_list p purpose rs step ≡ messages (step_message p purpose step) rs
first_messages p purpose rs (Chunks b) isnt = absurd (isnt b refl)
first_messages p purpose rs Check isnt = refl
first_messages p purpose rs Start isnt = refl
first_messages p purpose rs Information isnt = refl
first_messages p purpose rs Transfer isnt = refl
first_messages p purpose rs (Block b) isnt = refl
first_messages p purpose rs (Pull b) isnt = refl
first_messages p purpose rs (Get b) isnt = refl
first_messages p purpose rs Verify isnt = refl
first_messages p purpose rs Apply isnt = refl
first_messages p purpose rs Confirm isnt = refl
first_messages p purpose rs Cancel isnt = refl

begun_list : (p : Sending) (purpose : Purpose) (step : Step) (olds news : List Slot) → Each (IsBegun step) olds news
    → messages_left p purpose step news ≡ messages (step_message p purpose step) (map (begun step) (receivers_of olds))
begun_list p purpose step olds news all =
    each_flat (listed p purpose step) (λ (s : Slot). said_if (receiver_of s) (step_message p purpose step (receiver_of s)) s.pending) news news refl
    (λ k d lt. (all.each k d (omega (arith, lt, all.long))).list p purpose)
    ∙ sym (messages_are (step_message p purpose step) news)
    ∙ ap (messages (step_message p purpose step)) (receivers_are (IsBegun step) (begun step) olds news all (λ old new one. one.receiver))

wants_none : (r : Receiver) (x : Bool) → (begun_if r x).wanted ≡ []
wants_none r true = refl
wants_none r false = refl

pub nothing_wanted : (n : ℕ) (r : Receiver) → r.wanted ≡ [] → WantsOf n r
nothing_wanted n r e some = absurd (omega (arith, some, ap (length {A = Bool}) e))

begun_wants : (p : Sending) (place : Place) (step : Step) (olds news : List Slot) → Each (IsBegun step) olds news → AllWant p place news
begun_wants p place step olds news all b k d at lt =
    let one = all.each k d (omega (arith, lt, all.long)) in
    nothing_wanted (chunk_total p b) (receiver_of (slice_index_or news k d))
    (ap (λ (r : Receiver). r.wanted) one.receiver ∙ wants_none (receiver_of (slice_index_or olds k d)) (is_in step (receiver_of (slice_index_or olds k d))))

-- ---- those that are asked for missing chunks are active

and_first : (x y : Bool) → (x && y) ≡ true → x ≡ true
and_first true y e = refl
and_first false y e = absurd (false≢true e)

begun_if_active : (b : ℕ) (r : Receiver) (x : Bool) → is_in (Get b) r ≡ x → IsActiveWhere (begun_if r x)
begun_if_active b r true is pending = and_first (is_active r) (has_some r.chunks) is
begun_if_active b r false is pending = absurd (false≢true pending)

at_same_step : (s t : Step) → At s ≡ At t → s ≡ t
at_same_step s t e = cc

begun_active : (place : Place) (step : Step) (b : ℕ) (olds news : List Slot) → Each (IsBegun step) olds news → At step ≡ At (Get b)
    → (k : ℕ) (d : Slot) → k < length news → IsActiveWhere (receiver_of (slice_index_or news k d))
begun_active place step b olds news all is k d lt =
    let one = all.each k d (omega (arith, lt, all.long)) in
    let old = receiver_of (slice_index_or olds k d) in
    subst IsActiveWhere (sym (one.receiver ∙ ap (λ s. begun s old) (at_same_step step (Get b) is))) (begun_if_active b old (is_in (Get b) old) refl)

active_kept : (place : Place) (olds news : List Slot) → length news ≡ length olds
    → ((k : ℕ) (d : Slot) → k < length olds → IsActiveWhere (receiver_of (slice_index_or olds k d)) → IsActiveWhere (receiver_of (slice_index_or news k d)))
    → AllActive place olds → AllActive place news
active_kept place olds news long one active b k d at lt =
    let here : k < length olds = omega (arith, lt, long) in
    one k d here (active b k d at here)

active_same : (old new : Slot) → receiver_of new ≡ receiver_of old → IsActiveWhere (receiver_of old) → IsActiveWhere (receiver_of new)
active_same old new same active = subst IsActiveWhere (sym same) active

renewed_active : (old new : Slot) (step : Step) → IsRenewed step old new → IsActiveWhere (receiver_of old) → IsActiveWhere (receiver_of new)
renewed_active old new step one active = subst IsActiveWhere (sym one.receiver) active

fell_pending : (r : Receiver) (step : Step) → (fell_silent r step).pending ≡ false
fell_pending r Check = refl
fell_pending r Start = refl
fell_pending r Information = refl
fell_pending r Transfer = refl
fell_pending r (Block b) = refl
fell_pending r (Chunks b) = refl
fell_pending r (Pull b) = refl
fell_pending r (Get b) = refl
fell_pending r Verify = refl
fell_pending r Apply = refl
fell_pending r Confirm = refl
fell_pending r Cancel = refl

silent_active : (step : Step) (r : Receiver) (x : Bool) → IsActiveWhere r → IsActiveWhere (silent_if step r x)
silent_active step r true active pending = absurd (false≢true (sym (fell_pending r step) ∙ pending))
silent_active step r false active pending = active pending

counted_if_active : (step : Step) (r : Receiver) (x : Bool) → IsActiveWhere r → IsActiveWhere (counted_if step r x)
counted_if_active step r true active = silent_active step (with_silent (silent_after step r) r) (nat_le most_silent (silent_after step r)) active
counted_if_active step r false active = active

counted_active : (old new : Slot) (step : Step) → IsCounted step old new → IsActiveWhere (receiver_of old) → IsActiveWhere (receiver_of new)
counted_active old new step one active =
    subst IsActiveWhere (sym one.receiver) (counted_if_active step (receiver_of old) (receiver_of old).pending active)

no_get : (b k : ℕ) → At (Chunks b) ≡ At (Get k) → ⊥
no_get b k e = cc

get_no_pull : (b k : ℕ) → At (Pull b) ≡ At (Get k) → ⊥
get_no_pull b k e = cc

pub messages_begin : (old new : Rounds) (step : Step) → HasShape old → StepFits old.sending step → ((b : ℕ) → step ≡ Chunks b → ⊥) → new.sending ≡ old.sending → new.purpose ≡ old.purpose
    → Each (IsBegun step) old.slots.items new.slots.items → AreFew new.slots.items → new.left ≡ None → new.place ≡ At step → new.began ≡ old.moment → new.moment ≡ old.moment
    → GoesOn old new (sends (in_step (client_of old) step) (first_of (client_of old) step))
messages_begin old new step shape fits isnt sending purpose all few left place began moment =
    let c = client_of old in
    let rs = receivers_are (IsBegun step) (begun step) old.slots.items new.slots.items all (λ x y one. one.receiver) in
    let queue : (client_of new).queue ≡ first_of c step =
    ap (queue_of new.sending new.purpose new.slots.items new.left) place
    ∙ ap (list_left new.sending new.purpose new.slots.items step) left
    ∙ ap (λ x. messages_left x new.purpose step new.slots.items) sending
    ∙ ap (λ x. messages_left old.sending x step new.slots.items) purpose
    ∙ begun_list old.sending old.purpose step old.slots.items new.slots.items all
    ∙ sym (first_messages old.sending old.purpose (map (begun step) (receivers_of old.slots.items)) step isnt) in
    record {
      going = listed_so (client_of new) (record (in_step c step) { queue = first_of c step })
          (client_same (client_of new) (record (in_step c step) { queue = first_of c step }) sending purpose rs place queue began moment);
      sending = sending;
      purpose = purpose;
      was = each_so (IsBegun step) KeepsWas old.slots.items new.slots.items all (λ x y one. one.was);
      shape = record {
        range = subst (λ p. IsSendable p) (sym sending) shape.range;
        later = omega (arith, began, moment);
        most = omega (arith, all.long, shape.most);
        few = few;
        place = subst (λ x. PlaceFits new.sending x) (sym place) (subst (λ p. StepFits p step) (sym sending) fits);
        left = λ l some. absurd (none_some l (sym left ∙ some));
        wants = begun_wants new.sending new.place step old.slots.items new.slots.items all;
        active = λ b k d is lt. begun_active new.place step b old.slots.items new.slots.items all (sym place ∙ is) k d lt;
      };
    }

-- ---- chunks are left

pub left_fits : (p : Sending) (purpose : Purpose) (slots : List Slot) (b : ℕ) (step : Step) (left : Option Left) → chunk_block step ≡ Some b → b < block_total p → messages_left p purpose step slots ≡ []
    → IfSome left (λ l. l.block ≡ b) → IfSome left (λ l. l.chunks ≡ chunk_total p b) → IfSome left (λ l. l.at.receiver ≤ length slots) → IfSome left (λ l. is_empty (rest_of p slots l) ≡ false)
    → (l : Left) → left ≡ Some l → LeftFits p purpose slots (At step) l
left_fits p purpose slots b step None chunks within alone block count receiver some l e = absurd (none_some l e)
left_fits p purpose slots b step (Some left) chunks within alone block count receiver some l e =
    let same : left ≡ l = cc in
    subst (λ x. LeftFits p purpose slots (At step) x) same (record {
      block = chunks ∙ ap (λ x. Some x) (sym block);
      within = subst (λ x. x < block_total p) (sym block) within;
      chunks = count ∙ ap (chunk_total p) (sym block);
      receiver = receiver;
      some = some;
      alone = λ step2 at. (let is : step ≡ step2 = cc in subst (λ x. messages_left p purpose x slots ≡ []) is alone);
    })

begun_asked : (old mid new : Slot) (step : Step) → IsBegun step old mid → IsAsked missing_of mid new → KeepsWas old new
begun_asked old mid new step one two = record { receiver = two.was.receiver ∙ one.was.receiver; message = two.was.message ∙ one.was.message }

no_pull : (b k : ℕ) → At (Chunks b) ≡ At (Pull k) → ⊥
no_pull b k e = cc

pub chunks_begin : (old new : Rounds) (mid : List Slot) (b : ℕ) → HasShape old → b < block_total old.sending → old.left ≡ None → new.sending ≡ old.sending → new.purpose ≡ old.purpose
    → Each (IsBegun (Chunks b)) old.slots.items mid → Each (IsAsked missing_of) mid new.slots.items → AreFew new.slots.items
    → rest old.sending.group b (chunk_total old.sending b) new.slots.items 0 0 ≡ chunk_items old.sending b missing_of (receivers_of mid)
    → chunks_left old.sending new.slots.items new.left ≡ rest old.sending.group b (chunk_total old.sending b) new.slots.items 0 0
    → ((l : Left) → new.left ≡ Some l → LeftFits old.sending old.purpose new.slots.items (At (Chunks b)) l)
    → new.place ≡ At (Chunks b) → new.began ≡ old.moment → new.moment ≡ old.moment
    → GoesOn old new (sends (in_step (client_of old) (Chunks b)) (first_of (client_of old) (Chunks b)))
chunks_begin old new mid b shape fits free sending purpose all more few list left leaves place began moment =
    let c = client_of old in
    let step = Chunks b in
    let rs : receivers_of mid ≡ map (begun (Chunks b)) (receivers_of old.slots.items) = receivers_are (IsBegun (Chunks b)) (begun (Chunks b)) old.slots.items mid all (λ x y one. one.receiver) in
    let same : receivers_of new.slots.items ≡ receivers_of mid = receivers_stay (IsAsked missing_of) mid new.slots.items more (λ x y one. one.receiver) in
    let queue : (client_of new).queue ≡ first_of c (Chunks b) =
    ap (queue_of new.sending new.purpose new.slots.items new.left) place
    ∙ list_of_chunks new.sending new.purpose new.slots.items b new.left
    ∙ ap (λ p. chunks_left p new.slots.items new.left) sending
    ∙ left ∙ list ∙ ap (chunk_items old.sending b missing_of) rs in
    record {
      going = listed_so (client_of new) (record (in_step c (Chunks b)) { queue = first_of c (Chunks b) })
          (client_same (client_of new) (record (in_step c (Chunks b)) { queue = first_of c (Chunks b) }) sending purpose (same ∙ rs) place queue began moment);
      sending = sending;
      purpose = purpose;
      was = each_then (IsBegun (Chunks b)) (IsAsked missing_of) KeepsWas old.slots.items mid new.slots.items all more (λ x y z one two. begun_asked x y z (Chunks b) one two);
      shape = record {
        range = subst (λ p. IsSendable p) (sym sending) shape.range;
        later = omega (arith, began, moment);
        most = omega (arith, all.long, more.long, shape.most);
        few = few;
        place = subst (λ x. PlaceFits new.sending x) (sym place) (subst (λ p. b < block_total p) (sym sending) fits);
        left = λ l some.
            subst (λ x. LeftFits new.sending new.purpose new.slots.items x l) (sym place)
            (subst (λ x. LeftFits new.sending x new.slots.items (At (Chunks b)) l) (sym purpose)
            (subst (λ x. LeftFits x old.purpose new.slots.items (At (Chunks b)) l) (sym sending) (leaves l some)));
        wants = λ k i d at lt. absurd (no_pull b k (sym place ∙ at));
        active = λ k i d at lt. absurd (no_get b k (sym place ∙ at));
      };
    }

-- ---- nothing is to be sent

at_rest : (p : Sending) (purpose : Purpose) (slots : List Slot) (left : Option Left) (place : Place) → rests place ≡ true → queue_of p purpose slots left place ≡ []
at_rest p purpose slots left (At step) e = absurd (false≢true e)
at_rest p purpose slots left (Before step) e = refl
at_rest p purpose slots left Verified e = refl
at_rest p purpose slots left (Ended part) e = refl

fits_at_rest : (p : Sending) (place : Place) → rests place ≡ true → PlaceFits p place
fits_at_rest p (At step) e = absurd (false≢true e)
fits_at_rest p (Before step) e = absurd (false≢true e)
fits_at_rest p Verified e = tt
fits_at_rest p (Ended part) e = tt

no_step_rests : (place : Place) (step : Step) → rests place ≡ true → place ≡ At step → ⊥
no_step_rests place step e at = false≢true (sym (ap rests at) ∙ e)

pub was_self : (slots : List Slot) → Each KeepsWas slots slots
was_self slots = record { long = refl; each = λ k d lt. record { receiver = refl; message = refl } }

pub rests_there : (old new : Rounds) (place : Place) → HasShape old → rests place ≡ true → new.sending ≡ old.sending → new.purpose ≡ old.purpose → new.slots.items ≡ old.slots.items → new.left ≡ None
    → new.place ≡ place → new.began ≡ old.began → new.moment ≡ old.moment
    → GoesOn old new (record { next = record (client_of old) { place = place; queue = [] }; items = [] })
rests_there old new place shape e sending purpose slots left at began moment =
    let c2 : Client = record (client_of old) { place = place; queue = [] } in
    let items : new.slots.items ≡ old.slots.items = slots in
    record {
      going = listed_so (client_of new) c2
          (client_same (client_of new) c2 sending purpose (ap receivers_of items) at (ap (queue_of new.sending new.purpose new.slots.items new.left) at ∙ at_rest new.sending new.purpose new.slots.items new.left place e) began moment);
      sending = sending;
      purpose = purpose;
      was = subst (λ x. Each KeepsWas old.slots.items x) (sym items) (was_self old.slots.items);
      shape = record {
        range = subst (λ p. IsSendable p) (sym sending) shape.range;
        later = omega (arith, shape.later, began, moment);
        most = subst (λ (x : List Slot). length x ≤ 128) (sym items) shape.most;
        few = subst AreFew (sym items) shape.few;
        place = subst (λ x. PlaceFits new.sending x) (sym at) (fits_at_rest new.sending place e);
        left = λ l some. absurd (none_some l (sym left ∙ some));
        wants = λ b k d is lt. absurd (no_step_rests place (Pull b) e (sym at ∙ is));
        active = λ b k d is lt. absurd (no_step_rests place (Get b) e (sym at ∙ is));
      };
    }

-- ---- a new round

renewed_list : (p : Sending) (purpose : Purpose) (step : Step) (olds news : List Slot) → Each (IsRenewed step) olds news
    → messages_left p purpose step news ≡ messages (again_message p purpose step) (receivers_of olds)
renewed_list p purpose step olds news all =
    each_flat (listed p purpose step) (λ (s : Slot). said_if (receiver_of s) (again_message p purpose step (receiver_of s)) s.pending) olds news all.long
    (λ k d lt. (all.each k d lt).list p purpose)
    ∙ sym (messages_are (again_message p purpose step) olds)

renewed_wants : (p : Sending) (place : Place) (step : Step) (olds news : List Slot) → Each (IsRenewed step) olds news → AllWant p place olds → AllWant p place news
renewed_wants p place step olds news all wants b k d at lt =
    let here : k < length olds = omega (arith, lt, all.long) in
    let one = all.each k d here in
    subst (λ (w : List Bool). 0 < length w → length w ≡ chunk_total p b) (sym (ap (λ (r : Receiver). r.wanted) one.receiver)) (wants b k d at here)

pub round_begins : (old new : Rounds) (step : Step) → HasShape old → old.place ≡ At step → old.left ≡ None → new.sending ≡ old.sending → new.purpose ≡ old.purpose
    → Each (IsRenewed step) old.slots.items new.slots.items → AreFew new.slots.items → new.left ≡ old.left → new.place ≡ old.place → new.began ≡ old.moment → new.moment ≡ old.moment
    → GoesOn old new (new_round (client_of old) step)
round_begins old new step shape at none sending purpose all few left place began moment =
    let c = client_of old in
    let items = messages (again_message old.sending old.purpose step) (receivers_of old.slots.items) in
    let c2 : Client = record c { receivers = map unheard c.receivers; began = c.moment; queue = messages (again_message old.sending old.purpose step) (receivers_of old.slots.items) } in
    let rs = receivers_are (IsRenewed step) unheard old.slots.items new.slots.items all (λ x y one. one.receiver) in
    let queue : (client_of new).queue ≡ messages (again_message old.sending old.purpose step) (receivers_of old.slots.items) =
    ap (queue_of new.sending new.purpose new.slots.items new.left) (place ∙ at)
    ∙ ap (list_left new.sending new.purpose new.slots.items step) (left ∙ none)
    ∙ ap (λ x. messages_left x new.purpose step new.slots.items) sending
    ∙ ap (λ x. messages_left old.sending x step new.slots.items) purpose
    ∙ renewed_list old.sending old.purpose step old.slots.items new.slots.items all in
    record {
      going = listed_so (client_of new) c2 (client_same (client_of new) c2 sending purpose rs place queue began moment);
      sending = sending;
      purpose = purpose;
      was = each_so (IsRenewed step) KeepsWas old.slots.items new.slots.items all (λ x y one. one.was);
      shape = record {
        range = subst (λ p. IsSendable p) (sym sending) shape.range;
        later = omega (arith, began, moment);
        most = omega (arith, all.long, shape.most);
        few = few;
        place = subst (λ x. PlaceFits new.sending x) (sym place) (subst (λ p. PlaceFits p old.place) (sym sending) shape.place);
        left = λ l some. absurd (none_some l (sym (left ∙ none) ∙ some));
        wants = subst (λ x. AllWant new.sending x new.slots.items) (sym place)
            (subst (λ p. AllWant p old.place new.slots.items) (sym sending) (renewed_wants old.sending old.place step old.slots.items new.slots.items all shape.wants));
        active = subst (λ x. AllActive x new.slots.items) (sym place)
            (active_kept old.place old.slots.items new.slots.items all.long (λ k d lt. renewed_active (slice_index_or old.slots.items k d) (slice_index_or new.slots.items k d) step (all.each k d lt)) shape.active);
      };
    }

-- ---- the end of a round

-- nothing is to be sent
pub nothing_to_send : (c : Client) → c.queue ≡ [] → sends_nothing c ≡ sends c c.queue
nothing_to_send c e =
    ap (λ (q : List Item). record { next = record c { queue = q }; items = [] }) e
    ∙ sym (ap (λ (q : List Item). sends c q) e)

pub stays_so : (r : Rounds) (g : Going) → HasShape r → g ≡ sends (client_of r) (client_of r).queue → GoesOn r r g
stays_so r g shape e = record { going = e; sending = refl; purpose = refl; was = was_self r.slots.items; shape = shape }

counted_client : (old new : Rounds) (step : Step) → old.place ≡ At step → old.left ≡ None → new.sending ≡ old.sending → new.purpose ≡ old.purpose
    → Each (IsCounted step) old.slots.items new.slots.items → new.left ≡ old.left → new.place ≡ old.place → new.began ≡ old.began → new.moment ≡ old.moment
    → client_of new ≡ after_counting (client_of old) step
counted_client old new step at none sending purpose all left place began moment =
    client_same (client_of new) (after_counting (client_of old) step) sending purpose
    (receivers_are (IsCounted step) (round_counted step) old.slots.items new.slots.items all (λ x y one. one.receiver))
    place
    (ap (queue_of new.sending new.purpose new.slots.items new.left) (place ∙ at)
    ∙ ap (list_left new.sending new.purpose new.slots.items step) (left ∙ none)
    ∙ ap (λ x. messages_left x new.purpose step new.slots.items) sending
    ∙ ap (λ x. messages_left old.sending x step new.slots.items) purpose
    ∙ messages_kept old.sending old.purpose step (IsCounted step) old.slots.items new.slots.items all (λ x y one. one.list)
    ∙ sym (ap (queue_of old.sending old.purpose old.slots.items old.left) at ∙ ap (list_left old.sending old.purpose old.slots.items step) none))
    began moment

fell_wants : (r : Receiver) (step : Step) → (fell_silent r step).wanted ≡ []
fell_wants r Check = refl
fell_wants r Start = refl
fell_wants r Information = refl
fell_wants r Transfer = refl
fell_wants r (Block b) = refl
fell_wants r (Chunks b) = refl
fell_wants r (Pull b) = refl
fell_wants r (Get b) = refl
fell_wants r Verify = refl
fell_wants r Apply = refl
fell_wants r Confirm = refl
fell_wants r Cancel = refl

silent_wants : (n : ℕ) (step : Step) (r : Receiver) (x : Bool) → WantsOf n r → WantsOf n (silent_if step r x)
silent_wants n step r true wants = nothing_wanted n (fell_silent r step) (fell_wants r step)
silent_wants n step r false wants = wants

counted_wants : (n : ℕ) (step : Step) (r : Receiver) (x : Bool) → WantsOf n r → WantsOf n (counted_if step r x)
counted_wants n step r true wants = silent_wants n step (with_silent (silent_after step r) r) (nat_le most_silent (silent_after step r)) wants
counted_wants n step r false wants = wants

all_counted_want : (p : Sending) (place : Place) (step : Step) (olds news : List Slot) → Each (IsCounted step) olds news → AllWant p place olds → AllWant p place news
all_counted_want p place step olds news all wants b k d at lt =
    let here : k < length olds = omega (arith, lt, all.long) in
    let one = all.each k d here in
    subst (λ (r : Receiver). WantsOf (chunk_total p b) r) (sym one.receiver)
    (counted_wants (chunk_total p b) step (receiver_of (slice_index_or olds k d)) (receiver_of (slice_index_or olds k d)).pending (wants b k d at here))

counted_shape : (old new : Rounds) (step : Step) → HasShape old → old.left ≡ None → new.sending ≡ old.sending → new.purpose ≡ old.purpose
    → Each (IsCounted step) old.slots.items new.slots.items → AreFew new.slots.items → new.left ≡ old.left → new.place ≡ old.place → new.began ≡ old.began → new.moment ≡ old.moment
    → HasShape new
counted_shape old new step shape none sending purpose all few left place began moment = record {
  range = subst (λ p. IsSendable p) (sym sending) shape.range;
  later = omega (arith, shape.later, began, moment);
  most = omega (arith, all.long, shape.most);
  few = few;
  place = subst (λ x. PlaceFits new.sending x) (sym place) (subst (λ p. PlaceFits p old.place) (sym sending) shape.place);
  left = λ l some. absurd (none_some l (sym (left ∙ none) ∙ some));
  wants = subst (λ x. AllWant new.sending x new.slots.items) (sym place)
      (subst (λ p. AllWant p old.place new.slots.items) (sym sending) (all_counted_want old.sending old.place step old.slots.items new.slots.items all shape.wants));
  active = subst (λ x. AllActive x new.slots.items) (sym place)
      (active_kept old.place old.slots.items new.slots.items all.long (λ k d lt. counted_active (slice_index_or old.slots.items k d) (slice_index_or new.slots.items k d) step (all.each k d lt)) shape.active);
}

-- the round that is over was counted
pub record Counted (old new : Rounds) (step : Step) : Type 0 where
  pub client : client_of new ≡ after_counting (client_of old) step
  pub shape : HasShape new
  pub was : Each KeepsWas old.slots.items new.slots.items

pub round_counts : (old new : Rounds) (step : Step) → HasShape old → old.place ≡ At step → old.left ≡ None → new.sending ≡ old.sending → new.purpose ≡ old.purpose
    → Each (IsCounted step) old.slots.items new.slots.items → AreFew new.slots.items → new.left ≡ old.left → new.place ≡ old.place → new.began ≡ old.began → new.moment ≡ old.moment
    → Counted old new step
round_counts old new step shape at none sending purpose all few left place began moment = record {
  client = counted_client old new step at none sending purpose all left place began moment;
  shape = counted_shape old new step shape none sending purpose all few left place began moment;
  was = each_so (IsCounted step) KeepsWas old.slots.items new.slots.items all (λ x y one. one.was);
}

pub round_over : (old mid new : Rounds) (step : Step) (over : Bool) → over ≡ nat_le (old.began + round_time old.sending) old.moment → over ≡ true → Counted old mid step
    → mid.sending ≡ old.sending → mid.purpose ≡ old.purpose → GoesOn mid new (round_ends (client_of mid) step) → GoesOn old new (by_round (client_of old) step)
round_over old mid new step over is holds counted sending purpose goes =
    goes_after old mid new (round_ends (client_of mid) step) (by_round (client_of old) step) sending purpose counted.was goes
    (ap (if_round_over (client_of old) step) (sym is ∙ holds) ∙ ap (λ x. round_ends x step) (sym counted.client))

pub round_goes_on : (r : Rounds) (step : Step) (over : Bool) → HasShape r → over ≡ nat_le (r.began + round_time r.sending) r.moment → over ≡ false → (client_of r).queue ≡ [] → GoesOn r r (by_round (client_of r) step)
round_goes_on r step over shape is isnt nothing =
    stays_so r (by_round (client_of r) step) shape (ap (if_round_over (client_of r) step) (sym is ∙ isnt) ∙ nothing_to_send (client_of r) nothing)

-- ---- wanted chunks

pub record Asked (old new : Rounds) : Type 0 where
  pub client : client_of new ≡ client_of old
  pub shape : HasShape new
  pub was : Each KeepsWas old.slots.items new.slots.items
  pub messages : (p : Sending) (purpose : Purpose) (step : Step) → messages_left p purpose step new.slots.items ≡ messages_left p purpose step old.slots.items

asked_messages : (p : Sending) (purpose : Purpose) (step : Step) (which : Receiver → List Bool) (olds news : List Slot) → Each (IsAsked which) olds news
    → messages_left p purpose step news ≡ messages_left p purpose step olds
asked_messages p purpose step which olds news all =
    each_flat (listed p purpose step) (listed p purpose step) olds news all.long
    (λ k d lt. listed_stays p purpose step (slice_index_or olds k d) (slice_index_or news k d) (all.each k d lt).receiver (all.each k d lt).message)

asked_wants : (p : Sending) (place : Place) (which : Receiver → List Bool) (olds news : List Slot) → Each (IsAsked which) olds news → AllWant p place olds → AllWant p place news
asked_wants p place which olds news all wants b k d at lt =
    let here : k < length olds = omega (arith, lt, all.long) in
    subst (λ (r : Receiver). WantsOf (chunk_total p b) r) (sym (all.each k d here).receiver) (wants b k d at here)

pub chunks_asked : (old new : Rounds) (which : Receiver → List Bool) (step : Step) → HasShape old → old.place ≡ At step → old.left ≡ None → new.sending ≡ old.sending → new.purpose ≡ old.purpose
    → Each (IsAsked which) old.slots.items new.slots.items → AreFew new.slots.items → new.left ≡ old.left → new.place ≡ old.place → new.began ≡ old.began → new.moment ≡ old.moment
    → Asked old new
chunks_asked old new which step shape at none sending purpose all few left place began moment = record {
  client = client_same (client_of new) (client_of old) sending purpose
      (receivers_stay (IsAsked which) old.slots.items new.slots.items all (λ x y one. one.receiver))
      place
      (ap (queue_of new.sending new.purpose new.slots.items new.left) (place ∙ at)
      ∙ ap (list_left new.sending new.purpose new.slots.items step) (left ∙ none)
      ∙ ap (λ x. messages_left x new.purpose step new.slots.items) sending
      ∙ ap (λ x. messages_left old.sending x step new.slots.items) purpose
      ∙ asked_messages old.sending old.purpose step which old.slots.items new.slots.items all
      ∙ sym (ap (queue_of old.sending old.purpose old.slots.items old.left) at ∙ ap (list_left old.sending old.purpose old.slots.items step) none))
      began moment;
  shape = record {
    range = subst (λ p. IsSendable p) (sym sending) shape.range;
    later = omega (arith, shape.later, began, moment);
    most = omega (arith, all.long, shape.most);
    few = few;
    place = subst (λ x. PlaceFits new.sending x) (sym place) (subst (λ p. PlaceFits p old.place) (sym sending) shape.place);
    left = λ l some. absurd (none_some l (sym (left ∙ none) ∙ some));
    wants = subst (λ x. AllWant new.sending x new.slots.items) (sym place)
        (subst (λ p. AllWant p old.place new.slots.items) (sym sending) (asked_wants old.sending old.place which old.slots.items new.slots.items all shape.wants));
    active = subst (λ x. AllActive x new.slots.items) (sym place)
        (active_kept old.place old.slots.items new.slots.items all.long (λ k d lt. active_same (slice_index_or old.slots.items k d) (slice_index_or new.slots.items k d) (all.each k d lt).receiver) shape.active);
  };
  was = each_so (IsAsked which) KeepsWas old.slots.items new.slots.items all (λ x y one. one.was);
  messages = λ p purpose step. asked_messages p purpose step which old.slots.items new.slots.items all;
}

pub some_same : (a b : Left) → Some a ≡ Some b → a ≡ b
some_same a b e = cc

at_same : (s t : Step) → At s ≡ At t → s ≡ t
at_same s t e = cc

-- the list of a step that has no chunks left
pub queue_is : (r : Rounds) (step : Step) → r.place ≡ At step → r.left ≡ None → (client_of r).queue ≡ messages_left r.sending r.purpose step r.slots.items
queue_is r step at none = ap (queue_of r.sending r.purpose r.slots.items r.left) at ∙ ap (list_left r.sending r.purpose r.slots.items step) none

wanted_list : (c : Client) (step : Step) (q : List Item) → is_empty q ≡ false → by_wanted c step q ≡ sends (record c { receivers = map unwanted c.receivers }) q
wanted_list c step [] e = absurd (false≢true (sym e))
wanted_list c step (item ∷ items) e = refl

unwanted_none : (r : Receiver) → (unwanted r).wanted ≡ []
unwanted_none r = refl

unwanting_want : (p : Sending) (place : Place) (olds news : List Slot) → Each IsUnwanting olds news → AllWant p place news
unwanting_want p place olds news all b k d at lt =
    let one = all.each k d (omega (arith, lt, all.long)) in
    nothing_wanted (chunk_total p b) (receiver_of (slice_index_or news k d)) (ap (λ (r : Receiver). r.wanted) one.receiver)

pub rest_stays : (p : Sending) (R : Slot → Slot → Type 0) (olds news : List Slot) (left : Left) → Each R olds news → ((x y : Slot) → R x y → key_of y ≡ key_of x) → rest_of p news left ≡ rest_of p olds left
rest_stays p R olds news left all one = rest_same p.group left.block left.chunks olds news left.at.chunk left.at.receiver (keys_stay R olds news all one)

pub wanted_begin : (old mid new : Rounds) (b : ℕ) (left : Left) → Asked old mid → old.place ≡ At (Pull b) → mid.sending ≡ old.sending
    → b < block_total old.sending → (client_of old).queue ≡ [] → old.left ≡ None
    → rest old.sending.group b (chunk_total old.sending b) mid.slots.items 0 0 ≡ chunk_items old.sending b wanted_of (receivers_of old.slots.items)
    → rest_of old.sending mid.slots.items left ≡ rest old.sending.group b (chunk_total old.sending b) mid.slots.items 0 0
    → left.block ≡ b → left.chunks ≡ chunk_total old.sending b → left.at.receiver ≤ length mid.slots.items → is_empty (rest_of old.sending mid.slots.items left) ≡ false
    → new.sending ≡ old.sending → new.purpose ≡ old.purpose → Each IsUnwanting mid.slots.items new.slots.items → AreFew new.slots.items
    → new.left ≡ Some left → new.place ≡ old.place → new.began ≡ old.began → new.moment ≡ old.moment → mid.began ≡ old.began → mid.moment ≡ old.moment
    → GoesOn old new (list_is_sent (client_of old) (Pull b))
wanted_begin old mid new b left asked place midsending within nothing none list here block chunks receiver some sending purpose all few newleft newplace began moment midbegan midmoment =
    let c = client_of old in
    let items = chunk_items old.sending b wanted_of (receivers_of old.slots.items) in
    let rest_is : rest_of old.sending new.slots.items left ≡ rest_of old.sending mid.slots.items left =
    rest_stays old.sending IsUnwanting mid.slots.items new.slots.items left all (λ x y one. key_same x y one.list.address one.list.chunks) in
    let full : is_empty items ≡ false = ap is_empty (sym list ∙ sym here) ∙ some in
    let c2 : Client = record c { receivers = map unwanted c.receivers; queue = items } in
    let queue : (client_of new).queue ≡ items =
    ap (queue_of new.sending new.purpose new.slots.items new.left) (newplace ∙ place)
    ∙ ap (list_left new.sending new.purpose new.slots.items (Pull b)) newleft
    ∙ ap (λ p. rest_of p new.slots.items left) sending ∙ rest_is ∙ here ∙ list in
    let rs : receivers_of new.slots.items ≡ map unwanted c.receivers =
    receivers_are IsUnwanting unwanted mid.slots.items new.slots.items all (λ x y one. one.receiver) ∙ ap (λ (x : Client). map unwanted x.receivers) asked.client in
    let empty : messages_left old.sending old.purpose (Pull b) new.slots.items ≡ [] =
    messages_kept old.sending old.purpose (Pull b) IsUnwanting mid.slots.items new.slots.items all (λ x y one. one.list)
    ∙ asked.messages old.sending old.purpose (Pull b) ∙ sym (queue_is old (Pull b) place none) ∙ nothing in
    record {
      going = wanted_list c (Pull b) items full ∙ listed_so (client_of new) c2 (client_same (client_of new) c2 sending purpose rs newplace queue began moment);
      sending = sending;
      purpose = purpose;
      was = each_then KeepsWas IsUnwanting KeepsWas old.slots.items mid.slots.items new.slots.items asked.was all
          (λ x y z one two. record { receiver = two.was.receiver ∙ one.receiver; message = two.was.message ∙ one.message });
      shape = record {
        range = subst (λ p. IsSendable p) (midsending ∙ sym sending) asked.shape.range;
        later = omega (arith, asked.shape.later, began, moment, midbegan, midmoment);
        most = omega (arith, all.long, asked.shape.most);
        few = few;
        place = subst (λ x. PlaceFits new.sending x) (sym (newplace ∙ place)) (subst (λ p. b < block_total p) (sym sending) within);
        left = λ l is.
            let same : left ≡ l = some_same left l (sym newleft ∙ is) in
            subst (λ x. LeftFits new.sending new.purpose new.slots.items x l) (sym (newplace ∙ place))
            (subst (λ x. LeftFits new.sending x new.slots.items (At (Pull b)) l) (sym purpose)
            (subst (λ x. LeftFits x old.purpose new.slots.items (At (Pull b)) l) (sym sending)
            (subst (λ x. LeftFits old.sending old.purpose new.slots.items (At (Pull b)) x) same (record {
              block = ap (λ x. Some x) (sym block);
              within = subst (λ x. x < block_total old.sending) (sym block) within;
              chunks = chunks ∙ ap (chunk_total old.sending) (sym block);
              receiver = omega (arith, receiver, all.long);
              some = ap is_empty rest_is ∙ some;
              alone = λ step at. subst (λ x. messages_left old.sending old.purpose x new.slots.items ≡ []) (at_same (Pull b) step at) empty;
            }))));
        wants = unwanting_want new.sending new.place mid.slots.items new.slots.items all;
        active = λ k i d at lt. absurd (get_no_pull b k (sym (newplace ∙ place) ∙ at));
      };
    }

pub nothing_wanted_goes : (old mid new : Rounds) (b : ℕ) (left : Option Left) → Asked old mid → mid.sending ≡ old.sending → mid.purpose ≡ old.purpose → left ≡ None
    → rest old.sending.group b (chunk_total old.sending b) mid.slots.items 0 0 ≡ chunk_items old.sending b wanted_of (receivers_of old.slots.items)
    → chunks_left old.sending mid.slots.items left ≡ rest old.sending.group b (chunk_total old.sending b) mid.slots.items 0 0
    → GoesOn mid new (by_round (client_of mid) (Pull b)) → GoesOn old new (list_is_sent (client_of old) (Pull b))
nothing_wanted_goes old mid new b left asked sending purpose none list here goes =
    goes_after old mid new (by_round (client_of mid) (Pull b)) (list_is_sent (client_of old) (Pull b)) sending purpose asked.was goes
    (ap (by_wanted (client_of old) (Pull b)) (sym list ∙ sym here ∙ ap (chunks_left old.sending mid.slots.items) none) ∙ ap (λ x. by_round x (Pull b)) (sym asked.client))

-- ---- whether the list is sent

chunks_by : (r : Rounds) (b : ℕ) (left : Option Left) → HasShape r → r.left ≡ left → r.place ≡ At (Chunks b) → is_none left ≡ is_empty (client_of r).queue
chunks_by r b None shape e at = sym (ap is_empty (queue_is r (Chunks b) at e ∙ no_messages r.sending r.purpose b r.slots.items))
chunks_by r b (Some left) shape e at =
    sym (ap is_empty (ap (queue_of r.sending r.purpose r.slots.items r.left) at ∙ ap (list_left r.sending r.purpose r.slots.items (Chunks b)) e) ∙ (shape.left left e).some)

pub chunks_done : (r : Rounds) (b : ℕ) → HasShape r → r.place ≡ At (Chunks b) → is_none r.left ≡ is_empty (client_of r).queue
chunks_done r b shape at = chunks_by r b r.left shape refl at

one_listed : (p : Sending) (purpose : Purpose) (step : Step) (s : Slot) (more : List Item) (x : Bool) → ((b : ℕ) → step ≡ Chunks b → ⊥)
    → is_empty (said_if (receiver_of s) (list_message p purpose step (receiver_of s)) x ++ more) ≡ (not x && is_empty more)
one_listed p purpose step s more false isnt = refl
one_listed p purpose (Chunks b) s more true isnt = absurd (isnt b refl)
one_listed p purpose Check s more true isnt = refl
one_listed p purpose Start s more true isnt = refl
one_listed p purpose Information s more true isnt = refl
one_listed p purpose Transfer s more true isnt = refl
one_listed p purpose (Block b) s more true isnt = refl
one_listed p purpose (Pull b) s more true isnt = refl
one_listed p purpose (Get b) s more true isnt = refl
one_listed p purpose Verify s more true isnt = refl
one_listed p purpose Apply s more true isnt = refl
one_listed p purpose Confirm s more true isnt = refl
one_listed p purpose Cancel s more true isnt = refl

both : (x y : Bool) → (not x && not y) ≡ not (x || y)
both true y = refl
both false y = refl

messages_empty : (p : Sending) (purpose : Purpose) (step : Step) (slots : List Slot) → ((b : ℕ) → step ≡ Chunks b → ⊥)
    → is_empty (messages_left p purpose step slots) ≡ not (list_any (λ (s : Slot). s.listed) slots)
messages_empty p purpose step [] isnt = refl
messages_empty p purpose step (s ∷ slots) isnt =
    one_listed p purpose step s (messages_left p purpose step slots) s.listed isnt
    ∙ ap (λ x. not s.listed && x) (messages_empty p purpose step slots isnt) ∙ both s.listed (list_any (λ (s : Slot). s.listed) slots)

not_true : (x : Bool) → not x ≡ false → x ≡ true
not_true true e = refl
not_true false e = absurd (false≢true (sym e))

empty_by : (r : Rounds) (step : Step) (left : Option Left) (listed : Bool) → HasShape r → r.left ≡ left → r.place ≡ At step → listed ≡ list_any (λ (s : Slot). s.listed) r.slots.items
    → ((b : ℕ) → step ≡ Chunks b → ⊥) → (is_none left && not listed) ≡ is_empty (client_of r).queue
empty_by r step None listed shape e at is isnt =
    ap not is ∙ sym (messages_empty r.sending r.purpose step r.slots.items isnt) ∙ sym (ap is_empty (queue_is r step at e))
empty_by r step (Some left) listed shape e at is isnt =
    sym (ap is_empty (ap (queue_of r.sending r.purpose r.slots.items r.left) at ∙ ap (list_left r.sending r.purpose r.slots.items step) e) ∙ (shape.left left e).some)

empty_chunks : (x y : Bool) (q : Bool) → x ≡ q → q ≡ false → (x && y) ≡ q
empty_chunks x y q e isnt = ap (λ z. z && y) (e ∙ isnt) ∙ sym isnt

not_chunks : (step : Step) → is_chunk_step step ≡ false → (b : ℕ) → step ≡ Chunks b → ⊥
not_chunks step isnt b e = false≢true (sym isnt ∙ ap is_chunk_step e)

sent_by : (r : Rounds) (step : Step) (listed : Bool) (x : Bool) → is_chunk_step step ≡ x → HasShape r → r.place ≡ At step → listed ≡ list_any (λ (s : Slot). s.listed) r.slots.items
    → is_done (client_of r) step ≡ false → (is_none r.left && not listed) ≡ is_empty (client_of r).queue
sent_by r (Chunks b) listed x e shape at is undone = empty_chunks (is_none r.left) (not listed) (is_empty (client_of r).queue) (chunks_done r b shape at) undone
sent_by r step listed x e shape at is undone = empty_by r step r.left listed shape refl at is (not_chunks step refl)

pub list_sent : (r : Rounds) (step : Step) (listed : Bool) → HasShape r → r.place ≡ At step → listed ≡ list_any (λ (s : Slot). s.listed) r.slots.items
    → is_done (client_of r) step ≡ false → (is_none r.left && not listed) ≡ is_empty (client_of r).queue
list_sent r step listed shape at is undone = sent_by r step listed (is_chunk_step step) refl shape at is undone

empty_list : (q : List Item) → is_empty q ≡ true → q ≡ []
empty_list [] e = refl
empty_list (item ∷ items) e = absurd (false≢true e)

pub sent_list : (r : Rounds) (x : Bool) → x ≡ is_empty (client_of r).queue → x ≡ true → (client_of r).queue ≡ []
sent_list r x is holds = empty_list (client_of r).queue (sym is ∙ holds)

list_goes : (c : Client) (step : Step) (q : List Item) → is_empty q ≡ false → by_list c step q ≡ sends c q
list_goes c step [] e = absurd (false≢true (sym e))
list_goes c step (item ∷ items) e = refl

-- the list goes on
pub list_goes_on : (r : Rounds) (step : Step) (done sent : Bool) → HasShape r → done ≡ is_done (client_of r) step → done ≡ false → sent ≡ is_empty (client_of r).queue → sent ≡ false
    → GoesOn r r (by_step (client_of r) step (is_done (client_of r) step))
list_goes_on r step done sent shape is isnt empty some =
    stays_so r (by_step (client_of r) step (is_done (client_of r) step)) shape
    (ap (by_step (client_of r) step) (sym is ∙ isnt) ∙ list_goes (client_of r) step (client_of r).queue (sym empty ∙ some))

pub list_over : (r new : Rounds) (step : Step) (done : Bool) → done ≡ is_done (client_of r) step → done ≡ false → (client_of r).queue ≡ [] → GoesOn r new (list_is_sent (client_of r) step)
    → GoesOn r new (by_step (client_of r) step (is_done (client_of r) step))
list_over r new step done is isnt nothing goes =
    goes_as r new (list_is_sent (client_of r) step) (by_step (client_of r) step (is_done (client_of r) step)) goes
    (ap (by_step (client_of r) step) (sym is ∙ isnt) ∙ ap (by_list (client_of r) step) nothing)

pub step_over : (r new : Rounds) (step : Step) (done : Bool) → done ≡ is_done (client_of r) step → done ≡ true → GoesOn r new (next_step (client_of r) step)
    → GoesOn r new (by_step (client_of r) step (is_done (client_of r) step))
step_over r new step done is holds goes =
    goes_as r new (next_step (client_of r) step) (by_step (client_of r) step (is_done (client_of r) step)) goes (ap (by_step (client_of r) step) (sym is ∙ holds))

-- ---- where no chunks are left

pub no_number : (b : ℕ) → None ≡ Some b → ⊥
no_number b e = cc

no_left : (left : Option Left) → is_none left ≡ true → left ≡ None
no_left None e = refl
no_left (Some left) e = absurd (false≢true e)

left_before : (r : Rounds) (step : Step) (left : Option Left) → HasShape r → r.left ≡ left → r.place ≡ Before step → r.left ≡ None
left_before r step None shape e at = e
left_before r step (Some left) shape e at = absurd (no_number left.block (sym (ap block_at at) ∙ (shape.left left e).block))

-- ---- no chunks are left where those of a block come next

no_chunks_after : (purpose : Purpose) (found : Option ℕ) (b : ℕ) → block_or (after_blocks purpose) found ≡ Go (Chunks b) → ⊥
no_chunks_after Blob None b e = cc
no_chunks_after (Update offered apply) None b e = cc
no_chunks_after purpose (Some x) b e = cc

by_left : (r : Rounds) (step : Step) (left : Option Left) → HasShape r → r.left ≡ left → r.place ≡ At step → chunk_block step ≡ None → r.left ≡ None
by_left r step None shape e at none = e
by_left r step (Some left) shape e at none =
    absurd (no_number left.block (sym none ∙ sym (ap block_at at) ∙ (shape.left left e).block))

no_block : (r : Rounds) (step : Step) → HasShape r → r.place ≡ At step → chunk_block step ≡ None → r.left ≡ None
no_block r step shape at none = by_left r step r.left shape refl at none

pub free_after : (r : Rounds) (step : Step) → HasShape r → r.place ≡ At step → is_done (client_of r) step ≡ true → IsFree r (after r.sending r.purpose (receivers_of r.slots.items) step)
free_after r (Pull b) shape at done k e = absurd (no_chunks_after r.purpose (least_missed r.sending (receivers_of r.slots.items)) k e)
free_after r (Chunks b) shape at done k e = no_left r.left (chunks_done r b shape at ∙ done)
free_after r step shape at done k e = no_block r step shape at refl

pub free_now : (r : Rounds) (next : Next) → r.left ≡ None → IsFree r next
free_now r next none b e = none

pub free_before : (r : Rounds) (step : Step) → HasShape r → r.place ≡ Before step → IsFree r (Go step)
free_before r step shape at b e = left_before r step r.left shape refl at

pub sent_so : (r : Rounds) (step : Step) (listed x : Bool) → HasShape r → r.place ≡ At step → listed ≡ list_any (λ (s : Slot). s.listed) r.slots.items → is_done (client_of r) step ≡ false
    → x ≡ is_none r.left → x ≡ true → not listed ≡ is_empty (client_of r).queue
sent_so r step listed x shape at is undone none holds = ap (λ y. y && not listed) (sym (sym none ∙ holds)) ∙ list_sent r step listed shape at is undone

pub done_chunks : (r : Rounds) (step : Step) (x y : Bool) → HasShape r → r.place ≡ At step → x ≡ is_chunk_step step → x ≡ true → y ≡ is_none r.left → y ≡ is_done (client_of r) step
done_chunks r (Chunks b) x y shape at is holds none = none ∙ chunks_done r b shape at
done_chunks r Check x y shape at is holds none = absurd (false≢true (sym is ∙ holds))
done_chunks r Start x y shape at is holds none = absurd (false≢true (sym is ∙ holds))
done_chunks r Information x y shape at is holds none = absurd (false≢true (sym is ∙ holds))
done_chunks r Transfer x y shape at is holds none = absurd (false≢true (sym is ∙ holds))
done_chunks r (Block b) x y shape at is holds none = absurd (false≢true (sym is ∙ holds))
done_chunks r (Pull b) x y shape at is holds none = absurd (false≢true (sym is ∙ holds))
done_chunks r (Get b) x y shape at is holds none = absurd (false≢true (sym is ∙ holds))
done_chunks r Verify x y shape at is holds none = absurd (false≢true (sym is ∙ holds))
done_chunks r Apply x y shape at is holds none = absurd (false≢true (sym is ∙ holds))
done_chunks r Confirm x y shape at is holds none = absurd (false≢true (sym is ∙ holds))
done_chunks r Cancel x y shape at is holds none = absurd (false≢true (sym is ∙ holds))

any_pending : (r : Rounds) (y : Bool) → y ≡ list_any (λ s. is_pending (receiver_of s)) r.slots.items → not y ≡ not (list_any is_pending (client_of r).receivers)
any_pending r y is = ap not (is ∙ sym (any_map is_pending r.slots.items))

pub done_messages : (r : Rounds) (step : Step) (x y : Bool) → x ≡ is_chunk_step step → x ≡ false → y ≡ list_any (λ s. is_pending (receiver_of s)) r.slots.items → not y ≡ is_done (client_of r) step
done_messages r (Chunks b) x y is fails any = absurd (false≢true (sym fails ∙ is))
done_messages r Check x y is fails any = any_pending r y any
done_messages r Start x y is fails any = any_pending r y any
done_messages r Information x y is fails any = any_pending r y any
done_messages r Transfer x y is fails any = any_pending r y any
done_messages r (Block b) x y is fails any = any_pending r y any
done_messages r (Pull b) x y is fails any = any_pending r y any
done_messages r (Get b) x y is fails any = any_pending r y any
done_messages r Verify x y is fails any = any_pending r y any
done_messages r Apply x y is fails any = any_pending r y any
done_messages r Confirm x y is fails any = any_pending r y any
done_messages r Cancel x y is fails any = any_pending r y any

-- ---- what is seen decides

pub begins_so : (r : Rounds) (step : Step) (held : List Slot) (x y : Bool) → held ≡ r.slots.items → x ≡ list_any (λ s. is_begun_for step (receiver_of s)) held → x ≡ y
    → goes_on (client_of r) (Go step) ≡ begins_if (client_of r) step y
begins_so r step held x y same is e =
    ap (begins_if (client_of r) step) (any_map (is_begun_for step) r.slots.items ∙ ap (list_any (λ s. is_begun_for step (receiver_of s))) (sym same) ∙ sym is ∙ e)

pub ends_so : (r : Rounds) (step : Step) (held : List Slot) (x : Bool) (part : Part) → held ≡ r.slots.items → x ≡ list_any (λ s. is_begun_for step (receiver_of s)) held → x ≡ false → part ≡ part_of step
    → goes_on (client_of r) (Go step) ≡ record { next = record (client_of r) { place = Ended part; queue = [] }; items = [] }
ends_so r step held x part same is e ends =
    begins_so r step held x false same is e ∙ ap (λ (y : Part). record { next = record (client_of r) { place = Ended y; queue = [] }; items = [] }) (sym ends)

pub after_so : (r : Rounds) (step : Step) (held : List Slot) (next : Next) → held ≡ r.slots.items → next ≡ after r.sending r.purpose (receivers_of held) step → next_step (client_of r) step ≡ goes_on (client_of r) next
after_so r step held next same is = ap (goes_on (client_of r)) (ap (λ (x : List Slot). after r.sending r.purpose (receivers_of x) step) (sym same) ∙ sym is)

pub free_so : (r : Rounds) (step : Step) (held : List Slot) (next : Next) → held ≡ r.slots.items → next ≡ after r.sending r.purpose (receivers_of held) step
    → IsFree r (after r.sending r.purpose (receivers_of r.slots.items) step) → IsFree r next
free_so r step held next same is free = subst (IsFree r) (ap (λ (x : List Slot). after r.sending r.purpose (receivers_of x) step) (sym same) ∙ sym is) free

pub pending_so : (r : Rounds) (step : Step) (held : List Slot) (x y : Bool) → held ≡ r.slots.items → x ≡ list_any (λ s. is_pending (receiver_of s)) held → x ≡ y
    → round_ends (client_of r) step ≡ round_or_next (client_of r) step y
pending_so r step held x y same is e =
    ap (round_or_next (client_of r) step) (any_map is_pending r.slots.items ∙ ap (list_any (λ s. is_pending (receiver_of s))) (sym same) ∙ sym is ∙ e)

pub step_fits : (r : Rounds) (step : Step) → HasShape r → r.place ≡ At step → StepFits r.sending step
step_fits r step shape at = subst (PlaceFits r.sending) at shape.place

pub step_before : (r : Rounds) (step : Step) → HasShape r → r.place ≡ Before step → StepFits r.sending step
step_before r step shape at = subst (PlaceFits r.sending) at shape.place

pub counted_there : (old : Rounds) (held news : List Slot) (step : Step) → HasShape old → old.place ≡ At step → old.left ≡ None → held ≡ old.slots.items → Each (IsCounted step) held news → AreFew news
    → Counted old (record old { slots = record { items = take (length old.slots.items) (news ++ drop (length news) old.slots.items) } }) step
counted_there old held news step shape at none same all few =
    round_counts old (record old { slots = record { items = take (length old.slots.items) (news ++ drop (length news) old.slots.items) } }) step shape at none refl refl
    (each_written (IsCounted step) old.slots.items held news same all) (few_written old.slots.items held news same all.long few) refl refl refl refl

pub asked_there : (old : Rounds) (held news : List Slot) (which : Receiver → List Bool) (step : Step) → HasShape old → old.place ≡ At step → old.left ≡ None → held ≡ old.slots.items → Each (IsAsked which) held news
    → AreFew news → Asked old (record old { slots = record { items = take (length old.slots.items) (news ++ drop (length news) old.slots.items) } })
asked_there old held news which step shape at none same all few =
    chunks_asked old (record old { slots = record { items = take (length old.slots.items) (news ++ drop (length news) old.slots.items) } }) which step shape at none refl refl
    (each_written (IsAsked which) old.slots.items held news same all) (few_written old.slots.items held news same all.long few) refl refl refl refl

-- ---- a moment is handed in

pub moved : (r : Rounds) (m now : ℕ) → m ≡ max r.moment now → client_of (record r { moment = m }) ≡ at_moment (client_of r) now
moved r m now later = ap (λ x. record (client_of r) { moment = x }) later

pub moved_shape : (r : Rounds) (m now : ℕ) → HasShape r → m ≡ max r.moment now → HasShape (record r { moment = m })
moved_shape r m now shape later = record {
  range = shape.range;
  later = omega (arith, shape.later, later);
  most = shape.most;
  few = shape.few;
  place = shape.place;
  left = shape.left;
  wants = shape.wants;
  active = shape.active;
}

pub went_before : (r new : Rounds) (m now : ℕ) (step : Step) → m ≡ max r.moment now → r.place ≡ Before step
    → GoesOn (record r { moment = m }) new (goes_on (client_of (record r { moment = m })) (Go step)) → GoesOn r new (going (client_of r) now)
went_before r new m now step later at goes =
    goes_after r (record r { moment = m }) new (goes_on (client_of (record r { moment = m })) (Go step)) (going (client_of r) now) refl refl (was_self r.slots.items) goes
    (ap (by_place (at_moment (client_of r) now)) at ∙ ap (λ x. goes_on x (Go step)) (sym (moved r m now later)))

pub went_at : (r new : Rounds) (m now : ℕ) (step : Step) → m ≡ max r.moment now → r.place ≡ At step
    → GoesOn (record r { moment = m }) new (by_step (client_of (record r { moment = m })) step (is_done (client_of (record r { moment = m })) step)) → GoesOn r new (going (client_of r) now)
went_at r new m now step later at goes =
    goes_after r (record r { moment = m }) new (by_step (client_of (record r { moment = m })) step (is_done (client_of (record r { moment = m })) step)) (going (client_of r) now) refl refl (was_self r.slots.items) goes
    (ap (by_place (at_moment (client_of r) now)) at ∙ ap (λ x. by_step x step (is_done x step)) (sym (moved r m now later)))

nowhere : (c : Client) (place : Place) → rests place ≡ true → by_place c place ≡ sends_nothing c
nowhere c (At step) e = absurd (false≢true e)
nowhere c (Before step) e = absurd (false≢true e)
nowhere c Verified e = refl
nowhere c (Ended part) e = refl

pub went_nowhere : (r : Rounds) (m now : ℕ) (place : Place) → HasShape r → m ≡ max r.moment now → rests place ≡ true → r.place ≡ place → GoesOn r (record r { moment = m }) (going (client_of r) now)
went_nowhere r m now place shape later e at =
    goes_after r (record r { moment = m }) (record r { moment = m }) (sends_nothing (client_of (record r { moment = m }))) (going (client_of r) now) refl refl (was_self r.slots.items)
    (stays_so (record r { moment = m }) (sends_nothing (client_of (record r { moment = m }))) (moved_shape r m now shape later)
    (nothing_to_send (client_of (record r { moment = m })) (ap (queue_of r.sending r.purpose r.slots.items r.left) at ∙ at_rest r.sending r.purpose r.slots.items r.left place e)))
    (ap (by_place (at_moment (client_of r) now)) at ∙ nowhere (at_moment (client_of r) now) place e ∙ ap sends_nothing (sym (moved r m now later)))

pub is_none_so : (left : Option Left) (x : Bool) → is_some left ≡ not x → x ≡ is_none left
is_none_so None true e = refl
is_none_so None false e = absurd (false≢true e)
is_none_so (Some left) true e = absurd (false≢true (sym e))
is_none_so (Some left) false e = refl
