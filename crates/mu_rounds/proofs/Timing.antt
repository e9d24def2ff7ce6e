-- A time event: the first of the list that are sent, and the way back.
use Rattle.std.proofs.Common.{◌≡◌, ◌≤◌, ◌<◌, ℕ, List, [], ◌++◌, refl, sym, ap, subst, ◌∙◌, false, Option, Some, None, map, take, drop, length, arith}
use Rattle.std.specs.Prelude.{slice_index_or, IfSome}
use Rattle.std.specs.Option.{MatchOption}
use Rattle.std.proofs.lemmas.List.{drop_all, take_all, length-map}
use Rattle.std.proofs.Math.Seq.{take-append_seam, drop-append_seam}
use Rattle.mu_model_node.specs.NodeMessages.{Request}
use Rattle.mu_model_client.specs.declared.Sending.{Sending}
use Rattle.mu_model_client.specs.Client.{Receiver, Purpose, Step, Place, Before, At, Verified, Ended, Item, chunk_total, stands_active}
use Rattle.mu_model_client.specs.Lists.{sent_for}
use Rattle.mu_model_client.specs.Going.{Going, going, sends, is_empty}
use Rattle.mu_model_client.specs.Due.{due}
use Rattle.mu_receivers.specs.declared.slot.Slot.{Slot}
use Rattle.mu_receivers.specs.declared.lists.Spot.{Spot}
use Rattle.mu_receivers.specs.declared.lists.Cursor.{Cursor}
use Rattle.mu_receivers.specs.Receivers.{receiver_of, before}
use Rattle.mu_receivers.specs.Messages.{listed, messages_left}
use Rattle.mu_receivers.specs.Slots.{Each, KeepsList, KeepsWas, IsKept, IsTakenBack, IsFew, AreFew}
use Rattle.mu_receivers.specs.Chunks.{items_of, item_of}
use Rattle.mu_receivers.specs.Image.{Image}
use Rattle.mu_receivers.specs.Reads.{CanRead}
use Rattle.mu_told.specs.Told.{IsSendable, WantsOf}
use Rattle.mu_rounds.specs.After.{PlaceFits, block_at}
use Rattle.mu_rounds.specs.Rounds.{rest_of, chunks_left, queue_of, client_of, LeftFits, AllWant, IsActiveWhere, AllActive, HasShape, GoesOn, KeepsAsked, KeepsLeft, IsSaid}
use Rattle.mu_rounds.specs.Sents.{sents_of}
use Rattle.mu_rounds.specs.Time.{HasSize, left_at, left_after, SendsOn, Keeps, StoodSo, GoesBack, IsBack}
use Rattle.mu_rounds.specs.declared.said.Sent.{Sent}
use Rattle.mu_rounds.specs.declared.left.Left.{Left}
use Rattle.mu_rounds.specs.declared.rounds.Rounds.{Rounds}
use Rattle.mu_rounds.specs.declared.time.Stood.{Stood}
use Rattle.mu_rounds.proofs.Lists.{each_map, each_flat, each_then, each_written, few_written, refilled, receivers_stay, key_of, key_same, rest_same}
use Rattle.mu_rounds.proofs.Stepping.{client_same, none_some, some_same, no_number, queue_is, listed_stays, messages_kept, rest_stays}

-- ---- lists that are kept

pub queue_kept : (p : Sending) (purpose : Purpose) (R : Slot → Slot → Type 0) (olds news : List Slot) → Each R olds news → ((old new : Slot) → R old new → KeepsList old new)
    → (left : Option Left) (place : Place) → queue_of p purpose news left place ≡ queue_of p purpose olds left place
queue_kept p purpose R olds news all one None (At step) = messages_kept p purpose step R olds news all one
queue_kept p purpose R olds news all one (Some left) (At step) =
    rest_stays p R olds news left all (λ x y r. key_same x y (one x y r).address (one x y r).chunks)
queue_kept p purpose R olds news all one left (Before step) = refl
queue_kept p purpose R olds news all one left Verified = refl
queue_kept p purpose R olds news all one left (Ended part) = refl

pub fits_kept : (p : Sending) (purpose : Purpose) (R : Slot → Slot → Type 0) (olds news : List Slot) → Each R olds news → ((old new : Slot) → R old new → KeepsList old new)
    → (place : Place) (left : Left) → LeftFits p purpose olds place left → LeftFits p purpose news place left
fits_kept p purpose R olds news all one place left fits = record {
  block = fits.block;
  within = fits.within;
  chunks = fits.chunks;
  receiver = omega (arith, fits.receiver, all.long);
  some = ap is_empty (rest_stays p R olds news left all (λ x y r. key_same x y (one x y r).address (one x y r).chunks)) ∙ fits.some;
  alone = λ step at. messages_kept p purpose step R olds news all one ∙ fits.alone step at;
}

pub wants_same : (p : Sending) (place : Place) (olds news : List Slot) → length news ≡ length olds
    → ((k : ℕ) (d : Slot) → k < length olds → receiver_of (slice_index_or news k d) ≡ receiver_of (slice_index_or olds k d)) → AllWant p place olds → AllWant p place news
wants_same p place olds news long same wants b k d at lt =
    let here : k < length olds = omega (arith, lt, long) in
    subst (λ (r : Receiver). WantsOf (chunk_total p b) r) (sym (same k d here)) (wants b k d at here)

pub active_too : (place : Place) (olds news : List Slot) → length news ≡ length olds
    → ((k : ℕ) (d : Slot) → k < length olds → receiver_of (slice_index_or news k d) ≡ receiver_of (slice_index_or olds k d)) → AllActive place olds → AllActive place news
active_too place olds news long same active b k d at lt =
    let here : k < length olds = omega (arith, lt, long) in
    subst IsActiveWhere (sym (same k d here)) (active b k d at here)

-- ---- how the receivers were is kept

pub keeps : (old : Rounds) (held news : List Slot) → HasShape old → held ≡ old.slots.items → Each IsKept held news → AreFew news
    → Keeps old (record old { slots = record { items = take (length old.slots.items) (news ++ drop (length news) old.slots.items) } })
keeps old held news shape same all few =
    let olds = old.slots.items in
    let items : List Slot = take (length olds) (news ++ drop (length news) olds) in
    let each : Each IsKept olds items = each_written IsKept olds held news same all in
    record {
      each = each;
      same = record { sending = refl; purpose = refl; place = refl; left = refl; began = refl; moment = refl };
      client = client_same (client_of (record old { slots = record { items = items } })) (client_of old) refl refl
          (receivers_stay IsKept olds items each (λ x y one. one.receiver)) refl
          (queue_kept old.sending old.purpose IsKept olds items each (λ x y one. one.list) old.left old.place) refl refl;
      shape = record {
        range = shape.range;
        later = shape.later;
        most = omega (arith, each.long, shape.most);
        few = few_written olds held news same all.long few;
        place = shape.place;
        left = λ l some. fits_kept old.sending old.purpose IsKept olds items each (λ x y one. one.list) old.place l (shape.left l some);
        wants = wants_same old.sending old.place olds items each.long (λ k d lt. (each.each k d lt).receiver) shape.wants;
        active = active_too old.place olds items each.long (λ k d lt. (each.each k d lt).receiver) shape.active;
      };
    }

-- ---- chunks that are sent

whole : (news more all : List Item) → news ++ more ≡ all → length news ≡ 16 → (take 16 all ≡ news) × (drop 16 all ≡ more)
whole news more all e n = (
  ap (take 16) (sym e) ∙ ap (λ k. take k (news ++ more)) (sym n) ∙ take-append_seam news more,
  ap (drop 16) (sym e) ∙ ap (λ k. drop k (news ++ more)) (sym n) ∙ drop-append_seam news more,
)

few_all : (news all : List Item) → news ≡ all → length news ≤ 16 → (take 16 all ≡ news) × (drop 16 all ≡ [])
few_all news all e few = (ap (take 16) (sym e) ∙ take_all 16 news few, ap (drop 16) (sym e) ∙ drop_all 16 news few)

-- the next places of a list, and where it goes on
pub record Found (p : Sending) (slots : List Slot) (left : Left) (spots : List Spot) (next : Option Cursor) : Type 0 where
  pub all : MatchOption next (items_of left.block spots ≡ rest_of p slots left) (λ at. items_of left.block spots ++ rest_of p slots (left_at left at) ≡ rest_of p slots left)
  pub more : IfSome next (λ at. is_empty (rest_of p slots (left_at left at)) ≡ false)
  pub full : IfSome next (λ at. length spots ≡ 16)
  pub few : length spots ≤ 16
  pub within : IfSome next (λ at. at.receiver ≤ length slots)

found_first : (p : Sending) (slots : List Slot) (left : Left) (spots : List Spot) (next : Option Cursor)
    → MatchOption next (items_of left.block spots ≡ rest_of p slots left) (λ at. items_of left.block spots ++ rest_of p slots (left_at left at) ≡ rest_of p slots left)
    → IfSome next (λ at. length spots ≡ 16) → length spots ≤ 16
    → (take 16 (rest_of p slots left) ≡ items_of left.block spots) × (drop 16 (rest_of p slots left) ≡ chunks_left p slots (left_after left next))
found_first p slots left spots None all full few =
    few_all (items_of left.block spots) (rest_of p slots left) all (omega (arith, few, length-map spots (item_of left.block)))
found_first p slots left spots (Some at) all full few =
    whole (items_of left.block spots) (rest_of p slots (left_at left at)) (rest_of p slots left) all (length-map spots (item_of left.block) ∙ full)

queue_with : (p : Sending) (purpose : Purpose) (slots : List Slot) (place : Place) (left : Left) → block_at place ≡ Some left.block → queue_of p purpose slots (Some left) place ≡ rest_of p slots left
queue_with p purpose slots (At step) left e = refl
queue_with p purpose slots (Before step) left e = absurd (no_number left.block e)
queue_with p purpose slots Verified left e = absurd (no_number left.block e)
queue_with p purpose slots (Ended part) left e = absurd (no_number left.block e)

queue_next : (p : Sending) (purpose : Purpose) (slots : List Slot) (place : Place) (left : Left) (next : Option Cursor) → LeftFits p purpose slots place left
    → queue_of p purpose slots (left_after left next) place ≡ chunks_left p slots (left_after left next)
queue_next p purpose slots (At step) left None fits = fits.alone step refl
queue_next p purpose slots (At step) left (Some at) fits = refl
queue_next p purpose slots (Before step) left next fits = absurd (no_number left.block fits.block)
queue_next p purpose slots Verified left next fits = absurd (no_number left.block fits.block)
queue_next p purpose slots (Ended part) left next fits = absurd (no_number left.block fits.block)

fits_next : (p : Sending) (purpose : Purpose) (slots : List Slot) (place : Place) (left : Left) (next : Option Cursor) → LeftFits p purpose slots place left
    → IfSome next (λ at. is_empty (rest_of p slots (left_at left at)) ≡ false) → IfSome next (λ at. at.receiver ≤ length slots)
    → (x : Left) → left_after left next ≡ Some x → LeftFits p purpose slots place x
fits_next p purpose slots place left None fits more within x e = absurd (none_some x e)
fits_next p purpose slots place left (Some at) fits more within x e =
    subst (λ y. LeftFits p purpose slots place y) (some_same (left_at left at) x e)
    (record { block = fits.block; within = fits.within; chunks = fits.chunks; receiver = within; some = more; alone = fits.alone })

old_queue : (r : Rounds) (left : Left) → HasShape r → r.left ≡ Some left → (client_of r).queue ≡ rest_of r.sending r.slots.items left
old_queue r left shape is =
    ap (λ x. queue_of r.sending r.purpose r.slots.items x r.place) is
    ∙ queue_with r.sending r.purpose r.slots.items r.place left (shape.left left is).block

pub chunks_sent : (old : Rounds) (left : Left) (spots : List Spot) (next : Option Cursor) (now : Option Left) → HasShape old → old.left ≡ Some left
    → Found old.sending old.slots.items left spots next → now ≡ left_after left next → SendsOn old (record old { left = now })
chunks_sent old left spots next now shape is found e =
    let p = old.sending in
    let slots = old.slots.items in
    let first = found_first p slots left spots next found.all found.full found.few in
    let queue : queue_of p old.purpose slots now old.place ≡ drop 16 (client_of old).queue =
    ap (λ x. queue_of p old.purpose slots x old.place) e ∙ queue_next p old.purpose slots old.place left next (shape.left left is)
    ∙ sym first.1 ∙ ap (drop 16) (sym (old_queue old left shape is)) in
    record {
      client = ap (λ q. record (client_of old) { queue = q }) queue;
      shape = record {
        range = shape.range;
        later = shape.later;
        most = shape.most;
        few = shape.few;
        place = shape.place;
        left = λ x some. fits_next p old.purpose slots old.place left next (shape.left left is) found.more found.within x (sym e ∙ some);
        wants = shape.wants;
        active = shape.active;
      };
    }

read_is : (octets : Option (List ℕ)) (p : Sending) (sents : List (ℕ × Request)) (items firsts : List Item) → items ≡ firsts
    → IfSome octets (λ o. sents ≡ map (sent_for p o) items) → IfSome octets (λ o. sents ≡ map (sent_for p o) firsts)
read_is None p sents items firsts e read = tt
read_is (Some o) p sents items firsts e read = read ∙ ap (map (sent_for p o)) e

pub chunks_read : (octets : Option (List ℕ)) (old : Rounds) (left : Left) (spots held : List Spot) (next : Option Cursor) (sents : List Sent) → HasShape old → old.left ≡ Some left
    → Found old.sending old.slots.items left spots next → held ≡ spots
    → IfSome octets (λ o. sents_of old.sending old.purpose sents ≡ map (sent_for old.sending o) (items_of left.block held))
    → IfSome octets (λ o. sents_of old.sending old.purpose sents ≡ map (sent_for old.sending o) (take 16 (client_of old).queue))
chunks_read octets old left spots held next sents shape is found same read =
    read_is octets old.sending (sents_of old.sending old.purpose sents) (items_of left.block held) (take 16 (client_of old).queue)
    (ap (items_of left.block) same
    ∙ sym (found_first old.sending old.slots.items left spots next found.all found.full found.few).0 ∙ ap (take 16) (sym (old_queue old left shape is))) read

pub can_read : (p : Sending) (image : Image) → IsSendable p → HasSize p image → CanRead p image
can_read p image range size = record {
  size = size.size;
  long = size.octets;
  most = range.size_most;
  log = range.log_most;
  chunk = range.chunk_most;
  some = omega (arith, range.chunk_least);
}

-- ---- messages that are sent

said_list : (p : Sending) (purpose : Purpose) (step : Step) (olds held news : List Slot) → held ≡ olds → length news ≡ length held
    → messages_left p purpose step news ≡ drop 16 (messages_left p purpose step held)
    → messages_left p purpose step (take (length olds) (news ++ drop (length news) olds)) ≡ drop 16 (messages_left p purpose step olds)
said_list p purpose step olds held news same long e =
    ap (messages_left p purpose step) (refilled olds held news same long) ∙ e ∙ ap (λ s. drop 16 (messages_left p purpose step s)) same

pub said_sent : (old : Rounds) (held news : List Slot) (step : Step) → HasShape old → old.place ≡ At step → old.left ≡ None → held ≡ old.slots.items → Each IsSaid held news → AreFew news
    → messages_left old.sending old.purpose step news ≡ drop 16 (messages_left old.sending old.purpose step held)
    → SendsOn old (record old { slots = record { items = take (length old.slots.items) (news ++ drop (length news) old.slots.items) } })
said_sent old held news step shape at none same all few said =
    let olds = old.slots.items in
    let items : List Slot = take (length olds) (news ++ drop (length news) olds) in
    let new : Rounds = record old { slots = record { items = items } } in
    let each : Each IsSaid olds items = each_written IsSaid olds held news same all in
    let queue : (client_of new).queue ≡ drop 16 (client_of old).queue =
    queue_is new step at none ∙ said_list old.sending old.purpose step olds held news same all.long said ∙ ap (drop 16) (sym (queue_is old step at none)) in
    record {
      client = client_same (client_of new) (record (client_of old) { queue = drop 16 (client_of old).queue }) refl refl
          (receivers_stay IsSaid olds items each (λ x y one. one.receiver)) refl queue refl refl;
      shape = record {
        range = shape.range;
        later = shape.later;
        most = omega (arith, each.long, shape.most);
        few = few_written olds held news same all.long few;
        place = shape.place;
        left = λ l some. absurd (none_some l (sym none ∙ some));
        wants = wants_same old.sending old.place olds items each.long (λ k d lt. (each.each k d lt).receiver) shape.wants;
        active = active_too old.place olds items each.long (λ k d lt. (each.each k d lt).receiver) shape.active;
      };
    }

pub said_packets : (old : Rounds) (held : List Slot) (step : Step) (image : List ℕ) (sents : List Sent) → old.place ≡ At step → old.left ≡ None → held ≡ old.slots.items
    → sents_of old.sending old.purpose sents ≡ map (sent_for old.sending image) (take 16 (messages_left old.sending old.purpose step held))
    → sents_of old.sending old.purpose sents ≡ map (sent_for old.sending image) (take 16 (client_of old).queue)
said_packets old held step image sents at none same e =
    e ∙ ap (λ s. map (sent_for old.sending image) (take 16 (messages_left old.sending old.purpose step s))) same
    ∙ ap (λ q. map (sent_for old.sending image) (take 16 q)) (sym (queue_is old step at none))

-- messages are the same whatever the image is
pub messages_told : (octets : Option (List ℕ)) (sents : List (ℕ × Request)) (p : Sending) (items : List Item) → ((image : List ℕ) → sents ≡ map (sent_for p image) items)
    → IfSome octets (λ o. sents ≡ map (sent_for p o) items)
messages_told None sents p items said = tt
messages_told (Some o) sents p items said = said o

-- ---- the way back

-- how the receiver was is still kept
record Remembers (old new : Slot) : Type 0 where
  was : before new ≡ receiver_of old
  listed : new.was.listed ≡ old.listed

record Returns (old new : Slot) : Type 0 where
  receiver : receiver_of new ≡ receiver_of old
  listed : new.listed ≡ old.listed

returned_messages : (p : Sending) (purpose : Purpose) (step : Step) (olds news : List Slot) → Each Returns olds news → messages_left p purpose step news ≡ messages_left p purpose step olds
returned_messages p purpose step olds news all =
    each_flat (listed p purpose step) (listed p purpose step) olds news all.long
    (λ k d lt. listed_stays p purpose step (slice_index_or olds k d) (slice_index_or news k d) (all.each k d lt).receiver (all.each k d lt).listed)

returned_rest : (p : Sending) (left : Left) (olds news : List Slot) → Each Returns olds news → Each KeepsAsked olds news → rest_of p news left ≡ rest_of p olds left
returned_rest p left olds news all asked =
    rest_same p.group left.block left.chunks olds news left.at.chunk left.at.receiver
    (each_map key_of key_of olds news all.long
    (λ k d lt. key_same (slice_index_or olds k d) (slice_index_or news k d) (ap (λ (r : Receiver). r.row.address) (all.each k d lt).receiver) (asked.each k d lt).chunks))

returned_queue : (p : Sending) (purpose : Purpose) (olds news : List Slot) → Each Returns olds news → (left : Option Left) → ((l : Left) → left ≡ Some l → Each KeepsAsked olds news)
    → (place : Place) → queue_of p purpose news left place ≡ queue_of p purpose olds left place
returned_queue p purpose olds news all None asked (At step) = returned_messages p purpose step olds news all
returned_queue p purpose olds news all (Some l) asked (At step) = returned_rest p l olds news all (asked l refl)
returned_queue p purpose olds news all left asked (Before step) = refl
returned_queue p purpose olds news all left asked Verified = refl
returned_queue p purpose olds news all left asked (Ended part) = refl

few_same : (old new : Slot) → receiver_of new ≡ receiver_of old → IsFew old → IsFew new
few_same old new same few = record {
  silent = λ e. subst (λ n. n < 5) (sym (ap (λ (r : Receiver). r.silent) same)) (few.silent (sym (ap (λ (r : Receiver). r.pending) same) ∙ e));
  barren = λ e. subst (λ n. n < 5) (sym (ap (λ (r : Receiver). r.barren) same)) (few.barren (sym (ap (λ (r : Receiver). stands_active r.standing) same) ∙ e));
}

returned_fit : (p : Sending) (purpose : Purpose) (olds news : List Slot) (place : Place) (left : Left) → Each Returns olds news → Each KeepsAsked olds news
    → LeftFits p purpose olds place left → LeftFits p purpose news place left
returned_fit p purpose olds news place left all asked fits = record {
  block = fits.block;
  within = fits.within;
  chunks = fits.chunks;
  receiver = omega (arith, fits.receiver, all.long);
  some = ap is_empty (returned_rest p left olds news all asked) ∙ fits.some;
  alone = λ step at. returned_messages p purpose step olds news all ∙ fits.alone step at;
}

remembers : (start kept gone : List Slot) → Each IsKept start kept → Each KeepsWas kept gone → Each Remembers start gone
remembers start kept gone keeps was =
    each_then IsKept KeepsWas Remembers start kept gone keeps was
    (λ x y z one two. record { was = two.receiver ∙ one.was; listed = two.message ∙ one.was_listed })

returns : (start gone back : List Slot) → Each Remembers start gone → Each IsTakenBack gone back → Each Returns start back
returns start gone back remembered taken =
    each_then Remembers IsTakenBack Returns start gone back remembered taken
    (λ x y z one two. record { receiver = two.receiver ∙ one.was; listed = two.message ∙ one.listed })

asked_again : (start kept gone back : List Slot) → Each IsKept start kept → Each KeepsAsked kept gone → Each IsTakenBack gone back → Each KeepsAsked start back
asked_again start kept gone back keeps asked taken =
    each_then KeepsAsked IsTakenBack KeepsAsked start gone back
    (each_then IsKept KeepsAsked KeepsAsked start kept gone keeps asked (λ x y z one two. record { chunks = two.chunks ∙ one.list.chunks }))
    taken (λ x y z one two. record { chunks = two.chunks ∙ one.chunks })

pub is_back : (start kept gone sent back : Rounds) (stood : Stood) (turn : Going) → HasShape start → StoodSo start stood → Keeps start kept → GoesOn kept gone turn → KeepsLeft kept gone
    → sent ≡ gone → GoesBack sent stood back → IsBack start back
is_back start kept gone sent back stood turn shape was kept_so goes left same back_so =
    let olds = start.slots.items in
    let news = back.slots.items in
    let taken : Each IsTakenBack gone.slots.items news = subst (λ (x : Rounds). Each IsTakenBack x.slots.items news) same back_so.each in
    let all : Each Returns olds news = returns olds gone.slots.items news (remembers olds kept.slots.items gone.slots.items kept_so.each goes.was) taken in
    let asked : (l : Left) → start.left ≡ Some l → Each KeepsAsked olds news =
    (λ l some. asked_again olds kept.slots.items gone.slots.items news kept_so.each (left l (kept_so.same.left ∙ some)) taken) in
    let sending : back.sending ≡ start.sending = back_so.sending ∙ ap (λ (x : Rounds). x.sending) same ∙ goes.sending ∙ kept_so.same.sending in
    let purpose : back.purpose ≡ start.purpose = back_so.purpose ∙ ap (λ (x : Rounds). x.purpose) same ∙ goes.purpose ∙ kept_so.same.purpose in
    let place : back.place ≡ start.place = sym back_so.stood.place ∙ was.place in
    let there : back.left ≡ start.left = sym back_so.stood.left ∙ was.left in
    let began : back.began ≡ start.began = sym back_so.stood.began ∙ was.began in
    let moment : back.moment ≡ start.moment = sym back_so.stood.moment ∙ was.moment in
    record {
      client = client_same (client_of back) (client_of start) sending purpose
          (receivers_stay Returns olds news all (λ x y one. one.receiver)) place
          (ap (queue_of back.sending back.purpose news back.left) place ∙ ap (λ x. queue_of back.sending back.purpose news x start.place) there
          ∙ ap (λ x. queue_of x back.purpose news start.left start.place) sending ∙ ap (λ x. queue_of start.sending x news start.left start.place) purpose
          ∙ returned_queue start.sending start.purpose olds news all start.left asked start.place)
          began moment;
      shape = record {
        range = subst (λ p. IsSendable p) (sym sending) shape.range;
        later = omega (arith, shape.later, began, moment);
        most = omega (arith, all.long, shape.most);
        few = λ k d lt. (let here : k < length olds = omega (arith, lt, all.long) in few_same (slice_index_or olds k d) (slice_index_or news k d) (all.each k d here).receiver (shape.few k d here));
        place = subst (λ x. PlaceFits back.sending x) (sym place) (subst (λ p. PlaceFits p start.place) (sym sending) shape.place);
        left = λ l some.
            let before : start.left ≡ Some l = sym there ∙ some in
            subst (λ x. LeftFits back.sending back.purpose news x l) (sym place)
            (subst (λ x. LeftFits back.sending x news start.place l) (sym purpose)
            (subst (λ x. LeftFits x start.purpose news start.place l) (sym sending)
            (returned_fit start.sending start.purpose olds news start.place l all (asked l before) (shape.left l before))));
        wants = subst (λ x. AllWant back.sending x news) (sym place)
            (subst (λ p. AllWant p start.place news) (sym sending)
            (wants_same start.sending start.place olds news all.long (λ k d lt. (all.each k d lt).receiver) shape.wants));
        active = subst (λ x. AllActive x news) (sym place)
            (active_too start.place olds news all.long (λ k d lt. (all.each k d lt).receiver) shape.active);
      };
    }

-- ---- a whole time event

gone_so : (start kept gone : Rounds) (now : ℕ) → Keeps start kept → GoesOn kept gone (going (client_of kept) now) → going (client_of start) now ≡ sends (client_of gone) (client_of gone).queue
gone_so start kept gone now kept_so goes = ap (λ x. going x now) (sym kept_so.client) ∙ goes.going

pub next_so : (start kept gone new : Rounds) (now : ℕ) → Keeps start kept → GoesOn kept gone (going (client_of kept) now) → SendsOn gone new → client_of new ≡ (going (client_of start) now).next
next_so start kept gone new now kept_so goes sent = sent.client ∙ sym (ap (λ (g : Going). g.next) (gone_so start kept gone now kept_so goes))

packets_one : (start kept gone : Rounds) (now : ℕ) (o : List ℕ) (sents : List Sent) → Keeps start kept → GoesOn kept gone (going (client_of kept) now)
    → sents_of gone.sending gone.purpose sents ≡ map (sent_for gone.sending o) (take 16 (client_of gone).queue)
    → sents_of start.sending start.purpose sents ≡ (due (client_of start) o now).packets
packets_one start kept gone now o sents kept_so goes read =
    let sending : gone.sending ≡ start.sending = goes.sending ∙ kept_so.same.sending in
    let purpose : gone.purpose ≡ start.purpose = goes.purpose ∙ kept_so.same.purpose in
    ap (λ p. sents_of p start.purpose sents) (sym sending) ∙ ap (λ q. sents_of gone.sending q sents) (sym purpose) ∙ read
    ∙ ap (λ p. map (sent_for p o) (take 16 (client_of gone).queue)) sending
    ∙ sym (ap (λ (g : Going). map (sent_for start.sending o) g.items) (gone_so start kept gone now kept_so goes))

pub packets_so : (octets : Option (List ℕ)) (start kept gone : Rounds) (now : ℕ) (sents : List Sent) → Keeps start kept → GoesOn kept gone (going (client_of kept) now)
    → IfSome octets (λ o. sents_of gone.sending gone.purpose sents ≡ map (sent_for gone.sending o) (take 16 (client_of gone).queue))
    → IfSome octets (λ o. sents_of start.sending start.purpose sents ≡ (due (client_of start) o now).packets)
packets_so None start kept gone now sents kept_so goes read = tt
packets_so (Some o) start kept gone now sents kept_so goes read = packets_one start kept gone now o sents kept_so goes read

pub size_so : (start kept gone : Rounds) (turn : Going) (image : Image) → Keeps start kept → GoesOn kept gone turn → HasSize start.sending image → HasSize gone.sending image
size_so start kept gone turn image kept_so goes size = subst (λ p. HasSize p image) (sym (goes.sending ∙ kept_so.same.sending)) size
