-- A packet from a receiver: what it keeps, and all receivers after it.
use Rattle.std.proofs.Common.{◌≡◌, ◌<◌, ℕ, List, [], ◌∷◌, refl, sym, ap, subst, ◌∙◌, true, false, Bool, Option, Some, None, map, take, drop, length, arith}
use Rattle.std.specs.Prelude.{slice_index_or, max, ◌++◌, ◌==◌, ◌&&◌, ◌||◌, not, nat_le, nat_eq, if◌then◌else◌, replicate}
use Rattle.std.specs.List.{list_any, range_with_len}
use Rattle.std.proofs.Math.Path.{fun_ext}
use Rattle.std.proofs.lemmas.Bool.{false≢true}
use Rattle.std.proofs.lemmas.Bool.Decides.{nat_tests}
use Rattle.std.proofs.lemmas.List.{length-replicate}
use Rattle.std.proofs.lemmas.List.FromFn.{length-map-range_with_len}
use Rattle.mu_model_wire.specs.Reports.{has, members, field_length, field_bit}
use Rattle.mu_model_wire.specs.declared.reports.Report.{Report}
use Rattle.mu_model_wire.specs.declared.reports.Report.TheVariants.{All, Nothing, Bits, List as Listed}
use Rattle.mu_model_image.specs.declared.Meta.{Meta}
use Rattle.mu_model_image.specs.Meta.{firmware_id, own_company}
use Rattle.mu_model_node.specs.UpdateMessages.{UpdateReply}
use Rattle.mu_model_client.specs.declared.Sending.{Sending}
use Rattle.mu_model_client.specs.Rows.{row_after}
use Rattle.mu_model_client.specs.declared.Dropped.TheVariants.{Barren}
use Rattle.mu_model_client.specs.Sets.{named_set, set_of, no_bit_from, has_some, all_below}
use Rattle.mu_model_client.specs.Answers.{Answer, FromUpdate, FromBlob, BlobAnswer, InformationIs, TransferIs, BlockIs, PartIs}
use Rattle.mu_model_client.specs.Client.{Receiver, Purpose, Blob, Update, Step, Pull, Get, Place, At, Client, chunk_total, stands_active}
use Rattle.mu_model_client.specs.Told.{answered, dropped, refused_transfer, with_chunks, wants, hears, part_told, pull_told, chunks_in, on_pull, on_get, get_told, barren_after, step_told, if_pending, place_told, row_told, row_counted, is_present, told, told_if}
use Rattle.mu_receivers.specs.declared.slot.Slot.{Slot}
use Rattle.mu_receivers.specs.Receivers.{receiver_of, receivers_of}
use Rattle.mu_receivers.specs.Slots.{Each}
use Rattle.mu_told.specs.Told.{IsTold, IsSendable, WantsOf}
use Rattle.mu_rounds.specs.After.{PlaceFits}
use Rattle.mu_rounds.specs.Rounds.{client_of, IsActiveWhere, HasShape}
use Rattle.mu_told.specs.Answers.{blob_answer_of}
use Rattle.mu_told.specs.declared.answer.BlobAnswer.{BlobAnswer as BlobAnswerHere}
use Rattle.mu_rounds.specs.declared.told.Heard.{Heard}
use Rattle.mu_rounds.specs.declared.told.Heard.TheVariants as heard
use Rattle.mu_rounds.specs.Told.{answer_of, told_at, OwnIs, Listens, ListensFor, CanAnswer, AllCanAnswer}
use Rattle.mu_rounds.specs.declared.rounds.Rounds.{Rounds}
use Rattle.mu_rounds.specs.declared.told.Listener.{Listener}
use Rattle.mu_rounds.proofs.Lists.{each_written, receivers_are}
use Rattle.mu_rounds.proofs.Stepping.{client_same, nothing_wanted}
use Rattle.mu_rounds.proofs.Timing.{queue_kept, fits_kept}

-- ---- one after the other

pub told_then : (f g : Receiver → Receiver) (a b c : Slot) → IsTold f a b → IsTold g b c → IsTold (λ r. g (f r)) a c
told_then f g a b c one two = record {
  receiver = two.receiver ∙ ap g one.receiver;
  list = record {
    address = two.list.address ∙ one.list.address;
    index = two.list.index ∙ one.list.index;
    message = two.list.message ∙ one.list.message;
    chunks = two.list.chunks ∙ one.list.chunks;
  };
  few = λ few. two.few (one.few few);
}

pub told_as : (f g : Receiver → Receiver) (a b : Slot) → IsTold f a b → f (receiver_of a) ≡ g (receiver_of a) → IsTold g a b
told_as f g a b one e = record { receiver = one.receiver ∙ e; list = one.list; few = one.few }

told_nothing : (f : Receiver → Receiver) (a : Slot) → f (receiver_of a) ≡ receiver_of a → IsTold f a a
told_nothing f a e = record {
  receiver = sym e;
  list = record { address = refl; index = refl; message = refl; chunks = refl };
  few = λ few. few;
}

-- ---- a row counts

blob_counts : (p : Sending) (purpose : Purpose) (answer : BlobAnswer) (r : Receiver) → row_told p (FromBlob answer) r purpose ≡ r
blob_counts p Blob answer r = refl
blob_counts p (Update offered apply) answer r = refl

pub blob_counts_nothing : (p : Sending) (purpose : Purpose) (h : Heard) (x : BlobAnswerHere) (count : ℕ) (more : List (List ℕ)) (s : Slot) → h ≡ heard.Blob x
    → IsTold (λ r. row_told p (answer_of h count more) r purpose) s s
blob_counts_nothing p purpose h x count more s e =
    subst (λ y. IsTold (λ r. row_told p (answer_of y count more) r purpose) s s) (sym e)
    (told_nothing (λ r. row_told p (FromBlob (blob_answer_of x)) r purpose) s (blob_counts p purpose (blob_answer_of x) (receiver_of s)))

blob_isnt : (x : Meta) (y : Bool) → Blob ≡ Update x y → ⊥
blob_isnt x y e = cc

pub offered_counts : (p : Sending) (purpose : Purpose) (x : Meta) (y : Bool) (own : List ℕ) (reply : UpdateReply) (a b : Slot) → purpose ≡ Update x y → OwnIs purpose own
    → ((offered : Meta) → own ≡ firmware_id own_company offered → IsTold (λ r. record r { row = row_after p.id offered r.row (FromUpdate reply) }) a b)
    → IsTold (λ r. row_told p (FromUpdate reply) r purpose) a b
offered_counts p Blob x y own reply a b is same told = absurd (blob_isnt x y is)
offered_counts p (Update offered apply) x y own reply a b is same told = told offered same

pub row_counts : (p : Sending) (purpose : Purpose) (answer : Answer) (a b : Slot) (x y : Bool) → x ≡ y → x ≡ true → IsTold (λ r. row_told p answer r purpose) a b
    → IsTold (λ r. row_counted p answer r purpose y) a b
row_counts p purpose answer a b x y is holds one = subst (λ z. IsTold (λ r. row_counted p answer r purpose z) a b) (sym holds ∙ is) one

pub pending_answers : (p : Sending) (answer : Answer) (place : Place) (step : Step) (a b : Slot) → place ≡ At step → a.pending ≡ true → IsTold (λ r. step_told p answer r step) a b
    → IsTold (λ r. place_told p answer r place) a b
pending_answers p answer place step a b at pending one =
    subst (λ x. IsTold (λ r. place_told p answer r x) a b) (sym at)
    (told_as (λ r. step_told p answer r step) (λ r. place_told p answer r (At step)) a b one (sym (ap (if_pending p answer step (receiver_of a)) pending)))

same_number : (k : ℕ) → (k == k) ≡ true
same_number k = grind (arith, nat_tests)

pub own_hears : (p : Sending) (purpose : Purpose) (place : Place) (answer : Answer) (from : ℕ) (a b : Slot) → a.address ≡ from → IsTold (λ r. told_at p purpose place answer r true) a b
    → IsTold (λ r. told_at p purpose place answer r (r.row.address == from)) a b
own_hears p purpose place answer from a b same one =
    told_as (λ r. told_at p purpose place answer r true) (λ r. told_at p purpose place answer r (r.row.address == from)) a b one
    (ap (told_at p purpose place answer (receiver_of a)) (sym (ap (λ x. x == from) same ∙ same_number from)))

-- all that a step looks at is as before
pub record KeepsStep (old new : Receiver) : Type 0 where
  pub pending : new.pending ≡ old.pending
  pub standing : new.standing ≡ old.standing
  pub wanted : new.wanted ≡ old.wanted

row_keeps : (p : Sending) (answer : Answer) (r : Receiver) (purpose : Purpose) (x : Bool) → KeepsStep r (row_counted p answer r purpose x)
row_keeps p answer r Blob true = record { pending = refl; standing = refl; wanted = refl }
row_keeps p answer r (Update offered apply) true = record { pending = refl; standing = refl; wanted = refl }
row_keeps p answer r purpose false = record { pending = refl; standing = refl; wanted = refl }

wants_kept : (n : ℕ) (old new : Receiver) → KeepsStep old new → WantsOf n old → WantsOf n new
wants_kept n old new same wants = subst (λ (w : List Bool). 0 < length w → length w ≡ n) (sym same.wanted) wants

active_kept : (old new : Receiver) → KeepsStep old new → IsActiveWhere old → IsActiveWhere new
active_kept old new same active pending = ap stands_active same.standing ∙ active (sym same.pending ∙ pending)

pub can_still : (p : Sending) (place : Place) (purpose : Purpose) (answer : Answer) (x : Bool) (old new : Slot) → CanAnswer p place old
    → IsTold (λ r. row_counted p answer r purpose x) old new → CanAnswer p place new
can_still p place purpose answer x old new can one = record {
  few = one.few can.few;
  wants = λ b at.
      subst (λ (r : Receiver). WantsOf (chunk_total p b) r) (sym one.receiver)
      (wants_kept (chunk_total p b) (receiver_of old) (row_counted p answer (receiver_of old) purpose x) (row_keeps p answer (receiver_of old) purpose x) (can.wants b at));
  active = λ b at.
      subst IsActiveWhere (sym one.receiver)
      (active_kept (receiver_of old) (row_counted p answer (receiver_of old) purpose x) (row_keeps p answer (receiver_of old) purpose x) (can.active b at));
}

-- ---- sets that are named

no_set : (set : List Bool) → None ≡ Some set → ⊥
no_set set e = cc

same_set : (a b : List Bool) → Some a ≡ Some b → a ≡ b
same_set a b e = cc

field_long : (n : ℕ) (x : Bool) (f : ℕ → Bool) (set : List Bool) → (if x then Some (map f (range_with_len 0 n)) else None) ≡ Some set → length set ≡ n
field_long n true f set e =
    ap (length {A = Bool}) (sym (same_set (map f (range_with_len 0 n)) set e)) ∙ length-map-range_with_len f 0 n
field_long n false f set e = absurd (no_set set e)

named_long : (n : ℕ) (report : Report) (set : List Bool) → named_set n report ≡ Some set → length set ≡ n
named_long n All set e = ap (length {A = Bool}) (sym (same_set (replicate n true) set e)) ∙ length-replicate n true
named_long n Nothing set e = ap (length {A = Bool}) (sym (same_set (replicate n false) set e)) ∙ length-replicate n false
named_long n (Bits octets) set e = field_long n ((length octets.items == field_length n) && no_bit_from n octets.items) (field_bit octets.items) set e
named_long n (Listed numbers) set e = field_long n (all_below n numbers.items) (λ k. list_any (nat_eq k) numbers.items) set e

-- ---- pull: what is wanted has its bound

wants_union : (n : ℕ) (numbers : List ℕ) (r : Receiver) → WantsOf n (wants n numbers r)
wants_union n numbers r some =
    length-map-range_with_len (λ k. has (set_of n numbers) k || has r.wanted k) 0 (length (set_of n numbers))
    ∙ length-map-range_with_len (λ k. list_any (nat_eq k) numbers) 0 n

-- cases on what is kept by `if`
wants_either : (n : ℕ) (x : Bool) (a b : Receiver) → WantsOf n a → WantsOf n b → WantsOf n (if x then a else b)
wants_either n true a b one two = one
wants_either n false a b one two = two

part_wants : (n b : ℕ) (r : Receiver) (chunks : List ℕ) → WantsOf n (part_told n b r chunks)
part_wants n b r [] = nothing_wanted n (part_told n b r []) refl
part_wants n b r (k ∷ ks) = wants_union n (k ∷ ks) (hears r)

pull_wants : (n b : ℕ) (r : Receiver) (found : Option (List Bool)) → ((set : List Bool) → found ≡ Some set → length set ≡ n) → WantsOf n r → WantsOf n (pull_told b r found)
pull_wants n b r None long kept = kept
pull_wants n b r (Some chunks) long kept =
    wants_either n (has_some chunks) (wants (length chunks) (take 16 (members chunks)) (with_chunks b chunks (hears r))) (answered (with_chunks b chunks (hears r)))
    (subst (λ m. WantsOf m (wants (length chunks) (take 16 (members chunks)) (with_chunks b chunks (hears r)))) (long chunks refl)
    (wants_union (length chunks) (take 16 (members chunks)) (with_chunks b chunks (hears r))))
    (nothing_wanted n (answered (with_chunks b chunks (hears r))) refl)

found_long : (p : Sending) (b : ℕ) (x : Bool) (report : Report) (set : List Bool) → (if x then named_set (chunk_total p b) report else None) ≡ Some set → length set ≡ chunk_total p b
found_long p b true report set e = named_long (chunk_total p b) report set e
found_long p b false report set e = absurd (no_set set e)

on_pull_wants : (p : Sending) (b : ℕ) (r : Receiver) (answer : BlobAnswer) → WantsOf (chunk_total p b) r → WantsOf (chunk_total p b) (on_pull p b r answer)
on_pull_wants p b r (InformationIs limits) kept = kept
on_pull_wants p b r (TransferIs status phase id parameters blocks) kept = kept
on_pull_wants p b r (BlockIs status block size report) kept =
    wants_either (chunk_total p b) (not (status == 0)) (refused_transfer (Pull b) status r) (pull_told b r (chunks_in p b block size report))
    (nothing_wanted (chunk_total p b) (refused_transfer (Pull b) status r) refl)
    (pull_wants (chunk_total p b) b r (chunks_in p b block size report) (λ set e. found_long p b ((block == b) && (size == p.chunk)) report set e) kept)
on_pull_wants p b r (PartIs chunks) kept =
    wants_either (chunk_total p b) (all_below (chunk_total p b) chunks) (part_told (chunk_total p b) b r chunks) r
    (part_wants (chunk_total p b) b r chunks) kept

step_wants : (p : Sending) (b : ℕ) (answer : Answer) (r : Receiver) → WantsOf (chunk_total p b) r → WantsOf (chunk_total p b) (step_told p answer r (Pull b))
step_wants p b (FromUpdate reply) r kept = kept
step_wants p b (FromBlob answer) r kept = on_pull_wants p b r answer kept

pending_wants : (p : Sending) (b : ℕ) (answer : Answer) (r : Receiver) (x : Bool) → WantsOf (chunk_total p b) r → WantsOf (chunk_total p b) (if_pending p answer (Pull b) r x)
pending_wants p b answer r true kept = step_wants p b answer r kept
pending_wants p b answer r false kept = kept

told_wants : (p : Sending) (purpose : Purpose) (b : ℕ) (answer : Answer) (r : Receiver) (x : Bool) → WantsOf (chunk_total p b) r → WantsOf (chunk_total p b) (told_at p purpose (At (Pull b)) answer r x)
told_wants p purpose b answer r true kept =
    let counted = row_counted p answer r purpose (is_present (At (Pull b))) in
    pending_wants p b answer counted counted.pending (wants_kept (chunk_total p b) r counted (row_keeps p answer r purpose (is_present (At (Pull b)))) kept)
told_wants p purpose b answer r false kept = kept

-- ---- get: who is pending is active

active_either : (x : Bool) (a b : Receiver) → IsActiveWhere a → IsActiveWhere b → IsActiveWhere (if x then a else b)
active_either true a b one two = one
active_either false a b one two = two

not_pending : (r : Receiver) → r.pending ≡ false → IsActiveWhere r
not_pending r none pending = absurd (false≢true (sym none ∙ pending))

get_active : (b : ℕ) (r : Receiver) (found : Option (List Bool)) → IsActiveWhere r → IsActiveWhere (get_told b r found)
get_active b r None active = active
get_active b r (Some chunks) active =
    let barren = barren_after r chunks in
    let after = answered (with_chunks b chunks r) in
    active_either (nat_le 5 barren) (dropped Barren (record after { barren = barren })) (record after { barren = barren })
    (not_pending (dropped Barren (record after { barren = barren })) refl) (not_pending (record after { barren = barren }) refl)

on_get_active : (p : Sending) (b : ℕ) (r : Receiver) (answer : BlobAnswer) → IsActiveWhere r → IsActiveWhere (on_get p b r answer)
on_get_active p b r (InformationIs limits) active = active
on_get_active p b r (TransferIs status phase id parameters blocks) active = active
on_get_active p b r (PartIs chunks) active = active
on_get_active p b r (BlockIs status block size report) active =
    active_either (not (status == 0)) (refused_transfer (Get b) status r) (get_told b r (chunks_in p b block size report))
    (not_pending (refused_transfer (Get b) status r) refl) (get_active b r (chunks_in p b block size report) active)

step_active : (p : Sending) (b : ℕ) (answer : Answer) (r : Receiver) → IsActiveWhere r → IsActiveWhere (step_told p answer r (Get b))
step_active p b (FromUpdate reply) r active = active
step_active p b (FromBlob answer) r active = on_get_active p b r answer active

pending_active : (p : Sending) (b : ℕ) (answer : Answer) (r : Receiver) (x : Bool) → IsActiveWhere r → IsActiveWhere (if_pending p answer (Get b) r x)
pending_active p b answer r true active = step_active p b answer r active
pending_active p b answer r false active = active

told_active : (p : Sending) (purpose : Purpose) (b : ℕ) (answer : Answer) (r : Receiver) (x : Bool) → IsActiveWhere r → IsActiveWhere (told_at p purpose (At (Get b)) answer r x)
told_active p purpose b answer r true active =
    let counted = row_counted p answer r purpose (is_present (At (Get b))) in
    pending_active p b answer counted counted.pending (active_kept r counted (row_keeps p answer r purpose (is_present (At (Get b)))) active)
told_active p purpose b answer r false active = active

-- ---- all receivers

pub can_all : (r : Rounds) (l : Listener) (held : List Slot) → HasShape r → ListensFor r l → held ≡ r.slots.items → AllCanAnswer l.sending l.place held
can_all r l held shape listens same =
    subst (λ (s : List Slot). AllCanAnswer l.sending l.place s) (sym same)
    (subst (λ p. AllCanAnswer p l.place r.slots.items) (sym listens.sending)
    (subst (λ x. AllCanAnswer r.sending x r.slots.items) (sym listens.place)
    (λ k d lt. record { few = shape.few k d lt; wants = λ b at. shape.wants b k d at lt; active = λ b at. shape.active b k d at lt })))

pub listens_so : (r : Rounds) (l : Listener) → HasShape r → ListensFor r l → Listens l
listens_so r l shape listens = record {
  range = subst (λ p. IsSendable p) (sym listens.sending) shape.range;
  place = subst (λ x. PlaceFits l.sending x) (sym listens.place) (subst (λ p. PlaceFits p r.place) (sym listens.sending) shape.place);
  own = subst (λ x. OwnIs x l.own.items) (sym listens.purpose) listens.own;
}

told_is : (c : Client) (answer : Answer) (r : Receiver) (x : Bool) → told_at c.sending c.purpose c.place answer r x ≡ told_if c answer r x
told_is c answer r true = refl
told_is c answer r false = refl

told_map : (r : Rounds) (l : Listener) (answer : Answer) (from : ℕ) → ListensFor r l
    → map (λ x. told_at l.sending l.purpose l.place answer x (x.row.address == from)) (receivers_of r.slots.items)
    ≡ map (λ x. told_if (client_of r) answer x (x.row.address == from)) (receivers_of r.slots.items)
told_map r l answer from listens =
    ap (λ p. map (λ x. told_at p l.purpose l.place answer x (x.row.address == from)) (receivers_of r.slots.items)) listens.sending
    ∙ ap (λ q. map (λ x. told_at r.sending q l.place answer x (x.row.address == from)) (receivers_of r.slots.items)) listens.purpose
    ∙ ap (λ a. map (λ x. told_at r.sending r.purpose a answer x (x.row.address == from)) (receivers_of r.slots.items)) listens.place
    ∙ ap (λ f. map f (receivers_of r.slots.items)) (fun_ext (λ x. told_is (client_of r) answer x (x.row.address == from)))

-- what a packet made of one of the receivers
abbrev pub Tells : Listener → Answer → ℕ → Slot → Slot → Type 0
Tells l answer from = IsTold (λ r. told_at l.sending l.purpose l.place answer r (r.row.address == from))

one_told : (r : Rounds) (l : Listener) (answer : Answer) (from : ℕ) (place : Place) (old new : Slot) → ListensFor r l → r.place ≡ place → Tells l answer from old new
    → receiver_of new ≡ told_at r.sending l.purpose place answer (receiver_of old) (old.address == from)
one_told r l answer from place old new listens at one =
    one.receiver ∙ ap (λ p. told_at p l.purpose l.place answer (receiver_of old) (old.address == from)) listens.sending
    ∙ ap (λ x. told_at r.sending l.purpose x answer (receiver_of old) (old.address == from)) (listens.place ∙ at)

pub heard_whole : (old : Rounds) (l : Listener) (held news : List Slot) (m now from : ℕ) (answer : Answer) → ListensFor old l → held ≡ old.slots.items
    → Each (Tells l answer from) held news → m ≡ max old.moment now
    → client_of (record old { slots = record { items = take (length old.slots.items) (news ++ drop (length news) old.slots.items) }; moment = m }) ≡ told (client_of old) from answer now
heard_whole old l held news m now from answer listens same all later =
    let olds = old.slots.items in
    let items : List Slot = take (length olds) (news ++ drop (length news) olds) in
    let each : Each (Tells l answer from) olds items = each_written (Tells l answer from) olds held news same all in
    client_same (client_of (record old { slots = record { items = items }; moment = m })) (told (client_of old) from answer now) refl refl
    (receivers_are (Tells l answer from) (λ x. told_at l.sending l.purpose l.place answer x (x.row.address == from)) olds items each (λ x y one. one.receiver)
    ∙ told_map old l answer from listens)
    refl
    (queue_kept old.sending old.purpose (Tells l answer from) olds items each (λ x y one. one.list) old.left old.place)
    refl later

pub heard_shape : (old : Rounds) (l : Listener) (held news : List Slot) (m now from : ℕ) (answer : Answer) → HasShape old → ListensFor old l → held ≡ old.slots.items
    → Each (Tells l answer from) held news → m ≡ max old.moment now
    → HasShape (record old { slots = record { items = take (length old.slots.items) (news ++ drop (length news) old.slots.items) }; moment = m })
heard_shape old l held news m now from answer shape listens same all later =
    let olds = old.slots.items in
    let items : List Slot = take (length olds) (news ++ drop (length news) olds) in
    let each : Each (Tells l answer from) olds items = each_written (Tells l answer from) olds held news same all in
    record {
      range = shape.range;
      later = omega (arith, shape.later, later);
      most = omega (arith, each.long, shape.most);
      few = λ k d lt. (let here : k < length olds = omega (arith, lt, each.long) in (each.each k d here).few (shape.few k d here));
      place = shape.place;
      left = λ x some. fits_kept old.sending old.purpose (Tells l answer from) olds items each (λ a b one. one.list) old.place x (shape.left x some);
      wants = λ b k d at lt.
          let here : k < length olds = omega (arith, lt, each.long) in
          let was = slice_index_or olds k d in
          subst (λ (r : Receiver). WantsOf (chunk_total old.sending b) r) (sym (one_told old l answer from (At (Pull b)) was (slice_index_or items k d) listens at (each.each k d here)))
          (told_wants old.sending l.purpose b answer (receiver_of was) (was.address == from) (shape.wants b k d at here));
      active = λ b k d at lt.
          let here : k < length olds = omega (arith, lt, each.long) in
          let was = slice_index_or olds k d in
          subst IsActiveWhere (sym (one_told old l answer from (At (Get b)) was (slice_index_or items k d) listens at (each.each k d here)))
          (told_active old.sending l.purpose b answer (receiver_of was) (was.address == from) (shape.active b k d at here));
    }
