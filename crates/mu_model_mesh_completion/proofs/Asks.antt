-- All that a client of a script asks is in the ranges of the grammar.
use Rattle.std.proofs.Common.{◌≡◌, ◌≤◌, ◌<◌, ◌^◌, ◌+◌, ◌*◌, ℕ, zero, suc, Bool, true, false, List, [], ◌∷◌, ◌++◌, length, map, take, drop, refl, sym, ap, subst, ◌∙◌, cond, arith, Option, Some, None}
use Rattle.std.specs.Prelude.{◌==◌, nat_le}
use Rattle.std.specs.List.{AllByRecursion, list_any, find, range_with_len, flat_map}
use Rattle.std.proofs.Math.Nat.{mul-le-mul_left}
use Rattle.std.proofs.lemmas.Bool.{eqb-true}
use Rattle.std.proofs.lemmas.Bool.Decides.{nat_tests}
use Rattle.mu_model_wire.specs.Limits.{most_chunk}
use Rattle.mu_model_image.specs.Sizes.{most_image}
use Rattle.mu_model_image.specs.Pieces.{block_of, block_length, chunk_of, chunk_length}
use Rattle.mu_model_image.specs.Laws.{BlocksAreThoseWithin, BlockHasItsLength, ChunksAreThoseWithin, ChunkHasItsLength}
use Rattle.mu_model_node.specs.BlobMessages.{ChunkTransfer}
use Rattle.mu_model_node.specs.NodeMessages.{Request, OfBlob}
use Rattle.mu_model_client.specs.declared.Sending.{Sending}
use Rattle.mu_model_client.specs.Rows.{Row}
use Rattle.mu_model_client.specs.Answers.{Answer}
use Rattle.mu_model_client.specs.Client.{Purpose, Blob, Update, Step, Check, Start, Information, Transfer, Block, Chunks, Pull, Get, Verify, Apply, Confirm, Cancel, part_of, Receiver, is_pending, misses_chunks, is_begun_for, Item, Sends, Place, Before, At, Verified, Ended, Client, at_moment, row_of, block_total, chunk_total, is_push, round_time}
pub use Rattle.mu_model_client.specs.Places.{StepFits, PlaceFits}
use Rattle.mu_model_client.specs.Lists.{metadata_of, step_message, pull_again, again_message, said_to, said_if, messages, lacking, destinations, chunk_items, missing_of, wanted_of, first_list, chunk_octets, sent_for}
use Rattle.mu_model_client.specs.Told.{told}
use Rattle.mu_model_client.specs.Due as d
use Rattle.mu_model_client.specs.Due.{Due, Next, Go, Rests, Ends, due}
use Rattle.mu_model_client_laws.specs.Laws.{KeepsPlan}
use Rattle.mu_model_client_laws.specs.Wire.{InRange}

pub record Pieces : Type 0 where
  pub blocks_within : BlocksAreThoseWithin
  pub block_long : BlockHasItsLength
  pub chunks_within : ChunksAreThoseWithin
  pub chunk_long : ChunkHasItsLength

-- ---- what is sent

pub record SendingFits (p : Sending) (purpose : Purpose) (image : List ℕ) : Type 0 where
  pub id : p.id < 2 ^ 64
  pub ttl : p.ttl < 2 ^ 8
  pub base : p.base < 2 ^ 16
  pub mode_least : 1 ≤ p.mode
  pub mode_most : p.mode ≤ 2
  pub log_least : 12 ≤ p.log
  pub log_most : p.log ≤ 14
  pub chunk_least : 8 ≤ p.chunk
  pub chunk_most : p.chunk ≤ most_chunk
  pub size_least : 1 ≤ p.size
  pub size_most : p.size ≤ most_image
  pub whole : p.size ≡ length image
  pub metadata : length (metadata_of purpose) ≤ 255

abbrev pub Items : Sending → List ℕ → List Item → Type 0
Items p image items = AllByRecursion (λ (i : Item). InRange (sent_for p image i).1) items

abbrev pub Asked : List (ℕ × Request) → Type 0
Asked packets = AllByRecursion (λ (x : ℕ × Request). InRange x.1) packets

abbrev pub Indexes : List Receiver → Type 0
Indexes rs = AllByRecursion (λ (r : Receiver). r.row.index < 2 ^ 8) rs

-- a client whose image this is
pub record ClientFits (c : Client) (image : List ℕ) : Type 0 where
  pub sending : SendingFits c.sending c.purpose image
  pub indexes : Indexes c.receivers
  pub queue : Items c.sending image c.queue
  pub place : PlaceFits c.sending c.place

-- but for the indexes
pub record DueFits (image : List ℕ) (e : Due) : Type 0 where
  pub sending : SendingFits e.next.sending e.next.purpose image
  pub queue : Items e.next.sending image e.next.queue
  pub place : PlaceFits e.next.sending e.next.place
  pub packets : Asked e.packets

-- ---- numbers

abbrev Small : ℕ → Type 0
Small x = (4096 ≤ x) × (x ≤ 16384)

power_by : (n : ℕ) (a b : Bool) → (n == 12) ≡ a → (n == 13) ≡ b → 12 ≤ n → n ≤ 14 → Small (2 ^ n)
power_by n true b e f h k = let is : n ≡ 12 = eqb-true n 12 e in rw is (omega arith, omega arith)
power_by n false true e f h k = let is : n ≡ 13 = eqb-true n 13 f in rw is (omega arith, omega arith)
power_by n false false e f h k = let is : n ≡ 14 = grind (arith, nat_tests, e, f, h, k) in rw is (omega arith, omega arith)

power : (n : ℕ) → 12 ≤ n → n ≤ 14 → Small (2 ^ n)
power n h k = power_by n (n == 12) (n == 13) refl refl h k

module _ (laws : Pieces) (p : Sending) (purpose : Purpose) (image : List ℕ) (fit : SendingFits p purpose image) where
  block_small : (b : ℕ) → b < block_total p → b < 2 ^ 16
  block_small b h =
      let within : b * 2 ^ p.log < p.size = (laws.blocks_within p.size p.log b).0 h in
      let some = (power p.log fit.log_least fit.log_most).0 in
      let more : b * 4096 ≤ b * 2 ^ p.log = mul-le-mul_left b some in
      omega (arith, fit.size_most)

  block_short : (b : ℕ) → block_length p.size p.log b ≤ 16384
  block_short b = let few = (power p.log fit.log_least fit.log_most).1 in omega (arith, few)

  chunk_fits : (b k : ℕ) → k < chunk_total p b → InRange (OfBlob (ChunkTransfer k (chunk_octets p image b k)))
  chunk_fits b k h =
      let block : List ℕ = block_of image p.log b in
      let long : length block ≡ block_length p.size p.log b = laws.block_long image p.log b ∙ ap (λ n. block_length n p.log b) (sym fit.whole) in
      let own : length (chunk_of block p.chunk k) ≡ chunk_length (block_length p.size p.log b) p.chunk k = laws.chunk_long block p.chunk k ∙ ap (λ n. chunk_length n p.chunk k) long in
      let within : k * p.chunk < block_length p.size p.log b = (laws.chunks_within (block_length p.size p.log b) p.chunk k (omega (arith, fit.chunk_least))).0 h in
      let short = block_short b in
      let more : k * 8 ≤ k * p.chunk = mul-le-mul_left k fit.chunk_least in
      let most = fit.chunk_most in
      (omega arith, omega arith, omega arith)

  -- ---- messages

  joined : (a b : List Item) → Items p image a → Items p image b → Items p image (a ++ b)
  joined [] b h k = k
  joined (x ∷ a) b h k = (h.0, joined a b h.1 k)

  dropped : (n : ℕ) (items : List Item) → Items p image items → Items p image (drop n items)
  dropped zero items h = h
  dropped (suc n) [] h = tt
  dropped (suc n) (x ∷ items) h = dropped n items h.1

  sent : (n : ℕ) (items : List Item) → Items p image items → Asked (map (sent_for p image) (take n items))
  sent zero items h = tt
  sent (suc n) [] h = tt
  sent (suc n) (x ∷ items) h = (h.0, sent n items h.1)

  abbrev IsRight : (Receiver → Option Request) → Type 0
  IsRight message = (r : Receiver) → r.row.index < 2 ^ 8 → Items p image (said_to r.row.address (message r))

  said : (r : Receiver) (request : Option Request) (b : Bool) → Items p image (said_to r.row.address request) → Items p image (said_if r request b)
  said r request true h = h
  said r request false h = tt

  all_said : (message : Receiver → Option Request) → IsRight message → (rs : List Receiver) → Indexes rs → Items p image (messages message rs)
  all_said message right [] h = tt
  all_said message right (r ∷ rs) h = joined _ _ (said r (message r) (is_pending r) (right r h.0)) (all_said message right rs h.1)

  step_right : (step : Step) → StepFits p step → IsRight (step_message p purpose step)
  step_right Check s r h = ((h, fit.metadata), tt)
  step_right Start s r h = (record { ttl = fit.ttl; base = fit.base; id = fit.id; index = h; metadata = fit.metadata }, tt)
  step_right Information s r h = (tt, tt)
  step_right Transfer s r h = (
    (
      fit.id,
      record {
        mode_least = fit.mode_least;
        mode_most = fit.mode_most;
        size_least = fit.size_least;
        size_most = omega (arith, fit.size_most);
        log_least = omega (arith, fit.log_least);
        log_most = omega (arith, fit.log_most);
        mtu_least = omega arith;
        mtu_most = omega arith;
      },
    ),
    tt,
  )
  step_right (Block b) s r h = ((block_small b s, omega (arith, fit.chunk_most)), tt)
  step_right (Chunks b) s r h = tt
  step_right (Pull b) s r h = tt
  step_right (Get b) s r h = (tt, tt)
  step_right Verify s r h = (tt, tt)
  step_right Apply s r h = (tt, tt)
  step_right Confirm s r h = ((h, omega arith), tt)
  step_right Cancel s r h = (tt, tt)

  pulled : (to : ℕ) (b : Bool) → Items p image (said_to to (pull_again b))
  pulled to true = tt
  pulled to false = (tt, tt)

  again_right : (step : Step) → StepFits p step → IsRight (again_message p purpose step)
  again_right (Pull b) s r h = pulled r.row.address r.heard
  again_right Check s r h = step_right Check s r h
  again_right Start s r h = step_right Start s r h
  again_right Information s r h = step_right Information s r h
  again_right Transfer s r h = step_right Transfer s r h
  again_right (Block b) s r h = step_right (Block b) s r h
  again_right (Chunks b) s r h = tt
  again_right (Get b) s r h = step_right (Get b) s r h
  again_right Verify s r h = step_right Verify s r h
  again_right Apply s r h = step_right Apply s r h
  again_right Confirm s r h = step_right Confirm s r h
  again_right Cancel s r h = step_right Cancel s r h

  -- ---- chunks

  chunks_to : (b k : ℕ) (tos : List ℕ) → k < chunk_total p b → Items p image (map (λ to. Sends to b k) tos)
  chunks_to b k [] h = tt
  chunks_to b k (to ∷ tos) h = (chunk_fits b k h, chunks_to b k tos h)

  chunks_in : (b : ℕ) (tos : ℕ → List ℕ) (from n : ℕ) → from + n ≤ chunk_total p b → Items p image (flat_map (λ k. map (λ to. Sends to b k) (tos k)) (range_with_len from n))
  chunks_in b tos from zero h = tt
  chunks_in b tos from (suc n) h = joined _ _ (chunks_to b from (tos from) (omega (arith, h))) (chunks_in b tos (from + 1) n (omega (arith, h)))

  chunks : (b : ℕ) (missing : Receiver → List Bool) (rs : List Receiver) → Items p image (chunk_items p b missing rs)
  chunks b missing rs = chunks_in b (λ k. destinations p (lacking missing rs k)) 0 (chunk_total p b) (omega arith)

  first : (rs : List Receiver) (step : Step) → StepFits p step → Indexes rs → Items p image (first_list p purpose rs step)
  first rs (Chunks b) s h = chunks b missing_of rs
  first rs Check s h = all_said (step_message p purpose Check) (step_right Check s) rs h
  first rs Start s h = all_said (step_message p purpose Start) (step_right Start s) rs h
  first rs Information s h = all_said (step_message p purpose Information) (step_right Information s) rs h
  first rs Transfer s h = all_said (step_message p purpose Transfer) (step_right Transfer s) rs h
  first rs (Block b) s h = all_said (step_message p purpose (Block b)) (step_right (Block b) s) rs h
  first rs (Pull b) s h = all_said (step_message p purpose (Pull b)) (step_right (Pull b) s) rs h
  first rs (Get b) s h = all_said (step_message p purpose (Get b)) (step_right (Get b) s) rs h
  first rs Verify s h = all_said (step_message p purpose Verify) (step_right Verify s) rs h
  first rs Apply s h = all_said (step_message p purpose Apply) (step_right Apply s) rs h
  first rs Confirm s h = all_said (step_message p purpose Confirm) (step_right Confirm s) rs h
  first rs Cancel s h = all_said (step_message p purpose Cancel) (step_right Cancel s) rs h

-- ---- what comes after a step

abbrev NextFits : Sending → Next → Type 0
NextFits p (Go step) = StepFits p step
NextFits p Rests = Unit {0}
NextFits p (Ends part) = Unit {0}

found_test : (test : Bool) (from b most : ℕ) (rest o : Option ℕ) → cond test (Some from) rest ≡ o → o ≡ Some b → from < most → (rest ≡ o → b < most) → b < most
found_test true from b most rest o e is h k = let same : from ≡ b = cc in omega (arith, h)
found_test false from b most rest o e is h k = k e

found_below : (f : ℕ → Bool) (from n most : ℕ) (o : Option ℕ) → find f (range_with_len from n) ≡ o → from + n ≤ most → (b : ℕ) → o ≡ Some b → b < most
found_below f from zero most o e h b is = cc
found_below f from (suc n) most o e h b is =
    found_test (f from) from b most (find f (range_with_len (from + 1) n)) o e is (omega (arith, h)) (λ k. found_below f (from + 1) n most o k (omega (arith, h)) b is)

block_or_fits : (p : Sending) (next : Next) (o : Option ℕ) → NextFits p next → ((b : ℕ) → o ≡ Some b → b < block_total p) → NextFits p (d.block_or next o)
block_or_fits p next None h k = h
block_or_fits p next (Some b) h k = k b refl

blocks_over : (p : Sending) (purpose : Purpose) → NextFits p (d.after_blocks purpose)
blocks_over p Blob = tt
blocks_over p (Update offered apply) = tt

next_block_fits : (p : Sending) (purpose : Purpose) (rs : List Receiver) → NextFits p (d.next_block p purpose rs)
next_block_fits p purpose rs =
    block_or_fits p (d.after_blocks purpose) (d.least_missed p rs) (blocks_over p purpose)
    (found_below (d.is_missed rs) 0 (block_total p) (block_total p) (d.least_missed p rs) refl (omega arith))

chunks_or_fits : (p : Sending) (step : Step) (next : Next) (test : Bool) → StepFits p step → NextFits p next → NextFits p (cond test (Go step) next)
chunks_or_fits p step next true h k = h
chunks_or_fits p step next false h k = k

chunk_step_fits : (p : Sending) (b : ℕ) (push : Bool) → b < block_total p → StepFits p (cond push (Chunks b) (Pull b))
chunk_step_fits p b true h = h
chunk_step_fits p b false h = h

verified_fits : (p : Sending) (b : Bool) → NextFits p (d.after_verify b)
verified_fits p true = tt
verified_fits p false = tt

after_fits : (p : Sending) (purpose : Purpose) (rs : List Receiver) (step : Step) → StepFits p step → NextFits p (d.after p purpose rs step)
after_fits p purpose rs Check h = tt
after_fits p purpose rs Start h = tt
after_fits p purpose rs Information h = tt
after_fits p purpose rs Transfer h = next_block_fits p purpose rs
after_fits p purpose rs (Block b) h = chunks_or_fits p (d.chunk_step p b) (d.next_block p purpose rs) (list_any misses_chunks rs) (chunk_step_fits p b (is_push p) h) (next_block_fits p purpose rs)
after_fits p purpose rs (Chunks b) h = h
after_fits p purpose rs (Pull b) h = next_block_fits p purpose rs
after_fits p purpose rs (Get b) h = chunks_or_fits p (Chunks b) (d.next_block p purpose rs) (list_any misses_chunks rs) h (next_block_fits p purpose rs)
after_fits p purpose rs Verify h = verified_fits p (d.applies purpose)
after_fits p purpose rs Apply h = tt
after_fits p purpose rs Confirm h = tt
after_fits p purpose rs Cancel h = tt

-- ---- a time event

unheard_indexes : (rs : List Receiver) → Indexes (map d.unheard rs) → Indexes rs
unheard_indexes [] h = tt
unheard_indexes (r ∷ rs) h = (h.0, unheard_indexes rs h.1)

module _ (laws : Pieces) (image : List ℕ) where
  abbrev P : Due → Type 0
  P e = Indexes e.next.receivers → DueFits image e

  sends_fit : (c : Client) (items : List Item) → SendingFits c.sending c.purpose image → Items c.sending image items → PlaceFits c.sending c.place → DueFits image (d.sends c image items)
  sends_fit c items s h k = record {
    sending = s;
    queue = dropped laws c.sending c.purpose image s 16 items h;
    place = k;
    packets = sent laws c.sending c.purpose image s 16 items h;
  }

  nothing_fits : (c : Client) → SendingFits c.sending c.purpose image → Items c.sending image c.queue → PlaceFits c.sending c.place → DueFits image (d.sends_nothing c)
  nothing_fits c s h k = record { sending = s; queue = h; place = k; packets = tt }

  begins_fit : (c : Client) (step : Step) (b : Bool) → SendingFits c.sending c.purpose image → StepFits c.sending step → P (d.begins_if c image step b)
  begins_fit c step true s h i = sends_fit (d.in_step c step) (d.first_of c step) s (first laws c.sending c.purpose image s (d.in_step c step).receivers step h i) h
  begins_fit c step false s h i = nothing_fits (d.ended (part_of step) c) s tt tt

  goes_fit : (c : Client) (next : Next) → SendingFits c.sending c.purpose image → NextFits c.sending next → P (d.goes_on c image next)
  goes_fit c (Go step) s h i = begins_fit c step (list_any (is_begun_for step) c.receivers) s h i
  goes_fit c Rests s h i = nothing_fits (record c { place = Verified; queue = [] }) s tt tt
  goes_fit c (Ends part) s h i = nothing_fits (d.ended part c) s tt tt

  next_fits : (c : Client) (step : Step) → SendingFits c.sending c.purpose image → StepFits c.sending step → P (d.next_step c image step)
  next_fits c step s h = goes_fit c (d.after c.sending c.purpose c.receivers step) s (after_fits c.sending c.purpose c.receivers step h)

  round_fits : (c : Client) (step : Step) (b : Bool) → SendingFits c.sending c.purpose image → StepFits c.sending step → PlaceFits c.sending c.place → P (d.round_or_next c image step b)
  round_fits c step true s h k i =
      sends_fit (record c { receivers = map d.unheard c.receivers; began = c.moment }) (messages (again_message c.sending c.purpose step) c.receivers) s
      (all_said laws c.sending c.purpose image s (again_message c.sending c.purpose step) (again_right laws c.sending c.purpose image s step h) c.receivers (unheard_indexes c.receivers i)) k
  round_fits c step false s h k i = next_fits c step s h i

  over_fits : (c : Client) (step : Step) (b : Bool) → SendingFits c.sending c.purpose image → Items c.sending image c.queue → StepFits c.sending step → PlaceFits c.sending c.place → P (d.if_round_over c image step b)
  over_fits c step true s q h k i = round_fits (d.after_counting c step) step (list_any is_pending (d.after_counting c step).receivers) s h k i
  over_fits c step false s q h k i = nothing_fits c s q k

  by_round_fits : (c : Client) (step : Step) → SendingFits c.sending c.purpose image → Items c.sending image c.queue → StepFits c.sending step → PlaceFits c.sending c.place → P (d.by_round c image step)
  by_round_fits c step s q h k = over_fits c step (nat_le (c.began + round_time c.sending) c.moment) s q h k

  wanted_fits : (c : Client) (step : Step) (items : List Item) → SendingFits c.sending c.purpose image → Items c.sending image c.queue → StepFits c.sending step → PlaceFits c.sending c.place → Items c.sending image items → P (d.by_wanted c image step items)
  wanted_fits c step [] s q h k m i = by_round_fits c step s q h k i
  wanted_fits c step (item ∷ items) s q h k m i = sends_fit (record c { receivers = map d.unwanted c.receivers }) (item ∷ items) s m k

  sent_fits : (c : Client) (step : Step) → SendingFits c.sending c.purpose image → Items c.sending image c.queue → StepFits c.sending step → PlaceFits c.sending c.place → P (d.list_is_sent c image step)
  sent_fits c (Pull b) s q h k = wanted_fits c (Pull b) (chunk_items c.sending b wanted_of c.receivers) s q h k (chunks laws c.sending c.purpose image s b wanted_of c.receivers)
  sent_fits c Check s q h k = by_round_fits c Check s q h k
  sent_fits c Start s q h k = by_round_fits c Start s q h k
  sent_fits c Information s q h k = by_round_fits c Information s q h k
  sent_fits c Transfer s q h k = by_round_fits c Transfer s q h k
  sent_fits c (Block b) s q h k = by_round_fits c (Block b) s q h k
  sent_fits c (Chunks b) s q h k = by_round_fits c (Chunks b) s q h k
  sent_fits c (Get b) s q h k = by_round_fits c (Get b) s q h k
  sent_fits c Verify s q h k = by_round_fits c Verify s q h k
  sent_fits c Apply s q h k = by_round_fits c Apply s q h k
  sent_fits c Confirm s q h k = by_round_fits c Confirm s q h k
  sent_fits c Cancel s q h k = by_round_fits c Cancel s q h k

  list_fits : (c : Client) (step : Step) (items : List Item) → SendingFits c.sending c.purpose image → Items c.sending image c.queue → Items c.sending image items → StepFits c.sending step → PlaceFits c.sending c.place → P (d.by_list c image step items)
  list_fits c step [] s q m h k i = sent_fits c step s q h k i
  list_fits c step (item ∷ items) s q m h k i = sends_fit c (item ∷ items) s m k

  step_fits : (c : Client) (step : Step) (b : Bool) → SendingFits c.sending c.purpose image → Items c.sending image c.queue → StepFits c.sending step → PlaceFits c.sending c.place → P (d.by_step c image step b)
  step_fits c step true s q h k = next_fits c step s h
  step_fits c step false s q h k = list_fits c step c.queue s q q h k

  place_fits : (c : Client) (place : Place) → SendingFits c.sending c.purpose image → Items c.sending image c.queue → PlaceFits c.sending place → PlaceFits c.sending c.place → P (d.by_place c image place)
  place_fits c (Before step) s q h k i = begins_fit c step (list_any (is_begun_for step) c.receivers) s h i
  place_fits c (At step) s q h k i = step_fits c step (d.is_done c step) s q h k i
  place_fits c Verified s q h k i = nothing_fits c s q k
  place_fits c (Ended part) s q h k i = nothing_fits c s q k

-- ---- indexes stay

abbrev AreSmall : List ℕ → Type 0
AreSmall is = AllByRecursion (λ i. i < 2 ^ 8) is

said_small : (rs : List Receiver) → Indexes rs → AreSmall (map (λ (row : Row). row.index) (map row_of rs))
said_small [] h = tt
said_small (r ∷ rs) h = (h.0, said_small rs h.1)

small_said : (rs : List Receiver) → AreSmall (map (λ (row : Row). row.index) (map row_of rs)) → Indexes rs
small_said [] h = tt
small_said (r ∷ rs) h = (h.0, small_said rs h.1)

indexes_kept : (before after : List Receiver) → map (λ (row : Row). row.index) (map row_of after) ≡ map (λ (row : Row). row.index) (map row_of before) → Indexes before → Indexes after
indexes_kept before after e h = small_said after (subst AreSmall (sym e) (said_small before h))

-- ---- events

pub record DueAsks (c : Client) (image : List ℕ) (now : ℕ) : Type 0 where
  pub next : ClientFits (due c image now).next image
  pub packets : Asked (due c image now).packets

pub due_fits : Pieces → KeepsPlan → (c : Client) (image : List ℕ) (now : ℕ) → ClientFits c image → DueAsks c image now
due_fits laws plans c image now h =
    let indexes : Indexes (due c image now).next.receivers = indexes_kept c.receivers (due c image now).next.receivers (plans.dues c image now).indexes h.indexes in
    let fit : DueFits image (due c image now) = place_fits laws image (at_moment c now) c.place h.sending h.queue h.place h.place indexes in
    record { next = record { sending = fit.sending; indexes = indexes; queue = fit.queue; place = fit.place }; packets = fit.packets }

pub told_fits : KeepsPlan → (c : Client) (image : List ℕ) (from : ℕ) (answer : Answer) (now : ℕ) → ClientFits c image → ClientFits (told c from answer now) image
told_fits plans c image from answer now h = record {
  sending = h.sending;
  indexes = indexes_kept c.receivers (told c from answer now).receivers (plans.tells c from answer now).indexes h.indexes;
  queue = h.queue;
  place = h.place;
}
