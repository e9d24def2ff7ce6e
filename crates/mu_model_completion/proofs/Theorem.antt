-- Completion without loss, in push.
use Rattle.std.proofs.Common.{◌≡◌, ◌⊎◌, ◌<◌, ◌≤◌, ◌+◌, ◌-◌, ◌*◌, ◌==◌, ℕ, zero, suc, List, [], ◌∷◌, ◌++◌, refl, sym, ap, ◌∙◌, subst, true, false, Bool, arith, map, length, take, drop}
use Rattle.std.specs.Prelude.{◌≢◌, if◌then◌else◌}
use Rattle.std.specs.List.{flat_map, range_with_len, AllByRecursion}
use Rattle.std.proofs.lemmas.Bool.{eq-eqb}
use Rattle.std.proofs.lemmas.Bool.Decides.{nat_tests}
use Rattle.std.proofs.lemmas.Nat.{mul-le}
use Rattle.std.proofs.Math.Nat.{mul-le-mul_left, mul-le-mul_right}
use Rattle.mu_model_image.specs.declared.Meta.{Meta}
use Rattle.mu_model_image.specs.Laws.{MetaIsReadBack, FitIsTested}
use Rattle.mu_model_wire.specs.Reports.{every_number}
use Rattle.mu_model_node.specs.declared.NodeConfig.{NodeConfig}
use Rattle.mu_model_client.specs.declared.Sending.{Sending}
use Rattle.mu_model_client.specs.declared.Plan.{Plan}
use Rattle.mu_model_client.specs.Client.{Receiver, Item, Sends, At, Transfer, Chunks, block_total, chunk_total}
use Rattle.mu_model_client.specs.Lists as l
use Rattle.mu_model_client.specs.Lists.{chunk_items, missing_of, lacking}
use Rattle.mu_model_client_laws.specs.Laws.{KeepsPlan, FieldsAreRead}
use Rattle.mu_model_completion.specs.Turn.{Member, settle}
use Rattle.mu_model_completion.specs.Completion.{Completed, CanBegin, sixteens, copies, push_turns}
use Rattle.mu_model_completion.proofs.Planned as pl
use Rattle.mu_model_completion.proofs.Planned.{misses, no_more, some_chunk, has_every}
use Rattle.mu_model_completion.proofs.Pairs.{Pair, receiver_in}
use Rattle.mu_model_completion.proofs.Stations.{Within, Station, first_items, turn_in}
use Rattle.mu_model_completion.proofs.Asking.{Apart, Misses, configs}
use Rattle.mu_model_completion.proofs.First.{Good, Pushes, Row}
use Rattle.mu_model_completion.proofs.Pieces.{lacking_from}
use Rattle.mu_model_completion.proofs.Blocks.{Tiles, chunked_longer}
use Rattle.mu_model_completion.proofs.Sixteens.{Reaches, begin_chunks}
use Rattle.mu_model_completion.proofs.Alone.{own, Often, often_first, Waits, begin_alone}
use Rattle.mu_model_completion.proofs.Each.{row_of as row_of_, rows_of, addresses, rows_length, each_once, own_rows, often_rows, first_own, all_apt, sorted_rows}
use Rattle.mu_model_completion.proofs.Chunked.{Beginning, Chunking, ChunksSent}
use Rattle.mu_model_completion.proofs.Middle.{all_blocks}
use Rattle.mu_model_completion.proofs.Whole as w
use Rattle.mu_model_completion.proofs.Whole.{all_reached}

-- ---- the lists of chunks

-- one item for each number
each_one : {A : Type 0} (f : ℕ → List A) (g : ℕ → A) (n i : ℕ) → ((k : ℕ) → i ≤ k → k < i + n → f k ≡ g k ∷ []) → flat_map f (range_with_len i n) ≡ map g (range_with_len i n)
each_one f g zero i h = refl
each_one f g (suc n) i h = rw (h i (omega arith) (omega arith), each_one f g n (i + 1) (λ k low high. h k (omega (arith, low)) (omega (arith, high)))) refl

module _ (p : Sending) where
  -- where the first receiver misses a chunk, a group gets it once
  to_group_once : (group k : ℕ) (bs : List Bool) (c : ℕ) (x : Pair) (ps : List Pair) → Row 2 bs (every_number (suc c)) true x → k < suc c
      → l.to_group group (lacking missing_of (map receiver_in (x ∷ ps)) k) ≡ group ∷ []
  to_group_once group k bs c x ps row lt =
      let misses : l.lacks_chunk missing_of k x.r ≡ true = ap (l.lacks_chunk missing_of k) row.r_is ∙ has_every (suc c) k lt in
      ap (λ b. l.to_group group (l.lacking_if x.r.row.address b ++ lacking missing_of (map receiver_in ps) k)) misses

  pub group_lists : (p.group == 0) ≡ false → (b c : ℕ) → chunk_total p b ≡ suc c → (bs : List Bool) (ps : List Pair) → AllByRecursion (Row 2 bs (every_number (suc c)) true) ps → 1 ≤ length ps
      → chunk_items p b missing_of (map receiver_in ps) ≡ map (λ i. Sends p.group b i) (range_with_len 0 (suc c))
  group_lists g b c total bs [] h le = absurd (omega (arith, le))
  group_lists g b c total bs (x ∷ ps) h le =
      let f : ℕ → List Item = λ k. map (λ to. Sends to b k) (l.destinations p (lacking missing_of (map receiver_in (x ∷ ps)) k)) in
      ap (λ m. flat_map f (range_with_len 0 m)) total
      ∙ each_one f (λ k. Sends p.group b k) (suc c) 0
      (λ k low high. ap (λ z. map (λ to. Sends to b k) (if z then lacking missing_of (map receiver_in (x ∷ ps)) k else l.to_group p.group (lacking missing_of (map receiver_in (x ∷ ps)) k))) g
      ∙ ap (map (λ to. Sends to b k)) (to_group_once p.group k bs c x ps h.0 (omega (arith, high))))

-- ---- the law

module _ (laws : KeepsPlan) (fields : FieldsAreRead) (tiles : Tiles) (read : MetaIsReadBack) (tested : FitIsTested) (plan : Plan) (image : List ℕ) (to : List ℕ) (members : List Member)
    (from : CanBegin plan image to members) (push : plan.sending.mode ≡ 1) where
  abbrev p : Sending
  p = plan.sending

  abbrev meta : Meta
  meta = plan.meta

  abbrev config : NodeConfig
  config = from.config

  abbrev blocks : ℕ
  blocks = w.blocks laws fields tiles read tested plan image to members from

  abbrev q : ℕ
  q = w.q laws fields tiles read tested plan image to members from

  abbrev cs : List NodeConfig
  cs = w.cs laws fields tiles read tested plan image to members from

  abbrev chunk_some : 0 < p.chunk
  chunk_some = w.chunk_some laws fields tiles read tested plan image to members from

  abbrev whole : length image ≡ p.size
  whole = w.whole laws fields tiles read tested plan image to members from

  abbrev total_is : block_total p ≡ suc blocks
  total_is = w.total_is laws fields tiles read tested plan image to members from

  abbrev good : Good p blocks
  good = w.good laws fields tiles read tested plan image to members from

  abbrev counts : (b : ℕ) → b < suc blocks → (c : ℕ) × (chunk_total p b ≡ suc c)
  counts = w.counts laws fields tiles read tested plan image to members from

  abbrev few : 4 * q < 99
  few = w.few laws fields tiles read tested plan image to members from

  abbrev long : length cs ≡ length to
  long = w.long laws fields tiles read tested plan image to members from

  abbrev some : 1 ≤ length cs
  some = w.some laws fields tiles read tested plan image to members from

  abbrev fits : length cs ≤ 16 * q
  fits = w.fits laws fields tiles read tested plan image to members from

  abbrev q_some : 1 ≤ q
  q_some = w.q_some laws fields tiles read tested plan image to members from

  abbrev apart : Apart cs
  apart = w.apart laws fields tiles read tested plan image to members from

  pub pushes : Pushes p
  pushes = pl.pushes tiles read tested plan image from.update push

  abbrev pub Sends_ : ℕ → Type 0
  Sends_ mc =
      (b n c : ℕ) (total : chunk_total p b ≡ suc c) → b + suc n ≡ suc blocks → (bs : List Pair) (ys : List Member)
      → Station laws p meta config image (At (Chunks b)) (drop 16 (first_items laws p meta config image (Chunks b) bs)) (map (turn_in laws p meta config image (Chunks b) (take 16 (first_items laws p meta config image (Chunks b) bs))) bs) ys
      → AllByRecursion (Beginning laws fields tiles p meta config image blocks good q few whole chunk_some b n c total) bs → configs bs ≡ cs
      → Within mc (ChunksSent laws fields tiles p meta config image blocks good q few whole chunk_some b n c total cs) ys

  completes : (mc : ℕ) → Sends_ mc → suc mc ≤ sixteens (chunk_total p 0 * copies p (length to)) → (n : ℕ) → push_turns p (length to) ≤ n → Completed config.address to (settle n members)
  completes mc sends bound n le =
      let block : q + (suc mc + q) ≤ 2 * q + sixteens (chunk_total p 0 * copies p (length to)) = omega (arith, bound) in
      let same : suc blocks ≡ block_total p = sym total_is in
      let one : suc blocks * (q + (suc mc + q)) ≤ suc blocks * (2 * q + sixteens (chunk_total p 0 * copies p (length to))) = mul-le-mul_left (suc blocks) block in
      let two : suc blocks * (2 * q + sixteens (chunk_total p 0 * copies p (length to))) ≡ block_total p * (2 * q + sixteens (chunk_total p 0 * copies p (length to))) = ap (λ n. n * (2 * q + sixteens (chunk_total p 0 * copies p (length to)))) same in
      w.completes laws fields tiles read tested plan image to members from (suc blocks * (q + (suc mc + q)))
      (λ ys s. all_blocks laws fields tiles p meta config image blocks good whole chunk_some cs apart some q few fits q_some mc counts sends pushes blocks 0 Transfer tt (omega arith) ys s) n (omega (arith, one, two, le))

  -- ---- to a group

  weaker : (b n c : ℕ) (total : chunk_total p b ≡ suc c) (bs : List Pair) → AllByRecursion (Beginning laws fields tiles p meta config image blocks good q few whole chunk_some b n c total) bs
      → AllByRecursion (Chunking laws fields tiles p meta config image blocks good q few whole chunk_some b n c total 0 (suc c)) bs
  weaker b n c total [] h = tt
  weaker b n c total (x ∷ bs) h = ((h.0.0, chunked_longer fields tiles p meta image config.address blocks good q few whole chunk_some b n 0 (suc c) q (3 * q) x (omega arith) h.0.1), weaker b n c total bs h.1)

  pub only_rows : (b n c : ℕ) (total : chunk_total p b ≡ suc c) (bs : List Pair) → AllByRecursion (Beginning laws fields tiles p meta config image blocks good q few whole chunk_some b n c total) bs
      → AllByRecursion (Row 2 (lacking_from b (suc n)) (every_number (suc c)) true) bs
  only_rows b n c total [] h = tt
  only_rows b n c total (x ∷ bs) h = (h.0.0, only_rows b n c total bs h.1)

  pub configs_long : (qs : List Pair) → length (configs qs) ≡ length qs
  configs_long [] = refl
  configs_long (x ∷ qs) = ap suc (configs_long qs)

  -- sixteens of chunks, less one
  abbrev pub group_mc : ℕ
  group_mc = sixteens (chunk_total p 0) - 1

  pub group_sends : plan.sending.group ≢ 0 → Sends_ group_mc
  group_sends g b n c total sum bs ys s h same =
      let l = ap (length {A = NodeConfig}) same in
      let k = configs_long bs in
      let o = some in
      let fewer = no_more tiles p chunk_some b in
      let list = group_lists p (no_zero plan.sending.group g) b c total (lacking_from b (suc n)) bs (only_rows b n c total bs h) (omega (arith, l, k, o)) in
      let done = begin_chunks laws fields tiles p meta config image blocks good q few whole chunk_some plan.sending.group b n c total group_mc bs ys (first_items laws p meta config image (Chunks b) bs) list s
      (subst (AllByRecursion (Reaches plan.sending.group)) (sym same) (all_reached plan image members g to from.takes)) (weaker b n c total bs h) (omega (arith, fewer, total)) in
      record { turns = done.turns; few = done.few; then_is = (let f = done.then_is in record { qs = f.qs; station = f.station; all = f.all; same = f.same ∙ same }) }
    where
      no_zero : (g : ℕ) → g ≢ 0 → (g == 0) ≡ false
      no_zero g h = grind (arith, nat_tests, h)

  pub some_total : 1 ≤ chunk_total p 0
  some_total = let t = total_is in some_chunk tiles p chunk_some 0 (omega (arith, t))

  by_group : plan.sending.group ≢ 0 → (n : ℕ) → push_turns p (length to) ≤ n → Completed config.address to (settle n members)
  by_group g n le =
      let one : chunk_total p 0 * copies p (length to) ≡ chunk_total p 0 * 1 = ap (λ z. chunk_total p 0 * (if z then length to else 1)) (no_zero plan.sending.group g) in
      let s = some_total in
      completes group_mc (group_sends g) (omega (arith, one, s)) n le
    where
      no_zero : (g : ℕ) → g ≢ 0 → (g == 0) ≡ false
      no_zero g h = grind (arith, nat_tests, h)

  -- ---- to each receiver

  -- who misses all chunks is in each list
  all_lacking : (b n c : ℕ) (total : chunk_total p b ≡ suc c) (bs : List Pair) → AllByRecursion (Beginning laws fields tiles p meta config image blocks good q few whole chunk_some b n c total) bs
      → (k : ℕ) → k < suc c → lacking missing_of (map receiver_in bs) k ≡ addresses b (configs bs)
  all_lacking b n c total [] h k lt = refl
  all_lacking b n c total (x ∷ bs) h k lt =
      ap (λ z. l.lacking_if x.r.row.address z ++ lacking missing_of (map receiver_in bs) k) (ap (l.lacks_chunk missing_of k) h.0.0.r_is ∙ has_every (suc c) k lt)
      ∙ cons_same (ap (λ (r : Receiver). r.row.address) h.0.0.r_is) (all_lacking b n c total bs h.1 k lt)
    where
      cons_same : {x y : ℕ} {xs ys : List ℕ} → x ≡ y → xs ≡ ys → (x ∷ xs) ≡ (y ∷ ys)
      cons_same e f = rw (e, f) refl

  flat_upto : (f g : ℕ → List Item) (m i : ℕ) → ((k : ℕ) → i ≤ k → k < i + m → f k ≡ g k) → flat_map f (range_with_len i m) ≡ flat_map g (range_with_len i m)
  flat_upto f g zero i h = refl
  flat_upto f g (suc m) i h = rw (h i (omega arith) (omega arith), flat_upto f g m (i + 1) (λ k low high. h k (omega (arith, low)) (omega (arith, high)))) refl

  alone_list_is : (p.group == 0) ≡ true → (b n c : ℕ) (total : chunk_total p b ≡ suc c) (bs : List Pair) → AllByRecursion (Beginning laws fields tiles p meta config image blocks good q few whole chunk_some b n c total) bs
      → chunk_items p b missing_of (map receiver_in bs) ≡ rows_of b (addresses b (configs bs)) 0 (suc c)
  alone_list_is g b n c total bs h =
      let f : ℕ → List Item = λ k. map (λ to. Sends to b k) (l.destinations p (lacking missing_of (map receiver_in bs) k)) in
      ap (λ m. flat_map f (range_with_len 0 m)) total
      ∙ flat_upto f (λ k. row_of_ b k (addresses b (configs bs))) (suc c) 0
      (λ k low high. ap (λ z. map (λ to. Sends to b k) (if z then lacking missing_of (map receiver_in bs) k else l.to_group p.group (lacking missing_of (map receiver_in bs) k))) g
      ∙ ap (map (λ to. Sends to b k)) (all_lacking b n c total bs h k (omega (arith, high))))

  address_count : (b : ℕ) (es : List NodeConfig) → length (addresses b es) ≡ length es
  address_count b [] = refl
  address_count b (e ∷ es) = ap suc (address_count b es)

  -- each waits for its own chunks
  module _ (b n c : ℕ) (total : chunk_total p b ≡ suc c) (sum : b + suc n ≡ suc blocks) where
    abbrev Waits_ : List Item → Pair → Type 0
    Waits_ list x = Waits laws fields tiles p meta config image blocks good q few whole chunk_some b n c total sum q_some list x

    waits_one : (all : List NodeConfig) (x : Pair) → Beginning laws fields tiles p meta config image blocks good q few whole chunk_some b n c total x → length all ≤ 16 * q
        → ((k : ℕ) → own x.config.address (row_of_ b k (addresses b all)) ≡ Sends x.config.address b k ∷ []) → AllByRecursion (λ (e : NodeConfig). (e.address ≡ x.config.address) ⊎ Misses e.address x.config) all
        → Waits_ (rows_of b (addresses b all) 0 (suc c)) x
    waits_one all x h le once apt =
        let count = address_count b all in
        let often : Often x.config.address (16 * q) (rows_of b (addresses b all) 0 (suc c)) =
        often_rows b x.config.address (16 * q) (addresses b all) (omega (arith, count, le)) (λ k. first_own b x.config.address k (addresses b all) (once k)) (suc c) 0 in
        let soon = often_first x.config.address (16 * q) (rows_of b (addresses b all) 0 (suc c)) often in
        record {
          row = h.0;
          k = 0;
          rem = suc c;
          age = q;
          its = own_rows b x.config.address (addresses b all) once (suc c) 0;
          all = omega arith;
          node = h.1;
          soon = omega (arith, soon);
          often = often;
          sorted = sorted_rows b x.config all apt (suc c) 0;
        }

    waits_all : (all : List NodeConfig) → length all ≤ 16 * q → (bs : List Pair) → AllByRecursion (Beginning laws fields tiles p meta config image blocks good q few whole chunk_some b n c total) bs
        → ((k : ℕ) → AllByRecursion (λ (e : NodeConfig). own e.address (row_of_ b k (addresses b all)) ≡ Sends e.address b k ∷ []) (configs bs))
        → AllByRecursion (λ (e : NodeConfig). AllByRecursion (λ (f : NodeConfig). (f.address ≡ e.address) ⊎ Misses f.address e) all) (configs bs)
        → AllByRecursion (Waits_ (rows_of b (addresses b all) 0 (suc c))) bs
    waits_all all le [] h once apt = tt
    waits_all all le (x ∷ bs) h once apt = (waits_one all x h.0 le (λ k. (once k).0) apt.0, waits_all all le bs h.1 (λ k. (once k).1) apt.1)

  abbrev alone_mc : ℕ
  alone_mc = sixteens (chunk_total p 0 * length to) - 1

  some_first : (list : List Item) → 1 ≤ length list → (i : Item) × (is : List Item) × (list ≡ i ∷ is)
  some_first [] le = absurd (omega (arith, le))
  some_first (i ∷ is) le = (i, is, refl)

  alone_sends : (p.group == 0) ≡ true → Sends_ alone_mc
  alone_sends g b n c total sum bs ys s h same =
      let es : List NodeConfig = configs bs in
      let apart_b : Apart es = subst Apart (sym same) apart in
      let count = ap (length {A = NodeConfig}) same in
      let fit = fits in
      let to_long = long in
      let list : List Item = rows_of b (addresses b es) 0 (suc c) in
      let is_list : first_items laws p meta config image (Chunks b) bs ≡ list = alone_list_is g b n c total bs h in
      let waits = waits_all b n c total sum es (omega (arith, count, fit)) bs h (λ k. each_once b k es apart_b) (all_apt b es apart_b) in
      let size = rows_length b (addresses b es) 0 (suc c) in
      let many = address_count b es in
      let n_is : length (addresses b es) ≡ length to = omega (arith, many, count, to_long) in
      let size_is : length list ≡ suc c * length to = size ∙ ap (λ z. suc c * z) n_is in
      let fewer = no_more tiles p chunk_some b in
      let most : suc c * length to ≤ chunk_total p 0 * length to = mul-le-mul_right (length to) (omega (arith, fewer, total)) in
      let one : 1 * 1 ≤ suc c * length to = mul_le_both 1 1 (suc c) (length to) (omega arith) from.some in
      let split = some_first list (omega (arith, size_is, one)) in
      let here : Station laws p meta config image (At (Chunks b)) (drop 16 (split.0 ∷ split.1)) (map (turn_in laws p meta config image (Chunks b) (take 16 (split.0 ∷ split.1))) bs) ys =
      subst (λ items. Station laws p meta config image (At (Chunks b)) (drop 16 items) (map (turn_in laws p meta config image (Chunks b) (take 16 items)) bs) ys) (is_list ∙ split.2) s in
      let short : length (split.0 ∷ split.1) ≤ 16 * suc alone_mc = (let e = ap (length {A = Item}) split.2 in omega (arith, e, size_is, most, one)) in
      let done = begin_alone laws fields tiles p meta config image blocks good q few whole chunk_some b n c total sum q_some alone_mc split.0 split.1 bs ys here (subst (λ items. AllByRecursion (Waits_ b n c total sum items) bs) split.2 waits) short in
      record { turns = done.turns; few = done.few; then_is = (let f = done.then_is in record { qs = f.qs; station = f.station; all = f.all; same = f.same ∙ same }) }
    where
      mul_le_both : (a b m n : ℕ) → a ≤ m → b ≤ n → a * b ≤ m * n
      mul_le_both a b m n h k = mul-le a b m n h k

  by_each : (p.group == 0) ≡ true → (n : ℕ) → push_turns p (length to) ≤ n → Completed config.address to (settle n members)
  by_each g n le =
      let copy : chunk_total p 0 * copies p (length to) ≡ chunk_total p 0 * length to = ap (λ z. chunk_total p 0 * (if z then length to else 1)) g in
      let one : 1 * 1 ≤ chunk_total p 0 * length to = mul-le 1 1 (chunk_total p 0) (length to) some_total from.some in
      completes alone_mc (alone_sends g) (omega (arith, copy, one)) n le

  by_zero : (zero : Bool) → (plan.sending.group == 0) ≡ zero → (n : ℕ) → push_turns p (length to) ≤ n → Completed config.address to (settle n members)
  by_zero true e n le = by_each e n le
  by_zero false e n le = by_group (λ z. false_true (sym e ∙ eq-eqb plan.sending.group 0 z)) n le
    where
      false_true : false ≡ true → ⊥
      false_true h = grind (arith, h)

  pub push_completes : (n : ℕ) → push_turns p (length to) ≤ n → Completed config.address to (settle n members)
  push_completes n le = by_zero (plan.sending.group == 0) refl n le
