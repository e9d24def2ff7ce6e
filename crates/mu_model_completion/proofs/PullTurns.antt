-- The blocks of an update in pull with one receiver, turn by turn: a turn in which its node reports, and one in which the chunks
-- that it asked for are sent.
use Rattle.std.proofs.Common.{◌≡◌, inl, ◌==◌, ◌<◌, ◌≤◌, ◌+◌, ◌-◌, ◌*◌, ℕ, zero, suc, List, [], ◌∷◌, refl, sym, ap, ◌∙◌, subst, true, false, Bool, Option, Some, None, arith, map, max, min, length, take, drop}
use Rattle.std.specs.Prelude.{nat_le, ◌||◌, not, if◌then◌else◌}
use Rattle.std.specs.List.{list_any, range_with_len, AllByRecursion}
use Rattle.mu_model_image.specs.declared.Meta.{Meta}
use Rattle.mu_model_wire.specs.Reports.{every_number, no_number}
use Rattle.mu_model_node.specs.declared.NodeConfig.{NodeConfig}
use Rattle.mu_model_node.specs.BlobServer.{PullReport}
use Rattle.mu_model_client.specs.declared.Sending.{Sending}
use Rattle.mu_model_client.specs.Client.{Client, Receiver, is_active, is_pending, misses_chunks, Update, Item, Sends, Place, At, Step, Block, Chunks, Pull, chunk_total, round_time}
use Rattle.mu_model_client.specs.Lists as l
use Rattle.mu_model_client.specs.Lists.{sent_for, chunk_items, wanted_of}
use Rattle.mu_model_client.specs.Due as d
use Rattle.mu_model_client.specs.Due.{Due, Go}
use Rattle.mu_model_client_laws.specs.Laws.{KeepsPlan, FieldsAreRead}
use Rattle.mu_model_completion.specs.Turn.{Member, turn}
use Rattle.mu_model_completion.proofs.Pairs.{Pair, receiver_in, pair_time, items_config}
use Rattle.mu_model_completion.proofs.Receivers.{rcv, view, none_some}
use Rattle.mu_model_completion.proofs.Stations.{Within, at_once, by_turn, and_then, more_room, so, Station, client_at, sent_all, begins, turn_in, turn_next, turn_by}
use Rattle.mu_model_completion.proofs.Asking.{Apart, configs}
use Rattle.mu_model_completion.proofs.First.{Good, runs_longer}
use Rattle.mu_model_completion.proofs.Pieces.{lacking_from}
use Rattle.mu_model_completion.proofs.Sixteens.{Reaches, take_range, drop_range}
use Rattle.mu_model_completion.proofs.Blocks.{Tiles, BlockW, block_request}
use Rattle.mu_model_completion.proofs.Course.{Reached, Answered, go_step, next_leads}
use Rattle.mu_model_completion.proofs.Middle.{EndsBlock, Between, AllHeld, Ended_blocks, block_begins, block_leads}
use Rattle.mu_model_completion.proofs.Wanted.{wanted_list, none_wanted}
use Rattle.mu_model_completion.proofs.PullNodes.{pulled}
use Rattle.mu_model_completion.proofs.PullPairs.{PullIn, PullBlockD, pull_block_asking, Reported, reported, PullDone, served, Come, all_come, none_left}

module _ (laws : KeepsPlan) (fields : FieldsAreRead) (tiles : Tiles) (p : Sending) (meta : Meta) (config : NodeConfig) (image : List ℕ) (blocks : ℕ) (good : Good p blocks) (whole : length image ≡ p.size) (chunk_some : 0 < p.chunk)
    (its : NodeConfig) (pull : (p.mode == 2) ≡ true) (no_push : (p.mode == 1) ≡ false) (few : 4 * 1 < 99) (apart : Apart (its ∷ [])) (some : 1 ≤ 1) (fits : 1 ≤ 16 * 1) (q_some : 1 ≤ 1)
    (counts : (b : ℕ) → b < suc blocks → (c : ℕ) × (chunk_total p b ≡ suc c))
    (to : ℕ) (goes : l.destinations p (its.address ∷ []) ≡ to ∷ []) (reached : Reaches to its) where
  abbrev u : ℕ
  u = config.address

  abbrev cs : List NodeConfig
  cs = its ∷ []

  abbrev At_ : Place → (Pair → Type 0) → List Member → Type 0
  At_ place P xs = Reached laws fields tiles p meta config image blocks good whole chunk_some cs apart some 1 few fits q_some place P xs

  abbrev Done : (ℕ → Pair → Type 0) → Pair → Type 0
  Done D x = Answered laws fields tiles p meta config image blocks good whole chunk_some cs apart some 1 few fits q_some D x

  abbrev Between_ : ℕ → ℕ → Pair → Type 0
  Between_ b n x = Between laws fields tiles p meta config image blocks good whole chunk_some cs apart some 1 few fits q_some b n x

  -- between two turns, with the one receiver
  pub record One (place : Place) (P : Pair → Type 0) (xs : List Member) : Type 0 where
    pub x : Pair
    pub station : Station laws p meta config image place [] (x ∷ []) xs
    pub holds : P x
    pub same : x.config ≡ its

  nil_cons : {A : Type 0} → [] ≡ its ∷ [] → A
  nil_cons e = absurd (grind (arith, e))

  cons_cons : {A : Type 0} (e f : NodeConfig) (es : List NodeConfig) → e ∷ f ∷ es ≡ its ∷ [] → A
  cons_cons e f es h = absurd (grind (arith, h))

  abbrev first_or : List NodeConfig → NodeConfig
  first_or [] = its
  first_or (e ∷ es) = e

  only_one : (place : Place) (P : Pair → Type 0) (xs : List Member) (qs : List Pair) → Station laws p meta config image place [] qs xs → AllByRecursion P qs → configs qs ≡ cs → One place P xs
  only_one place P xs [] s h e = nil_cons e
  only_one place P xs (x ∷ []) s h e = record { x = x; station = s; holds = h.0; same = ap first_or e }
  only_one place P xs (x ∷ y ∷ qs) s h e = cons_cons x.config y.config (configs qs) e

  one_of : (place : Place) (P : Pair → Type 0) (xs : List Member) → At_ place P xs → One place P xs
  one_of place P xs r = only_one place P xs r.qs r.station r.all r.same

  all_of : (place : Place) (P : Pair → Type 0) (xs : List Member) → One place P xs → At_ place P xs
  all_of place P xs o = record { qs = o.x ∷ []; station = o.station; all = (o.holds, tt); same = ap (λ e. e ∷ []) o.same }

  -- ---- a block

  module _ (b n c : ℕ) (sum : b + suc n ≡ suc blocks) (total : chunk_total p b ≡ suc c) where
    abbrev bs : List Bool
    bs = lacking_from b (suc n)

    abbrev every : List Bool
    every = every_number (suc c)

    abbrev BD : ℕ → Pair → Type 0
    BD j x = PullBlockD fields tiles p meta image u blocks good whole chunk_some pull few b n c j x

    abbrev Reported_ : ℕ → ℕ → ℕ → Pair → Type 0
    Reported_ k j rest x = Reported fields tiles p meta image u blocks good whole chunk_some pull few b n c k j rest x

    abbrev Whole_ : Pair → Type 0
    Whole_ x = PullDone fields tiles p meta image u blocks good whole chunk_some pull few b n c x

    abbrev v : Client
    v = view p meta (Pull b)

    begun : (s : Step) → EndsBlock s → (xs : List Member) → At_ (At s) (Between_ b (suc n)) xs → Within 1 (At_ (At (Block b)) (Done BD)) xs
    begun s e xs r =
        go_step laws fields tiles p meta config image blocks good whole chunk_some cs apart some 1 few fits q_some (At s) (Between_ b (suc n)) (Block b) (block_request fields tiles p meta image u blocks good 1 few whole chunk_some b)
        (BlockW fields tiles p meta image u blocks good 1 few whole chunk_some b n) BD (pull_block_asking fields tiles p meta image u blocks good whole chunk_some pull few b n c total) (λ rs. refl)
        (block_begins laws fields tiles p meta config image blocks good whole chunk_some cs apart some 1 few fits q_some b n)
        (block_leads laws fields tiles p meta config image blocks good whole chunk_some cs apart some 1 few fits q_some b n sum s e) xs r

    -- ---- the first report

    answered_is : (x : Pair) → Done BD x → (x.r ≡ rcv x.config.address 2 bs every false) × PullIn fields tiles p meta image u blocks good whole chunk_some pull few b n 0 (suc c) 0 None x
    answered_is x h = by_count h.0 h.2
      where
        by_count : (j : ℕ) → BD j x → (x.r ≡ rcv x.config.address 2 bs every false) × PullIn fields tiles p meta image u blocks good whole chunk_some pull few b n 0 (suc c) 0 None x
        by_count zero k = absurd k
        by_count (suc j) k = (k.0.r_is, k.1)

    pending_is : (x : Pair) → Done BD x → (x.r.pending ≡ false) × (is_active x.r ≡ true)
    pending_is x h = let a = answered_is x h in (ap (λ (r : Receiver). r.pending) a.0, ap is_active a.0)

    some_chunks : (ps : List Pair) → AllByRecursion (Done BD) ps → 1 ≤ length ps → list_any misses_chunks (map receiver_in ps) ≡ true
    some_chunks [] h le = absurd (omega (arith, le))
    some_chunks (x ∷ ps) h le = ap (λ z. z || list_any misses_chunks (map receiver_in ps)) (ap misses_chunks (answered_is x h.0).0)

    to_pull : (ps : List Pair) → AllByRecursion (Done BD) ps → 1 ≤ length ps → d.after p (Update meta true) (map receiver_in ps) (Block b) ≡ Go (Pull b)
    to_pull ps h le =
        ap (λ z. if z then Go (d.chunk_step p b) else d.next_block p (Update meta true) (map receiver_in ps)) (some_chunks ps h le)
        ∙ ap (λ z. Go (if z then Chunks b else Pull b)) no_push

    -- which chunks, of those that are missing
    abbrev most : ℕ → ℕ
    most rem = min 15 rem

    abbrev Reported_from : ℕ → ℕ → Pair → Type 0
    Reported_from k rem x = Reported_ k (most rem) (suc rem - suc (most rem)) x

    first_report : (xs : List Member) → At_ (At (Block b)) (Done BD) xs → One (At (Pull b)) (Reported_from 0 c) (turn xs)
    first_report xs r =
        let o = one_of (At (Block b)) (Done BD) xs r in
        let a = answered_is o.x o.holds in
        let leads = next_leads laws fields tiles p meta config image blocks good whole chunk_some cs apart some 1 few fits q_some (Block b) (Pull b) (Done BD) pending_is (λ z. refl) (λ rs. refl) to_pull (o.x ∷ []) (o.holds, tt) (omega arith) in
        let next = turn_next laws p meta config image (At (Block b)) (o.x ∷ []) xs o.station (Pull b) leads in
        let y : Pair = begins laws p meta config image (Pull b) o.x in
        let row : y.r ≡ pulled o.x.config.address bs every false [] = ap (d.begun (Pull b)) a.0 in
        let node : PullIn fields tiles p meta image u blocks good whole chunk_some pull few b n 0 (suc c) 1 None y = record {
          capacity = a.1.capacity;
          active = a.1.active;
          images = a.1.images;
          offer = a.1.offer;
          count = a.1.count;
          fresh = a.1.fresh;
          heard = a.1.heard;
          before = a.1.before;
          lately = (let l = a.1.lately in omega (arith, l));
          none = a.1.none;
          n_is = a.1.n_is;
        } in
        let list : l.first_list p (Update meta true) (y.r ∷ []) (Pull b) ≡ [] = ap (λ z. l.first_list p (Update meta true) (z ∷ []) (Pull b)) row in
        let here : Station laws p meta config image (At (Pull b)) [] (pair_time v u y ∷ []) (turn xs) =
        subst (λ items. Station laws p meta config image (At (Pull b)) (drop 16 items) (map (turn_in laws p meta config image (Pull b) (take 16 items)) (y ∷ [])) (turn xs)) list next in
        record {
          x = pair_time v u y;
          station = here;
          holds = reported fields tiles p meta image u blocks good whole chunk_some pull few b n c 0 c total (omega arith) None false y row node;
          same = o.same;
        }

    -- ---- the chunks that were asked for

    -- k have come, and more are missing
    pub record Served (k rest : ℕ) (x : Pair) : Type 0 where
      r_is : x.r ≡ pulled x.config.address bs every true []
      report : Option PullReport
      node : PullIn fields tiles p meta image u blocks good whole chunk_some pull few b n k (suc rest) 1 report x

    abbrev Come_ : (k rest : ℕ) → List Member → Type 0
    Come_ k zero ys = One (At (Pull b)) Whole_ ys
    Come_ k (suc rest) ys = One (At (Pull b)) (Served k rest) ys

    abbrev client_ : (began moment : ℕ) → List Receiver → Client
    client_ began moment rs = client_at laws p meta config image (At (Pull b)) [] began moment rs

    abbrev items_from : ℕ → ℕ → List Item
    items_from k j = map (λ i. Sends to b i) (range_with_len k j)

    abbrev given : (began moment : ℕ) → List Receiver → List Item → Due
    given began moment rs items = record { next = client_ began moment rs; packets = map (sent_for p image) items }

    -- they are sixteen at most, and sent at once
    sent_at_once : (k j began moment : ℕ) (rs : List Receiver) → j ≤ 15 → d.sends (client_ began moment rs) image (items_from k (suc j)) ≡ given began moment rs (items_from k (suc j))
    sent_at_once k j began moment rs le =
        let few_ : min 16 (suc j) ≡ suc j = omega (arith, le) in
        let none : suc j - min 16 (suc j) ≡ 0 = omega (arith, le) in
        let all : take 16 (items_from k (suc j)) ≡ items_from k (suc j) = take_range (λ i. Sends to b i) 16 (suc j) k ∙ ap (λ m. items_from k m) few_ in
        let rest : drop 16 (items_from k (suc j)) ≡ [] = drop_range (λ i. Sends to b i) 16 (suc j) k ∙ ap (λ m. items_from (k + min 16 (suc j)) m) none in
        ap (λ queue. record { next = client_at laws p meta config image (At (Pull b)) queue began moment rs; packets = map (sent_for p image) (take 16 (items_from k (suc j))) }) rest
        ∙ ap (λ items. given began moment rs items) all

    chunks_due : (k j rest began moment : ℕ) (x : Pair) → x.config ≡ its → k + (suc j + rest) ≡ suc c → j ≤ 15 → Reported_ k j rest x
        → d.by_place (client_ began moment (x.r ∷ [])) image (At (Pull b)) ≡ given began moment (d.unwanted x.r ∷ []) (items_from k (suc j))
    chunks_due k j rest began moment x same all le h =
        let pending : is_pending x.r ≡ true = ap is_pending h.r_is in
        let list : chunk_items p b wanted_of (x.r ∷ []) ≡ items_from k (suc j) =
        wanted_list p b (suc c) k (suc j) rest to x.r total (sym all) (ap is_active h.r_is) (ap (λ (r : Receiver). r.wanted) h.r_is)
        (ap (λ a. l.destinations p (a ∷ [])) (ap (λ (r : Receiver). r.row.address) h.r_is ∙ ap (λ (e : NodeConfig). e.address) same) ∙ goes) in
        ap (λ z. d.by_step (client_ began moment (x.r ∷ [])) image (Pull b) (not (z || false))) pending
        ∙ (ap (d.by_wanted (client_ began moment (x.r ∷ [])) image (Pull b)) list ∙ sent_at_once k j began moment (d.unwanted x.r ∷ []) le)

    chunk_turn : (k j rest : ℕ) (xs : List Member) → k + (suc j + rest) ≡ suc c → j ≤ 15 → One (At (Pull b)) (Reported_ k j rest) xs → Come_ (k + suc j) rest (turn xs)
    chunk_turn k j rest xs all le o =
        let x : Pair = o.x in
        let s = o.station in
        let next = turn_by laws p meta config image (At (Pull b)) (At (Pull b)) [] (items_from k (suc j)) (x ∷ []) xs s d.unwanted (λ r. refl) s.began (chunks_due k j rest s.began (max s.moment (s.now + 100)) x o.same all le o.holds) in
        let t = served fields tiles p meta image u blocks good whole chunk_some pull few b n c k j rest x o.holds in
        let come = all_come fields tiles p meta image u blocks good whole chunk_some pull few to b n c total (Some (record { moment = x.moment; chunks = range_with_len k (suc j) })) j k rest 3 (pair_time v u (record x { r = d.unwanted x.r })) (subst (Reaches to) (sym o.same) reached) all t.0 t.1 in
        by_rest rest _ next come (items_config v u (sent_all laws p meta config image (items_from k (suc j))) (pair_time v u (record x { r = d.unwanted x.r })) ∙ o.same)
      where
        by_rest : (rest : ℕ) (y : Pair) → Station laws p meta config image (At (Pull b)) [] (y ∷ []) (turn xs)
            → Come fields tiles p meta image u blocks good whole chunk_some pull few to b n c total (Some (record { moment = o.x.moment; chunks = range_with_len k (suc j) })) (k + suc j) rest y
            → y.config ≡ its → Come_ (k + suc j) rest (turn xs)
        by_rest zero y station h same = record { x = y; station = station; holds = h; same = same }
        by_rest (suc rest) y station h same = record {
          x = y;
          station = station;
          holds = record {
            r_is = h.1;
            report = Some (record { moment = o.x.moment; chunks = range_with_len k (suc j) });
            node = record {
              capacity = h.0.capacity;
              active = h.0.active;
              images = h.0.images;
              offer = h.0.offer;
              count = h.0.count;
              fresh = h.0.fresh;
              heard = h.0.heard;
              before = h.0.before;
              lately = (let l = h.0.lately in omega (arith, l));
              none = none_left fields tiles p meta image u blocks good whole chunk_some pull few b n o.x.moment k j rest y h.0;
              n_is = h.0.n_is;
            };
          };
          same = same;
        }

    -- ---- the next report

    abbrev row_heard : (address : ℕ) → Receiver
    row_heard address = pulled address bs every true []

    -- the round may be over; the receiver was heard in it
    abbrev heard_if : Bool → Receiver → Receiver
    heard_if true r = record r { heard = false }
    heard_if false r = r

    abbrev began_if : Bool → (began moment : ℕ) → ℕ
    began_if true began moment = moment
    began_if false began moment = began

    round_due : (address began moment : ℕ) (over : Bool)
        → d.if_round_over (client_ began moment (row_heard address ∷ [])) image (Pull b) over ≡ given (began_if over began moment) moment (heard_if over (row_heard address) ∷ []) []
    round_due address began moment true = refl
    round_due address began moment false = refl

    report_due : (began moment : ℕ) (x : Pair) → x.r ≡ row_heard x.config.address → (over : Bool) → nat_le (began + round_time p) moment ≡ over
        → d.by_place (client_ began moment (x.r ∷ [])) image (At (Pull b)) ≡ given (began_if over began moment) moment (heard_if over x.r ∷ []) []
    report_due began moment x row over e =
        let pending : is_pending x.r ≡ true = ap is_pending row in
        let none : chunk_items p b wanted_of (x.r ∷ []) ≡ [] = none_wanted p b x.r (ap (λ (r : Receiver). r.wanted) row) in
        ap (λ z. d.by_step (client_ began moment (x.r ∷ [])) image (Pull b) (not (z || false))) pending
        ∙ (ap (d.by_wanted (client_ began moment (x.r ∷ [])) image (Pull b)) none
        ∙ (ap (d.if_round_over (client_ began moment (x.r ∷ [])) image (Pull b)) e
        ∙ subst (λ r. d.if_round_over (client_ began moment (r ∷ [])) image (Pull b) over ≡ given (began_if over began moment) moment (heard_if over r ∷ []) []) (sym row) (round_due x.config.address began moment over)))

    heard_flag : (address : ℕ) (over : Bool) → heard_if over (row_heard address) ≡ pulled address bs every (not over) []
    heard_flag address true = refl
    heard_flag address false = refl

    heard_kept : (over : Bool) (r : Receiver) → (heard_if over r).row.address ≡ r.row.address
    heard_kept true r = refl
    heard_kept false r = refl

    report_turn : (k rem : ℕ) (xs : List Member) → k + suc rem ≡ suc c → One (At (Pull b)) (Served k rem) xs → One (At (Pull b)) (Reported_from k rem) (turn xs)
    report_turn k rem xs all o =
        let x : Pair = o.x in
        let s = o.station in
        let moment : ℕ = max s.moment (s.now + 100) in
        let over : Bool = nat_le (s.began + round_time p) moment in
        let next = turn_by laws p meta config image (At (Pull b)) (At (Pull b)) [] [] (x ∷ []) xs s (heard_if over) (heard_kept over) (began_if over s.began moment) (report_due s.began moment x o.holds.r_is over refl) in
        let y : Pair = record x { r = heard_if over x.r } in
        let h = o.holds.node in
        let node : PullIn fields tiles p meta image u blocks good whole chunk_some pull few b n k (suc rem) 1 o.holds.report y = record {
          capacity = h.capacity;
          active = h.active;
          images = h.images;
          offer = h.offer;
          count = h.count;
          fresh = h.fresh;
          heard = h.heard;
          before = h.before;
          lately = h.lately;
          none = h.none;
          n_is = h.n_is;
        } in
        record {
          x = pair_time v u y;
          station = next;
          holds = reported fields tiles p meta image u blocks good whole chunk_some pull few b n c k rem total all o.holds.report (not over) y (ap (heard_if over) o.holds.r_is ∙ heard_flag x.config.address over) node;
          same = o.same;
        }

    -- ---- until the block is held

    finish : (m k rem : ℕ) (xs : List Member) → k + suc rem ≡ suc c → suc rem ≤ 16 * suc m → One (At (Pull b)) (Reported_from k rem) xs → Within (suc (2 * m)) (One (At (Pull b)) Whole_) xs
    finish zero k rem xs all le o =
        let none : suc rem - suc (most rem) ≡ 0 = omega (arith, le) in
        let come = chunk_turn k (most rem) (suc rem - suc (most rem)) xs (omega (arith, all)) (omega arith) o in
        by_turn 0 (One (At (Pull b)) Whole_) xs (at_once 0 (One (At (Pull b)) Whole_) (turn xs) (subst (λ r. Come_ (k + suc (most rem)) r (turn xs)) none come))
    finish (suc m) k rem xs all le o =
        let come = chunk_turn k (most rem) (suc rem - suc (most rem)) xs (omega (arith, all)) (omega arith) o in
        let room : suc (suc (2 * m)) ≡ 2 * suc m = omega arith in
        by_turn (2 * suc m) (One (At (Pull b)) Whole_) xs
        (subst (λ r. Within r (One (At (Pull b)) Whole_) (turn xs)) room
        (by_rest (suc rem - suc (most rem)) refl come (λ r e h. finish m (k + suc (most rem)) r (turn (turn xs)) (omega (arith, all, e)) (omega (arith, le, e)) h)))
      where
        by_rest : (rest : ℕ) → suc rem - suc (most rem) ≡ rest → Come_ (k + suc (most rem)) rest (turn xs)
            → ((r : ℕ) → suc rem - suc (most rem) ≡ suc r → One (At (Pull b)) (Reported_from (k + suc (most rem)) r) (turn (turn xs)) → Within (suc (2 * m)) (One (At (Pull b)) Whole_) (turn (turn xs)))
            → Within (suc (suc (2 * m))) (One (At (Pull b)) Whole_) (turn xs)
        by_rest zero e h next = at_once (suc (suc (2 * m))) (One (At (Pull b)) Whole_) (turn xs) h
        by_rest (suc r) e h next = by_turn (suc (2 * m)) (One (At (Pull b)) Whole_) (turn xs) (next r e (report_turn (k + suc (most rem)) r (turn xs) (omega (arith, all, e)) h))

    -- A BLOCK
    pub one_block : (m : ℕ) → suc c ≤ 16 * suc m → (s : Step) → EndsBlock s → (xs : List Member) → At_ (At s) (Between_ b (suc n)) xs → Within (1 + suc (suc (2 * m))) (One (At (Pull b)) Whole_) xs
    one_block m le s e xs r =
        and_then 1 (suc (suc (2 * m))) (At_ (At (Block b)) (Done BD)) (One (At (Pull b)) Whole_) xs (begun s e xs r)
        (λ ys t. by_turn (suc (2 * m)) (One (At (Pull b)) Whole_) ys (finish m 0 c (turn ys) (omega arith) le (first_report ys t)))

  -- ---- from block to block

  to_between : (b n c : ℕ) (x : Pair) → PullDone fields tiles p meta image u blocks good whole chunk_some pull few b (suc n) c x → Between_ (suc b) (suc n) x
  to_between b n c x h = record { chunks = no_number (suc c); none = none_some (suc c); row = h.row; before = Some _; runs = runs_longer fields p meta image u blocks good 1 few _ _ 0 1 x (omega arith) h.runs }

  to_all : (b c : ℕ) → b ≡ blocks → (x : Pair) → PullDone fields tiles p meta image u blocks good whole chunk_some pull few b 0 c x → AllHeld laws fields tiles p meta config image blocks good whole chunk_some cs apart some 1 few fits q_some c x
  to_all b c e x h =
      subst (λ i. (y : Pair) → PullDone fields tiles p meta image u blocks good whole chunk_some pull few i 0 c y → AllHeld laws fields tiles p meta config image blocks good whole chunk_some cs apart some 1 few fits q_some c y) (sym e)
      (λ y k. record { row = k.row; j = 0; sealing = inl (0, k.runs) }) x h

  abbrev Ended_ : List Member → Type 0
  Ended_ xs = Ended_blocks laws fields tiles p meta config image blocks good whole chunk_some cs apart some 1 few fits q_some xs

  one_as : (place : Place) (P Q : Pair → Type 0) → ((x : Pair) → P x → Q x) → (xs : List Member) → One place P xs → One place Q xs
  one_as place P Q f xs o = record { x = o.x; station = o.station; holds = f o.x o.holds; same = o.same }

  pub all_blocks : (m : ℕ) → ((b : ℕ) → chunk_total p b ≤ 16 * suc m) → (n b : ℕ) (s : Step) → EndsBlock s → b + suc n ≡ suc blocks → (xs : List Member) → At_ (At s) (Between_ b (suc n)) xs
      → Within (suc n * (1 + suc (suc (2 * m)))) Ended_ xs
  all_blocks m few_chunks zero b s e sum xs r =
      let k = counts b (omega (arith, sum)) in
      let few_ = few_chunks b in
      let total = k.1 in
      let one = one_block b 0 k.0 sum k.1 m (omega (arith, few_, total)) s e xs r in
      more_room (1 + suc (suc (2 * m))) (1 * (1 + suc (suc (2 * m)))) Ended_ xs (omega arith)
      (so (1 + suc (suc (2 * m))) (One (At (Pull b)) (PullDone fields tiles p meta image u blocks good whole chunk_some pull few b 0 k.0)) Ended_ xs
      (λ ys t. record { step = Pull b; ends = tt; c = k.0; held_all = all_of (At (Pull b)) _ ys (one_as (At (Pull b)) _ _ (to_all b k.0 (omega (arith, sum))) ys t) }) one)
  all_blocks m few_chunks (suc n) b s e sum xs r =
      let k = counts b (omega (arith, sum)) in
      let few_ = few_chunks b in
      let total = k.1 in
      let one = one_block b (suc n) k.0 sum k.1 m (omega (arith, few_, total)) s e xs r in
      let both = and_then (1 + suc (suc (2 * m))) (suc n * (1 + suc (suc (2 * m)))) (One (At (Pull b)) (PullDone fields tiles p meta image u blocks good whole chunk_some pull few b (suc n) k.0)) Ended_ xs one
      (λ ys t. all_blocks m few_chunks n (suc b) (Pull b) tt (omega (arith, sum)) ys (all_of (At (Pull b)) _ ys (one_as (At (Pull b)) _ _ (to_between b n k.0) ys t))) in
      more_room ((1 + suc (suc (2 * m))) + suc n * (1 + suc (suc (2 * m)))) (suc (suc n) * (1 + suc (suc (2 * m)))) Ended_ xs (omega arith) both
