-- What a client's time event makes of a receiver that answers, wherever it stands.
use Rattle.std.proofs.Common.{◌≡◌, ◌⊎◌, inl, inr, ◌<◌, ◌≤◌, ◌+◌, ◌-◌, ◌==◌, ℕ, zero, suc, List, [], ◌∷◌, ◌++◌, refl, sym, ap, ◌∙◌, subst, true, false, Bool, Option, Some, None, arith, map, max, length, cond}
use Rattle.std.specs.Prelude.{not, find, if◌then◌else◌, replicate}
use Rattle.std.specs.List.{flat_map, list_any, range_with_len, AllByRecursion}
use Rattle.mu_model_image.specs.declared.Meta.{Meta}
use Rattle.mu_model_image.specs.Meta.{Image}
use Rattle.mu_model_wire.specs.Reports.{has, every_number, union}
use Rattle.mu_model_node.specs.declared.NodeConfig.{NodeConfig}
use Rattle.mu_model_node.specs.declared.LastBlock.{LastBlock}
use Rattle.mu_model_node.specs.BlobMessages.{BlockGet, PartialBlockReport}
use Rattle.mu_model_node.specs.NodeMessages.{Request, OfBlob, Reply, ByBlob}
use Rattle.mu_model_node.specs.NodeState.{NodeState}
use Rattle.mu_model_client.specs.declared.Sending.{Sending}
use Rattle.mu_model_client.specs.Sets.{below, has_some, set_of}
use Rattle.mu_model_client.specs.Client.{Client, Receiver, is_pending, misses_block, misses_chunks, is_in, is_begun_for, Item, Says, Sends, Update, Place, Before, At, Ended, Applying, Step, Check, Start, Information, Transfer, Block, Chunks, Pull, Get, Verify, Apply, Confirm, Cancel, block_total, chunk_total}
use Rattle.mu_model_client.specs.Lists as l
use Rattle.mu_model_client.specs.Lists.{chunk_items, missing_of, lacking, lacks_chunk, first_list, messages}
use Rattle.mu_model_client.specs.Due as d
use Rattle.mu_model_client.specs.Due.{Due, due, Next, Go, Ends}
use Rattle.mu_model_client_laws.specs.Laws.{KeepsPlan, FieldsAreRead}
use Rattle.mu_model_completion.specs.Answering.{reaches}
use Rattle.mu_model_completion.proofs.Nodes.{Offer}
use Rattle.mu_model_completion.proofs.First.{Good, Pushes, Pulls}
use Rattle.mu_model_completion.proofs.Pieces.{lacking_from, missed_at}
use Rattle.mu_model_completion.proofs.Blocks.{Tiles}
use Rattle.mu_model_completion.proofs.Receivers.{rcv}
use Rattle.mu_model_completion.proofs.Planned.{has_every}
use Rattle.mu_model_completion.proofs.Stations.{begun_place}
use Rattle.mu_model_completion.proofs.Among.{Here, here_mapped, passed_here, first_if, mine, mine_left, AllLeft, AllOf, of_left, has_get, chunks_are_left, own_here, mine_flat}
use Rattle.mu_model_completion.proofs.Hears.{client_in, Stands, tells}
use Rattle.mu_model_completion.proofs.Going as g
use Rattle.mu_model_completion.proofs.Going.{Sent, quiet_due, pull_quiet_due, pulling_due, goes_on_with, asks_for, asked_again, waiting_due, chunks_due, begins, begins_asking}
use Rattle.mu_model_completion.proofs.PullNodes as pn
use Rattle.mu_model_completion.proofs.PullMoments.{IsBlob}
use Rattle.mu_model_completion.proofs.SpotAsks.{by_reply, all_idle, now_heard}
use Rattle.mu_model_completion.proofs.Spots as s
use Rattle.mu_model_completion.proofs.Spots.{IsBetween, Ask, Checks, Starts, Informs, Transfers, Opens, Gets, Verifies, Applies, Confirms, Said, Checked, Started, Informed, Opened, OpenedPull, Verified, Asked, Confirmed, Spot, First, Asking, After, Between, Chunking, Pulling, Over}

-- ---- the least number that passes

false_true : {A : Type 0} → false ≡ true → A
false_true h = absurd (no h)
  where
    no : false ≡ true → ⊥
    no e = grind (arith, e)

next_or : (i j : ℕ) → i ≤ j → (i ≡ j) ⊎ (i + 1 ≤ j)
next_or i j le = grind arith

abbrev some_or : Option ℕ → ℕ
some_or None = 0
some_or (Some b) = b

-- none before it passes
find_before : (t : ℕ → Bool) (n i b : ℕ) → find t (range_with_len i n) ≡ Some b → (j : ℕ) → i ≤ j → j < b → t j ≡ false
find_before t zero i b e j low high = absurd (grind (arith, e))
find_before t (suc n) i b e j low high = by_case (t i) refl e (λ k. find_before t n (i + 1) b k j)
  where
    by_case : (z : Bool) → t i ≡ z → cond z (Some i) (find t (range_with_len (i + 1) n)) ≡ Some b
        → (find t (range_with_len (i + 1) n) ≡ Some b → i + 1 ≤ j → j < b → t j ≡ false) → t j ≡ false
    by_case true h k rest = (let same : i ≡ b = ap some_or k in absurd (omega (arith, same, low, high)))
    by_case false h k rest = elim (next_or i j low) [
      | inl same ↦ ap t (sym same) ∙ h
      | inr more ↦ rest k more high
    ]

find_no : (t : ℕ → Bool) (n i : ℕ) → find t (range_with_len i n) ≡ None → (j : ℕ) → i ≤ j → j < i + n → t j ≡ false
find_no t zero i e j low high = absurd (omega (arith, low, high))
find_no t (suc n) i e j low high = by_case (t i) refl e (λ k. find_no t n (i + 1) k j)
  where
    by_case : (z : Bool) → t i ≡ z → cond z (Some i) (find t (range_with_len (i + 1) n)) ≡ None
        → (find t (range_with_len (i + 1) n) ≡ None → i + 1 ≤ j → j < i + 1 + n → t j ≡ false) → t j ≡ false
    by_case true h k rest = absurd (grind (arith, k))
    by_case false h k rest = elim (next_or i j low) [
      | inl same ↦ ap t (sym same) ∙ h
      | inr more ↦ rest k more (omega (arith, high))
    ]

every_below : (n b : ℕ) → has (replicate n true) b ≡ true → b < n
every_below zero b e = false_true e
every_below (suc n) zero e = omega arith
every_below (suc n) (suc b) e = let h = every_below n b e in omega (arith, h)

-- with k held and n missing, what is missed
pub missed_are : (k n b : ℕ) → has (lacking_from k n) b ≡ true → (k ≤ b) × (b < k + n)
missed_are zero n b e = let h = every_below n b e in (omega arith, omega (arith, h))
missed_are (suc k) n zero e = false_true e
missed_are (suc k) n (suc b) e = let h = missed_are k n b e in let low = h.0 in let high = h.1 in (omega (arith, low), omega (arith, high))

module _ (laws : KeepsPlan) (fields : FieldsAreRead) (tiles : Tiles) (p : Sending) (meta : Meta) (image : List ℕ) (blocks : ℕ) (good : Good p blocks) (whole : length image ≡ p.size) (chunk_some : 0 < p.chunk)
    (capacity : ℕ) (active : Image) (images : List Image) (o : Offer p meta image capacity active) (config : NodeConfig)
    (counts : (b : ℕ) → b < suc blocks → (c : ℕ) × (chunk_total p b ≡ suc c))
    (to : ℕ) (whose : ((p.group == 0) ≡ true × (to ≡ config.address)) ⊎ ((p.group == 0) ≡ false × (to ≡ p.group) × (reaches p.group config ≡ true)))
    (mode : Pushes p ⊎ Pulls p) where
  abbrev a : ℕ
  a = config.address

  abbrev pub Spot_ : Type 0
  Spot_ = Spot laws fields tiles p meta image blocks good whole chunk_some capacity active images o config

  abbrev Ask_ : Type 0
  Ask_ = Ask laws fields tiles p meta image blocks good whole chunk_some capacity active images o config

  abbrev Said_ : Type 0
  Said_ = Said laws fields tiles p meta image blocks good whole chunk_some capacity active images o config

  abbrev pub place_of : Spot_ → Place
  place_of spot = s.place_of laws fields tiles p meta image blocks good whole chunk_some capacity active images o config spot

  abbrev pub row_of : Spot_ → Receiver
  row_of spot = s.row_of laws fields tiles p meta image blocks good whole chunk_some capacity active images o config spot

  abbrev pub NodeNow : Spot_ → NodeState → Type 0
  NodeNow spot n = s.NodeNow laws fields tiles p meta image blocks good whole chunk_some capacity active images o config spot n

  abbrev AskNow : Ask_ → NodeState → Type 0
  AskNow ask n = s.AskNow laws fields tiles p meta image blocks good whole chunk_some capacity active images o config ask n

  abbrev step_of : Ask_ → Step
  step_of ask = s.step_of laws fields tiles p meta image blocks good whole chunk_some capacity active images o config ask

  abbrev said_in : Said_ → Step
  said_in said = s.said_in laws fields tiles p meta image blocks good whole chunk_some capacity active images o config said

  abbrev waiting : Ask_ → List Bool → Receiver
  waiting ask chunks = s.waiting laws fields tiles p meta image blocks good whole chunk_some capacity active images o config ask chunks

  abbrev answered : Said_ → List Bool → Receiver
  answered said chunks = s.answered laws fields tiles p meta image blocks good whole chunk_some capacity active images o config said chunks

  abbrev request_of : Ask_ → Request
  request_of ask = s.request_of laws fields tiles p meta image blocks good whole chunk_some capacity active images o config ask

  abbrev pub ListOf : Spot_ → List Item → Type 0
  ListOf spot list = s.ListOf laws fields tiles p meta image blocks good whole chunk_some capacity active images o config to spot list

  abbrev chunks_to : (k j rem : ℕ) → List Item
  chunks_to k j rem = s.chunks_to laws fields tiles p meta image blocks good whole chunk_some capacity active images o config to k j rem

  abbrev client_ : Place → List Item → (began moment : ℕ) → List Receiver → Client
  client_ place queue began moment rs = client_in laws p meta image config place queue began moment rs

  abbrev Sent_ : Place → Receiver → List Item → Due → Type 0
  Sent_ place r list e = Sent laws p meta image config place r list e

  -- where it stands after a time event, with all that is sent now and later
  pub record Moved (e : Due) (n : NodeState) : Type 0 where
    pub spot : Spot_
    pub list : List Item
    pub sent : Sent_ (place_of spot) (row_of spot) list e
    pub list_is : ListOf spot list
    pub node : NodeNow spot n

  moved : (spot : Spot_) (list : List Item) (e : Due) (n : NodeState) → Sent_ (place_of spot) (row_of spot) list e → ListOf spot list → NodeNow spot n → Moved e n
  moved spot list e n sent list_is node = record { spot = spot; list = list; sent = sent; list_is = list_is; node = node }

  -- ---- it is asked next

  waiting_is : (ask : Ask_) (chunks : List Bool) → ((waiting ask chunks).pending ≡ true) × ((waiting ask chunks).row.address ≡ a)
  waiting_is Checks chunks = (refl, refl)
  waiting_is Starts chunks = (refl, refl)
  waiting_is Informs chunks = (refl, refl)
  waiting_is Transfers chunks = (refl, refl)
  waiting_is (Opens k n c sum total) chunks = (refl, refl)
  waiting_is (Gets k n c sum total) chunks = (refl, refl)
  waiting_is Verifies chunks = (refl, refl)
  waiting_is Applies chunks = (refl, refl)
  waiting_is Confirms chunks = (refl, refl)

  message_is : (ask : Ask_) (chunks : List Bool) → l.step_message p (Update meta true) (step_of ask) (waiting ask chunks) ≡ Some (request_of ask)
  message_is Checks chunks = refl
  message_is Starts chunks = refl
  message_is Informs chunks = refl
  message_is Transfers chunks = refl
  message_is (Opens k n c sum total) chunks = refl
  message_is (Gets k n c sum total) chunks = refl
  message_is Verifies chunks = refl
  message_is Applies chunks = refl
  message_is Confirms chunks = refl

  list_is : (ask : Ask_) (rs : List Receiver) → first_list p (Update meta true) rs (step_of ask) ≡ messages (l.step_message p (Update meta true) (step_of ask)) rs
  list_is Checks rs = refl
  list_is Starts rs = refl
  list_is Informs rs = refl
  list_is Transfers rs = refl
  list_is (Opens k n c sum total) rs = refl
  list_is (Gets k n c sum total) rs = refl
  list_is Verifies rs = refl
  list_is Applies rs = refl
  list_is Confirms rs = refl

  asks_next : (ask : Ask_) (chunks : List Bool) (r : Receiver) → r.row.address ≡ a → is_begun_for (step_of ask) r ≡ true → d.begun (step_of ask) r ≡ waiting ask chunks
      → (place : Place) (queue : List Item) (began moment : ℕ) (rs : List Receiver) → Here config r rs → (n : NodeState) → AskNow ask n
      → Moved (d.goes_on (client_ place queue began moment rs) image (Go (step_of ask))) n
  asks_next ask chunks r at_ begun is place queue began moment rs here n node =
      let w = waiting_is ask chunks in
      let sent = begins_asking laws p meta image config place queue began moment rs r (step_of ask) here begun at_ (list_is ask) in
      let said : l.said_if (d.begun (step_of ask) r) (l.step_message p (Update meta true) (step_of ask) (d.begun (step_of ask) r)) (d.begun (step_of ask) r).pending ≡ Says a (request_of ask) ∷ [] =
      ap (λ x. l.said_if x (l.step_message p (Update meta true) (step_of ask) x) x.pending) is
      ∙ (ap (λ m. l.said_if (waiting ask chunks) m (waiting ask chunks).pending) (message_is ask chunks)
      ∙ (ap (l.said_if (waiting ask chunks) (Some (request_of ask))) w.0 ∙ ap (λ x. Says x (request_of ask) ∷ []) w.1)) in
      let e : Due = d.goes_on (client_ place queue began moment rs) image (Go (step_of ask)) in
      moved (Asking ask chunks) (Says a (request_of ask) ∷ []) e n
      (subst (λ x. Sent_ (At (step_of ask)) x (Says a (request_of ask) ∷ []) e) is (subst (λ list. Sent_ (At (step_of ask)) (d.begun (step_of ask) r) list e) said sent)) refl node

  -- ---- its own chunks begin

  group_gets : (k j : ℕ) (r : Receiver) (rs : List Receiver) → Here config r rs → lacks_chunk missing_of j r ≡ true → l.to_group p.group (lacking missing_of rs j) ≡ p.group ∷ []
  group_gets k j r [] h e = absurd h
  group_gets k j r (x ∷ xs) (inl h) e = ap (λ z. l.to_group p.group (l.lacking_if x.row.address z ++ lacking missing_of xs j)) (ap (lacks_chunk missing_of j) h.0 ∙ e)
  group_gets k j r (x ∷ xs) (inr h) e = by_case (lacks_chunk missing_of j x) (group_gets k j r xs h.1 e)
    where
      by_case : (z : Bool) → l.to_group p.group (lacking missing_of xs j) ≡ p.group ∷ [] → l.to_group p.group (l.lacking_if x.row.address z ++ lacking missing_of xs j) ≡ p.group ∷ []
      by_case true f = refl
      by_case false f = f

  abbrev row_at : (k n c : ℕ) → Receiver
  row_at k n c = rcv a 2 (lacking_from k (suc n)) (every_number (suc c)) true

  chunks_mine : (k n c : ℕ) → chunk_total p k ≡ suc c → (rs : List Receiver) → Here config (row_at k n c) rs → mine config (chunk_items p k missing_of rs) ≡ chunks_to k 0 (suc c)
  chunks_mine k n c total rs here =
      ap (λ m. mine config (flat_map (λ j. map (λ dest. Sends dest k j) (l.destinations p (lacking missing_of rs j))) (range_with_len 0 m))) total
      ∙ mine_flat config (λ j. map (λ dest. Sends dest k j) (l.destinations p (lacking missing_of rs j))) (λ j. Sends to k j) (suc c) 0 (λ j low high. one j (has_every (suc c) j (omega (arith, high))))
    where
      one : (j : ℕ) → has (every_number (suc c)) j ≡ true → mine config (map (λ dest. Sends dest k j) (l.destinations p (lacking missing_of rs j))) ≡ Sends to k j ∷ []
      one j e = elim whose [
        | inl w ↦ ap (λ z. mine config (map (λ dest. Sends dest k j) (if z then lacking missing_of rs j else l.to_group p.group (lacking missing_of rs j)))) w.0
            ∙ (own_here config k j (row_at k n c) rs here (g.reached laws p meta image config (row_at k n c) refl) e ∙ ap (λ dest. Sends dest k j ∷ []) (sym w.1))
        | inr w ↦ ap (λ z. mine config (map (λ dest. Sends dest k j) (if z then lacking missing_of rs j else l.to_group p.group (lacking missing_of rs j)))) w.0
            ∙ (ap (λ tos. mine config (map (λ dest. Sends dest k j) tos)) (group_gets k j (row_at k n c) rs here e)
            ∙ (ap (λ z. first_if config z (Sends p.group k j) []) w.2 ∙ ap (λ dest. Sends dest k j ∷ []) (sym w.1)))
      ]

  chunks_next : (k n c : ℕ) (sum : k + suc n ≡ suc blocks) (total : chunk_total p k ≡ suc c) (pushes : Pushes p) (queue : List Item) (began moment : ℕ) (rs : List Receiver)
      → Here config (rcv a 2 (lacking_from k (suc n)) (every_number (suc c)) false) rs
      → (node : NodeState) → NodeNow (Chunking k n c 0 (suc c) sum total (omega arith) pushes) node
      → Moved (d.goes_on (client_ (At (Block k)) queue began moment rs) image (Go (Chunks k))) node
  chunks_next k n c sum total pushes queue began moment rs here node is =
      let r : Receiver = rcv a 2 (lacking_from k (suc n)) (every_number (suc c)) false in
      moved (Chunking k n c 0 (suc c) sum total (omega arith) pushes) _ _ node (begins laws p meta image config (At (Block k)) queue began moment rs r (Chunks k) here refl)
      (chunks_mine k n c total (map (d.begun (Chunks k)) rs) (here_mapped config (d.begun (Chunks k)) (λ z. begun_place laws p meta config image z (is_in (Chunks k) z)) r rs here)) is

  -- ---- in pull it waits for what it asks for

  pull_next : (k n c : ℕ) (sum : k + suc n ≡ suc blocks) (total : chunk_total p k ≡ suc c) (pulls : Pulls p) (queue : List Item) (began moment : ℕ) (rs : List Receiver)
      → Here config (rcv a 2 (lacking_from k (suc n)) (every_number (suc c)) false) rs
      → Sent_ (At (Pull k)) (row_of (Pulling k n c sum total pulls (every_number (suc c)) refl [] false 0)) [] (d.goes_on (client_ (At (Block k)) queue began moment rs) image (Go (Pull k)))
  pull_next k n c sum total pulls queue began moment rs here =
      begins_asking laws p meta image config (At (Block k)) queue began moment rs (rcv a 2 (lacking_from k (suc n)) (every_number (suc c)) false) (Pull k) here refl refl (λ xs. refl)

  -- ---- it isn't in what begins

  abbrev between_row : (k n : ℕ) → List Bool → Bool → ℕ → Receiver
  between_row k n chunks heard silent = record (rcv a 2 (lacking_from k n) chunks false) { heard = heard; silent = silent }

  module _ (k n : ℕ) (sum : k + n ≡ suc blocks) (chunks : List Bool) (without : has_some chunks ≡ false) (heard : Bool) (silent : ℕ) (node : NodeState)
      (holds : (before : Option LastBlock) × s.HoldsNow laws fields tiles p meta image blocks good whole chunk_some capacity active images o config k n before node)
      (place : Place) (queue : List Item) (began moment : ℕ) (rs : List Receiver) (here : Here config (between_row k n chunks heard silent) rs) where
    abbrev row : Receiver
    row = between_row k n chunks heard silent

    abbrev Moves : d.Next → Type 0
    Moves next = Moved (d.goes_on (client_ place queue began moment rs) image next) node

    begins_other : (step : Step) (is : IsBetween step) → is_in step row ≡ false → is_begun_for step row ≡ true
        → ((xs : List Receiver) → first_list p (Update meta true) xs step ≡ messages (l.step_message p (Update meta true) step) xs) → Moves (Go step)
    begins_other step is out some list =
        let sent = begins_asking laws p meta image config place queue began moment rs row step here some refl list in
        let begun : d.begun step row ≡ between_row k n chunks false silent = ap (d.begun_if row) out in
        let said : l.said_if (d.begun step row) (l.step_message p (Update meta true) step (d.begun step row)) (d.begun step row).pending ≡ [] =
        ap (λ x. l.said_if x (l.step_message p (Update meta true) step x) x.pending) begun in
        let e : Due = d.goes_on (client_ place queue began moment rs) image (Go step) in
        moved (Between step is k n sum chunks without false silent) [] e node
        (subst (λ x. Sent_ (At step) x [] e) begun (subst (λ items. Sent_ (At step) (d.begun step row) items e) said sent)) tt holds

    out_of_chunks : misses_chunks row ≡ false
    out_of_chunks = without

    -- chunks of a block that it holds
    other_chunks : (b : ℕ) → Moves (Go (Chunks b))
    other_chunks b =
        let begun : d.begun (Chunks b) row ≡ between_row k n chunks false silent = ap (d.begun_if row) out_of_chunks in
        moved (Between (Chunks b) tt k n sum chunks without false silent) _ _ node
        (subst (λ x. Sent_ (At (Chunks b)) x (mine config (first_list p (Update meta true) (map (d.begun (Chunks b)) rs) (Chunks b))) (d.goes_on (client_ place queue began moment rs) image (Go (Chunks b)))) begun
        (begins laws p meta image config place queue began moment rs row (Chunks b) here refl))
        (mine_left config _ (chunks_are_left config p b missing_of (map (d.begun (Chunks b)) rs))) holds

    other_get : (b : ℕ) → Moves (Go (Get b))
    other_get b = begins_other (Get b) tt out_of_chunks refl (λ xs. refl)

    other_pull : (b : ℕ) → Moves (Go (Pull b))
    other_pull b = begins_other (Pull b) tt out_of_chunks refl (λ xs. refl)

    -- ---- the next block

    abbrev missed : ℕ → Bool
    missed = d.is_missed rs

    its_missed : (j : ℕ) → has (lacking_from k n) j ≡ true → missed j ≡ true
    its_missed j e = passed_here config (misses_block j) row rs here e

    to_verify : (m : ℕ) → n ≡ m → find missed (below (block_total p)) ≡ None → Moves (Go Verify)
    to_verify zero e none =
        let at_end : k ≡ suc blocks = omega (arith, sum, e) in
        asks_next Verifies chunks row refl refl (ap (λ i. rcv a 2 (lacking_from i n) chunks true) at_end ∙ ap (λ i. rcv a 2 (lacking_from (suc blocks) i) chunks true) e) place queue began moment rs here node
        (subst (λ i. (before : Option LastBlock) × s.HoldsNow laws fields tiles p meta image blocks good whole chunk_some capacity active images o config k i before node) e holds)
    to_verify (suc m) e none =
        let t = good.total in
        let own : missed k ≡ true = its_missed k (ap (λ i. has (lacking_from k i) k) e ∙ missed_at k m) in
        false_true (sym (find_no missed (block_total p) 0 none k (omega arith) (omega (arith, sum, e, t))) ∙ own)

    -- the least block that is missed is its own
    its_block : (b : ℕ) → find missed (below (block_total p)) ≡ Some b → has (lacking_from k n) b ≡ true → Moves (Go (Block b))
    its_block b least e =
        let within = missed_are k n b e in
        let low = within.0 in
        let high = within.1 in
        elim (next_or k b low) [
          | inl same ↦ subst (λ i. Moves (Go (Block i))) same (own (n - 1) (omega (arith, high, same)))
          | inr more ↦ false_true (sym (find_before missed (block_total p) 0 b least k (omega arith) (omega (arith, more))) ∙ its_missed k (first_missed k n (omega (arith, more, high))))
        ]
      where
        first_missed : (k n : ℕ) → 0 < n → has (lacking_from k n) k ≡ true
        first_missed k zero lt = absurd (omega (arith, lt))
        first_missed k (suc n) lt = missed_at k n

        own : (m : ℕ) → n ≡ suc m → Moves (Go (Block k))
        own m e =
            let whole_sum : k + suc m ≡ suc blocks = omega (arith, sum, e) in
            let c = counts k (omega (arith, whole_sum)) in
            asks_next (Opens k m c.0 whole_sum c.1) chunks row refl refl
            (ap (λ i. d.begun (Block k) (between_row k i chunks heard silent)) e ∙ ap (d.begun_if (between_row k (suc m) chunks heard silent)) (missed_at k m)) place queue began moment rs here node
            (subst (λ i. (before : Option LastBlock) × s.HoldsNow laws fields tiles p meta image blocks good whole chunk_some capacity active images o config k i before node) e holds)

    by_block : (b : ℕ) → find missed (below (block_total p)) ≡ Some b → (its : Bool) → has (lacking_from k n) b ≡ its → Moves (Go (Block b))
    by_block b least true e = its_block b least e
    by_block b least false e = begins_other (Block b) tt e refl (λ xs. refl)

    by_least : (least : Option ℕ) → find missed (below (block_total p)) ≡ least → Moves (d.block_or (Go Verify) least)
    by_least None e = to_verify n refl e
    by_least (Some b) e = by_block b e (has (lacking_from k n) b) refl

    next_block : Moves (d.next_block p (Update meta true) rs)
    next_block = by_least (d.least_missed p rs) refl

    chunks_or : (b : ℕ) (step : Step) (some : Bool) → Moves (Go step) → Moves (if some then Go step else d.next_block p (Update meta true) rs)
    chunks_or b step true begins = begins
    chunks_or b step false begins = next_block

    by_mode : (b : ℕ) → (m : Pushes p ⊎ Pulls p) → Moves (Go (d.chunk_step p b))
    by_mode b (inl pushes) = subst (λ step. Moves (Go step)) (sym (ap (λ z. if z then Chunks b else Pull b) pushes.push)) (other_chunks b)
    by_mode b (inr pulls) = subst (λ step. Moves (Go step)) (sym (ap (λ z. if z then Chunks b else Pull b) pulls.no_push)) (other_pull b)

    between_next : (step : Step) → IsBetween step → Moves (d.after p (Update meta true) rs step)
    between_next Transfer is = next_block
    between_next (Block b) is = chunks_or b (d.chunk_step p b) (list_any misses_chunks rs) (by_mode b mode)
    between_next (Chunks b) is = other_get b
    between_next (Get b) is = chunks_or b (Chunks b) (list_any misses_chunks rs) (other_chunks b)
    between_next (Pull b) is = next_block
    between_next Check is = absurd is
    between_next Start is = absurd is
    between_next Information is = absurd is
    between_next Verify is = absurd is
    between_next Apply is = absurd is
    between_next Confirm is = absurd is
    between_next Cancel is = absurd is

  -- ---- at each spot

  abbrev Stands_ : Place → List Item → Receiver → Client → Type 0
  Stands_ place queue r c = Stands laws p meta image config place queue r c

  asks_count : (ask : Ask_) (c : Client) → d.is_done c (step_of ask) ≡ not (list_any is_pending c.receivers)
  asks_count Checks c = refl
  asks_count Starts c = refl
  asks_count Informs c = refl
  asks_count Transfers c = refl
  asks_count (Opens k n m sum total) c = refl
  asks_count (Gets k n m sum total) c = refl
  asks_count Verifies c = refl
  asks_count Applies c = refl
  asks_count Confirms c = refl

  said_sent : (said : Said_) (c : Client) → d.list_is_sent c image (said_in said) ≡ d.by_round c image (said_in said)
  said_sent Checked c = refl
  said_sent Started c = refl
  said_sent Informed c = refl
  said_sent (Opened k n m sum total pushes) c = refl
  said_sent (OpenedPull k n m sum total pulls) c = refl
  said_sent Verified c = refl
  said_sent Asked c = refl
  said_sent Confirmed c = refl

  said_is : (said : Said_) (chunks : List Bool) → ((answered said chunks).row.address ≡ a) × ((answered said chunks).pending ≡ false) × (d.unheard (answered said chunks) ≡ answered said chunks)
  said_is Checked chunks = (refl, refl, refl)
  said_is Started chunks = (refl, refl, refl)
  said_is Informed chunks = (refl, refl, refl)
  said_is (Opened k n m sum total pushes) chunks = (refl, refl, refl)
  said_is (OpenedPull k n m sum total pulls) chunks = (refl, refl, refl)
  said_is Verified chunks = (refl, refl, refl)
  said_is Asked chunks = (refl, refl, refl)
  said_is Confirmed chunks = (refl, refl, refl)

  abbrev SaidNow : Said_ → NodeState → Type 0
  SaidNow said n = s.SaidNow laws fields tiles p meta image blocks good whole chunk_some capacity active images o config said n

  to_pull : (k m c : ℕ) → k + suc m ≡ suc blocks → chunk_total p k ≡ suc c → Pulls p → (rs : List Receiver) → Here config (rcv a 2 (lacking_from k (suc m)) (every_number (suc c)) false) rs
      → d.after p (Update meta true) rs (Block k) ≡ Go (Pull k)
  to_pull k m c sum total pulls rs here =
      ap (λ z. if z then Go (d.chunk_step p k) else d.next_block p (Update meta true) rs) (passed_here config misses_chunks (rcv a 2 (lacking_from k (suc m)) (every_number (suc c)) false) rs here refl)
      ∙ ap (λ z. Go (if z then Chunks k else Pull k)) pulls.no_push

  -- once all have answered
  said_next : (said : Said_) (chunks : List Bool) (queue : List Item) (began moment : ℕ) (rs : List Receiver) → Here config (answered said chunks) rs → (n : NodeState) → SaidNow said n
      → Moved (d.goes_on (client_ (At (said_in said)) queue began moment rs) image (d.after p (Update meta true) rs (said_in said))) n
  said_next Checked chunks queue began moment rs here n node = asks_next Starts chunks _ refl refl refl (At Check) queue began moment rs here n node
  said_next Started chunks queue began moment rs here n node = asks_next Informs chunks _ refl refl refl (At Start) queue began moment rs here n node
  said_next Informed chunks queue began moment rs here n node = asks_next Transfers chunks _ refl refl refl (At Information) queue began moment rs here n node
  said_next (Opened k m c sum total pushes) chunks queue began moment rs here n node =
      let misses : list_any misses_chunks rs ≡ true = passed_here config misses_chunks (answered (Opened k m c sum total pushes) chunks) rs here refl in
      subst (λ next. Moved (d.goes_on (client_ (At (Block k)) queue began moment rs) image next) n)
      (sym (ap (λ z. if z then Go (d.chunk_step p k) else d.next_block p (Update meta true) rs) misses ∙ ap (λ z. Go (if z then Chunks k else Pull k)) pushes.push))
      (chunks_next k m c sum total pushes queue began moment rs here n node)
  said_next (OpenedPull k m c sum total pulls) chunks queue began moment rs here n node =
      subst (λ next. Moved (d.goes_on (client_ (At (Block k)) queue began moment rs) image next) n) (sym (to_pull k m c sum total pulls rs here))
      (moved (Pulling k m c sum total pulls (every_number (suc c)) refl [] false 0) [] _ n (pull_next k m c sum total pulls queue began moment rs here) (tt, inl refl) node)
  said_next Verified chunks queue began moment rs here n node = asks_next Applies chunks _ refl refl refl (At Verify) queue began moment rs here n node
  said_next Asked chunks queue began moment rs here n node = asks_next Confirms chunks _ refl refl refl (At Apply) queue began moment rs here n node
  said_next Confirmed chunks queue began moment rs here n node =
      moved (Over chunks) [] _ n (record { items = []; queue = []; began = began; moment = moment; rs = rs; next_is = refl; packets_are = refl; here = here; split = refl }) refl node

  module _ (now : ℕ) (c : Client) (queue : List Item) (n : NodeState) where
    after_moved : (said : Said_) (chunks : List Bool) → Stands_ (At (said_in said)) queue (answered said chunks) c → mine config queue ≡ [] → SaidNow said n → Moved (due c image now) n
    after_moved said chunks stands list node =
        let f = said_is said chunks in
        elim (quiet_due laws p meta image config (said_in said) (answered said chunks) f.0 f.1 (said_sent said) queue c now stands) [
          | inl (inl sent) ↦ moved (After said chunks) (mine config queue) (due c image now) n sent list node
          | inl (inr sent) ↦ moved (After said chunks) (mine config queue) (due c image now) n (subst (λ x. Sent_ (At (said_in said)) x (mine config queue) (due c image now)) f.2 sent) list node
          | inr next ↦ subst (λ e. Moved e n) (sym next.goes) (said_next said chunks next.queue next.began next.moment next.rs next.here n node)
        ]

    module _ (k m : ℕ) (sum : k + m ≡ suc blocks) (chunks : List Bool) (without : has_some chunks ≡ false) (heard : Bool) (silent : ℕ)
        (holds : (before : Option LastBlock) × s.HoldsNow laws fields tiles p meta image blocks good whole chunk_some capacity active images o config k m before n) (list : AllLeft config (mine config queue)) where
      -- a new round may have begun
      stays_between : (step : Step) (is : IsBetween step) → g.Stays laws p meta image config step (between_row k m chunks heard silent) (mine config queue) (due c image now) → Moved (due c image now) n
      stays_between step is (inl e) = moved (Between step is k m sum chunks without heard silent) (mine config queue) (due c image now) n e list holds
      stays_between step is (inr e) = moved (Between step is k m sum chunks without false silent) (mine config queue) (due c image now) n e list holds

      goes_between : (step : Step) → IsBetween step → g.Next laws p meta image config step (between_row k m chunks heard silent) (due c image now) → Moved (due c image now) n
      goes_between step is next =
          subst (λ e. Moved e n) (sym next.goes) (between_next k m sum chunks without heard silent n holds (At step) next.queue next.began next.moment next.rs next.here step is)

      quiet_moved : (step : Step) (is : IsBetween step) → ((z : Client) → d.list_is_sent z image step ≡ d.by_round z image step) → Stands_ (At step) queue (between_row k m chunks heard silent) c → Moved (due c image now) n
      quiet_moved step is sent stands =
          elim (quiet_due laws p meta image config step (between_row k m chunks heard silent) refl refl sent queue c now stands) [
            | inl e ↦ stays_between step is e
            | inr next ↦ goes_between step is next
          ]

      between_moved : (step : Step) → IsBetween step → Stands_ (At step) queue (between_row k m chunks heard silent) c → Moved (due c image now) n
      between_moved Transfer is stands = quiet_moved Transfer is (λ z. refl) stands
      between_moved (Block b) is stands = quiet_moved (Block b) is (λ z. refl) stands
      between_moved (Get b) is stands = quiet_moved (Get b) is (λ z. refl) stands
      between_moved (Chunks b) is stands =
          elim (chunks_due laws p meta image config b (between_row k m chunks heard silent) queue c now stands) [
            | inl e ↦ stays_between (Chunks b) tt (inl e)
            | inr next ↦ goes_between (Chunks b) tt next.1
          ]
      between_moved (Pull b) is stands =
          elim (pull_quiet_due laws p meta image config b (between_row k m chunks heard silent) refl refl refl queue c now stands) [
            | inl (inl e) ↦ stays_between (Pull b) tt e
            | inl (inr e) ↦ moved (Between (Pull b) tt k m sum chunks without heard silent) e.0 (due c image now) n e.2 (of_left config b e.0 e.1) holds
            | inr next ↦ goes_between (Pull b) tt next
          ]
      between_moved Check is stands = absurd is
      between_moved Start is stands = absurd is
      between_moved Information is stands = absurd is
      between_moved Verify is stands = absurd is
      between_moved Apply is stands = absurd is
      between_moved Confirm is stands = absurd is
      between_moved Cancel is stands = absurd is

    -- all its chunks are sent: it is asked what it misses
    gets_next : (k m e j rem : ℕ) (sum : k + suc m ≡ suc blocks) (total : chunk_total p k ≡ suc e) (all : j + rem ≡ suc e) (pushes : Pushes p) → [] ≡ chunks_to k j rem → NodeNow (Chunking k m e j rem sum total all pushes) n
        → (began moment : ℕ) (list : List Item) (rs : List Receiver) → Here config (row_at k m e) rs → Moved (d.goes_on (client_ (At (Chunks k)) list began moment rs) image (Go (Get k))) n
    gets_next k m e j (suc rem) sum total all pushes none node began moment list rs here = absurd (grind (arith, none))
    gets_next k m e j zero sum total all pushes none node began moment list rs here = asks_next (Gets k m e sum total) [] (row_at k m e) refl refl refl (At (Chunks k)) list began moment rs here n node

    chunking_moved : (k m e j rem : ℕ) (sum : k + suc m ≡ suc blocks) (total : chunk_total p k ≡ suc e) (all : j + rem ≡ suc e) (pushes : Pushes p) → Stands_ (At (Chunks k)) queue (row_at k m e) c → mine config queue ≡ chunks_to k j rem
        → NodeNow (Chunking k m e j rem sum total all pushes) n → Moved (due c image now) n
    chunking_moved k m e j rem sum total all pushes stands list node =
        elim (chunks_due laws p meta image config k (row_at k m e) queue c now stands) [
          | inl sent ↦ moved (Chunking k m e j rem sum total all pushes) (mine config queue) (due c image now) n sent list node
          | inr next ↦ subst (λ z. Moved z n) (sym next.1.goes)
              (gets_next k m e j rem sum total all pushes (sym (ap (mine config) next.0) ∙ list) node next.1.began next.1.moment next.1.queue next.1.rs next.1.here)
        ]

    first_moved : Stands_ (Before Check) queue (rcv a 10 [] [] false) c → NodeNow First n → Moved (due c image now) n
    first_moved stands node =
        subst (λ z. Moved (due z image now) n) (sym stands.is)
        (asks_next Checks [] (rcv a 10 [] [] false) refl refl refl (Before Check) queue stands.began (max stands.moment now) stands.rs stands.here n node)

    over_moved : (chunks : List Bool) → Stands_ (Ended Applying) queue (row_of (Over chunks)) c → mine config queue ≡ [] → NodeNow (Over chunks) n → Moved (due c image now) n
    over_moved chunks stands list node =
        subst (λ z. Moved (due z image now) n) (sym stands.is)
        (moved (Over chunks) (mine config queue) _ n
        (record { items = []; queue = queue; began = stands.began; moment = max stands.moment now; rs = stands.rs; next_is = refl; packets_are = refl; here = stands.here; split = refl }) list node)

    -- ---- with what its node says in time

    abbrev tells_ : Place → List (ℕ × Reply) → Receiver → Receiver
    tells_ place replies r = tells laws p meta image config place replies r

    pub record Heard (replies : List (ℕ × Reply)) : Type 0 where
      pub place : Place
      pub row : Receiver
      pub at_ : row.row.address ≡ a
      pub list : List Item
      pub sent : Sent_ place row list (due c image now)
      pub spot : Spot_
      pub place_is : place_of spot ≡ place
      pub told : tells_ place replies row ≡ row_of spot
      pub list_is : ListOf spot list
      pub node : NodeNow spot n

    row_address : (spot : Spot_) → (row_of spot).row.address ≡ a
    row_address First = refl
    row_address (Asking ask chunks) = (waiting_is ask chunks).1
    row_address (After said chunks) = (said_is said chunks).0
    row_address (Between step is k m sum chunks without heard silent) = refl
    row_address (Chunking k m e j rem sum total all pushes) = refl
    row_address (Pulling k m e sum total pulls chunks some wanted heard silent) = refl
    row_address (Over chunks) = refl

    none_heard : (replies : List (ℕ × Reply)) → replies ≡ [] → Moved (due c image now) n → Heard replies
    none_heard replies none m =
        record { place = place_of m.spot; row = row_of m.spot; at_ = row_address m.spot; list = m.list; sent = m.sent; spot = m.spot; place_is = refl; told = ap (λ z. tells_ (place_of m.spot) z (row_of m.spot)) none; list_is = m.list_is; node = m.node }

    abbrev MayReport : ℕ → List (ℕ × Reply) → Type 0
    MayReport e replies = s.MayReport laws fields tiles p meta image blocks good whole chunk_some capacity active images o config e replies

    abbrev PullIn : (k m e : ℕ) → Type 0
    PullIn k m e = s.PullIn laws fields tiles p meta image blocks good whole chunk_some capacity active images o config k m e n

    -- a report at one that waits in pull
    report_heard : (k m e : ℕ) (sum : k + suc m ≡ suc blocks) (total : chunk_total p k ≡ suc e) (pulls : Pulls p) (chunks : List Bool) (some : has_some chunks ≡ true) (wanted : List Bool) (heard : Bool) (silent : ℕ)
        → (list : List Item) → Sent_ (At (Pull k)) (row_of (Pulling k m e sum total pulls chunks some wanted heard silent)) list (due c image now) → AllOf config k list → s.IsHeard laws fields tiles p meta image blocks good whole chunk_some capacity active images o config heard silent list
        → PullIn k m e → (replies : List (ℕ × Reply)) → MayReport e replies → Heard replies
    report_heard k m e sum total pulls chunks some wanted heard silent list sent all fresh node replies (inl none) =
        none_heard replies none (moved (Pulling k m e sum total pulls chunks some wanted heard silent) list (due c image now) n sent (all, fresh) node)
    report_heard k m e sum total pulls chunks some wanted heard silent list sent all fresh node replies (inr r) = record {
      place = At (Pull k);
      row = row_of (Pulling k m e sum total pulls chunks some wanted heard silent);
      at_ = refl;
      list = list;
      sent = sent;
      spot = Pulling k m e sum total pulls chunks some (union (set_of (suc e) r.0) wanted) true silent;
      place_is = refl;
      told =
          by_reply laws fields tiles p meta image blocks good whole chunk_some capacity active images o config (At (Pull k)) (ByBlob (PartialBlockReport r.0)) (row_of (Pulling k m e sum total pulls chunks some wanted heard silent)) replies r.2
          ∙ pn.told_some p meta a k (suc e) (lacking_from k (suc m)) chunks wanted heard silent r.0 total r.1;
      list_is = (all, now_heard laws fields tiles p meta image blocks good whole chunk_some capacity active images o config heard silent list list fresh);
      node = node;
    }

    -- at one that has answered the block's begin
    opened_heard : (k m e : ℕ) (sum : k + suc m ≡ suc blocks) (total : chunk_total p k ≡ suc e) (pulls : Pulls p) (chunks : List Bool)
        → Stands_ (At (Block k)) queue (answered (OpenedPull k m e sum total pulls) chunks) c → mine config queue ≡ [] → PullIn k m e → (replies : List (ℕ × Reply)) → MayReport e replies → Heard replies
    opened_heard k m e sum total pulls chunks stands list node replies said =
        elim (quiet_due laws p meta image config (Block k) (answered (OpenedPull k m e sum total pulls) chunks) refl refl (λ z. refl) queue c now stands) [
          | inl (inl sent) ↦ idle sent
          | inl (inr sent) ↦ idle sent
          | inr next ↦ report_heard k m e sum total pulls (every_number (suc e)) refl [] false 0 []
              (subst (λ d. Sent_ (At (Pull k)) (row_of (Pulling k m e sum total pulls (every_number (suc e)) refl [] false 0)) [] d)
              (sym (next.goes ∙ ap (λ z. d.goes_on (client_ (At (Block k)) next.queue next.began next.moment next.rs) image z) (to_pull k m e sum total pulls next.rs next.here)))
              (pull_next k m e sum total pulls next.queue next.began next.moment next.rs next.here)) tt (inl refl) node replies said
        ]
      where
        blob : MayReport e replies → AllByRecursion IsBlob replies
        blob (inl none) = subst (AllByRecursion IsBlob) (sym none) tt
        blob (inr r) = subst (AllByRecursion IsBlob) (sym r.2) (tt, tt)

        idle : Sent_ (At (Block k)) (answered (OpenedPull k m e sum total pulls) chunks) (mine config queue) (due c image now) → Heard replies
        idle sent = record {
          place = At (Block k);
          row = answered (OpenedPull k m e sum total pulls) chunks;
          at_ = refl;
          list = mine config queue;
          sent = sent;
          spot = After (OpenedPull k m e sum total pulls) chunks;
          place_is = refl;
          told = all_idle laws fields tiles p meta image blocks good whole chunk_some capacity active images o config (At (Block k)) replies (answered (OpenedPull k m e sum total pulls) chunks) (blob said) refl;
          list_is = list;
          node = node;
        }

    -- and at one that waits
    module _ (k m e : ℕ) (sum : k + suc m ≡ suc blocks) (total : chunk_total p k ≡ suc e) (pulls : Pulls p) (chunks : List Bool) (some : has_some chunks ≡ true) (wanted : List Bool) where
      abbrev pull_row : Bool → ℕ → Receiver
      pull_row heard silent = row_of (Pulling k m e sum total pulls chunks some wanted heard silent)

      no_get : {B : Type 0} → false ≡ true → B
      no_get h = absurd (grind (arith, h))

      pulling_heard : (heard : Bool) (silent : ℕ) → Stands_ (At (Pull k)) queue (pull_row heard silent) c → AllOf config k (mine config queue) → s.IsHeard laws fields tiles p meta image blocks good whole chunk_some capacity active images o config heard silent (mine config queue)
          → PullIn k m e → (replies : List (ℕ × Reply)) → MayReport e replies → Heard replies
      pulling_heard true silent stands all fresh node replies said =
          elim (pulling_due laws p meta image config k (pull_row true silent) refl refl refl queue c now stands) [
            | goes_on_with sent ↦ report_heard k m e sum total pulls chunks some wanted true silent (mine config queue) sent all fresh node replies said
            | asks_for none list of_it sent ↦ report_heard k m e sum total pulls chunks some [] true silent list sent of_it (now_heard laws fields tiles p meta image blocks good whole chunk_some capacity active images o config true silent (mine config queue) list fresh) node replies said
            | asked_again none sent ↦ report_heard k m e sum total pulls chunks some wanted false 0 [] sent tt (inl refl) node replies said
          ]
      pulling_heard false silent stands all (inl zero_silent) node replies said = by_zero silent zero_silent stands
        where
          by_zero : (silent : ℕ) → silent ≡ 0 → Stands_ (At (Pull k)) queue (pull_row false silent) c → Heard replies
          by_zero silent z stands =
              let here : Stands_ (At (Pull k)) queue (pull_row false 0) c = subst (λ i. Stands_ (At (Pull k)) queue (pull_row false i) c) z stands in
              elim (pulling_due laws p meta image config k (pull_row false 0) refl refl refl queue c now here) [
                | goes_on_with sent ↦ report_heard k m e sum total pulls chunks some wanted false 0 (mine config queue) sent all (inl refl) node replies said
                | asks_for none list of_it sent ↦ report_heard k m e sum total pulls chunks some [] false 0 list sent of_it (inl refl) node replies said
                | asked_again none sent ↦ report_heard k m e sum total pulls chunks some wanted false 1 (Says a (OfBlob BlockGet) ∷ []) sent (refl, tt) (inr (refl, inr refl)) node replies said
              ]
      pulling_heard false silent stands all (inr (one, inl h)) node replies said = no_get h
      pulling_heard false silent stands all (inr (one, inr h)) node replies said =
          let here : Stands_ (At (Pull k)) queue (pull_row false 1) c = subst (λ i. Stands_ (At (Pull k)) queue (pull_row false i) c) one stands in
          elim (pulling_due laws p meta image config k (pull_row false 1) refl refl refl queue c now here) [
            | goes_on_with sent ↦ report_heard k m e sum total pulls chunks some wanted false 1 (mine config queue) sent all (inr (refl, inr h)) node replies said
            | asks_for none list of_it sent ↦ no_get (sym (ap (λ items. has_get config (mine config items)) none) ∙ h)
            | asked_again none sent ↦ no_get (sym (ap (λ items. has_get config (mine config items)) none) ∙ h)
          ]

    said_heard : (said : Said_) (chunks : List Bool) → Stands_ (At (said_in said)) queue (answered said chunks) c → mine config queue ≡ [] → SaidNow said n → (replies : List (ℕ × Reply)) → s.SaidReplies laws fields tiles p meta image blocks good whole chunk_some capacity active images o config said replies → Heard replies
    said_heard (OpenedPull k m e sum total pulls) chunks stands list node replies said = opened_heard k m e sum total pulls chunks stands list node replies said
    said_heard Checked chunks stands list node replies said = none_heard replies said (after_moved Checked chunks stands list node)
    said_heard Started chunks stands list node replies said = none_heard replies said (after_moved Started chunks stands list node)
    said_heard Informed chunks stands list node replies said = none_heard replies said (after_moved Informed chunks stands list node)
    said_heard (Opened k m e sum total pushes) chunks stands list node replies said = none_heard replies said (after_moved (Opened k m e sum total pushes) chunks stands list node)
    said_heard Verified chunks stands list node replies said = none_heard replies said (after_moved Verified chunks stands list node)
    said_heard Asked chunks stands list node replies said = none_heard replies said (after_moved Asked chunks stands list node)
    said_heard Confirmed chunks stands list node replies said = none_heard replies said (after_moved Confirmed chunks stands list node)

    pub spot_heard : (spot : Spot_) → Stands_ (place_of spot) queue (row_of spot) c → ListOf spot (mine config queue) → NodeNow spot n → (replies : List (ℕ × Reply)) → s.Replied laws fields tiles p meta image blocks good whole chunk_some capacity active images o config spot replies → Heard replies
    spot_heard First stands list node replies said = none_heard replies said (first_moved stands node)
    spot_heard (Asking ask chunks) stands list node replies said =
        none_heard replies said (moved (Asking ask chunks) (mine config queue) (due c image now) n
        (waiting_due laws p meta image config (step_of ask) (waiting ask chunks) (waiting_is ask chunks).0 (asks_count ask) (Says a (request_of ask)) queue list c now stands) list node)
    spot_heard (After said chunks) stands list node replies reply = said_heard said chunks stands list node replies reply
    spot_heard (Between step is k m sum chunks without heard silent) stands list node replies said = none_heard replies said (between_moved k m sum chunks without heard silent node list step is stands)
    spot_heard (Chunking k m e j rem sum total all pushes) stands list node replies said = none_heard replies said (chunking_moved k m e j rem sum total all pushes stands list node)
    spot_heard (Pulling k m e sum total pulls chunks some wanted heard silent) stands list node replies said = pulling_heard k m e sum total pulls chunks some wanted heard silent stands list.0 list.1 node replies said
    spot_heard (Over chunks) stands list node replies said = none_heard replies said (over_moved chunks stands list node)
