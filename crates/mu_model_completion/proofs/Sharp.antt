-- In push with a group, up to sixteen receivers and full blocks, the bound is exact.
use Rattle.std.proofs.Common.{◌≡◌, ◌<◌, ◌≤◌, ◌+◌, ◌-◌, ◌*◌, ◌==◌, ℕ, suc, List, [], ◌∷◌, refl, sym, ap, ◌∙◌, subst, false, Some, arith, map, length}
use Rattle.std.specs.Prelude.{◌≢◌, if◌then◌else◌}
use Rattle.std.specs.List.{AllByRecursion, range_with_len}
use Rattle.std.proofs.lemmas.Bool.{eq-eqb}
use Rattle.mu_model_image.specs.declared.Meta.{Meta}
use Rattle.mu_model_image.specs.Laws.{MetaIsReadBack, FitIsTested}
use Rattle.mu_model_node.specs.declared.NodeConfig.{NodeConfig}
use Rattle.mu_model_client.specs.declared.Sending.{Sending}
use Rattle.mu_model_client.specs.declared.Plan.{Plan}
use Rattle.mu_model_client.specs.Rows.{Row as ShownRow}
use Rattle.mu_model_client.specs.Client.{row_of, Chunks, Sends, chunk_total, block_total}
use Rattle.mu_model_client_laws.specs.Laws.{KeepsPlan, FieldsAreRead}
use Rattle.mu_model_completion.specs.Turn.{Member, settle}
use Rattle.mu_model_completion.specs.Completion.{CanBegin, AllFull, rows_at, rows_in, sixteens, copies, push_turns, applying}
use Rattle.mu_model_completion.proofs.Pairs.{Pair, receiver_in}
use Rattle.mu_model_completion.proofs.Stations.{first_items}
use Rattle.mu_model_completion.proofs.Asking.{Apart, configs}
use Rattle.mu_model_completion.proofs.First.{Good}
use Rattle.mu_model_completion.proofs.Pieces.{lacking_from}
use Rattle.mu_model_completion.proofs.Blocks.{Tiles}
use Rattle.mu_model_completion.proofs.Chunked.{Beginning}
use Rattle.mu_model_completion.proofs.Whole as w
use Rattle.mu_model_completion.proofs.Theorem as t
use Rattle.mu_model_completion.proofs.Theorem.{group_lists}
use Rattle.mu_model_completion.proofs.Exact.{Applied_, IsApplying, applying_exactly}

module _ (laws : KeepsPlan) (fields : FieldsAreRead) (tiles : Tiles) (read : MetaIsReadBack) (tested : FitIsTested) (plan : Plan) (image : List ℕ) (to : List ℕ) (members : List Member)
    (from : CanBegin plan image to members) (push : plan.sending.mode ≡ 1) (group : (plan.sending.group == 0) ≡ false) (few_to : length to ≤ 16) (all_full : AllFull plan.sending) where
  abbrev p : Sending
  p = plan.sending

  abbrev meta : Meta
  meta = plan.meta

  abbrev config : NodeConfig
  config = from.config

  abbrev blocks : ℕ
  blocks = w.blocks laws fields tiles read tested plan image to members from

  abbrev q : ℕ
  q = w.q laws fields tiles read tested plan image to members from

  abbrev cs : List NodeConfig
  cs = w.cs laws fields tiles read tested plan image to members from

  abbrev chunk_some : 0 < p.chunk
  chunk_some = w.chunk_some laws fields tiles read tested plan image to members from

  abbrev whole : length image ≡ p.size
  whole = w.whole laws fields tiles read tested plan image to members from

  abbrev total_is : block_total p ≡ suc blocks
  total_is = w.total_is laws fields tiles read tested plan image to members from

  abbrev good : Good p blocks
  good = w.good laws fields tiles read tested plan image to members from

  abbrev counts : (b : ℕ) → b < suc blocks → (c : ℕ) × (chunk_total p b ≡ suc c)
  counts = w.counts laws fields tiles read tested plan image to members from

  abbrev few : 4 * q < 99
  few = w.few laws fields tiles read tested plan image to members from

  abbrev some : 1 ≤ length cs
  some = w.some laws fields tiles read tested plan image to members from

  abbrev fits : length cs ≤ 16 * q
  fits = w.fits laws fields tiles read tested plan image to members from

  abbrev q_some : 1 ≤ q
  q_some = w.q_some laws fields tiles read tested plan image to members from

  abbrev apart : Apart cs
  apart = w.apart laws fields tiles read tested plan image to members from

  q_one : q ≡ 1
  q_one = let s = from.some in let f = few_to in omega (arith, s, f)

  q_most : q ≤ 1
  q_most = let e = q_one in omega (arith, e)

  some_group : p.group ≢ 0
  some_group e = absurd (grind (arith, sym group ∙ eq-eqb p.group 0 e))

  abbrev mc : ℕ
  mc = t.group_mc laws fields tiles read tested plan image to members from push

  lists : (b n c : ℕ) (total : chunk_total p b ≡ suc c) (bs : List Pair) → AllByRecursion (Beginning laws fields tiles p meta config image blocks good q few whole chunk_some b n c total) bs → configs bs ≡ cs
      → first_items laws p meta config image (Chunks b) bs ≡ map (λ i. Sends p.group b i) (range_with_len 0 (suc c))
  lists b n c total bs h same =
      let l = ap (length {A = NodeConfig}) same in
      let k = t.configs_long laws fields tiles read tested plan image to members from push bs in
      let o = some in
      group_lists p group b c total (lacking_from b (suc n)) bs (t.only_rows laws fields tiles read tested plan image to members from push b n c total bs h) (omega (arith, l, k, o))

  full : (b : ℕ) → b < suc blocks → 16 * mc < chunk_total p b
  full b lt =
      let i = total_is in
      let e = all_full b (omega (arith, lt, i)) in
      let s = t.some_total laws fields tiles read tested plan image to members from push in
      omega (arith, e, s)

  abbrev Applied : ℕ → Pair → Type 0
  Applied c x = Applied_ laws fields tiles p meta config image blocks good whole chunk_some cs apart some q few fits q_some mc counts (t.group_sends laws fields tiles read tested plan image to members from push some_group) (t.pushes laws fields tiles read tested plan image to members from push) q_most lists full c x

  row_is : (c : ℕ) (x : Pair) → Applied c x → row_of x.r ≡ applying x.config.address
  row_is c x h =
      ap row_of h.2.0.r_is
      ∙ ap (λ progress. record { address = x.config.address; index = 0; phase = 6; update_status = 0; transfer_status = 0; progress = progress }) (w.percent laws fields tiles read tested plan image to members from blocks)

  rows_are : (c : ℕ) (qs : List Pair) → AllByRecursion (Applied c) qs → map row_of (map receiver_in qs) ≡ map applying (map (λ (e : NodeConfig). e.address) (configs qs))
  rows_are c [] h = refl
  rows_are c (x ∷ qs) h = cons_same (row_is c x h.0) (rows_are c qs h.1)
    where
      cons_same : {x y : ShownRow} {xs ys : List ShownRow} → x ≡ y → xs ≡ ys → (x ∷ xs) ≡ (y ∷ ys)
      cons_same e f = rw (e, f) refl

  pub takes_all : rows_at config.address (settle (push_turns p (length to) - 1) members) ≡ Some (map applying to)
  takes_all =
      let e = q_one in
      let done = applying_exactly laws fields tiles p meta config image blocks good whole chunk_some cs apart some q few fits q_some mc counts (t.group_sends laws fields tiles read tested plan image to members from push some_group) (t.pushes laws fields tiles read tested plan image to members from push) q_most lists full members (w.first_station laws fields tiles read tested plan image to members from) in
      let s = t.some_total laws fields tiles read tested plan image to members from push in
      let one : suc mc ≡ sixteens (chunk_total p 0) = omega (arith, s) in
      let copy : chunk_total p 0 * copies p (length to) ≡ chunk_total p 0 * 1 = ap (λ z. chunk_total p 0 * (if z then length to else 1)) group in
      let block : 1 + (suc mc + 1) ≡ 2 * q + sixteens (chunk_total p 0 * copies p (length to)) = omega (arith, one, copy, e) in
      let all : suc blocks * (1 + (suc mc + 1)) ≡ block_total p * (2 * q + sixteens (chunk_total p 0 * copies p (length to))) =
      ap (λ k. suc blocks * k) block ∙ ap (λ k. k * (2 * q + sixteens (chunk_total p 0 * copies p (length to)))) (sym total_is) in
      let turns : 4 + (suc blocks * (1 + (suc mc + 1)) + 2) ≡ push_turns p (length to) - 1 = omega (arith, all, e) in
      let there : IsApplying laws fields tiles p meta config image blocks good whole chunk_some cs apart some q few fits q_some mc counts (t.group_sends laws fields tiles read tested plan image to members from push some_group) (t.pushes laws fields tiles read tested plan image to members from push) q_most lists full (settle (push_turns p (length to) - 1) members) =
      subst (λ k. IsApplying laws fields tiles p meta config image blocks good whole chunk_some cs apart some q few fits q_some mc counts (t.group_sends laws fields tiles read tested plan image to members from push some_group) (t.pushes laws fields tiles read tested plan image to members from push) q_most lists full (settle k members)) turns done in
      ap rows_in there.reached.station.holds.updater
      ∙ ap Some (rows_are there.c there.reached.qs there.reached.all ∙ ap (map applying) (ap (λ es. map (λ (e : NodeConfig). e.address) es) there.reached.same ∙ w.configs_address laws fields tiles read tested plan image to members from to from.takes))
