-- The end of an update: verifying, applying, confirming, and all turns after it.
use Rattle.std.proofs.Common.{◌≡◌, ◌⊎◌, inl, inr, ◌<◌, ◌≤◌, ◌+◌, ◌*◌, ℕ, zero, suc, List, [], ◌∷◌, refl, ap, ◌∙◌, subst, true, false, Bool, Option, Some, arith, map, max, length}
use Rattle.std.specs.Prelude.{◌||◌, not}
use Rattle.std.specs.List.{list_any, AllByRecursion}
use Rattle.mu_model_image.specs.declared.Meta.{Meta}
use Rattle.mu_model_wire.specs.Reports.{no_number}
use Rattle.mu_model_node.specs.declared.NodeConfig.{NodeConfig}
use Rattle.mu_model_node.specs.declared.LastBlock.{LastBlock}
use Rattle.mu_model_node.specs.NodeMessages.{OfUpdate}
use Rattle.mu_model_node.specs.UpdateMessages.{UpdateGet, UpdateApply, InformationGet}
use Rattle.mu_model_node.specs.Slots.{Slots, is_full, joined}
use Rattle.mu_model_client.specs.declared.Sending.{Sending}
use Rattle.mu_model_client.specs.Client.{Client, Receiver, is_active, misses_chunks, misses_block, Update, Place, Before, At, Ended, Applying, Step, Check, Transfer, Verify, Apply, Confirm, block_total}
use Rattle.mu_model_client.specs.Due as d
use Rattle.mu_model_client.specs.Due.{Due, due, Go}
use Rattle.mu_model_client_laws.specs.Laws.{KeepsPlan, FieldsAreRead}
use Rattle.mu_model_completion.specs.Turn.{Member, turn, settle}
use Rattle.mu_model_completion.proofs.Pairs.{Pair, receiver_in, pair_time, turned}
use Rattle.mu_model_completion.proofs.Receivers.{none_some}
use Rattle.mu_model_completion.proofs.Stations.{Within, and_then, so, client_at, Station, begins}
use Rattle.mu_model_completion.proofs.Asking.{Apart, configs}
use Rattle.mu_model_completion.proofs.First.{Good, Row, Runs, TransferD}
use Rattle.mu_model_completion.proofs.Pieces.{lacking_from, none_missed, find_none, full}
use Rattle.mu_model_completion.proofs.Blocks.{Tiles, held_of, last_of, blk, IsVerified, Sealing, image_joined}
use Rattle.mu_model_completion.proofs.Last.{VerifyW, VerifyD, verify_asking, IsActive, Applies, ApplyW, ApplyD, apply_asking, ConfirmW, ConfirmD, confirm_asking, applies_later}
use Rattle.mu_model_completion.proofs.Course.{Reached, Answered, go_step, next_leads, row_is, row_begun, rested_begun, First, four, nobody_pending}
use Rattle.mu_model_completion.proofs.Middle.{EndsBlock, Between, AllHeld, Ended_blocks, first_between, after_is, counts_done, reached_as}

module _ (laws : KeepsPlan) (fields : FieldsAreRead) (tiles : Tiles) (p : Sending) (meta : Meta) (config : NodeConfig) (image : List ℕ) (blocks : ℕ) (good : Good p blocks)
    (whole : length image ≡ p.size) (chunk_some : 0 < p.chunk) (cs : List NodeConfig) (apart : Apart cs) (some : 1 ≤ length cs) (q : ℕ) (few : 4 * q < 99) (fits : length cs ≤ 16 * q) (q_some : 1 ≤ q) where
  abbrev u : ℕ
  u = config.address

  abbrev pub At_ : Place → (Pair → Type 0) → List Member → Type 0
  At_ place P xs = Reached laws fields tiles p meta config image blocks good whole chunk_some cs apart some q few fits q_some place P xs

  abbrev Done : (ℕ → Pair → Type 0) → Pair → Type 0
  Done D x = Answered laws fields tiles p meta config image blocks good whole chunk_some cs apart some q few fits q_some D x

  abbrev pub held : Slots
  held = held_of fields tiles p meta image u blocks good q few whole chunk_some (suc blocks) 0

  abbrev pub last : Option LastBlock
  last = Some (last_of fields tiles p meta image u blocks good q few whole chunk_some blocks)

  abbrev pub none : List Bool
  none = lacking_from (suc blocks) 0

  pub all_full : is_full held ≡ true
  all_full = full (blk fields tiles p meta image u blocks good q few whole chunk_some) (suc blocks) 0

  pub all_is : joined held ≡ image
  all_is = image_joined fields tiles p meta image u blocks good q few whole chunk_some (suc blocks) refl

  module _ (c : ℕ) where
    abbrev pub chunks : List Bool
    chunks = no_number (suc c)

    abbrev VW : ℕ → Pair → Type 0
    VW j x = VerifyW fields tiles p meta image u blocks good q few whole chunk_some held last all_full all_is none chunks j x

    abbrev pub VD : ℕ → Pair → Type 0
    VD j x = VerifyD fields tiles p meta image u blocks good q few whole chunk_some held last all_full all_is none chunks j x

    abbrev AW : ℕ → Pair → Type 0
    AW j x = ApplyW fields tiles p meta image u blocks good q few whole chunk_some held last all_full all_is none chunks j x

    abbrev pub AD : ℕ → Pair → Type 0
    AD j x = ApplyD fields tiles p meta image u blocks good q few whole chunk_some held last all_full all_is none chunks j x

    abbrev CW : ℕ → Pair → Type 0
    CW j x = ConfirmW fields tiles p meta image u blocks good q few whole chunk_some held last all_full all_is none chunks j x

    abbrev CD : ℕ → Pair → Type 0
    CD j x = ConfirmD fields tiles p meta image u blocks good q few whole chunk_some held last all_full all_is none chunks j x

    verified_at : (step : Step) (x : Pair) → IsVerified fields tiles p meta image u blocks good q few whole chunk_some held last x
        → IsVerified fields tiles p meta image u blocks good q few whole chunk_some held last (begins laws p meta config image step x)
    verified_at step x h = record { capacity = h.capacity; active = h.active; images = h.images; offer = h.offer; count = h.count; fresh = h.fresh; heard = h.heard; n_is = h.n_is }

    runs_at : (step : Step) (a : ℕ) (x : Pair) → Runs fields p meta image u blocks good q few held last a x → Runs fields p meta image u blocks good q few held last a (begins laws p meta config image step x)
    runs_at step a x h = record { capacity = h.capacity; active = h.active; images = h.images; offer = h.offer; count = h.count; fresh = h.fresh; heard = h.heard; lately = h.lately; n_is = h.n_is }

    sealing_at : (step : Step) (j : ℕ) (x : Pair) → Sealing fields tiles p meta image u blocks good q few whole chunk_some held last j x
        → Sealing fields tiles p meta image u blocks good q few whole chunk_some held last 0 (begins laws p meta config image step x)
    sealing_at step zero x (inl h) = inl (h.0, runs_at step h.0 x h.1)
    sealing_at step zero x (inr h) = inr (verified_at step x h)
    sealing_at step (suc j) x h = inr (verified_at step x h)

    applies_at : (step : Step) (x : Pair) → Applies fields tiles p meta image u blocks good q few whole chunk_some held last all_full all_is none chunks x
        → Applies fields tiles p meta image u blocks good q few whole chunk_some held last all_full all_is none chunks (begins laws p meta config image step x)
    applies_at step x (inl h) = inl (record { capacity = h.capacity; active = h.active; images = h.images; offer = h.offer; count = h.count; fresh = h.fresh; heard = h.heard; n_is = h.n_is })
    applies_at step x (inr h) = inr (record { capacity = h.capacity; images = h.images; count = h.count; fresh = h.fresh; session = h.session; n_is = h.n_is })

    abbrev pub Held : Pair → Type 0
    Held x = AllHeld laws fields tiles p meta config image blocks good whole chunk_some cs apart some q few fits q_some c x

    -- ---- 8

    no_block : (ps : List Pair) → AllByRecursion Held ps → (k : ℕ) → list_any (misses_block k) (map receiver_in ps) ≡ false
    no_block [] h k = refl
    no_block (x ∷ ps) h k = ap (λ b. b || list_any (misses_block k) (map receiver_in ps)) (ap (misses_block k) h.0.row.r_is ∙ none_missed (suc blocks) k) ∙ no_block ps h.1 k

    no_chunks : (ps : List Pair) → AllByRecursion Held ps → list_any misses_chunks (map receiver_in ps) ≡ false
    no_chunks [] h = refl
    no_chunks (x ∷ ps) h = ap (λ b. b || list_any misses_chunks (map receiver_in ps)) (ap misses_chunks h.0.row.r_is ∙ none_some (suc c)) ∙ no_chunks ps h.1

    to_verify : (s : Step) → EndsBlock s → (ps : List Pair) → AllByRecursion Held ps → d.after p (Update meta true) (map receiver_in ps) s ≡ Go Verify
    to_verify s e ps h =
        let t : ℕ → Bool = d.is_missed (map receiver_in ps) in
        after_is laws fields tiles p meta config image blocks good whole chunk_some cs apart some q few fits q_some s e (map receiver_in ps) (no_chunks ps h)
        ∙ ap (d.block_or (Go Verify)) (find_none t (block_total p) 0 (λ k. no_block ps h k))

    held_is : (x : Pair) → Held x → (x.r.pending ≡ false) × (is_active x.r ≡ true)
    held_is x h = (ap (λ (r : Receiver). r.pending) h.row.r_is, ap is_active h.row.r_is)

    pub verified : (s : Step) → EndsBlock s → (xs : List Member) → At_ (At s) Held xs → Within q (At_ (At Verify) (Done VD)) xs
    verified s e xs r =
        go_step laws fields tiles p meta config image blocks good whole chunk_some cs apart some q few fits q_some (At s) Held Verify (OfUpdate UpdateGet) VW VD
        (verify_asking fields tiles p meta image u blocks good q few whole chunk_some held last all_full all_is none chunks) (λ rs. refl)
        (λ x h. (rested_begun laws fields tiles p meta config image blocks good whole chunk_some cs apart some q few fits q_some Verify 2 none chunks x h.row (λ heard. refl), sealing_at Verify h.j x h.sealing))
        (next_leads laws fields tiles p meta config image blocks good whole chunk_some cs apart some q few fits q_some s Verify Held held_is (counts_done laws fields tiles p meta config image blocks good whole chunk_some cs apart some q few fits q_some s e) (λ rs. refl) (λ ps h le. to_verify s e ps h)) xs r

    -- ---- 9

    pub applied : (xs : List Member) → At_ (At Verify) (Done VD) xs → Within q (At_ (At Apply) (Done AD)) xs
    applied xs r =
        go_step laws fields tiles p meta config image blocks good whole chunk_some cs apart some q few fits q_some (At Verify) (Done VD) Apply (OfUpdate UpdateApply) AW AD
        (apply_asking fields tiles p meta image u blocks good q few whole chunk_some held last all_full all_is none chunks) (λ rs. refl)
        (λ x h. (row_begun laws fields tiles p meta config image blocks good whole chunk_some cs apart some q few fits q_some Apply 4 none chunks x h.2.0 refl, sealing_at Apply h.0 x h.2.1))
        (next_leads laws fields tiles p meta config image blocks good whole chunk_some cs apart some q few fits q_some Verify Apply (Done VD)
        (λ x k. row_is laws fields tiles p meta config image blocks good whole chunk_some cs apart some q few fits q_some 4 none chunks false x k.2.0) (λ z. refl) (λ rs. refl) (λ ps h le. refl)) xs r

    -- ---- 10

    confirmed : (xs : List Member) → At_ (At Apply) (Done AD) xs → Within q (At_ (At Confirm) (Done CD)) xs
    confirmed xs r =
        go_step laws fields tiles p meta config image blocks good whole chunk_some cs apart some q few fits q_some (At Apply) (Done AD) Confirm (OfUpdate (InformationGet 0 1)) CW CD
        (confirm_asking fields tiles p meta image u blocks good q few whole chunk_some held last all_full all_is none chunks) (λ rs. refl)
        (λ x h. (row_begun laws fields tiles p meta config image blocks good whole chunk_some cs apart some q few fits q_some Confirm 6 none chunks x h.2.0 refl, applies_at Confirm x h.2.1))
        (next_leads laws fields tiles p meta config image blocks good whole chunk_some cs apart some q few fits q_some Apply Confirm (Done AD)
        (λ x k. row_is laws fields tiles p meta config image blocks good whole chunk_some cs apart some q few fits q_some 6 none chunks false x k.2.0) (λ z. refl) (λ rs. refl) (λ ps h le. refl)) xs r

    abbrev pub Final : Pair → Type 0
    Final x = Row 8 none chunks false x × IsActive fields tiles p meta image u blocks good q few whole chunk_some held last all_full all_is none chunks x

    -- from the last block on
    pub last_steps : (s : Step) → EndsBlock s → (xs : List Member) → At_ (At s) Held xs → Within (q + (q + q)) (At_ (At Confirm) Final) xs
    last_steps s e xs r =
        and_then q (q + q) (At_ (At Verify) (Done VD)) (At_ (At Confirm) Final) xs (verified s e xs r)
        (λ ys s. and_then q q (At_ (At Apply) (Done AD)) (At_ (At Confirm) Final) ys (applied ys s)
        (λ zs t. so q (At_ (At Confirm) (Done CD)) (At_ (At Confirm) Final) zs
        (reached_as laws fields tiles p meta config image blocks good whole chunk_some cs apart some q few fits q_some (At Confirm) (Done CD) Final (λ x h. h.2)) (confirmed zs t)))

    -- ---- and from then on

    final_later : (v : Client) (x : Pair) → Final x → Final (pair_time v u x)
    final_later v x h =
        let t = applies_later fields tiles p meta image u blocks good q few whole chunk_some held last all_full all_is none chunks v x (inr h.1) in
        (record { r_is = t.1 ∙ h.0.r_is }, t.0)

    all_later : (v : Client) (ps : List Pair) → AllByRecursion Final ps → AllByRecursion Final (map (pair_time v u) ps)
    all_later v [] h = tt
    all_later v (x ∷ ps) h = (final_later v x h.0, all_later v ps h.1)

    same_configs : (v : Client) (ps : List Pair) → configs (map (pair_time v u) ps) ≡ configs ps
    same_configs v [] = refl
    same_configs v (x ∷ ps) = ap (λ zs. x.config ∷ zs) (same_configs v ps)

    map_id : (rs : List Receiver) → rs ≡ map (λ (r : Receiver). r) rs
    map_id [] = refl
    map_id (r ∷ rs) = ap (λ ys. r ∷ ys) (map_id rs)

    -- all have succeeded, and the client is at its last step or has ended
    pub record Over (xs : List Member) : Type 0 where
      pub place : Place
      pub at_end : (place ≡ At Confirm) ⊎ (place ≡ Ended Applying)
      pub qs : List Pair
      pub station : Station laws p meta config image place [] qs xs
      pub all : AllByRecursion Final qs
      pub same : configs qs ≡ cs

    -- a turn in which the client sends nothing
    silent : (place next : Place) (ps : List Pair) (xs : List Member) → Station laws p meta config image place [] ps xs
        → ((began moment : ℕ) → d.by_place (client_at laws p meta config image place [] began moment (map receiver_in ps)) image place
        ≡ d.sends_nothing (client_at laws p meta config image next [] began moment (map receiver_in ps)))
        → (v : Client) × Station laws p meta config image next [] (map (pair_time v u) ps) (turn xs)
    silent place next ps xs s quiet =
        let v : Client = client_at laws p meta config image next [] s.began (max s.moment (s.now + 100)) (map receiver_in ps) in
        let early = s.early in
        let late : max s.moment (s.now + 100) ≡ s.now + 100 = omega (arith, early) in (
          v,
          record {
            now = s.now + 100;
            began = s.began;
            moment = max s.moment (s.now + 100);
            early = omega (arith, late);
            holds = turned laws config image s.now _ ps xs s.holds (λ r. r) (λ r. refl) (d.sends_nothing v) (quiet s.began (max s.moment (s.now + 100))) (map_id (map receiver_in ps)) late;
          },
        )

    confirm_ends : (ps : List Pair) → AllByRecursion Final ps → (began moment : ℕ)
        → d.by_place (client_at laws p meta config image (At Confirm) [] began moment (map receiver_in ps)) image (At Confirm)
        ≡ d.sends_nothing (client_at laws p meta config image (Ended Applying) [] began moment (map receiver_in ps))
    confirm_ends ps h began moment =
        ap (λ b. d.by_step (client_at laws p meta config image (At Confirm) [] began moment (map receiver_in ps)) image Confirm (not b))
        (nobody_pending laws fields tiles p meta config image blocks good whole chunk_some cs apart some q few fits q_some Final (λ x k. ap (λ (r : Receiver). r.pending) k.0.r_is) ps h)

    over_turn : (xs : List Member) → Over xs → Over (turn xs)
    over_turn xs o = elim o.at_end [
      | inl e ↦ (
          let t = silent (At Confirm) (Ended Applying) o.qs xs (subst (λ place. Station laws p meta config image place [] o.qs xs) e o.station) (confirm_ends o.qs o.all) in
          record { place = Ended Applying; at_end = inr refl; qs = map (pair_time t.0 u) o.qs; station = t.1; all = all_later t.0 o.qs o.all; same = same_configs t.0 o.qs ∙ o.same })
      | inr e ↦ (
          let t = silent (Ended Applying) (Ended Applying) o.qs xs (subst (λ place. Station laws p meta config image place [] o.qs xs) e o.station) (λ began moment. refl) in
          record { place = Ended Applying; at_end = inr refl; qs = map (pair_time t.0 u) o.qs; station = t.1; all = all_later t.0 o.qs o.all; same = same_configs t.0 o.qs ∙ o.same })
    ]

    over_always : (n : ℕ) (xs : List Member) → Over xs → Over (settle n xs)
    over_always zero xs o = o
    over_always (suc n) xs o = over_always n (turn xs) (over_turn xs o)

  -- ---- the whole course

  pub record SomeOver (xs : List Member) : Type 0 where
    pub c : ℕ
    pub over : Over c xs

  pub some_always : (n : ℕ) (xs : List Member) → SomeOver xs → SomeOver (settle n xs)
  some_always n xs o = record { c = o.c; over = over_always o.c n xs o.over }

  -- four steps, the blocks, and three steps
  pub course : (n : ℕ)
      → ((ys : List Member) → At_ (At Transfer) (Between laws fields tiles p meta config image blocks good whole chunk_some cs apart some q few fits q_some 0 (suc blocks)) ys
      → Within n (Ended_blocks laws fields tiles p meta config image blocks good whole chunk_some cs apart some q few fits q_some) ys)
      → (xs : List Member) → At_ (Before Check) (First laws fields tiles p meta config image blocks good whole chunk_some cs apart some q few fits q_some) xs
      → Within ((q + (q + (q + q))) + (n + (q + (q + q)))) SomeOver xs
  course n through xs r =
      and_then (q + (q + (q + q))) (n + (q + (q + q))) (At_ (At Transfer) (Done (TransferD fields p meta image u blocks good q few))) SomeOver xs
      (four laws fields tiles p meta config image blocks good whole chunk_some cs apart some q few fits q_some xs r)
      (λ ys s. and_then n (q + (q + q)) (Ended_blocks laws fields tiles p meta config image blocks good whole chunk_some cs apart some q few fits q_some) SomeOver ys
      (through ys
      (reached_as laws fields tiles p meta config image blocks good whole chunk_some cs apart some q few fits q_some (At Transfer) _ _
      (first_between laws fields tiles p meta config image blocks good whole chunk_some cs apart some q few fits q_some) ys s))
      (λ zs t. so (q + (q + q)) (At_ (At Confirm) (Final t.c)) SomeOver zs
      (λ ws o. record { c = t.c; over = record { place = At Confirm; at_end = inl refl; qs = o.qs; station = o.station; all = o.all; same = o.same } })
      (last_steps t.c t.step t.ends zs t.held_all)))
