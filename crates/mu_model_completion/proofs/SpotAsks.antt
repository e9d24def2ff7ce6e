-- What a receiver's node answers to what goes to it, and where the receiver stands then.
use Rattle.std.proofs.Common.{◌≡◌, ◌==◌, ◌⊎◌, inl, inr, ◌<◌, ◌+◌, ℕ, zero, suc, List, [], ◌∷◌, ◌++◌, refl, sym, ap, ◌∙◌, subst, true, false, Bool, Option, Some, None, arith, length, set, take}
use Rattle.std.specs.Prelude.{nat_lt}
use Rattle.std.specs.List.{AllByRecursion}
use Rattle.mu_model_image.specs.declared.Meta.{Meta}
use Rattle.mu_model_image.specs.Meta.{Image}
use Rattle.mu_model_wire.specs.Reports.{every_number, no_number, members, union, report_of as report_in}
use Rattle.mu_model_node.specs.declared.NodeConfig.{NodeConfig}
use Rattle.mu_model_node.specs.declared.LastBlock.{LastBlock}
use Rattle.mu_model_node.specs.Slots.{Slots, missing}
use Rattle.mu_model_node.specs.NodeMessages.{OfBlob, Reply, ByUpdate, ByBlob}
use Rattle.mu_model_node.specs.BlobMessages.{BlockGet, ChunkTransfer, BlobReply, BlobInformationStatus, BlockStatus, PartialBlockReport}
use Rattle.mu_model_node.specs.UpdateMessages.{MetadataStatus}
use Rattle.mu_model_node.specs.NodeState.{NodeState}
use Rattle.mu_model_node.specs.NodeOutcome.{Outcome}
use Rattle.mu_model_node.specs.Events.{at_moment, on_request}
use Rattle.mu_model_client.specs.Answers.{heard}
use Rattle.mu_model_client.specs.declared.Sending.{Sending}
use Rattle.mu_model_client.specs.Sets.{has_some, set_of, named_set}
use Rattle.mu_model_client.specs.Client.{Update, Receiver, Item, Says, Sends, Place, Before, At, Verified as VerifiedPlace, Ended, Step, Transfer, Chunks, Pull, Get, chunk_total}
use Rattle.mu_model_client.specs.Told as t
use Rattle.mu_model_client.specs.Lists.{chunk_octets}
use Rattle.mu_model_client_laws.specs.Laws.{KeepsPlan, FieldsAreRead}
use Rattle.mu_model_completion.proofs.Nodes.{Offer, same}
use Rattle.mu_model_completion.proofs.First.{Good, Pushes, Pulls}
use Rattle.mu_model_completion.proofs.Pieces.{lacking_from, one_held, not_full}
use Rattle.mu_model_completion.proofs.Blocks.{Tiles, blk}
use Rattle.mu_model_completion.proofs.Receivers as r
use Rattle.mu_model_completion.proofs.Receivers.{rcv}
use Rattle.mu_model_completion.proofs.Among.{IsLeft, AllLeft, AllOf, of_left, left_split}
use Rattle.mu_model_completion.proofs.Hears.{Both, asks_one, asks_all, tell, tell_if, tells}
use Rattle.mu_model_completion.proofs.PullNodes as pn
use Rattle.mu_model_completion.proofs.Partly.{missing_long, some_missing}
use Rattle.mu_model_completion.proofs.PullMoments as pm
use Rattle.mu_model_completion.proofs.PullMoments.{IsBlob, Ignored, quiet_ignored}
use Rattle.mu_model_completion.proofs.Moments as m
use Rattle.mu_model_completion.proofs.Moments.{few, Quiet, Says as Replies}
use Rattle.mu_model_completion.proofs.Spots as s
use Rattle.mu_model_completion.proofs.Spots.{Ask, Checks, Starts, Informs, Transfers, Opens, Gets, Verifies, Applies, Confirms, Said, Checked, Started, Informed, Opened, OpenedPull, Verified, Asked, Confirmed, Spot, First, Asking, After, Between, Chunking, Pulling, Over}

module _ (laws : KeepsPlan) (fields : FieldsAreRead) (tiles : Tiles) (p : Sending) (meta : Meta) (image : List ℕ) (blocks : ℕ) (good : Good p blocks) (whole : length image ≡ p.size) (chunk_some : 0 < p.chunk)
    (capacity : ℕ) (active : Image) (images : List Image) (o : Offer p meta image capacity active) (config : NodeConfig) where
  abbrev a : ℕ
  a = config.address

  abbrev u : ℕ
  u = p.from

  abbrev Spot_ : Type 0
  Spot_ = Spot laws fields tiles p meta image blocks good whole chunk_some capacity active images o config

  abbrev Ask_ : Type 0
  Ask_ = Ask laws fields tiles p meta image blocks good whole chunk_some capacity active images o config

  abbrev place_of : Spot_ → Place
  place_of spot = s.place_of laws fields tiles p meta image blocks good whole chunk_some capacity active images o config spot

  abbrev row_of : Spot_ → Receiver
  row_of spot = s.row_of laws fields tiles p meta image blocks good whole chunk_some capacity active images o config spot

  abbrev NodeOf : Spot_ → NodeState → Type 0
  NodeOf spot n = s.NodeOf laws fields tiles p meta image blocks good whole chunk_some capacity active images o config spot n

  abbrev NodeNow : Spot_ → NodeState → Type 0
  NodeNow spot n = s.NodeNow laws fields tiles p meta image blocks good whole chunk_some capacity active images o config spot n

  abbrev AskNow : Ask_ → NodeState → Type 0
  AskNow ask n = s.AskNow laws fields tiles p meta image blocks good whole chunk_some capacity active images o config ask n

  abbrev step_of : Ask_ → Step
  step_of ask = s.step_of laws fields tiles p meta image blocks good whole chunk_some capacity active images o config ask

  abbrev waiting : Ask_ → List Bool → Receiver
  waiting ask chunks = s.waiting laws fields tiles p meta image blocks good whole chunk_some capacity active images o config ask chunks

  abbrev request_item : Ask_ → Item
  request_item ask = Says a (s.request_of laws fields tiles p meta image blocks good whole chunk_some capacity active images o config ask)

  abbrev ListOf : ℕ → Spot_ → List Item → Type 0
  ListOf to spot list = s.ListOf laws fields tiles p meta image blocks good whole chunk_some capacity active images o config to spot list

  abbrev tell_ : Place → Reply → Receiver → Receiver
  tell_ place reply x = tell laws p meta image config place reply x

  abbrev Both_ : Type 0
  Both_ = Both laws p meta image config

  abbrev asks_ : Place → ℕ → List Item → Both_ → Both_
  asks_ place now items x = asks_all laws p meta image config place now items x

  abbrev one_ : Place → ℕ → Item → Both_ → Both_
  one_ place now item x = asks_one laws p meta image config place now item x

  -- ---- where it stands once it has answered

  abbrev pub Mode : Type 0
  Mode = Pushes p ⊎ Pulls p

  abbrev answers : Mode → Ask_ → List Bool → Spot_
  answers mode Checks chunks = After Checked chunks
  answers mode Starts chunks = After Started chunks
  answers mode Informs chunks = After Informed chunks
  answers mode Transfers chunks = Between Transfer tt 0 (suc blocks) (omega arith) [] refl false 0
  answers (inl pushes) (Opens k n c sum total) chunks = After (Opened k n c sum total pushes) chunks
  answers (inr pulls) (Opens k n c sum total) chunks = After (OpenedPull k n c sum total pulls) chunks
  answers mode (Gets k n c sum total) chunks = Between (Get k) tt (suc k) n (omega (arith, sum)) (no_number (suc c)) (r.none_some (suc c)) false 0
  answers mode Verifies chunks = After Verified chunks
  answers mode Applies chunks = After Asked chunks
  answers mode Confirms chunks = After Confirmed chunks

  -- where it stands after its node was asked some of a list
  pub record Stood (to : ℕ) (place : Place) (rest : List Item) (x : Both_) : Type 0 where
    pub spot : Spot_
    pub place_is : place_of spot ≡ place
    pub row_is : x.r ≡ row_of spot
    pub list : ListOf to spot rest
    pub node : NodeOf spot x.n

  pub by_reply : (place : Place) (reply : Reply) (x : Receiver) (replies : List (ℕ × Reply)) → replies ≡ (u, reply) ∷ [] → tells laws p meta image config place replies x ≡ tell_ place reply x
  by_reply place reply x replies e = ap (λ z. tells laws p meta image config place z x) e ∙ ap (λ z. tell_if laws p meta image config place reply x z) (same u)

  -- it is told by its node's reply
  record Told (place : Place) (row next : Receiver) (P : NodeState → Type 0) (e : Outcome) : Type 0 where
    reply : Reply
    replies : Replies u reply P e
    told : tell_ place reply row ≡ next

  size_fits : nat_lt capacity p.size ≡ false
  size_fits = ap (nat_lt capacity) o.size ∙ o.room

  abbrev asked : NodeState → ℕ → Ask_ → Outcome
  asked n now ask = on_request (at_moment n now) u (s.request_of laws fields tiles p meta image blocks good whole chunk_some capacity active images o config ask)

  abbrev Told_ : Mode → Ask_ → List Bool → NodeState → ℕ → Type 0
  Told_ mode ask chunks n now = Told (At (step_of ask)) (waiting ask chunks) (row_of (answers mode ask chunks)) (NodeOf (answers mode ask chunks)) (asked n now ask)

  replies_as : (reply : Reply) (P Q : NodeState → Type 0) → ((n : NodeState) → P n → Q n) → (e : Outcome) → Replies u reply P e → Replies u reply Q e
  replies_as reply P Q f e h = record { next = f e.next h.next; says = h.says }

  gets : (mode : Mode) (n k c : ℕ) (sum : k + suc n ≡ suc blocks) (total : chunk_total p k ≡ suc c) (chunks : List Bool) (x : NodeState) (now : ℕ) → AskNow (Gets k n c sum total) x → Told_ mode (Gets k n c sum total) chunks x now
  gets mode zero k c sum total chunks x now h = record {
    reply = m.get_reply fields tiles p meta image blocks good whole chunk_some capacity active images o u k;
    replies =
        replies_as _ (s.Sealed laws fields tiles p meta image blocks good whole chunk_some capacity active images o config (Some (s.last laws fields tiles p meta image blocks good whole chunk_some capacity active images o config k)))
        (NodeOf (answers mode (Gets k zero c sum total) chunks)) (λ z w. (_, inr w)) _
        (m.gets_last fields tiles p meta image blocks good whole chunk_some capacity active images o u (s.all_slots laws fields tiles p meta image blocks good whole chunk_some capacity active images o config) k x now h);
    told = r.told_get p meta a k c (lacking_from k 1) total ∙ ap (λ bs. rcv a 2 bs (no_number (suc c)) false) (one_held k 0);
  }
  gets mode (suc n) k c sum total chunks x now h = record {
    reply = m.get_reply fields tiles p meta image blocks good whole chunk_some capacity active images o u k;
    replies =
        replies_as _ (s.HoldsNow laws fields tiles p meta image blocks good whole chunk_some capacity active images o config (suc k) (suc n) (Some (s.last laws fields tiles p meta image blocks good whole chunk_some capacity active images o config k)))
        (NodeOf (answers mode (Gets k (suc n) c sum total) chunks)) (λ z w. (_, w)) _
        (m.gets_more fields tiles p meta image blocks good whole chunk_some capacity active images o u k n x now h);
    told = r.told_get p meta a k c (lacking_from k (suc (suc n))) total ∙ ap (λ bs. rcv a 2 bs (no_number (suc c)) false) (one_held k (suc n));
  }

  told_by : (mode : Mode) (ask : Ask_) (chunks : List Bool) (x : NodeState) (now : ℕ) → AskNow ask x → Told_ mode ask chunks x now
  told_by mode Checks chunks x now h = record {
    reply = ByUpdate (MetadataStatus 0 0);
    replies = m.checks fields tiles p meta image blocks good whole chunk_some capacity active images o u x now h;
    told = r.told_check p meta a [] [];
  }
  told_by mode Starts chunks x now h = record {
    reply = m.update_reply fields tiles p meta image blocks good whole chunk_some capacity active images o u 2;
    replies = m.starts fields tiles p meta image blocks good whole chunk_some capacity active images o u x now h;
    told = r.told_start p meta a [] [];
  }
  told_by mode Informs chunks x now h = record {
    reply = ByBlob (BlobInformationStatus capacity);
    replies = m.informs fields tiles p meta image blocks good whole chunk_some capacity active images o u x now h;
    told = r.told_information p meta a [] [] capacity size_fits o.log good.long;
  }
  told_by mode Transfers chunks x now h = record {
    reply = m.transfer_reply fields tiles p meta image blocks good whole chunk_some capacity active images o u;
    replies =
        replies_as _ (s.Running laws fields tiles p meta image blocks good whole chunk_some capacity active images o config (s.held laws fields tiles p meta image blocks good whole chunk_some capacity active images o config 0 (suc blocks)) None)
        (NodeOf (answers mode Transfers chunks)) (λ z w. (None, w)) _
        (m.transfers fields tiles p meta image blocks good whole chunk_some capacity active images o u x now h);
    told = r.told_transfer p meta fields a (suc blocks) [] [] good.total;
  }
  told_by (inl pushes) (Opens k n c sum total) chunks x now h = record {
    reply = m.block_reply fields tiles p meta image blocks good whole chunk_some capacity active images o u k;
    replies =
        replies_as _ (s.In laws fields tiles p meta image blocks good whole chunk_some capacity active images o config k n 0 (suc c) h.0) (NodeOf (answers (inl pushes) (Opens k n c sum total) chunks)) (λ z w. (h.0, w)) _
        (m.opens fields tiles p meta image blocks good whole chunk_some capacity active images o u k n c total h.0 x now h.1);
    told = r.told_block p meta a k c (lacking_from k (suc n)) chunks total;
  }
  told_by (inr pulls) (Opens k n c sum total) chunks x now h = record {
    reply = m.block_reply fields tiles p meta image blocks good whole chunk_some capacity active images o u k;
    replies =
        replies_as _ (s.In laws fields tiles p meta image blocks good whole chunk_some capacity active images o config k n 0 (suc c) h.0) (NodeOf (answers (inr pulls) (Opens k n c sum total) chunks)) (λ z w. pm.opened fields tiles p meta image blocks good whole chunk_some capacity active images o u k n c h.0 z w) _
        (m.opens fields tiles p meta image blocks good whole chunk_some capacity active images o u k n c total h.0 x now h.1);
    told = r.told_block p meta a k c (lacking_from k (suc n)) chunks total;
  }
  told_by mode (Gets k n c sum total) chunks x now h = gets mode n k c sum total chunks x now h
  told_by mode Verifies chunks x now h = record {
    reply = m.update_reply fields tiles p meta image blocks good whole chunk_some capacity active images o u 4;
    replies =
        replies_as _ (s.Sealed laws fields tiles p meta image blocks good whole chunk_some capacity active images o config h.0) (NodeOf (answers mode Verifies chunks)) (λ z w. (h.0, w)) _
        (m.tells_verified fields tiles p meta image blocks good whole chunk_some capacity active images o u (s.all_slots laws fields tiles p meta image blocks good whole chunk_some capacity active images o config) h.0 x now h.1);
    told = r.told_verify p meta a (s.none laws fields tiles p meta image blocks good whole chunk_some capacity active images o config) chunks;
  }
  told_by mode Applies chunks x now h = record {
    reply = m.update_reply fields tiles p meta image blocks good whole chunk_some capacity active images o u 6;
    replies =
        replies_as _ (m.IsApplied fields tiles p meta image blocks good whole chunk_some capacity active images o u (s.all_slots laws fields tiles p meta image blocks good whole chunk_some capacity active images o config) h.0)
        (NodeOf (answers mode Applies chunks)) (λ z w. inl (h.0, w)) _
        (m.applies fields tiles p meta image blocks good whole chunk_some capacity active images o u (s.all_slots laws fields tiles p meta image blocks good whole chunk_some capacity active images o config) h.0 x now h.1);
    told = r.told_apply p meta a (s.none laws fields tiles p meta image blocks good whole chunk_some capacity active images o config) chunks;
  }
  told_by mode Confirms chunks x now h = record {
    reply = m.image_reply fields tiles p meta image blocks good whole chunk_some capacity active images o u;
    replies = m.shows fields tiles p meta image blocks good whole chunk_some capacity active images o u (s.all_slots laws fields tiles p meta image blocks good whole chunk_some capacity active images o config) x now h;
    told = r.told_confirm p meta a (suc (length images)) (s.none laws fields tiles p meta image blocks good whole chunk_some capacity active images o config) chunks;
  }

  -- ---- a step's message

  answers_place : (mode : Mode) (ask : Ask_) (chunks : List Bool) → place_of (answers mode ask chunks) ≡ At (step_of ask)
  answers_place mode Checks chunks = refl
  answers_place mode Starts chunks = refl
  answers_place mode Informs chunks = refl
  answers_place mode Transfers chunks = refl
  answers_place (inl pushes) (Opens k n c sum total) chunks = refl
  answers_place (inr pulls) (Opens k n c sum total) chunks = refl
  answers_place mode (Gets k n c sum total) chunks = refl
  answers_place mode Verifies chunks = refl
  answers_place mode Applies chunks = refl
  answers_place mode Confirms chunks = refl

  answers_list : (mode : Mode) (to : ℕ) (ask : Ask_) (chunks : List Bool) → ListOf to (answers mode ask chunks) []
  answers_list mode to Checks chunks = refl
  answers_list mode to Starts chunks = refl
  answers_list mode to Informs chunks = refl
  answers_list mode to Transfers chunks = tt
  answers_list (inl pushes) to (Opens k n c sum total) chunks = refl
  answers_list (inr pulls) to (Opens k n c sum total) chunks = refl
  answers_list mode to (Gets k n c sum total) chunks = tt
  answers_list mode to Verifies chunks = refl
  answers_list mode to Applies chunks = refl
  answers_list mode to Confirms chunks = refl

  abbrev head_or : Item → List Item → Item
  head_or z [] = z
  head_or z (y ∷ zs) = y

  abbrev tail_of : List Item → List Item
  tail_of [] = []
  tail_of (y ∷ zs) = zs

  nothing : (xs ys : List Item) → xs ++ ys ≡ [] → (xs ≡ []) × (ys ≡ [])
  nothing [] ys e = (refl, e)
  nothing (x ∷ xs) ys e = absurd (grind (arith, e))

  cut_one : (i : Item) (xs ys : List Item) → xs ++ ys ≡ i ∷ [] → ((xs ≡ []) × (ys ≡ i ∷ [])) ⊎ ((xs ≡ i ∷ []) × (ys ≡ []))
  cut_one i [] ys e = inl (refl, e)
  cut_one i (x ∷ xs) ys e = inr (let n = nothing xs ys (ap tail_of e) in (cons_both x i xs (ap (head_or x) e) n.0, n.1))
    where
      cons_both : (x y : Item) (xs : List Item) → x ≡ y → xs ≡ [] → (x ∷ xs) ≡ y ∷ []
      cons_both x y xs e f = rw (e, f) refl

  asking_stood : (mode : Mode) (to : ℕ) (ask : Ask_) (chunks : List Bool) (n : NodeState) (now : ℕ) (xs ys : List Item) → AskNow ask n → xs ++ ys ≡ request_item ask ∷ []
      → Stood to (At (step_of ask)) ys (asks_ (At (step_of ask)) now xs (record { r = waiting ask chunks; n = n }))
  asking_stood mode to ask chunks n now xs ys h e = elim (cut_one (request_item ask) xs ys e) [
    | inl k ↦ subst (λ z. Stood to (At (step_of ask)) ys (asks_ (At (step_of ask)) now z (record { r = waiting ask chunks; n = n }))) (sym k.0) (record {
      spot = Asking ask chunks;
      place_is = refl;
      row_is = refl;
      list = k.1;
      node = s.node_now laws fields tiles p meta image blocks good whole chunk_some capacity active images o config (Asking ask chunks) n h;
    })
    | inr k ↦ (
        let t = told_by mode ask chunks n now h in
        subst (λ z. Stood to (At (step_of ask)) ys (asks_ (At (step_of ask)) now z (record { r = waiting ask chunks; n = n }))) (sym k.0) (record {
          spot = answers mode ask chunks;
          place_is = answers_place mode ask chunks;
          row_is = by_reply (At (step_of ask)) t.reply (waiting ask chunks) (asked n now ask).replies t.replies.says ∙ t.told;
          list = subst (ListOf to (answers mode ask chunks)) (sym k.1) (answers_list mode to ask chunks);
          node = t.replies.next;
        }))
  ]

  -- ---- chunks

  abbrev Holds : (k n : ℕ) → Option LastBlock → NodeState → Type 0
  Holds k n before x = s.Holds laws fields tiles p meta image blocks good whole chunk_some capacity active images o config k n before x

  abbrev all_slots : Slots
  all_slots = s.all_slots laws fields tiles p meta image blocks good whole chunk_some capacity active images o config

  by_none : (place : Place) (x : Receiver) (replies : List (ℕ × Reply)) → replies ≡ [] → tells laws p meta image config place replies x ≡ x
  by_none place x replies e = ap (λ z. tells laws p meta image config place z x) e

  -- what a BLOB server says changes no row
  same_row : (reply : BlobReply) (x : Receiver) (present : Bool) → t.row_counted p (heard (ByBlob reply)) x (Update meta true) present ≡ x
  same_row reply x true = refl
  same_row reply x false = refl

  -- and who isn't pending isn't changed by it
  idle_at : (place : Place) (reply : BlobReply) (x : Receiver) → x.pending ≡ false → t.place_told p (heard (ByBlob reply)) x place ≡ x
  idle_at (At step) reply x e = ap (t.if_pending p (heard (ByBlob reply)) step x) e
  idle_at (Before step) reply x e = refl
  idle_at VerifiedPlace reply x e = refl
  idle_at (Ended part) reply x e = refl

  told_idle : (place : Place) (reply : BlobReply) (x : Receiver) → x.pending ≡ false → tell_ place (ByBlob reply) x ≡ x
  told_idle place reply x e = ap (λ (y : Receiver). t.place_told p (heard (ByBlob reply)) y place) (same_row reply x (t.is_present place)) ∙ idle_at place reply x e

  if_idle : (place : Place) (reply : Reply) (x : Receiver) (its : Bool) → IsBlob (u, reply) → x.pending ≡ false → tell_if laws p meta image config place reply x its ≡ x
  if_idle place (ByBlob reply) x true b e = told_idle place reply x e
  if_idle place (ByUpdate reply) x true b e = absurd b
  if_idle place reply x false b e = refl

  same_blob : (to : ℕ) (reply : Reply) → IsBlob (to, reply) → IsBlob (u, reply)
  same_blob to (ByBlob reply) b = tt
  same_blob to (ByUpdate reply) b = absurd b

  pub all_idle : (place : Place) (replies : List (ℕ × Reply)) (x : Receiver) → AllByRecursion IsBlob replies → x.pending ≡ false → tells laws p meta image config place replies x ≡ x
  all_idle place [] x h e = refl
  all_idle place (reply ∷ replies) x h e =
      ap (tells laws p meta image config place replies) (if_idle place reply.1 x (reply.0 == u) (same_blob reply.0 reply.1 h.0) e) ∙ all_idle place replies x h.1 e

  ignored_as : (P Q : NodeState → Type 0) → ((n : NodeState) → P n → Q n) → (e : Outcome) → Ignored P e → Ignored Q e
  ignored_as P Q f e h = record { next = f e.next h.next; blob = h.blob }

  -- of a block that isn't its own: they are passed over
  passes_one : (k n : ℕ) (before : Option LastBlock) (x : NodeState) (now j : ℕ) (octets : List ℕ) → Holds k n before x → Ignored (Holds k n before) (on_request (at_moment x now) u (OfBlob (ChunkTransfer j octets)))
  passes_one k zero before x now j octets (inl h) =
      ignored_as (s.Running laws fields tiles p meta image blocks good whole chunk_some capacity active images o config all_slots before) (Holds k zero before) (λ z w. inl w) _ (quiet_ignored _ _ (pm.whole_chunk fields tiles p meta image blocks good whole chunk_some capacity active images o u before x now j octets h))
  passes_one k zero before x now j octets (inr h) =
      ignored_as (s.Sealed laws fields tiles p meta image blocks good whole chunk_some capacity active images o config before) (Holds k zero before) (λ z w. inr w) _ (quiet_ignored _ _ (m.seals_chunk fields tiles p meta image blocks good whole chunk_some capacity active images o u all_slots before x now j octets h))
  passes_one k (suc n) before x now j octets h =
      quiet_ignored _ _ (m.passes_chunk fields tiles p meta image blocks good whole chunk_some capacity active images o u (s.held laws fields tiles p meta image blocks good whole chunk_some capacity active images o config k (suc n))
      (not_full (blk fields tiles p meta image u blocks good 1 few whole chunk_some) k 0 n) before x now j octets h)

  gets_one : (k n : ℕ) (before : Option LastBlock) (x : NodeState) (now : ℕ) → Holds k n before x → Ignored (Holds k n before) (on_request (at_moment x now) u (OfBlob BlockGet))
  gets_one k zero before x now (inl h) = ignored_as (s.Running laws fields tiles p meta image blocks good whole chunk_some capacity active images o config all_slots before) (Holds k zero before) (λ z w. inl w) _ (pm.whole_gets fields tiles p meta image blocks good whole chunk_some capacity active images o u before x now h)
  gets_one k zero before x now (inr h) = ignored_as (s.Sealed laws fields tiles p meta image blocks good whole chunk_some capacity active images o config before) (Holds k zero before) (λ z w. inr w) _ (pm.sealed_gets fields tiles p meta image blocks good whole chunk_some capacity active images o u all_slots before x now h)
  gets_one k (suc n) before x now h =
      pm.running_gets fields tiles p meta image blocks good whole chunk_some capacity active images o u (s.held laws fields tiles p meta image blocks good whole chunk_some capacity active images o config k (suc n)) before (not_full (blk fields tiles p meta image u blocks good 1 few whole chunk_some) k 0 n) x now h

  record Passed (k n : ℕ) (before : Option LastBlock) (row : Receiver) (x : Both_) : Type 0 where
    row_is : x.r ≡ row
    node : Holds k n before x.n

  passes_item : (place : Place) (now k n : ℕ) (before : Option LastBlock) (row : Receiver) → row.pending ≡ false → (i : Item) (x : Both_) → IsLeft config i → Passed k n before row x → Passed k n before row (one_ place now i x)
  passes_item place now k n before row idle (Says to request) x h e =
      let q = gets_one k n before x.n now e.node in
      subst (λ z. Passed k n before row (one_ place now (Says to z) x)) (sym h)
      (record { row_is = all_idle place _ x.r q.blob (ap (λ (r : Receiver). r.pending) e.row_is ∙ idle) ∙ e.row_is; node = q.next })
  passes_item place now k n before row idle (Sends to b j) x h e =
      let q = passes_one k n before x.n now j (chunk_octets p image b j) e.node in
      record { row_is = all_idle place _ x.r q.blob (ap (λ (r : Receiver). r.pending) e.row_is ∙ idle) ∙ e.row_is; node = q.next }

  passes_all : (place : Place) (now k n : ℕ) (before : Option LastBlock) (row : Receiver) → row.pending ≡ false → (xs : List Item) (x : Both_) → AllLeft config xs → Passed k n before row x → Passed k n before row (asks_ place now xs x)
  passes_all place now k n before row idle [] x h e = e
  passes_all place now k n before row idle (i ∷ is) x h e = passes_all place now k n before row idle is (one_ place now i x) h.1 (passes_item place now k n before row idle i x h.0 e)

  between_stood : (to : ℕ) (step : Step) (is : s.IsBetween step) (k n : ℕ) (sum : k + n ≡ suc blocks) (chunks : List Bool) (without : has_some chunks ≡ false) (heard : Bool) (silent : ℕ) (x : NodeState) (now : ℕ) (xs ys : List Item)
      → (before : Option LastBlock) × Holds k n before x → AllLeft config (xs ++ ys)
      → Stood to (At step) ys (asks_ (At step) now xs (record { r = row_of (Between step is k n sum chunks without heard silent); n = x }))
  between_stood to step is k n sum chunks without heard silent x now xs ys h all =
      let both = left_split config xs ys all in
      let q = passes_all (At step) now k n h.0 (row_of (Between step is k n sum chunks without heard silent)) refl xs (record { r = row_of (Between step is k n sum chunks without heard silent); n = x }) both.0 (record { row_is = refl; node = h.1 }) in
      record {
        spot = Between step is k n sum chunks without heard silent;
        place_is = refl;
        row_is = q.row_is;
        list = both.1;
        node = (h.0, q.node);
      }

  -- of its own block: the node takes them
  abbrev Chunked : (k n j rem : ℕ) → NodeState → Type 0
  Chunked k n j rem x = s.Chunked laws fields tiles p meta image blocks good whole chunk_some capacity active images o config k n j rem x

  abbrev chunks_to : (to k j rem : ℕ) → List Item
  chunks_to to k j rem = s.chunks_to laws fields tiles p meta image blocks good whole chunk_some capacity active images o config to k j rem

  record Got (k n j rem : ℕ) (row : Receiver) (x : Both_) : Type 0 where
    row_is : x.r ≡ row
    node : Chunked k n j rem x.n

  holds_all : (k n : ℕ) → k + suc n ≡ suc blocks → (x : NodeState)
      → s.Running laws fields tiles p meta image blocks good whole chunk_some capacity active images o config (s.held laws fields tiles p meta image blocks good whole chunk_some capacity active images o config (suc k) n) (Some (s.last laws fields tiles p meta image blocks good whole chunk_some capacity active images o config k)) x
      → s.Holds laws fields tiles p meta image blocks good whole chunk_some capacity active images o config (suc k) n (Some (s.last laws fields tiles p meta image blocks good whole chunk_some capacity active images o config k)) x
  holds_all k zero sum x h =
      let e : suc k ≡ suc blocks = omega (arith, sum) in
      inl (subst (λ i. s.Running laws fields tiles p meta image blocks good whole chunk_some capacity active images o config (s.held laws fields tiles p meta image blocks good whole chunk_some capacity active images o config i zero) (Some (s.last laws fields tiles p meta image blocks good whole chunk_some capacity active images o config k)) x) e h)
  holds_all k (suc n) sum x h = h

  takes_one : Pushes p → (to k n c : ℕ) → k + suc n ≡ suc blocks → chunk_total p k ≡ suc c → (j rem now : ℕ) → j + suc rem ≡ suc c → (row : Receiver) (x : Both_) → Got k n j (suc rem) row x
      → Got k n (suc j) rem row (one_ (At (Chunks k)) now (Sends to k j) x)
  takes_one pushes to k n c sum total j zero now all row x g =
      let q = m.takes_last fields tiles p meta image blocks good whole chunk_some capacity active images o u k n c total j g.node.0 x.n now pushes.no_pull (omega (arith, all)) g.node.1 in
      record { row_is = by_none (At (Chunks k)) x.r _ q.silent ∙ g.row_is; node = holds_all k n sum _ q.next }
  takes_one pushes to k n c sum total j (suc rem) now all row x g =
      let q = m.takes_more fields tiles p meta image blocks good whole chunk_some capacity active images o u k n c total j g.node.0 x.n now rem g.node.1 in
      record { row_is = by_none (At (Chunks k)) x.r _ q.silent ∙ g.row_is; node = (g.node.0, q.next) }

  chunking_stood : Pushes p → (to k n c : ℕ) (sum : k + suc n ≡ suc blocks) (total : chunk_total p k ≡ suc c) (now : ℕ) (xs ys : List Item) (j rem : ℕ) → j + rem ≡ suc c → (x : Both_)
      → Got k n j rem (rcv a 2 (lacking_from k (suc n)) (every_number (suc c)) true) x → xs ++ ys ≡ chunks_to to k j rem
      → Stood to (At (Chunks k)) ys (asks_ (At (Chunks k)) now xs x)
  chunking_stood pushes to k n c sum total now [] ys j rem all x g e =
      record { spot = Chunking k n c j rem sum total all pushes; place_is = refl; row_is = g.row_is; list = e; node = g.node }
  chunking_stood pushes to k n c sum total now (i ∷ is) ys j zero all x g e = absurd (grind (arith, e))
  chunking_stood pushes to k n c sum total now (i ∷ is) ys j (suc rem) all x g e =
      let first : i ≡ Sends to k j = ap (head_or i) e in
      let next : j + 1 ≡ suc j = omega arith in
      let rest : is ++ ys ≡ chunks_to to k (suc j) rem = ap tail_of e ∙ ap (λ z. chunks_to to k z rem) next in
      subst (λ z. Stood to (At (Chunks k)) ys (asks_ (At (Chunks k)) now (z ∷ is) x)) (sym first)
      (chunking_stood pushes to k n c sum total now is ys (suc j) rem (omega (arith, all)) (one_ (At (Chunks k)) now (Sends to k j) x)
      (takes_one pushes to k n c sum total j rem now all (rcv a 2 (lacking_from k (suc n)) (every_number (suc c)) true) x g) rest)

  -- ---- in pull

  abbrev PullIn : (k n c : ℕ) → NodeState → Type 0
  PullIn k n c x = s.PullIn laws fields tiles p meta image blocks good whole chunk_some capacity active images o config k n c x

  abbrev IsHeard : Bool → ℕ → List Item → Type 0
  IsHeard heard silent list = s.IsHeard laws fields tiles p meta image blocks good whole chunk_some capacity active images o config heard silent list

  abbrev pull_row : (k n : ℕ) → (chunks wanted : List Bool) → Bool → ℕ → Receiver
  pull_row k n chunks wanted heard silent = record (rcv a 2 (lacking_from k (suc n)) chunks true) { heard = heard; silent = silent; wanted = wanted }

  pub now_heard : (heard : Bool) (silent : ℕ) (list rest : List Item) → IsHeard heard silent list → IsHeard true silent rest
  now_heard heard silent list rest (inl e) = inl e
  now_heard heard silent list rest (inr h) = inr (h.0, inl refl)

  module _ (to k n c : ℕ) (sum : k + suc n ≡ suc blocks) (total : chunk_total p k ≡ suc c) (pulls : Pulls p) (now : ℕ)
      (names : (missed : List Bool) → length missed ≡ suc c → named_set (suc c) (report_in missed) ≡ Some missed) where
    -- the block is held, and what is left of the list is passed over
    held_stood : (chunks wanted : List Bool) (heard : Bool) (silent : ℕ) (xs ys : List Item) (x : Both_)
        → x.r ≡ record (rcv a 2 (set (lacking_from k (suc n)) k false) (no_number (suc c)) false) { heard = true; silent = silent }
        → s.Running laws fields tiles p meta image blocks good whole chunk_some capacity active images o config (s.held laws fields tiles p meta image blocks good whole chunk_some capacity active images o config (suc k) n) (Some (s.last laws fields tiles p meta image blocks good whole chunk_some capacity active images o config k)) x.n → AllLeft config (xs ++ ys)
        → Stood to (At (Pull k)) ys (asks_ (At (Pull k)) now xs x)
    held_stood chunks wanted heard silent xs ys x row node all =
        let row_is : x.r ≡ row_of (Between (Pull k) tt (suc k) n (omega (arith, sum)) (no_number (suc c)) (r.none_some (suc c)) true silent) =
        row ∙ ap (λ bs. record (rcv a 2 bs (no_number (suc c)) false) { heard = true; silent = silent }) (one_held k n) in
        subst (λ z. Stood to (At (Pull k)) ys (asks_ (At (Pull k)) now xs (record { r = z; n = x.n }))) (sym row_is)
        (between_stood to (Pull k) tt (suc k) n (omega (arith, sum)) (no_number (suc c)) (r.none_some (suc c)) true silent x.n now xs ys (Some (s.last laws fields tiles p meta image blocks good whole chunk_some capacity active images o config k), holds_all k n sum x.n node) all)

    pulling_stood : (chunks : List Bool) (some : has_some chunks ≡ true) (wanted : List Bool) (heard : Bool) (silent : ℕ) (x : Both_) (xs ys : List Item) → x.r ≡ pull_row k n chunks wanted heard silent
        → PullIn k n c x.n → AllOf config k (xs ++ ys) → IsHeard heard silent (xs ++ ys) → Stood to (At (Pull k)) ys (asks_ (At (Pull k)) now xs x)
    pulling_stood chunks some wanted heard silent x [] ys row h all fresh =
        record { spot = Pulling k n c sum total pulls chunks some wanted heard silent; place_is = refl; row_is = row; list = (all, fresh); node = h }
    pulling_stood chunks some wanted heard silent x (Says dest request ∷ xs) ys row h all fresh =
        let q = pm.pulling_gets fields tiles p meta image blocks good whole chunk_some capacity active images o u k n c x.n now h in
        let missed : List Bool = missing q.slots in
        let long : length missed ≡ suc c = missing_long q.slots ∙ q.long in
        let y : Both_ = one_ (At (Pull k)) now (Says dest (OfBlob BlockGet)) x in
        let row_y : y.r ≡ pull_row k n missed (union (set_of (length missed) (take 16 (members missed))) wanted) true silent =
        by_reply (At (Pull k)) _ x.r _ q.told.says
        ∙ (ap (tell_ (At (Pull k)) (ByBlob (BlockStatus 0 k p.chunk (report_in missed)))) row
        ∙ pn.told_missing p meta a k (lacking_from k (suc n)) chunks wanted heard silent (report_in missed) missed (ap (λ i. named_set i (report_in missed)) total ∙ names missed long) (some_missing q.slots q.more)) in
        subst (λ z. Stood to (At (Pull k)) ys (asks_ (At (Pull k)) now xs (one_ (At (Pull k)) now (Says dest z) x))) (sym all.0)
        (pulling_stood missed (some_missing q.slots q.more) (union (set_of (length missed) (take 16 (members missed))) wanted) true silent y xs ys row_y q.told.next all.1
        (now_heard heard silent (Says dest request ∷ (xs ++ ys)) (xs ++ ys) fresh))
    pulling_stood chunks some wanted heard silent x (Sends dest b j ∷ xs) ys row h all fresh =
        subst (λ z. Stood to (At (Pull k)) ys (asks_ (At (Pull k)) now xs (one_ (At (Pull k)) now (Sends dest z j) x))) (sym all.0)
        (elim (pm.chunk_comes fields tiles p meta image blocks good whole chunk_some capacity active images o u pulls.pull k n c total x.n now j h) [
          | inl q ↦ pulling_stood chunks some wanted heard silent (one_ (At (Pull k)) now (Sends dest k j) x) xs ys (by_none (At (Pull k)) x.r _ q.silent ∙ row) q.next all.1 fresh
          | inr q ↦ held_stood chunks wanted heard silent xs ys (one_ (At (Pull k)) now (Sends dest k j) x)
              (by_reply (At (Pull k)) _ x.r _ q.says
              ∙ (ap (tell_ (At (Pull k)) (ByBlob (PartialBlockReport []))) row ∙ pn.told_all p meta a k (suc c) (lacking_from k (suc n)) chunks wanted heard silent total))
              q.next (of_left config k (xs ++ ys) all.1)
        ])

  -- ---- at any spot

  pub stood : (mode : Mode) (names : (c : ℕ) (missed : List Bool) → length missed ≡ suc c → named_set (suc c) (report_in missed) ≡ Some missed) (to : ℕ) (spot : Spot_) (n : NodeState) (now : ℕ) (xs ys : List Item) → NodeNow spot n → ListOf to spot (xs ++ ys)
      → Stood to (place_of spot) ys (asks_ (place_of spot) now xs (record { r = row_of spot; n = n }))
  stood mode names to First n now xs ys h e = (
      let k = nothing xs ys e in
      subst (λ z. Stood to (place_of First) ys (asks_ (place_of First) now z (record { r = row_of First; n = n }))) (sym k.0) (record { spot = First; place_is = refl; row_is = refl; list = k.1; node = h }))
  stood mode names to (Asking ask chunks) n now xs ys h e = asking_stood mode to ask chunks n now xs ys h e
  stood mode names to (After said chunks) n now xs ys h e = (
      let k = nothing xs ys e in
      subst (λ z. Stood to (place_of (After said chunks)) ys (asks_ (place_of (After said chunks)) now z (record { r = row_of (After said chunks); n = n }))) (sym k.0)
      (record { spot = After said chunks; place_is = refl; row_is = refl; list = k.1; node = s.node_now laws fields tiles p meta image blocks good whole chunk_some capacity active images o config (After said chunks) n h }))
  stood mode names to (Between step is k n sum chunks without heard silent) x now xs ys h e =
      between_stood to step is k n sum chunks without heard silent x now xs ys (s.node_now laws fields tiles p meta image blocks good whole chunk_some capacity active images o config (Between step is k n sum chunks without heard silent) x h) e
  stood mode names to (Chunking k n c j rem sum total all pushes) x now xs ys h e =
      chunking_stood pushes to k n c sum total now xs ys j rem all (record { r = row_of (Chunking k n c j rem sum total all pushes); n = x })
      (record { row_is = refl; node = s.node_now laws fields tiles p meta image blocks good whole chunk_some capacity active images o config (Chunking k n c j rem sum total all pushes) x h }) e
  stood mode names to (Pulling k n c sum total pulls chunks some wanted heard silent) x now xs ys h e =
      pulling_stood to k n c sum total pulls now (names c) chunks some wanted heard silent (record { r = row_of (Pulling k n c sum total pulls chunks some wanted heard silent); n = x }) xs ys refl h e.0 e.1
  stood mode names to (Over chunks) n now xs ys h e = (
      let k = nothing xs ys e in
      subst (λ z. Stood to (place_of (Over chunks)) ys (asks_ (place_of (Over chunks)) now z (record { r = row_of (Over chunks); n = n }))) (sym k.0) (record { spot = Over chunks; place_is = refl; row_is = refl; list = k.1; node = h }))
