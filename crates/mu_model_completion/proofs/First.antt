-- The steps before the blocks: check, start, information and transfer.
use Rattle.std.proofs.Common.{◌≡◌, ◌<◌, ◌≤◌, ◌+◌, ◌*◌, ◌==◌, ℕ, suc, List, [], ◌∷◌, refl, sym, ap, ◌∙◌, subst, true, false, Bool, Option, Some, None, arith, map}
use Rattle.std.specs.Prelude.{◌||◌, nat_lt}
use Rattle.mu_model_image.specs.declared.Meta.{Meta}
use Rattle.mu_model_image.specs.Meta.{Image, meta_octets}
use Rattle.mu_model_wire.specs.Reports.{every_number}
use Rattle.mu_model_node.specs.declared.LastBlock.{LastBlock}
use Rattle.mu_model_node.specs.Slots.{Slots, empty, is_full, missing}
use Rattle.mu_model_node.specs.BlobMessages.{BlobInformationGet, TransferStart, BlobInformationStatus, TransferStatus}
use Rattle.mu_model_node.specs.UpdateMessages.{MetadataCheck, StartUpdate, MetadataStatus, UpdateStatus}
use Rattle.mu_model_node.specs.NodeMessages.{Request, OfUpdate, OfBlob, Reply, ByUpdate, ByBlob}
use Rattle.mu_model_node.specs.BlobServer.{Session}
use Rattle.mu_model_node.specs.FlashWork.{fresh_after}
use Rattle.mu_model_node.specs.NodeState.{NodeState}
use Rattle.mu_model_client.specs.declared.Sending.{Sending}
use Rattle.mu_model_client.specs.Answers.{heard}
use Rattle.mu_model_client.specs.Client.{Client, Receiver, Check, Start, Information, Transfer, block_total, full_chunks}
use Rattle.mu_model_client.specs.Told as t
use Rattle.mu_model_client_laws.specs.Laws.{FieldsAreRead}
use Rattle.mu_model_completion.proofs.Local.{tells}
use Rattle.mu_model_completion.specs.Turn.{replied_by}
use Rattle.mu_model_completion.proofs.Pairs.{Pair, answered_by, pair_time}
use Rattle.mu_model_completion.proofs.Nodes.{Does, passes, asks, Offer, idle, idle_time, idle_check, idle_start, taken, taken_time, taken_information, taken_transfer, running, running_time, parameters, shown}
use Rattle.mu_model_completion.proofs.Receivers.{rcv, view, tell_own, told_check, told_start, told_information, told_transfer}
use Rattle.mu_model_completion.proofs.Asking.{Asking}

-- ---- a pair by what its node does

module _ (v : Client) (u : ℕ) (x : Pair) where
  pub time_node : (next : NodeState) → Does (passes x.n (x.moment + 100)) next [] → (pair_time v u x).n ≡ next
  time_node next h = h.next_is

  pub time_receiver : (next : NodeState) → Does (passes x.n (x.moment + 100)) next [] → (pair_time v u x).r ≡ x.r
  time_receiver next h = ap (λ replies. tells v u (map (replied_by x.config.address) replies) x.r) h.says

  pub ask_receiver : (request : Request) (next : NodeState) (reply : Reply) (r : Receiver) → Does (asks x.n u request x.moment) next ((u, reply) ∷ []) → x.r.row.address ≡ x.config.address
      → t.receiver_told v (heard reply) x.r ≡ r → (answered_by v u x (asks x.n u request x.moment)).r ≡ r
  ask_receiver request next reply r h at_ told =
      ap (λ replies. tells v u (map (replied_by x.config.address) replies) x.r) h.says ∙ (tell_own v u x.config.address reply x.r at_ ∙ told)

-- a receiver as it is told
pub record Row (phase : ℕ) (blocks chunks : List Bool) (pending : Bool) (x : Pair) : Type 0 where
  pub r_is : x.r ≡ rcv x.config.address phase blocks chunks pending

-- one that has answered; in pull it may have been heard
pub record Rested (phase : ℕ) (blocks chunks : List Bool) (x : Pair) : Type 0 where
  pub heard : Bool
  pub r_is : x.r ≡ record (rcv x.config.address phase blocks chunks false) { heard = heard }

pub rests : (phase : ℕ) (blocks chunks : List Bool) (x : Pair) → Row phase blocks chunks false x → Rested phase blocks chunks x
rests phase blocks chunks x h = record { heard = false; r_is = h.r_is }

pub row_place : (phase : ℕ) (blocks chunks : List Bool) (pending : Bool) (x : Pair) → Row phase blocks chunks pending x → x.r.row.address ≡ x.config.address
row_place phase blocks chunks pending x h = ap (λ (r : Receiver). r.row.address) h.r_is

-- its node's answer makes this of it
pub row_answered : (v : Client) (u : ℕ) (x : Pair) (request : Request) (next : NodeState) (reply : Reply) (phase later : ℕ) (bs cs bs1 cs1 : List Bool)
    → Does (asks x.n u request x.moment) next ((u, reply) ∷ []) → Row phase bs cs true x
    → t.receiver_told v (heard reply) (rcv x.config.address phase bs cs true) ≡ rcv x.config.address later bs1 cs1 false
    → Row later bs1 cs1 false (answered_by v u x (asks x.n u request x.moment))
row_answered v u x request next reply phase later bs cs bs1 cs1 does row told = record {
  r_is = ask_receiver v u x request next reply (rcv x.config.address later bs1 cs1 false) does (row_place phase bs cs true x row) (ap (t.receiver_told v (heard reply)) row.r_is ∙ told);
}

-- the server isn't silent for so long that it cuts the link
pub in_time : (p : Sending) (m h a : ℕ) → m ≤ h + 100 * a → a < 99 → m + 100 < h + 10000 * (p.base + 1)
in_time p m h a le few = omega (arith, le, few)

-- a plan in push
pub record Pushes (p : Sending) : Type 0 where
  pub push : (p.mode == 1) ≡ true
  pub no_pull : (p.mode == 2) ≡ false

-- and in pull
pub record Pulls (p : Sending) : Type 0 where
  pub no_push : (p.mode == 1) ≡ false
  pub pull : (p.mode == 2) ≡ true

-- a plan in its ranges
pub record Good (p : Sending) (blocks : ℕ) : Type 0 where
  pub long : (nat_lt 376 p.chunk || nat_lt 2048 (full_chunks p)) ≡ false
  pub total : block_total p ≡ suc blocks

module _ (fields : FieldsAreRead) (p : Sending) (meta : Meta) (image : List ℕ) (u blocks : ℕ) (good : Good p blocks) (most : ℕ) (few : 4 * most < 99) where
  -- a node without a job
  pub record Idle (x : Pair) : Type 0 where
    pub capacity : ℕ
    pub active : Image
    pub images : List Image
    pub offer : Offer p meta image capacity active
    pub count : ℕ
    pub fresh : ℕ
    pub session : Session
    pub m : ℕ
    pub early : m ≤ x.moment
    pub n_is : x.n ≡ idle capacity (active ∷ images) count fresh session m

  -- with the job, heard so many turns ago at most
  pub record Taken (a : ℕ) (x : Pair) : Type 0 where
    pub capacity : ℕ
    pub active : Image
    pub images : List Image
    pub offer : Offer p meta image capacity active
    pub count : ℕ
    pub fresh : ℕ
    pub heard : ℕ
    pub lately : x.moment ≤ heard + 100 * a
    pub n_is : x.n ≡ taken p meta image capacity active images offer u count fresh heard x.moment

  -- with these blocks, and no current one
  pub record Runs (held : Slots) (last : Option LastBlock) (a : ℕ) (x : Pair) : Type 0 where
    pub capacity : ℕ
    pub active : Image
    pub images : List Image
    pub offer : Offer p meta image capacity active
    pub count : ℕ
    pub fresh : ℕ
    pub heard : ℕ
    pub lately : x.moment ≤ heard + 100 * a
    pub n_is : x.n ≡ running p meta image capacity active images offer u 0 0 held None last count fresh heard x.moment

  pub taken_longer : (a b : ℕ) (x : Pair) → a ≤ b → Taken a x → Taken b x
  taken_longer a b x le h = record {
    capacity = h.capacity;
    active = h.active;
    images = h.images;
    offer = h.offer;
    count = h.count;
    fresh = h.fresh;
    heard = h.heard;
    n_is = h.n_is;
    lately = (let l = h.lately in omega (arith, l, le));
  }

  pub runs_longer : (held : Slots) (last : Option LastBlock) (a b : ℕ) (x : Pair) → a ≤ b → Runs held last a x → Runs held last b x
  runs_longer held last a b x le h = record {
    capacity = h.capacity;
    active = h.active;
    images = h.images;
    offer = h.offer;
    count = h.count;
    fresh = h.fresh;
    heard = h.heard;
    n_is = h.n_is;
    lately = (let l = h.lately in omega (arith, l, le));
  }

  -- ---- time

  module _ (v : Client) (x : Pair) where
    idle_passes : (h : Idle x) → Does (passes x.n (x.moment + 100)) (idle h.capacity (h.active ∷ h.images) h.count h.fresh h.session (x.moment + 100)) []
    idle_passes h =
        subst (λ n. Does (passes n (x.moment + 100)) (idle h.capacity (h.active ∷ h.images) h.count h.fresh h.session (x.moment + 100)) []) (sym h.n_is)
        (idle_time h.capacity h.active h.images h.count h.fresh h.session h.m (x.moment + 100) (let e = h.early in omega (arith, e)))

    pub idle_later : Idle x → Idle (pair_time v u x) × ((pair_time v u x).r ≡ x.r)
    idle_later h = (
      record {
        capacity = h.capacity;
        active = h.active;
        images = h.images;
        offer = h.offer;
        count = h.count;
        fresh = h.fresh;
        session = h.session;
        m = x.moment + 100;
        early = omega arith;
        n_is = time_node v u x _ (idle_passes h);
      },
      time_receiver v u x _ (idle_passes h),
    )

    taken_passes : (a : ℕ) → a < 99 → (h : Taken a x) → Does (passes x.n (x.moment + 100)) (taken p meta image h.capacity h.active h.images h.offer u h.count h.fresh h.heard (x.moment + 100)) []
    taken_passes a lt h =
        subst (λ n. Does (passes n (x.moment + 100)) (taken p meta image h.capacity h.active h.images h.offer u h.count h.fresh h.heard (x.moment + 100)) []) (sym h.n_is)
        (taken_time p meta image h.capacity h.active h.images h.offer u h.count h.fresh h.heard x.moment (x.moment + 100) (omega arith) (in_time p x.moment h.heard a h.lately lt))

    pub taken_later : (a : ℕ) → a < 99 → Taken a x → Taken (suc a) (pair_time v u x) × ((pair_time v u x).r ≡ x.r)
    taken_later a lt h = (
      record {
        capacity = h.capacity;
        active = h.active;
        images = h.images;
        offer = h.offer;
        count = h.count;
        fresh = h.fresh;
        heard = h.heard;
        lately = (let l = h.lately in omega (arith, l));
        n_is = time_node v u x _ (taken_passes a lt h);
      },
      time_receiver v u x _ (taken_passes a lt h),
    )

    runs_passes : (held : Slots) (last : Option LastBlock) (a : ℕ) → is_full held ≡ false → a < 99 → (h : Runs held last a x)
        → Does (passes x.n (x.moment + 100)) (running p meta image h.capacity h.active h.images h.offer u 0 0 held None last h.count h.fresh h.heard (x.moment + 100)) []
    runs_passes held last a short lt h =
        subst (λ n. Does (passes n (x.moment + 100)) (running p meta image h.capacity h.active h.images h.offer u 0 0 held None last h.count h.fresh h.heard (x.moment + 100)) []) (sym h.n_is)
        (running_time p meta image h.capacity h.active h.images h.offer u 0 0 held last h.count h.fresh h.heard x.moment (x.moment + 100) short (omega arith) (in_time p x.moment h.heard a h.lately lt))

    pub runs_later : (held : Slots) (last : Option LastBlock) (a : ℕ) → is_full held ≡ false → a < 99 → Runs held last a x
        → Runs held last (suc a) (pair_time v u x) × ((pair_time v u x).r ≡ x.r)
    runs_later held last a short lt h = (
      record {
        capacity = h.capacity;
        active = h.active;
        images = h.images;
        offer = h.offer;
        count = h.count;
        fresh = h.fresh;
        heard = h.heard;
        lately = (let l = h.lately in omega (arith, l));
        n_is = time_node v u x _ (runs_passes held last a short lt h);
      },
      time_receiver v u x _ (runs_passes held last a short lt h),
    )

    pub row_later : (phase : ℕ) (bs cs : List Bool) (pending : Bool) → (pair_time v u x).r ≡ x.r → Row phase bs cs pending x → Row phase bs cs pending (pair_time v u x)
    row_later phase bs cs pending e h = record { r_is = e ∙ h.r_is }

  pub row_pending : (phase : ℕ) (bs cs : List Bool) (pending : Bool) (x : Pair) → Row phase bs cs pending x → x.r.pending ≡ pending
  row_pending phase bs cs pending x h = ap (λ (r : Receiver). r.pending) h.r_is

  pub row_index : (phase : ℕ) (bs cs : List Bool) (pending : Bool) (x : Pair) → Row phase bs cs pending x → x.r.row.index ≡ 0
  row_index phase bs cs pending x h = ap (λ (r : Receiver). r.row.index) h.r_is

  -- ---- 1 check

  abbrev pub CheckW : ℕ → Pair → Type 0
  CheckW j x = Row 10 [] [] true x × Idle x

  abbrev pub CheckD : ℕ → Pair → Type 0
  CheckD j x = Row 10 [] [] false x × Idle x

  abbrev pub check_request : Request
  check_request = OfUpdate (MetadataCheck 0 (meta_octets meta))

  module _ (x : Pair) (w : CheckW 0 x) where
    checks : Does (asks x.n u (check_request) x.moment) (idle w.1.capacity (w.1.active ∷ w.1.images) w.1.count w.1.fresh w.1.session x.moment) ((u, ByUpdate (MetadataStatus 0 0)) ∷ [])
    checks =
        subst (λ n. Does (asks n u (check_request) x.moment) (idle w.1.capacity (w.1.active ∷ w.1.images) w.1.count w.1.fresh w.1.session x.moment) ((u, ByUpdate (MetadataStatus 0 0)) ∷ [])) (sym w.1.n_is)
        (idle_check w.1.capacity w.1.active w.1.images w.1.count w.1.fresh w.1.session p meta image w.1.offer u x.moment w.1.m w.1.early)

    pub check_answered : CheckD 0 (answered_by (view p meta Check) u x (asks x.n u (check_request) x.moment))
    check_answered = (
      row_answered (view p meta Check) u x check_request _ (ByUpdate (MetadataStatus 0 0)) 10 10 [] [] [] [] checks w.0 (told_check p meta x.config.address [] []),
      record {
        capacity = w.1.capacity;
        active = w.1.active;
        images = w.1.images;
        offer = w.1.offer;
        count = w.1.count;
        fresh = w.1.fresh;
        session = w.1.session;
        m = x.moment;
        early = omega arith;
        n_is = checks.next_is;
      },
    )

  pub check_asking : Asking p meta u Check check_request CheckW CheckD most
  check_asking = record {
    waits = λ j x w. row_pending 10 [] [] true x w.0;
    is_done = λ j x w. row_pending 10 [] [] false x w.0;
    place = λ j x w. row_place 10 [] [] true x w.0;
    message = λ j x w. ap (λ i. Some (OfUpdate (MetadataCheck i (meta_octets meta)))) (row_index 10 [] [] true x w.0);
    time_waits = λ j x lt w. (let t = idle_later (view p meta Check) x w.1 in ((row_later (view p meta Check) x 10 [] [] true t.1 w.0, t.0), t.1));
    time_done = λ j x lt w. (let t = idle_later (view p meta Check) x w.1 in ((row_later (view p meta Check) x 10 [] [] false t.1 w.0, t.0), t.1));
    asked = λ j x w. check_answered x w;
    counts = λ c. refl;
  }

  -- ---- 2 start

  abbrev pub StartW : ℕ → Pair → Type 0
  StartW j x = Row 10 [] [] true x × Idle x

  abbrev pub StartD : ℕ → Pair → Type 0
  StartD j x = Row 2 [] [] false x × Taken j x

  abbrev pub start_request : Request
  start_request = OfUpdate (StartUpdate (record { ttl = p.ttl; base = p.base; id = p.id; index = 0; metadata = meta_octets meta }))

  module _ (j : ℕ) (x : Pair) (w : StartW j x) where
    starts : Does (asks x.n u start_request x.moment) (taken p meta image w.1.capacity w.1.active w.1.images w.1.offer u (w.1.count + 1) (fresh_after false w.1.fresh) x.moment x.moment) ((u, ByUpdate (UpdateStatus 0 2 (Some (shown p meta)))) ∷ [])
    starts =
        subst (λ n. Does (asks n u start_request x.moment) (taken p meta image w.1.capacity w.1.active w.1.images w.1.offer u (w.1.count + 1) (fresh_after false w.1.fresh) x.moment x.moment) ((u, ByUpdate (UpdateStatus 0 2 (Some (shown p meta)))) ∷ [])) (sym w.1.n_is)
        (idle_start w.1.capacity w.1.active w.1.images w.1.count w.1.fresh w.1.session p meta image w.1.offer u x.moment w.1.m w.1.early)

    pub start_answered : StartD j (answered_by (view p meta Start) u x (asks x.n u start_request x.moment))
    start_answered = (
      row_answered (view p meta Start) u x start_request _ (ByUpdate (UpdateStatus 0 2 (Some (shown p meta)))) 10 2 [] [] [] [] starts w.0 (told_start p meta x.config.address [] []),
      record {
        capacity = w.1.capacity;
        active = w.1.active;
        images = w.1.images;
        offer = w.1.offer;
        count = w.1.count + 1;
        fresh = fresh_after false w.1.fresh;
        heard = x.moment;
        lately = omega arith;
        n_is = starts.next_is;
      },
    )

  under : (j a : ℕ) → j < most → a ≤ 2 * most → a + j < 99
  under j a lt le = omega (arith, lt, le, few)

  pub start_asking : Asking p meta u Start start_request StartW StartD most
  start_asking = record {
    waits = λ j x w. row_pending 10 [] [] true x w.0;
    is_done = λ j x w. row_pending 2 [] [] false x w.0;
    place = λ j x w. row_place 10 [] [] true x w.0;
    message = λ j x w. ap (λ i. Some (OfUpdate (StartUpdate (record { ttl = p.ttl; base = p.base; id = p.id; index = i; metadata = meta_octets meta })))) (row_index 10 [] [] true x w.0);
    time_waits = λ j x lt w. (let t = idle_later (view p meta Start) x w.1 in ((row_later (view p meta Start) x 10 [] [] true t.1 w.0, t.0), t.1));
    time_done = λ j x lt w. (let t = taken_later (view p meta Start) x j (omega (arith, lt, few)) w.1 in ((row_later (view p meta Start) x 2 [] [] false t.1 w.0, t.0), t.1));
    asked = λ j x w. start_answered (suc j) x w;
    counts = λ c. refl;
  }

  -- ---- 3 information

  abbrev pub InformationW : ℕ → Pair → Type 0
  InformationW j x = Row 2 [] [] true x × Taken (most + j) x

  abbrev pub InformationD : ℕ → Pair → Type 0
  InformationD j x = Row 2 [] [] false x × Taken (most + j) x

  module _ (j : ℕ) (x : Pair) (w : InformationW j x) where
    informs : Does (asks x.n u (OfBlob BlobInformationGet) x.moment) (taken p meta image w.1.capacity w.1.active w.1.images w.1.offer u w.1.count w.1.fresh w.1.heard x.moment) ((u, ByBlob (BlobInformationStatus w.1.capacity)) ∷ [])
    informs =
        subst (λ n. Does (asks n u (OfBlob BlobInformationGet) x.moment) (taken p meta image w.1.capacity w.1.active w.1.images w.1.offer u w.1.count w.1.fresh w.1.heard x.moment) ((u, ByBlob (BlobInformationStatus w.1.capacity)) ∷ [])) (sym w.1.n_is)
        (taken_information p meta image w.1.capacity w.1.active w.1.images w.1.offer u w.1.count w.1.fresh w.1.heard x.moment)

    room : nat_lt w.1.capacity p.size ≡ false
    room = ap (λ n. nat_lt w.1.capacity n) w.1.offer.size ∙ w.1.offer.room

    pub information_answered : InformationD j (answered_by (view p meta Information) u x (asks x.n u (OfBlob BlobInformationGet) x.moment))
    information_answered = (
      row_answered (view p meta Information) u x (OfBlob BlobInformationGet) _ (ByBlob (BlobInformationStatus w.1.capacity)) 2 2 [] [] [] [] informs w.0
          (told_information p meta x.config.address [] [] w.1.capacity room w.1.offer.log good.long),
      record {
        capacity = w.1.capacity;
        active = w.1.active;
        images = w.1.images;
        offer = w.1.offer;
        count = w.1.count;
        fresh = w.1.fresh;
        heard = w.1.heard;
        lately = w.1.lately;
        n_is = informs.next_is;
      },
    )

  taken_on : (v : Client) (x : Pair) (j a : ℕ) → j < most → a ≤ 2 * most → Taken (a + j) x → Taken (a + suc j) (pair_time v u x) × ((pair_time v u x).r ≡ x.r)
  taken_on v x j a lt le h =
      let t = taken_later v x (a + j) (under j a lt le) h in
      let e : suc (a + j) ≡ a + suc j = omega arith in
      (subst (λ n. Taken n (pair_time v u x)) e t.0, t.1)

  pub information_asking : Asking p meta u Information (OfBlob BlobInformationGet) InformationW InformationD most
  information_asking = record {
    waits = λ j x w. row_pending 2 [] [] true x w.0;
    is_done = λ j x w. row_pending 2 [] [] false x w.0;
    place = λ j x w. row_place 2 [] [] true x w.0;
    message = λ j x w. refl;
    time_waits = λ j x lt w. (let t = taken_on (view p meta Information) x j most lt (omega arith) w.1 in ((row_later (view p meta Information) x 2 [] [] true t.1 w.0, t.0), t.1));
    time_done = λ j x lt w. (let t = taken_on (view p meta Information) x j most lt (omega arith) w.1 in ((row_later (view p meta Information) x 2 [] [] false t.1 w.0, t.0), t.1));
    asked = λ j x w. information_answered (suc j) x w;
    counts = λ c. refl;
  }

  -- ---- 4 transfer

  abbrev pub TransferW : ℕ → Pair → Type 0
  TransferW j x = Row 2 [] [] true x × Taken (2 * most + j) x

  abbrev pub TransferD : ℕ → Pair → Type 0
  TransferD j x = Row 2 (every_number (suc blocks)) [] false x × Runs (empty (suc blocks)) None j x

  abbrev pub transfer_request : Request
  transfer_request = OfBlob (TransferStart p.id (parameters p meta))

  abbrev pub transfer_reply : Reply
  transfer_reply = ByBlob (TransferStatus 0 p.mode 2 (Some p.id) (Some (parameters p meta)) (missing (empty (suc blocks))))

  module _ (j : ℕ) (x : Pair) (w : TransferW j x) where
    transfers : Does (asks x.n u transfer_request x.moment) (running p meta image w.1.capacity w.1.active w.1.images w.1.offer u 0 0 (empty (suc blocks)) None None (w.1.count + 1) (fresh_after false w.1.fresh) x.moment x.moment) ((u, transfer_reply) ∷ [])
    transfers =
        subst (λ n. Does (asks n u transfer_request x.moment) (running p meta image w.1.capacity w.1.active w.1.images w.1.offer u 0 0 (empty (suc blocks)) None None (w.1.count + 1) (fresh_after false w.1.fresh) x.moment x.moment) ((u, transfer_reply) ∷ [])) (sym w.1.n_is)
        (taken_transfer p meta image w.1.capacity w.1.active w.1.images w.1.offer u w.1.count w.1.fresh w.1.heard x.moment (suc blocks) good.total refl)

    pub transfer_answered : TransferD j (answered_by (view p meta Transfer) u x (asks x.n u transfer_request x.moment))
    transfer_answered = (
      row_answered (view p meta Transfer) u x transfer_request _ transfer_reply 2 2 [] [] (every_number (suc blocks)) [] transfers w.0
          (told_transfer p meta fields x.config.address (suc blocks) [] [] good.total),
      record {
        capacity = w.1.capacity;
        active = w.1.active;
        images = w.1.images;
        offer = w.1.offer;
        count = w.1.count + 1;
        fresh = fresh_after false w.1.fresh;
        heard = x.moment;
        lately = omega arith;
        n_is = transfers.next_is;
      },
    )

  pub transfer_asking : Asking p meta u Transfer transfer_request TransferW TransferD most
  transfer_asking = record {
    waits = λ j x w. row_pending 2 [] [] true x w.0;
    is_done = λ j x w. row_pending 2 (every_number (suc blocks)) [] false x w.0;
    place = λ j x w. row_place 2 [] [] true x w.0;
    message = λ j x w. refl;
    time_waits = λ j x lt w. (let t = taken_on (view p meta Transfer) x j (2 * most) lt (omega arith) w.1 in ((row_later (view p meta Transfer) x 2 [] [] true t.1 w.0, t.0), t.1));
    time_done = λ j x lt w. (let t = runs_later (view p meta Transfer) x (empty (suc blocks)) None j refl (omega (arith, lt, few)) w.1 in ((row_later (view p meta Transfer) x 2 (every_number (suc blocks)) [] false t.1 w.0, t.0), t.1));
    asked = λ j x w. transfer_answered (suc j) x w;
    counts = λ c. refl;
  }
