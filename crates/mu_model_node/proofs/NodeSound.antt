-- Each event keeps a node's state sound, and writes as its work says.
use Rattle.std.proofs.Common.{◌≡◌, ◌<◌, ◌≤◌, ℕ, zero, suc, ◌+◌, ◌-◌, Bool, true, false, List, [], ◌∷◌, length, refl, sym, subst, ◌∙◌, cond, arith, Option, Some, None, Result, Ok, Err, set}
use Rattle.std.specs.Prelude.{⊤, ◌==◌, ◌&&◌, nat_lt, is_some, slice_get}
use Rattle.std.proofs.lemmas.List.{length-replicate, length-set}
use Rattle.std.proofs.lemmas.List.Sums.{sum_by-cons}
use Rattle.std.proofs.lemmas.Bool.Decides.{nat_tests}
use Rattle.mu_model_image.specs.declared.Meta.{Meta}
use Rattle.mu_model_image.specs.Meta.{Image, IsFit, is_fit, meta_of, meta_from}
use Rattle.mu_model_image.specs.Pieces.{block_count, block_length}
use Rattle.mu_model_node.specs.Slots.{Slots, empty, at, put, is_full, joined, held_count}
use Rattle.mu_model_node.specs.BlobMessages.{Parameters}
use Rattle.mu_model_node.specs.UpdateMessages.{UpdateStart, UpdateRequest, InformationGet, MetadataCheck, UpdateGet, StartUpdate, UpdateCancel, UpdateApply}
use Rattle.mu_model_node.specs.NodeMessages.{Request, OfUpdate, OfBlob}
use Rattle.mu_model_node.specs.BlobServer.{Transfer, Link, Cut, Ready, Running, CurrentBlock, Session, heard_at, made_ready, Serving, NoJob, Lacking, Whole, Change, Same, Begins, Drops, Puts}
use Rattle.mu_model_node.specs.BlobTable.{Served, on_server_time}
use Rattle.mu_model_node.specs.FlashWork.{FlashWork, Untouched, Recorded, Begun, PutBlock, fresh_after}
use Rattle.mu_model_node.specs.NodeState.{Stored, Filling, Verified, Refused, Applied, Job, NodeDurable, NodeState, UpdatePhase, Idle, TransferError, TransferActive, Verifying, Succeeded, Failed, Applying, link_phase, filling_phase, stored_phase, job_phase, update_phase, transfer_of, serving_in, server_of}
use Rattle.mu_model_node.specs.NodeOutcome.{Outcome, with_session, recorded, with_job, job_after, work_of, served}
use Rattle.mu_model_node.specs.UpdateTable.{same_start, new_job, check, check_image, takes_checked, takes, without_job, on_update_start, on_update_cancel, on_update_apply, on_update}
use Rattle.mu_model_node.specs.TimeTable.{verified, activated, image_of_job, on_time}
use Rattle.mu_model_node.specs.Events.{on_request}
use Rattle.mu_model_node.specs.Sound.{IsActiveImage, AreBlocks, HasBlocks, IsWhole, StoredIs, IsNewer, IsJob, HasJob, IsNodeDurable, RequestFits, IsCurrent, HasCurrent, IsNodeState}
use Rattle.mu_model_node.proofs.Places.{empty_lengths, put_lengths, length_put, not_full, block_is_short, few_pages}
use Rattle.mu_model_node.proofs.BlobSound.{IsCurrentIn, CurrentIn, MayBegin, ChangeIs, Good, blob_good, time_good}
use Rattle.mu_model_node.proofs.Moves.{PhaseOf, phase_of, fits_true}

-- ---- the current block of the node and of its BLOB server

of_link : (j : Job) (link : Link) (c : CurrentBlock) → IsCurrentIn (transfer_of j) c → CurrentIn (serving_in (link_phase j link)) (Some c)
of_link j Cut c h = h
of_link j Ready c h = h
of_link j Running c h = h

of_filling : (j : Job) (link : Link) (parameters : Option Parameters) (c : CurrentBlock) → is_full j.held ≡ false → IsCurrentIn (transfer_of j) c → CurrentIn (serving_in (filling_phase j link parameters)) (Some c)
of_filling j link None c e h = of_link j link c h
of_filling j link (Some p) c e h = rw e (of_link j link c h)

of_job : (j : Job) (link : Link) (stored : Stored) (c : CurrentBlock) → stored ≡ Filling → is_full j.held ≡ false → IsCurrentIn (transfer_of j) c → CurrentIn (serving_in (stored_phase j link stored)) (Some c)
of_job j link Filling c filling e h = of_filling j link j.parameters c e h
of_job j link _ c filling e h = cc

pub current_in : (job : Option Job) (link : Link) (current : Option CurrentBlock) → HasCurrent job current → CurrentIn (serving_in (job_phase link job)) current
current_in job link None h = tt
current_in job link (Some c) h =
    let own : IsCurrentIn (transfer_of h.of) c = record { parameters = h.parameters; has = h.has; current = h.current } in
    subst (λ x. CurrentIn (serving_in (job_phase link x)) (Some c)) (sym h.is) (of_job h.of link h.of.stored c h.filling (not_full h.of.held c.number h.current.number h.current.unheld) own)

-- a job whose blocks come
pub record LackingJob (job : Option Job) (t : Transfer) : Type 0 where
  pub of : Job
  pub is : job ≡ Some of
  pub filling : of.stored ≡ Filling
  pub transfer : t ≡ transfer_of of

pub lacking_job : (job : Option Job) (phase : UpdatePhase) (t : Transfer) → PhaseOf job phase → serving_in phase ≡ Lacking t → LackingJob job t
lacking_job job (TransferError j) t h e = record { of = j; is = h.0; filling = h.1; transfer = cc }
lacking_job job (TransferActive j) t h e = record { of = j; is = h.0; filling = h.1; transfer = cc }
lacking_job job _ t h e = cc

has_current_in : (job : Option Job) (phase : UpdatePhase) (serving : Serving) (current : Option CurrentBlock) → PhaseOf job phase → serving_in phase ≡ serving → CurrentIn serving current → HasCurrent job current
has_current_in job phase serving None h e k = tt
has_current_in job phase (Lacking t) (Some c) h e k =
    let l : LackingJob job t = lacking_job job phase t h e in
    record {
      of = l.of;
      is = l.is;
      filling = l.filling;
      parameters = k.parameters;
      has = subst (λ (x : Transfer). x.parameters ≡ Some k.parameters) l.transfer k.has;
      current = subst (λ (x : Transfer). IsCurrent k.parameters x.held c) l.transfer k.current;
    }
has_current_in job phase NoJob (Some c) h e k = absurd k
has_current_in job phase (Whole t) (Some c) h e k = absurd k

has_current : (s : NodeState) (current : Option CurrentBlock) → CurrentIn (serving_in (update_phase s)) current → HasCurrent s.durable.job current
has_current s current k = has_current_in s.durable.job (update_phase s) (serving_in (update_phase s)) current (phase_of s.session.link s.durable.job) refl k

-- ---- what is written

-- how many blocks a job holds
abbrev pub blocks_of : Option Job → ℕ
blocks_of None = 0
blocks_of (Some j) = held_count j.held

-- what the work of an event says of the durable state after it
abbrev pub WorkIs : NodeDurable → NodeDurable → FlashWork → Type 0
WorkIs old new Untouched = new ≡ old
WorkIs old new (Recorded is_long) = (is_long ≡ false) × (new.count ≡ old.count + 1)
WorkIs old new (Begun is_long) = (is_long ≡ false) × (new.count ≡ old.count + 1)
WorkIs old new (PutBlock pages) = (pages ≤ 4) × (new.count ≡ old.count) × (blocks_of new.job ≡ blocks_of old.job + 1)

pub record SoundAfter (s : NodeState) (o : Outcome) : Type 0 where
  pub state : IsNodeState o.next
  pub work : WorkIs s.durable o.next.durable o.work

fresh_below : (fresh : ℕ) → fresh ≤ 3 → fresh_after false fresh ≤ 3
fresh_below fresh h = elim (fresh == 0) as (λ b. cond b 3 (fresh - 1) ≤ 3) [ true ↦ omega arith | false ↦ omega arith ]

-- a further record of the same images
written : (s : NodeState) (job : Option Job) → IsNodeState s → HasJob s.durable.capacity s.durable.images job → IsNodeDurable (recorded s s.durable.images job).durable
written s job h k = record {
  capacity = h.durable.capacity;
  some_image = h.durable.some_image;
  two_images = h.durable.two_images;
  images = h.durable.images;
  job = k;
}

-- ---- what the BLOB server did

-- the job that a sound node has
pub own_job : (s : NodeState) (j : Job) → IsNodeState s → s.durable.job ≡ Some j → IsJob s.durable.capacity s.durable.images j
own_job s j h e = subst (HasJob s.durable.capacity s.durable.images) e h.durable.job

-- a job whose blocks are others
with_blocks : (s : NodeState) (j : Job) (parameters : Option Parameters) (held : Slots) → IsNodeState s → s.durable.job ≡ Some j → j.stored ≡ Filling → HasBlocks j.meta.size parameters held → IsJob s.durable.capacity s.durable.images (record j { parameters = parameters; held = held })
with_blocks s j parameters held h e filling k =
    let was = own_job s j h e in
    record { some = was.some; room = was.room; newer = was.newer; blocks = k; stored = rw filling tt }

begins_blocks : (capacity : ℕ) (t : Transfer) (p : Parameters) → MayBegin capacity t p → HasBlocks t.size (Some p) (empty (block_count p.size p.log))
begins_blocks capacity t p h = record {
  mode_above = h.range.mode_above;
  mode_below = h.range.mode_below;
  mtu_above = h.range.mtu_above;
  size = h.size;
  log_above = h.log_above;
  log_below = h.log_below;
  count = length-replicate (block_count p.size p.log) None;
  lengths = empty_lengths _ _;
}

puts_blocks : (expected : ℕ) (p : Parameters) (held : Slots) (block : ℕ) (octets : List ℕ) → AreBlocks expected p held → length octets ≡ block_length p.size p.log block → AreBlocks expected p (put held block octets)
puts_blocks expected p held block octets h e = record {
  mode_above = h.mode_above;
  mode_below = h.mode_below;
  mtu_above = h.mtu_above;
  size = h.size;
  log_above = h.log_above;
  log_below = h.log_below;
  count = length_put held block octets ∙ h.count;
  lengths = put_lengths _ held block octets e h.lengths;
}

count_put : (slots : Slots) (i : ℕ) (octets : List ℕ) → i < length slots → at slots i ≡ None → held_count (put slots i octets) ≡ held_count slots + 1
count_put [] i octets h e = absurd (omega arith)
count_put (None ∷ slots) zero octets h e =
    let now = sum_by-cons (λ (x : Option (List ℕ)). cond (is_some x) 1 0) (Some octets) slots in
    let was = sum_by-cons (λ (x : Option (List ℕ)). cond (is_some x) 1 0) None slots in
    omega (arith, now, was)
count_put (Some other ∷ slots) zero octets h e = cc
count_put (x ∷ slots) (suc i) octets h e =
    let others : held_count (put slots i octets) ≡ held_count slots + 1 = count_put slots i octets (omega arith) e in
    let now = sum_by-cons (λ (x : Option (List ℕ)). cond (is_some x) 1 0) x (put slots i octets) in
    let was = sum_by-cons (λ (x : Option (List ℕ)). cond (is_some x) 1 0) x slots in
    omega (arith, now, was, others)

-- after a change, at the job that it is made to
pub record ChangedSoundly (s : NodeState) (c : Change) (open_block : Option CurrentBlock) (t : NodeState) : Type 0 where
  pub durable : IsNodeDurable t.durable
  pub fresh : t.fresh ≤ 3
  pub current : HasCurrent t.durable.job open_block
  pub work : WorkIs s.durable t.durable (work_of c)

stays_put : (s : NodeState) (current : Option CurrentBlock) (job : Option Job) → IsNodeState s → HasCurrent s.durable.job current → ChangedSoundly s Same current (job_after s Same job)
stays_put s current None h k = record { durable = h.durable; fresh = h.fresh; current = k; work = refl }
stays_put s current (Some j) h k = record { durable = h.durable; fresh = h.fresh; current = k; work = refl }

changes : (s : NodeState) (c : Change) (current : Option CurrentBlock) → IsNodeState s → ChangeIs (server_of s) c current → ChangedSoundly s c current (job_after s c s.durable.job)
changes s Same current h k = stays_put s current s.durable.job h (has_current s current k)
changes s (Begins p) current h k =
    let l : LackingJob s.durable.job k.1 = lacking_job s.durable.job (update_phase s) k.1 (phase_of s.session.link s.durable.job) k.2 in
    let blocks : HasBlocks l.of.meta.size (Some p) (empty (block_count p.size p.log)) = subst (λ (x : Transfer). HasBlocks x.size (Some p) (empty (block_count p.size p.log))) l.transfer (begins_blocks s.durable.capacity k.1 p k.3) in
    subst (λ job. ChangedSoundly s (Begins p) current (job_after s (Begins p) job)) (sym l.is) (record {
      durable = written s _ h (with_blocks s l.of _ _ h l.is l.filling blocks);
      fresh = fresh_below s.fresh h.fresh;
      current = rw (k.0) tt;
      work = (refl, refl);
    })
changes s Drops current h k =
    let l : LackingJob s.durable.job k.1 = lacking_job s.durable.job (update_phase s) k.1 (phase_of s.session.link s.durable.job) k.2 in
    subst (λ job. ChangedSoundly s Drops current (job_after s Drops job)) (sym l.is) (record {
      durable = written s _ h (with_blocks s l.of None [] h l.is l.filling refl);
      fresh = fresh_below s.fresh h.fresh;
      current = rw (k.0) tt;
      work = (refl, refl);
    })
changes s (Puts block octets) current h k =
    let l : LackingJob s.durable.job k.1 = lacking_job s.durable.job (update_phase s) k.1 (phase_of s.session.link s.durable.job) k.2 in
    let p : Parameters = k.3.parameters in
    let has : l.of.parameters ≡ Some p = subst (λ (x : Transfer). x.parameters ≡ Some p) l.transfer k.3.has in
    let blocks : AreBlocks l.of.meta.size p l.of.held = subst (λ x. HasBlocks l.of.meta.size x l.of.held) has (own_job s l.of h l.is).blocks in
    let put_blocks : HasBlocks l.of.meta.size l.of.parameters (put l.of.held block octets) = subst (λ x. HasBlocks l.of.meta.size x (put l.of.held block octets)) (sym has) (puts_blocks l.of.meta.size p l.of.held block octets blocks k.3.whole) in
    let below : block < length l.of.held = subst (λ (x : Transfer). block < length x.held) l.transfer k.3.number in
    let unheld : at l.of.held block ≡ None = subst (λ (x : Transfer). at x.held block ≡ None) l.transfer k.3.unheld in
    let more : held_count (put l.of.held block octets) ≡ blocks_of s.durable.job + 1 = subst (λ job. held_count (put l.of.held block octets) ≡ blocks_of job + 1) (sym l.is) (count_put l.of.held block octets below unheld) in
    let short : length octets ≤ 16384 = rw (k.3.whole) (block_is_short p.size p.log block blocks.log_below) in
    subst (λ job. ChangedSoundly s (Puts block octets) current (job_after s (Puts block octets) job)) (sym l.is) (record {
      durable = record {
        capacity = h.durable.capacity;
        some_image = h.durable.some_image;
        two_images = h.durable.two_images;
        images = h.durable.images;
        job = with_blocks s l.of l.of.parameters (put l.of.held block octets) h l.is l.filling put_blocks;
      };
      fresh = h.fresh;
      current = rw (k.0) tt;
      work = (few_pages (length octets) short, refl, more);
    })

pub serves : (s : NodeState) (o : Served) → IsNodeState s → Good (server_of s) o → SoundAfter s (served s o)
serves s o h good =
    let k : ChangedSoundly s o.change o.session.current (job_after s o.change s.durable.job) = changes s o.change o.session.current h good.change in
    record { state = record { durable = k.durable; fresh = k.fresh; current = k.current }; work = k.work }

-- ---- update messages

answers : (s : NodeState) (o : Outcome) → IsNodeState s → o.next ≡ s → o.work ≡ Untouched → SoundAfter s o
answers s o h e k = record { state = rw e h; work = rw (k, e) refl }

-- a session that is heard or ready has the same current block
resessioned : (s : NodeState) (o : Outcome) (l : Session) → IsNodeState s → l.current ≡ s.session.current → o.next ≡ with_session s l → o.work ≡ Untouched → SoundAfter s o
resessioned s o l h same e k = record {
  state = rw e (record { durable = h.durable; fresh = h.fresh; current = rw same (h.current) });
  work = rw (k, e) refl;
}

check_gives : (d : NodeDurable) (image : Option Image) (offer : Option Meta) (meta : Meta) → check_image d image offer ≡ Ok meta → (offer ≡ Some meta) × (meta.size ≤ d.capacity) × IsNewer meta.version image
check_gives d None offer meta h = cc
check_gives d (Some active) None meta h = cc
check_gives d (Some active) (Some other) meta h =
    let same : Some other ≡ Some meta = grind arith in
    let room : other.size ≤ d.capacity = grind (arith, nat_tests) in
    let newer : active.meta.version < other.version = grind (arith, nat_tests) in
    let is : other ≡ meta = cc in
    (same, subst (λ (m : Meta). m.size ≤ d.capacity) is room, subst (λ (m : Meta). active.meta.version < m.version) is newer)

meta_from_some : (octets : List ℕ) (meta : Meta) → meta_from octets ≡ Some meta → 0 < meta.size
meta_from_some octets meta e =
    let there : (length octets == 40 && nat_lt 0 (meta_of octets).size) ≡ true = grind arith in
    let is : Some (meta_of octets) ≡ Some meta = rw there at e in
    let same : meta_of octets ≡ meta = cc in
    let some : 0 < (meta_of octets).size = grind (arith, nat_tests) in
    subst (λ (m : Meta). 0 < m.size) same some

taken : (s : NodeState) (to : ℕ) (u : UpdateStart) (r : Result Meta ℕ) → IsNodeState s → ((meta : Meta) → r ≡ Ok meta → (0 < meta.size) × (meta.size ≤ s.durable.capacity) × IsNewer meta.version (slice_get s.durable.images u.index)) → SoundAfter s (takes_checked s to u r)
taken s to u (Err status) h f = answers s _ h refl refl
taken s to u (Ok meta) h f =
    let g = f meta refl in
    record {
      state = record {
        durable = written s (Some (new_job u meta)) h (record { some = g.0; room = g.1; newer = g.2; blocks = refl; stored = tt });
        fresh = fresh_below s.fresh h.fresh;
        current = tt;
      };
      work = (refl, refl);
    }

offers : (s : NodeState) (to : ℕ) (u : UpdateStart) → IsNodeState s → SoundAfter s (takes s to u)
offers s to u h =
    taken s to u (check s.durable u.index u.metadata) h (λ meta e.
    let g = check_gives s.durable (slice_get s.durable.images u.index) (meta_from u.metadata) meta e in
    (meta_from_some u.metadata meta g.0, g.1, g.2))

split : (s : NodeState) (b : Bool) (x y : Outcome) → SoundAfter s x → SoundAfter s y → SoundAfter s (cond b x y)
split s true x y h k = h
split s false x y h k = k

starts : (s : NodeState) (to : ℕ) (u : UpdateStart) (phase : UpdatePhase) → IsNodeState s → SoundAfter s (on_update_start s to u phase)
starts s to u Idle h = offers s to u h
starts s to u (TransferError j) h = split s (same_start u j) _ _ (resessioned s _ (made_ready s.moment s.session) h refl refl refl) (offers s to u h)
starts s to u (TransferActive j) h = split s (same_start u j) _ _ (resessioned s _ (heard_at s.moment s.session) h refl refl refl) (answers s _ h refl refl)
starts s to u (Verifying j) h = answers s _ h refl refl
starts s to u (Succeeded j) h = answers s _ h refl refl
starts s to u (Failed j) h = offers s to u h
starts s to u (Applying j) h = answers s _ h refl refl

loses : (s : NodeState) (o : Outcome) → IsNodeState s → o.next ≡ without_job s → o.work ≡ Recorded false → SoundAfter s o
loses s o h e k = record {
  state = rw e (record { durable = written s None h tt; fresh = fresh_below s.fresh h.fresh; current = tt });
  work = rw (k, e) (refl, refl);
}

cancels : (s : NodeState) (to : ℕ) (phase : UpdatePhase) → IsNodeState s → SoundAfter s (on_update_cancel s to phase)
cancels s to Idle h = answers s _ h refl refl
cancels s to (Applying j) h = answers s _ h refl refl
cancels s to _ h = loses s _ h refl refl

-- only a job whose blocks come has a current block
no_current : (job : Option Job) (j : Job) (current : Option CurrentBlock) (other : Option Job) → job ≡ Some j → (j.stored ≡ Filling → ⊥) → HasCurrent job current → HasCurrent other current
no_current job j None other e never h = tt
no_current job j (Some c) other e never h =
    let same : h.of ≡ j = cc (h.is, e) in
    absurd (never (subst (λ (x : Job). x.stored ≡ Filling) same h.filling))

-- a job that goes on as another stored phase
restored : (s : NodeState) (o : Outcome) (j : Job) (stored : Stored) → IsNodeState s → s.durable.job ≡ Some j → StoredIs (record j { stored = stored }) stored → HasCurrent (Some (record j { stored = stored })) s.session.current → o.next ≡ with_job s (record j { stored = stored }) → o.work ≡ Recorded false → SoundAfter s o
restored s o j stored h is kept current e k =
    let was = own_job s j h is in
    record {
      state = rw e (record {
        durable = written s (Some (record j { stored = stored })) h (record { some = was.some; room = was.room; newer = was.newer; blocks = was.blocks; stored = kept });
        fresh = fresh_below s.fresh h.fresh;
        current = current;
      });
      work = rw (k, e) (refl, refl);
    }

-- a job that is another stored phase is whole as it was
whole_of : (j : Job) (stored other : Stored) → StoredIs j j.stored → j.stored ≡ stored → IsWhole j → IsWhole (record j { stored = other })
whole_of j stored other h e k = record { parameters = k.parameters; full = k.full; fit = k.fit }

applies : (s : NodeState) (to : ℕ) (phase : UpdatePhase) → PhaseOf s.durable.job phase → IsNodeState s → SoundAfter s (on_update_apply s to phase)
applies s to (Succeeded j) is h =
    let was = own_job s j h is.0 in
    let whole : IsWhole j = subst (StoredIs j) is.1 was.stored in
    restored s _ j Applied h is.0 (whole_of j Verified Applied was.stored is.1 whole) (no_current s.durable.job j s.session.current _ is.0 (λ e. let never : Verified ≡ Filling = sym is.1 ∙ e in cc) h.current) refl refl
applies s to (Applying j) is h = answers s _ h refl refl
applies s to _ is h = answers s _ h refl refl

updates : (s : NodeState) (to : ℕ) (request : UpdateRequest) → IsNodeState s → SoundAfter s (on_update s to request)
updates s to (InformationGet first limit) h = answers s _ h refl refl
updates s to (MetadataCheck index metadata) h = answers s _ h refl refl
updates s to UpdateGet h = answers s _ h refl refl
updates s to (StartUpdate u) h = starts s to u (update_phase s) h
updates s to UpdateCancel h = cancels s to (update_phase s) h
updates s to UpdateApply h = applies s to (update_phase s) (phase_of s.session.link s.durable.job) h

-- EACH MESSAGE KEEPS A STATE SOUND
pub asks_soundly : (s : NodeState) (from : ℕ) (request : Request) → RequestFits request → IsNodeState s → SoundAfter s (on_request s from request)
asks_soundly s from (OfUpdate request) fits h = updates s from request h
asks_soundly s from (OfBlob request) fits h = serves s _ h (blob_good (server_of s) from request fits (current_in s.durable.job s.session.link s.session.current h.current))

-- ---- time

-- all blocks are held while they are verified
abbrev pub WholeIn : UpdatePhase → Type 0
WholeIn (Verifying j) = (is_some j.parameters ≡ true) × (is_full j.held ≡ true)
WholeIn _ = ⊤

whole_link : (j : Job) (link : Link) → WholeIn (link_phase j link)
whole_link j Cut = tt
whole_link j Ready = tt
whole_link j Running = tt

whole_filling : (j : Job) (link : Link) (parameters : Option Parameters) (full : Bool) → j.parameters ≡ parameters → is_full j.held ≡ full → WholeIn (filling_phase j link parameters)
whole_filling j link None full e k = whole_link j link
whole_filling j link (Some p) true e k = rw k (rw e refl, k)
whole_filling j link (Some p) false e k = rw k (whole_link j link)

whole_stored : (j : Job) (link : Link) (stored : Stored) → WholeIn (stored_phase j link stored)
whole_stored j link Filling = whole_filling j link j.parameters (is_full j.held) refl refl
whole_stored j link Verified = tt
whole_stored j link Refused = tt
whole_stored j link Applied = tt

whole_in : (link : Link) (job : Option Job) → WholeIn (job_phase link job)
whole_in link None = tt
whole_in link (Some j) = whole_stored j link j.stored

-- a full job has no current block
full_none : (job : Option Job) (j : Job) (current : Option CurrentBlock) (other : Option Job) → job ≡ Some j → is_full j.held ≡ true → HasCurrent job current → HasCurrent other current
full_none job j None other e full h = tt
full_none job j (Some c) other e full h =
    let same : h.of ≡ j = cc (h.is, e) in
    let lacks : is_full h.of.held ≡ false = not_full h.of.held c.number h.current.number h.current.unheld in
    let never : true ≡ false = sym full ∙ subst (λ (x : Job). is_full x.held ≡ false) same lacks in
    cc

seals : (s : NodeState) (j : Job) (b : Bool) → IsNodeState s → s.durable.job ≡ Some j → (is_some j.parameters ≡ true) × (is_full j.held ≡ true) → (b ≡ true → IsFit (joined j.held) j.meta) → SoundAfter s (record { next = verified s j b; replies = []; work = Recorded false })
seals s j true h is whole fit =
    restored s _ j Verified h is (record { parameters = whole.0; full = whole.1; fit = fit refl }) (full_none s.durable.job j s.session.current _ is whole.1 h.current) refl refl
seals s j false h is whole fit =
    let was = own_job s j h is in
    record {
      state = record {
        durable = written s (Some (record j { stored = Refused; parameters = None; held = [] })) h (record { some = was.some; room = was.room; newer = was.newer; blocks = refl; stored = refl });
        fresh = fresh_below s.fresh h.fresh;
        current = tt;
      };
      work = (refl, refl);
    }

-- the images after one is put at an index
set_images : (P : Image → Type 0) (images : List Image) (at : ℕ) (new : Image) → P new → ((index : ℕ) (image : Image) → slice_get images index ≡ Some image → P image) → (index : ℕ) (image : Image) → slice_get (set images at new) index ≡ Some image → P image
set_images P [] at new here h index image e = cc
set_images P (x ∷ xs) zero new here h zero image e = let same : new ≡ image = cc in subst P same here
set_images P (x ∷ xs) zero new here h (suc k) image e = h (suc k) image e
set_images P (x ∷ xs) (suc a) new here h zero image e = h zero image e
set_images P (x ∷ xs) (suc a) new here h (suc k) image e = set_images P xs a new here (λ index other is. h (suc index) other is) k image e

activates : (s : NodeState) (j : Job) → IsNodeState s → s.durable.job ≡ Some j → j.stored ≡ Applied → SoundAfter s (record { next = activated s j; replies = []; work = Recorded false })
activates s j h is e =
    let was = own_job s j h is in
    let whole : IsWhole j = subst (StoredIs j) e was.stored in
    let same_count : length (set s.durable.images j.index (image_of_job j)) ≡ length s.durable.images = length-set s.durable.images j.index (image_of_job j) in
    record {
      state = record {
        durable = record {
          capacity = h.durable.capacity;
          some_image = rw same_count (h.durable.some_image);
          two_images = rw same_count (h.durable.two_images);
          images = set_images (IsActiveImage s.durable.capacity) s.durable.images j.index (image_of_job j) (record { some = was.some; room = was.room; fit = whole.fit }) h.durable.images;
          job = tt;
        };
        fresh = fresh_below s.fresh h.fresh;
        current = tt;
      };
      work = (refl, refl);
    }

times : (s : NodeState) (phase : UpdatePhase) → PhaseOf s.durable.job phase → WholeIn phase → IsNodeState s → SoundAfter s (on_time s phase)
times s (Applying j) is whole h = activates s j h is.0 is.1
times s (Verifying j) is whole h = seals s j (is_fit (joined j.held) j.meta) h is.0 whole (fits_true (joined j.held) j.meta)
times s phase is whole h = serves s (on_server_time (server_of s) (serving_in phase)) h (time_good (server_of s) (serving_in phase) (current_in s.durable.job s.session.link s.session.current h.current))

-- EACH TIME EVENT KEEPS A STATE SOUND
pub passes_soundly : (s : NodeState) → IsNodeState s → SoundAfter s (on_time s (update_phase s))
passes_soundly s h = times s (update_phase s) (phase_of s.session.link s.durable.job) (whole_in s.session.link s.durable.job) h
