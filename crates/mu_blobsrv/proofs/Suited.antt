-- The block that comes goes with what is kept, after each call.
use Rattle.std.proofs.Common.{◌≡◌, ◌∙◌, inl, inr, ℕ, Bool, true, false, List, Option, Some, None, refl, sym, ap, subst, cond}
use Rattle.std.specs.Prelude.{slice_index_or}
use Rattle.std.specs.Option.{option_map}
use Rattle.mu_model_node.specs.declared.Parameters.{Parameters}
use Rattle.mu_model_node.specs.declared.Link.{Link}
use Rattle.mu_model_node.specs.BlobServer.{Session, unlinked}
use Rattle.mu_model_node.specs.Slots.{is_full}
use Rattle.mu_block.specs.Coming.{Coming, whole_size}
use Rattle.mu_blob_rows.specs.declared.looks.Serving.{Serving}
use Rattle.mu_blob_rows.specs.declared.looks.Serving.TheVariants.{NoJob, Lacking, Whole}
use Rattle.mu_blob_rows.specs.declared.session.LinkChange.{LinkChange}
use Rattle.mu_blob_rows.specs.declared.session.LinkChange.TheVariants.{Keeps, Hears, Links, Unlinks}
use Rattle.mu_blob_rows.specs.declared.table.BlocksLook.{BlocksLook}
use Rattle.mu_blob_rows.specs.declared.table.TransferChange.TheVariants.{Begin}
use Rattle.mu_blob_rows.specs.Rows.{ChangeFits}
use Rattle.mu_blob_rows.specs.Sessions.{link_by}
use Rattle.mu_blob_session.specs.declared.session.BlobSession.{BlobSession}
use Rattle.mu_blob_session.specs.Blocks.{current_of, coming_after}
use Rattle.mu_blob_session.specs.Came.{StaysOrGoes}
use Rattle.mu_blob_session.specs.Opens.{IsOpenedBy}
use Rattle.mu_blob_session.specs.Sessions.{session_in, coming_in}
use Rattle.mu_blob_session.specs.Sound.{IsBlockOf, IsBlockIn, Suits}
use Rattle.mu_place.specs.Place.{place_fault}
use Rattle.mu_kept.specs.declared.store.JobStore.{JobStore}
use Rattle.mu_kept.specs.Views.{place_in, flags_in, serving_in, is_whole, blocks_in}
use Rattle.mu_kept.specs.Calls.{IsBlockBy, IsBlockFor, CanPutBlock}
use Rattle.mu_blobsrv.specs.Suits.{Lacks, SuitsStore, IsSuited}

-- ---- no block comes

pub suits_none : {F : Type 0} {g : _} (store : JobStore F g) (session : BlobSession) → coming_in session ≡ None → IsSuited store session
suits_none store session none fault =
    record {
      suits = subst (λ (x : Option Coming). Suits (serving_in store) (session_in session).link x) (sym none) tt;
      lacks = subst (λ (x : Option Coming). Lacks (flags_in store) x) (sym none) tt;
    }

pub suits_fault : {F : Type 0} {g : _} (store : JobStore F g) (session : BlobSession) (why : _) → place_fault (place_in store) ≡ Some why → IsSuited store session
suits_fault store session why is fault = absurd (cc (is, fault))

-- ---- the link changes

linked : (serving : Serving) (flags : List Bool) (l : Session) (coming : Option Coming) (change : LinkChange) (now from : ℕ) → Suits serving l.link coming → Lacks flags coming
    → Suits serving (link_by change now from l).link (coming_after change coming) × Lacks flags (coming_after change coming)
linked serving flags l coming Keeps now from s k = (s, k)
linked serving flags l coming Hears now from s k = (s, k)
linked serving flags l None Links now from s k = (tt, tt)
linked serving flags l (Some c) Links now from s k = ((refl, s.1), k)
linked serving flags l coming Unlinks now from s k = (tt, tt)

pub suits_linked : {F : Type 0} {g : _} (store : JobStore F g) (old new : BlobSession) (change : LinkChange) (now from : ℕ) → IsSuited store old
    → session_in new ≡ link_by change now from (session_in old) → coming_in new ≡ coming_after change (coming_in old) → IsSuited store new
suits_linked store old new change now from suited session block fault =
    let was : SuitsStore store old = suited fault in
    let both = linked (serving_in store) (flags_in store) (session_in old) (coming_in old) change now from was.suits was.lacks in
    record {
      suits =
          subst (λ (l : Session). Suits (serving_in store) l.link (coming_in new)) (sym session)
          (subst (λ (x : Option Coming). Suits (serving_in store) (link_by change now from (session_in old)).link x) (sym block) both.0);
      lacks = subst (λ (x : Option Coming). Lacks (flags_in store) x) (sym block) both.1;
    }

coming_stays_none : (change : LinkChange) (old new : Option Coming) → old ≡ None → new ≡ coming_after change old → new ≡ None
coming_stays_none Keeps old new none e = e ∙ none
coming_stays_none Hears old new none e = e ∙ none
coming_stays_none Links old new none e = e ∙ none
coming_stays_none Unlinks old new none e = e

none_of : (coming : Option Coming) → current_of coming ≡ None → coming ≡ None
none_of None e = refl
none_of (Some c) e = absurd (cc e)

pub suits_unlinked : {F : Type 0} {g : _} (store : JobStore F g) (session : BlobSession) (old l : Session) → session_in session ≡ l → l ≡ unlinked old → IsSuited store session
suits_unlinked store session old l is e = suits_none store session (none_of (coming_in session) (ap (λ (x : Session). x.current) (is ∙ e)))

-- ---- a job that lacks parameters, or nothing

none_begun : (serving : Serving) (capacity : ℕ) (p : Parameters) (link : Link) (coming : Option Coming) → ChangeFits serving capacity p Begin → Suits serving link coming → coming ≡ None
none_begun serving capacity p link None fits s = refl
none_begun NoJob capacity p link (Some c) fits s = absurd fits
none_begun (Lacking t) capacity p link (Some c) fits s = absurd (subst (λ (q : Option Parameters). IsBlockOf q c) fits.0 s.1)
none_begun (Whole t) capacity p link (Some c) fits s = absurd fits

pub suits_begun : {F : Type 0} {g : _} (old new : JobStore F g) (was session : BlobSession) (change : LinkChange) (capacity : ℕ) (p : Parameters) → IsSuited old was → place_fault (place_in old) ≡ None
    → ChangeFits (serving_in old) capacity p Begin → coming_in session ≡ coming_after change (coming_in was) → IsSuited new session
suits_begun old new was session change capacity p suited none fits block =
    let first : SuitsStore old was = suited none in
    suits_none new session (coming_stays_none change (coming_in was) (coming_in session) (none_begun (serving_in old) capacity p (session_in was).link (coming_in was) fits first.suits) block)

pub none_whole : (serving : Serving) (link : Link) (coming : Option Coming) → is_whole serving ≡ true → Suits serving link coming → coming ≡ None
none_whole serving link None whole s = refl
none_whole NoJob link (Some c) whole s = absurd s.1
none_whole (Lacking t) link (Some c) whole s = absurd (cc whole)
none_whole (Whole t) link (Some c) whole s = absurd s.1

pub suits_whole : {F : Type 0} {g : _} (old new : JobStore F g) (session : BlobSession) → IsSuited old session → place_fault (place_in old) ≡ None → is_whole (serving_in old) ≡ true → IsSuited new session
suits_whole old new session suited none whole =
    let was : SuitsStore old session = suited none in
    suits_none new session (none_whole (serving_in old) (session_in session).link (coming_in session) whole was.suits)

-- ---- blocks and chunks

lacks_opened : (flags : List Bool) (blocks : BlocksLook) (block : ℕ) (old new : Option Coming) → blocks.is_held ≡ slice_index_or flags block false → IsOpenedBy blocks block old new → Lacks flags old → Lacks flags new
lacks_opened flags blocks block old new look (inl same) k = subst (λ (x : Option Coming). Lacks flags x) (sym same) k
lacks_opened flags blocks block old new look (inr (c, is, number, held)) k =
    subst (λ (x : Option Coming). Lacks flags x) (sym is) (ap (λ (n : ℕ). slice_index_or flags n false) number ∙ sym look ∙ held)

pub suits_opened : {F : Type 0} {g : _} (store : JobStore F g) (old new : BlobSession) (blocks : BlocksLook) (block : ℕ) → IsSuited store old → blocks ≡ blocks_in store block
    → Suits (serving_in store) (session_in new).link (coming_in new) → IsOpenedBy blocks block (coming_in old) (coming_in new) → IsSuited store new
suits_opened store old new blocks block suited looks suits opened fault =
    let was : SuitsStore store old = suited fault in
    record {
      suits = suits;
      lacks = lacks_opened (flags_in store) blocks block (coming_in old) (coming_in new) (ap (λ (b : BlocksLook). b.is_held) looks) opened was.lacks;
    }

lacks_number : (flags : List Bool) (old new : Option Coming) → option_map (λ c. c.block.number) new ≡ option_map (λ c. c.block.number) old → Lacks flags old → Lacks flags new
lacks_number flags old None e k = tt
lacks_number flags None (Some d) e k = absurd (cc e)
lacks_number flags (Some c) (Some d) e k = let number : d.block.number ≡ c.block.number = cc e in rw number k

pub suits_number : {F : Type 0} {g : _} (store : JobStore F g) (old new : BlobSession) → IsSuited store old → Suits (serving_in store) (session_in new).link (coming_in new)
    → option_map (λ c. c.block.number) (coming_in new) ≡ option_map (λ c. c.block.number) (coming_in old) → IsSuited store new
suits_number store old new suited suits number fault =
    let was : SuitsStore store old = suited fault in
    record { suits = suits; lacks = lacks_number (flags_in store) (coming_in old) (coming_in new) number was.lacks }

lacks_stays : (flags : List Bool) (old new : Option Coming) → StaysOrGoes old new → Lacks flags old → Lacks flags new
lacks_stays flags old new (inl same) k = subst (λ (x : Option Coming). Lacks flags x) (sym same) k
lacks_stays flags old new (inr none) k = subst (λ (x : Option Coming). Lacks flags x) (sym none) tt

pub suits_stays : {F : Type 0} {g : _} (store : JobStore F g) (old new : BlobSession) → IsSuited store old → Suits (serving_in store) (session_in new).link (coming_in new)
    → StaysOrGoes (coming_in old) (coming_in new) → IsSuited store new
suits_stays store old new suited suits stays fault =
    let was : SuitsStore store old = suited fault in
    record { suits = suits; lacks = lacks_stays (flags_in store) (coming_in old) (coming_in new) stays was.lacks }

-- ---- the block that came is whole

size_by : (full : Bool) (n size : ℕ) → cond full (Some n) None ≡ Some size → n ≡ size
size_by true n size e = cc e
size_by false n size e = absurd (cc e)

block_for : (serving : Serving) (c : Coming) → IsBlockIn serving c → IsBlockFor serving c.block.number c.size
block_for NoJob c s = s
block_for (Lacking t) c s = block_of t.parameters c s
  where
    block_of : (q : Option Parameters) (d : Coming) → IsBlockOf q d → IsBlockBy q d.block.number d.size
    block_of None d h = h
    block_of (Some p) d h = h
block_for (Whole t) c s = s

put_by : {F : Type 0} {g : _} (store : JobStore F g) (link : Link) (coming : Option Coming) (number size : ℕ) → Suits (serving_in store) link coming → Lacks (flags_in store) coming
    → option_map (λ c. c.block.number) coming ≡ Some number → whole_size coming ≡ Some size → CanPutBlock store number size
put_by store link None number size s k is whole = absurd (cc is)
put_by store link (Some c) number size s k is whole =
    let n : c.block.number ≡ number = cc is in
    let long : c.size ≡ size = size_by (is_full c.block.chunks) c.size size whole in
    subst (λ (x : ℕ). CanPutBlock store x size) n (subst (λ (x : ℕ). CanPutBlock store c.block.number x) long (record { block = block_for (serving_in store) c s.1; lacks = k }))

pub can_put : {F : Type 0} {g : _} (store : JobStore F g) (session : BlobSession) (number size : ℕ) → IsSuited store session → place_fault (place_in store) ≡ None
    → option_map (λ c. c.block.number) (coming_in session) ≡ Some number → whole_size (coming_in session) ≡ Some size → CanPutBlock store number size
can_put store session number size suited none is whole =
    let was : SuitsStore store session = suited none in
    put_by store (session_in session).link (coming_in session) number size was.suits was.lacks is whole
