-- What a row finds and leaves.
use Rattle.std.proofs.Common.{◌≡◌, ◌∙◌, ◌<◌, ℕ, true, Option, Some, None, refl, sym, ap, subst, arith, inl, inr}
use Rattle.std.specs.Prelude.{is_some}
use Rattle.mu_model_image.specs.Pieces.{block_count, block_length}
use Rattle.mu_model_node.specs.declared.Parameters.{Parameters}
use Rattle.mu_model_node.specs.BlobMessages.{BlobRequest}
use Rattle.mu_model_node.specs.BlobServer.{Session, Server, Same}
use Rattle.mu_model_node.specs.BlobTable.{on_blob}
use Rattle.mu_block.specs.Coming.{Coming, chunks_of}
use Rattle.mu_blob_rows.specs.declared.looks.Look.{Look}
use Rattle.mu_blob_rows.specs.declared.looks.Serving.{Serving}
use Rattle.mu_blob_rows.specs.declared.looks.Serving.TheVariants.{NoJob, Lacking, Whole}
use Rattle.mu_blob_rows.specs.declared.session.LinkChange.TheVariants.{Keeps, Hears, Links, Unlinks}
use Rattle.mu_blob_rows.specs.declared.session.SessionChange.{SessionChange}
use Rattle.mu_blob_rows.specs.declared.session.SessionChange.TheVariants.{Link as LinkChanges, Holds, Opens}
use Rattle.mu_blob_rows.specs.declared.table.BlocksLook.{BlocksLook}
use Rattle.mu_blob_rows.specs.declared.table.BlockTold.{BlockTold}
use Rattle.mu_blob_rows.specs.declared.table.ReportTold.{ReportTold}
use Rattle.mu_blob_rows.specs.declared.table.ReportTold.TheVariants.{All, Nothing, Missing}
use Rattle.mu_blob_rows.specs.Sessions.{session_by}
use Rattle.mu_blob_rows.specs.Rows.{LacksWith, SessionFits, OpensThis, ReportFits, block_told_by}
use Rattle.mu_blob_session.specs.Blocks.{block_look}
use Rattle.mu_blob_session.specs.Sound.{AreBegun, AreSound, IsSoundServing, count_of, blocks_of, IsBlockOf, IsBlockIn, Suits}
use Rattle.mu_blob_session.specs.Opens.{CanOpen, coming_by, IsOpenedBy, ReportOf, block_replies}

-- ---- a report

reports_of : (coming : Option Coming) → is_some (block_look coming) ≡ true → is_some coming ≡ true
reports_of None e = e
reports_of (Some c) e = refl

pub report_of : (v : Look) (coming : Option Coming) (report : ReportTold) → v.current ≡ block_look coming → ReportFits v report → ReportOf report coming
report_of v coming All e f = tt
report_of v coming Nothing e f = tt
report_of v coming Missing e f = reports_of coming (sym (ap is_some e) ∙ f)

-- ---- a block that is opened

begun_of : (q : Option Parameters) (p : Parameters) → AreSound q → q ≡ Some p → AreBegun p
begun_of None p h e = absurd (cc e)
begun_of (Some q) p h e = let is : q ≡ p = cc e in subst AreBegun is h

begun_in : (serving : Serving) (p : Parameters) → IsSoundServing serving → LacksWith serving p → AreBegun p
begun_in NoJob p h l = absurd l
begun_in (Lacking t) p h l = begun_of t.parameters p h l
begun_in (Whole t) p h l = absurd l

count_in : (serving : Serving) (p : Parameters) → LacksWith serving p → blocks_of serving ≡ block_count p.size p.log
count_in NoJob p l = absurd l
count_in (Lacking t) p l = ap count_of l
count_in (Whole t) p l = absurd l

pub can_open : (v : Look) (serving : Serving) (blocks : BlocksLook) (change : SessionChange) → v.serving ≡ serving → IsSoundServing serving → blocks.count ≡ blocks_of serving → SessionFits v blocks change → CanOpen change
can_open v serving blocks (LinkChanges Keeps) e h n f = tt
can_open v serving blocks (LinkChanges Hears) e h n f = tt
can_open v serving blocks (LinkChanges Links) e h n f = absurd f
can_open v serving blocks (LinkChanges Unlinks) e h n f = absurd f
can_open v serving blocks (Holds block size) e h n f = tt
can_open v serving blocks (Opens p block size) e h n f =
    let lacks : LacksWith serving p = subst (λ (x : Serving). LacksWith x p) e f.0 in
    let count : blocks_of serving ≡ block_count p.size p.log = count_in serving p lacks in
    let below : block < block_count p.size p.log = omega (arith, f.3) in
    (begun_in serving p h lacks, below, f.5, f.6)

block_in : (serving : Serving) (p : Parameters) (c : Coming) → LacksWith serving p → c.block.number < block_count p.size p.log → c.size ≡ block_length p.size p.log c.block.number → IsBlockIn serving c
block_in NoJob p c l below size = absurd l
block_in (Lacking t) p c l below size = subst (λ (q : Option Parameters). IsBlockOf q c) (sym l) (below, size)
block_in (Whole t) p c l below size = absurd l

pub suits_after : (v : Look) (serving : Serving) (blocks : BlocksLook) (change : SessionChange) (l : Session) (coming : Option Coming) (now from : ℕ)
    → v.serving ≡ serving → v.session.now.link ≡ l.link → IsSoundServing serving → blocks.count ≡ blocks_of serving → SessionFits v blocks change → Suits serving l.link coming
    → Suits serving (session_by change now from l).link (coming_by change coming)
suits_after v serving blocks (LinkChanges Keeps) l coming now from e k h n f s = s
suits_after v serving blocks (LinkChanges Hears) l coming now from e k h n f s = s
suits_after v serving blocks (LinkChanges Links) l coming now from e k h n f s = absurd f
suits_after v serving blocks (LinkChanges Unlinks) l coming now from e k h n f s = absurd f
suits_after v serving blocks (Holds block size) l coming now from e k h n f s = s
suits_after v serving blocks (Opens p block size) l coming now from e k h n f s =
    let lacks : LacksWith serving p = subst (λ (x : Serving). LacksWith x p) e f.0 in
    let can : CanOpen (Opens p block size) = can_open v serving blocks (Opens p block size) e h n f in
    (sym k ∙ f.1, block_in serving p _ lacks can.1 refl)

pub opened_by : (v : Look) (blocks : BlocksLook) (block : ℕ) (change : SessionChange) (coming : Option Coming) → SessionFits v blocks change → OpensThis block change → IsOpenedBy blocks block coming (coming_by change coming)
opened_by v blocks block (LinkChanges link) coming f o = inl refl
opened_by v blocks block (Holds n size) coming f o = inl refl
opened_by v blocks block (Opens p n size) coming f o = inr (_, refl, o, f.4)

-- ---- the row

pub told_row : (v w : Server) (from : ℕ) (request : BlobRequest) (coming : Option Coming) (told : BlockTold) (l : Session) → v ≡ w → on_blob v from request ≡ block_told_by v from (chunks_of coming) told
    → l ≡ session_by told.session w.now from w.session → on_blob w from request ≡ record { session = l; change = Same; replies = block_replies from told coming }
told_row v w from request coming told l e row session =
    subst (λ (x : Server). on_blob x from request ≡ block_told_by x from (chunks_of coming) told) e row ∙ rw (sym session) refl

pub suits_changed : (v : Look) (serving : Serving) (blocks : BlocksLook) (change : SessionChange) (l m : Session) (coming after : Option Coming) (now from : ℕ)
    → v.serving ≡ serving → v.session.now.link ≡ l.link → IsSoundServing serving → blocks.count ≡ blocks_of serving → SessionFits v blocks change → Suits serving l.link coming
    → m ≡ session_by change now from l → after ≡ coming_by change coming → Suits serving m.link after
suits_changed v serving blocks change l m coming after now from e k h n f s session block =
    let first : Suits serving (session_by change now from l).link (coming_by change coming) = suits_after v serving blocks change l coming now from e k h n f s in
    let second : Suits serving m.link (coming_by change coming) = subst (λ (x : Session). Suits serving x.link (coming_by change coming)) (sym session) first in
    subst (λ (x : Option Coming). Suits serving m.link x) (sym block) second

-- ---- a row that opens no block

abbrev pub all_held : Serving → BlocksLook
all_held serving = record { count = blocks_of serving; is_held = true }

pub never_opens : (v : Look) (serving : Serving) (change : SessionChange) (coming : Option Coming) → SessionFits v (all_held serving) change → coming_by change coming ≡ coming
never_opens v serving (LinkChanges link) coming f = refl
never_opens v serving (Holds block size) coming f = refl
never_opens v serving (Opens p block size) coming f = absurd (cc f.4)
