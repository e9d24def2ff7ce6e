-- The block that comes, as a current block.
use Rattle.std.proofs.Common.{◌≡◌, Option, Some, None, refl}
use Rattle.mu_block.specs.Coming.{Coming, chunks_of}
use Rattle.mu_blob_rows.specs.declared.session.LinkChange.{LinkChange}
use Rattle.mu_blob_rows.specs.declared.session.LinkChange.TheVariants.{Keeps, Hears, Links, Unlinks}
use Rattle.mu_blob_rows.specs.declared.session.SessionChange.{SessionChange}
use Rattle.mu_blob_rows.specs.declared.session.SessionChange.TheVariants.{Link, Holds, Opens}
use Rattle.mu_blob_rows.specs.Sessions.{current_by_link, current_by}
use Rattle.mu_blob_rows.specs.Looks.{current_with}
use Rattle.mu_blob_session.specs.Blocks.{block_look, current_of, coming_after}
use Rattle.mu_blob_session.specs.Opens.{CanOpen, coming_by}

pub current_same : (coming : Option Coming) → current_with (block_look coming) (chunks_of coming) ≡ current_of coming
current_same None = refl
current_same (Some c) = refl

pub current_linked : (change : LinkChange) (coming : Option Coming) → current_by_link change (current_of coming) ≡ current_of (coming_after change coming)
current_linked Keeps coming = refl
current_linked Hears coming = refl
current_linked Links coming = refl
current_linked Unlinks coming = refl

pub current_changed : (change : SessionChange) (coming : Option Coming) → CanOpen change → current_by change (current_of coming) ≡ current_of (coming_by change coming)
current_changed (Link Keeps) coming can = refl
current_changed (Link Hears) coming can = refl
current_changed (Link Links) coming can = refl
current_changed (Link Unlinks) coming can = absurd can
current_changed (Holds block size) coming can = refl
current_changed (Opens p block size) coming can = refl
