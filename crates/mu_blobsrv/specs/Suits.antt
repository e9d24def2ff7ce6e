-- The block that comes goes with what is kept.
use Rattle.std.specs.Prelude.{◌≡◌, Bool, false, List, Option, Some, None, slice_index_or}
use Rattle.std.proofs.Props.{props}
use mathlib.Core.Sum.{⊎_set}
use Rattle.mu_model_node.specs.declared.Parameters.{Parameters}
use Rattle.mu_model_node.specs.declared.Link.{Link}
use Rattle.mu_block.specs.Coming.{Coming}
use Rattle.mu_blob_rows.specs.declared.looks.Serving.{Serving}
use Rattle.mu_blob_rows.specs.declared.looks.Serving.TheVariants.{NoJob, Lacking, Whole}
use Rattle.mu_blob_session.specs.declared.session.BlobSession.{BlobSession}
use Rattle.mu_blob_session.specs.Sessions.{session_in, coming_in}
use Rattle.mu_blob_session.specs.Sound.{IsBlockOf, IsBlockIn, Suits}
use Rattle.mu_place.specs.Place.{place_fault}
use Rattle.mu_kept.specs.declared.store.JobStore.{JobStore}
use Rattle.mu_kept.specs.Views.{place_in, flags_in, serving_in}

-- the block that comes isn't held
abbrev pub Lacks : List Bool → Option Coming → Type 0
Lacks flags None = Unit {0}
Lacks flags (Some c) = slice_index_or flags c.block.number false ≡ false

-- the block that comes is one of the job's, which lacks it
pub record SuitsStore {F : Type 0} {g : _} (store : JobStore F g) (session : BlobSession) : Type 0 where
  pub suits : Suits (serving_in store) (session_in session).link (coming_in session)
  pub lacks : Lacks (flags_in store) (coming_in session)

-- So it is where no fault is kept.
abbrev pub IsSuited : {F : Type 0} {g : _} → JobStore F g → BlobSession → Type 0
IsSuited store session = place_fault (place_in store) ≡ None → SuitsStore store session

-- each has one proof at most
link_set : IsSet Link
link_set = hlevel (⊎_set, props)

block_prop : (q : Option Parameters) (c : Coming) → IsProp (IsBlockOf q c)
block_prop None c = hlevel props
block_prop (Some p) c = hlevel props

in_prop : (serving : Serving) (c : Coming) → IsProp (IsBlockIn serving c)
in_prop NoJob c = hlevel props
in_prop (Lacking t) c = block_prop t.parameters c
in_prop (Whole t) c = hlevel props

suits_prop : (serving : Serving) (link : Link) (coming : Option Coming) → IsProp (Suits serving link coming)
suits_prop serving link None = hlevel props
suits_prop serving link (Some c) = hlevel (link_set, in_prop, props)

lacks_prop : (flags : List Bool) (coming : Option Coming) → IsProp (Lacks flags coming)
lacks_prop flags None = hlevel props
lacks_prop flags (Some c) = hlevel props

pub suited_prop : {F : Type 0} {g : _} (store : JobStore F g) (session : BlobSession) → IsProp (IsSuited store session)
suited_prop store session = hlevel (suits_prop, lacks_prop, props)
