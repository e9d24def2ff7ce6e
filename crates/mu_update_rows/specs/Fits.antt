-- When a reply's fields are in the ranges of the grammar, as far as their types don't say so, and what a step says of the look that it was
-- decided over.
use Rattle.std.specs.Prelude.{ℕ, ◌≡◌, ◌≤◌, ◌<◌, Bool, true, false, List, [], ◌∷◌, length, map, Option, Some, None, IsSome, IsSomeAnd, slice_get}
use Rattle.mu_model_image.specs.declared.Meta.{Meta}
use Rattle.mu_model_image.specs.Meta.{IsMeta}
use Rattle.mu_model_node.specs.declared.Link.{Link}
use Rattle.mu_model_node.specs.declared.Link.TheVariants.{Cut}
use Rattle.mu_model_node.specs.declared.Stored.TheVariants.{Filling, Verified, Applied as AppliedStored}
use Rattle.mu_update_rows.specs.Looks.{one_or_two}
use Rattle.mu_update_rows.specs.declared.look.NodeLook.{NodeLook}
use Rattle.mu_update_rows.specs.declared.messages.ShownJob.{ShownJob}
use Rattle.mu_update_rows.specs.declared.messages.UpdateReply.{UpdateReply}
use Rattle.mu_update_rows.specs.declared.messages.UpdateReply.TheVariants.{InformationStatus, MetadataStatus, UpdateStatus}
use Rattle.mu_update_rows.specs.declared.table.UpdateStep.{UpdateStep}
use Rattle.mu_update_rows.specs.declared.table.UpdateStep.TheVariants.{MakeReady, Hear, Take, Lose, Apply, Answer}
use Rattle.mu_update_rows.specs.declared.table.TimeStep.{TimeStep}
use Rattle.mu_update_rows.specs.declared.table.TimeStep.TheVariants.{Activate, Judge, Serve}

-- a Firmware ID has at least its company
abbrev pub AreIds : List (List ℕ) → Type 0
AreIds [] = Unit {0}
AreIds (id ∷ ids) = (2 ≤ length id) × AreIds ids

-- the job is there unless the phase is 0
abbrev pub ShowsJob : ℕ → Option ShownJob → Type 0
ShowsJob phase None = phase ≡ 0
ShowsJob phase (Some j) = (1 ≤ phase) × (phase ≤ 6)

abbrev pub UpdateReplyFits : UpdateReply → Type 0
UpdateReplyFits (InformationStatus count first ids) = AreIds (map (λ id. id.items) ids.items)
UpdateReplyFits (MetadataStatus status index) = status ≤ 7
UpdateReplyFits (UpdateStatus status phase job) = (status ≤ 7) × ShowsJob phase job

-- a row answers with a known status
abbrev pub IsKnown : UpdateStep → Type 0
IsKnown (Answer status) = status ≤ 7
IsKnown _ = Unit {0}

-- ---- what a step says of its look

-- metadata that pass the check: of an image that fits a bank and is newer than the active one of its index
pub record IsTakenMeta (look : NodeLook) (index : ℕ) (meta : Meta) : Type 0 where
  pub ranges : IsMeta meta
  pub room : meta.size ≤ look.capacity
  pub newer : IsSomeAnd (slice_get (one_or_two look.active) index) (λ active. active.version < meta.version)

abbrev pub is_cut : Link → Bool
is_cut Cut = true
is_cut _ = false

abbrev pub IsStepOf : NodeLook → UpdateStep → Type 0
IsStepOf look MakeReady = (is_cut look.link ≡ true) × IsSome look.job
IsStepOf look Hear = (is_cut look.link ≡ false) × IsSome look.job
IsStepOf look (Take n) = IsTakenMeta look n.index n.meta
IsStepOf look Lose = IsSome look.job
IsStepOf look Apply = IsSomeAnd look.job (λ j. j.stored ≡ Verified)
IsStepOf look (Answer status) = status ≤ 7

abbrev pub IsTimeStepOf : NodeLook → TimeStep → Type 0
IsTimeStepOf look Activate = IsSomeAnd look.job (λ j. j.stored ≡ AppliedStored)
IsTimeStepOf look Judge = IsSomeAnd look.job (λ j. (j.stored ≡ Filling) × (j.is_whole ≡ true))
IsTimeStepOf look Serve = Unit {0}
