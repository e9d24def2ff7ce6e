-- Two ways in which runs are compared: by the texts that are printed, or where no tear leaves made bits.
use Rattle.std.proofs.Common.{◌≡◌, ℕ, List, ◌++◌, refl, Option, Some, None}
use Rattle.std.specs.Prelude.{⊤}
use Rattle.std.proofs.lemmas.List.{append_cancel_left}
use Rattle.mu_model_flash.specs.declared.Pattern.{Pattern}
use Rattle.mu_model_flash.specs.declared.Pattern.TheVariants.{Made}
use Rattle.mu_model_script.specs.Event.{Event, Tear as TearLine}
use Rattle.mu_model_world.specs.World.{Tear, Member}
use Rattle.mu_model_world.specs.Laws.{IsWholeBits, FixesEvent}
use Rattle.mu_model_mesh.specs.Mesh.{DistributorMember, Mesh}
use Rattle.mu_model_mesh_fixed.proofs.Lists.{AllOf}

pub record Mode : Type 1 where
  -- what is known of two texts
  pub same : List ℕ → List ℕ → Type 0
  pub cancel : (text rest rest' : List ℕ) → same (text ++ rest) (text ++ rest') → same rest rest'
  -- which tears there may be
  pub whole : Pattern → Type 0
  pub told : (seed : ℕ) → whole (Made seed) → (text text' : List ℕ) → same text text' → text ≡ text'

abbrev pub by_text : Mode
by_text = record {
  same = λ text text'. text ≡ text';
  cancel = λ text rest rest' e. append_cancel_left text rest rest' e;
  whole = λ pattern. ⊤;
  told = λ seed w text text' e. e;
}

abbrev pub by_lines : Mode
by_lines = record {
  same = λ text text'. ⊤;
  cancel = λ text rest rest' e. tt;
  whole = λ pattern. IsWholeBits pattern;
  told = λ seed w text text' e. absurd w;
}

-- ---- tears that are still to come

abbrev pub TearIs : Mode → Option Tear → Type 0
TearIs mode None = ⊤
TearIs mode (Some tear) = mode.whole tear.pattern

pub record Tears (mode : Mode) (m : Mesh) : Type 0 where
  pub nodes : AllOf (λ (n : Member). TearIs mode n.tear) m.nodes.members
  pub distributors : AllOf (λ (d : DistributorMember). TearIs mode d.tear) m.distributors

-- a line sets no other
abbrev pub EventIs : Mode → Event → Type 0
EventIs mode (TearLine address operation pattern) = mode.whole pattern
EventIs mode _ = ⊤

pub events_are : (event : Event) → EventIs by_text event
events_are (TearLine address operation pattern) = tt
events_are _ = tt

pub fixed_events : (event : Event) → FixesEvent event → EventIs by_lines event
fixed_events (TearLine address operation pattern) f = f
fixed_events _ f = tt
