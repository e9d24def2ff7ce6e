-- Limits at their last allowed value and one past it.
use Rattle.std.specs.Prelude.{ℕ, ◌≡◌, true, false, [], ◌∷◌}
use Rattle.mu_model_script.specs.Event.{Say, Settle, Time, Phase}
use Rattle.mu_model_mesh.specs.Mesh.{Mesh, new_mesh}
use Rattle.mu_model_mesh.specs.MeshJudged.{is_past}

-- so many events were done, and so many turns settled
abbrev pub after_events : (events turns : ℕ) → Mesh
after_events events turns = record new_mesh { nodes = record (new_mesh.nodes) { events = events }; turns = turns }

pub record EachLimit : Type 0 where
  -- 100,000 events
  pub last_event : is_past (after_events 99999 0) (Phase 2) ≡ false
  pub past_event : is_past (after_events 100000 0) (Phase 2) ≡ true
  pub last_settle : is_past (after_events 99999 0) (Settle 1) ≡ false
  pub past_settle : is_past (after_events 100000 0) (Settle 1) ≡ true
  pub past_say : is_past (after_events 100000 0) (Say 1 2 (0 ∷ [])) ≡ true
  -- 5,000 turns in all
  pub all_turns : is_past (after_events 0 0) (Settle 5000) ≡ false
  pub one_turn_more : is_past (after_events 0 0) (Settle 5001) ≡ true
  pub last_turn : is_past (after_events 0 4999) (Settle 1) ≡ false
  pub past_turn : is_past (after_events 0 4999) (Settle 2) ≡ true
  pub no_turn_left : is_past (after_events 0 5000) (Settle 1) ≡ true
  -- which bind no other line
  pub other_line : is_past (after_events 0 5000) (Time 2 0) ≡ false
