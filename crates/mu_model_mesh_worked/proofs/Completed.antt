-- The premises, one after the other, and what follows.
use Rattle.std.proofs.Common.{◌≡◌, ◌≤◌, ℕ, [], ◌∷◌, Ok, Some, refl, arith}
use Rattle.std.specs.Fmt.{digits}
use Rattle.hex.specs.Hex.{decode_pairs, encode_with}
use Rattle.mu_model_script.specs.Event.{Updater, Settle}
use Rattle.mu_model_script.specs.Lines.{value_at, script_event}
use Rattle.mu_model_script.specs.Tokens.{Hex}
use Rattle.mu_model_completion.specs.Completion.{push_turns}
use Rattle.mu_model_mesh_completion.specs.Laws.{SettlesIn, Makes, PushScriptsComplete, sending_of}
use Rattle.mu_model_mesh_completion.specs.Worked.{line, scene, OneNode}
use Rattle.mu_model_mesh_rows.specs.Settled.{updater_line, member_lines, settle_line, IsSettled}
use Rattle.mu_model_mesh_worked.specs.Completed.{AScriptCompletes}

makes : Makes member_lines line
unfolding value_at decode_pairs encode_with digits
makes = record { text = updater_line; within = (1, omega arith, refl); content = Hex (0x61 ∷ 0x62 ∷ 0x63 ∷ []); says = refl; octets = refl }

turns_said : script_event settle_line ≡ Ok (Some (Settle 10))
unfolding value_at decode_pairs encode_with digits
turns_said = refl

enough : (turns : ℕ) → turns ≡ 10 → turns ≤ 10
enough turns e = omega (arith, e)

settles_in : OneNode → (s : IsSettled) → SettlesIn line scene (push_turns (sending_of line) 1) s.next
settles_in one s = record {
  before = member_lines;
  shown = [];
  run = s.made;
  made = makes;
  can = one.can;
  settle = settle_line;
  turns = 10;
  says = turns_said;
  enough = enough (push_turns (sending_of line) 1) one.turns;
  text = s.text;
  done = s.settled;
}

pub a_script_completes : OneNode → IsSettled → PushScriptsComplete → AScriptCompletes
unfolding settles_in
a_script_completes one s complete =
    let settles = settles_in one s in
    let done = complete line scene s.next refl settles in
    record { next = s.next; settles = settles; lines = refl; member = done.member; found = done.found; rows = done.rows }
