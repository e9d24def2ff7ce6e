-- Of worked rows: scripts, what they print, and where the last line is refused; and what else is seen of a world.
use Rattle.std.specs.Prelude.{ℕ, ◌+◌, ◌++◌, List, [], ◌∷◌, length}
use Rattle.std.specs.List.{flat_map}
use Rattle.mu_model_mesh.specs.MeshRun.{MeshPrints, MeshRefuses}

pub record Script : Type 0 where
  pub lines : List (List ℕ)
  pub printed : List (List ℕ)

-- each line ended by LF
abbrev pub ended : List (List ℕ) → List ℕ
ended lines = flat_map (λ line. line ++ 10 ∷ []) lines

-- the lines are done, and this is what they print
abbrev pub IsPrinted : Script → Type 0
IsPrinted script = MeshPrints script.lines (ended script.printed)

pub record Refused : Type 0 where
  pub before : List (List ℕ)
  pub line : List ℕ
  -- what the lines before it print
  pub printed : List (List ℕ)
  pub place : ℕ
  pub word : List ℕ

-- the lines before are done, and the line is refused at the place, with the word
abbrev pub IsRefused : Refused → Type 0
IsRefused script = MeshRefuses (script.before ++ script.line ∷ []) (ended script.printed) (length script.before + 1) script.place script.word
