-- Each script ends in one of the ways.
use Rattle.std.proofs.Common.{◌≡◌, ◌<◌, ◌≤◌, ℕ, ◌+◌, Bool, true, false, List, [], ◌∷◌, ◌++◌, length, refl, sym, ap, subst, ◌∙◌, append_assoc, append-nil, ◌⊎◌, inl, inr, ⊎_elim, arith}
use Rattle.std.specs.Prelude.{nat_lt}
use Rattle.std.proofs.lemmas.Bool.Decides.{nat_tests}
use Rattle.mu_model_script.specs.Limits.{most_octets, most_lines, lines_within, first_lines, Passes}
use Rattle.mu_model_script.specs.Texts.{refused_text}
use Rattle.mu_model_mesh.specs.Mesh.{Mesh, new_mesh}
use Rattle.mu_model_mesh.specs.MeshRun.{MeshStep, MeshRun}
use Rattle.mu_model_mesh_runs.specs.Ends.{StopsAt, Done, Refused, WornOut, TooLong}
use Rattle.mu_model_mesh_runs.specs.Laws.{mesh_lines, ComesTo, done, refused, wears, passes, SomeWay, ScriptsEnd}
use Rattle.mu_model_mesh_runs.proofs.All.{all_come}
use Rattle.mu_model_mesh_runs.proofs.Grows.{Answers}
use Rattle.mu_model_mesh_runs.proofs.Members.{runs_have_members}

-- ---- a run, and one line more

run_one : (w : Mesh) (line text : List ℕ) (next : Mesh) → MeshStep w line text next → MeshRun w (line ∷ []) text next
run_one w line text next s = (next, text, [], s, (refl, refl), sym (append-nil text))

run_more : (before : List (List ℕ)) (w m next : Mesh) (text line t : List ℕ) → MeshRun w before text m → MeshStep m line t next → MeshRun w (before ++ line ∷ []) (text ++ t) next
run_more [] w m next text line t h s =
    subst (λ (x : List ℕ). MeshRun w (line ∷ []) (x ++ t) next) (sym h.0) (run_one w line t next (subst (λ (x : Mesh). MeshStep x line t next) h.1 s))
run_more (l ∷ ls) w m next text line t (n, first, others, step, more, joined) s =
    (n, first, others ++ t, step, run_more ls n m next others line t more s, ap (λ x. x ++ t) joined ∙ append_assoc first others t)

-- ---- limits on the input

past_or : (held : List ℕ) → Passes most_lines held ⊎ (Passes most_lines held → ⊥)
past_or held = by_octets (nat_lt most_octets (length held)) refl
  where
    by_lines : (nat_lt most_octets (length held) ≡ false) → (b : Bool) → nat_lt most_lines (length (lines_within held)) ≡ b → Passes most_lines held ⊎ (Passes most_lines held → ⊥)
    by_lines short true e = inl (inr (grind (arith, nat_tests)))
    by_lines short false e = inr (λ p. ⊎_elim (λ long. let never : ⊥ = grind (arith, nat_tests) in never) (λ many. let never : ⊥ = grind (arith, nat_tests) in never) p)

    by_octets : (b : Bool) → nat_lt most_octets (length held) ≡ b → Passes most_lines held ⊎ (Passes most_lines held → ⊥)
    by_octets true e = inl (inl (grind (arith, nat_tests)))
    by_octets false e = by_lines e (nat_lt most_lines (length (lines_within held))) refl

-- ---- line by line

abbrev LinesAlwaysCome : Type 0
LinesAlwaysCome = (before : List (List ℕ)) (text : List ℕ) (m : Mesh) (line : List ℕ) → MeshRun new_mesh before text m → ComesTo m line

module _ (held : List ℕ) (come : LinesAlwaysCome) where
  all_done : (before : List (List ℕ)) (text : List ℕ) (m : Mesh) → MeshRun new_mesh before text m → first_lines most_lines held ≡ before → SomeWay held
  all_done before text m run e =
      let whole : MeshRun new_mesh (first_lines most_lines held) text m = subst (λ ls. MeshRun new_mesh ls text m) (sym e) run in
      ⊎_elim (λ past. record { way = TooLong; ends = record { left = []; written = text; end = m; ends = inl (record { past = past; run = whole }) } })
      (λ within. record { way = Done; ends = record { left = []; written = text; end = m; ends = record { read = refl; within = within; run = whole } } }) (past_or held)

  stops : (before : List (List ℕ)) (text : List ℕ) (m : Mesh) (line : List ℕ) (others : List (List ℕ)) → MeshRun new_mesh before text m → first_lines most_lines held ≡ before ++ line ∷ others
      → StopsAt mesh_lines held line (length before + 1) text m
  stops before text m line others run e = record { before = before; others = others; cut = e; numbered = refl; run = run }

  ends_at : (before : List (List ℕ)) (text : List ℕ) (m : Mesh) (line : List ℕ) → StopsAt mesh_lines held line (length before + 1) text m → ((t : List ℕ) (next : Mesh) → MeshStep m line t next → SomeWay held) → ComesTo m line → SomeWay held
  ends_at before text m line at again (done t next s) = again t next s
  ends_at before text m line at again (refused place word b) = record {
    way = Refused;
    ends = record { left = []; written = text ++ refused_text (length before + 1) place word; end = m; ends = record { line = line; number = length before + 1; text = text; at = at; place = place; word = word; refused = b; written_is = refl } };
  }
  ends_at before text m line at again (wears k) = record { way = WornOut; ends = record { left = []; written = text; end = m; ends = record { line = line; number = length before + 1; at = at; wears = k } } }
  ends_at before text m line at again (passes k) = record { way = TooLong; ends = record { left = []; written = text; end = m; ends = inr (record { line = line; number = length before + 1; at = at; passes = k }) } }

  goes : (others before : List (List ℕ)) (text : List ℕ) (m : Mesh) → MeshRun new_mesh before text m → first_lines most_lines held ≡ before ++ others → SomeWay held
  goes [] before text m run e = all_done before text m run (e ∙ append-nil before)
  goes (line ∷ others) before text m run e =
      ends_at before text m line (stops before text m line others run e)
      (λ t next s. goes others (before ++ line ∷ []) (text ++ t) next (run_more before new_mesh m next text line t run s) (e ∙ sym (append_assoc before (line ∷ []) others)))
      (come before text m line run)

pub scripts_end : Answers → ScriptsEnd
scripts_end answers held = goes held (λ before text m line run. all_come answers m line (runs_have_members before text m run)) (first_lines most_lines held) [] [] new_mesh (refl, refl) refl
