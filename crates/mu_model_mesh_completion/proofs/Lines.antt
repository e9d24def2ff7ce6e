-- A line of a script that makes an updater is in its ranges.
use Rattle.std.proofs.Common.{◌≡◌, ◌≢◌, ◌≤◌, ℕ, nat_eq, Bool, true, false, List, [], ◌∷◌, length, sym, ◌∙◌, arith, refl, ◌⊎◌, inl, inr}
use Rattle.std.specs.Prelude.{◌||◌, ◌&&◌, not}
use Rattle.std.specs.List.{AllByRecursion, list_any}
use Rattle.std.proofs.lemmas.Bool.{eq-eqb}
use Rattle.mu_model_image.specs.Laws.{MadeImageHasItsSize}
use Rattle.mu_model_script.specs.Laws.{ScriptEventIsInRange}
use Rattle.mu_model_script.specs.Ranges.{IsGroup, IsContent, IsUpdater}
use Rattle.mu_model_script.specs.Tokens.{Content, Hex, Made, are_different}
use Rattle.mu_model_updater.specs.Updater.{UpdaterLine}
use Rattle.mu_model_world.specs.Outcomes.{content_octets}
use Rattle.mu_model_completion.specs.Completion.{NoneTwice}
use Rattle.mu_model_mesh_completion.specs.Laws.{Makes}
use Rattle.mu_model_mesh_completion.specs.Settled.{IsLine}
use Rattle.mu_model_mesh_completion.proofs.Apart.{true_false}

-- ---- contents

some_octets : MadeImageHasItsSize → (content : Content) → IsContent content → 1 ≤ length (content_octets content)
some_octets made (Hex octets) h = h.0.0
some_octets made (Made seed size) h = rw (made seed size) h.1.0

few_octets : MadeImageHasItsSize → (content : Content) → IsContent content → length (content_octets content) ≤ 1048576
few_octets made (Hex octets) h =
    let few : length octets ≤ 1024 = h.0.1 in
    omega (arith, few)
few_octets made (Made seed size) h = rw (made seed size) h.1.1

-- ---- receivers and groups

some_group : (group : ℕ) → (group ≡ 0) ⊎ IsGroup group → (group ≡ 0) ⊎ (0xC000 ≤ group)
some_group group (inl h) = inl h
some_group group (inr h) = inr h.0

different : (to : List ℕ) → are_different to ≡ true → NoneTwice to
different [] h = tt
different (a ∷ to) h =
    let both = parts (list_any (nat_eq a) to) (are_different to) h in
    (others a to both.0, different to both.1)
  where
    parts : (x y : Bool) → (not x && y) ≡ true → (x ≡ false) × (y ≡ true)
    parts true y e = cc
    parts false y e = (refl, e)

    head : (a b : ℕ) (t x : Bool) → nat_eq a b ≡ t → (t || x) ≡ false → (a ≢ b) × (x ≡ false)
    head a b true x t e = cc
    head a b false x t e = ((λ is. true_false (sym (eq-eqb a b is) ∙ t)), e)

    others : (a : ℕ) (to : List ℕ) → list_any (nat_eq a) to ≡ false → AllByRecursion (λ b. a ≢ b) to
    others a [] e = tt
    others a (b ∷ to) e = let own = head a b (nat_eq a b) (list_any (nat_eq a) to) refl e in (own.0, others a to own.1)

-- ---- lines

line_fits : MadeImageHasItsSize → (line : UpdaterLine) (content : Content) → line.content ≡ content_octets content
    → IsUpdater line.address line.group line.id line.ttl line.base line.mode line.log line.chunk line.version content line.receivers → IsLine line
line_fits made line content is h =
    let small = h.address_in.1 in
    let own = h.id_in.1 in
    let hops = h.ttl_in.1 in
    let late = h.base_in.1 in
    let newest = h.version_in.1 in
    record {
      address = omega (arith, small);
      id = omega (arith, own);
      some_group = some_group line.group h.group_in;
      ttl = omega (arith, hops);
      base = omega (arith, late);
      mode_least = h.mode_in.0;
      mode_most = h.mode_in.1;
      log_least = h.log_in.0;
      log_most = h.log_in.1;
      chunk_least = h.chunk_in.0;
      chunk_most = h.chunk_in.1;
      version = omega (arith, newest);
      content_least = rw is (some_octets made content h.content_in);
      content_most = rw is (few_octets made content h.content_in);
      some = h.receivers_in.some;
      few = h.receivers_in.few;
      none_twice = different line.receivers h.receivers_in.different;
    }

pub made_in_range : MadeImageHasItsSize → ScriptEventIsInRange → (lines : List (List ℕ)) (line : UpdaterLine) → Makes lines line → IsLine line
made_in_range made in_range lines line h = line_fits made line h.content h.octets (in_range h.text _ h.says)
