-- The worked row.
use Rattle.std.proofs.Common.{◌≡◌, ◌*◌, ◌<◌, ℕ, zero, suc, nat_eq, Bool, true, false, [], ◌∷◌, refl, sym, subst, cond, arith, Some, None, inl}
use Rattle.std.specs.Prelude.{slice_get}
use Rattle.std.proofs.lemmas.Bool.{eqb-true}
use Rattle.mu_model_image.specs.Laws.{ImagesFit}
use Rattle.mu_model_image.specs.Meta.{Image, image_of}
use Rattle.mu_model_node.specs.FlashWork.{page_octets}
use Rattle.mu_model_node.specs.Laws.{BootsAreSound}
use Rattle.mu_model_node.specs.NodeState.{NodeDurable}
use Rattle.mu_model_node.specs.Sound.{IsActiveImage, IsNodeDurable}
use Rattle.mu_model_client.specs.Begin.{is_ended}
use Rattle.mu_model_script.specs.Tokens.{Hex}
use Rattle.mu_model_updater.specs.Updater.{updater_of}
use Rattle.mu_model_world.specs.World.{Member}
use Rattle.mu_model_world.specs.Outcomes.{node_of, new_member}
use Rattle.mu_model_mesh.specs.Mesh.{UpdaterMember, DistributorMember, node_at}
use Rattle.mu_model_mesh_completion.specs.Settled.{IsNode, IsLine, IsWorld, IsAtRest}
use Rattle.mu_model_mesh_completion.specs.Worked.{line, scene, OneNode}

-- ---- the node

abbrev made : NodeDurable
made = node_of 1 1 (Hex (0x61 ∷ []))

active_image : ImagesFit → IsActiveImage (page_octets * 1) (image_of 1 (0x61 ∷ []))
active_image fit = record { some = omega arith; room = omega arith; fit = fit 1 (0x61 ∷ []) }

one_image : ImagesFit → (index : ℕ) (image : Image) → slice_get made.images index ≡ Some image → IsActiveImage (page_octets * 1) image
one_image fit zero image e =
    let same : image_of 1 (0x61 ∷ []) ≡ image = cc in
    subst (λ x. IsActiveImage (page_octets * 1) x) same (active_image fit)
one_image fit (suc index) image e = absurd cc

made_sound : ImagesFit → IsNodeDurable made
made_sound fit = record { capacity = (1, omega arith, omega arith, refl); some_image = omega arith; two_images = omega arith; images = one_image fit; job = tt }

is_node : ImagesFit → BootsAreSound → IsNode 2 (new_member 0 made)
is_node fit boots = record {
  state = boots made (made_sound fit);
  numbers = tt;
  messages = tt;
  last = tt;
  handed = omega arith;
  unicast = omega arith;
  some_group = inl refl;
}

-- ---- the world

node_by : (t : Bool) (a : ℕ) (x n : Member) → nat_eq a 2 ≡ t → IsNode 2 x → cond t (Some x) None ≡ Some n → IsNode a n
node_by true a x n t k e =
    let same : x ≡ n = cc in
    subst (λ (y : Member). IsNode a y) same (subst (λ b. IsNode b x) (sym (eqb-true a 2 t)) k)
node_by false a x n t k e = cc

updater_by : (t : Bool) (a : ℕ) (x u : UpdaterMember) → nat_eq a 1 ≡ t → x.updater.client.sending.from ≡ 1 → cond t (Some x) None ≡ Some u → (u.updater.client.sending.from ≡ a) × (node_at scene a ≡ None)
updater_by true a x u t k e =
    let same : x ≡ u = cc in
    let at : 1 ≡ a = sym (eqb-true a 1 t) in
    (subst (λ (y : UpdaterMember). y.updater.client.sending.from ≡ a) same (subst (λ b. x.updater.client.sending.from ≡ b) at k), subst (λ b. node_at scene b ≡ None) at refl)
updater_by false a x u t k e = cc

distributor_by : (t : Bool) (a : ℕ) (x d : DistributorMember) → nat_eq a 3 ≡ t → cond t (Some x) None ≡ Some d → (a < 0x8000) × (node_at scene a ≡ None)
distributor_by true a x d t e =
    let at : a ≡ 3 = eqb-true a 3 t in
    (omega (arith, at), subst (λ b. node_at scene b ≡ None) (sym at) refl)
distributor_by false a x d t e = cc

world : ImagesFit → BootsAreSound → IsWorld scene
world fit boots = record {
  nodes = λ a n e. node_by (nat_eq a 2) a (new_member 0 made) n refl (is_node fit boots) e;
  updaters = λ a u e. updater_by (nat_eq a 1) a (record { moment = 0; updater = updater_of line }) u refl refl e;
  distributors = λ a d e. distributor_by (nat_eq a 3) a _ d refl e;
  once = (((λ (e : 2 ≡ 1). omega (arith, e)), ((λ (e : 2 ≡ 3). omega (arith, e)), tt)), (((λ (e : 1 ≡ 3). omega (arith, e)), tt), (tt, tt)));
  there = ((λ n u d. cc), ((λ n u d. cc), ((λ n u d. cc), tt)));
}

-- ---- the line

range : IsLine line
range = record {
  address = omega arith;
  id = omega arith;
  some_group = inl refl;
  ttl = omega arith;
  base = omega arith;
  mode_least = omega arith;
  mode_most = omega arith;
  log_least = omega arith;
  log_most = omega arith;
  chunk_least = omega arith;
  chunk_most = omega arith;
  version = omega arith;
  content_least = omega arith;
  content_most = omega arith;
  some = omega arith;
  few = omega arith;
  none_twice = (tt, tt);
}

-- ---- the row

no_tear_by : (t : Bool) (x n : Member) → x.tear ≡ None → cond t (Some x) None ≡ Some n → n.tear ≡ None
no_tear_by true x n h e = let is : x ≡ n = cc in subst (λ (y : Member). y.tear ≡ None) is h
no_tear_by false x n h e = cc

ended_by : (t : Bool) (a : ℕ) (x u : UpdaterMember) → nat_eq a 1 ≡ t → (a ≡ 1 → ⊥) → cond t (Some x) None ≡ Some u → is_ended u.updater.client.place ≡ true
ended_by true a x u t ne e = absurd (ne (eqb-true a 1 t))
ended_by false a x u t ne e = cc

rest_by : (t : Bool) (x d : DistributorMember) → IsAtRest x → cond t (Some x) None ≡ Some d → IsAtRest d
rest_by true x d h e = let is : x ≡ d = cc in subst IsAtRest is h
rest_by false x d h e = cc

pub one_node : ImagesFit → BootsAreSound → OneNode
one_node fit boots = record {
  world = world fit boots;
  range = range;
  can = record {
    member = refl;
    moment = 0;
    updater = refl;
    takes = (record { member = refl; node = _; found = refl; idle = refl; active = _; others = []; images = refl; older = omega arith; room = omega arith; in_group = inl refl }, tt);
    ended = λ a u ne e. ended_by (nat_eq a 1) a _ u refl ne e;
    at_rest = λ a d e. rest_by (nat_eq a 3) _ d (record { rests = refl; no_tear = refl }) e;
    no_tear = λ a n e. no_tear_by (nat_eq a 2) _ n refl e;
  };
  turns = refl;
}
