use Rattle.std.proofs.Common.{◌≡◌, ◌∷◌, [], None, refl, ap, sym, ◌∙◌, append-nil}
use Rattle.mu_model_image.specs.Meta.{image_of}
use Rattle.mu_model_node.specs.NodeState.{new_node, restarted}
use Rattle.mu_model_script.specs.Event.{Node as Line}
use Rattle.mu_model_world.specs.Outcomes.{content_octets, counted, new_member, node_of, with_member}
use Rattle.mu_script.specs.View.{content}
use Rattle.mu_world.proofs.Events.{on_ok_map, did_one}
use Rattle.mu_world.proofs.state.State.node.Goals as goal

pub returns-clause-ok : goal.returns-clause-ok
returns-clause-ok c =
    let image = content c.args.image.now in
    let made = node_of c.args.pages c.args.version image in
    let node : c.in_ok-node.node ≡ restarted made = c.in_ok-node.ensures ∙ ap (λ octets. restarted (new_node c.args.pages (image_of c.args.version octets))) c.in_ok-octets.ensures in
    let member : c.new.result ≡ new_member c.args.group made =
    c.new.ensures ∙ (ap (λ n. record { group = c.args.group; moment = 0; tear = None; state = n; first = image_of c.args.version (content_octets (content c.image_copy.result)) ∷ [] }) node ∙ ap (λ i. record { group = c.args.group; moment = 0; tear = None; state = restarted made; first = image_of c.args.version (content_octets i) ∷ [] }) c.image_copy.ensures) in
    on_ok_map c.add.result _ _ (λ world.
    did_one c.args.self.now (Line c.args.address c.args.group c.args.pages c.args.version image) [] c.args.lines.now c.args.lines.now c.add.new.self
    (rw (c.in_ok-free.ensures.ok, c.in_ok-fits.ensures.ok) refl)
    (ap (λ w. record { world = w; text = [] } ∷ []) (ap (λ m. with_member (counted c.args.self.now) c.args.address m) (sym member) ∙ sym world))
    (sym (append-nil c.args.lines.now)))
    c.add.ensures.ok
