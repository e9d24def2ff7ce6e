use Rattle.std.proofs.Common.{◌≡◌, ◌∷◌, [], None, refl, ap, sym, ◌∙◌, append-nil}
use Rattle.mu_model_image.specs.Meta.{image_of}
use Rattle.mu_model_node.specs.NodeState.{new_pair, restarted}
use Rattle.mu_model_script.specs.Event.{Pair as Line}
use Rattle.mu_model_world.specs.Outcomes.{content_octets, counted, new_member, pair_of, with_member}
use Rattle.mu_script.specs.View.{content}
use Rattle.mu_world.proofs.Events.{on_ok_map, did_one}
use Rattle.mu_world.proofs.state.State.pair.Goals as goal

pub returns-clause-ok : goal.returns-clause-ok
returns-clause-ok c =
    let image = content c.args.image.now in
    let other = content c.args.second_image.now in
    let made = pair_of c.args.pages c.args.version image c.args.second_version other in
    let node : c.in_ok-node.node ≡ restarted made =
    c.in_ok-node.ensures
    ∙ (ap (λ octets. restarted (new_pair c.args.pages (image_of c.args.version octets) (image_of c.args.second_version c.in_ok-second_octets.second_octets.items))) c.in_ok-octets.ensures
    ∙ ap (λ octets. restarted (new_pair c.args.pages (image_of c.args.version (content_octets image)) (image_of c.args.second_version octets))) c.in_ok-second_octets.ensures) in
    let member : c.new.result ≡ new_member c.args.group made =
    c.new.ensures
    ∙ (ap (λ n. record { group = c.args.group; moment = 0; tear = None; state = n; first = image_of c.args.version (content_octets (content c.image_copy.result)) ∷ image_of c.args.second_version (content_octets (content c.image_copy-2.result)) ∷ [] }) node
    ∙ (ap (λ i. record { group = c.args.group; moment = 0; tear = None; state = restarted made; first = image_of c.args.version (content_octets i) ∷ image_of c.args.second_version (content_octets (content c.image_copy-2.result)) ∷ [] }) c.image_copy.ensures
    ∙ ap (λ i. record { group = c.args.group; moment = 0; tear = None; state = restarted made; first = image_of c.args.version (content_octets image) ∷ image_of c.args.second_version (content_octets i) ∷ [] }) c.image_copy-2.ensures)) in
    on_ok_map c.add.result _ _ (λ world.
    did_one c.args.self.now (Line c.args.address c.args.group c.args.pages c.args.version image c.args.second_version other) [] c.args.lines.now c.args.lines.now c.add.new.self
    (rw (c.in_ok-free.ensures.ok, c.in_ok-fits.ensures.ok, c.in_ok-fits-2.ensures.ok) refl)
    (ap (λ w. record { world = w; text = [] } ∷ []) (ap (λ m. with_member (counted c.args.self.now) c.args.address m) (sym member) ∙ sym world))
    (sym (append-nil c.args.lines.now)))
    c.add.ensures.ok
