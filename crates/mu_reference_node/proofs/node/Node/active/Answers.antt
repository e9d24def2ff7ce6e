use Rattle.std.proofs.Common.{◌<◌, length, map, sym, ap, subst, arith, ◌∙◌, Some}
use Rattle.std.proofs.lemmas.List.{length-map}
use Rattle.mu_model_node.specs.NodeState.{NodeState}
use Rattle.mu_reference.specs.View.{image_of}
use Rattle.mu_reference.specs.declared.values.Image.{Image}
use Rattle.mu_reference_node.proofs.Held.{meta_at}
use Rattle.mu_reference_node.proofs.node.Node.active.Goals as goal

pub returns : goal.returns
returns c =
    let inside : c.args.index < length (map image_of c.self.inside.state.images.items) = subst (λ (s : NodeState). c.args.index < length s.durable.images) (sym c.self.view_is) c.requires in
    let within : c.from.result < length c.self.inside.state.images.items = omega (arith, inside, length-map c.self.inside.state.images.items image_of, c.from.ensures) in
    rw (← c.self.view_is, ← c.from.ensures)
    (meta_at c.self.inside.state.images.items c.from.result c.index.result.now within ∙ ap (λ (image : Image). Some image.meta) (sym c.index.ensures))
