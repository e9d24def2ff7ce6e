use Rattle.std.proofs.Common.{◌∙◌, ap, map, length}
use Rattle.mu_model_node.specs.UpdateMessages.{InformationStatus}
use Rattle.mu_update_rows.proofs.Ids.{ids_are, count_is}
use Rattle.mu_update_rows.proofs.images.information.Goals as goal

pub returns : goal.returns
returns c s looks =
    c.new.ensures
    ∙ ap (λ count. InformationStatus count c.args.first (map (λ id. id.items) c.ids.result.items)) (c.count.ensures ∙ count_is c.args.look.now s looks)
    ∙ ap (InformationStatus (length s.durable.images) c.args.first) (c.ids.ensures.ids ∙ ids_are c.args.look.now s c.args.first c.args.limit looks)
