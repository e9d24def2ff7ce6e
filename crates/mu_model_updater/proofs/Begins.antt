-- The first time event of an updater.
use Rattle.std.proofs.Common.{◌≡◌, ℕ, zero, suc, List, [], ◌∷◌, map, take, refl, ap, ◌∙◌}
use Rattle.mu_model_image.specs.Meta.{meta_octets}
use Rattle.mu_model_wire.specs.Packet.{Packet}
use Rattle.mu_model_node.specs.NodeMessages.{OfUpdate}
use Rattle.mu_model_node.specs.UpdateMessages.{MetadataCheck}
use Rattle.mu_model_client.specs.declared.Plan.{Plan}
use Rattle.mu_model_client.specs.Begin.{purpose_of, new_active}
use Rattle.mu_model_client.specs.Client.{Check, Item, Says}
use Rattle.mu_model_client.specs.Due.{begun}
use Rattle.mu_model_client.specs.Lists.{step_message, messages, sent_for}
use Rattle.mu_model_client.specs.Packets.{request_packet}
use Rattle.mu_model_updater.specs.Laws.{check_packet, BeginsWithACheck}

abbrev check_item : Plan → ℕ × ℕ → Item
check_item plan receiver = Says receiver.0 (OfUpdate (MetadataCheck receiver.1 (meta_octets plan.meta)))

all_asked : (plan : Plan) (to : List (ℕ × ℕ)) → messages (step_message plan.sending (purpose_of plan) Check) (map (begun Check) (map new_active to)) ≡ map (check_item plan) to
all_asked plan [] = refl
all_asked plan (x ∷ to) = ap (λ (items : List Item). check_item plan x ∷ items) (all_asked plan to)

as_packets : (plan : Plan) (image : List ℕ) (n : ℕ) (to : List (ℕ × ℕ)) → map (request_packet plan.sending.from) (map (sent_for plan.sending image) (take n (map (check_item plan) to))) ≡ map (check_packet plan) (take n to)
as_packets plan image zero to = refl
as_packets plan image (suc n) [] = refl
as_packets plan image (suc n) (x ∷ to) = ap (λ (packets : List Packet). check_packet plan x ∷ packets) (as_packets plan image n to)

pub begins_with_a_check : BeginsWithACheck
begins_with_a_check plan image [] now = refl
begins_with_a_check plan image (x ∷ to) now =
    ap (λ (items : List Item). map (request_packet plan.sending.from) (map (sent_for plan.sending image.octets) (take 16 items))) (all_asked plan (x ∷ to))
    ∙ as_packets plan image.octets 16 (x ∷ to)
