use Rattle.std.proofs.Common.{◌≡◌, map, subst}
use Rattle.std.specs.Prelude.{IfSome, OnOk}
use Rattle.mu_codec.specs.View.{packet_of}
use Rattle.mu_model_client.specs.Client.{Client}
use Rattle.mu_model_client.specs.Due.{due}
use Rattle.mu_model_client.specs.Packets.{request_packet}
use Rattle.mu_updcli.proofs.client.UpdateClient.on_time.Goals as goal

pub returns-clause-packets : goal.returns-clause-packets
returns-clause-packets g c =
    let now = c.args.now in
    let items = c.on_time.new.out.items in
    let image = g.I.ImageBytes.image c.args.image.now in
    subst (λ (x : Client). OnOk c.on_time.result (IfSome image.octets (λ octets. map packet_of items ≡ map (request_packet x.sending.from) (due x octets now).packets))) c.self.view_is c.on_time.ensures.packets
