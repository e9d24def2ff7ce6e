use Rattle.std.proofs.Common.{◌≡◌, ◌≤◌, take, map, length}
use Rattle.std.specs.Prelude.{IfSome}
use Rattle.mu_model_client.specs.Lists.{sent_for}
use Rattle.mu_receivers.specs.Image.{IsSame}
use Rattle.mu_receivers.specs.Chunks.{items_of}
use Rattle.mu_rounds.specs.Sents.{sents_of, HaveOctets}
use Rattle.mu_rounds.proofs.reads.read_spots.Given as goal

abbrev pub invariant-loop-spot : goal.invariant-loop-spot
invariant-loop-spot g l = record {
  count : length l.sents.items ≡ l.spot-index;
  gives : IfSome (g.I.ImageBytes.image l.fn.image).octets (λ octets. sents_of l.client.sending l.client.purpose l.sents.items ≡ map (sent_for l.client.sending octets) (items_of l.b (take l.spot-index l.spots)));
  octets : HaveOctets l.sents.items;
  same : IsSame (g.I.ImageBytes.image l.fn.image) (g.I.ImageBytes.image l.image);
  later : (g.I.ImageBytes.image l.fn.image).faults ≤ (g.I.ImageBytes.image l.image).faults;
  stays : g.I.ImageBytes.stays l.fn.image l.image;
}
