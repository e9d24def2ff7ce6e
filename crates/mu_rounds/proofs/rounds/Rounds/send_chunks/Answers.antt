use Rattle.std.proofs.Common.{◌≤◌, ◌<◌, List, length, subst, sym}
use Rattle.std.specs.Prelude.{slice_index_or, All}
use Rattle.mu_receivers.specs.Reads.{Within}
use Rattle.mu_receivers.specs.declared.slot.Slot.{Slot}
use Rattle.mu_receivers.specs.declared.lists.Spot.{Spot}
use Rattle.mu_rounds.proofs.Sets.{begins_within}
use Rattle.mu_rounds.proofs.Timing.{Found, chunks_sent, chunks_read, can_read}
use Rattle.mu_rounds.proofs.rounds.Rounds.send_chunks.Goals as goal

pub spots_from-found-requires-clause-within : goal.spots_from-found-requires-clause-within
spots_from-found-requires-clause-within g c =
    subst (λ (s : List Slot). c.args.left.at.receiver ≤ length s) (sym c.deref.ensures.0) (c.requires.shape.left c.args.left c.requires.left).receiver

pub read_spots-requires-clause-can : goal.read_spots-requires-clause-can
read_spots-requires-clause-can g c = can_read c.args.self.now.sending (g.I.ImageBytes.image c.args.image.now) c.requires.shape.range c.requires.size

pub read_spots-requires-clause-within : goal.read_spots-requires-clause-within
read_spots-requires-clause-within g c =
    let fits = c.requires.shape.left c.args.left c.requires.left in
    subst (All (λ (spot : Spot). Within c.args.self.now.sending c.args.left.block spot.chunk)) (sym c.deref-2.ensures.0)
    (λ k d lt.
    begins_within c.args.self.now.sending c.args.left.block (slice_index_or c.spots_from-found.result.spots.items k d).chunk c.requires.shape.range fits.within
    (subst (λ n. (slice_index_or c.spots_from-found.result.spots.items k d).chunk < n) fits.chunks (c.spots_from-found.ensures.below k d lt)))

pub returns-clause-sends : goal.returns-clause-sends
returns-clause-sends g c =
    let found = subst (λ (s : List Slot). Found c.args.self.now.sending s c.args.left c.spots_from-found.result.spots.items c.spots_from-found.result.next) c.deref.ensures.0
    (record {
      all = c.spots_from-found.ensures.all;
      more = c.spots_from-found.ensures.more;
      full = c.spots_from-found.ensures.full;
      few = c.spots_from-found.ensures.few;
      within = c.spots_from-found.ensures.within;
    }) in
    chunks_sent c.args.self.now c.args.left c.spots_from-found.result.spots.items c.spots_from-found.result.next c.left_after-self.result c.requires.shape c.requires.left found c.left_after-self.ensures

pub returns-clause-packets : goal.returns-clause-packets
returns-clause-packets g c =
    let found = subst (λ (s : List Slot). Found c.args.self.now.sending s c.args.left c.spots_from-found.result.spots.items c.spots_from-found.result.next) c.deref.ensures.0
    (record {
      all = c.spots_from-found.ensures.all;
      more = c.spots_from-found.ensures.more;
      full = c.spots_from-found.ensures.full;
      few = c.spots_from-found.ensures.few;
      within = c.spots_from-found.ensures.within;
    }) in
    chunks_read (g.I.ImageBytes.image c.args.image.now).octets c.args.self.now c.args.left c.spots_from-found.result.spots.items c.deref-2.result.now c.spots_from-found.result.next
    c.in_ok-out.field-0.items c.requires.shape c.requires.left found c.deref-2.ensures.0 c.in_ok-out.ensures.gives
