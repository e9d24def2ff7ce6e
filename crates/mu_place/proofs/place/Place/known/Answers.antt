use Rattle.mu_place.proofs.Places.{place_is_record, place_rests, filling_there, filling_entry, filling_few, filling_as_many, none_held, place_present, place_idle, place_blocks}
use Rattle.mu_place.proofs.place.Place.known.Goals as goal

pub returns : goal.returns
returns g c = let place = c.args.self.now in record {
  is_record = place_is_record place;
  rests = place_rests place;
  there = filling_there place;
  entry = filling_entry place;
  few = filling_few place;
  as_many = filling_as_many place;
  none = none_held place;
  present = place_present g.F.Flash.seen place;
  idle = place_idle g.F.Flash.seen g.met.F.Flash.sound c.runs.ensures.read place;
  blocks = place_blocks g.F.Flash.seen place;
}
