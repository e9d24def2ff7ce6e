use Rattle.mu_store.proofs.laws.known.Goals as goal

pub returns : goal.returns
returns c = record {
  ranges = c.ranges_of_octets.ensures;
  records = c.changes.ensures.records;
  states = c.changes.ensures.states;
  places = c.changes.ensures.places;
  blocks = c.changes.ensures.blocks;
  present = c.stores.ensures.present;
  represented = c.stores.ensures.represented;
  found = c.stores.ensures.found;
  is_found = c.stores.ensures.is_found;
  free = c.stores.ensures.free;
}
