use Rattle.mu_model_offers.proofs.Below.{Below}
use Rattle.mu_model_offers.proofs.Images.{starts_are_of_images}
use Rattle.mu_model_offers.proofs.laws.starts_are_of_images.Goals as goal

below : goal.After-rows_are_told → Below
below c = record {
  keeps = c.states_are_sound.ensures.events;
  boots = c.states_are_sound.ensures.boots;
  plans = c.starts_are_offered.ensures.events;
  boots_planned = c.starts_are_offered.ensures.boots;
  leaves = c.flash_work.ensures.left;
  offered = c.starts_are_offered.ensures.offered;
  moves = c.rows_move_by_cause.ensures;
  stand = c.rows_are_told.ensures.stand;
  rests = c.rests_stand.ensures.moves;
  silent = c.rests_stand.ensures.starts;
}

pub returns : goal.returns
returns c = starts_are_of_images c.opcodes_are_kept.ensures.one c.opcodes_are_kept.ensures.two (below c) c.metadata.ensures.read_back c.requests_are_read.ensures
