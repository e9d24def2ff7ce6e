use Rattle.mu_model_offers.proofs.Below.{Below}
use Rattle.mu_model_offers.proofs.Agree.{starts_agree, heard_agrees, heard_agree, rows_agree, rows_stand_once, starts_are_own, heard_is_own}
use Rattle.mu_model_offers.proofs.Lists.{lists_agree}
use Rattle.mu_model_offers.proofs.laws.offers_agree.Goals as goal

below : goal.After-rows_are_told → Below
below c = record {
  keeps = c.states_are_sound.ensures.events;
  boots = c.states_are_sound.ensures.boots;
  plans = c.starts_are_offered.ensures.events;
  boots_planned = c.starts_are_offered.ensures.boots;
  leaves = c.flash_work.ensures.left;
  offered = c.starts_are_offered.ensures.offered;
  moves = c.rows_move_by_cause.ensures;
  stand = c.rows_are_told.ensures.stand;
  rests = c.rests_stand.ensures.moves;
  silent = c.rests_stand.ensures.starts;
}

pub returns-clause-starts : goal.returns-clause-starts
returns-clause-starts c = starts_agree (below c) c.starts_are_in_order.ensures.order

pub returns-clause-heard : goal.returns-clause-heard
returns-clause-heard c = heard_agrees (below c) c.starts_are_in_order.ensures.order

pub returns-clause-answers : goal.returns-clause-answers
returns-clause-answers c = heard_agree (below c) c.starts_are_in_order.ensures.order

pub returns-clause-rows : goal.returns-clause-rows
returns-clause-rows c = rows_agree (below c) c.starts_are_in_order.ensures.order

pub returns-clause-once : goal.returns-clause-once
returns-clause-once c = rows_stand_once c.runs_are_in_order.ensures.order

pub returns-clause-lists : goal.returns-clause-lists
returns-clause-lists c = lists_agree (below c) c.starts_are_in_order.ensures.order c.runs_are_in_order.ensures.order c.lists_are_told.ensures.rows

pub returns-clause-heard_own : goal.returns-clause-heard_own
returns-clause-heard_own c = heard_is_own (below c) c.starts_are_in_order.ensures.order

pub returns-clause-own : goal.returns-clause-own
returns-clause-own c = starts_are_own (below c) c.metadata.ensures.read_back c.starts_are_in_order.ensures.order
