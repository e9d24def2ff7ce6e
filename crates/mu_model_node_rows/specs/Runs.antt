-- The runs, each evaluated.
use Rattle.mu_model_node_rows.specs.Turns.{Goes, of_pages}
use Rattle.mu_model_node_rows.specs.RunsOfBlocks.{held_again, reports_by_length, smaller_messages, larger_messages, pull_soon, pull_some, pull_next, pull_part, pull_next_block, client_stands, client_changes, get_in_complete}
use Rattle.mu_model_node_rows.specs.RunsOfUpdates.{timeout, timeout_by_base, timeout_forgets, timeout_from_last, earlier_moment, cancel_unbegun, cancel_begun, whole_after_a_cut, cancels, another_start}

pub record BlockByBlock : Type 0 where
  pub held_again : Goes (of_pages 2) held_again
  pub reports_by_length : Goes (of_pages 2) reports_by_length
  pub smaller_messages : Goes (of_pages 1) smaller_messages
  pub larger_messages : Goes (of_pages 1) larger_messages
  pub pull_soon : Goes (of_pages 1) pull_soon
  pub pull_some : Goes (of_pages 1) pull_some
  pub pull_next : Goes (of_pages 1) pull_next
  pub pull_part : Goes (of_pages 1) pull_part
  pub pull_next_block : Goes (of_pages 2) pull_next_block
  pub client_stands : Goes (of_pages 1) client_stands
  pub client_changes : Goes (of_pages 1) client_changes
  pub get_in_complete : Goes (of_pages 1) get_in_complete

pub record UpdateByUpdate : Type 0 where
  pub timeout : Goes (of_pages 1) timeout
  pub timeout_by_base : Goes (of_pages 1) timeout_by_base
  pub timeout_forgets : Goes (of_pages 2) timeout_forgets
  pub timeout_from_last : Goes (of_pages 1) timeout_from_last
  pub earlier_moment : Goes (of_pages 1) earlier_moment
  pub cancel_unbegun : Goes (of_pages 1) cancel_unbegun
  pub cancel_begun : Goes (of_pages 2) cancel_begun
  pub whole_after_a_cut : Goes (of_pages 1) whole_after_a_cut
  pub cancels : Goes (of_pages 1) cancels
  pub another_start : Goes (of_pages 1) another_start
