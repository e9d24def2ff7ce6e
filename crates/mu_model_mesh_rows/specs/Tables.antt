-- Each script, run; and each refusal.
use Rattle.mu_model_mesh_rows.specs.Scenes.{IsPrinted, IsRefused}
use Rattle.mu_model_mesh_rows.specs.Scripts.{one_node_answers, a_whole_update, nothing, torn_erase, torn_erase_all, torn_record, torn_record_all, tear_outlasts, tear_replaced, tear_before_seal, held_blocks, unread, moments, three_turns, present_moment, settled, another_line, by_rounds, grouped, settle_to_group, a_distribution, distributed, upload_cut, distributor_torn, distributor_torn_start, torn_once, distributor_torn_once, settle_pulled, silent_lines}
use Rattle.mu_model_mesh_rows.specs.Successes.{list_shows_success, late_information}
use Rattle.mu_model_mesh_rows.specs.RefusedScripts.{member_33, late_member, late_and_used, used, past_bank, past_second, stock_past, fifth_image, member_then_token, no_packet, no_addressee, no_member, premise_from, premise_id, rows_of_node, cut_updater, bad_token}

pub record EachScript : Type 0 where
  pub one_node_answers : IsPrinted one_node_answers
  pub a_whole_update : IsPrinted a_whole_update
  pub nothing : IsPrinted nothing
  pub torn_erase : IsPrinted torn_erase
  pub torn_erase_all : IsPrinted torn_erase_all
  pub torn_record : IsPrinted torn_record
  pub torn_record_all : IsPrinted torn_record_all
  pub tear_outlasts : IsPrinted tear_outlasts
  pub tear_replaced : IsPrinted tear_replaced
  pub tear_before_seal : IsPrinted tear_before_seal
  pub held_blocks : IsPrinted held_blocks
  pub unread : IsPrinted unread
  pub moments : IsPrinted moments
  pub three_turns : IsPrinted three_turns
  pub present_moment : IsPrinted present_moment
  pub settled : IsPrinted settled
  pub another_line : IsPrinted another_line
  pub by_rounds : IsPrinted by_rounds
  pub grouped : IsPrinted grouped
  pub settle_to_group : IsPrinted settle_to_group
  pub a_distribution : IsPrinted a_distribution
  pub distributed : IsPrinted distributed
  pub upload_cut : IsPrinted upload_cut
  pub distributor_torn : IsPrinted distributor_torn
  pub distributor_torn_start : IsPrinted distributor_torn_start
  pub torn_once : IsPrinted torn_once
  pub distributor_torn_once : IsPrinted distributor_torn_once
  pub settle_pulled : IsPrinted settle_pulled
  pub silent_lines : IsPrinted silent_lines
  pub list_shows_success : IsPrinted list_shows_success
  pub late_information : IsPrinted late_information

pub record EachRefusal : Type 0 where
  pub member_33 : IsRefused member_33
  pub late_member : IsRefused late_member
  pub late_and_used : IsRefused late_and_used
  pub used : IsRefused used
  pub past_bank : IsRefused past_bank
  pub past_second : IsRefused past_second
  pub stock_past : IsRefused stock_past
  pub fifth_image : IsRefused fifth_image
  pub member_then_token : IsRefused member_then_token
  pub no_packet : IsRefused no_packet
  pub no_addressee : IsRefused no_addressee
  pub no_member : IsRefused no_member
  pub premise_from : IsRefused premise_from
  pub premise_id : IsRefused premise_id
  pub rows_of_node : IsRefused rows_of_node
  pub cut_updater : IsRefused cut_updater
  pub bad_token : IsRefused bad_token
