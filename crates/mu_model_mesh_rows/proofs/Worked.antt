-- Worked rows, evaluated.
use Rattle.std.proofs.Common.{refl}
use Rattle.sha2.specs.Sha256.{sha256, digest_bytes, hash_after, compress, rounds, schedule, first_words}
use Rattle.mu_model_wire.specs.Reading.{word_at, octets_at, opcode_at, pattern_at}
use Rattle.std.specs.Fmt.{digits}
use Rattle.hex.specs.Hex.{decode_pairs, encode_with}
use Rattle.mu_model_script.specs.Lines.{value_at}
use Rattle.mu_model_mesh_rows.specs.Scenes.{IsPrinted, IsRefused}
use Rattle.mu_model_mesh_rows.specs.Scripts as scripts
use Rattle.mu_model_mesh_rows.specs.Successes as successes
use Rattle.mu_model_mesh_rows.specs.RefusedScripts as refused
use Rattle.mu_model_mesh_rows.specs.Tables.{EachScript, EachRefusal}
use Rattle.mu_model_mesh_rows.specs.Limits.{EachLimit}
use Rattle.mu_model_mesh_rows.proofs.Evaluated.{printed, stopped}

one_node_answers_is : IsPrinted scripts.one_node_answers
unfolding value_at decode_pairs encode_with digits word_at octets_at opcode_at pattern_at sha256 digest_bytes hash_after compress rounds schedule first_words
one_node_answers_is = (printed scripts.one_node_answers.lines tt).1

a_whole_update_is : IsPrinted scripts.a_whole_update
unfolding value_at decode_pairs encode_with digits word_at octets_at opcode_at pattern_at sha256 digest_bytes hash_after compress rounds schedule first_words
a_whole_update_is = (printed scripts.a_whole_update.lines tt).1

nothing_is : IsPrinted scripts.nothing
unfolding value_at decode_pairs encode_with digits word_at octets_at opcode_at pattern_at sha256 digest_bytes hash_after compress rounds schedule first_words
nothing_is = (printed scripts.nothing.lines tt).1

torn_erase_is : IsPrinted scripts.torn_erase
unfolding value_at decode_pairs encode_with digits word_at octets_at opcode_at pattern_at sha256 digest_bytes hash_after compress rounds schedule first_words
torn_erase_is = (printed scripts.torn_erase.lines tt).1

torn_erase_all_is : IsPrinted scripts.torn_erase_all
unfolding value_at decode_pairs encode_with digits word_at octets_at opcode_at pattern_at sha256 digest_bytes hash_after compress rounds schedule first_words
torn_erase_all_is = (printed scripts.torn_erase_all.lines tt).1

torn_record_is : IsPrinted scripts.torn_record
unfolding value_at decode_pairs encode_with digits word_at octets_at opcode_at pattern_at sha256 digest_bytes hash_after compress rounds schedule first_words
torn_record_is = (printed scripts.torn_record.lines tt).1

torn_record_all_is : IsPrinted scripts.torn_record_all
unfolding value_at decode_pairs encode_with digits word_at octets_at opcode_at pattern_at sha256 digest_bytes hash_after compress rounds schedule first_words
torn_record_all_is = (printed scripts.torn_record_all.lines tt).1

tear_outlasts_is : IsPrinted scripts.tear_outlasts
unfolding value_at decode_pairs encode_with digits word_at octets_at opcode_at pattern_at sha256 digest_bytes hash_after compress rounds schedule first_words
tear_outlasts_is = (printed scripts.tear_outlasts.lines tt).1

tear_replaced_is : IsPrinted scripts.tear_replaced
unfolding value_at decode_pairs encode_with digits word_at octets_at opcode_at pattern_at sha256 digest_bytes hash_after compress rounds schedule first_words
tear_replaced_is = (printed scripts.tear_replaced.lines tt).1

tear_before_seal_is : IsPrinted scripts.tear_before_seal
unfolding value_at decode_pairs encode_with digits word_at octets_at opcode_at pattern_at sha256 digest_bytes hash_after compress rounds schedule first_words
tear_before_seal_is = (printed scripts.tear_before_seal.lines tt).1

held_blocks_is : IsPrinted scripts.held_blocks
unfolding value_at decode_pairs encode_with digits word_at octets_at opcode_at pattern_at sha256 digest_bytes hash_after compress rounds schedule first_words
held_blocks_is = (printed scripts.held_blocks.lines tt).1

unread_is : IsPrinted scripts.unread
unfolding value_at decode_pairs encode_with digits word_at octets_at opcode_at pattern_at sha256 digest_bytes hash_after compress rounds schedule first_words
unread_is = (printed scripts.unread.lines tt).1

moments_is : IsPrinted scripts.moments
unfolding value_at decode_pairs encode_with digits word_at octets_at opcode_at pattern_at sha256 digest_bytes hash_after compress rounds schedule first_words
moments_is = (printed scripts.moments.lines tt).1

three_turns_is : IsPrinted scripts.three_turns
unfolding value_at decode_pairs encode_with digits word_at octets_at opcode_at pattern_at sha256 digest_bytes hash_after compress rounds schedule first_words
three_turns_is = (printed scripts.three_turns.lines tt).1

present_moment_is : IsPrinted scripts.present_moment
unfolding value_at decode_pairs encode_with digits word_at octets_at opcode_at pattern_at sha256 digest_bytes hash_after compress rounds schedule first_words
present_moment_is = (printed scripts.present_moment.lines tt).1

settled_is : IsPrinted scripts.settled
unfolding value_at decode_pairs encode_with digits word_at octets_at opcode_at pattern_at sha256 digest_bytes hash_after compress rounds schedule first_words
settled_is = (printed scripts.settled.lines tt).1

another_line_is : IsPrinted scripts.another_line
unfolding value_at decode_pairs encode_with digits word_at octets_at opcode_at pattern_at sha256 digest_bytes hash_after compress rounds schedule first_words
another_line_is = (printed scripts.another_line.lines tt).1

by_rounds_is : IsPrinted scripts.by_rounds
unfolding value_at decode_pairs encode_with digits word_at octets_at opcode_at pattern_at sha256 digest_bytes hash_after compress rounds schedule first_words
by_rounds_is = (printed scripts.by_rounds.lines tt).1

grouped_is : IsPrinted scripts.grouped
unfolding value_at decode_pairs encode_with digits word_at octets_at opcode_at pattern_at sha256 digest_bytes hash_after compress rounds schedule first_words
grouped_is = (printed scripts.grouped.lines tt).1

settle_to_group_is : IsPrinted scripts.settle_to_group
unfolding value_at decode_pairs encode_with digits word_at octets_at opcode_at pattern_at sha256 digest_bytes hash_after compress rounds schedule first_words
settle_to_group_is = (printed scripts.settle_to_group.lines tt).1

a_distribution_is : IsPrinted scripts.a_distribution
unfolding value_at decode_pairs encode_with digits word_at octets_at opcode_at pattern_at sha256 digest_bytes hash_after compress rounds schedule first_words
a_distribution_is = (printed scripts.a_distribution.lines tt).1

distributed_is : IsPrinted scripts.distributed
unfolding value_at decode_pairs encode_with digits word_at octets_at opcode_at pattern_at sha256 digest_bytes hash_after compress rounds schedule first_words
distributed_is = (printed scripts.distributed.lines tt).1

upload_cut_is : IsPrinted scripts.upload_cut
unfolding value_at decode_pairs encode_with digits word_at octets_at opcode_at pattern_at sha256 digest_bytes hash_after compress rounds schedule first_words
upload_cut_is = (printed scripts.upload_cut.lines tt).1

distributor_torn_is : IsPrinted scripts.distributor_torn
unfolding value_at decode_pairs encode_with digits word_at octets_at opcode_at pattern_at sha256 digest_bytes hash_after compress rounds schedule first_words
distributor_torn_is = (printed scripts.distributor_torn.lines tt).1

distributor_torn_start_is : IsPrinted scripts.distributor_torn_start
unfolding value_at decode_pairs encode_with digits word_at octets_at opcode_at pattern_at sha256 digest_bytes hash_after compress rounds schedule first_words
distributor_torn_start_is = (printed scripts.distributor_torn_start.lines tt).1

torn_once_is : IsPrinted scripts.torn_once
unfolding value_at decode_pairs encode_with digits word_at octets_at opcode_at pattern_at sha256 digest_bytes hash_after compress rounds schedule first_words
torn_once_is = (printed scripts.torn_once.lines tt).1

distributor_torn_once_is : IsPrinted scripts.distributor_torn_once
unfolding value_at decode_pairs encode_with digits word_at octets_at opcode_at pattern_at sha256 digest_bytes hash_after compress rounds schedule first_words
distributor_torn_once_is = (printed scripts.distributor_torn_once.lines tt).1

settle_pulled_is : IsPrinted scripts.settle_pulled
unfolding value_at decode_pairs encode_with digits word_at octets_at opcode_at pattern_at sha256 digest_bytes hash_after compress rounds schedule first_words
settle_pulled_is = (printed scripts.settle_pulled.lines tt).1

silent_lines_is : IsPrinted scripts.silent_lines
unfolding value_at decode_pairs encode_with digits word_at octets_at opcode_at pattern_at sha256 digest_bytes hash_after compress rounds schedule first_words
silent_lines_is = (printed scripts.silent_lines.lines tt).1

member_33_is : IsRefused refused.member_33
unfolding value_at decode_pairs encode_with digits word_at octets_at opcode_at pattern_at sha256 digest_bytes hash_after compress rounds schedule first_words
member_33_is = (stopped refused.member_33.before refused.member_33.line tt).3

late_member_is : IsRefused refused.late_member
unfolding value_at decode_pairs encode_with digits word_at octets_at opcode_at pattern_at sha256 digest_bytes hash_after compress rounds schedule first_words
late_member_is = (stopped refused.late_member.before refused.late_member.line tt).3

late_and_used_is : IsRefused refused.late_and_used
unfolding value_at decode_pairs encode_with digits word_at octets_at opcode_at pattern_at sha256 digest_bytes hash_after compress rounds schedule first_words
late_and_used_is = (stopped refused.late_and_used.before refused.late_and_used.line tt).3

used_is : IsRefused refused.used
unfolding value_at decode_pairs encode_with digits word_at octets_at opcode_at pattern_at sha256 digest_bytes hash_after compress rounds schedule first_words
used_is = (stopped refused.used.before refused.used.line tt).3

past_bank_is : IsRefused refused.past_bank
unfolding value_at decode_pairs encode_with digits word_at octets_at opcode_at pattern_at sha256 digest_bytes hash_after compress rounds schedule first_words
past_bank_is = (stopped refused.past_bank.before refused.past_bank.line tt).3

past_second_is : IsRefused refused.past_second
unfolding value_at decode_pairs encode_with digits word_at octets_at opcode_at pattern_at sha256 digest_bytes hash_after compress rounds schedule first_words
past_second_is = (stopped refused.past_second.before refused.past_second.line tt).3

stock_past_is : IsRefused refused.stock_past
unfolding value_at decode_pairs encode_with digits word_at octets_at opcode_at pattern_at sha256 digest_bytes hash_after compress rounds schedule first_words
stock_past_is = (stopped refused.stock_past.before refused.stock_past.line tt).3

fifth_image_is : IsRefused refused.fifth_image
unfolding value_at decode_pairs encode_with digits word_at octets_at opcode_at pattern_at sha256 digest_bytes hash_after compress rounds schedule first_words
fifth_image_is = (stopped refused.fifth_image.before refused.fifth_image.line tt).3

member_then_token_is : IsRefused refused.member_then_token
unfolding value_at decode_pairs encode_with digits word_at octets_at opcode_at pattern_at sha256 digest_bytes hash_after compress rounds schedule first_words
member_then_token_is = (stopped refused.member_then_token.before refused.member_then_token.line tt).3

no_packet_is : IsRefused refused.no_packet
unfolding value_at decode_pairs encode_with digits word_at octets_at opcode_at pattern_at sha256 digest_bytes hash_after compress rounds schedule first_words
no_packet_is = (stopped refused.no_packet.before refused.no_packet.line tt).3

no_addressee_is : IsRefused refused.no_addressee
unfolding value_at decode_pairs encode_with digits word_at octets_at opcode_at pattern_at sha256 digest_bytes hash_after compress rounds schedule first_words
no_addressee_is = (stopped refused.no_addressee.before refused.no_addressee.line tt).3

no_member_is : IsRefused refused.no_member
unfolding value_at decode_pairs encode_with digits word_at octets_at opcode_at pattern_at sha256 digest_bytes hash_after compress rounds schedule first_words
no_member_is = (stopped refused.no_member.before refused.no_member.line tt).3

premise_from_is : IsRefused refused.premise_from
unfolding value_at decode_pairs encode_with digits word_at octets_at opcode_at pattern_at sha256 digest_bytes hash_after compress rounds schedule first_words
premise_from_is = (stopped refused.premise_from.before refused.premise_from.line tt).3

premise_id_is : IsRefused refused.premise_id
unfolding value_at decode_pairs encode_with digits word_at octets_at opcode_at pattern_at sha256 digest_bytes hash_after compress rounds schedule first_words
premise_id_is = (stopped refused.premise_id.before refused.premise_id.line tt).3

rows_of_node_is : IsRefused refused.rows_of_node
unfolding value_at decode_pairs encode_with digits word_at octets_at opcode_at pattern_at sha256 digest_bytes hash_after compress rounds schedule first_words
rows_of_node_is = (stopped refused.rows_of_node.before refused.rows_of_node.line tt).3

cut_updater_is : IsRefused refused.cut_updater
unfolding value_at decode_pairs encode_with digits word_at octets_at opcode_at pattern_at sha256 digest_bytes hash_after compress rounds schedule first_words
cut_updater_is = (stopped refused.cut_updater.before refused.cut_updater.line tt).3

bad_token_is : IsRefused refused.bad_token
unfolding value_at decode_pairs encode_with digits word_at octets_at opcode_at pattern_at sha256 digest_bytes hash_after compress rounds schedule first_words
bad_token_is = (stopped refused.bad_token.before refused.bad_token.line tt).3

list_shows_success_is : IsPrinted successes.list_shows_success
unfolding value_at decode_pairs encode_with digits word_at octets_at opcode_at pattern_at sha256 digest_bytes hash_after compress rounds schedule first_words
list_shows_success_is = (printed successes.list_shows_success.lines tt).1

late_information_is : IsPrinted successes.late_information
unfolding value_at decode_pairs encode_with digits word_at octets_at opcode_at pattern_at sha256 digest_bytes hash_after compress rounds schedule first_words
late_information_is = (printed successes.late_information.lines tt).1

pub each_script : EachScript
each_script = record { one_node_answers = one_node_answers_is; a_whole_update = a_whole_update_is; nothing = nothing_is; torn_erase = torn_erase_is; torn_erase_all = torn_erase_all_is; torn_record = torn_record_is; torn_record_all = torn_record_all_is; tear_outlasts = tear_outlasts_is; tear_replaced = tear_replaced_is; tear_before_seal = tear_before_seal_is; held_blocks = held_blocks_is; unread = unread_is; moments = moments_is; three_turns = three_turns_is; present_moment = present_moment_is; settled = settled_is; another_line = another_line_is; by_rounds = by_rounds_is; grouped = grouped_is; settle_to_group = settle_to_group_is; a_distribution = a_distribution_is; distributed = distributed_is; upload_cut = upload_cut_is; distributor_torn = distributor_torn_is; distributor_torn_start = distributor_torn_start_is; torn_once = torn_once_is; distributor_torn_once = distributor_torn_once_is; settle_pulled = settle_pulled_is; silent_lines = silent_lines_is; list_shows_success = list_shows_success_is; late_information = late_information_is }

pub each_refusal : EachRefusal
each_refusal = record { member_33 = member_33_is; late_member = late_member_is; late_and_used = late_and_used_is; used = used_is; past_bank = past_bank_is; past_second = past_second_is; stock_past = stock_past_is; fifth_image = fifth_image_is; member_then_token = member_then_token_is; no_packet = no_packet_is; no_addressee = no_addressee_is; no_member = no_member_is; premise_from = premise_from_is; premise_id = premise_id_is; rows_of_node = rows_of_node_is; cut_updater = cut_updater_is; bad_token = bad_token_is }

pub each_limit : EachLimit
each_limit = record { last_event = refl; past_event = refl; last_settle = refl; past_settle = refl; past_say = refl; all_turns = refl; one_turn_more = refl; last_turn = refl; past_turn = refl; no_turn_left = refl; other_line = refl }
