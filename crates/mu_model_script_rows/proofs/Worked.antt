-- Worked rows, evaluated.
use Rattle.std.proofs.Common.{refl}
use Rattle.sha2.specs.Sha256.{sha256, digest_bytes, hash_after, compress, rounds, schedule, first_words}
use Rattle.std.specs.Fmt.{digits}
use Rattle.hex.specs.Hex.{decode_pairs, encode_with}
use Rattle.mu_model_script.specs.Lines.{value_at}
use Rattle.mu_model_script_rows.specs.Texts.{EachLine, EachText}
use Rattle.mu_model_script_rows.specs.Images.{EachImage}

pub lines : EachLine
unfolding value_at decode_pairs encode_with digits
lines = record { read = refl; refused = refl; nothing = refl; comment = refl; sign = refl; longest_comment = refl; long_comment = refl; long_line = refl; longest_line = refl; carriage_return = refl; long_image = refl; long_payload = refl; longest_image = refl; longest_payload = refl; most_receivers = refl; receiver_129 = refl }

pub texts : EachText
unfolding decode_pairs encode_with digits
texts = record { lines = refl; last_ended = refl; none = refl; one_empty = refl; all_within = refl; last_within = refl; cut_there = refl; shown_long = refl; not_shown = refl; two_lines = refl; ended_by_feed = refl; sent = refl; unread = refl; active = refl; boot = refl; phase = refl; ended = refl; not_ended = refl; row = refl; refused = refl; token = refl; long = refl; past_bank = refl; member = refl; packet = refl; premise = refl; octets = refl; all_lines = refl; turns = refl; in_line = refl }

pub images : EachImage
unfolding sha256 digest_bytes hash_after compress rounds schedule first_words
images = record { written = refl; read = refl; short = refl; long = refl; no_octets = refl; no_size = refl; size_1 = refl; id = refl; company = refl; fit = refl; other_size = refl; other_digest = refl; made = refl; made_9 = refl; made_past = refl; made_4 = refl; blocks = refl; block_lengths = refl; chunks = refl; chunk_lengths = refl; last_chunk = refl; one_block = refl; other_logs = refl; one_chunk = refl; last_block = refl; second_chunk = refl; first_chunk = refl }
