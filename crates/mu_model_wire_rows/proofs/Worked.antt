-- Worked rows, evaluated.
use Rattle.std.proofs.Common.{refl}
use Rattle.mu_model_wire.specs.Reading.{word_at, octets_at, opcode_at, pattern_at}
use Rattle.mu_model_wire_rows.specs.Grammar.{Messages, Refusals}

pub messages : Messages
unfolding word_at octets_at opcode_at pattern_at
messages = record { blob = refl; update = refl; distribution = refl; reserved = refl; reserved_in_status = refl; reserved_in_block = refl; reserved_in_limits = refl; reserved_in_update = refl; reserved_in_start = refl }

pub refusals : Refusals
unfolding word_at octets_at opcode_at pattern_at
refusals = record { blob = refl; update = refl; distribution = refl; edges = refl; lengths = refl; longest = refl }
