-- Worked rows, evaluated.
use Rattle.std.proofs.Common.{refl}
use Rattle.mu_model_wire.specs.Reading.{word_at, octets_at, opcode_at, pattern_at}
use Rattle.mu_model_mesh_runs.specs.Worked.{FlashOperations, WornOut}

pub operations_are : FlashOperations
unfolding word_at octets_at opcode_at pattern_at
operations_are = record { whole = refl; read_only = refl; time = refl; distributor = refl; torn = refl; at_last = refl; not_torn = refl; joined = refl }

pub worn_is : WornOut
unfolding word_at octets_at opcode_at pattern_at
worn_is = record { writes = refl; reads = refl; before = refl }
