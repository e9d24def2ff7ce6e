-- What a flash of which named calls fail shows of itself.
use Rattle.std.specs.Prelude.{ℕ, List, None, false}
use Rattle.mu_model_flash.specs.declared.Pattern.{Pattern}
use Rattle.mu_model_flash.specs.Flash.{Seen}
use Rattle.mu_outside.specs.Memory.{memory}
use Rattle.mu_outside.specs.declared.faulty.FaultyFlash.{FaultyFlash}

-- all that it means
abbrev pub faulty_seen : FaultyFlash → Seen
faulty_seen flash = memory flash.cells None false false

-- the numbers of the programs and erases that fail, with their patterns
abbrev pub named_writes : FaultyFlash → List (ℕ × Pattern)
named_writes flash = flash.writes.items

-- the numbers of the reads that fail
abbrev pub named_reads : FaultyFlash → List ℕ
named_reads flash = flash.reads.items

-- how many programs and erases were called; the last has this number
abbrev pub write_calls_of : FaultyFlash → ℕ
write_calls_of flash = flash.write_calls

-- how many reads were called; the last has this number
abbrev pub read_calls_of : FaultyFlash → ℕ
read_calls_of flash = flash.read_calls
