-- What an input and an output in memory show of themselves.
use Rattle.std.specs.Prelude.{ℕ, ◌-◌, List, length, take, drop}
use Rattle.mu_outside.specs.declared.bytes_source.BytesSource.{BytesSource}
use Rattle.mu_outside.specs.declared.bytes_sink.BytesSink.{BytesSink}

-- the octets left
abbrev pub source_octets : BytesSource → List ℕ
source_octets source = drop source.at source.octets.items

-- how many calls were made; the last has this number
abbrev pub source_calls : BytesSource → ℕ
source_calls source = source.calls.made

-- the numbers of the calls that fail
abbrev pub source_fails : BytesSource → List ℕ
source_fails source = source.calls.fails.items

-- how many calls have failed
abbrev pub source_faults : BytesSource → ℕ
source_faults source = source.calls.faults

-- the octets written so far
abbrev pub sink_octets : BytesSink → List ℕ
sink_octets sink = take sink.filled sink.octets.items

-- how many octets more it takes
abbrev pub sink_room : BytesSink → ℕ
sink_room sink = length sink.octets.items - sink.filled

-- how many calls were made; the last has this number
abbrev pub sink_calls : BytesSink → ℕ
sink_calls sink = sink.calls.made

-- the numbers of the calls that fail
abbrev pub sink_fails : BytesSink → List ℕ
sink_fails sink = sink.calls.fails.items

-- how many calls have failed
abbrev pub sink_faults : BytesSink → ℕ
sink_faults sink = sink.calls.faults
