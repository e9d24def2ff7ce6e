-- The numbers of statuses.
use Rattle.std.specs.Prelude.{ℕ}
use Rattle.mu_command_line.specs.declared.status.Status.{Status}
use Rattle.mu_command_line.specs.declared.status.Status.TheVariants.{Done, Usage, SourceFault, SinkFault, FlashFault, Refused, NoMemory, Worn, TooLong}

abbrev pub number_of : Status → ℕ
number_of Done = 0
number_of Usage = 2
number_of SourceFault = 3
number_of SinkFault = 4
number_of FlashFault = 5
number_of Refused = 7
number_of NoMemory = 9
number_of Worn = 12
number_of TooLong = 14
