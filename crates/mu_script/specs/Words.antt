-- The rows of the table of lines, by their words.
use Rattle.mu_model_script.specs.Lines.{LineRow, node_row, pair_row, old_row, say_row, deliver_row, time_row, cut_row, tear_row, active_row, phase_row}
use Rattle.mu_script.specs.declared.reading.Word.{Word}
use Rattle.mu_script.specs.declared.reading.Word.TheVariants.{Node, Pair, Old, Say, Deliver, Time, Cut, Tear, Active, Phase}

abbrev pub row : Word → LineRow
row Node = node_row
row Pair = pair_row
row Old = old_row
row Say = say_row
row Deliver = deliver_row
row Time = time_row
row Cut = cut_row
row Tear = tear_row
row Active = active_row
row Phase = phase_row
