use Rattle.std.proofs.Common.{◌≡◌, ◌≤◌, ◌-◌, length, drop}
use Rattle.std.specs.Prelude.{sum, slice_get}
use Rattle.mu_command_line.specs.Words.{words_of}
use Rattle.mu_command_line.proofs.words.WordList.word.Given as goal

abbrev pub invariant-loop-k : goal.invariant-loop-k
invariant-loop-k l = record {
  so_far : slice_get (words_of l.length-items l.initial.octets) l.place ≡ slice_get (words_of (drop l.k l.length-items) l.octets) (l.place - l.k);
  early : l.k ≤ l.place;
  sizes : sum (drop l.k l.length-items) ≡ length l.octets;
}
