use Rattle.std.proofs.Common.{sym, ◌∙◌}
use Rattle.mu_top.proofs.Commands.{image_words}
use Rattle.mu_top.proofs.words.read_words.Goals as goal

pub returns-then-eq : goal.returns-then-eq
returns-then-eq c =
    image_words c.args.words.now c.in_ok-word.word.now _ (sym c.in_ok-word.ensures) (rw c.as_slice.ensures at (sym c.eq.ensures ∙ c.if-eq.true)) c.image_command.ensures
