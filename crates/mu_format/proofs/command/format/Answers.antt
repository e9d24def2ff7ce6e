use Rattle.std.proofs.Common.{◌∙◌, sym, subst}
use Rattle.mu_command_line.specs.declared.status.Status.{Status}
use Rattle.mu_format.specs.Formats.{FormatTold}
use Rattle.mu_format.proofs.Endings.{told_whole, told_part}
use Rattle.mu_format.proofs.command.format.Goals.{in-Ok, in-Err}
use Rattle.mu_format.proofs.command.format.Goals as goal

pub returns-clause-ends : goal.returns-clause-ends
returns-clause-ends g c = elim c.match-write_made.branch [
  | in-Ok w ↦ subst
      (λ (status : Status). FormatTold c.args.what (g.F.Flash.seen c.args.flash).pages (g.S.Source.left c.args.source.now) (g.S.Source.left c.make-flash.new.source) (g.K.Sink.written c.args.sink.now) (g.K.Sink.written c.write_made.new.sink) status)
      (sym (w.status-is ∙ w.status-status.ensures))
      (told_whole c.args.what (g.F.Flash.seen c.args.flash).pages c.make-flash.result.1 (g.S.Source.left c.args.source.now) (g.S.Source.left c.make-flash.new.source) (g.K.Sink.written c.args.sink.now) (g.K.Sink.written c.write_made.new.sink)
      c.make-flash.ensures.told (rw c.pages-pages.ensures at w.in-Ok.ensures.ok))
  | in-Err w ↦ subst
      (λ (status : Status). FormatTold c.args.what (g.F.Flash.seen c.args.flash).pages (g.S.Source.left c.args.source.now) (g.S.Source.left c.make-flash.new.source) (g.K.Sink.written c.args.sink.now) (g.K.Sink.written c.write_made.new.sink) status)
      (sym w.status-is)
      (told_part c.args.what (g.F.Flash.seen c.args.flash).pages c.make-flash.result.1 (g.S.Source.left c.args.source.now) (g.S.Source.left c.make-flash.new.source) (g.K.Sink.written c.args.sink.now) (g.K.Sink.written c.write_made.new.sink)
      c.make-flash.ensures.told w.in-Err.ensures.source w.in-Err.ensures.flash (rw c.pages-pages.ensures at w.in-Err.ensures.err))
]
