use Rattle.mu_updsrv.proofs.Makings.{fills_result, unfilled_result}
use Rattle.mu_updsrv.proofs.making.filled.Goals as goal

pub returns-clause-fills : goal.returns-clause-fills
returns-clause-fills g c =
    fills_result g.F.Flash.seen c.runs.ensures c.args.store (record { bank = c.args.bank; version = c.args.version; tag = c.args.tag.now }) (g.S.Source.left c.args.source.now) (g.S.Source.left c.fill_whole.new.source) c.requires.short
    c.fill_whole.result c.fill_whole.ensures.filled c.fill_whole.ensures.fresh

pub returns-clause-unfilled : goal.returns-clause-unfilled
returns-clause-unfilled g c =
    unfilled_result g.F.Flash.seen c.runs.ensures c.args.store (record { bank = c.args.bank; version = c.args.version; tag = c.args.tag.now }) (g.S.Source.left c.args.source.now) (g.S.Source.left c.fill_whole.new.source)
    c.requires.short c.fill_whole.result c.requires.few c.fill_whole.ensures.fails c.fill_whole.ensures.worn
