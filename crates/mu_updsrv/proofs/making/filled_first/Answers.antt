use Rattle.std.proofs.Common.{sym, ◌∙◌, ap}
use Rattle.mu_updsrv.proofs.Made.{first_filled, first_unfilled}
use Rattle.mu_updsrv.proofs.Openings.{left_first, left_then}
use Rattle.mu_updsrv.proofs.making.filled_first.Goals as goal

pub returns-clause-fills : goal.returns-clause-fills
returns-clause-fills g c =
    let octets = c.filled-result.new.source in
    rw (c.requires.start, c.back.ensures)
    (first_filled g.F.Flash.seen c.args.first octets.counted.given (rw (c.requires.limit ∙ sym octets.limit) octets.within) g.N.Opening.start (g.S.Source.left octets.counted.source) octets.rest c.args.store
    (record { bank = 0; version = c.args.version; tag = c.args.tag.now }) _ _
    (left_first c.new-octets.result.most c.args.first c.new-octets.result.counted.given (g.S.Source.left c.new-octets.result.counted.source) g.N.Opening.start c.new-octets.ensures.most c.new-octets.ensures.given
    (ap g.S.Source.left c.new-octets.ensures.source ∙ c.requires.start))
    (left_then octets.most c.args.first octets.counted.given (g.S.Source.left octets.counted.source) (octets.limit ∙ sym c.requires.limit))
    c.filled-result.result c.filled-result.ensures.fills)

pub returns-clause-unfilled : goal.returns-clause-unfilled
returns-clause-unfilled g c =
    let octets = c.filled-result.new.source in
    rw (c.requires.start, c.back.ensures)
    (first_unfilled g.F.Flash.seen c.args.first octets.counted.given (rw (c.requires.limit ∙ sym octets.limit) octets.within) g.N.Opening.start (g.S.Source.left octets.counted.source) octets.rest c.args.store
    (record { bank = 0; version = c.args.version; tag = c.args.tag.now }) _ _
    (left_first c.new-octets.result.most c.args.first c.new-octets.result.counted.given (g.S.Source.left c.new-octets.result.counted.source) g.N.Opening.start c.new-octets.ensures.most c.new-octets.ensures.given
    (ap g.S.Source.left c.new-octets.ensures.source ∙ c.requires.start))
    (left_then octets.most c.args.first octets.counted.given (g.S.Source.left octets.counted.source) (octets.limit ∙ sym c.requires.limit))
    c.requires.some c.filled-result.result c.filled-result.ensures.unfilled)
