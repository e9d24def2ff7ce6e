use Rattle.mu_store.specs.Source.{Gave, IsAtEnd}
use Rattle.mu_updsrv.proofs.Made.{gave_none, makes_node, node_unmade}
use Rattle.mu_updsrv.proofs.Makings.{unformatted}
use Rattle.mu_updsrv.proofs.making.made.Goals as goal

pub returns-in-Err-clause-unmade : goal.returns-in-Err-clause-unmade
returns-in-Err-clause-unmade g c =
    let now = g.S.Source.left c.args.source.now in
    unformatted g.F.Flash.seen c.runs.ensures (Gave now now) (IsAtEnd now) c.args.pages c.args.flash c.in-Err.fail.flash c.in-Err.fail.why c.in-Err.ensures.why (gave_none now) c.in-Err.ensures.broke

pub returns-in-Ok-filled-clause-makes : goal.returns-in-Ok-filled-clause-makes
returns-in-Ok-filled-clause-makes g c =
    makes_node g.F.Flash.seen c.represented_is_sound.ensures.store c.written_node.ensures.read_back c.written_node.ensures.old_read_back c.images.ensures.fit c.images.ensures.metadata c.args.pages c.requires.pages_least c.requires.pages_most
    c.args.flash c.args.version c.ranges.version.fits c.args.tag.now c.requires.tag c.in-Ok.store c.in-Ok.ensures.made _ _ c.in-Ok-filled.store c.into_flash.result c.into_flash.ensures c.in-Ok-filled.ensures.fills

pub returns-in-Err-filled-clause-unmade : goal.returns-in-Err-filled-clause-unmade
returns-in-Err-filled-clause-unmade g c =
    node_unmade g.F.Flash.seen c.represented_is_sound.ensures.store c.written_node.ensures.read_back c.written_node.ensures.old_read_back c.images.ensures.fit c.images.ensures.metadata c.args.pages c.requires.pages_least
    c.requires.pages_most c.args.flash c.args.version c.ranges.version.fits c.args.tag.now c.requires.tag c.in-Ok.store c.in-Ok.ensures.made _ _ c.in-Err-filled.fail c.in-Err-filled.ensures.unfilled
