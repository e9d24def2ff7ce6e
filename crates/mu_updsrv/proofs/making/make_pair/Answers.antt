use Rattle.std.proofs.Common.{inl}
use Rattle.mu_store.specs.Source.{IsAtEnd}
use Rattle.mu_updsrv.specs.Made.{GaveOfFirst}
use Rattle.mu_updsrv.proofs.Made.{first_none_given, first_unmade, mid_count, mid_number, mid_empty, makes_pair, second_unmade}
use Rattle.mu_updsrv.proofs.Makings.{unformatted}
use Rattle.mu_updsrv.proofs.making.make_pair.Goals as goal

pub returns-in-Err-clause-unmade : goal.returns-in-Err-clause-unmade
returns-in-Err-clause-unmade g c =
    let now = g.S.Source.left c.args.source.now in
    inl
    (unformatted g.F.Flash.seen c.runs.ensures (GaveOfFirst c.args.first now now) (IsAtEnd now) c.args.pages c.args.flash c.in-Err.fail.flash c.in-Err.fail.why c.in-Err.ensures.why (first_none_given c.args.first now)
    c.in-Err.ensures.broke)

pub returns-in-Err-filled_with_first-clause-unmade : goal.returns-in-Err-filled_with_first-clause-unmade
returns-in-Err-filled_with_first-clause-unmade g c =
    first_unmade g.F.Flash.seen c.represented_is_sound.ensures.store c.written_node.ensures.read_back c.written_node.ensures.old_read_back c.images.ensures.fit c.images.ensures.metadata c.args.pages c.requires.pages_least
    c.requires.pages_most c.args.flash c.args.first c.args.version c.args.second_version c.ranges.version.fits c.ranges.second_version.fits c.tag_of_two-tag.result c.tag_of_two-tag.ensures.tag c.in-Ok.store c.in-Ok.ensures.made
    _ _ c.in-Err-filled_with_first.fail c.in-Err-filled_with_first.ensures.unfilled

pub filled-requires-clause-there : goal.filled-requires-clause-there
filled-requires-clause-there g c =
    mid_number g.F.Flash.seen c.represented_is_sound.ensures.store c.written_node.ensures.read_back c.written_node.ensures.old_read_back c.images.ensures.fit c.images.ensures.metadata c.args.pages c.requires.pages_least
    c.requires.pages_most c.args.flash c.args.first c.args.version c.args.second_version c.ranges.version.fits c.ranges.second_version.fits c.tag_of_two-tag.result c.tag_of_two-tag.ensures.tag c.in-Ok.store c.in-Ok.ensures.made
    _ _ c.in-Ok-filled_with_first.store c.in-Ok-filled_with_first.ensures.fills

pub filled-requires-clause-is_empty : goal.filled-requires-clause-is_empty
filled-requires-clause-is_empty g c =
    mid_empty g.F.Flash.seen c.represented_is_sound.ensures.store c.written_node.ensures.read_back c.written_node.ensures.old_read_back c.images.ensures.fit c.images.ensures.metadata c.args.pages c.requires.pages_least
    c.requires.pages_most c.args.flash c.args.first c.args.version c.args.second_version c.ranges.version.fits c.ranges.second_version.fits c.tag_of_two-tag.result c.tag_of_two-tag.ensures.tag c.in-Ok.store c.in-Ok.ensures.made
    _ _ c.in-Ok-filled_with_first.store c.in-Ok-filled_with_first.ensures.fills

pub filled-requires-clause-few : goal.filled-requires-clause-few
filled-requires-clause-few g c =
    mid_count g.F.Flash.seen c.represented_is_sound.ensures.store c.written_node.ensures.read_back c.written_node.ensures.old_read_back c.images.ensures.fit c.images.ensures.metadata c.args.pages c.requires.pages_least
    c.requires.pages_most c.args.flash c.args.first c.args.version c.args.second_version c.ranges.version.fits c.ranges.second_version.fits c.tag_of_two-tag.result c.tag_of_two-tag.ensures.tag c.in-Ok.store c.in-Ok.ensures.made
    _ _ c.in-Ok-filled_with_first.store c.in-Ok-filled_with_first.ensures.fills

pub returns-in-Ok-filled-clause-makes : goal.returns-in-Ok-filled-clause-makes
returns-in-Ok-filled-clause-makes g c =
    makes_pair g.F.Flash.seen c.represented_is_sound.ensures.store c.written_node.ensures.read_back c.written_node.ensures.old_read_back c.images.ensures.fit c.images.ensures.metadata c.args.pages c.requires.pages_least
    c.requires.pages_most c.args.flash c.args.first c.args.version c.args.second_version c.ranges.version.fits c.ranges.second_version.fits c.tag_of_two-tag.result c.tag_of_two-tag.ensures.tag c.in-Ok.store c.in-Ok.ensures.made
    _ _ c.in-Ok-filled_with_first.store c.in-Ok-filled_with_first.ensures.fills _ c.in-Ok-filled.store c.into_flash.result c.into_flash.ensures c.in-Ok-filled.ensures.fills

pub returns-in-Err-filled-clause-unmade : goal.returns-in-Err-filled-clause-unmade
returns-in-Err-filled-clause-unmade g c =
    second_unmade g.F.Flash.seen c.represented_is_sound.ensures.store c.written_node.ensures.read_back c.written_node.ensures.old_read_back c.images.ensures.fit c.images.ensures.metadata c.args.pages c.requires.pages_least
    c.requires.pages_most c.args.flash c.args.first c.args.version c.args.second_version c.ranges.version.fits c.ranges.second_version.fits c.tag_of_two-tag.result c.tag_of_two-tag.ensures.tag c.in-Ok.store c.in-Ok.ensures.made
    _ _ c.in-Ok-filled_with_first.store c.in-Ok-filled_with_first.ensures.fills _ c.in-Err-filled.fail c.in-Err-filled.ensures.unfilled
