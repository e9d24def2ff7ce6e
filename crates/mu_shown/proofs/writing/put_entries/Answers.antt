use Rattle.std.proofs.Common.{◌<◌, ap, ◌∙◌, length, map, arith}
use Rattle.mu_shown.specs.Lines.{entry_text}
use Rattle.mu_shown.specs.Seen.{seen, list_shown}
use Rattle.mu_shown.proofs.Told.{adds_then, adds_as, joined_entries}
use Rattle.mu_shown.proofs.writing.put_entries.Goals as goal

pub returns : goal.returns
returns g c =
    let some : 0 < length (list_shown c.args.list.now) = grind (arith, c.len.ensures, c.if-len-eq0.false) in
    adds_as (joined_entries (list_shown c.args.list.now) some) (adds_then (adds_as (ap entry_text (ap (map seen) c.as_slice.ensures.value ∙ c.entry.ensures)) c.put_entry-first.ensures) c.put_more.ensures)
