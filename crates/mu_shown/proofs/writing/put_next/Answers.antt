use Rattle.std.proofs.Common.{ap, ◌∙◌, map}
use Rattle.mu_shown.specs.Lines.{entry_text}
use Rattle.mu_shown.specs.Seen.{seen}
use Rattle.mu_shown.proofs.Told.{adds_then, adds_as}
use Rattle.mu_shown.proofs.writing.put_next.Goals as goal

pub returns : goal.returns
returns g c = adds_then c.put-comma.ensures (adds_as (ap entry_text (ap (map seen) c.as_slice.ensures.value ∙ c.entry.ensures)) c.put_entry.ensures)
