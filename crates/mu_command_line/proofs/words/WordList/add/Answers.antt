use Rattle.std.proofs.Common.{◌<◌, ◌≤◌, ◌+◌, length, inl, inr, sym, arith}
use Rattle.mu_command_line.proofs.WordLists.{with_word-room, with_word-none, was_taken, was_short, was_too_long}
use Rattle.mu_command_line.proofs.words.WordList.add.Goals as goal

pub returns-then-is_full : goal.returns-then-is_full
returns-then-is_full c =
    let full : 32 ≤ length c.self.inside.lengths.items = grind (arith, c.if-is_full.ensures.value) in
    rw (← c.self.view_is) (sym (with_word-none c.self.inside.overfull c.self.inside.lengths.items c.self.inside.octets.items c.args.word.now c.self.invariant (inl full)))

pub returns-then-is_err : goal.returns-then-is_err
returns-then-is_err c =
    let long : 8192 < length c.self.inside.octets.items + length c.args.word.now = rw c.as_bytes-octets.ensures.value at (was_too_long c.try_extend_from_slice.result _ _ c.if-is_err.ensures.value c.try_extend_from_slice.ensures.variant) in
    rw (← c.self.view_is) (sym (with_word-none c.self.inside.overfull c.self.inside.lengths.items c.self.inside.octets.items c.args.word.now c.self.invariant (inr long)))

pub returns : goal.returns
returns c =
    let bytes = c.as_bytes-octets.ensures.value in
    let octets = was_taken c.try_extend_from_slice.result c.if-is_err.ensures.value c.try_extend_from_slice.ensures.ok in
    let small = rw bytes at (was_short c.try_extend_from_slice.result c.if-is_err.ensures.value c.try_extend_from_slice.ensures.variant) in
    let few : length c.self.inside.lengths.items < 32 = grind (arith, c.if-is_full.ensures.value, c.if-is_full.ensures.fits) in
    rw (c.push.ensures.items, octets, bytes, ← c.self.view_is) (sym (with_word-room c.self.inside.overfull c.self.inside.lengths.items c.self.inside.octets.items c.args.word.now c.self.invariant few small))
