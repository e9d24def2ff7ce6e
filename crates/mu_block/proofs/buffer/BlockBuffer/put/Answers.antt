use Rattle.std.proofs.Common.{◌≡◌, ◌∙◌, ◌≤◌, ℕ, ◌*◌, ◌+◌, ◌-◌, List, Bool, true, Some, length, take, set, sym, ap, arith}
use Rattle.mu_block.specs.Buffer.{chunks_in}
use Rattle.std.specs.Prelude.{not}
use Rattle.std.specs.List.{count_by}
use Rattle.std.proofs.Math.ListN.{length-set}
use borrow.Rule.Slice.PartMut.{put_mid}
use Rattle.mu_block.proofs.Counts.{one_less, some_missing}
use Rattle.mu_block.proofs.Parts.{same_length}
use Rattle.mu_block.proofs.Views.{has_place, room_for, put_shows, one_more, same_more}
use Rattle.mu_block.proofs.buffer.BlockBuffer.put.Goals as goal

pub slice_bounds-copy_from_slice-end : goal.slice_bounds-copy_from_slice-end
slice_bounds-copy_from_slice-end c =
    let room = room_for c.self.inside.chunk_size c.self.inside.size c.self.inside.came c.self.inside.left c.self.inside.octets c.self.inside.open c.args.chunk (length c.args.octets.now) c.self.invariant
    (has_place c.self.inside.open c.self.inside.number c.self.inside.chunk_size c.self.inside.size c.self.inside.came c.self.inside.octets c.args.self.now c.args.chunk (length c.args.octets.now) c.self.view_is c.requires) in
    let fits : c.args.chunk * c.self.inside.chunk_size + length c.args.octets.now ≤ 16384 = omega (arith, room.1, c.self.invariant.size_most) in
    fits

pub insert-requires : goal.insert-requires
insert-requires c =
    let place = (has_place c.self.inside.open c.self.inside.number c.self.inside.chunk_size c.self.inside.size c.self.inside.came c.self.inside.octets c.args.self.now c.args.chunk (length c.args.octets.now) c.self.view_is c.requires) in
    place.within

pub overflow_sub-self : goal.overflow_sub-self
overflow_sub-self c =
    let place = (has_place c.self.inside.open c.self.inside.number c.self.inside.chunk_size c.self.inside.size c.self.inside.came c.self.inside.octets c.args.self.now c.args.chunk (length c.args.octets.now) c.self.view_is c.requires) in
    omega (arith, some_missing c.self.inside.came c.args.chunk place.within (sym c.contains.ensures ∙ c.if-not-contains.true), c.self.invariant.missing)

pub invariant_of-self : goal.invariant_of-self
invariant_of-self c =
    let place = (has_place c.self.inside.open c.self.inside.number c.self.inside.chunk_size c.self.inside.size c.self.inside.came c.self.inside.octets c.args.self.now c.args.chunk (length c.args.octets.now) c.self.view_is c.requires) in
    let fields = c.self.invariant in
    let room = room_for c.self.inside.chunk_size c.self.inside.size c.self.inside.came c.self.inside.left c.self.inside.octets c.self.inside.open c.args.chunk (length c.args.octets.now) c.self.invariant place in
    let less : count_by not (set c.self.inside.came c.args.chunk true) + 1 ≡ count_by not c.self.inside.came =
    one_less c.self.inside.came c.args.chunk place.within (sym c.contains.ensures ∙ c.if-not-contains.true) in
    record {
      size_least = fields.size_least;
      size_most = fields.size_most;
      chunk_least = fields.chunk_least;
      chunk_most = fields.chunk_most;
      count = ap (length {A = Bool}) c.insert.ensures ∙ length-set c.self.inside.came c.args.chunk true ∙ fields.count;
      missing = omega (arith, less, fields.missing, ap (count_by not) c.insert.ensures);
      room = same_length c.self.inside.octets c.copy_from_slice.new.self (c.args.chunk * c.self.inside.chunk_size)
          (c.args.chunk * c.self.inside.chunk_size + length c.args.octets.now - c.args.chunk * c.self.inside.chunk_size)
          (omega (arith, room.1, fields.size_most, fields.room)) (omega (arith, ap (length {A = ℕ}) c.copy_from_slice.ensures.after)) ∙ fields.room;
    }

pub returns-then-not-contains : goal.returns-then-not-contains
returns-then-not-contains c =
    let place = (has_place c.self.inside.open c.self.inside.number c.self.inside.chunk_size c.self.inside.size c.self.inside.came c.self.inside.octets c.args.self.now c.args.chunk (length c.args.octets.now) c.self.view_is c.requires) in
    let fields = c.self.invariant in
    let began : ℕ = c.args.chunk * c.self.inside.chunk_size in
    let one = one_more c.self.inside.octets c.copy_from_slice.new.self c.self.inside.came c.self.inside.size c.self.inside.chunk_size c.args.chunk
    (began + length c.args.octets.now - began) (omega (arith, fields.size_most, fields.room)) (omega (arith, fields.chunk_least)) place.within fields.count
    (ap (length {A = ℕ}) c.copy_from_slice.ensures.after ∙ place.lasts) (omega (arith, ap (length {A = ℕ}) c.copy_from_slice.ensures.after)) in
    put_shows c.self.inside.open c.self.inside.number c.self.inside.chunk_size c.self.inside.size c.self.inside.came c.insert.new.self c.self.inside.octets
    (put_mid began (began + length c.args.octets.now - began) c.self.inside.octets c.copy_from_slice.new.self) c.args.self.now c.args.chunk c.args.octets.now c.self.view_is
    (ap (chunks_in (take c.self.inside.size (put_mid began (began + length c.args.octets.now - began) c.self.inside.octets c.copy_from_slice.new.self)) c.self.inside.chunk_size)
    c.insert.ensures
    ∙ one ∙ ap (λ (p : List ℕ). set (chunks_in (take c.self.inside.size c.self.inside.octets) c.self.inside.chunk_size c.self.inside.came) c.args.chunk (Some p)) c.copy_from_slice.ensures.after)

pub returns-else-not-contains : goal.returns-else-not-contains
returns-else-not-contains c =
    let place = (has_place c.self.inside.open c.self.inside.number c.self.inside.chunk_size c.self.inside.size c.self.inside.came c.self.inside.octets c.args.self.now c.args.chunk (length c.args.octets.now) c.self.view_is c.requires) in
    let fields = c.self.invariant in
    let began : ℕ = c.args.chunk * c.self.inside.chunk_size in
    let one = one_more c.self.inside.octets c.copy_from_slice.new.self c.self.inside.came c.self.inside.size c.self.inside.chunk_size c.args.chunk
    (began + length c.args.octets.now - began) (omega (arith, fields.size_most, fields.room)) (omega (arith, fields.chunk_least)) place.within fields.count
    (ap (length {A = ℕ}) c.copy_from_slice.ensures.after ∙ place.lasts) (omega (arith, ap (length {A = ℕ}) c.copy_from_slice.ensures.after)) in
    put_shows c.self.inside.open c.self.inside.number c.self.inside.chunk_size c.self.inside.size c.self.inside.came c.self.inside.came c.self.inside.octets
    (put_mid began (began + length c.args.octets.now - began) c.self.inside.octets c.copy_from_slice.new.self) c.args.self.now c.args.chunk c.args.octets.now c.self.view_is
    (ap (chunks_in (take c.self.inside.size (put_mid began (began + length c.args.octets.now - began) c.self.inside.octets c.copy_from_slice.new.self)) c.self.inside.chunk_size)
    (sym (same_more c.self.inside.came c.args.chunk place.within (sym c.contains.ensures ∙ c.if-not-contains.false)))
    ∙ one ∙ ap (λ (p : List ℕ). set (chunks_in (take c.self.inside.size c.self.inside.octets) c.self.inside.chunk_size c.self.inside.came) c.args.chunk (Some p)) c.copy_from_slice.ensures.after)
