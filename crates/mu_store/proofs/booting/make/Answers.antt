use Rattle.std.proofs.Common.{◌≡◌, ◌≤◌, Bool, length, subst, rules}
use Rattle.std.specs.Prelude.{slice_index}
use Rattle.mu_model_image.specs.Pieces.{block_count}
use Rattle.mu_model_record.specs.Store.{mark_place}
use Rattle.mu_store.specs.Marks.{MarkIs}
use Rattle.mu_store.proofs.BlockPut.{few_of}
use Rattle.mu_store.proofs.FlagLemmas.{length-taken}
use Rattle.mu_store.proofs.booting.make.Goals as goal

pub invariant_of-result-in-Some-clause-few : goal.invariant_of-result-in-Some-clause-few
invariant_of-result-in-Some-clause-few g c =
    let m = c.in-Some.marks in
    let sound = rw c.in-Some.is at c.requires.sound in
    (few_of c.known.ensures) c.args.fields m.bank m.size m.log c.requires.in_range sound.0 sound.1

pub invariant_of-result-in-Some-clause-as_many : goal.invariant_of-result-in-Some-clause-as_many
invariant_of-result-in-Some-clause-as_many g c =
    let m = c.in-Some.marks in
    let sound = rw c.in-Some.is at c.requires.sound in
    let many : length m.held ≡ 256 = search rules in
    length-taken m.held (block_count m.size m.log) many ((few_of c.known.ensures) c.args.fields m.bank m.size m.log c.requires.in_range sound.0 sound.1)

pub invariant_of-result-in-Some-clause-unset : goal.invariant_of-result-in-Some-clause-unset
invariant_of-result-in-Some-clause-unset g c told i lt flag =
    let m = c.in-Some.marks in
    let are = rw c.in-Some.is at (c.requires.marks told) in
    subst (λ (x : Bool). MarkIs x (slice_index (g.F.Flash.seen c.args.flash).octets (mark_place m.bank i))) flag (are i lt)
