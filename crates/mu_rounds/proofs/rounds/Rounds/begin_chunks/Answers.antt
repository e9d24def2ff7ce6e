use Rattle.std.proofs.Common.{◌∙◌, ◌≡◌, ◌≤◌, ◌++◌, ap, refl, subst, false, List, take, drop, length}
use Rattle.std.specs.Prelude.{IfSome}
use Rattle.mu_model_client.specs.Client.{Chunks, chunk_total}
use Rattle.mu_model_client.specs.Lists.{chunk_items, missing_of}
use Rattle.mu_model_client.specs.Going.{is_empty}
use Rattle.mu_receivers.specs.declared.slot.Slot.{Slot}
use Rattle.mu_receivers.specs.Receivers.{receivers_of}
use Rattle.mu_receivers.specs.Chunks.{rest}
use Rattle.mu_receivers.specs.Slots.{IsBegun, IsAsked}
use Rattle.mu_rounds.specs.Rounds.{chunks_left, rest_of}
use Rattle.mu_rounds.proofs.Lists.{refilled, each_written, few_held, few_written}
use Rattle.mu_rounds.proofs.Stepping.{chunks_begin, left_fits, no_messages}
use Rattle.mu_rounds.proofs.rounds.Rounds.begin_chunks.Goals as goal

pub returns-clause-goes : goal.returns-clause-goes
returns-clause-goes c =
    let p = c.args.self.now.sending in
    let b = c.args.b in
    let n = chunk_total p b in
    let olds = c.args.self.now.slots.items in
    let held = c.deref_mut.result.now in
    let begun = c.begin.new.slots in
    let same = c.deref_mut.ensures.value in
    let mid : List Slot = take (length olds) (begun ++ drop (length begun) olds) in
    let mid_few = few_written olds held begun same c.begin.ensures.each.long (c.begin.ensures.few (few_held olds held same c.requires.shape.few)) in
    let again = c.deref_mut-2.result.now in
    let asked = c.ask_missing.new.slots in
    let same2 = c.deref_mut-2.ensures.value in
    let long = c.ask_missing.ensures.each.long in
    let news : List Slot = take (length mid) (asked ++ drop (length asked) mid) in
    let there = c.deref.ensures.0 in
    let left = c.all_chunks-self.result in
    chunks_begin c.args.self.now _ mid b c.requires.shape c.requires.fits c.requires.free refl refl
    (each_written (IsBegun (Chunks b)) olds held begun same c.begin.ensures.each)
    (each_written (IsAsked missing_of) mid again asked same2 c.ask_missing.ensures.each)
    (few_written mid again asked same2 long (c.ask_missing.ensures.few (few_held mid again same2 mid_few)))
    (ap (λ (s : List Slot). rest p.group b n s 0 0) (refilled mid again asked same2 long) ∙ c.ask_missing.ensures.list p b ∙ ap (λ (s : List Slot). chunk_items p b missing_of (receivers_of s)) same2)
    (subst (λ (s : List Slot). chunks_left p s left ≡ rest p.group b n s 0 0) there c.all_chunks-self.ensures.list)
    (left_fits p c.args.self.now.purpose news b (Chunks b) left refl c.requires.fits (no_messages p c.args.self.now.purpose b news)
    c.all_chunks-self.ensures.block c.all_chunks-self.ensures.chunks
    (subst (λ (s : List Slot). IfSome left (λ l. l.at.receiver ≤ length s)) there c.all_chunks-self.ensures.receiver)
    (subst (λ (s : List Slot). IfSome left (λ l. is_empty (rest_of p s l) ≡ false)) there c.all_chunks-self.ensures.some))
    refl refl refl
