use Rattle.std.proofs.Common.{◌∙◌, ◌≡◌, ◌≤◌, ◌++◌, ap, refl, subst, false, List, take, drop, length}
use Rattle.mu_model_client.specs.Client.{Pull, Client, chunk_total}
use Rattle.mu_model_client.specs.Lists.{chunk_items, wanted_of}
use Rattle.mu_model_client.specs.Going.{is_empty}
use Rattle.mu_receivers.specs.declared.slot.Slot.{Slot}
use Rattle.mu_receivers.specs.Receivers.{receivers_of}
use Rattle.mu_receivers.specs.Chunks.{rest}
use Rattle.mu_receivers.specs.Slots.{IsUnwanting}
use Rattle.mu_rounds.specs.Rounds.{chunks_left, rest_of}
use Rattle.mu_rounds.proofs.Lists.{refilled, each_written, few_held, few_written}
use Rattle.mu_rounds.proofs.Stepping.{asked_there, wanted_begin, nothing_wanted_goes, step_fits}
use Rattle.mu_rounds.proofs.rounds.Rounds.by_wanted.Goals as goal

pub all_chunks-requires-clause-within : goal.all_chunks-requires-clause-within
all_chunks-requires-clause-within c = step_fits c.args.self.now (Pull c.args.b) c.requires.shape c.requires.at

pub by_round-requires-clause-shape : goal.by_round-requires-clause-shape
by_round-requires-clause-shape c =
    (asked_there c.args.self.now c.deref_mut.result.now c.ask_wanted.new.slots wanted_of (Pull c.args.b) c.requires.shape c.requires.at c.requires.sent c.deref_mut.ensures.value c.ask_wanted.ensures.each
    (c.ask_wanted.ensures.few (few_held c.args.self.now.slots.items c.deref_mut.result.now c.deref_mut.ensures.value c.requires.shape.few))).shape

pub by_round-requires-clause-nothing : goal.by_round-requires-clause-nothing
by_round-requires-clause-nothing c =
    ap (λ (x : Client). x.queue) (asked_there c.args.self.now c.deref_mut.result.now c.ask_wanted.new.slots wanted_of (Pull c.args.b) c.requires.shape c.requires.at c.requires.sent c.deref_mut.ensures.value c.ask_wanted.ensures.each
    (c.ask_wanted.ensures.few (few_held c.args.self.now.slots.items c.deref_mut.result.now c.deref_mut.ensures.value c.requires.shape.few))).client ∙ c.requires.nothing

pub returns-in-Some-clause-goes : goal.returns-in-Some-clause-goes
returns-in-Some-clause-goes c =
    let p = c.args.self.now.sending in
    let b = c.args.b in
    let n = chunk_total p b in
    let olds = c.args.self.now.slots.items in
    let held = c.deref_mut.result.now in
    let asked = c.ask_wanted.new.slots in
    let same = c.deref_mut.ensures.value in
    let long = c.ask_wanted.ensures.each.long in
    let mid : List Slot = take (length olds) (asked ++ drop (length asked) olds) in
    let asked_few = c.ask_wanted.ensures.few (few_held olds held same c.requires.shape.few) in
    let mid_few = few_written olds held asked same long asked_few in
    let all = asked_there c.args.self.now held asked wanted_of (Pull b) c.requires.shape c.requires.at c.requires.sent same c.ask_wanted.ensures.each asked_few in
    let there = c.deref.ensures.0 in
    let left = c.in-Some.left in
    let again = c.deref_mut-in-Some.result.now in
    let same2 = c.deref_mut-in-Some.ensures.value in
    wanted_begin c.args.self.now _ _ b left all c.requires.at refl (step_fits c.args.self.now (Pull b) c.requires.shape c.requires.at) c.requires.nothing c.requires.sent
    (ap (λ (s : List Slot). rest p.group b n s 0 0) (refilled olds held asked same long) ∙ c.ask_wanted.ensures.list p b ∙ ap (λ (s : List Slot). chunk_items p b wanted_of (receivers_of s)) same)
    (subst (λ (s : List Slot). rest_of p s left ≡ rest p.group b n s 0 0) there c.in-Some.ensures.list)
    c.in-Some.ensures.block c.in-Some.ensures.chunks
    (subst (λ (s : List Slot). left.at.receiver ≤ length s) there c.in-Some.ensures.receiver)
    (subst (λ (s : List Slot). is_empty (rest_of p s left) ≡ false) there c.in-Some.ensures.some)
    refl refl
    (each_written IsUnwanting mid again c.unwant.new.slots same2 c.unwant.ensures.each)
    (few_written mid again c.unwant.new.slots same2 c.unwant.ensures.each.long (c.unwant.ensures.few (few_held mid again same2 mid_few)))
    refl refl refl refl refl refl

pub returns-in-None-clause-goes : goal.returns-in-None-clause-goes
returns-in-None-clause-goes c =
    let p = c.args.self.now.sending in
    let b = c.args.b in
    let n = chunk_total p b in
    let olds = c.args.self.now.slots.items in
    let held = c.deref_mut.result.now in
    let asked = c.ask_wanted.new.slots in
    let same = c.deref_mut.ensures.value in
    let asked_few = c.ask_wanted.ensures.few (few_held olds held same c.requires.shape.few) in
    let all = asked_there c.args.self.now held asked wanted_of (Pull b) c.requires.shape c.requires.at c.requires.sent same c.ask_wanted.ensures.each asked_few in
    nothing_wanted_goes c.args.self.now _ _ b c.all_chunks.result all refl refl c.in-None.is
    (ap (λ (s : List Slot). rest p.group b n s 0 0) (refilled olds held asked same c.ask_wanted.ensures.each.long) ∙ c.ask_wanted.ensures.list p b ∙ ap (λ (s : List Slot). chunk_items p b wanted_of (receivers_of s)) same)
    (subst (λ (s : List Slot). chunks_left p s c.all_chunks.result ≡ rest p.group b n s 0 0) c.deref.ensures.0 c.all_chunks.ensures.list)
    c.by_round.ensures.goes
