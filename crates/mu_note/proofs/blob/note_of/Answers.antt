use Rattle.std.proofs.Common.{◌≡◌, ◌∙◌, ℕ, ◌-◌, length, drop, sym, ap, arith, rules, length-drop}
use Rattle.std.proofs.lemmas.List.{take_all}
use Rattle.mu_model_flash.specs.Bits.{part_of}
use Rattle.mu_note.proofs.blob.note_of.Goals as goal

pub returns : goal.returns
unfolding part_of
returns c =
    let long : length c.args.tag.now ≡ 1792 = search rules in
    c.in-Some.ensures.cases.1.same ∙ ap (λ (n : ℕ). drop (n - 1728) c.args.tag.now) long
    ∙ sym (take_all 1728 (drop 64 c.args.tag.now) (omega (arith, long, length-drop 64 c.args.tag.now)))
