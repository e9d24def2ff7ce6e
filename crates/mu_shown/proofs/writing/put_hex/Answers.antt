use Rattle.std.proofs.Common.{◌≡◌, ◌++◌, [], List, ℕ, length, take, refl, sym, ap, ◌∙◌, append_assoc, arith}
use Rattle.std.proofs.lemmas.List.{take-append-drop}
use Rattle.hex.specs.Hex.{encode_lower, encode_with}
use Rattle.mu_shown.proofs.Told.{adds_nothing, adds_then, adds_as, hex_append, all_before}
use Rattle.mu_shown.proofs.writing.put_hex.Goals as goal

pub loop-left-init : goal.loop-left-init
unfolding encode_with
loop-left-init g c = ([], refl, adds_nothing _ _ _)

pub loop-left-preserved : goal.loop-left-preserved
loop-left-preserved g c =
    let before = c.loop-left.invariant.0 in
    let left = c.loop-left.left.now in
    let part = c.split_at.result.0.now in
    let behind = c.split_at.result.1.now in
    let whole : left ≡ part ++ behind = sym (ap (λ (t : List ℕ). t ++ behind) c.split_at.ensures.front ∙ ap (λ (t : List ℕ). take c.min.result left ++ t) c.split_at.ensures.back ∙ take-append-drop c.min.result left) in
    (before ++ part, c.loop-left.invariant.1 ∙ ap (λ (t : List ℕ). before ++ t) whole ∙ sym (append_assoc before part behind), adds_as (hex_append before part) (adds_then c.loop-left.invariant.2 (adds_as c.digits.ensures c.put-done.ensures)))

pub returns : goal.returns
returns g c =
    let none : length c.loop-left.left.now ≡ 0 = grind (arith, c.is_empty.ensures, c.loop-left-test.false) in
    adds_as (ap encode_lower (all_before c.loop-left.invariant.0 c.loop-left.left.now c.args.octets.now c.loop-left.invariant.1 none)) c.loop-left.invariant.2
