use Rattle.std.proofs.Common.{◌≡◌, ◌-◌, length, ap, arith, length-drop, length-take}
use Rattle.std.proofs.lemmas.Bool.{ltb-true, lt-ltb}
use Rattle.std.specs.Prelude.{slice_range}
use Rattle.mu_input.specs.Reading.{Reader}
use Rattle.mu_input.proofs.reader.LineReader.has_next.Goals as goal

pub returns : goal.returns
returns c =
    let r = c.self.inside in
    let len : length (slice_range r.piece r.at r.end) ≡ r.end - r.at = simp (length-take, length-drop) (omega arith) in
    let same : length (slice_range r.piece r.at r.end) ≡ length c.args.self.now.ahead = ap (λ (v : Reader). length v.ahead) c.self.view_is in
    (λ h. omega (arith, ltb-true _ _ h, len, same), λ h. lt-ltb _ _ (omega (arith, len, same, h)))
