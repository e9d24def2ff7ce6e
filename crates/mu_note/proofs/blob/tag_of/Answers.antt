use Rattle.std.proofs.Common.{◌≡◌, ◌∙◌, List, ℕ, length, drop, replicate, ap, arith, rules}
use Rattle.std.proofs.lemmas.List.{length-drop, length-replicate}
use Rattle.mu_note.proofs.Parts.{two_parts}
use Rattle.mu_note.proofs.blob.tag_of.Goals as goal

pub returns : goal.returns
returns c =
    let part : length c.blob_octets.result ≡ 64 = search rules in
    let blank : List ℕ = replicate {A = ℕ} 1792 0 in
    let rest : length (drop 64 blank) ≡ 1728 = omega (arith, length-drop 64 blank, length-replicate {A = ℕ} 1792 0) in
    two_parts c.copy_from_slice.new.self (drop 64 (replicate {A = ℕ} 1792 0)) c.copy_from_slice-2.new.self _ _ (c.copy_from_slice.ensures.after ∙ c.blob_octets.ensures) c.copy_from_slice-2.ensures.after
    (ap (length {A = ℕ}) c.copy_from_slice.ensures.after ∙ part) rest
