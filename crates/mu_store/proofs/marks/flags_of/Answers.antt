use Rattle.std.proofs.Common.{false, List, Bool, length, ap, ◌∙◌, arith}
use Rattle.std.specs.Prelude.{slice_index_or}
use Rattle.mu_store.proofs.ReadLemmas.{get-no_flags, length-no_flags}
use Rattle.mu_store.proofs.marks.flags_of.Goals as goal

pub loop-i-init : goal.loop-i-init
loop-i-init c = record {
  size = ap length c.no_flags-held.ensures ∙ length-no_flags;
  marks = λ k lt. absurd (omega (arith, lt));
  past = λ k le. ap (λ (l : List Bool). slice_index_or l k false) c.no_flags-held.ensures ∙ get-no_flags k;
}
