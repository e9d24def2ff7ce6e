use Rattle.mu_model_record.specs.declared.BankState.TheVariants.{Empty}
use Rattle.mu_model_record.specs.Store.{nothing}
use Rattle.mu_model_jobs.proofs.Places.{entry_here, content_here, entry_other, content_other, cleared_same, cleared_none}
use Rattle.mu_model_jobs.proofs.laws.banks_change.Goals as goal

pub returns : goal.returns
returns c = record {
  entry_here = entry_here;
  content_here = content_here;
  entry_other = entry_other;
  content_other = content_other;
  entry_named = λ s named tag b e. cleared_none Empty named s.present.banks b e;
  entry_unnamed = λ s named tag b e. cleared_same Empty named s.present.banks b e;
  content_unnamed = λ s named tag b e. cleared_same nothing named s.contents b e;
}
