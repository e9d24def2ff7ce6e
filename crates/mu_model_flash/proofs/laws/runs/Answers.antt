use Rattle.mu_model_flash.proofs.Compose.{then_ran, then_broke, broke_more, nothing, keeps_on, unchanged_on}
use Rattle.mu_model_flash.proofs.Readings.{ran_as, broke_as}
use Rattle.mu_model_flash.proofs.laws.runs.Goals as goal

pub returns : goal.returns
returns g x = record {
  join = λ a b c. record {
    ran = λ way s xs ys. then_ran (g.R.Readings.reading way) s xs ys _ _ _;
    broke = λ way s xs ys. then_broke (g.R.Readings.reading way) s xs ys _ _ _;
    keeps = keeps_on _ _ _;
    unchanged = unchanged_on _ _ _;
  };
  read = λ a b. record {
    ran = λ way other s xs t ys. ran_as (g.R.Readings.reading way) (g.R.Readings.reading other) s xs t ys _ _;
    broke = λ way other s xs t ys. broke_as (g.R.Readings.reading way) (g.R.Readings.reading other) s xs t ys _ _;
    longer = λ way s xs ys. broke_more (g.R.Readings.reading way) s xs ys _ _;
    none = λ way s. nothing (g.R.Readings.reading way) s _ _;
  };
}
