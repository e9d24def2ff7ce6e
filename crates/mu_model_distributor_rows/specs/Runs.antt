-- The runs, each evaluated.
use Rattle.mu_model_distributor_rows.specs.Scenes.{Goes, ready, of_three}
use Rattle.mu_model_distributor_rows.specs.RunsOfDistributions.{one_fails, both_fail, transfers_refused, verify_only, both_silent, says_failed_later, canceled, suspended_in_between, cut_in_transfer, cut_in_applying, cut_in_canceling, applying_already}
use Rattle.mu_model_distributor_rows.specs.RunsOfUploads.{uploaded, unfit, broken_by_time, broken_by_cut, lagging, canceled_transfer, deleted, unstarted, moment_of_another, moment_of_unread}

pub record Distributions : Type 0 where
  pub one_fails : Goes ready one_fails
  pub both_fail : Goes ready both_fail
  pub transfers_refused : Goes ready transfers_refused
  pub verify_only : Goes ready verify_only
  pub both_silent : Goes ready both_silent
  pub says_failed_later : Goes ready says_failed_later
  pub canceled : Goes ready canceled
  pub suspended_in_between : Goes ready suspended_in_between
  pub cut_in_transfer : Goes ready cut_in_transfer
  pub cut_in_applying : Goes ready cut_in_applying
  pub cut_in_canceling : Goes ready cut_in_canceling
  pub applying_already : Goes ready applying_already

pub record Uploads : Type 0 where
  pub uploaded : Goes ready uploaded
  pub unfit : Goes ready unfit
  pub broken_by_time : Goes ready broken_by_time
  pub broken_by_cut : Goes ready broken_by_cut
  pub lagging : Goes ready lagging
  pub canceled_transfer : Goes ready canceled_transfer
  pub deleted : Goes of_three deleted
  pub unstarted : Goes ready unstarted
  pub moment_of_another : Goes ready moment_of_another
  pub moment_of_unread : Goes ready moment_of_unread
