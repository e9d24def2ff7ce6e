-- The runs, each evaluated.
use Rattle.std.specs.Prelude.{[], ◌∷◌, replicate, true, false}
use Rattle.mu_model_client_rows.specs.Scenes.{Goes, updater}
use Rattle.mu_model_client_rows.specs.RunsOfPush.{round_time, sixteen, early_moment, grouped, ungrouped, two_blocks, barren}
use Rattle.mu_model_client_rows.specs.RunsOfRest.{pull_wanted, pull_silence, pull_two, pull_blocks, pull_dropped, verifying, applied_later, nobody_verified, nobody_applies, silent_apply, confirmed_before, canceled, canceled_none, all_dropped, dropped_counts}

pub record RoundsAndChunks : Type 0 where
  pub round_time : Goes (replicate 3 0x61) (updater 1 0 3 200 10 1 true (2 ∷ [])) round_time
  pub sixteen : Goes (replicate 3 0x61) (updater 1 0 3 200 5 0 true (2 ∷ 3 ∷ 4 ∷ 5 ∷ 6 ∷ 7 ∷ 8 ∷ 9 ∷ 0xa ∷ 0xb ∷ 0xc ∷ 0xd ∷ 0xe ∷ 0xf ∷ 0x10 ∷ 0x11 ∷ 0x12 ∷ 0x13 ∷ [])) sixteen
  pub early_moment : Goes (replicate 3 0x61) (updater 1 0 3 200 5 0 true (2 ∷ [])) early_moment
  pub grouped : Goes (replicate 400 0x61) (updater 1 0xc000 400 100 5 0 true (2 ∷ 3 ∷ 4 ∷ [])) grouped
  pub ungrouped : Goes (replicate 400 0x61) (updater 1 0 400 100 5 0 true (2 ∷ 3 ∷ [])) ungrouped
  pub two_blocks : Goes (replicate 4104 0x61) (updater 1 0 4104 376 5 0 true (2 ∷ 3 ∷ [])) two_blocks
  pub barren : Goes (replicate 400 0x61) (updater 1 0 400 100 5 0 true (2 ∷ [])) barren

pub record PullAndRest : Type 0 where
  pub pull_wanted : Goes (replicate 136 0x61) (updater 2 0 136 8 5 0 true (2 ∷ [])) pull_wanted
  pub pull_silence : Goes (replicate 136 0x61) (updater 2 0 136 8 5 0 true (2 ∷ [])) pull_silence
  pub pull_two : Goes (replicate 136 0x61) (updater 2 0 136 8 5 0 true (2 ∷ 3 ∷ [])) pull_two
  pub pull_blocks : Goes (replicate 4104 0x61) (updater 2 0 4104 376 5 0 true (2 ∷ [])) pull_blocks
  pub pull_dropped : Goes (replicate 136 0x61) (updater 2 0 136 8 5 0 true (2 ∷ 3 ∷ [])) pull_dropped
  pub verifying : Goes (replicate 3 0x61) (updater 1 0 3 200 5 0 true (2 ∷ [])) verifying
  pub applied_later : Goes (replicate 3 0x61) (updater 1 0 3 200 5 0 false (2 ∷ [])) applied_later
  pub nobody_verified : Goes (replicate 3 0x61) (updater 1 0 3 200 5 0 false (2 ∷ [])) nobody_verified
  pub nobody_applies : Goes (replicate 3 0x61) (updater 1 0 3 200 5 0 true (2 ∷ 3 ∷ [])) nobody_applies
  pub silent_apply : Goes (replicate 3 0x61) (updater 1 0 3 200 5 0 true (2 ∷ 3 ∷ [])) silent_apply
  pub confirmed_before : Goes (replicate 3 0x61) (updater 1 0 3 200 5 0 true (2 ∷ [])) confirmed_before
  pub canceled : Goes (replicate 3 0x61) (updater 1 0 3 200 5 0 true (2 ∷ 3 ∷ 4 ∷ [])) canceled
  pub canceled_none : Goes (replicate 3 0x61) (updater 1 0 3 200 5 0 true (2 ∷ [])) canceled_none
  pub all_dropped : Goes (replicate 3 0x61) (updater 1 0 3 200 5 0 true (2 ∷ 3 ∷ [])) all_dropped
  pub dropped_counts : Goes (replicate 3 0x61) (updater 1 0 3 200 5 0 true (2 ∷ [])) dropped_counts
