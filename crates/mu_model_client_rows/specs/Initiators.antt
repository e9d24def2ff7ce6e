-- The runs of initiators, each evaluated.
use Rattle.std.specs.Prelude.{true, false}
use Rattle.mu_model_client_rows.specs.Initiating.{Initiates, new, at}
use Rattle.mu_model_client_rows.specs.RunsOfInitiator.{initiates, stored_already, foreign, foreign_in_transfer, silence_3, silence_9, silence_1, silence_4, silent_last, many_rows, refused_3, refused_4, refused_5, refused_6, refused_7, refused_8, refused_9, drop_early, drop_block, drop_silent}

pub record EachInitiator : Type 0 where
  pub initiates : Initiates (new true) initiates
  pub stored_already : Initiates (new false) stored_already
  pub foreign : Initiates (new true) foreign
  pub foreign_in_transfer : Initiates (at 2) foreign_in_transfer
  pub silence_3 : Initiates (at 3) silence_3
  pub silence_9 : Initiates (at 9) silence_9
  pub silence_1 : Initiates (new true) silence_1
  pub silence_4 : Initiates (at 4) silence_4
  pub silent_last : Initiates (at 10) silent_last
  pub many_rows : Initiates (at 10) many_rows
  pub refused_3 : Initiates (at 3) refused_3
  pub refused_4 : Initiates (at 4) refused_4
  pub refused_5 : Initiates (at 5) refused_5
  pub refused_6 : Initiates (at 6) refused_6
  pub refused_7 : Initiates (at 7) refused_7
  pub refused_8 : Initiates (at 8) refused_8
  pub refused_9 : Initiates (at 9) refused_9
  pub drop_early : Initiates (at 2) drop_early
  pub drop_block : Initiates (at 2) drop_block
  pub drop_silent : Initiates (at 2) drop_silent
