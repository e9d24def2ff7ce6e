-- Every client that a run comes to is sound, and within its bounds.
use Rattle.std.proofs.Common.{◌≡◌, List, [], ◌∷◌, refl}
use Rattle.mu_model_client.specs.Client.{Part, Place, Before, At, Verified, Ended, Client}
use Rattle.mu_model_client_laws.specs.Laws.{BeginsSound, EventsKeepSound}
use Rattle.mu_model_client_bounds.specs.Runs.{Beginning, Starts, Sends, Resumes, begun_by, Move, Hears, Waits, Applies, Cancels, applied_at, moved, run_to, IsSoundAndBounded, RunsAreBounded}
use Rattle.mu_model_client_bounds.proofs.Begins.{begins_bounded}
use Rattle.mu_model_client_bounds.proofs.Events.{events_bounded}

begins : BeginsSound → (beginning : Beginning) → IsSoundAndBounded (begun_by beginning)
begins s (Starts plan to) = record { sound = s.starts plan to; bounded = begins_bounded.starts plan to }
begins s (Sends p to) = record { sound = s.blobs p to; bounded = begins_bounded.blobs p to }
begins s (Resumes plan rows stage) = record { sound = s.resumes plan rows stage; bounded = begins_bounded.resumes plan rows stage }

module _ (s : EventsKeepSound) where
  applied : (c : Client) (place : Place) → c.place ≡ place → IsSoundAndBounded c → IsSoundAndBounded (applied_at c place)
  applied c Verified e h = record { sound = s.applies c e h.sound; bounded = events_bounded.applies c e h.bounded }
  applied c (Before step) e h = h
  applied c (At step) e h = h
  applied c (Ended part) e h = h

  stays : (c : Client) (move : Move) → IsSoundAndBounded c → IsSoundAndBounded (moved c move)
  stays c (Hears from answer now) h = record { sound = s.tells c from answer now h.sound; bounded = events_bounded.tells c from answer now h.sound h.bounded }
  stays c (Waits image now) h = record { sound = s.dues c image now h.sound; bounded = events_bounded.dues c image now h.sound h.bounded }
  stays c Applies h = applied c c.place refl h
  stays c Cancels h = record { sound = s.cancels c; bounded = events_bounded.cancels c h.bounded }

  along : (c : Client) (moves : List Move) → IsSoundAndBounded c → IsSoundAndBounded (run_to c moves)
  along c [] h = h
  along c (move ∷ moves) h = along (moved c move) moves (stays c move h)

pub runs_are_bounded : BeginsSound → EventsKeepSound → RunsAreBounded
runs_are_bounded b s beginning moves = along s (begun_by beginning) moves (begins b beginning)
