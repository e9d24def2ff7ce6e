-- Timeouts, cancels and starts.
use Rattle.std.specs.Prelude.{List, [], ◌∷◌, replicate}
use Rattle.mu_model_node_rows.specs.Scenes.{update_get, update_start, update_cancel, update_apply, transfer_get, start_transfer, transfer_start, transfer_cancel, block_start, block_get, chunk, abc, idle_status, status_of_job, update_status, inactive_status, waiting_status, transfer_status, transfer_status_of, block_status}
use Rattle.mu_model_node_rows.specs.Turns.{Turn, booted, waits, takes, answers, start_of, sized}

-- ten seconds without a word
abbrev pub timeout : List Turn
timeout =
    answers 0 update_start (update_status 0x40) (3 ∷ 2 ∷ 1 ∷ [])
    ∷ waits 9999 (3 ∷ 2 ∷ 1 ∷ [])
    ∷ waits 10000 (3 ∷ 1 ∷ 0 ∷ [])
    ∷ answers 10000 update_get (update_status 0x20) (3 ∷ 1 ∷ 0 ∷ [])
    ∷ answers 10000 transfer_get (inactive_status 0) (3 ∷ 1 ∷ 0 ∷ [])
    ∷ []

-- and ten more for each unit of the base
abbrev pub timeout_by_base : List Turn
timeout_by_base =
    answers 0 (start_of 5 1 7 (sized 0x88 0 2)) (status_of_job 0x40 5 1 7) (3 ∷ 2 ∷ 1 ∷ [])
    ∷ answers 0 (start_transfer 0x40 7 0x88 0 12 0x7c 1) (transfer_status_of 0x40 2 (0x88 ∷ 0 ∷ 0 ∷ 0 ∷ 0xc ∷ 0x7c ∷ 1 ∷ []) 1) (4 ∷ 2 ∷ 2 ∷ [])
    ∷ answers 0 (block_start 0 8 0) (block_status 0 0 8 0) (4 ∷ 2 ∷ 3 ∷ [])
    ∷ waits 19999 (4 ∷ 2 ∷ 3 ∷ [])
    ∷ waits 20000 (4 ∷ 1 ∷ 5 ∷ [])
    ∷ answers 20000 block_get (block_status 4 0 0 0) (4 ∷ 1 ∷ 5 ∷ [])
    ∷ answers 20000 (start_of 5 1 7 (sized 0x88 0 2)) (status_of_job 0x40 5 1 7) (4 ∷ 2 ∷ 5 ∷ [])
    ∷ answers 20000 (start_transfer 0x40 7 0x88 0 12 0x7c 1) (transfer_status_of 0x40 2 (0x88 ∷ 0 ∷ 0 ∷ 0 ∷ 0xc ∷ 0x7c ∷ 1 ∷ []) 1) (4 ∷ 2 ∷ 2 ∷ [])
    ∷ answers 20000 block_get (block_status 4 0 0 0) (4 ∷ 2 ∷ 2 ∷ [])
    ∷ []

-- a link that is cut forgets the last block
abbrev pub timeout_forgets : List Turn
timeout_forgets =
    answers 0 (start_of 5 0 7 (sized 8 0x10 2)) (update_status 0x40) (3 ∷ 2 ∷ 1 ∷ [])
    ∷ answers 0 (start_transfer 0x40 7 8 0x10 12 0x7c 1) (transfer_status_of 0x40 2 (8 ∷ 0x10 ∷ 0 ∷ 0 ∷ 0xc ∷ 0x7c ∷ 1 ∷ []) 3) (4 ∷ 2 ∷ 2 ∷ [])
    ∷ answers 0 (block_start 1 8 0) (block_status 0 1 8 0) (4 ∷ 2 ∷ 3 ∷ [])
    ∷ takes 0 (chunk 0 (replicate 8 0x61)) (4 ∷ 2 ∷ 2 ∷ [])
    ∷ answers 0 block_get (block_status 0x40 1 8 0) (4 ∷ 2 ∷ 2 ∷ [])
    ∷ waits 10000 (4 ∷ 1 ∷ 5 ∷ [])
    ∷ answers 10000 (start_of 5 0 7 (sized 8 0x10 2)) (update_status 0x40) (4 ∷ 2 ∷ 5 ∷ [])
    ∷ answers 10000 (start_transfer 0x40 7 8 0x10 12 0x7c 1) (transfer_status_of 0x40 2 (8 ∷ 0x10 ∷ 0 ∷ 0 ∷ 0xc ∷ 0x7c ∷ 1 ∷ []) 1) (4 ∷ 2 ∷ 2 ∷ [])
    ∷ answers 10000 block_get (block_status 4 0 0 0) (4 ∷ 2 ∷ 2 ∷ [])
    ∷ []

-- from the last word on; Update Get, Transfer Get and a refusal are none
abbrev pub timeout_from_last : List Turn
timeout_from_last =
    answers 0 update_start (update_status 0x40) (3 ∷ 2 ∷ 1 ∷ [])
    ∷ answers 0 transfer_start (transfer_status 0x40 2 1) (4 ∷ 2 ∷ 2 ∷ [])
    ∷ answers 5000 (block_start 0 8 0) (block_status 0 0 8 0) (4 ∷ 2 ∷ 3 ∷ [])
    ∷ answers 9000 update_get (update_status 0x40) (4 ∷ 2 ∷ 3 ∷ [])
    ∷ answers 9000 transfer_get (transfer_status 0x40 3 1) (4 ∷ 2 ∷ 3 ∷ [])
    ∷ answers 9000 (block_start 0 9 0) (block_status 4 0 9 0) (4 ∷ 2 ∷ 3 ∷ [])
    ∷ waits 14999 (4 ∷ 2 ∷ 3 ∷ [])
    ∷ waits 15000 (4 ∷ 1 ∷ 5 ∷ [])
    ∷ []

-- a moment that is smaller than the last one counts as that
abbrev pub earlier_moment : List Turn
earlier_moment =
    answers 5000 update_start (update_status 0x40) (3 ∷ 2 ∷ 1 ∷ [])
    ∷ answers 3000 update_start (update_status 0x40) (3 ∷ 2 ∷ 1 ∷ [])
    ∷ waits 14999 (3 ∷ 2 ∷ 1 ∷ [])
    ∷ waits 4 (3 ∷ 2 ∷ 1 ∷ [])
    ∷ waits 15000 (3 ∷ 1 ∷ 0 ∷ [])
    ∷ []

-- a transfer without parameters is canceled without a record
abbrev pub cancel_unbegun : List Turn
cancel_unbegun =
    answers 0 update_start (update_status 0x40) (3 ∷ 2 ∷ 1 ∷ [])
    ∷ answers 0 (transfer_cancel 8) (waiting_status 6) (3 ∷ 2 ∷ 1 ∷ [])
    ∷ answers 0 (transfer_cancel 7) (inactive_status 0) (3 ∷ 1 ∷ 0 ∷ [])
    ∷ answers 0 update_get (update_status 0x20) (3 ∷ 1 ∷ 0 ∷ [])
    ∷ answers 0 transfer_get (inactive_status 0) (3 ∷ 1 ∷ 0 ∷ [])
    ∷ answers 0 (transfer_cancel 7) (inactive_status 0) (3 ∷ 1 ∷ 0 ∷ [])
    ∷ answers 0 update_start (update_status 0x40) (3 ∷ 2 ∷ 1 ∷ [])
    ∷ answers 0 transfer_start (transfer_status 0x40 2 1) (4 ∷ 2 ∷ 2 ∷ [])
    ∷ []

-- and one with parameters in a record; its blocks go
abbrev pub cancel_begun : List Turn
cancel_begun =
    answers 0 (start_of 5 0 7 (sized 8 0x10 2)) (update_status 0x40) (3 ∷ 2 ∷ 1 ∷ [])
    ∷ answers 0 (start_transfer 0x40 7 8 0x10 12 0x7c 1) (transfer_status_of 0x40 2 (8 ∷ 0x10 ∷ 0 ∷ 0 ∷ 0xc ∷ 0x7c ∷ 1 ∷ []) 3) (4 ∷ 2 ∷ 2 ∷ [])
    ∷ answers 0 (block_start 1 8 0) (block_status 0 1 8 0) (4 ∷ 2 ∷ 3 ∷ [])
    ∷ takes 0 (chunk 0 (replicate 8 0x61)) (4 ∷ 2 ∷ 2 ∷ [])
    ∷ answers 0 (transfer_cancel 7) (inactive_status 0) (5 ∷ 1 ∷ 0 ∷ [])
    ∷ answers 0 block_get (block_status 4 0 0 0) (5 ∷ 1 ∷ 0 ∷ [])
    ∷ answers 0 update_get (update_status 0x20) (5 ∷ 1 ∷ 0 ∷ [])
    ∷ answers 0 (start_of 5 0 7 (sized 8 0x10 2)) (update_status 0x40) (5 ∷ 2 ∷ 1 ∷ [])
    ∷ answers 0 (start_transfer 0x40 7 8 0x10 12 0x7c 1) (transfer_status_of 0x40 2 (8 ∷ 0x10 ∷ 0 ∷ 0 ∷ 0xc ∷ 0x7c ∷ 1 ∷ []) 3) (6 ∷ 2 ∷ 2 ∷ [])
    ∷ []

-- a boot between the last block and the verification
abbrev pub whole_after_a_cut : List Turn
whole_after_a_cut =
    answers 0 update_start (update_status 0x40) (3 ∷ 2 ∷ 1 ∷ [])
    ∷ answers 0 transfer_start (transfer_status 0x40 2 1) (4 ∷ 2 ∷ 2 ∷ [])
    ∷ answers 0 (block_start 0 8 0) (block_status 0 0 8 0) (4 ∷ 2 ∷ 3 ∷ [])
    ∷ takes 0 (chunk 0 abc) (4 ∷ 3 ∷ 4 ∷ [])
    ∷ booted (4 ∷ 3 ∷ 4 ∷ [])
    ∷ waits 0 (5 ∷ 4 ∷ 4 ∷ [])
    ∷ answers 0 update_apply (update_status 0xc0) (6 ∷ 6 ∷ 4 ∷ [])
    ∷ booted (6 ∷ 6 ∷ 4 ∷ [])
    ∷ answers 0 update_get (update_status 0xc0) (6 ∷ 6 ∷ 4 ∷ [])
    ∷ waits 0 (7 ∷ 0 ∷ 0 ∷ [])
    ∷ answers 0 update_get (idle_status 0) (7 ∷ 0 ∷ 0 ∷ [])
    ∷ []

-- an Update Cancel in each part of an update
abbrev pub cancels : List Turn
cancels =
    answers 0 update_start (update_status 0x40) (3 ∷ 2 ∷ 1 ∷ [])
    ∷ answers 0 update_cancel (idle_status 0) (4 ∷ 0 ∷ 0 ∷ [])
    ∷ answers 0 update_start (update_status 0x40) (5 ∷ 2 ∷ 1 ∷ [])
    ∷ answers 0 transfer_start (transfer_status 0x40 2 1) (6 ∷ 2 ∷ 2 ∷ [])
    ∷ answers 0 update_cancel (idle_status 0) (7 ∷ 0 ∷ 0 ∷ [])
    ∷ answers 0 transfer_get (inactive_status 0) (7 ∷ 0 ∷ 0 ∷ [])
    ∷ answers 0 update_start (update_status 0x40) (8 ∷ 2 ∷ 1 ∷ [])
    ∷ answers 0 transfer_start (transfer_status 0x40 2 1) (9 ∷ 2 ∷ 2 ∷ [])
    ∷ answers 0 (block_start 0 8 0) (block_status 0 0 8 0) (9 ∷ 2 ∷ 3 ∷ [])
    ∷ answers 0 update_cancel (idle_status 0) (10 ∷ 0 ∷ 0 ∷ [])
    ∷ answers 0 block_get (block_status 4 0 0 0) (10 ∷ 0 ∷ 0 ∷ [])
    ∷ []

-- in Transfer Error another update takes the job's place
abbrev pub another_start : List Turn
another_start =
    answers 0 update_start (update_status 0x40) (3 ∷ 2 ∷ 1 ∷ [])
    ∷ answers 0 transfer_start (transfer_status 0x40 2 1) (4 ∷ 2 ∷ 2 ∷ [])
    ∷ booted (4 ∷ 1 ∷ 5 ∷ [])
    ∷ answers 0 (start_of 5 0 8 (sized 0x88 0 2)) (status_of_job 0x40 5 0 8) (5 ∷ 2 ∷ 1 ∷ [])
    ∷ answers 0 update_get (status_of_job 0x40 5 0 8) (5 ∷ 2 ∷ 1 ∷ [])
    ∷ answers 0 transfer_get (0x83 ∷ 3 ∷ 0 ∷ 1 ∷ 8 ∷ 0 ∷ 0 ∷ 0 ∷ 0 ∷ 0 ∷ 1 ∷ 0 ∷ []) (5 ∷ 2 ∷ 1 ∷ [])
    ∷ answers 0 (start_transfer 0x40 8 0x88 0 12 0x7c 1) (0x83 ∷ 3 ∷ 0x40 ∷ 2 ∷ 8 ∷ 0 ∷ 0 ∷ 0 ∷ 0 ∷ 0 ∷ 1 ∷ 0 ∷ 0x88 ∷ 0 ∷ 0 ∷ 0 ∷ 0xc ∷ 0x7c ∷ 1 ∷ 1 ∷ []) (6 ∷ 2 ∷ 2 ∷ [])
    ∷ []
