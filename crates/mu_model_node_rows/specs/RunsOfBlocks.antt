-- Blocks, chunks and reports.
use Rattle.std.specs.Prelude.{List, [], ◌∷◌, replicate}
use Rattle.mu_model_node_rows.specs.Scenes.{update_start, transfer_get, start_transfer, transfer_start, block_start, block_get, chunk, abc, update_status, transfer_status, transfer_status_of, block_status}
use Rattle.mu_model_node_rows.specs.Turns.{Turn, booted, waits, reports, takes, answers, sends, start_of, sized}

-- a held block that is started again becomes the last block; after a boot there is none
abbrev pub held_again : List Turn
held_again =
    answers 0 (start_of 5 0 7 (sized 8 0x10 2)) (update_status 0x40) (3 ∷ 2 ∷ 1 ∷ [])
    ∷ answers 0 (start_transfer 0x40 7 8 0x10 12 0x7c 1) (transfer_status_of 0x40 2 (8 ∷ 0x10 ∷ 0 ∷ 0 ∷ 0xc ∷ 0x7c ∷ 1 ∷ []) 3) (4 ∷ 2 ∷ 2 ∷ [])
    ∷ answers 0 (block_start 1 8 0) (block_status 0 1 8 0) (4 ∷ 2 ∷ 3 ∷ [])
    ∷ takes 0 (chunk 0 (replicate 8 0x61)) (4 ∷ 2 ∷ 2 ∷ [])
    ∷ answers 0 block_get (block_status 0x40 1 8 0) (4 ∷ 2 ∷ 2 ∷ [])
    ∷ booted (4 ∷ 1 ∷ 5 ∷ [])
    ∷ answers 0 (start_of 5 0 7 (sized 8 0x10 2)) (update_status 0x40) (4 ∷ 2 ∷ 5 ∷ [])
    ∷ answers 0 (start_transfer 0x40 7 8 0x10 12 0x7c 1) (transfer_status_of 0x40 2 (8 ∷ 0x10 ∷ 0 ∷ 0 ∷ 0xc ∷ 0x7c ∷ 1 ∷ []) 1) (4 ∷ 2 ∷ 2 ∷ [])
    ∷ answers 0 block_get (block_status 4 0 0 0) (4 ∷ 2 ∷ 2 ∷ [])
    ∷ answers 0 (block_start 1 0x64 0) (block_status 0x40 1 100 0) (4 ∷ 2 ∷ 2 ∷ [])
    ∷ answers 0 block_get (block_status 0x40 1 100 0) (4 ∷ 2 ∷ 2 ∷ [])
    ∷ []

-- a report is a list where that is shorter than the bits; another length or number of a chunk is passed over; the first octets stand
abbrev pub reports_by_length : List Turn
reports_by_length =
    answers 0 (start_of 5 0 7 (sized 8 0x10 2)) (update_status 0x40) (3 ∷ 2 ∷ 1 ∷ [])
    ∷ answers 0 (start_transfer 0x40 7 8 0x10 12 0x7c 1) (transfer_status_of 0x40 2 (8 ∷ 0x10 ∷ 0 ∷ 0 ∷ 0xc ∷ 0x7c ∷ 1 ∷ []) 3) (4 ∷ 2 ∷ 2 ∷ [])
    ∷ answers 0 (block_start 0 0x78 1) (block_status 0 0 120 1) (4 ∷ 2 ∷ 3 ∷ [])
    ∷ takes 0 (chunk 4 (replicate 376 0x61)) (4 ∷ 2 ∷ 3 ∷ [])
    ∷ answers 0 block_get (0x67 ∷ 0x80 ∷ 0 ∷ 0 ∷ 0x78 ∷ 1 ∷ 0xef ∷ 7 ∷ []) (4 ∷ 2 ∷ 3 ∷ [])
    ∷ takes 0 (chunk 4 (replicate 376 0x62)) (4 ∷ 2 ∷ 3 ∷ [])
    ∷ takes 0 (chunk 10 (replicate 376 0x61)) (4 ∷ 2 ∷ 3 ∷ [])
    ∷ takes 0 (chunk 10 (replicate 336 0x61)) (4 ∷ 2 ∷ 3 ∷ [])
    ∷ takes 0 (chunk 11 (replicate 336 0x61)) (4 ∷ 2 ∷ 3 ∷ [])
    ∷ takes 0 (chunk 0 (replicate 376 0x61)) (4 ∷ 2 ∷ 3 ∷ [])
    ∷ takes 0 (chunk 1 (replicate 376 0x61)) (4 ∷ 2 ∷ 3 ∷ [])
    ∷ takes 0 (chunk 2 (replicate 376 0x61)) (4 ∷ 2 ∷ 3 ∷ [])
    ∷ takes 0 (chunk 5 (replicate 376 0x61)) (4 ∷ 2 ∷ 3 ∷ [])
    ∷ takes 0 (chunk 6 (replicate 376 0x61)) (4 ∷ 2 ∷ 3 ∷ [])
    ∷ takes 0 (chunk 7 (replicate 376 0x61)) (4 ∷ 2 ∷ 3 ∷ [])
    ∷ takes 0 (chunk 8 (replicate 376 0x61)) (4 ∷ 2 ∷ 3 ∷ [])
    ∷ answers 0 block_get (0x67 ∷ 0x80 ∷ 0 ∷ 0 ∷ 0x78 ∷ 1 ∷ 8 ∷ 2 ∷ []) (4 ∷ 2 ∷ 3 ∷ [])
    ∷ takes 0 (chunk 3 (replicate 376 0x61)) (4 ∷ 2 ∷ 3 ∷ [])
    ∷ answers 0 block_get (0x67 ∷ 0xc0 ∷ 0 ∷ 0 ∷ 0x78 ∷ 1 ∷ 9 ∷ []) (4 ∷ 2 ∷ 3 ∷ [])
    ∷ answers 0 (block_start 0 0x78 1) (0x67 ∷ 0xc0 ∷ 0 ∷ 0 ∷ 0x78 ∷ 1 ∷ 9 ∷ []) (4 ∷ 2 ∷ 3 ∷ [])
    ∷ takes 0 (chunk 9 (replicate 376 0x61)) (4 ∷ 2 ∷ 2 ∷ [])
    ∷ answers 0 block_get (block_status 0x40 0 120 1) (4 ∷ 2 ∷ 2 ∷ [])
    ∷ answers 0 transfer_get (transfer_status_of 0x40 2 (8 ∷ 0x10 ∷ 0 ∷ 0 ∷ 0xc ∷ 0x7c ∷ 1 ∷ []) 2) (4 ∷ 2 ∷ 2 ∷ [])
    ∷ answers 0 (block_start 0 8 0) (block_status 0x40 0 8 0) (4 ∷ 2 ∷ 2 ∷ [])
    ∷ []

-- a chunk fits the client's messages: of 20 octets, 16 are left
abbrev pub smaller_messages : List Turn
smaller_messages =
    answers 0 (start_of 5 0 7 (sized 0x88 0 2)) (update_status 0x40) (3 ∷ 2 ∷ 1 ∷ [])
    ∷ answers 0 (start_transfer 0x40 7 0x88 0 12 0x14 0) (transfer_status_of 0x40 2 (0x88 ∷ 0 ∷ 0 ∷ 0 ∷ 0xc ∷ 0x14 ∷ 0 ∷ []) 1) (4 ∷ 2 ∷ 2 ∷ [])
    ∷ answers 0 (block_start 0 0x11 0) (block_status 3 0 17 0) (4 ∷ 2 ∷ 2 ∷ [])
    ∷ answers 0 (block_start 0 0x10 0) (block_status 0 0 16 0) (4 ∷ 2 ∷ 3 ∷ [])
    ∷ []

-- and at most 376 octets whatever the client takes
abbrev pub larger_messages : List Turn
larger_messages =
    answers 0 (start_of 5 0 7 (sized 0x88 0 2)) (update_status 0x40) (3 ∷ 2 ∷ 1 ∷ [])
    ∷ answers 0 (start_transfer 0x40 7 0x88 0 12 0xff 0xff) (transfer_status_of 0x40 2 (0x88 ∷ 0 ∷ 0 ∷ 0 ∷ 0xc ∷ 0xff ∷ 0xff ∷ []) 1) (4 ∷ 2 ∷ 2 ∷ [])
    ∷ answers 0 (block_start 0 0x79 1) (block_status 3 0 121 1) (4 ∷ 2 ∷ 2 ∷ [])
    ∷ answers 0 (block_start 0 0x78 1) (block_status 0 0 120 1) (4 ∷ 2 ∷ 3 ∷ [])
    ∷ []

-- the first 16 missing chunks are asked for, of the transfer's client; again once 1,000 ms have passed
abbrev pub pull_soon : List Turn
pull_soon =
    answers 0 (start_of 5 0 7 (sized 0x88 0 2)) (update_status 0x40) (3 ∷ 2 ∷ 1 ∷ [])
    ∷ sends 0 9 (start_transfer 0x80 7 0x88 0 12 0x7c 1) 9 (transfer_status_of 0x80 2 (0x88 ∷ 0 ∷ 0 ∷ 0 ∷ 0xc ∷ 0x7c ∷ 1 ∷ []) 1) (4 ∷ 2 ∷ 2 ∷ [])
    ∷ answers 0 (block_start 0 8 0) (block_status 0 0 8 0) (4 ∷ 2 ∷ 3 ∷ [])
    ∷ reports 1 9 (0x68 ∷ 0 ∷ 1 ∷ 2 ∷ 3 ∷ 4 ∷ 5 ∷ 6 ∷ 7 ∷ 8 ∷ 9 ∷ 0xa ∷ 0xb ∷ 0xc ∷ 0xd ∷ 0xe ∷ 0xf ∷ []) (4 ∷ 2 ∷ 3 ∷ [])
    ∷ waits 1000 (4 ∷ 2 ∷ 3 ∷ [])
    ∷ reports 1001 9 (0x68 ∷ 0 ∷ 1 ∷ 2 ∷ 3 ∷ 4 ∷ 5 ∷ 6 ∷ 7 ∷ 8 ∷ 9 ∷ 0xa ∷ 0xb ∷ 0xc ∷ 0xd ∷ 0xe ∷ 0xf ∷ []) (4 ∷ 2 ∷ 3 ∷ [])
    ∷ waits 2000 (4 ∷ 2 ∷ 3 ∷ [])
    ∷ reports 2001 9 (0x68 ∷ 0 ∷ 1 ∷ 2 ∷ 3 ∷ 4 ∷ 5 ∷ 6 ∷ 7 ∷ 8 ∷ 9 ∷ 0xa ∷ 0xb ∷ 0xc ∷ 0xd ∷ 0xe ∷ 0xf ∷ []) (4 ∷ 2 ∷ 3 ∷ [])
    ∷ []

-- a chunk of the last report is missing still
abbrev pub pull_some : List Turn
pull_some =
    answers 0 (start_of 5 0 7 (sized 0x88 0 2)) (update_status 0x40) (3 ∷ 2 ∷ 1 ∷ [])
    ∷ sends 0 9 (start_transfer 0x80 7 0x88 0 12 0x7c 1) 9 (transfer_status_of 0x80 2 (0x88 ∷ 0 ∷ 0 ∷ 0 ∷ 0xc ∷ 0x7c ∷ 1 ∷ []) 1) (4 ∷ 2 ∷ 2 ∷ [])
    ∷ answers 0 (block_start 0 8 0) (block_status 0 0 8 0) (4 ∷ 2 ∷ 3 ∷ [])
    ∷ reports 1 9 (0x68 ∷ 0 ∷ 1 ∷ 2 ∷ 3 ∷ 4 ∷ 5 ∷ 6 ∷ 7 ∷ 8 ∷ 9 ∷ 0xa ∷ 0xb ∷ 0xc ∷ 0xd ∷ 0xe ∷ 0xf ∷ []) (4 ∷ 2 ∷ 3 ∷ [])
    ∷ takes 1 (chunk 0 (replicate 8 0x61)) (4 ∷ 2 ∷ 3 ∷ [])
    ∷ takes 1 (chunk 1 (replicate 8 0x61)) (4 ∷ 2 ∷ 3 ∷ [])
    ∷ takes 1 (chunk 2 (replicate 8 0x61)) (4 ∷ 2 ∷ 3 ∷ [])
    ∷ takes 1 (chunk 3 (replicate 8 0x61)) (4 ∷ 2 ∷ 3 ∷ [])
    ∷ takes 1 (chunk 4 (replicate 8 0x61)) (4 ∷ 2 ∷ 3 ∷ [])
    ∷ takes 1 (chunk 5 (replicate 8 0x61)) (4 ∷ 2 ∷ 3 ∷ [])
    ∷ takes 1 (chunk 6 (replicate 8 0x61)) (4 ∷ 2 ∷ 3 ∷ [])
    ∷ takes 1 (chunk 7 (replicate 8 0x61)) (4 ∷ 2 ∷ 3 ∷ [])
    ∷ takes 1 (chunk 8 (replicate 8 0x61)) (4 ∷ 2 ∷ 3 ∷ [])
    ∷ takes 1 (chunk 9 (replicate 8 0x61)) (4 ∷ 2 ∷ 3 ∷ [])
    ∷ takes 1 (chunk 10 (replicate 8 0x61)) (4 ∷ 2 ∷ 3 ∷ [])
    ∷ takes 1 (chunk 11 (replicate 8 0x61)) (4 ∷ 2 ∷ 3 ∷ [])
    ∷ takes 1 (chunk 12 (replicate 8 0x61)) (4 ∷ 2 ∷ 3 ∷ [])
    ∷ takes 1 (chunk 13 (replicate 8 0x61)) (4 ∷ 2 ∷ 3 ∷ [])
    ∷ takes 1 (chunk 14 (replicate 8 0x61)) (4 ∷ 2 ∷ 3 ∷ [])
    ∷ waits 2 (4 ∷ 2 ∷ 3 ∷ [])
    ∷ takes 1 (chunk 16 (replicate 8 0x61)) (4 ∷ 2 ∷ 3 ∷ [])
    ∷ waits 3 (4 ∷ 2 ∷ 3 ∷ [])
    ∷ []

-- none of the last report's chunks is missing still; and at the end of the block an empty report
abbrev pub pull_next : List Turn
pull_next =
    answers 0 (start_of 5 0 7 (sized 0x88 0 2)) (update_status 0x40) (3 ∷ 2 ∷ 1 ∷ [])
    ∷ sends 0 9 (start_transfer 0x80 7 0x88 0 12 0x7c 1) 9 (transfer_status_of 0x80 2 (0x88 ∷ 0 ∷ 0 ∷ 0 ∷ 0xc ∷ 0x7c ∷ 1 ∷ []) 1) (4 ∷ 2 ∷ 2 ∷ [])
    ∷ answers 0 (block_start 0 8 0) (block_status 0 0 8 0) (4 ∷ 2 ∷ 3 ∷ [])
    ∷ reports 1 9 (0x68 ∷ 0 ∷ 1 ∷ 2 ∷ 3 ∷ 4 ∷ 5 ∷ 6 ∷ 7 ∷ 8 ∷ 9 ∷ 0xa ∷ 0xb ∷ 0xc ∷ 0xd ∷ 0xe ∷ 0xf ∷ []) (4 ∷ 2 ∷ 3 ∷ [])
    ∷ takes 1 (chunk 0 (replicate 8 0x61)) (4 ∷ 2 ∷ 3 ∷ [])
    ∷ takes 1 (chunk 1 (replicate 8 0x61)) (4 ∷ 2 ∷ 3 ∷ [])
    ∷ takes 1 (chunk 2 (replicate 8 0x61)) (4 ∷ 2 ∷ 3 ∷ [])
    ∷ takes 1 (chunk 3 (replicate 8 0x61)) (4 ∷ 2 ∷ 3 ∷ [])
    ∷ takes 1 (chunk 4 (replicate 8 0x61)) (4 ∷ 2 ∷ 3 ∷ [])
    ∷ takes 1 (chunk 5 (replicate 8 0x61)) (4 ∷ 2 ∷ 3 ∷ [])
    ∷ takes 1 (chunk 6 (replicate 8 0x61)) (4 ∷ 2 ∷ 3 ∷ [])
    ∷ takes 1 (chunk 7 (replicate 8 0x61)) (4 ∷ 2 ∷ 3 ∷ [])
    ∷ takes 1 (chunk 8 (replicate 8 0x61)) (4 ∷ 2 ∷ 3 ∷ [])
    ∷ takes 1 (chunk 9 (replicate 8 0x61)) (4 ∷ 2 ∷ 3 ∷ [])
    ∷ takes 1 (chunk 10 (replicate 8 0x61)) (4 ∷ 2 ∷ 3 ∷ [])
    ∷ takes 1 (chunk 11 (replicate 8 0x61)) (4 ∷ 2 ∷ 3 ∷ [])
    ∷ takes 1 (chunk 12 (replicate 8 0x61)) (4 ∷ 2 ∷ 3 ∷ [])
    ∷ takes 1 (chunk 13 (replicate 8 0x61)) (4 ∷ 2 ∷ 3 ∷ [])
    ∷ takes 1 (chunk 14 (replicate 8 0x61)) (4 ∷ 2 ∷ 3 ∷ [])
    ∷ takes 1 (chunk 15 (replicate 8 0x61)) (4 ∷ 2 ∷ 3 ∷ [])
    ∷ reports 2 9 (0x68 ∷ 0x10 ∷ []) (4 ∷ 2 ∷ 3 ∷ [])
    ∷ sends 1 1 (chunk 16 (replicate 8 0x61)) 9 (0x68 ∷ []) (4 ∷ 3 ∷ 4 ∷ [])
    ∷ waits 3 (5 ∷ 5 ∷ 0 ∷ [])
    ∷ []

-- the chunks that are missing by then
abbrev pub pull_part : List Turn
pull_part =
    answers 0 (start_of 5 0 7 (sized 0x88 0 2)) (update_status 0x40) (3 ∷ 2 ∷ 1 ∷ [])
    ∷ sends 0 9 (start_transfer 0x80 7 0x88 0 12 0x7c 1) 9 (transfer_status_of 0x80 2 (0x88 ∷ 0 ∷ 0 ∷ 0 ∷ 0xc ∷ 0x7c ∷ 1 ∷ []) 1) (4 ∷ 2 ∷ 2 ∷ [])
    ∷ answers 0 (block_start 0 8 0) (block_status 0 0 8 0) (4 ∷ 2 ∷ 3 ∷ [])
    ∷ reports 1 9 (0x68 ∷ 0 ∷ 1 ∷ 2 ∷ 3 ∷ 4 ∷ 5 ∷ 6 ∷ 7 ∷ 8 ∷ 9 ∷ 0xa ∷ 0xb ∷ 0xc ∷ 0xd ∷ 0xe ∷ 0xf ∷ []) (4 ∷ 2 ∷ 3 ∷ [])
    ∷ takes 1 (chunk 0 (replicate 8 0x61)) (4 ∷ 2 ∷ 3 ∷ [])
    ∷ takes 1 (chunk 3 (replicate 8 0x61)) (4 ∷ 2 ∷ 3 ∷ [])
    ∷ reports 1001 9 (0x68 ∷ 1 ∷ 2 ∷ 4 ∷ 5 ∷ 6 ∷ 7 ∷ 8 ∷ 9 ∷ 0xa ∷ 0xb ∷ 0xc ∷ 0xd ∷ 0xe ∷ 0xf ∷ 0x10 ∷ []) (4 ∷ 2 ∷ 3 ∷ [])
    ∷ []

-- a report belongs to its block
abbrev pub pull_next_block : List Turn
pull_next_block =
    answers 0 (start_of 5 0 7 (sized 8 0x10 2)) (update_status 0x40) (3 ∷ 2 ∷ 1 ∷ [])
    ∷ sends 0 9 (start_transfer 0x80 7 8 0x10 12 0x7c 1) 9 (transfer_status_of 0x80 2 (8 ∷ 0x10 ∷ 0 ∷ 0 ∷ 0xc ∷ 0x7c ∷ 1 ∷ []) 3) (4 ∷ 2 ∷ 2 ∷ [])
    ∷ answers 0 (block_start 1 8 0) (block_status 0 1 8 0) (4 ∷ 2 ∷ 3 ∷ [])
    ∷ reports 1 9 (0x68 ∷ 0 ∷ []) (4 ∷ 2 ∷ 3 ∷ [])
    ∷ sends 1 1 (chunk 0 (replicate 8 0x61)) 9 (0x68 ∷ []) (4 ∷ 2 ∷ 2 ∷ [])
    ∷ answers 1 (block_start 0 0x78 1) (block_status 0 0 120 1) (4 ∷ 2 ∷ 3 ∷ [])
    ∷ reports 2 9 (0x68 ∷ 0 ∷ 1 ∷ 2 ∷ 3 ∷ 4 ∷ 5 ∷ 6 ∷ 7 ∷ 8 ∷ 9 ∷ 0xa ∷ []) (4 ∷ 2 ∷ 3 ∷ [])
    ∷ []

-- a Transfer Start that is repeated leaves the client
abbrev pub client_stands : List Turn
client_stands =
    answers 0 (start_of 5 0 7 (sized 0x88 0 2)) (update_status 0x40) (3 ∷ 2 ∷ 1 ∷ [])
    ∷ sends 0 9 (start_transfer 0x80 7 0x88 0 12 0x7c 1) 9 (transfer_status_of 0x80 2 (0x88 ∷ 0 ∷ 0 ∷ 0 ∷ 0xc ∷ 0x7c ∷ 1 ∷ []) 1) (4 ∷ 2 ∷ 2 ∷ [])
    ∷ sends 0 5 (start_transfer 0x80 7 0x88 0 12 0x7c 1) 5 (transfer_status_of 0x80 2 (0x88 ∷ 0 ∷ 0 ∷ 0 ∷ 0xc ∷ 0x7c ∷ 1 ∷ []) 1) (4 ∷ 2 ∷ 2 ∷ [])
    ∷ answers 0 (block_start 0 8 0) (block_status 0 0 8 0) (4 ∷ 2 ∷ 3 ∷ [])
    ∷ reports 1 9 (0x68 ∷ 0 ∷ 1 ∷ 2 ∷ 3 ∷ 4 ∷ 5 ∷ 6 ∷ 7 ∷ 8 ∷ 9 ∷ 0xa ∷ 0xb ∷ 0xc ∷ 0xd ∷ 0xe ∷ 0xf ∷ []) (4 ∷ 2 ∷ 3 ∷ [])
    ∷ []

-- one that goes on after a cut makes its source the client
abbrev pub client_changes : List Turn
client_changes =
    answers 0 (start_of 5 0 7 (sized 0x88 0 2)) (update_status 0x40) (3 ∷ 2 ∷ 1 ∷ [])
    ∷ sends 0 9 (start_transfer 0x80 7 0x88 0 12 0x7c 1) 9 (transfer_status_of 0x80 2 (0x88 ∷ 0 ∷ 0 ∷ 0 ∷ 0xc ∷ 0x7c ∷ 1 ∷ []) 1) (4 ∷ 2 ∷ 2 ∷ [])
    ∷ booted (4 ∷ 1 ∷ 5 ∷ [])
    ∷ answers 0 (start_of 5 0 7 (sized 0x88 0 2)) (update_status 0x40) (4 ∷ 2 ∷ 5 ∷ [])
    ∷ sends 0 5 (start_transfer 0x80 7 0x88 0 12 0x7c 1) 5 (transfer_status_of 0x80 2 (0x88 ∷ 0 ∷ 0 ∷ 0 ∷ 0xc ∷ 0x7c ∷ 1 ∷ []) 1) (4 ∷ 2 ∷ 2 ∷ [])
    ∷ answers 0 (block_start 0 8 0) (block_status 0 0 8 0) (4 ∷ 2 ∷ 3 ∷ [])
    ∷ reports 1 5 (0x68 ∷ 0 ∷ 1 ∷ 2 ∷ 3 ∷ 4 ∷ 5 ∷ 6 ∷ 7 ∷ 8 ∷ 9 ∷ 0xa ∷ 0xb ∷ 0xc ∷ 0xd ∷ 0xe ∷ 0xf ∷ []) (4 ∷ 2 ∷ 3 ∷ [])
    ∷ []

-- Block Get once all blocks are held
abbrev pub get_in_complete : List Turn
get_in_complete =
    answers 0 update_start (update_status 0x40) (3 ∷ 2 ∷ 1 ∷ [])
    ∷ answers 0 transfer_start (transfer_status 0x40 2 1) (4 ∷ 2 ∷ 2 ∷ [])
    ∷ answers 0 (block_start 0 8 0) (block_status 0 0 8 0) (4 ∷ 2 ∷ 3 ∷ [])
    ∷ takes 0 (chunk 0 abc) (4 ∷ 3 ∷ 4 ∷ [])
    ∷ answers 0 block_get (block_status 0x40 0 8 0) (4 ∷ 3 ∷ 4 ∷ [])
    ∷ waits 0 (5 ∷ 4 ∷ 4 ∷ [])
    ∷ answers 0 block_get (block_status 0x40 0 8 0) (5 ∷ 4 ∷ 4 ∷ [])
    ∷ booted (5 ∷ 4 ∷ 4 ∷ [])
    ∷ answers 0 block_get (block_status 4 0 0 0) (5 ∷ 4 ∷ 4 ∷ [])
    ∷ []
