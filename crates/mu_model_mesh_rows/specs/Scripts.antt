-- Scripts, and what they print.
use Rattle.std.specs.Prelude.{[], ◌∷◌, codes}
use Rattle.mu_model_mesh_rows.specs.Scenes.{Script}

-- one node answers
abbrev pub one_node_answers : Script
one_node_answers = record {
  lines =
      codes "node 0002 0000 1 1 hex:61"
      ∷ []
      ∷ codes "# a comment"
      ∷ codes "say 0001 0002 83080001"
      ∷ codes "deliver 0 0002"
      ∷ codes "active 0002"
      ∷ [];
  printed =
      codes "sent 0 0001 0002 83080001"
      ∷ codes "sent 1 0002 0001 8309010026ffff01000000ca978112ca1bbdcafac231b39a23dc4da786eff8147c4e72b9807785afee48bb00"
      ∷ codes "active 0002 1 1 ca978112ca1bbdcafac231b39a23dc4da786eff8147c4e72b9807785afee48bb"
      ∷ [];
}

-- a whole update, message by message
abbrev pub a_whole_update : Script
a_whole_update = record {
  lines =
      codes "node 0002 0000 1 1 hex:61"
      ∷ codes "say 0001 0002 830d0500000700000000000100000300000002000000ba7816bf8f01cfea414140de5dae2223b00361a396177a9cb410ff61f20015ad"
      ∷ codes "deliver 0 0002"
      ∷ codes "say 0001 0002 8301400700000000000100030000000c7c01"
      ∷ codes "deliver 2 0002"
      ∷ codes "say 0001 0002 830400000800"
      ∷ codes "deliver 4 0002"
      ∷ codes "say 0001 0002 660000616263"
      ∷ codes "deliver 6 0002"
      ∷ codes "phase 0002"
      ∷ codes "time 0002 1"
      ∷ codes "say 0001 0002 830c"
      ∷ codes "deliver 7 0002"
      ∷ codes "say 0001 0002 830f"
      ∷ codes "deliver 9 0002"
      ∷ codes "time 0002 2"
      ∷ codes "active 0002"
      ∷ codes "phase 0002"
      ∷ [];
  printed =
      codes "sent 0 0001 0002 830d0500000700000000000100000300000002000000ba7816bf8f01cfea414140de5dae2223b00361a396177a9cb410ff61f20015ad"
      ∷ codes "sent 1 0002 0001 83104005000000070000000000010000"
      ∷ codes "sent 2 0001 0002 8301400700000000000100030000000c7c01"
      ∷ codes "sent 3 0002 0001 830340020700000000000100030000000c7c0101"
      ∷ codes "sent 4 0001 0002 830400000800"
      ∷ codes "sent 5 0002 0001 670000000800"
      ∷ codes "sent 6 0001 0002 660000616263"
      ∷ codes "phase 0002 3 4"
      ∷ codes "sent 7 0001 0002 830c"
      ∷ codes "sent 8 0002 0001 83108005000000070000000000010000"
      ∷ codes "sent 9 0001 0002 830f"
      ∷ codes "sent 10 0002 0001 8310c005000000070000000000010000"
      ∷ codes "active 0002 2 3 ba7816bf8f01cfea414140de5dae2223b00361a396177a9cb410ff61f20015ad"
      ∷ codes "phase 0002 0 0"
      ∷ [];
}

-- an empty script
abbrev pub nothing : Script
nothing = record {
  lines =
      [];
  printed =
      [];
}

-- the power goes at operation 1 of an Update Start: none of its bits are new
abbrev pub torn_erase : Script
torn_erase = record {
  lines =
      codes "node 0002 0000 1 1 hex:61"
      ∷ codes "tear 0002 1 none"
      ∷ codes "say 0001 0002 830d0500000700000000000100000300000002000000ba7816bf8f01cfea414140de5dae2223b00361a396177a9cb410ff61f20015ad"
      ∷ codes "deliver 0 0002"
      ∷ codes "active 0002"
      ∷ codes "phase 0002"
      ∷ [];
  printed =
      codes "sent 0 0001 0002 830d0500000700000000000100000300000002000000ba7816bf8f01cfea414140de5dae2223b00361a396177a9cb410ff61f20015ad"
      ∷ codes "boot 0002 2 0"
      ∷ codes "active 0002 1 1 ca978112ca1bbdcafac231b39a23dc4da786eff8147c4e72b9807785afee48bb"
      ∷ codes "phase 0002 0 0"
      ∷ [];
}

-- the power goes at operation 1 of an Update Start: all of its bits are new
abbrev pub torn_erase_all : Script
torn_erase_all = record {
  lines =
      codes "node 0002 0000 1 1 hex:61"
      ∷ codes "tear 0002 1 all"
      ∷ codes "say 0001 0002 830d0500000700000000000100000300000002000000ba7816bf8f01cfea414140de5dae2223b00361a396177a9cb410ff61f20015ad"
      ∷ codes "deliver 0 0002"
      ∷ codes "active 0002"
      ∷ codes "phase 0002"
      ∷ [];
  printed =
      codes "sent 0 0001 0002 830d0500000700000000000100000300000002000000ba7816bf8f01cfea414140de5dae2223b00361a396177a9cb410ff61f20015ad"
      ∷ codes "boot 0002 2 0"
      ∷ codes "active 0002 1 1 ca978112ca1bbdcafac231b39a23dc4da786eff8147c4e72b9807785afee48bb"
      ∷ codes "phase 0002 0 0"
      ∷ [];
}

-- the power goes at operation 2 of an Update Start: none of its bits are new
abbrev pub torn_record : Script
torn_record = record {
  lines =
      codes "node 0002 0000 1 1 hex:61"
      ∷ codes "tear 0002 2 none"
      ∷ codes "say 0001 0002 830d0500000700000000000100000300000002000000ba7816bf8f01cfea414140de5dae2223b00361a396177a9cb410ff61f20015ad"
      ∷ codes "deliver 0 0002"
      ∷ codes "active 0002"
      ∷ codes "phase 0002"
      ∷ [];
  printed =
      codes "sent 0 0001 0002 830d0500000700000000000100000300000002000000ba7816bf8f01cfea414140de5dae2223b00361a396177a9cb410ff61f20015ad"
      ∷ codes "boot 0002 2 0"
      ∷ codes "active 0002 1 1 ca978112ca1bbdcafac231b39a23dc4da786eff8147c4e72b9807785afee48bb"
      ∷ codes "phase 0002 0 0"
      ∷ [];
}

-- the power goes at operation 2 of an Update Start: all of its bits are new
abbrev pub torn_record_all : Script
torn_record_all = record {
  lines =
      codes "node 0002 0000 1 1 hex:61"
      ∷ codes "tear 0002 2 all"
      ∷ codes "say 0001 0002 830d0500000700000000000100000300000002000000ba7816bf8f01cfea414140de5dae2223b00361a396177a9cb410ff61f20015ad"
      ∷ codes "deliver 0 0002"
      ∷ codes "active 0002"
      ∷ codes "phase 0002"
      ∷ [];
  printed =
      codes "sent 0 0001 0002 830d0500000700000000000100000300000002000000ba7816bf8f01cfea414140de5dae2223b00361a396177a9cb410ff61f20015ad"
      ∷ codes "boot 0002 3 0"
      ∷ codes "active 0002 1 1 ca978112ca1bbdcafac231b39a23dc4da786eff8147c4e72b9807785afee48bb"
      ∷ codes "phase 0002 1 0"
      ∷ [];
}

-- a tear stays until an event has so many operations
abbrev pub tear_outlasts : Script
tear_outlasts = record {
  lines =
      codes "node 0002 0000 1 1 hex:61"
      ∷ codes "tear 0002 3 all"
      ∷ codes "say 0001 0002 830d0500000700000000000100000300000002000000ba7816bf8f01cfea414140de5dae2223b00361a396177a9cb410ff61f20015ad"
      ∷ codes "deliver 0 0002"
      ∷ codes "say 0001 0002 8301400700000000000100030000000c7c01"
      ∷ codes "deliver 2 0002"
      ∷ codes "say 0001 0002 830400000800"
      ∷ codes "deliver 4 0002"
      ∷ codes "say 0001 0002 660000616263"
      ∷ codes "deliver 6 0002"
      ∷ codes "phase 0002"
      ∷ codes "time 0002 1"
      ∷ [];
  printed =
      codes "sent 0 0001 0002 830d0500000700000000000100000300000002000000ba7816bf8f01cfea414140de5dae2223b00361a396177a9cb410ff61f20015ad"
      ∷ codes "sent 1 0002 0001 83104005000000070000000000010000"
      ∷ codes "sent 2 0001 0002 8301400700000000000100030000000c7c01"
      ∷ codes "sent 3 0002 0001 830340020700000000000100030000000c7c0101"
      ∷ codes "sent 4 0001 0002 830400000800"
      ∷ codes "sent 5 0002 0001 670000000800"
      ∷ codes "sent 6 0001 0002 660000616263"
      ∷ codes "boot 0002 4 1"
      ∷ codes "phase 0002 3 4"
      ∷ [];
}

-- a later tear takes its place, and a cut spends it
abbrev pub tear_replaced : Script
tear_replaced = record {
  lines =
      codes "node 0002 0000 1 1 hex:61"
      ∷ codes "tear 0002 1 none"
      ∷ codes "tear 0002 2 all"
      ∷ codes "say 0001 0002 830d0500000700000000000100000300000002000000ba7816bf8f01cfea414140de5dae2223b00361a396177a9cb410ff61f20015ad"
      ∷ codes "deliver 0 0002"
      ∷ codes "phase 0002"
      ∷ codes "tear 0002 1 none"
      ∷ codes "cut 0002"
      ∷ codes "deliver 0 0002"
      ∷ codes "phase 0002"
      ∷ [];
  printed =
      codes "sent 0 0001 0002 830d0500000700000000000100000300000002000000ba7816bf8f01cfea414140de5dae2223b00361a396177a9cb410ff61f20015ad"
      ∷ codes "boot 0002 3 0"
      ∷ codes "phase 0002 1 0"
      ∷ codes "boot 0002 3 0"
      ∷ codes "sent 1 0002 0001 83104005000000070000000000010000"
      ∷ codes "phase 0002 2 1"
      ∷ [];
}

-- torn before the record that the image is whole, and after it
abbrev pub tear_before_seal : Script
tear_before_seal = record {
  lines =
      codes "node 0002 0000 1 1 hex:61"
      ∷ codes "say 0001 0002 830d0500000700000000000100000300000002000000ba7816bf8f01cfea414140de5dae2223b00361a396177a9cb410ff61f20015ad"
      ∷ codes "deliver 0 0002"
      ∷ codes "say 0001 0002 8301400700000000000100030000000c7c01"
      ∷ codes "deliver 2 0002"
      ∷ codes "say 0001 0002 830400000800"
      ∷ codes "deliver 4 0002"
      ∷ codes "say 0001 0002 660000616263"
      ∷ codes "deliver 6 0002"
      ∷ codes "tear 0002 1 none"
      ∷ codes "time 0002 1"
      ∷ codes "phase 0002"
      ∷ codes "tear 0002 2 all"
      ∷ codes "time 0002 2"
      ∷ codes "phase 0002"
      ∷ [];
  printed =
      codes "sent 0 0001 0002 830d0500000700000000000100000300000002000000ba7816bf8f01cfea414140de5dae2223b00361a396177a9cb410ff61f20015ad"
      ∷ codes "sent 1 0002 0001 83104005000000070000000000010000"
      ∷ codes "sent 2 0001 0002 8301400700000000000100030000000c7c01"
      ∷ codes "sent 3 0002 0001 830340020700000000000100030000000c7c0101"
      ∷ codes "sent 4 0001 0002 830400000800"
      ∷ codes "sent 5 0002 0001 670000000800"
      ∷ codes "sent 6 0001 0002 660000616263"
      ∷ codes "boot 0002 4 1"
      ∷ codes "phase 0002 3 4"
      ∷ codes "boot 0002 5 0"
      ∷ codes "phase 0002 4 4"
      ∷ [];
}

-- the held blocks of a bank in filling
abbrev pub held_blocks : Script
held_blocks = record {
  lines =
      codes "node 0002 0000 2 1 hex:61"
      ∷ codes "say 0001 0002 830d05000007000000000001000008100000020000001111111111111111111111111111111111111111111111111111111111111111"
      ∷ codes "deliver 0 0002"
      ∷ codes "say 0001 0002 8301400700000000000100081000000c7c01"
      ∷ codes "deliver 2 0002"
      ∷ codes "say 0001 0002 830401000800"
      ∷ codes "deliver 4 0002"
      ∷ codes "say 0001 0002 6600006161616161616161"
      ∷ codes "deliver 6 0002"
      ∷ codes "cut 0002"
      ∷ codes "phase 0002"
      ∷ [];
  printed =
      codes "sent 0 0001 0002 830d05000007000000000001000008100000020000001111111111111111111111111111111111111111111111111111111111111111"
      ∷ codes "sent 1 0002 0001 83104005000000070000000000010000"
      ∷ codes "sent 2 0001 0002 8301400700000000000100081000000c7c01"
      ∷ codes "sent 3 0002 0001 830340020700000000000100081000000c7c0103"
      ∷ codes "sent 4 0001 0002 830401000800"
      ∷ codes "sent 5 0002 0001 670001000800"
      ∷ codes "sent 6 0001 0002 6600006161616161616161"
      ∷ codes "boot 0002 4 1"
      ∷ codes "phase 0002 1 5"
      ∷ [];
}

-- a packet that a member doesn't take
abbrev pub unread : Script
unread = record {
  lines =
      codes "node 0002 0000 1 1 hex:61"
      ∷ codes "updater 0001 0000 7 5 0 push 12 200 2 hex:616263 0002"
      ∷ codes "distributor 0003 1"
      ∷ codes "say 0009 0002 831000"
      ∷ codes "deliver 0 0002"
      ∷ codes "say 0009 0001 830c"
      ∷ codes "deliver 1 0001"
      ∷ codes "say 0009 0003 830c"
      ∷ codes "deliver 2 0003"
      ∷ codes "say 0009 0003 8319"
      ∷ codes "deliver 3 0003"
      ∷ codes "say 0009 0003 830b0000"
      ∷ codes "deliver 4 0003"
      ∷ codes "packet 3"
      ∷ [];
  printed =
      codes "sent 0 0009 0002 831000"
      ∷ codes "unread 0 0002"
      ∷ codes "sent 1 0009 0001 830c"
      ∷ codes "unread 1 0001"
      ∷ codes "sent 2 0009 0003 830c"
      ∷ codes "unread 2 0003"
      ∷ codes "sent 3 0009 0003 8319"
      ∷ codes "unread 3 0003"
      ∷ codes "sent 4 0009 0003 830b0000"
      ∷ codes "sent 3 0009 0003 8319"
      ∷ [];
}

-- a settle is a hundred milliseconds a turn, after the member's moment
abbrev pub moments : Script
moments = record {
  lines =
      codes "node 0002 0000 1 1 hex:61"
      ∷ codes "say 0001 0002 830d0500000700000000000100000300000002000000ba7816bf8f01cfea414140de5dae2223b00361a396177a9cb410ff61f20015ad"
      ∷ codes "deliver 0 0002"
      ∷ codes "time 0002 9800"
      ∷ codes "time 0002 5"
      ∷ codes "settle 1"
      ∷ codes "phase 0002"
      ∷ codes "settle 1"
      ∷ codes "phase 0002"
      ∷ [];
  printed =
      codes "sent 0 0001 0002 830d0500000700000000000100000300000002000000ba7816bf8f01cfea414140de5dae2223b00361a396177a9cb410ff61f20015ad"
      ∷ codes "sent 1 0002 0001 83104005000000070000000000010000"
      ∷ codes "phase 0002 2 1"
      ∷ codes "phase 0002 1 0"
      ∷ [];
}

-- three turns are three hundred
abbrev pub three_turns : Script
three_turns = record {
  lines =
      codes "node 0002 0000 1 1 hex:61"
      ∷ codes "say 0001 0002 830d0500000700000000000100000300000002000000ba7816bf8f01cfea414140de5dae2223b00361a396177a9cb410ff61f20015ad"
      ∷ codes "deliver 0 0002"
      ∷ codes "time 0002 9700"
      ∷ codes "settle 2"
      ∷ codes "phase 0002"
      ∷ codes "settle 1"
      ∷ codes "phase 0002"
      ∷ [];
  printed =
      codes "sent 0 0001 0002 830d0500000700000000000100000300000002000000ba7816bf8f01cfea414140de5dae2223b00361a396177a9cb410ff61f20015ad"
      ∷ codes "sent 1 0002 0001 83104005000000070000000000010000"
      ∷ codes "phase 0002 2 1"
      ∷ codes "phase 0002 1 0"
      ∷ [];
}

-- a packet comes at the member's present moment
abbrev pub present_moment : Script
present_moment = record {
  lines =
      codes "node 0002 0000 1 1 hex:61"
      ∷ codes "say 0001 0002 830d0500000700000000000100000300000002000000ba7816bf8f01cfea414140de5dae2223b00361a396177a9cb410ff61f20015ad"
      ∷ codes "deliver 0 0002"
      ∷ codes "time 0002 6000"
      ∷ codes "deliver 0 0002"
      ∷ codes "settle 99"
      ∷ codes "phase 0002"
      ∷ codes "settle 1"
      ∷ codes "phase 0002"
      ∷ [];
  printed =
      codes "sent 0 0001 0002 830d0500000700000000000100000300000002000000ba7816bf8f01cfea414140de5dae2223b00361a396177a9cb410ff61f20015ad"
      ∷ codes "sent 1 0002 0001 83104005000000070000000000010000"
      ∷ codes "sent 2 0002 0001 83104005000000070000000000010000"
      ∷ codes "phase 0002 2 1"
      ∷ codes "phase 0002 1 0"
      ∷ [];
}

-- an update by turns
abbrev pub settled : Script
settled = record {
  lines =
      codes "node 0002 0000 1 1 hex:61"
      ∷ codes "updater 0001 0000 7 5 0 push 12 200 2 hex:616263 0002"
      ∷ codes "settle 9"
      ∷ codes "rows 0001"
      ∷ codes "phase 0001"
      ∷ codes "settle 1"
      ∷ codes "rows 0001"
      ∷ codes "phase 0001"
      ∷ codes "settle 1"
      ∷ codes "phase 0001"
      ∷ codes "active 0002"
      ∷ codes "packet 0"
      ∷ [];
  printed =
      codes "sent 0 0001 0002 830a000300000002000000ba7816bf8f01cfea414140de5dae2223b00361a396177a9cb410ff61f20015ad"
      ∷ codes "sent 1 0002 0001 830b0000"
      ∷ codes "sent 2 0001 0002 830d0500000700000000000100000300000002000000ba7816bf8f01cfea414140de5dae2223b00361a396177a9cb410ff61f20015ad"
      ∷ codes "sent 3 0002 0001 83104005000000070000000000010000"
      ∷ codes "sent 4 0001 0002 8306"
      ∷ codes "sent 5 0002 0001 83070c0e00087801001000007c0103"
      ∷ codes "sent 6 0001 0002 8301400700000000000100030000000c7c01"
      ∷ codes "sent 7 0002 0001 830340020700000000000100030000000c7c0101"
      ∷ codes "sent 8 0001 0002 83040000c800"
      ∷ codes "sent 9 0002 0001 67000000c800"
      ∷ codes "sent 10 0001 0002 660000616263"
      ∷ codes "sent 11 0001 0002 8305"
      ∷ codes "sent 12 0002 0001 67400000c800"
      ∷ codes "sent 13 0001 0002 830c"
      ∷ codes "sent 14 0002 0001 83108005000000070000000000010000"
      ∷ codes "sent 15 0001 0002 830f"
      ∷ codes "sent 16 0002 0001 8310c005000000070000000000010000"
      ∷ codes "row 0002 6 0 0 100"
      ∷ codes "phase 0001 0"
      ∷ codes "sent 17 0001 0002 83080001"
      ∷ codes "sent 18 0002 0001 8309010026ffff02000000ba7816bf8f01cfea414140de5dae2223b00361a396177a9cb410ff61f20015ad00"
      ∷ codes "row 0002 8 0 0 100"
      ∷ codes "phase 0001 0"
      ∷ codes "phase 0001 1"
      ∷ codes "active 0002 2 3 ba7816bf8f01cfea414140de5dae2223b00361a396177a9cb410ff61f20015ad"
      ∷ codes "sent 0 0001 0002 830a000300000002000000ba7816bf8f01cfea414140de5dae2223b00361a396177a9cb410ff61f20015ad"
      ∷ [];
}

-- each field of an updater's line
abbrev pub another_line : Script
another_line = record {
  lines =
      codes "node 0002 c001 1 1 hex:61"
      ∷ codes "updater 0102 c001 197637 6 1 pull 13 100 4294967295 made:3:150 0002"
      ∷ codes "settle 12"
      ∷ codes "rows 0102"
      ∷ codes "phase 0102"
      ∷ [];
  printed =
      codes "sent 0 0102 0002 830a0096000000ffffffffc695ceb0b71f85051f19f35d77dcf44ed433c9db49f46d7858a599f6186af365"
      ∷ codes "sent 1 0002 0102 830b0000"
      ∷ codes "sent 2 0102 0002 830d06010005040300000002010096000000ffffffffc695ceb0b71f85051f19f35d77dcf44ed433c9db49f46d7858a599f6186af365"
      ∷ codes "sent 3 0002 0102 83104006000100050403000000020100"
      ∷ codes "sent 4 0102 0002 8306"
      ∷ codes "sent 5 0002 0102 83070c0e00087801001000007c0103"
      ∷ codes "sent 6 0102 0002 8301800504030000000201960000000d7c01"
      ∷ codes "sent 7 0002 0102 830380020504030000000201960000000d7c0101"
      ∷ codes "sent 8 0102 0002 830400006400"
      ∷ codes "sent 9 0002 0102 670000006400"
      ∷ codes "sent 10 0002 0102 680001"
      ∷ codes "sent 11 0102 c001 660000030a11181f262d343b424950575e656c737a81888f969da4abb2b9c0c7ced5dce3eaf1f8ff060d141b222930373e454c535a61686f767d848b9299a0a7aeb5bcc3cad1d8dfe6edf4fb020910171e252c333a41484f565d646b727980878e959ca3aab1b8"
      ∷ codes "sent 12 0102 c001 660100bfc6cdd4dbe2e9f0f7fe050c131a21282f363d444b525960676e757c838a91989fa6adb4bbc2c9d0d7dee5ecf3fa01080f16"
      ∷ codes "sent 13 0002 0102 68"
      ∷ codes "sent 14 0102 0002 830c"
      ∷ codes "sent 15 0002 0102 83108006000100050403000000020100"
      ∷ codes "sent 16 0102 0002 830f"
      ∷ codes "sent 17 0002 0102 8310c006000100050403000000020100"
      ∷ codes "sent 18 0102 0002 83080001"
      ∷ codes "sent 19 0002 0102 8309010026ffffffffffffc695ceb0b71f85051f19f35d77dcf44ed433c9db49f46d7858a599f6186af36500"
      ∷ codes "row 0002 8 0 0 100"
      ∷ codes "phase 0102 1"
      ∷ [];
}

-- the rounds of an updater's line: 2,000 ms for each unit of the base and two more, and 20 for each of the TTL
abbrev pub by_rounds : Script
by_rounds = record {
  lines =
      codes "updater 0102 c001 197637 6 1 pull 13 100 4294967295 made:3:150 0002"
      ∷ codes "time 0102 0"
      ∷ codes "time 0102 6119"
      ∷ codes "time 0102 6120"
      ∷ codes "packet 1"
      ∷ [];
  printed =
      codes "sent 0 0102 0002 830a0096000000ffffffffc695ceb0b71f85051f19f35d77dcf44ed433c9db49f46d7858a599f6186af365"
      ∷ codes "sent 1 0102 0002 830a0096000000ffffffffc695ceb0b71f85051f19f35d77dcf44ed433c9db49f46d7858a599f6186af365"
      ∷ codes "sent 1 0102 0002 830a0096000000ffffffffc695ceb0b71f85051f19f35d77dcf44ed433c9db49f46d7858a599f6186af365"
      ∷ [];
}

-- packets to a group come to its nodes in the script's order, and to no other member
abbrev pub grouped : Script
grouped = record {
  lines =
      codes "node 0003 c000 1 1 hex:61"
      ∷ codes "distributor 0004 1"
      ∷ codes "node 0002 c000 1 1 hex:62"
      ∷ codes "node 0005 0000 1 1 hex:63"
      ∷ codes "say 0009 c000 830c"
      ∷ codes "deliver 0 0002"
      ∷ codes "deliver 0 0003"
      ∷ codes "say 0009 0002 8306"
      ∷ codes "deliver 3 0002"
      ∷ [];
  printed =
      codes "sent 0 0009 c000 830c"
      ∷ codes "sent 1 0002 0009 831000"
      ∷ codes "sent 2 0003 0009 831000"
      ∷ codes "sent 3 0009 0002 8306"
      ∷ codes "sent 4 0002 0009 83070c0e00087801001000007c0103"
      ∷ [];
}

-- in a turn first all members have time, then packets come in the order of the bag
abbrev pub settle_to_group : Script
settle_to_group = record {
  lines =
      codes "updater 0001 c000 7 5 0 push 12 200 2 hex:616263 0003,0002"
      ∷ codes "node 0003 c000 1 1 hex:61"
      ∷ codes "node 0002 c000 1 1 hex:61"
      ∷ codes "settle 6"
      ∷ codes "phase 0002"
      ∷ codes "phase 0003"
      ∷ [];
  printed =
      codes "sent 0 0001 0003 830a000300000002000000ba7816bf8f01cfea414140de5dae2223b00361a396177a9cb410ff61f20015ad"
      ∷ codes "sent 1 0001 0002 830a000300000002000000ba7816bf8f01cfea414140de5dae2223b00361a396177a9cb410ff61f20015ad"
      ∷ codes "sent 2 0003 0001 830b0000"
      ∷ codes "sent 3 0002 0001 830b0000"
      ∷ codes "sent 4 0001 0003 830d0500000700000000000100000300000002000000ba7816bf8f01cfea414140de5dae2223b00361a396177a9cb410ff61f20015ad"
      ∷ codes "sent 5 0001 0002 830d0500000700000000000100000300000002000000ba7816bf8f01cfea414140de5dae2223b00361a396177a9cb410ff61f20015ad"
      ∷ codes "sent 6 0003 0001 83104005000000070000000000010000"
      ∷ codes "sent 7 0002 0001 83104005000000070000000000010000"
      ∷ codes "sent 8 0001 0003 8306"
      ∷ codes "sent 9 0001 0002 8306"
      ∷ codes "sent 10 0003 0001 83070c0e00087801001000007c0103"
      ∷ codes "sent 11 0002 0001 83070c0e00087801001000007c0103"
      ∷ codes "sent 12 0001 0003 8301400700000000000100030000000c7c01"
      ∷ codes "sent 13 0001 0002 8301400700000000000100030000000c7c01"
      ∷ codes "sent 14 0003 0001 830340020700000000000100030000000c7c0101"
      ∷ codes "sent 15 0002 0001 830340020700000000000100030000000c7c0101"
      ∷ codes "sent 16 0001 0003 83040000c800"
      ∷ codes "sent 17 0001 0002 83040000c800"
      ∷ codes "sent 18 0003 0001 67000000c800"
      ∷ codes "sent 19 0002 0001 67000000c800"
      ∷ codes "sent 20 0001 c000 660000616263"
      ∷ codes "phase 0002 3 4"
      ∷ codes "phase 0003 3 4"
      ∷ [];
}

-- a distribution begins, and again after a cut
abbrev pub a_distribution : Script
a_distribution = record {
  lines =
      codes "distributor 0001 1"
      ∷ codes "stock 0001 2 hex:616263"
      ∷ codes "node 0002 c000 1 1 hex:61"
      ∷ codes "say 0009 0001 8311020000"
      ∷ codes "deliver 0 0001"
      ∷ codes "say 0009 0001 8319000005000005000000c0"
      ∷ codes "deliver 2 0001"
      ∷ codes "time 0001 0"
      ∷ codes "deliver 4 0002"
      ∷ codes "deliver 5 0001"
      ∷ codes "time 0001 100"
      ∷ codes "cut 0001"
      ∷ codes "rows 0001"
      ∷ codes "phase 0001"
      ∷ codes "time 0001 100"
      ∷ [];
  printed =
      codes "sent 0 0009 0001 8311020000"
      ∷ codes "sent 1 0001 0009 8313000100"
      ∷ codes "sent 2 0009 0001 8319000005000005000000c0"
      ∷ codes "sent 3 0001 0009 831d000100c00000050000050000"
      ∷ codes "sent 4 0001 0002 830a000300000002000000ba7816bf8f01cfea414140de5dae2223b00361a396177a9cb410ff61f20015ad"
      ∷ codes "sent 5 0002 0001 830b0000"
      ∷ codes "sent 6 0001 0002 830d0500000100000000000100000300000002000000ba7816bf8f01cfea414140de5dae2223b00361a396177a9cb410ff61f20015ad"
      ∷ codes "boot 0001 4 0"
      ∷ codes "row 0002 10 0 0 0"
      ∷ codes "phase 0001 1 0"
      ∷ codes "sent 7 0001 0002 830a000300000002000000ba7816bf8f01cfea414140de5dae2223b00361a396177a9cb410ff61f20015ad"
      ∷ [];
}

-- a distribution by turns
abbrev pub distributed : Script
distributed = record {
  lines =
      codes "distributor 0001 1"
      ∷ codes "stock 0001 2 hex:616263"
      ∷ codes "node 0002 c000 1 1 hex:61"
      ∷ codes "say 0009 0001 8311020000"
      ∷ codes "deliver 0 0001"
      ∷ codes "say 0009 0001 8319000005000005000000c0"
      ∷ codes "deliver 2 0001"
      ∷ codes "settle 10"
      ∷ codes "rows 0001"
      ∷ codes "phase 0001"
      ∷ codes "settle 1"
      ∷ codes "phase 0001"
      ∷ codes "active 0002"
      ∷ [];
  printed =
      codes "sent 0 0009 0001 8311020000"
      ∷ codes "sent 1 0001 0009 8313000100"
      ∷ codes "sent 2 0009 0001 8319000005000005000000c0"
      ∷ codes "sent 3 0001 0009 831d000100c00000050000050000"
      ∷ codes "sent 4 0001 0002 830a000300000002000000ba7816bf8f01cfea414140de5dae2223b00361a396177a9cb410ff61f20015ad"
      ∷ codes "sent 5 0002 0001 830b0000"
      ∷ codes "sent 6 0001 0002 830d0500000100000000000100000300000002000000ba7816bf8f01cfea414140de5dae2223b00361a396177a9cb410ff61f20015ad"
      ∷ codes "sent 7 0002 0001 83104005000000010000000000010000"
      ∷ codes "sent 8 0001 0002 8306"
      ∷ codes "sent 9 0002 0001 83070c0e00087801001000007c0103"
      ∷ codes "sent 10 0001 0002 8301400100000000000100030000000c7c01"
      ∷ codes "sent 11 0002 0001 830340020100000000000100030000000c7c0101"
      ∷ codes "sent 12 0001 0002 83040000c800"
      ∷ codes "sent 13 0002 0001 67000000c800"
      ∷ codes "sent 14 0001 c000 660000616263"
      ∷ codes "sent 15 0001 0002 8305"
      ∷ codes "sent 16 0002 0001 67400000c800"
      ∷ codes "sent 17 0001 0002 830c"
      ∷ codes "sent 18 0002 0001 83108005000000010000000000010000"
      ∷ codes "sent 19 0001 0002 830f"
      ∷ codes "sent 20 0002 0001 8310c005000000010000000000010000"
      ∷ codes "sent 21 0001 0002 83080001"
      ∷ codes "sent 22 0002 0001 8309010026ffff02000000ba7816bf8f01cfea414140de5dae2223b00361a396177a9cb410ff61f20015ad00"
      ∷ codes "row 0002 8 0 0 100"
      ∷ codes "phase 0001 3 0"
      ∷ codes "phase 0001 4 0"
      ∷ codes "active 0002 2 3 ba7816bf8f01cfea414140de5dae2223b00361a396177a9cb410ff61f20015ad"
      ∷ [];
}

-- an upload whose power goes: its phase at once, and the held blocks of its bank
abbrev pub upload_cut : Script
upload_cut = record {
  lines =
      codes "distributor 0001 1"
      ∷ codes "say 0009 0001 831f050000070000000000090003000000280300000003000000ba7816bf8f01cfea414140de5dae2223b00361a396177a9cb410ff61f20015adffff03000000ba7816bf8f01cfea414140de5dae2223b00361a396177a9cb410ff61f20015ad"
      ∷ codes "deliver 0 0001"
      ∷ codes "phase 0001"
      ∷ codes "say 0009 0001 8301400700000000000900030000000c7c01"
      ∷ codes "deliver 2 0001"
      ∷ codes "cut 0001"
      ∷ codes "phase 0001"
      ∷ codes "say 0009 0001 831f050000070000000000090003000000280300000003000000ba7816bf8f01cfea414140de5dae2223b00361a396177a9cb410ff61f20015adffff03000000ba7816bf8f01cfea414140de5dae2223b00361a396177a9cb410ff61f20015ad"
      ∷ codes "deliver 4 0001"
      ∷ codes "phase 0001"
      ∷ codes "say 0009 0001 8301400700000000000900030000000c7c01"
      ∷ codes "deliver 6 0001"
      ∷ codes "say 0009 0001 83040000c800"
      ∷ codes "deliver 8 0001"
      ∷ codes "say 0009 0001 660000616263"
      ∷ codes "deliver 10 0001"
      ∷ codes "cut 0001"
      ∷ codes "phase 0001"
      ∷ codes "time 0001 1"
      ∷ codes "phase 0001"
      ∷ [];
  printed =
      codes "sent 0 0009 0001 831f050000070000000000090003000000280300000003000000ba7816bf8f01cfea414140de5dae2223b00361a396177a9cb410ff61f20015adffff03000000ba7816bf8f01cfea414140de5dae2223b00361a396177a9cb410ff61f20015ad"
      ∷ codes "sent 1 0001 0009 8322000100ffff03000000ba7816bf8f01cfea414140de5dae2223b00361a396177a9cb410ff61f20015ad"
      ∷ codes "phase 0001 0 1"
      ∷ codes "sent 2 0009 0001 8301400700000000000900030000000c7c01"
      ∷ codes "sent 3 0001 0009 830340020700000000000900030000000c7c0101"
      ∷ codes "boot 0001 3 0"
      ∷ codes "phase 0001 0 2"
      ∷ codes "sent 4 0009 0001 831f050000070000000000090003000000280300000003000000ba7816bf8f01cfea414140de5dae2223b00361a396177a9cb410ff61f20015adffff03000000ba7816bf8f01cfea414140de5dae2223b00361a396177a9cb410ff61f20015ad"
      ∷ codes "sent 5 0001 0009 8322000100ffff03000000ba7816bf8f01cfea414140de5dae2223b00361a396177a9cb410ff61f20015ad"
      ∷ codes "phase 0001 0 1"
      ∷ codes "sent 6 0009 0001 8301400700000000000900030000000c7c01"
      ∷ codes "sent 7 0001 0009 830340020700000000000900030000000c7c0101"
      ∷ codes "sent 8 0009 0001 83040000c800"
      ∷ codes "sent 9 0001 0009 67000000c800"
      ∷ codes "sent 10 0009 0001 660000616263"
      ∷ codes "boot 0001 3 1"
      ∷ codes "phase 0001 0 1"
      ∷ codes "phase 0001 0 3"
      ∷ [];
}

-- a tear at a distributor stays until an event has so many operations
abbrev pub distributor_torn : Script
distributor_torn = record {
  lines =
      codes "distributor 0001 1"
      ∷ codes "say 0009 0001 8311020000"
      ∷ codes "deliver 0 0001"
      ∷ codes "tear 0001 2 all"
      ∷ codes "say 0009 0001 8312"
      ∷ codes "deliver 2 0001"
      ∷ codes "deliver 0 0001"
      ∷ codes "deliver 2 0001"
      ∷ codes "rows 0001"
      ∷ codes "deliver 0 0001"
      ∷ codes "rows 0001"
      ∷ [];
  printed =
      codes "sent 0 0009 0001 8311020000"
      ∷ codes "sent 1 0001 0009 8313000100"
      ∷ codes "sent 2 0009 0001 8312"
      ∷ codes "sent 3 0001 0009 8313000000"
      ∷ codes "sent 4 0001 0009 8313000100"
      ∷ codes "sent 5 0001 0009 8313000000"
      ∷ codes "boot 0001 6 0"
      ∷ codes "row 0002 10 0 0 0"
      ∷ [];
}

-- torn in a Distribution Start
abbrev pub distributor_torn_start : Script
distributor_torn_start = record {
  lines =
      codes "distributor 0001 1"
      ∷ codes "stock 0001 2 hex:616263"
      ∷ codes "say 0009 0001 8311020000"
      ∷ codes "deliver 0 0001"
      ∷ codes "tear 0001 1 none"
      ∷ codes "say 0009 0001 8319000005000005000000c0"
      ∷ codes "deliver 2 0001"
      ∷ codes "phase 0001"
      ∷ codes "tear 0001 2 none"
      ∷ codes "deliver 2 0001"
      ∷ codes "phase 0001"
      ∷ codes "tear 0001 2 all"
      ∷ codes "deliver 2 0001"
      ∷ codes "phase 0001"
      ∷ codes "rows 0001"
      ∷ [];
  printed =
      codes "sent 0 0009 0001 8311020000"
      ∷ codes "sent 1 0001 0009 8313000100"
      ∷ codes "sent 2 0009 0001 8319000005000005000000c0"
      ∷ codes "boot 0001 3 0"
      ∷ codes "phase 0001 0 0"
      ∷ codes "boot 0001 3 0"
      ∷ codes "phase 0001 0 0"
      ∷ codes "boot 0001 4 0"
      ∷ codes "phase 0001 1 0"
      ∷ codes "row 0002 10 0 0 0"
      ∷ [];
}

-- a tear is spent where the power has gone, and by a cut
abbrev pub torn_once : Script
torn_once = record {
  lines =
      codes "node 0002 0000 1 1 hex:61"
      ∷ codes "tear 0002 1 none"
      ∷ codes "say 0001 0002 830d0500000700000000000100000300000002000000ba7816bf8f01cfea414140de5dae2223b00361a396177a9cb410ff61f20015ad"
      ∷ codes "deliver 0 0002"
      ∷ codes "deliver 0 0002"
      ∷ codes "phase 0002"
      ∷ codes "tear 0002 1 all"
      ∷ codes "cut 0002"
      ∷ codes "say 0001 0002 830e"
      ∷ codes "deliver 2 0002"
      ∷ codes "phase 0002"
      ∷ [];
  printed =
      codes "sent 0 0001 0002 830d0500000700000000000100000300000002000000ba7816bf8f01cfea414140de5dae2223b00361a396177a9cb410ff61f20015ad"
      ∷ codes "boot 0002 2 0"
      ∷ codes "sent 1 0002 0001 83104005000000070000000000010000"
      ∷ codes "phase 0002 2 1"
      ∷ codes "boot 0002 3 0"
      ∷ codes "sent 2 0001 0002 830e"
      ∷ codes "sent 3 0002 0001 831000"
      ∷ codes "phase 0002 0 0"
      ∷ [];
}

-- and so at a distributor
abbrev pub distributor_torn_once : Script
distributor_torn_once = record {
  lines =
      codes "distributor 0001 1"
      ∷ codes "tear 0001 1 none"
      ∷ codes "say 0009 0001 8311020000"
      ∷ codes "deliver 0 0001"
      ∷ codes "deliver 0 0001"
      ∷ codes "rows 0001"
      ∷ codes "tear 0001 1 all"
      ∷ codes "cut 0001"
      ∷ codes "say 0009 0001 8312"
      ∷ codes "deliver 2 0001"
      ∷ codes "rows 0001"
      ∷ [];
  printed =
      codes "sent 0 0009 0001 8311020000"
      ∷ codes "boot 0001 1 0"
      ∷ codes "sent 1 0001 0009 8313000100"
      ∷ codes "row 0002 10 0 0 0"
      ∷ codes "boot 0001 2 0"
      ∷ codes "sent 2 0009 0001 8312"
      ∷ codes "sent 3 0001 0009 8313000000"
      ∷ [];
}

-- a packet to a group comes to its members in the order of the script: so they answer
abbrev pub settle_pulled : Script
settle_pulled = record {
  lines =
      codes "updater 0001 c000 7 5 0 pull 12 200 2 hex:616263 0003,0002"
      ∷ codes "node 0003 c000 1 1 hex:61"
      ∷ codes "node 0002 c000 1 1 hex:61"
      ∷ codes "settle 7"
      ∷ codes "phase 0002"
      ∷ codes "phase 0003"
      ∷ [];
  printed =
      codes "sent 0 0001 0003 830a000300000002000000ba7816bf8f01cfea414140de5dae2223b00361a396177a9cb410ff61f20015ad"
      ∷ codes "sent 1 0001 0002 830a000300000002000000ba7816bf8f01cfea414140de5dae2223b00361a396177a9cb410ff61f20015ad"
      ∷ codes "sent 2 0003 0001 830b0000"
      ∷ codes "sent 3 0002 0001 830b0000"
      ∷ codes "sent 4 0001 0003 830d0500000700000000000100000300000002000000ba7816bf8f01cfea414140de5dae2223b00361a396177a9cb410ff61f20015ad"
      ∷ codes "sent 5 0001 0002 830d0500000700000000000100000300000002000000ba7816bf8f01cfea414140de5dae2223b00361a396177a9cb410ff61f20015ad"
      ∷ codes "sent 6 0003 0001 83104005000000070000000000010000"
      ∷ codes "sent 7 0002 0001 83104005000000070000000000010000"
      ∷ codes "sent 8 0001 0003 8306"
      ∷ codes "sent 9 0001 0002 8306"
      ∷ codes "sent 10 0003 0001 83070c0e00087801001000007c0103"
      ∷ codes "sent 11 0002 0001 83070c0e00087801001000007c0103"
      ∷ codes "sent 12 0001 0003 8301800700000000000100030000000c7c01"
      ∷ codes "sent 13 0001 0002 8301800700000000000100030000000c7c01"
      ∷ codes "sent 14 0003 0001 830380020700000000000100030000000c7c0101"
      ∷ codes "sent 15 0002 0001 830380020700000000000100030000000c7c0101"
      ∷ codes "sent 16 0001 0003 83040000c800"
      ∷ codes "sent 17 0001 0002 83040000c800"
      ∷ codes "sent 18 0003 0001 67000000c800"
      ∷ codes "sent 19 0002 0001 67000000c800"
      ∷ codes "sent 20 0003 0001 6800"
      ∷ codes "sent 21 0002 0001 6800"
      ∷ codes "sent 22 0001 c000 660000616263"
      ∷ codes "sent 23 0003 0001 68"
      ∷ codes "sent 24 0002 0001 68"
      ∷ codes "phase 0002 3 4"
      ∷ codes "phase 0003 3 4"
      ∷ [];
}

-- an empty line and a comment are no event, so member lines may stand behind them
abbrev pub silent_lines : Script
silent_lines = record {
  lines =
      codes "# a node"
      ∷ []
      ∷ codes "node 0002 0000 1 1 hex:61"
      ∷ codes "#"
      ∷ codes "node 0003 0000 1 2 hex:61"
      ∷ codes "active 0003"
      ∷ codes "# its image"
      ∷ codes "active 0002"
      ∷ [];
  printed =
      codes "active 0003 2 1 ca978112ca1bbdcafac231b39a23dc4da786eff8147c4e72b9807785afee48bb"
      ∷ codes "active 0002 1 1 ca978112ca1bbdcafac231b39a23dc4da786eff8147c4e72b9807785afee48bb"
      ∷ [];
}
