-- Scripts that come to Apply Success, and what they print.
use Rattle.std.specs.Prelude.{[], ◌∷◌, codes}
use Rattle.mu_model_mesh_rows.specs.Scenes.{Script}

-- the power of a distributor goes after the chunks; it asks anew, sends no chunk again, and a Receivers List on the air shows Apply Success
abbrev pub list_shows_success : Script
list_shows_success = record {
  lines =
      codes "distributor 0001 1"
      ∷ codes "stock 0001 2 hex:616263"
      ∷ codes "node 0002 c000 1 1 hex:61"
      ∷ codes "say 0009 0001 8311020000"
      ∷ codes "deliver 0 0001"
      ∷ codes "say 0009 0001 8319000005000005000000c0"
      ∷ codes "deliver 2 0001"
      ∷ codes "settle 6"
      ∷ codes "cut 0001"
      ∷ codes "settle 8"
      ∷ codes "phase 0001"
      ∷ codes "say 0009 0001 831400000100"
      ∷ codes "deliver 29 0001"
      ∷ [];
  printed =
      codes "sent 0 0009 0001 8311020000"
      ∷ codes "sent 1 0001 0009 8313000100"
      ∷ codes "sent 2 0009 0001 8319000005000005000000c0"
      ∷ codes "sent 3 0001 0009 831d000100c00000050000050000"
      ∷ codes "sent 4 0001 0002 830a000300000002000000ba7816bf8f01cfea414140de5dae2223b00361a396177a9cb410ff61f20015ad"
      ∷ codes "sent 5 0002 0001 830b0000"
      ∷ codes "sent 6 0001 0002 830d0500000100000000000100000300000002000000ba7816bf8f01cfea414140de5dae2223b00361a396177a9cb410ff61f20015ad"
      ∷ codes "sent 7 0002 0001 83104005000000010000000000010000"
      ∷ codes "sent 8 0001 0002 8306"
      ∷ codes "sent 9 0002 0001 83070c0e00087801001000007c0103"
      ∷ codes "sent 10 0001 0002 8301400100000000000100030000000c7c01"
      ∷ codes "sent 11 0002 0001 830340020100000000000100030000000c7c0101"
      ∷ codes "sent 12 0001 0002 83040000c800"
      ∷ codes "sent 13 0002 0001 67000000c800"
      ∷ codes "sent 14 0001 c000 660000616263"
      ∷ codes "boot 0001 5 0"
      ∷ codes "sent 15 0001 0002 830a000300000002000000ba7816bf8f01cfea414140de5dae2223b00361a396177a9cb410ff61f20015ad"
      ∷ codes "sent 16 0002 0001 830b0000"
      ∷ codes "sent 17 0001 0002 830d0500000100000000000100000300000002000000ba7816bf8f01cfea414140de5dae2223b00361a396177a9cb410ff61f20015ad"
      ∷ codes "sent 18 0002 0001 83108005000000010000000000010000"
      ∷ codes "sent 19 0001 0002 8306"
      ∷ codes "sent 20 0002 0001 83070c0e00087801001000007c0103"
      ∷ codes "sent 21 0001 0002 8301400100000000000100030000000c7c01"
      ∷ codes "sent 22 0002 0001 830340040100000000000100030000000c7c0100"
      ∷ codes "sent 23 0001 0002 830c"
      ∷ codes "sent 24 0002 0001 83108005000000010000000000010000"
      ∷ codes "sent 25 0001 0002 830f"
      ∷ codes "sent 26 0002 0001 8310c005000000010000000000010000"
      ∷ codes "sent 27 0001 0002 83080001"
      ∷ codes "sent 28 0002 0001 8309010026ffff02000000ba7816bf8f01cfea414140de5dae2223b00361a396177a9cb410ff61f20015ad00"
      ∷ codes "phase 0001 4 0"
      ∷ codes "sent 29 0009 0001 831400000100"
      ∷ codes "sent 30 0001 0009 831501000000020004c800"
      ∷ [];
}

-- asked to confirm, a node shows its old image, which changes no row; and, once it has switched, the new one. Two rounds later that comes: the
-- row is Apply Success, and stays so when the old one comes again
abbrev pub late_information : Script
late_information = record {
  lines =
      codes "node 0002 0000 1 1 hex:61"
      ∷ codes "updater 0001 0000 7 5 0 push 12 200 2 hex:616263 0002"
      ∷ codes "settle 9"
      ∷ codes "time 0001 1000"
      ∷ codes "deliver 17 0002"
      ∷ codes "deliver 18 0001"
      ∷ codes "rows 0001"
      ∷ codes "time 0002 1000"
      ∷ codes "deliver 17 0002"
      ∷ codes "time 0001 5100"
      ∷ codes "time 0001 9200"
      ∷ codes "rows 0001"
      ∷ codes "deliver 19 0001"
      ∷ codes "rows 0001"
      ∷ codes "deliver 18 0001"
      ∷ codes "rows 0001"
      ∷ codes "time 0001 9300"
      ∷ codes "phase 0001"
      ∷ [];
  printed =
      codes "sent 0 0001 0002 830a000300000002000000ba7816bf8f01cfea414140de5dae2223b00361a396177a9cb410ff61f20015ad"
      ∷ codes "sent 1 0002 0001 830b0000"
      ∷ codes "sent 2 0001 0002 830d0500000700000000000100000300000002000000ba7816bf8f01cfea414140de5dae2223b00361a396177a9cb410ff61f20015ad"
      ∷ codes "sent 3 0002 0001 83104005000000070000000000010000"
      ∷ codes "sent 4 0001 0002 8306"
      ∷ codes "sent 5 0002 0001 83070c0e00087801001000007c0103"
      ∷ codes "sent 6 0001 0002 8301400700000000000100030000000c7c01"
      ∷ codes "sent 7 0002 0001 830340020700000000000100030000000c7c0101"
      ∷ codes "sent 8 0001 0002 83040000c800"
      ∷ codes "sent 9 0002 0001 67000000c800"
      ∷ codes "sent 10 0001 0002 660000616263"
      ∷ codes "sent 11 0001 0002 8305"
      ∷ codes "sent 12 0002 0001 67400000c800"
      ∷ codes "sent 13 0001 0002 830c"
      ∷ codes "sent 14 0002 0001 83108005000000070000000000010000"
      ∷ codes "sent 15 0001 0002 830f"
      ∷ codes "sent 16 0002 0001 8310c005000000070000000000010000"
      ∷ codes "sent 17 0001 0002 83080001"
      ∷ codes "sent 18 0002 0001 8309010026ffff01000000ca978112ca1bbdcafac231b39a23dc4da786eff8147c4e72b9807785afee48bb00"
      ∷ codes "row 0002 6 0 0 100"
      ∷ codes "sent 19 0002 0001 8309010026ffff02000000ba7816bf8f01cfea414140de5dae2223b00361a396177a9cb410ff61f20015ad00"
      ∷ codes "sent 20 0001 0002 83080001"
      ∷ codes "sent 21 0001 0002 83080001"
      ∷ codes "row 0002 6 0 0 100"
      ∷ codes "row 0002 8 0 0 100"
      ∷ codes "row 0002 8 0 0 100"
      ∷ codes "phase 0001 1"
      ∷ [];
}
