-- Messages of Firmware Update: what their octets say; and what is refused where they are cut, or have an octet more.
use Rattle.std.specs.Prelude.{List, [], ◌∷◌, ◌++◌, replicate}
use Rattle.mu_model_wire.specs.Fields.{number, octets}
use Rattle.mu_model_wire.specs.Names.{id, status, phase, first, limit, count, uri, index, metadata, additional, ttl, base}
use Rattle.mu_model_wire_rows.specs.Scenes.{Said, says, Cut, cut, Read, short, long, value}

-- each message: its octets, its opcode, its fields in order, and its entries
abbrev pub messages : List Said
messages =
    says (0x83 ∷ 8 ∷ 1 ∷ 2 ∷ []) 0x8308 (number first 1 ∷ number limit 2 ∷ []) []
    ∷ says (0x83 ∷ 9 ∷ 1 ∷ 2 ∷ 2 ∷ 0x41 ∷ 0x42 ∷ 0 ∷ 3 ∷ 0x43 ∷ 0x44 ∷ 0x45 ∷ 1 ∷ 0x46 ∷ []) 0x8309 (number count 1 ∷ number first 2 ∷ []) ((octets id (0x41 ∷ 0x42 ∷ []) ∷ octets uri [] ∷ []) ∷ (octets id (0x43 ∷ 0x44 ∷ 0x45 ∷ []) ∷ octets uri (0x46 ∷ []) ∷ []) ∷ [])
    ∷ says (0x83 ∷ 9 ∷ 0 ∷ 0xff ∷ []) 0x8309 (number count 0 ∷ number first 0xff ∷ []) []
    ∷ says (0x83 ∷ 0xa ∷ 7 ∷ 1 ∷ 2 ∷ 3 ∷ []) 0x830a (number index 7 ∷ octets metadata (1 ∷ 2 ∷ 3 ∷ []) ∷ []) []
    ∷ says (0x83 ∷ 0xa ∷ 7 ∷ []) 0x830a (number index 7 ∷ octets metadata [] ∷ []) []
    ∷ says (0x83 ∷ 0xb ∷ 0xfd ∷ 3 ∷ []) 0x830b (number status 5 ∷ number additional 0x1f ∷ number index 3 ∷ []) []
    ∷ says (0x83 ∷ 0xc ∷ []) 0x830c [] []
    ∷ says (0x83 ∷ 0xd ∷ 9 ∷ 1 ∷ 2 ∷ 1 ∷ 2 ∷ 3 ∷ 4 ∷ 5 ∷ 6 ∷ 7 ∷ 8 ∷ 3 ∷ 0x51 ∷ 0x52 ∷ []) 0x830d (number ttl 9 ∷ number base 0x201 ∷ number id 0x807060504030201 ∷ number index 3 ∷ octets metadata (0x51 ∷ 0x52 ∷ []) ∷ []) []
    ∷ says (0x83 ∷ 0xe ∷ []) 0x830e [] []
    ∷ says (0x83 ∷ 0xf ∷ []) 0x830f [] []
    ∷ says (0x83 ∷ 0x10 ∷ 2 ∷ []) 0x8310 (number status 2 ∷ number phase 0 ∷ []) []
    ∷ says (0x83 ∷ 0x10 ∷ 0xc7 ∷ 9 ∷ 0x1f ∷ 1 ∷ 2 ∷ 1 ∷ 2 ∷ 3 ∷ 4 ∷ 5 ∷ 6 ∷ 7 ∷ 8 ∷ 3 ∷ []) 0x8310 (number status 7 ∷ number phase 6 ∷ number ttl 9 ∷ number additional 0x1f ∷ number base 0x201 ∷ number id 0x807060504030201 ∷ number index 3 ∷ []) []
    ∷ []

-- for each message what comes of its first octet, of its first two, and so on, and of it with an octet 0 more
abbrev pub cuts : List Cut
cuts =
    cut (0x83 ∷ 8 ∷ 1 ∷ 2 ∷ []) (short 0 ∷ short 2 ∷ short 3 ∷ long 4 ∷ [])
    ∷ cut (0x83 ∷ 9 ∷ 1 ∷ 2 ∷ 2 ∷ 0x41 ∷ 0x42 ∷ 0 ∷ 3 ∷ 0x43 ∷ 0x44 ∷ 0x45 ∷ 1 ∷ 0x46 ∷ []) (short 0 ∷ short 2 ∷ short 3 ∷ Read ∷ short 5 ∷ short 5 ∷ short 7 ∷ Read ∷ replicate 3 (short 9) ++ short 12 ∷ short 13 ∷ value 14 ∷ [])
    ∷ cut (0x83 ∷ 9 ∷ 0 ∷ 0xff ∷ []) (short 0 ∷ short 2 ∷ short 3 ∷ value 4 ∷ [])
    ∷ cut (0x83 ∷ 0xa ∷ 7 ∷ 1 ∷ 2 ∷ 3 ∷ []) (short 0 ∷ short 2 ∷ replicate 4 (Read) ++ [])
    ∷ cut (0x83 ∷ 0xa ∷ 7 ∷ []) (short 0 ∷ short 2 ∷ Read ∷ [])
    ∷ cut (0x83 ∷ 0xb ∷ 0xfd ∷ 3 ∷ []) (short 0 ∷ short 2 ∷ short 3 ∷ long 4 ∷ [])
    ∷ cut (0x83 ∷ 0xc ∷ []) (short 0 ∷ long 2 ∷ [])
    ∷ cut (0x83 ∷ 0xd ∷ 9 ∷ 1 ∷ 2 ∷ 1 ∷ 2 ∷ 3 ∷ 4 ∷ 5 ∷ 6 ∷ 7 ∷ 8 ∷ 3 ∷ 0x51 ∷ 0x52 ∷ []) (short 0 ∷ short 2 ∷ short 3 ∷ short 3 ∷ replicate 8 (short 5) ++ short 13 ∷ replicate 3 (Read) ++ [])
    ∷ cut (0x83 ∷ 0xe ∷ []) (short 0 ∷ long 2 ∷ [])
    ∷ cut (0x83 ∷ 0xf ∷ []) (short 0 ∷ long 2 ∷ [])
    ∷ cut (0x83 ∷ 0x10 ∷ 2 ∷ []) (short 0 ∷ short 2 ∷ long 3 ∷ [])
    ∷ cut (0x83 ∷ 0x10 ∷ 0xc7 ∷ 9 ∷ 0x1f ∷ 1 ∷ 2 ∷ 1 ∷ 2 ∷ 3 ∷ 4 ∷ 5 ∷ 6 ∷ 7 ∷ 8 ∷ 3 ∷ []) (short 0 ∷ short 2 ∷ short 3 ∷ short 4 ∷ short 5 ∷ short 5 ∷ replicate 8 (short 7) ++ short 15 ∷ long 16 ∷ [])
    ∷ []
