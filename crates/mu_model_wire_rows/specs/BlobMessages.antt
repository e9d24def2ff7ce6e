-- Messages of BLOB Transfer: what their octets say; and what is refused where they are cut, or have an octet more.
use Rattle.std.specs.Prelude.{List, [], ◌∷◌, ◌++◌, replicate}
use Rattle.mu_model_wire.specs.Fields.{number, octets}
use Rattle.mu_model_wire.specs.Names.{mode, id, size, log, mtu, status, phase, blocks, chunk, missing, format, block, chunk_size, bits, min_log, max_log, max_chunks, max_chunk_size, max_size, push, pull, octets as octets_name}
use Rattle.mu_model_wire_rows.specs.Scenes.{Said, says, Cut, cut, Read, short, long}

-- each message: its octets, its opcode, its fields in order, and its entries
abbrev pub messages : List Said
messages =
    says (0x83 ∷ 0 ∷ []) 0x8300 [] []
    ∷ says (0x83 ∷ 1 ∷ 0x40 ∷ 1 ∷ 2 ∷ 3 ∷ 4 ∷ 5 ∷ 6 ∷ 7 ∷ 8 ∷ 0x11 ∷ 0x12 ∷ 0x13 ∷ 0x14 ∷ 0xc ∷ 0x7c ∷ 1 ∷ []) 0x8301 (number mode 1 ∷ number id 0x807060504030201 ∷ number size 0x14131211 ∷ number log 0xc ∷ number mtu 0x17c ∷ []) []
    ∷ says (0x83 ∷ 1 ∷ 0x80 ∷ 0xff ∷ 0xff ∷ 0xff ∷ 0xff ∷ 0xff ∷ 0xff ∷ 0xff ∷ 0xff ∷ 1 ∷ 0 ∷ 0 ∷ 0 ∷ 0x20 ∷ 0x14 ∷ 0 ∷ []) 0x8301 (number mode 2 ∷ number id 0xffffffffffffffff ∷ number size 1 ∷ number log 0x20 ∷ number mtu 0x14 ∷ []) []
    ∷ says (0x83 ∷ 2 ∷ 1 ∷ 2 ∷ 3 ∷ 4 ∷ 5 ∷ 6 ∷ 7 ∷ 8 ∷ []) 0x8302 (number id 0x807060504030201 ∷ []) []
    ∷ says (0x83 ∷ 3 ∷ 4 ∷ 0 ∷ []) 0x8303 (number status 4 ∷ number mode 0 ∷ number phase 0 ∷ []) []
    ∷ says (0x83 ∷ 3 ∷ 6 ∷ 1 ∷ 1 ∷ 2 ∷ 3 ∷ 4 ∷ 5 ∷ 6 ∷ 7 ∷ 8 ∷ []) 0x8303 (number status 6 ∷ number mode 0 ∷ number phase 1 ∷ number id 0x807060504030201 ∷ []) []
    ∷ says (0x83 ∷ 3 ∷ 0x8a ∷ 5 ∷ 1 ∷ 2 ∷ 3 ∷ 4 ∷ 5 ∷ 6 ∷ 7 ∷ 8 ∷ 0x11 ∷ 0x12 ∷ 0x13 ∷ 0x14 ∷ 6 ∷ 0x21 ∷ 0x22 ∷ 0x31 ∷ 0x32 ∷ []) 0x8303 (number status 0xa ∷ number mode 2 ∷ number phase 5 ∷ number id 0x807060504030201 ∷ number size 0x14131211 ∷ number log 6 ∷ number mtu 0x2221 ∷ octets blocks (0x31 ∷ 0x32 ∷ []) ∷ []) []
    ∷ says (0x83 ∷ 3 ∷ 0x40 ∷ 4 ∷ 1 ∷ 2 ∷ 3 ∷ 4 ∷ 5 ∷ 6 ∷ 7 ∷ 8 ∷ 1 ∷ 0 ∷ 0 ∷ 0 ∷ 0x20 ∷ 0x14 ∷ 0 ∷ []) 0x8303 (number status 0 ∷ number mode 1 ∷ number phase 4 ∷ number id 0x807060504030201 ∷ number size 1 ∷ number log 0x20 ∷ number mtu 0x14 ∷ octets blocks [] ∷ []) []
    ∷ says (0x83 ∷ 4 ∷ 1 ∷ 2 ∷ 3 ∷ 4 ∷ []) 0x8304 (number block 0x201 ∷ number chunk_size 0x403 ∷ []) []
    ∷ says (0x83 ∷ 5 ∷ []) 0x8305 [] []
    ∷ says (0x83 ∷ 6 ∷ []) 0x8306 [] []
    ∷ says (0x83 ∷ 7 ∷ 6 ∷ 0x20 ∷ 1 ∷ 2 ∷ 3 ∷ 4 ∷ 5 ∷ 6 ∷ 7 ∷ 8 ∷ 9 ∷ 0xa ∷ 1 ∷ []) 0x8307 (number min_log 6 ∷ number max_log 0x20 ∷ number max_chunks 0x201 ∷ number max_chunk_size 0x403 ∷ number max_size 0x8070605 ∷ number mtu 0xa09 ∷ number push 1 ∷ number pull 0 ∷ []) []
    ∷ says (0x83 ∷ 7 ∷ 0xc ∷ 0xe ∷ 0 ∷ 8 ∷ 0x78 ∷ 1 ∷ 0 ∷ 0x10 ∷ 0 ∷ 0 ∷ 0x7c ∷ 1 ∷ 2 ∷ []) 0x8307 (number min_log 0xc ∷ number max_log 0xe ∷ number max_chunks 0x800 ∷ number max_chunk_size 0x178 ∷ number max_size 0x1000 ∷ number mtu 0x17c ∷ number push 0 ∷ number pull 1 ∷ []) []
    ∷ says (0x66 ∷ 1 ∷ 2 ∷ 0x61 ∷ 0x62 ∷ []) 0x66 (number chunk 0x201 ∷ octets octets_name (0x61 ∷ 0x62 ∷ []) ∷ []) []
    ∷ says (0x67 ∷ 0xa ∷ 1 ∷ 2 ∷ 3 ∷ 4 ∷ []) 0x67 (number status 0xa ∷ number format 0 ∷ number block 0x201 ∷ number chunk_size 0x403 ∷ []) []
    ∷ says (0x67 ∷ 0x40 ∷ 1 ∷ 2 ∷ 3 ∷ 4 ∷ []) 0x67 (number status 0 ∷ number format 1 ∷ number block 0x201 ∷ number chunk_size 0x403 ∷ []) []
    ∷ says (0x67 ∷ 0x80 ∷ 1 ∷ 2 ∷ 3 ∷ 4 ∷ 0x31 ∷ 0x32 ∷ []) 0x67 (number status 0 ∷ number format 2 ∷ number block 0x201 ∷ number chunk_size 0x403 ∷ octets bits (0x31 ∷ 0x32 ∷ []) ∷ []) []
    ∷ says (0x67 ∷ 0xc0 ∷ 1 ∷ 2 ∷ 3 ∷ 4 ∷ 0x7f ∷ 0xc2 ∷ 0x80 ∷ 0xdf ∷ 0xbf ∷ 0xe0 ∷ 0xa0 ∷ 0x80 ∷ 0xef ∷ 0xbf ∷ 0xbf ∷ []) 0x67 (number status 0 ∷ number format 3 ∷ number block 0x201 ∷ number chunk_size 0x403 ∷ []) ((number missing 0x7f ∷ []) ∷ (number missing 0x80 ∷ []) ∷ (number missing 0x7ff ∷ []) ∷ (number missing 0x800 ∷ []) ∷ (number missing 0xffff ∷ []) ∷ [])
    ∷ says (0x68 ∷ 0 ∷ 0xc2 ∷ 0x80 ∷ 0xe0 ∷ 0xa0 ∷ 0x80 ∷ 0xed ∷ 0xa0 ∷ 0x80 ∷ []) 0x68 [] ((number missing 0 ∷ []) ∷ (number missing 0x80 ∷ []) ∷ (number missing 0x800 ∷ []) ∷ (number missing 0xd800 ∷ []) ∷ [])
    ∷ says (0x68 ∷ []) 0x68 [] []
    ∷ []

-- for each message what comes of its first octet, of its first two, and so on, and of it with an octet 0 more
abbrev pub cuts : List Cut
cuts =
    cut (0x83 ∷ 0 ∷ []) (short 0 ∷ long 2 ∷ [])
    ∷ cut (0x83 ∷ 1 ∷ 0x40 ∷ 1 ∷ 2 ∷ 3 ∷ 4 ∷ 5 ∷ 6 ∷ 7 ∷ 8 ∷ 0x11 ∷ 0x12 ∷ 0x13 ∷ 0x14 ∷ 0xc ∷ 0x7c ∷ 1 ∷ []) (short 0 ∷ short 2 ∷ replicate 8 (short 3) ++ replicate 4 (short 11) ++ short 15 ∷ short 16 ∷ short 16 ∷ long 18 ∷ [])
    ∷ cut (0x83 ∷ 1 ∷ 0x80 ∷ 0xff ∷ 0xff ∷ 0xff ∷ 0xff ∷ 0xff ∷ 0xff ∷ 0xff ∷ 0xff ∷ 1 ∷ 0 ∷ 0 ∷ 0 ∷ 0x20 ∷ 0x14 ∷ 0 ∷ []) (short 0 ∷ short 2 ∷ replicate 8 (short 3) ++ replicate 4 (short 11) ++ short 15 ∷ short 16 ∷ short 16 ∷ long 18 ∷ [])
    ∷ cut (0x83 ∷ 2 ∷ 1 ∷ 2 ∷ 3 ∷ 4 ∷ 5 ∷ 6 ∷ 7 ∷ 8 ∷ []) (short 0 ∷ replicate 8 (short 2) ++ long 10 ∷ [])
    ∷ cut (0x83 ∷ 3 ∷ 4 ∷ 0 ∷ []) (short 0 ∷ short 2 ∷ short 3 ∷ long 4 ∷ [])
    ∷ cut (0x83 ∷ 3 ∷ 6 ∷ 1 ∷ 1 ∷ 2 ∷ 3 ∷ 4 ∷ 5 ∷ 6 ∷ 7 ∷ 8 ∷ []) (short 0 ∷ short 2 ∷ short 3 ∷ replicate 8 (short 4) ++ long 12 ∷ [])
    ∷ cut (0x83 ∷ 3 ∷ 0x8a ∷ 5 ∷ 1 ∷ 2 ∷ 3 ∷ 4 ∷ 5 ∷ 6 ∷ 7 ∷ 8 ∷ 0x11 ∷ 0x12 ∷ 0x13 ∷ 0x14 ∷ 6 ∷ 0x21 ∷ 0x22 ∷ 0x31 ∷ 0x32 ∷ []) (short 0 ∷ short 2 ∷ short 3 ∷ replicate 8 (short 4) ++ replicate 4 (short 12) ++ short 16 ∷ short 17 ∷ short 17 ∷ replicate 3 (Read) ++ [])
    ∷ cut (0x83 ∷ 3 ∷ 0x40 ∷ 4 ∷ 1 ∷ 2 ∷ 3 ∷ 4 ∷ 5 ∷ 6 ∷ 7 ∷ 8 ∷ 1 ∷ 0 ∷ 0 ∷ 0 ∷ 0x20 ∷ 0x14 ∷ 0 ∷ []) (short 0 ∷ short 2 ∷ short 3 ∷ replicate 8 (short 4) ++ replicate 4 (short 12) ++ short 16 ∷ short 17 ∷ short 17 ∷ Read ∷ [])
    ∷ cut (0x83 ∷ 4 ∷ 1 ∷ 2 ∷ 3 ∷ 4 ∷ []) (short 0 ∷ short 2 ∷ short 2 ∷ short 4 ∷ short 4 ∷ long 6 ∷ [])
    ∷ cut (0x83 ∷ 5 ∷ []) (short 0 ∷ long 2 ∷ [])
    ∷ cut (0x83 ∷ 6 ∷ []) (short 0 ∷ long 2 ∷ [])
    ∷ cut (0x83 ∷ 7 ∷ 6 ∷ 0x20 ∷ 1 ∷ 2 ∷ 3 ∷ 4 ∷ 5 ∷ 6 ∷ 7 ∷ 8 ∷ 9 ∷ 0xa ∷ 1 ∷ []) (short 0 ∷ short 2 ∷ short 3 ∷ short 4 ∷ short 4 ∷ short 6 ∷ short 6 ∷ replicate 4 (short 8) ++ short 12 ∷ short 12 ∷ short 14 ∷ long 15 ∷ [])
    ∷ cut (0x83 ∷ 7 ∷ 0xc ∷ 0xe ∷ 0 ∷ 8 ∷ 0x78 ∷ 1 ∷ 0 ∷ 0x10 ∷ 0 ∷ 0 ∷ 0x7c ∷ 1 ∷ 2 ∷ []) (short 0 ∷ short 2 ∷ short 3 ∷ short 4 ∷ short 4 ∷ short 6 ∷ short 6 ∷ replicate 4 (short 8) ++ short 12 ∷ short 12 ∷ short 14 ∷ long 15 ∷ [])
    ∷ cut (0x66 ∷ 1 ∷ 2 ∷ 0x61 ∷ 0x62 ∷ []) (short 1 ∷ short 1 ∷ short 3 ∷ Read ∷ Read ∷ [])
    ∷ cut (0x67 ∷ 0xa ∷ 1 ∷ 2 ∷ 3 ∷ 4 ∷ []) (short 1 ∷ short 2 ∷ short 2 ∷ short 4 ∷ short 4 ∷ long 6 ∷ [])
    ∷ cut (0x67 ∷ 0x40 ∷ 1 ∷ 2 ∷ 3 ∷ 4 ∷ []) (short 1 ∷ short 2 ∷ short 2 ∷ short 4 ∷ short 4 ∷ long 6 ∷ [])
    ∷ cut (0x67 ∷ 0x80 ∷ 1 ∷ 2 ∷ 3 ∷ 4 ∷ 0x31 ∷ 0x32 ∷ []) (short 1 ∷ short 2 ∷ short 2 ∷ short 4 ∷ short 4 ∷ replicate 3 (Read) ++ [])
    ∷ cut (0x67 ∷ 0xc0 ∷ 1 ∷ 2 ∷ 3 ∷ 4 ∷ 0x7f ∷ 0xc2 ∷ 0x80 ∷ 0xdf ∷ 0xbf ∷ 0xe0 ∷ 0xa0 ∷ 0x80 ∷ 0xef ∷ 0xbf ∷ 0xbf ∷ []) (short 1 ∷ short 2 ∷ short 2 ∷ short 4 ∷ short 4 ∷ Read ∷ Read ∷ short 7 ∷ Read ∷ short 9 ∷ Read ∷ short 11 ∷ short 11 ∷ Read ∷ short 14 ∷ short 14 ∷ Read ∷ [])
    ∷ cut (0x68 ∷ 0 ∷ 0xc2 ∷ 0x80 ∷ 0xe0 ∷ 0xa0 ∷ 0x80 ∷ 0xed ∷ 0xa0 ∷ 0x80 ∷ []) (Read ∷ Read ∷ short 2 ∷ Read ∷ short 4 ∷ short 4 ∷ Read ∷ short 7 ∷ short 7 ∷ Read ∷ [])
    ∷ cut (0x68 ∷ []) (Read ∷ [])
    ∷ []
