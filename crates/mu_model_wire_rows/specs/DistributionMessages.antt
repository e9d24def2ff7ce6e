-- Messages of Firmware Distribution: what their octets say; and what is refused where they are cut, or have an octet more.
use Rattle.std.specs.Prelude.{List, [], ◌∷◌, ◌++◌, replicate}
use Rattle.mu_model_wire.specs.Fields.{number, octets}
use Rattle.mu_model_wire.specs.Names.{mode, id, size, status, phase, max_size, first, limit, count, uri, index, metadata, ttl, base, address, update_status, transfer_status, progress, receivers, images, space, remaining, oob, schemes, appkey, policy, image, label, group, fwid, kind}
use Rattle.mu_model_wire_rows.specs.Scenes.{Said, says, Cut, cut, Read, short, long, value}

-- each message: its octets, its opcode, its fields in order, and its entries
abbrev pub messages : List Said
messages =
    says (0x83 ∷ 0x11 ∷ 1 ∷ 0 ∷ 9 ∷ 0xff ∷ 0x7f ∷ 8 ∷ []) 0x8311 [] ((number address 1 ∷ number index 9 ∷ []) ∷ (number address 0x7fff ∷ number index 8 ∷ []) ∷ [])
    ∷ says (0x83 ∷ 0x12 ∷ []) 0x8312 [] []
    ∷ says (0x83 ∷ 0x13 ∷ 0xd ∷ 1 ∷ 2 ∷ []) 0x8313 (number status 0xd ∷ number count 0x201 ∷ []) []
    ∷ says (0x83 ∷ 0x14 ∷ 1 ∷ 2 ∷ 3 ∷ 4 ∷ []) 0x8314 (number first 0x201 ∷ number limit 0x403 ∷ []) []
    ∷ says (0x83 ∷ 0x15 ∷ 1 ∷ 2 ∷ 3 ∷ 4 ∷ 2 ∷ 0 ∷ 4 ∷ 0xc8 ∷ 0 ∷ 0xff ∷ 0x7f ∷ 0xbd ∷ 6 ∷ 0xff ∷ []) 0x8315 (number count 0x201 ∷ number first 0x403 ∷ []) ((number address 2 ∷ number phase 8 ∷ number update_status 0 ∷ number transfer_status 0 ∷ number progress 0x32 ∷ number index 0 ∷ []) ∷ (number address 0x7fff ∷ number phase 0xa ∷ number update_status 7 ∷ number transfer_status 0xa ∷ number progress 1 ∷ number index 0xff ∷ []) ∷ [])
    ∷ says (0x83 ∷ 0x15 ∷ 1 ∷ 2 ∷ 3 ∷ 4 ∷ []) 0x8315 (number count 0x201 ∷ number first 0x403 ∷ []) []
    ∷ says (0x83 ∷ 0x16 ∷ []) 0x8316 [] []
    ∷ says (0x83 ∷ 0x17 ∷ 1 ∷ 2 ∷ 3 ∷ 4 ∷ 5 ∷ 6 ∷ 7 ∷ 8 ∷ 9 ∷ 0xa ∷ 0xb ∷ 0xc ∷ 0xd ∷ 0xe ∷ 0xf ∷ 0x10 ∷ 1 ∷ 7 ∷ []) 0x8317 (number receivers 0x201 ∷ number images 0x403 ∷ number max_size 0x8070605 ∷ number space 0xc0b0a09 ∷ number remaining 0x100f0e0d ∷ number oob 1 ∷ octets schemes (7 ∷ []) ∷ []) []
    ∷ says (0x83 ∷ 0x18 ∷ []) 0x8318 [] []
    ∷ says (0x83 ∷ 0x19 ∷ 0xff ∷ 0xf ∷ 9 ∷ 1 ∷ 2 ∷ 5 ∷ 3 ∷ 4 ∷ 0 ∷ 0xc0 ∷ []) 0x8319 (number appkey 0xfff ∷ number ttl 9 ∷ number base 0x201 ∷ number mode 1 ∷ number policy 1 ∷ number image 0x403 ∷ number group 0xc000 ∷ []) []
    ∷ says (0x83 ∷ 0x19 ∷ 0 ∷ 0 ∷ 9 ∷ 1 ∷ 2 ∷ 2 ∷ 3 ∷ 4 ∷ 0 ∷ 0 ∷ []) 0x8319 (number appkey 0 ∷ number ttl 9 ∷ number base 0x201 ∷ number mode 2 ∷ number policy 0 ∷ number image 0x403 ∷ number group 0 ∷ []) []
    ∷ says (0x83 ∷ 0x19 ∷ 0 ∷ 0 ∷ 9 ∷ 1 ∷ 2 ∷ 6 ∷ 3 ∷ 4 ∷ 1 ∷ 2 ∷ 3 ∷ 4 ∷ 5 ∷ 6 ∷ 7 ∷ 8 ∷ 9 ∷ 0xa ∷ 0xb ∷ 0xc ∷ 0xd ∷ 0xe ∷ 0xf ∷ 0x10 ∷ []) 0x8319 (number appkey 0 ∷ number ttl 9 ∷ number base 0x201 ∷ number mode 2 ∷ number policy 1 ∷ number image 0x403 ∷ octets label (1 ∷ 2 ∷ 3 ∷ 4 ∷ 5 ∷ 6 ∷ 7 ∷ 8 ∷ 9 ∷ 0xa ∷ 0xb ∷ 0xc ∷ 0xd ∷ 0xe ∷ 0xf ∷ 0x10 ∷ []) ∷ []) []
    ∷ says (0x83 ∷ 0x1a ∷ []) 0x831a [] []
    ∷ says (0x83 ∷ 0x1b ∷ []) 0x831b [] []
    ∷ says (0x83 ∷ 0x1c ∷ []) 0x831c [] []
    ∷ says (0x83 ∷ 0x1d ∷ 0xd ∷ 0 ∷ []) 0x831d (number status 0xd ∷ number phase 0 ∷ []) []
    ∷ says (0x83 ∷ 0x1d ∷ 0 ∷ 7 ∷ 0 ∷ 0xc0 ∷ 0xff ∷ 0xf ∷ 9 ∷ 1 ∷ 2 ∷ 6 ∷ 3 ∷ 4 ∷ []) 0x831d (number status 0 ∷ number phase 7 ∷ number group 0xc000 ∷ number appkey 0xfff ∷ number ttl 9 ∷ number base 0x201 ∷ number mode 2 ∷ number policy 1 ∷ number image 0x403 ∷ []) []
    ∷ says (0x83 ∷ 0x1d ∷ 0 ∷ 1 ∷ 0 ∷ 0x80 ∷ 0 ∷ 0 ∷ 9 ∷ 1 ∷ 2 ∷ 1 ∷ 3 ∷ 4 ∷ []) 0x831d (number status 0 ∷ number phase 1 ∷ number group 0x8000 ∷ number appkey 0 ∷ number ttl 9 ∷ number base 0x201 ∷ number mode 1 ∷ number policy 0 ∷ number image 0x403 ∷ []) []
    ∷ says (0x83 ∷ 0x1d ∷ 0 ∷ 2 ∷ 0 ∷ 0 ∷ 0 ∷ 0 ∷ 9 ∷ 1 ∷ 2 ∷ 5 ∷ 3 ∷ 4 ∷ []) 0x831d (number status 0 ∷ number phase 2 ∷ number group 0 ∷ number appkey 0 ∷ number ttl 9 ∷ number base 0x201 ∷ number mode 1 ∷ number policy 1 ∷ number image 0x403 ∷ []) []
    ∷ says (0x83 ∷ 0x1e ∷ []) 0x831e [] []
    ∷ says (0x83 ∷ 0x1f ∷ 9 ∷ 1 ∷ 2 ∷ 1 ∷ 2 ∷ 3 ∷ 4 ∷ 5 ∷ 6 ∷ 7 ∷ 8 ∷ 1 ∷ 2 ∷ 3 ∷ 4 ∷ 3 ∷ 0x51 ∷ 0x52 ∷ 0x53 ∷ 0xff ∷ 0xff ∷ 0x61 ∷ []) 0x831f (number ttl 9 ∷ number base 0x201 ∷ number id 0x807060504030201 ∷ number size 0x4030201 ∷ octets metadata (0x51 ∷ 0x52 ∷ 0x53 ∷ []) ∷ octets fwid (0xff ∷ 0xff ∷ 0x61 ∷ []) ∷ []) []
    ∷ says (0x83 ∷ 0x1f ∷ 9 ∷ 1 ∷ 2 ∷ 1 ∷ 2 ∷ 3 ∷ 4 ∷ 5 ∷ 6 ∷ 7 ∷ 8 ∷ 1 ∷ 0 ∷ 0 ∷ 0 ∷ 0 ∷ 0xff ∷ 0xff ∷ []) 0x831f (number ttl 9 ∷ number base 0x201 ∷ number id 0x807060504030201 ∷ number size 1 ∷ octets metadata [] ∷ octets fwid (0xff ∷ 0xff ∷ []) ∷ []) []
    ∷ says (0x83 ∷ 0x20 ∷ 2 ∷ 0x68 ∷ 0x69 ∷ 0xff ∷ 0xff ∷ []) 0x8320 (octets uri (0x68 ∷ 0x69 ∷ []) ∷ octets fwid (0xff ∷ 0xff ∷ []) ∷ []) []
    ∷ says (0x83 ∷ 0x21 ∷ []) 0x8321 [] []
    ∷ says (0x83 ∷ 0x22 ∷ 9 ∷ 0 ∷ []) 0x8322 (number status 9 ∷ number phase 0 ∷ []) []
    ∷ says (0x83 ∷ 0x22 ∷ 0 ∷ 1 ∷ 0x64 ∷ 0xff ∷ 0xff ∷ 0x61 ∷ []) 0x8322 (number status 0 ∷ number phase 1 ∷ number progress 0x64 ∷ number kind 0 ∷ octets fwid (0xff ∷ 0xff ∷ 0x61 ∷ []) ∷ []) []
    ∷ says (0x83 ∷ 0x22 ∷ 0 ∷ 3 ∷ 0xe4 ∷ 0xff ∷ 0xff ∷ []) 0x8322 (number status 0 ∷ number phase 3 ∷ number progress 0x64 ∷ number kind 1 ∷ octets fwid (0xff ∷ 0xff ∷ []) ∷ []) []
    ∷ says (0x83 ∷ 0x23 ∷ 0xff ∷ 0xff ∷ []) 0x8323 (octets fwid (0xff ∷ 0xff ∷ []) ∷ []) []
    ∷ says (0x83 ∷ 0x24 ∷ 1 ∷ 2 ∷ []) 0x8324 (number index 0x201 ∷ []) []
    ∷ says (0x83 ∷ 0x25 ∷ 0xff ∷ 0xff ∷ 0x61 ∷ []) 0x8325 (octets fwid (0xff ∷ 0xff ∷ 0x61 ∷ []) ∷ []) []
    ∷ says (0x83 ∷ 0x26 ∷ []) 0x8326 [] []
    ∷ says (0x83 ∷ 0x27 ∷ 4 ∷ 1 ∷ 2 ∷ 0xff ∷ 0xff ∷ []) 0x8327 (number status 4 ∷ number count 0x201 ∷ number index 0xffff ∷ []) []
    ∷ says (0x83 ∷ 0x27 ∷ 0 ∷ 1 ∷ 2 ∷ 3 ∷ 4 ∷ 0xff ∷ 0xff ∷ []) 0x8327 (number status 0 ∷ number count 0x201 ∷ number index 0x403 ∷ octets fwid (0xff ∷ 0xff ∷ []) ∷ []) []
    ∷ []

-- for each message what comes of its first octet, of its first two, and so on, and of it with an octet 0 more
abbrev pub cuts : List Cut
cuts =
    cut (0x83 ∷ 0x11 ∷ 1 ∷ 0 ∷ 9 ∷ 0xff ∷ 0x7f ∷ 8 ∷ []) (short 0 ∷ short 2 ∷ short 2 ∷ short 4 ∷ Read ∷ short 5 ∷ short 7 ∷ short 8 ∷ [])
    ∷ cut (0x83 ∷ 0x12 ∷ []) (short 0 ∷ long 2 ∷ [])
    ∷ cut (0x83 ∷ 0x13 ∷ 0xd ∷ 1 ∷ 2 ∷ []) (short 0 ∷ short 2 ∷ short 3 ∷ short 3 ∷ long 5 ∷ [])
    ∷ cut (0x83 ∷ 0x14 ∷ 1 ∷ 2 ∷ 3 ∷ 4 ∷ []) (short 0 ∷ short 2 ∷ short 2 ∷ short 4 ∷ short 4 ∷ long 6 ∷ [])
    ∷ cut (0x83 ∷ 0x15 ∷ 1 ∷ 2 ∷ 3 ∷ 4 ∷ 2 ∷ 0 ∷ 4 ∷ 0xc8 ∷ 0 ∷ 0xff ∷ 0x7f ∷ 0xbd ∷ 6 ∷ 0xff ∷ []) (short 0 ∷ short 2 ∷ short 2 ∷ short 4 ∷ short 4 ∷ Read ∷ replicate 4 (short 6) ++ Read ∷ replicate 4 (short 11) ++ short 16 ∷ [])
    ∷ cut (0x83 ∷ 0x15 ∷ 1 ∷ 2 ∷ 3 ∷ 4 ∷ []) (short 0 ∷ short 2 ∷ short 2 ∷ short 4 ∷ short 4 ∷ short 6 ∷ [])
    ∷ cut (0x83 ∷ 0x16 ∷ []) (short 0 ∷ long 2 ∷ [])
    ∷ cut (0x83 ∷ 0x17 ∷ 1 ∷ 2 ∷ 3 ∷ 4 ∷ 5 ∷ 6 ∷ 7 ∷ 8 ∷ 9 ∷ 0xa ∷ 0xb ∷ 0xc ∷ 0xd ∷ 0xe ∷ 0xf ∷ 0x10 ∷ 1 ∷ 7 ∷ []) (short 0 ∷ short 2 ∷ short 2 ∷ short 4 ∷ short 4 ∷ replicate 4 (short 6) ++ replicate 4 (short 10) ++ replicate 4 (short 14) ++ short 18 ∷ Read ∷ Read ∷ [])
    ∷ cut (0x83 ∷ 0x18 ∷ []) (short 0 ∷ long 2 ∷ [])
    ∷ cut (0x83 ∷ 0x19 ∷ 0xff ∷ 0xf ∷ 9 ∷ 1 ∷ 2 ∷ 5 ∷ 3 ∷ 4 ∷ 0 ∷ 0xc0 ∷ []) (short 0 ∷ short 2 ∷ short 2 ∷ short 4 ∷ short 5 ∷ short 5 ∷ short 7 ∷ short 8 ∷ short 8 ∷ short 10 ∷ short 10 ∷ long 12 ∷ [])
    ∷ cut (0x83 ∷ 0x19 ∷ 0 ∷ 0 ∷ 9 ∷ 1 ∷ 2 ∷ 2 ∷ 3 ∷ 4 ∷ 0 ∷ 0 ∷ []) (short 0 ∷ short 2 ∷ short 2 ∷ short 4 ∷ short 5 ∷ short 5 ∷ short 7 ∷ short 8 ∷ short 8 ∷ short 10 ∷ short 10 ∷ long 12 ∷ [])
    ∷ cut (0x83 ∷ 0x19 ∷ 0 ∷ 0 ∷ 9 ∷ 1 ∷ 2 ∷ 6 ∷ 3 ∷ 4 ∷ 1 ∷ 2 ∷ 3 ∷ 4 ∷ 5 ∷ 6 ∷ 7 ∷ 8 ∷ 9 ∷ 0xa ∷ 0xb ∷ 0xc ∷ 0xd ∷ 0xe ∷ 0xf ∷ 0x10 ∷ []) (short 0 ∷ short 2 ∷ short 2 ∷ short 4 ∷ short 5 ∷ short 5 ∷ short 7 ∷ short 8 ∷ short 8 ∷ short 10 ∷ short 10 ∷ replicate 14 (value 10) ++ long 26 ∷ [])
    ∷ cut (0x83 ∷ 0x1a ∷ []) (short 0 ∷ long 2 ∷ [])
    ∷ cut (0x83 ∷ 0x1b ∷ []) (short 0 ∷ long 2 ∷ [])
    ∷ cut (0x83 ∷ 0x1c ∷ []) (short 0 ∷ long 2 ∷ [])
    ∷ cut (0x83 ∷ 0x1d ∷ 0xd ∷ 0 ∷ []) (short 0 ∷ short 2 ∷ short 3 ∷ long 4 ∷ [])
    ∷ cut (0x83 ∷ 0x1d ∷ 0 ∷ 7 ∷ 0 ∷ 0xc0 ∷ 0xff ∷ 0xf ∷ 9 ∷ 1 ∷ 2 ∷ 6 ∷ 3 ∷ 4 ∷ []) (short 0 ∷ short 2 ∷ short 3 ∷ short 4 ∷ short 4 ∷ short 6 ∷ short 6 ∷ short 8 ∷ short 9 ∷ short 9 ∷ short 11 ∷ short 12 ∷ short 12 ∷ long 14 ∷ [])
    ∷ cut (0x83 ∷ 0x1d ∷ 0 ∷ 1 ∷ 0 ∷ 0x80 ∷ 0 ∷ 0 ∷ 9 ∷ 1 ∷ 2 ∷ 1 ∷ 3 ∷ 4 ∷ []) (short 0 ∷ short 2 ∷ short 3 ∷ short 4 ∷ short 4 ∷ short 6 ∷ short 6 ∷ short 8 ∷ short 9 ∷ short 9 ∷ short 11 ∷ short 12 ∷ short 12 ∷ long 14 ∷ [])
    ∷ cut (0x83 ∷ 0x1d ∷ 0 ∷ 2 ∷ 0 ∷ 0 ∷ 0 ∷ 0 ∷ 9 ∷ 1 ∷ 2 ∷ 5 ∷ 3 ∷ 4 ∷ []) (short 0 ∷ short 2 ∷ short 3 ∷ short 4 ∷ short 4 ∷ short 6 ∷ short 6 ∷ short 8 ∷ short 9 ∷ short 9 ∷ short 11 ∷ short 12 ∷ short 12 ∷ long 14 ∷ [])
    ∷ cut (0x83 ∷ 0x1e ∷ []) (short 0 ∷ long 2 ∷ [])
    ∷ cut (0x83 ∷ 0x1f ∷ 9 ∷ 1 ∷ 2 ∷ 1 ∷ 2 ∷ 3 ∷ 4 ∷ 5 ∷ 6 ∷ 7 ∷ 8 ∷ 1 ∷ 2 ∷ 3 ∷ 4 ∷ 3 ∷ 0x51 ∷ 0x52 ∷ 0x53 ∷ 0xff ∷ 0xff ∷ 0x61 ∷ []) (short 0 ∷ short 2 ∷ short 3 ∷ short 3 ∷ replicate 8 (short 5) ++ replicate 4 (short 13) ++ short 17 ∷ replicate 3 (short 18) ++ short 21 ∷ short 21 ∷ Read ∷ Read ∷ [])
    ∷ cut (0x83 ∷ 0x1f ∷ 9 ∷ 1 ∷ 2 ∷ 1 ∷ 2 ∷ 3 ∷ 4 ∷ 5 ∷ 6 ∷ 7 ∷ 8 ∷ 1 ∷ 0 ∷ 0 ∷ 0 ∷ 0 ∷ 0xff ∷ 0xff ∷ []) (short 0 ∷ short 2 ∷ short 3 ∷ short 3 ∷ replicate 8 (short 5) ++ replicate 4 (short 13) ++ short 17 ∷ short 18 ∷ short 18 ∷ Read ∷ [])
    ∷ cut (0x83 ∷ 0x20 ∷ 2 ∷ 0x68 ∷ 0x69 ∷ 0xff ∷ 0xff ∷ []) (short 0 ∷ short 2 ∷ short 3 ∷ short 3 ∷ short 5 ∷ short 5 ∷ Read ∷ [])
    ∷ cut (0x83 ∷ 0x21 ∷ []) (short 0 ∷ long 2 ∷ [])
    ∷ cut (0x83 ∷ 0x22 ∷ 9 ∷ 0 ∷ []) (short 0 ∷ short 2 ∷ short 3 ∷ long 4 ∷ [])
    ∷ cut (0x83 ∷ 0x22 ∷ 0 ∷ 1 ∷ 0x64 ∷ 0xff ∷ 0xff ∷ 0x61 ∷ []) (short 0 ∷ short 2 ∷ short 3 ∷ short 4 ∷ short 5 ∷ short 5 ∷ Read ∷ Read ∷ [])
    ∷ cut (0x83 ∷ 0x22 ∷ 0 ∷ 3 ∷ 0xe4 ∷ 0xff ∷ 0xff ∷ []) (short 0 ∷ short 2 ∷ short 3 ∷ short 4 ∷ short 5 ∷ short 5 ∷ Read ∷ [])
    ∷ cut (0x83 ∷ 0x23 ∷ 0xff ∷ 0xff ∷ []) (short 0 ∷ short 2 ∷ short 2 ∷ Read ∷ [])
    ∷ cut (0x83 ∷ 0x24 ∷ 1 ∷ 2 ∷ []) (short 0 ∷ short 2 ∷ short 2 ∷ long 4 ∷ [])
    ∷ cut (0x83 ∷ 0x25 ∷ 0xff ∷ 0xff ∷ 0x61 ∷ []) (short 0 ∷ short 2 ∷ short 2 ∷ Read ∷ Read ∷ [])
    ∷ cut (0x83 ∷ 0x26 ∷ []) (short 0 ∷ long 2 ∷ [])
    ∷ cut (0x83 ∷ 0x27 ∷ 4 ∷ 1 ∷ 2 ∷ 0xff ∷ 0xff ∷ []) (short 0 ∷ short 2 ∷ short 3 ∷ short 3 ∷ short 5 ∷ short 5 ∷ short 7 ∷ [])
    ∷ cut (0x83 ∷ 0x27 ∷ 0 ∷ 1 ∷ 2 ∷ 3 ∷ 4 ∷ 0xff ∷ 0xff ∷ []) (short 0 ∷ short 2 ∷ short 3 ∷ short 3 ∷ short 5 ∷ short 5 ∷ Read ∷ short 7 ∷ Read ∷ [])
    ∷ []
