-- What lines say, and where they are refused.
use Rattle.std.specs.Prelude.{List, [], ◌∷◌, codes}
use Rattle.mu_model_flash.specs.declared.Pattern.TheVariants.{Old as OldBits, New as NewBits, Made as MadeBits}
use Rattle.mu_model_script.specs.Event.{Node, Pair, Old, Updater, Distributor, Stock, Say, Deliver, Time, Cut, Tear, Active, Phase, Settle, Rows, Packet}
use Rattle.mu_model_script.specs.Tokens.{Hex, Made}
use Rattle.mu_model_script_rows.specs.Scenes.{Line, reads, refused}

-- each line, with its numbers at both ends of their ranges
abbrev pub read_lines : List Line
read_lines =
    reads (codes "node 0001 0000 1 0 hex:61") (Node 1 0 1 0 (Hex (0x61 ∷ [])))
    ∷ reads (codes "node 7fff ffff 256 4294967295 made:65535:1048576") (Node 0x7fff 0xffff 256 4294967295 (Made 65535 1048576))
    ∷ reads (codes "node 0102 C00A 10 1 hex:61fFAb") (Node 0x102 0xC00A 10 1 (Hex (0x61 ∷ 0xff ∷ 0xab ∷ [])))
    ∷ reads (codes "node 0002 c000 1 1 made:0:1") (Node 2 0xc000 1 1 (Made 0 1))
    ∷ reads (codes "pair 0002 0000 1 2 hex:61 3 made:4:5") (Pair 2 0 1 2 (Hex (0x61 ∷ [])) 3 (Made 4 5))
    ∷ reads (codes "pair 7fff ffff 256 4294967295 made:65535:1048576 4294967295 hex:00") (Pair 0x7fff 0xffff 256 4294967295 (Made 65535 1048576) 4294967295 (Hex (0 ∷ [])))
    ∷ reads (codes "old 0003 c001 2 4 hex:6162") (Old 3 0xc001 2 4 (Hex (0x61 ∷ 0x62 ∷ [])))
    ∷ reads (codes "updater 0001 c000 7 5 6 push 12 200 2 hex:61 0002,0003") (Updater 1 0xc000 7 5 6 1 12 200 2 (Hex (0x61 ∷ [])) (2 ∷ 3 ∷ []))
    ∷ reads (codes "updater 7fff 0000 281474976710655 255 65535 pull 14 376 4294967295 made:1:2 7fff") (Updater 0x7fff 0 281474976710655 255 65535 2 14 376 4294967295 (Made 1 2) (0x7fff ∷ []))
    ∷ reads (codes "updater 0001 0000 0 0 0 push 13 8 0 hex:61 0001") (Updater 1 0 0 0 0 1 13 8 0 (Hex (0x61 ∷ [])) (1 ∷ []))
    ∷ reads (codes "distributor 0001 1") (Distributor 1 1)
    ∷ reads (codes "distributor 7fff 256") (Distributor 0x7fff 256)
    ∷ reads (codes "stock 0001 0 hex:61") (Stock 1 0 (Hex (0x61 ∷ [])))
    ∷ reads (codes "stock 0001 4294967295 made:9:8") (Stock 1 4294967295 (Made 9 8))
    ∷ reads (codes "say 0001 7fff 83080001") (Say 1 0x7fff (0x83 ∷ 8 ∷ 0 ∷ 1 ∷ []))
    ∷ reads (codes "say 7fff ffff 00") (Say 0x7fff 0xffff (0 ∷ []))
    ∷ reads (codes "say 0009 c000 fF") (Say 9 0xc000 (0xff ∷ []))
    ∷ reads (codes "deliver 0 0001") (Deliver 0 1)
    ∷ reads (codes "deliver 4294967295 7fff") (Deliver 4294967295 0x7fff)
    ∷ reads (codes "time 0001 0") (Time 1 0)
    ∷ reads (codes "time 7fff 9223372036854775807") (Time 0x7fff 9223372036854775807)
    ∷ reads (codes "cut 0002") (Cut 2)
    ∷ reads (codes "tear 0001 1 none") (Tear 1 1 OldBits)
    ∷ reads (codes "tear 0001 1000 all") (Tear 1 1000 NewBits)
    ∷ reads (codes "tear 0001 2 made:0") (Tear 1 2 (MadeBits 0))
    ∷ reads (codes "tear 0001 2 made:65535") (Tear 1 2 (MadeBits 65535))
    ∷ reads (codes "settle 1") (Settle 1)
    ∷ reads (codes "settle 4294967295") (Settle 4294967295)
    ∷ reads (codes "active 0002") (Active 2)
    ∷ reads (codes "phase 0002") (Phase 2)
    ∷ reads (codes "rows 0002") (Rows 2)
    ∷ reads (codes "packet 0") (Packet 0)
    ∷ reads (codes "packet 4294967295") (Packet 4294967295)
    ∷ []

-- a number out of its range or not in its form, a token that lacks (the line's length), one too many, and blanks that aren't single: the
-- place of the first token that shows it
abbrev pub refused_lines : List Line
refused_lines =
    refused (codes "cut 0000") 4
    ∷ refused (codes "cut 8000") 4
    ∷ refused (codes "cut c000") 4
    ∷ refused (codes "cut 002") 4
    ∷ refused (codes "cut 00002") 4
    ∷ refused (codes "cut 000g") 4
    ∷ refused (codes "cut 0x02") 4
    ∷ refused (codes "cut ") 4
    ∷ refused (codes "node 0002 0001 1 1 hex:61") 10
    ∷ refused (codes "node 0002 7fff 1 1 hex:61") 10
    ∷ refused (codes "node 0002 8000 1 1 hex:61") 10
    ∷ refused (codes "node 0002 bfff 1 1 hex:61") 10
    ∷ refused (codes "node 0002 000 1 1 hex:61") 10
    ∷ refused (codes "node 0002 10000 1 1 hex:61") 10
    ∷ refused (codes "node 0002 0000 0 1 hex:61") 15
    ∷ refused (codes "node 0002 0000 257 1 hex:61") 15
    ∷ refused (codes "node 0002 0000 01 1 hex:61") 15
    ∷ refused (codes "node 0002 0000 +1 1 hex:61") 15
    ∷ refused (codes "node 0002 0000 -1 1 hex:61") 15
    ∷ refused (codes "node 0002 0000 1. 1 hex:61") 15
    ∷ refused (codes "node 0002 0000 1a 1 hex:61") 15
    ∷ refused (codes "node 0002 0000  1 hex:61") 15
    ∷ refused (codes "node 0002 0000 00 1 hex:61") 15
    ∷ refused (codes "node 0002 0000 1 4294967296 hex:61") 17
    ∷ refused (codes "node 0002 0000 1 00 hex:61") 17
    ∷ refused (codes "node 0002 0000 1 01 hex:61") 17
    ∷ refused (codes "node 0002 0000 1 x hex:61") 17
    ∷ refused (codes "node 0002 0000 1 1 hex:") 19
    ∷ refused (codes "node 0002 0000 1 1 hex:6") 19
    ∷ refused (codes "node 0002 0000 1 1 hex:6g") 19
    ∷ refused (codes "node 0002 0000 1 1 Hex:61") 19
    ∷ refused (codes "node 0002 0000 1 1 hex61") 19
    ∷ refused (codes "node 0002 0000 1 1 61") 19
    ∷ refused (codes "node 0002 0000 1 1 made:65536:1") 19
    ∷ refused (codes "node 0002 0000 1 1 made:0:0") 19
    ∷ refused (codes "node 0002 0000 1 1 made:0:1048577") 19
    ∷ refused (codes "node 0002 0000 1 1 made:1") 19
    ∷ refused (codes "node 0002 0000 1 1 made:1:2:3") 19
    ∷ refused (codes "node 0002 0000 1 1 made::1") 19
    ∷ refused (codes "node 0002 0000 1 1 made:1:") 19
    ∷ refused (codes "node 0002 0000 1 1 made:01:1") 19
    ∷ refused (codes "node 0002 0000 1 1 made:1:01") 19
    ∷ refused (codes "node 0002 0000 1 1 made:") 19
    ∷ refused (codes "node 0002 0000 1 1 bytes:61") 19
    ∷ refused (codes "pair 0002 0000 1 1 hex:61 1 ") 28
    ∷ refused (codes "pair 0002 0000 1 1 hex:61 1 x") 28
    ∷ refused (codes "pair 0002 0000 1 1 hex:61 1 hex:") 28
    ∷ refused (codes "pair 0002 0000 1 1 hex:61 4294967296 hex:61") 26
    ∷ refused (codes "updater 0000 0000 7 5 0 push 12 200 2 hex:61 0002") 8
    ∷ refused (codes "updater 8000 0000 7 5 0 push 12 200 2 hex:61 0002") 8
    ∷ refused (codes "updater 0001 0001 7 5 0 push 12 200 2 hex:61 0002") 13
    ∷ refused (codes "updater 0001 bfff 7 5 0 push 12 200 2 hex:61 0002") 13
    ∷ refused (codes "updater 0001 0000 281474976710656 5 0 push 12 200 2 hex:61 0002") 18
    ∷ refused (codes "updater 0001 0000 07 5 0 push 12 200 2 hex:61 0002") 18
    ∷ refused (codes "updater 0001 0000 7 256 0 push 12 200 2 hex:61 0002") 20
    ∷ refused (codes "updater 0001 0000 7 5 65536 push 12 200 2 hex:61 0002") 22
    ∷ refused (codes "updater 0001 0000 7 5 0 Push 12 200 2 hex:61 0002") 24
    ∷ refused (codes "updater 0001 0000 7 5 0 1 12 200 2 hex:61 0002") 24
    ∷ refused (codes "updater 0001 0000 7 5 0 none 12 200 2 hex:61 0002") 24
    ∷ refused (codes "updater 0001 0000 7 5 0  12 200 2 hex:61 0002") 24
    ∷ refused (codes "updater 0001 0000 7 5 0 push 11 200 2 hex:61 0002") 29
    ∷ refused (codes "updater 0001 0000 7 5 0 push 15 200 2 hex:61 0002") 29
    ∷ refused (codes "updater 0001 0000 7 5 0 push 12 7 2 hex:61 0002") 32
    ∷ refused (codes "updater 0001 0000 7 5 0 push 12 377 2 hex:61 0002") 32
    ∷ refused (codes "updater 0001 0000 7 5 0 push 12 200 4294967296 hex:61 0002") 36
    ∷ refused (codes "updater 0001 0000 7 5 0 push 12 200 2 61 0002") 38
    ∷ refused (codes "updater 0001 0000 7 5 0 push 12 200 2 hex:61 0000") 45
    ∷ refused (codes "updater 0001 0000 7 5 0 push 12 200 2 hex:61 c000") 45
    ∷ refused (codes "updater 0001 0000 7 5 0 push 12 200 2 hex:61 0002,") 45
    ∷ refused (codes "updater 0001 0000 7 5 0 push 12 200 2 hex:61 0002,0002") 45
    ∷ refused (codes "updater 0001 0000 7 5 0 push 12 200 2 hex:61 0002,0003,0002") 45
    ∷ refused (codes "updater 0001 0000 7 5 0 push 12 200 2 hex:61 ,0002") 45
    ∷ refused (codes "updater 0001 0000 7 5 0 push 12 200 2 hex:61 0002;0003") 45
    ∷ refused (codes "updater 0001 0000 7 5 0 push 12 200 2 hex:61 0002,8000") 45
    ∷ refused (codes "distributor 0001 0") 17
    ∷ refused (codes "distributor 0001 257") 17
    ∷ refused (codes "distributor 0001 x") 17
    ∷ refused (codes "stock 0001 4294967296 hex:61") 11
    ∷ refused (codes "stock 0001 1 hex:") 13
    ∷ refused (codes "say 0000 0001 00") 4
    ∷ refused (codes "say 8000 0001 00") 4
    ∷ refused (codes "say c000 0001 00") 4
    ∷ refused (codes "say 0001 0000 00") 9
    ∷ refused (codes "say 0001 8000 00") 9
    ∷ refused (codes "say 0001 bfff 00") 9
    ∷ refused (codes "say 0001 0002 ") 14
    ∷ refused (codes "say 0001 0002 8") 14
    ∷ refused (codes "say 0001 0002 830") 14
    ∷ refused (codes "say 0001 0002 8g") 14
    ∷ refused (codes "say 0001 0002 0x83") 14
    ∷ refused (codes "deliver 4294967296 0002") 8
    ∷ refused (codes "deliver 01 0002") 8
    ∷ refused (codes "deliver 0 c000") 10
    ∷ refused (codes "time 0002 9223372036854775808") 10
    ∷ refused (codes "time 0002 -1") 10
    ∷ refused (codes "tear 0002 0 all") 10
    ∷ refused (codes "tear 0002 1001 all") 10
    ∷ refused (codes "tear 0002 01 all") 10
    ∷ refused (codes "tear 0002 1 All") 12
    ∷ refused (codes "tear 0002 1 some") 12
    ∷ refused (codes "tear 0002 1 made") 12
    ∷ refused (codes "tear 0002 1 made:") 12
    ∷ refused (codes "tear 0002 1 made:65536") 12
    ∷ refused (codes "tear 0002 1 made:01") 12
    ∷ refused (codes "tear 0002 1 made:1:2") 12
    ∷ refused (codes "tear 0002 1 none ") 17
    ∷ refused (codes "settle 0") 7
    ∷ refused (codes "settle 4294967296") 7
    ∷ refused (codes "settle 01") 7
    ∷ refused (codes "settle x") 7
    ∷ refused (codes "packet 4294967296") 7
    ∷ refused (codes "packet -0") 7
    ∷ refused (codes "node 0002 0000 1 1") 18
    ∷ refused (codes "node") 4
    ∷ refused (codes "pair 0002 0000 1 1 hex:61") 25
    ∷ refused (codes "pair 0002 0000 1 1 hex:61 2") 27
    ∷ refused (codes "updater 0001 0000 7 5 0 push 12 200 2 hex:61") 44
    ∷ refused (codes "distributor 0001") 16
    ∷ refused (codes "stock 0001 1") 12
    ∷ refused (codes "say 0001 0002") 13
    ∷ refused (codes "deliver 0") 9
    ∷ refused (codes "time 0002") 9
    ∷ refused (codes "cut") 3
    ∷ refused (codes "tear 0002 1") 11
    ∷ refused (codes "settle") 6
    ∷ refused (codes "active") 6
    ∷ refused (codes "phase") 5
    ∷ refused (codes "rows") 4
    ∷ refused (codes "packet") 6
    ∷ refused (codes "node 0002 0000 1 1 hex:61 0003") 26
    ∷ refused (codes "node 0002 0000 1 1 hex:61 ") 26
    ∷ refused (codes "pair 0002 0000 1 1 hex:61 2 hex:62 0003") 35
    ∷ refused (codes "pair 0002 0000 1 1 hex:61 2 hex:62 ") 35
    ∷ refused (codes "old 0002 0000 1 1 hex:61 0003") 25
    ∷ refused (codes "old 0002 0000 1 1 hex:61 ") 25
    ∷ refused (codes "updater 0001 0000 7 5 0 push 12 200 2 hex:61 0002 0003") 50
    ∷ refused (codes "updater 0001 0000 7 5 0 push 12 200 2 hex:61 0002 ") 50
    ∷ refused (codes "distributor 0001 1 0003") 19
    ∷ refused (codes "distributor 0001 1 ") 19
    ∷ refused (codes "stock 0001 1 hex:61 0003") 20
    ∷ refused (codes "stock 0001 1 hex:61 ") 20
    ∷ refused (codes "say 0001 0002 00 0003") 17
    ∷ refused (codes "say 0001 0002 00 ") 17
    ∷ refused (codes "deliver 0 0002 0003") 15
    ∷ refused (codes "deliver 0 0002 ") 15
    ∷ refused (codes "time 0002 1 0003") 12
    ∷ refused (codes "time 0002 1 ") 12
    ∷ refused (codes "cut 0002 0003") 9
    ∷ refused (codes "cut 0002 ") 9
    ∷ refused (codes "tear 0002 1 all 0003") 16
    ∷ refused (codes "tear 0002 1 all ") 16
    ∷ refused (codes "settle 1 0003") 9
    ∷ refused (codes "settle 1 ") 9
    ∷ refused (codes "active 0002 0003") 12
    ∷ refused (codes "active 0002 ") 12
    ∷ refused (codes "phase 0002 0003") 11
    ∷ refused (codes "phase 0002 ") 11
    ∷ refused (codes "rows 0002 0003") 10
    ∷ refused (codes "rows 0002 ") 10
    ∷ refused (codes "packet 0 0003") 9
    ∷ refused (codes "packet 0 ") 9
    ∷ refused (codes "cut  0002") 4
    ∷ refused (codes " cut 0002") 0
    ∷ refused (codes " ") 0
    ∷ refused (codes "cuts 0002") 0
    ∷ refused (codes "Cut 0002") 0
    ∷ refused (codes "0002 cut") 0
    ∷ refused (codes "x") 0
    ∷ []
