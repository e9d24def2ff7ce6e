-- Scripts of which the last line is refused.
use Rattle.std.specs.Prelude.{[], ◌∷◌, codes}
use Rattle.mu_model_mesh_rows.specs.Scenes.{Refused}

-- the 33rd member
abbrev pub member_33 : Refused
member_33 = record {
  before =
      codes "node 0001 0000 1 1 hex:61"
      ∷ codes "node 0002 0000 1 1 hex:61"
      ∷ codes "node 0003 0000 1 1 hex:61"
      ∷ codes "node 0004 0000 1 1 hex:61"
      ∷ codes "node 0005 0000 1 1 hex:61"
      ∷ codes "node 0006 0000 1 1 hex:61"
      ∷ codes "node 0007 0000 1 1 hex:61"
      ∷ codes "node 0008 0000 1 1 hex:61"
      ∷ codes "node 0009 0000 1 1 hex:61"
      ∷ codes "node 000a 0000 1 1 hex:61"
      ∷ codes "node 000b 0000 1 1 hex:61"
      ∷ codes "node 000c 0000 1 1 hex:61"
      ∷ codes "node 000d 0000 1 1 hex:61"
      ∷ codes "node 000e 0000 1 1 hex:61"
      ∷ codes "node 000f 0000 1 1 hex:61"
      ∷ codes "node 0010 0000 1 1 hex:61"
      ∷ codes "node 0011 0000 1 1 hex:61"
      ∷ codes "node 0012 0000 1 1 hex:61"
      ∷ codes "node 0013 0000 1 1 hex:61"
      ∷ codes "node 0014 0000 1 1 hex:61"
      ∷ codes "node 0015 0000 1 1 hex:61"
      ∷ codes "node 0016 0000 1 1 hex:61"
      ∷ codes "node 0017 0000 1 1 hex:61"
      ∷ codes "node 0018 0000 1 1 hex:61"
      ∷ codes "node 0019 0000 1 1 hex:61"
      ∷ codes "node 001a 0000 1 1 hex:61"
      ∷ codes "node 001b 0000 1 1 hex:61"
      ∷ codes "node 001c 0000 1 1 hex:61"
      ∷ codes "node 001d 0000 1 1 hex:61"
      ∷ codes "node 001e 0000 1 1 hex:61"
      ∷ codes "node 001f 0000 1 1 hex:61"
      ∷ codes "node 0020 0000 1 1 hex:61"
      ∷ [];
  line = codes "node 0100 0000 1 1 hex:61";
  printed = [];
  place = 0;
  word = codes "member";
}

-- a member line that comes too late
abbrev pub late_member : Refused
late_member = record {
  before =
      codes "node 0002 0000 1 1 hex:61"
      ∷ codes "phase 0002"
      ∷ [];
  line = codes "node 0003 0000 1 1 hex:61";
  printed = codes "phase 0002 0 0" ∷ [];
  place = 0;
  word = codes "member";
}

-- too late and used: the line's word
abbrev pub late_and_used : Refused
late_and_used = record {
  before =
      codes "node 0002 0000 1 1 hex:61"
      ∷ codes "active 0002"
      ∷ [];
  line = codes "node 0002 0000 1 1 hex:61";
  printed = codes "active 0002 1 1 ca978112ca1bbdcafac231b39a23dc4da786eff8147c4e72b9807785afee48bb" ∷ [];
  place = 0;
  word = codes "member";
}

-- an address that is used
abbrev pub used : Refused
used = record {
  before =
      codes "node 0002 0000 1 1 hex:61"
      ∷ [];
  line = codes "updater 0002 0000 7 5 0 push 12 200 2 hex:61 0003";
  printed = [];
  place = 8;
  word = codes "member";
}

-- a content of a bank and an octet
abbrev pub past_bank : Refused
past_bank = record {
  before =
      [];
  line = codes "node 0002 0000 1 1 made:0:4097";
  printed = [];
  place = 19;
  word = codes "token";
}

-- the second content
abbrev pub past_second : Refused
past_second = record {
  before =
      [];
  line = codes "pair 0002 0000 1 1 made:0:4096 1 made:0:4097";
  printed = [];
  place = 33;
  word = codes "token";
}

-- of a distributor
abbrev pub stock_past : Refused
stock_past = record {
  before =
      codes "distributor 0001 1"
      ∷ codes "stock 0001 1 made:0:4096"
      ∷ [];
  line = codes "stock 0001 1 made:0:4097";
  printed = [];
  place = 13;
  word = codes "token";
}

-- a fifth image
abbrev pub fifth_image : Refused
fifth_image = record {
  before =
      codes "distributor 0001 1"
      ∷ codes "stock 0001 1 hex:61"
      ∷ codes "stock 0001 2 hex:61"
      ∷ codes "stock 0001 3 hex:61"
      ∷ codes "stock 0001 4 hex:61"
      ∷ [];
  line = codes "stock 0001 5 hex:61";
  printed = [];
  place = 6;
  word = codes "member";
}

-- a member before a content
abbrev pub member_then_token : Refused
member_then_token = record {
  before =
      codes "node 0002 0000 1 1 hex:61"
      ∷ [];
  line = codes "node 0002 0000 1 1 made:0:4097";
  printed = [];
  place = 5;
  word = codes "member";
}

-- no such packet
abbrev pub no_packet : Refused
no_packet = record {
  before =
      codes "node 0002 0000 1 1 hex:61"
      ∷ [];
  line = codes "deliver 0 0002";
  printed = [];
  place = 8;
  word = codes "packet";
}

-- no addressee
abbrev pub no_addressee : Refused
no_addressee = record {
  before =
      codes "node 0002 0000 1 1 hex:61"
      ∷ codes "node 0003 0000 1 1 hex:61"
      ∷ codes "say 0009 0002 830c"
      ∷ [];
  line = codes "deliver 0 0003";
  printed = codes "sent 0 0009 0002 830c" ∷ [];
  place = 10;
  word = codes "packet";
}

-- an unknown member before the packet
abbrev pub no_member : Refused
no_member = record {
  before =
      codes "node 0002 0000 1 1 hex:61"
      ∷ [];
  line = codes "deliver 0 0003";
  printed = [];
  place = 10;
  word = codes "member";
}

-- a stranger at a member's address
abbrev pub premise_from : Refused
premise_from = record {
  before =
      codes "node 0002 0000 1 1 hex:61"
      ∷ [];
  line = codes "say 0002 0002 830c";
  printed = [];
  place = 4;
  word = codes "premise";
}

-- an update under a member's BLOB ID
abbrev pub premise_id : Refused
premise_id = record {
  before =
      codes "updater 0001 0000 7 5 0 push 12 200 2 hex:61 0002"
      ∷ codes "node 0002 0000 1 1 hex:61"
      ∷ [];
  line = codes "say 0009 0002 830d0500000700000000000100000300000002000000ba7816bf8f01cfea414140de5dae2223b00361a396177a9cb410ff61f20015ad";
  printed = [];
  place = 14;
  word = codes "premise";
}

-- rows of a node
abbrev pub rows_of_node : Refused
rows_of_node = record {
  before =
      codes "node 0002 0000 1 1 hex:61"
      ∷ [];
  line = codes "rows 0002";
  printed = [];
  place = 5;
  word = codes "member";
}

-- an updater has no flash
abbrev pub cut_updater : Refused
cut_updater = record {
  before =
      codes "updater 0001 0000 7 5 0 push 12 200 2 hex:61 0002"
      ∷ [];
  line = codes "cut 0001";
  printed = [];
  place = 4;
  word = codes "member";
}

-- a number out of its limit
abbrev pub bad_token : Refused
bad_token = record {
  before =
      codes "node 0002 0000 1 1 hex:61"
      ∷ codes "settle 1"
      ∷ [];
  line = codes "settle 0";
  printed = [];
  place = 7;
  word = codes "token";
}
