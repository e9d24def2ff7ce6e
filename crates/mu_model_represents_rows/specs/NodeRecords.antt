-- Records that are a node's, octet by octet, at the ends of the ranges of their fields.
use Rattle.std.specs.Prelude.{ℕ, List, [], ◌∷◌, ◌++◌, replicate, Some, None}
use Rattle.mu_model_record.specs.declared.BankState.{BankState}
use Rattle.mu_model_record.specs.declared.BankState.TheVariants.{Empty, Filling, Sealed}
use Rattle.mu_model_record.specs.Record.{zeros}
use Rattle.mu_model_node.specs.declared.Stored.TheVariants.{Verified, Refused, Applied}
use Rattle.mu_model_node.specs.declared.Stored.TheVariants.{Filling as Coming}
use Rattle.mu_model_represents.specs.RepresentsNode.{IsNodeRecord}
pub use Rattle.mu_model_represents.specs.WorkedNode.{record_of}

abbrev pub digest : List ℕ
digest = replicate 32 0x11

-- image 0 has version 1, image 1 version 5
abbrev pub first : BankState
first = Sealed (record { size = 1; version = 1; digest = digest })

abbrev pub second : BankState
second = Sealed (record { size = 1; version = 5; digest = digest })

pub record NodeRecords : Type 0 where
  -- without a job any TTL is read
  pub other_ttl : IsNodeRecord (record_of 2 (first ∷ Empty ∷ Empty ∷ Empty ∷ []) ((zeros 64) ++ ((3 ∷ 0 ∷ 0 ∷ 7 ∷ []) ++ (zeros 40 ++ (0 ∷ 0 ∷ zeros 1682))))) (None) (record { active = 0 ∷ []; job = None })
  -- and in an old note too
  pub last_ttl : IsNodeRecord (record_of 2 (first ∷ Empty ∷ Empty ∷ Empty ∷ []) ((zeros 64) ++ ((1 ∷ 0 ∷ 0 ∷ 0xff ∷ []) ++ (zeros 40 ++ zeros 1684)))) (None) (record { active = 0 ∷ []; job = None })
  -- each number at its least
  pub least : IsNodeRecord (record_of 2 (first ∷ Empty ∷ Empty ∷ Empty ∷ []) (((0x01 ∷ 0 ∷ 0 ∷ 0 ∷ 0 ∷ 0 ∷ 0 ∷ 0 ∷ 0 ∷ 0 ∷ 0 ∷ 0 ∷ 1 ∷ 0 ∷ 0 ∷ 0 ∷ 0 ∷ 0 ∷ 1 ∷ 0 ∷ []) ++ zeros 44) ++ ((3 ∷ 0 ∷ 2 ∷ 0 ∷ []) ++ (((1 ∷ 0 ∷ 0 ∷ 0 ∷ 2 ∷ 0 ∷ 0 ∷ 0 ∷ []) ++ digest) ++ (0 ∷ 0 ∷ zeros 1682))))) (Some (record { id = 0; size = 1; base = 0; bank = 1; parameters = None })) (record { active = 0 ∷ []; job = Some (record { stored = Coming; ttl = 0; meta = record { size = 1; version = 2; digest = digest }; index = 0 }) })
  -- each number at its greatest
  pub most : IsNodeRecord (record_of 2 (first ∷ Filling 4096 14 ∷ Empty ∷ Empty ∷ []) (((0x01 ∷ 2 ∷ 0xff ∷ 0xff ∷ 0xff ∷ 0xff ∷ 0xff ∷ 0xff ∷ 0xff ∷ 0xff ∷ 0xff ∷ 0xff ∷ 0 ∷ 0x10 ∷ 0 ∷ 0 ∷ 0xff ∷ 0xff ∷ 1 ∷ 0xe ∷ []) ++ zeros 44) ++ ((3 ∷ 0 ∷ 2 ∷ 0xff ∷ []) ++ (((0 ∷ 0x10 ∷ 0 ∷ 0 ∷ 0xff ∷ 0xff ∷ 0xff ∷ 0xff ∷ []) ++ digest) ++ (0 ∷ 0 ∷ zeros 1682))))) (Some (record { id = 18446744073709551615; size = 4096; base = 65535; bank = 1; parameters = Some (record { mode = 2; size = 4096; log = 14; mtu = 65535 }) })) (record { active = 0 ∷ []; job = Some (record { stored = Coming; ttl = 255; meta = record { size = 4096; version = 4294967295; digest = digest }; index = 0 }) })
  -- the least MTU and the least log
  pub least_parameters : IsNodeRecord (record_of 2 (first ∷ Filling 1 12 ∷ Empty ∷ Empty ∷ []) (((0x01 ∷ 1 ∷ 0x14 ∷ 0 ∷ 7 ∷ 0 ∷ 0 ∷ 0 ∷ 0 ∷ 0 ∷ 0 ∷ 0 ∷ 1 ∷ 0 ∷ 0 ∷ 0 ∷ 0 ∷ 0 ∷ 1 ∷ 0xc ∷ []) ++ zeros 44) ++ ((3 ∷ 0 ∷ 2 ∷ 5 ∷ []) ++ (((1 ∷ 0 ∷ 0 ∷ 0 ∷ 2 ∷ 0 ∷ 0 ∷ 0 ∷ []) ++ digest) ++ (0 ∷ 0 ∷ zeros 1682))))) (Some (record { id = 7; size = 1; base = 0; bank = 1; parameters = Some (record { mode = 1; size = 1; log = 12; mtu = 20 }) })) (record { active = 0 ∷ []; job = Some (record { stored = Coming; ttl = 5; meta = record { size = 1; version = 2; digest = digest }; index = 0 }) })
  -- stored 4: the bank is Sealed with the job's metadata, and the log 12 to 14
  pub verified : IsNodeRecord (record_of 2 (first ∷ Sealed (record { size = 3; version = 2; digest = digest }) ∷ Empty ∷ Empty ∷ []) (((0x01 ∷ 1 ∷ 0x7c ∷ 1 ∷ 7 ∷ 0 ∷ 0 ∷ 0 ∷ 0 ∷ 0 ∷ 0 ∷ 0 ∷ 3 ∷ 0 ∷ 0 ∷ 0 ∷ 0 ∷ 0 ∷ 1 ∷ 0xc ∷ []) ++ zeros 44) ++ ((3 ∷ 0 ∷ 4 ∷ 5 ∷ []) ++ (((3 ∷ 0 ∷ 0 ∷ 0 ∷ 2 ∷ 0 ∷ 0 ∷ 0 ∷ []) ++ digest) ++ (0 ∷ 0 ∷ zeros 1682))))) (Some (record { id = 7; size = 3; base = 0; bank = 1; parameters = Some (record { mode = 1; size = 3; log = 12; mtu = 380 }) })) (record { active = 0 ∷ []; job = Some (record { stored = Verified; ttl = 5; meta = record { size = 3; version = 2; digest = digest }; index = 0 }) })
  -- the greatest log
  pub verified_log : IsNodeRecord (record_of 2 (first ∷ Sealed (record { size = 4096; version = 2; digest = digest }) ∷ Empty ∷ Empty ∷ []) (((0x01 ∷ 2 ∷ 0x7c ∷ 1 ∷ 7 ∷ 0 ∷ 0 ∷ 0 ∷ 0 ∷ 0 ∷ 0 ∷ 0 ∷ 0 ∷ 0x10 ∷ 0 ∷ 0 ∷ 0 ∷ 0 ∷ 1 ∷ 0xe ∷ []) ++ zeros 44) ++ ((3 ∷ 0 ∷ 4 ∷ 5 ∷ []) ++ (((0 ∷ 0x10 ∷ 0 ∷ 0 ∷ 2 ∷ 0 ∷ 0 ∷ 0 ∷ []) ++ digest) ++ (0 ∷ 0 ∷ zeros 1682))))) (Some (record { id = 7; size = 4096; base = 0; bank = 1; parameters = Some (record { mode = 2; size = 4096; log = 14; mtu = 380 }) })) (record { active = 0 ∷ []; job = Some (record { stored = Verified; ttl = 5; meta = record { size = 4096; version = 2; digest = digest }; index = 0 }) })
  -- stored 5: no parameters
  pub refused : IsNodeRecord (record_of 2 (first ∷ Empty ∷ Empty ∷ Empty ∷ []) (((0x01 ∷ 0 ∷ 0 ∷ 0 ∷ 7 ∷ 0 ∷ 0 ∷ 0 ∷ 0 ∷ 0 ∷ 0 ∷ 0 ∷ 3 ∷ 0 ∷ 0 ∷ 0 ∷ 0 ∷ 0 ∷ 1 ∷ 0 ∷ []) ++ zeros 44) ++ ((3 ∷ 0 ∷ 5 ∷ 5 ∷ []) ++ (((3 ∷ 0 ∷ 0 ∷ 0 ∷ 2 ∷ 0 ∷ 0 ∷ 0 ∷ []) ++ digest) ++ (0 ∷ 0 ∷ zeros 1682))))) (Some (record { id = 7; size = 3; base = 0; bank = 1; parameters = None })) (record { active = 0 ∷ []; job = Some (record { stored = Refused; ttl = 5; meta = record { size = 3; version = 2; digest = digest }; index = 0 }) })
  -- stored 6
  pub applied : IsNodeRecord (record_of 2 (first ∷ Sealed (record { size = 3; version = 2; digest = digest }) ∷ Empty ∷ Empty ∷ []) (((0x01 ∷ 1 ∷ 0x7c ∷ 1 ∷ 7 ∷ 0 ∷ 0 ∷ 0 ∷ 0 ∷ 0 ∷ 0 ∷ 0 ∷ 3 ∷ 0 ∷ 0 ∷ 0 ∷ 0 ∷ 0 ∷ 1 ∷ 0xd ∷ []) ++ zeros 44) ++ ((3 ∷ 0 ∷ 6 ∷ 5 ∷ []) ++ (((3 ∷ 0 ∷ 0 ∷ 0 ∷ 2 ∷ 0 ∷ 0 ∷ 0 ∷ []) ++ digest) ++ (0 ∷ 0 ∷ zeros 1682))))) (Some (record { id = 7; size = 3; base = 0; bank = 1; parameters = Some (record { mode = 1; size = 3; log = 13; mtu = 380 }) })) (record { active = 0 ∷ []; job = Some (record { stored = Applied; ttl = 5; meta = record { size = 3; version = 2; digest = digest }; index = 0 }) })
  -- a job in an old note
  pub old_job : IsNodeRecord (record_of 2 (first ∷ Empty ∷ Empty ∷ Empty ∷ []) (((0x01 ∷ 0 ∷ 0 ∷ 0 ∷ 7 ∷ 0 ∷ 0 ∷ 0 ∷ 0 ∷ 0 ∷ 0 ∷ 0 ∷ 3 ∷ 0 ∷ 0 ∷ 0 ∷ 0 ∷ 0 ∷ 1 ∷ 0 ∷ []) ++ zeros 44) ++ ((1 ∷ 0 ∷ 2 ∷ 5 ∷ []) ++ (((3 ∷ 0 ∷ 0 ∷ 0 ∷ 2 ∷ 0 ∷ 0 ∷ 0 ∷ []) ++ digest) ++ zeros 1684)))) (Some (record { id = 7; size = 3; base = 0; bank = 1; parameters = None })) (record { active = 0 ∷ []; job = Some (record { stored = Coming; ttl = 5; meta = record { size = 3; version = 2; digest = digest }; index = 0 }) })
  -- verified in an old note
  pub old_verified : IsNodeRecord (record_of 2 (first ∷ Sealed (record { size = 3; version = 2; digest = digest }) ∷ Empty ∷ Empty ∷ []) (((0x01 ∷ 1 ∷ 0x7c ∷ 1 ∷ 7 ∷ 0 ∷ 0 ∷ 0 ∷ 0 ∷ 0 ∷ 0 ∷ 0 ∷ 3 ∷ 0 ∷ 0 ∷ 0 ∷ 0 ∷ 0 ∷ 1 ∷ 0xc ∷ []) ++ zeros 44) ++ ((1 ∷ 0 ∷ 4 ∷ 5 ∷ []) ++ (((3 ∷ 0 ∷ 0 ∷ 0 ∷ 2 ∷ 0 ∷ 0 ∷ 0 ∷ []) ++ digest) ++ zeros 1684)))) (Some (record { id = 7; size = 3; base = 0; bank = 1; parameters = Some (record { mode = 1; size = 3; log = 12; mtu = 380 }) })) (record { active = 0 ∷ []; job = Some (record { stored = Verified; ttl = 5; meta = record { size = 3; version = 2; digest = digest }; index = 0 }) })
  -- two images
  pub pair : IsNodeRecord (record_of 3 (first ∷ second ∷ Empty ∷ Empty ∷ []) ((zeros 64) ++ ((3 ∷ 0 ∷ 0 ∷ 9 ∷ []) ++ (zeros 40 ++ (1 ∷ 0 ∷ zeros 1682))))) (None) (record { active = 0 ∷ 1 ∷ []; job = None })
  -- a job for the first of them
  pub pair_first : IsNodeRecord (record_of 3 (first ∷ second ∷ Empty ∷ Empty ∷ []) (((0x01 ∷ 0 ∷ 0 ∷ 0 ∷ 7 ∷ 0 ∷ 0 ∷ 0 ∷ 0 ∷ 0 ∷ 0 ∷ 0 ∷ 3 ∷ 0 ∷ 0 ∷ 0 ∷ 0 ∷ 0 ∷ 2 ∷ 0 ∷ []) ++ zeros 44) ++ ((3 ∷ 0 ∷ 2 ∷ 5 ∷ []) ++ (((3 ∷ 0 ∷ 0 ∷ 0 ∷ 2 ∷ 0 ∷ 0 ∷ 0 ∷ []) ++ digest) ++ (1 ∷ 0 ∷ zeros 1682))))) (Some (record { id = 7; size = 3; base = 0; bank = 2; parameters = None })) (record { active = 0 ∷ 1 ∷ []; job = Some (record { stored = Coming; ttl = 5; meta = record { size = 3; version = 2; digest = digest }; index = 0 }) })
  -- and for the second: its version exceeds that one's
  pub pair_second : IsNodeRecord (record_of 3 (first ∷ second ∷ Empty ∷ Empty ∷ []) (((0x01 ∷ 0 ∷ 0 ∷ 0 ∷ 7 ∷ 0 ∷ 0 ∷ 0 ∷ 0 ∷ 0 ∷ 0 ∷ 0 ∷ 3 ∷ 0 ∷ 0 ∷ 0 ∷ 0 ∷ 0 ∷ 2 ∷ 0 ∷ []) ++ zeros 44) ++ ((3 ∷ 0 ∷ 2 ∷ 5 ∷ []) ++ (((3 ∷ 0 ∷ 0 ∷ 0 ∷ 6 ∷ 0 ∷ 0 ∷ 0 ∷ []) ++ digest) ++ (1 ∷ 1 ∷ zeros 1682))))) (Some (record { id = 7; size = 3; base = 0; bank = 2; parameters = None })) (record { active = 0 ∷ 1 ∷ []; job = Some (record { stored = Coming; ttl = 5; meta = record { size = 3; version = 6; digest = digest }; index = 1 }) })
