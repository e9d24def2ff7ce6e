-- Worked rows.
use Rattle.std.specs.Prelude.{ℕ, ◌≡◌, List, [], ◌∷◌, ◌++◌, replicate, Option, Some, None}
use Rattle.mu_model_node.specs.Worked.{digest_abc}
use Rattle.mu_model_script.specs.Event.{Event, Node, Updater, Distributor, Stock, Say, Deliver, Time, Cut, Tear, Active, Phase, Rows, Packet}
use Rattle.mu_model_script.specs.Tokens.{Hex, Made}
use Rattle.mu_model_script.specs.declared.BadWhy.TheVariants.{Token as BadToken, Member as BadMember, Packet as BadPacket, Premise}
use Rattle.mu_model_flash.specs.declared.Pattern.TheVariants.{New as NewBits}
use Rattle.mu_model_world.specs.Judged.{against}
use Rattle.mu_model_mesh.specs.Mesh.{Mesh, new_mesh}
use Rattle.mu_model_mesh.specs.MeshOutcomes.{MeshOutcome, mesh_outcomes}
use Rattle.mu_model_mesh.specs.MeshJudged.{mesh_objection}

-- the first of the worlds that may come of these lines, and of each line before
abbrev pub first_or : Mesh → List MeshOutcome → Mesh
first_or m [] = m
first_or m (o ∷ others) = o.mesh

abbrev pub after : Mesh → List Event → Mesh
after m [] = m
after m (event ∷ events) = after (first_or m (mesh_outcomes m event)) events

abbrev pub image_61 : List ℕ
image_61 = 0x61 ∷ []

-- an updater at 0001, a node at 0002, a distributor at 0003 with four images
abbrev pub members : List Event
members =
    Updater 1 0xC000 7 5 0 1 12 200 2 (Hex image_61) (2 ∷ []) ∷ Node 2 0xC000 1 1 (Hex image_61) ∷ Distributor 3 1 ∷ Stock 3 2 (Hex image_61)
    ∷ Stock 3 3 (Hex image_61)
    ∷ Stock 3 4 (Hex image_61)
    ∷ []

abbrev pub scene : Mesh
scene = after new_mesh members

-- and a packet from 0009 to the group
abbrev pub begun_scene : Mesh
begun_scene = after scene (Say 9 0xC000 (0x83 ∷ 0x0C ∷ []) ∷ [])

-- an Update Start under a BLOB ID
abbrev pub update_start : (id : List ℕ) → List ℕ
update_start id = 0x83 ∷ 0x0D ∷ 5 ∷ 0 ∷ 0 ∷ id ++ 0 ∷ 3 ∷ 0 ∷ 0 ∷ 0 ∷ 2 ∷ 0 ∷ 0 ∷ 0 ∷ digest_abc

pub record Objections : Type 0 where
  -- an address that is used, by a member of any kind; a fifth image; no distributor; a content past the bank
  pub used : mesh_objection scene (Node 3 0 1 1 (Hex image_61)) ≡ against 1 BadMember
  pub again : mesh_objection scene (Distributor 1 1) ≡ against 1 BadMember
  pub fourth : mesh_objection scene (Stock 3 5 (Hex image_61)) ≡ None
  pub fifth : mesh_objection (after scene (Stock 3 5 (Hex image_61) ∷ [])) (Stock 3 6 (Hex image_61)) ≡ against 1 BadMember
  pub kind : mesh_objection scene (Stock 2 5 (Hex image_61)) ≡ against 1 BadMember
  pub past : mesh_objection scene (Stock 3 5 (Hex (replicate 4097 0))) ≡ against 3 BadToken
  -- a member line that comes too late
  pub late_stock : mesh_objection begun_scene (Stock 3 5 (Hex image_61)) ≡ against 0 BadMember
  pub late_updater : mesh_objection begun_scene (Updater 4 0 7 5 0 1 12 200 2 (Hex image_61) (2 ∷ [])) ≡ against 0 BadMember
  -- the wrong kind
  pub cut_updater : mesh_objection begun_scene (Cut 1) ≡ against 1 BadMember
  pub cut_distributor : mesh_objection begun_scene (Cut 3) ≡ None
  pub tear_updater : mesh_objection begun_scene (Tear 1 1 NewBits) ≡ against 1 BadMember
  pub active_distributor : mesh_objection begun_scene (Active 3) ≡ against 1 BadMember
  pub rows_node : mesh_objection begun_scene (Rows 2) ≡ against 1 BadMember
  pub rows_updater : mesh_objection begun_scene (Rows 1) ≡ None
  pub phase_updater : mesh_objection begun_scene (Phase 1) ≡ None
  pub time_unknown : mesh_objection begun_scene (Time 9 0) ≡ against 1 BadMember
  -- a packet to the group is for the node alone
  pub to_node : mesh_objection begun_scene (Deliver 0 2) ≡ None
  pub to_distributor : mesh_objection begun_scene (Deliver 0 3) ≡ against 2 BadPacket
  pub to_updater : mesh_objection begun_scene (Deliver 0 1) ≡ against 2 BadPacket
  pub no_packet : mesh_objection begun_scene (Deliver 1 2) ≡ against 1 BadPacket
  pub no_member : mesh_objection begun_scene (Deliver 1 9) ≡ against 2 BadMember
  pub shown : mesh_objection begun_scene (Packet 0) ≡ None
  pub not_shown : mesh_objection begun_scene (Packet 1) ≡ against 1 BadPacket
  -- a stranger has no member's address, and no member's BLOB ID
  pub as_distributor : mesh_objection begun_scene (Say 3 2 (0x83 ∷ 0x0C ∷ [])) ≡ against 1 Premise
  pub as_updater : mesh_objection begun_scene (Say 1 2 (0x83 ∷ 0x0C ∷ [])) ≡ against 1 Premise
  pub of_updater : mesh_objection begun_scene (Say 9 2 (update_start (7 ∷ 0 ∷ 0 ∷ 0 ∷ 0 ∷ 0 ∷ 1 ∷ 0 ∷ []))) ≡ against 3 Premise
  pub of_stranger : mesh_objection begun_scene (Say 9 2 (update_start (7 ∷ 0 ∷ 0 ∷ 0 ∷ 0 ∷ 0 ∷ 4 ∷ 0 ∷ []))) ≡ None
