-- A chunk that completes the block that comes, and the block that is put.
use Rattle.std.proofs.Common.{◌≡◌, ◌≤◌, ℕ, Bool, true, false, List, Option, Some, None, length, refl, sym, subst, cond}
use Rattle.mu_model_node.specs.declared.Parameters.{Parameters}
use Rattle.mu_model_node.specs.Slots.{is_full, joined}
use Rattle.mu_model_node.specs.BlobServer.{Session}
use Rattle.mu_model_node.specs.BlobTable.{Served, completes}
use Rattle.mu_block.specs.Coming.{Coming, is_whole, whole_of, whole_size, IsOpen}
use Rattle.mu_blob_session.specs.Came.{CameWhole}

pub came_whole : (o : Served) (l : Session) (p : Parameters) (coming : Option Coming) → CameWhole o l p coming → is_whole coming ≡ true
came_whole o l p None h = absurd h
came_whole o l p (Some c) h = h.full

-- what holds of the row that completes it holds of the chunk's
pub came_row : (P : Served → Type 0) (o : Served) (l : Session) (p : Parameters) (coming : Option Coming) → CameWhole o l p coming → ((c : Coming) → coming ≡ Some c → P (completes l p c.block c.block.chunks)) → P o
came_row P o l p None h f = absurd h
came_row P o l p (Some c) h f = subst P (sym h.row) (f c refl)

-- ---- the block that is put

joined_by : (full : Bool) (all octets : List ℕ) → cond full (Some all) None ≡ Some octets → octets ≡ all
joined_by true all octets e = sym (cc e)
joined_by false all octets e = absurd (cc e)

pub octets_of : (octets : List ℕ) (coming : Option Coming) (c : Coming) → whole_of coming ≡ Some octets → coming ≡ Some c → octets ≡ joined c.block.chunks
octets_of octets None c e is = absurd (cc is)
octets_of octets (Some d) c e is = let same : d ≡ c = cc is in subst (λ (x : Coming). octets ≡ joined x.block.chunks) same (joined_by (is_full d.block.chunks) (joined d.block.chunks) octets e)

few_by : (full : Bool) (size n : ℕ) → size ≤ 16384 → cond full (Some size) None ≡ Some n → n ≤ 16384
few_by true size n h e = let same : size ≡ n = cc e in subst (λ (x : ℕ). x ≤ 16384) same h
few_by false size n h e = absurd (cc e)

pub few_octets : (n : ℕ) (coming : Option Coming) → IsOpen coming → whole_size coming ≡ Some n → n ≤ 16384
few_octets n None is_open e = absurd (cc e)
few_octets n (Some c) is_open e = few_by (is_full c.block.chunks) c.size n is_open.size_most e

-- the octets of a block that came are 16,384 at most
pub few_joined : (octets : List ℕ) (coming : Option Coming) (c : Coming) → IsOpen coming → Some octets ≡ whole_of coming → Some (length octets) ≡ whole_size coming → coming ≡ Some c → length (joined c.block.chunks) ≤ 16384
few_joined octets coming c is_open all size is =
    subst (λ (x : List ℕ). length x ≤ 16384) (octets_of octets coming c (sym all) is) (few_octets (length octets) coming is_open (sym size))
