-- What members of a script offer, and what nodes make active.
use Rattle.std.specs.Prelude.{ℕ, ◌≡◌, ◌⊎◌, true, List, [], ◌∷◌, Some, Contains, slice_get}
use Rattle.sha2.specs.Sha256.{sha256}
use Rattle.mu_model_image.specs.Meta.{Image, IsMeta, IsFit, meta_octets}
use Rattle.mu_model_wire.specs.Packet.{Packet}
use Rattle.mu_model_node.specs.Log.{LogEntry, Took, Asked, Active, Reached}
use Rattle.mu_model_node.specs.Safe.{InOrder}
use Rattle.mu_model_node.specs.UpdateMessages.{UpdateStart}
use Rattle.mu_model_distributor.specs.DistState.{StoredImage}
use Rattle.mu_model_world.specs.Judged.{owner_of}
use Rattle.mu_model_world.specs.World.{Member, log_at}
use Rattle.mu_model_mesh.specs.Mesh.{UpdaterMember, DistributorMember, Mesh, new_mesh, is_member, node_at, updater_at, distributor_at}
use Rattle.mu_model_mesh.specs.MeshRun.{MeshRun}
use Rattle.mu_model_mesh_safety.specs.Facts.{IsStart}
use Rattle.mu_model_mesh_images.specs.Worlds.{worlds_in_run}

-- ---- images of members

-- in this world the updater or the distributor of an address has this image
pub data HasImage (m : Mesh) (address : ℕ) (image : Image) : Type 0 where
  of_updater : (u : UpdaterMember) → updater_at m address ≡ Some u → u.updater.image ≡ image → HasImage m address image
  of_distributor :
      (d : DistributorMember) (stored : StoredImage) → distributor_at m address ≡ Some d → Contains d.state.durable.images stored → stored.image ≡ image
      → HasImage m address image

-- it has or had it, in a world of these
pub record Had (worlds : List Mesh) (address : ℕ) (image : Image) : Type 0 where
  pub world : Mesh
  pub in_run : Contains worlds world
  pub has : HasImage world address image

-- ---- offers

-- an Update Start offers an image that the member of an address has or had
pub record OffersImage (worlds : List Mesh) (address : ℕ) (u : UpdateStart) : Type 0 where
  pub image : Image
  pub had : Had worlds address image
  pub metadata : u.metadata ≡ meta_octets image.meta
  pub range : IsMeta image.meta
  pub fits : IsFit image.octets image.meta

-- in each run each Update Start in the bag under a member's BLOB ID does
abbrev pub OffersAreOfImages : Type 0
OffersAreOfImages =
    (lines : List (List ℕ)) (text : List ℕ) (m : Mesh) (run : MeshRun new_mesh lines text m) (p : Packet) (u : UpdateStart)
    → Contains m.nodes.bag p → IsStart m p u → OffersImage (worlds_in_run new_mesh lines text m run) (owner_of u.id) u

-- ---- active images

-- an image of the run: that of an updater or a distributor, or the active one of a node
pub data IsOfWorlds (worlds : List Mesh) (image : Image) : Type 0 where
  of_member : (address : ℕ) → Had worlds address image → IsOfWorlds worlds image
  of_node :
      (m : Mesh) (address index : ℕ) (n : Member) → Contains worlds m → node_at m address ≡ Some n → slice_get n.state.durable.images index ≡ Some image
      → IsOfWorlds worlds image

-- no two of them that have different octets have one digest
abbrev pub DigestsDiffer : List Mesh → Type 0
DigestsDiffer worlds = (a b : Image) → IsOfWorlds worlds a → IsOfWorlds worlds b → sha256 a.octets ≡ sha256 b.octets → a.octets ≡ b.octets

-- it came by an update that was taken under a BLOB ID, verified, asked for and made active, in this order; under a member's BLOB ID it is an
-- image that this member has or had
pub record IsOffered (worlds : List Mesh) (m : Mesh) (log : List LogEntry) (index : ℕ) (image : Image) : Type 0 where
  pub id : ℕ
  pub in_order : InOrder (Took id index image.meta ∷ Reached id 4 ∷ Asked id ∷ Active index image.meta ∷ []) log
  pub had : is_member m (owner_of id) ≡ true → Had worlds (owner_of id) image

-- where no two images of a run have one digest, each active image of a node after it is its first one or was offered so
abbrev pub NewImagesAreOffered : Type 0
NewImagesAreOffered =
    (lines : List (List ℕ)) (text : List ℕ) (m : Mesh) (run : MeshRun new_mesh lines text m) → DigestsDiffer (worlds_in_run new_mesh lines text m run)
    → (address index : ℕ) (n : Member) (image : Image) → node_at m address ≡ Some n → slice_get n.state.durable.images index ≡ Some image
    → (slice_get n.first index ≡ Some image) ⊎ IsOffered (worlds_in_run new_mesh lines text m run) m (log_at address m.nodes.log) index image
