-- What a boot of a node gives.
use Rattle.std.proofs.Common.{◌≡◌, ℕ, List, refl, sym, subst, inl, inr}
use Rattle.std.specs.Prelude.{Result, Ok, Err, IfOk, IfErr, OnErr, MatchResult}
use Rattle.mu_model_flash.specs.Flash.{Seen}
use Rattle.mu_model_record.specs.declared.Record.{Record}
use Rattle.mu_model_record.specs.Kinds.{IsStore}
use Rattle.mu_model_record.specs.Store.{StoreState}
use Rattle.mu_model_node.specs.BlobServer.{asleep}
use Rattle.mu_model_node.specs.NodeState.{NodeDurable, restarted}
use Rattle.mu_model_node.specs.Laws.{BootsAreSound}
use Rattle.mu_model_node.specs.Sound.{IsNodeDurable}
use Rattle.mu_model_serving.specs.Laws.{BootsAreLinked}
use Rattle.mu_model_represents.specs.BlobPart.{IsBlobRecord, IsNoBlobRecord}
use Rattle.mu_model_represents.specs.Boots.{IsForeignToNodes, NodesAreNotForeign}
use Rattle.mu_model_represents.specs.RepresentsNode.{IsNode, IsNoNodeRecord, RepresentsNode}
use Rattle.mu_model_shown_node.specs.Shown.{RepresentedIsShown, MemoryIsOne}
use Rattle.mu_note.specs.Views.{node_note}
use Rattle.mu_store.specs.Booted.{booted_record, booted_fresh, IsKind}
use Rattle.mu_store.specs.declared.booting.BootFail.{BootFail}
use Rattle.mu_store.specs.declared.booting.BootWhy.{BootWhy}
use Rattle.mu_store.specs.declared.booting.BootWhy.TheVariants.{Flash, Blank, Foreign, Damaged}
use Rattle.mu_store.specs.declared.booting.Booted.{Booted}
use Rattle.mu_store.specs.declared.booting.Booted.TheVariants.{Rest, Fill}
use Rattle.mu_place.specs.Place.{placed, place_record, place_fresh, PlaceHolds}
use Rattle.mu_kept.specs.Views.{part_in}
use Rattle.mu_blobsrv.specs.declared.server.BlobServer.{BlobServer}
use Rattle.mu_blobsrv.specs.Views.{store_of, place_of, session_of}
use Rattle.mu_node.specs.declared.node.Node.{Node}
use Rattle.mu_node.specs.Boots.{IsNodeKind}
use Rattle.mu_node.specs.Rules.{GoesWith}
use Rattle.mu_node.specs.Views.{server_in, note_in, moment_of, Holds}
use Rattle.mu_node.proofs.Shown.{Represents, shown_with, node_with, rules_with}

-- the record that a boot found, and its fresh slots
pub record_placed : {F : Type 0} {g : _} (booted : Booted F g) → booted_record booted ≡ place_record (placed booted)
record_placed (Rest store) = refl
record_placed (Fill filling) = refl

pub fresh_placed : {F : Type 0} {g : _} (booted : Booted F g) → booted_fresh booted ≡ place_fresh (placed booted)
fresh_placed (Rest store) = refl
fresh_placed (Fill filling) = refl

-- what is no store is no node
pub no_store : (image : List ℕ) (why : BootWhy) → IsKind image why → IsNodeKind image why
no_store image Flash is = tt
no_store image Blank is = is
no_store image Foreign is = inl is
no_store image (Damaged bank want found) is = is

-- a record that is no BLOB server's is no node's
pub no_node : (r : Record) → IsNoBlobRecord r → IsNoNodeRecord r
no_node r none part note is = none part is.blob

-- a store whose record is no node's is foreign to nodes
pub foreign : (image : List ℕ) (r q : Record) → IsStore image r → r ≡ q → IsNoNodeRecord q → IsForeignToNodes image
foreign image r q store same none = inr (r, store, subst (λ (p : Record). IsNoNodeRecord p) (sym same) none)

pub is_foreign : (image : List ℕ) (why : BootWhy) → why ≡ Foreign → IsForeignToNodes image → IsNodeKind image why
is_foreign image why e is = subst (λ (w : BootWhy). IsNodeKind image w) (sym e) is

-- and no node's flash is
pub never : (P : Type 0) (image : List ℕ) (d : NodeDurable) → NodesAreNotForeign → RepresentsNode d image → IsForeignToNodes image → P
never P image d law found is = absurd (law image d found is)

-- ---- the node of a server

pub node_kinds : {F : Type 0} {g : _} (image : List ℕ) (server : BlobServer F g) (result : Result (Node F g) (BootFail F)) → IsStore image (place_record (place_of server)) → IfOk result (λ node. server_in node ≡ server)
    → IfErr result (λ fail. fail.why ≡ Foreign) → OnErr result (IsNoNodeRecord (place_record (place_of server)))
    → MatchResult result (λ node. IsStore image (place_record (place_of (server_in node)))) (λ fail. IsNodeKind image fail.why)
node_kinds image server (Ok node) store same why none = subst (λ s. IsStore image (place_record (place_of s))) (sym same) store
node_kinds image server (Err fail) store same why none = is_foreign image fail.why why (foreign image (place_record (place_of server)) (place_record (place_of server)) store refl none)

-- what a boot says of the server that it found, beside a state that its flash represents
pub record IsBooted {F : Type 0} {g : _} (seen : F → Seen) (server : BlobServer F g) (s : StoreState) : Type 0 where
  pub holds : PlaceHolds seen (place_of server) s
  pub represents : Represents server s
  pub blob : IsBlobRecord (place_record (place_of server)) (part_in (store_of server))
  pub session : session_of server ≡ asleep
  pub fresh : place_fresh (place_of server) ≡ 0

module _ {F : Type 0} {g : _} (seen : F → Seen) (shown : RepresentedIsShown) (one : MemoryIsOne) (sound : BootsAreSound) (linked : BootsAreLinked) (d : NodeDurable) (is : IsNodeDurable d) (s : StoreState) (found : IsNode s d) where
  node_holds : (node : Node F g) → IsBooted seen (server_in node) s → GoesWith (place_record (place_of (server_in node))) (part_in (store_of (server_in node))) (node_note (note_in node)) → moment_of node ≡ 0
      → Holds seen node (restarted d)
  node_holds node booted goes moment =
      let of = (node_with (server_in node) (note_in node) s booted.represents) one (rules_with (server_in node) (note_in node) booted.blob goes) d found in
      record {
        shows = record {
          kept = (shown_with (server_in node) (note_in node) s booted.represents) shown d of;
          fresh = sym booted.fresh;
          session = sym booted.session;
          moment = sym moment;
          sound = sound d is;
          linked = linked d;
        };
        store = s;
        holds = booted.holds;
        represents = of;
      }

  pub node_state : (image : List ℕ) (server : BlobServer F g) (result : Result (Node F g) (BootFail F)) → IsBooted seen server s → IsStore image (place_record (place_of server)) → NodesAreNotForeign → RepresentsNode d image
      → IfOk result (λ node. server_in node ≡ server) → IfOk result (λ node. GoesWith (place_record (place_of server)) (part_in (store_of server)) (node_note (note_in node)))
      → IfOk result (λ node. moment_of node ≡ 0) → OnErr result (IsNoNodeRecord (place_record (place_of server)))
      → MatchResult result (λ node. Holds seen node (restarted d)) (λ fail. fail.why ≡ Flash)
  node_state image server (Ok node) booted store law has same goes moment none =
      node_holds node (subst (λ v. IsBooted seen v s) (sym same) booted) (subst (λ v. GoesWith (place_record (place_of v)) (part_in (store_of v)) (node_note (note_in node))) (sym same) goes) moment
  node_state image server (Err fail) booted store law has same goes moment none =
      never (fail.why ≡ Flash) image d law has (foreign image (place_record (place_of server)) (place_record (place_of server)) store refl none)
