-- Each active image of a node is its first one, or one that was offered.
use Rattle.std.proofs.Common.{◌≡◌, ℕ, zero, true, List, [], ◌∷◌, ◌++◌, refl, sym, ap, subst, ◌∙◌, arith, Some, Contains, inl, inr, slice_get}
use Rattle.std.proofs.lemmas.List.Elements.{Contains-append_right}
use Rattle.sha2.specs.Sha256.{sha256}
use Rattle.mu_model_image.specs.declared.Meta.{Meta}
use Rattle.mu_model_image.specs.Laws.{MetaIsReadBack}
use Rattle.mu_model_image.specs.Meta.{Image, IsFit, meta_from}
use Rattle.mu_model_node.specs.Log.{LogEntry}
use Rattle.mu_model_node.specs.Safe.{InOrder, none, here, later, IsUpdated, ImageIsSafe}
use Rattle.mu_model_world.specs.Judged.{owner_of}
use Rattle.mu_model_world.specs.World.{Member, log_at}
use Rattle.mu_model_mesh.specs.Mesh.{Mesh, new_mesh, is_member, node_at}
use Rattle.mu_model_mesh.specs.MeshRun.{MeshRun}
use Rattle.mu_model_mesh_safety.specs.Facts.{IsOfferedIn, FactsHold}
use Rattle.mu_model_mesh_safety.specs.Laws.{EveryWorldIsSafe, EveryFactHolds}
use Rattle.mu_model_mesh_images.specs.Laws.{Had, OffersImage, OffersAreOfImages, of_member, of_node, DigestsDiffer, IsOffered, NewImagesAreOffered}
use Rattle.mu_model_mesh_images.specs.Worlds.{worlds_in_line, worlds_in_run}
use Rattle.mu_model_mesh_images.proofs.Settling.{tail_in}

-- the last world of a run is one of it
end_in : (lines : List (List ℕ)) (m : Mesh) (text : List ℕ) (end : Mesh) (run : MeshRun m lines text end) → Contains (worlds_in_run m lines text end run) end
end_in [] m text end run = (zero, omega arith, refl)
end_in (line ∷ lines) m text end run =
    let own : List Mesh = worlds_in_line run.3 in
    let more : List Mesh = worlds_in_run run.0 lines run.2 end run.4 in
    tail_in m end (own ++ more) (Contains-append_right own more end (end_in lines run.0 run.2 end run.4))

first_of : (x : LogEntry) (xs log : List LogEntry) → InOrder (x ∷ xs) log → InOrder (x ∷ []) log
first_of x xs [] h = elim h [ ]
first_of x xs (y ∷ log) (here h) = here none
first_of x xs (y ∷ log) (later h) = later (first_of x xs log h)

same_some : (a b : Meta) → Some a ≡ Some b → a ≡ b
same_some a b e = cc

abbrev image_with : List ℕ → Meta → Image
image_with octets meta = record { octets = octets; meta = meta }

image_is : (a b : Image) → a.octets ≡ b.octets → a.meta ≡ b.meta → a ≡ b
image_is a b e f = ap (λ (o : List ℕ). image_with o a.meta) e ∙ ap (λ (m : Meta). image_with b.octets m) f

module _ (again : MetaIsReadBack) (worlds : List Mesh) (differ : DigestsDiffer worlds) where
  -- what was offered with these metadata is the image
  is_offered : (m : Mesh) (address index : ℕ) (n : Member) (image : Image) (id : ℕ) → Contains worlds m → node_at m address ≡ Some n → slice_get n.state.durable.images index ≡ Some image → IsFit image.octets image.meta
      → (offer : IsOfferedIn m.nodes.bag id index image.meta) → OffersImage worlds (owner_of offer.start.id) offer.start → Had worlds (owner_of id) image
  is_offered m address index n image id in_run at active whole offer o =
      let read : meta_from offer.start.metadata ≡ Some o.image.meta = ap meta_from o.metadata ∙ again o.image.meta o.range in
      let metas : o.image.meta ≡ image.meta = same_some o.image.meta image.meta (sym read ∙ offer.same_meta) in
      let digests : sha256 o.image.octets ≡ sha256 image.octets = o.fits.digest ∙ (ap (λ (x : Meta). x.digest) metas ∙ sym whole.digest) in
      let octets = differ o.image image (of_member (owner_of offer.start.id) o.had) (of_node m address index n in_run at active) digests in
      subst (λ (i : Image). Had worlds (owner_of id) i) (image_is o.image image octets metas) (subst (λ (x : ℕ). Had worlds (owner_of x) o.image) offer.same_id o.had)

module _ (again : MetaIsReadBack) (safe : EveryWorldIsSafe) (facts : EveryFactHolds) (offers : OffersAreOfImages) where
  by_update : (lines : List (List ℕ)) (text : List ℕ) (m : Mesh) (run : MeshRun new_mesh lines text m) → DigestsDiffer (worlds_in_run new_mesh lines text m run)
      → (address index : ℕ) (n : Member) (image : Image) → node_at m address ≡ Some n → slice_get n.state.durable.images index ≡ Some image
      → IsUpdated (log_at address m.nodes.log) index image → IsOffered (worlds_in_run new_mesh lines text m run) m (log_at address m.nodes.log) index image
  by_update lines text m run differ address index n image at active updated =
      let hold : FactsHold m = facts lines text m m run (inl refl) in
      let offer : IsOfferedIn m.nodes.bag updated.id index image.meta =
      hold.jobs address n updated.id index image.meta at (first_of _ _ (log_at address m.nodes.log) updated.in_order) in
      record {
        id = updated.id;
        in_order = updated.in_order;
        had = λ member.
            is_offered again (worlds_in_run new_mesh lines text m run) differ m address index n image updated.id (end_in lines new_mesh text m run) at active updated.whole offer
            (offers lines text m run offer.packet offer.start offer.in_bag
            (record { asks = offer.asks; owned = subst (λ (x : ℕ). is_member m (owner_of x) ≡ true) (sym offer.same_id) member }));
      }

  pub new_images_are_offered : NewImagesAreOffered
  new_images_are_offered lines text m run differ address index n image at active =
      let is : ImageIsSafe n.first (log_at address m.nodes.log) index image = (safe lines text m m run (inl refl)).images address n at index image active in
      elim is [ inl first ↦ inl first | inr updated ↦ inr (by_update lines text m run differ address index n image at active updated) ]
