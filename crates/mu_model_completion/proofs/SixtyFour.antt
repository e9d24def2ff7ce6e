-- Three receivers and 64 KiB.
use Rattle.std.proofs.Common.{◌≡◌, ap, ◌⊎◌, inl, inr, ◌<◌, ◌≤◌, ◌^◌, ℕ, List, [], ◌∷◌, refl, sym, subst, true, false, arith, length}
use Rattle.mu_model_image.specs.Pieces.{block_length, chunk_count}
use Rattle.mu_model_client.specs.Client.{chunk_total}
use Rattle.mu_model_image.specs.Laws.{MetaIsReadBack, FitIsTested, ImagesFit, ImagesHaveMetadata}
use Rattle.mu_model_node.specs.Worked.{image_a}
use Rattle.mu_model_node.specs.NodeState.{restarted, new_node}
use Rattle.mu_model_client_laws.specs.Laws.{KeepsPlan, FieldsAreRead}
use Rattle.mu_model_completion.specs.Completion.{IsUpdate, Takes, CanBegin, AllFull, After70And71, plan_64, members_64, push_turns}
use Rattle.mu_model_completion.proofs.Blocks.{Tiles}
use Rattle.mu_model_completion.proofs.Theorem.{push_completes}
use Rattle.mu_model_completion.proofs.Sharp.{takes_all}

module _ (laws : KeepsPlan) (fields : FieldsAreRead) (tiles : Tiles) (read : MetaIsReadBack) (tested : FitIsTested) (fit : ImagesFit) (metas : ImagesHaveMetadata) (version : ℕ) (image : List ℕ) (newer : 1 < version) (small : version < 2 ^ 32) (long : length image ≡ 65536) where
  update : IsUpdate (plan_64 version image) image
  update = record {
    log_least = omega arith;
    log_most = omega arith;
    chunk_least = omega arith;
    chunk_most = omega arith;
    size = sym long;
    meta = metas version image (omega (arith, long)) (omega (arith, long)) small;
    fit = fit version image;
    apply = refl;
  }

  takes : (a : ℕ) → ((a ≡ 2) ⊎ ((a ≡ 3) ⊎ (a ≡ 4))) → Takes (plan_64 version image) (members_64 version image) a
  takes a (inl e) = subst (Takes (plan_64 version image) (members_64 version image)) (sym e) (record {
    config = record { address = 2; group = 0xC000 };
    moment = 0;
    state = restarted (new_node 16 image_a);
    found = refl;
    handed = omega arith;
    can = record {
      idle = refl;
      active = image_a;
      others = [];
      images = refl;
      older = newer;
      room = omega (arith, long);
      some_group = inr (omega arith);
      in_group = inr refl;
    };
    unicast = omega arith;
  })
  takes a (inr (inl e)) = subst (Takes (plan_64 version image) (members_64 version image)) (sym e) (record {
    config = record { address = 3; group = 0xC000 };
    moment = 0;
    state = restarted (new_node 16 image_a);
    found = refl;
    handed = omega arith;
    can = record {
      idle = refl;
      active = image_a;
      others = [];
      images = refl;
      older = newer;
      room = omega (arith, long);
      some_group = inr (omega arith);
      in_group = inr refl;
    };
    unicast = omega arith;
  })
  takes a (inr (inr e)) = subst (Takes (plan_64 version image) (members_64 version image)) (sym e) (record {
    config = record { address = 4; group = 0xC000 };
    moment = 0;
    state = restarted (new_node 16 image_a);
    found = refl;
    handed = omega arith;
    can = record {
      idle = refl;
      active = image_a;
      others = [];
      images = refl;
      older = newer;
      room = omega (arith, long);
      some_group = inr (omega arith);
      in_group = inr refl;
    };
    unicast = omega arith;
  })

  from : CanBegin (plan_64 version image) image (2 ∷ 3 ∷ 4 ∷ []) (members_64 version image)
  from = record {
    update = update;
    config = record { address = 1; group = 0 };
    moment = 0;
    from = refl;
    updater = refl;
    distinct = (refl, (refl, (refl, (refl, tt))));
    quiet = ((λ e. not_it e), ((λ e. tt), ((λ e. tt), ((λ e. tt), tt))));
    some = omega arith;
    few = omega arith;
    none_twice = (((λ e. omega (arith, e)), ((λ e. omega (arith, e)), tt)), (((λ e. omega (arith, e)), tt), (tt, tt)));
    takes = (takes 2 (inl refl), (takes 3 (inr (inl refl)), (takes 4 (inr (inr refl)), tt)));
  }
    where
      not_it : {A : Type 0} → true ≡ false → A
      not_it e = absurd (no e)
        where
          no : true ≡ false → ⊥
          no h = grind (arith, h)

  bound : push_turns (plan_64 version image).sending 3 ≤ 71
  bound = omega arith

  full : AllFull (plan_64 version image).sending
  full b lt = chunks_in b (omega (arith, lt))
    where
      whole_block : (b : ℕ) → b < 16 → block_length 65536 12 b ≡ 4096
      whole_block b lt = omega (arith, lt)

      chunks_in : (b : ℕ) → b < 16 → chunk_total (plan_64 version image).sending b ≡ 21
      chunks_in b lt = ap (λ n. chunk_count n 200) (whole_block b lt)

  pub three : After70And71 version image
  unfolding from
  three = record {
    seventy = takes_all laws fields tiles read tested (plan_64 version image) image (2 ∷ 3 ∷ 4 ∷ []) (members_64 version image) from refl refl (omega arith) full;
    seventy_one = (push_completes laws fields tiles read tested (plan_64 version image) image (2 ∷ 3 ∷ 4 ∷ []) (members_64 version image) from refl 71 bound).rows;
  }
