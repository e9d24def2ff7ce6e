-- Events that come to addresses one after the other do to the members there what they do to typed members.
use Rattle.std.proofs.Common.{◌≡◌, ◌≢◌, ℕ, Bool, true, false, List, [], ◌∷◌, ◌++◌, map, filter, refl, sym, ap, subst, ◌∙◌, cond, append_assoc, append-nil}
use Rattle.std.specs.Prelude.{Contains}
use Rattle.std.specs.List.{AllByRecursion, flat_map}
use Rattle.mu_model_wire.specs.Packet.{Packet}
use Rattle.mu_model_mesh.specs.Mesh.{Mesh}
use Rattle.mu_model_mesh.specs.MeshOutcomes.{MeshOutcome}
use Rattle.mu_model_mesh.specs.Settle.{EachComes}
use Rattle.mu_model_completion.specs.Completion.{NoneTwice}
use Rattle.mu_model_completion.specs.Turn.{Member, Sent, Moved, stands}
use Rattle.mu_model_mesh_completion.proofs.Worlds.{member_of, Stable, NoneComes, NoneGoes}
use Rattle.mu_model_mesh_completion.proofs.Strays.{own_of, packet_in, EntryIs, Mixed}
use Rattle.mu_model_mesh_completion.proofs.Happens.{Does}

-- ---- lists

pub map_joined : {A B : Type 0} (f : A → B) (xs ys : List A) → map f (xs ++ ys) ≡ map f xs ++ map f ys
map_joined f [] ys = refl
map_joined f (x ∷ xs) ys = ap (λ zs. f x ∷ zs) (map_joined f xs ys)

pub flat_joined : {A B : Type 0} (f : A → List B) (xs ys : List A) → flat_map f (xs ++ ys) ≡ flat_map f xs ++ flat_map f ys
flat_joined f [] ys = refl
flat_joined f (x ∷ xs) ys = ap (λ zs. f x ++ zs) (flat_joined f xs ys) ∙ sym (append_assoc (f x) (flat_map f xs) (flat_map f ys))

pub all_joined : {A : Type 0} (P : A → Type 0) (xs ys : List A) → AllByRecursion P xs → AllByRecursion P ys → AllByRecursion P (xs ++ ys)
all_joined P [] ys h k = k
all_joined P (x ∷ xs) ys h k = (h.0, all_joined P xs ys h.1 k)

pub all_left : {A : Type 0} (P : A → Type 0) (xs ys : List A) → AllByRecursion P (xs ++ ys) → AllByRecursion P xs
all_left P [] ys h = tt
all_left P (x ∷ xs) ys h = (h.0, all_left P xs ys h.1)

pub all_right : {A : Type 0} (P : A → Type 0) (xs ys : List A) → AllByRecursion P (xs ++ ys) → AllByRecursion P ys
all_right P [] ys h = h
all_right P (x ∷ xs) ys h = all_right P xs ys h.1

pub all_parts : {A B : Type 0} (P : B → Type 0) (f : A → List B) (xs : List A) → AllByRecursion P (flat_map f xs) → AllByRecursion (λ x. AllByRecursion P (f x)) xs
all_parts P f [] h = tt
all_parts P f (x ∷ xs) h = (all_left P (f x) (flat_map f xs) h, all_parts P f xs (all_right P (f x) (flat_map f xs) h))

-- ---- whether an event comes to a member

abbrev pub IsTried : (Member → Type 0) → (Member → Moved) → Bool → List Member → Type 0
IsTried P step true xs = AllByRecursion P xs
IsTried P step false xs = AllByRecursion (λ (x : Member). step x ≡ stands x) xs

pub members_stand : (step : Member → Moved) (xs : List Member) → AllByRecursion (λ (x : Member). step x ≡ stands x) xs → map (λ (x : Member). (step x).member) xs ≡ xs
members_stand step [] h = refl
members_stand step (x ∷ xs) h = rw (h.0, members_stand step xs h.1) refl

pub none_sent : (step : Member → Moved) (xs : List Member) → AllByRecursion (λ (x : Member). step x ≡ stands x) xs → flat_map (λ (x : Member). (step x).sent) xs ≡ []
none_sent step [] h = refl
none_sent step (x ∷ xs) h = rw (h.0, none_sent step xs h.1) refl

-- ---- one after the other

pub record Goes (S : Packet → Type 0) (m next : Mesh) (addresses : List ℕ) (step : Member → Moved) : Type 0 where
  pub done : flat_map (member_of next) addresses ≡ map (λ (x : Member). (step x).member) (flat_map (member_of m) addresses)
  pub there : (b : ℕ) → AllByRecursion (λ a. a ≡ b → ⊥) addresses → member_of next b ≡ member_of m b
  pub mixed : Mixed S (flat_map (λ (x : Member). (step x).sent) (flat_map (member_of m) addresses))
  pub bag : next.nodes.bag ≡ m.nodes.bag ++ map packet_in mixed.entries
  pub order : next.order ≡ m.order
  pub stable : Stable next
  pub none_comes : NoneComes m next
  pub none_goes : NoneGoes m next

same_there : (f g : ℕ → List Member) (a : ℕ) (bs : List ℕ) → ((b : ℕ) → (a ≡ b → ⊥) → f b ≡ g b) → AllByRecursion (λ b. a ≢ b) bs → flat_map f bs ≡ flat_map g bs
same_there f g a [] h k = refl
same_there f g a (b ∷ bs) h k = rw (h b k.0, same_there f g a bs h k.1) refl

turned : (a : ℕ) (bs : List ℕ) → AllByRecursion (λ b. a ≢ b) bs → AllByRecursion (λ b. b ≡ a → ⊥) bs
turned a [] h = tt
turned a (b ∷ bs) h = ((λ e. h.0 (sym e)), turned a bs h.1)

module _ (S : Packet → Type 0) (step : Member → Moved) (comes : Mesh → ℕ → List MeshOutcome) (P : Member → Type 0) (Q : Mesh → Type 0)
    (law : (m : Mesh) (a : ℕ) (out : MeshOutcome) → Stable m → Q m → AllByRecursion P (member_of m a) → Contains (comes m a) out → Does S m out.mesh a step)
    (stays : (m next : Mesh) (a : ℕ) → Does S m next a step → Q m → Q next) (test : ℕ → Bool) where
  abbrev Tried : Mesh → ℕ → Type 0
  Tried m a = IsTried P step (test a) (member_of m a)

  tried_there : (m mid : Mesh) (a : ℕ) (bs : List ℕ) → ((b : ℕ) → (a ≡ b → ⊥) → member_of mid b ≡ member_of m b) → AllByRecursion (λ b. a ≢ b) bs → AllByRecursion (Tried m) bs → AllByRecursion (Tried mid) bs
  tried_there m mid a [] there ne h = tt
  tried_there m mid a (b ∷ bs) there ne h = (subst (IsTried P step (test b)) (sym (there b ne.0)) h.0, tried_there m mid a bs there ne.1 h.1)

  begun : (m mid next : Mesh) (a : ℕ) (bs : List ℕ) → AllByRecursion (λ b. a ≢ b) bs → Does S m mid a step → Goes S mid next bs step → Goes S m next (a ∷ bs) step
  begun m mid next a bs ne d g =
      let own : member_of next a ≡ map (λ (x : Member). (step x).member) (member_of m a) = g.there a (turned a bs ne) ∙ d.here in
      let others : flat_map (member_of mid) bs ≡ flat_map (member_of m) bs = same_there (member_of mid) (member_of m) a bs d.there ne in
      let sends : Member → List Sent = λ (x : Member). (step x).sent in
      record {
        done =
            ap (λ (xs : List Member). xs ++ flat_map (member_of next) bs) own
            ∙ (ap (λ (xs : List Member). map (λ (x : Member). (step x).member) (member_of m a) ++ xs) (g.done ∙ ap (map (λ (x : Member). (step x).member)) others)
            ∙ sym (map_joined (λ (x : Member). (step x).member) (member_of m a) (flat_map (member_of m) bs)));
        there = λ b h. g.there b h.1 ∙ d.there b h.0;
        mixed = record {
          entries = d.mixed.entries ++ g.mixed.entries;
          own =
              flat_joined own_of d.mixed.entries g.mixed.entries
              ∙ (ap (λ (ps : List Sent). ps ++ flat_map own_of g.mixed.entries) d.mixed.own
              ∙ (ap (λ (ps : List Sent). flat_map sends (member_of m a) ++ ps) (g.mixed.own ∙ ap (flat_map sends) others) ∙ sym (flat_joined sends (member_of m a) (flat_map (member_of m) bs))));
          strays = all_joined (EntryIs S) d.mixed.entries g.mixed.entries d.mixed.strays g.mixed.strays;
        };
        bag =
            g.bag
            ∙ (ap (λ (ps : List Packet). ps ++ map packet_in g.mixed.entries) d.bag
            ∙ (append_assoc m.nodes.bag (map packet_in d.mixed.entries) (map packet_in g.mixed.entries) ∙ ap (λ (ps : List Packet). m.nodes.bag ++ ps) (sym (map_joined packet_in d.mixed.entries g.mixed.entries))));
        order = g.order ∙ d.order;
        stable = g.stable;
        none_comes = λ b h. g.none_comes b (d.none_comes b h);
        none_goes = λ b h. d.none_goes b (g.none_goes b h);
      }

  passed : (m next : Mesh) (a : ℕ) (bs : List ℕ) → AllByRecursion (λ b. a ≢ b) bs → AllByRecursion (λ (x : Member). step x ≡ stands x) (member_of m a) → Goes S m next bs step → Goes S m next (a ∷ bs) step
  passed m next a bs ne h g =
      let sends : Member → List Sent = λ (x : Member). (step x).sent in
      record {
        done =
            ap (λ (xs : List Member). xs ++ flat_map (member_of next) bs) (g.there a (turned a bs ne) ∙ sym (members_stand step (member_of m a) h))
            ∙ (ap (λ (xs : List Member). map (λ (x : Member). (step x).member) (member_of m a) ++ xs) g.done
            ∙ sym (map_joined (λ (x : Member). (step x).member) (member_of m a) (flat_map (member_of m) bs)));
        there = λ b k. g.there b k.1;
        mixed = record {
          entries = g.mixed.entries;
          own =
              g.mixed.own
              ∙ (ap (λ (ps : List Sent). ps ++ flat_map sends (flat_map (member_of m) bs)) (sym (none_sent step (member_of m a) h)) ∙ sym (flat_joined sends (member_of m a) (flat_map (member_of m) bs)));
          strays = g.mixed.strays;
        };
        bag = g.bag;
        order = g.order;
        stable = g.stable;
        none_comes = g.none_comes;
        none_goes = g.none_goes;
      }

  by_head : (b : Bool) (a : ℕ) (bs : List ℕ) (m : Mesh) (text : List ℕ) (next : Mesh) → Stable m → Q m → AllByRecursion (λ b. a ≢ b) bs → IsTried P step b (member_of m a) → AllByRecursion (Tried m) bs
      → ((mid : Mesh) (rest : List ℕ) → Stable mid → Q mid → AllByRecursion (Tried mid) bs → EachComes comes (filter test bs) mid rest next → Goes S mid next bs step)
      → EachComes comes (cond b (a ∷ filter test bs) (filter test bs)) m text next → Goes S m next (a ∷ bs) step
  by_head true a bs m text next s q ne here tried more h =
      let d = law m a (record { mesh = h.0; text = h.1 }) s q here h.3 in
      begun m h.0 next a bs ne d (more h.0 h.2 d.stable (stays m h.0 a d q) (tried_there m h.0 a bs d.there ne tried) h.4)
  by_head false a bs m text next s q ne here tried more h = passed m next a bs ne here (more m text s q tried h)

  pub each_goes : (bs : List ℕ) (m : Mesh) (text : List ℕ) (next : Mesh) → Stable m → Q m → NoneTwice bs → AllByRecursion (Tried m) bs → EachComes comes (filter test bs) m text next → Goes S m next bs step
  each_goes [] m text next s q once tried h =
      subst (λ (x : Mesh). Goes S m x [] step) (sym h.1) (record { done = refl; there = λ b k. refl; mixed = record { entries = []; own = refl; strays = tt }; bag = sym (append-nil m.nodes.bag); order = refl; stable = s; none_comes = λ b h. h; none_goes = λ b h. h })
  each_goes (a ∷ bs) m text next s q once tried h =
      by_head (test a) a bs m text next s q once.0 tried.0 tried.1 (λ mid rest t r k l. each_goes bs mid rest next t r once.1 k l) h
