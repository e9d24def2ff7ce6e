-- What is true of a node and its log, and how each change of the durable state keeps it.
use Rattle.std.proofs.Common.{arith, ◌≡◌, ℕ, List, [], ◌∷◌, ◌++◌, refl, sym, ap, subst, zero, suc, ◌⊎◌, inl, inr, Option, Some, None, set}
use Rattle.std.specs.Prelude.{slice_get, ⊤}
use Rattle.mu_model_image.specs.Meta.{Image, IsFit}
use Rattle.mu_model_node.specs.Slots.{Slots, joined}
use Rattle.mu_model_node.specs.BlobMessages.{Parameters}
use Rattle.mu_model_node.specs.BlobServer.{Link}
use Rattle.mu_model_node.specs.NodeState.{Stored, Filling, Verified, Refused, Applied, Job, NodeDurable, NodeState, update_phase, update_number, job_phase}
use Rattle.mu_model_node.specs.TimeTable.{image_of_job}
use Rattle.mu_model_node.specs.Log.{LogEntry, Took, Asked, Active, Reached, took, asked, gone, reached, logged_by, logged}
use Rattle.mu_model_node.specs.Safe.{InOrder, none, here, IsUpdated, ImageIsSafe, ImagesAreSafe}
use Rattle.mu_model_node.proofs.Order.{in_order, in_right, in_left}
use Rattle.mu_model_node.proofs.Moves.{Cause, Move, Stays, Loses, Takes, Fills, Verifies, Refuses, Asks, Activates}

-- what the log has of a job, by how far it is
abbrev pub StoredIsKnown : List LogEntry → Job → Stored → Type 0
StoredIsKnown log j Filling = ⊤
StoredIsKnown log j Refused = ⊤
StoredIsKnown log j Verified = IsFit (joined j.held) j.meta × InOrder (Took j.id j.index j.meta ∷ Reached j.id 4 ∷ []) log
StoredIsKnown log j Applied = IsFit (joined j.held) j.meta × InOrder (Took j.id j.index j.meta ∷ Reached j.id 4 ∷ Asked j.id ∷ []) log

pub record JobIsKnown (log : List LogEntry) (j : Job) : Type 0 where
  pub took : InOrder (Took j.id j.index j.meta ∷ []) log
  pub stored : StoredIsKnown log j j.stored

abbrev pub IsKnown : List LogEntry → Option Job → Type 0
IsKnown log None = ⊤
IsKnown log (Some j) = JobIsKnown log j

-- THE INVARIANT of a node
pub record NodeKept (first : List Image) (log : List LogEntry) (d : NodeDurable) : Type 0 where
  pub images : ImagesAreSafe first log d.images
  pub job : IsKnown log d.job

-- ---- a longer log

pub image_more : (first : List Image) (log more : List LogEntry) (index : ℕ) (image : Image) → ImageIsSafe first log index image → ImageIsSafe first (log ++ more) index image
image_more first log more index image (inl h) = inl h
image_more first log more index image (inr h) = inr (record { id = h.id; in_order = in_left more h.in_order; whole = h.whole })

stored_more : (log more : List LogEntry) (j : Job) (stored : Stored) → StoredIsKnown log j stored → StoredIsKnown (log ++ more) j stored
stored_more log more j Filling h = tt
stored_more log more j Refused h = tt
stored_more log more j Verified h = (h.0, in_left more h.1)
stored_more log more j Applied h = (h.0, in_left more h.1)

known_more : (log more : List LogEntry) (job : Option Job) → IsKnown log job → IsKnown (log ++ more) job
known_more log more None h = tt
known_more log more (Some j) h = record { took = in_left more h.took; stored = stored_more log more j j.stored h.stored }

-- ---- each part of the entries stands in them

in_took : (old new : Option Job) (m n : ℕ) {xs : List LogEntry} → InOrder xs (took old new) → InOrder xs (logged_by old new m n)
in_took old new m n h = in_left _ h

in_asked : (old new : Option Job) (m n : ℕ) {xs : List LogEntry} → InOrder xs (asked old new) → InOrder xs (logged_by old new m n)
in_asked old new m n h = in_right (took old new) (in_left _ h)

in_gone : (old new : Option Job) (m n : ℕ) {xs : List LogEntry} → InOrder xs (gone old new) → InOrder xs (logged_by old new m n)
in_gone old new m n h = in_right (took old new) (in_right (asked old new) (in_left _ h))

in_reached : (old new : Option Job) (m n : ℕ) {xs : List LogEntry} → InOrder xs (reached old new m n) → InOrder xs (logged_by old new m n)
in_reached old new m n h = in_right (took old new) (in_right (asked old new) (in_right (gone old new) h))

-- what is to be shown of the job after an event, from its job before and the number of its phase before
abbrev JobGoal : List LogEntry → Option Job → ℕ → Link → Option Job → Type 0
JobGoal log old m link new = IsKnown (log ++ logged_by old new m (update_number (job_phase link new))) new

takes : (log : List LogEntry) (old : Option Job) (m : ℕ) (link : Link) (j : Job) → j.stored ≡ Filling → InOrder (Took j.id j.index j.meta ∷ []) (took old (Some j)) → JobGoal log old m link (Some j)
takes log old m link j e h = record {
  took = in_right log (in_took old (Some j) m _ h);
  stored = rw e tt;
}

fills : (log : List LogEntry) (i : Job) (m : ℕ) (link : Link) (parameters : Option Parameters) (held : Slots) → i.stored ≡ Filling → IsKnown log (Some i) → JobGoal log (Some i) m link (Some (record i { parameters = parameters; held = held }))
fills log i m link parameters held e h = record { took = in_left _ h.took; stored = rw e tt }

verifies : (log : List LogEntry) (i : Job) (link : Link) → IsFit (joined i.held) i.meta → IsKnown log (Some i) → JobGoal log (Some i) 3 link (Some (record i { stored = Verified }))
verifies log i link fit h = record {
  took = in_left _ h.took;
  stored = (fit, in_order h.took (in_reached (Some i) (Some (record i { stored = Verified })) 3 4 (here none)));
}

refuses : (log : List LogEntry) (i : Job) (m : ℕ) (link : Link) → IsKnown log (Some i) → JobGoal log (Some i) m link (Some (record i { stored = Refused; parameters = None; held = [] }))
refuses log i m link h = record { took = in_left _ h.took; stored = tt }

asks : (log : List LogEntry) (i : Job) (m : ℕ) (link : Link) → i.stored ≡ Verified → IsKnown log (Some i) → JobGoal log (Some i) m link (Some (record i { stored = Applied }))
asks log i m link e h =
    let known : StoredIsKnown log i Verified = subst (StoredIsKnown log i) e h.stored in
    let entry : InOrder (Asked i.id ∷ []) (asked (Some i) (Some (record i { stored = Applied }))) = rw e (here none) in
    record {
      took = in_left _ h.took;
      stored = (known.0, in_order known.1 (in_asked (Some i) (Some (record i { stored = Applied })) m 6 entry));
    }

-- the image at an index after one was put at an index
put_image : (images : List Image) (at index : ℕ) (new image : Image) → slice_get (set images at new) index ≡ Some image → ((index ≡ at) × (image ≡ new)) ⊎ ((index ≡ at → ⊥) × (slice_get images index ≡ Some image))
put_image [] at index new image h = cc
put_image (x ∷ xs) zero zero new image h = inl (refl, cc)
put_image (x ∷ xs) zero (suc k) new image h = inr (λ e. omega arith, h)
put_image (x ∷ xs) (suc a) zero new image h = inr (λ e. omega arith, h)
put_image (x ∷ xs) (suc a) (suc k) new image h =
    elim (put_image xs a k new image h) [
      | inl p ↦ inl (ap suc p.0, p.1)
      | inr p ↦ inr (λ e. p.0 (omega arith), p.1)
    ]

chain : (log : List LogEntry) (i : Job) (m : ℕ) (link : Link) → i.stored ≡ Applied → IsKnown log (Some i) → InOrder (Took i.id i.index i.meta ∷ Reached i.id 4 ∷ Asked i.id ∷ Active i.index i.meta ∷ []) (log ++ logged_by (Some i) None m (update_number (job_phase link None)))
chain log i m link e h =
    let known : StoredIsKnown log i Applied = subst (StoredIsKnown log i) e h.stored in
    let entry : InOrder (Active i.index i.meta ∷ []) (gone (Some i) None) = rw e (here none) in
    in_order known.1 (in_gone (Some i) None m 0 entry)

updated : (log : List LogEntry) (i : Job) (m : ℕ) (link : Link) → i.stored ≡ Applied → IsKnown log (Some i) → IsUpdated (log ++ logged_by (Some i) None m (update_number (job_phase link None))) i.index (image_of_job i)
updated log i m link e h =
    let known : StoredIsKnown log i Applied = subst (StoredIsKnown log i) e h.stored in
    record { id = i.id; in_order = chain log i m link e h; whole = known.0 }

-- ---- a move

-- the whole goal of a move
abbrev Goal : List Image → List LogEntry → NodeDurable → ℕ → Link → NodeDurable → Type 0
Goal first log old m link new = NodeKept first (log ++ logged_by old.job new.job m (update_number (job_phase link new.job))) new

-- the images are those before
kept_images : (first : List Image) (log more : List LogEntry) (old new : NodeDurable) → new.images ≡ old.images → NodeKept first log old → ImagesAreSafe first (log ++ more) new.images
kept_images first log more old new e h index image is = image_more first log more index image (h.images index image (rw e at is))

-- a job that is written with the images as they were
writes : (first : List Image) (log : List LogEntry) (old new : NodeDurable) (m : ℕ) (link : Link) (job : Option Job) → new.images ≡ old.images → new.job ≡ job → NodeKept first log old → JobGoal log old.job m link job → Goal first log old m link new
writes first log old new m link job e is h goal = record {
  images = kept_images first log _ old new e h;
  job = subst (JobGoal log old.job m link) (sym is) goal;
}

at_job : (log : List LogEntry) (G : Option Job → Type 0) (old : Option Job) (i : Job) → old ≡ Some i → (IsKnown log (Some i) → G (Some i)) → IsKnown log old → G old
at_job log G old i e f h = subst G (sym e) (f (subst (IsKnown log) e h))

-- EACH MOVE KEEPS THE INVARIANT, whatever is running after it
pub move_kept : (cause : Cause) (first : List Image) (log : List LogEntry) (s t : NodeState) → Move cause s t.durable → NodeKept first log s.durable → NodeKept first (log ++ logged s t) t.durable
move_kept cause first log s t (Stays e is) h = writes first log s.durable t.durable (update_number (update_phase s)) t.session.link s.durable.job e is h (known_more log _ s.durable.job h.job)
move_kept cause first log s t (Loses i by was g e is) h = writes first log s.durable t.durable (update_number (update_phase s)) t.session.link None e is h tt
move_kept cause first log s t (Takes u j active by o f free at above new e is) h = writes first log s.durable t.durable (update_number (update_phase s)) t.session.link (Some j) e is h (takes log s.durable.job _ t.session.link j f new)
move_kept cause first log s t (Fills i parameters held was f e is) h =
    let new : Option Job = Some (record i { parameters = parameters; held = held }) in
    writes first log s.durable t.durable (update_number (update_phase s)) t.session.link new e is h
    (at_job log (λ old. JobGoal log old (update_number (update_phase s)) t.session.link new) s.durable.job i was (fills log i _ t.session.link parameters held f) h.job)
move_kept cause first log s t (Verifies i by was f three fit e is) h =
    let new : Option Job = Some (record i { stored = Verified }) in
    writes first log s.durable t.durable (update_number (update_phase s)) t.session.link new e is h
    (subst (λ m. JobGoal log s.durable.job m t.session.link new) (sym three) (at_job log (λ old. JobGoal log old 3 t.session.link new) s.durable.job i was (verifies log i t.session.link fit) h.job))
move_kept cause first log s t (Refuses i by was f e is) h =
    let new : Option Job = Some (record i { stored = Refused; parameters = None; held = [] }) in
    writes first log s.durable t.durable (update_number (update_phase s)) t.session.link new e is h
    (at_job log (λ old. JobGoal log old (update_number (update_phase s)) t.session.link new) s.durable.job i was (refuses log i _ t.session.link) h.job)
move_kept cause first log s t (Asks i by was f e is) h =
    let new : Option Job = Some (record i { stored = Applied }) in
    writes first log s.durable t.durable (update_number (update_phase s)) t.session.link new e is h
    (at_job log (λ old. JobGoal log old (update_number (update_phase s)) t.session.link new) s.durable.job i was (asks log i _ t.session.link f) h.job)
move_kept cause first log s t (Activates i by was f e is) h =
    let m : ℕ = update_number (update_phase s) in
    let new : Image = image_of_job i in
    let fresh : IsUpdated (log ++ logged_by s.durable.job None m 0) i.index new =
    at_job log (λ old. IsUpdated (log ++ logged_by old None m 0) i.index new) s.durable.job i was (updated log i m t.session.link f) h.job in
    record {
      images = λ index image at.
          elim (put_image s.durable.images i.index index new image (rw e at at)) [
            | inl p ↦ subst (λ x. ImageIsSafe first (log ++ logged s t) x image) (sym p.0)
                (subst (λ y. ImageIsSafe first (log ++ logged s t) i.index y) (sym p.1)
                (subst (λ job. ImageIsSafe first (log ++ logged_by s.durable.job job m (update_number (job_phase t.session.link job))) i.index new) (sym is) (inr fresh)))
            | inr p ↦ image_more first log (logged s t) index image (h.images index image p.1)
          ];
      job = subst (λ job. IsKnown (log ++ logged s t) job) (sym is) tt;
    }
