-- A store is one node at most.
use Rattle.std.proofs.Common.{◌≡◌, ◌⊎◌, inl, inr, ℕ, Option, Some, None, List, [], ◌∷◌, length, get_or, refl, sym, ◌∙◌, ap, subst, arith}
use Rattle.std.specs.Prelude.{slice_index}
use Rattle.std.specs.List.{AllZip}
use Rattle.mu_model_image.specs.Meta.{Image}
use Rattle.mu_model_record.specs.declared.BankState.TheVariants.{Sealed}
use Rattle.mu_model_record.specs.Record.{zeros}
use Rattle.mu_model_record.specs.Store.{StoreState, whole}
use Rattle.mu_model_node.specs.declared.Parameters.{Parameters}
use Rattle.mu_model_node.specs.declared.Stored.{Stored}
use Rattle.mu_model_node.specs.declared.Stored.TheVariants.{Filling, Verified, Refused, Applied}
use Rattle.mu_model_node.specs.NodeState.{NodeDurable}
use Rattle.mu_model_represents.specs.BlobPart.{BlobJob, blob_part, note_part, HasParameters, IsBlobPart}
use Rattle.mu_model_represents.specs.Images.{HasImage, BankIsOneImage}
use Rattle.mu_model_represents.specs.NodeNote.{NoteJob, NodeNote, stored_number, index_of, HasNoteJob, SpellsActive, IsNodeNote, SpellsNote, SpellsOldNote}
use Rattle.mu_model_represents.specs.RepresentsNode.{IsNodeOf, IsNode, job_by}

-- ---- the BLOB part

parameters_once : (size size' : ℕ) (p q : Option Parameters) (octets : List ℕ) → size ≡ size' → HasParameters size p octets → HasParameters size' q octets → p ≡ q
parameters_once size size' None None octets same h g = refl
parameters_once size size' None (Some q) octets same h g = absurd (omega (arith, h.no_mode_at_1, g.mode_at_1, g.mode_least))
parameters_once size size' (Some p) None octets same h g = absurd (omega (arith, g.no_mode_at_1, h.mode_at_1, h.mode_least))
parameters_once size size' (Some p) (Some q) octets same h g =
    let mode : p.mode ≡ q.mode = sym h.mode_at_1 ∙ g.mode_at_1 in
    let mtu : p.mtu ≡ q.mtu = sym h.mtu_at_2 ∙ g.mtu_at_2 in
    let log : p.log ≡ q.log = sym h.log_at_19 ∙ g.log_at_19 in
    let size_is : p.size ≡ q.size = h.same_size ∙ same ∙ sym g.same_size in
    λ i. Some (record { mode = mode i; size = size_is i; log = log i; mtu = mtu i })

no_job : (octets : List ℕ) → octets ≡ zeros 64 → get_or octets 0 0 ≡ 0
unfolding zeros
no_job octets is = ap (λ (l : List ℕ). get_or l 0 0) is

pub part_once : (p q : Option BlobJob) (octets : List ℕ) → IsBlobPart p octets → IsBlobPart q octets → p ≡ q
part_once None None octets h g = refl
part_once None (Some j) octets h g = absurd (omega (arith, no_job octets h, g.there_at_0))
part_once (Some j) None octets h g = absurd (omega (arith, no_job octets g, h.there_at_0))
part_once (Some j) (Some k) octets h g =
    let id : j.id ≡ k.id = sym h.id_at_4 ∙ g.id_at_4 in
    let size : j.size ≡ k.size = sym h.size_at_12 ∙ g.size_at_12 in
    let base : j.base ≡ k.base = sym h.base_at_16 ∙ g.base_at_16 in
    let bank : j.bank ≡ k.bank = sym h.bank_at_18 ∙ g.bank_at_18 in
    let parameters : j.parameters ≡ k.parameters = parameters_once j.size k.size j.parameters k.parameters octets size h.parameters g.parameters in
    λ i. Some (record { id = id i; size = size i; base = base i; bank = bank i; parameters = parameters i })

-- ---- the note

some_phase : (s : Stored) (n : ℕ) → n ≡ stored_number s → n ≡ 0 → ⊥
some_phase Filling n h g = omega arith
some_phase Verified n h g = omega arith
some_phase Refused n h g = omega arith
some_phase Applied n h g = omega arith

stored_once : (s t : Stored) → stored_number s ≡ stored_number t → s ≡ t
stored_once Filling Filling h = refl
stored_once Filling Verified h = absurd (omega arith)
stored_once Filling Refused h = absurd (omega arith)
stored_once Filling Applied h = absurd (omega arith)
stored_once Verified Filling h = absurd (omega arith)
stored_once Verified Verified h = refl
stored_once Verified Refused h = absurd (omega arith)
stored_once Verified Applied h = absurd (omega arith)
stored_once Refused Filling h = absurd (omega arith)
stored_once Refused Verified h = absurd (omega arith)
stored_once Refused Refused h = refl
stored_once Refused Applied h = absurd (omega arith)
stored_once Applied Filling h = absurd (omega arith)
stored_once Applied Verified h = absurd (omega arith)
stored_once Applied Refused h = absurd (omega arith)
stored_once Applied Applied h = refl

-- a job of the note, but for its index
note_job_once : (p q : Option NoteJob) (octets : List ℕ) → HasNoteJob p octets → HasNoteJob q octets → index_of p ≡ index_of q → p ≡ q
note_job_once None None octets h g index = refl
note_job_once None (Some k) octets h g index = absurd (some_phase k.stored (slice_index octets 2) g.phase_at_2 h.no_phase_at_2)
note_job_once (Some j) None octets h g index = absurd (some_phase j.stored (slice_index octets 2) h.phase_at_2 g.no_phase_at_2)
note_job_once (Some j) (Some k) octets h g index =
    let stored : j.stored ≡ k.stored = stored_once j.stored k.stored (sym h.phase_at_2 ∙ g.phase_at_2) in
    let ttl : j.ttl ≡ k.ttl = sym h.ttl_at_3 ∙ g.ttl_at_3 in
    let metas : Some j.meta ≡ Some k.meta = sym h.metadata_at_4 ∙ g.metadata_at_4 in
    let meta : j.meta ≡ k.meta = cc metas in
    λ i. Some (record { stored = stored i; ttl = ttl i; meta = meta i; index = index i })

active_once : (a b : List ℕ) (octets : List ℕ) → length a ≡ length b → SpellsActive a octets → SpellsActive b octets → a ≡ b
active_once [] b octets same h g = absurd h
active_once a [] octets same h g = absurd g
active_once (a ∷ []) (b ∷ []) octets same h g = let e : a ≡ b = sym h.0 ∙ g.0 in λ i. e i ∷ []
active_once (a ∷ []) (b ∷ c ∷ bs) octets same h g = absurd (omega arith)
active_once (a ∷ c ∷ xs) (b ∷ []) octets same h g = absurd (omega arith)
active_once (a ∷ c ∷ []) (b ∷ d ∷ []) octets same h g = let e : a ≡ b = sym h.0 ∙ g.0 in let f : c ≡ d = sym h.1 ∙ g.1 in λ i. e i ∷ f i ∷ []
active_once (a ∷ c ∷ x ∷ xs) (b ∷ d ∷ bs) octets same h g = absurd h
active_once (a ∷ c ∷ []) (b ∷ d ∷ x ∷ bs) octets same h g = absurd g

note_parts : (a b : NodeNote) → a.active ≡ b.active → a.job ≡ b.job → a ≡ b
note_parts a b active job = λ i. record { active = active i; job = job i }

new_once : (a b : NodeNote) (octets : List ℕ) → length a.active ≡ length b.active → SpellsNote a octets → SpellsNote b octets → a ≡ b
new_once a b octets same h g = note_parts a b (active_once a.active b.active octets same h.active_at_1_44 g.active_at_1_44)
    (note_job_once a.job b.job octets h.job_at_2 g.job_at_2 (sym h.index_at_45 ∙ g.index_at_45))

old_once : (a b : NodeNote) (octets : List ℕ) → SpellsOldNote a octets → SpellsOldNote b octets → a ≡ b
old_once a b octets h g = note_parts a b (h.active_at_1 ∙ sym g.active_at_1) (note_job_once a.job b.job octets h.job_at_2 g.job_at_2 (h.index_0 ∙ sym g.index_0))

spells_once : (a b : NodeNote) (octets : List ℕ) → length a.active ≡ length b.active → SpellsNote a octets ⊎ SpellsOldNote a octets → SpellsNote b octets ⊎ SpellsOldNote b octets → a ≡ b
spells_once a b octets same (inl h) (inl g) = new_once a b octets same h g
spells_once a b octets same (inl h) (inr g) = absurd (omega (arith, h.kind_at_0, g.kind_at_0))
spells_once a b octets same (inr h) (inl g) = absurd (omega (arith, h.kind_at_0, g.kind_at_0))
spells_once a b octets same (inr h) (inr g) = old_once a b octets h g

pub note_once : (banks : ℕ) (a b : NodeNote) (octets : List ℕ) → IsNodeNote banks a octets → IsNodeNote banks b octets → a ≡ b
note_once banks a b octets h g = spells_once a b octets (omega (arith, h.one_more, g.one_more)) h.spells g.spells

-- ---- the images

pub image_once : BankIsOneImage
image_once s bank x y h g =
    let metas : Sealed x.meta ≡ Sealed y.meta = sym h.entry ∙ g.entry in
    let meta : x.meta ≡ y.meta = cc metas in
    let wholes : whole x.octets ≡ whole y.octets = sym h.content ∙ g.content in
    let octets : x.octets ≡ y.octets = cc wholes in
    λ i. record { octets = octets i; meta = meta i }

images_once : (s : StoreState) (banks : List ℕ) (xs ys : List Image) → AllZip (HasImage s) banks xs → AllZip (HasImage s) banks ys → xs ≡ ys
images_once s [] [] ys h g = none ys g
  where
    none : (ys : List Image) → AllZip (HasImage s) [] ys → [] ≡ ys
    none [] g = refl
    none (y ∷ ys) g = absurd g
images_once s [] (x ∷ xs) ys h g = absurd h
images_once s (b ∷ banks) [] ys h g = absurd h
images_once s (b ∷ banks) (x ∷ xs) [] h g = absurd g
images_once s (b ∷ banks) (x ∷ xs) (y ∷ ys) h g = let e = image_once s b x y h.0 g.0 in let es = images_once s banks xs ys h.1 g.1 in λ i. e i ∷ es i

-- ---- the node

module _ (s : StoreState) (d e : NodeDurable) where
  same_parts : (p q : Option BlobJob) (a b : NodeNote) → p ≡ q → a ≡ b → IsNodeOf s p a d → IsNodeOf s q b e → d ≡ e
  same_parts p q a b part note h g =
      let count : d.count ≡ e.count = h.count ∙ sym g.count in
      let capacity : d.capacity ≡ e.capacity = h.capacity ∙ sym g.capacity in
      let images : d.images ≡ e.images = images_once s a.active d.images e.images h.images (subst (λ (n : NodeNote). AllZip (HasImage s) n.active e.images) (sym note) g.images) in
      let job : d.job ≡ e.job = h.job ∙ (λ i. job_by s (part i) (note i).job) ∙ sym g.job in
      λ i. record { count = count i; capacity = capacity i; images = images i; job = job i }

  pub node_once : IsNode s d → IsNode s e → d ≡ e
  node_once h g =
      let part = part_once h.0 g.0 (blob_part s.present.tag) h.2.is_record.blob.octets g.2.is_record.blob.octets in
      let note = note_once s.present.number h.1 g.1 (note_part s.present.tag) h.2.is_record.note_octets g.2.is_record.note_octets in
      same_parts h.0 g.0 h.1 g.1 part note h.2 g.2
