-- What the rows look at, beside a state that is shown.
use Rattle.std.proofs.Common.{◌≡◌, ◌∙◌, ℕ, ◌+◌, cond, Bool, true, false, List, [], ◌∷◌, Option, Some, None, refl, sym, ap, subst}
use Rattle.std.specs.Prelude.{◌&&◌, is_some, if◌then◌else◌}
use Rattle.std.specs.List.{list_all, count_by}
use Rattle.std.specs.Option.{option_map}
use Rattle.std.proofs.lemmas.List.Sums.{sum_by-cons}
use Rattle.mu_model_image.specs.declared.Meta.{Meta}
use Rattle.mu_model_node.specs.declared.Parameters.{Parameters}
use Rattle.mu_model_node.specs.declared.Stored.{Stored}
use Rattle.mu_model_node.specs.declared.Stored.TheVariants.{Filling as Coming, Verified, Refused, Applied}
use Rattle.mu_model_node.specs.Slots.{Slots, is_full, received, held_count}
use Rattle.mu_model_node.specs.BlobServer.{Whole, Lacking, serving_of as serving_of_transfer, serving_by as serving_with_blocks}
use Rattle.mu_blob_rows.specs.declared.looks.Serving.TheVariants.{Whole as WholeHere, Lacking as LackingHere}
use Rattle.mu_model_node.specs.NodeState.{Job, NodeState}
use Rattle.mu_model_serving.specs.Laws.{serving_alone, server_alone}
use Rattle.mu_model_record.specs.declared.Record.{Record}
use Rattle.mu_model_record.specs.declared.BankState.{BankState}
use Rattle.mu_model_record.specs.declared.BankState.TheVariants.{Empty, Filling, Sealed}
use Rattle.mu_model_record.specs.Record.{entry_of, IsFilling}
use Rattle.mu_model_represents.specs.BlobPart.{BankGoesWith, HasBlobRules}
use Rattle.mu_model_represents.specs.RepresentsNode.{StoredGoesWith, HasNodeJob}
use Rattle.mu_model_shown_node.specs.Shown.{job_with, IsNodeMemory, FullIsShown}
use Rattle.mu_update_rows.specs.Looks.{there, look_at}
use Rattle.mu_blob_rows.specs.Looks.{serving_with, transfer_with}
use Rattle.mu_blobsrv.specs.Views.{store_of, server_of}
use Rattle.mu_place.specs.declared.place.Place.{Place}
use Rattle.mu_place.specs.Place.{place_record, place_held}
use Rattle.mu_note.specs.declared.blob.BlobJob.{BlobJob}
use Rattle.mu_note.specs.declared.node.NoteJob.{NoteJob as NoteJobHere}
use Rattle.mu_note.specs.Views.{part_job, note_job}
use Rattle.mu_kept.specs.declared.store.Expect.{Expect}
use Rattle.mu_kept.specs.Shows.{served_with}
use Rattle.mu_kept.specs.Views.{job_in, fills_by, flags_of, flags_in, expect_of, transfer_look, serving_by, serving_of, is_whole, is_filling, flags_with, flags_by}
use Rattle.mu_node.specs.declared.node.Node.{Node}
use Rattle.mu_node.specs.Readings.{filling_count, filling_blocks}
use Rattle.mu_node.specs.Views.{server_in, note_in, place_in, memory_of, Shows}

-- ---- whether all blocks are held

whole_by : (j : BlobJob) (q : Option Parameters) (flags : List Bool) (all : Bool) → list_all (λ held. held) flags ≡ all → is_whole (serving_by (transfer_look j) q flags) ≡ (is_some q && all)
whole_by j None flags all e = refl
whole_by j (Some p) flags true e = ap (λ (b : Bool). is_whole (if b then WholeHere (transfer_look j) else LackingHere (transfer_look j))) e
whole_by j (Some p) flags false e = ap (λ (b : Bool). is_whole (if b then WholeHere (transfer_look j) else LackingHere (transfer_look j))) e

whole_is : FullIsShown → (j : BlobJob) (flags : List Bool) (blocks : Slots) → received blocks ≡ flags → is_whole (serving_of (Some j) flags) ≡ (is_some j.parameters && is_full blocks)
whole_is full j flags blocks is = whole_by j j.parameters flags (is_full blocks) (sym (full blocks flags is))

module _ (full : FullIsShown) (j : BlobJob) (k : NoteJobHere) (flags : List Bool) (blocks : Slots) (is : received blocks ≡ flags) where
  look_same : (expect : Expect) (whole : Bool) → expect ≡ expect_of j → whole ≡ is_whole (serving_of (Some j) flags)
      → Some (record { id = expect.id; index = k.index; meta = k.meta; ttl = k.ttl; base = expect.base; stored = k.stored; is_whole = whole }) ≡ there look_at (job_with (Some (part_job j)) (Some (note_job k)) blocks)
  look_same expect whole e w =
      let all = w ∙ whole_is full j flags blocks is in
      λ i. Some (record { id = (e i).id; index = k.index; meta = k.meta; ttl = k.ttl; base = (e i).base; stored = k.stored; is_whole = all i })

pub look_is : FullIsShown → (job : Option BlobJob) (expect : Expect) → Some expect ≡ option_map expect_of job → (note : Option NoteJobHere) (k : NoteJobHere) → note ≡ Some k → (flags : List Bool) (blocks : Slots) → received blocks ≡ flags
    → (whole : Bool) → whole ≡ is_whole (serving_of job flags) → (shown : Option Job) → shown ≡ job_with (option_map part_job job) (option_map note_job note) blocks
    → Some (record { id = expect.id; index = k.index; meta = k.meta; ttl = k.ttl; base = expect.base; stored = k.stored; is_whole = whole }) ≡ there look_at shown
look_is full None expect e note k has flags blocks is whole w shown same = absurd cc
look_is full (Some j) expect e note k has flags blocks is whole w shown same =
    look_same full j k flags blocks is expect whole (cc) w
    ∙ ap (there look_at) (sym (same ∙ ap (λ (o : Option NoteJobHere). job_with (Some (part_job j)) (option_map note_job o) blocks) has))

-- ---- the BLOB server

same_test : (j : BlobJob) (held : Slots) (a b : Bool) → a ≡ b
    → serving_with (if a then WholeHere (transfer_look j) else LackingHere (transfer_look j)) held ≡ (if b then Whole (transfer_with (transfer_look j) held) else Lacking (transfer_with (transfer_look j) held))
same_test j held true true e = refl
same_test j held true false e = absurd (cc e)
same_test j held false true e = absurd (cc e)
same_test j held false false e = refl

served_by : FullIsShown → (j : BlobJob) (q : Option Parameters) (flags : List Bool) (held : Slots) → received held ≡ flags → serving_with (serving_by (transfer_look j) q flags) held ≡ serving_with_blocks (transfer_with (transfer_look j) held) q
served_by full j None flags held is = refl
served_by full j (Some p) flags held is = same_test j held (list_all (λ h. h) flags) (is_full held) (sym (full held flags is))

pub serving_is : FullIsShown → (job : Option BlobJob) (flags : List Bool) (held : Slots) → received held ≡ flags → serving_with (serving_of job flags) held ≡ served_with job held
serving_is full None flags held is = refl
serving_is full (Some j) flags held is = served_by full j j.parameters flags held is

-- by the blocks alone
alone_is : (r : Record) (active : List ℕ) (job : Option BlobJob) (note : Option NoteJobHere) (held : Slots) → HasNodeJob r active (option_map part_job job) (option_map note_job note)
    → served_with job held ≡ serving_alone (job_with (option_map part_job job) (option_map note_job note) held)
alone_is r active None None held has = refl
alone_is r active None (Some k) held has = absurd has
alone_is r active (Some j) None held has = absurd has
alone_is r active (Some j) (Some k) held has =
    λ i. serving_of_transfer (record { id = j.id; size = sym has.size i; base = j.base; parameters = j.parameters; held = held })

pub serves : FullIsShown → (r : Record) (active : List ℕ) (job : Option BlobJob) (note : Option NoteJobHere) (flags : List Bool) (held : Slots) → HasNodeJob r active (option_map part_job job) (option_map note_job note)
    → received held ≡ flags → (shown : Option Job) → shown ≡ job_with (option_map part_job job) (option_map note_job note) held → serving_with (serving_of job flags) held ≡ serving_alone shown
serves full r active job note flags held has is shown same =
    serving_is full job flags held is ∙ alone_is r active job note held has ∙ ap serving_alone (sym same)

-- ---- how many blocks are held

count_same : (blocks : Slots) → count_by (λ h. h) (received blocks) ≡ held_count blocks
count_same [] = refl
count_same (None ∷ blocks) =
    sum_by-cons (λ (h : Bool). cond h 1 0) false (received blocks) ∙ ap (λ (n : ℕ). 0 + n) (count_same blocks) ∙ sym (sum_by-cons (λ (b : Option (List ℕ)). cond (is_some b) 1 0) None blocks)
count_same (Some octets ∷ blocks) =
    sum_by-cons (λ (h : Bool). cond h 1 0) true (received blocks) ∙ ap (λ (n : ℕ). 1 + n) (count_same blocks) ∙ sym (sum_by-cons (λ (b : Option (List ℕ)). cond (is_some b) 1 0) (Some octets) blocks)

flags_filling : (entry : BankState) (marks : List Bool) (p : Parameters) → is_filling entry ≡ true → flags_by entry marks p ≡ marks
flags_filling Empty marks p e = absurd (cc e)
flags_filling (Filling size log) marks p e = refl
flags_filling (Sealed meta) marks p e = absurd (cc e)

is_so : (entry : BankState) → is_filling entry ≡ true → IsFilling entry
is_so Empty e = absurd (cc e)
is_so (Filling size log) e = tt
is_so (Sealed meta) e = absurd (cc e)

not_so : (entry : BankState) → is_filling entry ≡ false → IsFilling entry → ⊥
not_so Empty e is = is
not_so (Filling size log) e is = cc e
not_so (Sealed meta) e is = is

not_sealed : (entry : BankState) (meta : Meta) → is_filling entry ≡ true → entry ≡ Sealed meta → ⊥
not_sealed Empty meta e is = cc e
not_sealed (Filling size log) meta e is = cc is
not_sealed (Sealed m) meta e is = cc e

flags_there : (r : Record) (marks : List Bool) (bank : ℕ) (q : Option Parameters) → BankGoesWith r bank q → is_filling (entry_of r bank) ≡ true → flags_with (entry_of r bank) marks q ≡ marks
flags_there r marks bank None goes e = absurd (goes bank (is_so (entry_of r bank) e))
flags_there r marks bank (Some p) goes e = flags_filling (entry_of r bank) marks p e

-- a job whose bank is being filled is one whose blocks come
coming_count : (stored : Stored) (meta : Meta) (r : Record) (bank : ℕ) (q : Option Parameters) (blocks : Slots) → BankGoesWith r bank q → StoredGoesWith stored meta q (entry_of r bank) → is_filling (entry_of r bank) ≡ true
    → held_count blocks ≡ filling_blocks blocks stored
coming_count Coming meta r bank q blocks goes with e = refl
coming_count Verified meta r bank q blocks goes with e = absurd (not_sealed (entry_of r bank) meta e with.1)
coming_count Refused meta r bank q blocks goes with e = absurd (subst (λ (o : Option Parameters). BankGoesWith r bank o) with goes bank (is_so (entry_of r bank) e))
coming_count Applied meta r bank q blocks goes with e = absurd (not_sealed (entry_of r bank) meta e with.1)

pub filled : {F : Type 0} {g : _} (place : Place F g) (job : Option BlobJob) (active : List ℕ) (note : Option NoteJobHere) (blocks : Slots) → HasBlobRules (place_record place) (option_map part_job job)
    → HasNodeJob (place_record place) active (option_map part_job job) (option_map note_job note) → received blocks ≡ flags_of place job → fills_by place job ≡ true
    → count_by (λ h. h) (place_held place) ≡ filling_count (job_with (option_map part_job job) (option_map note_job note) blocks)
filled place None active note blocks rules has is e = absurd (cc e)
filled place (Some j) active None blocks rules has is e = absurd has
filled place (Some j) active (Some k) blocks rules has is e =
    ap (count_by (λ h. h)) (sym (is ∙ flags_there (place_record place) (place_held place) j.bank j.parameters rules.goes_with e)) ∙ count_same blocks
    ∙ coming_count k.stored k.meta (place_record place) j.bank j.parameters blocks rules.goes_with has.stored e

no_blocks : (blocks : Slots) → received blocks ≡ [] → 0 ≡ held_count blocks
no_blocks [] e = refl
no_blocks (b ∷ blocks) e = absurd (cc e)

idle_count : (stored : Stored) (meta : Meta) (entry : BankState) (marks : List Bool) (q : Option Parameters) (blocks : Slots) → StoredGoesWith stored meta q entry → is_filling entry ≡ false → received blocks ≡ flags_with entry marks q
    → 0 ≡ filling_blocks blocks stored
idle_count Coming meta entry marks None blocks with e is = no_blocks blocks is
idle_count Coming meta entry marks (Some p) blocks with e is = absurd (not_so entry e with)
idle_count Verified meta entry marks q blocks with e is = refl
idle_count Refused meta entry marks q blocks with e is = refl
idle_count Applied meta entry marks q blocks with e is = refl

pub unfilled : {F : Type 0} {g : _} (place : Place F g) (job : Option BlobJob) (active : List ℕ) (note : Option NoteJobHere) (blocks : Slots)
    → HasNodeJob (place_record place) active (option_map part_job job) (option_map note_job note) → received blocks ≡ flags_of place job → fills_by place job ≡ false
    → 0 ≡ filling_count (job_with (option_map part_job job) (option_map note_job note) blocks)
unfilled place None active note blocks has is e = refl
unfilled place (Some j) active None blocks has is e = absurd has
unfilled place (Some j) active (Some k) blocks has is e = idle_count k.stored k.meta (entry_of (place_record place) j.bank) (place_held place) j.parameters blocks has.stored e is

-- ---- a node's server

pub server_is : {F : Type 0} {g : _} (node : Node F g) (n : NodeState) → FullIsShown → IsNodeMemory (memory_of node) → (h : Shows node n) → server_of (server_in node) h.kept.blocks n.moment ≡ server_alone n
server_is node n full rules h =
    let serving = serves full (place_record (place_in node)) (memory_of node).note.active (job_in (store_of (server_in node))) (note_in node).job (flags_in (store_of (server_in node))) h.kept.blocks rules.job h.kept.held n.durable.job h.kept.job in
    λ i. record { capacity = sym h.kept.capacity i; serving = serving i; session = sym h.session i; now = n.moment }
