-- What is missing of a block, by what was received of it, and so when a report is due.
use Rattle.std.proofs.Common.{◌≡◌, ◌∙◌, ℕ, zero, suc, ◌+◌, Bool, true, false, List, [], ◌∷◌, take, refl, sym, ap, Option, Some, None}
use Rattle.std.specs.Prelude.{not, ◌||◌, nat_le, is_none}
use Rattle.std.specs.List.{list_any}
use Rattle.mu_model_wire.specs.Reports.{has, members, complement}
use Rattle.mu_model_node.specs.Slots.{Slots, at, missing, received}
use Rattle.mu_model_node.specs.BlobServer.{Server, CurrentBlock, PullReport}
use Rattle.mu_model_node.specs.BlobTable.{is_due, pulls}
use Rattle.mu_blob_rows.specs.declared.session.Session.{Session}
use Rattle.mu_blob_rows.specs.Sessions.{there, session_of, report_of}
use Rattle.mu_blob_rows.specs.Rows.{asked_by}
use Rattle.mu_blob_rows.specs.Pulls.{is_due_by}

pub missing_is_the_rest : (slots : Slots) → missing slots ≡ complement (received slots)
missing_is_the_rest [] = refl
missing_is_the_rest (None ∷ slots) = ap (λ (bs : List Bool). true ∷ bs) (missing_is_the_rest slots)
missing_is_the_rest (Some octets ∷ slots) = ap (λ (bs : List Bool). false ∷ bs) (missing_is_the_rest slots)

missing_at : (slots : Slots) (k : ℕ) → is_none (at slots k) ≡ not (has (received slots) k)
missing_at [] k = refl
missing_at (None ∷ slots) zero = refl
missing_at (Some octets ∷ slots) zero = refl
missing_at (None ∷ slots) (suc k) = missing_at slots k
missing_at (Some octets ∷ slots) (suc k) = missing_at slots k

any_missing : (slots : Slots) (ks : List ℕ) → list_any (λ k. is_none (at slots k)) ks ≡ list_any (λ k. not (has (received slots) k)) ks
any_missing slots [] = refl
any_missing slots (k ∷ ks) = rw (missing_at slots k) (ap (λ (b : Bool). not (has (received slots) k) || b) (any_missing slots ks))

due_by : (v : Server) (c : CurrentBlock) (report : Option PullReport) → is_due v c report ≡ is_due_by (received c.chunks) v.now report
due_by v c None = refl
due_by v c (Some last) = ap (λ (b : Bool). not b || nat_le (last.moment + 1000) v.now) (any_missing c.chunks last.chunks)

-- so far as the session has it
due_in : (v : Server) (c : CurrentBlock) (l : Session) (set : List Bool) (now : ℕ) → v.session ≡ session_of l (Some c) → v.now ≡ now → received c.chunks ≡ set
    → is_due v c v.session.report ≡ is_due_by set now (there report_of l.report)
due_in v c l set now session moment received_is =
    due_by v c v.session.report ∙ rw (session, moment, received_is) refl

pub asks : (v : Server) (c : CurrentBlock) (l : Session) (set : List Bool) (now : ℕ) (items : List ℕ) → is_due_by set now (there report_of l.report) ≡ true → items ≡ take 16 (members (complement set))
    → v.session ≡ session_of l (Some c) → v.now ≡ now → received c.chunks ≡ set → pulls v c ≡ asked_by v (Some items)
asks v c l set now items due is session moment received_is =
    let test : is_due v c v.session.report ≡ true = due_in v c l set now session moment received_is ∙ due in
    let rest : take 16 (members (missing c.chunks)) ≡ items = ap (λ (x : List Bool). take 16 (members x)) (missing_is_the_rest c.chunks ∙ ap complement received_is) ∙ sym is in
    rw (test, rest) refl

pub asks_nothing : (v : Server) (c : CurrentBlock) (l : Session) (set : List Bool) (now : ℕ) → is_due_by set now (there report_of l.report) ≡ false
    → v.session ≡ session_of l (Some c) → v.now ≡ now → received c.chunks ≡ set → pulls v c ≡ asked_by v None
asks_nothing v c l set now due session moment received_is =
    let test : is_due v c v.session.report ≡ false = due_in v c l set now session moment received_is ∙ due in
    rw test refl
