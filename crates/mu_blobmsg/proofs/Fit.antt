use Rattle.std.proofs.Common.{◌≤◌, ◌<◌, ◌^◌, Bool, List, length, get_or, Result, Ok, Err, refl, ap, arith}
use Rattle.std.proofs.lemmas.List.Elements.{All-from_get_or}
use Rattle.std.specs.Prelude.{ℕ, IfOk, IsTrue, ◌↔◌}
use Rattle.mu_model_wire.specs.Names.{missing}
use Rattle.mu_model_wire.specs.Patterns.{list_spelling}
use Rattle.mu_model_wire.specs.Reports.{NumbersFitTheGrammar, GrammarSpellsLists}
use Rattle.mu_blobmsg.specs.Ranges.{ListFits}
use Rattle.mu_blobmsg.specs.declared.message.BlobMsg.TheVariants.{PartialBlockReport}
use Rattle.mu_model_wire.specs.declared.Refusal.{Refusal}
use Rattle.mu_model_wire.specs.Reading.{Gives, message_at}
use Rattle.mu_model_wire.specs.Spelling.{Fits}
use Rattle.mu_model_wire.specs.Laws.{AreOctets, ReadsWhatIsSpelled}
use Rattle.mu_model_wire.specs.Blob.{blob_rows}
use Rattle.mu_blobmsg.specs.declared.message.BlobMsg.{BlobMsg}
use Rattle.mu_blobmsg.specs.View.{view}

-- what is read is in its ranges
pub is_fit : ReadsWhatIsSpelled → (bytes : List ℕ) (r : Result BlobMsg Refusal) → AreOctets bytes → Gives view r (message_at blob_rows bytes) → IfOk r (λ m. Fits blob_rows (view m))
is_fit law bytes (Ok m) octets given = ((law blob_rows bytes (view m) refl octets).0 given).0
is_fit law bytes (Err e) octets given = tt

-- a list in range
pub partial_fits : (numbers : List ℕ) (b : Bool) → IsTrue b ↔ ListFits numbers 379
    → IsTrue b ↔ Fits blob_rows (view (PartialBlockReport (record { items = numbers })))
partial_fits numbers b is =
    ((λ t. let f = is.0 t in ((refl, omega arith, f.0), omega (arith, f.1))), (λ fits. is.1 (fits.0.2, omega (arith, fits.1))))

pub list_in_range : NumbersFitTheGrammar → GrammarSpellsLists → (numbers : List ℕ) (most : ℕ) (b : Bool) → ((i : ℕ) → get_or numbers i 0 < 2 ^ 16)
    → IsTrue b ↔ (length (list_spelling numbers) ≤ most) → IsTrue b ↔ ListFits numbers most
list_in_range fits spells numbers most b small is =
    let same = ap length (spells missing numbers) in
    ((λ t. (fits missing numbers (All-from_get_or (λ (n : ℕ). n < 2 ^ 16) numbers 0 (λ i inside. small i)), omega (arith, same, is.0 t))), (λ list. is.1 (omega (arith, same, list.1))))
