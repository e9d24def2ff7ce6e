-- What reports tell a client.
use Rattle.std.proofs.Common.{◌≡◌, ℕ, List, [], ◌∷◌, refl, ap}
use Rattle.mu_model_wire.specs.Names.{missing}
use Rattle.mu_model_wire.specs.Reports.{shown_numbers}
use Rattle.mu_model_wire.specs.declared.reports.Report.{Report}
use Rattle.mu_model_wire.specs.declared.reports.Report.TheVariants.{All, Nothing, Bits, List as Listed}
use Rattle.mu_model_client.specs.Answers.{numbers_of, block_of_message, BlockIs}
use Rattle.mu_blobmsg.specs.View.{view}
use Rattle.mu_blobmsg.specs.declared.message.BlobMsg.TheVariants.{BlockStatus}

pub numbers_again : (numbers : List ℕ) → numbers_of missing (shown_numbers missing numbers) ≡ numbers
numbers_again [] = refl
numbers_again (n ∷ numbers) = ap (λ (ns : List ℕ). n ∷ ns) (numbers_again numbers)

pub block_told : (status block chunk : ℕ) (report : Report) → block_of_message (view (BlockStatus status block chunk report)) ≡ BlockIs status block chunk report
block_told status block chunk All = refl
block_told status block chunk Nothing = refl
block_told status block chunk (Bits octets) = refl
block_told status block chunk (Listed numbers) = ap (λ (ns : List ℕ). BlockIs status block chunk (Listed (record { items = ns }))) (numbers_again numbers.items)
