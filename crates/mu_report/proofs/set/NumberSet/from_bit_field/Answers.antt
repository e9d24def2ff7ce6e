use Rattle.std.proofs.Common.{◌+◌, ◌/◌, ◌∙◌, ℕ, sym, ap}
use Rattle.mu_report.specs.Words.{AreWords}
use Rattle.mu_report.proofs.Bits.{set-length, has-set}
use Rattle.mu_report.proofs.set.NumberSet.from_bit_field.Goals as goal

are_words : (c : goal.Else-has_past) → AreWords c.words_of-words.result c.args.n
are_words c = record { most = c.requires; count = c.words_of-words.ensures.count; past = c.has_past.ensures.0 c.if-has_past.false }

pub returns-clause-names : goal.returns-clause-names
returns-clause-names c =
    let words = c.words_of-words.result in
    let are = are_words c in
    let long = set-length words c.args.n in (
      long,
      record {
        count = c.if-octets-field_length.false ∙ c.field_length.ensures ∙ ap (λ (n : ℕ). (n + 7) / 8) (sym long);
        bits = λ i. sym (c.words_of-words.ensures.bits i) ∙ sym (has-set words c.args.n i are);
      },
    )
