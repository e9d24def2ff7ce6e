use Rattle.std.proofs.Common.{inl, inr}
use Rattle.mu_model_refusals.proofs.laws.spell_or_are_refused.Goals as goal

pub returns : goal.returns
returns c table bytes holds octets =
    let read = c.reads_what_is_spelled.ensures in
    elim (c.is_one_or_the_other.ensures table bytes) [
      | inl h ↦ inl (record {
        message = h.0;
        fits = ((read table bytes h.0 holds octets).0 h.1).0;
        spells = ((read table bytes h.0 holds octets).0 h.1).1;
        one = λ m fits spells. h.2 m ((read table bytes m holds octets).1 (fits, spells));
        never = h.3;
      })
      | inr h ↦ inr (record { refusal = h.0; is = h.1; never = λ m fits spells. h.3 m ((read table bytes m holds octets).1 (fits, spells)) })
    ]
