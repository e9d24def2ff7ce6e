-- That a member may be added, and that a content has octets.
use Rattle.std.proofs.Common.{◌≡◌, ℕ, length, Option, Some, None, true, false, cond, is_some, nat_le, refl, ◌≤◌}
use Rattle.std.specs.Prelude.{◌||◌}
use Rattle.mu_model_script.specs.declared.BadWhy.TheVariants.{Member as BadMember}
use Rattle.mu_model_image.specs.Laws.{MadeImageHasItsSize}
use Rattle.mu_model_script.specs.Ranges.{IsContent}
use Rattle.mu_model_script.specs.Tokens.{Content, Hex, Made}
use Rattle.mu_model_world.specs.Outcomes.{content_octets}
use Rattle.mu_model_world.specs.World.{World, member_at}
use Rattle.mu_model_world.specs.Judged.{against, against_member}

none_of : {X : Type 0} (o : Option X) → is_some o ≡ false → o ≡ None
none_of None h = refl
none_of (Some x) h = absurd cc

-- then its address is that of no member
pub free_at : (w : World) (address : ℕ) → against_member w address ≡ None → member_at w address ≡ None
free_at w address h =
    elim (w.begun || nat_le 32 (length w.members))
    as (λ t. cond t (against 0 BadMember) (cond (is_some (member_at w address)) (against 1 BadMember) None) ≡ None → member_at w address ≡ None) [
      | true ↦ λ e. absurd cc
      | false ↦ λ e. elim (is_some (member_at w address)) as (λ u. is_some (member_at w address) ≡ u → cond u (against 1 BadMember) None ≡ None → member_at w address ≡ None) [
        | true ↦ λ there f. absurd cc
        | false ↦ λ there f. none_of (member_at w address) there
      ] refl e
    ] h

pub some_octets : MadeImageHasItsSize → (content : Content) → IsContent content → 1 ≤ length (content_octets content)
some_octets made (Hex octets) h = h.0.0
some_octets made (Made seed size) h = rw (made seed size) h.1.0
