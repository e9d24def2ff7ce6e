-- A `settle` comes to one end, where two are known to print the same.
use Rattle.std.proofs.Common.{◌≡◌, ◌<◌, ◌≤◌, ◌+◌, ℕ, zero, suc, List, [], ◌∷◌, ◌++◌, length, refl, sym, ap, subst, ◌∙◌, arith, append_assoc, Option, Some, None, Contains, slice_get}
use Rattle.std.specs.Prelude.{⊤}
use Rattle.std.specs.List.{AllByRecursion}
use Rattle.std.proofs.lemmas.Option.{slice_get_within}
use Rattle.mu_model_wire.specs.Packet.{Packet}
use Rattle.mu_model_mesh.specs.Mesh.{Mesh, addressees, moment_at}
use Rattle.mu_model_mesh.specs.MeshOutcomes.{MeshOutcome}
use Rattle.mu_model_mesh.specs.Settle.{turn_time, turn_comes, EachComes, given_to, AllComes, none_left, comes, Turns, Settles}
use Rattle.mu_model_mesh_runs.specs.Goes.{Coming, ByTime, ByPacket, NextOfEach, first, later, NextOfAll, this, after, NextOfTurn, in_time, in_packets, GoesThrough, in_turn, in_later}
use Rattle.mu_model_mesh_fixed.proofs.Lists.{of_all}
use Rattle.mu_model_mesh_fixed.proofs.Modes.{Mode, Tears}
use Rattle.mu_model_mesh_fixed.proofs.Sound.{Good}
use Rattle.mu_model_mesh_fixed.proofs.Events.{CutLaws, Alike, packets_one, times_one}

-- both come to the same, and what is printed after it is known still
pub record Same (mode : Mode) (text text' rest rest' : List ℕ) (next next' : Mesh) : Type 0 where
  pub texts : text ≡ text'
  pub worlds : next ≡ next'
  pub rests : mode.same rest rest'
  pub tears : Tears mode next

-- known of two texts, in parts
split : (mode : Mode) (text text' one one' two two' rest rest' : List ℕ) → text ≡ one ++ two → text' ≡ one' ++ two' → mode.same (text ++ rest) (text' ++ rest') → mode.same (one ++ (two ++ rest)) (one' ++ (two' ++ rest'))
split mode text text' one one' two two' rest rest' e f c =
    let left : text ++ rest ≡ one ++ (two ++ rest) = ap (λ t. t ++ rest) e ∙ append_assoc one two rest in
    let right : text' ++ rest' ≡ one' ++ (two' ++ rest') = ap (λ t. t ++ rest') f ∙ append_assoc one' two' rest' in
    subst (λ t. mode.same (one ++ (two ++ rest)) t) right (subst (λ t. mode.same t (text' ++ rest')) left c)

joined : (text text' one one' two two' : List ℕ) → text ≡ one ++ two → text' ≡ one' ++ two' → one ≡ one' → two ≡ two' → text ≡ text'
joined text text' one one' two two' e f g h = e ∙ (ap (λ t. t ++ two) g ∙ (ap (λ t. one' ++ t) h ∙ sym f))

pub from_alike : (mode : Mode) (outs : List MeshOutcome) (text text' rest rest' : List ℕ) (next next' : Mesh) → Alike mode outs
    → Contains outs (record { mesh = next; text = text }) → Contains outs (record { mesh = next'; text = text' }) → mode.same (text ++ rest) (text' ++ rest') → Same mode text text' rest rest' next next'
from_alike mode outs text text' rest rest' next next' alike p q c =
    let same = alike.one (record { mesh = next; text = text }) (record { mesh = next'; text = text' }) rest rest' p q c in
    let texts : text ≡ text' = ap (λ (o : MeshOutcome). o.text) same in
    record {
      texts = texts;
      worlds = ap (λ (o : MeshOutcome). o.mesh) same;
      rests = mode.cancel text rest rest' (subst (λ t. mode.same (text ++ rest) (t ++ rest')) (sym texts) c);
      tears = of_all (λ (o : MeshOutcome). Tears mode o.mesh) outs (record { mesh = next; text = text }) alike.tears p;
    }

empty_same : (mode : Mode) (m next next' : Mesh) (text text' rest rest' : List ℕ) → Tears mode m → text ≡ [] → next ≡ m → text' ≡ [] → next' ≡ m → mode.same (text ++ rest) (text' ++ rest') → Same mode text text' rest rest' next next'
empty_same mode m next next' text text' rest rest' t e f e' f' c = record {
  texts = e ∙ sym e';
  worlds = f ∙ sym f';
  rests = subst (λ (w : List ℕ). mode.same rest (w ++ rest')) e' (subst (λ (w : List ℕ). mode.same (w ++ rest) (text' ++ rest')) e c);
  tears = subst (λ (x : Mesh). Tears mode x) (sym f) t;
}

module _ (mode : Mode) where
  -- ---- one after the other

  module _ (outs : Mesh → ℕ → List MeshOutcome) (alike : (x : Mesh) (a : ℕ) → Good x → Tears mode x → Alike mode (outs x a)) where
    each_same : (addresses : List ℕ) (m : Mesh) (text text' rest rest' : List ℕ) (next next' : Mesh) → Tears mode m → ((a : ℕ) (x : Mesh) → NextOfEach outs addresses m a x → Good x)
        → EachComes outs addresses m text next → EachComes outs addresses m text' next' → mode.same (text ++ rest) (text' ++ rest') → Same mode text text' rest rest' next next'
    each_same [] m text text' rest rest' next next' t good p q c = empty_same mode m next next' text text' rest rest' t p.0 p.1 q.0 q.1 c
    each_same (a ∷ addresses) m text text' rest rest' next next' t good p q c =
        let head = from_alike mode (outs m a) p.1 q.1 (p.2 ++ rest) (q.2 ++ rest') p.0 q.0 (alike m a (good a m first) t) p.3 q.3 (split mode text text' p.1 q.1 p.2 q.2 rest rest' p.5 q.5 c) in
        let others = each_same addresses p.0 p.2 q.2 rest rest' next next' head.tears (λ b x n. good b x (later p.1 p.3 n)) p.4 (subst (λ (x : Mesh). EachComes outs addresses x q.2 next') (sym head.worlds) q.4) head.rests in
        record { texts = joined text text' p.1 q.1 p.2 q.2 p.5 q.5 head.texts others.texts; worlds = others.worlds; rests = others.rests; tears = others.tears }

  module _ (laws : CutLaws) where
    -- ---- all packets

    given_one : (number : ℕ) (x : Mesh) (a : ℕ) → Good x → Tears mode x → Alike mode (given_to number x a)
    given_one number x a g t = packets_one mode laws x t g number a

    turn_one : (x : Mesh) (a : ℕ) → Good x → Tears mode x → Alike mode (turn_comes x a)
    turn_one x a g t = times_one mode laws x t g a (moment_at x a + turn_time)

    record Came (number : ℕ) (m : Mesh) (text : List ℕ) (next : Mesh) : Type 0 where
      pub mid : Mesh
      pub front : List ℕ
      pub more : List ℕ
      pub packet : Packet
      pub at : slice_get m.nodes.bag number ≡ Some packet
      pub each : EachComes (given_to number) (addressees m packet) m front mid
      pub all : AllComes (number + 1) mid more next
      pub is : text ≡ front ++ more

    not_past : (m : Mesh) (number : ℕ) (packet : Packet) → slice_get m.nodes.bag number ≡ Some packet → length m.nodes.bag ≤ number → ⊥
    not_past m number packet at past = let within : number < length m.nodes.bag = slice_get_within m.nodes.bag number packet at in omega (arith, within, past)

    came : {number : ℕ} {m : Mesh} {text : List ℕ} {next : Mesh} (packet : Packet) → slice_get m.nodes.bag number ≡ Some packet → AllComes number m text next → Came number m text next
    came {number} {m} packet at (none_left past) = absurd (not_past m number packet at past)
    came packet at (comes {mid = mid} front more own own_at each all) = record { mid = mid; front = front; more = more; packet = own; at = own_at; each = each; all = all; is = refl }

    record Over (m : Mesh) (text : List ℕ) (next : Mesh) : Type 0 where
      pub text_is : text ≡ []
      pub next_is : next ≡ m

    over : {number : ℕ} {m : Mesh} {text : List ℕ} {next : Mesh} → length m.nodes.bag ≤ number → AllComes number m text next → Over m text next
    over past (none_left still) = record { text_is = refl; next_is = refl }
    over {number} {m} past (comes front more packet at each all) = absurd (not_past m number packet at past)

    same_packet : (p q : Packet) (found : Option Packet) → found ≡ Some p → found ≡ Some q → q ≡ p
    same_packet p q found e f = let both : Some p ≡ Some q = sym e ∙ f in cc

    all_same : {number : ℕ} {m : Mesh} {text : List ℕ} {next : Mesh} (text' rest rest' : List ℕ) (next' : Mesh) → Tears mode m → ((k a : ℕ) (x : Mesh) → NextOfAll number m k a x → Good x)
        → AllComes number m text next → AllComes number m text' next' → mode.same (text ++ rest) (text' ++ rest') → Same mode text text' rest rest' next next'
    all_same {m = m} text' rest rest' next' t good (none_left past) q c = let o = over past q in empty_same mode m m next' [] text' rest rest' t refl refl o.text_is o.next_is c
    all_same {number = number} {m = m} {next = next} text' rest rest' next' t good (comes {mid = mid} front more packet at each all) q c =
        let o = came packet at q in
        let own : o.packet ≡ packet = same_packet packet o.packet (slice_get m.nodes.bag number) at o.at in
        let head = each_same (given_to number) (given_one number) (addressees m packet) m front o.front (more ++ rest) (o.more ++ rest') mid o.mid t (λ a x n. good number a x (this packet at n))
        each (subst (λ (p : Packet). EachComes (given_to number) (addressees m p) m o.front o.mid) own o.each) (split mode (front ++ more) text' front o.front more o.more rest rest' refl o.is c) in
        let others = all_same o.more rest rest' next' head.tears (λ k a x n. good k a x (after front packet at each n)) all (subst (λ (x : Mesh). AllComes (number + 1) x o.more next') (sym head.worlds) o.all) head.rests in
        record { texts = joined (front ++ more) text' front o.front more o.more refl o.is head.texts others.texts; worlds = others.worlds; rests = others.rests; tears = others.tears }

    -- ---- turns

    counted_tears : (next last : Mesh) → next ≡ record last { turns = last.turns + 1 } → Tears mode last → Tears mode next
    counted_tears next last e t = subst (λ (x : Mesh). Tears mode x) (sym e) (record { nodes = t.nodes; distributors = t.distributors })

    turn_same : (m : Mesh) (text text' rest rest' : List ℕ) (next next' : Mesh) → Tears mode m → ((coming : Coming) (x : Mesh) → NextOfTurn m coming x → Good x)
        → Turns m text next → Turns m text' next' → mode.same (text ++ rest) (text' ++ rest') → Same mode text text' rest rest' next next'
    turn_same m text text' rest rest' next next' t good p q c =
        let head = each_same turn_comes turn_one m.order m p.first q.first (p.rest ++ rest) (q.rest ++ rest') p.mid q.mid t (λ a x n. good (ByTime a (moment_at x a + turn_time)) x (in_time n))
        p.time q.time (split mode text text' p.first q.first p.rest q.rest rest rest' p.printed q.printed c) in
        let others = all_same q.rest rest rest' q.last head.tears (λ k a x n. good (ByPacket k a) x (in_packets p.first p.time n)) p.packets
        (subst (λ (x : Mesh). AllComes (length m.nodes.bag) x q.rest q.last) (sym head.worlds) q.packets) head.rests in
        record {
          texts = joined text text' p.first q.first p.rest q.rest p.printed q.printed head.texts others.texts;
          worlds = p.counted ∙ (ap (λ (x : Mesh). record x { turns = x.turns + 1 }) others.worlds ∙ sym q.counted);
          rests = others.rests;
          tears = counted_tears next p.last p.counted others.tears;
        }

    pub settle_same : (turns : ℕ) (m : Mesh) (text text' rest rest' : List ℕ) (next next' : Mesh) → Tears mode m → ((coming : Coming) (x : Mesh) → GoesThrough turns m coming x → Good x)
        → Settles turns m text next → Settles turns m text' next' → mode.same (text ++ rest) (text' ++ rest') → Same mode text text' rest rest' next next'
    settle_same zero m text text' rest rest' next next' t good p q c = empty_same mode m next next' text text' rest rest' t p.0 p.1 q.0 q.1 c
    settle_same (suc turns) m text text' rest rest' next next' t good p q c =
        let head = turn_same m p.1 q.1 (p.2 ++ rest) (q.2 ++ rest') p.0 q.0 t (λ coming x n. good coming x (in_turn n)) p.3 q.3 (split mode text text' p.1 q.1 p.2 q.2 rest rest' p.5 q.5 c) in
        let others = settle_same turns p.0 p.2 q.2 rest rest' next next' head.tears (λ coming x n. good coming x (in_later p.1 p.3 n)) p.4
        (subst (λ (x : Mesh). Settles turns x q.2 next') (sym head.worlds) q.4) head.rests in
        record { texts = joined text text' p.1 q.1 p.2 q.2 p.5 q.5 head.texts others.texts; worlds = others.worlds; rests = others.rests; tears = others.tears }
