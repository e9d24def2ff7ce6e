-- Calls one after the other.
use Rattle.std.proofs.Common.{◌≡◌, ℕ, zero, suc, ◌+◌, ◌<◌, Bool, true, false, IsTrue, Option, Some, None, List, [], ◌∷◌, ◌++◌, length, take, map, get_or, refl, sym, ◌∙◌, ap, subst, append_assoc, arith, Result, Ok, Err}
use Rattle.std.proofs.lemmas.List.{map-append, append-nil}
use Rattle.std.specs.Prelude.{IfSome, IfErr, OnOk, flat_map}
use Rattle.mu_model_wire.specs.Packet.{Packet}
use Rattle.std.specs.List.{AllByRecursion}
use Rattle.std.proofs.Math.Seq.{take-suc}
use Rattle.std.proofs.Math.ListN.{get_or-map}
use Rattle.std.proofs.lemmas.List.{length-map}
use Rattle.mu_outside.specs.Link.{LinkSeen, Carried, Answer, Stays, Received}
use Rattle.mu_turns.specs.Turns.{Event, Time, Stepping, Failing, Turn, Runs, Rounds, Over, Answers, Made, Broke, Cut, EndsBy, answer, carried, events_of, read}
use Rattle.mu_turns.specs.declared.stop.Fault.{Fault}
use Rattle.mu_turns.specs.declared.stop.Stop.{Stop}
use Rattle.mu_turns.specs.declared.stop.Stop.TheVariants.{Link, Member}

pub over_then : (me : ℕ) (a b c : LinkSeen) (f g : List (Option (List ℕ))) (s t : List Packet) → Over me a b f s → Over me b c g t → Over me a c (f ++ g) (s ++ t)
over_then me a b c f g s t x y = record {
  told = y.told ∙ x.told;
  bound = λ told b'. y.bound (subst (λ (v : Bool). IsTrue v) (sym x.told) told) b' ∙ x.bound told b';
  received = λ told.
      let told' = subst (λ (v : Bool). IsTrue v) (sym x.told) told in
      y.received told'
      ∙ ap (λ (l : List Answer). l ++ map (answer me (b.bound me)) g) (x.received told)
      ∙ ap (λ (v : Bool). (a.answers ++ map (answer me (a.bound me)) f) ++ map (answer me v) g) (x.bound told me)
      ∙ append_assoc a.answers (map (answer me (a.bound me)) f) (map (answer me (a.bound me)) g)
      ∙ ap (λ (l : List Answer). a.answers ++ l) (sym (map-append (answer me (a.bound me)) f g));
  went = λ told.
      let told' = subst (λ (v : Bool). IsTrue v) (sym x.told) told in
      y.went told'
      ∙ ap (λ (l : List Carried). l ++ map carried t) (x.went told)
      ∙ append_assoc a.sent (map carried s) (map carried t)
      ∙ ap (λ (l : List Carried). a.sent ++ l) (sym (map-append carried s t));
}

pub over_none : (me : ℕ) (a : LinkSeen) → Over me a a [] []
over_none me a = record {
  told = refl;
  bound = λ told a'. refl;
  received = λ told. sym (append-nil a.answers);
  went = λ told. sym (append-nil a.sent);
}

pub answers_then : (a b c : Option (List ℕ)) (v w : List ℕ) → Answers a b v → Answers b c w → Answers a c (v ++ w)
answers_then a b None v w x y = tt
answers_then a None (Some after) v w x y =
    let impossible : None ≡ Some y.0 = y.1 in
    absurd cc
answers_then a (Some middle) (Some after) v w x y =
    let same : y.0 ≡ middle = cc in
    (x.0, x.1, y.2 ∙ ap (λ (l : List ℕ). l ++ w) (same ∙ x.2) ∙ append_assoc x.0 v w)

pub answers_none : (a : Option (List ℕ)) → Answers a a []
answers_none None = tt
answers_none (Some v) = (v, refl, sym (append-nil v))

pub runs_then : {M : Type 0} (Step : Stepping M) (a b c : M) (es fs : List Event) (s t : List Packet) → Runs Step a es b s → Runs Step b fs c t → Runs Step a (es ++ fs) c (s ++ t)
runs_then Step a b c [] fs s t x y = subst (λ (m : _). Runs Step m fs c (s ++ t)) x.0 (subst (λ (l : List Packet). Runs Step b fs c (l ++ t)) (sym x.1) y)
runs_then Step a b c (e ∷ es) fs s t x y =
    (x.0, x.1, x.2 ++ t, x.3, runs_then Step x.0 b c es fs x.2 t x.4 y, ap (λ (l : List Packet). l ++ t) x.5 ∙ append_assoc x.1 x.2 t)

pub rounds_then : {M : Type 0} (Step : Stepping M) (ended : M → Bool) (a b c : M) (ts us : List Turn) (s t : List Packet) → Rounds Step ended a ts b s → Rounds Step ended b us c t → Rounds Step ended a (ts ++ us) c (s ++ t)
rounds_then Step ended a b c [] us s t x y = subst (λ (m : _). Rounds Step ended m us c (s ++ t)) x.0 (subst (λ (l : List Packet). Rounds Step ended b us c (l ++ t)) (sym x.1) y)
rounds_then Step ended a b c (turn ∷ ts) us s t x y =
    (x.0, x.1, x.2, x.3 ++ t, x.4, rounds_then Step ended x.1 b c ts us x.3 t x.5 y, ap (λ (l : List Packet). l ++ t) x.6 ∙ append_assoc x.2 x.3 t)

pub rounds_run : {M : Type 0} (Step : Stepping M) (ended : M → Bool) (a c : M) (ts : List Turn) (s : List Packet) → Rounds Step ended a ts c s → Runs Step a (flat_map events_of ts) c s
rounds_run Step ended a c [] s x = x
rounds_run Step ended a c (turn ∷ ts) s x =
    subst (λ (l : List Packet). Runs Step a (events_of turn ++ flat_map events_of ts) c l) (sym x.6) (runs_then Step a x.1 c (events_of turn) (flat_map events_of ts) x.2 x.3 x.4 (rounds_run Step ended x.1 c ts x.3 x.5))

pub all_at : {X Y : Type 0} (f : X → Y) (P : Y → Type 0) (xs : List X) (i : ℕ) (d : X) → i < length xs → AllByRecursion P (map f xs) → P (f (get_or xs i d))
all_at f P [] i d lt all = absurd (omega (arith, lt))
all_at f P (x ∷ xs) zero d lt all = all.0
all_at f P (x ∷ xs) (suc i) d lt all = all_at f P xs i d (omega (arith, lt)) all.1

-- a list up to a place, and from there on
pub split_at : {X : Type 0} (xs : List X) (i : ℕ) → (lost : List X) × xs ≡ take i xs ++ lost
split_at xs zero = (xs, refl)
split_at [] (suc i) = ([], refl)
split_at (x ∷ xs) (suc i) = let more = split_at xs i in (more.0, ap (λ l. x ∷ l) more.1)

module _ {M : Type 0} (Step : Stepping M) (Fails : Failing M) (ended : M → Bool) (me : ℕ) where
  pub cut_member : (old new : M) (l : LinkSeen) (e : Event) (fault : Fault) → Fails old e fault new → Cut Step Fails me old new l l (e ∷ []) (Member fault)
  cut_member old new l e fault fails = record { handled = []; left = e ∷ []; of_events = refl; state = old; replies = []; sent = []; runs = (refl, refl); over = over_none me l; ends = (e, [], refl, fails, refl) }

  pub cut_link : (old new : M) (l l' : LinkSeen) (e : Event) (replies : List Packet) → Step old e new replies
      → ((sent : List Packet) × (lost : List Packet) × (replies ≡ sent ++ lost) × Over me l l' [] sent) → Cut Step Fails me old new l l' (e ∷ []) Link
  cut_link old new l l' e replies step h = record {
    handled = e ∷ [];
    left = [];
    of_events = refl;
    state = new;
    replies = replies;
    sent = h.0;
    runs = (new, replies, [], step, (refl, refl), sym (append-nil replies));
    over = h.3;
    ends = (refl, h.1, h.2);
  }

  pub over_stays : (l l' : LinkSeen) → l'.told ≡ l.told → (IsTrue l.told → Stays l l') → Over me l l' [] []
  over_stays l l' told h = record {
    told = told;
    bound = λ t a. (h t).keeps.bound a;
    received = λ t. (h t).keeps.answers ∙ sym (append-nil l.answers);
    went = λ t. (h t).keeps.sent ∙ sym (append-nil l.sent);
  }

  pub over_received : (l l' : LinkSeen) (found : Option (List ℕ)) → l'.told ≡ l.told → (IsTrue l.told → Received me found l l') → Over me l l' (found ∷ []) []
  over_received l l' found told h = record {
    told = told;
    bound = λ t a. (h t).bound a;
    received = λ t. (h t).answers;
    went = λ t. (h t).sent ∙ sym (append-nil l.sent);
  }

  module _ (old : M) (going : ended old ≡ false) (c c' : Option (List ℕ)) (now : ℕ) (moments : Answers c c' (now ∷ [])) where
    pub broke_receive : (l l' : LinkSeen) → Over me l l' [] [] → Broke Step Fails ended me old old c c' l l' [] Link
    broke_receive l l' over = record {
      begun = old;
      earlier = [];
      rounds = (refl, refl);
      goes_on = going;
      now = now;
      finds = [];
      handled = [];
      left = [];
      of_turn = refl;
      state = old;
      replies = [];
      runs = (refl, refl);
      sent = [];
      moments = moments;
      over = over;
      ends = (refl, [], refl);
    }

    ends_more : (state new : M) (left more : List Event) (replies sent first : List Packet) (stop : Stop) → EndsBy Fails state new left replies sent stop → EndsBy Fails state new (left ++ more) (first ++ replies) (first ++ sent) stop
    ends_more state new left more replies sent first Link h = (h.0, h.1, ap (λ (l : List Packet). first ++ l) h.2 ∙ sym (append_assoc first sent h.1))
    ends_more state new left more replies sent first (Member fault) h = (h.0, h.1 ++ more, ap (λ (l : List Event). l ++ more) h.2, h.3, ap (λ (l : List Packet). first ++ l) h.4)

    pub broke_hand : (new : M) (l m l' : LinkSeen) (found : Option (List ℕ)) (stop : Stop)
        → Over me l m (found ∷ []) [] → Cut Step Fails me old new m l' (read now found) stop → Broke Step Fails ended me old new c c' l l' [] stop
    broke_hand new l m l' found stop over cut = record {
      begun = old;
      earlier = [];
      rounds = (refl, refl);
      goes_on = going;
      now = now;
      finds = found ∷ [];
      handled = cut.handled;
      left = cut.left ++ Time now ∷ [];
      of_turn = sym (append_assoc cut.handled cut.left (Time now ∷ [])) ∙ ap (λ (l : List Event). l ++ Time now ∷ []) (sym cut.of_events);
      state = cut.state;
      replies = cut.replies;
      runs = cut.runs;
      sent = cut.sent;
      moments = moments;
      over = over_then me l m l' (found ∷ []) [] [] cut.sent over cut.over;
      ends = ends_more cut.state new cut.left (Time now ∷ []) cut.replies cut.sent [] stop cut.ends;
    }

    pub broke_time : (mid new : M) (l m n l' : LinkSeen) (found : Option (List ℕ)) (stop : Stop)
        → Over me l m (found ∷ []) [] → ((replies : List Packet) × Runs Step old (read now found) mid replies × Over me m n [] replies)
        → Cut Step Fails me mid new n l' (Time now ∷ []) stop → Broke Step Fails ended me old new c c' l l' [] stop
    broke_time mid new l m n l' found stop over handed cut = record {
      begun = old;
      earlier = [];
      rounds = (refl, refl);
      goes_on = going;
      now = now;
      finds = found ∷ [];
      handled = read now found ++ cut.handled;
      left = cut.left;
      of_turn = append_assoc (read now found) cut.handled cut.left ∙ ap (λ (l : List Event). read now found ++ l) (sym cut.of_events);
      state = cut.state;
      replies = handed.0 ++ cut.replies;
      runs = runs_then Step old mid cut.state (read now found) cut.handled handed.0 cut.replies handed.1 cut.runs;
      sent = handed.0 ++ cut.sent;
      moments = moments;
      over = over_then me l n l' (found ∷ []) [] handed.0 cut.sent (over_then me l m n (found ∷ []) [] [] handed.0 over handed.2) cut.over;
      ends = kept stop cut.ends;
    }
      where
        kept : (stop : Stop) → EndsBy Fails cut.state new cut.left cut.replies cut.sent stop → EndsBy Fails cut.state new cut.left (handed.0 ++ cut.replies) (handed.0 ++ cut.sent) stop
        kept Link h = (h.0, h.1, ap (λ (l : List Packet). handed.0 ++ l) h.2 ∙ sym (append_assoc handed.0 cut.sent h.1))
        kept (Member fault) h = (h.0, h.1, h.2, h.3, ap (λ (l : List Packet). handed.0 ++ l) h.4)

    pub made_turn : (mid new : M) (l m n l' : LinkSeen) (found : Option (List ℕ))
        → Over me l m (found ∷ []) [] → ((replies : List Packet) × Runs Step old (read now found) mid replies × Over me m n [] replies)
        → ((replies : List Packet) × Runs Step mid (Time now ∷ []) new replies × Over me n l' [] replies)
        → (turn : Turn) × Made Step ended me old new c c' l l' (turn ∷ [])
    made_turn mid new l m n l' found over handed timed = (
      record { now = now; found = found },
      record {
        replies = handed.0 ++ timed.0;
        rounds = (going, new, handed.0 ++ timed.0, [], runs_then Step old mid new (read now found) (Time now ∷ []) handed.0 timed.0 handed.1 timed.1, (refl, refl), sym (append-nil (handed.0 ++ timed.0)));
        moments = moments;
        over = over_then me l n l' (found ∷ []) [] handed.0 timed.0 (over_then me l m n (found ∷ []) [] [] handed.0 over handed.2) timed.2;
      },
    )

  pub made_none : (old : M) (c : Option (List ℕ)) (l : LinkSeen) → Made Step ended me old old c c l l []
  made_none old c l = record { replies = []; rounds = (refl, refl); moments = answers_none c; over = over_none me l }

  pub made_more : (old mid new : M) (c c1 c2 : Option (List ℕ)) (l l1 l2 : LinkSeen) (ts us : List Turn) → Made Step ended me old mid c c1 l l1 ts → Made Step ended me mid new c1 c2 l1 l2 us → Made Step ended me old new c c2 l l2 (ts ++ us)
  made_more old mid new c c1 c2 l l1 l2 ts us x y = record {
    replies = x.replies ++ y.replies;
    rounds = rounds_then Step ended old mid new ts us x.replies y.replies x.rounds y.rounds;
    moments = rw (map-append (λ (t : Turn). t.now) ts us) (answers_then c c1 c2 (map (λ t. t.now) ts) (map (λ t. t.now) us) x.moments y.moments);
    over = rw (map-append (λ (t : Turn). t.found) ts us) (over_then me l l1 l2 (map (λ t. t.found) ts) (map (λ t. t.found) us) x.replies y.replies x.over y.over);
  }

  -- whole turns, and then one that broke off, as `broke_receive`, `broke_hand` and `broke_time` give it
  pub broke_more : (old mid new : M) (c c1 c2 : Option (List ℕ)) (l l1 l2 : LinkSeen) (ts : List Turn) (stop : Stop) → Made Step ended me old mid c c1 l l1 ts → Broke Step Fails ended me mid new c1 c2 l1 l2 [] stop → Broke Step Fails ended me old new c c2 l l2 ts stop
  broke_more old mid new c c1 c2 l l1 l2 ts stop x y = record {
    begun = y.begun;
    earlier = x.replies ++ y.earlier;
    rounds = subst (λ (us : List Turn). Rounds Step ended old us y.begun (x.replies ++ y.earlier)) (append-nil ts) (rounds_then Step ended old mid y.begun ts [] x.replies y.earlier x.rounds y.rounds);
    goes_on = y.goes_on;
    now = y.now;
    finds = y.finds;
    handled = y.handled;
    left = y.left;
    of_turn = y.of_turn;
    state = y.state;
    replies = y.replies;
    runs = y.runs;
    sent = y.sent;
    moments = answers_then c c1 c2 (map (λ t. t.now) ts) (y.now ∷ []) x.moments y.moments;
    over = subst (λ (s : List Packet). Over me l l2 (map (λ t. t.found) ts ++ y.finds) s) (sym (append_assoc x.replies y.earlier y.sent)) (over_then me l l1 l2 (map (λ t. t.found) ts) y.finds x.replies (y.earlier ++ y.sent) x.over y.over);
    ends = y.ends;
  }

pub cut_all : (me : ℕ) (l m n : LinkSeen) (ps : List Packet) (i : ℕ) → Over me l m [] (take i ps) → Over me m n [] [] → (sent : List Packet) × (lost : List Packet) × (ps ≡ sent ++ lost) × Over me l n [] sent
cut_all me l m n ps i x y =
    let rest = split_at ps i in
    (take i ps, rest.0, rest.1, subst (λ (s : List Packet). Over me l n [] s) (append-nil (take i ps)) (over_then me l m n [] [] (take i ps) [] x y))

pub sent_more : (me : ℕ) (l m n : LinkSeen) (ps : List Packet) (i : ℕ) (p : Packet) → i < length ps → p ≡ get_or ps i p → Over me l m [] (take i ps) → Over me m n [] (p ∷ []) → Over me l n [] (take (i + 1) ps)
sent_more me l m n ps i p lt is x y =
    let on : i + 1 ≡ suc i = omega arith in
    let all : take i ps ++ p ∷ [] ≡ take (i + 1) ps = ap (λ (q : Packet). take i ps ++ q ∷ []) is ∙ sym (take-suc ps i p lt) ∙ ap (λ (k : ℕ). take k ps) (sym on) in
    subst (λ (s : List Packet). Over me l n [] s) all (over_then me l m n [] [] (take i ps) (p ∷ []) x y)

pub on_ok_map : {T E : Type 0} (r : Result T E) (P Q : Type 0) → (P → Q) → OnOk r P → OnOk r Q
on_ok_map (Ok x) P Q f p = f p
on_ok_map (Err e) P Q f p = tt

pub if_err_map : {T E : Type 0} (r : Result T E) (P Q : E → Type 0) → ((e : E) → P e → Q e) → IfErr r P → IfErr r Q
if_err_map (Ok x) P Q f p = tt
if_err_map (Err e) P Q f p = f e p
