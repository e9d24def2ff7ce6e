-- Laws of `InOrder`.
use Rattle.std.proofs.Common.{◌≡◌, List, [], ◌∷◌, ◌++◌, refl, ◌⊎◌, inl, inr}
use Rattle.mu_model_node.specs.Log.{LogEntry}
use Rattle.mu_model_node.specs.Safe.{InOrder, none, here, later}

pub in_right : {xs more : List LogEntry} (log : List LogEntry) → InOrder xs more → InOrder xs (log ++ more)
in_right [] h = h
in_right (x ∷ log) h = later (in_right log h)

pub in_left : {xs log : List LogEntry} (more : List LogEntry) → InOrder xs log → InOrder xs (log ++ more)
in_left more none = none
in_left more (here h) = here (in_left more h)
in_left more (later h) = later (in_left more h)

pub in_order : {xs ys log more : List LogEntry} → InOrder xs log → InOrder ys more → InOrder (xs ++ ys) (log ++ more)
in_order (none {all = log}) k = in_right log k
in_order (here h) k = here (in_order h k)
in_order (later h) k = later (in_order h k)

pub rest : {x : LogEntry} {xs log : List LogEntry} → InOrder (x ∷ xs) log → InOrder xs log
rest (here h) = later h
rest (later h) = later (rest h)

pub head : {x : LogEntry} {xs log : List LogEntry} → InOrder (x ∷ xs) log → InOrder (x ∷ []) log
head (here h) = here none
head (later h) = later (head h)

-- ---- one entry more

pub one_more : {y e : LogEntry} (log : List LogEntry) → InOrder (y ∷ []) (log ++ e ∷ []) → InOrder (y ∷ []) log ⊎ (y ≡ e)
one_more [] (here h) = inr refl
one_more [] (later h) = elim h [ ]
one_more (z ∷ log) (here h) = inl (here none)
one_more (z ∷ log) (later h) = elim (one_more log h) [ inl k ↦ inl (later k) | inr e ↦ inr e ]

pub two_more : {x y e : LogEntry} (log : List LogEntry) → InOrder (x ∷ y ∷ []) (log ++ e ∷ []) → InOrder (x ∷ y ∷ []) log ⊎ (InOrder (x ∷ []) log × (y ≡ e))
two_more [] (here h) = elim h [ ]
two_more [] (later h) = elim h [ ]
two_more (z ∷ log) (here h) = elim (one_more log h) [ inl k ↦ inl (here k) | inr e ↦ inr (here none, e) ]
two_more (z ∷ log) (later h) = elim (two_more log h) [ inl k ↦ inl (later k) | inr k ↦ inr (later k.0, k.1) ]

-- ---- two entries stand in some order

pub either_order : {x y : LogEntry} {log : List LogEntry} → InOrder (x ∷ []) log → InOrder (y ∷ []) log → InOrder (x ∷ y ∷ []) log ⊎ (InOrder (y ∷ x ∷ []) log ⊎ (x ≡ y))
either_order (here h) (here k) = inr (inr refl)
either_order (here h) (later k) = inl (here k)
either_order (later h) (here k) = inr (inl (here h))
either_order (later h) (later k) =
    elim (either_order h k) [
      | inl o ↦ inl (later o)
      | inr o ↦ elim o [ inl p ↦ inr (inl (later p)) | inr p ↦ inr (inr p) ]
    ]

-- ---- one of two lists has an entry

pub in_split : {x : LogEntry} (log more : List LogEntry) → InOrder (x ∷ []) (log ++ more) → InOrder (x ∷ []) log ⊎ InOrder (x ∷ []) more
in_split [] more h = inr h
in_split (y ∷ log) more (here h) = inl (here none)
in_split (y ∷ log) more (later h) = elim (in_split log more h) [ inl k ↦ inl (later k) | inr k ↦ inr k ]

pub in_one : {x y : LogEntry} → InOrder (x ∷ []) (y ∷ []) → x ≡ y
in_one (here h) = refl
in_one (later h) = elim h [ ]
