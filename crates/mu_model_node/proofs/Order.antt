-- Laws of `InOrder`.
use Rattle.std.proofs.Common.{List, [], ◌∷◌, ◌++◌}
use Rattle.mu_model_node.specs.Log.{LogEntry}
use Rattle.mu_model_node.specs.Safe.{InOrder, none, here, later}

pub in_right : {xs more : List LogEntry} (log : List LogEntry) → InOrder xs more → InOrder xs (log ++ more)
in_right [] h = h
in_right (x ∷ log) h = later (in_right log h)

pub in_left : {xs log : List LogEntry} (more : List LogEntry) → InOrder xs log → InOrder xs (log ++ more)
in_left more none = none
in_left more (here h) = here (in_left more h)
in_left more (later h) = later (in_left more h)

pub in_order : {xs ys log more : List LogEntry} → InOrder xs log → InOrder ys more → InOrder (xs ++ ys) (log ++ more)
in_order (none {all = log}) k = in_right log k
in_order (here h) k = here (in_order h k)
in_order (later h) k = later (in_order h k)
