use Rattle.std.proofs.Common.{◌≡◌, drop}
use Rattle.mu_distributor_rows.specs.Decided.{place_from}
use Rattle.mu_distributor_rows.proofs.firmware.place.Given as goal

-- the metadata that are left decide
abbrev pub invariant-loop-i : goal.invariant-loop-i
invariant-loop-i l = place_from 0 l.metas l.fwid ≡ place_from l.i (drop l.i l.metas) l.fwid
