use Rattle.std.proofs.Common.{◌≡◌, ℕ, List}
use Rattle.mu_model_record.specs.declared.Record.{Record}
use Rattle.mu_model_record.specs.StoreLaws.{foreign, damaged, store}
use Rattle.mu_store.proofs.BootLemmas.{booted_holds}
use Rattle.mu_store.proofs.booting.boot.Goals as goal

never_foreign : (r : Record) → store r ≡ foreign → ⊥
never_foreign r e = cc e

never_damaged : (r : Record) (bank : ℕ) (want found : List ℕ) → store r ≡ damaged bank want found → ⊥
never_damaged r bank want found e = cc e

pub returns-in-Ok-Foreign-clause-kinds : goal.returns-in-Ok-Foreign-clause-kinds
returns-in-Ok-Foreign-clause-kinds g c told = rw c.in-Ok-Foreign.field-0-is at (c.in-Ok-Foreign.ensures.judged told)

pub returns-in-Ok-Foreign-clause-state : goal.returns-in-Ok-Foreign-clause-state
returns-in-Ok-Foreign-clause-state g c told d rep = absurd (never_foreign d.present (c.known.ensures.found _ (store d.present) foreign (c.known.ensures.is_found d _ rep) (returns-in-Ok-Foreign-clause-kinds g c told)))

pub returns-in-Ok-Damaged-clause-state : goal.returns-in-Ok-Damaged-clause-state
returns-in-Ok-Damaged-clause-state g c told d rep =
    absurd (never_damaged d.present _ _ _ (c.known.ensures.found _ (store d.present) (damaged c.in-Ok-Damaged.damage.bank c.in-Ok-Damaged.damage.want c.in-Ok-Damaged.damage.found) (c.known.ensures.is_found d _ rep)
    (rw c.in-Ok-Damaged.field-0-is at (c.in-Ok-Damaged.ensures.judged told))))

pub returns-in-Ok-Whole-clause-state : goal.returns-in-Ok-Whole-clause-state
returns-in-Ok-Whole-clause-state g c told d rep =
    let whole = rw c.in-Ok-Whole.field-0-is at (c.in-Ok-Whole.ensures.judged told) in
    let sound = rw c.in-Ok-Whole.field-0-is at c.in-Ok-Whole.ensures.sound in
    (booted_holds c.known.ensures) g.F.Flash.seen (g.F.Flash.seen c.args.flash) c.judge.new.flash c.in-Ok-Whole.page c.in-Ok-Whole.fields c.in-Ok-Whole.marks c.make.result c.make.ensures
    told sound.3 c.in-Ok-Whole.ensures.reads.same whole sound.4 rep.0 rep.1 d rep.2
