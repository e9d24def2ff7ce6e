-- A record's ranges have one proof at most.
use Rattle.std.proofs.Props.{props}
use mathlib.Core.Sum.{⊎_set}
use Rattle.mu_model_record.specs.declared.Record.{Record}
use Rattle.mu_model_record.specs.declared.BankState.{BankState}
use Rattle.mu_model_record.specs.declared.BankState.TheVariants.{Empty, Filling, Sealed}
use Rattle.mu_model_record.specs.Record.{IsRecord, IsEntryInRange, IsFilling}

pub bank_set : IsSet BankState
bank_set = hlevel (⊎_set, props)

pub filling_prop : (e : BankState) → IsProp (IsFilling e)
filling_prop Empty = hlevel props
filling_prop (Filling size log) = hlevel props
filling_prop (Sealed meta) = hlevel props

pub entry_prop : (r : Record) (e : BankState) → IsProp (IsEntryInRange r e)
entry_prop r Empty = hlevel props
entry_prop r (Filling size log) = hlevel props
entry_prop r (Sealed meta) = hlevel props

pub record_prop : (r : Record) → IsProp (IsRecord r)
record_prop r = hlevel (bank_set, filling_prop, entry_prop, props)
