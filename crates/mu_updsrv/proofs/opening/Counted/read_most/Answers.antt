use Rattle.std.proofs.Common.{◌≡◌, ◌+◌, ◌-◌, ◌<◌, ◌≤◌, ◌++◌, length, drop, arith, rules}
use Rattle.std.proofs.lemmas.List.{take-append-le}
use Rattle.mu_updsrv.proofs.Openings.{gives_first}
use Rattle.mu_updsrv.proofs.opening.Counted.read_most.Goals as goal

pub returns-clause-gives : goal.returns-clause-gives
returns-clause-gives g c =
    let part = c.read.new.out in
    let count = c.in-Ok.count in
    let room = c.args.room in
    let size : length part ≡ c.min-most.result = search rules in
    let within : count ≤ length part = search rules in
    let some : 0 < length part = search rules in
    let is : (room - count) + count ≡ room = omega (arith, size, within) in
    gives_first (part ++ drop c.min-most.result c.args.out.now) part count room (room - count) is within (take-append-le count part (drop c.min-most.result c.args.out.now) within) some _ _ c.in-Ok.ensures.gives
