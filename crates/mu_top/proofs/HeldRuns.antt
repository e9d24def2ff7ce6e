-- What a world that may keep a fault has done is a run of its world.
use Rattle.std.proofs.Common.{ℕ, List, [], ◌∷◌, Option, ap, ◌⊎◌, inl, inr}
use Rattle.mu_model_script.specs.Runs as runs
use Rattle.mu_model_world.specs.World.{new_world}
use Rattle.mu_model_world.specs.Run.{Step, Bars, Wears}
use Rattle.mu_world.specs.Moved.{Held, new_held}
use Rattle.mu_top.specs.Ends.{EndsWith, Ends, IsRefused, IsTraceOfSome}
use Rattle.mu_top.specs.HeldRun.{HeldStep, HeldBars, HeldWears}
use Rattle.mu_command_line.specs.declared.status.Status.{Status}
use Rattle.mu_command_line.specs.declared.status.Status.TheVariants.{Done, Usage, SourceFault, SinkFault, FlashFault, Refused, NoMemory, Worn, TooLong}
use Rattle.mu_top.proofs.Told.{where_told}

run_world : (held : Held) (lines : List (List ℕ)) (text : List ℕ) (end : Held) → runs.Run HeldStep held lines text end → runs.Run Step held.world lines text end.world
run_world held [] text end run = (run.0, ap (λ (h : Held). h.world) run.1)
run_world held (line ∷ lines) text end run = (run.0.world, run.1, run.2, run.3, run_world run.0 lines run.2 end run.4, run.5)

prints_world : (lines : List (List ℕ)) (text : List ℕ) → runs.Prints HeldStep new_held lines text → runs.Prints Step new_world lines text
prints_world lines text p = record { end = p.end.world; run = run_world new_held lines text p.end p.run }

refused_world : (most : ℕ) (held written : List ℕ) → IsRefused HeldStep HeldBars new_held most held written → IsRefused Step Bars new_world most held written
refused_world most held written r = record {
  text = r.text;
  number = r.number;
  place = r.place;
  word = r.word;
  refused = record {
    before = r.refused.before;
    line = r.refused.line;
    others = r.refused.others;
    cut = r.refused.cut;
    end = r.refused.end.world;
    run = run_world new_held r.refused.before r.text r.refused.end r.refused.run;
    refused = r.refused.refused;
    numbered = r.refused.numbered;
  };
  written_is = r.written_is;
}

some_world : (most : ℕ) (held written : List ℕ) → IsTraceOfSome HeldStep new_held most held written → IsTraceOfSome Step new_world most held written
some_world most held written r = record { count = r.count; trace = prints_world _ written r.trace }

beginning_world : (most : ℕ) (held written : List ℕ) → IsTraceOfSome HeldStep new_held most held written ⊎ IsRefused HeldStep HeldBars new_held most held written → IsTraceOfSome Step new_world most held written ⊎ IsRefused Step Bars new_world most held written
beginning_world most held written (inl r) = inl (some_world most held written r)
beginning_world most held written (inr r) = inr (refused_world most held written r)

end_world : (most : ℕ) (held left written : List ℕ) (status : Status) → EndsWith HeldStep HeldBars HeldWears new_held most held left written status → EndsWith Step Bars Wears new_world most held left written status
end_world most held left written Done e = record { read = e.read; within = e.within; trace = prints_world _ written e.trace }
end_world most held left written Refused e = refused_world most held written e
end_world most held left written TooLong e = record { past = e.past; trace = prints_world _ written e.trace }
end_world most held left written SourceFault e = record { read = e.read; cut = e.cut; trace = prints_world _ written e.trace }
end_world most held left written SinkFault e = record { whole = e.whole; rest = e.rest; begins = e.begins; trace = beginning_world most held e.whole e.trace }
end_world most held left written NoMemory e = some_world most held written e
end_world most held left written Worn e = record {
  before = e.before;
  line = e.line;
  others = e.others;
  cut = e.cut;
  end = e.end.world;
  run = run_world new_held e.before written e.end e.run;
  wears = e.wears;
}
end_world most held left written Usage e = absurd e
end_world most held left written FlashFault e = absurd e

pub ends_world : (most : ℕ) (source source' sink sink' : Option (List ℕ)) (status : Status) → Ends HeldStep HeldBars HeldWears new_held most source source' sink sink' status → Ends Step Bars Wears new_world most source source' sink sink' status
ends_world most source source' sink sink' status ends =
    where_told source source' _ _ (λ held left p.
    where_told sink sink' _ _ (λ before after q. (q.0, q.1, end_world most held left q.0 status q.2)) p) ends
