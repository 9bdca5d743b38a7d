-- What the code knows of names and cases, as plain data.
use Rattle.std.specs.Prelude.{ℕ, List, map, Option}
use Rattle.std.specs.Borrow.{Bor}
use Rattle.std.specs.Option.{option_map}
use Rattle.vlt_core.specs.Core.{Name}
use Rattle.vlt_reports.specs.declared.ticks.Tick.{Tick}
use Rattle.vlt_reports.specs.Reports as r

abbrev pub names_seen : Bor (List (List ℕ)) → List Name
names_seen names = map (λ n. n) names.now

abbrev pub names_known : Option (Bor (List (List ℕ))) → Option (List Name)
names_known = option_map names_seen

abbrev pub tick_seen : Tick → r.Tick
tick_seen t = record { var = t.var.0; case = t.case }
