use Rattle.std.proofs.Common.{◌≡◌, ◌++◌, map, drop, codes}
use Rattle.std.specs.List.{flat_map}
use Rattle.vlt_reports.proofs.statuses.add_further.Given as goal

abbrev pub invariant-loop-name : goal.invariant-loop-name
invariant-loop-name l =
    l.out.items ++ flat_map (λ n. codes "," ++ n) (map (λ n. n.now) (drop l.name-index l.names))
    ≡ l.initial.out.items ++ flat_map (λ n. codes "," ++ n) (map (λ n. n.now) l.names)
