use Rattle.std.proofs.Common.{◌≡◌, map, drop}
use Rattle.vlt_printer.specs.Lists.{each_after}
use Rattle.vlt_printer.proofs.lists.write_each.Given as goal

-- what is left, after what was written, is the whole
abbrev pub invariant-loop-item : goal.invariant-loop-item
invariant-loop-item g l =
    each_after g.T.Part.after (map g.T.Part.view (drop l.item-index l.items)) l.out.items
    ≡ each_after g.T.Part.after (map g.T.Part.view l.items) l.initial.out.items
