use Rattle.std.proofs.Common.{◌≡◌, map, drop}
use Rattle.vlt_base.specs.Layout.{written}
use Rattle.vlt_printer.specs.Lists.{further_after}
use Rattle.vlt_printer.proofs.lists.write_separated.Given as goal

-- what is left, after what was written, is the whole
abbrev pub invariant-loop-item : goal.invariant-loop-item
invariant-loop-item g l =
    further_after (written l.separator) g.T.Part.after (map g.T.Part.view (drop l.item-index l.rest)) l.out.items
    ≡ further_after (written l.separator) g.T.Part.after (map g.T.Part.view l.rest) l.initial.out.items
