use Rattle.std.proofs.Common.{sym, ap, ◌∙◌, option_map}
use Rattle.vlt_core.specs.View.{entry_of}
use Rattle.cert_rows.specs.Values as s
use Rattle.cert_read_decls.proofs.Turning.{turned_each}
use Rattle.cert_read_decls.proofs.lists.each_clause.Goals as goal

pub loop-v-preserved : goal.loop-v-preserved
loop-v-preserved c =
    turned_each (s.entry c.args.ordered).of_data entry_of c.args.items.now c.loop-v.v-index c.v-item.result c.in-Some.x c.loop-v.out c.push.new.self c.loop-v-test.true c.v-item.is
    (sym (ap (option_map entry_of) c.in-Some.is) ∙ c.entry.ensures) c.in_ok-push.ensures.ok c.loop-v.invariant
