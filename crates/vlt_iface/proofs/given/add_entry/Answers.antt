use Rattle.std.proofs.Common.{option_map, sym, ap, ◌∙◌}
use Rattle.vlt_syntax.specs.View.{decl_of}
use Rattle.vlt_iface.specs.Seen.{decl_seen}
use Rattle.vlt_iface.proofs.Tables.{on_ok, entry_stays, entry_added}
use Rattle.vlt_iface.proofs.given.add_entry.Goals as goal

pub returns-in-Some : goal.returns-in-Some
returns-in-Some c =
    entry_stays c.args.table.now.entries c.args.name.now (decl_seen c.in-Some.field-0) (decl_of c.args.decl.now)
    (sym c.entry.ensures ∙ ap (option_map decl_seen) c.in-Some.is)

pub returns-in-None : goal.returns-in-None
returns-in-None c =
    on_ok c.put_entry.result
    (entry_added c.args.table.now.entries c.put_entry.new.table.entries c.args.name.now (decl_of c.args.decl.now) (sym c.entry.ensures ∙ ap (option_map decl_seen) c.in-None.is))
    c.put_entry.ensures
