use Rattle.std.proofs.Common.{map}
use Rattle.vlt_syntax.specs.View.{entry_of}
use Rattle.vlt_iface.specs.Texts.{texts_seen}
use Rattle.vlt_iface.proofs.Tables.{on_ok}
use Rattle.vlt_iface.proofs.Texts.{clause_made}
use Rattle.vlt_iface.proofs.bound.add_entries.Goals as goal

pub returns : goal.returns
returns c =
    on_ok c.add_variables.result
    (clause_made (map entry_of c.args.entries.now) (texts_seen c.args.texts.now) (texts_seen c.add_entry_keys.new.texts) (texts_seen c.add_variables.new.texts) c.in_ok-add_entry_keys.ensures)
    c.add_variables.ensures
