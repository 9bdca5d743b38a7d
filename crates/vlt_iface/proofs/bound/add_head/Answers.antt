use Rattle.std.proofs.Common.{map, ap}
use Rattle.vlt_syntax.specs.View.{head_of, parameter_of}
use Rattle.vlt_iface.specs.Texts.{texts_seen}
use Rattle.vlt_iface.proofs.Tables.{on_ok}
use Rattle.vlt_iface.proofs.Texts.{head_made}
use Rattle.vlt_iface.proofs.bound.add_head.Goals as goal

pub returns : goal.returns
returns c =
    on_ok c.add_clause.result
    (head_made (head_of c.args.head.now) (texts_seen c.args.texts.now) (texts_seen c.add_result.new.texts) (texts_seen c.add_parameters.new.texts) (texts_seen c.add_clause.new.texts)
    (map parameter_of c.as_slice.result.now) c.in_ok-add_result.ensures c.in_ok-add_parameters.ensures (ap (map parameter_of) c.as_slice.ensures))
    c.add_clause.ensures
