use Rattle.std.proofs.Common.{◌∙◌, sym, ap, map}
use Rattle.vlt_core.specs.View.{keys_of, entry_of}
use Rattle.cert_kinds_calls.specs.Fitting.{stay_apart}
use Rattle.cert_kinds_calls.proofs.Keys.{apart_by_entries}
use Rattle.cert_kinds_calls.proofs.clauses.clause_keys_apart.Goals as goal

pub returns : goal.returns
returns c =
    c.stay_apart.ensures ∙ ap (λ es. stay_apart (keys_of c.args.keys.now) (map entry_of es)) c.as_slice.ensures
    ∙ sym (apart_by_entries (keys_of c.args.keys.now) (map entry_of c.args.g.now.clause))
