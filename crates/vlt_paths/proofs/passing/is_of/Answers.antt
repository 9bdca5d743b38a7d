use Rattle.std.proofs.Common.{◌∙◌, nat_lt, ap, sym}
use Rattle.std.proofs.lemmas.List.{length-map}
use Rattle.vlt_core.specs.View.{func_of, key_of}
use Rattle.vlt_paths.proofs.Tokens.{key_among, var_among}
use Rattle.vlt_paths.proofs.passing.is_of.Goals as goal

pub returns-in-Key : goal.returns-in-Key
returns-in-Key c =
    rw c.in-Key.is (ap (nat_lt c.in-Key.k.0) (c.len.ensures ∙ sym (length-map c.args.f.now.keys key_of)) ∙ key_among (func_of c.args.f.now) c.in-Key.k.0)

pub returns-in-Var : goal.returns-in-Var
returns-in-Var c = rw c.in-Var.is (c.is_owning_var.ensures ∙ var_among (func_of c.args.f.now) c.in-Var.v.0)
