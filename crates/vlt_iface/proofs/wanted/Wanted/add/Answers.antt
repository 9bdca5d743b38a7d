use Rattle.std.proofs.Common.{refl, sym, ap, ◌∙◌}
use Rattle.vlt_syntax.specs.View.{decl_of}
use Rattle.vlt_iface.specs.Given.{key_seen, wanted_key}
use Rattle.vlt_iface.proofs.Tables.{on_ok, struct_wanted, function_wanted, nothing_wanted}
use Rattle.vlt_iface.proofs.wanted.Wanted.add.Goals as goal

pub returns-in-Struct : goal.returns-in-Struct
returns-in-Struct c =
    on_ok c.add_name.result
    (struct_wanted c.args.self.now (record c.args.self.now { structs = c.add_name.new.names }) (wanted_key (decl_of c.args.decl.now)) c.in-Struct.name.now (sym c.wanted_key.ensures ∙ ap key_seen c.in-Struct.is) refl)
    c.add_name.ensures

pub returns-in-Function : goal.returns-in-Function
returns-in-Function c =
    on_ok c.add_name-in-Function.result
    (function_wanted c.args.self.now (record c.args.self.now { functions = c.add_name-in-Function.new.names }) (wanted_key (decl_of c.args.decl.now)) c.in-Function.name.now (sym c.wanted_key.ensures ∙ ap key_seen c.in-Function.is) refl)
    c.add_name-in-Function.ensures

pub returns-in-Nothing : goal.returns-in-Nothing
returns-in-Nothing c =
    nothing_wanted c.args.self.now (wanted_key (decl_of c.args.decl.now)) (sym c.wanted_key.ensures ∙ ap key_seen c.in-Nothing.is)
