use Rattle.std.proofs.Common.{refl, sym, ap, ◌∙◌}
use Rattle.vlt_syntax.specs.View.{decl_of}
use Rattle.vlt_iface.specs.Given.{key_seen}
use Rattle.vlt_iface.proofs.Tables.{on_ok, struct_noted, function_noted, nothing_noted}
use Rattle.vlt_iface.proofs.given.Given.note.Goals as goal

pub returns-in-Struct-clause-givers : goal.returns-in-Struct-clause-givers
returns-in-Struct-clause-givers c =
    on_ok c.add_entry.result
    (struct_noted c.args.self.now (record c.args.self.now { structs = c.add_entry.new.table }) (decl_of c.args.decl.now) c.in-Struct.name.now (sym c.given_key.ensures ∙ ap key_seen c.in-Struct.is) refl)
    c.add_entry.ensures

pub returns-in-Function-clause-givers : goal.returns-in-Function-clause-givers
returns-in-Function-clause-givers c =
    on_ok c.add_entry-in-Function.result
    (function_noted c.args.self.now (record c.args.self.now { functions = c.add_entry-in-Function.new.table }) (decl_of c.args.decl.now) c.in-Function.name.now (sym c.given_key.ensures ∙ ap key_seen c.in-Function.is) refl)
    c.add_entry-in-Function.ensures

pub returns-in-Nothing-clause-givers : goal.returns-in-Nothing-clause-givers
returns-in-Nothing-clause-givers c =
    nothing_noted c.args.self.now (decl_of c.args.decl.now) (sym c.given_key.ensures ∙ ap key_seen c.in-Nothing.is)
