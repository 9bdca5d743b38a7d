use Rattle.std.proofs.Common.{refl, sym, ap, ◌∙◌}
use Rattle.vlt_syntax.specs.View.{decl_of}
use Rattle.vlt_iface.specs.Given.{key_seen, given_key, wants}
use Rattle.vlt_iface.proofs.Tables.{struct_taken, function_taken, nothing_taken}
use Rattle.vlt_iface.proofs.wanted.Wanted.take.Goals as goal

pub returns-in-Struct-clause-was : goal.returns-in-Struct-clause-was
returns-in-Struct-clause-was c = c.take_name.ensures.was ∙ ap (wants c.args.self.now) (sym (ap key_seen c.in-Struct.is) ∙ c.given_key.ensures)

pub returns-in-Struct-clause-left : goal.returns-in-Struct-clause-left
returns-in-Struct-clause-left c =
    struct_taken c.args.self.now (record c.args.self.now { structs = c.take_name.new.names }) (given_key (decl_of c.args.decl.now)) c.in-Struct.name.now (sym c.given_key.ensures ∙ ap key_seen c.in-Struct.is) refl c.take_name.ensures.left

pub returns-in-Function-clause-was : goal.returns-in-Function-clause-was
returns-in-Function-clause-was c = c.take_name-in-Function.ensures.was ∙ ap (wants c.args.self.now) (sym (ap key_seen c.in-Function.is) ∙ c.given_key.ensures)

pub returns-in-Function-clause-left : goal.returns-in-Function-clause-left
returns-in-Function-clause-left c =
    function_taken c.args.self.now (record c.args.self.now { functions = c.take_name-in-Function.new.names }) (given_key (decl_of c.args.decl.now)) c.in-Function.name.now (sym c.given_key.ensures ∙ ap key_seen c.in-Function.is) refl c.take_name-in-Function.ensures.left

pub returns-in-Nothing-clause-was : goal.returns-in-Nothing-clause-was
returns-in-Nothing-clause-was c = ap (wants c.args.self.now) (sym (ap key_seen c.in-Nothing.is) ∙ c.given_key.ensures)

pub returns-in-Nothing-clause-left : goal.returns-in-Nothing-clause-left
returns-in-Nothing-clause-left c =
    nothing_taken c.args.self.now (given_key (decl_of c.args.decl.now)) (sym c.given_key.ensures ∙ ap key_seen c.in-Nothing.is)
