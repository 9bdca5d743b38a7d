use Rattle.std.proofs.Common.{subst}
use Rattle.vlt_core.specs.View.{program_of}
use Rattle.vlt_core.specs.HeldView.{IsSetOf}
use Rattle.vlt_core.specs.Lookups.{release_in}
use Rattle.vlt_core.proofs.program.Program.release_set.Goals as goal

pub returns-in-Some-Abstract : goal.returns-in-Some-Abstract
returns-in-Some-Abstract c =
    let found = rw (c.in-Some-Abstract.is, c.in-Some-Abstract.field-0-is) at c.type_decl.ensures in
    subst (λ o. IsSetOf (release_in (program_of c.args.self.now) c.args.t.0 o) c.all_states.result) found c.all_states.ensures

pub returns-in-Some-Variant : goal.returns-in-Some-Variant
returns-in-Some-Variant c =
    let found = rw (c.in-Some-Variant.is, c.in-Some-Variant.field-0-is) at c.type_decl.ensures in
    subst (λ o. IsSetOf (release_in (program_of c.args.self.now) c.args.t.0 o) c.all_states-in-Some-Variant.result)
    found c.all_states-in-Some-Variant.ensures

pub returns-in-None : goal.returns-in-None
returns-in-None c =
    let found = rw c.in-None.is at c.type_decl.ensures in
    subst (λ o. IsSetOf (release_in (program_of c.args.self.now) c.args.t.0 o) c.all_states-in-None.result)
    found c.all_states-in-None.ensures
