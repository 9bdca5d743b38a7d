use Rattle.std.proofs.Common.{rules, SFits, w64, sym, ap, ◌∙◌}
use Rattle.std.proofs.lemmas.Int.{to_z-of_z}
use Rattle.vlt_core.specs.View.{program_of, keys_of, case_of}
use Rattle.vlt_externals.specs.HostAnswers.Whole.{case_number}
use Rattle.vlt_externals.proofs.OfResults.Readings.{number_is}
use Rattle.vlt_externals.proofs.OfResults.Casing.{variant_put}
use Rattle.vlt_externals.proofs.results.results.put_variant.Goals as goal

pub put_case-requires-clause-fits : goal.put_case-requires-clause-fits
put_case-requires-clause-fits c = c.requires.fits c.in-Some-read_case.read.case (case_of c.in-Some-read_case.read.decl.now) c.in-Some-read_case.ensures.decl

pub put_case-requires-clause-number : goal.put_case-requires-clause-number
put_case-requires-clause-number c =
    let f : SFits w64 c.in-Some.number.now = search rules in
    to_z-of_z w64 c.in-Some.number.now f
    ∙ number_is (program_of c.args.program.now) c.args.t.0 c.in-Some.number.now c.in-Some.field-0-1.now c.in-Some-read_case.read.left.now c.in-Some-read_case.read.case
    (ap (case_number (program_of c.args.program.now) c.args.t.0) (sym c.in-Some.ensures.cases.0) ∙ c.in-Some-read_case.ensures.number)

pub returns-in-Some-read_case-clause-puts : goal.returns-in-Some-read_case-clause-puts
returns-in-Some-read_case-clause-puts c =
    variant_put (program_of c.args.program.now) (keys_of c.args.keys.now) (record { type = c.args.t.0; args = keys_of c.args.args.now }) c.args.left.now c.in-Some-read_case.read.left.now c.in-Some-read_case.read.case c.args.to (case_of c.in-Some-read_case.read.decl.now) c.args.values.now c.put_case.new.values c.args.heap.now c.put_case.new.heap c.put_case.result
    c.in-Some-read_case.ensures.number c.in-Some-read_case.ensures.decl c.put_case.ensures.puts
