use Rattle.std.proofs.Common.{map, sym, ◌∙◌}
use Rattle.serde_json.specs.View.{view}
use Rattle.cert_format.specs.Readings.{no_version}
use Rattle.cert_read.proofs.Texts.{at_fault, few_functions, at_none}
use Rattle.cert_read.proofs.read.from_rows.Goals as goal

pub returns-in_default : goal.returns-in_default
returns-in_default c = λ text j. no_version (map view c.args.rows.now) j.json (sym c.in_ok-ordered.ensures ∙ c.in_default.is)

pub certificate_of-requires : goal.certificate_of-requires
certificate_of-requires c =
    few_functions c.in-Some.ordered c.args.rows.now c.in_ok-read.read c.in_ok-read.fault c.in_ok-read.ensures c.in-None.is

pub returns-in-Some-fault : goal.returns-in-Some-fault
returns-in-Some-fault c = λ text j.
    at_fault c.in-Some.ordered c.args.rows.now c.in_ok-read.read c.in_ok-read.fault c.in_ok-read.ensures text j (sym c.in_ok-ordered.ensures ∙ c.in-Some.is)
    c.in-Some-fault.row c.in-Some-fault.is

pub returns-in-None : goal.returns-in-None
returns-in-None c = λ text j.
    at_none c.in-Some.ordered c.args.rows.now c.in_ok-read.read c.in_ok-read.fault c.in_ok-read.ensures text j (sym c.in_ok-ordered.ensures ∙ c.in-Some.is)
    c.in-None.is c.certificate_of.result c.certificate_of.ensures
