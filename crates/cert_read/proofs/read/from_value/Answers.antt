use Rattle.std.proofs.Common.{map, sym, ◌∙◌}
use Rattle.serde_json.specs.View.{view}
use Rattle.cert_read.proofs.Texts.{bad_signs, no_array, plain_rows}
use Rattle.cert_read.proofs.read.from_value.Goals as goal

pub returns-then-not-branch : goal.returns-then-not-branch
returns-then-not-branch c = λ text marks j.
    bad_signs text c.args.body.now marks (view c.args.value.now) j (sym c.in_ok-is_plain.ensures ∙ c.if-not-branch.true)

pub returns-in-Some : goal.returns-in-Some
returns-in-Some c = λ text marks j. c.from_rows.ensures text
    (plain_rows text c.args.body.now marks (view c.args.value.now) (map view c.in-Some.rows.now) j (sym c.in_ok-is_plain.ensures ∙ c.if-not-branch.false)
    c.in-Some.ensures)

pub returns-in-None : goal.returns-in-None
returns-in-None c = λ text marks j. no_array text c.args.body.now marks (view c.args.value.now) j c.in-None.ensures
