use Rattle.std.proofs.Common.{◌≡◌, None, rules, subst, sym}
use Rattle.vlt_core.specs.View.{set_of}
use Rattle.cert_rows.specs.Rows as row
use Rattle.cert_rows.specs.Rows.{row_data}
use Rattle.cert_format.specs.Certificate.{shape}
use Rattle.cert_values.specs.Laid.{laid}
use Rattle.cert_values.proofs.declarations.sets.put_set.Goals as goal

pub returns-in_ok-end-clause-value : goal.returns-in_ok-end-clause-value
returns-in_ok-end-clause-value c =
    subst (λ b. c.end.new.self ≡ laid (row_data (shape b None) (row.states (set_of c.args.set.now))) c.args.out.now) (sym c.if-ordered.true) (search (rules))

pub returns-in_ok-end-2-clause-value : goal.returns-in_ok-end-2-clause-value
returns-in_ok-end-2-clause-value c =
    subst (λ b. c.end-else-ordered.new.self ≡ laid (row_data (shape b None) (row.states (set_of c.args.set.now))) c.args.out.now) (sym c.if-ordered.false) (search (rules))
