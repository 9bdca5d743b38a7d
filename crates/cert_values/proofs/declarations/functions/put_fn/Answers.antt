use Rattle.std.proofs.Common.{◌≡◌, subst, sym, if◌then◌else◌}
use Rattle.std.specs.Result.{OnOk}
use Rattle.vlt_core.specs.View.{func_of}
use Rattle.cert_rows.specs.Rows as row
use Rattle.cert_format.specs.Certificate.{fn_row}
use Rattle.cert_values.specs.Heads.{plain_data}
use Rattle.cert_values.specs.Laid.{laid}
use Rattle.cert_values.proofs.declarations.functions.put_fn.Goals as goal

pub returns-then-f-clause-value : goal.returns-then-f-clause-value
returns-then-f-clause-value c =
    let r = fn_row (func_of c.args.f.now) in
    subst (λ b. OnOk c.put_tagged.result (c.put_tagged.new.out ≡ laid (plain_data (if b then row.external r else row.function r)) c.args.out.now)) (sym c.if-f.true) c.put_tagged.ensures.value

pub returns-else-f-clause-value : goal.returns-else-f-clause-value
returns-else-f-clause-value c =
    let r = fn_row (func_of c.args.f.now) in
    subst (λ b. OnOk c.put_tagged-else-f.result (c.put_tagged-else-f.new.out ≡ laid (plain_data (if b then row.external r else row.function r)) c.args.out.now)) (sym c.if-f.false) c.put_tagged-else-f.ensures.value
