use Rattle.std.proofs.Common.{◌≡◌, None, sym, rules}
use Rattle.vlt_host_meaning.proofs.Tables.{call_at, no_name, no_args}
use Rattle.vlt_host_meaning.proofs.calls.Calls.get.Goals as goal

pub returns : goal.returns
returns c =
    let name = rw (c.deref.ensures.value, c.deref-2.ensures.value) at c.in_ok-name.ensures in
    let args = rw (c.deref-3.ensures.value, c.deref-4.ensures.value) at c.in_ok-args.ensures in
    sym (call_at _ _ c.args.index c.in_ok-name.name.now c.in_ok-args.args.now (sym name) (sym args))

pub returns-in_err-name : goal.returns-in_err-name
returns-in_err-name c =
    let none : c.part.result ≡ None = search rules in
    let name = rw (c.deref.ensures.value, c.deref-2.ensures.value, none) at c.part.ensures in
    rw c.from_residual.ensures (sym (no_name _ _ c.args.index (sym name)))

pub returns-in_err-args : goal.returns-in_err-args
returns-in_err-args c =
    let none : c.part-2.result ≡ None = search rules in
    let args = rw (c.deref-3.ensures.value, c.deref-4.ensures.value, none) at c.part-2.ensures in
    rw c.from_residual-in_err-args.ensures (sym (no_args _ _ c.args.index (sym args)))
