use Rattle.std.proofs.Common.{sym, append-nil, arith}
use Rattle.std.proofs.lemmas.List.{length-map}
use Rattle.vlt_core.specs.View.{func_of, var_of}
use Rattle.vlt_points.proofs.Texts.{vars_more, vars_end}
use Rattle.vlt_points.proofs.page.add_vars.Goals as goal

pub loop-var-init : goal.loop-var-init
loop-var-init c = record { toks = sym (append-nil _); are = λ p g a. a }

pub loop-var-preserved : goal.loop-var-preserved
loop-var-preserved c = record {
  toks = vars_more (func_of c.args.f.now) c.loop-var.tokens.items c.add_var.new.tokens.items _ c.loop-var.var c.in_ok-add_var.ensures.toks c.loop-var.invariant.toks;
  are = λ p g a. c.in_ok-add_var.ensures.are p g (c.loop-var.invariant.are p g a);
}

pub returns : goal.returns
returns c = record {
  toks = vars_end c.loop-var.tokens.items _ (func_of c.args.f.now) c.loop-var.var (omega (arith, c.loop-var-test.false, c.loop-var.auto.var-end, c.len-var-end.ensures, length-map c.args.f.now.vars var_of)) c.loop-var.invariant.toks;
  are = c.loop-var.invariant.are;
}
