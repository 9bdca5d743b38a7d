use Rattle.std.proofs.Common.{◌<◌, length, arith}
use Rattle.vlt_points.specs.Founds.{found}
use Rattle.vlt_points.specs.Writing.{program_in, func_in}
use Rattle.vlt_points.proofs.Texts.{adding_first, adding_long, adding_is, adding_more, adding_ends}
use Rattle.vlt_points.proofs.page.add_tokens.Goals as goal

pub loop-i-init : goal.loop-i-init
loop-i-init c = adding_first (program_in c.args.source.now) (func_in c.args.source.now) (found c.args.m.now) _ _ c.requires.are

pub add_token-requires : goal.add_token-requires
add_token-requires c =
    let long = adding_long _ _ _ _ _ _ _ _ c.loop-i.invariant in
    let lt : c.loop-i.i < length c.loop-i.tokens.items = omega (arith, c.loop-i-test.true, c.len-i-end.ensures, long) in
    record { is = adding_is (program_in c.args.source.now) (func_in c.args.source.now) (found c.args.m.now) _ _ _ _ c.loop-i.tokens.items c.index_mut.result.now lt c.index_mut.ensures.value c.loop-i.invariant }

pub loop-i-preserved : goal.loop-i-preserved
loop-i-preserved c =
    let long = adding_long _ _ _ _ _ _ _ _ c.loop-i.invariant in
    let lt : c.loop-i.i < length c.loop-i.tokens.items = omega (arith, c.loop-i-test.true, c.len-i-end.ensures, long) in
    let f = c.in_ok-add_token.ensures in
    adding_more (program_in c.args.source.now) (func_in c.args.source.now) (found c.args.m.now) _ _ _ _ _ c.loop-i.tokens.items c.index_mut.result.now c.add_token.new.token lt c.index_mut.ensures.value c.loop-i.invariant f.tok f.is f.text

pub returns : goal.returns
returns c = record {
  are = c.loop-i.invariant.are;
  toks = c.loop-i.invariant.toks;
  text = adding_ends (program_in c.args.source.now) (func_in c.args.source.now) (found c.args.m.now) _ _ _ _ _ (omega (arith, c.loop-i-test.false)) c.loop-i.invariant;
}
