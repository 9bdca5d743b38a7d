use Rattle.std.proofs.Common.{arith, sym, ap, append-nil}
use Rattle.std.proofs.lemmas.List.{length-map}
use Rattle.vlt_core.specs.View.{key_of, tok_of, func_of}
use Rattle.vlt_points.proofs.Texts.{keys_more, keys_end, texts_push}
use Rattle.vlt_points.proofs.page.add_keys.Goals as goal

pub loop-key-init : goal.loop-key-init
loop-key-init c = record { toks = sym (append-nil _); are = λ p g a. a }

pub loop-key-preserved : goal.loop-key-preserved
loop-key-preserved c = rw c.in_ok-push.ensures.items (record {
  toks = keys_more c.loop-key.tokens.items _ c.absent_token.result c.loop-key.key (ap (λ t. tok_of t) c.absent_token.ensures.tok) c.loop-key.invariant.toks;
  are = λ p g a. texts_push p g c.loop-key.tokens.items c.absent_token.result (c.loop-key.invariant.are p g a) (c.absent_token.ensures.is p g);
})

pub returns : goal.returns
returns c = record {
  toks = keys_end c.loop-key.tokens.items _ (func_of c.args.f.now) c.loop-key.key (omega (arith, c.loop-key-test.false, c.loop-key.auto.key-end, c.len-key-end.ensures, length-map c.args.f.now.keys key_of)) c.loop-key.invariant.toks;
  are = c.loop-key.invariant.are;
}
