use Rattle.std.proofs.Common.{◌≡◌, drop}
use Rattle.c_syntax.specs.Tokens.{prim_text}
use Rattle.c_syntax.specs.Text.{item_with_text}
use Rattle.c_lexer.proofs.scan.first_primitive.Given as goal

abbrev pub invariant-loop-primitive : goal.invariant-loop-primitive
invariant-loop-primitive l = item_with_text prim_text (drop l.primitive-index l.primitives) l.run ≡ item_with_text prim_text l.primitives l.run
