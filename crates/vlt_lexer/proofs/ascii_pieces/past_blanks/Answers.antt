use Rattle.std.proofs.Common.{rules, arith, ◌≡◌, ◌≤◌, ◌+◌, length, drop, sym, subst, ◌∙◌, true}
use Rattle.std.specs.Prelude.{slice_index}
use Rattle.std.specs.Str.{chars, IsUtf8}
use Rattle.std.proofs.lemmas.Grind.{common_steps}
use Rattle.std.proofs.lemmas.Str.{IsCharBoundary-from_drop}
use Rattle.vlt_tokens.specs.Characters.{is_blank}
use Rattle.vlt_lexer.specs.declared.ascii_pieces.ByteClass.TheVariants as class
use Rattle.vlt_lexer.specs.Reading.{gap}
use Rattle.vlt_lexer.proofs.Letters.{blank_of}
use Rattle.vlt_lexer.proofs.Fronts.{blank_more}
use Rattle.vlt_lexer.proofs.ascii_pieces.past_blanks.Goals as goal

pub loop-i-preserved : goal.loop-i-preserved
loop-i-preserved c =
    let bytes = c.as_bytes-bytes.result.now in
    let i = c.loop-i.i in
    let found : c.byte_class.result ≡ class.Blank = first_of (search rules, grind (arith, common_steps)) in
    let is : is_blank (slice_index bytes i) ≡ true = blank_of (slice_index bytes i) (sym c.byte_class.ensures ∙ found) in
    let more = blank_more bytes i c.loop-i-test.true is c.loop-i.invariant.utf8 in
    record {
      within = omega (arith, c.loop-i-test.true);
      utf8 = more.1;
      reads = λ total ls last r. c.loop-i.invariant.reads total ls last (gap (chars (drop i bytes)) (chars (drop (i + 1) bytes)) ls last more.0 r);
    }

pub range_from-requires : goal.range_from-requires
range_from-requires c = λ _. IsCharBoundary-from_drop c.args.text.now c.loop-i.i
    (subst (λ t. c.loop-i.i ≤ length t) c.as_bytes-bytes.ensures.value c.loop-i.invariant.within)
    (subst (λ t. IsUtf8 (drop c.loop-i.i t)) c.as_bytes-bytes.ensures.value c.loop-i.invariant.utf8)
