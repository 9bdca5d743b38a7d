use Rattle.std.proofs.Common.{◌≡◌, suc, ◌+◌, ◌∷◌, [], length, map, sym, ap, subst, arith, drop}
use Rattle.std.proofs.Math.ListN.{get_or}
use Rattle.std.proofs.Math.Seq.{drop-cons}
use Rattle.std.proofs.lemmas.List.{append-nil}
use Rattle.c_syntax.specs.Text.{IsTokensOf, AreFirst}
use Rattle.c_lexer.specs.declared.scan.First.TheVariants.{Include}
use Rattle.c_lexer.specs.declared.scan.TheConstants.First as first
use Rattle.c_lexer.specs.Steps.{first_piece}
use Rattle.c_lexer.specs.View.{token_of, lexeme_of, lexemes_of}
use Rattle.c_lexer.proofs.Lexing.{first_step, one_more, no_first}
use Rattle.c_lexer.proofs.lex.Goals as goal

pub returns-in-None : goal.returns-in-None
returns-in-None c =
    subst (IsTokensOf c.args.text.now) (append-nil (lexemes_of c.loop-first.lexemes.items))
    (c.loop-first.invariant.are [] (no_first _ (length c.args.text.now) c.loop-first.left.now c.in-None.ensures.piece))

pub loop-first-preserved : goal.loop-first-preserved
loop-first-preserved c =
    let total = length c.args.text.now in
    let next : c.loop-first.first-index + 1 ≡ suc c.loop-first.first-index = omega arith in
    record {
      within = omega (arith, c.in-Some.ensures.shorter, c.loop-first.invariant.within);
      are = λ ls h.
          subst (IsTokensOf c.args.text.now) (sym (one_more c.push.new.self.items c.loop-first.lexemes.items c.lexeme.result ls c.in_ok-push-in-Some.ensures.items))
          (c.loop-first.invariant.are (lexeme_of c.lexeme.result ∷ ls)
          (subst (λ fs. AreFirst (map first_piece fs) total c.loop-first.left.now (lexeme_of c.lexeme.result ∷ ls)) (sym (drop-cons first.LINES c.loop-first.first-index Include c.loop-first-test.true))
          (first_step (first_piece (get_or first.LINES c.loop-first.first-index Include)) (map first_piece (drop (suc c.loop-first.first-index) first.LINES)) total c.loop-first.left.now c.in-Some.after.now (token_of c.in-Some.token) (lexeme_of c.lexeme.result) ls
          c.in-Some.ensures.piece (ap token_of c.lexeme.ensures.token) c.lexeme.ensures.at (subst (λ n. AreFirst (map first_piece (drop n first.LINES)) total c.in-Some.after.now ls) next h))));
    }
