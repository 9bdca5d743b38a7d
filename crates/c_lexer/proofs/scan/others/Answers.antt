use Rattle.std.proofs.Common.{◌∷◌, [], length, sym, ap, subst, arith}
use Rattle.std.proofs.lemmas.List.{append-nil}
use Rattle.c_lexer.specs.View.{token_of, lexeme_of, lexemes_of}
use Rattle.c_lexer.specs.Steps.{AreOthers}
use Rattle.c_lexer.proofs.Lexing.{AreNext, next_step, one_more}
use Rattle.c_lexer.proofs.scan.others.Goals as goal

pub loop-token-preserved : goal.loop-token-preserved
loop-token-preserved c =
    let total = length c.args.text.now in
    let before = lexemes_of c.args.lexemes.now.items in
    record {
      within = omega (arith, c.past-rest-in-Some.ensures.no_longer, c.in-Some.ensures.shorter, c.loop-token.invariant.within);
      are = λ ls h.
          subst (AreOthers total c.args.left.now before) (sym (one_more c.push.new.self.items c.loop-token.lexemes.items c.lexeme.result ls c.in_ok-push.ensures.items))
          (c.loop-token.invariant.are (lexeme_of c.lexeme.result ∷ ls)
          (next_step total c.loop-token.rest.now c.in-Some.after.now (token_of c.in-Some.token) (lexeme_of c.lexeme.result) ls c.in-Some.ensures.piece (ap token_of c.lexeme.ensures.token) c.lexeme.ensures.at
          (subst (λ x. AreNext total x ls) c.past-rest-in-Some.ensures.rest h)));
    }

pub returns : goal.returns
returns c =
    subst (AreOthers (length c.args.text.now) c.args.left.now (lexemes_of c.args.lexemes.now.items)) (append-nil (lexemes_of c.loop-token.lexemes.items))
    (c.loop-token.invariant.are [] c.in_default.ensures.piece)
