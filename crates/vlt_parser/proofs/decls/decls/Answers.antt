use Rattle.std.proofs.Common.{◌≡◌, ◌≤◌, true, false, ◌+◌, Err, [], ◌∷◌, ◌++◌, refl, ◌∙◌, rules, length, length-append, arith}
use Rattle.vlt_syntax.specs.Tokens.{tokens_of}
use Rattle.vlt_syntax.specs.Spelling.{decl_then}
use Rattle.vlt_syntax.specs.Grammar.{IsDecl, language}
use Rattle.vlt_syntax.specs.View.{decl_of}
use Rattle.std.proofs.lemmas.Grind.{common_steps}
use Rattle.vlt_automaton.specs.Language as m
use Rattle.vlt_parser_exprs.specs.Ahead.{lexemes_from}
use Rattle.vlt_parser.specs.Declarations.{can_begin, decls_left}
use Rattle.vlt_parser.proofs.Declarations.{decls_one, decl_can, decls_stop, some_ahead}
use Rattle.vlt_parser_exprs.specs.Reading.{tokens_from}
use Rattle.vlt_syntax.specs.Places.{decl_at}
use Rattle.vlt_parser_exprs.proofs.Placings.{one_more_stands}
use Rattle.vlt_parser.proofs.Sequences.{one_more, each_more, still_few}
use Rattle.vlt_parser.proofs.decls.decls.Goals as goal

pub loop-here-preserved : goal.loop-here-preserved
loop-here-preserved c =
    let start = tokens_from c.args.tokens.now in
    let places = lexemes_from c.args.tokens.now in
    let before = c.loop-here.invariant in
    let all = c.push.new.self in
    let pushed : all ≡ c.loop-here.decls ++ c.in_ok-next.next ∷ [] = c.in_ok-push.ensures.ok in
    let here = places c.loop-here.here in
    let n = length c.loop-here.decls in
    let begins : can_begin m.start_decl here ≡ true = first_of (search rules, grind (arith, common_steps)) in
    let one_longer : length all ≡ n + 1 = rw pushed (length-append c.loop-here.decls (c.in_ok-next.next ∷ [])) in
    let few : length all ≤ language.decls = still_few all c.loop-here.decls c.in_ok-next.next c.len.result c.bound.result.count language.decls pushed c.len.ensures c.in_ok-allow_one_more.ensures.within c.bound.ensures.count in
    record {
      spelled = one_more decl_of decl_then all c.loop-here.decls c.in_ok-next.next (tokens_of c.args.tokens.now) (start c.loop-here.here) (start c.in_ok-next.following) pushed before.spelled c.in_ok-next.ensures.spelled;
      stands = one_more_stands decl_of decl_at c.args.tokens.now all c.loop-here.decls c.in_ok-next.next 0 c.loop-here.here c.in_ok-next.following pushed before.stands c.in_ok-next.ensures.placed;
      right = each_more decl_of (IsDecl language) all c.loop-here.decls c.in_ok-next.next pushed before.right c.in_ok-next.ensures.right;
      few = few;
      within = c.in_ok-next.ensures.moves.within;
      place = before.place ∙ decls_one n (length all) [] here (decl_can here begins) one_longer few ∙ c.in_ok-next.ensures.takes (m.decls (decls_left (length all)) ∷ []);
    }

pub returns-then-not-begins_decl-clause-takes : goal.returns-then-not-begins_decl-clause-takes
returns-then-not-begins_decl-clause-takes c =
    let here = lexemes_from c.args.tokens.now c.loop-here.here in
    let none : can_begin m.start_decl here ≡ false = first_of (search rules, grind (arith, common_steps)) in
    rw c.unexpected.ensures (λ f told. c.loop-here.invariant.place ∙ decls_stop (length c.loop-here.decls) here (some_ahead c.args.tokens.now c.loop-here.here c.loop-here-test.true) none f told)

pub returns-in_err-next-clause-takes : goal.returns-in_err-next-clause-takes
returns-in_err-next-clause-takes c =
    let here = lexemes_from c.args.tokens.now c.loop-here.here in
    let n = length c.loop-here.decls in
    let is : c.from_residual-in_err-next.result ≡ Err c.in_err-next.field-0.0 = first_of (search rules, grind (arith, common_steps)) in
    let begins : can_begin m.start_decl here ≡ true = first_of (search rules, grind (arith, common_steps)) in
    let few : n + 1 ≤ language.decls = first_of (search rules, grind (arith, common_steps)) in
    rw is (λ f told. c.loop-here.invariant.place ∙ decls_one n (n + 1) [] here (decl_can here begins) refl few ∙ c.in_err-next.ensures.takes (m.decls (decls_left (n + 1)) ∷ []) f told)
