use Rattle.std.proofs.Common.{◌≡◌, ◌≤◌, ◌+◌, Err, List, [], ◌∷◌, ◌++◌, refl, sym, ◌∙◌, rules, length, length-append, arith}
use Rattle.vlt_syntax.specs.Spelling.{field_then}
use Rattle.vlt_syntax.specs.Grammar.{IsField, language}
use Rattle.vlt_syntax.specs.View.{field_of}
use Rattle.std.proofs.lemmas.Grind.{common_steps}
use Rattle.vlt_automaton.specs.Language as m
use Rattle.vlt_automaton.specs.Language.{Symbol, run}
use Rattle.vlt_parser_exprs.specs.Ahead.{lexemes_from}
use Rattle.vlt_parser.specs.Declarations.{fields_left}
use Rattle.vlt_parser.proofs.Declarations.{fields_one, ty_can}
use Rattle.vlt_parser_exprs.specs.Reading.{tokens_from}
use Rattle.vlt_syntax.specs.Places.{field_at}
use Rattle.vlt_parser_exprs.proofs.Placings.{one_more_stands}
use Rattle.vlt_parser.proofs.Sequences.{one_more, each_more, still_few}
use Rattle.vlt_parser.proofs.decls.fields.Goals as goal

pub loop-alloc-preserved : goal.loop-alloc-preserved
loop-alloc-preserved c =
    let start = tokens_from c.args.tokens.now in
    let before = c.loop-alloc.invariant in
    let all = c.push.new.self in
    let pushed : all ≡ c.loop-alloc.fields ++ c.in_ok-next.next ∷ [] = c.in_ok-push.ensures.ok in
    let one_longer : length all ≡ length c.loop-alloc.fields + 1 = rw pushed (length-append c.loop-alloc.fields (c.in_ok-next.next ∷ [])) in
    let few : length all ≤ language.fields = still_few all c.loop-alloc.fields c.in_ok-next.next c.len.result c.bound.result.count language.fields pushed c.len.ensures c.in_ok-allow_one_more.ensures.within c.bound.ensures.count in
    let read : (s : List Symbol) → run (m.fields (fields_left (length c.loop-alloc.fields)) ∷ s) (lexemes_from c.args.tokens.now c.loop-alloc.here) ≡ run (m.fields (fields_left (length all)) ∷ s) (lexemes_from c.args.tokens.now c.in_ok-next.following) = λ s.
    fields_one (length c.loop-alloc.fields) (length all) s (lexemes_from c.args.tokens.now c.loop-alloc.here) (ty_can (lexemes_from c.args.tokens.now c.loop-alloc.here) (sym c.loop-alloc-test.ensures)) one_longer few
    ∙ c.in_ok-next.ensures.takes (m.fields (fields_left (length all)) ∷ s) in
    record {
      spelled = one_more field_of field_then all c.loop-alloc.fields c.in_ok-next.next (start c.args.at) (start c.loop-alloc.here) (start c.in_ok-next.following) pushed before.spelled c.in_ok-next.ensures.spelled;
      stands = one_more_stands field_of field_at c.args.tokens.now all c.loop-alloc.fields c.in_ok-next.next c.args.at c.loop-alloc.here c.in_ok-next.following pushed before.stands c.in_ok-next.ensures.placed;
      right = each_more field_of IsField all c.loop-alloc.fields c.in_ok-next.next pushed before.right c.in_ok-next.ensures.right;
      few = few;
      later = omega (arith, before.later, c.in_ok-next.ensures.moves.later);
      within = c.in_ok-next.ensures.moves.within;
      place = λ s. before.place s ∙ read s;
    }

pub returns-in_err-next-clause-takes : goal.returns-in_err-next-clause-takes
returns-in_err-next-clause-takes c =
    let here = lexemes_from c.args.tokens.now c.loop-alloc.here in
    let n = length c.loop-alloc.fields in
    let is : c.from_residual-in_err-next.result ≡ Err c.in_err-next.field-0.0 = first_of (search rules, grind (arith, common_steps)) in
    let few : n + 1 ≤ language.fields = first_of (search rules, grind (arith, common_steps)) in
    rw is (λ s f told. c.loop-alloc.invariant.place s ∙ fields_one n (n + 1) s here (ty_can here (sym c.loop-alloc-test.ensures)) refl few
    ∙ c.in_err-next.ensures.takes (m.fields (fields_left (n + 1)) ∷ s) f told)
