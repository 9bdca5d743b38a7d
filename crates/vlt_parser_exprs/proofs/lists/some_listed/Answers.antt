use Rattle.std.proofs.Common.{◌≡◌, refl, ap, ◌∙◌, length, ◌+◌, [], ◌∷◌, ◌++◌, map, subst, arith, length-append}
use Rattle.std.proofs.lemmas.List.{length-map}
use Rattle.vlt_parser_exprs.specs.Reading.{tokens_from, IsWithin}
use Rattle.vlt_automaton.specs.Language as m
use Rattle.vlt_parser_exprs.specs.Ahead.{lexemes_from, left_of}
use Rattle.vlt_parser_exprs.proofs.Runs.{further_one}
use Rattle.vlt_parser_exprs.proofs.Placings.{stands_on, stands_whole}
use Rattle.vlt_parser_exprs.proofs.Separated.{pushed, each-pushed, some-pushed, goes_on, closed}
use Rattle.vlt_parser_exprs.proofs.lists.some_listed.Goals as goal

pub loop-items-init : goal.loop-items-init
loop-items-init g c = rw c.new-items.ensures record {
  spelled = λ x xs rest e. e;
  stands = λ x xs next e. e;
  right = tt;
  few = c.requires;
  later = omega arith;
  place = λ s. refl;
}

pub loop-items-preserved : goal.loop-items-preserved
loop-items-preserved g c =
    let start = tokens_from c.args.tokens.now in
    let view = g.T.Part.view in
    let before = c.loop-items.invariant in
    let item = c.in_ok-item.item in
    let all = c.push.new.self in
    let grown : map view all ≡ map view c.loop-items.items ++ view item ∷ [] = pushed view all c.loop-items.items item c.in_ok-push.ensures.ok in
    let one_longer : length all ≡ length c.loop-items.items + 1 = rw c.in_ok-push.ensures.ok (length-append c.loop-items.items (item ∷ [])) in
    record {
      spelled = goes_on g.T.Part.spell c.args.closing (start c.args.at) (map view all) (map view c.loop-items.items) (start c.loop-items.here) (start c.in_ok-item.following) (start c.in_ok-next.next) (view item)
          grown before.spelled c.in_ok-item.ensures.spelled c.in_ok-next.ensures.spelled;
      stands = stands_on g.T.Part.places c.args.tokens.now c.args.at c.loop-items.here c.in_ok-item.following c.in_ok-next.next (map view all) (map view c.loop-items.items) (view item) grown before.stands c.in_ok-item.ensures.placed c.in_ok-next.ensures.one;
      right = each-pushed g.T.Part.right (map view all) (map view c.loop-items.items) (view item) grown before.right c.in_ok-item.ensures.right;
      few = subst (λ n. IsWithin c.args.most (n + 1)) c.len.ensures c.in_ok-allow_one_more.ensures.within;
      later = omega (arith, before.later, c.in_ok-item.ensures.moves.later, c.in_ok-next.ensures.moves.later);
      place = λ s. before.place s ∙ c.in_ok-item.ensures.takes (m.further g.T.Part.thing c.args.closing (left_of c.args.most (length c.loop-items.items + 1)) ∷ s)
          ∙ further_one g.T.Part.thing c.args.closing c.args.most (length c.loop-items.items + 1) (length all + 1) s (lexemes_from c.args.tokens.now c.in_ok-item.following) (lexemes_from c.args.tokens.now c.in_ok-next.next)
          c.in_default.ensures.lacks c.in_ok-next.ensures.ahead (ap (λ n. n + 1) one_longer) (subst (λ n. IsWithin c.args.most (n + 1)) c.len.ensures c.in_ok-allow_one_more.ensures.within);
    }

pub returns-in-Some-clause-spelled : goal.returns-in-Some-clause-spelled
returns-in-Some-clause-spelled g c =
    let start = tokens_from c.args.tokens.now in
    let view = g.T.Part.view in
    let item = c.in_ok-item.item in
    let all = c.push.new.self in
    closed g.T.Part.spell c.args.closing (start c.args.at) (map view all) (map view c.loop-items.items) (start c.loop-items.here) (start c.in_ok-item.following) (start c.in-Some.end) (view item)
    (pushed view all c.loop-items.items item c.in_ok-push.ensures.ok) c.loop-items.invariant.spelled c.in_ok-item.ensures.spelled c.in-Some.ensures.spelled

pub returns-in-Some-clause-some : goal.returns-in-Some-clause-some
returns-in-Some-clause-some g c =
    let view = g.T.Part.view in
    let all = c.push.new.self in
    some-pushed (map view all) (map view c.loop-items.items) (view c.in_ok-item.item) (pushed view all c.loop-items.items c.in_ok-item.item c.in_ok-push.ensures.ok)

pub returns-in-Some-clause-right : goal.returns-in-Some-clause-right
returns-in-Some-clause-right g c =
    let view = g.T.Part.view in
    let all = c.push.new.self in
    each-pushed g.T.Part.right (map view all) (map view c.loop-items.items) (view c.in_ok-item.item) (pushed view all c.loop-items.items c.in_ok-item.item c.in_ok-push.ensures.ok) c.loop-items.invariant.right c.in_ok-item.ensures.right

pub returns-in-Some-clause-few : goal.returns-in-Some-clause-few
returns-in-Some-clause-few g c = rw (length-map c.push.new.self g.T.Part.view) (rw c.in_ok-push.ensures.ok (rw (length-append c.loop-items.items (c.in_ok-item.item ∷ [])) c.loop-items.invariant.few))

pub returns-in-Some-clause-placed : goal.returns-in-Some-clause-placed
returns-in-Some-clause-placed g c =
    let view = g.T.Part.view in
    let item = c.in_ok-item.item in
    let all = c.push.new.self in
    stands_whole g.T.Part.places c.args.tokens.now c.args.at c.loop-items.here c.in_ok-item.following c.in-Some.end (map view all) (map view c.loop-items.items) (view item)
    (pushed view all c.loop-items.items item c.in_ok-push.ensures.ok) c.loop-items.invariant.stands c.in_ok-item.ensures.placed c.in-Some.ensures.one
