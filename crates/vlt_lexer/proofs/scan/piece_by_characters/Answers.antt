use Rattle.std.proofs.Common.{◌≡◌, ◌-◌, ◌∙◌, ap, true, false, Some, None, length, take, sym, subst, rules, arith}
use Rattle.std.specs.Str.{chars, IsUtf8}
use Rattle.std.proofs.lemmas.Grind.{common_steps}
use Rattle.vlt_tokens.specs.Characters.{is_blank, is_digit}
use Rattle.vlt_tokens.specs.Lexemes.{IsOf}
use Rattle.vlt_lexer.specs.Reading.{blank}
use Rattle.vlt_lexer.specs.Steps.{past_name, sign_of, keyword_of, kind_of, IsNoComment}
use Rattle.vlt_lexer.proofs.Bytes.{front_bytes}
use Rattle.vlt_lexer.proofs.Words.{kind_is}
use Rattle.vlt_lexer.proofs.Found.{name_stands, tick_stands, sign_stands, bad_stuck, tick_stuck}
use Rattle.vlt_lexer.proofs.scan.piece_by_characters.Goals as goal

pub returns-then-is_blank-clause-found : goal.returns-then-is_blank-clause-found
returns-then-is_blank-clause-found c =
    let is : is_blank c.in-Some.c ≡ true = first_of (search rules, grind (arith, common_steps)) in
    blank (chars c.args.text.now) c.in-Some.c (chars c.in-Some.after.now) c.in-Some.ensures.split.0 is

pub returns-in-Some-past_name_from-clause-found : goal.returns-in-Some-past_name_from-clause-found
returns-in-Some-past_name_from-clause-found c =
    let following : past_name (chars c.args.text.now) ≡ Some (chars c.in-Some-past_name_from.rest.now) = first_of (search rules, grind (arith, common_steps)) in
    let found = name_stands (chars c.args.text.now) (chars c.in-Some-past_name_from.rest.now) following in
    let utf8 : IsUtf8 c.in-Some-past_name_from.rest.now = first_of (search rules, grind (arith, common_steps)) in
    let bytes = front_bytes c.args.text.now c.in-Some-past_name_from.rest.now found.0 c.utf8.text utf8 found.1 in
    let count = length c.args.text.now - length c.in-Some-past_name_from.rest.now in
    let same = c.keyword_or_name.ensures ∙ ap (λ bs. kind_of (keyword_of bs)) (ap (take count) c.as_bytes.ensures.value ∙ bytes) in
    (found.0, found.1, found.2, subst (λ k. IsOf k found.0) (sym same) (kind_is found.0 found.3))

pub returns-in-Some-past_name-clause-found : goal.returns-in-Some-past_name-clause-found
returns-in-Some-past_name-clause-found c =
    let following : past_name (chars c.in-Some.after.now) ≡ Some (chars c.in-Some-past_name.rest.now) = first_of (search rules, grind (arith, common_steps)) in
    tick_stands (chars c.args.text.now) c.in-Some.c (chars c.in-Some.after.now) (chars c.in-Some-past_name.rest.now) c.in-Some.ensures.split.0 c.if-c-eq39.true following

pub returns-in-Some-sign-clause-found : goal.returns-in-Some-sign-clause-found
returns-in-Some-sign-clause-found c =
    let found : sign_of (chars c.args.text.now) ≡ Some (c.in-Some-sign.mark, chars c.in-Some-sign.rest.now) = first_of (search rules, grind (arith, common_steps)) in
    let plain : IsNoComment (chars c.args.text.now) = first_of (search rules, grind (arith, common_steps)) in
    sign_stands (chars c.args.text.now) c.in-Some-sign.mark (chars c.in-Some-sign.rest.now) found plain

pub returns-in-None-clause-stuck : goal.returns-in-None-clause-stuck
returns-in-None-clause-stuck c =
    let no_blank : is_blank c.in-Some.c ≡ false = first_of (search rules, grind (arith, common_steps)) in
    let no_name : past_name (chars c.args.text.now) ≡ None = first_of (search rules, grind (arith, common_steps)) in
    let no_digit : is_digit c.in-Some.c ≡ false = first_of (search rules, grind (arith, common_steps)) in
    let no_tick : past_name (chars c.in-Some.after.now) ≡ None = first_of (search rules, grind (arith, common_steps)) in
    tick_stuck (chars c.args.text.now) c.in-Some.c (chars c.in-Some.after.now) c.in-Some.ensures.split.0 no_blank no_name no_digit c.if-c-eq39.true no_tick

pub returns-in-None-sign-clause-stuck : goal.returns-in-None-sign-clause-stuck
returns-in-None-sign-clause-stuck c =
    let no_blank : is_blank c.in-Some.c ≡ false = first_of (search rules, grind (arith, common_steps)) in
    let no_name : past_name (chars c.args.text.now) ≡ None = first_of (search rules, grind (arith, common_steps)) in
    let no_digit : is_digit c.in-Some.c ≡ false = first_of (search rules, grind (arith, common_steps)) in
    let no_sign : sign_of (chars c.args.text.now) ≡ None = first_of (search rules, grind (arith, common_steps)) in
    bad_stuck (chars c.args.text.now) c.in-Some.c (chars c.in-Some.after.now) c.in-Some.ensures.split.0 no_blank no_name no_digit (λ ticks. absurd (c.if-c-eq39.false ticks)) no_sign
