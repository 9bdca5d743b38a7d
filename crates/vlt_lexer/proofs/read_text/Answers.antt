use Rattle.std.proofs.Common.{◌≡◌, ◌-◌, ◌≤◌, ◌<◌, ◌++◌, ◌∷◌, [], length, take, sym, subst, refl, inr, rules, arith, length-append}
use Rattle.std.specs.Str.{chars, IsUtf8}
use Rattle.std.proofs.lemmas.Grind.{common_steps}
use Rattle.vlt_base.specs.Limits.{limit_of}
use Rattle.vlt_tokens.specs.Lexemes.{Lexeme, lexeme, lexemes}
use Rattle.vlt_lexer.specs.Reading.{IsGap, IsToken, IsStuck, Reads, nothing, token}
use Rattle.vlt_lexer.specs.Text.{IsRefused}
use Rattle.vlt_lexer.specs.Places.{error_at}
use Rattle.vlt_lexer.proofs.Bytes.{width_chars}
use Rattle.vlt_lexer.proofs.Found.{Stands}
use Rattle.vlt_lexer.proofs.Tokens.{stands_token, Found, found_skipped, found_gap, found_token, found_reads, length_lexemes, placed_refused}
use Rattle.vlt_lexer.proofs.read_text.Goals as goal

pub returns-in-Ok-None-clause-tokens : goal.returns-in-Ok-None-clause-tokens
returns-in-Ok-None-clause-tokens c =
    let read_so : Found (length c.args.text.now) (chars c.args.text.now) c.loop-found.found.items (chars c.past_blanks-front.result.now) = found_skipped (length c.args.text.now) (chars c.args.text.now) c.loop-found.found.items (chars c.loop-found.left.now) (chars c.past_blanks-front.result.now) c.past_blanks-front.ensures.reads c.loop-found.invariant.read in
    let inside : length c.past_blanks-front.result.now ≤ length c.args.text.now = omega (arith, c.past_blanks-front.ensures.no_longer, c.loop-found.invariant.within) in
    let empty : chars c.past_blanks-front.result.now ≡ [] = first_of (search rules, grind (arith, common_steps)) in
    let total = length c.args.text.now in
    let reads = found_reads total (chars c.args.text.now) c.loop-found.found.items (chars c.past_blanks-front.result.now) read_so in
    (c.utf8.text, subst (Reads total (chars c.args.text.now) (lexemes c.loop-found.found.items)) empty reads)

pub loop-found-preserved-in-Ok-Some-Gap : goal.loop-found-preserved-in-Ok-Some-Gap
loop-found-preserved-in-Ok-Some-Gap c =
    let read_so : Found (length c.args.text.now) (chars c.args.text.now) c.loop-found.found.items (chars c.past_blanks-front.result.now) = found_skipped (length c.args.text.now) (chars c.args.text.now) c.loop-found.found.items (chars c.loop-found.left.now) (chars c.past_blanks-front.result.now) c.past_blanks-front.ensures.reads c.loop-found.invariant.read in
    let inside : length c.past_blanks-front.result.now ≤ length c.args.text.now = omega (arith, c.past_blanks-front.ensures.no_longer, c.loop-found.invariant.within) in
    let gap : IsGap (chars c.past_blanks-front.result.now) (chars c.in-Ok-Some-Gap.after.now) = first_of (search rules, grind (arith, common_steps)) in
    record {
      utf8 = first_of (search rules, grind (arith, common_steps));
      within = first_of (search rules, grind (arith, common_steps));
      few = c.loop-found.invariant.few;
      read = found_gap (length c.args.text.now) (chars c.args.text.now) c.loop-found.found.items (chars c.past_blanks-front.result.now) (chars c.in-Ok-Some-Gap.after.now) gap read_so;
    }

pub returns-then-len-limit-clause-refused : goal.returns-then-len-limit-clause-refused
returns-then-len-limit-clause-refused c =
    let read_so : Found (length c.args.text.now) (chars c.args.text.now) c.loop-found.found.items (chars c.past_blanks-front.result.now) = found_skipped (length c.args.text.now) (chars c.args.text.now) c.loop-found.found.items (chars c.loop-found.left.now) (chars c.past_blanks-front.result.now) c.past_blanks-front.ensures.reads c.loop-found.invariant.read in
    let inside : length c.past_blanks-front.result.now ≤ length c.args.text.now = omega (arith, c.past_blanks-front.ensures.no_longer, c.loop-found.invariant.within) in
    let left = c.past_blanks-front.result.now in
    let after = c.in-Ok-Some-Token.after.now in
    let total = length c.args.text.now in
    let stands : Stands c.in-Ok-Some-Token.kind (chars left) (chars after) = first_of (search rules, grind (arith, common_steps)) in
    let utf8 : IsUtf8 after = first_of (search rules, grind (arith, common_steps)) in
    let shorter : length after < length left = first_of (search rules, grind (arith, common_steps)) in
    let within : length left ≤ total = inside in
    let one : Lexeme = record { kind = c.in-Ok-Some-Token.kind; text = take (length left - length after) left; from = total - length left; to = total - length after } in
    let is : IsToken total (chars left) one (chars after) = stands_token total left after one c.past_blanks-front.utf8 utf8 stands refl (omega arith) (omega arith) in
    let read = read_so.goes_on (one ∷ []) (chars after) (token (chars left) one (chars after) [] (chars after) is (nothing (chars after))) in
    let full : length c.loop-found.found.items ≡ limit_of 3 = first_of (search rules, grind (arith, common_steps)) in
    inr (c.utf8.text, refl, (lexemes c.loop-found.found.items ++ one ∷ [], chars after, read, omega (arith, length-append (lexemes c.loop-found.found.items) (one ∷ []), length_lexemes c.loop-found.found.items, full)))

pub loop-found-preserved : goal.loop-found-preserved
loop-found-preserved c =
    let read_so : Found (length c.args.text.now) (chars c.args.text.now) c.loop-found.found.items (chars c.past_blanks-front.result.now) = found_skipped (length c.args.text.now) (chars c.args.text.now) c.loop-found.found.items (chars c.loop-found.left.now) (chars c.past_blanks-front.result.now) c.past_blanks-front.ensures.reads c.loop-found.invariant.read in
    let inside : length c.past_blanks-front.result.now ≤ length c.args.text.now = omega (arith, c.past_blanks-front.ensures.no_longer, c.loop-found.invariant.within) in
    let left = c.past_blanks-front.result.now in
    let after = c.in-Ok-Some-Token.after.now in
    let total = length c.args.text.now in
    let stands : Stands c.in-Ok-Some-Token.kind (chars left) (chars after) = first_of (search rules, grind (arith, common_steps)) in
    let utf8 : IsUtf8 after = first_of (search rules, grind (arith, common_steps)) in
    let shorter : length after < length left = first_of (search rules, grind (arith, common_steps)) in
    let within : length left ≤ total = inside in
    let one = lexeme c.token_between.result in
    let is : IsToken total (chars left) one (chars after) =
    stands_token total left after one c.past_blanks-front.utf8 utf8 (subst (λ k. Stands k (chars left) (chars after)) (sym c.token_between.ensures.kind) stands) c.token_between.ensures.text c.token_between.ensures.from c.token_between.ensures.to in
    let pushed : c.push.new.self.items ≡ c.loop-found.found.items ++ c.token_between.result ∷ [] = first_of (search rules, grind (arith, common_steps)) in
    record {
      utf8 = utf8;
      within = omega arith;
      few = first_of (search rules, grind (arith, common_steps));
      read = found_token total (chars c.args.text.now) c.loop-found.found.items c.push.new.self.items c.token_between.result (chars left) (chars after) pushed is read_so;
    }

pub returns-in-Err-clause-refused : goal.returns-in-Err-clause-refused
returns-in-Err-clause-refused c =
    let read_so : Found (length c.args.text.now) (chars c.args.text.now) c.loop-found.found.items (chars c.past_blanks-front.result.now) = found_skipped (length c.args.text.now) (chars c.args.text.now) c.loop-found.found.items (chars c.loop-found.left.now) (chars c.past_blanks-front.result.now) c.past_blanks-front.ensures.reads c.loop-found.invariant.read in
    let inside : length c.past_blanks-front.result.now ≤ length c.args.text.now = omega (arith, c.past_blanks-front.ensures.no_longer, c.loop-found.invariant.within) in
    let left = c.past_blanks-front.result.now in
    let total = length c.args.text.now in
    let at = total - length left in
    let stuck : IsStuck c.in-Err.stuck (chars left) = first_of (search rules, grind (arith, common_steps)) in
    let reads = found_reads total (chars c.args.text.now) c.loop-found.found.items (chars left) read_so in
    let few = c.loop-found.invariant.few in
    let within : length left ≤ total = inside in
    let is : c.at.result ≡ error_at c.in-Err.stuck at = first_of (search rules, grind (arith, common_steps)) in
    inr (subst (IsRefused c.args.text.now) (sym is) (placed_refused c.in-Err.stuck at c.args.text.now c.utf8.text
    (lexemes c.loop-found.found.items, chars left, reads, omega (arith, length_lexemes c.loop-found.found.items, few), stuck, omega (arith, width_chars left c.past_blanks-front.utf8))))
