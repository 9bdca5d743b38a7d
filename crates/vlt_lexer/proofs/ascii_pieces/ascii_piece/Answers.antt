use Rattle.std.proofs.Common.{rules, arith, ◌≡◌, ◌≢◌, ◌≤◌, ◌<◌, length, take, drop, Some, ap, sym, subst, ◌∙◌}
use Rattle.std.specs.Prelude.{slice_get, slice_index}
use Rattle.std.proofs.lemmas.Grind.{common_steps}
use Rattle.vlt_lexer.specs.AsciiPieces.{is_ascii_more}
use Rattle.vlt_lexer.specs.Steps.{run, past_run, keyword_of, kind_of}
use Rattle.vlt_lexer.proofs.Letters.{blank_of, opener_of, other_of, blank_small, run_again, narrow_at}
use Rattle.vlt_lexer.proofs.Fronts.{cut_one, blank_front, cut_letters, name_front, sign_front, cut_two, pair_front, alone_front}
use Rattle.vlt_lexer.proofs.ascii_pieces.ascii_piece.Goals.{else-len-bytes-via-then-len-bytes+else-bytes-len-ge128, else-len-bytes-via-else-len-bytes, else-bytes-gt1-via-then-bytes-gt1+else-bytes-second, else-bytes-gt1-via-else-bytes-gt1}
use Rattle.vlt_lexer.proofs.ascii_pieces.ascii_piece.Goals as goal

pub range_from-requires : goal.range_from-requires
range_from-requires c =
    let first : Some c.in_ok-first.field-0.now ≡ slice_get c.args.text.now 0 = first_of (search rules, grind (arith, common_steps)) in
    λ _. cut_one c.args.text.now c.in_ok-first.field-0.now first (blank_small c.in_ok-first.field-0.now (blank_of c.in_ok-first.field-0.now (sym c.byte_class.ensures ∙ c.in-Blank.is))) c.utf8.text

pub kind_by_key-requires-clause-letters : goal.kind_by_key-requires-clause-letters
kind_by_key-requires-clause-letters c = ap (run is_ascii_more) c.ascii_name-len.ensures.front ∙ run_again is_ascii_more c.as_bytes-bytes.result.now ∙ sym c.ascii_name-len.ensures.front

pub range_from-requires-in-Letter : goal.range_from-requires-in-Letter
range_from-requires-in-Letter c =
    let bytes = c.as_bytes-bytes.ensures.value in
    let n = c.ascii_name-len.result.0 in
    λ _. cut_letters c.args.text.now n (subst (λ t. n ≤ length t) bytes c.ascii_name-len.ensures.within) (subst (λ t. drop n t ≡ past_run is_ascii_more t) bytes c.ascii_name-len.ensures.rest) c.utf8.text

pub returns-in-Blank-clause-found : goal.returns-in-Blank-clause-found
returns-in-Blank-clause-found c =
    let first : Some c.in_ok-first.field-0.now ≡ slice_get c.args.text.now 0 = first_of (search rules, grind (arith, common_steps)) in
    blank_front c.args.text.now c.range_from.result.now c.in_ok-first.field-0.now first (blank_of c.in_ok-first.field-0.now (sym c.byte_class.ensures ∙ c.in-Blank.is)) c.utf8.text c.range_from.ensures.value

pub returns-else-len-bytes-clause-found : goal.returns-else-len-bytes-clause-found
returns-else-len-bytes-clause-found c =
    let bytes = c.as_bytes-bytes.ensures.value in
    let n = c.ascii_name-len.result.0 in
    let first : Some c.in_ok-first.field-0.now ≡ slice_get c.args.text.now 0 = first_of (search rules, grind (arith, common_steps)) in
    let narrow : n < length c.args.text.now → slice_index c.args.text.now n < 128 = subst (λ t. n < length t → slice_index t n < 128) bytes (λ l. elim c.else-len-bytes.branch [
      | else-len-bytes-via-then-len-bytes+else-bytes-len-ge128 w ↦ omega (arith, w.if-bytes-len-ge128.false)
      | else-len-bytes-via-else-len-bytes w ↦ absurd (omega (arith, l, w.if-len-bytes.false))
    ]) in
    let kind : c.kind_by_key.result ≡ kind_of (keyword_of (take n c.args.text.now)) = subst (λ t. c.kind_by_key.result ≡ kind_of (keyword_of (take n t))) bytes c.kind_by_key.ensures in
    name_front c.args.text.now c.range_from-in-Letter.result.now c.in_ok-first.field-0.now n c.kind_by_key.result first (opener_of c.in_ok-first.field-0.now (sym c.byte_class.ensures ∙ c.in-Letter.is)) c.utf8.text
    (subst (λ t. n ≤ length t) bytes c.ascii_name-len.ensures.within)
    (subst (λ t. drop n t ≡ past_run is_ascii_more t) bytes c.ascii_name-len.ensures.rest)
    (narrow_at c.args.text.now n narrow)
    c.range_from-in-Letter.ensures.value
    kind

pub range_from-requires-in-Some : goal.range_from-requires-in-Some
range_from-requires-in-Some c =
    let first : Some c.in_ok-first.field-0.now ≡ slice_get c.args.text.now 0 = first_of (search rules, grind (arith, common_steps)) in
    let small : c.in_ok-first.field-0.now < 128 = other_of c.in_ok-first.field-0.now (sym c.byte_class.ensures ∙ c.in-Other.is) in
    λ _. cut_one c.args.text.now c.in_ok-first.field-0.now first small c.utf8.text

pub returns-in-Some-clause-found : goal.returns-in-Some-clause-found
returns-in-Some-clause-found c =
    let first : Some c.in_ok-first.field-0.now ≡ slice_get c.args.text.now 0 = first_of (search rules, grind (arith, common_steps)) in
    let small : c.in_ok-first.field-0.now < 128 = other_of c.in_ok-first.field-0.now (sym c.byte_class.ensures ∙ c.in-Other.is) in
    sign_front c.args.text.now c.range_from-in-Some.result.now c.in_ok-first.field-0.now c.in-Some.mark first small c.utf8.text c.range_from-in-Some.ensures.value c.in-Some.ensures.sign c.in-Some.ensures.plain

pub range_from-requires-then-bytes-second : goal.range_from-requires-then-bytes-second
range_from-requires-then-bytes-second c =
    let first : Some c.in_ok-first.field-0.now ≡ slice_get c.args.text.now 0 = first_of (search rules, grind (arith, common_steps)) in
    let small : c.in_ok-first.field-0.now < 128 = other_of c.in_ok-first.field-0.now (sym c.byte_class.ensures ∙ c.in-Other.is) in
    let more : 1 < length c.args.text.now = first_of (search rules, grind (arith, common_steps)) in
    let next : slice_index c.args.text.now 1 ≡ c.in_ok-second-in-Other.second = first_of (search rules, grind (arith, common_steps)) in
    λ _. cut_two c.args.text.now c.in_ok-first.field-0.now c.in_ok-second-in-Other.second first small more next c.in_ok-second-in-Other.ensures.plain.1 c.utf8.text

pub returns-then-bytes-second-clause-found : goal.returns-then-bytes-second-clause-found
returns-then-bytes-second-clause-found c =
    let first : Some c.in_ok-first.field-0.now ≡ slice_get c.args.text.now 0 = first_of (search rules, grind (arith, common_steps)) in
    let small : c.in_ok-first.field-0.now < 128 = other_of c.in_ok-first.field-0.now (sym c.byte_class.ensures ∙ c.in-Other.is) in
    let more : 1 < length c.args.text.now = first_of (search rules, grind (arith, common_steps)) in
    let next : slice_index c.args.text.now 1 ≡ c.in_ok-second-in-Other.second = first_of (search rules, grind (arith, common_steps)) in
    pair_front c.args.text.now c.range_from-then-bytes-second.result.now c.in_ok-first.field-0.now c.in_ok-second-in-Other.second c.in_ok-second-in-Other.longer first small more next c.in_ok-second-in-Other.ensures.plain.1 c.utf8.text c.range_from-then-bytes-second.ensures.value c.in_ok-second-in-Other.ensures.longer c.in_ok-second-in-Other.ensures.plain.0

pub returns-else-bytes-gt1-clause-found : goal.returns-else-bytes-gt1-clause-found
returns-else-bytes-gt1-clause-found c =
    let first : Some c.in_ok-first.field-0.now ≡ slice_get c.args.text.now 0 = first_of (search rules, grind (arith, common_steps)) in
    let small : c.in_ok-first.field-0.now < 128 = other_of c.in_ok-first.field-0.now (sym c.byte_class.ensures ∙ c.in-Other.is) in
    let other : 1 < length c.args.text.now → slice_index c.args.text.now 1 ≢ c.in_ok-second-in-Other.second = subst (λ t. 1 < length t → slice_index t 1 ≢ c.in_ok-second-in-Other.second) c.as_bytes-bytes.ensures.value (λ l. elim c.else-bytes-gt1.branch [
      | else-bytes-gt1-via-then-bytes-gt1+else-bytes-second w ↦ w.if-bytes-second.false
      | else-bytes-gt1-via-else-bytes-gt1 w ↦ absurd (omega (arith, l, w.if-bytes-gt1.false))
    ]) in
    alone_front c.args.text.now c.range_from-in-Other.result.now c.in_ok-first.field-0.now c.in_ok-second-in-Other.second c.in_ok-second-in-Other.alone first small c.in_ok-second-in-Other.ensures.plain.1 other c.utf8.text c.range_from-in-Other.ensures.value c.in_ok-second-in-Other.ensures.alone c.in_ok-second-in-Other.ensures.plain.0

pub range_from-requires-in-Other : goal.range_from-requires-in-Other
range_from-requires-in-Other c =
    let first : Some c.in_ok-first.field-0.now ≡ slice_get c.args.text.now 0 = first_of (search rules, grind (arith, common_steps)) in
    let small : c.in_ok-first.field-0.now < 128 = other_of c.in_ok-first.field-0.now (sym c.byte_class.ensures ∙ c.in-Other.is) in
    λ _. cut_one c.args.text.now c.in_ok-first.field-0.now first small c.utf8.text
