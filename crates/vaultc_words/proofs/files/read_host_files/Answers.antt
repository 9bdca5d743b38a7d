use Rattle.std.proofs.Common.{◌≡◌, [], ◌∷◌, Some, Err, rules, arith}
use Rattle.std.proofs.lemmas.Grind.{common_steps}
use Rattle.std.specs.Option.{option_map}
use Rattle.vaultc_words.specs.Sources.{had, text_in, numbers_in}
use Rattle.vaultc_words.specs.View.{seen_taken}
use Rattle.vaultc_words.proofs.Reading.{read_then}
use Rattle.vaultc_words.proofs.FilesHad.{first_fails, later_fails}
use Rattle.vaultc_words.proofs.files.read_host_files.Goals as goal

pub returns-in_err-calls-clause-read : goal.returns-in_err-calls-clause-read
returns-in_err-calls-clause-read g c =
    let store = g.S.Store in
    let taken = seen_taken c.args.taken in
    let text = Some (text_in c.args.file.now) in
    let calls = Some (numbers_in c.args.calls.now) in
    let input = option_map numbers_in taken.input in
    let answers = option_map numbers_in taken.answers in
    let one = c.read_file.new.store in
    let two = c.read_file-2.new.store in
    let e = c.in_err-calls.field-0.0 in
    let is : c.from_residual-in_err-calls.result ≡ Err e = first_of (search rules, grind (arith, common_steps)) in
    rw is (later_fails store c.args.store.now one two text (calls ∷ input ∷ answers ∷ []) c.in_ok-text.text.items e c.in_ok-text.ensures.read
    (first_fails store one two calls (input ∷ answers ∷ []) e c.in_err-calls.ensures.read))

pub returns-in_err-input-clause-read : goal.returns-in_err-input-clause-read
returns-in_err-input-clause-read g c =
    let store = g.S.Store in
    let taken = seen_taken c.args.taken in
    let text = Some (text_in c.args.file.now) in
    let calls = Some (numbers_in c.args.calls.now) in
    let input = option_map numbers_in taken.input in
    let answers = option_map numbers_in taken.answers in
    let one = c.read_file.new.store in
    let two = c.read_file-2.new.store in
    let three = c.read_numbers.new.store in
    let e = c.in_err-input.field-0.0 in
    let is : c.from_residual-in_err-input.result ≡ Err e = first_of (search rules, grind (arith, common_steps)) in
    rw is (later_fails store c.args.store.now one three text (calls ∷ input ∷ answers ∷ []) c.in_ok-text.text.items e c.in_ok-text.ensures.read
    (later_fails store one two three calls (input ∷ answers ∷ []) c.in_ok-calls.calls.items e c.in_ok-calls.ensures.read
    (first_fails store two three input (answers ∷ []) e c.in_err-input.ensures.read)))

pub returns-in_err-answers-clause-read : goal.returns-in_err-answers-clause-read
returns-in_err-answers-clause-read g c =
    let store = g.S.Store in
    let taken = seen_taken c.args.taken in
    let text = Some (text_in c.args.file.now) in
    let calls = Some (numbers_in c.args.calls.now) in
    let input = option_map numbers_in taken.input in
    let answers = option_map numbers_in taken.answers in
    let one = c.read_file.new.store in
    let two = c.read_file-2.new.store in
    let three = c.read_numbers.new.store in
    let four = c.read_numbers-2.new.store in
    let e = c.in_err-answers.field-0.0 in
    let is : c.from_residual-in_err-answers.result ≡ Err e = first_of (search rules, grind (arith, common_steps)) in
    rw is (later_fails store c.args.store.now one four text (calls ∷ input ∷ answers ∷ []) c.in_ok-text.text.items e c.in_ok-text.ensures.read
    (later_fails store one two four calls (input ∷ answers ∷ []) c.in_ok-calls.calls.items e c.in_ok-calls.ensures.read
    (later_fails store two three four input (answers ∷ []) c.in_ok-input.input.items e c.in_ok-input.ensures.read c.in_err-answers.ensures.read)))

pub returns-clause-read : goal.returns-clause-read
returns-clause-read g c =
    let store = g.S.Store in
    let taken = seen_taken c.args.taken in
    let text = Some (text_in c.args.file.now) in
    let calls = Some (numbers_in c.args.calls.now) in
    let input = option_map numbers_in taken.input in
    let answers = option_map numbers_in taken.answers in
    let one = c.read_file.new.store in
    let two = c.read_file-2.new.store in
    let three = c.read_numbers.new.store in
    let four = c.read_numbers-2.new.store in
    let last = c.in_ok-answers.answers.items ∷ [] in
    read_then store c.args.store.now one four text (calls ∷ input ∷ answers ∷ []) c.in_ok-text.text.items (had (c.in_ok-calls.calls.items ∷ c.in_ok-input.input.items ∷ last)) c.in_ok-text.ensures.read
    (read_then store one two four calls (input ∷ answers ∷ []) c.in_ok-calls.calls.items (had (c.in_ok-input.input.items ∷ last)) c.in_ok-calls.ensures.read
    (read_then store two three four input (answers ∷ []) c.in_ok-input.input.items (had last) c.in_ok-input.ensures.read c.in_ok-answers.ensures.read))
