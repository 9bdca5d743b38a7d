use Rattle.vlt_numbers.proofs.Reading.{input_from_answers}
use Rattle.vlt_numbers.proofs.read_input.Goals as goal

pub returns-clause-ok : goal.returns-clause-ok
returns-clause-ok c =
    let answers = c.in_ok-numbers.field-0 in
    input_from_answers c.args.text.now answers.numbers.items answers.ends.items answers.ordered c.in_ok-numbers.ensures.ok
