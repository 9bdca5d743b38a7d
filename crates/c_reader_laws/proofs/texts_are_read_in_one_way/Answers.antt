use Rattle.c_reader_laws.proofs.Reading.{read_in_one_way}
use Rattle.c_reader_laws.proofs.texts_are_read_in_one_way.Goals as goal

pub returns : goal.returns
returns c = read_in_one_way (record {
  refusal = c.tokens_are_read_in_one_way.ensures.refusal;
  either = c.tokens_are_read_in_one_way.ensures.either;
  never_both = c.tokens_are_read_in_one_way.ensures.never_both;
})
