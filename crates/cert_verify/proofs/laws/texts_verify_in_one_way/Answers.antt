use Rattle.cert_verify.proofs.OneWay.{in_one_way}
use Rattle.cert_verify.proofs.laws.texts_verify_in_one_way.Goals as goal

pub returns : goal.returns
returns c = in_one_way (record {
  reads = c.texts_are_read_in_one_way.ensures;
  reading = c.texts_have_one_reading.ensures;
  none = c.refused_in_one_way.ensures.none_of_program;
  one = c.refused_in_one_way.ensures.one_of_program;
  apart = c.apart_at_one.ensures.one;
})
