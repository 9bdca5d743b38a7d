use Rattle.cert_verify.proofs.SomeWay.{in_some_way}
use Rattle.cert_verify.proofs.laws.texts_verify_in_some_way.Goals as goal

pub returns : goal.returns
returns c = λ answer. in_some_way (record {
  reads = c.texts_are_read_in_one_way.ensures;
  reading = c.texts_have_some_reading.ensures;
  answer = answer;
  others = c.apart_at_one.ensures.others;
})
