use Rattle.cert_read_bodies.proofs.Bodies.{bodies_are_read}
use Rattle.cert_read_bodies.proofs.bodies_are_read.Goals as goal

pub returns : goal.returns
returns c = bodies_are_read
