use Rattle.vlt_sound_statements.proofs.Bodies.{body_safe}
use Rattle.vlt_sound_statements.proofs.statements.bodies_are_safe.Goals as goal

pub returns : goal.returns
returns c = λ r rest_of f x frame w parts rest internal accepted rows last entered scoped agrees.
    body_safe r rest_of f parts rest x internal accepted rows last entered scoped frame w agrees
