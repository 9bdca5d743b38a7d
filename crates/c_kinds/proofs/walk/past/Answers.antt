use Rattle.c_kinds.proofs.Places.{slice_places}
use Rattle.c_kinds.proofs.walk.past.Goals as goal

pub returns-then-n-lexemes : goal.returns-then-n-lexemes
returns-then-n-lexemes c = slice_places (λ l. l.at) c.args.n c.args.lexemes.now
