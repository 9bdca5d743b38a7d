use Rattle.vlt_blame_meaning.proofs.One.{tells_one}
use Rattle.vlt_blame_meaning.proofs.one_is_told.Goals as goal

pub returns : goal.returns
returns c = tells_one
