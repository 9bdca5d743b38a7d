use Rattle.vlt_fit_laws.proofs.NarrowLaws.{externals_narrow}
use Rattle.vlt_fit_laws.proofs.narrow.declared_externals_are_narrow.Goals as goal

pub returns : goal.returns
returns c = λ ds p passed has externals. externals_narrow ds p passed has externals
