use Rattle.vlt_link_laws.proofs.Joining.{tokens_of_files}
use Rattle.vlt_link_laws.proofs.joined_tokens_are_those_of_files.Goals as goal

pub returns : goal.returns
returns c = λ i f g. tokens_of_files i f g
