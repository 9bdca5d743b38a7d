use Rattle.vlt_sound_statements.proofs.Branches.{block_is_safe}
use Rattle.vlt_sound_statements.proofs.blocks.blocks_are_safe.Goals as goal

pub returns : goal.returns
returns c = λ r rest_of f ss bound end typed keyed safe. block_is_safe r rest_of f typed keyed ss bound end safe
