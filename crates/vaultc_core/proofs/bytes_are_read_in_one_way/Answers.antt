use Rattle.vaultc_replies.proofs.Read.{read_in_one_way}
use Rattle.vaultc_core.proofs.bytes_are_read_in_one_way.Goals as goal

pub returns : goal.returns
returns c = read_in_one_way
