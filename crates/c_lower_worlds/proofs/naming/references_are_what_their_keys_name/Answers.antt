use Rattle.c_lower_worlds.proofs.OfNaming.NamedStatements.{names_are_kept}
use Rattle.c_lower_worlds.proofs.naming.references_are_what_their_keys_name.Goals as goal

pub returns : goal.returns
returns c = names_are_kept
