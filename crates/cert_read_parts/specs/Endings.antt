-- Endings of the code as the plain ones that they stand for.
use Rattle.cert_format.specs.Endings as ending
use Rattle.cert_read_parts.specs.declared.endings.Ending.{Ending}
use Rattle.cert_read_parts.specs.declared.endings.Ending.TheVariants.{Sure, Never, Unsure}

abbrev pub ending_of : Ending → ending.Ending
ending_of Sure = ending.sure
ending_of Never = ending.never
ending_of Unsure = ending.unsure
