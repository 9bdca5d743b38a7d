-- What a function gives to a host.
use Rattle.vlt_meaning.specs.World.{number, reference, Value, one}
use Rattle.vlt_host_acts.specs.declared.values.HostValue.{HostValue}
use Rattle.vlt_host_acts.specs.declared.values.HostValue.TheVariants.{Number, Object}

abbrev pub value_of : HostValue → Value
value_of (Number z) = one (number z)
value_of (Object n) = one (reference n)
