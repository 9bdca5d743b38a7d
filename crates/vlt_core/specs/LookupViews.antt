-- What the look-ups of the code find, as plain data.
use Rattle.vlt_core.specs.Lookups as s
use Rattle.vlt_core.specs.Instances as i
use Rattle.vlt_core.specs.View.{keys_of}
use Rattle.vlt_core.specs.declared.lookups.Bound.{Bound}
use Rattle.vlt_core.specs.declared.lookups.Reference.{Reference}
use Rattle.vlt_core.specs.declared.lookups.VariantOf.{VariantOf}

abbrev pub reference_view : Reference → s.Reference
reference_view r = record { key = r.key.0; type = r.type_id.0 }

abbrev pub bound_view : Bound → i.Bound
bound_view b = record { key = b.key.0; state = b.state }

abbrev pub variant_view : VariantOf → s.VariantOf
variant_view v = record { type = v.type_id.0; args = keys_of v.args.now }
