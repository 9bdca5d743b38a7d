-- What a refusal says.
use Rattle.std.specs.Prelude.{Result}
use Rattle.vlt_base.specs.Refusals as refusals
use Rattle.vlt_kinds_types.specs.declared.names.found.Refusal.{Refusal}
use Rattle.vlt_resolve_parts.specs.declared.stop.Stop.{Stop}
use Rattle.vlt_resolve_parts.specs.declared.stop.Stop.TheVariants.{Refused}

-- a fact for the refusal at which the walk stopped
abbrev pub OnRefused : {A : Type 0} → Result A Stop → (Refusal → Type 0) → Type 0
OnRefused r p = refusals.OnRefused Refused r p
