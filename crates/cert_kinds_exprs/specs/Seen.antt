-- A type under keys, as plain data.
use Rattle.std.specs.Prelude.{ℕ, List, map, Option, Some, None}
use Rattle.std.specs.Borrow.{Bor}
use Rattle.vlt_base.specs.States.{has_state}
use Rattle.vlt_base.specs.declared.ids.KeyId.{KeyId}
use Rattle.vlt_core.specs.Core as s
use Rattle.vlt_core.specs.Types.{stands_for}
use Rattle.vlt_core.specs.View.{keys_of}
use Rattle.cert_kinds_exprs.specs.declared.seen.Keys.{Keys}
use Rattle.cert_kinds_exprs.specs.declared.seen.Seen.{Seen}
use Rattle.cert_kinds_exprs.specs.declared.seen.Seen.TheVariants as seen

-- the key itself, or the one at its position in a list
abbrev pub key_under : Option (List ℕ) → ℕ → ℕ
key_under None k = k
key_under (Some keys) k = stands_for keys k

-- the list, where there is one
abbrev pub under_of : Option (Bor (List KeyId)) → Option (List ℕ)
under_of None = None
under_of (Some keys) = Some (keys_of keys.now)

-- the keys that are meant
abbrev pub keys_seen : Keys → List ℕ
keys_seen x = map (key_under (under_of x.under)) (keys_of x.keys.now)

-- the type that is meant
abbrev pub seen_of : Seen → s.Ty
seen_of seen.Int = s.int
seen_of seen.Bool = s.bool
seen_of (seen.Tracked k t args) = s.tracked k.0 t.0 (keys_seen args)
seen_of (seen.Owning states t args) = s.owning (has_state states) t.0 (keys_seen args)
seen_of (seen.Guarded k t args) = s.guarded k.0 t.0 (keys_seen args)
seen_of (seen.Variant t args) = s.variant t.0 (keys_seen args)
seen_of (seen.OwningVariant t args) = s.owning_variant t.0 (keys_seen args)

-- the same, where the type is known
abbrev pub seen_some : Option Seen → Option s.Ty
seen_some None = None
seen_some (Some x) = Some (seen_of x)
