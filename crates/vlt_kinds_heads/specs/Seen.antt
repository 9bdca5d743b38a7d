-- What the code knows of a head, as plain data.
use Rattle.std.specs.Prelude.{ℕ, List, map}
use Rattle.std.specs.Borrow.{Bor}
use Rattle.vlt_kinds_heads.specs.Places as p
use Rattle.vlt_kinds_heads.specs.Keys.{Keys}
use Rattle.vlt_kinds_heads.specs.declared.keys.HeadKeys.{HeadKeys}
use Rattle.vlt_kinds_heads.specs.declared.names.HeadName.{HeadName}

-- a table of the code
abbrev pub table_seen : {V : Type 0} → List (Bor (List ℕ) × V) → List (List ℕ × V)
table_seen = map (λ e. (e.0.now, e.1))

abbrev pub keys_seen : HeadKeys → Keys
keys_seen h = table_seen h.table.entries

abbrev pub name_seen : HeadName → p.HeadName
name_seen n = record { text = n.text.now; at = n.at; is_key = n.is_key }
