-- What is in scope again after a block, as plain data.
use Rattle.std.specs.Prelude.{◌≡◌, map, reverse}
use Rattle.vlt_core.specs.KindedScopes.{Ids}
use Rattle.vlt_core.specs.View.{vars_of, keys_of, tok_of}
use Rattle.cert_kinds_blocks.specs.declared.outer.Outer.{Outer}

-- the code's lists are those of the ids
pub record Remembers (x : Outer) (ids : Ids) : Type 0 where
  pub vars : reverse (vars_of x.vars) ≡ ids.vars
  pub keys : reverse (keys_of x.keys) ≡ ids.keys
  pub bound : map tok_of x.bound ≡ ids.bound

abbrev pub left_with : Outer → (last : Ids) → Ids
left_with x last = record last { vars = reverse (vars_of x.vars); keys = reverse (keys_of x.keys); bound = map tok_of x.bound }
