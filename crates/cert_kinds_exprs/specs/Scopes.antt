-- What is in scope, as plain data: the last bound comes first.
use Rattle.std.specs.Prelude.{ℕ, nat_lt, if◌then◌else◌, List, [], ◌∷◌, ◌++◌, length, map, reverse, Option, Some, None}
use Rattle.vlt_core.specs.Core.{Tok, a_key, a_var, Func}
use Rattle.vlt_core.specs.Lookups.{is_owning_var}
use Rattle.vlt_core.specs.KindedHeads.{Rules, unless, has}
use Rattle.vlt_core.specs.declared.rules.TheConstants as rule
use Rattle.vlt_core.specs.KindedScopes as s
use Rattle.vlt_core.specs.View.{vars_of, keys_of, tok_of}
use Rattle.cert_kinds_exprs.specs.declared.scopes.Ids.{Ids}

-- the ids that the code's lists say
abbrev pub ids_of : Ids → s.Ids
ids_of x = record {
  vars = reverse (vars_of x.vars);
  keys = reverse (keys_of x.keys);
  vars_ever = reverse (vars_of x.vars_ever);
  keys_ever = reverse (keys_of x.keys_ever);
  bound = map tok_of x.bound;
}

-- a key of a type that a variable is bound with is in scope
abbrev pub key_in_scope : Func → s.Ids → (k : ℕ) → Rules
key_in_scope f ids k = if nat_lt k (length f.keys) then unless (has ids.keys k) rule.NAME_TAKEN else []

-- one more key, variable, token
abbrev pub more_key : (key : ℕ) → s.Ids → s.Ids
more_key k ids = record ids { keys = k ∷ ids.keys; keys_ever = k ∷ ids.keys_ever }

abbrev pub more_var : (v : ℕ) → s.Ids → s.Ids
more_var v ids = record ids { vars = v ∷ ids.vars; vars_ever = v ∷ ids.vars_ever }

abbrev pub more_bound : Tok → s.Ids → s.Ids
more_bound t ids = record ids { bound = ids.bound ++ t ∷ [] }

-- the tokens of a binding, the key's before the variable's
abbrev pub key_tok : Option ℕ → List Tok
key_tok None = []
key_tok (Some k) = a_key k ∷ []

-- with the token of a binding's key, then with that of its variable
abbrev pub with_key_tok : Option ℕ → s.Ids → s.Ids
with_key_tok fresh ids = record ids { bound = ids.bound ++ key_tok fresh }

abbrev pub with_var_tok : Func → (v : ℕ) → s.Ids → s.Ids
with_var_tok f v ids = record ids { bound = ids.bound ++ (if is_owning_var f v then a_var v ∷ [] else []) }
