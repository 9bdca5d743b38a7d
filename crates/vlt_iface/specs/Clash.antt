-- Names of two modules that clash.
use Rattle.std.specs.Prelude.{Bool, List, [], ◌∷◌, ◌++◌, map, filter, Option, Some, None}
use Rattle.std.specs.List.{list_any, flat_map}
use Rattle.std.specs.Str.{bytes_eq}
use Rattle.vlt_syntax.specs.Tree as s
use Rattle.vlt_syntax.specs.Tree.{Name, Ty, Stmt, Block, If, Else, Stmts, Arms, Entry, ResultType, Head, Decl, Tree}
use Rattle.vlt_kinds_types.specs.Names.Globals.{decl_name}

-- ---- what a module binds

abbrev pub keys_in : Ty → List Name
keys_in (s.int at) = []
keys_in (s.bool at) = []
keys_in (s.tracked k n at) = k ∷ n.keys
keys_in (s.owning ss n at) = n.keys
keys_in (s.guarded k n) = k ∷ n.keys
keys_in (s.plain n) = n.keys

-- A key in scope that a declaration's type names was bound before.
abbrev pub key_bound : Ty → List Name
key_bound (s.tracked k n at) = k ∷ []
key_bound _ = []

abbrev mutual
  pub bound_names : Stmt → List Name
  bound_names (s.declare t x right at) = key_bound t ++ x ∷ []
  bound_names (s.block b) = block_bound b
  bound_names (s.choose i) = if_bound i
  bound_names (s.loop e b at) = block_bound b
  bound_names (s.switch x arms at) = arms_bound arms
  bound_names (s.open_into x vs at) = vs
  bound_names (s.focus y k z b at) = k ∷ z ∷ block_bound b
  bound_names _ = []

  pub block_bound : Block → List Name
  block_bound (s.braced ss at) = stmts_bound ss

  pub if_bound : If → List Name
  if_bound (s.choice e b other at) = block_bound b ++ else_bound other

  pub else_bound : Else → List Name
  else_bound s.nothing = []
  else_bound (s.last b) = block_bound b
  else_bound (s.chained i) = if_bound i

  pub stmts_bound : Stmts → List Name
  stmts_bound s.done = []
  stmts_bound (s.next x xs) = bound_names x ++ stmts_bound xs

  pub arms_bound : Arms → List Name
  arms_bound s.no_arms = []
  arms_bound (s.arm tick vs b at rest) = vs ++ (block_bound b ++ arms_bound rest)

abbrev pub entry_key : Entry → Name
entry_key (s.held k) = k.key
entry_key (s.changed k before after) = k
entry_key (s.bound k v b) = k
entry_key (s.taken k at) = k.key
entry_key (s.given k at) = k.key
entry_key (s.fresh k at) = k.key

-- the state variable of a bound entry
abbrev pub entry_variables : Entry → List Name
entry_variables (s.bound k v b) = v ∷ []
entry_variables _ = []

abbrev pub result_keys : ResultType → List Name
result_keys (s.void at) = []
result_keys (s.value t) = keys_in t

abbrev pub clause_names : Option (List Entry) → List Name
clause_names None = []
clause_names (Some es) = map entry_key es ++ flat_map entry_variables es

abbrev pub head_bound : Head → List Name
head_bound h =
    result_keys h.result_type ++
    (flat_map (λ p. keys_in p.ty ++ p.name ∷ []) h.parameters ++ clause_names h.clause)

abbrev pub decl_bound : Decl → List Name
decl_bound (s.struct n ps ss fs r at) = map (λ p. p.key) ps
decl_bound (s.variant n ps cs at) = map (λ p. p.key) ps
decl_bound (s.extern h at) = head_bound h
decl_bound (s.function h b at) = head_bound h ++ block_bound b
decl_bound _ = []

-- ---- clashes

abbrev pub is_among : List Name → Name → Bool
is_among ns n = list_any (λ k. bytes_eq n.text k.text) ns

abbrev pub globals_in : Tree → List Name
globals_in t = map decl_name t.decls

abbrev pub names_in : Tree → List Name
names_in t = globals_in t ++ flat_map decl_bound t.decls

-- the names that one declares and the other declares or binds
abbrev pub clashing : Tree → Tree → List Name
clashing f g =
    filter (is_among (names_in g)) (globals_in f) ++ filter (is_among (names_in f)) (globals_in g)
