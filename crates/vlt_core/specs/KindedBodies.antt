-- Rules on numbers: statements with blocks, and the rows of a body.
use Rattle.std.specs.Prelude.{ℕ, nat_lt, ◌==◌, Bool, true, false, not, ◌&&◌, if◌then◌else◌, List, [], ◌∷◌, ◌++◌, length, map, filter, Option, Some, None, slice_get}
use Rattle.std.specs.List.{list_all, flat_map, range_with_len}
use Rattle.vlt_core.specs.Core.{Ty, bool, Tok, a_key, a_var, Form, simple, call, choose, loop, switch, focus, scope, return, jump, Block, block, Stmts, done, next, Arms, no_arms, arm, Func, Program}
use Rattle.vlt_core.specs.Lookups.{var_type, is_owning_var, cases_of}
use Rattle.vlt_core.specs.Maps.{is_tok}
use Rattle.vlt_core.specs.Rows.{in_order}
use Rattle.vlt_core.specs.Types.{decl_of, is_variant}
use Rattle.vlt_core.specs.KindedHeads.{Rules, unless, when_some, are_apart, keys_of_parameters, head_keys}
use Rattle.vlt_core.specs.declared.rules.TheConstants as rule
use Rattle.vlt_core.specs.KindedScopes.{Ids, Around, at_block_start, left_behind, with_key, with_var, own_key, use_broken, binding_broken}
use Rattle.vlt_core.specs.KindedOperands.{misfit, value_broken}
use Rattle.vlt_core.specs.KindedStatements.{tracked_type, variant_args, payload_types, case_broken, is_variant_type, wanted_of, is_guarded_type, is_tracked_type, objects_apart, guarded_object, simple_broken, ids_after}
use Rattle.vlt_core.specs.KindedCalls.{with_call_target, call_broken, return_broken}

-- ---- statements that end

-- nothing comes after the statement
abbrev mutual
  pub ends : Form → Bool
  ends (return value) = true
  ends (jump continues) = true
  ends (scope b) = block_ends b
  ends (choose e a b) = block_ends a && block_ends b
  ends (switch v arms end) = arms_end arms
  ends form = false

  pub block_ends : Block → Bool
  block_ends (block ss bound end) = list_ends false ss

  -- whether the last statement ends; `before` says it of the one before
  pub list_ends : (before : Bool) → Stmts → Bool
  list_ends before done = before
  list_ends before (next at s rest) = list_ends (ends s) rest

  pub arms_end : Arms → Bool
  arms_end no_arms = true
  arms_end (arm c vs b rest) = block_ends b && arms_end rest

-- ---- the rows of a body

abbrev pub token_broken : Func → Tok → Rules
token_broken f (a_key k) = unless (nat_lt k (length f.keys)) rule.UNKNOWN_NAME
token_broken f (a_var v) = unless (nat_lt v (length f.vars)) rule.UNKNOWN_NAME

abbrev pub same_toks : List Tok → List Tok → Bool
same_toks [] [] = true
same_toks (t ∷ ts) (u ∷ us) = is_tok t u && same_toks ts us
same_toks _ _ = false

-- what a block's list of tokens breaks: they are the function's, and those that its statements bound, keys first
abbrev pub tokens_broken : Func → (listed made : List Tok) → Rules
tokens_broken f listed made =
    flat_map (token_broken f) listed ++ unless (same_toks listed (in_order f made)) rule.NAME_TAKEN

-- the cases of a switch's arms are the variant's, each once
abbrev pub arm_cases : Arms → List ℕ
arm_cases no_arms = []
arm_cases (arm c vs b rest) = c ∷ arm_cases rest

abbrev pub switch_broken : Program → Func → Ids → (v : ℕ) → Arms → Rules
switch_broken p f ids v arms =
    use_broken f ids v ++ when_some (var_type f v) (λ ty. unless (is_variant_type ty) rule.WRONG_SWITCH) ++
    of_variant (variant_args (var_type f v))
  where
    covers : ℕ → Bool
    covers n = are_apart (arm_cases arms) && length (arm_cases arms) == n && list_all (λ c. nat_lt c n) (arm_cases arms)

    of_variant : Option (ℕ × List ℕ) → Rules
    of_variant None = []
    of_variant (Some o) = if is_variant (decl_of p o.0) then unless (covers (length (cases_of p o.0))) rule.WRONG_SWITCH else []

-- the owning ones of an arm's variables
abbrev pub owning_toks : Func → List ℕ → List Tok
owning_toks f vs = map a_var (filter (is_owning_var f) vs)

abbrev pub with_vars : Func → List ℕ → Ids → Ids
with_vars f [] ids = ids
with_vars f (v ∷ vs) ids = with_vars f vs (with_var f v ids)

abbrev pub arm_vars_broken : Func → Ids → (wanted : List Ty) → List ℕ → Rules
arm_vars_broken f ids ws [] = []
arm_vars_broken f ids [] (v ∷ vs) = binding_broken f ids None v ++ arm_vars_broken f (with_var f v ids) [] vs
arm_vars_broken f ids (w ∷ ws) (v ∷ vs) =
    misfit (Some w) (var_type f v) ++ binding_broken f ids None v ++ arm_vars_broken f (with_var f v ids) ws vs

abbrev pub arm_broken : Program → Func → Ids → (v case : ℕ) → List ℕ → Rules
arm_broken p f ids v c vs =
    case_broken p c (length vs) (variant_args (var_type f v)) ++
    arm_vars_broken f ids (payload_types p (variant_args (var_type f v)) c) vs

abbrev pub focus_broken : Program → Func → Ids → (y z : ℕ) → Rules
focus_broken p f ids y z =
    use_broken f ids y ++ wanted_of (var_type f y) is_guarded_type ++ wanted_of (var_type f z) is_tracked_type ++
    objects_apart (guarded_object (var_type f y)) (tracked_type (var_type f z)) ++
    binding_broken f ids (own_key f z) z

abbrev pub in_loop : Around → Around
in_loop around = record around { jumps = true }

abbrev pub in_focus : Around
in_focus = record { jumps = false; returns = false }

-- a focus binds its variable and its key, but in no block
abbrev pub with_focus : Func → (z : ℕ) → Ids → Ids
with_focus f z ids = with_var f z (with_key f (own_key f z) ids)

module _ (p : Program) (f : Func) where
  abbrev mutual
    -- what is in scope after a statement
    pub ids_following : Form → Ids → Ids
    ids_following (simple s) ids = ids_after f s ids
    ids_following (call g target keys args) ids = with_call_target f (slice_get p.fns g) target ids
    ids_following (choose e a b) ids = ids_following_block b (ids_following_block a ids)
    ids_following (loop e b) ids = ids_following_block b ids
    ids_following (switch v arms end) ids = ids_following_arms arms ids
    ids_following (focus y z b) ids = left_behind ids (ids_following_block b (with_focus f z ids))
    ids_following (scope b) ids = ids_following_block b ids
    ids_following (return value) ids = ids
    ids_following (jump continues) ids = ids

    pub ids_following_block : Block → Ids → Ids
    ids_following_block (block ss bound end) ids = left_behind ids (ids_following_stmts ss (at_block_start ids))

    pub ids_following_stmts : Stmts → Ids → Ids
    ids_following_stmts done ids = ids
    ids_following_stmts (next at s rest) ids = ids_following_stmts rest (ids_following s ids)

    pub ids_following_arms : Arms → Ids → Ids
    ids_following_arms no_arms ids = ids
    ids_following_arms (arm c vs b rest) ids = ids_following_arms rest (left_behind ids (ids_following_block b (with_vars f vs ids)))

  -- what a block's list breaks, which begins with the tokens `extra`
  abbrev pub list_broken : (extra : List Tok) → Ids → Block → Rules
  list_broken extra ids (block ss bound end) =
      tokens_broken f bound (extra ++ (ids_following_stmts ss (at_block_start ids)).bound)

  abbrev mutual
    pub arms_broken : Ids → (v : ℕ) → Arms → Rules
    arms_broken ids v no_arms = []
    arms_broken ids v (arm c vs b rest) =
        arm_broken p f ids v c vs ++
        list_broken (owning_toks f vs) (with_vars f vs ids) b ++
        arms_broken (left_behind ids (ids_following_block b (with_vars f vs ids))) v rest

  -- what a statement's own row breaks
  abbrev pub row_broken : Around → Ids → Form → Rules
  row_broken around ids (simple s) = simple_broken p f ids s
  row_broken around ids (call g target keys args) = call_broken p f ids (slice_get p.fns g) target keys args
  row_broken around ids (choose e a b) =
      value_broken p f ids (Some bool) e ++ list_broken [] ids a ++ list_broken [] (ids_following_block a ids) b
  row_broken around ids (loop e b) = value_broken p f ids (Some bool) e ++ list_broken [] ids b
  row_broken around ids (switch v arms end) = switch_broken p f ids v arms ++ arms_broken ids v arms
  row_broken around ids (focus y z b) = focus_broken p f ids y z ++ list_broken [] (with_focus f z ids) b
  row_broken around ids (scope b) = list_broken [] ids b
  row_broken around ids (return value) = unless around.returns rule.WRONG_JUMP ++ return_broken p f ids f.result value
  row_broken around ids (jump continues) = unless around.jumps rule.WRONG_JUMP

  -- the rows of statements, in preorder; `ended` says whether the statement before ends
  abbrev mutual
    pub form_rows : Around → Ids → Form → List Rules
    form_rows around ids (choose e a b) = block_rows around ids a ++ block_rows around (ids_following_block a ids) b
    form_rows around ids (loop e b) = block_rows (in_loop around) ids b
    form_rows around ids (switch v arms end) = arms_rows around ids arms
    form_rows around ids (focus y z b) = block_rows in_focus (with_focus f z ids) b
    form_rows around ids (scope b) = block_rows around ids b
    form_rows around ids form = []

    pub block_rows : Around → Ids → Block → List Rules
    block_rows around ids (block ss bound end) = stmts_rows around (at_block_start ids) false ss

    pub stmts_rows : Around → Ids → (ended : Bool) → Stmts → List Rules
    stmts_rows around ids ended done = []
    stmts_rows around ids ended (next at s rest) =
        (unless (not ended) rule.AFTER_END ++ row_broken around ids s) ∷
        form_rows around ids s ++
        stmts_rows around (ids_following s ids) (ends s) rest

    pub arms_rows : Around → Ids → Arms → List Rules
    arms_rows around ids no_arms = []
    arms_rows around ids (arm c vs b rest) =
        block_rows around (with_vars f vs ids) b ++
        arms_rows around (left_behind ids (ids_following_block b (with_vars f vs ids))) rest

  -- the parameters and the keys of their types are in scope where the body begins
  abbrev pub first_ids : Ids
  first_ids = record {
    vars = range_with_len 0 (if nat_lt f.params (length f.vars) then f.params else length f.vars);
    keys = keys_of_parameters f;
    vars_ever = range_with_len 0 (if nat_lt f.params (length f.vars) then f.params else length f.vars);
    keys_ever = head_keys f;
    bound = [];
  }

  abbrev pub body_rows : List Rules
  body_rows = if f.external then [] else stmts_rows (record { jumps = false; returns = true }) first_ids false f.body

  abbrev pub end_broken : Rules
  end_broken = if f.external then [] else unless (list_ends false f.body) rule.NO_END
