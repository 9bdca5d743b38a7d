-- The core program of a tree, or what refuses it first: a rule at its place, or a limit.
use Rattle.std.specs.Prelude.{ℕ, ◌+◌, ◌==◌, nat_lt, Bool, true, false, not, ◌&&◌, if◌then◌else◌, List, [], ◌∷◌, ◌++◌, length, None, is_some, unwrap_or, Result, Ok, Err, codes}
use Rattle.std.specs.List.{position}
use Rattle.std.specs.Str.{bytes_eq}
use Rattle.vlt_base.specs.declared.limits.TheConstants.{VARIABLES, KEYS}
use Rattle.vlt_syntax.specs.Tree as s
use Rattle.vlt_syntax.specs.Tree.{Block, Decl, Tree}
use Rattle.vlt_core.specs.Core as core
use Rattle.vlt_core.specs.Core.{a_key, a_var, KeyDecl, VarDecl, Entry, Func, Program, Form}
use Rattle.vlt_core.specs.Lookups.{is_new}
use Rattle.vlt_core.specs.View.{stmts_made}
use Rattle.vlt_core.specs.declared.rules.TheConstants as rule
use Rattle.vlt_kinds_types.specs.declared.names.found.Refusal.{Refusal}
use Rattle.vlt_kinds_types.specs.Names.Refusals.{refuse_if, least}
use Rattle.vlt_kinds_types.specs.Kinds.{Kinds}
use Rattle.vlt_resolve_exprs.specs.declared.limits.TheConstants.{TOO_MANY_VARIABLES, TOO_MANY_KEYS}
use Rattle.vlt_resolve_exprs.specs.Scopes.{Scope, with_name}
use Rattle.vlt_elaboration.specs.Around.{Around}
use Rattle.vlt_elaboration.specs.Blocks.{block_ends, closing}
use Rattle.vlt_elaboration.specs.Walk.{then_do, unless_refused, walk_stmts}

-- ---- the scope that a body begins with

abbrev pub is_fresh_key : List Entry → ℕ → Bool
is_fresh_key [] k = false
is_fresh_key (e ∷ es) k = if (e.key == k) && is_new e then true else is_fresh_key es k

-- A `new` key isn't in scope.
abbrev pub with_key_names : List Entry → Scope → (first : ℕ) → List KeyDecl → Scope
with_key_names clause scope n [] = scope
with_key_names clause scope n (d ∷ ds) =
    with_key_names clause (if is_fresh_key clause n then scope else with_name scope d.name (a_key n)) (n + 1) ds

abbrev pub with_var_names : Scope → (first : ℕ) → List VarDecl → Scope
with_var_names scope n [] = scope
with_var_names scope n (d ∷ ds) = with_var_names (with_name scope d.name (a_var n)) (n + 1) ds

abbrev pub nameless_scope : Func → Scope
nameless_scope h = record { names = []; keys = h.keys; vars = h.vars; block_keys = []; block_vars = [] }

abbrev pub body_scope : Func → Scope
body_scope h = with_var_names (with_key_names h.clause (nameless_scope h) 0 h.keys) 0 h.vars

abbrev pub body_around : Func → Around
body_around h = record { result = h.result; clause = h.clause; in_loop = false; in_focus = false }

-- ---- functions

abbrev pub stmts_in : Block → s.Stmts
stmts_in (s.braced ss at) = ss

-- the keys and variables of a head, which stand before the body's
unfoldable pub head_refused : Func → ℕ → List Refusal
head_refused h at =
    refuse_if (nat_lt 256 (length h.keys)) TOO_MANY_KEYS at ++ refuse_if (nat_lt 256 (length h.vars)) TOO_MANY_VARIABLES at

unfoldable pub end_refused : Func → Block → List Refusal
end_refused h b = refuse_if (is_some h.result && not (block_ends b)) rule.NO_END (closing b)

-- A body that doesn't end has a last statement at its closing brace.
abbrev pub last_return : Block → List (ℕ × Form)
last_return b = if block_ends b then [] else (closing b, core.return None) ∷ []

abbrev pub func_made : Func → Block → List (ℕ × Form) × Scope → Func
func_made h b y = record h {
  keys = y.1.keys;
  vars = y.1.vars;
  body = stmts_made (y.0 ++ last_return b);
  end = closing b;
}

abbrev pub walk_body : Kinds → Func → Block → Result Func Refusal
walk_body kinds h b =
    then_do (walk_stmts kinds (body_around h) (body_scope h) false (stmts_in b)) (λ y.
    unless_refused (least (end_refused h b)) (Ok (func_made h b y)))

abbrev pub is_function : Decl → Bool
is_function (s.extern h at) = true
is_function (s.function h b at) = true
is_function _ = false

abbrev pub walk_defined : Kinds → Func → Block → ℕ → Result Func Refusal
walk_defined kinds h b at = unless_refused (least (head_refused h at)) (walk_body kinds h b)

abbrev pub walk_extern : Func → ℕ → Result Func Refusal
walk_extern h at = unless_refused (least (head_refused h at)) (Ok (record h { body = core.done }))

-- the function of a declaration, of which this is the head
abbrev pub walk_function : Kinds → Func → Decl → Result Func Refusal
walk_function kinds h (s.function d b at) = walk_defined kinds h b at.from
walk_function kinds h (s.extern d at) = walk_extern h at.from
walk_function kinds h _ = Ok (record h { body = core.done })

-- ---- the program

-- the functions in the order of the text, as their heads are
abbrev pub walk_decls : Kinds → List Func → List Decl → Result (List Func) Refusal
walk_decls kinds hs [] = Ok []
walk_decls kinds [] (d ∷ ds) = Ok []
walk_decls kinds (h ∷ hs) (d ∷ ds) =
    if is_function d
    then then_do (walk_function kinds h d) (λ f. then_do (walk_decls kinds hs ds) (λ fs. Ok (f ∷ fs)))
    else walk_decls kinds (h ∷ hs) ds

abbrev pub is_main : Func → Bool
is_main h = bytes_eq h.name (codes "main") && not h.external

-- where no function is main, the number past all of them
abbrev pub main_of : List Func → ℕ
main_of hs = unwrap_or (position is_main hs) (length hs)

abbrev pub walk_tree : Tree → Kinds → Result Program Refusal
walk_tree t kinds =
    then_do (walk_decls kinds kinds.heads t.decls) (λ fs.
    Ok (record { sets = kinds.file.sets; types = kinds.types; fns = fs; main = main_of kinds.heads }))

-- Why a tree has no core program: a rule and its place, or the number of a limit.
pub data Refused : Type 0 where
  broken : (rule at : ℕ) → Refused
  exceeded : (limit : ℕ) → Refused

abbrev pub refused_of : Refusal → Refused
refused_of r =
    if r.rule == TOO_MANY_VARIABLES then exceeded VARIABLES
    else if r.rule == TOO_MANY_KEYS then exceeded KEYS else broken r.rule r.at

abbrev pub or_refused : Result Program Refusal → Result Program Refused
or_refused (Ok p) = Ok p
or_refused (Err r) = Err (refused_of r)

-- The core program of a tree whose declarations are of these kinds, or the first refusal in the order of the text.
abbrev pub elaborated : Tree → Kinds → Result Program Refused
elaborated t kinds = or_refused (walk_tree t kinds)
