-- What the code knows where a statement stands, as plain data.
use Rattle.std.specs.Prelude.{ℕ, List, [], ◌∷◌, map, take}
use Rattle.std.specs.Borrow.{Bor}
use Rattle.vlt_core.specs.Core as core
use Rattle.vlt_core.specs.View.{key_of, var_of, tok_of, keys_of, vars_of, ty_of, form_of}
use Rattle.vlt_core.specs.declared.held.Tok.{Tok}
use Rattle.vlt_resolve_exprs.specs.Scopes as s
use Rattle.vlt_resolve_exprs.specs.declared.scope.Scope.{Scope}
use Rattle.vlt_resolve_exprs.specs.declared.scope.Outer.{Outer}
use Rattle.vlt_resolve_exprs.specs.declared.exprs.Object.{Object}
use Rattle.vlt_resolve_exprs.specs.Exprs as e
use Rattle.vlt_resolve_exprs.specs.Targets as t
use Rattle.vlt_resolve_exprs.specs.declared.targets.Target.{Target}
use Rattle.vlt_resolve_exprs.specs.declared.forms.Forms.{Forms}
use Rattle.vlt_resolve_exprs.specs.declared.forms.Forms.TheVariants as forms

abbrev pub names_seen : List (Bor (List ℕ) × Tok) → List (List ℕ × core.Tok)
names_seen = map (λ e. (e.0.now, tok_of e.1))

abbrev pub scope_seen : Scope → s.Scope
scope_seen x = record {
  names = names_seen x.names.entries;
  keys = map key_of x.keys;
  vars = map var_of x.vars;
  block_keys = keys_of x.block_keys;
  block_vars = vars_of x.block_vars;
}

-- the scope after a block that covered this
abbrev pub left_with : Outer → s.Scope → s.Scope
left_with o last = record {
  names = take o.names last.names;
  keys = last.keys;
  vars = last.vars;
  block_keys = keys_of o.block_keys;
  block_vars = vars_of o.block_vars;
}

abbrev pub object_seen : Object → e.Object
object_seen o = record { guarded = o.guarded; type = o.type_id.0; args = keys_of o.args.now }

abbrev pub target_seen : Target → t.Target
target_seen x = record { ty = ty_of x.ty; binds = x.binds }

abbrev pub forms_of : Forms → List core.Form
forms_of forms.Nothing = []
forms_of (forms.One form) = form_of form ∷ []
forms_of (forms.Two first second) = form_of first ∷ form_of second ∷ []
