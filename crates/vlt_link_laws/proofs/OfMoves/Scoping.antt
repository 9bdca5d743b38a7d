-- A scope whose types stand at other numbers.
use Rattle.std.proofs.Common.{◌≡◌, ℕ, Bool, if◌then◌else◌, List, [], ◌∷◌, ◌++◌, map, Option, Some, None, slice_get, option_map, refl, sym, ap, ap₂, ◌∙◌}
use Rattle.std.proofs.lemmas.Option.{slice_get-map}
use Rattle.std.proofs.lemmas.List.{length-map, map-append}
use Rattle.vlt_core.specs.Core as core
use Rattle.vlt_core.specs.Core.{Ty, a_key, a_var}
use Rattle.vlt_link_laws.specs.CoreMoves.Moves.{Moves, moved_ty, moved_key, moved_var}
use Rattle.vlt_link_laws.proofs.OfCoreMoves.Looks.{same_owner}
use Rattle.vlt_resolve_exprs.specs.Types.{then_with}
use Rattle.vlt_resolve_exprs.specs.Scopes.{Scope, var_named, key_named, ty_in, var_ty, object_type_in, key_type, more_key, more_var, with_name, with_key, with_var}
use Rattle.vlt_link_laws.specs.Moves.Sees.{moved_scope}

module _ (m : Moves) where
  pub same_var : (s : Scope) (n : List ℕ) → var_named (moved_scope m s) n ≡ var_named s n
  unfolding var_named
  same_var s n = refl

  pub same_key : (s : Scope) (n : List ℕ) → key_named (moved_scope m s) n ≡ key_named s n
  unfolding key_named
  same_key s n = refl

  pub ty_moves : (s : Scope) (n : List ℕ) → var_ty (moved_scope m s) n ≡ option_map (moved_ty m) (var_ty s n)
  unfolding var_ty
  ty_moves s n = ap (λ o. then_with o (λ v. ty_in (slice_get (map (moved_var m) s.vars) v))) (same_var s n) ∙ by (var_named s n)
    where
      decl : (o : Option core.VarDecl) → ty_in (option_map (moved_var m) o) ≡ option_map (moved_ty m) (ty_in o)
      decl None = refl
      decl (Some d) = refl

      by : (o : Option ℕ) → then_with o (λ v. ty_in (slice_get (map (moved_var m) s.vars) v)) ≡ option_map (moved_ty m) (then_with o (λ v. ty_in (slice_get s.vars v)))
      by None = refl
      by (Some v) = ap ty_in (slice_get-map (moved_var m) s.vars v) ∙ decl (slice_get s.vars v)

  pub key_type_moves : (s : Scope) (k : ℕ) → key_type (moved_scope m s) k ≡ option_map m.types (key_type s k)
  unfolding key_type
  key_type_moves s k = ap object_type_in (slice_get-map (moved_key m) s.keys k) ∙ by (slice_get s.keys k)
    where
      by : (o : Option core.KeyDecl) → object_type_in (option_map (moved_key m) o) ≡ option_map m.types (object_type_in o)
      by None = refl
      by (Some d) = refl

  -- ---- what is bound

  pub more_key_moves : (s : Scope) (n : List ℕ) (t : Option ℕ) → moved_scope m (more_key s n t) ≡ more_key (moved_scope m s) n (option_map m.types t)
  more_key_moves s n t =
      ap₂ (λ (ks : List core.KeyDecl) (l : ℕ). let r : Scope = record { names = s.names; keys = ks; vars = map (moved_var m) s.vars; block_keys = s.block_keys ++ l ∷ []; block_vars = s.block_vars } in r)
      (map-append (moved_key m) s.keys (record { name = n; key_type = t } ∷ [])) (sym (length-map s.keys (moved_key m)))

  pub more_var_moves : (s : Scope) (n : List ℕ) (ty : Ty) → moved_scope m (more_var s n ty) ≡ more_var (moved_scope m s) n (moved_ty m ty)
  more_var_moves s n ty =
      ap₂ (λ (vs : List core.VarDecl) (x : ℕ × Bool). let r : Scope = record { names = s.names; keys = map (moved_key m) s.keys; vars = vs; block_keys = s.block_keys; block_vars = if x.1 then s.block_vars ++ x.0 ∷ [] else s.block_vars } in r)
      (map-append (moved_var m) s.vars (record { name = n; ty = ty } ∷ []))
      (ap₂ (λ (l : ℕ) (o : Bool). (l, o)) (sym (length-map s.vars (moved_var m))) (sym (same_owner m ty)))

  pub with_key_moves : (s : Scope) (n : List ℕ) (t : Option ℕ) → moved_scope m (with_key s n t) ≡ with_key (moved_scope m s) n (option_map m.types t)
  with_key_moves s n t =
      ap₂ (λ (x : Scope) (l : ℕ). with_name x n (a_key l)) (more_key_moves s n t) (sym (length-map s.keys (moved_key m)))

  pub with_var_moves : (s : Scope) (n : List ℕ) (ty : Ty) → moved_scope m (with_var s n ty) ≡ with_var (moved_scope m s) n (moved_ty m ty)
  with_var_moves s n ty =
      ap₂ (λ (x : Scope) (l : ℕ). with_name x n (a_var l)) (more_var_moves s n ty) (sym (length-map s.vars (moved_var m)))
