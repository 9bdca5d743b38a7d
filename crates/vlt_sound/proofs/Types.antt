-- What a type says that breaks no rule.
use Rattle.std.proofs.Common.{◌≡◌, ℕ, zero, suc, ◌==◌, Bool, true, false, ◌&&◌, not, if◌then◌else◌, List, [], ◌∷◌, ◌++◌, length, Option, Some, None, refl, sym, ap, ◌∙◌, subst, slice_get}
use Rattle.std.proofs.lemmas.Bool.{eqb-true}
use Rattle.std.proofs.lemmas.Option.{none-some, same_Some}
use Rattle.std.specs.List.{flat_map}
use Rattle.vlt_core.specs.Core.{Ty, int, bool, tracked, owning, guarded, variant, owning_variant, TypeDecl, Header, Program}
use Rattle.vlt_core.specs.Types.{decl_of, is_variant, header_of, is_owning_type, args_of, keys_of_ty, type_in}
use Rattle.vlt_core.specs.KindedHeads.{Rules, unless, when_some, shape_broken, ty_broken}
use Rattle.vlt_core.specs.KindedStatements.{variant_args}
use Rattle.vlt_core.specs.declared.rules.TheConstants as rule
use Rattle.vlt_sound_worlds.specs.Members.{In}
use Rattle.vlt_sound_worlds.specs.Fits.{option_join, header_type}
use Rattle.vlt_sound_worlds.specs.Typed.{IsDeclared}
use Rattle.vlt_sound_worlds.proofs.Empty.{both_empty, both_so, unless_so}
use Rattle.vlt_sound_worlds.proofs.Expressions.{not_so}
use Rattle.vlt_sound.proofs.Rows.{flat_in}

-- what the arguments break, by what each of them breaks
abbrev args_broken : (arg_broken : (key type : ℕ) → Rules) → List ℕ → Header → Rules
args_broken arg_broken (k ∷ ks) (h ∷ hs) = when_some h (arg_broken k) ++ args_broken arg_broken ks hs
args_broken arg_broken _ _ = []

-- and what a declared type does
abbrev declared_broken : Program → (arg_broken : (key type : ℕ) → Rules) → Ty → ℕ → Option TypeDecl → Rules
declared_broken p arg_broken ty t None = rule.NOT_A_TYPE ∷ []
declared_broken p arg_broken ty t (Some d) =
    unless (length (args_of ty) == length (header_of p t)) rule.KEY_COUNT ++ shape_broken p ty ++
    args_broken arg_broken (args_of ty) (header_of p t)

args_at : (arg_broken : (key type : ℕ) → Rules) (ks : List ℕ) (hs : Header) → args_broken arg_broken ks hs ≡ [] →
    (i k u : ℕ) → slice_get ks i ≡ Some k → slice_get hs i ≡ Some (Some u) → arg_broken k u ≡ []
args_at arg_broken [] hs e i k u at head = absurd (none-some k at)
args_at arg_broken (j ∷ ks) [] e i k u at head = absurd (none-some (Some u) head)
args_at arg_broken (j ∷ ks) (h ∷ hs) e zero k u at head =
    let one = (both_empty (when_some h (arg_broken j)) (args_broken arg_broken ks hs) e).0 in
    let h_is : h ≡ Some u = same_Some h (Some u) head in
    ap (λ k. arg_broken k u) (sym (same_Some j k at)) ∙ subst (λ h. when_some h (arg_broken j) ≡ []) h_is one
args_at arg_broken (j ∷ ks) (h ∷ hs) e (suc i) k u at head =
    args_at arg_broken ks hs (both_empty (when_some h (arg_broken j)) (args_broken arg_broken ks hs) e).1 i k u at head

pub record TyKinded (p : Program) (key_broken : ℕ → Rules) (arg_broken : (key type : ℕ) → Rules)
    (ty : Ty) : Type 0 where
  pub keys : (k : ℕ) → In k (keys_of_ty ty) → key_broken k ≡ []
  pub declared : (t : ℕ) → type_in ty ≡ Some t → IsDeclared p t (args_of ty)
  pub shape : (t : ℕ) → type_in ty ≡ Some t → shape_broken p ty ≡ []
  pub args : (t i k u : ℕ) → type_in ty ≡ Some t → slice_get (args_of ty) i ≡ Some k → header_type p t i ≡ Some u →
      arg_broken k u ≡ []

joined_some : (o : Option (Option ℕ)) (u : ℕ) → option_join o ≡ Some u → o ≡ Some (Some u)
joined_some None u e = absurd (none-some u e)
joined_some (Some None) u e = absurd (none-some u e)
joined_some (Some (Some t)) u e = ap (λ t. Some t) e

pub ty_kinded : (p : Program) (key_broken : ℕ → Rules) (arg_broken : (key type : ℕ) → Rules) (ty : Ty) →
    ty_broken p key_broken arg_broken ty ≡ [] → TyKinded p key_broken arg_broken ty
ty_kinded p key_broken arg_broken ty e = record {
  keys = λ k i. flat_in key_broken (keys_of_ty ty) k both.0 i;
  declared = λ t is. (facts t is).0;
  shape = λ t is. (facts t is).1;
  args = λ t i k u is at head. (facts t is).2 i k u at (joined_some (slice_get (header_of p t) i) u head);
}
  where
    both : (flat_map key_broken (keys_of_ty ty) ≡ []) ×
        (when_some (type_in ty) (λ t. declared_broken p arg_broken ty t (decl_of p t)) ≡ [])
    both = both_empty (flat_map key_broken (keys_of_ty ty)) _ e

    facts : (t : ℕ) → type_in ty ≡ Some t → IsDeclared p t (args_of ty) × (shape_broken p ty ≡ []) ×
        ((i k u : ℕ) → slice_get (args_of ty) i ≡ Some k → slice_get (header_of p t) i ≡ Some (Some u) → arg_broken k u ≡ [])
    facts t is =
        by (decl_of p t) refl
        (subst (λ o. when_some o (λ t. declared_broken p arg_broken ty t (decl_of p t)) ≡ []) is both.1)
      where
        by : (o : Option TypeDecl) → decl_of p t ≡ o → declared_broken p arg_broken ty t o ≡ [] →
            IsDeclared p t (args_of ty) × (shape_broken p ty ≡ []) ×
            ((i k u : ℕ) → slice_get (args_of ty) i ≡ Some k → slice_get (header_of p t) i ≡ Some (Some u) → arg_broken k u ≡ [])
        by None at e = cc
        by (Some d) at e =
            let A = unless (length (args_of ty) == length (header_of p t)) rule.KEY_COUNT in
            let two = both_empty (A ++ shape_broken p ty) (args_broken arg_broken (args_of ty) (header_of p t)) e in
            let one = both_empty A (shape_broken p ty) two.0 in (
              record {
                decl = d;
                is = at;
                count = eqb-true (length (args_of ty)) (length (header_of p t))
                    (unless_so (length (args_of ty) == length (header_of p t)) rule.KEY_COUNT one.0);
              },
              one.1,
              args_at arg_broken (args_of ty) (header_of p t) two.1,
            )

-- ---- variants

-- a variant that is copied is one, and owns nothing
pub variant_plain : (p : Program) (t : ℕ) (args : List ℕ) → shape_broken p (variant t args) ≡ [] →
    (is_variant (decl_of p t) ≡ true) × (is_owning_type p t ≡ false)
variant_plain p t args e = by (is_variant (decl_of p t)) e
  where
    by : (b : Bool) →
        (unless b rule.BARE_OBJECT ++ (if b then unless (not (is_owning_type p t)) rule.WRONG_OWNERSHIP else [])) ≡ [] →
        (b ≡ true) × (is_owning_type p t ≡ false)
    by true e = (refl, not_so (is_owning_type p t) (unless_so (not (is_owning_type p t)) rule.WRONG_OWNERSHIP e))
    by false e = cc

-- a type of a variant is of a declared one
pub variant_declared : (p : Program) (ty : Ty) (t : ℕ) (args : List ℕ) → shape_broken p ty ≡ [] →
    variant_args (Some ty) ≡ Some (t, args) → is_variant (decl_of p t) ≡ true
variant_declared p (variant u others) t args e is =
    subst (λ t. is_variant (decl_of p t) ≡ true) (ap (λ o. o.0) (same_Some (u, others) (t, args) is)) (variant_plain p u others e).0
variant_declared p (owning_variant u others) t args e is =
    subst (λ t. is_variant (decl_of p t) ≡ true) (ap (λ o. o.0) (same_Some (u, others) (t, args) is))
    (both_so (is_variant (decl_of p u)) (is_owning_type p u)
    (unless_so (is_variant (decl_of p u) && is_owning_type p u) rule.WRONG_OWNERSHIP e)).0
variant_declared p int t args e is = absurd (none-some (t, args) is)
variant_declared p bool t args e is = absurd (none-some (t, args) is)
variant_declared p (tracked k u others) t args e is = absurd (none-some (t, args) is)
variant_declared p (owning S u others) t args e is = absurd (none-some (t, args) is)
variant_declared p (guarded k u others) t args e is = absurd (none-some (t, args) is)

pub variant_type : (ty : Ty) (t : ℕ) (args : List ℕ) → variant_args (Some ty) ≡ Some (t, args) → type_in ty ≡ Some t
variant_type (variant u others) t args is = ap (λ o. Some o.0) (same_Some (u, others) (t, args) is)
variant_type (owning_variant u others) t args is = ap (λ o. Some o.0) (same_Some (u, others) (t, args) is)
variant_type int t args is = absurd (none-some (t, args) is)
variant_type bool t args is = absurd (none-some (t, args) is)
variant_type (tracked k u others) t args is = absurd (none-some (t, args) is)
variant_type (owning S u others) t args is = absurd (none-some (t, args) is)
variant_type (guarded k u others) t args is = absurd (none-some (t, args) is)
