-- What the rules on types say of a declared type.
use Rattle.std.proofs.Common.{◌≡◌, ℕ, nat_lt, true, ◌&&◌, ◌==◌, List, [], ◌∷◌, ◌++◌, length, Option, Some, None, refl, subst}
use Rattle.std.specs.List.{flat_map}
use Rattle.vlt_core.specs.Core.{Ty, variant, owning_variant, TypeDecl, Header, Func, Program}
use Rattle.vlt_core.specs.Types.{decl_of, is_variant, is_owning_type, header_of, args_of, type_in, keys_of_ty}
use Rattle.vlt_core.specs.KindedHeads.{Rules, unless, when_some, own_typings, shape_broken, argument_broken, reference_broken, ty_broken, type_broken}
use Rattle.vlt_core.specs.declared.rules.TheConstants as rule
use Rattle.vlt_core_laws.proofs.Unbroken.{filled_not_empty, left_empty, right_empty, unless_holds}
use Rattle.std.proofs.lemmas.Bool.{and_parts}

pub when_at : {A : Type 0} (o : Option A) (go : A → Rules) (x : A) → o ≡ Some x → when_some o go ≡ [] → go x ≡ []
when_at o go x is e = subst (λ o. when_some o go ≡ []) is e

-- `ty_broken` by its clauses
module _ (p : Program) (key_broken : ℕ → Rules) (arg_broken : (key type : ℕ) → Rules) where
  abbrev args_part : List ℕ → Header → Rules
  args_part (k ∷ ks) (h ∷ hs) = when_some h (arg_broken k) ++ args_part ks hs
  args_part _ _ = []

  abbrev declared_part : Ty → ℕ → Option TypeDecl → Rules
  declared_part ty t None = rule.NOT_A_TYPE ∷ []
  declared_part ty t (Some d) =
      unless (length (args_of ty) == length (header_of p t)) rule.KEY_COUNT ++
      shape_broken p ty ++
      args_part (args_of ty) (header_of p t)

  part_of : (ty : Ty) (t : ℕ) → type_in ty ≡ Some t → ty_broken p key_broken arg_broken ty ≡ [] → declared_part ty t (decl_of p t) ≡ []
  part_of ty t is e = when_at (type_in ty) (λ t. declared_part ty t (decl_of p t)) t is (right_empty (flat_map key_broken (keys_of_ty ty)) _ e)

  pub declared : (ty : Ty) (t : ℕ) → type_in ty ≡ Some t → ty_broken p key_broken arg_broken ty ≡ [] → (d : TypeDecl) × (decl_of p t ≡ Some d)
  declared ty t is e = by (decl_of p t) refl (part_of ty t is e)
    where
      by : (o : Option TypeDecl) → decl_of p t ≡ o → declared_part ty t o ≡ [] → (d : TypeDecl) × (decl_of p t ≡ Some d)
      by None at e = absurd (filled_not_empty rule.NOT_A_TYPE [] e)
      by (Some d) at e = (d, at)

  pub shape_fits : (ty : Ty) (t : ℕ) → type_in ty ≡ Some t → ty_broken p key_broken arg_broken ty ≡ [] → shape_broken p ty ≡ []
  shape_fits ty t is e = by (decl_of p t) (part_of ty t is e)
    where
      by : (o : Option TypeDecl) → declared_part ty t o ≡ [] → shape_broken p ty ≡ []
      by None e = absurd (filled_not_empty rule.NOT_A_TYPE [] e)
      by (Some d) e = right_empty (unless (length (args_of ty) == length (header_of p t)) rule.KEY_COUNT) (shape_broken p ty) (left_empty _ (args_part (args_of ty) (header_of p t)) e)

-- ---- in a function

module _ (p : Program) (f : Func) where
  abbrev pub key_rule : ℕ → Rules
  key_rule k = unless (nat_lt k (length f.keys)) rule.UNKNOWN_NAME

  pub there_type : (ty : Ty) → type_broken p f ty ≡ [] → ty_broken p key_rule (argument_broken p f) ty ≡ []
  there_type ty e = left_empty (ty_broken p key_rule (argument_broken p f) ty) (flat_map (reference_broken p f) (own_typings ty)) e

  pub variant_type : (t : ℕ) (args : List ℕ) → type_broken p f (variant t args) ≡ [] → is_variant (decl_of p t) ≡ true
  variant_type t args e =
      unless_holds (is_variant (decl_of p t)) rule.BARE_OBJECT
      (left_empty (unless (is_variant (decl_of p t)) rule.BARE_OBJECT) _ (shape_fits p key_rule (argument_broken p f) (variant t args) t refl (there_type (variant t args) e)))

  pub owning_type : (t : ℕ) (args : List ℕ) → type_broken p f (owning_variant t args) ≡ [] → is_variant (decl_of p t) ≡ true
  owning_type t args e =
      (and_parts (is_variant (decl_of p t)) (is_owning_type p t) (unless_holds (is_variant (decl_of p t) && is_owning_type p t) rule.WRONG_OWNERSHIP
      (shape_fits p key_rule (argument_broken p f) (owning_variant t args) t refl (there_type (owning_variant t args) e)))).0
