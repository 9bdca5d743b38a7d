-- Types that are right break nothing.
use Rattle.std.proofs.Common.{◌≡◌, ℕ, List, [], ◌∷◌, ◌++◌, Option, Some, None, refl}
use Rattle.vlt_syntax.specs.Lists.{Each}
use Rattle.vlt_core.specs.Core.{Ty, Header, Program}
use Rattle.vlt_core.specs.Types.{header_of, args_of, keys_of_ty, type_in}
use Rattle.vlt_core.specs.KindedHeads.{Rules, when_some, ty_broken, arg_typings}
use Rattle.vlt_core.specs.declared.rules.TheConstants as rule
use Rattle.vlt_resolve_laws.specs.KindsLaws.Shapes.{IsDeclaredIn, IsWell}
use Rattle.vlt_resolve_laws.proofs.OfKindsLaws.Empty.{none_of_both, none_of_each, holds}

-- what the arguments break, by what each of them breaks
abbrev args_broken : (broken : (key type : ℕ) → Rules) → List ℕ → Header → Rules
args_broken broken (k ∷ ks) (h ∷ hs) = when_some h (broken k) ++ args_broken broken ks hs
args_broken broken _ _ = []

args_unbroken : (broken : (key type : ℕ) → Rules) (ks : List ℕ) (hs : Header) → Each (λ x. broken x.key x.type ≡ []) (arg_typings ks hs)
    → args_broken broken ks hs ≡ []
args_unbroken broken [] hs each = refl
args_unbroken broken (k ∷ ks) [] each = refl
args_unbroken broken (k ∷ ks) (None ∷ hs) each = args_unbroken broken ks hs each
args_unbroken broken (k ∷ ks) (Some t ∷ hs) each =
    none_of_both (broken k t) (args_broken broken ks hs) each.0 (args_unbroken broken ks hs each.1)

-- each key that stands for a header's key of a type breaks nothing
abbrev pub TypingsIn : (broken : (key type : ℕ) → Rules) → Program → Option ℕ → List ℕ → Type 0
TypingsIn broken p None args = Unit {0}
TypingsIn broken p (Some t) args = Each (λ x. broken x.key x.type ≡ []) (arg_typings args (header_of p t))

pub ty_unbroken : (p : Program) (key_broken : ℕ → Rules) (broken : (key type : ℕ) → Rules) (ty : Ty) → IsWell p ty
    → Each (λ k. key_broken k ≡ []) (keys_of_ty ty) → TypingsIn broken p (type_in ty) (args_of ty) → ty_broken p key_broken broken ty ≡ []
ty_unbroken p key_broken broken ty well keys typings = by (type_in ty) refl well.declared typings
  where
    by : (o : Option ℕ) → type_in ty ≡ o → IsDeclaredIn p o (args_of ty) → TypingsIn broken p o (args_of ty) → ty_broken p key_broken broken ty ≡ []
    by None is declared typings = rw is (none_of_both _ _ (none_of_each key_broken (keys_of_ty ty) keys) refl)
    by (Some t) is declared typings =
        rw (is, declared.1)
        (none_of_both _ _ (none_of_each key_broken (keys_of_ty ty) keys)
        (none_of_both _ _ (none_of_both _ _ (holds _ rule.KEY_COUNT declared.2) well.shape)
        (args_unbroken broken (args_of ty) (header_of p t) typings)))
