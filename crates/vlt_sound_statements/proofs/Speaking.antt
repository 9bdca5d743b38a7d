-- The types of operands that break no rule speak of no other keys than the types of variables in scope.
use Rattle.std.proofs.Common.{◌≡◌, inl, inr, ℕ, zero, suc, ◌==◌, ◌<◌, Bool, true, false, if◌then◌else◌, List, [], ◌∷◌, map, length, Option, Some, None, refl, sym, ap, ◌∙◌, subst, arith}
use Rattle.std.proofs.lemmas.Option.{same_Some}
use Rattle.vlt_ops.specs.Operator.{row_of}
use Rattle.vlt_core.specs.Core.{Ty, int, bool, tracked, owning, guarded, variant, owning_variant, Expr, number, truth, var, field, unary, binary, Operand, pure, move, pack, Func, Program}
use Rattle.vlt_core.specs.Lookups.{var_type, is_owning}
use Rattle.vlt_core.specs.Types.{same_ty, same_object, same_keys, lies_within, keys_of_ty, args_of, type_in, with_keys, stands_for, header_of}
use Rattle.vlt_core.specs.declared.rules.TheConstants as rule
use Rattle.vlt_core.specs.KindedScopes.{Ids, use_broken}
use Rattle.vlt_core.specs.KindedOperands.{misfit, object_in, field_decl, field_type_in, field_type, unless_owning, given_by, type_of_expr, touch_broken, not_owning_broken, expr_broken, fits_owning, move_broken, pack_broken, operand_broken, operands_broken}
use Rattle.vlt_meaning.specs.World.{Value}
use Rattle.vlt_sound_worlds.specs.Members.{In}
use Rattle.vlt_sound_worlds.specs.Agrees.{InScope}
use Rattle.vlt_sound_worlds.specs.Typed.{IsTyped}
use Rattle.vlt_sound_worlds.proofs.Empty.{both_empty, both_so, unless_so}
use Rattle.vlt_sound_worlds.proofs.Touch.{Used, used}
use Rattle.vlt_sound_worlds.proofs.Expressions.{field_at, not_owning}
use Rattle.vlt_sound_worlds.proofs.Plain.{keys_same, same_plain}
use Rattle.vlt_sound_worlds.specs.Scoped.{IsKeyInScope, AreKeysInScope}
use Rattle.vlt_sound_worlds.proofs.TypeFacts.{move_facts, pack_facts, packed_tracked}
use Rattle.vlt_sound_worlds.specs.Handed.{handed_values}

-- ---- keys of types

-- what stands for the keys of a list stands in the list of those that do
stands_in : (args : List ℕ) (k : ℕ) → k < length args → In (stands_for args k) args
stands_in [] k lt = absurd (omega arith)
stands_in (a ∷ args) zero lt = inl refl
stands_in (a ∷ args) (suc k) lt = inr (stands_in args k (omega arith))

all_stand : (args ks : List ℕ) → ((k : ℕ) → In k ks → k < length args) → (k : ℕ) →
    In k (map (stands_for args) ks) → In k args
all_stand args [] within k i = absurd i
all_stand args (j ∷ ks) within k (inl e) = subst (λ k. In k args) (sym e) (stands_in args j (within j (inl refl)))
all_stand args (j ∷ ks) within k (inr i) = all_stand args ks (λ m l. within m (inr l)) k i

keys_after : (args : List ℕ) (ty : Ty) → keys_of_ty (with_keys args ty) ≡ map (stands_for args) (keys_of_ty ty)
keys_after args int = refl
keys_after args bool = refl
keys_after args (tracked k t others) = refl
keys_after args (owning S t others) = refl
keys_after args (guarded k t others) = refl
keys_after args (variant t others) = refl
keys_after args (owning_variant t others) = refl

-- the arguments of a reference's object are keys of its type
object_keys : (ty : Ty) (t : ℕ) (args : List ℕ) → object_in (Some ty) ≡ Some (t, args) → (k : ℕ) → In k args →
    In k (keys_of_ty ty)
object_keys (tracked j u others) t args e k i = inr (subst (In k) (sym (arguments others args e)) i)
  where
    arguments : (others args : List ℕ) → ◌≡◌ {A = Option (ℕ × List ℕ)} (Some (u, others)) (Some (t, args)) → others ≡ args
    arguments others args e = ap (λ o. o.1) (same_Some (u, others) (t, args) e)
object_keys (guarded j u others) t args e k i = inr (subst (In k) (sym (arguments others args e)) i)
  where
    arguments : (others args : List ℕ) → ◌≡◌ {A = Option (ℕ × List ℕ)} (Some (u, others)) (Some (t, args)) → others ≡ args
    arguments others args e = ap (λ o. o.1) (same_Some (u, others) (t, args) e)
object_keys int t args e k i = cc
object_keys bool t args e k i = cc
object_keys (owning S u others) t args e k i = cc
object_keys (variant u others) t args e k i = cc
object_keys (owning_variant u others) t args e k i = cc

-- an owning value is taken by a type with the same keys
wide_keys : (w t : Ty) → is_owning t ≡ true → fits_owning w t ≡ true → keys_of_ty w ≡ keys_of_ty t
wide_keys (owning b u others) (owning a t args) o e =
    let both = both_so (same_object t args u others) (lies_within a b) e in
    sym (keys_same args others (both_so (t == u) (same_keys args others) both.0).1)
wide_keys (owning_variant u others) (owning_variant t args) o e =
    keys_same others args (both_so (u == t) (same_keys others args) e).1
wide_keys int (owning a t args) o e = cc
wide_keys bool (owning a t args) o e = cc
wide_keys (tracked k u others) (owning a t args) o e = cc
wide_keys (guarded k u others) (owning a t args) o e = cc
wide_keys (variant u others) (owning a t args) o e = cc
wide_keys (owning_variant u others) (owning a t args) o e = cc
wide_keys int (owning_variant t args) o e = cc
wide_keys bool (owning_variant t args) o e = cc
wide_keys (tracked k u others) (owning_variant t args) o e = cc
wide_keys (guarded k u others) (owning_variant t args) o e = cc
wide_keys (variant u others) (owning_variant t args) o e = cc
wide_keys (owning b u others) (owning_variant t args) o e = cc
wide_keys w int o e = cc
wide_keys w bool o e = cc
wide_keys w (tracked k t args) o e = cc
wide_keys w (guarded k t args) o e = cc
wide_keys w (variant t args) o e = cc

given_keys : (b : Bool) (k : ℕ) → In k (keys_of_ty (if b then int else bool)) → ⊥
given_keys true k i = i
given_keys false k i = i

misfit_same : (w t : Ty) (o : Option Ty) → o ≡ Some t → is_owning t ≡ false → misfit (Some w) o ≡ [] → w ≡ t
misfit_same w t o is plain e = let q = rw is at e in same_plain w t plain (unless_so (same_ty w t) rule.WRONG_TYPE q)

pure_misfit : (b : Bool) (ty : Ty) (o : Option Ty) → (if b then rule.WRONG_TYPE ∷ [] else misfit (Some ty) o) ≡ [] →
    misfit (Some ty) o ≡ []
pure_misfit true ty o e = cc
pure_misfit false ty o e = e

-- ---- operands

module _ {p : Program} {f : Func} (typed : IsTyped p f) (ids : Ids)
    (there : (v k : ℕ) (ty : Ty) → InScope ids v → var_type f v ≡ Some ty → In k (keys_of_ty ty) → IsKeyInScope ids k) where
  -- the type of a field speaks of keys of the reference's type
  field_keys : (x i : ℕ) (w : Ty) → touch_broken p f ids x i ≡ [] →
      not_owning_broken rule.WRONG_SWAP (field_type p f x i) ≡ [] →
      misfit (Some w) (unless_owning (field_type p f x i)) ≡ [] → (k : ℕ) → In k (keys_of_ty w) → IsKeyInScope ids k
  field_keys x i w e plain fits k j = by u.ty u.is
    where
      u : Used f ids x
      u = used f ids x (both_empty (use_broken f ids x) _ e).0

      from : (ty : Ty) (t : ℕ) (args : List ℕ) → var_type f x ≡ Some ty → object_in (Some ty) ≡ Some (t, args) →
          type_in ty ≡ Some t → args_of ty ≡ args → IsKeyInScope ids k
      from ty t args is object declared same =
          let d = field_at typed ids x i t args ty e is object declared in
          let dec = typed.vars x ty t is declared in
          let known : field_type p f x i ≡ Some (with_keys args d.decl.ty) =
          ap (λ o. field_type_in o (field_decl p o i)) (ap object_in is ∙ object) ∙ ap (field_type_in (Some (t, args))) d.at in
          let not_own = not_owning (with_keys args d.decl.ty) rule.WRONG_SWAP (field_type p f x i) known plain in
          let type =
          misfit_same w (with_keys args d.decl.ty) (unless_owning (field_type p f x i))
          (ap unless_owning known ∙ ap (λ b. if b then None else Some (with_keys args d.decl.ty)) not_own) not_own fits in
          let count : length (header_of p t) ≡ length args = sym dec.count ∙ ap length same in
          let i1 : In k (keys_of_ty (with_keys args d.decl.ty)) = subst (λ w. In k (keys_of_ty w)) type j in
          let i2 : In k (map (stands_for args) (keys_of_ty d.decl.ty)) = subst (In k) (keys_after args d.decl.ty) i1 in
          let i3 : In k args =
          all_stand args (keys_of_ty d.decl.ty) (λ m l. subst (λ n. m < n) count (typed.fields t i d.decl d.at m l)) k i2 in
          there x k ty u.scoped is (object_keys ty t args object k i3)

      by : (ty : Ty) → var_type f x ≡ Some ty → IsKeyInScope ids k
      by (tracked c t args) is = from (tracked c t args) t args is refl refl refl
      by (guarded c t args) is = from (guarded c t args) t args is refl refl refl
      by int is = let e1 = (both_empty (use_broken f ids x) _ e).1 in let e2 = rw is at e1 in cc
      by bool is = let e1 = (both_empty (use_broken f ids x) _ e).1 in let e2 = rw is at e1 in cc
      by (owning S t args) is = let e1 = (both_empty (use_broken f ids x) _ e).1 in let e2 = rw is at e1 in cc
      by (variant t args) is = let e1 = (both_empty (use_broken f ids x) _ e).1 in let e2 = rw is at e1 in cc
      by (owning_variant t args) is = let e1 = (both_empty (use_broken f ids x) _ e).1 in let e2 = rw is at e1 in cc

  basic_keys : (w : Ty) (b : Bool) (o : Option Ty) → o ≡ Some (if b then int else bool) → misfit (Some w) o ≡ [] →
      (k : ℕ) → In k (keys_of_ty w) → IsKeyInScope ids k
  basic_keys w b o is fits k j =
      absurd (given_keys b k (subst (λ w. In k (keys_of_ty w)) (misfit_same w (if b then int else bool) o is (plain b) fits) j))
    where
      plain : (b : Bool) → is_owning (if b then int else bool) ≡ false
      plain true = refl
      plain false = refl

  expr_keys : (e : Expr) (w : Ty) → expr_broken p f ids e ≡ [] → misfit (Some w) (type_of_expr p f e) ≡ [] →
      (k : ℕ) → In k (keys_of_ty w) → IsKeyInScope ids k
  expr_keys (number z) w e fits k j = basic_keys w true (Some int) refl fits k j
  expr_keys (truth b) w e fits k j = basic_keys w false (Some bool) refl fits k j
  expr_keys (unary o a) w e fits k j = basic_keys w (row_of o).gives_int (Some (given_by o)) refl fits k j
  expr_keys (binary o a b) w e fits k j = basic_keys w (row_of o).gives_int (Some (given_by o)) refl fits k j
  expr_keys (field x i) w e fits k j =
      let both = both_empty (touch_broken p f ids x i) (not_owning_broken rule.WRONG_SWAP (field_type p f x i)) e in
      field_keys x i w both.0 both.1 fits k j
  expr_keys (var v) w e fits k j =
      let both = both_empty (use_broken f ids v) (not_owning_broken rule.WRONG_TYPE (var_type f v)) e in
      let u = used f ids v both.0 in
      let plain = not_owning u.ty rule.WRONG_TYPE (var_type f v) u.is both.1 in
      let type =
      misfit_same w u.ty (unless_owning (var_type f v))
      (ap unless_owning u.is ∙ ap (λ b. if b then None else Some u.ty) plain) plain fits in
      there v k u.ty u.scoped u.is (subst (λ w. In k (keys_of_ty w)) type j)

  pub operand_keys : (o : Operand) (w : Ty) → operand_broken p f ids (Some w) o ≡ [] → (k : ℕ) →
      In k (keys_of_ty w) → IsKeyInScope ids k
  operand_keys (pure e) w broken k j =
      let both = both_empty (expr_broken p f ids e) _ broken in
      expr_keys e w both.0 (pure_misfit (is_owning w) w (type_of_expr p f e) both.1) k j
  operand_keys (move v) w broken k j =
      let both = both_empty (use_broken f ids v) (move_broken (Some w) (var_type f v)) broken in
      let u = used f ids v both.0 in
      let facts = move_facts true (Some w) (var_type f v) w u.ty refl refl u.is both.1 in
      there v k u.ty u.scoped u.is (subst (In k) (wide_keys w u.ty facts.0 facts.1) j)
  operand_keys (pack x states) w broken k j =
      let both = both_empty (use_broken f ids x) (pack_broken p (Some w) (var_type f x) states) broken in
      let u = used f ids x both.0 in
      let tr = packed_tracked p (Some w) (var_type f x) u.ty states u.is both.1 in
      let is : var_type f x ≡ Some (tracked tr.0 tr.1 tr.2) = u.is ∙ ap Some tr.3 in
      let facts = pack_facts p true (Some w) (var_type f x) w tr.0 tr.1 tr.2 states refl refl is both.1 in
      there x k (tracked tr.0 tr.1 tr.2) u.scoped is
      (inr (subst (In k) (wide_keys w (owning states tr.1 tr.2) refl facts) j))

  -- what operands hand over speaks of keys in scope
  pub operands_keys : (os : List Operand) (types : List Ty) (values : List Value) → length os ≡ length types →
      operands_broken p f ids types os ≡ [] → AreKeysInScope ids (handed_values types values)
  operands_keys [] [] values long e = tt
  operands_keys [] (t ∷ types) values long e = cc
  operands_keys (o ∷ os) [] values long e = cc
  operands_keys (o ∷ os) (t ∷ types) [] long e = tt
  operands_keys (o ∷ os) (t ∷ types) (a ∷ values) long e =
      let both = both_empty (operand_broken p f ids (Some t) o) (operands_broken p f ids types os) e in
      (operand_keys o t both.0, operands_keys os types values (omega arith) both.1)
