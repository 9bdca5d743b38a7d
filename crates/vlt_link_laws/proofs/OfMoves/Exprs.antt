-- Expressions and what is handed over.
use Rattle.std.proofs.Common.{◌≡◌, ℕ, ◌+◌, nat_lt, Bool, true, false, cond, not, if◌then◌else◌, List, [], ◌∷◌, ◌++◌, map, Option, Some, None, slice_get, option_map, refl, sym, ap, ap₂, ◌∙◌, subst, position}
use Rattle.std.specs.List.{prefix_len}
use Rattle.std.specs.Str.{bytes_eq}
use Rattle.std.proofs.lemmas.Option.{slice_get-map, none-some}
use Rattle.std.proofs.lemmas.List.{length-map}
use Rattle.vlt_ops.specs.declared.Op.{Op}
use Rattle.vlt_ops.specs.declared.Takes.{Takes}
use Rattle.vlt_ops.specs.declared.Takes.TheVariants as takes
use Rattle.vlt_ops.specs.Operator.{row_of}
use Rattle.vlt_syntax.specs.Tree as s
use Rattle.vlt_syntax.specs.Tree.{Name}
use Rattle.vlt_core.specs.Core as core
use Rattle.vlt_core.specs.Core.{States, Ty, int, bool, tracked, owning, guarded, variant, owning_variant, TypeDecl, an_abstract, a_struct, a_variant, StructDecl, FieldDecl}
use Rattle.vlt_core.specs.Lookups.{fields_in, is_owning}
use Rattle.vlt_core.specs.declared.rules.TheConstants as rule
use Rattle.vlt_kinds_types.specs.Names.Refusals.{refuse_if}
use Rattle.vlt_kinds_types.specs.Kinds.{Kinds}
use Rattle.vlt_link_laws.specs.CoreMoves.Moves.{Moves, moved_ty, moved_field, moved_struct}
use Rattle.vlt_link_laws.proofs.OfCoreMoves.Looks.{same_owner}
use Rattle.vlt_resolve_exprs.specs.Refused.{unknown_name}
use Rattle.vlt_resolve_exprs.specs.Types.{then_with, ty_under}
use Rattle.vlt_resolve_exprs.specs.Scopes.{Scope, var_named, var_ty}
use Rattle.vlt_resolve_exprs.specs.Exprs.{expr_place, fields_of, field_position, field_named, Object, object_in, value_ty, object_field_ty, field_ty, guard_refused, owner_refused, touch_refused, named_refused, object_refused, base_refused, field_refused, type_given, type_of, unfit, is_basic, not_basic, operand_wanted, left_refused, unary_refused, binary_refused, expr_refused, number_of, object_type, field_number, var_number, core_expr}
use Rattle.vlt_resolve_exprs.specs.Operands.{misfit, operand_refused, operands_refused, variable_in, object_operand, operand_for, core_operand, core_operands}
use Rattle.vlt_link_laws.specs.Moves.Sees.{Sees, moved_scope}
use Rattle.vlt_link_laws.specs.Moves.Exprs.{IsMovedExpr, IsMovedOperand}
use Rattle.vlt_link_laws.proofs.OfMoves.Empty.{cons_not_nil, no_left, no_right, none_of_both, not_broken}
use Rattle.vlt_link_laws.proofs.OfMoves.Scoping.{ty_moves, same_var}
use Rattle.vlt_link_laws.proofs.OfMoves.Types.{is_same_moves, takes_moves, under_moves}

-- ---- positions in lists whose items changed otherwise

pub prefix_same : {X Y : Type 0} (g : X → Y) (t : Y → Bool) (u : X → Bool) → ((x : X) → t (g x) ≡ u x) → (xs : List X) → prefix_len t (map g xs) ≡ prefix_len u xs
prefix_same g t u same [] = refl
prefix_same g t u same (x ∷ xs) = ap₂ (λ b n. cond b (1 + n) 0) (same x) (prefix_same g t u same xs)

pub position_same : {X Y : Type 0} (g : X → Y) (t : Y → Bool) (u : X → Bool) → ((x : X) → t (g x) ≡ u x) → (xs : List X) → position t (map g xs) ≡ position u xs
position_same g t u same xs =
    ap₂ (λ (n : ℕ) (l : ℕ). cond (nat_lt n l) (Some n) None)
    (prefix_same g (λ y. not (t y)) (λ x. not (u x)) (λ x. ap not (same x)) xs) (length-map xs g)

-- ---- a value after a look-up

pub then_some : {A B : Type 0} (o : Option A) (go : A → Option B) (y : B) → then_with o go ≡ Some y → (x : A) × (o ≡ Some x) × (go x ≡ Some y)
then_some None go y e = absurd (none-some y e)
then_some (Some x) go y e = (x, refl, e)

pub known_name : {A : Type 0} (o : Option A) (n : Name) → unknown_name o n ≡ [] → (x : A) × (o ≡ Some x)
unfolding unknown_name
known_name None n e = absurd (cons_not_nil _ [] e)
known_name (Some x) n e = (x, refl)

module _ (m : Moves) (a b : Kinds) (sees : Sees m a b) where
  -- ---- fields

  -- a type with a field is a struct
  pub struct_of : (t : ℕ) (f : Name) (d : FieldDecl) → field_named a t f ≡ Some d → (x : StructDecl) × (slice_get a.types t ≡ Some (a_struct x))
  unfolding field_named field_position
  struct_of t f d e = by (slice_get a.types t) refl e
    where
      by : (o : Option TypeDecl) → slice_get a.types t ≡ o → then_with (position (λ d. bytes_eq f.text d.name) (fields_in o)) (slice_get (fields_in o)) ≡ Some d →
          (x : StructDecl) × (slice_get a.types t ≡ Some (a_struct x))
      by None at e = absurd (none-some d e)
      by (Some (an_abstract n i)) at e = absurd (none-some d e)
      by (Some (a_struct x)) at e = (x, at)
      by (Some (a_variant x)) at e = absurd (none-some d e)

  pub fields_move : (t : ℕ) (x : StructDecl) → slice_get a.types t ≡ Some (a_struct x) → fields_of b (m.types t) ≡ map (moved_field m) (fields_of a t)
  fields_move t x at = ap fields_in (sees.structs t x at) ∙ sym (ap (λ o. map (moved_field m) (fields_in o)) at)

  position_moves : (t : ℕ) (x : StructDecl) → slice_get a.types t ≡ Some (a_struct x) → (f : Name) → field_position b (m.types t) f ≡ field_position a t f
  unfolding field_position
  position_moves t x at f =
      ap (position (λ d. bytes_eq f.text d.name)) (fields_move t x at) ∙
      position_same (moved_field m) (λ d. bytes_eq f.text d.name) (λ d. bytes_eq f.text d.name) (λ d. refl) (fields_of a t)

  pub field_moves : (t : ℕ) (f : Name) (d : FieldDecl) → field_named a t f ≡ Some d → field_named b (m.types t) f ≡ Some (moved_field m d)
  unfolding field_named
  field_moves t f d e =
      let x = struct_of t f d e in
      let i = then_some (field_position a t f) (slice_get (fields_of a t)) d e in
      ap (λ o. then_with o (slice_get (fields_of b (m.types t)))) (position_moves t x.0 x.1 f ∙ i.1) ∙
      (ap (λ ds. slice_get ds i.0) (fields_move t x.0 x.1) ∙
      (slice_get-map (moved_field m) (fields_of a t) i.0 ∙ ap (option_map (moved_field m)) i.2))

  object_of : (ty : Ty) (o : Object) → object_in ty ≡ Some o → object_in (moved_ty m ty) ≡ Some (record { guarded = o.guarded; type = m.types o.type; args = o.args })
  object_of int o e = absurd (none-some o e)
  object_of bool o e = absurd (none-some o e)
  object_of (tracked k t args) o e = ap (option_map (λ o. record { guarded = o.guarded; type = m.types o.type; args = o.args })) e
  object_of (owning s t args) o e = absurd (none-some o e)
  object_of (guarded k t args) o e = ap (option_map (λ o. record { guarded = o.guarded; type = m.types o.type; args = o.args })) e
  object_of (variant t args) o e = absurd (none-some o e)
  object_of (owning_variant t args) o e = absurd (none-some o e)

  -- what a field's use, that isn't refused, rests on
  pub record Touched (scope : Scope) (x f : Name) : Type 0 where
    pub ty : Ty
    pub typed : var_ty scope x.text ≡ Some ty
    pub object : Object
    pub is : object_in ty ≡ Some object
    pub decl : FieldDecl
    pub named : field_named a object.type f ≡ Some decl
    pub calm : touch_refused object.guarded (slice_get a.types object.type) decl x ≡ []

  pub touched : (scope : Scope) (x f : Name) → field_refused a scope x f ≡ [] → Touched scope x f
  unfolding field_refused
  touched scope x f none = by (var_ty scope x.text) refl none
    where
      of_decl : (ty : Ty) (o : Object) → var_ty scope x.text ≡ Some ty → object_in ty ≡ Some o → (d : Option FieldDecl) → field_named a o.type f ≡ d →
          named_refused o.guarded (slice_get a.types o.type) d x f ≡ [] → Touched scope x f
      of_decl ty o te oe None e none = absurd (cons_not_nil _ [] none)
      of_decl ty o te oe (Some d) e none = record { ty = ty; typed = te; object = o; is = oe; decl = d; named = e; calm = none }

      of_object : (ty : Ty) → var_ty scope x.text ≡ Some ty → (o : Option Object) → object_in ty ≡ o → object_refused a o x f ≡ [] → Touched scope x f
      of_object ty te None e none = absurd (cons_not_nil _ [] none)
      of_object ty te (Some o) e none = of_decl ty o te e (field_named a o.type f) refl none

      by : (o : Option Ty) → var_ty scope x.text ≡ o → base_refused a o x f ≡ [] → Touched scope x f
      by None e none = absurd (cons_not_nil _ [] none)
      by (Some ty) e none = of_object ty e (object_in ty) refl none

  pub var_known : (scope : Scope) (n : List ℕ) (ty : Ty) → var_ty scope n ≡ Some ty → var_ty (moved_scope m scope) n ≡ Some (moved_ty m ty)
  var_known scope n ty e = ty_moves m scope n ∙ ap (option_map (moved_ty m)) e

  touch_moves : (g : Bool) (t : ℕ) (x : StructDecl) → slice_get a.types t ≡ Some (a_struct x) → (d : FieldDecl) (n : Name) →
      touch_refused g (slice_get a.types t) d n ≡ [] → touch_refused g (slice_get b.types (m.types t)) (moved_field m d) n ≡ []
  unfolding touch_refused guard_refused owner_refused
  touch_moves g t x at d n none =
      none_of_both (guard_refused g (slice_get b.types (m.types t)) (moved_field m d) n) (owner_refused (moved_field m d) n)
      (ap (λ o. guard_refused g o (moved_field m d) n) (sees.structs t x at) ∙ (guard g ∙ (sym (ap (λ o. guard_refused g o d n) at) ∙ no_left (guard_refused g (slice_get a.types t) d n) (owner_refused d n) none)))
      (ap (λ o. refuse_if o rule.WRONG_SWAP n.at.from) (same_owner m d.ty) ∙ no_right (guard_refused g (slice_get a.types t) d n) (owner_refused d n) none)
    where
      guard : (g : Bool) → guard_refused g (Some (a_struct (moved_struct m x))) (moved_field m d) n ≡ guard_refused g (Some (a_struct x)) d n
      guard true = refl
      guard false = refl

  pub field_fine : (scope : Scope) (x f : Name) → field_refused a scope x f ≡ [] → field_refused b (moved_scope m scope) x f ≡ []
  unfolding field_refused
  field_fine scope x f none =
      let h = touched scope x f none in
      let t = h.object.type in
      let st = struct_of t f h.decl h.named in
      ap (λ o. base_refused b o x f) (var_known scope x.text h.ty h.typed) ∙
      (ap (λ o. object_refused b o x f) (object_of h.ty h.object h.is) ∙
      (ap (λ o. named_refused h.object.guarded (slice_get b.types (m.types t)) o x f) (field_moves t f h.decl h.named) ∙
      touch_moves h.object.guarded t st.0 st.1 h.decl x h.calm))

  unowned : (scope : Scope) (x f : Name) (h : Touched scope x f) → is_owning h.decl.ty ≡ false
  unfolding touch_refused owner_refused
  unowned scope x f h = not_broken (is_owning h.decl.ty) rule.WRONG_SWAP x.at.from
      (no_right (guard_refused h.object.guarded (slice_get a.types h.object.type) h.decl x) (owner_refused h.decl x) h.calm)

  -- the type of a field that isn't owning
  pub field_typed : (scope : Scope) (x f : Name) (h : Touched scope x f) → field_ty a scope x f ≡ Some (ty_under h.object.args h.decl.ty)
  unfolding field_ty object_field_ty
  field_typed scope x f h =
      ap (λ o. then_with o (λ ty. then_with (object_in ty) (λ o. object_field_ty a o f))) h.typed ∙
      (ap (λ o. then_with o (λ o. object_field_ty a o f)) h.is ∙
      (ap (value_ty h.object.args) h.named ∙
      ap (λ (o : Bool). if o then None else Some (ty_under h.object.args h.decl.ty)) (unowned scope x f h)))

  pub field_typed_there : (scope : Scope) (x f : Name) (h : Touched scope x f) → field_ty b (moved_scope m scope) x f ≡ Some (moved_ty m (ty_under h.object.args h.decl.ty))
  unfolding field_ty object_field_ty
  field_typed_there scope x f h =
      ap (λ o. then_with o (λ ty. then_with (object_in ty) (λ o. object_field_ty b o f))) (var_known scope x.text h.ty h.typed) ∙
      (ap (λ o. then_with o (λ o. object_field_ty b o f)) (object_of h.ty h.object h.is) ∙
      (ap (value_ty h.object.args) (field_moves h.object.type f h.decl h.named) ∙
      (ap (λ (o : Bool). if o then None else Some (ty_under h.object.args (moved_ty m h.decl.ty))) (same_owner m h.decl.ty ∙ unowned scope x f h) ∙
      ap Some (under_moves m h.object.args h.decl.ty))))

  object_type_is : (ty : Ty) (o : Object) → object_in ty ≡ Some o → object_type (Some ty) ≡ o.type
  object_type_is ty o e = ap (λ x. number_of (then_with x (λ y. Some y.type))) e

  pub field_number_same : (scope : Scope) (x f : Name) (ty : Ty) (o : Object) (d : FieldDecl) → var_ty scope x.text ≡ Some ty → object_in ty ≡ Some o → field_named a o.type f ≡ Some d →
      field_number b (moved_scope m scope) x f ≡ field_number a scope x f
  unfolding field_number
  field_number_same scope x f ty o d typed is named =
      let st = struct_of o.type f d named in
      ap (λ o. number_of (field_position b (object_type o) f)) (var_known scope x.text ty typed) ∙
      (ap (λ t. number_of (field_position b t f)) (object_type_is (moved_ty m ty) _ (object_of ty o is)) ∙
      (ap number_of (position_moves o.type st.0 st.1 f) ∙
      sym (ap (λ o. number_of (field_position a (object_type o) f)) typed ∙ ap (λ t. number_of (field_position a t f)) (object_type_is ty o is))))

  pub field_numbered : (scope : Scope) (x f : Name) (h : Touched scope x f) → field_number b (moved_scope m scope) x f ≡ field_number a scope x f
  field_numbered scope x f h = field_number_same scope x f h.ty h.object h.decl h.typed h.is h.named

  -- ---- operators

  pub unfit_moves : (w : Ty) (t : Option Ty) (at : ℕ) → unfit (Some w) t at ≡ [] → unfit (Some (moved_ty m w)) (option_map (moved_ty m) t) at ≡ []
  unfolding unfit
  unfit_moves w None at none = refl
  unfit_moves w (Some t) at none = ap (λ x. refuse_if (not x) rule.WRONG_TYPE at) (is_same_moves m sees.apart w t) ∙ none

  unfit_none : (t : Option Ty) (at : ℕ) → unfit None t at ≡ []
  unfolding unfit
  unfit_none t at = refl

  basic_moves : (t : Ty) → is_basic (moved_ty m t) ≡ is_basic t
  basic_moves int = refl
  basic_moves bool = refl
  basic_moves (tracked k t args) = refl
  basic_moves (owning s t args) = refl
  basic_moves (guarded k t args) = refl
  basic_moves (variant t args) = refl
  basic_moves (owning_variant t args) = refl

  left_moves : (row : Takes) (t : Option Ty) (at : ℕ) → left_refused row t at ≡ [] → left_refused row (option_map (moved_ty m) t) at ≡ []
  unfolding left_refused not_basic
  left_moves takes.Int t at none = unfit_moves int t at none
  left_moves takes.Bool t at none = unfit_moves bool t at none
  left_moves takes.Either None at none = refl
  left_moves takes.Either (Some t) at none = ap (λ x. refuse_if (not x) rule.WRONG_TYPE at) (basic_moves t) ∙ none

  wanted_moves : (row : Takes) (t u : Option Ty) (at : ℕ) → unfit (operand_wanted row t) u at ≡ [] →
      unfit (operand_wanted row (option_map (moved_ty m) t)) (option_map (moved_ty m) u) at ≡ []
  unfolding operand_wanted
  wanted_moves takes.Int t u at none = unfit_moves int u at none
  wanted_moves takes.Bool t u at none = unfit_moves bool u at none
  wanted_moves takes.Either None u at none = unfit_none (option_map (moved_ty m) u) at
  wanted_moves takes.Either (Some t) u at none =
      ap (λ (x : Bool). unfit (if x then Some (moved_ty m t) else None) (option_map (moved_ty m) u) at) (basic_moves t) ∙ by (is_basic t) none
    where
      by : (x : Bool) → unfit (if x then Some t else None) u at ≡ [] → unfit (if x then Some (moved_ty m t) else None) (option_map (moved_ty m) u) at ≡ []
      by true none = unfit_moves t u at none
      by false none = unfit_none (option_map (moved_ty m) u) at

  given_moves : (o : Op) → moved_ty m (type_given o) ≡ type_given o
  unfolding type_given
  given_moves o = by (row_of o).gives_int
    where
      by : (x : Bool) → moved_ty m (if x then int else bool) ≡ (if x then int else bool)
      by true = refl
      by false = refl

  -- ---- expressions

  module _ (scope : Scope) where
    unary_fine : (o : Op) (e : s.Expr) → IsMovedExpr m a b scope e → unary_refused o (expr_refused a scope e) (type_of a scope e) (expr_place e) ≡ [] →
        unary_refused o (expr_refused b (moved_scope m scope) e) (type_of b (moved_scope m scope) e) (expr_place e) ≡ []
    unfolding unary_refused
    unary_fine o e x none =
        none_of_both _ _ x.fine
        (ap (λ t. unfit (Some (type_given o)) t (expr_place e)) x.type ∙
        subst (λ w. unfit (Some w) (option_map (moved_ty m) (type_of a scope e)) (expr_place e) ≡ []) (given_moves o)
        (unfit_moves (type_given o) (type_of a scope e) (expr_place e) (no_right (expr_refused a scope e) _ none)))

    left_none : (o : Op) (l r : s.Expr) → binary_refused o (expr_refused a scope l) (type_of a scope l) (expr_place l) (expr_refused a scope r) (type_of a scope r) (expr_place r) ≡ [] →
        (expr_refused a scope l ≡ []) × (expr_refused a scope r ≡ [])
    unfolding binary_refused
    left_none o l r none = (
      no_left (expr_refused a scope l) _ (no_left (expr_refused a scope l ++ left_refused (row_of o).takes (type_of a scope l) (expr_place l)) _ none),
      no_left (expr_refused a scope r) _ (no_right (expr_refused a scope l ++ left_refused (row_of o).takes (type_of a scope l) (expr_place l)) _ none),
    )

    inner_none : (o : Op) (e : s.Expr) → unary_refused o (expr_refused a scope e) (type_of a scope e) (expr_place e) ≡ [] → expr_refused a scope e ≡ []
    unfolding unary_refused
    inner_none o e none = no_left (expr_refused a scope e) _ none

    binary_fine : (o : Op) (l r : s.Expr) → IsMovedExpr m a b scope l → IsMovedExpr m a b scope r →
        binary_refused o (expr_refused a scope l) (type_of a scope l) (expr_place l) (expr_refused a scope r) (type_of a scope r) (expr_place r) ≡ [] →
        binary_refused o (expr_refused b (moved_scope m scope) l) (type_of b (moved_scope m scope) l) (expr_place l) (expr_refused b (moved_scope m scope) r) (type_of b (moved_scope m scope) r) (expr_place r) ≡ []
    unfolding binary_refused
    binary_fine o l r x y none =
        let front = no_left (expr_refused a scope l ++ left_refused (row_of o).takes (type_of a scope l) (expr_place l)) _ none in
        let back = no_right (expr_refused a scope l ++ left_refused (row_of o).takes (type_of a scope l) (expr_place l)) _ none in
        none_of_both _ _
        (none_of_both _ _ x.fine (ap (λ t. left_refused (row_of o).takes t (expr_place l)) x.type ∙
        left_moves (row_of o).takes (type_of a scope l) (expr_place l) (no_right (expr_refused a scope l) _ front)))
        (none_of_both _ _ y.fine (ap₂ (λ t u. unfit (operand_wanted (row_of o).takes t) u (expr_place r)) x.type y.type ∙
        wanted_moves (row_of o).takes (type_of a scope l) (type_of a scope r) (expr_place r) (no_right (expr_refused a scope r) _ back)))

    field_expr : (x f : Name) → field_refused a scope x f ≡ [] → IsMovedExpr m a b scope (s.field x f)
    unfolding type_of var_number var_named
    field_expr x f none =
        let h = touched scope x f none in
        record {
          type = field_typed_there scope x f h ∙ sym (ap (option_map (moved_ty m)) (field_typed scope x f h));
          fine = field_fine scope x f none;
          core = ap (core.field (var_number scope x)) (field_numbered scope x f h);
        }

    pub expr_moves : (e : s.Expr) → expr_refused a scope e ≡ [] → IsMovedExpr m a b scope e
    unfolding type_of var_number
    expr_moves (s.number z at) none = record { type = refl; fine = refl; core = refl }
    expr_moves (s.true at) none = record { type = refl; fine = refl; core = refl }
    expr_moves (s.false at) none = record { type = refl; fine = refl; core = refl }
    expr_moves (s.variable x) none = record { type = ty_moves m scope x.text; fine = ap (λ o. unknown_name o x) (same_var m scope x.text) ∙ none; core = ap (λ o. core.var (number_of o)) (same_var m scope x.text) }
    expr_moves (s.field x f) none = field_expr x f none
    expr_moves (s.group e at) none = let x = expr_moves e none in record { type = x.type; fine = x.fine; core = x.core }
    expr_moves (s.unary o e at) none =
        let x = expr_moves e (inner_none o e none) in
        record { type = sym (ap Some (given_moves o)); fine = unary_fine o e x none; core = ap (core.unary o) x.core }
    expr_moves (s.binary o l r at) none =
        let both = left_none o l r none in
        let x = expr_moves l both.0 in
        let y = expr_moves r both.1 in
        record { type = sym (ap Some (given_moves o)); fine = binary_fine o l r x y none; core = ap₂ (core.binary o) x.core y.core }

    -- ---- what is handed over

    misfit_moves : (w : Ty) (t : Option Ty) (at : ℕ) → misfit w t at ≡ [] → misfit (moved_ty m w) (option_map (moved_ty m) t) at ≡ []
    unfolding misfit
    misfit_moves w None at none = refl
    misfit_moves w (Some t) at none = ap (λ x. refuse_if (not x) rule.WRONG_TYPE at) (takes_moves m sees.apart w t) ∙ none

    object_same : (S : States) (t : Option Ty) (v : ℕ) → object_operand S (option_map (moved_ty m) t) v ≡ object_operand S t v
    object_same S None v = refl
    object_same S (Some int) v = refl
    object_same S (Some bool) v = refl
    object_same S (Some (tracked k t args)) v = refl
    object_same S (Some (owning r t args)) v = refl
    object_same S (Some (guarded k t args)) v = refl
    object_same S (Some (variant t args)) v = refl
    object_same S (Some (owning_variant t args)) v = refl

    pub operand_same : (w : Ty) (t : Option Ty) (e : core.Expr) → operand_for (moved_ty m w) (option_map (moved_ty m) t) e ≡ operand_for w t e
    unfolding operand_for
    operand_same int t e = refl
    operand_same bool t e = refl
    operand_same (tracked k u args) t e = refl
    operand_same (owning S u args) t e = object_same S t (variable_in e)
    operand_same (guarded k u args) t e = refl
    operand_same (variant u args) t e = refl
    operand_same (owning_variant u args) t e = refl

    -- what it becomes depends on the expression alone
    pub operand_core : (w : Ty) (e : s.Expr) → expr_refused a scope e ≡ [] → core_operand b (moved_scope m scope) (moved_ty m w) e ≡ core_operand a scope w e
    unfolding core_operand
    operand_core w e none =
        let x = expr_moves e none in
        ap₂ (operand_for (moved_ty m w)) x.type x.core ∙ operand_same w (type_of a scope e) (core_expr a scope e)

    pub operand_moves : (w : Ty) (e : s.Expr) → operand_refused a scope w e ≡ [] → IsMovedOperand m a b scope w e
    unfolding operand_refused core_operand
    operand_moves w e none =
        let x = expr_moves e (no_left (expr_refused a scope e) _ none) in
        record {
          fine = none_of_both _ _ x.fine (ap (λ t. misfit (moved_ty m w) t (expr_place e)) x.type ∙ misfit_moves w (type_of a scope e) (expr_place e) (no_right (expr_refused a scope e) _ none));
          core = ap₂ (operand_for (moved_ty m w)) x.type x.core ∙ operand_same w (type_of a scope e) (core_expr a scope e);
        }

    pub operands_fine : (ws : List Ty) (es : List s.Expr) → operands_refused a scope ws es ≡ [] → operands_refused b (moved_scope m scope) (map (moved_ty m) ws) es ≡ []
    operands_fine [] es none = refl
    operands_fine (w ∷ ws) [] none = refl
    operands_fine (w ∷ ws) (e ∷ es) none =
        none_of_both _ _ (operand_moves w e (no_left (operand_refused a scope w e) _ none)).fine (operands_fine ws es (no_right (operand_refused a scope w e) _ none))

    pub operands_same : (ws : List Ty) (es : List s.Expr) → operands_refused a scope ws es ≡ [] → core_operands b (moved_scope m scope) es (map (moved_ty m) ws) ≡ core_operands a scope es ws
    operands_same [] [] none = refl
    operands_same [] (e ∷ es) none = refl
    operands_same (w ∷ ws) [] none = refl
    operands_same (w ∷ ws) (e ∷ es) none =
        ap₂ (λ x xs. x ∷ xs) (operand_moves w e (no_left (operand_refused a scope w e) _ none)).core (operands_same ws es (no_right (operand_refused a scope w e) _ none))
