-- Where arguments break no rule, keys of the callee's parameters have the types of the caller's keys that stand for them.
use Rattle.std.proofs.Common.{◌≡◌, ◌⊎◌, inl, inr, ⊎_elim, ℕ, zero, suc, ◌==◌, ◌<◌, Bool, true, false, if◌then◌else◌, List, [], ◌∷◌, ◌++◌, map, filter, length, Option, Some, None, refl, sym, ap, ◌∙◌, subst, arith, slice_get}
use Rattle.std.proofs.lemmas.Bool.{eqb-true}
use Rattle.std.proofs.lemmas.Option.{none-some, same_Some, slice_get_cases, slice_get-map, slice_get-get_or}
use Rattle.std.specs.List.{flat_map}
use Rattle.std.specs.Option.{option_map}
use Rattle.vlt_ops.specs.declared.Op.{Op}
use Rattle.vlt_ops.specs.Operator.{row_of}
use Rattle.vlt_core.specs.Core.{States, Ty, int, bool, tracked, owning, guarded, variant, owning_variant, FieldDecl, Expr, number, truth, var, field, unary, binary, Operand, pure, move, pack, Header, Func, Program}
use Rattle.vlt_core.specs.Lookups.{var_type, is_owning, key_type, fields_of}
use Rattle.vlt_core.specs.Types.{same_object, same_keys, stands_for, with_keys, args_of, type_in, header_of, lies_within}
use Rattle.vlt_core.specs.KindedHeads.{Typing, arg_typings, typings, types_at, parameters_of, is_field_type}
use Rattle.vlt_core.specs.declared.rules.TheConstants as rule
use Rattle.vlt_core.specs.KindedScopes.{Ids, use_broken}
use Rattle.vlt_core.specs.KindedOperands.{misfit, object_in, field_decl, field_type_in, field_type, unless_owning, given_by, type_of_expr, expr_broken, touch_broken, not_owning_broken, fits_owning, move_broken, pack_broken, operand_broken, operands_broken}
use Rattle.vlt_sound_worlds.specs.Members.{In}
use Rattle.vlt_sound_worlds.specs.Fits.{option_join, header_type}
use Rattle.vlt_sound_worlds.specs.Typed.{IsTyped}
use Rattle.vlt_sound_worlds.proofs.Empty.{both_empty, both_so}
use Rattle.vlt_sound_worlds.proofs.Plain.{keys_same}
use Rattle.vlt_sound_worlds.proofs.Touch.{Used, used}
use Rattle.vlt_sound_worlds.proofs.Expressions.{field_at, not_owning}
use Rattle.vlt_sound_worlds.proofs.TypeFacts.{move_facts, pack_facts, packed_tracked, misfit_plain}
use Rattle.vlt_sound_calls.specs.Heads.{HasHead}
use Rattle.vlt_sound_calls.specs.Among.{Among}
use Rattle.vlt_sound_calls.specs.Meet.{KeysMeet}
use Rattle.vlt_sound.specs.Fields.{HasFields}

-- the keys of a type have the types that it gives them
pub record HasTypes (p : Program) (f : Func) (ty : Ty) : Type 0 where
  pub own : (k t : ℕ) (args : List ℕ) → ty ≡ tracked k t args → key_type f k ≡ Some t
  pub arg : (t i k u : ℕ) → type_in ty ≡ Some t → slice_get (args_of ty) i ≡ Some k → header_type p t i ≡ Some u →
      key_type f k ≡ Some u

-- a key and what stands at its position
record IsArg (keys : List ℕ) (h : Header) (x : Typing) : Type 0 where
  at : ℕ
  key : slice_get keys at ≡ Some x.key
  type : slice_get h at ≡ Some (Some x.type)

arg_of : (ks : List ℕ) (h : Header) (x : Typing) → Among x (arg_typings ks h) → IsArg ks h x
arg_of [] h x i = absurd i
arg_of (k ∷ ks) [] x i = absurd i
arg_of (k ∷ ks) (None ∷ h) x i =
    let q = arg_of ks h x i in
    record { at = suc q.at; key = q.key; type = q.type }
arg_of (k ∷ ks) (Some t ∷ h) x (inl same) =
    record { at = 0; key = ap (λ y. Some y.key) (sym same); type = ap (λ y. Some (Some y.type)) (sym same) }
arg_of (k ∷ ks) (Some t ∷ h) x (inr rest) =
    let q = arg_of ks h x rest in
    record { at = suc q.at; key = q.key; type = q.type }

module _ (p : Program) (f : Func) (typed : IsTyped p f) (fields : HasFields p) where
  var_types : (v : ℕ) (ty : Ty) → var_type f v ≡ Some ty → HasTypes p f ty
  var_types v ty is = record {
    own = λ k t args e. typed.keys v k t args (is ∙ ap Some e);
    arg = λ t i k u type at head. typed.heads v t i k u ty is type at head;
  }

  basic_types : (ty : Ty) → type_in ty ≡ None → HasTypes p f ty
  basic_types ty none = record {
    own = λ k t args e. absurd (none-some t (sym none ∙ ap type_in e));
    arg = λ t i k u type at head. absurd (none-some t (sym none ∙ type));
  }

  given_none : (op : Op) → type_in (given_by op) ≡ None
  given_none op = by (row_of op).gives_int
    where
      by : (b : Bool) → type_in (if b then int else bool) ≡ None
      by true = refl
      by false = refl

  -- a field of a reference's object
  field_types : (x i t : ℕ) (args : List ℕ) (ty : Ty) (d : FieldDecl) → var_type f x ≡ Some ty → type_in ty ≡ Some t →
      args_of ty ≡ args → slice_get (fields_of p t) i ≡ Some d → HasTypes p f (with_keys args d.ty)
  field_types x i t args ty d is in_ty same at = record { own = own; arg = arg d.ty refl }
    where
      own : (k u : ℕ) (others : List ℕ) → with_keys args d.ty ≡ tracked k u others → key_type f k ≡ Some u
      own k u others e = absurd (by d.ty (fields.types t i d at) e)
        where
          by : (q : Ty) → is_field_type p q ≡ true → with_keys args q ≡ tracked k u others → ⊥
          by int a e = cc
          by bool a e = cc
          by (tracked j v more) a e = cc
          by (owning S v more) a e = cc
          by (guarded j v more) a e = cc
          by (variant v more) a e = cc
          by (owning_variant v more) a e = cc

      type_same : (q : Ty) → type_in (with_keys args q) ≡ type_in q
      type_same int = refl
      type_same bool = refl
      type_same (tracked j v more) = refl
      type_same (owning S v more) = refl
      type_same (guarded j v more) = refl
      type_same (variant v more) = refl
      type_same (owning_variant v more) = refl

      args_same : (q : Ty) → args_of (with_keys args q) ≡ map (stands_for args) (args_of q)
      args_same int = refl
      args_same bool = refl
      args_same (tracked j v more) = refl
      args_same (owning S v more) = refl
      args_same (guarded j v more) = refl
      args_same (variant v more) = refl
      args_same (owning_variant v more) = refl

      mapped : (ks : List ℕ) (j k : ℕ) → slice_get (map (stands_for args) ks) j ≡ Some k →
          (q : ℕ) × (slice_get ks j ≡ Some q) × (stands_for args q ≡ k)
      mapped [] j k e = absurd (none-some k e)
      mapped (y ∷ ks) zero k e = (y, refl, same_Some (stands_for args y) k e)
      mapped (y ∷ ks) (suc j) k e = mapped ks j k e

      in_header : (t q w : ℕ) → header_type p t q ≡ Some w → q < length (header_of p t)
      in_header t q w e = ⊎_elim
          (λ at. at.1)
          (λ past. absurd (none-some w (sym (ap option_join past.1) ∙ e)))
          (slice_get_cases (header_of p t) q).1

      arg : (q : Ty) → d.ty ≡ q → (u j k w : ℕ) → type_in (with_keys args d.ty) ≡ Some u →
          slice_get (args_of (with_keys args d.ty)) j ≡ Some k → header_type p u j ≡ Some w → key_type f k ≡ Some w
      arg q e u j k w type there head =
          let inner = mapped (args_of d.ty) j k (subst (λ ks. slice_get ks j ≡ Some k) (args_same d.ty) there) in
          let above = fields.heads t i j inner.0 u w d at (sym (type_same d.ty) ∙ type) inner.1 head in
          let within = in_header t inner.0 w above in
          let dec = typed.vars x ty t is in_ty in
          let lt : inner.0 < length args = subst (λ n. inner.0 < n) (sym dec.count ∙ ap length same) within in
          typed.heads x t inner.0 k w ty is in_ty
          (ap (λ ks. slice_get ks inner.0) same ∙ (slice_get-get_or args inner.0 0 lt ∙ ap Some inner.2)) above

  -- what an operand that breaks no rule is for
  plain_types : (w ty : Ty) (type : Option Ty) → type ≡ Some ty → is_owning ty ≡ false → misfit (Some w) type ≡ [] →
      HasTypes p f ty → HasTypes p f w
  plain_types w ty type known plain e h = subst (HasTypes p f) (sym (misfit_plain w ty type known plain e)) h

  owning_types : (w t : Ty) → is_owning t ≡ true → fits_owning w t ≡ true → HasTypes p f t → HasTypes p f w
  owning_types (owning S t args) (owning S' t' args') o e h =
      let both = both_so (same_object t' args' t args) (lies_within S' S) e in
      let same = both_so (t' == t) (same_keys args' args) both.0 in
      record {
        own = λ k u others q. absurd (clash q);
        arg = λ v i k u type at head. h.arg v i k u (ap Some (eqb-true t' t same.0) ∙ type)
            (ap (λ ks. slice_get ks i) (keys_same args' args same.1) ∙ at) head;
      }
    where
      clash : {k u : ℕ} {others : List ℕ} → owning S t args ≡ tracked k u others → ⊥
      clash q = cc
  owning_types (owning_variant t args) (owning_variant t' args') o e h =
      let same = both_so (t == t') (same_keys args args') e in
      record {
        own = λ k u others q. absurd (clash q);
        arg = λ v i k u type at head. h.arg v i k u (ap Some (sym (eqb-true t t' same.0)) ∙ type)
            (ap (λ ks. slice_get ks i) (sym (keys_same args args' same.1)) ∙ at) head;
      }
    where
      clash : {k u : ℕ} {others : List ℕ} → owning_variant t args ≡ tracked k u others → ⊥
      clash q = cc
  owning_types int (owning S t args) o e h = cc
  owning_types int (owning_variant t args) o e h = cc
  owning_types bool (owning S t args) o e h = cc
  owning_types bool (owning_variant t args) o e h = cc
  owning_types (tracked k u a) (owning S t args) o e h = cc
  owning_types (tracked k u a) (owning_variant t args) o e h = cc
  owning_types (guarded k u a) (owning S t args) o e h = cc
  owning_types (guarded k u a) (owning_variant t args) o e h = cc
  owning_types (variant u a) (owning S t args) o e h = cc
  owning_types (variant u a) (owning_variant t args) o e h = cc
  owning_types (owning R u a) (owning_variant t args) o e h = cc
  owning_types (owning_variant u a) (owning S t args) o e h = cc
  owning_types w int o e h = cc
  owning_types w bool o e h = cc
  owning_types w (tracked k t args) o e h = cc
  owning_types w (guarded k t args) o e h = cc
  owning_types w (variant t args) o e h = cc

  wanted_plain : (b : Bool) (w : Ty) (type : Option Ty) →
      (if b then rule.WRONG_TYPE ∷ [] else misfit (Some w) type) ≡ [] → misfit (Some w) type ≡ []
  wanted_plain true w type e = cc
  wanted_plain false w type e = e

  module _ (ids : Ids) where
    field_source : (w : Ty) (x i : ℕ) → touch_broken p f ids x i ≡ [] → not_owning_broken rule.WRONG_SWAP (field_type p f x i) ≡ [] →
        misfit (Some w) (unless_owning (field_type p f x i)) ≡ [] → HasTypes p f w
    field_source w x i touch owns e = by u.ty u.is
      where
        u : Used f ids x
        u = used f ids x (both_empty (use_broken f ids x) _ touch).0

        found : (ty : Ty) (t : ℕ) (args : List ℕ) → var_type f x ≡ Some ty → object_in (Some ty) ≡ Some (t, args) → type_in ty ≡ Some t →
            args_of ty ≡ args → HasTypes p f w
        found ty t args is object in_ty same =
            let d = field_at typed ids x i t args ty touch is object in_ty in
            let field_is : field_type p f x i ≡ Some (with_keys args d.decl.ty) =
            ap (λ o. field_type_in (object_in o) (field_decl p (object_in o) i)) is ∙
            (ap (λ o. field_type_in o (field_decl p o i)) object ∙ ap (field_type_in (Some (t, args))) d.at) in
            let plain = not_owning (with_keys args d.decl.ty) rule.WRONG_SWAP (field_type p f x i) field_is owns in
            plain_types w (with_keys args d.decl.ty) (unless_owning (field_type p f x i))
            (ap unless_owning field_is ∙ ap (λ b. if b then None else Some (with_keys args d.decl.ty)) plain) plain e
            (field_types x i t args ty d.decl is in_ty same d.at)

        by : (ty : Ty) → var_type f x ≡ Some ty → HasTypes p f w
        by (tracked k t args) is = found (tracked k t args) t args is refl refl refl
        by (guarded k t args) is = found (guarded k t args) t args is refl refl refl
        by int is = let e1 = (both_empty (use_broken f ids x) _ touch).1 in let e2 = rw is at e1 in cc
        by bool is = let e1 = (both_empty (use_broken f ids x) _ touch).1 in let e2 = rw is at e1 in cc
        by (owning S t args) is = let e1 = (both_empty (use_broken f ids x) _ touch).1 in let e2 = rw is at e1 in cc
        by (variant t args) is = let e1 = (both_empty (use_broken f ids x) _ touch).1 in let e2 = rw is at e1 in cc
        by (owning_variant t args) is = let e1 = (both_empty (use_broken f ids x) _ touch).1 in let e2 = rw is at e1 in cc

    given_plain : (op : Op) → is_owning (given_by op) ≡ false
    given_plain op = by (row_of op).gives_int
      where
        by : (b : Bool) → is_owning (if b then int else bool) ≡ false
        by true = refl
        by false = refl

    expr_types : (w : Ty) (e : Expr) → expr_broken p f ids e ≡ [] → misfit (Some w) (type_of_expr p f e) ≡ [] → HasTypes p f w
    expr_types w (number z) b m = plain_types w int (Some int) refl refl m (basic_types int refl)
    expr_types w (truth z) b m = plain_types w bool (Some bool) refl refl m (basic_types bool refl)
    expr_types w (var v) b m =
        let both = both_empty (use_broken f ids v) (not_owning_broken rule.WRONG_TYPE (var_type f v)) b in
        let u = used f ids v both.0 in
        let plain = not_owning u.ty rule.WRONG_TYPE (var_type f v) u.is both.1 in
        plain_types w u.ty (unless_owning (var_type f v))
        (ap unless_owning u.is ∙ ap (λ b. if b then None else Some u.ty) plain) plain m (var_types v u.ty u.is)
    expr_types w (field x i) b m =
        let both = both_empty (touch_broken p f ids x i) (not_owning_broken rule.WRONG_SWAP (field_type p f x i)) b in
        field_source w x i both.0 both.1 m
    expr_types w (unary op a) b m = plain_types w (given_by op) (Some (given_by op)) refl (given_plain op) m (basic_types (given_by op) (given_none op))
    expr_types w (binary op a c) b m = plain_types w (given_by op) (Some (given_by op)) refl (given_plain op) m (basic_types (given_by op) (given_none op))

    operand_types : (w : Ty) (o : Operand) → operand_broken p f ids (Some w) o ≡ [] → HasTypes p f w
    operand_types w (pure e) b =
        let both = both_empty (expr_broken p f ids e) (if is_owning w then rule.WRONG_TYPE ∷ [] else misfit (Some w) (type_of_expr p f e)) b in
        expr_types w e both.0 (wanted_plain (is_owning w) w (type_of_expr p f e) both.1)
    operand_types w (move v) b =
        let both = both_empty (use_broken f ids v) (move_broken (Some w) (var_type f v)) b in
        let u = used f ids v both.0 in
        let facts = move_facts true (Some w) (var_type f v) w u.ty refl refl u.is both.1 in
        owning_types w u.ty facts.0 facts.1 (var_types v u.ty u.is)
    operand_types w (pack x states) b =
        let both = both_empty (use_broken f ids x) (pack_broken p (Some w) (var_type f x) states) b in
        let u = used f ids x both.0 in
        let tr = packed_tracked p (Some w) (var_type f x) u.ty states u.is both.1 in
        let is : var_type f x ≡ Some (tracked tr.0 tr.1 tr.2) = u.is ∙ ap Some tr.3 in
        let wide = pack_facts p true (Some w) (var_type f x) w tr.0 tr.1 tr.2 states refl refl is both.1 in
        let all = var_types x (tracked tr.0 tr.1 tr.2) is in
        owning_types w (owning states tr.1 tr.2) refl wide
        (record { own = λ k t args e. absurd (clash states tr.1 tr.2 k t args e); arg = all.arg })
      where
        clash : (S : States) (u : ℕ) (as' : List ℕ) (k t : ℕ) (args : List ℕ) → owning S u as' ≡ tracked k t args → ⊥
        clash S u as' k t args e = cc

    from_arg : (keys : List ℕ) (t : ℕ) (args : List ℕ) (x : Typing) → Among x (arg_typings args (header_of p t)) → {ty : Ty} →
        HasTypes p f ty → type_in ty ≡ Some t → args_of ty ≡ map (stands_for keys) args →
        key_type f (stands_for keys x.key) ≡ Some x.type
    from_arg keys t args x i {ty} h type same =
        let q = arg_of args (header_of p t) x i in
        h.arg t q.at (stands_for keys x.key) x.type type
        (ap (λ ks. slice_get ks q.at) same ∙ (slice_get-map (stands_for keys) args q.at ∙ ap (option_map (stands_for keys)) q.key))
        (ap option_join q.type)

    split : (xs ys : List Typing) (x : Typing) → Among x (xs ++ ys) → Among x xs ⊎ Among x ys
    split [] ys x i = inr i
    split (z ∷ xs) ys x i = ⊎_elim (λ e. inl (inl e)) (λ r. ⊎_elim (λ a. inl (inr a)) inr (split xs ys x r)) i

    -- what a parameter's type says of its keys, the caller's types say of those that stand for them
    typing_types : (keys : List ℕ) (ty : Ty) (x : Typing) → Among x (typings p ty) → HasTypes p f (with_keys keys ty) →
        key_type f (stands_for keys x.key) ≡ Some x.type
    typing_types keys int x i h = absurd i
    typing_types keys bool x i h = absurd i
    typing_types keys (tracked k t args) x (inl same) h =
        h.own (stands_for keys x.key) x.type (map (stands_for keys) args)
        (ap (λ y. tracked (stands_for keys y.key) y.type (map (stands_for keys) args)) (sym same))
    typing_types keys (tracked k t args) x (inr rest) h = from_arg keys t args x rest h refl refl
    typing_types keys (owning S t args) x i h = from_arg keys t args x i h refl refl
    typing_types keys (guarded k t args) x i h = from_arg keys t args x i h refl refl
    typing_types keys (variant t args) x i h = from_arg keys t args x i h refl refl
    typing_types keys (owning_variant t args) x i h = from_arg keys t args x i h refl refl

    find_types : (keys : List ℕ) (tys : List Ty) (os : List Operand) → length os ≡ length (map (with_keys keys) tys) →
        operands_broken p f ids (map (with_keys keys) tys) os ≡ [] → (x : Typing) → Among x (flat_map (typings p) tys) →
        key_type f (stands_for keys x.key) ≡ Some x.type
    find_types keys [] os long b x i = absurd i
    find_types keys (ty ∷ tys) [] long b x i = cc
    find_types keys (ty ∷ tys) (o ∷ os) long b x i =
        let both = both_empty (operand_broken p f ids (Some (with_keys keys ty)) o) (operands_broken p f ids (map (with_keys keys) tys) os) b in
        ⊎_elim
        (λ here. typing_types keys ty x here (operand_types (with_keys keys ty) o both.0))
        (λ rest. find_types keys tys os (suc_same long) both.1 x rest)
        (split (typings p ty) (flat_map (typings p) tys) x i)
      where
        suc_same : {n m : ℕ} → suc n ≡ suc m → n ≡ m
        suc_same e = omega arith

-- a type that is given is that of a typing
typed_at : (k t : ℕ) (ts : List Typing) → In t (types_at k ts) → (x : Typing) × Among x ts × (x.key ≡ k) × (x.type ≡ t)
typed_at k t [] i = absurd i
typed_at k t (y ∷ ts) i = by (λ j. typed_at k t ts j) (y.key == k) refl i
  where
    more : (x : Typing) × Among x ts × (x.key ≡ k) × (x.type ≡ t) → (x : Typing) × Among x (y ∷ ts) × (x.key ≡ k) × (x.type ≡ t)
    more q = (q.0, inr q.1, q.2, q.3)

    by : (In t (types_at k ts) → (x : Typing) × Among x ts × (x.key ≡ k) × (x.type ≡ t)) → (b : Bool) → (y.key == k) ≡ b →
        In t (map (λ x. x.type) (if b then y ∷ filter (λ x. x.key == k) ts else filter (λ x. x.key == k) ts)) →
        (x : Typing) × Among x (y ∷ ts) × (x.key ≡ k) × (x.type ≡ t)
    by again true e (inl same) = (y, inl refl, eqb-true y.key k e, sym same)
    by again true e (inr rest) = more (again rest)
    by again false e i = more (again i)

pub keys_meet : (p : Program) (f g : Func) → IsTyped p f → HasFields p → HasHead p g → KeysMeet p f g
keys_meet p f g typed fields head = record {
  types = λ ids keys args long b k t param type.
      let x = typed_at k t (flat_map (typings p) (parameters_of g)) (head.given k t param type) in
      subst (λ k. key_type f (stands_for keys k) ≡ Some t) x.2
      (find_types p f typed fields ids keys (parameters_of g) args long b x.0 x.1 ∙ ap Some x.3);
}
