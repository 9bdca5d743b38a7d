-- An expression whose rows the held map passes gives a value that fits, or traps.
use Rattle.std.proofs.Common.{◌≡◌, ⊎_elim, ℕ, zero, suc, ℤ, pos, ◌<◌, Bool, true, false, not, List, [], ◌∷◌, ◌++◌, map, length, Option, Some, None, Result, Ok, Err, if◌then◌else◌, refl, sym, ap, ◌∙◌, subst, arith, slice_get}
use Rattle.std.proofs.lemmas.Option.{none-some, same_Some, slice_get_cases}
use Rattle.vlt_ops.specs.Operator.{row_of, applied, is_true, bool_number}
use Rattle.vlt_ops.specs.declared.Op.{Op}
use Rattle.vlt_ops.specs.declared.Op.TheVariants as op
use Rattle.vlt_ops.specs.declared.Takes.{Takes}
use Rattle.vlt_ops.specs.declared.Takes.TheVariants as takes
use Rattle.vlt_ops.specs.declared.TrapKind.{TrapKind}
use Rattle.vlt_core.specs.Core.{Ty, int, bool, tracked, owning, guarded, variant, owning_variant, FieldDecl, Expr, number, truth, var, field, unary, binary, Func, Program}
use Rattle.vlt_core.specs.Lookups.{var_type, is_owning, fields_of, fields_in}
use Rattle.vlt_core.specs.Maps.{HeldMap, CanPass}
use Rattle.vlt_core.specs.Rows.{expr_rows, touch_rows}
use Rattle.vlt_core.specs.Types.{same_ty, type_in, with_keys, stands_for, header_of}
use Rattle.vlt_core.specs.KindedHeads.{unless}
use Rattle.vlt_core.specs.KindedScopes.{Ids, use_broken}
use Rattle.vlt_core.specs.KindedOperands.{misfit, object_in, is_permitted, field_decl, field_type, field_type_in, unless_owning, given_by, type_of_expr, is_basic, basic_broken, basic_only, left_broken, right_wanted, touch_broken, not_owning_broken, expr_broken}
use Rattle.vlt_core.specs.declared.rules.TheConstants as rule
use Rattle.vlt_meaning.specs.World.{Object, Frame, Value, one}
use Rattle.vlt_meaning.specs.World as world
use Rattle.vlt_meaning.specs.Found.{Found, ◌>>=◌, or_fault}
use Rattle.vlt_meaning_laws.proofs.Keeping.{err-ok}
use Rattle.vlt_meaning.specs.Values.{number_in, is_number, or_trap, value_of_both, value_of}
use Rattle.vlt_sound_worlds.specs.Look.{look}
use Rattle.vlt_sound_worlds.specs.Scene.{Scene}
use Rattle.vlt_sound_worlds.specs.Fits.{Names, names_of, Fits}
use Rattle.vlt_sound_worlds.proofs.Fits.{fits_named, fits_before}
use Rattle.vlt_sound_worlds.specs.Agrees.{FitCells, Handed, Context, scene, Agrees}
use Rattle.vlt_sound_worlds.specs.Typed.{IsTyped}
use Rattle.vlt_sound_worlds.specs.Fine.{IsRead, IsFine}
use Rattle.vlt_sound_worlds.proofs.Empty.{both_empty, unless_so}
use Rattle.vlt_sound_worlds.proofs.Touch.{Used, used, Touched, touched_tracked, touched_guarded}
use Rattle.vlt_sound_worlds.proofs.Rows.{pass_after, expr_stays}

-- ---- rows one after another that keep the map

module _ (p : Program) (s : Scene) (names : Names) where
  number_fits : (b : Bool) (z : ℤ) → Fits p s names (if b then int else bool) (one (world.number z))
  number_fits true z = record { part = world.number z; is = refl; fits = (z, refl) }
  number_fits false z = record { part = world.number z; is = refl; fits = (z, refl) }

  basic_owns : (b : Bool) → is_owning (if b then int else bool) ≡ false
  basic_owns true = refl
  basic_owns false = refl

  -- what an operator gives
  pub given_fits : (o : Op) (z : ℤ) → IsRead p s names (Some (given_by o)) (one (world.number z))
  given_fits o z =
      record { ty = given_by o; known = refl; plain = basic_owns (row_of o).gives_int; fits = number_fits (row_of o).gives_int z }

  pub trap_fine : (o : Op) (r : Result ℤ TrapKind) → IsFine p s names (Some (given_by o)) (or_trap r)
  trap_fine o (Ok z) = given_fits o z
  trap_fine o (Err t) = refl

  -- a value of type int or bool is a number
  pub record IsNumber (v : Value) : Type 0 where
    pub z : ℤ
    pub is : number_in v ≡ Ok z

  basic_number : (ty : Ty) (v : Value) → is_basic ty ≡ true → Fits p s names ty v → IsNumber v
  basic_number int v b f = record { z = f.fits.0; is = ap number_in (f.is ∙ ap one f.fits.1) }
  basic_number bool v b f = record { z = f.fits.0; is = ap number_in (f.is ∙ ap one f.fits.1) }
  basic_number (tracked k t a) v b f = cc
  basic_number (owning k t a) v b f = cc
  basic_number (guarded k t a) v b f = cc
  basic_number (variant t a) v b f = cc
  basic_number (owning_variant t a) v b f = cc

  basic_same : (w ty : Ty) → is_basic w ≡ true → same_ty w ty ≡ true → is_basic ty ≡ true
  basic_same int int b e = refl
  basic_same bool bool b e = refl
  basic_same int bool b e = cc
  basic_same int (tracked k t a) b e = cc
  basic_same int (owning k t a) b e = cc
  basic_same int (guarded k t a) b e = cc
  basic_same int (variant t a) b e = cc
  basic_same int (owning_variant t a) b e = cc
  basic_same bool int b e = cc
  basic_same bool (tracked k t a) b e = cc
  basic_same bool (owning k t a) b e = cc
  basic_same bool (guarded k t a) b e = cc
  basic_same bool (variant t a) b e = cc
  basic_same bool (owning_variant t a) b e = cc
  basic_same (tracked k t a) ty b e = cc
  basic_same (owning k t a) ty b e = cc
  basic_same (guarded k t a) ty b e = cc
  basic_same (variant t a) ty b e = cc
  basic_same (owning_variant t a) ty b e = cc

  -- what a basic type is wanted of is a number
  pub wanted_number : (w : Ty) (type : Option Ty) (v : Value) → is_basic w ≡ true → misfit (Some w) type ≡ [] →
      IsRead p s names type v → IsNumber v
  wanted_number w type v b e r =
      let same : misfit (Some w) (Some r.ty) ≡ [] = subst (λ t. misfit (Some w) t ≡ []) r.known e in
      basic_number r.ty v (basic_same w r.ty b (unless_so (same_ty w r.ty) rule.WRONG_TYPE same)) r.fits

  left_number : (t : Takes) (type : Option Ty) (v : Value) → left_broken t type ≡ [] → IsRead p s names type v →
      IsNumber v
  left_number takes.Int type v e r = wanted_number int type v refl e r
  left_number takes.Bool type v e r = wanted_number bool type v refl e r
  left_number takes.Either type v e r =
      let b : basic_broken (Some r.ty) ≡ [] = subst (λ t. basic_broken t ≡ []) r.known e in
      basic_number r.ty v (unless_so (is_basic r.ty) rule.WRONG_TYPE b) r.fits

  -- the type that the right operand is wanted of is basic where the left one's is known and fits
  right_number : (t : Takes) (left type : Option Ty) (v w : Value) → left_broken t left ≡ [] → IsRead p s names left w →
      misfit (right_wanted t left) type ≡ [] → IsRead p s names type v → IsNumber v
  right_number takes.Int left type v w l lr e r = wanted_number int type v refl e r
  right_number takes.Bool left type v w l lr e r = wanted_number bool type v refl e r
  right_number takes.Either left type v w l lr e r =
      let b : basic_broken (Some lr.ty) ≡ [] = subst (λ t. basic_broken t ≡ []) lr.known l in
      let basic = unless_so (is_basic lr.ty) rule.WRONG_TYPE b in
      let is : right_wanted takes.Either left ≡ Some lr.ty =
      ap basic_only lr.known ∙ ap (λ b. if b then Some lr.ty else None) basic in
      wanted_number lr.ty type v basic (subst (λ w. misfit w type ≡ []) is e) r

-- ---- fields

pub not_so : (b : Bool) → not b ≡ true → b ≡ false
not_so true e = cc
not_so false e = refl

pub not_owning : (ty : Ty) (r : ℕ) (type : Option Ty) → type ≡ Some ty → not_owning_broken r type ≡ [] →
    is_owning ty ≡ false
not_owning ty r type is e =
    let q : unless (not (is_owning ty)) r ≡ [] = subst (λ t. not_owning_broken r t ≡ []) is e in
    not_so (is_owning ty) (unless_so (not (is_owning ty)) r q)

-- the object that stands for a key of the header
pub names_at : (names : Names) (args : List ℕ) (k : ℕ) → k < length args →
    names_of (map names args) k ≡ names (stands_for args k)
names_at names [] k lt = absurd (omega arith)
names_at names (a ∷ args) zero lt = refl
names_at names (a ∷ args) (suc k) lt = names_at names args k (omega arith)

-- a field of a live object has a value that fits
pub cell_at : (p : Program) (s : Scene) (names : Names) (ds : List FieldDecl) (cells : List Value) (i : ℕ)
    (d : FieldDecl) →
    FitCells p s names ds cells → slice_get ds i ≡ Some d →
    (a : Value) × (slice_get cells i ≡ Some a) × Fits p s names d.ty a
cell_at p s names [] cells i d fit at = absurd (none-some d at)
cell_at p s names (x ∷ ds) [] i d fit at = absurd fit
cell_at p s names (x ∷ ds) (a ∷ cells) zero d fit at =
    (a, refl, subst (λ x. Fits p s names x.ty a) (same_Some x d at) fit.0)
cell_at p s names (x ∷ ds) (a ∷ cells) (suc i) d fit at = cell_at p s names ds cells i d fit.1 at

-- the field that a touch names
pub record FieldAt (p : Program) (f : Func) (x i t : ℕ) : Type 0 where
  pub decl : FieldDecl
  pub at : slice_get (fields_of p t) i ≡ Some decl
  pub permitted : is_permitted p (var_type f x) decl ≡ true

module _ {p : Program} {f : Func} (typed : IsTyped p f) (ids : Ids) where
  pub field_at : (x i t : ℕ) (args : List ℕ) (ty : Ty) → touch_broken p f ids x i ≡ [] → var_type f x ≡ Some ty →
      object_in (Some ty) ≡ Some (t, args) →
      type_in ty ≡ Some t → FieldAt p f x i t
  field_at x i t args ty e is object declared =
      let dec = typed.vars x ty t is declared in
      let e1 = (both_empty (use_broken f ids x) _ e).1 in
      let e2 = rw is at e1 in
      let e3 = rw object at e2 in
      let e4 = rw dec.is at e3 in
      ⊎_elim
      (λ r.
      let e5 = rw r.2 at e4 in
      record { decl = r.0; at = ap (λ o. slice_get (fields_in o) i) dec.is ∙ r.2; permitted = unless_so (is_permitted p (var_type f x) r.0) rule.GUARDED_FIELD e5 })
      (λ past. let e5 = rw past.1 at e4 in cc)
      (slice_get_cases (fields_in (Some dec.decl)) i).1

  -- ---- expressions

  module _ {c : Context} {h : HeldMap} {hand : List Handed} {frame : Frame} {os : List Object}
      (agrees : Agrees p f c h ids hand frame os) where
    -- the object of a touch, its field, and what the field has
    pub record Read (x i : ℕ) : Type 0 where
      pub type : ℕ
      pub args : List ℕ
      pub count : length args ≡ length (header_of p type)
      pub touch : Touched p f x i type args frame (scene c os agrees.heads)
      pub field : FieldAt p f x i type
      pub field_is : field_type p f x i ≡ Some (with_keys args field.decl.ty)
      pub value : Value
      pub at : slice_get (look os touch.number).cells i ≡ Some value
      pub fits : Fits p (scene c os agrees.heads) frame.keys (with_keys args field.decl.ty) value

    read_from : (x i t : ℕ) (args : List ℕ) → length args ≡ length (header_of p t) →
        object_in (var_type f x) ≡ Some (t, args) →
        FieldAt p f x i t → Touched p f x i t args frame (scene c os agrees.heads) → Read x i
    read_from x i t args count object d touch =
        let fit = agrees.objects touch.number touch.live in
        let declared : slice_get (fields_of p (look os touch.number).type) i ≡ Some d.decl =
        ap (λ t. slice_get (fields_of p t) i) touch.of.typed ∙ d.at in
        let cell =
        cell_at p (scene c os agrees.heads)
        (names_of (agrees.heads touch.number)) _ _ i d.decl fit.cells declared in
        record {
          type = t;
          args = args;
          count = count;
          touch = touch;
          field = d;
          field_is = ap (λ o. field_type_in o (field_decl p o i)) object ∙ ap (field_type_in (Some (t, args))) d.at;
          value = cell.0;
          at = cell.1;
          fits = fits_before p (scene c os agrees.heads) frame.keys args d.decl.ty cell.0
              (fits_named p (scene c os agrees.heads) (names_of (agrees.heads touch.number)) (λ k. frame.keys (stands_for args k)) d.decl.ty cell.0
              (λ k i'. let lt = typed.fields t i d.decl d.at k i' in
              sym
              (ap (λ hs. names_of hs k) touch.of.headed ∙ names_at frame.keys args k (subst (λ n. k < n) (sym count) lt)))
              cell.2);
        }

    pub read : (x i : ℕ) → touch_broken p f ids x i ≡ [] → CanPass (touch_rows p f x i) h → Read x i
    read x i e pass = by u.ty u.is
      where
        u : Used f ids x
        u = used f ids x (both_empty (use_broken f ids x) _ e).0

        by : (ty : Ty) → var_type f x ≡ Some ty → Read x i
        by (tracked k t args) ty =
            let d = field_at x i t args (tracked k t args) e ty refl refl in
            read_from x i t args (typed.vars x (tracked k t args) t ty refl).count (ap object_in ty) d
            (touched_tracked agrees x i k t args u.scoped ty pass)
        by (guarded k t args) ty =
            let d = field_at x i t args (guarded k t args) e ty refl refl in
            read_from x i t args (typed.vars x (guarded k t args) t ty refl).count (ap object_in ty) d
            (touched_guarded agrees x i k t args typed.limited u.scoped ty d.decl d.at
            (ap (λ o. is_permitted p o d.decl) (sym ty) ∙ d.permitted) pass)
        by int ty = let e1 = (both_empty (use_broken f ids x) _ e).1 in let e2 = rw ty at e1 in cc
        by bool ty = let e1 = (both_empty (use_broken f ids x) _ e).1 in let e2 = rw ty at e1 in cc
        by (owning S t args) ty = let e1 = (both_empty (use_broken f ids x) _ e).1 in let e2 = rw ty at e1 in cc
        by (variant t args) ty = let e1 = (both_empty (use_broken f ids x) _ e).1 in let e2 = rw ty at e1 in cc
        by (owning_variant t args) ty = let e1 = (both_empty (use_broken f ids x) _ e).1 in let e2 = rw ty at e1 in cc

    -- the rest of an operator that takes two numbers
    both_fine : (o : Op) (z : ℤ) (type : Option Ty) (b : Found Value) →
        IsFine p (scene c os agrees.heads) frame.keys type b →
        ((v : Value) → IsRead p (scene c os agrees.heads) frame.keys type v → IsNumber p (scene c os agrees.heads) frame.keys v) →
        IsFine p (scene c os agrees.heads) frame.keys (Some (given_by o))
        (b >>= λ v. number_in v >>= λ y. or_trap (applied o z y))
    both_fine o z type (Err q) fine num = fine
    both_fine o z type (Ok v) fine num =
        let n = num v fine in
        subst
        (λ q. IsFine p (scene c os agrees.heads) frame.keys (Some (given_by o)) (q >>= λ y. or_trap (applied o z y))) (sym n.is)
        (trap_fine p (scene c os agrees.heads) frame.keys o (applied o z n.z))

    -- the right operand's value, where the left one doesn't decide
    right_fine : (o : Op) (type : Option Ty) (b : Found Value) → given_by o ≡ bool →
        IsFine p (scene c os agrees.heads) frame.keys type b →
        ((v : Value) → IsRead p (scene c os agrees.heads) frame.keys type v → IsNumber p (scene c os agrees.heads) frame.keys v) →
        IsFine p (scene c os agrees.heads) frame.keys (Some (given_by o)) b
    right_fine o type (Err q) is fine num = fine
    right_fine o type (Ok v) is fine num = number_read o v (num v fine)
      where
        one_of : (v : Value) (z : ℤ) → number_in v ≡ Ok z → v ≡ one (world.number z)
        one_of (one (world.number y)) z e = ap one (ap world.number (same_ok y z e))
          where
            same_ok : (y z : ℤ) → ◌≡◌ {A = Found ℤ} (Ok y) (Ok z) → y ≡ z
            same_ok y z e = ap value e
              where
                value : Found ℤ → ℤ
                value (Ok x) = x
                value (Err q) = pos 0
        one_of (one (world.reference n)) z e = absurd (err-ok e)
        one_of (one (world.owned n)) z e = absurd (err-ok e)
        one_of (world.of_case k ps ns) z e = absurd (err-ok e)

        number_read : (o : Op) (v : Value) → IsNumber p (scene c os agrees.heads) frame.keys v →
            IsRead p (scene c os agrees.heads) frame.keys (Some (given_by o)) v
        number_read o v n =
            subst (IsRead p (scene c os agrees.heads) frame.keys (Some (given_by o))) (sym (one_of v n.z n.is))
            (given_fits p (scene c os agrees.heads) frame.keys o n.z)

    if_fine : (t : Bool) (type : Option Ty) (a b : Found Value) → IsFine p (scene c os agrees.heads) frame.keys type a →
        IsFine p (scene c os agrees.heads) frame.keys type b →
        IsFine p (scene c os agrees.heads) frame.keys type (if t then a else b)
    if_fine true type a b x y = x
    if_fine false type a b x y = y

    joined_fine : (o : Op) (z : ℤ) (type : Option Ty) (b : Found Value) →
        IsFine p (scene c os agrees.heads) frame.keys type b →
        ((v : Value) → IsRead p (scene c os agrees.heads) frame.keys type v → IsNumber p (scene c os agrees.heads) frame.keys v) →
        IsFine p (scene c os agrees.heads) frame.keys (Some (given_by o)) (value_of_both o z b)
    joined_fine op.And z type b fine num =
        if_fine (is_true z) _ b (is_number z) (right_fine op.And type b refl fine num)
        (given_fits p (scene c os agrees.heads) frame.keys op.And z)
    joined_fine op.Or z type b fine num =
        if_fine (is_true z) _ (is_number z) b (given_fits p (scene c os agrees.heads) frame.keys op.Or z)
        (right_fine op.Or type b refl fine num)
    joined_fine op.Negate z type b fine num = both_fine op.Negate z type b fine num
    joined_fine op.Not z type b fine num = both_fine op.Not z type b fine num
    joined_fine op.Multiply z type b fine num = both_fine op.Multiply z type b fine num
    joined_fine op.Divide z type b fine num = both_fine op.Divide z type b fine num
    joined_fine op.Remainder z type b fine num = both_fine op.Remainder z type b fine num
    joined_fine op.Add z type b fine num = both_fine op.Add z type b fine num
    joined_fine op.Subtract z type b fine num = both_fine op.Subtract z type b fine num
    joined_fine op.Less z type b fine num = both_fine op.Less z type b fine num
    joined_fine op.LessOrEqual z type b fine num = both_fine op.LessOrEqual z type b fine num
    joined_fine op.Greater z type b fine num = both_fine op.Greater z type b fine num
    joined_fine op.GreaterOrEqual z type b fine num = both_fine op.GreaterOrEqual z type b fine num
    joined_fine op.Equal z type b fine num = both_fine op.Equal z type b fine num
    joined_fine op.NotEqual z type b fine num = both_fine op.NotEqual z type b fine num
    joined_fine op.BitAnd z type b fine num = both_fine op.BitAnd z type b fine num
    joined_fine op.BitXor z type b fine num = both_fine op.BitXor z type b fine num
    joined_fine op.BitOr z type b fine num = both_fine op.BitOr z type b fine num

    -- An expression gives a value that fits its type, or a trap.
    pub expr_fine : (e : Expr) → expr_broken p f ids e ≡ [] → CanPass (expr_rows p f e) h →
        IsFine p (scene c os agrees.heads) frame.keys (type_of_expr p f e) (value_of p f e frame os)
    expr_fine (number z) e pass =
        record { ty = int; known = refl; plain = refl; fits = record { part = world.number z; is = refl; fits = (z, refl) } }
    expr_fine (truth b) e pass =
        record { ty = bool; known = refl; plain = refl; fits = record { part = world.number (bool_number b); is = refl; fits = (bool_number b, refl) } }
    expr_fine (var v) e pass =
        let both = both_empty (use_broken f ids v) _ e in
        let u = used f ids v both.0 in
        let plain = not_owning u.ty rule.WRONG_TYPE (var_type f v) u.is both.1 in
        let there = agrees.fit.there v u.ty u.scoped u.is plain in
        subst
        (λ q. IsFine p (scene c os agrees.heads) frame.keys (type_of_expr p f (var v)) (or_fault world.no_value q)) (sym there.1)
        (record {
          ty = u.ty;
          known = ap unless_owning u.is ∙ ap (λ b. if b then None else Some u.ty) plain;
          plain = plain;
          fits = agrees.fit.fit v u.ty there.0 u.scoped u.is there.1;
        })
    expr_fine (field x i) e pass =
        let both = both_empty (touch_broken p f ids x i) _ e in
        let r = read x i both.0 pass in
        let plain =
        not_owning (with_keys r.args r.field.decl.ty) rule.WRONG_SWAP (field_type p f x i) r.field_is both.1 in
        subst (IsFine p (scene c os agrees.heads) frame.keys (type_of_expr p f (field x i)))
        (sym (ap (λ m. m >>= λ m. or_fault world.missing (slice_get m.object.cells i)) r.touch.found ∙ ap (or_fault world.missing) r.at))
        (record {
          ty = with_keys r.args r.field.decl.ty;
          known =
              ap unless_owning r.field_is ∙ ap (λ b. if b then None else Some (with_keys r.args r.field.decl.ty)) plain;
          plain = plain;
          fits = r.fits;
        })
    expr_fine (unary o a) e pass =
        let both = both_empty (expr_broken p f ids a) _ e in
        by (value_of p f a frame os) (expr_fine a both.0 pass)
        (left_number p (scene c os agrees.heads) frame.keys (row_of o).takes (type_of_expr p f a))
        both.1
      where
        by : (a' : Found Value) → IsFine p (scene c os agrees.heads) frame.keys (type_of_expr p f a) a' →
            ((v : Value) → left_broken (row_of o).takes (type_of_expr p f a) ≡ [] → IsRead p (scene c os agrees.heads) frame.keys (type_of_expr p f a) v → IsNumber p (scene c os agrees.heads) frame.keys v) →
            left_broken (row_of o).takes (type_of_expr p f a) ≡ [] →
            IsFine p (scene c os agrees.heads) frame.keys (Some (given_by o))
            (a' >>= λ v. number_in v >>= λ z. or_trap (applied o z (pos 0)))
        by (Err q) fine num l = fine
        by (Ok v) fine num l =
            let n = num v l fine in
            subst
            (λ q. IsFine p (scene c os agrees.heads) frame.keys (Some (given_by o)) (q >>= λ z. or_trap (applied o z (pos 0)))) (sym n.is)
            (trap_fine p (scene c os agrees.heads) frame.keys o (applied o n.z (pos 0)))
    expr_fine (binary o a b) e pass =
        let s3 =
        both_empty
        (expr_broken p f ids a ++ expr_broken p f ids b ++ left_broken (row_of o).takes (type_of_expr p f a)) _ e in
        let s2 = both_empty (expr_broken p f ids a ++ expr_broken p f ids b) _ s3.0 in
        let s1 = both_empty (expr_broken p f ids a) (expr_broken p f ids b) s2.0 in
        let rows = pass_after (expr_rows p f a) (expr_rows p f b) h (expr_stays p f a) pass in
        by (value_of p f a frame os) (expr_fine a s1.0 rows.0) (expr_fine b s1.1 rows.1) s2.1 s3.1
      where
        by : (a' : Found Value) → IsFine p (scene c os agrees.heads) frame.keys (type_of_expr p f a) a' →
            IsFine p (scene c os agrees.heads) frame.keys (type_of_expr p f b) (value_of p f b frame os) →
            left_broken (row_of o).takes (type_of_expr p f a) ≡ [] →
            misfit (right_wanted (row_of o).takes (type_of_expr p f a)) (type_of_expr p f b) ≡ [] →
            IsFine p (scene c os agrees.heads) frame.keys (Some (given_by o))
            (a' >>= λ v. number_in v >>= λ z. value_of_both o z (value_of p f b frame os))
        by (Err q) fine right l m = fine
        by (Ok v) fine right l m =
            let n = left_number p (scene c os agrees.heads) frame.keys (row_of o).takes (type_of_expr p f a) v l fine in
            subst
            (λ q. IsFine p (scene c os agrees.heads) frame.keys (Some (given_by o)) (q >>= λ z. value_of_both o z (value_of p f b frame os))) (sym n.is)
            (joined_fine o n.z (type_of_expr p f b) (value_of p f b frame os) right
            (λ w r. right_number p (scene c os agrees.heads) frame.keys (row_of o).takes (type_of_expr p f a) (type_of_expr p f b) w v l fine m r))
