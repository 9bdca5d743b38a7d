-- What is handed over for a reference is what its key names.
use Rattle.std.proofs.Common.{◌≡◌, ℕ, ◌==◌, nat_lt, ◌&&◌, Bool, true, false, if◌then◌else◌, List, [], ◌∷◌, length, Option, Some, None, Ok, Err, refl, sym, ap, ◌∙◌, subst, ◌⊎◌, inl, inr}
use Rattle.std.proofs.lemmas.Bool.{false≢true, eqb-true, eq-eqb}
use Rattle.std.proofs.lemmas.Option.{none-some}
use Rattle.vlt_ops.specs.Operator.{row_of}
use Rattle.vlt_core.specs.Core as core
use Rattle.vlt_core.specs.Core.{Ty, tracked, Expr, Operand, pure, move, pack, Func, Program}
use Rattle.vlt_core.specs.Lookups.{var_type, is_owning, is_owning_var}
use Rattle.vlt_core.specs.Types.{same_ty, same_object, with_keys}
use Rattle.vlt_core.specs.KindedHeads.{unless, has, is_field_type}
use Rattle.vlt_core.specs.KindedScopes.{Ids, use_broken}
use Rattle.vlt_core.specs.KindedOperands.{misfit, type_of_expr, given_by, expr_broken, operand_broken, touch_broken, not_owning_broken, unless_owning, field_type, field_type_in, field_decl, move_broken, pack_broken, fits_owning}
use Rattle.vlt_core.specs.declared.rules.TheConstants as rule
use Rattle.vlt_meaning.specs.World.{Value, one, reference, World, Frame, Outcome}
use Rattle.vlt_meaning.specs.World as source
use Rattle.vlt_meaning.specs.Found.{Found, or_fault, Named}
use Rattle.vlt_meaning.specs.Objects.{with_owner}
use Rattle.vlt_meaning.specs.Values.{value_of, object_of}
use Rattle.vlt_meaning.specs.Step as step
use Rattle.vlt_meaning.specs.Step.{Step}
use Rattle.vlt_meaning.specs.Operands.{with_operand, with_operands, with_empty_variable}
use Rattle.vlt_core_laws.proofs.Binding.{in_range, chosen}
use Rattle.c_lower_worlds.specs.Naming.Functions.{IsFunction}
use Rattle.c_lower_worlds.specs.Naming.Types.{TypesFit}
use Rattle.c_lower_worlds.specs.Naming.Naming.{IsOfKey, NamesRight}
use Rattle.c_lower_worlds.proofs.OfNaming.CallOperands.{OperandsFit}
use Rattle.c_lower_worlds.proofs.OfNaming.StepPromises.{found_holds}
use Rattle.c_lower_worlds.proofs.OfNaming.DeclaredVariables.{used_declared}
use Rattle.c_lower_worlds.proofs.OfNaming.FoundObjects.{or_fault_ok}
use Rattle.c_lower_worlds.proofs.OfNaming.TouchedFields.{touch_field}
use Rattle.c_lower_worlds.proofs.OfNaming.RuleFacts.{both_empty}
use Rattle.vlt_core_laws.proofs.Unbroken.{unless_holds, filled_not_empty}
use Rattle.vlt_core_laws.proofs.Ids.{and_left, and_right}

pub used_scope : (f : Func) (ids : Ids) (v : ℕ) → use_broken f ids v ≡ [] → has ids.vars v ≡ true
used_scope f ids v e =
    let there = in_range (nat_lt v (length f.vars)) (unless (has ids.vars v) rule.NAME_TAKEN) e in
    unless_holds (has ids.vars v) rule.NAME_TAKEN (chosen (nat_lt v (length f.vars)) (unless (has ids.vars v) rule.NAME_TAKEN) there e)

-- ---- expressions for references

-- a type that is the same as a reference's
pub record IsTrackedTy (k : ℕ) (ty : Ty) : Type 0 where
  pub type : ℕ
  pub args : List ℕ
  pub is : ty ≡ tracked k type args

pub same_tracked : (k t : ℕ) (args : List ℕ) (ty : Ty) → same_ty (tracked k t args) ty ≡ true → IsTrackedTy k ty
same_tracked k t args (tracked j u others) e = record { type = u; args = others; is = ap (λ j. tracked j u others) (sym (eqb-true k j (and_left (k == j) (same_object t args u others) e))) }
same_tracked k t args core.int e = absurd (false≢true e)
same_tracked k t args core.bool e = absurd (false≢true e)
same_tracked k t args (core.owning s u others) e = absurd (false≢true e)
same_tracked k t args (core.guarded j u others) e = absurd (false≢true e)
same_tracked k t args (core.variant u others) e = absurd (false≢true e)
same_tracked k t args (core.owning_variant u others) e = absurd (false≢true e)

-- an expression that gives a reference under this key is a variable
pub record IsVariableOf (f : Func) (ids : Ids) (k : ℕ) (e : Expr) : Type 0 where
  pub var : ℕ
  pub is : e ≡ core.var var
  pub scoped : has ids.vars var ≡ true
  pub type : ℕ
  pub args : List ℕ
  pub declared : var_type f var ≡ Some (tracked k type args)

-- the owning types of expressions aren't known
pub plain_type : (r : ℕ) (ty : Ty) → not_owning_broken r (Some ty) ≡ [] → unless_owning (Some ty) ≡ Some ty
plain_type r core.int e = refl
plain_type r core.bool e = refl
plain_type r (tracked j u others) e = refl
plain_type r (core.owning s u others) e = absurd (filled_not_empty r [] e)
plain_type r (core.guarded j u others) e = refl
plain_type r (core.variant u others) e = refl
plain_type r (core.owning_variant u others) e = absurd (filled_not_empty r [] e)

field_not : (p : Program) (k t : ℕ) (args keys : List ℕ) (ty : Ty) → is_field_type p ty ≡ true → same_ty (tracked k t args) (with_keys keys ty) ≡ true → ⊥
field_not p k t args keys (tracked j u others) h e = false≢true h
field_not p k t args keys core.int h e = false≢true e
field_not p k t args keys core.bool h e = false≢true e
field_not p k t args keys (core.owning s u others) h e = false≢true e
field_not p k t args keys (core.guarded j u others) h e = false≢true e
field_not p k t args keys (core.variant u others) h e = false≢true e
field_not p k t args keys (core.owning_variant u others) h e = false≢true e

given_not : (k t : ℕ) (args : List ℕ) (b : Bool) → same_ty (tracked k t args) (if b then core.int else core.bool) ≡ true → ⊥
given_not k t args true e = false≢true e
given_not k t args false e = false≢true e

module _ (p : Program) (types : TypesFit p) (f : Func) (is : IsFunction p f) (ids : Ids) where
  pub variable_of : (k t : ℕ) (args : List ℕ) (e : Expr) → expr_broken p f ids e ≡ [] → misfit (Some (tracked k t args)) (type_of_expr p f e) ≡ [] → IsVariableOf f ids k e
  variable_of k t args (core.number z) b m = absurd (false≢true (unless_holds false rule.WRONG_TYPE m))
  variable_of k t args (core.truth z) b m = absurd (false≢true (unless_holds false rule.WRONG_TYPE m))
  variable_of k t args (core.unary o a) b m =
      absurd (given_not k t args (row_of o).gives_int (unless_holds (same_ty (tracked k t args) (given_by o)) rule.WRONG_TYPE m))
  variable_of k t args (core.binary o a c) b m =
      absurd (given_not k t args (row_of o).gives_int (unless_holds (same_ty (tracked k t args) (given_by o)) rule.WRONG_TYPE m))
  variable_of k t args (core.var v) b m =
      let parts = both_empty (use_broken f ids v) (not_owning_broken rule.WRONG_TYPE (var_type f v)) b in
      let d = used_declared f ids v parts.left in
      let known = plain_type rule.WRONG_TYPE d.ty (subst (λ o. not_owning_broken rule.WRONG_TYPE o ≡ []) d.is parts.right) in
      let same = unless_holds (same_ty (tracked k t args) d.ty) rule.WRONG_TYPE (subst (λ o. misfit (Some (tracked k t args)) o ≡ []) (ap unless_owning d.is ∙ known) m) in
      let r = same_tracked k t args d.ty same in
      record { var = v; is = refl; scoped = used_scope f ids v parts.left; type = r.type; args = r.args; declared = d.is ∙ ap (λ ty. Some ty) r.is }
  variable_of k t args (core.field x i) b m =
      let parts = both_empty (touch_broken p f ids x i) (not_owning_broken rule.WRONG_SWAP (field_type p f x i)) b in
      let d = used_declared f ids x (both_empty (use_broken f ids x) _ parts.left).left in
      let h = touch_field p f ids x i d.ty d.is (types.objects f is x d.ty d.is) parts.left in
      let type_is : field_type p f x i ≡ Some (with_keys h.args h.decl.ty) =
      ap (λ o. field_type_in (Rattle.vlt_core.specs.KindedOperands.object_in o) (field_decl p (Rattle.vlt_core.specs.KindedOperands.object_in o) i)) h.is
      ∙ ap (λ o. field_type_in o (field_decl p o i)) h.object ∙ ap (field_type_in (Some (h.type, h.args))) h.at in
      let known = plain_type rule.WRONG_SWAP (with_keys h.args h.decl.ty) (subst (λ o. not_owning_broken rule.WRONG_SWAP o ≡ []) type_is parts.right) in
      absurd (field_not p k t args h.args h.decl.ty (types.fields h.type i h.decl h.at)
      (unless_holds (same_ty (tracked k t args) (with_keys h.args h.decl.ty)) rule.WRONG_TYPE (subst (λ o. misfit (Some (tracked k t args)) o ≡ []) (ap unless_owning type_is ∙ known) m)))

-- ---- operands

-- variables may have been emptied
pub record Emptied (s s2 : Frame) : Type 0 where
  pub keys : s2.keys ≡ s.keys
  pub vars : (v : ℕ) (a : Value) → s2.vars v ≡ Some a → s.vars v ≡ Some a

pub emptied_self : (s : Frame) → Emptied s s
emptied_self s = record { keys = refl; vars = λ v a e. e }

pub emptied_more : {a b c : Frame} → Emptied a b → Emptied b c → Emptied a c
emptied_more x y = record { keys = y.keys ∙ x.keys; vars = λ v a e. x.vars v a (y.vars v a e) }

pub emptied_one : (s : Frame) (v : ℕ) → Emptied s (step.with_var v None s)
emptied_one s v = record { keys = refl; vars = λ u a e. by u a (u == v) e }
  where
    by : (u : ℕ) (a : Value) → (b : Bool) → (if b then None else s.vars u) ≡ Some a → s.vars u ≡ Some a
    by u a true e = absurd (none-some a e)
    by u a false e = e

pub emptied_switch : (f : Func) (v : ℕ) (s : Frame) → Emptied s (with_empty_variable f v s)
emptied_switch f v s = by (is_owning_var f v)
  where
    by : (b : Bool) → Emptied s (if b then step.with_var v None s else s)
    by true = emptied_one s v
    by false = emptied_self s

pub emptied_names : (f : Func) (vars : List ℕ) (s s2 : Frame) → Emptied s s2 → NamesRight f vars s → NamesRight f vars s2
emptied_names f vars s s2 e h = record { at = λ v k t args i ty a q. subst (λ keys. IsOfKey keys k a) (sym e.keys) (h.at v k t args i ty a (e.vars v a q)) }

-- a value of this type, where that is a reference
abbrev pub IsOfTy : (keys : ℕ → Option ℕ) → Ty → Value → Type 0
IsOfTy keys ty a = (k t : ℕ) (args : List ℕ) → ty ≡ tracked k t args → IsOfKey keys k a

abbrev pub AreOfTys : (keys : ℕ → Option ℕ) → List Ty → List Value → Type 0
AreOfTys keys [] [] = Unit {0}
AreOfTys keys (ty ∷ tys) (a ∷ values) = IsOfTy keys ty a × AreOfTys keys tys values
AreOfTys keys _ _ = ⊥

tracked_not_owning : (ty : Ty) (k t : ℕ) (args : List ℕ) → IsTrackedTy k ty → is_owning ty ≡ true → ⊥
tracked_not_owning ty k t args h e = false≢true (subst (λ ty. is_owning ty ≡ true) h.is e)

fits_same : (k t : ℕ) (args : List ℕ) (ty : Ty) → fits_owning (tracked k t args) ty ≡ true → same_ty (tracked k t args) ty ≡ true
fits_same k t args core.int e = e
fits_same k t args core.bool e = e
fits_same k t args (tracked j u others) e = e
fits_same k t args (core.owning s u others) e = e
fits_same k t args (core.guarded j u others) e = e
fits_same k t args (core.variant u others) e = e
fits_same k t args (core.owning_variant u others) e = e

pack_not : (p : Program) (k t : ℕ) (args : List ℕ) (states : core.States) (ty : Ty) → pack_broken p (Some (tracked k t args)) (Some ty) states ≡ [] → ⊥
pack_not p k t args states (tracked j u others) e =
    let b = both_empty _ (unless (fits_owning (tracked k t args) (core.owning states u others) && is_owning (tracked k t args)) rule.WRONG_TYPE) e in
    false≢true (and_right (fits_owning (tracked k t args) (core.owning states u others)) false (unless_holds _ rule.WRONG_TYPE b.right))
pack_not p k t args states core.int e = filled_not_empty rule.WRONG_TYPE [] e
pack_not p k t args states core.bool e = filled_not_empty rule.WRONG_TYPE [] e
pack_not p k t args states (core.owning s u others) e = filled_not_empty rule.WRONG_TYPE [] e
pack_not p k t args states (core.guarded j u others) e = filled_not_empty rule.WRONG_TYPE [] e
pack_not p k t args states (core.variant u others) e = filled_not_empty rule.WRONG_TYPE [] e
pack_not p k t args states (core.owning_variant u others) e = filled_not_empty rule.WRONG_TYPE [] e

-- an operand that was handed over
pub record IsHandedOver (p : Program) (f : Func) (ids : Ids) (o : Operand) (s : Frame) (a : Value) (s2 : Frame) : Type 0 where
  pub emptied : Emptied s s2
  pub named : (k t : ℕ) (args : List ℕ) → operand_broken p f ids (Some (tracked k t args)) o ≡ [] → IsOfKey s.keys k a
  pub variable : (x : ℕ) → o ≡ pure (core.var x) → s2.vars x ≡ Some a

-- where an operand ends up, whatever follows
pub record OperandEnds (p : Program) (f : Func) (o : Operand) (s : Frame) (w : World) : Type 0 where
  pub outcome : Outcome
  pub is : (go : Value → Frame → World → Step) → with_operand p f o s w go ≡ step.ends outcome w

pub record OperandGives (p : Program) (f : Func) (ids : Ids) (o : Operand) (s : Frame) (w : World) : Type 0 where
  pub value : Value
  pub frame : Frame
  pub world : World
  pub is : (go : Value → Frame → World → Step) → with_operand p f o s w go ≡ go value frame world
  pub handed : IsHandedOver p f ids o s value frame

pub record OperandsEnd (p : Program) (f : Func) (os : List Operand) (s : Frame) (w : World) : Type 0 where
  pub outcome : Outcome
  pub world : World
  pub is : (go : List Value → Frame → World → Step) → with_operands p f os s w go ≡ step.ends outcome world

pub record OperandsGive (p : Program) (f : Func) (tys : List Ty) (os : List Operand) (s : Frame) (w : World) : Type 0 where
  pub values : List Value
  pub frame : Frame
  pub world : World
  pub is : (go : List Value → Frame → World → Step) → with_operands p f os s w go ≡ go values frame world
  pub emptied : Emptied s frame
  pub named : AreOfTys s.keys tys values

module _ (p : Program) (types : TypesFit p) (f : Func) (is : IsFunction p f) (ids : Ids) where
  pub operand_comes : (o : Operand) (s : Frame) (w : World) → NamesRight f ids.vars s → OperandEnds p f o s w ⊎ OperandGives p f ids o s w
  unfolding with_operand step.with_found
  operand_comes (pure e) s w h = by (value_of p f e s w.objects) refl
    where
      pure_same : (a b : Expr) → pure a ≡ pure b → a ≡ b
      pure_same a b e = cc

      by : (r : Found Value) → value_of p f e s w.objects ≡ r → OperandEnds p f (pure e) s w ⊎ OperandGives p f ids (pure e) s w
      by (Err o) q = inl (record { outcome = o; is = λ go. rw q refl })
      by (Ok a) q = inr (record {
        value = a;
        frame = s;
        world = w;
        is = λ go. rw q refl;
        handed = record {
          emptied = emptied_self s;
          named = λ k u args b.
              let c = both_empty (expr_broken p f ids e) _ b in
              let x = variable_of p types f is ids k u args e c.left c.right in
              h.at x.var k x.type x.args x.scoped x.declared a (or_fault_ok source.no_value (s.vars x.var) a (sym (ap (λ e. value_of p f e s w.objects) x.is) ∙ q));
          variable = λ x same. or_fault_ok source.no_value (s.vars x) a (sym (ap (λ e. value_of p f e s w.objects) (pure_same e (core.var x) same)) ∙ q);
        };
      })
  operand_comes (move v) s w h = by (or_fault source.no_value (s.vars v)) refl
    where
      never_move : (x : ℕ) → move v ≡ pure (core.var x) → ⊥
      never_move x e = cc

      by : (r : Found Value) → or_fault source.no_value (s.vars v) ≡ r → OperandEnds p f (move v) s w ⊎ OperandGives p f ids (move v) s w
      by (Err o) q = inl (record { outcome = o; is = λ go. rw q refl })
      by (Ok a) q = inr (record {
        value = a;
        frame = step.with_var v None s;
        world = w;
        is = λ go. rw q refl;
        handed = record {
          emptied = emptied_one s v;
          named = λ k u args b.
              let c = both_empty (use_broken f ids v) (move_broken (Some (tracked k u args)) (var_type f v)) b in
              let d = used_declared f ids v c.left in
              let m : move_broken (Some (tracked k u args)) (Some d.ty) ≡ [] = subst (λ o. move_broken (Some (tracked k u args)) o ≡ []) d.is c.right in
              let both = unless_holds (is_owning d.ty && fits_owning (tracked k u args) d.ty) rule.WRONG_TYPE m in
              absurd (tracked_not_owning d.ty k u args (same_tracked k u args d.ty (fits_same k u args d.ty (and_right (is_owning d.ty) (fits_owning (tracked k u args) d.ty) both)))
              (and_left (is_owning d.ty) (fits_owning (tracked k u args) d.ty) both));
          variable = λ x same. absurd (never_move x same);
        };
      })
  operand_comes (pack x states) s w h = by (object_of f (λ r. states) x s w.objects) refl
    where
      never_pack : (y : ℕ) → pack x states ≡ pure (core.var y) → ⊥
      never_pack y e = cc

      by : (r : Found Named) → object_of f (λ r. states) x s w.objects ≡ r → OperandEnds p f (pack x states) s w ⊎ OperandGives p f ids (pack x states) s w
      by (Err o) q = inl (record { outcome = o; is = λ go. rw q refl })
      by (Ok n) q = inr (record {
        value = one (source.owned n.number);
        frame = s;
        world = step.with_changed w n.number (with_owner source.loose);
        is = λ go. rw q refl;
        handed = record {
          emptied = emptied_self s;
          named = λ k u args b.
              let c = both_empty (use_broken f ids x) (pack_broken p (Some (tracked k u args)) (var_type f x) states) b in
              let d = used_declared f ids x c.left in
              absurd (pack_not p k u args states d.ty (subst (λ o. pack_broken p (Some (tracked k u args)) o states ≡ []) d.is c.right));
          variable = λ y same. absurd (never_pack y same);
        };
      })

  pub operands_come : (tys : List Ty) (os : List Operand) (s : Frame) (w : World) → OperandsFit p f ids tys os → NamesRight f ids.vars s → OperandsEnd p f os s w ⊎ OperandsGive p f tys os s w
  unfolding with_operands
  operands_come [] [] s w b h = inr (record { values = []; frame = s; world = w; is = λ go. refl; emptied = emptied_self s; named = tt })
  operands_come [] (o ∷ os) s w b h = absurd b
  operands_come (ty ∷ tys) [] s w b h = absurd b
  operands_come (ty ∷ tys) (o ∷ os) s w b h = by (operand_comes o s w h) (λ s2 w2 h2. operands_come tys os s2 w2 b.1 h2)
    where
      by : OperandEnds p f o s w ⊎ OperandGives p f ids o s w → ((s2 : Frame) (w2 : World) → NamesRight f ids.vars s2 → OperandsEnd p f os s2 w2 ⊎ OperandsGive p f tys os s2 w2) →
          OperandsEnd p f (o ∷ os) s w ⊎ OperandsGive p f (ty ∷ tys) (o ∷ os) s w
      by (inl e) more = inl (record { outcome = e.outcome; world = w; is = λ go. e.is (λ a s w. with_operands p f os s w (λ rest s w. go (a ∷ rest) s w)) })
      by (inr g) more = rest (more g.frame g.world (emptied_names f ids.vars s g.frame g.handed.emptied h))
        where
          rest : OperandsEnd p f os g.frame g.world ⊎ OperandsGive p f tys os g.frame g.world → OperandsEnd p f (o ∷ os) s w ⊎ OperandsGive p f (ty ∷ tys) (o ∷ os) s w
          rest (inl e) = inl (record { outcome = e.outcome; world = e.world; is = λ go. g.is (λ a s w. with_operands p f os s w (λ rest s w. go (a ∷ rest) s w)) ∙ e.is (λ rest s w. go (g.value ∷ rest) s w) })
          rest (inr r) = inr (record {
            values = g.value ∷ r.values;
            frame = r.frame;
            world = r.world;
            is = λ go. g.is (λ a s w. with_operands p f os s w (λ rest s w. go (a ∷ rest) s w)) ∙ r.is (λ rest s w. go (g.value ∷ rest) s w);
            emptied = emptied_more g.handed.emptied r.emptied;
            named = ((λ k t args e. g.handed.named k t args (subst (λ ty. operand_broken p f ids (Some ty) o ≡ []) e b.0)), subst (λ keys. AreOfTys keys tys r.values) g.handed.emptied.keys r.named);
          })

module _ (P : Step → Type 0) (over : (o : Outcome) (w : World) → P (step.ends o w)) where
  -- whatever is handed over
  pub operand_holds : (p : Program) (f : Func) (o : Operand) (s : Frame) (w : World) (go : Value → Frame → World → Step) →
      ((a : Value) (s2 : Frame) (w2 : World) → Emptied s s2 → P (go a s2 w2)) → P (with_operand p f o s w go)
  unfolding with_operand
  operand_holds p f (pure e) s w go t = found_holds P over _ w _ (λ a q. t a s w (emptied_self s))
  operand_holds p f (move v) s w go t = found_holds P over _ w _ (λ a q. t a (step.with_var v None s) w (emptied_one s v))
  operand_holds p f (pack x states) s w go t = found_holds P over _ w _ (λ n q. t _ s _ (emptied_self s))

  pub operands_hold : (p : Program) (f : Func) (os : List Operand) (s : Frame) (w : World) (go : List Value → Frame → World → Step) →
      ((values : List Value) (s2 : Frame) (w2 : World) → Emptied s s2 → P (go values s2 w2)) → P (with_operands p f os s w go)
  unfolding with_operands
  operands_hold p f [] s w go t = t [] s w (emptied_self s)
  operands_hold p f (o ∷ os) s w go t =
      operand_holds p f o s w _ (λ a s2 w2 e. operands_hold p f os s2 w2 _ (λ values s3 w3 e3. t (a ∷ values) s3 w3 (emptied_more e e3)))

  module _ (p : Program) (types : TypesFit p) (f : Func) (is : IsFunction p f) (ids : Ids) where
    pub operand_known : (o : Operand) (s : Frame) (w : World) (go : Value → Frame → World → Step) → NamesRight f ids.vars s →
        ((a : Value) (s2 : Frame) (w2 : World) → IsHandedOver p f ids o s a s2 → P (go a s2 w2)) → P (with_operand p f o s w go)
    operand_known o s w go h t = by (operand_comes p types f is ids o s w h)
      where
        by : OperandEnds p f o s w ⊎ OperandGives p f ids o s w → P (with_operand p f o s w go)
        by (inl e) = subst P (sym (e.is go)) (over e.outcome w)
        by (inr g) = subst P (sym (g.is go)) (t g.value g.frame g.world g.handed)

    pub operands_named : (tys : List Ty) (os : List Operand) (s : Frame) (w : World) (go : List Value → Frame → World → Step) → OperandsFit p f ids tys os → NamesRight f ids.vars s →
        ((values : List Value) (s2 : Frame) (w2 : World) → Emptied s s2 → AreOfTys s.keys tys values → P (go values s2 w2)) → P (with_operands p f os s w go)
    operands_named tys os s w go b h t = by (operands_come p types f is ids tys os s w b h)
      where
        by : OperandsEnd p f os s w ⊎ OperandsGive p f tys os s w → P (with_operands p f os s w go)
        by (inl e) = subst P (sym (e.is go)) (over e.outcome e.world)
        by (inr g) = subst P (sym (g.is go)) (t g.values g.frame g.world g.emptied g.named)

-- ---- the same as a test

abbrev is_some_number : Option ℕ → ℕ → Bool
is_some_number None n = false
is_some_number (Some m) n = m == n

abbrev is_of_ty : (keys : ℕ → Option ℕ) → Ty → Value → Bool
is_of_ty keys (tracked k t args) (one (reference n)) = is_some_number (keys k) n
is_of_ty keys (tracked k t args) a = false
is_of_ty keys ty a = true

abbrev pub are_of_tys : (keys : ℕ → Option ℕ) → List Ty → List Value → Bool
are_of_tys keys [] [] = true
are_of_tys keys (ty ∷ tys) (a ∷ values) = is_of_ty keys ty a && are_of_tys keys tys values
are_of_tys keys _ _ = false

ty_passes : (keys : ℕ → Option ℕ) (ty : Ty) (a : Value) → IsOfTy keys ty a → is_of_ty keys ty a ≡ true
ty_passes keys (tracked k t args) a h = let r = h k t args refl in subst (λ a. is_of_ty keys (tracked k t args) a ≡ true) (sym r.is) (ap (λ o. is_some_number o r.number) r.named ∙ eq-eqb r.number r.number refl)
ty_passes keys core.int a h = refl
ty_passes keys core.bool a h = refl
ty_passes keys (core.owning s u others) a h = refl
ty_passes keys (core.guarded j u others) a h = refl
ty_passes keys (core.variant u others) a h = refl
ty_passes keys (core.owning_variant u others) a h = refl

ty_passed : (keys : ℕ → Option ℕ) (ty : Ty) (a : Value) → is_of_ty keys ty a ≡ true → IsOfTy keys ty a
ty_passed keys (tracked j u others) (one (reference n)) e k t args same = subst (λ k. IsOfKey keys k (one (reference n))) (own_same j k u t others args same) (by (keys j) refl e)
  where
    own_same : (j k t u : ℕ) (args others : List ℕ) → tracked j t args ≡ tracked k u others → j ≡ k
    own_same j k t u args others e = cc

    by : (o : Option ℕ) → keys j ≡ o → is_some_number o n ≡ true → IsOfKey keys j (one (reference n))
    by None q e = absurd (false≢true e)
    by (Some m) q e = record { number = n; is = refl; named = q ∙ ap (λ m. Some m) (eqb-true m n e) }
ty_passed keys (tracked j u others) (one (source.number z)) e k t args same = absurd (false≢true e)
ty_passed keys (tracked j u others) (one (source.owned n)) e k t args same = absurd (false≢true e)
ty_passed keys (tracked j u others) (source.of_case c parts ns) e k t args same = absurd (false≢true e)
ty_passed keys core.int a e k t args same = absurd (never_tracked k t args same)
  where
    never_tracked : (k t : ℕ) (args : List ℕ) → core.int ≡ tracked k t args → ⊥
    never_tracked k t args e = cc
ty_passed keys core.bool a e k t args same = absurd (never_tracked k t args same)
  where
    never_tracked : (k t : ℕ) (args : List ℕ) → core.bool ≡ tracked k t args → ⊥
    never_tracked k t args e = cc
ty_passed keys (core.owning s u others) a e k t args same = absurd (never_tracked k t args same)
  where
    never_tracked : (k t : ℕ) (args : List ℕ) → core.owning s u others ≡ tracked k t args → ⊥
    never_tracked k t args e = cc
ty_passed keys (core.guarded j u others) a e k t args same = absurd (never_tracked k t args same)
  where
    never_tracked : (k t : ℕ) (args : List ℕ) → core.guarded j u others ≡ tracked k t args → ⊥
    never_tracked k t args e = cc
ty_passed keys (core.variant u others) a e k t args same = absurd (never_tracked k t args same)
  where
    never_tracked : (k t : ℕ) (args : List ℕ) → core.variant u others ≡ tracked k t args → ⊥
    never_tracked k t args e = cc
ty_passed keys (core.owning_variant u others) a e k t args same = absurd (never_tracked k t args same)
  where
    never_tracked : (k t : ℕ) (args : List ℕ) → core.owning_variant u others ≡ tracked k t args → ⊥
    never_tracked k t args e = cc

pub tys_pass : (keys : ℕ → Option ℕ) (tys : List Ty) (values : List Value) → AreOfTys keys tys values → are_of_tys keys tys values ≡ true
tys_pass keys [] [] h = refl
tys_pass keys [] (a ∷ values) h = absurd h
tys_pass keys (ty ∷ tys) [] h = absurd h
tys_pass keys (ty ∷ tys) (a ∷ values) h = rw (ty_passes keys ty a h.0) (tys_pass keys tys values h.1)

pub tys_passed : (keys : ℕ → Option ℕ) (tys : List Ty) (values : List Value) → are_of_tys keys tys values ≡ true → AreOfTys keys tys values
tys_passed keys [] [] e = tt
tys_passed keys [] (a ∷ values) e = absurd (false≢true e)
tys_passed keys (ty ∷ tys) [] e = absurd (false≢true e)
tys_passed keys (ty ∷ tys) (a ∷ values) e = (ty_passed keys ty a (and_left (is_of_ty keys ty a) (are_of_tys keys tys values) e), tys_passed keys tys values (and_right (is_of_ty keys ty a) (are_of_tys keys tys values) e))

-- what follows operands may ask whether references are what their keys name
pub operands_tested : (p : Program) (types : TypesFit p) (f : Func) (is : IsFunction p f) (ids : Ids) (tys : List Ty) (os : List Operand) (s : Frame) (w : World) (go : List Value → Frame → World → Step) →
    OperandsFit p f ids tys os → NamesRight f ids.vars s →
    with_operands p f os s w (λ values s2 w2. step.where_so (are_of_tys s2.keys tys values) source.missing None w2 (λ w3. go values s2 w3)) ≡ with_operands p f os s w go
unfolding step.where_so
operands_tested p types f is ids tys os s w go b h = by (operands_come p types f is ids tys os s w b h)
  where
    tested : List Value → Frame → World → Step
    tested values s2 w2 = step.where_so (are_of_tys s2.keys tys values) source.missing None w2 (λ w3. go values s2 w3)

    by : OperandsEnd p f os s w ⊎ OperandsGive p f tys os s w → with_operands p f os s w tested ≡ with_operands p f os s w go
    by (inl e) = e.is tested ∙ sym (e.is go)
    by (inr g) =
        g.is tested ∙ ap (λ b. step.where_so b source.missing None g.world (λ w3. go g.values g.frame w3)) (tys_pass g.frame.keys tys g.values (subst (λ keys. AreOfTys keys tys g.values) (sym g.emptied.keys) g.named)) ∙ sym (g.is go)
