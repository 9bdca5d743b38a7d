-- A statement's row, then those of its blocks.
use Rattle.std.proofs.Common.{◌≡◌, ℕ, ◌+◌, Bool, List, [], ◌∷◌, ◌++◌, Result, IfOk, sym, subst}
use Rattle.json.specs.Token.{Token}
use Rattle.vlt_base.specs.declared.ids.VarId.{VarId}
use Rattle.vlt_core.specs.Core as core
use Rattle.vlt_core.specs.View.{expr_of, form_of, block_of, arms_of}
use Rattle.vlt_core.specs.declared.program.Expr.{Expr}
use Rattle.vlt_core.specs.declared.program.Form.{Form}
use Rattle.vlt_core.specs.declared.program.Form.TheVariants as V
use Rattle.vlt_core.specs.declared.program.Block.{Block}
use Rattle.vlt_core.specs.declared.program.Arm.{Arm}
use Rattle.vlt_core.specs.declared.notes.Annotation.{Annotation}
use Rattle.vlt_core.proofs.Views.{if_form, while_form, switch_form, focus_form, scope_form}
use Rattle.cert_rows.specs.Rows as row
use Rattle.cert_format.specs.Bodies.{count, count_block, count_arms}
use Rattle.cert_values.specs.Heads.{plain_data, head_of}
use Rattle.cert_write.specs.Notes.{maps_in}
use Rattle.cert_write.specs.Rows.{IsPut, own_data, form_data, block_data, arms_data}
use Rattle.cert_write.specs.declared.cursor.Cursor.{Cursor}
use Rattle.cert_write.proofs.Going.{row_then, block_then}

module _ {E : Type 0} (bound : Bool) (annotations : List Annotation) (form : Form) (n : ℕ) (old mid new : List Token) (p : Cursor) (r : Result Cursor E) where
  -- the rows are those of the statement
  abbrev pub Writes : core.Form → Type 0
  Writes f = IfOk r (λ to. IsPut annotations n (count f) (form_data bound (maps_in annotations) n f) old new to)

  abbrev pub BlockFollows : core.Block → Type 0
  BlockFollows b = IfOk r (λ to. IsPut annotations p.next (count_block b) (block_data bound (maps_in annotations) p.next b) mid new to)

  abbrev pub ArmsFollow : core.Arms → Type 0
  ArmsFollow arms = IfOk r (λ to. IsPut annotations p.next (count_arms arms) (arms_data bound (maps_in annotations) p.next arms) mid new to)

  pub loop_then : (e : Expr) (b : Block) → form ≡ V.While e b → IsPut annotations n 1 (own_data bound (maps_in annotations) n (core.loop (expr_of e) (block_of b)) ∷ []) old mid p →
      BlockFollows (block_of b) → Writes (form_of form)
  loop_then e x is a b =
      subst Writes (sym (while_form form e x is))
      (row_then annotations n (count_block (block_of x)) (own_data bound (maps_in annotations) n (core.loop (expr_of e) (block_of x)))
      (λ k. block_data bound (maps_in annotations) k (block_of x)) old mid new p r a b)

  pub switch_then : (v : VarId) (arms first others : List Arm) (end : ℕ) → form ≡ V.Switch v arms end → first ≡ arms → others ≡ arms →
      ((e : ℕ) → IsPut annotations n 1 (own_data bound (maps_in annotations) n (core.switch v.0 (arms_of first) e) ∷ []) old mid p) →
      ArmsFollow (arms_of others) → Writes (form_of form)
  switch_then v arms first others end is one two a b =
      subst Writes (sym (switch_form form v arms end is))
      (row_then annotations n (count_arms (arms_of arms)) (own_data bound (maps_in annotations) n (core.switch v.0 (arms_of arms) end))
      (λ k. arms_data bound (maps_in annotations) k (arms_of arms)) old mid new p r
      (subst (λ l. IsPut annotations n 1 (own_data bound (maps_in annotations) n (core.switch v.0 (arms_of l) end) ∷ []) old mid p) one (a end))
      (subst (λ l. ArmsFollow (arms_of l)) two b))

  pub focus_then : (y z : VarId) (b : Block) → form ≡ V.Focus y z b → IsPut annotations n 1 (plain_data (row.focus y.0 z.0 (head_of (block_of b))) ∷ []) old mid p →
      BlockFollows (block_of b) → Writes (form_of form)
  focus_then y z x is a b =
      subst Writes (sym (focus_form form y z x is))
      (row_then annotations n (count_block (block_of x)) (own_data bound (maps_in annotations) n (core.focus y.0 z.0 (block_of x)))
      (λ k. block_data bound (maps_in annotations) k (block_of x)) old mid new p r a b)

  pub scope_then : (b : Block) → form ≡ V.Scope b → IsPut annotations n 1 (plain_data (row.scope (head_of (block_of b))) ∷ []) old mid p →
      BlockFollows (block_of b) → Writes (form_of form)
  scope_then x is a b =
      subst Writes (sym (scope_form form x is))
      (row_then annotations n (count_block (block_of x)) (own_data bound (maps_in annotations) n (core.scope (block_of x)))
      (λ k. block_data bound (maps_in annotations) k (block_of x)) old mid new p r a b)

  -- and those of a second block
  pub choice_then : (e : Expr) (x y : Block) (first : List Token) (q : Cursor) → form ≡ V.If e x y →
      IsPut annotations n 1 (own_data bound (maps_in annotations) n (core.choose (expr_of e) (block_of x) (block_of y)) ∷ []) old first q →
      IsPut annotations q.next (count_block (block_of x)) (block_data bound (maps_in annotations) q.next (block_of x)) first mid p →
      BlockFollows (block_of y) → Writes (form_of form)
  choice_then e x y first q is a b c =
      let m = maps_in annotations in
      subst Writes (sym (if_form form e x y is))
      (row_then annotations n (count_block (block_of x) + count_block (block_of y)) (own_data bound m n (core.choose (expr_of e) (block_of x) (block_of y)))
      (λ k. block_data bound m k (block_of x) ++ block_data bound m (k + count_block (block_of x)) (block_of y)) old first new q r a
      (block_then annotations q.next (count_block (block_of x)) (count_block (block_of y)) (block_data bound m q.next (block_of x))
      (λ k. block_data bound m k (block_of y)) first mid new p r b c))
