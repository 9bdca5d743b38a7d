-- A variable whose value a statement moves has one, where the statement's rows are passed.
use Rattle.std.proofs.Common.{◌≡◌, ◌⊎◌, inl, inr, ⊎_elim, ℕ, Bool, true, false, if◌then◌else◌, List, [], ◌∷◌, ◌++◌, map, Option, Some, None, refl, sym, ap, ◌∙◌, subst, slice_get}
use Rattle.std.proofs.lemmas.Bool.{cases_eq}
use Rattle.vlt_core.specs.Core.{Ty, Tok, a_key, a_var, Operand, pure, move, pack, Simple, set, input, print, put, make, become, release, drop, own, unpack, build, swap, open_into, adopt, Form, simple, call, choose, loop, switch, focus, scope, return, jump, Func, Program}
use Rattle.vlt_core.specs.Lookups.{Reference, reference_of, variant_of, case_keys, var_type, is_owning_var, owns}
use Rattle.vlt_core.specs.Maps.{absent, full, HeldMap, wants_in, wants_full, becomes_absent, becomes_full, away_row, row_passed, CanPass, map_after}
use Rattle.vlt_core.specs.Rows.{row, empty_row, on_key, on_option, touch_rows, expr_rows, operand_rows, operands_rows, called_rows, target_rows, new_rows, given_back_rows, tokens_of, simple_rows}
use Rattle.vlt_core.specs.Bodies.{flow_of}
use Rattle.vlt_core.specs.Derives.{Derives}
use Rattle.vlt_core.specs.KindedScopes.{Ids}
use Rattle.vlt_meaning.specs.World.{Value, Object, Frame}
use Rattle.vlt_sound_worlds.specs.Members.{In}
use Rattle.vlt_sound_worlds.specs.Agrees.{HasVar, InScope, Handed, Context, Agrees}
use Rattle.vlt_sound_worlds.proofs.Rows.{row_here, row_other, stays_passed, touch_stays, expr_stays, pass_split, pass_after}
use Rattle.vlt_sound_worlds.proofs.Owning.{full_is}
use Rattle.vlt_run_laws.specs.Loose.{moved_by_operands, moved_by_simple, moved_vars}

pub first_or_rest : (v : ℕ) (o : Operand) (os : List Operand) → In v (moved_by_operands (o ∷ os)) →
    In v (moved_by_operands (o ∷ [])) ⊎ In v (moved_by_operands os)
first_or_rest v (move u) os i = ⊎_elim (λ same. inl (inl same)) (λ rest. inr rest) i
first_or_rest v (pure e) os i = inr i
first_or_rest v (pack x states) os i = inr i

module _ (p : Program) (f : Func) (v : ℕ) where
  -- ---- operands fill nothing

  absent_full : absent ≡ full → ⊥
  absent_full e = cc

  var_same : (u : ℕ) → a_var v ≡ a_var u → v ≡ u
  var_same u e = cc

  operand_full : (o : Operand) (h : HeldMap) → map_after (operand_rows p f o) h (a_var v) ≡ full → h (a_var v) ≡ full
  operand_full (pure e) h is = ap (λ m. m (a_var v)) (sym (stays_passed (expr_rows p f e) h (expr_stays p f e))) ∙ is
  operand_full (move u) h is = ⊎_elim
      (λ same. absurd (absent_full (sym (row_here (empty_row u) h) ∙ (ap (λ x. row_passed (empty_row u) h (a_var x)) (sym same) ∙ is))))
      (λ other. sym (row_other (empty_row u) h (a_var v) (λ e. other (var_same u e))) ∙ is)
      (cases_eq v u)
  operand_full (pack x states) h is = by (reference_of f x) is
    where
      by : (o : Option Reference) → map_after (on_key o (λ r. row (a_key r.key) (wants_in states) becomes_absent)) h (a_var v) ≡ full →
          h (a_var v) ≡ full
      by None is = is
      by (Some r) is = sym (row_other (row (a_key r.key) (wants_in states) becomes_absent) h (a_var v) (λ e. cc)) ∙ is

  -- a variable that operands move is full before them
  first_full : (o : Operand) (h : HeldMap) → CanPass (operand_rows p f o) h → In v (moved_by_operands (o ∷ [])) → h (a_var v) ≡ full
  first_full (move u) h pass i = ⊎_elim
      (λ same. subst (λ u. h (a_var u) ≡ full) (sym same) (full_is (h (a_var u)) pass.0))
      (λ none. absurd none)
      i
  first_full (pure e) h pass i = absurd i
  first_full (pack x states) h pass i = absurd i

  all_full : (os : List Operand) (h : HeldMap) → CanPass (operands_rows p f os) h → In v (moved_by_operands os) → h (a_var v) ≡ full
  all_full [] h pass i = absurd i
  all_full (o ∷ os) h pass i =
      let both = pass_split (operand_rows p f o) (operands_rows p f os) h pass in
      ⊎_elim (first_full o h both.0)
      (λ rest. operand_full o h (all_full os (map_after (operand_rows p f o) h) both.1 rest))
      (first_or_rest v o os i)

  -- ---- statements

  here : (u : ℕ) (h : HeldMap) → In v (u ∷ []) → h (a_var u) ≡ full → h (a_var v) ≡ full
  here u h i is = ⊎_elim (λ same. subst (λ u. h (a_var u) ≡ full) (sym same) is) (λ none. absurd none) i

  simple_full : (s : Simple) (h : HeldMap) → CanPass (simple_rows p f s) h → In v (moved_by_simple s) → h (a_var v) ≡ full
  simple_full (make x args) h pass i = all_full args h (pass_split (operands_rows p f args) _ h pass).0 i
  simple_full (own x value) h pass i = first_full value h (pass_split (operand_rows p f value) _ h pass).0 i
  simple_full (build x case args) h pass i =
      let keys = on_option (variant_of f x) (λ t. map (λ k. row (a_key k.key) (wants_in k.states) becomes_absent) (case_keys p t case)) in
      all_full args h (pass_split (operands_rows p f args) keys h (pass_split (operands_rows p f args ++ keys) _ h pass).0).0 i
  simple_full (drop u) h pass i = here u h i (full_is (h (a_var u)) pass.0)
  simple_full (unpack x u) h pass i = here u h i (full_is (h (a_var u)) pass.0)
  simple_full (swap x position u) h pass i =
      here u h i (full_is (h (a_var u))
      (pass_after (touch_rows p f x position) (row (a_var u) wants_full becomes_full ∷ []) h (touch_stays p f x position) pass).1.0)
  simple_full (set x e) h pass i = absurd i
  simple_full (input x more) h pass i = absurd i
  simple_full (print e) h pass i = absurd i
  simple_full (put x position e) h pass i = absurd i
  simple_full (become x s) h pass i = absurd i
  simple_full (release x) h pass i = absurd i
  simple_full (open_into x vs) h pass i = absurd i
  simple_full (adopt y x r) h pass i = absurd i

  module _ {c : Context} {h : HeldMap} {ids : Ids} {hand : List Handed} {frame : Frame} {os : List Object}
      (agrees : Agrees p f c h ids hand frame os) (ty : Ty) (is : var_type f v ≡ Some ty) (scoped : InScope ids v) where
    abbrev HasSome : Type 0
    HasSome = (a : Value) × (frame.vars v ≡ Some a)

    where_full : h (a_var v) ≡ full → HasSome
    where_full e = subst (λ s. HasVar (is_owning_var f v) s (frame.vars v)) e (agrees.vars.full v)

    -- a variable that is switched on is full, or owns nothing
    switched : (u : ℕ) → In v (u ∷ []) → CanPass (if is_owning_var f u then empty_row u ∷ [] else []) h → HasSome
    switched u i pass = ⊎_elim (λ same. by (is_owning_var f v) refl (subst (λ u. CanPass (if is_owning_var f u then empty_row u ∷ [] else []) h) (sym same) pass)) (λ none. absurd none) i
      where
        by : (b : Bool) → is_owning_var f v ≡ b → CanPass (if b then empty_row v ∷ [] else []) h → HasSome
        by true owning pass = where_full (full_is (h (a_var v)) pass.0)
        by false plain pass = agrees.fit.there v ty scoped is (ap owns (sym is) ∙ plain)

    pub has_value : (b t k : HeldMap) (left : List Tok) (form : Form) → In v (moved_vars form) →
        Derives b t h (flow_of p f left form) k → HasSome
    has_value b t k left (simple s) i leads = where_full (simple_full s h leads.0 i)
    has_value b t k left (call n target keys args) i leads =
        let called = on_option (slice_get p.fns n) (λ g. called_rows p f keys g.clause) in
        where_full (all_full args h
        (pass_split (operands_rows p f args) called h (pass_split (operands_rows p f args ++ called) (target_rows f target) h leads.0).0).0
        i)
    has_value b t k left (switch u arms end) i leads = switched u i leads.0
    has_value b t k left (return (Some o)) i leads =
        let new = new_rows p f (Some o) in
        let back = given_back_rows p f in
        let a = pass_split (operand_rows p f o ++ new ++ back) (map away_row (tokens_of f)) h leads in
        let b = pass_split (operand_rows p f o ++ new) back h a.0 in
        where_full (first_full o h (pass_split (operand_rows p f o) new h b.0).0 i)
    has_value b t k left (return None) i leads = absurd i
    has_value b t k left (choose e x y) i leads = absurd i
    has_value b t k left (loop e x) i leads = absurd i
    has_value b t k left (focus y z x) i leads = absurd i
    has_value b t k left (scope x) i leads = absurd i
    has_value b t k left (jump c) i leads = absurd i
