-- The flow of a moved function's body.
use Rattle.std.proofs.Common.{◌≡◌, ℕ, if◌then◌else◌, List, [], ◌∷◌, ◌++◌, Option, slice_get, refl, sym, ap, ap₂, ◌∙◌, subst, subst₂}
use Rattle.vlt_core.specs.Core as core
use Rattle.vlt_core.specs.Core.{Tok, a_key, Func, Program}
use Rattle.vlt_core.specs.Lookups.{reference_of, guarded_of, variant_of, is_owning_var, release_set}
use Rattle.vlt_core.specs.Maps.{wants_absent, wants_held, wants_lent, becomes_held, becomes_lent, comes_back}
use Rattle.vlt_core.specs.Rows.{row, on_key, empty_row, on_option, called_rows, rows_of, focus_end_rows}
use Rattle.vlt_core.specs.Flow.{step, choose, loop, switch, scope, focus, return, jump, block, next, arm}
use Rattle.vlt_core.specs.Bodies.{flow_of, flow_of_block, flow_of_stmts, flow_of_arms, body_flow}
use Rattle.vlt_core.specs.Instances.{instance, IsOrigin}
use Rattle.vlt_core.specs.Derives.{IsDerived, IsAcceptedFunc}
use Rattle.vlt_link_laws.specs.CoreMoves.Moves.{Moves, moved_form, moved_block, moved_stmts, moved_arms, moved_func}
use Rattle.vlt_link_laws.specs.CoreMoves.Keeps.{Keeps}
use Rattle.vlt_link_laws.specs.CoreMoves.Knows.{IsFunction, OfVariant, KnowsForm, KnowsBlock, KnowsStmts, KnowsArms, KnowsBody}
use Rattle.vlt_link_laws.proofs.OfCoreMoves.Looks.{reference_moves, guard_moves, same_owning_var, same_release}
use Rattle.vlt_link_laws.proofs.OfCoreMoves.Instances.{instance_moves, origin_stays, instance_knows}
use Rattle.vlt_link_laws.proofs.OfCoreMoves.Rows.{same_on_key, same_target, same_order, same_struct_row, same_end, same_expr, same_operands, same_arm, same_simple, same_clause, same_return, same_start}

-- three parts that are equal
ap₃ : {A B C D : Type 0} (go : A → B → C → D) {a b : A} {c d : B} {e f : C} → a ≡ b → c ≡ d → e ≡ f → go a c e ≡ go b d f
ap₃ go x y z = ap₂ (λ g c. g c) (ap₂ go x y) z

module _ (m : Moves) (p q : Program) (keeps : Keeps m p q) (f : Func) (knows : KnowsBody p f) where
  called : (g : ℕ) → IsFunction p g → (keys : List ℕ) →
      on_option (slice_get q.fns (m.functions g)) (λ h. called_rows q (moved_func m f) keys h.clause) ≡
      on_option (slice_get p.fns g) (λ h. called_rows p f keys h.clause)
  called g known keys =
      let there = keeps.functions g known.func known.is in
      ap (λ o. on_option o (λ h. called_rows q (moved_func m f) keys h.clause)) there.there ∙
      (ap (called_rows q (moved_func m f) keys) there.clause ∙
      (same_clause m p q keeps f knows.keys keys known.func.clause ∙
      sym (ap (λ o. on_option o (λ h. called_rows p f keys h.clause)) known.is)))

  focused : (y z : ℕ) → KnowsForm p f (core.focus y z (core.block core.done [] 0)) →
      rows_of q (moved_func m f) [] (core.focus y z (core.block core.done [] 0)) ≡ rows_of p f [] (core.focus y z (core.block core.done [] 0))
  focused y z known =
      ap₂ (λ a b. a ++ b)
      (ap (λ o. on_key o (λ g. row (a_key g.key) wants_held becomes_lent)) (guard_moves m f y) ∙ same_on_key m (guarded_of f y) wants_held becomes_lent)
      (ap (λ o. on_key o (λ r. row (a_key r.key) wants_absent (becomes_held (release_set q r.type)))) (reference_moves m f z) ∙
      same_struct_row m p q keeps f (reference_of f z) known.0 _ _ (λ r s. ap (λ S. row (a_key r.key) wants_absent (becomes_held S)) (same_release m p q keeps r.type s)))

  unfocused : (y z : ℕ) → KnowsForm p f (core.focus y z (core.block core.done [] 0)) →
      focus_end_rows q (moved_func m f) y z ≡ focus_end_rows p f y z
  unfocused y z known =
      ap₂ (λ a b. a ++ b) (same_end m p q keeps f z known.0)
      (ap (λ o. on_key o (λ g. row (a_key g.key) wants_lent comes_back)) (guard_moves m f y) ∙ same_on_key m (guarded_of f y) wants_lent comes_back)

  switched : (v : ℕ) → (if is_owning_var (moved_func m f) v then empty_row v ∷ [] else []) ≡ (if is_owning_var f v then empty_row v ∷ [] else [])
  switched v = ap (λ (test : ℕ → _). if test v then empty_row v ∷ [] else []) (same_owning_var m f)

  mutual
    same_form : (left : List Tok) (s : core.Form) → KnowsForm p f s → flow_of q (moved_func m f) left (moved_form m s) ≡ flow_of p f left s
    same_form left (core.simple s) known = ap step (same_simple m p q keeps f s known)
    same_form left (core.call g target keys args) known =
        ap step (ap₂ (λ a b. a ++ b)
        (ap₂ (λ a b. a ++ b) (same_operands m p q keeps f args known.0) (called g known.1 keys))
        (same_target m f target))
    same_form left (core.choose e a b) known =
        ap₃ choose (same_expr m p q keeps f e known.0) (same_block left a known.1) (same_block left b known.2)
    same_form left (core.loop e b) known = ap₂ loop (same_expr m p q keeps f e known.0) (same_block [] b known.1)
    same_form left (core.switch v arms end) known =
        ap₂ (λ r s. switch r s end) (switched v) (same_arms left v arms known.0 known.1)
    same_form left (core.focus y z b) known =
        ap₃ focus (focused y z (known.0, tt)) (same_block left b known.1) (unfocused y z (known.0, tt))
    same_form left (core.scope b) known = ap scope (same_block left b known)
    same_form left (core.return value) known = ap return (same_return m p q keeps f knows.keys value known)
    same_form left (core.jump continues) known = ap (jump continues) (same_order m f left)

    same_block : (left : List Tok) (b : core.Block) → KnowsBlock p f b → flow_of_block q (moved_func m f) left (moved_block m b) ≡ flow_of_block p f left b
    same_block left (core.block ss bound end) known = ap (λ x. block x bound end) (same_stmts (left ++ bound) ss known)

    same_stmts : (left : List Tok) (ss : core.Stmts) → KnowsStmts p f ss → flow_of_stmts q (moved_func m f) left (moved_stmts m ss) ≡ flow_of_stmts p f left ss
    same_stmts left core.done known = refl
    same_stmts left (core.next at s rest) known = ap₂ (next at) (same_form left s known.0) (same_stmts left rest known.1)

    same_arms : (left : List Tok) (v : ℕ) (arms : core.Arms) → OfVariant p (variant_of f v) → KnowsArms p f arms →
        flow_of_arms q (moved_func m f) left v (moved_arms m arms) ≡ flow_of_arms p f left v arms
    same_arms left v core.no_arms of known = refl
    same_arms left v (core.arm c vs b rest) of known =
        ap₃ arm (same_arm m p q keeps f v c vs of) (same_block left b known.0) (same_arms left v rest of known.1)

  pub same_flow : body_flow q (moved_func m f) ≡ body_flow p f
  same_flow = ap (λ x. block x [] f.end) (same_stmts [] f.body knows.body)

  pub still_derived : IsAcceptedFunc p f → IsAcceptedFunc q (moved_func m f)
  still_derived d = subst₂ (λ s h. IsDerived s h) (sym same_flow) (sym (same_start m p q keeps f knows.keys)) d

-- the same of all instances, which have the same origins
pub still_accepted : (m : Moves) (p q : Program) → Keeps m p q → (f : Func) → KnowsBody p f →
    ((o : Option ℕ) → IsOrigin p f o → IsAcceptedFunc p (instance p f o)) →
    (o : Option ℕ) → IsOrigin q (moved_func m f) o → IsAcceptedFunc q (instance q (moved_func m f) o)
still_accepted m p q keeps f knows accepted o origin =
    subst (IsAcceptedFunc q) (sym (instance_moves m p q keeps f knows.keys o))
    (still_derived m p q keeps (instance p f o) (instance_knows p f o knows) (accepted o (origin_stays m p q keeps f knows.keys o origin)))
