-- Statements and arms, one after another.
use Rattle.std.proofs.Common.{◌≡◌, ◌≤◌, ◌+◌, ◌||◌, ℕ, Bool, true, false, List, [], ◌∷◌, ◌++◌, length, drop, Option, Some, None, refl, sym, ap, ◌∙◌, subst, arith}
use Rattle.std.proofs.lemmas.List.{drop_all}
use Rattle.vlt_core.specs.Maps.{HeldMap, Row, map_after}
use Rattle.vlt_core.specs.Flow.{Flow, Block, Stmts, next, Arms, arm, size, size_block, size_stmts, size_arms, passes_block, passes_arms}
use Rattle.vlt_core.specs.Local.{Notes, Then, leads, leads_block, leads_stmts}
use Rattle.vlt_rows.specs.declared.tree.FlowStmt.{FlowStmt}
use Rattle.vlt_rows.specs.declared.tree.FlowArm.{FlowArm}
use Rattle.vlt_rows.specs.FlowView.{flow_view, arm_view, stmts_view, arms_view}
use Rattle.vlt_rows.proofs.Views.{stmt_parts}
use Rattle.vlt_flow.specs.Walks.{maybe_map}
use Rattle.cert_check.specs.Tests.{Failure, Hold, FirstFails, row_tests, below_tests, when_some, tests, block_tests, list_tests, arms_tests}
use Rattle.cert_check.specs.declared.walking.Walked.{Walked}
use Rattle.cert_check.specs.declared.walking.Way.{Way}
use Rattle.cert_check.specs.Walks.{IsLed, IsWay, arm_tests}
use Rattle.cert_check.proofs.Sequences.{IsRest, rest_all, rest_after, rest_trans, first_here}
use Rattle.cert_check.proofs.Leading.{assoc}

-- ---- statements

pub record Listing (a : Notes) (l : Option ℕ) (n : ℕ) (stmts : List FlowStmt) (h : HeldMap) (i at : ℕ) (o : Option HeldMap) : Type 0 where
  pub low : n ≤ at
  pub size : at + size_stmts (stmts_view (drop i stmts)) ≡ n + size_stmts (stmts_view stmts)
  pub rest : IsRest (when_some o (λ m. list_tests a l at m (stmts_view (drop i stmts)))) (list_tests a l n h (stmts_view stmts))
  pub leads : Then o (λ m. leads_stmts a at m (stmts_view (drop i stmts))) ≡ leads_stmts a n h (stmts_view stmts)

pub listing_first : (a : Notes) (l : Option ℕ) (n : ℕ) (stmts : List FlowStmt) (h : HeldMap) (w : Walked) → maybe_map w.held ≡ Some h → w.at ≡ n → Listing a l n stmts h 0 w.at (maybe_map w.held)
listing_first a l n stmts h w is at = rw (is, at) (record { low = omega arith; size = refl; rest = rest_all (list_tests a l n h (stmts_view stmts)); leads = refl })

stmts_split : (stmts : List FlowStmt) (i : ℕ) (s : FlowStmt) → drop i stmts ≡ s ∷ drop (i + 1) stmts → stmts_view (drop i stmts) ≡ next s.at (flow_view s.flow) (stmts_view (drop (i + 1) stmts))
stmts_split stmts i s e = ap stmts_view e ∙ ap (λ p. next p.0 p.1 (stmts_view (drop (i + 1) stmts))) (stmt_parts s)

pub listing_small : (a : Notes) (l : Option ℕ) (n : ℕ) (stmts : List FlowStmt) (h : HeldMap) (i at : ℕ) (o : Option HeldMap) (s : FlowStmt) → drop i stmts ≡ s ∷ drop (i + 1) stmts → Listing a l n stmts h i at o → at + size (flow_view s.flow) ≤ n + size_stmts (stmts_view stmts)
listing_small a l n stmts h i at o s e g = omega (arith, g.size, ap size_stmts (stmts_split stmts i s e))

pub listing_less : (a : Notes) (l : Option ℕ) (n : ℕ) (stmts : List FlowStmt) (h : HeldMap) (i at : ℕ) (o : Option HeldMap) (s : FlowStmt) → drop i stmts ≡ s ∷ drop (i + 1) stmts → Listing a l n stmts h i at o → size (flow_view s.flow) ≤ size_stmts (stmts_view stmts)
listing_less a l n stmts h i at o s e g = omega (arith, g.low, g.size, ap size_stmts (stmts_split stmts i s e))

more_one : (a : Notes) (l : Option ℕ) (n : ℕ) (stmts : List FlowStmt) (h : HeldMap) (i at : ℕ) (o : Option HeldMap) (s : FlowStmt) → drop i stmts ≡ s ∷ drop (i + 1) stmts → Listing a l n stmts h i at o →
    Hold (when_some o (λ m. tests a l at m (flow_view s.flow))) → Listing a l n stmts h (i + 1) (at + size (flow_view s.flow)) (Then o (λ m. leads a at m (flow_view s.flow)))
more_one a l n stmts h i at None s e g held = record {
  low = omega (arith, g.low);
  size = omega (arith, g.size, ap size_stmts (stmts_split stmts i s e));
  rest = g.rest;
  leads = g.leads;
}
more_one a l n stmts h i at (Some m) s e g held =
    let split = stmts_split stmts i s e in
    let rest = stmts_view (drop (i + 1) stmts) in
    record {
      low = omega (arith, g.low);
      size = omega (arith, g.size, ap size_stmts split);
      rest = rest_trans _ _ _ (rest_after (tests a l at m (flow_view s.flow)) (when_some (leads a at m (flow_view s.flow)) (λ k. list_tests a l (at + size (flow_view s.flow)) k rest)) held)
          (subst (λ ss. IsRest (list_tests a l at m ss) (list_tests a l n h (stmts_view stmts))) split g.rest);
      leads = subst (λ ss. leads_stmts a at m ss ≡ leads_stmts a n h (stmts_view stmts)) split g.leads;
    }

pub listing_more : (a : Notes) (l : Option ℕ) (n : ℕ) (stmts : List FlowStmt) (h : HeldMap) (i at : ℕ) (o : Option HeldMap) (s : FlowStmt) (w : Walked) → drop i stmts ≡ s ∷ drop (i + 1) stmts → Listing a l n stmts h i at o →
    Hold (when_some o (λ m. tests a l at m (flow_view s.flow))) → IsLed (Then o (λ m. leads a at m (flow_view s.flow))) (at + size (flow_view s.flow)) w → Listing a l n stmts h (i + 1) w.at (maybe_map w.held)
listing_more a l n stmts h i at o s w e g held led =
    subst (λ x. Listing a l n stmts h (i + 1) x (maybe_map w.held)) (sym led.at) (subst (λ x. Listing a l n stmts h (i + 1) (at + size (flow_view s.flow)) x) (sym led.leads) (more_one a l n stmts h i at o s e g held))

some_first : (a : Notes) (l : Option ℕ) (at : ℕ) (o : Option HeldMap) (f : Flow) (place : ℕ) (rest : Stmts) (z : Failure) → FirstFails (when_some o (λ m. tests a l at m f)) z → FirstFails (when_some o (λ m. list_tests a l at m (next place f rest))) z
some_first a l at None f place rest z t = absurd t
some_first a l at (Some m) f place rest z t = first_here (tests a l at m f) _ z t

pub listing_stops : (a : Notes) (l : Option ℕ) (n : ℕ) (stmts : List FlowStmt) (h : HeldMap) (i at : ℕ) (o : Option HeldMap) (s : FlowStmt) → drop i stmts ≡ s ∷ drop (i + 1) stmts → Listing a l n stmts h i at o →
    (z : Failure) → FirstFails (when_some o (λ m. tests a l at m (flow_view s.flow))) z → FirstFails (list_tests a l n h (stmts_view stmts)) z
listing_stops a l n stmts h i at o s e g z t =
    let rest = subst (λ ss. IsRest (when_some o (λ m. list_tests a l at m ss)) (list_tests a l n h (stmts_view stmts))) (stmts_split stmts i s e) g.rest in
    rest.first z (some_first a l at o (flow_view s.flow) s.at (stmts_view (drop (i + 1) stmts)) z t)

pub listing_ends : (a : Notes) (l : Option ℕ) (n : ℕ) (stmts : List FlowStmt) (h : HeldMap) (i : ℕ) (w : Walked) → length stmts ≤ i → Listing a l n stmts h i w.at (maybe_map w.held) →
    Hold (list_tests a l n h (stmts_view stmts)) × IsLed (leads_stmts a n h (stmts_view stmts)) (n + size_stmts (stmts_view stmts)) w
listing_ends a l n stmts h i w past g =
    let all : drop i stmts ≡ [] = drop_all i stmts past in (
      g.rest.hold (subst (λ ss. Hold (when_some (maybe_map w.held) (λ m. list_tests a l w.at m (stmts_view ss)))) (sym all) (none (maybe_map w.held))),
      record {
        leads = sym (then_same (maybe_map w.held)) ∙ subst (λ ss. Then (maybe_map w.held) (λ m. leads_stmts a w.at m (stmts_view ss)) ≡ leads_stmts a n h (stmts_view stmts)) all g.leads;
        at = omega (arith, g.size, ap (λ ss. size_stmts (stmts_view ss)) all);
      },
    )
  where
    none : (o : Option HeldMap) → Hold (when_some o (λ m. []))
    none None = tt
    none (Some m) = tt

    then_same : (o : Option HeldMap) → Then o (λ m. Some m) ≡ o
    then_same None = refl
    then_same (Some m) = refl

-- ---- arms

pub record Arming (a : Notes) (l : Option ℕ) (n : ℕ) (arms : List FlowArm) (h : HeldMap) (i at : ℕ) (p : Bool) : Type 0 where
  pub low : n + 1 ≤ at
  pub size : at + size_arms (arms_view (drop i arms)) ≡ n + 1 + size_arms (arms_view arms)
  pub passes : (p || passes_arms (arms_view (drop i arms))) ≡ passes_arms (arms_view arms)
  pub rest : IsRest (arms_tests a l n at h (arms_view (drop i arms)) (a.following n)) (arms_tests a l n (n + 1) h (arms_view arms) (a.following n))

pub arming_first : (a : Notes) (l : Option ℕ) (n : ℕ) (arms : List FlowArm) (h : HeldMap) → Arming a l n arms h 0 (n + 1) false
arming_first a l n arms h = record { low = omega arith; size = refl; passes = refl; rest = rest_all (arms_tests a l n (n + 1) h (arms_view arms) (a.following n)) }

arms_split : (arms : List FlowArm) (i : ℕ) (x : FlowArm) → drop i arms ≡ x ∷ drop (i + 1) arms → arms_view (drop i arms) ≡ arm (arm_view x).0 (arm_view x).1 (arms_view (drop (i + 1) arms))
arms_split arms i x e = ap arms_view e

pub arming_small : (a : Notes) (l : Option ℕ) (n : ℕ) (arms : List FlowArm) (h : HeldMap) (i at : ℕ) (p : Bool) (x : FlowArm) → drop i arms ≡ x ∷ drop (i + 1) arms → Arming a l n arms h i at p → at + size_block (arm_view x).1 ≤ n + 1 + size_arms (arms_view arms)
arming_small a l n arms h i at p x e g = omega (arith, g.size, ap size_arms (arms_split arms i x e))

pub arming_less : (a : Notes) (l : Option ℕ) (n : ℕ) (arms : List FlowArm) (h : HeldMap) (i at : ℕ) (p : Bool) (x : FlowArm) → drop i arms ≡ x ∷ drop (i + 1) arms → Arming a l n arms h i at p → size_block (arm_view x).1 ≤ size_arms (arms_view arms)
arming_less a l n arms h i at p x e g = omega (arith, g.low, g.size, ap size_arms (arms_split arms i x e))

or_assoc : (p q r : Bool) → ((p || q) || r) ≡ (p || (q || r))
or_assoc true q r = refl
or_assoc false q r = refl

-- the tests of an arm, and those of the arms after it
arm_rest : (a : Notes) (l : Option ℕ) (e n : ℕ) (h : HeldMap) (rs : List Row) (s : Block) (rest : Arms) →
    arm_tests a l e n h (rs, s) ++ arms_tests a l e (n + size_block s) h rest (a.following e) ≡ arms_tests a l e n h (arm rs s rest) (a.following e)
arm_rest a l e n h rs s rest =
    let r = row_tests e rs h in
    let b = block_tests a l e n (map_after rs h) s in
    let w = below_tests e (leads_block a n (map_after rs h) s) (a.following e) in
    let t = arms_tests a l e (n + size_block s) h rest (a.following e) in
    assoc r (b ++ w) t ∙ ap (λ l. r ++ l) (assoc b w t)

pub arming_more : (a : Notes) (l : Option ℕ) (n : ℕ) (arms : List FlowArm) (h : HeldMap) (i at : ℕ) (p : Bool) (x : FlowArm) (w : Way) → drop i arms ≡ x ∷ drop (i + 1) arms → Arming a l n arms h i at p →
    Hold (arm_tests a l n at h (arm_view x)) → IsWay (p || passes_block (arm_view x).1) (at + size_block (arm_view x).1) w → Arming a l n arms h (i + 1) w.at w.passes
arming_more a l n arms h i at p x w e g held way =
    let split = arms_split arms i x e in
    let rest = arms_view (drop (i + 1) arms) in
    let s = (arm_view x).1 in
    subst (λ y. Arming a l n arms h (i + 1) y w.passes) (sym way.at) (subst (λ y. Arming a l n arms h (i + 1) (at + size_block s) y) (sym way.passes) (record {
      low = omega (arith, g.low);
      size = omega (arith, g.size, ap size_arms split);
      passes = or_assoc p (passes_block s) (passes_arms rest) ∙ subst (λ t. (p || passes_arms t) ≡ passes_arms (arms_view arms)) split g.passes;
      rest = rest_trans _ _ _
          (subst (IsRest (arms_tests a l n (at + size_block s) h rest (a.following n))) (arm_rest a l n at h (arm_view x).0 s rest) (rest_after (arm_tests a l n at h (arm_view x)) (arms_tests a l n (at + size_block s) h rest (a.following n)) held))
          (subst (λ t. IsRest (arms_tests a l n at h t (a.following n)) (arms_tests a l n (n + 1) h (arms_view arms) (a.following n))) split g.rest);
    }))

pub arming_stops : (a : Notes) (l : Option ℕ) (n : ℕ) (arms : List FlowArm) (h : HeldMap) (i at : ℕ) (p : Bool) (x : FlowArm) → drop i arms ≡ x ∷ drop (i + 1) arms → Arming a l n arms h i at p →
    (z : Failure) → FirstFails (arm_tests a l n at h (arm_view x)) z → FirstFails (arms_tests a l n (n + 1) h (arms_view arms) (a.following n)) z
arming_stops a l n arms h i at p x e g z t =
    let split = arms_split arms i x e in
    let rest = arms_view (drop (i + 1) arms) in
    let all = subst (λ t. IsRest (arms_tests a l n at h t (a.following n)) (arms_tests a l n (n + 1) h (arms_view arms) (a.following n))) split g.rest in
    all.first z (subst (λ ts. FirstFails ts z) (arm_rest a l n at h (arm_view x).0 (arm_view x).1 rest) (first_here (arm_tests a l n at h (arm_view x)) (arms_tests a l n (at + size_block (arm_view x).1) h rest (a.following n)) z t))

pub arming_ends : (a : Notes) (l : Option ℕ) (n : ℕ) (arms : List FlowArm) (h : HeldMap) (i : ℕ) (w : Way) → length arms ≤ i → Arming a l n arms h i w.at w.passes →
    Hold (arms_tests a l n (n + 1) h (arms_view arms) (a.following n)) × IsWay (passes_arms (arms_view arms)) (n + 1 + size_arms (arms_view arms)) w
arming_ends a l n arms h i w past g =
    let all : drop i arms ≡ [] = drop_all i arms past in (
      g.rest.hold (subst (λ t. Hold (arms_tests a l n w.at h (arms_view t) (a.following n))) (sym all) tt),
      record {
        passes = or_false w.passes ∙ subst (λ t. (w.passes || passes_arms (arms_view t)) ≡ passes_arms (arms_view arms)) all g.passes;
        at = omega (arith, g.size, ap (λ t. size_arms (arms_view t)) all);
      },
    )
  where
    or_false : (p : Bool) → p ≡ (p || false)
    or_false true = refl
    or_false false = refl
