-- The tests of parts, put together.
use Rattle.std.proofs.Common.{◌≡◌, inl, ◌+◌, ◌||◌, ℕ, Bool, true, false, MatchBool, List, [], ◌∷◌, ◌++◌, map, Option, Some, None, Result, refl, sym, ap, ◌∙◌, subst, arith, rules}
use Rattle.std.specs.Prelude.{IsSome}
use Rattle.vlt_core.specs.Core.{Tok}
use Rattle.vlt_core.specs.Maps.{HeldMap, Row, map_after, away_row}
use Rattle.vlt_core.specs.Flow.{Flow, choose, loop, switch, scope, focus, block, Block, Stmts, Arms, size, size_block, size_stmts, size_arms, passes_block, passes_arms}
use Rattle.vlt_core.specs.Local.{Notes, Then, only_if, rows_passed, leads, leads_block, leads_stmts}
use Rattle.vlt_core_laws.proofs.Changes.{leads_block_some}
use Rattle.vlt_keyset.specs.Held.{Statuses, map_of}
use Rattle.vlt_flow.specs.Walks.{maybe_map}
use Rattle.cert_check.specs.Tests.{Test, Failure, lost, Hold, FirstFails, below_test, row_tests, below_tests, jump_tests, when_some, tests, block_tests, list_tests, arms_tests}
use Rattle.cert_check.specs.Notes.{map_at}
use Rattle.cert_check.specs.declared.side.Side.{Side}
use Rattle.cert_check.specs.declared.side.Side.TheVariants as side
use Rattle.cert_check.specs.declared.errors.Stop.{Stop}
use Rattle.cert_check.specs.declared.walking.Walked.{Walked}
use Rattle.cert_check.specs.declared.walking.Way.{Way}
use Rattle.cert_check.specs.Outcomes.{AreTested}
use Rattle.cert_check.specs.Walks.{IsLed, IsWay, IsWayOf, comes_out, way_tests, turn_tests, arm_tests, jump_side}
use Rattle.cert_check.proofs.Sequences.{rest_all, rest_after, rest_trans, hold_both, first_here, first_after, onward}

pub led_comes : (w : Walked) (h : Statuses) (n : ℕ) (o : Option HeldMap) → w.held ≡ Some h → w.at ≡ n → Some (map_of h) ≡ o → IsLed o n w
led_comes w h n o held at is = record { leads = ap maybe_map held ∙ is; at = at }

pub led_stops : (w : Walked) (n : ℕ) → w.held ≡ None → w.at ≡ n → IsLed None n w
led_stops w n held at = record { leads = ap maybe_map held; at = at }

-- ---- lists of tests

pub assoc : (xs ys zs : List Test) → (xs ++ ys) ++ zs ≡ xs ++ (ys ++ zs)
assoc [] ys zs = refl
assoc (x ∷ xs) ys zs = ap (λ l. x ∷ l) (assoc xs ys zs)

jump_is : (a : Notes) (l : ℕ) (c : Bool) (n : ℕ) (h : HeldMap) → below_test n h (map_at (jump_side c) a l) ∷ [] ≡ jump_tests a (Some l) c n h
jump_is a l true n h = refl
jump_is a l false n h = refl

-- a jump's rows were passed, and its map is tested
pub jumped : (r : Result (Unit {0}) Stop) (a : Notes) (o : Option ℕ) (l : ℕ) (c : Bool) (n : ℕ) (rs : List Row) (h k : HeldMap) (s : Side) → o ≡ Some l → s ≡ jump_side c → k ≡ map_after rs h → Hold (row_tests n rs h) →
    AreTested r (below_test n k (map_at s a l) ∷ []) (λ u. Unit {0}) → AreTested r (row_tests n rs h ++ jump_tests a o c n (map_after rs h)) (λ u. Unit {0})
jumped r a o l c n rs h k s is side after held told =
    let tests = ap (λ s. below_test n k (map_at s a l) ∷ []) side ∙ jump_is a l c n k ∙ ap (jump_tests a (Some l) c n) after ∙ ap (λ o. jump_tests a o c n (map_after rs h)) (sym is) in
    onward r _ _ (subst (λ ts. AreTested r ts (λ u. Unit {0})) tests told) (rest_after (row_tests n rs h) _ held) (λ x p. p)

-- one that no loop is around
pub jump_lost : (a : Notes) (o : Option ℕ) (c : Bool) (n : ℕ) (rs : List Row) (h : HeldMap) → o ≡ None → Hold (row_tests n rs h) → FirstFails (row_tests n rs h ++ jump_tests a o c n (map_after rs h)) lost
jump_lost a o c n rs h is held = first_after (row_tests n rs h) _ lost held (subst (λ o. FirstFails (jump_tests a o c n (map_after rs h)) lost) (sym is) (inl tt))

-- ---- ways

no_some : (let o : Option HeldMap = None in IsSome o) → ⊥
no_some s = search rules

out_passes : (p : Bool) (o : Option HeldMap) → MatchBool p (IsSome o) (o ≡ None) → comes_out o ≡ p
out_passes true None s = absurd (no_some s)
out_passes true (Some m) s = refl
out_passes false None s = refl
out_passes false (Some m) s = cc

pub way_tested : (r : Result Way Stop) (a : Notes) (l : Option ℕ) (s : Side) (k n : ℕ) (h : HeldMap) (b : Block) (w : Walked) → Hold (block_tests a l k n h b) → IsLed (leads_block a n h b) (n + size_block b) w →
    AreTested r (below_tests k (maybe_map w.held) (map_at s a k)) (IsWayOf (maybe_map w.held) w.at) → AreTested r (way_tests a l s k n h b) (IsWay (passes_block b) (n + size_block b))
way_tested r a l s k n h b w held led told =
    onward r (below_tests k (leads_block a n h b) (map_at s a k)) _
    (subst (λ o. AreTested r (below_tests k o (map_at s a k)) (IsWayOf o w.at)) led.leads told)
    (rest_after (block_tests a l k n h b) _ held)
    (λ x p. record { passes = p.passes ∙ out_passes (passes_block b) (leads_block a n h b) (leads_block_some b a n h); at = p.at ∙ led.at })

-- ---- choices

module _ (a : Notes) (l : Option ℕ) (n : ℕ) (h : HeldMap) (rs : List Row) (s t : Block) where
  choose_is : row_tests n rs h ++ (way_tests a l side.Following n (n + 1) (map_after rs h) s ++ way_tests a l side.Following n (n + 1 + size_block s) (map_after rs h) t) ≡ tests a l n h (choose rs s t)
  choose_is = ap (λ l. row_tests n rs h ++ l) (assoc (block_tests a l n (n + 1) (map_after rs h) s) (below_tests n (leads_block a (n + 1) (map_after rs h) s) (a.following n)) (way_tests a l side.Following n (n + 1 + size_block s) (map_after rs h) t))

  pub choose_first : (k : HeldMap) → Hold (row_tests n rs h) → k ≡ map_after rs h → (z : Failure) → FirstFails (way_tests a l side.Following n (n + 1) k s) z → FirstFails (tests a l n h (choose rs s t)) z
  choose_first k held is z f =
      subst (λ ts. FirstFails ts z) choose_is (first_after (row_tests n rs h) _ z held (first_here _ _ z (subst (λ k. FirstFails (way_tests a l side.Following n (n + 1) k s) z) is f)))

  pub choose_second : (k j : HeldMap) (m : ℕ) → Hold (row_tests n rs h) → k ≡ map_after rs h → j ≡ map_after rs h → m ≡ n + 1 + size_block s → Hold (way_tests a l side.Following n (n + 1) k s) → (z : Failure) → FirstFails (way_tests a l side.Following n m j t) z → FirstFails (tests a l n h (choose rs s t)) z
  choose_second k j m held is same at first z f =
      subst (λ ts. FirstFails ts z) choose_is (first_after (row_tests n rs h) _ z held
      (first_after (way_tests a l side.Following n (n + 1) (map_after rs h) s) _ z (subst (λ k. Hold (way_tests a l side.Following n (n + 1) k s)) is first)
      (subst (λ m. FirstFails (way_tests a l side.Following n m (map_after rs h) t) z) at (subst (λ j. FirstFails (way_tests a l side.Following n m j t) z) same f))))

  pub choose_tested : (r : Result Walked Stop) (k j : HeldMap) (m e : ℕ) (p : Bool) → Hold (row_tests n rs h) → k ≡ map_after rs h → j ≡ map_after rs h → m ≡ n + 1 + size_block s → Hold (way_tests a l side.Following n (n + 1) k s) → Hold (way_tests a l side.Following n m j t) →
      p ≡ (passes_block s || passes_block t) → e ≡ m + size_block t → AreTested r [] (IsLed (only_if p (a.following n)) e) → AreTested r (tests a l n h (choose rs s t)) (IsLed (leads a n h (choose rs s t)) (n + size (choose rs s t)))
  choose_tested r k j m e p held is same at first second passes end told =
      onward r [] _ told (record {
        hold = λ u. subst Hold choose_is (hold_both (row_tests n rs h) _ held (hold_both (way_tests a l side.Following n (n + 1) (map_after rs h) s) _ (subst (λ k. Hold (way_tests a l side.Following n (n + 1) k s)) is first)
            (subst (λ m. Hold (way_tests a l side.Following n m (map_after rs h) t)) at (subst (λ j. Hold (way_tests a l side.Following n m j t)) same second))));
        first = λ z f. absurd f;
      }) (λ w q. record { leads = q.leads ∙ ap (λ p. only_if p (a.following n)) passes; at = omega (arith, q.at, end, at) })

-- ---- loops

module _ (a : Notes) (n : ℕ) (h : HeldMap) (rs : List Row) (s : Block) (k : HeldMap) (held : Hold (row_tests n rs h)) (is : k ≡ map_after rs h) where
  pub turn_exit : (z : Failure) → FirstFails (below_test n k (a.following n) ∷ []) z → FirstFails (turn_tests a n h rs s) z
  turn_exit z f = first_after (row_tests n rs h) _ z held
      (first_here (below_test n (map_after rs h) (a.following n) ∷ []) (way_tests a (Some n) side.Around n (n + 1) (map_after rs h) s) z (subst (λ k. FirstFails (below_test n k (a.following n) ∷ []) z) is f))

  pub turn_body : Hold (below_test n k (a.following n) ∷ []) → (z : Failure) → FirstFails (way_tests a (Some n) side.Around n (n + 1) k s) z → FirstFails (turn_tests a n h rs s) z
  turn_body exit z f = first_after (row_tests n rs h) _ z held
      (first_after (below_test n (map_after rs h) (a.following n) ∷ []) (way_tests a (Some n) side.Around n (n + 1) (map_after rs h) s) z (subst (λ k. Hold (below_test n k (a.following n) ∷ [])) is exit)
      (subst (λ k. FirstFails (way_tests a (Some n) side.Around n (n + 1) k s) z) is f))

  pub turn_held : Hold (below_test n k (a.following n) ∷ []) → Hold (way_tests a (Some n) side.Around n (n + 1) k s) → Hold (turn_tests a n h rs s)
  turn_held exit way = hold_both (row_tests n rs h) _ held
      (hold_both (below_test n (map_after rs h) (a.following n) ∷ []) (way_tests a (Some n) side.Around n (n + 1) (map_after rs h) s) (subst (λ k. Hold (below_test n k (a.following n) ∷ [])) is exit)
      (subst (λ k. Hold (way_tests a (Some n) side.Around n (n + 1) k s)) is way))

pub loop_turn : (a : Notes) (l : Option ℕ) (n : ℕ) (h : HeldMap) (rs : List Row) (s : Block) (k : HeldMap) → Hold (below_test n h (a.around n) ∷ []) → k ≡ a.around n → (z : Failure) → FirstFails (turn_tests a n k rs s) z → FirstFails (tests a l n h (loop rs s)) z
loop_turn a l n h rs s k entry is z f = first_after (below_test n h (a.around n) ∷ []) (turn_tests a n (a.around n) rs s) z entry (subst (λ k. FirstFails (turn_tests a n k rs s) z) is f)

pub loop_held : (a : Notes) (l : Option ℕ) (n : ℕ) (h : HeldMap) (rs : List Row) (s : Block) (k : HeldMap) → Hold (below_test n h (a.around n) ∷ []) → k ≡ a.around n → Hold (turn_tests a n k rs s) → Hold (tests a l n h (loop rs s))
loop_held a l n h rs s k entry is t = hold_both (below_test n h (a.around n) ∷ []) (turn_tests a n (a.around n) rs s) entry (subst (λ k. Hold (turn_tests a n k rs s)) is t)

-- ---- arms

module _ (a : Notes) (l : Option ℕ) (e n : ℕ) (h : HeldMap) (rs : List Row) (s : Block) (k : HeldMap) (held : Hold (row_tests e rs h)) (is : k ≡ map_after rs h) where
  pub arm_way : (z : Failure) → FirstFails (way_tests a l side.Following e n k s) z → FirstFails (arm_tests a l e n h (rs, s)) z
  arm_way z f = first_after (row_tests e rs h) _ z held (subst (λ k. FirstFails (way_tests a l side.Following e n k s) z) is f)

  pub arm_held : Hold (way_tests a l side.Following e n k s) → Hold (arm_tests a l e n h (rs, s))
  arm_held w = hold_both (row_tests e rs h) _ held (subst (λ k. Hold (way_tests a l side.Following e n k s)) is w)

-- ---- blocks and single statements

pub block_tested : (r : Result Walked Stop) (a : Notes) (l : Option ℕ) (e n : ℕ) (h : HeldMap) (ss : Stmts) (bound : List Tok) (end : ℕ) (w : Walked) → Hold (list_tests a l n h ss) → IsLed (leads_stmts a n h ss) (n + size_stmts ss) w →
    AreTested r (when_some (maybe_map w.held) (row_tests e (map away_row bound))) (IsLed (rows_passed (map away_row bound) (maybe_map w.held)) w.at) →
    AreTested r (block_tests a l e n h (block ss bound end)) (IsLed (leads_block a n h (block ss bound end)) (n + size_stmts ss))
block_tested r a l e n h ss bound end w held led told =
    onward r (when_some (leads_stmts a n h ss) (row_tests e (map away_row bound))) _
    (subst (λ o. AreTested r (when_some o (row_tests e (map away_row bound))) (IsLed (rows_passed (map away_row bound) o) w.at)) led.leads told)
    (rest_after (list_tests a l n h ss) _ held) (λ x p. record { leads = p.leads; at = p.at ∙ led.at })

pub scope_tested : (r : Result Walked Stop) (a : Notes) (l : Option ℕ) (n : ℕ) (h : HeldMap) (s : Block) → AreTested r (block_tests a l n (n + 1) h s) (IsLed (leads_block a (n + 1) h s) (n + 1 + size_block s)) → AreTested r (tests a l n h (scope s)) (IsLed (leads a n h (scope s)) (n + size (scope s)))
scope_tested r a l n h s told = onward r _ _ told (rest_all (block_tests a l n (n + 1) h s)) (λ x p. record { leads = p.leads; at = omega (arith, p.at) })

pub loop_tested : (r : Result Walked Stop) (a : Notes) (l : Option ℕ) (n : ℕ) (h : HeldMap) (rs : List Row) (s : Block) → AreTested r (tests a l n h (loop rs s)) (IsLed (Some (a.following n)) (n + 1 + size_block s)) → AreTested r (tests a l n h (loop rs s)) (IsLed (leads a n h (loop rs s)) (n + size (loop rs s)))
loop_tested r a l n h rs s told = onward r _ _ told (rest_all (tests a l n h (loop rs s))) (λ x p. record { leads = p.leads; at = omega (arith, p.at) })

module _ (a : Notes) (l : Option ℕ) (n : ℕ) (h : HeldMap) (rs : List Row) (s : Block) (es : List Row) (k : HeldMap) (held : Hold (row_tests n rs h)) (is : k ≡ map_after rs h) where
  pub focus_body : (z : Failure) → FirstFails (block_tests a l n (n + 1) k s) z → FirstFails (tests a l n h (focus rs s es)) z
  focus_body z f = first_after (row_tests n rs h) _ z held (first_here (block_tests a l n (n + 1) (map_after rs h) s) _ z (subst (λ k. FirstFails (block_tests a l n (n + 1) k s) z) is f))

  pub focus_tested : (r : Result Walked Stop) (w : Walked) → Hold (block_tests a l n (n + 1) k s) → IsLed (leads_block a (n + 1) k s) (n + 1 + size_block s) w →
      AreTested r (when_some (maybe_map w.held) (row_tests n es)) (IsLed (rows_passed es (maybe_map w.held)) w.at) → AreTested r (tests a l n h (focus rs s es)) (IsLed (leads a n h (focus rs s es)) (n + size (focus rs s es)))
  focus_tested r w body led told =
      let o : maybe_map w.held ≡ leads_block a (n + 1) (map_after rs h) s = led.leads ∙ ap (λ k. leads_block a (n + 1) k s) is in
      onward r (when_some (leads_block a (n + 1) (map_after rs h) s) (row_tests n es)) _
      (subst (λ o. AreTested r (when_some o (row_tests n es)) (IsLed (rows_passed es o) w.at)) o told)
      (rest_trans _ _ _ (rest_after (block_tests a l n (n + 1) (map_after rs h) s) _ (subst (λ k. Hold (block_tests a l n (n + 1) k s)) is body)) (rest_after (row_tests n rs h) _ held))
      (λ x p. record { leads = p.leads; at = omega (arith, p.at, led.at) })

module _ (a : Notes) (l : Option ℕ) (n : ℕ) (h : HeldMap) (rs : List Row) (arms : Arms) (end : ℕ) (k : HeldMap) (held : Hold (row_tests n rs h)) (is : k ≡ map_after rs h) where
  pub switch_arms : (z : Failure) → FirstFails (arms_tests a l n (n + 1) k arms (a.following n)) z → FirstFails (tests a l n h (switch rs arms end)) z
  switch_arms z f = first_after (row_tests n rs h) _ z held (subst (λ k. FirstFails (arms_tests a l n (n + 1) k arms (a.following n)) z) is f)

  pub switch_tested : (r : Result Walked Stop) (w : Way) → Hold (arms_tests a l n (n + 1) k arms (a.following n)) → IsWay (passes_arms arms) (n + 1 + size_arms arms) w →
      AreTested r [] (IsLed (only_if w.passes (a.following n)) w.at) → AreTested r (tests a l n h (switch rs arms end)) (IsLed (leads a n h (switch rs arms end)) (n + size (switch rs arms end)))
  switch_tested r w body way told =
      onward r [] _ told (record {
        hold = λ u. hold_both (row_tests n rs h) _ held (subst (λ k. Hold (arms_tests a l n (n + 1) k arms (a.following n))) is body);
        first = λ z f. absurd f;
      }) (λ x p. record { leads = p.leads ∙ ap (λ b. only_if b (a.following n)) way.passes; at = omega (arith, p.at, way.at) })

-- a statement that isn't reached
pub on_none : (r : Result Walked Stop) (a : Notes) (l : Option ℕ) (at n : ℕ) (s : Flow) (o : Option HeldMap) → o ≡ None → AreTested r [] (IsLed None n) → AreTested r (when_some o (λ m. tests a l at m s)) (IsLed (Then o (λ m. leads a at m s)) n)
on_none r a l at n s o is told = rw is told

pub on_some : (r : Result Walked Stop) (a : Notes) (l : Option ℕ) (at n : ℕ) (s : Flow) (o : Option HeldMap) (m : HeldMap) → o ≡ Some m → AreTested r (tests a l at m s) (IsLed (leads a at m s) n) → AreTested r (when_some o (λ m. tests a l at m s)) (IsLed (Then o (λ m. leads a at m s)) n)
on_some r a l at n s o m is told = rw is told
