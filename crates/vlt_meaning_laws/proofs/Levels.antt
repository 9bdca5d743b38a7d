-- The bound of a run does not matter, where it is no less than the fuel.
use Rattle.std.proofs.Common.{◌≡◌, ℕ, zero, suc, ◌-◌, ◌≤◌, ◌<◌, ◌==◌, nat_lt, Bool, true, false, List, [], ◌∷◌, map, Option, Ok, Err, refl, ap, ◌∙◌, arith, if◌then◌else◌}
use Rattle.std.proofs.lemmas.Bool.Decides.{nat_tests}
use Rattle.vlt_ops.specs.Operator.{is_true}
use Rattle.vlt_core.specs.Core.{Operand, pure, move, pack, Form, simple, call, choose, loop, switch, focus, scope, return, jump, Block, block, Stmts, done, next, Arms, no_arms, arm, Func, Program}
use Rattle.vlt_core.specs.Lookups.{KeyIn}
use Rattle.vlt_meaning.specs.World.{Value, one, World, Frame, Reason, fuel_end, depth_end}
use Rattle.vlt_meaning.specs.Found.{Found}
use Rattle.vlt_meaning.specs.Step.{Step, goes, jumps, leaves, ends, with_found, where_so, spend, with_filled, then_do, then_turn, left_block}
use Rattle.vlt_meaning.specs.Operands.{with_operand, with_operands, with_case_opened, Case}
use Rattle.vlt_meaning.specs.Calls.{back_in, called_instance}
use Rattle.vlt_meaning.specs.Run.{Setup, Meaning, call_body, call_by, focus_end, does_form, does_block, does_stmts, does_arm, less}
use Rattle.vlt_meaning.specs.Does.{does}
use Rattle.vlt_meaning_laws.specs.Keeping.{world_after}
use Rattle.vlt_meaning_laws.proofs.Moves.{To, IsKept, Keeps, block_to, form_to, less_to}

-- fuel never rises: what the levels need of a run
pub record HasNoMoreFuel (w v : World) : Type 0 where
  pub le : v.fuel ≤ w.fuel

pub fuel_kept : IsKept HasNoMoreFuel
fuel_kept = record {
  same = λ w. record { le = omega arith };
  objects = λ w v os k h. record { le = h.le };
  event = λ w v e h. record { le = h.le };
  fuel = λ w v h. let l : v.fuel ≤ w.fuel = h.le in record { le = omega arith };
  input = λ w v z zs e h. record { le = h.le };
  answer = λ w v rest h. record { le = h.le };
}

-- two meanings that agree where there is less fuel than b
abbrev Same : ℕ → Meaning → Meaning → Type 0
Same b m1 m2 = (f : Func) (ss : Stmts) (frame : Frame) (w : World) → w.fuel < b → m1 f ss frame w ≡ m2 f ss frame w

-- a meaning under which fuel never rises
abbrev Falls : Meaning → Type 0
Falls m = (f : Func) (ss : Stmts) (frame : Frame) (w : World) → To HasNoMoreFuel w (m f ss frame w)

found_same : {A : Type 0} (a : Found A) (w : World) (g h : A → Step) → ((x : A) → g x ≡ h x) →
    with_found a w g ≡ with_found a w h
unfolding with_found
found_same (Ok x) w g h e = e x
found_same (Err o) w g h e = refl

so_same : (b : Bool) (r : Reason) (n : Option ℕ) (w : World) (g h : World → Step) → g w ≡ h w →
    where_so b r n w g ≡ where_so b r n w h
unfolding where_so
so_same true r n w g h e = e
so_same false r n w g h e = refl

spend_same : (n : ℕ) (w : World) (g h : World → Step) → w.fuel ≤ n → ((v : World) → v.fuel < n → g v ≡ h v) →
    spend w g ≡ spend w h
unfolding spend
spend_same n w g h l e = by (w.fuel == 0) refl
  where
    by : (b : Bool) → (w.fuel == 0) ≡ b →
        (if b then ends fuel_end w else g (record w { fuel = w.fuel - 1 })) ≡
        (if b then ends fuel_end w else h (record w { fuel = w.fuel - 1 }))
    by true q = refl
    by false q = e _ (grind (arith, nat_tests))

operand_same : (n : ℕ) (p : Program) (f : Func) (o : Operand) (frame : Frame) (w : World)
    (g h : Value → Frame → World → Step) →
    w.fuel ≤ n → ((a : Value) (fr : Frame) (v : World) → v.fuel ≤ n → g a fr v ≡ h a fr v) →
    with_operand p f o frame w g ≡ with_operand p f o frame w h
unfolding with_operand
operand_same n p f (pure e) frame w g h l q = found_same _ w _ _ (λ a. q a frame w l)
operand_same n p f (move v) frame w g h l q = found_same _ w _ _ (λ a. q a _ w l)
operand_same n p f (pack x s) frame w g h l q = found_same _ w _ _ (λ m. q _ frame _ l)

operands_same : (n : ℕ) (p : Program) (f : Func) (os : List Operand) (frame : Frame) (w : World)
    (g h : List Value → Frame → World → Step) →
    w.fuel ≤ n → ((a : List Value) (fr : Frame) (v : World) → v.fuel ≤ n → g a fr v ≡ h a fr v) →
    with_operands p f os frame w g ≡ with_operands p f os frame w h
unfolding with_operands
operands_same n p f [] frame w g h l q = q [] frame w l
operands_same n p f (o ∷ os) frame w g h l q =
    operand_same n p f o frame w _ _ l
    (λ a fr v i. operands_same n p f os fr v _ _ i (λ rest fr' u j. q (a ∷ rest) fr' u j))

case_same : (n : ℕ) (ks : List KeyIn) (ns : List ℕ) (frame : Frame) (w : World) (g h : World → Step) →
    w.fuel ≤ n → ((v : World) → v.fuel ≤ n → g v ≡ h v) →
    with_case_opened ks ns frame w g ≡ with_case_opened ks ns frame w h
unfolding with_case_opened
case_same n (k ∷ ks) (m ∷ ns) frame w g h l q = found_same _ w _ _ (λ o. case_same n ks ns frame _ g h l q)
case_same n [] [] frame w g h l q = q w l
case_same n [] (m ∷ ns) frame w g h l q = refl
case_same n (k ∷ ks) [] frame w g h l q = refl

filled_same : (f : Func) (vs : List ℕ) (ps : List Value) (frame : Frame) (w : World) (g h : Frame → Step) →
    ((fr : Frame) → g fr ≡ h fr) → with_filled f vs ps frame w g ≡ with_filled f vs ps frame w h
unfolding with_filled
filled_same f (v ∷ vs) (a ∷ ps) frame w g h q = so_same _ _ _ w _ _ (filled_same f vs ps _ w g h q)
filled_same f [] [] frame w g h q = q frame
filled_same f [] (a ∷ ps) frame w g h q = refl
filled_same f (v ∷ vs) [] frame w g h q = refl

-- the rest matters only where there is no more fuel than before
then_same : (n : ℕ) (a : Step) (g h : Frame → World → Step) → (world_after a).fuel ≤ n →
    ((fr : Frame) (v : World) → v.fuel ≤ n → g fr v ≡ h fr v) → then_do a g ≡ then_do a h
unfolding then_do
then_same n (goes fr w) g h l q = q fr w l
then_same n (jumps c fr w) g h l q = refl
then_same n (leaves a kept w) g h l q = refl
then_same n (ends o w) g h l q = refl

turn_same : (n : ℕ) (a : Step) (g h : Frame → World → Step) → (world_after a).fuel ≤ n →
    ((fr : Frame) (v : World) → v.fuel ≤ n → g fr v ≡ h fr v) → then_turn a g ≡ then_turn a h
unfolding then_turn
turn_same n (goes fr w) g h l q = q fr w l
turn_same n (jumps true fr w) g h l q = q fr w l
turn_same n (jumps false fr w) g h l q = refl
turn_same n (leaves a kept w) g h l q = refl
turn_same n (ends o w) g h l q = refl

if_same : (b : Bool) (a c a' c' : Step) → a ≡ a' → c ≡ c' → ◌≡◌ {A = Step} (if b then a else c) (if b then a' else c')
if_same true a c a' c' s t = s
if_same false a c a' c' s t = t

body_same : (r : Setup) (m1 m2 : Meaning) (f : Func) (target : Option ℕ) (keys : List ℕ) (g : Func)
    (args : List Value) (frame : Frame) (w : World) →
    ((ss : Stmts) (fr : Frame) (v : World) → v.fuel ≤ w.fuel → m1 g ss fr v ≡ m2 g ss fr v) →
    call_body r m1 f target keys g args frame w ≡ call_body r m2 f target keys g args frame w
unfolding call_body
body_same r m1 m2 f target keys g args frame w q =
    ap (λ a. if nat_lt frame.depth r.depth then a else ends depth_end w)
    (found_same _ w _ _ (λ ns. ap (back_in f target keys g frame) (q g.body _ _ (omega arith))))

call_same : (e : Bool) (r : Setup) (m1 m2 : Meaning) (f : Func) (target : Option ℕ) (keys : List ℕ) (g : Func)
    (args : List Value) (frame : Frame) (w : World) →
    ((ss : Stmts) (fr : Frame) (v : World) → v.fuel ≤ w.fuel → m1 g ss fr v ≡ m2 g ss fr v) →
    call_by e r m1 f target keys g args frame w ≡ call_by e r m2 f target keys g args frame w
unfolding call_by
call_same true r m1 m2 f target keys g args frame w q = refl
call_same false r m1 m2 f target keys g args frame w q = body_same r m1 m2 f target keys g args frame w q

block_falls : (r : Setup) (m : Meaning) → Falls m → (f : Func) (b : Block) (frame : Frame) (w : World) →
    (world_after (does_block r m f b frame w)).fuel ≤ w.fuel
block_falls r m fm f b frame w = (block_to HasNoMoreFuel fuel_kept w r m from f b frame w (fuel_kept.same w)).kept.le
  where
    from : Keeps HasNoMoreFuel fuel_kept w m
    from g ss fr v i =
        let l : (world_after (m g ss fr v)).fuel ≤ v.fuel = (fm g ss fr v).kept.le in
        let j : v.fuel ≤ w.fuel = i.le in
        record { kept = record { le = omega arith } }

form_falls : (r : Setup) (m : Meaning) → Falls m → (f : Func) (s : Form) (frame : Frame) (w : World) →
    (world_after (does_form r m f s frame w)).fuel ≤ w.fuel
form_falls r m fm f s frame w = (form_to HasNoMoreFuel fuel_kept w r m from f s frame w (fuel_kept.same w)).kept.le
  where
    from : Keeps HasNoMoreFuel fuel_kept w m
    from g ss fr v i =
        let l : (world_after (m g ss fr v)).fuel ≤ v.fuel = (fm g ss fr v).kept.le in
        let j : v.fuel ≤ w.fuel = i.le in
        record { kept = record { le = omega arith } }

mutual
  form_same : (r : Setup) (b : ℕ) (m1 m2 : Meaning) → Falls m1 → Same b m1 m2 →
      (f : Func) (s : Form) (frame : Frame) (w : World) → w.fuel ≤ b →
      does_form r m1 f s frame w ≡ does_form r m2 f s frame w
  form_same r b m1 m2 fm h f (simple s) frame w l = refl
  form_same r b m1 m2 fm h f (call g target keys args) frame w l =
      found_same _ w _ _ (λ g'. so_same _ _ _ w _ _
      (operands_same b r.program f args frame w _ _ l (λ values frame' v i.
      spend_same b v _ _ i (λ u j.
      call_same g'.external r m1 m2 f target keys (called_instance r.program g' keys frame' u.objects) values frame' u
      (λ ss fr x k. h (called_instance r.program g' keys frame' u.objects) ss fr x (omega arith))))))
  form_same r b m1 m2 fm h f (choose e x y) frame w l =
      found_same _ w _ _
      (λ z. if_same (is_true z) _ _ _ _ (block_same r b m1 m2 fm h f x frame w l)
      (block_same r b m1 m2 fm h f y frame w l))
  form_same r b m1 m2 fm h f (loop e x) frame w l =
      spend_same b w _ _ l (λ v j. found_same _ v _ _ (λ z. if_same (is_true z) _ (goes frame v) _ (goes frame v)
      (turn_same v.fuel _ _ _ (block_falls r m1 fm f x frame v)
      (λ fr u i. h f (next 0 (loop e x) done) fr u (omega arith))
      ∙ ap (λ a. then_turn a (m2 f (next 0 (loop e x) done))) (block_same r b m1 m2 fm h f x frame v (omega arith)))
      refl))
  form_same r b m1 m2 fm h f (switch v arms end) frame w l =
      found_same _ w _ _
      (λ t. found_same _ w _ _ (λ c. case_same b _ _ frame w _ _ l (λ u i. arm_same r b m1 m2 fm h f c arms _ u i)))
  form_same r b m1 m2 fm h f (focus y z x) frame w l =
      found_same _ w _ _ (λ g. found_same _ w _ _ (λ q. found_same _ w _ _ (λ a. found_same _ w _ _ (λ n.
      ap (focus_end r g q a.number n.number) (block_same r b m1 m2 fm h f x _ _ l)))))
  form_same r b m1 m2 fm h f (scope x) frame w l = block_same r b m1 m2 fm h f x frame w l
  form_same r b m1 m2 fm h f (return value) frame w l = refl
  form_same r b m1 m2 fm h f (jump c) frame w l = refl

  block_same : (r : Setup) (b : ℕ) (m1 m2 : Meaning) → Falls m1 → Same b m1 m2 →
      (f : Func) (x : Block) (frame : Frame) (w : World) → w.fuel ≤ b →
      does_block r m1 f x frame w ≡ does_block r m2 f x frame w
  block_same r b m1 m2 fm h f (block ss bound end) frame w l =
      ap (left_block bound) (stmts_same r b m1 m2 fm h f ss frame w l)

  stmts_same : (r : Setup) (b : ℕ) (m1 m2 : Meaning) → Falls m1 → Same b m1 m2 →
      (f : Func) (ss : Stmts) (frame : Frame) (w : World) → w.fuel ≤ b →
      does_stmts r m1 f ss frame w ≡ does_stmts r m2 f ss frame w
  stmts_same r b m1 m2 fm h f done frame w l = refl
  stmts_same r b m1 m2 fm h f (next at s rest) frame w l =
      then_same w.fuel _ _ _ (form_falls r m1 fm f s frame w)
      (λ fr v i. stmts_same r b m1 m2 fm h f rest fr v (omega arith))
      ∙ ap (λ a. then_do a (does_stmts r m2 f rest)) (form_same r b m1 m2 fm h f s frame w l)

  arm_same : (r : Setup) (b : ℕ) (m1 m2 : Meaning) → Falls m1 → Same b m1 m2 →
      (f : Func) (c : Case) (arms : Arms) (frame : Frame) (w : World) → w.fuel ≤ b →
      does_arm r m1 f c arms frame w ≡ does_arm r m2 f c arms frame w
  arm_same r b m1 m2 fm h f c no_arms frame w l = refl
  arm_same r b m1 m2 fm h f c (arm n vs x rest) frame w l =
      if_same (c.number == n) _ _ _ _
      (filled_same f vs (map one c.parts) frame w _ _ (λ fr. block_same r b m1 m2 fm h f x fr w l))
      (arm_same r b m1 m2 fm h f c rest frame w l)

less_falls : (r : Setup) (n : ℕ) → Falls (less r n)
less_falls r n f ss frame w = less_to HasNoMoreFuel fuel_kept w r n f ss frame w (fuel_kept.same w)

less_same : (r : Setup) (k n m : ℕ) → k ≤ n → k ≤ m → Same k (less r n) (less r m)
less_same r zero n m ln lm f ss frame w l = absurd (omega arith)
less_same r (suc k) zero m ln lm f ss frame w l = absurd (omega arith)
less_same r (suc k) (suc n) zero ln lm f ss frame w l = absurd (omega arith)
less_same r (suc k) (suc n) (suc m) ln lm f ss frame w l =
    stmts_same r k (less r n) (less r m) (less_falls r n)
    (less_same r k n m (omega arith) (omega arith)) f ss frame w (omega arith)

-- what statements do with any bound that is no less than the fuel
pub does_is : (r : Setup) (n : ℕ) (f : Func) (ss : Stmts) (frame : Frame) (w : World) → w.fuel ≤ n →
    does_stmts r (less r n) f ss frame w ≡ does r f ss frame w
unfolding does
does_is r n f ss frame w l =
    stmts_same r w.fuel (less r n) (less r w.fuel) (less_falls r n)
    (less_same r w.fuel n w.fuel l (omega arith)) f ss frame w (omega arith)

less_does : (r : Setup) (n : ℕ) → Same n (less r n) (does r)
less_does r zero f ss frame w l = absurd (omega arith)
less_does r (suc n) f ss frame w l = does_is r n f ss frame w (omega arith)

-- The equation of runs: what comes after a unit of fuel was spent is what statements do.
pub does_eq : (r : Setup) (f : Func) (ss : Stmts) (frame : Frame) (w : World) →
    does r f ss frame w ≡ does_stmts r (does r) f ss frame w
unfolding does
does_eq r f ss frame w =
    stmts_same r w.fuel (less r w.fuel) (does r) (less_falls r w.fuel) (less_does r w.fuel) f ss frame w (omega arith)
