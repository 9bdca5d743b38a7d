-- What the machine does with a statement that is no call and no return is the same in each instance of a function: only the
-- function that the configuration names is another.
use Rattle.std.proofs.Common.{◌≡◌, ℕ, ◌==◌, ◌-◌, Bool, true, false, if◌then◌else◌, List, map, Option, Ok, Err, refl, ap}
use Rattle.vlt_ops.specs.Operator.{is_true}
use Rattle.vlt_core.specs.Core.{Expr, Block, block, Arms, no_arms, arm, Simple, simple, choose, switch, focus, Func}
use Rattle.vlt_core.specs.Instances.{instance}
use Rattle.vlt_meaning.specs.World.{one, World, Frame}
use Rattle.vlt_meaning.specs.Found.{Found}
use Rattle.vlt_meaning.specs.Operands.{Case}
use Rattle.vlt_meaning.specs.Run.{Setup}
use Rattle.vlt_meaning_laws.proofs.Instanced.{simple_same}
use Rattle.vlt_meaning_laws.specs.Machine.Got.{Got, got, stopped, filled_got}
use Rattle.vlt_meaning_laws.specs.Machine.Machine.{Task, Conf, at, when_found, when_got, spending, enter_block, enter_arm, turn_on, act}

abbrev pub with_func : Func → Conf → Conf
with_func g c = record c { func = g }

module _ (f g : Func) where
  found_func : {A : Type 0} (x : Found A) (ts : List Task) (w : World) (go go' : A → Conf) → ((a : A) → go' a ≡ with_func g (go a)) →
      when_found x g ts w go' ≡ with_func g (when_found x f ts w go)
  unfolding when_found
  found_func (Ok a) ts w go go' e = e a
  found_func (Err o) ts w go go' e = refl

  got_func : {A : Type 0} (x : Got A) (ts : List Task) (go go' : A → Frame → World → Conf) → ((a : A) (frame : Frame) (w : World) → go' a frame w ≡ with_func g (go a frame w)) →
      when_got x g ts go' ≡ with_func g (when_got x f ts go)
  unfolding when_got
  got_func (got a frame w) ts go go' e = e a frame w
  got_func (stopped o w) ts go go' e = refl

  if_func : (b : Bool) (c d c' d' : Conf) → c' ≡ with_func g c → d' ≡ with_func g d → (if b then c' else d') ≡ with_func g (if b then c else d)
  if_func true c d c' d' e h = e
  if_func false c d c' d' e h = h

  spend_func : (ts : List Task) (w : World) (go go' : World → Conf) → ((v : World) → go' v ≡ with_func g (go v)) → spending g ts w go' ≡ with_func g (spending f ts w go)
  unfolding spending
  spend_func ts w go go' e = if_func (w.fuel == 0) _ _ _ _ refl (e (record w { fuel = w.fuel - 1 }))

  block_func : (b : Block) (ts : List Task) (frame : Frame) (w : World) → enter_block g b ts frame w ≡ with_func g (enter_block f b ts frame w)
  block_func (block ss bound end) ts frame w = refl

module _ (r : Setup) (f : Func) (o : Option ℕ) where
  abbrev f' : Func
  f' = instance r.program f o

  turn_func : (e : Expr) (b : Block) (ts : List Task) (frame : Frame) (w : World) → turn_on r f' e b ts frame w ≡ with_func f' (turn_on r f e b ts frame w)
  unfolding turn_on
  turn_func e b ts frame w =
      spend_func f f' ts w _ _ (λ v. found_func f f' _ ts v _ _ (λ z. if_func f f' (is_true z) _ _ _ _ (block_func f f' b _ frame v) refl))

  arm_func : (c : Case) (arms : Arms) (ts : List Task) (frame : Frame) (w : World) → enter_arm f' c arms ts frame w ≡ with_func f' (enter_arm f c arms ts frame w)
  unfolding filled_got
  arm_func c no_arms ts frame w = refl
  arm_func c (arm n vs body rest) ts frame w =
      if_func f f' (c.number == n) _ _ _ _
      (got_func f f' (filled_got f vs (map one c.parts) frame w) ts _ _ (λ u frame2 v. block_func f f' body ts frame2 w))
      (arm_func c rest ts frame w)

  pub simple_func : (s : Simple) (ts : List Task) (frame : Frame) (w : World) → act r f' (simple s) ts frame w ≡ with_func f' (act r f (simple s) ts frame w)
  simple_func s ts frame w = ap (at f' ts) (simple_same r f o s frame w)

  pub choose_func : (e : Expr) (a b : Block) (ts : List Task) (frame : Frame) (w : World) → act r f' (choose e a b) ts frame w ≡ with_func f' (act r f (choose e a b) ts frame w)
  choose_func e a b ts frame w = found_func f f' _ ts w _ _ (λ z. if_func f f' (is_true z) _ _ _ _ (block_func f f' a ts frame w) (block_func f f' b ts frame w))

  pub switch_func : (v : ℕ) (arms : Arms) (end : ℕ) (ts : List Task) (frame : Frame) (w : World) →
      act r f' (switch v arms end) ts frame w ≡ with_func f' (act r f (switch v arms end) ts frame w)
  switch_func v arms end ts frame w =
      found_func f f' _ ts w _ _ (λ t. found_func f f' _ ts w _ _ (λ c. got_func f f' _ ts _ _ (λ u same w. arm_func c arms ts _ w)))

  pub focus_func : (y z : ℕ) (b : Block) (ts : List Task) (frame : Frame) (w : World) → act r f' (focus y z b) ts frame w ≡ with_func f' (act r f (focus y z b) ts frame w)
  focus_func y z b ts frame w =
      found_func f f' _ ts w _ _ (λ g. found_func f f' _ ts w _ _ (λ q. found_func f f' _ ts w _ _ (λ a. found_func f f' _ ts w _ _ (λ n. block_func f f' b _ _ _))))
