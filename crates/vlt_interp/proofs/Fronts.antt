-- Which task is in front, and where the last step came to.
use Rattle.std.proofs.Common.{◌≡◌, Bool, List, [], ◌∷◌, subst}
use Rattle.std.specs.Borrow.{Bor}
use Rattle.vlt_core.specs.declared.program.Stmt.{Stmt}
use Rattle.vlt_core.specs.declared.program.Expr.{Expr as CodeExpr}
use Rattle.vlt_core.specs.declared.program.Block.{Block as CodeBlock}
use Rattle.vlt_core.specs.View.{stmts_of}
use Rattle.vlt_core.specs.Core.{Expr, Tok, Block, Stmts, Func}
use Rattle.vlt_heap.specs.Items.{Items}
use Rattle.vlt_meaning.specs.World.{Frame, World}
use Rattle.vlt_meaning.specs.Step.{Step, goes, jumps, leaves, ends}
use Rattle.vlt_meaning_laws.specs.Machine.Machine as m
use Rattle.vlt_meaning_laws.specs.Machine.Machine.{Caller, Conf, at}
use Rattle.vlt_acts.specs.declared.frames.waiting.Waiting.{Waiting}
use Rattle.vlt_interp.specs.declared.tasks.task.At.{At}
use Rattle.vlt_interp.specs.declared.tasks.task.At.TheVariants.{Goes, Jumps, Leaves}
use Rattle.vlt_interp.specs.declared.tasks.task.Task.{Task}
use Rattle.vlt_interp.specs.declared.tasks.task.Task.TheVariants.{List as Listed, Closing, Turn, Back}
use Rattle.vlt_interp.specs.declared.tasks.task.Run.{Run}
use Rattle.vlt_interp.specs.Tasks.Shown.{IsTurn, Runs, Jumped, WasLeft, ShowsStep, ShowsWith}

-- ---- the task in front

module _ (r : Run) (left : List Task) where
  pub by_list : (ss : Bor (List Stmt)) (P : Conf → Type 0) → ((f : Func) (ts : Stmts) (us : List m.Task) (a : Step) → stmts_of ss.now ≡ ts → ShowsWith (Listed ss ∷ left) r (at f (m.list ts ∷ us) a) → P (at f (m.list ts ∷ us) a)) → (c : Conf) → ShowsWith (Listed ss ∷ left) r c → P c
  by_list ss P h c q = go c.func c.tasks c.step q
    where
      go : (f : Func) (ts : List m.Task) (a : Step) → ShowsWith (Listed ss ∷ left) r (at f ts a) → P (at f ts a)
      go f [] a q = absurd q.shown
      go f (m.list ts ∷ us) a q = h f ts us a q.shown.0 q
      go f (m.closing bound ∷ us) a q = absurd q.shown.0
      go f (m.turn d body ∷ us) a q = absurd q.shown.0
      go f (m.unfocus g j o n ∷ us) a q = absurd q.shown.0
      go f (m.back k ∷ us) a q = absurd q.shown.0

  pub by_closing : (P : Conf → Type 0) → ((f : Func) (bound : List Tok) (us : List m.Task) (a : Step) → ShowsWith (Closing ∷ left) r (at f (m.closing bound ∷ us) a) → P (at f (m.closing bound ∷ us) a)) → (c : Conf) → ShowsWith (Closing ∷ left) r c → P c
  by_closing P h c q = go c.func c.tasks c.step q
    where
      go : (f : Func) (ts : List m.Task) (a : Step) → ShowsWith (Closing ∷ left) r (at f ts a) → P (at f ts a)
      go f [] a q = absurd q.shown
      go f (m.list xs ∷ us) a q = absurd q.shown.0
      go f (m.closing bound ∷ us) a q = h f bound us a q
      go f (m.turn d body ∷ us) a q = absurd q.shown.0
      go f (m.unfocus g j o n ∷ us) a q = absurd q.shown.0
      go f (m.back k ∷ us) a q = absurd q.shown.0

  pub by_turn : (e : Bor CodeExpr) (b : Bor CodeBlock) (P : Conf → Type 0) → ((f : Func) (d : Expr) (body : Block) (us : List m.Task) (a : Step) → IsTurn e.now b.now d body → ShowsWith (Turn e b ∷ left) r (at f (m.turn d body ∷ us) a) → P (at f (m.turn d body ∷ us) a)) → (c : Conf) → ShowsWith (Turn e b ∷ left) r c → P c
  by_turn e b P h c q = go c.func c.tasks c.step q
    where
      go : (f : Func) (ts : List m.Task) (a : Step) → ShowsWith (Turn e b ∷ left) r (at f ts a) → P (at f ts a)
      go f [] a q = absurd q.shown
      go f (m.list xs ∷ us) a q = absurd q.shown.0
      go f (m.closing bound ∷ us) a q = absurd q.shown.0
      go f (m.turn d body ∷ us) a q = h f d body us a q.shown.0 q
      go f (m.unfocus g j o n ∷ us) a q = absurd q.shown.0
      go f (m.back k ∷ us) a q = absurd q.shown.0

  pub by_back : (w : Waiting) (P : Conf → Type 0) → ((f : Func) (k : Caller) (us : List m.Task) (a : Step) → ShowsWith (Back w ∷ left) r (at f (m.back k ∷ us) a) → P (at f (m.back k ∷ us) a)) → (c : Conf) → ShowsWith (Back w ∷ left) r c → P c
  by_back w P h c q = go c.func c.tasks c.step q
    where
      go : (f : Func) (ts : List m.Task) (a : Step) → ShowsWith (Back w ∷ left) r (at f ts a) → P (at f ts a)
      go f [] a q = absurd q.shown
      go f (m.list xs ∷ us) a q = absurd q.shown.0
      go f (m.closing bound ∷ us) a q = absurd q.shown.0
      go f (m.turn d body ∷ us) a q = absurd q.shown.0
      go f (m.unfocus g j o n ∷ us) a q = absurd q.shown.0
      go f (m.back k ∷ us) a q = h f k us a q

-- ---- where the last step came to

module _ (items : Items) (r : Run) (f : Func) (P : Step → Type 0) where
  pub by_goes : (x : At) → x ≡ Goes → ((frame : Frame) (w : World) → Runs items r f frame w → P (goes frame w)) → (a : Step) → ShowsStep items r f x a → P a
  by_goes x e h a q = go a (subst (λ y. ShowsStep items r f y a) e q)
    where
      go : (a : Step) → ShowsStep items r f Goes a → P a
      go (goes frame w) q = h frame w q
      go (jumps c frame w) q = absurd q
      go (leaves b kept w) q = absurd q
      go (ends o w) q = absurd q

  pub by_jumps : (x : At) (k : Bool) → x ≡ Jumps k → ((c : Bool) (frame : Frame) (w : World) → Jumped items r f k c frame w → P (jumps c frame w)) → (a : Step) → ShowsStep items r f x a → P a
  by_jumps x k e h a q = go a (subst (λ y. ShowsStep items r f y a) e q)
    where
      go : (a : Step) → ShowsStep items r f (Jumps k) a → P a
      go (goes frame w) q = absurd q
      go (jumps c frame w) q = h c frame w q
      go (leaves b kept w) q = absurd q
      go (ends o w) q = absurd q

  pub by_leaves : (x : At) → x ≡ Leaves → ((b : _) (kept : _) (w : World) → WasLeft items r f b kept w → P (leaves b kept w)) → (a : Step) → ShowsStep items r f x a → P a
  by_leaves x e h a q = go a (subst (λ y. ShowsStep items r f y a) e q)
    where
      go : (a : Step) → ShowsStep items r f Leaves a → P a
      go (goes frame w) q = absurd q
      go (jumps c frame w) q = absurd q
      go (leaves b kept w) q = h b kept w q
      go (ends o w) q = absurd q

-- a run under way has not ended
pub not_ended : (items : Items) (r : Run) (f : Func) (x : At) (o : _) (w : World) → ShowsStep items r f x (ends o w) → ⊥
not_ended items r f Goes o w h = h
not_ended items r f (Jumps k) o w h = h
not_ended items r f Leaves o w h = h
