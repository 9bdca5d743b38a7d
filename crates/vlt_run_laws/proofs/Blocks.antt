-- Blocks, scopes, choices and loops keep that what comes next is known.
use Rattle.std.proofs.Common.{◌≡◌, ℕ, zero, suc, ◌==◌, ◌-◌, Bool, true, false, if◌then◌else◌, List, [], ◌∷◌, ◌++◌, Some, Ok, Err, refl, sym, ap, ◌∙◌, subst, arith}
use Rattle.vlt_ops.specs.Operator.{is_true}
use Rattle.vlt_core.specs.Core.{bool, Tok, Expr, choose, loop, scope, Block, block, Stmts, next, Form, Func, Program}
use Rattle.vlt_core.specs.Maps.{HeldMap, IsBelow, CanPass}
use Rattle.vlt_core.specs.Rows.{expr_rows, tokens_of}
use Rattle.vlt_core.specs.Bodies.{flow_of_block}
use Rattle.vlt_core.specs.Derives.{toward, DerivesBlock}
use Rattle.vlt_core.specs.KindedHeads.{has}
use Rattle.vlt_core.specs.KindedScopes.{Ids, at_block_start, left_behind}
use Rattle.vlt_core.specs.KindedOperands.{misfit, type_of_expr, expr_broken, value_broken}
use Rattle.vlt_core.specs.KindedBodies.{in_loop, list_broken, block_rows, ids_following_block, ids_following_stmts}
use Rattle.vlt_core_laws.specs.Scoped.{is_bound}
use Rattle.vlt_core_laws.proofs.Ids.{bound_left, bound_right}
use Rattle.vlt_core_laws.proofs.Listed.{listed_made}
use Rattle.vlt_meaning.specs.World.{World, Frame, fuel_end}
use Rattle.vlt_meaning.specs.Found.{Found}
use Rattle.vlt_meaning.specs.Values.{value_of, number_of}
use Rattle.vlt_meaning.specs.Step.{Step, goes, jumps, leaves, ends, with_found, left_block}
use Rattle.vlt_meaning.specs.Run.{Setup}
use Rattle.vlt_meaning_laws.specs.Machine.Machine.{Task, list, closing, turn, Conf, at, when_found, spending, enter_block, turn_on, after_move}
use Rattle.vlt_sound_worlds.specs.Agrees.{Context, scene, Agrees}
use Rattle.vlt_sound_worlds.specs.Typed.{IsTyped}
use Rattle.vlt_sound_worlds.specs.Safe.{Goal, Safe}
use Rattle.vlt_sound_worlds.specs.Scopes.{AreOwning}
use Rattle.vlt_sound_worlds.proofs.Empty.{both_empty}
use Rattle.vlt_sound_worlds.proofs.Rows.{stays_passed, expr_stays}
use Rattle.vlt_sound_worlds.proofs.Expressions.{expr_fine, wanted_number}
use Rattle.vlt_sound_worlds.proofs.PlainSteps.{number_safe}
use Rattle.vlt_sound_worlds.proofs.Blocks.{agrees_below, agrees_in, unused, gone_passed}
use Rattle.vlt_sound_worlds.specs.Scoped.{Widens}
use Rattle.vlt_sound_worlds.proofs.Widening.{entered_widens, block_widens, stmts_widen}
use Rattle.vlt_sound_worlds.proofs.Binding.{entered_scoped}
use Rattle.vlt_sound_worlds.proofs.Scoping.{block_scoped}
use Rattle.vlt_sound_statements.specs.Kinded.{IsKindedBlock}
use Rattle.vlt_sound_statements.specs.Sites.{Site, comes_to, IsAt}
use Rattle.vlt_sound_statements.proofs.Tokens.{all_away, listed_owning}
use Rattle.vlt_sound_statements.proofs.Unbroken.{none_left, none_right}
use Rattle.vlt_sound_statements.proofs.Control.{weaker, end_safe}
use Rattle.vlt_run_laws.specs.Named.{HasNamedHead}
use Rattle.vlt_core.specs.Instances.{IsInstanceOf}
use Rattle.vlt_run_laws.specs.Known.{IsKnown}
use Rattle.vlt_run_laws.proofs.Moves.{Good, Follows, GoodLists, AllLists, GoodForm, lists_now, fewer}

-- what is known of a block that is entered
pub record IsKnownBlock (p : Program) (f : Func) (b : Block) (frame : Frame) (w : World) : Type 0 where
  pub position : ℕ
  pub function : IsInstanceOf p position f
  pub site : Site
  pub ids : Ids
  pub map : HeldMap
  pub following : HeldMap
  pub extra : List Tok
  pub here : IsAt p f site ids
  pub kinded : IsKindedBlock p f site.around extra ids b
  pub leads : DerivesBlock site.breaks site.turns map (flow_of_block p f site.left b) following
  pub agrees : Agrees p f site.context map ids [] frame w.objects
  pub head : HasNamedHead f site.context

module _ (r : Setup) where
  pub found_good : {A : Type 0} (x : Found A) (f : Func) (ts : List Task) (w : World) (conf : A → Conf) (n : ℕ) (g : Goal) →
      Follows r n f ts g → Safe g (with_found x w (λ a. ends fuel_end w)) → ((a : A) → Good r n (conf a)) →
      Good r n (when_found x f ts w conf)
  unfolding when_found with_found
  found_good (Ok a) f ts w conf n g follows safe good = good a
  found_good (Err o) f ts w conf n g follows safe good = follows (ends o w) safe

  if_good : (n : ℕ) (b : Bool) (c d : Conf) → Good r n c → Good r n d → Good r n (if b then c else d)
  if_good n true c d one two = one
  if_good n false c d one two = two

  pub spend_good : (n : ℕ) (f : Func) (ts : List Task) (w : World) (conf : World → Conf) (g : Goal) → Follows r n f ts g →
      Good r n (conf (record w { fuel = w.fuel - 1 })) → Good r n (spending f ts w conf)
  unfolding spending
  spend_good n f ts w conf g follows good = if_good n (w.fuel == 0) (at f ts (ends fuel_end w)) _ (follows (ends fuel_end w) refl) good

  closing_good : (n : ℕ) (f : Func) (bound : List Tok) (ts : List Task) (a : Step) (g : Goal) → Follows r n f ts g →
      Safe g (left_block bound a) → Good r n (at f (closing bound ∷ ts) a)
  closing_good zero f bound ts a g follows safe = tt
  closing_good (suc n) f bound ts a g follows safe =
      (λ form frame w e. absurd (clash e.are), fewer r n _ (follows (left_block bound a) safe))
    where
      clash : {place : ℕ} {form : Form} {rest : Stmts} {us : List Task} → closing bound ∷ ts ≡ list (next place form rest) ∷ us → ⊥
      clash e = cc

  -- ---- blocks

  pub block_good : (n : ℕ) → GoodLists r n → (f : Func) (b : Block) (frame : Frame) (w : World)
      (x : IsKnownBlock r.program f b frame w) (ts : List Task) →
      Follows r n f ts (comes_to r.program f x.site x.following (ids_following_block r.program f b x.ids)) →
      Good r n (enter_block f b ts frame w)
  block_good n lists f (block ss bound end) frame w x ts follows =
      lists f ss frame w
      (record {
        position = x.position;
        function = x.function;
        site = inner;
        ids = at_block_start x.ids;
        map = x.map;
        following = x.leads.0;
        ended = false;
        here = record { entered = x.here.entered; scoped = entered_scoped x.here.scoped; outer = x.here.outer };
        kinded = x.kinded.rows;
        leads = x.leads.1;
        agrees = agrees_in (at_block_start x.ids) (λ u e. e) x.agrees;
        head = x.head;
      })
      (closing bound ∷ ts)
      (λ a safe. closing_good n f bound ts a (comes_to r.program f x.site x.following (left_behind x.ids last)) follows
      (end_safe (comes_to r.program f inner x.leads.0 last) (comes_to r.program f x.site x.following (left_behind x.ids last)) bound a safe
      (λ frame w now. (
        unused w now bound owning x.leads.2,
        agrees_in (left_behind x.ids last) (λ u e. grown.vars u e)
            (agrees_below (subst (λ m. IsBelow m x.following) (gone_passed bound x.leads.0 x.leads.2) x.leads.3) now),
      ))
      (λ c frame w jumped. (
        unused w jumped.agrees bound owning
            (all_away bound (toward c x.site.breaks x.site.turns) (λ t e.
            jumped.away t (listed t e) (bound_right x.site.left bound t e))),
        record {
          allowed = jumped.allowed;
          agrees = jumped.agrees;
          away = λ t token e. jumped.away t token (bound_left x.site.left bound t e);
        },
      ))
      (λ v kept w left. record { allowed = left.allowed; returned = left.returned })))
    where
      last : Ids
      last = ids_following_stmts r.program f ss (at_block_start x.ids)

      inner : Site
      inner = record x.site { left = x.site.left ++ bound }

      grown : Widens x.ids last
      grown = entered_widens x.ids (stmts_widen r.program f ss (at_block_start x.ids))

      owning : AreOwning f bound
      owning = listed_owning f bound (x.extra ++ last.bound) x.kinded.listed

      listed : (t : Tok) → is_bound bound t ≡ true → is_bound (tokens_of f) t ≡ true
      listed t e = (listed_made f bound (x.extra ++ last.bound) x.kinded.listed t e).0

  pub scope_good : (n : ℕ) → AllLists r n → (f : Func) (b : Block) → GoodForm r n f (scope b)
  scope_good n all f b frame w x ts follows =
      block_good n (lists_now r n all) f b frame w
      (record {
        position = x.position;
        function = x.function;
        site = x.site;
        ids = x.ids;
        map = x.map;
        following = x.following;
        extra = [];
        here = x.here;
        kinded = record { listed = x.kinded.row; rows = x.kinded.rows };
        leads = x.leads;
        agrees = x.agrees;
        head = x.head;
      }) ts follows

-- ---- conditions

module _ (r : Setup) {f : Func} (typed : IsTyped r.program f) {c : Context} {h : HeldMap} {ids : Ids} {frame : Frame} (w : World)
    (agrees : Agrees r.program f c h ids [] frame w.objects) (g : Goal) where
  pub condition_fine : (e : Expr) → value_broken r.program f ids (Some bool) e ≡ [] → CanPass (expr_rows r.program f e) h →
      Safe g (with_found (number_of r.program f e frame w.objects) w (λ z. ends fuel_end w))
  condition_fine e kinded pass =
      let both = both_empty (expr_broken r.program f ids e) (misfit (Some bool) (type_of_expr r.program f e)) kinded in
      number_safe g r.program (scene c w.objects agrees.heads) frame.keys (type_of_expr r.program f e)
      (value_of r.program f e frame w.objects) w (λ z. ends fuel_end w)
      (expr_fine typed ids agrees e both.0 pass)
      (λ v read. wanted_number r.program (scene c w.objects agrees.heads) frame.keys bool (type_of_expr r.program f e) v refl both.1 read)
      (λ z. refl)

block_vars : (p : Program) (f : Func) (b : Block) (ids : Ids) → (ids_following_block p f b ids).vars ≡ ids.vars
block_vars p f (block ss bound end) ids = refl

module _ (r : Setup) (typed : (i : ℕ) (f : Func) → IsInstanceOf r.program i f → IsTyped r.program f) where
  pub choose_good : (n : ℕ) → AllLists r n → (f : Func) (e : Expr) (a b : Block) → GoodForm r n f (choose e a b)
  choose_good n all f e a b frame w x ts follows =
      let ids2 = ids_following_block r.program f a x.ids in
      let s2 = both_empty (value_broken r.program f x.ids (Some bool) e ++ list_broken r.program f [] x.ids a) (list_broken r.program f [] ids2 b) x.kinded.row in
      let s1 = both_empty (value_broken r.program f x.ids (Some bool) e) (list_broken r.program f [] x.ids a) s2.0 in
      let rows_a = none_left (block_rows r.program f x.site.around x.ids a) (block_rows r.program f x.site.around ids2 b) x.kinded.rows in
      let rows_b = none_right (block_rows r.program f x.site.around x.ids a) (block_rows r.program f x.site.around ids2 b) x.kinded.rows in
      let same = stays_passed (expr_rows r.program f e) x.map (expr_stays r.program f e) in
      let vars_a : ids2.vars ≡ x.ids.vars = block_vars r.program f a x.ids in
      let vars_b : (ids_following_block r.program f b ids2).vars ≡ ids2.vars = block_vars r.program f b ids2 in
      let G = comes_to r.program f x.site x.following (ids_following_block r.program f b ids2) in
      found_good r (number_of r.program f e frame w.objects) f ts w _ n G follows
      (condition_fine r (typed x.position f x.function) w x.agrees G e s1.0 x.leads.0)
      (λ z. if_good r n (is_true z) (enter_block f a ts frame w) (enter_block f b ts frame w)
      (block_good r n (lists_now r n all) f a frame w
      (record {
        position = x.position;
        function = x.function;
        site = x.site;
        ids = x.ids;
        map = x.map;
        following = x.following;
        extra = [];
        here = x.here;
        kinded = record { listed = s1.1; rows = rows_a };
        leads = subst (λ m. DerivesBlock x.site.breaks x.site.turns m (flow_of_block r.program f x.site.left a) x.following) same x.leads.1;
        agrees = x.agrees;
        head = x.head;
      }) ts
      (λ q safe. follows q (weaker (comes_to r.program f x.site x.following ids2) G q
      (λ frame w now. agrees_in (ids_following_block r.program f b ids2) (λ u i. ap (λ vs. has vs u) (sym vars_b) ∙ i) now)
      (λ c frame w jumped. jumped) (λ v kept w left. left) safe)))
      (block_good r n (lists_now r n all) f b frame w
      (record {
        position = x.position;
        function = x.function;
        site = x.site;
        ids = ids2;
        map = x.map;
        following = x.following;
        extra = [];
        here = record {
          entered = x.here.entered;
          scoped = block_scoped r.program a x.here.scoped;
          outer = λ v e. (block_widens r.program f a x.ids).vars v (x.here.outer v e);
        };
        kinded = record { listed = s2.1; rows = rows_b };
        leads = subst (λ m. DerivesBlock x.site.breaks x.site.turns m (flow_of_block r.program f x.site.left b) x.following) same x.leads.2;
        agrees = agrees_in ids2 (λ u i. ap (λ vs. has vs u) (sym vars_a) ∙ i) x.agrees;
        head = x.head;
      }) ts follows))

  -- ---- loops

  module _ (f : Func) (e : Expr) (b : Block) {frame0 : Frame} {w0 : World} (x : IsKnown r.program f (loop e b) frame0 w0) (ts : List Task) where
    abbrev ids2 : Ids
    ids2 = ids_following_block r.program f b x.ids

    -- the map at the beginning of each turn
    abbrev each : HeldMap
    each = x.leads.0

    abbrev G : Goal
    G = comes_to r.program f x.site x.following ids2

    abbrev body : Site
    body = record {
      context = x.site.context;
      around = in_loop x.site.around;
      left = [];
      breaks = x.following;
      turns = each;
      outer = x.ids;
    }

    vars : ids2.vars ≡ x.ids.vars
    vars = block_vars r.program f b x.ids

    task_good : (n : ℕ) → Follows r (suc n) f ts G →
        ((frame : Frame) (w : World) → Agrees r.program f x.site.context each x.ids [] frame w.objects → Good r n (turn_on r f e b ts frame w)) →
        (a : Step) → Safe (comes_to r.program f body each ids2) a → Good r (suc n) (at f (turn e b ∷ ts) a)
    task_good n follows again a safe = (λ form frame w q. absurd (clash q.are), by a safe)
      where
        clash : {place : ℕ} {form : Form} {rest : Stmts} {us : List Task} → turn e b ∷ ts ≡ list (next place form rest) ∷ us → ⊥
        clash q = cc

        by : (a : Step) → Safe (comes_to r.program f body each ids2) a → Good r n (after_move r (at f (turn e b ∷ ts) a))
        by (goes frame w) turned = again frame w (agrees_in x.ids (λ u i. ap (λ vs. has vs u) vars ∙ i) turned)
        by (jumps true frame w) jumped = again frame w jumped.agrees
        by (jumps false frame w) jumped =
            fewer r n _ (follows (goes frame w) (agrees_in ids2 (λ u i. ap (λ vs. has vs u) (sym vars) ∙ i) jumped.agrees))
        by (leaves v kept w) left = fewer r n _ (follows (leaves v kept w) (record { allowed = left.allowed; returned = left.returned }))
        by (ends o w) safe = fewer r n _ (follows (ends o w) safe)

    tasks_good : (n : ℕ) → Follows r n f ts G →
        ((m : ℕ) → n ≡ suc m → (frame : Frame) (w : World) → Agrees r.program f x.site.context each x.ids [] frame w.objects → Good r m (turn_on r f e b ts frame w)) →
        (a : Step) → Safe (comes_to r.program f body each ids2) a → Good r n (at f (turn e b ∷ ts) a)
    tasks_good zero follows again a safe = tt
    tasks_good (suc n) follows again a safe = task_good n follows (again n refl) a safe

    turn_once : (n : ℕ) → GoodLists r n → Follows r n f ts G →
        ((m : ℕ) → n ≡ suc m → (frame : Frame) (w : World) → Agrees r.program f x.site.context each x.ids [] frame w.objects → Good r m (turn_on r f e b ts frame w)) →
        (frame : Frame) (w : World) → Agrees r.program f x.site.context each x.ids [] frame w.objects →
        Good r n (turn_on r f e b ts frame w)
    unfolding turn_on
    turn_once n lists follows again frame w now =
        let s1 = both_empty (value_broken r.program f x.ids (Some bool) e) (list_broken r.program f [] x.ids b) x.kinded.row in
        let stays = stays_passed (expr_rows r.program f e) each (expr_stays r.program f e) in
        let w1 = record w { fuel = w.fuel - 1 } in
        let following = agrees_below (subst (λ m. IsBelow m x.following) stays x.leads.3) now in
        spend_good r n f ts w _ G follows
        (found_good r (number_of r.program f e frame w.objects) f ts w1 _ n G follows
        (condition_fine r (typed x.position f x.function) w1 now G e s1.0 x.leads.2)
        (λ z. if_good r n (is_true z) (enter_block f b (turn e b ∷ ts) frame w1) (at f ts (goes frame w1))
        (block_good r n lists f b frame w1
        (record {
          position = x.position;
          function = x.function;
          site = body;
          ids = x.ids;
          map = each;
          following = each;
          extra = [];
          here = record { entered = x.here.entered; scoped = x.here.scoped; outer = λ v e. e };
          kinded = record { listed = s1.1; rows = x.kinded.rows };
          leads = subst (λ m. DerivesBlock x.following each m (flow_of_block r.program f [] b) each) stays x.leads.4;
          agrees = now;
          head = x.head;
        }) (turn e b ∷ ts) (λ a safe. tasks_good n follows again a safe))
        (follows (goes frame w1) (agrees_in ids2 (λ u i. ap (λ vs. has vs u) (sym vars) ∙ i) following))))

    turns_good : (n : ℕ) → AllLists r n → Follows r n f ts G → (frame : Frame) (w : World) →
        Agrees r.program f x.site.context each x.ids [] frame w.objects → Good r n (turn_on r f e b ts frame w)
    turns_good zero all follows frame w now = tt
    turns_good (suc n) all follows frame w now =
        turn_once (suc n) all.0 follows
        (λ m q. subst (λ q. (frame : Frame) (w : World) → Agrees r.program f x.site.context each x.ids [] frame w.objects → Good r q (turn_on r f e b ts frame w)) (same_number n m q)
        (turns_good n all.1 (λ a s. fewer r n _ (follows a s)))) frame w now
      where
        same_number : (n m : ℕ) → suc n ≡ suc m → n ≡ m
        same_number n m q = omega (arith, q)

  pub loop_good : (n : ℕ) → AllLists r n → (f : Func) (e : Expr) (b : Block) → GoodForm r n f (loop e b)
  loop_good n all f e b frame w x ts follows =
      turns_good f e b x ts n all follows frame w (agrees_below x.leads.1 x.agrees)
