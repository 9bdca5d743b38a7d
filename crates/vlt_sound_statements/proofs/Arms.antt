-- The arm of a case.
use Rattle.std.proofs.Common.{◌≡◌, ⊎_elim, ℕ, ◌==◌, Bool, true, false, if◌then◌else◌, List, [], ◌++◌, map, Option, Some, None, refl, sym, ap, ◌∙◌, subst}
use Rattle.std.proofs.lemmas.Bool.{cases_Bool, eqb-true, eq-eqb}
use Rattle.std.proofs.lemmas.Option.{same_Some, none-some}
use Rattle.vlt_core.specs.Core.{Arms, no_arms, arm, Block, Func, Program}
use Rattle.vlt_core.specs.Maps.{HeldMap, CanPass, map_after}
use Rattle.vlt_core.specs.Rows.{arm_rows}
use Rattle.vlt_core.specs.Bodies.{flow_of_block, flow_of_arms}
use Rattle.vlt_core.specs.Derives.{DerivesBlock, DerivesArms}
use Rattle.vlt_core.specs.KindedHeads.{has}
use Rattle.vlt_core.specs.KindedScopes.{Ids, left_behind}
use Rattle.vlt_core.specs.KindedBodies.{arm_cases, owning_toks, with_vars, arm_broken, list_broken, arms_broken, block_rows, arms_rows, ids_following_block, ids_following_arms}
use Rattle.vlt_core_laws.proofs.Ids.{or_split}
use Rattle.vlt_meaning.specs.World.{one, World, Frame}
use Rattle.vlt_meaning.specs.Step.{with_filled}
use Rattle.vlt_meaning.specs.Operands.{Case}
use Rattle.vlt_meaning.specs.Run.{Setup, Meaning, does_block, does_arm}
use Rattle.vlt_sound_worlds.proofs.Empty.{both_empty}
use Rattle.vlt_sound_worlds.proofs.Widening.{vars_widen, block_widens, widens_both}
use Rattle.vlt_sound_worlds.proofs.Binding.{left_scoped}
use Rattle.vlt_sound_statements.specs.Kinded.{BreakNone, IsKindedBlock}
use Rattle.vlt_sound_statements.specs.Sites.{Site, IsAt}
use Rattle.vlt_sound_statements.specs.Statements.{IsSafeBlock}
use Rattle.vlt_sound_statements.proofs.Unbroken.{none_left, none_right}
use Rattle.vlt_sound_statements.specs.Arms.{AreSafeArms}

-- the scope after the arms is the one before them
pub arms_vars : (p : Program) (f : Func) (arms : Arms) (ids : Ids) → (ids_following_arms p f arms ids).vars ≡ ids.vars
arms_vars p f no_arms ids = refl
arms_vars p f (arm c vs b rest) ids =
    arms_vars p f rest (left_behind ids (ids_following_block p f b (with_vars f vs ids)))

-- ---- the arm that is done

-- an arm's variables and its block
pub record Arm : Type 0 where
  pub vs : List ℕ
  pub body : Block

-- the first arm of a case
abbrev pub arm_of : (case : ℕ) → Arms → Option Arm
arm_of case no_arms = None
arm_of case (arm c vs b rest) = if case == c then Some (record { vs = vs; body = b }) else arm_of case rest

module _ (r : Setup) (rest_of : Meaning) (f : Func) where
  pub arm_is_safe : (case : ℕ) (arms : Arms) (a : Arm) → AreSafeArms r rest_of f arms → arm_of case arms ≡ Some a →
      IsSafeBlock r rest_of f a.body
  arm_is_safe case no_arms a safe e = absurd (none-some a e)
  arm_is_safe case (arm c vs b rest) a safe e = by (case == c) (arm_is_safe case rest a safe.1) e
    where
      by : (t : Bool) → (arm_of case rest ≡ Some a → IsSafeBlock r rest_of f a.body) →
          (if t then Some (record { vs = vs; body = b }) else arm_of case rest) ≡ Some a → IsSafeBlock r rest_of f a.body
      by true more e = subst (λ q. IsSafeBlock r rest_of f q.body) (same_Some (record { vs = vs; body = b }) a e) safe.0
      by false more e = more e

  pub arm_is_done : (c : Case) (arms : Arms) (a : Arm) (frame : Frame) (w : World) → arm_of c.number arms ≡ Some a →
      does_arm r rest_of f c arms frame w ≡
      with_filled f a.vs (map one c.parts) frame w (λ frame. does_block r rest_of f a.body frame w)
  arm_is_done c no_arms a frame w e = absurd (none-some a e)
  arm_is_done c (arm n vs b rest) a frame w e = by (c.number == n) (arm_is_done c rest a frame w) e
    where
      by : (t : Bool) →
          (arm_of c.number rest ≡ Some a → does_arm r rest_of f c rest frame w ≡ with_filled f a.vs (map one c.parts) frame w (λ frame. does_block r rest_of f a.body frame w)) →
          (if t then Some (record { vs = vs; body = b }) else arm_of c.number rest) ≡ Some a →
          (if t then with_filled f vs (map one c.parts) frame w (λ frame. does_block r rest_of f b frame w) else does_arm r rest_of f c rest frame w) ≡
          with_filled f a.vs (map one c.parts) frame w (λ frame. does_block r rest_of f a.body frame w)
      by true more e =
          ap (λ q. with_filled f q.vs (map one c.parts) frame w (λ frame. does_block r rest_of f q.body frame w))
          (same_Some (record { vs = vs; body = b }) a e)
      by false more e = more e

-- ---- what is known of it

module _ (p : Program) (f : Func) (s : Site) (v : ℕ) (h k : HeldMap) where
  -- what is known of the arm of a case, where the arms before it are passed over
  pub record ArmAt (case : ℕ) (arms : Arms) (ids : Ids) : Type 0 where
    pub vs : List ℕ
    pub body : Block
    pub is : arm_of case arms ≡ Some (record { vs = vs; body = body })
    pub scope : Ids
    pub vars : scope.vars ≡ ids.vars
    pub here : IsAt p f s scope
    pub broken : arm_broken p f scope v case vs ≡ []
    pub kinded : IsKindedBlock p f s.around (owning_toks f vs) (with_vars f vs scope) body
    pub pass : CanPass (arm_rows p f v case vs) h
    pub leads : DerivesBlock s.breaks s.turns (map_after (arm_rows p f v case vs) h) (flow_of_block p f s.left body) k

  pub arm_at : (case : ℕ) (arms : Arms) (ids : Ids) → IsAt p f s ids → arms_broken p f ids v arms ≡ [] →
      BreakNone (arms_rows p f s.around ids arms) →
      DerivesArms s.breaks s.turns h (flow_of_arms p f s.left v arms) k →
      has (arm_cases arms) case ≡ true → ArmAt case arms ids
  arm_at case no_arms ids here broken rows leads among = cc
  arm_at case (arm c vs b rest) ids here broken rows leads among =
      let ids1 = with_vars f vs ids in
      let ids2 = left_behind ids (ids_following_block p f b ids1) in
      let s2 = both_empty (arm_broken p f ids v c vs ++ list_broken p f (owning_toks f vs) ids1 b) (arms_broken p f ids2 v rest) broken in
      let s1 = both_empty (arm_broken p f ids v c vs) (list_broken p f (owning_toks f vs) ids1 b) s2.0 in
      let rows_b = none_left (block_rows p f s.around ids1 b) (arms_rows p f s.around ids2 rest) rows in
      let rows_rest = none_right (block_rows p f s.around ids1 b) (arms_rows p f s.around ids2 rest) rows in
      ⊎_elim
      (λ same. subst (λ n. ArmAt n (arm c vs b rest) ids) (eqb-true c case same)
      (record {
        vs = vs;
        body = b;
        is = ap (λ t. if t then Some (record { vs = vs; body = b }) else arm_of c rest) (eq-eqb c c refl);
        scope = ids;
        vars = refl;
        here = here;
        broken = s1.0;
        kinded = record { listed = s1.1; rows = rows_b };
        pass = leads.0;
        leads = leads.1;
      }))
      (λ other. ⊎_elim
      (λ same. absurd (clash (sym same ∙ other)))
      (λ more.
      let found = arm_at case rest ids2 (at_next ids vs b here) s2.1 rows_rest leads.2 more in
      record {
        vs = found.vs;
        body = found.body;
        is = ap (λ t. if t then Some (record { vs = vs; body = b }) else arm_of case rest) (not_same case c other) ∙ found.is;
        scope = found.scope;
        vars = found.vars;
        here = found.here;
        broken = found.broken;
        kinded = found.kinded;
        pass = found.pass;
        leads = found.leads;
      })
      (or_split (c == case) (has (arm_cases rest) case) among))
      (cases_Bool (c == case))
    where
      clash : true ≡ false → ⊥
      clash e = cc

      not_same : (case c : ℕ) → (c == case) ≡ false → (case == c) ≡ false
      not_same case c other = ⊎_elim
          (λ same. absurd (clash (sym (eq-eqb c case (sym (eqb-true case c same))) ∙ other)))
          (λ no. no)
          (cases_Bool (case == c))

      at_next : (ids : Ids) (vs : List ℕ) (b : Block) → IsAt p f s ids →
          IsAt p f s (left_behind ids (ids_following_block p f b (with_vars f vs ids)))
      at_next ids vs b here = record {
        entered = here.entered;
        scoped = left_scoped (widens_both (vars_widen f vs ids) (block_widens p f b (with_vars f vs ids))) here.scoped;
        outer = here.outer;
      }
