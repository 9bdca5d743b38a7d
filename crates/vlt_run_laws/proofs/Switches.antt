-- Switches keep that what comes next is known.
use Rattle.std.proofs.Common.{◌≡◌, ℕ, ◌==◌, Bool, true, false, if◌then◌else◌, List, [], map, Some, sym, ap, subst}
use Rattle.std.proofs.lemmas.Option.{same_Some, none-some}
use Rattle.vlt_core.specs.Core.{switch, Arms, no_arms, arm, Func}
use Rattle.vlt_core.specs.Lookups.{variant_of}
use Rattle.vlt_core.specs.Maps.{map_after}
use Rattle.vlt_core.specs.Rows.{arm_rows}
use Rattle.vlt_core.specs.KindedBodies.{switch_broken, arms_broken, owning_toks, with_vars, ids_following_arms}
use Rattle.vlt_meaning.specs.World.{World, Frame, one, missing}
use Rattle.vlt_meaning.specs.Found.{or_fault}
use Rattle.vlt_meaning.specs.Step.{goes}
use Rattle.vlt_meaning.specs.Operands.{Case, case_in, with_empty_variable}
use Rattle.vlt_meaning.specs.Run.{Setup}
use Rattle.vlt_meaning_laws.specs.Machine.Got.{opened_got, filled_got}
use Rattle.vlt_meaning_laws.specs.Machine.Machine.{Task, when_got, enter_block, enter_arm}
use Rattle.vlt_meaning_laws.proofs.OfMachine.Gots.{opened_step, filled_step}
use Rattle.vlt_sound_worlds.specs.Agrees.{Agrees}
use Rattle.vlt_sound_worlds.specs.Typed.{IsTyped}
use Rattle.vlt_sound_worlds.specs.Safe.{Goal, Safe}
use Rattle.vlt_sound_worlds.proofs.Empty.{both_empty}
use Rattle.vlt_sound_worlds.proofs.Blocks.{agrees_in}
use Rattle.vlt_sound_worlds.specs.Scoped.{HasKeys}
use Rattle.vlt_sound_statements.specs.Makings.{HasCases}
use Rattle.vlt_sound_statements.specs.Sites.{comes_to}
use Rattle.vlt_sound_statements.proofs.Control.{weaker}
use Rattle.vlt_sound_statements.proofs.Arms.{Arm, arm_of}
use Rattle.vlt_sound_statements.proofs.Switches.{emptying, SwitchAt, switched_type, switched_case, type_is, case_is, switched_keys, IsOpen, the_arm, arm_here, arms_scope, case_opens, arm_fills}
use Rattle.vlt_run_laws.proofs.Moves.{Good, AllLists, GoodForm, lists_now}
use Rattle.vlt_run_laws.proofs.Blocks.{block_good}
use Rattle.vlt_run_laws.proofs.Parts.{known_found, given_good}

-- the arm of the case is entered
arm_entered : (f : Func) (c : Case) (arms : Arms) (a : Arm) (ts : List Task) (frame : Frame) (w : World) → arm_of c.number arms ≡ Some a →
    enter_arm f c arms ts frame w ≡
    when_got (filled_got f a.vs (map one c.parts) frame w) f ts (λ u frame same. enter_block f a.body ts frame w)
arm_entered f c no_arms a ts frame w e = absurd (none-some a e)
arm_entered f c (arm n vs b rest) a ts frame w e = by (c.number == n) (arm_entered f c rest a ts frame w) e
  where
    by : (t : Bool) →
        (arm_of c.number rest ≡ Some a → enter_arm f c rest ts frame w ≡ when_got (filled_got f a.vs (map one c.parts) frame w) f ts (λ u frame same. enter_block f a.body ts frame w)) →
        (if t then Some (record { vs = vs; body = b }) else arm_of c.number rest) ≡ Some a →
        (if t then when_got (filled_got f vs (map one c.parts) frame w) f ts (λ u frame same. enter_block f b ts frame w) else enter_arm f c rest ts frame w) ≡
        when_got (filled_got f a.vs (map one c.parts) frame w) f ts (λ u frame same. enter_block f a.body ts frame w)
    by true more e =
        ap (λ q. when_got (filled_got f q.vs (map one c.parts) frame w) f ts (λ u frame same. enter_block f q.body ts frame w))
        (same_Some (record { vs = vs; body = b }) a e)
    by false more e = more e

-- goals that speak of the world alone, and of the frame alone
abbrev in_world : (World → Type 0) → Goal
in_world P = record { goes = λ frame w. P w; jumps = λ c frame w. ⊥; leaves = λ a kept w. ⊥ }

abbrev in_frame : (Frame → Type 0) → Goal
in_frame P = record { goes = λ frame w. P frame; jumps = λ c frame w. ⊥; leaves = λ a kept w. ⊥ }

module _ (r : Setup) (n : ℕ) (all : AllLists r n) (f : Func) (typed : IsTyped r.program f) (keyed : HasKeys f)
    (cased : HasCases r.program f) where
  pub switch_good : (v : ℕ) (arms : Arms) (end : ℕ) → GoodForm r n f (switch v arms end)
  switch_good v arms end frame w x ts follows =
      let p = r.program in
      let both = both_empty (switch_broken p f x.ids v arms) (arms_broken p f x.ids v arms) x.kinded.row in
      let q : SwitchAt p f v arms frame w = record {
        site = x.site;
        ids = x.ids;
        before = x.map;
        following = x.following;
        here = x.here;
        agrees = x.agrees;
        broken = both.0;
        listed = both.1;
        rows = x.kinded.rows;
        first = x.leads.0;
        leads = x.leads.1;
      } in
      let c = switched_case p f typed keyed cased q in
      let a = the_arm p f typed keyed cased q in
      let ks = switched_keys p f typed keyed cased q in
      let body : Arm = record { vs = a.vs; body = a.body } in
      let opens = in_world (IsOpen p f typed keyed cased q) in
      let inner = with_vars f a.vs a.scope in
      let inside = map_after (arm_rows p f v c.number a.vs) (map_after (emptying f v) x.map) in
      let G = comes_to p f x.site x.following (ids_following_arms p f arms x.ids) in
      known_found r n (or_fault missing (variant_of f v)) (switched_type p f typed keyed cased q) (ap (or_fault missing) (type_is p f typed keyed cased q)) f ts w _
      (known_found r n (case_in (frame.vars v)) c (case_is p f typed keyed cased q) f ts w _
      (given_good r n opens (opened_got ks c.keys frame w) (λ u fr w'. goes frame w')
      (subst (Safe opens) (opened_step ks c.keys frame w (λ w'. goes frame w'))
      (case_opens p f typed keyed cased q opens (λ w'. goes frame w') (λ w' now. now))) f ts _
      (λ u fr w' now.
      let fills = in_frame (λ frame'. Agrees p f x.site.context inside inner [] frame' w'.objects) in
      subst (Good r n) (sym (arm_entered f c arms body ts (with_empty_variable f v frame) w' a.is))
      (given_good r n fills (filled_got f a.vs (map one c.parts) (with_empty_variable f v frame) w') (λ u fr same. goes fr w')
      (subst (Safe fills) (filled_step f a.vs (map one c.parts) (with_empty_variable f v frame) w' (λ fr. goes fr w'))
      (arm_fills p f typed keyed cased q w' now fills (λ fr. goes fr w') (λ frame' begun. begun))) f ts _
      (λ u frame' same begun.
      block_good r n (lists_now r n all) f a.body frame' w'
      (record {
        position = x.position;
        function = x.function;
        site = x.site;
        ids = inner;
        map = inside;
        following = x.following;
        extra = owning_toks f a.vs;
        here = arm_here p f typed keyed cased q;
        kinded = a.kinded;
        leads = a.leads;
        agrees = begun;
        head = x.head;
      }) ts
      (λ s safe. follows s (weaker _ G s
      (λ fr v now. agrees_in (ids_following_arms p f arms x.ids) (arms_scope p f typed keyed cased q) now)
      (λ c fr v jumped. jumped) (λ b kept v left. left) safe)))))))
