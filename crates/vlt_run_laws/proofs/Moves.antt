-- By the number of moves: all statements that come next are known, where each statement keeps that.
use Rattle.std.proofs.Common.{◌≡◌, ℕ, zero, suc, Bool, not, List, [], ◌∷◌, Option, ap, subst}
use Rattle.vlt_core.specs.Core.{Form, Stmts, done, next, Func, Program}
use Rattle.vlt_core.specs.Kinded.{IsKinded}
use Rattle.vlt_core.specs.Maps.{HeldMap}
use Rattle.vlt_core.specs.Bodies.{flow_of_stmts}
use Rattle.vlt_core.specs.Derives.{DerivesStmts}
use Rattle.vlt_core.specs.KindedHeads.{unless}
use Rattle.vlt_core.specs.declared.rules.TheConstants as rule
use Rattle.vlt_core.specs.KindedScopes.{Ids}
use Rattle.vlt_core.specs.KindedBodies.{row_broken, form_rows, stmts_rows, ids_following, ids_following_stmts, ends as ends_list}
use Rattle.vlt_meaning.specs.World.{Value, World, Frame, Outcome}
use Rattle.vlt_meaning.specs.Step.{Step, goes, jumps, leaves, ends}
use Rattle.vlt_meaning.specs.Run.{Setup}
use Rattle.vlt_meaning_laws.specs.Machine.Machine.{Task, list, Conf, at, act, after_move, moves}
use Rattle.vlt_meaning_laws.specs.Machine.Reached.{IsBefore}
use Rattle.vlt_sound_worlds.specs.Agrees.{Agrees}
use Rattle.vlt_sound_worlds.specs.Safe.{Goal, Safe}
use Rattle.vlt_sound_worlds.proofs.Empty.{both_empty}
use Rattle.vlt_sound_worlds.proofs.Blocks.{agrees_below}
use Rattle.vlt_sound_worlds.proofs.Widening.{form_widens}
use Rattle.vlt_sound_worlds.proofs.Scoping.{form_scoped}
use Rattle.vlt_sound_statements.specs.Kinded.{AreKinded}
use Rattle.vlt_sound_statements.specs.Sites.{Site, comes_to, IsAt}
use Rattle.vlt_sound_statements.proofs.Unbroken.{none_left, none_right}
use Rattle.vlt_run_laws.specs.Named.{HasNamedHead}
use Rattle.vlt_run_laws.proofs.Instanced.{keys_of}
use Rattle.vlt_core.specs.Instances.{IsInstanceOf}
use Rattle.vlt_run_laws.specs.Known.{IsKnown}

-- the statement that comes next, if one does, is known
abbrev pub Tells : Setup → Conf → Type 0
Tells r c = (form : Form) (frame : Frame) (w : World) → IsBefore c form frame w → IsKnown r.program c.func form frame w

-- so it is for so many moves
abbrev pub Good : Setup → ℕ → Conf → Type 0
Good r zero c = Unit {0}
Good r (suc n) c = Tells r c × Good r n (after_move r c)

-- from where a step comes to that is safe
abbrev pub Follows : Setup → ℕ → Func → List Task → Goal → Type 0
Follows r n f ts g = (a : Step) → Safe g a → Good r n (at f ts a)

-- what is known of statements that come next
pub record AreKnown (p : Program) (f : Func) (ss : Stmts) (frame : Frame) (w : World) : Type 0 where
  pub position : ℕ
  pub function : IsInstanceOf p position f
  pub site : Site
  pub ids : Ids
  pub map : HeldMap
  pub following : HeldMap
  pub ended : Bool
  pub here : IsAt p f site ids
  pub kinded : AreKinded p f site.around ids ended ss
  pub leads : DerivesStmts site.breaks site.turns map (flow_of_stmts p f site.left ss) following
  pub agrees : Agrees p f site.context map ids [] frame w.objects
  pub head : HasNamedHead f site.context

abbrev pub GoodLists : Setup → ℕ → Type 0
GoodLists r n = (f : Func) (ss : Stmts) (frame : Frame) (w : World) (x : AreKnown r.program f ss frame w) (ts : List Task) →
    Follows r n f ts (comes_to r.program f x.site x.following (ids_following_stmts r.program f ss x.ids)) →
    Good r n (at f (list ss ∷ ts) (goes frame w))

-- of so many moves and of each number below
abbrev pub AllLists : Setup → ℕ → Type 0
AllLists r zero = GoodLists r zero
AllLists r (suc n) = GoodLists r (suc n) × AllLists r n

abbrev pub GoodForm : Setup → ℕ → Func → Form → Type 0
GoodForm r n f form = (frame : Frame) (w : World) (x : IsKnown r.program f form frame w) (ts : List Task) →
    Follows r n f ts (comes_to r.program f x.site x.following (ids_following r.program f form x.ids)) →
    Good r n (act r f form ts frame w)

-- ---- moves

pub tells_all : (r : Setup) (c : Conf) → ((n : ℕ) → Good r n c) → (m : ℕ) → Tells r (moves r m c)
tells_all r c good zero = (good 1).0
tells_all r c good (suc m) = tells_all r (after_move r c) (λ n. (good (suc n)).1) m

pub fewer : (r : Setup) (n : ℕ) (c : Conf) → Good r (suc n) c → Good r n c
fewer r zero c good = tt
fewer r (suc n) c good = (good.0, fewer r n (after_move r c) good.1)

pub lists_now : (r : Setup) (n : ℕ) → AllLists r n → GoodLists r n
lists_now r zero all = all
lists_now r (suc n) all = all.0

-- no statement comes next where the step doesn't go on, and the list of statements is left
module _ (r : Setup) (f : Func) (ss : Stmts) (ts : List Task) where
  jumped : (n : ℕ) (continues : Bool) (frame : Frame) (w : World) → Good r n (at f ts (jumps continues frame w)) →
      Good r n (at f (list ss ∷ ts) (jumps continues frame w))
  jumped zero b frame w good = tt
  jumped (suc n) b frame w good = (λ form frame' w' e. absurd (clash e.step), over ss)
    where
      clash : {frame' : Frame} {w' : World} → jumps b frame w ≡ goes frame' w' → ⊥
      clash e = cc

      over : (ss : Stmts) → Good r n (after_move r (at f (list ss ∷ ts) (jumps b frame w)))
      over done = fewer r n _ good
      over (next at form rest) = fewer r n _ good

  left : (n : ℕ) (a : Option Value) (kept : List ℕ) (w : World) → Good r n (at f ts (leaves a kept w)) →
      Good r n (at f (list ss ∷ ts) (leaves a kept w))
  left zero a kept w good = tt
  left (suc n) a kept w good = (λ form frame' w' e. absurd (clash e.step), over ss)
    where
      clash : {frame' : Frame} {w' : World} → leaves a kept w ≡ goes frame' w' → ⊥
      clash e = cc

      over : (ss : Stmts) → Good r n (after_move r (at f (list ss ∷ ts) (leaves a kept w)))
      over done = fewer r n _ good
      over (next at form rest) = fewer r n _ good

  ended : (n : ℕ) (o : Outcome) (w : World) → Good r n (at f ts (ends o w)) → Good r n (at f (list ss ∷ ts) (ends o w))
  ended zero o w good = tt
  ended (suc n) o w good = (λ form frame' w' e. absurd (clash e.step), over ss)
    where
      clash : {frame' : Frame} {w' : World} → ends o w ≡ goes frame' w' → ⊥
      clash e = cc

      over : (ss : Stmts) → Good r n (after_move r (at f (list ss ∷ ts) (ends o w)))
      over done = fewer r n _ good
      over (next at form rest) = fewer r n _ good

-- ---- statements one after another

module _ (r : Setup) (kinded : IsKinded r.program) {f : Func} {place : ℕ} {form : Form} {rest : Stmts} {frame : Frame} {w : World}
    (x : AreKnown r.program f (next place form rest) frame w) where
  abbrev first_row : row_broken r.program f x.site.around x.ids form ≡ []
  first_row = (both_empty (unless (not x.ended) rule.AFTER_END) (row_broken r.program f x.site.around x.ids form) x.kinded.0).1

  abbrev pub first_known : IsKnown r.program f form frame w
  first_known = record {
    position = x.position;
    function = x.function;
    site = x.site;
    ids = x.ids;
    map = x.map;
    following = x.leads.0;
    here = x.here;
    kinded = record {
      row = first_row;
      rows =
          none_left (form_rows r.program f x.site.around x.ids form)
          (stmts_rows r.program f x.site.around (ids_following r.program f form x.ids) (ends_list form) rest) x.kinded.1;
    };
    leads = x.leads.1;
    agrees = x.agrees;
    head = x.head;
  }

  abbrev pub rest_known : (frame' : Frame) (w' : World) →
      Agrees r.program f x.site.context x.leads.0 (ids_following r.program f form x.ids) [] frame' w'.objects →
      AreKnown r.program f rest frame' w'
  rest_known frame' w' now = record {
    position = x.position;
    function = x.function;
    site = x.site;
    ids = ids_following r.program f form x.ids;
    map = x.leads.0;
    following = x.following;
    ended = ends_list form;
    here = record {
      entered = x.here.entered;
      scoped = form_scoped r.program (keys_of r.program x.position f kinded x.function) x.site.around form first_row x.here.scoped;
      outer = λ v e. (form_widens r.program f form x.ids).vars v (x.here.outer v e);
    };
    kinded =
        none_right (form_rows r.program f x.site.around x.ids form)
        (stmts_rows r.program f x.site.around (ids_following r.program f form x.ids) (ends_list form) rest) x.kinded.1;
    leads = x.leads.2;
    agrees = now;
    head = x.head;
  }

abbrev form_in : Form → List Task → Form
form_in form (list (next place form' rest) ∷ ts) = form'
form_in form ts = form

abbrev frame_in : Frame → Step → Frame
frame_in frame (goes frame' w) = frame'
frame_in frame a = frame

abbrev world_in : World → Step → World
world_in w (goes frame w') = w'
world_in w a = w

module _ (r : Setup) (kinded : IsKinded r.program)
    (forms : (n : ℕ) → AllLists r n → (f : Func) (form : Form) → GoodForm r n f form) where
  lists_more : (n : ℕ) → AllLists r n → GoodLists r (suc n)
  lists_more n all f done frame w x ts follows = (
    λ form frame' w' e. absurd (clash e.are),
    fewer r n _ (follows (goes frame w) (agrees_below x.leads x.agrees)),
  )
    where
      clash : {place : ℕ} {form : Form} {rest : Stmts} {us : List Task} → list done ∷ ts ≡ list (next place form rest) ∷ us → ⊥
      clash e = cc
  lists_more n all f (next place form rest) frame w x ts follows = (
    λ form' frame' w' e. told form' frame' w' (ap (form_in form) e.are) (ap (frame_in frame) e.step) (ap (world_in w) e.step),
    forms n all f form frame w (first_known r kinded x) (list rest ∷ ts) (λ a safe. following a safe (lists_now r n all)),
  )
    where
      told : (form' : Form) (frame' : Frame) (w' : World) → form ≡ form' → frame ≡ frame' → w ≡ w' → IsKnown r.program f form' frame' w'
      told form' frame' w' one two three =
          subst (λ q. IsKnown r.program f q frame' w') one
          (subst (λ q. IsKnown r.program f form q w') two (subst (λ q. IsKnown r.program f form frame q) three (first_known r kinded x)))

      following : (a : Step) →
          Safe (comes_to r.program f x.site x.leads.0 (ids_following r.program f form x.ids)) a → GoodLists r n →
          Good r n (at f (list rest ∷ ts) a)
      following (goes frame' w') safe again =
          again f rest frame' w' (rest_known r kinded x frame' w' safe) ts (λ b s. fewer r n _ (follows b s))
      following (jumps b frame' w') safe again = jumped r f rest ts n b frame' w' (fewer r n _ (follows (jumps b frame' w') safe))
      following (leaves a kept w') safe again = left r f rest ts n a kept w' (fewer r n _ (follows (leaves a kept w') safe))
      following (ends o w') safe again = ended r f rest ts n o w' (fewer r n _ (follows (ends o w') safe))

  pub lists_all : (n : ℕ) → AllLists r n
  lists_all zero = λ f ss frame w x ts follows. tt
  lists_all (suc n) = (lists_more n (lists_all n), lists_all n)
