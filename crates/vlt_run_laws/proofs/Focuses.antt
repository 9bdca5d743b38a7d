-- Foci keep that what comes next is known.
use Rattle.std.proofs.Common.{◌≡◌, ℕ, zero, suc, List, [], ◌∷◌, ap}
use Rattle.vlt_core.specs.Core.{focus, Block, Stmts, next, Form, Func}
use Rattle.vlt_core.specs.Lookups.{Reference, reference_of, guarded_of}
use Rattle.vlt_core.specs.Maps.{map_after}
use Rattle.vlt_core.specs.KindedBodies.{with_focus}
use Rattle.vlt_meaning.specs.World.{missing}
use Rattle.vlt_meaning.specs.Found.{or_fault}
use Rattle.vlt_meaning.specs.Values.{held_object, guarded_object}
use Rattle.vlt_meaning.specs.Step.{Step}
use Rattle.vlt_meaning.specs.Run.{Setup, focus_end}
use Rattle.vlt_meaning_laws.specs.Machine.Machine.{Task, list, unfocus, at}
use Rattle.vlt_sound_worlds.specs.Typed.{IsTyped}
use Rattle.vlt_sound_worlds.specs.Safe.{Goal, Safe}
use Rattle.vlt_sound_worlds.specs.Scoped.{HasKeys}
use Rattle.vlt_sound_statements.proofs.Focuses.{begin_rows, focus_at, guard_is, bound_is, guarded_known, bound_known, guard_named, object_named, guard_found, object_found, focus_frame, focus_world, focus_site, focus_agrees, focus_here, focus_ends}
use Rattle.vlt_run_laws.proofs.Moves.{Good, Follows, AllLists, GoodForm, lists_now, fewer}
use Rattle.vlt_run_laws.proofs.Blocks.{block_good}
use Rattle.vlt_run_laws.proofs.Parts.{known_found}

unfocus_good : (r : Setup) (n : ℕ) (f : Func) (g q : Reference) (m k : ℕ) (ts : List Task) (a : Step) (goal : Goal) →
    Follows r n f ts goal → Safe goal (focus_end r g q m k a) → Good r n (at f (unfocus g q m k ∷ ts) a)
unfocus_good r zero f g q m k ts a goal follows safe = tt
unfocus_good r (suc n) f g q m k ts a goal follows safe =
    (λ form frame w e. absurd (clash e.are), fewer r n _ (follows (focus_end r g q m k a) safe))
  where
    clash : {place : ℕ} {form : Form} {rest : Stmts} {us : List Task} → unfocus g q m k ∷ ts ≡ list (next place form rest) ∷ us → ⊥
    clash e = cc

module _ (r : Setup) (n : ℕ) (all : AllLists r n) (f : Func) (typed : IsTyped r.program f) (keyed : HasKeys f) where
  pub focus_good : (y z : ℕ) (b : Block) → GoodForm r n f (focus y z b)
  focus_good y z b frame w x ts follows =
      let q = focus_at r.program f y z b x.site x.map x.following x.ids frame w x.here x.kinded x.leads x.agrees in
      let guard = guard_named r f typed keyed q in
      let object = object_named r f typed keyed q in
      known_found r n (or_fault missing (guarded_of f y)) (guard_is r f typed keyed q) (ap (or_fault missing) (guarded_known r f typed keyed q)) f ts w _
      (known_found r n (or_fault missing (reference_of f z)) (bound_is r f typed keyed q) (ap (or_fault missing) (bound_known r f typed keyed q)) f ts w _
      (known_found r n (held_object q.fact.guard_key frame w.objects) guard (guard_found r f typed keyed q) f ts w _
      (known_found r n (guarded_object (guard_is r f typed keyed q) y frame w.objects) object (object_found r f typed keyed q) f ts w _
      (block_good r n (lists_now r n all) f b (focus_frame r f typed keyed q) (focus_world r f typed keyed q)
      (record {
        position = x.position;
        function = x.function;
        site = focus_site r f typed keyed q;
        ids = with_focus f z x.ids;
        map = map_after (begin_rows r.program q.fact) x.map;
        following = q.last;
        extra = [];
        here = focus_here r f typed keyed q;
        kinded = q.block;
        leads = q.leads;
        agrees = focus_agrees r f typed keyed q;
        head = record { each = x.head.each };
      })
      (unfocus (guard_is r f typed keyed q) (bound_is r f typed keyed q) guard.number object.number ∷ ts)
      (λ a safe. unfocus_good r n f (guard_is r f typed keyed q) (bound_is r f typed keyed q) guard.number object.number ts a _ follows
      (focus_ends r f typed keyed q a safe))))))
