-- Functions that tables don't tell apart.
use Rattle.std.proofs.Common.{◌≡◌, ◌+◌, ℕ, Bool, true, false, if◌then◌else◌, List, [], ◌∷◌, ◌++◌, filter, map, Option, Some, None, refl, sym, ap, ◌∙◌, subst, slice_get}
use Rattle.std.specs.Option.{option_map, option_to_list}
use Rattle.vlt_core.specs.Core.{Mode, kept, taken, given, fresh, up_to, Entry, Func, Program}
use Rattle.vlt_core.specs.Lookups.{is_held_after}
use Rattle.vlt_core.specs.Instances.{entry_of_instance, instance}
use Rattle.vlt_heap.specs.declared.slots.Slot.{Slot}
use Rattle.vlt_heap.specs.Items.{Items}
use Rattle.vlt_meaning.specs.World.{Value, Frame, World}
use Rattle.vlt_meaning.specs.Calls.{entries_after, binding, bindings, with_names, back_in}
use Rattle.vlt_meaning.specs.Step.{Step, goes, jumps, leaves, ends, with_found, where_so, deliver, fill}
use Rattle.vlt_acts.specs.declared.values.values.Values.{Values}
use Rattle.vlt_acts.specs.Values.Shown.{ShowsFrame, key_at}
use Rattle.vlt_acts.specs.Frames.Frames.{kept_key, IsLike, IsRunning, NamesOwn, Stands}
use Rattle.vlt_acts.specs.Frames.Left.{value_at, IsKeptAt, AreKept, HasLeft, HasReturned, IsBack}
use Rattle.vlt_acts.specs.Frames.Naming.{Names}

-- ---- the relation

pub like_itself : (f : Func) → IsLike f f
like_itself f = record { is = refl; kept = refl }

pub like_back : (f g : Func) → IsLike f g → IsLike g f
like_back f g h = record { is = ap {A = Func} {B = Func} (λ k. record k { clause = f.clause }) (sym h.is); kept = sym h.kept }

pub like_through : (f g h : Func) → IsLike f g → IsLike g h → IsLike f h
like_through f g h a b = record { is = ap {A = Func} {B = Func} (λ k. record k { clause = h.clause }) a.is ∙ b.is; kept = a.kept ∙ b.kept }

-- what doesn't look at the clause holds of both
pub moved : (P : Func → Type 0) (f g : Func) → IsLike f g → P (record f { clause = g.clause }) → P g
moved P f g h = subst P h.is

-- ---- instances

module _ (p : Program) (f : Func) where
  same_kept : (o : ℕ) (es : List Entry) → map kept_key (filter is_held_after es) ≡ map kept_key (filter is_held_after (map (entry_of_instance p f o) es))
  same_kept o [] = refl
  same_kept o (e ∷ es) = by (same_kept o es) e.mode
    where
      by : map kept_key (filter is_held_after es) ≡ map kept_key (filter is_held_after (map (entry_of_instance p f o) es)) → (m : Mode)
          → map kept_key (filter is_held_after (record e { mode = m } ∷ es)) ≡ map kept_key (filter is_held_after (map (entry_of_instance p f o) (record e { mode = m } ∷ es)))
      by rest kept = ap (λ l. (e.key, false) ∷ l) rest
      by rest (up_to b) = ap (λ l. (e.key, false) ∷ l) rest
      by rest given = ap (λ l. (e.key, false) ∷ l) rest
      by rest fresh = ap (λ l. (e.key, true) ∷ l) rest
      by rest taken = rest

  -- each instance of a function is like it
  pub instance_like : (o : Option ℕ) → IsLike f (instance p f o)
  instance_like None = like_itself f
  instance_like (Some o) = record { is = refl; kept = same_kept o f.clause }

-- ---- entries that are held after

abbrev first_key : (d : ℕ × Bool) → List (ℕ × Bool) → ℕ × Bool
first_key d [] = d
first_key d (k ∷ ks) = k

abbrev more_keys : List (ℕ × Bool) → List (ℕ × Bool)
more_keys [] = []
more_keys (k ∷ ks) = ks

none_left : {A : Type 0} (a : ℕ × Bool) (l : List (ℕ × Bool)) → a ∷ l ≡ [] → A
none_left a l e = absurd cc

module _ (items : Items) (slots : List Slot) (base keys value : ℕ) where
  abbrev at_key : ℕ × Bool → ℕ
  at_key q = if q.1 then value else keys + q.0

  pub are_kept : (es fs : List Entry) (ns : List ℕ) → map kept_key es ≡ map kept_key fs → AreKept items slots base keys value es ns → AreKept items slots base keys value fs ns
  are_kept [] [] ns e h = h
  are_kept [] (f ∷ fs) ns e h = none_left (kept_key f) (map kept_key fs) (sym e)
  are_kept (e ∷ es) [] ns q h = none_left (kept_key e) (map kept_key es) q
  are_kept (e ∷ es) (f ∷ fs) [] q h = h
  are_kept (e ∷ es) (f ∷ fs) (n ∷ ns) q h = (
    subst (λ k. IsKeptAt items slots base k n) (ap at_key (ap (first_key (0, false)) q)) h.0,
    are_kept es fs ns (ap more_keys q) h.1,
  )

pub same_bindings : (keys : List ℕ) (es fs : List Entry) (ns : List ℕ) → map kept_key es ≡ map kept_key fs → bindings keys es ns ≡ bindings keys fs ns
same_bindings keys [] [] ns e = refl
same_bindings keys [] (f ∷ fs) ns e = none_left (kept_key f) (map kept_key fs) (sym e)
same_bindings keys (e ∷ es) [] ns q = none_left (kept_key e) (map kept_key es) q
same_bindings keys (e ∷ es) (f ∷ fs) [] q = refl
same_bindings keys (e ∷ es) (f ∷ fs) (n ∷ ns) q =
    ap (λ k. option_to_list (option_map (binding n) (slice_get keys k)) ++ bindings keys es ns) (ap (λ l. (first_key (0, false) l).0) q)
    ∙ ap (λ l. option_to_list (option_map (binding n) (slice_get keys f.key)) ++ l) (same_bindings keys es fs ns (ap more_keys q))

-- ---- frames, and where functions are left

pub running_like : (values : Values) (f g : Func) (n : ℕ) → IsLike f g → IsRunning values f n → IsRunning values g n
running_like values f g n h r = moved (λ k. IsRunning values k n) f g h (record { vars = r.vars; long = r.long })

pub names_like : (f g : Func) (frame : Frame) → IsLike f g → NamesOwn f frame → NamesOwn g frame
names_like f g frame h own = moved (λ k. NamesOwn k frame) f g h own

pub stands_like : (items : Items) (values : Values) (f g : Func) (base : ℕ) (frame : Frame) → IsLike f g → Stands items values f base frame → Stands items values g base frame
stands_like items values f g base frame h s = moved (λ k. Stands items values k base frame) f g h (record { shown = s.shown; names = s.names })

pub left_like : (items : Items) (values : Values) (f g : Func) (a : Option Value) (ns : List ℕ) (w : World) → IsLike f g → HasLeft items values f a ns w → HasLeft items values g a ns w
left_like items values f g a ns w h l = record {
  objects = l.objects;
  value = l.value;
  slots = are_kept items values.slots.items values.base (key_at values 0) (value_at values) (entries_after f) (entries_after g) ns h.kept l.slots;
  roots = l.roots;
}

-- the caller's keys of entries that are held after name what they named
pub names_same : (es fs : List Entry) (keys : List ℕ) (top from value : ℕ) (old new : Values) → map kept_key es ≡ map kept_key fs → Names es keys top from value old new → Names fs keys top from value old new
names_same es fs keys top from value old new e names items frame ns are shown =
    subst (λ bs. ShowsFrame items new (with_names bs frame)) (same_bindings keys es fs ns e)
    (names items frame ns (are_kept items old.slots.items top from value fs es ns (sym e) are) shown)

-- ---- where a caller goes on

returned_like : (items : Items) (values : Values) (f g : Func) (frame : Frame) (w : World) → IsLike f g → HasReturned items values f frame w → HasReturned items values g frame w
returned_like items values f g frame w h r = moved (λ k. HasReturned items values k frame w) f g h (record { shows = r.shows; names = r.names })

is_back_like : (items : Items) (values : Values) (f g : Func) → IsLike f g → (a : Step) → IsBack items values f a → IsBack items values g a
is_back_like items values f g h (goes frame w) b = returned_like items values f g frame w h b
is_back_like items values f g h (jumps c frame w) b = b
is_back_like items values f g h (leaves a ns w) b = b
is_back_like items values f g h (ends o w) b = b

caller_same : (f g : Func) (target : Option ℕ) (keys : List ℕ) (callee : Func) (frame : Frame) (a : Option Value) (ns : List ℕ) (w : World) → IsLike f g → back_in f target keys callee frame (leaves a ns w) ≡ back_in g target keys callee frame (leaves a ns w)
unfolding back_in deliver with_found fill where_so
caller_same f g target keys callee frame a ns w h = moved (λ k. back_in f target keys callee frame (leaves a ns w) ≡ back_in k target keys callee frame (leaves a ns w)) f g h refl

-- a caller goes on as its function does
pub back_like : (items : Items) (values : Values) (f g : Func) (target : Option ℕ) (keys : List ℕ) (callee : Func) (frame : Frame) (a : Option Value) (ns : List ℕ) (w : World) → IsLike f g
    → IsBack items values f (back_in f target keys callee frame (leaves a ns w)) → IsBack items values g (back_in g target keys callee frame (leaves a ns w))
back_like items values f g target keys callee frame a ns w h b =
    subst (IsBack items values g) (caller_same f g target keys callee frame a ns w h) (is_back_like items values f g h (back_in f target keys callee frame (leaves a ns w)) b)
