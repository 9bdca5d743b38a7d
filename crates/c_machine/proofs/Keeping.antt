-- What primitives keep: the fuel, and the events so far.
use Rattle.std.proofs.Common.{◌≡◌, ℕ, ℤ, nat_lt, Bool, true, false, if◌then◌else◌, List, [], ◌∷◌, ◌++◌, length, Option, Some, None, Result, Ok, Err, refl, sym, ◌∙◌, append-nil}
use Rattle.vlt_ops.specs.Operator.{equals}
use Rattle.c_syntax.specs.declared.program.CPrim.{CPrim}
use Rattle.c_syntax.specs.declared.program.CPrim.TheVariants as prim
use Rattle.c_syntax.specs.declared.program.CCell.{CCell}
use Rattle.c_syntax.specs.declared.program.CCell.TheVariants as cell
use Rattle.c_syntax.specs.C.{Expr, Arg}
use Rattle.c_meaning.specs.Blocks.{Blocks, is_full}
use Rattle.c_meaning.specs.World.{Value, number, reference, Event, called, Talk, idle, calling, reading, World, Vars}
use Rattle.c_meaning.specs.Primitives.{Effect, gives, breaks_rule, ends, or_broken, with_blocks, makes_asked, asked_cells, traps, with_event, reads_input, at_index, from_register, begins_call, begins_named, name_told, max_told, tells_number, tells_block, takes_answer, asks, reads_answer, while_reading, back_or_bad, ends_answer, no_args, on_number, on_reference, on_numbers, on_number_and_reference, on_references, primitive_does, set_does, put_does, write_effect}

-- the world v comes after w: the fuel is as it was, and events were added
pub record Keeps (w v : World) : Type 0 where
  pub fuel : v.fuel ≡ w.fuel
  pub events : List Event
  pub added : v.events ≡ w.events ++ events

pub same : (w v : World) → v.fuel ≡ w.fuel → v.events ≡ w.events → Keeps w v
same w v f e = record { fuel = f; events = []; added = e ∙ sym (append-nil w.events) }

abbrev pub KeepsEffect : World → Effect → Type 0
KeepsEffect w (gives a v) = Keeps w v
KeepsEffect w (breaks_rule r) = Unit {0}
KeepsEffect w (ends o v) = Keeps w v

keep_if : (w : World) (t : Bool) (x y : Effect) → KeepsEffect w x → KeepsEffect w y → KeepsEffect w (if t then x else y)
keep_if w true x y h k = h
keep_if w false x y h k = k

keep_or : {A : Type 0} (w : World) (r : Result A ℕ) (go : A → Effect) → ((a : A) → KeepsEffect w (go a)) → KeepsEffect w (or_broken r go)
unfolding or_broken
keep_or w (Ok a) go h = h a
keep_or w (Err r) go h = tt

keep_blocks : (w : World) (r : Result Blocks ℕ) → KeepsEffect w (with_blocks w r)
keep_blocks w r = keep_or w r _ (λ bs. same w _ refl refl)

keep_asked : (heap : ℕ) (w : World) (q : Option (ℕ × ℕ)) → KeepsEffect w (makes_asked heap q w)
keep_asked heap w None = tt
keep_asked heap w (Some q) = keep_if w (is_full heap w.blocks) _ _ (same w w refl refl) (same w _ refl refl)

keep_traps : (z : ℤ) (w : World) → KeepsEffect w (traps z w)
keep_traps z w = keep_if w (equals z _) _ _ (same w w refl refl) (keep_if w (equals z _) _ _ (same w w refl refl) tt)

keep_input : (w : World) (zs : List ℤ) → KeepsEffect w (reads_input zs w)
keep_input w [] = same w w refl refl
keep_input w (z ∷ zs) = same w _ refl refl

keep_index : (w : World) (i : Option ℕ) (go : ℕ → Effect) → ((j : ℕ) → KeepsEffect w (go j)) → KeepsEffect w (at_index i go)
unfolding at_index
keep_index w None go h = tt
keep_index w (Some i) go h = h i

keep_register : {A : Type 0} (w : World) (x : Option (Option A)) (made : A → Value) → KeepsEffect w (from_register x made w)
keep_register w None made = tt
keep_register w (Some None) made = tt
keep_register w (Some (Some x)) made = same w w refl refl

keep_begin : (w : World) (s : Option (List ℕ)) (t : Talk) → w.talk ≡ t → KeepsEffect w (begins_named s w)
keep_begin w None t e = tt
keep_begin w (Some s) t e = by w.talk
  where
    by : (t : Talk) → KeepsEffect w (begins_call s t w)
    by idle = same w _ refl refl
    by (calling n as_) = tt
    by (reading zs) = tt

keep_tell : (w : World) (z : ℤ) (t : Talk) → KeepsEffect w (tells_number z t w)
keep_tell w z idle = tt
keep_tell w z (calling n told) = keep_if w (nat_lt (length told) max_told) _ _ (same w _ refl refl) tt
keep_tell w z (reading zs) = tt

keep_tell_block : (w : World) (p : Option ℕ) (t : Talk) → KeepsEffect w (tells_block p t w)
keep_tell_block w None t = tt
keep_tell_block w (Some n) idle = tt
keep_tell_block w (Some n) (calling m told) = keep_if w (nat_lt (length told) max_told) _ _ (same w _ refl refl) tt
keep_tell_block w (Some n) (reading zs) = tt

keep_asks : (w : World) (t : Talk) → KeepsEffect w (asks t w)
keep_asks w idle = tt
keep_asks w (reading zs) = tt
keep_asks w (calling n told) = by w.answers
  where
    by : (l : List (List ℤ)) → KeepsEffect w (takes_answer l (with_event (called n told) w))
    by [] = record { fuel = refl; events = _; added = refl }
    by (a ∷ l) = record { fuel = refl; events = _; added = refl }

keep_reads : (w : World) (test : ℤ → Bool) (t : Talk) → KeepsEffect w (reads_answer test t w)
keep_reads w test idle = tt
keep_reads w test (calling n told) = tt
keep_reads w test (reading []) = same w w refl refl
keep_reads w test (reading (z ∷ zs)) = keep_if w (test z) _ _ (same w _ refl refl) (same w w refl refl)

keep_while : (w : World) (t : Talk) (e : Effect) → KeepsEffect w e → KeepsEffect w (while_reading t e)
keep_while w idle e h = tt
keep_while w (calling n told) e h = tt
keep_while w (reading zs) e h = h

keep_back : (w : World) (b : Option Blocks) → KeepsEffect w (back_or_bad b w)
keep_back w None = same w w refl refl
keep_back w (Some bs) = same w _ refl refl

keep_end : (w : World) (t : Talk) → KeepsEffect w (ends_answer t w)
keep_end w idle = tt
keep_end w (calling n told) = tt
keep_end w (reading []) = same w _ refl refl
keep_end w (reading (z ∷ zs)) = same w w refl refl

keep_none : (w : World) (xs : List Arg) (e : Effect) → KeepsEffect w e → KeepsEffect w (no_args xs e)
unfolding no_args
keep_none w [] e h = h
keep_none w (x ∷ xs) e h = tt

keep_number : (w : World) (xs : List Arg) (vars : Vars) (go : ℤ → Effect) → ((a : ℤ) → KeepsEffect w (go a)) → KeepsEffect w (on_number xs vars go)
unfolding on_number
keep_number w [] vars go h = tt
keep_number w (x ∷ []) vars go h = keep_or w _ go h
keep_number w (x ∷ y ∷ xs) vars go h = tt

keep_reference : (w : World) (xs : List Arg) (vars : Vars) (go : Option ℕ → Effect) → ((a : Option ℕ) → KeepsEffect w (go a)) → KeepsEffect w (on_reference xs vars go)
unfolding on_reference
keep_reference w [] vars go h = tt
keep_reference w (x ∷ []) vars go h = keep_or w _ go h
keep_reference w (x ∷ y ∷ xs) vars go h = tt

keep_numbers : (w : World) (xs : List Arg) (vars : Vars) (go : ℤ → ℤ → Effect) → ((a : ℤ) (b : ℤ) → KeepsEffect w (go a b)) → KeepsEffect w (on_numbers xs vars go)
unfolding on_numbers
keep_numbers w [] vars go h = tt
keep_numbers w (x ∷ []) vars go h = tt
keep_numbers w (x ∷ y ∷ []) vars go h = keep_or w _ _ (λ a. keep_or w _ (go a) (h a))
keep_numbers w (x ∷ y ∷ z ∷ xs) vars go h = tt

keep_both : (w : World) (xs : List Arg) (vars : Vars) (go : ℤ → Option ℕ → Effect) → ((a : ℤ) (b : Option ℕ) → KeepsEffect w (go a b)) → KeepsEffect w (on_number_and_reference xs vars go)
unfolding on_number_and_reference
keep_both w [] vars go h = tt
keep_both w (x ∷ []) vars go h = tt
keep_both w (x ∷ y ∷ []) vars go h = keep_or w _ _ (λ a. keep_or w _ (go a) (h a))
keep_both w (x ∷ y ∷ z ∷ xs) vars go h = tt

keep_references : (w : World) (xs : List Arg) (vars : Vars) (go : Option ℕ → Option ℕ → Effect) → ((a : Option ℕ) (b : Option ℕ) → KeepsEffect w (go a b)) → KeepsEffect w (on_references xs vars go)
unfolding on_references
keep_references w [] vars go h = tt
keep_references w (x ∷ []) vars go h = tt
keep_references w (x ∷ y ∷ []) vars go h = keep_or w _ _ (λ a. keep_or w _ (go a) (h a))
keep_references w (x ∷ y ∷ z ∷ xs) vars go h = tt

pub primitive_keeps : (heap : ℕ) (p : CPrim) (xs : List Arg) (vars : Vars) (w : World) → KeepsEffect w (primitive_does heap p xs vars w)
primitive_keeps heap prim.New xs vars w = keep_asked heap w (asked_cells xs)
primitive_keeps heap prim.Own xs vars w = keep_references w xs vars _ (λ p q. keep_blocks w _)
primitive_keeps heap prim.Disown xs vars w = keep_reference w xs vars _ (λ p. keep_blocks w _)
primitive_keeps heap prim.Parent xs vars w = keep_reference w xs vars _ (λ p. keep_or w _ _ (λ n. same w w refl refl))
primitive_keeps heap prim.Release xs vars w = keep_reference w xs vars _ (λ p. keep_blocks w _)
primitive_keeps heap prim.Trap xs vars w = keep_number w xs vars _ (λ z. keep_traps z w)
primitive_keeps heap prim.Print xs vars w = keep_number w xs vars _ (λ z. record { fuel = refl; events = _; added = refl })
primitive_keeps heap prim.Read xs vars w = keep_none w xs _ (keep_input w w.input)
primitive_keeps heap prim.More xs vars w = keep_none w xs _ (same w w refl refl)
primitive_keeps heap prim.PutN xs vars w = keep_numbers w xs vars _ (λ i z. keep_index w _ _ (λ j. same w _ refl refl))
primitive_keeps heap prim.GetN xs vars w = keep_number w xs vars _ (λ i. keep_index w _ _ (λ j. keep_register w _ number))
primitive_keeps heap prim.PutP xs vars w = keep_both w xs vars _ (λ i p. keep_index w _ _ (λ j. same w _ refl refl))
primitive_keeps heap prim.GetP xs vars w = keep_number w xs vars _ (λ i. keep_index w _ _ (λ j. keep_register w _ reference))
primitive_keeps heap prim.Call xs vars w = keep_begin w (name_told xs) w.talk refl
primitive_keeps heap prim.ArgN xs vars w = keep_number w xs vars _ (λ z. keep_tell w z w.talk)
primitive_keeps heap prim.ArgP xs vars w = keep_reference w xs vars _ (λ p. keep_tell_block w p w.talk)
primitive_keeps heap prim.Ask xs vars w = keep_none w xs _ (keep_asks w w.talk)
primitive_keeps heap prim.Int xs vars w = keep_none w xs _ (keep_reads w (λ z. true) w.talk)
primitive_keeps heap prim.Pick xs vars w = keep_number w xs vars _ (λ m. keep_reads w _ w.talk)
primitive_keeps heap prim.Out xs vars w = keep_reference w xs vars _ (λ p. keep_while w w.talk _ (keep_blocks w _))
primitive_keeps heap prim.Back xs vars w = keep_reference w xs vars _ (λ p. keep_while w w.talk _ (keep_or w _ _ (λ b. keep_back w b)))
primitive_keeps heap prim.End xs vars w = keep_none w xs _ (keep_end w w.talk)

pub set_keeps : (e : Expr) (vars : Vars) (w : World) → KeepsEffect w (set_does e vars w)
set_keeps e vars w = keep_or w _ _ (λ a. same w w refl refl)

written_keeps : (x : CCell) (b : Option ℕ) (a : Value) (w : World) → KeepsEffect w (write_effect x b a w)
written_keeps (cell.Number p i) b (number z) w = keep_blocks w _
written_keeps (cell.Number p i) b (reference q) w = tt
written_keeps (cell.Reference p i) b (number z) w = tt
written_keeps (cell.Reference p i) b (reference q) w = keep_blocks w _

pub put_keeps : (x : CCell) (e : Expr) (vars : Vars) (w : World) → KeepsEffect w (put_does x e vars w)
put_keeps x e vars w = keep_or w _ _ (λ b. keep_or w _ _ (λ a. written_keeps x b a w))
