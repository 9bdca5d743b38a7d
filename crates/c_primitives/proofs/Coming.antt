-- What a primitive comes to.
use Rattle.std.proofs.Common.{◌≡◌, inl, ℕ, ℤ, pos, Bool, true, false, if◌then◌else◌, List, [], ◌∷◌, ◌++◌, length, Option, Some, None, Result, Ok, Err, refl, sym, ap, ◌∙◌, subst, arith}
use Rattle.std.specs.Option.{option_map}
use Rattle.std.proofs.lemmas.Bool.{false≢true}
use Rattle.std.proofs.lemmas.List.{length-map}
use Rattle.vlt_ops.specs.declared.TrapKind.TheVariants.{Overflow, ZeroDivisor}
use Rattle.vlt_ops.specs.Operator.{equals}
use Rattle.vlt_rings.specs.Things.{Things, KeepMade}
use Rattle.c_syntax.specs.C.{Arg}
use Rattle.c_meaning.specs.Blocks as bl
use Rattle.c_meaning.specs.Blocks.{new_block, is_full, parent_of, come_back}
use Rattle.c_meaning.specs.World as model
use Rattle.c_meaning.specs.World.{Vars, line_of}
use Rattle.c_meaning.specs.Primitives.{Effect, gives, breaks_rule, ends, or_broken, with_blocks, makes, no_args, on_number, on_reference, on_numbers, on_number_and_reference, on_references, traps, back_or_bad, while_reading}
use Rattle.c_memory.specs.declared.cells.Ref.{Ref}
use Rattle.c_memory.specs.declared.blocks.Blocks.{Blocks}
use Rattle.c_memory.specs.Shown.{number_of, heap_of, cells_of, IsSound, IsMade, block_in, blocks_of, Come, Did, DidBack, IsNew, IsParent}
use Rattle.c_values.specs.declared.value.Value.{Value}
use Rattle.c_values.specs.declared.value.Value.TheVariants.{Reference}
use Rattle.c_values.specs.Shown.{IsReference, IsMadeSlot, value_view}
use Rattle.c_primitives.specs.declared.halt.Halt.{Halt}
use Rattle.c_primitives.specs.declared.halt.Halt.TheVariants.{Broken, Stopped}
use Rattle.vlt_steps.specs.declared.stop.Stop.TheVariants.{Trap}
use Rattle.c_primitives.specs.declared.world.World.{World}
use Rattle.c_primitives.specs.Args.{is_none, one_number, one_reference, two_numbers, number_and_reference, two_references, AreReferences, AreNumberAndReference}
use Rattle.c_primitives.specs.declared.world.Talk.{Talk}
use Rattle.c_primitives.specs.declared.world.Talk.TheVariants.{Idle, Calling, Reading}
use Rattle.c_primitives.specs.Taking.{IsReading}
use Rattle.c_primitives.specs.Done.{done_as, parent_as, back_as, halt_of_trap, is_reading}
use Rattle.c_primitives.specs.Shown.{Shows, TalkShows, IsReady, KeepsRoom, Comes}
use Rattle.c_primitives.specs.Stops.{Wrote}
use Rattle.vlt_steps.specs.Writing.{Outside}
use Rattle.vlt_steps.proofs.Writing as writing
use Rattle.c_primitives.proofs.Arguments.{on_number_is, on_reference_is, on_numbers_is, on_number_and_reference_is, on_references_is}

-- ---- nothing is written

pub silent : (w v : model.World) (b : Outside) → v.events ≡ w.events → Wrote w v b b
silent w v b e = writing.silent line_of w.events v.events b e

-- ---- rooms

pub same_room : (s : World) → KeepsRoom s s
same_room s = record { heap = refl; cells = refl; line = omega arith }

module _ (s : World) (bs : Blocks) where
  pub ready_blocks : IsReady s → IsSound bs → heap_of bs ≡ heap_of s.blocks → cells_of bs ≡ cells_of s.blocks → IsReady (record s { blocks = bs })
  ready_blocks r sound heap cells = record { sound = sound; heap = heap ∙ r.heap; cells = omega (arith, r.cells, cells); line = r.line }

  pub room_blocks : cells_of bs ≡ cells_of s.blocks → KeepsRoom s (record s { blocks = bs })
  room_blocks cells = record { heap = refl; cells = cells; line = omega arith }

-- ---- what was made stays so

pub made_kept : (ts us : Things) → KeepMade ts us → (r : Option Ref) → IsMade ts r → IsMade us r
made_kept ts us k None m = tt
made_kept ts us k (Some r) m = k r.place r.number m

pub keep_same : (ts : Things) → KeepMade ts ts
keep_same ts c n m = m

pub shown_blocks : (s : World) (bs : Blocks) (ts : Things) (w : model.World) (ms : bl.Blocks) → Shows s ts w → (come : Come ts bs ms) → Shows (record s { blocks = bs }) come.things (record w { blocks = ms })
shown_blocks s bs ts w ms h come = record {
  holds = come.holds;
  blocks = sym come.blocks;
  numbers = h.numbers;
  references = h.references;
  made = λ i r at. made_kept ts come.things come.kept r (h.made i r at);
  fuel = h.fuel;
  input = h.input;
  answers = h.answers;
  taken = h.taken;
  talk = h.talk;
}

-- ---- rules

pub breaks : (ts : Things) (s : World) (w : model.World) (b : Outside) (rule : ℕ) → Shows s ts w → Comes ts s w b b (Err (Broken rule)) (breaks_rule rule)
breaks ts s w b rule h = record { is = refl; fuel = h.fuel; silent = refl }

-- a value is given, and the world is as it was
pub gives_value : (ts : Things) (s : World) (w : model.World) (b : Outside) (a : Option Value) (v : Option model.Value) → Shows s ts w → IsMadeSlot ts a → option_map value_view a ≡ v → Comes ts s w b b (Ok a) (gives v w)
gives_value ts s w b a v h made value = record { things = ts; kept = keep_same ts; shown = h; value = value; made = made; wrote = silent w w b refl }

-- ---- arguments

module _ (ts : Things) (s : World) (w : model.World) (before after : Outside) (xs : List Arg) (vs : Vars) where
  pub number_come : (out : Result (Option Value) Halt) (r : Result ℤ ℕ) (z : ℤ) (go : ℤ → Effect) → r ≡ Ok z → r ≡ one_number xs vs → Comes ts s w before after out (go z) → Comes ts s w before after out (on_number xs vs go)
  unfolding or_broken
  number_come out r z go is are h = rw (on_number_is xs vs go) (subst (λ x. Comes ts s w before after out (or_broken x go)) (sym is ∙ are) h)

  pub numbers_come : (out : Result (Option Value) Halt) (r : Result (ℤ × ℤ) ℕ) (a b : ℤ) (go : ℤ → ℤ → Effect) → r ≡ Ok (a, b) → r ≡ two_numbers xs vs → Comes ts s w before after out (go a b) → Comes ts s w before after out (on_numbers xs vs go)
  unfolding or_broken
  numbers_come out r a b go is are h = rw (on_numbers_is xs vs go) (subst (λ x. Comes ts s w before after out (or_broken x (λ q. go q.0 q.1))) (sym is ∙ are) h)

  pub reference_come : (out : Result (Option Value) Halt) (r : Result (Option Ref) ℕ) (p : Option Ref) (go : Option ℕ → Effect) → r ≡ Ok p → IsReference ts r (one_reference xs vs)
      → (IsMade ts p → Comes ts s w before after out (go (number_of p))) → Comes ts s w before after out (on_reference xs vs go)
  unfolding or_broken
  reference_come out r p go is are h = rw (on_reference_is xs vs go) (by (one_reference xs vs) (subst (λ x. IsReference ts x (one_reference xs vs)) is are))
    where
      by : (m : Result (Option ℕ) ℕ) → IsReference ts (Ok p) m → Comes ts s w before after out (or_broken m go)
      by (Ok n) e = subst (λ x. Comes ts s w before after out (go x)) e.0 (h e.1)
      by (Err rule) e = absurd e

  pub number_and_reference_come : (out : Result (Option Value) Halt) (r : Result (ℤ × Option Ref) ℕ) (a : ℤ) (p : Option Ref) (go : ℤ → Option ℕ → Effect) → r ≡ Ok (a, p) → AreNumberAndReference ts r (number_and_reference xs vs)
      → (IsMade ts p → Comes ts s w before after out (go a (number_of p))) → Comes ts s w before after out (on_number_and_reference xs vs go)
  unfolding or_broken
  number_and_reference_come out r a p go is are h = rw (on_number_and_reference_is xs vs go) (by (number_and_reference xs vs) (subst (λ x. AreNumberAndReference ts x (number_and_reference xs vs)) is are))
    where
      by : (m : Result (ℤ × Option ℕ) ℕ) → AreNumberAndReference ts (Ok (a, p)) m → Comes ts s w before after out (or_broken m (λ q. go q.0 q.1))
      by (Ok n) e = subst (λ x. Comes ts s w before after out (go x n.1)) e.0 (subst (λ x. Comes ts s w before after out (go a x)) e.1 (h e.2))
      by (Err rule) e = absurd e

  pub references_come : (out : Result (Option Value) Halt) (r : Result (Option Ref × Option Ref) ℕ) (p q : Option Ref) (go : Option ℕ → Option ℕ → Effect) → r ≡ Ok (p, q) → AreReferences ts r (two_references xs vs)
      → (IsMade ts p → IsMade ts q → Comes ts s w before after out (go (number_of p) (number_of q))) → Comes ts s w before after out (on_references xs vs go)
  unfolding or_broken
  references_come out r p q go is are h = rw (on_references_is xs vs go) (by (two_references xs vs) (subst (λ x. AreReferences ts x (two_references xs vs)) is are))
    where
      by : (m : Result (Option ℕ × Option ℕ) ℕ) → AreReferences ts (Ok (p, q)) m → Comes ts s w before after out (or_broken m (λ q. go q.0 q.1))
      by (Ok n) e = subst (λ x. Comes ts s w before after out (go x n.1)) e.0 (subst (λ x. Comes ts s w before after out (go (number_of p) x)) e.1 (h e.2 e.3))
      by (Err rule) e = absurd e

module _ (ts : Things) (s : World) (w : model.World) (b : Outside) (xs : List Arg) (vs : Vars) (rule : ℕ) (h : Shows s ts w) where
  pub number_breaks : (r : Result ℤ ℕ) (go : ℤ → Effect) → r ≡ Err rule → r ≡ one_number xs vs → Comes ts s w b b (Err (Broken rule)) (on_number xs vs go)
  unfolding or_broken
  number_breaks r go is are = rw (on_number_is xs vs go) (subst (λ x. Comes ts s w b b (Err (Broken rule)) (or_broken x go)) (sym is ∙ are) (breaks ts s w b rule h))

  pub numbers_break : (r : Result (ℤ × ℤ) ℕ) (go : ℤ → ℤ → Effect) → r ≡ Err rule → r ≡ two_numbers xs vs → Comes ts s w b b (Err (Broken rule)) (on_numbers xs vs go)
  unfolding or_broken
  numbers_break r go is are = rw (on_numbers_is xs vs go) (subst (λ x. Comes ts s w b b (Err (Broken rule)) (or_broken x (λ q. go q.0 q.1))) (sym is ∙ are) (breaks ts s w b rule h))

  pub reference_breaks : (r : Result (Option Ref) ℕ) (go : Option ℕ → Effect) → r ≡ Err rule → IsReference ts r (one_reference xs vs) → Comes ts s w b b (Err (Broken rule)) (on_reference xs vs go)
  unfolding or_broken
  reference_breaks r go is are = rw (on_reference_is xs vs go) (by (one_reference xs vs) (subst (λ x. IsReference ts x (one_reference xs vs)) is are))
    where
      by : (m : Result (Option ℕ) ℕ) → IsReference ts (Err rule) m → Comes ts s w b b (Err (Broken rule)) (or_broken m go)
      by (Ok n) e = absurd e
      by (Err q) e = subst (λ x. Comes ts s w b b (Err (Broken rule)) (breaks_rule x)) e (breaks ts s w b rule h)

  pub number_and_reference_breaks : (r : Result (ℤ × Option Ref) ℕ) (go : ℤ → Option ℕ → Effect) → r ≡ Err rule → AreNumberAndReference ts r (number_and_reference xs vs) → Comes ts s w b b (Err (Broken rule)) (on_number_and_reference xs vs go)
  unfolding or_broken
  number_and_reference_breaks r go is are = rw (on_number_and_reference_is xs vs go) (by (number_and_reference xs vs) (subst (λ x. AreNumberAndReference ts x (number_and_reference xs vs)) is are))
    where
      by : (m : Result (ℤ × Option ℕ) ℕ) → AreNumberAndReference ts (Err rule) m → Comes ts s w b b (Err (Broken rule)) (or_broken m (λ q. go q.0 q.1))
      by (Ok n) e = absurd e
      by (Err q) e = subst (λ x. Comes ts s w b b (Err (Broken rule)) (breaks_rule x)) e (breaks ts s w b rule h)

  pub references_break : (r : Result (Option Ref × Option Ref) ℕ) (go : Option ℕ → Option ℕ → Effect) → r ≡ Err rule → AreReferences ts r (two_references xs vs) → Comes ts s w b b (Err (Broken rule)) (on_references xs vs go)
  unfolding or_broken
  references_break r go is are = rw (on_references_is xs vs go) (by (two_references xs vs) (subst (λ x. AreReferences ts x (two_references xs vs)) is are))
    where
      by : (m : Result (Option ℕ × Option ℕ) ℕ) → AreReferences ts (Err rule) m → Comes ts s w b b (Err (Broken rule)) (or_broken m (λ q. go q.0 q.1))
      by (Ok n) e = absurd e
      by (Err q) e = subst (λ x. Comes ts s w b b (Err (Broken rule)) (breaks_rule x)) e (breaks ts s w b rule h)

-- ---- blocks

module _ (ts : Things) (s : World) (w : model.World) (b : Outside) (bs : Blocks) (h : Shows s ts w) where
  changed_come : (r : Result (Unit {0}) ℕ) (m : Result bl.Blocks ℕ) → Did ts r m bs → Comes ts (record s { blocks = bs }) w b b (done_as r) (with_blocks w m)
  unfolding or_broken
  changed_come (Ok u) (Ok ms) did = record { things = did.things; kept = did.kept; shown = shown_blocks s bs ts w ms h did; value = refl; made = tt; wrote = silent w w b refl }
  changed_come (Ok u) (Err rule) did = absurd did
  changed_come (Err r) (Ok ms) did = absurd did
  changed_come (Err r) (Err rule) did = record { is = ap (λ x. Broken x) did; fuel = h.fuel; silent = refl }

  -- the blocks are changed as those that are shown
  pub blocks_come : (out : Result (Option Value) Halt) (r : Result (Unit {0}) ℕ) (f : bl.Blocks → Result bl.Blocks ℕ) → out ≡ done_as r → Did ts r (f (blocks_of s.blocks ts)) bs
      → Comes ts (record s { blocks = bs }) w b b out (with_blocks w (f w.blocks))
  blocks_come out r f is did = rw is (changed_come r (f w.blocks) (subst (λ x. Did ts r (f x) bs) (sym h.blocks) did))

-- a reference to the new block
pub new_come : (s : World) (bs : Blocks) (ts : Things) (w : model.World) (b : Outside) (r : Ref) (numbers references : ℕ) → s.heap ≡ heap_of s.blocks → Shows s ts w → IsNew ts r numbers references s.blocks bs
    → Comes ts (record s { blocks = bs }) w b b (Ok (Some (Reference (Some r)))) (makes s.heap numbers references w)
new_come s bs ts w b r n m heap h new =
    let free : is_full s.heap w.blocks ≡ false = ap (λ k. is_full k w.blocks) heap ∙ ap (is_full (heap_of s.blocks)) h.blocks ∙ new.room in
    let same : r.number ≡ length w.blocks = new.number ∙ sym (length-map ts (option_map (block_in s.blocks))) ∙ ap length (sym h.blocks) in
    rw free (record {
      things = new.come.things;
      kept = new.come.kept;
      shown = shown_blocks s bs ts w _ h (record { things = new.come.things; holds = new.come.holds; blocks = new.come.blocks ∙ ap (λ l. l ++ Some (new_block n m) ∷ []) (sym h.blocks); kept = new.come.kept });
      value = ap (λ k. Some (model.reference (Some k))) same;
      made = new.made;
      wrote = silent w w b refl;
    })

pub parent_come : (s : World) (ts : Things) (w : model.World) (b : Outside) (r : Result Ref ℕ) (p : Option ℕ) (out : Result (Option Value) Halt) → Shows s ts w → IsParent ts r (parent_of (blocks_of s.blocks ts) p) → out ≡ parent_as r
    → Comes ts s w b b out (or_broken (parent_of w.blocks p) (λ n. gives (Some (model.reference (Some n))) w))
unfolding or_broken
parent_come s ts w b r p out h are is =
    rw is (subst (λ x. Comes ts s w b b (parent_as r) (or_broken (parent_of x p) (λ n. gives (Some (model.reference (Some n))) w))) (sym h.blocks) (by r (parent_of (blocks_of s.blocks ts) p) are))
  where
    by : (r : Result Ref ℕ) (m : Result ℕ ℕ) → IsParent ts r m → Comes ts s w b b (parent_as r) (or_broken m (λ n. gives (Some (model.reference (Some n))) w))
    by (Ok q) (Ok n) e = gives_value ts s w b (Some (Reference (Some q))) (Some (model.reference (Some n))) h e.1 (ap (λ k. Some (model.reference (Some k))) e.0)
    by (Ok q) (Err rule) e = absurd e
    by (Err q) (Ok n) e = absurd e
    by (Err q) (Err rule) e = record { is = ap (λ x. Broken x) e; fuel = h.fuel; silent = refl }

-- ---- the talk with the host

pub reading_is : (talk : Talk) (line : List ℕ) (t : model.Talk) (zs : List ℤ) → IsReading talk zs → TalkShows talk line t → t ≡ model.reading zs
reading_is Idle line t zs r h = absurd r
reading_is (Calling told) line t zs r h = absurd r
reading_is (Reading ys) line model.idle zs r h = absurd h
reading_is (Reading ys) line (model.calling name args) zs r h = absurd h
reading_is (Reading ys) line (model.reading left) zs r h = ap (λ l. model.reading l) (sym h ∙ r)

-- what is for a reading host alone
pub while_come : (ts : Things) (s : World) (w : model.World) (b : Outside) (old : World) (out : Result (Option Value) Halt) (e : Effect) → Shows old ts w → is_reading old.talk ≡ true → Comes ts s w b b out e → Comes ts s w b b out (while_reading w.talk e)
while_come ts s w b old out e h so c = by old.talk w.talk so h.talk
  where
    by : (talk : Talk) (t : model.Talk) → is_reading talk ≡ true → TalkShows talk old.line.items t → Comes ts s w b b out (while_reading t e)
    by Idle t y k = absurd (false≢true y)
    by (Calling told) t y k = absurd (false≢true y)
    by (Reading zs) model.idle y k = absurd k
    by (Reading zs) (model.calling name args) y k = absurd k
    by (Reading zs) (model.reading left) y k = c

pub while_breaks : (ts : Things) (s : World) (w : model.World) (b : Outside) (e : Effect) → Shows s ts w → is_reading s.talk ≡ false → Comes ts s w b b (Err (Broken 8)) (while_reading w.talk e)
while_breaks ts s w b e h not = by s.talk w.talk not h.talk
  where
    by : (talk : Talk) (t : model.Talk) → is_reading talk ≡ false → TalkShows talk s.line.items t → Comes ts s w b b (Err (Broken 8)) (while_reading t e)
    by Idle model.idle n k = breaks ts s w b 8 h
    by Idle (model.calling name args) n k = absurd k
    by Idle (model.reading left) n k = absurd k
    by (Calling told) model.idle n k = absurd k
    by (Calling told) (model.calling name args) n k = breaks ts s w b 8 h
    by (Calling told) (model.reading left) n k = absurd k
    by (Reading zs) t n k = absurd (false≢true (sym n))

-- a block comes back, or it wasn't out
pub back_come : (s : World) (bs : Blocks) (ts : Things) (w : model.World) (b : Outside) (r : Result Bool ℕ) (p : Option ℕ) (out : Result (Option Value) Halt) → out ≡ back_as s.taken r → Shows s ts w → DidBack ts r (come_back (blocks_of s.blocks ts) p) s.blocks bs
    → Comes ts (record s { blocks = bs }) w b b out (or_broken (come_back w.blocks p) (λ back. back_or_bad back w))
unfolding or_broken
back_come s bs ts w b r p out is h did = rw is (by r (come_back w.blocks p) (subst (λ x. DidBack ts r (come_back x p) s.blocks bs) (sym h.blocks) did))
  where
    by : (r : Result Bool ℕ) (m : Result (Option bl.Blocks) ℕ) → DidBack ts r m s.blocks bs → Comes ts (record s { blocks = bs }) w b b (back_as s.taken r) (or_broken m (λ back. back_or_bad back w))
    by (Ok true) (Ok (Some ms)) e = record { things = e.things; kept = e.kept; shown = shown_blocks s bs ts w ms h e; value = refl; made = tt; wrote = silent w w b refl }
    by (Ok true) (Ok None) e = absurd e
    by (Ok true) (Err rule) e = absurd e
    by (Ok false) (Ok (Some ms)) e = absurd e
    by (Ok false) (Ok None) e = inl (record { outcome = ap (λ n. Some (model.bad_answer n)) (sym h.taken); fuel = h.fuel; wrote = silent w w b refl })
    by (Ok false) (Err rule) e = absurd e
    by (Err q) (Ok m) e = absurd e
    by (Err q) (Err rule) e = record { is = ap (λ x. Broken x) e; fuel = h.fuel; silent = refl }

-- ---- no arguments

pub none_come : (ts : Things) (s : World) (w : model.World) (before after : Outside) (xs : List Arg) (out : Result (Option Value) Halt) (e : Effect) → is_none xs ≡ true → Comes ts s w before after out e → Comes ts s w before after out (no_args xs e)
unfolding no_args
none_come ts s w before after [] out e n c = c
none_come ts s w before after (x ∷ xs) out e n c = absurd (false≢true n)

pub none_breaks : (ts : Things) (s : World) (w : model.World) (b : Outside) (xs : List Arg) (e : Effect) → Shows s ts w → is_none xs ≡ false → Comes ts s w b b (Err (Broken 8)) (no_args xs e)
unfolding no_args
none_breaks ts s w b [] e h n = absurd (false≢true (sym n))
none_breaks ts s w b (x ∷ xs) e h n = breaks ts s w b 8 h

pub trap_come : (ts : Things) (s : World) (w : model.World) (b : Outside) (z : ℤ) (out : Halt) → Shows s ts w → out ≡ halt_of_trap z → Comes ts s w b b (Err out) (traps z w)
trap_come ts s w b z out h is = rw is (by (equals z (pos 1)) (equals z (pos 2)))
  where
    by : (x y : Bool) → Comes ts s w b b (Err (if x then Stopped (Trap Overflow) else if y then Stopped (Trap ZeroDivisor) else Broken 8)) (if x then ends (model.trap Overflow) w else if y then ends (model.trap ZeroDivisor) w else breaks_rule 8)
    by true y = inl (record { outcome = refl; fuel = h.fuel; wrote = silent w w b refl })
    by false true = inl (record { outcome = refl; fuel = h.fuel; wrote = silent w w b refl })
    by false false = breaks ts s w b 8 h
