-- A variant's slots after the first go through the registers, from a function that returns to its caller.
use Rattle.std.proofs.Common.{◌≡◌, ◌≤◌, ◌<◌, ℕ, zero, suc, ◌+◌, nat_lt, true, false, if◌then◌else◌, ℤ, List, [], ◌∷◌, map, filter, length, Option, Some, slice_get, slice_set, refl, sym, ap, ◌∙◌, subst, arith, add-one}
use Rattle.std.proofs.lemmas.Bool.Decides.{nat_tests}
use Rattle.std.specs.List.{enumerate_from}
use Rattle.std.proofs.lemmas.Option.{slice_get_within}
use Rattle.c_syntax.specs.declared.program.CVar.{CVar}
use Rattle.c_syntax.specs.declared.program.CPrim.TheVariants as prim
use Rattle.c_syntax.specs.C.{Stmt}
use Rattle.c_syntax.specs.C as syntax
use Rattle.c_meaning.specs.World.{Value, number, reference}
use Rattle.c_meaning.specs.Primitives.{or_broken, on_number, on_numbers, on_number_and_reference, at_index}
use Rattle.c_meaning.specs.Run.{Setup, Meaning, Frame, goes, with_var}
use Rattle.vlt_meaning.specs.World as source
use Rattle.vlt_core.specs.Core.{Program}
use Rattle.c_lower.specs.Slots.{Sort, of_number, of_reference, of_owner, Numbers, past, vars_at}
use Rattle.c_lower.specs.Expressions.{Atom, variable, atom_arg}
use Rattle.c_syntax.specs.declared.program.CPrim.{CPrim}
use Rattle.c_lower.specs.Statements.{runtime_call, runtime_value, count_arg, is_alike, is_reference_atom, result_puts, rest_puts, result_gets, number_vars, reference_vars, results}
use Rattle.c_lower_worlds.specs.Worlds.{Registers, AreRegisters, c_world, numbers_in, references_in}
use Rattle.c_lower_worlds.specs.Frames.{HaveValues}
use Rattle.c_lower_worlds.specs.Same.{BeginWith, InRegisters}
use Rattle.c_lower_worlds.specs.Sorts.{AreOfSorts}
use Rattle.c_lower_worlds.specs.Naming.Lists.{Each}
use Rattle.c_lower_worlds.proofs.VariableSlots.{Apart, AllApart}
use Rattle.c_lower_worlds.proofs.FrameChanges.{var_kept, var_set}
use Rattle.c_lower_worlds.proofs.StatementLists.{Runs, runs_then, call_runs, value_runs}

-- ---- what is written

abbrev pub written : {A : Type 0} → ℕ → List A → List A → List A
written i [] xs = xs
written i (y ∷ ys) xs = written (suc i) ys (slice_set xs i y)

length_set : {A : Type 0} (xs : List A) (i : ℕ) (y : A) → length (slice_set xs i y) ≡ length xs
length_set [] i y = refl
length_set (x ∷ xs) zero y = refl
length_set (x ∷ xs) (suc i) y = ap suc (length_set xs i y)

get_set_other : {A : Type 0} (xs : List A) (i j : ℕ) (y : A) → j < i → slice_get (slice_set xs i y) j ≡ slice_get xs j
get_set_other [] i j y l = refl
get_set_other (x ∷ xs) zero j y l = absurd (omega arith)
get_set_other (x ∷ xs) (suc i) zero y l = refl
get_set_other (x ∷ xs) (suc i) (suc j) y l = get_set_other xs i j y (omega arith)

get_set_here : {A : Type 0} (xs : List A) (i : ℕ) (y : A) → i < length xs → slice_get (slice_set xs i y) i ≡ Some y
get_set_here [] i y l = absurd (omega arith)
get_set_here (x ∷ xs) zero y l = refl
get_set_here (x ∷ xs) (suc i) y l = get_set_here xs i y (omega arith)

pub written_length : {A : Type 0} (i : ℕ) (ys xs : List A) → length (written i ys xs) ≡ length xs
written_length i [] xs = refl
written_length i (y ∷ ys) xs = written_length (suc i) ys (slice_set xs i y) ∙ length_set xs i y

written_kept : {A : Type 0} (i j : ℕ) (ys xs : List A) → j < i → slice_get (written i ys xs) j ≡ slice_get xs j
written_kept i j [] xs l = refl
written_kept i j (y ∷ ys) xs l = written_kept (suc i) j ys (slice_set xs i y) (omega arith) ∙ get_set_other xs i j y l

written_at : {A : Type 0} (i k : ℕ) (ys xs : List A) (y : A) → i + length ys ≤ length xs → slice_get ys k ≡ Some y → slice_get (written i ys xs) (i + k) ≡ Some y
written_at i k [] xs y l at = absurd (Rattle.std.proofs.lemmas.Option.none-some y at)
written_at i zero (z ∷ ys) xs y l at =
    rw (no_more i) (written_kept (suc i) i ys (slice_set xs i z) (omega arith) ∙ get_set_here xs i z (omega arith) ∙ at)
  where
    no_more : (i : ℕ) → i + 0 ≡ i
    no_more i = omega arith
written_at i (suc k) (z ∷ ys) xs y l at =
    let e : length (slice_set xs i z) ≡ length xs = length_set xs i z in
    rw (more i k) (written_at (suc i) k ys (slice_set xs i z) y (omega arith) at)
  where
    more : (i k : ℕ) → i + suc k ≡ suc i + k
    more i k = omega arith

pub written_begins : {A : Type 0} (ys xs : List A) → length ys ≤ length xs → BeginWith ys (written 0 ys xs)
written_begins ys xs l = record {
  at = λ k y at. let e : 0 + length ys ≤ length xs = omega arith in
      subst (λ i. slice_get (written 0 ys xs) i ≡ Some y) (none k) (written_at 0 k ys xs y e at);
}
  where
    none : (k : ℕ) → 0 + k ≡ k
    none k = omega arith

-- ---- slots and their values

-- a number in each `n` variable, a reference in each `p` variable
abbrev pub FitKinds : List CVar → List Value → Type 0
FitKinds [] [] = Unit {0}
FitKinds (v ∷ vs) (number z ∷ values) = (v.reference ≡ false) × FitKinds vs values
FitKinds (v ∷ vs) (reference r ∷ values) = (v.reference ≡ true) × FitKinds vs values
FitKinds _ _ = ⊥

pub slots_fit : (t : Numbers) (ss : List Sort) (values : List Value) → AreOfSorts ss values → FitKinds (vars_at t ss) values
slots_fit t [] [] h = tt
slots_fit t [] (a ∷ values) h = absurd h
slots_fit t (s ∷ ss) [] h = absurd h
slots_fit t (of_number ∷ ss) (number z ∷ values) h = (refl, slots_fit (past t of_number) ss values h.1)
slots_fit t (of_number ∷ ss) (reference r ∷ values) h = absurd h.0
slots_fit t (of_reference ∷ ss) (number z ∷ values) h = absurd h.0
slots_fit t (of_reference ∷ ss) (reference r ∷ values) h = (refl, slots_fit (past t of_reference) ss values h.1)
slots_fit t (of_owner ∷ ss) (number z ∷ values) h = absurd h.0
slots_fit t (of_owner ∷ ss) (reference r ∷ values) h = (refl, slots_fit (past t of_owner) ss values h.1)

number_atoms : List CVar → List Atom
number_atoms vs = filter (λ a. is_alike (is_reference_atom a) false) (map variable vs)

reference_atoms : List CVar → List Atom
reference_atoms vs = filter is_reference_atom (map variable vs)

number_vars_of : List CVar → List CVar
number_vars_of vs = number_vars vs

reference_vars_of : List CVar → List CVar
reference_vars_of vs = reference_vars vs

number_atoms_yes : (v : CVar) (vs : List CVar) → v.reference ≡ false → number_atoms (v ∷ vs) ≡ variable v ∷ number_atoms vs
unfolding number_atoms
number_atoms_yes v vs e = ap (λ b. if is_alike b false then variable v ∷ number_atoms vs else number_atoms vs) e

number_atoms_no : (v : CVar) (vs : List CVar) → v.reference ≡ true → number_atoms (v ∷ vs) ≡ number_atoms vs
unfolding number_atoms
number_atoms_no v vs e = ap (λ b. if is_alike b false then variable v ∷ number_atoms vs else number_atoms vs) e

reference_atoms_yes : (v : CVar) (vs : List CVar) → v.reference ≡ true → reference_atoms (v ∷ vs) ≡ variable v ∷ reference_atoms vs
unfolding reference_atoms
reference_atoms_yes v vs e = ap (λ b. if b then variable v ∷ reference_atoms vs else reference_atoms vs) e

reference_atoms_no : (v : CVar) (vs : List CVar) → v.reference ≡ false → reference_atoms (v ∷ vs) ≡ reference_atoms vs
unfolding reference_atoms
reference_atoms_no v vs e = ap (λ b. if b then variable v ∷ reference_atoms vs else reference_atoms vs) e

number_vars_yes : (v : CVar) (vs : List CVar) → v.reference ≡ false → number_vars_of (v ∷ vs) ≡ v ∷ number_vars_of vs
unfolding number_vars_of
number_vars_yes v vs e = ap (λ b. if is_alike b false then v ∷ number_vars vs else number_vars vs) e

number_vars_no : (v : CVar) (vs : List CVar) → v.reference ≡ true → number_vars_of (v ∷ vs) ≡ number_vars_of vs
unfolding number_vars_of
number_vars_no v vs e = ap (λ b. if is_alike b false then v ∷ number_vars vs else number_vars vs) e

reference_vars_yes : (v : CVar) (vs : List CVar) → v.reference ≡ true → reference_vars_of (v ∷ vs) ≡ v ∷ reference_vars_of vs
unfolding reference_vars_of
reference_vars_yes v vs e = ap (λ b. if b then v ∷ reference_vars vs else reference_vars vs) e

reference_vars_no : (v : CVar) (vs : List CVar) → v.reference ≡ false → reference_vars_of (v ∷ vs) ≡ reference_vars_of vs
unfolding reference_vars_of
reference_vars_no v vs e = ap (λ b. if b then v ∷ reference_vars vs else reference_vars vs) e

puts_of : CPrim → ℕ → List Atom → List Stmt
puts_of f i atoms = map (λ q. runtime_call f (count_arg q.0 ∷ atom_arg q.1 ∷ [])) (enumerate_from i atoms)

gets_of : CPrim → ℕ → List CVar → List Stmt
gets_of f i vs = map (λ q. runtime_value q.1 f (count_arg q.0 ∷ [])) (enumerate_from i vs)

puts_first : (f : CPrim) (i : ℕ) (v : CVar) (atoms : List Atom) →
    puts_of f i (variable v ∷ atoms) ≡ runtime_call f (count_arg i ∷ syntax.variable v ∷ []) ∷ puts_of f (suc i) atoms
unfolding puts_of
puts_first f i v atoms = rw (add-one i) refl

gets_first : (f : CPrim) (i : ℕ) (v : CVar) (vs : List CVar) → gets_of f i (v ∷ vs) ≡ runtime_value v f (count_arg i ∷ []) ∷ gets_of f (suc i) vs
unfolding gets_of
gets_first f i v vs = rw (add-one i) refl

no_puts : (f : CPrim) (i : ℕ) → puts_of f i [] ≡ []
unfolding puts_of
no_puts f i = refl

no_gets : (f : CPrim) (i : ℕ) → gets_of f i [] ≡ []
unfolding gets_of
no_gets f i = refl

module _ (R : Setup) (rest_of : Meaning) (p : Program) where
  -- ---- the function that returns

  put_number_runs : (i : ℕ) (v : CVar) (z : ℤ) (f : Frame) (w : source.World) (g : Registers) → f.vars v ≡ Some (number z) →
      i < length g.numbers →
      Runs R rest_of (runtime_call prim.PutN (count_arg i ∷ syntax.variable v ∷ []) ∷ []) f (c_world p g w)
      (goes f (c_world p (record g { numbers = slice_set g.numbers i (Some z) }) w))
  unfolding on_numbers or_broken at_index
  put_number_runs i v z f w g at l = call_runs R rest_of prim.PutN (count_arg i ∷ syntax.variable v ∷ []) f (c_world p g w) (c_world p (record g { numbers = slice_set g.numbers i (Some z) }) w) (rw (at, within) refl)
    where
      within : nat_lt i (length g.numbers) ≡ true
      within = grind (arith, nat_tests)

  put_reference_runs : (i : ℕ) (v : CVar) (r : Option ℕ) (f : Frame) (w : source.World) (g : Registers) → f.vars v ≡ Some (reference r) →
      i < length g.references →
      Runs R rest_of (runtime_call prim.PutP (count_arg i ∷ syntax.variable v ∷ []) ∷ []) f (c_world p g w)
      (goes f (c_world p (record g { references = slice_set g.references i (Some r) }) w))
  unfolding on_number_and_reference or_broken at_index
  put_reference_runs i v r f w g at l = call_runs R rest_of prim.PutP (count_arg i ∷ syntax.variable v ∷ []) f (c_world p g w) (c_world p (record g { references = slice_set g.references i (Some r) }) w) (rw (at, within) refl)
    where
      within : nat_lt i (length g.references) ≡ true
      within = grind (arith, nat_tests)

  puts_numbers : (vs : List CVar) (values : List Value) (i : ℕ) (f : Frame) (w : source.World) (g : Registers) → FitKinds vs values → HaveValues vs values f →
      i + length (numbers_in values) ≤ length g.numbers →
      Runs R rest_of (puts_of prim.PutN i (number_atoms vs)) f (c_world p g w)
      (goes f (c_world p (record g { numbers = written i (numbers_in values) g.numbers }) w))
  unfolding number_atoms puts_of
  puts_numbers [] [] i f w g k h l = λ n. refl
  puts_numbers [] (a ∷ values) i f w g k h l = absurd h
  puts_numbers (v ∷ vs) [] i f w g k h l = absurd h
  puts_numbers (v ∷ vs) (number z ∷ values) i f w g k h l =
      subst (λ xs. Runs R rest_of xs f (c_world p g w) (goes f (c_world p (record g { numbers = written (suc i) (numbers_in values) (slice_set g.numbers i (Some z)) }) w)))
      (sym (ap (puts_of prim.PutN i) (number_atoms_yes v vs k.0) ∙ puts_first prim.PutN i v (number_atoms vs)))
      (runs_then R rest_of (runtime_call prim.PutN (count_arg i ∷ syntax.variable v ∷ []) ∷ []) (puts_of prim.PutN (suc i) (number_atoms vs)) f f (c_world p g w)
      (c_world p (record g { numbers = slice_set g.numbers i (Some z) }) w) _ (put_number_runs i v z f w g h.0 (omega arith))
      (puts_numbers vs values (suc i) f w (record g { numbers = slice_set g.numbers i (Some z) }) k.1 h.1 (let e : length (slice_set g.numbers i (Some z)) ≡ length g.numbers = length_set g.numbers i (Some z) in omega arith)))
  puts_numbers (v ∷ vs) (reference r ∷ values) i f w g k h l =
      subst (λ xs. Runs R rest_of (puts_of prim.PutN i xs) f (c_world p g w) (goes f (c_world p (record g { numbers = written i (numbers_in values) g.numbers }) w)))
      (sym (number_atoms_no v vs k.0)) (puts_numbers vs values i f w g k.1 h.1 l)

  puts_references : (vs : List CVar) (values : List Value) (i : ℕ) (f : Frame) (w : source.World) (g : Registers) → FitKinds vs values → HaveValues vs values f →
      i + length (references_in values) ≤ length g.references →
      Runs R rest_of (puts_of prim.PutP i (reference_atoms vs)) f (c_world p g w)
      (goes f (c_world p (record g { references = written i (references_in values) g.references }) w))
  unfolding reference_atoms puts_of
  puts_references [] [] i f w g k h l = λ n. refl
  puts_references [] (a ∷ values) i f w g k h l = absurd h
  puts_references (v ∷ vs) [] i f w g k h l = absurd h
  puts_references (v ∷ vs) (number z ∷ values) i f w g k h l =
      subst (λ xs. Runs R rest_of (puts_of prim.PutP i xs) f (c_world p g w) (goes f (c_world p (record g { references = written i (references_in values) g.references }) w)))
      (sym (reference_atoms_no v vs k.0)) (puts_references vs values i f w g k.1 h.1 l)
  puts_references (v ∷ vs) (reference r ∷ values) i f w g k h l =
      subst (λ xs. Runs R rest_of xs f (c_world p g w) (goes f (c_world p (record g { references = written (suc i) (references_in values) (slice_set g.references i (Some r)) }) w)))
      (sym (ap (puts_of prim.PutP i) (reference_atoms_yes v vs k.0) ∙ puts_first prim.PutP i v (reference_atoms vs)))
      (runs_then R rest_of (runtime_call prim.PutP (count_arg i ∷ syntax.variable v ∷ []) ∷ []) (puts_of prim.PutP (suc i) (reference_atoms vs)) f f (c_world p g w)
      (c_world p (record g { references = slice_set g.references i (Some r) }) w) _ (put_reference_runs i v r f w g h.0 (omega arith))
      (puts_references vs values (suc i) f w (record g { references = slice_set g.references i (Some r) }) k.1 h.1 (let e : length (slice_set g.references i (Some r)) ≡ length g.references = length_set g.references i (Some r) in omega arith)))

  -- the registers have them then
  pub record Put (vs : List CVar) (values : List Value) (f : Frame) (w : source.World) (g : Registers) : Type 0 where
    pub registers : Registers
    pub runs : Runs R rest_of (rest_puts (map variable vs)) f (c_world p g w) (goes f (c_world p registers w))
    pub holds : InRegisters values registers
    pub are : AreRegisters registers

  pub rest_put : (vs : List CVar) (values : List Value) (f : Frame) (w : source.World) (g : Registers) → AreRegisters g → FitKinds vs values → HaveValues vs values f →
      length (numbers_in values) ≤ 8 → length (references_in values) ≤ 16 → Put vs values f w g
  unfolding number_atoms reference_atoms puts_of
  rest_put vs values f w g are k h small few = record {
    registers = record { numbers = written 0 (numbers_in values) g.numbers; references = written 0 (references_in values) g.references };
    runs = runs_then R rest_of (result_puts prim.PutN (number_atoms vs)) (result_puts prim.PutP (reference_atoms vs)) f f _ _ _
        (puts_numbers vs values 0 f w g k h (let e = are.numbers in omega arith))
        (puts_references vs values 0 f w (record g { numbers = written 0 (numbers_in values) g.numbers }) k h (let e = are.references in omega arith));
    holds = record {
      numbers = written_begins (numbers_in values) g.numbers (let e = are.numbers in omega arith);
      references = written_begins (references_in values) g.references (let e = are.references in omega arith);
    };
    are = record {
      numbers = written_length 0 (numbers_in values) g.numbers ∙ are.numbers;
      references = written_length 0 (references_in values) g.references ∙ are.references;
    };
  }

  -- ---- its caller

  -- the `n` variables are set, and the `p` variables
  abbrev pub set_numbers : List CVar → List Value → Frame → Frame
  set_numbers (v ∷ vs) (number z ∷ values) f = set_numbers vs values (with_var v (number z) f)
  set_numbers (v ∷ vs) (reference r ∷ values) f = set_numbers vs values f
  set_numbers _ _ f = f

  abbrev pub set_references : List CVar → List Value → Frame → Frame
  set_references (v ∷ vs) (number z ∷ values) f = set_references vs values f
  set_references (v ∷ vs) (reference r ∷ values) f = set_references vs values (with_var v (reference r) f)
  set_references _ _ f = f

  gets_numbers : (vs : List CVar) (values : List Value) (i : ℕ) (f : Frame) (w : source.World) (g : Registers) → FitKinds vs values →
      ((k : ℕ) (x : Option ℤ) → slice_get (numbers_in values) k ≡ Some x → slice_get g.numbers (i + k) ≡ Some x) →
      Runs R rest_of (gets_of prim.GetN i (number_vars_of vs)) f (c_world p g w)
      (goes (set_numbers vs values f) (c_world p g w))
  unfolding on_number or_broken at_index gets_of number_vars_of
  gets_numbers [] [] i f w g k h = λ n. refl
  gets_numbers [] (a ∷ values) i f w g k h = absurd k
  gets_numbers (v ∷ vs) [] i f w g k h = absurd k
  gets_numbers (v ∷ vs) (number z ∷ values) i f w g k h =
      subst (λ xs. Runs R rest_of xs f (c_world p g w) (goes (set_numbers vs values (with_var v (number z) f)) (c_world p g w)))
      (sym (ap (gets_of prim.GetN i) (number_vars_yes v vs k.0) ∙ gets_first prim.GetN i v (number_vars_of vs)))
      (runs_then R rest_of (runtime_value v prim.GetN (count_arg i ∷ []) ∷ []) (gets_of prim.GetN (suc i) (number_vars_of vs)) f (with_var v (number z) f) (c_world p g w) (c_world p g w) _
      (got (subst (λ j. slice_get g.numbers j ≡ Some (Some z)) (no_more i) (h 0 (Some z) refl)))
      (gets_numbers vs values (suc i) (with_var v (number z) f) w g k.1 (λ j x e. subst (λ m. slice_get g.numbers m ≡ Some x) (more i j) (h (suc j) x e))))
    where
      no_more : (i : ℕ) → i + 0 ≡ i
      no_more i = omega arith

      more : (i j : ℕ) → i + suc j ≡ suc i + j
      more i j = omega arith

      got : slice_get g.numbers i ≡ Some (Some z) → Runs R rest_of (runtime_value v prim.GetN (count_arg i ∷ []) ∷ []) f (c_world p g w) (goes (with_var v (number z) f) (c_world p g w))
      got e = value_runs R rest_of v prim.GetN (count_arg i ∷ []) (number z) f (c_world p g w) (c_world p g w) (rw (within, e) refl)
        where
          within : nat_lt i (length g.numbers) ≡ true
          within = let l = slice_get_within g.numbers i (Some z) e in grind (arith, nat_tests)
  gets_numbers (v ∷ vs) (reference r ∷ values) i f w g k h =
      subst (λ xs. Runs R rest_of (gets_of prim.GetN i xs) f (c_world p g w) (goes (set_numbers vs values f) (c_world p g w)))
      (sym (number_vars_no v vs k.0)) (gets_numbers vs values i f w g k.1 h)

  gets_references : (vs : List CVar) (values : List Value) (i : ℕ) (f : Frame) (w : source.World) (g : Registers) → FitKinds vs values →
      ((k : ℕ) (x : Option (Option ℕ)) → slice_get (references_in values) k ≡ Some x → slice_get g.references (i + k) ≡ Some x) →
      Runs R rest_of (gets_of prim.GetP i (reference_vars_of vs)) f (c_world p g w)
      (goes (set_references vs values f) (c_world p g w))
  unfolding on_number or_broken at_index gets_of reference_vars_of
  gets_references [] [] i f w g k h = λ n. refl
  gets_references [] (a ∷ values) i f w g k h = absurd k
  gets_references (v ∷ vs) [] i f w g k h = absurd k
  gets_references (v ∷ vs) (number z ∷ values) i f w g k h =
      subst (λ xs. Runs R rest_of (gets_of prim.GetP i xs) f (c_world p g w) (goes (set_references vs values f) (c_world p g w)))
      (sym (reference_vars_no v vs k.0)) (gets_references vs values i f w g k.1 h)
  gets_references (v ∷ vs) (reference r ∷ values) i f w g k h =
      subst (λ xs. Runs R rest_of xs f (c_world p g w) (goes (set_references vs values (with_var v (reference r) f)) (c_world p g w)))
      (sym (ap (gets_of prim.GetP i) (reference_vars_yes v vs k.0) ∙ gets_first prim.GetP i v (reference_vars_of vs)))
      (runs_then R rest_of (runtime_value v prim.GetP (count_arg i ∷ []) ∷ []) (gets_of prim.GetP (suc i) (reference_vars_of vs)) f (with_var v (reference r) f) (c_world p g w) (c_world p g w) _
      (got (subst (λ j. slice_get g.references j ≡ Some (Some r)) (no_more i) (h 0 (Some r) refl)))
      (gets_references vs values (suc i) (with_var v (reference r) f) w g k.1 (λ j x e. subst (λ m. slice_get g.references m ≡ Some x) (more i j) (h (suc j) x e))))
    where
      no_more : (i : ℕ) → i + 0 ≡ i
      no_more i = omega arith

      more : (i j : ℕ) → i + suc j ≡ suc i + j
      more i j = omega arith

      got : slice_get g.references i ≡ Some (Some r) → Runs R rest_of (runtime_value v prim.GetP (count_arg i ∷ []) ∷ []) f (c_world p g w) (goes (with_var v (reference r) f) (c_world p g w))
      got e = value_runs R rest_of v prim.GetP (count_arg i ∷ []) (reference r) f (c_world p g w) (c_world p g w) (rw (within, e) refl)
        where
          within : nat_lt i (length g.references) ≡ true
          within = let l = slice_get_within g.references i (Some r) e in grind (arith, nat_tests)

  numbers_kept : (vs : List CVar) (values : List Value) (f : Frame) (u : CVar) → Each (Apart u) vs → (set_numbers vs values f).vars u ≡ f.vars u
  numbers_kept [] values f u h = refl
  numbers_kept (v ∷ vs) [] f u h = refl
  numbers_kept (v ∷ vs) (number z ∷ values) f u h = numbers_kept vs values (with_var v (number z) f) u h.1 ∙ var_kept v (number z) u f h.0
  numbers_kept (v ∷ vs) (reference r ∷ values) f u h = numbers_kept vs values f u h.1

  references_kept : (vs : List CVar) (values : List Value) (f : Frame) (u : CVar) → Each (Apart u) vs → (set_references vs values f).vars u ≡ f.vars u
  references_kept [] values f u h = refl
  references_kept (v ∷ vs) [] f u h = refl
  references_kept (v ∷ vs) (number z ∷ values) f u h = references_kept vs values f u h.1
  references_kept (v ∷ vs) (reference r ∷ values) f u h = references_kept vs values (with_var v (reference r) f) u h.1 ∙ var_kept v (reference r) u f h.0

  numbers_depth : (vs : List CVar) (values : List Value) (f : Frame) → (set_numbers vs values f).depth ≡ f.depth
  numbers_depth [] values f = refl
  numbers_depth (v ∷ vs) [] f = refl
  numbers_depth (v ∷ vs) (number z ∷ values) f = numbers_depth vs values (with_var v (number z) f)
  numbers_depth (v ∷ vs) (reference r ∷ values) f = numbers_depth vs values f

  numbers_glue : (vs : List CVar) (values : List Value) (f : Frame) → (set_numbers vs values f).is_glue ≡ f.is_glue
  numbers_glue [] values f = refl
  numbers_glue (v ∷ vs) [] f = refl
  numbers_glue (v ∷ vs) (number z ∷ values) f = numbers_glue vs values (with_var v (number z) f)
  numbers_glue (v ∷ vs) (reference r ∷ values) f = numbers_glue vs values f

  references_depth : (vs : List CVar) (values : List Value) (f : Frame) → (set_references vs values f).depth ≡ f.depth
  references_depth [] values f = refl
  references_depth (v ∷ vs) [] f = refl
  references_depth (v ∷ vs) (number z ∷ values) f = references_depth vs values f
  references_depth (v ∷ vs) (reference r ∷ values) f = references_depth vs values (with_var v (reference r) f)

  references_glue : (vs : List CVar) (values : List Value) (f : Frame) → (set_references vs values f).is_glue ≡ f.is_glue
  references_glue [] values f = refl
  references_glue (v ∷ vs) [] f = refl
  references_glue (v ∷ vs) (number z ∷ values) f = references_glue vs values f
  references_glue (v ∷ vs) (reference r ∷ values) f = references_glue vs values (with_var v (reference r) f)

  -- the `n` variables have their numbers
  abbrev HaveNumbers : List CVar → List Value → Frame → Type 0
  HaveNumbers (v ∷ vs) (number z ∷ values) f = (f.vars v ≡ Some (number z)) × HaveNumbers vs values f
  HaveNumbers (v ∷ vs) (reference r ∷ values) f = HaveNumbers vs values f
  HaveNumbers _ _ f = Unit {0}

  numbers_have : (vs : List CVar) (values : List Value) (f : Frame) → AllApart vs → HaveNumbers vs values (set_numbers vs values f)
  numbers_have [] values f h = tt
  numbers_have (v ∷ vs) [] f h = tt
  numbers_have (v ∷ vs) (number z ∷ values) f h =
      (numbers_kept vs values (with_var v (number z) f) v h.0 ∙ var_set v (number z) f, numbers_have vs values (with_var v (number z) f) h.1)
  numbers_have (v ∷ vs) (reference r ∷ values) f h = numbers_have vs values f h.1

  still : (v : CVar) (a : Value) (vs : List CVar) (values : List Value) (f : Frame) → Each (Apart v) vs → HaveNumbers vs values f → HaveNumbers vs values (with_var v a f)
  still v a [] values f apart h = tt
  still v a (u ∷ vs) [] f apart h = tt
  still v a (u ∷ vs) (number z ∷ values) f apart h =
      (var_kept v a u f (Rattle.c_lower_worlds.proofs.VariableSlots.apart_back v u apart.0) ∙ h.0, still v a vs values f apart.1 h.1)
  still v a (u ∷ vs) (reference r ∷ values) f apart h = still v a vs values f apart.1 h

  all_have : (vs : List CVar) (values : List Value) (f : Frame) → FitKinds vs values → AllApart vs → HaveNumbers vs values f → HaveValues vs values (set_references vs values f)
  all_have [] [] f k a h = tt
  all_have [] (x ∷ values) f k a h = absurd k
  all_have (v ∷ vs) [] f k a h = absurd k
  all_have (v ∷ vs) (number z ∷ values) f k a h = (references_kept vs values f v a.0 ∙ h.0, all_have vs values f k.1 a.1 h.1)
  all_have (v ∷ vs) (reference r ∷ values) f k a h = (
    references_kept vs values (with_var v (reference r) f) v a.0 ∙ var_set v (reference r) f,
    all_have vs values (with_var v (reference r) f) k.1 a.1 (still v (reference r) vs values f a.0 h),
  )

  -- the variables have the values of the registers then, and no other is changed
  pub record Got (vs : List CVar) (values : List Value) (f : Frame) (w : source.World) (g : Registers) : Type 0 where
    pub to : Frame
    pub runs : Runs R rest_of (results vs) f (c_world p g w) (goes to (c_world p g w))
    pub have : HaveValues vs values to
    pub kept : (u : CVar) → Each (Apart u) vs → to.vars u ≡ f.vars u
    pub depth : to.depth ≡ f.depth
    pub is_glue : to.is_glue ≡ f.is_glue

  pub result_got : (vs : List CVar) (values : List Value) (f : Frame) (w : source.World) (g : Registers) → FitKinds vs values → AllApart vs → InRegisters values g →
      Got vs values f w g
  unfolding gets_of number_vars_of reference_vars_of
  result_got vs values f w g k apart h = record {
    to = set_references vs values (set_numbers vs values f);
    runs = runs_then R rest_of (result_gets prim.GetN (number_vars vs)) (result_gets prim.GetP (reference_vars vs)) f (set_numbers vs values f) _ _ _
        (gets_numbers vs values 0 f w g k (λ i x e. subst (λ j. slice_get g.numbers j ≡ Some x) (sym (none i)) (h.numbers.at i x e)))
        (gets_references vs values 0 (set_numbers vs values f) w g k (λ i x e. subst (λ j. slice_get g.references j ≡ Some x) (sym (none i)) (h.references.at i x e)));
    have = all_have vs values (set_numbers vs values f) k apart (numbers_have vs values f apart);
    kept = λ u e. references_kept vs values (set_numbers vs values f) u e ∙ numbers_kept vs values f u e;
    depth = references_depth vs values (set_numbers vs values f) ∙ numbers_depth vs values f;
    is_glue = references_glue vs values (set_numbers vs values f) ∙ numbers_glue vs values f;
  }
    where
      none : (k : ℕ) → 0 + k ≡ k
      none k = omega arith
