-- The names of a file, and where they stand in the joined one.
use Rattle.std.proofs.Common.{◌≡◌, ℕ, suc, ◌+◌, Bool, true, false, true≢false, cond, if◌then◌else◌, is_some, List, [], ◌∷◌, ◌++◌, Option, Some, None, refl, sym, ap, ◌∙◌, subst, arith}
use Rattle.std.proofs.lemmas.Option.{none-some, same_Some}
use Rattle.std.specs.Map.{lookup}
use Rattle.std.proofs.lemmas.Slice.Eq.{bytes_eq-Decides}
use Rattle.std.specs.Str.{bytes_eq}
use Rattle.vlt_syntax.specs.Tree as s
use Rattle.vlt_syntax.specs.Tree.{Decl}
use Rattle.vlt_link_laws.specs.CoreMoves.Moves.{Moves}
use Rattle.vlt_kinds_types.specs.declared.names.globals.Entity.{Entity}
use Rattle.vlt_kinds_types.specs.declared.names.globals.Entity.TheVariants.{ASet, AType, AFunction}
use Rattle.vlt_kinds_types.specs.Names.Globals.{Globals, global_in, is_global, decl_name, Counts, global_of, counts_after, with_declared, globals_after, no_counts, globals_of}
use Rattle.vlt_link_laws.specs.Moves.Joins.{Joins, befores, afters, counted, at_in, is_set, is_type, is_function, moves_of}
use Rattle.vlt_link_laws.specs.Moves.Sees.{moved_global}

abbrev or_else : Option Entity → Option Entity → Option Entity
or_else None o = o
or_else (Some g) o = Some g

-- the first declaration of a name
abbrev pub first_in : Counts → List Decl → List ℕ → Option Entity
first_in c [] n = None
first_in c (d ∷ ds) n = if bytes_eq n (decl_name d).text then Some (global_of c d) else first_in (counts_after c d) ds n

in_either : (n : List ℕ) (xs ys : Globals) → lookup (bytes_eq n) (xs ++ ys) ≡ or_else (lookup (bytes_eq n) xs) (lookup (bytes_eq n) ys)
in_either n [] ys = refl
in_either n (x ∷ xs) ys = ap (λ o. cond (bytes_eq n x.0) (Some x.1) o) (in_either n xs ys) ∙ by (bytes_eq n x.0)
  where
    by : (b : Bool) → cond b (Some x.1) (or_else (lookup (bytes_eq n) xs) (lookup (bytes_eq n) ys)) ≡ or_else (cond b (Some x.1) (lookup (bytes_eq n) xs)) (lookup (bytes_eq n) ys)
    by true = refl
    by false = refl

or_none : (o : Option Entity) → or_else o None ≡ o
or_none None = refl
or_none (Some g) = refl

module _ (eq : (n k : List ℕ) → bytes_eq n k ≡ true → n ≡ k) where
  -- what is known before, or the first declaration
  looked_up : (known : Globals) (c : Counts) (ds : List Decl) (n : List ℕ) → global_in (globals_after known c ds) n ≡ or_else (global_in known n) (first_in c ds n)
  looked_up known c [] n = sym (or_none (global_in known n))
  looked_up known c (d ∷ ds) n = looked_up (with_declared known c d) (counts_after c d) ds n ∙ by (is_global known (decl_name d).text) refl
    where
      name : List ℕ
      name = (decl_name d).text

      rest : Option Entity
      rest = first_in (counts_after c d) ds n

      known_too : (o : Option Entity) → global_in known n ≡ o → is_some (global_in known (decl_name d).text) ≡ true → bytes_eq n (decl_name d).text ≡ true → (p q : Option Entity) → or_else o p ≡ or_else o q
      known_too (Some g) e is same p q = refl
      known_too None e is same p q = absurd (true≢false (sym is ∙ (ap (λ k. is_some (global_in known k)) (sym (eq n (decl_name d).text same)) ∙ ap is_some e)))

      old : is_some (global_in known (decl_name d).text) ≡ true → (b : Bool) → bytes_eq n (decl_name d).text ≡ b →
          or_else (global_in known n) (first_in (counts_after c d) ds n) ≡ or_else (global_in known n) (if b then Some (global_of c d) else first_in (counts_after c d) ds n)
      old is true same = known_too (global_in known n) refl is same (first_in (counts_after c d) ds n) (Some (global_of c d))
      old is false same = refl

      new : (o : Option Entity) (b : Bool) → or_else (or_else o (cond b (Some (global_of c d)) None)) (first_in (counts_after c d) ds n) ≡ or_else o (if b then Some (global_of c d) else first_in (counts_after c d) ds n)
      new None true = refl
      new None false = refl
      new (Some g) b = refl

      by : (b : Bool) → is_global known (decl_name d).text ≡ b →
          or_else (global_in (if b then known else known ++ ((decl_name d).text, global_of c d) ∷ []) n) (first_in (counts_after c d) ds n) ≡ or_else (global_in known n) (first_in c (d ∷ ds) n)
      by true is = old is (bytes_eq n (decl_name d).text) refl
      by false is = ap (λ o. or_else o (first_in (counts_after c d) ds n)) (in_either n known (((decl_name d).text, global_of c d) ∷ [])) ∙ new (global_in known n) (bytes_eq n (decl_name d).text)

  pub named : (ds : List Decl) (n : List ℕ) → global_in (globals_of ds) n ≡ first_in no_counts ds n
  named ds n = looked_up [] no_counts ds n

-- ---- sets, types and functions

pub data Kind : Type 0 where
  a_set : Kind
  a_type : Kind
  a_function : Kind

abbrev pub kind_of : Decl → Kind
kind_of (s.stateset n ss at) = a_set
kind_of (s.abstract n ss at) = a_type
kind_of (s.struct n ps ss fs r at) = a_type
kind_of (s.variant n ps cs at) = a_type
kind_of (s.extern h at) = a_function
kind_of (s.function h b at) = a_function

abbrev global_by : Kind → Counts → Entity
global_by a_set c = ASet c.sets
global_by a_type c = AType c.types
global_by a_function c = AFunction c.functions

abbrev counts_by : Kind → Counts → Counts
counts_by a_set c = record c { sets = suc c.sets }
counts_by a_type c = record c { types = suc c.types }
counts_by a_function c = record c { functions = suc c.functions }

abbrev set_kind : Kind → Bool
set_kind a_set = true
set_kind k = false

abbrev type_kind : Kind → Bool
type_kind a_type = true
type_kind k = false

abbrev function_kind : Kind → Bool
function_kind a_function = true
function_kind k = false

global_kind : (c : Counts) (d : Decl) → global_of c d ≡ global_by (kind_of d) c
global_kind c (s.stateset n ss at) = refl
global_kind c (s.abstract n ss at) = refl
global_kind c (s.struct n ps ss fs r at) = refl
global_kind c (s.variant n ps cs at) = refl
global_kind c (s.extern h at) = refl
global_kind c (s.function h b at) = refl

counts_kind : (c : Counts) (d : Decl) → counts_after c d ≡ counts_by (kind_of d) c
counts_kind c (s.stateset n ss at) = refl
counts_kind c (s.abstract n ss at) = refl
counts_kind c (s.struct n ps ss fs r at) = refl
counts_kind c (s.variant n ps cs at) = refl
counts_kind c (s.extern h at) = refl
counts_kind c (s.function h b at) = refl

sets_kind : (d : Decl) → is_set d ≡ set_kind (kind_of d)
sets_kind (s.stateset n ss at) = refl
sets_kind (s.abstract n ss at) = refl
sets_kind (s.struct n ps ss fs r at) = refl
sets_kind (s.variant n ps cs at) = refl
sets_kind (s.extern h at) = refl
sets_kind (s.function h b at) = refl

types_kind : (d : Decl) → is_type d ≡ type_kind (kind_of d)
types_kind (s.stateset n ss at) = refl
types_kind (s.abstract n ss at) = refl
types_kind (s.struct n ps ss fs r at) = refl
types_kind (s.variant n ps cs at) = refl
types_kind (s.extern h at) = refl
types_kind (s.function h b at) = refl

functions_kind : (d : Decl) → is_function d ≡ function_kind (kind_of d)
functions_kind (s.stateset n ss at) = refl
functions_kind (s.abstract n ss at) = refl
functions_kind (s.struct n ps ss fs r at) = refl
functions_kind (s.variant n ps cs at) = refl
functions_kind (s.extern h at) = refl
functions_kind (s.function h b at) = refl

-- ---- names in the joined list

-- what stands for a declaration has its name and kind, and what is added has a name that no later one of the first list has
abbrev pub IsJoin : Option Decl → Decl → Joins → Type 0
IsJoin None e js = (c : Counts) → first_in c (befores js) (decl_name e).text ≡ None
IsJoin (Some d) e js = (kind_of e ≡ kind_of d) × ((decl_name e).text ≡ (decl_name d).text)

abbrev pub AreJoined : Joins → Type 0
AreJoined [] = Unit {0}
AreJoined (j ∷ js) = IsJoin j.before j.after js × AreJoined js

-- so many of each kind stand before in the one and in the other
pub record Shifts (m : Moves) (js : Joins) (c c2 : Counts) : Type 0 where
  pub sets : (k : ℕ) → m.sets (c.sets + k) ≡ c2.sets + at_in is_set js k
  pub types : (k : ℕ) → m.types (c.types + k) ≡ c2.types + at_in is_type js k
  pub functions : (k : ℕ) → m.functions (c.functions + k) ≡ c2.functions + at_in is_function js k

-- one more in the second alone: as many more before
more_sets : (k : Kind) (c : Counts) (r : ℕ) → c.sets + (if set_kind k then suc r else r) ≡ (counts_by k c).sets + r
more_sets a_set c r = omega arith
more_sets a_type c r = refl
more_sets a_function c r = refl

more_types : (k : Kind) (c : Counts) (r : ℕ) → c.types + (if type_kind k then suc r else r) ≡ (counts_by k c).types + r
more_types a_set c r = refl
more_types a_type c r = omega arith
more_types a_function c r = refl

more_functions : (k : Kind) (c : Counts) (r : ℕ) → c.functions + (if function_kind k then suc r else r) ≡ (counts_by k c).functions + r
more_functions a_set c r = refl
more_functions a_type c r = refl
more_functions a_function c r = omega arith

module _ (m : Moves) (js : Joins) (c c2 : Counts) where
  added : (e : Decl) → Shifts m (record { before = None; after = e } ∷ js) c c2 → Shifts m js c (counts_after c2 e)
  added e h = record {
    sets = λ k. h.sets k ∙ (ap (λ (b : Bool). c2.sets + (if b then suc (at_in is_set js k) else at_in is_set js k)) (sets_kind e) ∙ (more_sets (kind_of e) c2 (at_in is_set js k) ∙ ap (λ c. c.sets + at_in is_set js k) (sym (counts_kind c2 e))));
    types = λ k. h.types k ∙ (ap (λ (b : Bool). c2.types + (if b then suc (at_in is_type js k) else at_in is_type js k)) (types_kind e) ∙ (more_types (kind_of e) c2 (at_in is_type js k) ∙ ap (λ c. c.types + at_in is_type js k) (sym (counts_kind c2 e))));
    functions = λ k. h.functions k ∙ (ap (λ (b : Bool). c2.functions + (if b then suc (at_in is_function js k) else at_in is_function js k)) (functions_kind e) ∙ (more_functions (kind_of e) c2 (at_in is_function js k) ∙ ap (λ c. c.functions + at_in is_function js k) (sym (counts_kind c2 e))));
  }

  module _ (d e : Decl) (h : Shifts m (record { before = Some d; after = e } ∷ js) c c2) where
    set_at : (k : Kind) → kind_of e ≡ k → (i : ℕ) → m.sets (c.sets + i) ≡ c2.sets + (if set_kind k then counted (at_in is_set js) (Some d) i else at_in is_set js i)
    set_at k q i = h.sets i ∙ ap (λ (b : Bool). c2.sets + (if b then counted (at_in is_set js) (Some d) i else at_in is_set js i)) (sets_kind e ∙ ap set_kind q)

    type_at : (k : Kind) → kind_of e ≡ k → (i : ℕ) → m.types (c.types + i) ≡ c2.types + (if type_kind k then counted (at_in is_type js) (Some d) i else at_in is_type js i)
    type_at k q i = h.types i ∙ ap (λ (b : Bool). c2.types + (if b then counted (at_in is_type js) (Some d) i else at_in is_type js i)) (types_kind e ∙ ap type_kind q)

    function_at : (k : Kind) → kind_of e ≡ k → (i : ℕ) → m.functions (c.functions + i) ≡ c2.functions + (if function_kind k then counted (at_in is_function js) (Some d) i else at_in is_function js i)
    function_at k q i = h.functions i ∙ ap (λ (b : Bool). c2.functions + (if b then counted (at_in is_function js) (Some d) i else at_in is_function js i)) (functions_kind e ∙ ap function_kind q)

    both_by : (k : Kind) → kind_of e ≡ k → Shifts m js (counts_by k c) (counts_by k c2)
    both_by a_set q = record {
      sets = λ i. let x : suc c.sets + i ≡ c.sets + suc i = omega arith in let y : c2.sets + suc (at_in is_set js i) ≡ suc c2.sets + at_in is_set js i = omega arith in ap m.sets x ∙ (set_at a_set q (suc i) ∙ y);
      types = λ i. type_at a_set q i;
      functions = λ i. function_at a_set q i;
    }
    both_by a_type q = record {
      sets = λ i. set_at a_type q i;
      types = λ i. let x : suc c.types + i ≡ c.types + suc i = omega arith in let y : c2.types + suc (at_in is_type js i) ≡ suc c2.types + at_in is_type js i = omega arith in ap m.types x ∙ (type_at a_type q (suc i) ∙ y);
      functions = λ i. function_at a_type q i;
    }
    both_by a_function q = record {
      sets = λ i. set_at a_function q i;
      types = λ i. type_at a_function q i;
      functions = λ i. let x : suc c.functions + i ≡ c.functions + suc i = omega arith in let y : c2.functions + suc (at_in is_function js i) ≡ suc c2.functions + at_in is_function js i = omega arith in ap m.functions x ∙ (function_at a_function q (suc i) ∙ y);
    }

    both : kind_of e ≡ kind_of d → Shifts m js (counts_after c d) (counts_after c2 e)
    both same = subst (λ x. Shifts m js x (counts_after c2 e)) (sym (counts_kind c d)) (subst (λ x. Shifts m js (counts_by (kind_of d) c) x) (ap (λ k. counts_by k c2) (sym same) ∙ sym (counts_kind c2 e)) (both_by (kind_of d) same))

    -- the one that stands here
    here_by : (k : Kind) → kind_of e ≡ k → global_by k c2 ≡ moved_global m (global_by k c)
    here_by a_set q = let x : c.sets ≡ c.sets + 0 = omega arith in let y : c2.sets ≡ c2.sets + 0 = omega arith in ap ASet (y ∙ (sym (set_at a_set q 0) ∙ ap m.sets (sym x)))
    here_by a_type q = let x : c.types ≡ c.types + 0 = omega arith in let y : c2.types ≡ c2.types + 0 = omega arith in ap AType (y ∙ (sym (type_at a_type q 0) ∙ ap m.types (sym x)))
    here_by a_function q = let x : c.functions ≡ c.functions + 0 = omega arith in let y : c2.functions ≡ c2.functions + 0 = omega arith in ap AFunction (y ∙ (sym (function_at a_function q 0) ∙ ap m.functions (sym x)))

    here : kind_of e ≡ kind_of d → global_of c2 e ≡ moved_global m (global_of c d)
    here same = global_kind c2 e ∙ (ap (λ k. global_by k c2) same ∙ (here_by (kind_of d) same ∙ ap (moved_global m) (sym (global_kind c d))))

module _ (eq : (n k : List ℕ) → bytes_eq n k ≡ true → n ≡ k) (m : Moves) where
  -- each name of the first list is one of the second, of the same thing at its place there
  names_step : (o : Option Decl) (e : Decl) (js : Joins) → IsJoin o e js →
      ((c c2 : Counts) → Shifts m js c c2 → (n : List ℕ) (g : Entity) → first_in c (befores js) n ≡ Some g → first_in c2 (afters js) n ≡ Some (moved_global m g)) →
      (c c2 : Counts) → Shifts m (record { before = o; after = e } ∷ js) c c2 → (n : List ℕ) (g : Entity) →
      first_in c (befores (record { before = o; after = e } ∷ js)) n ≡ Some g → first_in c2 (afters (record { before = o; after = e } ∷ js)) n ≡ Some (moved_global m g)
  names_step None e js new rest c c2 h n g at = by (bytes_eq n (decl_name e).text) refl
    where
      by : (b : Bool) → bytes_eq n (decl_name e).text ≡ b → (if b then Some (global_of c2 e) else first_in (counts_after c2 e) (afters js) n) ≡ Some (moved_global m g)
      by true is = absurd (none-some g (sym (new c) ∙ (ap (first_in c (befores js)) (sym (eq n (decl_name e).text is)) ∙ at)))
      by false is = rest c (counts_after c2 e) (added m js c c2 e h) n g at
  names_step (Some d) e js same rest c c2 h n g at =
      ap (λ k. if bytes_eq n k then Some (global_of c2 e) else first_in (counts_after c2 e) (afters js) n) same.1 ∙ by (bytes_eq n (decl_name d).text) at
    where
      by : (b : Bool) → (if b then Some (global_of c d) else first_in (counts_after c d) (befores js) n) ≡ Some g → (if b then Some (global_of c2 e) else first_in (counts_after c2 e) (afters js) n) ≡ Some (moved_global m g)
      by true at = ap Some (here m js c c2 d e h same.0 ∙ ap (moved_global m) (same_Some (global_of c d) g at))
      by false at = rest (counts_after c d) (counts_after c2 e) (both m js c c2 d e h same.0) n g at

  names_move : (js : Joins) → AreJoined js → (c c2 : Counts) → Shifts m js c c2 → (n : List ℕ) (g : Entity) → first_in c (befores js) n ≡ Some g → first_in c2 (afters js) n ≡ Some (moved_global m g)
  names_move [] all c c2 h n g at = absurd (none-some g at)
  names_move (j ∷ js) all c c2 h n g at = names_step j.before j.after js all.0 (names_move js all.1) c c2 h n g at

-- the field `names` of `Sees`
pub joined_names : ((n k : List ℕ) → bytes_eq n k ≡ true → n ≡ k) → (js : Joins) → AreJoined js → (n : List ℕ) (g : Entity) →
    global_in (globals_of (befores js)) n ≡ Some g → global_in (globals_of (afters js)) n ≡ Some (moved_global (moves_of js) g)
joined_names eq js all n g at =
    named eq (afters js) n ∙ names_move eq (moves_of js) js all no_counts no_counts
    (record {
      sets = λ k. let x : 0 + k ≡ k = omega arith in let y : at_in is_set js k ≡ 0 + at_in is_set js k = omega arith in ap (at_in is_set js) x ∙ y;
      types = λ k. let x : 0 + k ≡ k = omega arith in let y : at_in is_type js k ≡ 0 + at_in is_type js k = omega arith in ap (at_in is_type js) x ∙ y;
      functions = λ k. let x : 0 + k ≡ k = omega arith in let y : at_in is_function js k ≡ 0 + at_in is_function js k = omega arith in ap (at_in is_function js) x ∙ y;
    }) n g (sym (named eq (befores js) n) ∙ at)

pub names_are_joined : (js : Joins) → AreJoined js → (n : List ℕ) (g : Entity) →
    global_in (globals_of (befores js)) n ≡ Some g → global_in (globals_of (afters js)) n ≡ Some (moved_global (moves_of js) g)
names_are_joined js all n g at = joined_names (λ n k e. (bytes_eq-Decides n k).0 e) js all n g at
