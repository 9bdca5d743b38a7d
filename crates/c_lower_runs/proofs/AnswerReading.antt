-- The numbers of an answer are read in C as the source reads them, or both break off.
use Rattle.std.proofs.Common.{◌≡◌, ◌<◌, ℕ, nat_le, nat_lt, Bool, true, false, if◌then◌else◌, ℤ, pos, negsuc, List, [], ◌∷◌, ◌++◌, length, Option, Some, None, refl, sym, subst, arith, ◌^◌}
use Rattle.std.proofs.lemmas.Bool.Decides.{nat_tests}
use Rattle.std.specs.List.{flat_map, zip, sum_by}
use Rattle.vlt_core.specs.Core as core
use Rattle.vlt_core.specs.Core.{States, Ty}
use Rattle.vlt_meaning.specs.HostAnswers.{Reading, reads, ◌>>=◌, then_reads, any_number, natural, each, one_of, state_in, Piece, plain, new_in, piece_of}
use Rattle.c_syntax.specs.declared.program.CVar.{CVar}
use Rattle.c_syntax.specs.declared.program.CPrim.TheVariants as prim
use Rattle.c_syntax.specs.C.{Stmt}
use Rattle.c_meaning.specs.World as cw
use Rattle.c_meaning.specs.World.{World}
use Rattle.c_meaning.specs.Primitives.{or_broken, on_number, no_args, is_bit_of}
use Rattle.c_meaning.specs.Run.{Setup, Meaning, Frame, goes, stops, with_var}
use Rattle.c_lower.specs.Statements.{runtime_call, runtime_value}
use Rattle.c_lower.specs.Glue.{states_in, mask, pick_state, payload_number}
use Rattle.c_lower_worlds.proofs.StatementLists.{Runs, runs_then, stops_there, call_gives, call_stops, value_runs, value_stops}
use Rattle.c_lower_runs.proofs.StateMasks.{is_among}

-- the world while an answer is read, of which these numbers are left
abbrev pub left_to_read : World → List ℤ → World
left_to_read w zs = record w { talk = cw.reading zs }

-- a set as the language has them: not empty, and with states below 32 alone
pub record IsProper (s : States) : Type 0 where
  pub below : (i : ℕ) → s i ≡ true → i < 32
  pub some : states_in s ≡ [] → ⊥

module _ (R : Setup) (rest_of : Meaning) where
  -- the answer isn't what was to be read: nothing that is seen of the run has changed
  pub record BreaksOff (xs : List Stmt) (f : Frame) (w : World) : Type 0 where
    pub world : World
    pub runs : Runs R rest_of xs f w (stops (cw.bad_answer w.taken) world)
    pub events : world.events ≡ w.events
    pub fuel : world.fuel ≡ w.fuel

  abbrev pub ReadsTo : {A : Type 0} → List Stmt → Frame → World → (zs : List ℤ) → (A → Frame) → Option (A × List ℤ) → Type 0
  ReadsTo xs f w zs to None = BreaksOff xs f (left_to_read w zs)
  ReadsTo xs f w zs to (Some q) = Runs R rest_of xs f (left_to_read w zs) (goes (to q.0) (left_to_read w q.1))

  -- the statements read what the reading says, and end in this frame
  pub record Reads {A : Type 0} (xs : List Stmt) (f : Frame) (to : A → Frame) (read : Reading A) : Type 0 where
    pub at : (w : World) (zs : List ℤ) → ReadsTo xs f w zs to (read zs)

  -- ---- one number

  abbrev IsTest : List ℕ → (ℕ → Bool) → Type 0
  IsTest ns test = (i : ℕ) → is_bit_of (pos (sum_by (λ n. 2 ^ n) ns)) (pos i) ≡ test i

  pub natural_reads : (ns : List ℕ) (test : ℕ → Bool) (f : Frame) → IsTest ns test →
      Reads (runtime_call prim.Pick (mask ns ∷ []) ∷ []) f (λ n. f) (natural test)
  unfolding on_number or_broken
  natural_reads ns test f is = record { at = λ w zs. by w zs }
    where
      by : (w : World) (zs : List ℤ) → ReadsTo (runtime_call prim.Pick (mask ns ∷ []) ∷ []) f w zs (λ (n : ℕ). f) (natural test zs)
      by w [] = record { world = left_to_read w []; runs = call_stops R rest_of prim.Pick (mask ns ∷ []) f (left_to_read w []) (left_to_read w []) (cw.bad_answer w.taken) refl; events = refl; fuel = refl }
      by w (negsuc n ∷ zs) = record { world = left_to_read w (negsuc n ∷ zs); runs = call_stops R rest_of prim.Pick (mask ns ∷ []) f (left_to_read w (negsuc n ∷ zs)) (left_to_read w (negsuc n ∷ zs)) (cw.bad_answer w.taken) refl; events = refl; fuel = refl }
      by w (pos n ∷ zs) = at (test n) (is n)
        where
          at : (b : Bool) → is_bit_of (pos (sum_by (λ n. 2 ^ n) ns)) (pos n) ≡ b →
              ReadsTo (runtime_call prim.Pick (mask ns ∷ []) ∷ []) f w (pos n ∷ zs) (λ (n : ℕ). f) (if b then Some (n, zs) else None)
          at true e = call_gives R rest_of prim.Pick (mask ns ∷ []) (Some (cw.number (pos n))) f (left_to_read w (pos n ∷ zs)) (left_to_read w zs) (rw e refl)
          at false e = record { world = left_to_read w (pos n ∷ zs); runs = call_stops R rest_of prim.Pick (mask ns ∷ []) f (left_to_read w (pos n ∷ zs)) (left_to_read w (pos n ∷ zs)) (cw.bad_answer w.taken) (rw e refl); events = refl; fuel = refl }

  pub natural_into : (ns : List ℕ) (test : ℕ → Bool) (t : CVar) (f : Frame) → IsTest ns test →
      Reads (runtime_value t prim.Pick (mask ns ∷ []) ∷ []) f (λ n. with_var t (cw.number (pos n)) f) (natural test)
  unfolding on_number or_broken
  natural_into ns test t f is = record { at = λ w zs. by w zs }
    where
      by : (w : World) (zs : List ℤ) → ReadsTo (runtime_value t prim.Pick (mask ns ∷ []) ∷ []) f w zs (λ (n : ℕ). with_var t (cw.number (pos n)) f) (natural test zs)
      by w [] = record { world = left_to_read w []; runs = value_stops R rest_of t prim.Pick (mask ns ∷ []) f (left_to_read w []) (left_to_read w []) (cw.bad_answer w.taken) refl; events = refl; fuel = refl }
      by w (negsuc n ∷ zs) = record { world = left_to_read w (negsuc n ∷ zs); runs = value_stops R rest_of t prim.Pick (mask ns ∷ []) f (left_to_read w (negsuc n ∷ zs)) (left_to_read w (negsuc n ∷ zs)) (cw.bad_answer w.taken) refl; events = refl; fuel = refl }
      by w (pos n ∷ zs) = at (test n) (is n)
        where
          at : (b : Bool) → is_bit_of (pos (sum_by (λ n. 2 ^ n) ns)) (pos n) ≡ b →
              ReadsTo (runtime_value t prim.Pick (mask ns ∷ []) ∷ []) f w (pos n ∷ zs) (λ (n : ℕ). with_var t (cw.number (pos n)) f) (if b then Some (n, zs) else None)
          at true e = value_runs R rest_of t prim.Pick (mask ns ∷ []) (cw.number (pos n)) f (left_to_read w (pos n ∷ zs)) (left_to_read w zs) (rw e refl)
          at false e = record { world = left_to_read w (pos n ∷ zs); runs = value_stops R rest_of t prim.Pick (mask ns ∷ []) f (left_to_read w (pos n ∷ zs)) (left_to_read w (pos n ∷ zs)) (cw.bad_answer w.taken) (rw e refl); events = refl; fuel = refl }

  pub int_into : (t : CVar) (f : Frame) → Reads (runtime_value t prim.Int [] ∷ []) f (λ z. with_var t (cw.number z) f) any_number
  unfolding no_args
  int_into t f = record { at = λ w zs. by w zs }
    where
      by : (w : World) (zs : List ℤ) → ReadsTo (runtime_value t prim.Int [] ∷ []) f w zs (λ (z : ℤ). with_var t (cw.number z) f) (any_number zs)
      by w [] = record { world = left_to_read w []; runs = value_stops R rest_of t prim.Int [] f (left_to_read w []) (left_to_read w []) (cw.bad_answer w.taken) refl; events = refl; fuel = refl }
      by w (z ∷ zs) = value_runs R rest_of t prim.Int [] (cw.number z) f (left_to_read w (z ∷ zs)) (left_to_read w zs) refl

  -- ---- a state, where there is more than one

  pub state_reads : (s : States) (f : Frame) → IsProper s → Reads (pick_state s) f (λ n. f) (state_in s)
  state_reads s f proper = by (states_in s) proper.some (natural_reads (states_in s) s f (λ i. is_among s 32 (states_in s) refl i (omega arith) proper.below))
    where
      by : (ns : List ℕ) → (ns ≡ [] → ⊥) → Reads (runtime_call prim.Pick (mask (states_in s) ∷ []) ∷ []) f (λ n. f) (natural s) →
          Reads (if nat_le 2 (length ns) then runtime_call prim.Pick (mask (states_in s) ∷ []) ∷ [] else []) f (λ n. f) (one_of ns s)
      by [] some h = absurd (some refl)
      by (z ∷ []) some h = record { at = λ w zs n. refl }
      by (a ∷ b ∷ ns) some h = subst (λ t. Reads (if t then runtime_call prim.Pick (mask (states_in s) ∷ []) ∷ [] else []) f (λ n. f) (natural s)) (sym (two ns)) h
        where
          two : (ns : List ℕ) → nat_le 2 (length (a ∷ b ∷ ns)) ≡ true
          two ns = grind (arith, nat_tests)

  -- ---- one reading after another

  pub both_read : {A B C : Type 0} (xs ys : List Stmt) (f : Frame) (one : A → Frame) (two : A → B → Frame) (to : C → Frame) (first : Reading A) (second : A → Reading B)
      (made : A → B → C) → Reads xs f one first → ((a : A) → Reads ys (one a) (two a) (second a)) → ((a : A) (b : B) → to (made a b) ≡ two a b) →
      Reads (xs ++ ys) f to (first >>= (λ a. second a >>= (λ b. reads (made a b))))
  both_read {A} {B} {C} xs ys f one two to first second made h k same = record { at = λ w zs. by w zs (first zs) (h.at w zs) }
    where
      then_there : (w : World) (zs : List ℤ) (a : A) (us : List ℤ) → Runs R rest_of xs f (left_to_read w zs) (goes (one a) (left_to_read w us)) →
          (r : Option (B × List ℤ)) → ReadsTo ys (one a) w us (two a) r → ReadsTo (xs ++ ys) f w zs to (then_reads (λ b. reads (made a b)) r)
      then_there w zs a us first None off = record {
        world = off.world;
        runs = runs_then R rest_of xs ys f (one a) (left_to_read w zs) (left_to_read w us) (stops (cw.bad_answer w.taken) off.world) first off.runs;
        events = off.events;
        fuel = off.fuel;
      }
      then_there w zs a us first (Some q) on =
          subst (λ g. Runs R rest_of (xs ++ ys) f (left_to_read w zs) (goes g (left_to_read w q.1))) (sym (same a q.0))
          (runs_then R rest_of xs ys f (one a) (left_to_read w zs) (left_to_read w us) (goes (two a q.0) (left_to_read w q.1)) first on)

      by : (w : World) (zs : List ℤ) (r : Option (A × List ℤ)) → ReadsTo xs f w zs one r → ReadsTo (xs ++ ys) f w zs to (then_reads (λ a. second a >>= (λ b. reads (made a b))) r)
      by w zs None off = record {
        world = off.world;
        runs = stops_there R rest_of xs ys f (left_to_read w zs) off.world (cw.bad_answer w.taken) off.runs;
        events = off.events;
        fuel = off.fuel;
      }
      by w zs (Some q) on = then_there w zs q.0 q.1 on (second q.0 q.1) ((k q.0).at w q.1)

  -- the states of the entries that are held after
  pub states_read : {A : Type 0} (states : A → States) (es : List A) (f : Frame) → ((e : A) → IsProper (states e)) →
      Reads (flat_map (λ e. pick_state (states e)) es) f (λ ns. f) (each (λ e. state_in (states e)) es)
  states_read states [] f proper = record { at = λ w zs n. refl }
  states_read states (e ∷ es) f proper =
      both_read (pick_state (states e)) (flat_map (λ e. pick_state (states e)) es) f (λ n. f) (λ n ns. f) (λ ns. f) (state_in (states e)) (λ n. each (λ e. state_in (states e)) es) (λ n ns. n ∷ ns)
      (state_reads (states e) f (proper e)) (λ n. states_read states es f proper) (λ n ns. refl)

  -- ---- payloads: numbers go into their slots, and of a new object's state nothing is kept

  abbrev pub with_piece : CVar → Piece → Frame → Frame
  with_piece s (plain z) f = with_var s (cw.number z) f
  with_piece s (new_in n) f = f

  abbrev pub with_pieces : List (CVar × Ty) → List Piece → Frame → Frame
  with_pieces (q ∷ qs) (a ∷ rest) f = with_pieces qs rest (with_piece q.0 a f)
  with_pieces _ _ f = f

  -- what an external's answer may give as a payload
  abbrev pub IsAnswered : Ty → Type 0
  IsAnswered core.int = Unit {0}
  IsAnswered core.bool = Unit {0}
  IsAnswered (core.owning states t args) = IsProper states
  IsAnswered ty = ⊥

  pub mapped : {A B : Type 0} (xs : List Stmt) (f : Frame) (one : A → Frame) (to : B → Frame) (read : Reading A) (made : A → B) → Reads xs f one read →
      ((a : A) → to (made a) ≡ one a) → Reads xs f to (read >>= (λ a. reads (made a)))
  mapped {A} {B} xs f one to read made h same = record { at = λ w zs. by w zs (read zs) (h.at w zs) }
    where
      by : (w : World) (zs : List ℤ) (r : Option (A × List ℤ)) → ReadsTo xs f w zs one r → ReadsTo xs f w zs to (then_reads (λ a. reads (made a)) r)
      by w zs None off = off
      by w zs (Some q) on = subst (λ g. Runs R rest_of xs f (left_to_read w zs) (goes g (left_to_read w q.1))) (sym (same q.0)) on

  two_bits : (i : ℕ) → is_bit_of (pos (sum_by (λ n. 2 ^ n) (0 ∷ 1 ∷ []))) (pos i) ≡ nat_lt i 2
  two_bits i = is_among (λ j. nat_lt j 2) 2 (0 ∷ 1 ∷ []) refl i (omega arith) (λ j e. grind (arith, nat_tests))

  pub piece_reads : (s : CVar) (ty : Ty) (f : Frame) → IsAnswered ty → Reads (payload_number s ty) f (λ a. with_piece s a f) (piece_of ty)
  piece_reads s core.int f h = mapped (payload_number s core.int) f (λ z. with_var s (cw.number z) f) (λ a. with_piece s a f) any_number (λ z. plain z) (int_into s f) (λ z. refl)
  piece_reads s core.bool f h =
      mapped (payload_number s core.bool) f (λ n. with_var s (cw.number (pos n)) f) (λ a. with_piece s a f) (natural (λ n. nat_lt n 2)) (λ n. plain (pos n))
      (natural_into (0 ∷ 1 ∷ []) (λ n. nat_lt n 2) s f two_bits) (λ n. refl)
  piece_reads s (core.owning states t args) f h =
      mapped (pick_state states) f (λ n. f) (λ a. with_piece s a f) (state_in states) (λ n. new_in n) (state_reads states f h) (λ n. refl)
  piece_reads s (core.tracked k t args) f h = absurd h
  piece_reads s (core.guarded k t args) f h = absurd h
  piece_reads s (core.variant t args) f h = absurd h
  piece_reads s (core.owning_variant t args) f h = absurd h

  abbrev pub AreAnswered : List Ty → Type 0
  AreAnswered [] = Unit {0}
  AreAnswered (t ∷ ts) = IsAnswered t × AreAnswered ts

  pub pieces_read : (slots : List CVar) (ts : List Ty) (f : Frame) → AreAnswered ts → length slots ≡ length ts →
      Reads (flat_map (λ x. payload_number x.0 x.1) (zip slots ts)) f (λ pieces. with_pieces (zip slots ts) pieces f) (each piece_of ts)
  pieces_read [] [] f h e = record { at = λ w zs n. refl }
  pieces_read (s ∷ slots) [] f h e = absurd (omega arith)
  pieces_read [] (t ∷ ts) f h e = absurd (omega arith)
  pieces_read (s ∷ slots) (t ∷ ts) f h e =
      both_read (payload_number s t) (flat_map (λ x. payload_number x.0 x.1) (zip slots ts)) f (λ a. with_piece s a f) (λ a rest. with_pieces (zip slots ts) rest (with_piece s a f))
      (λ pieces. with_pieces ((s, t) ∷ zip slots ts) pieces f) (piece_of t) (λ a. each piece_of ts) (λ a rest. a ∷ rest)
      (piece_reads s t f h.0) (λ a. pieces_read slots ts (with_piece s a f) h.1 (omega arith)) (λ a rest. refl)
