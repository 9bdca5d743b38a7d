-- An external that gives a variant: the case and its payloads are read into slots that were cleared, the objects of the case's
-- keys come back, and new objects are made for the payloads.
use Rattle.std.proofs.Common.{◌≡◌, ◌≢◌, ◌≤◌, ◌<◌, ◌⊎◌, inl, inr, ℕ, zero, suc, ◌+◌, ◌==◌, ◌||◌, nat_lt, Bool, true, false, if◌then◌else◌, ℤ, pos, List, [], ◌∷◌, ◌++◌, map, length, replicate, Option, Some, None, slice_get, Ok, Err, length-append, refl, sym, ap, ◌∙◌, subst, arith}
use Rattle.std.proofs.lemmas.Bool.{eq-eqb, false≢true}
use Rattle.std.proofs.lemmas.Option.{none-some, same_Some}
use Rattle.std.specs.List.{filter_map}
use Rattle.std.specs.Option.{option_map, option_and_then}
use Rattle.vlt_core.specs.Core as core
use Rattle.vlt_core.specs.Core.{Ty, CaseKey, CaseDecl, Func, Program}
use Rattle.vlt_core.specs.Lookups.{cases_of, fields_of, variant_in, VariantOf, KeyIn, keys_in, is_owning}
use Rattle.vlt_core.specs.Widths.{is_number, is_guarded, most_of}
use Rattle.vlt_core.specs.KindedHeads.{has}
use Rattle.vlt_meaning.specs.World as source
use Rattle.vlt_meaning.specs.World.{Owner, Object, Part, of_case, loose, is_out}
use Rattle.vlt_meaning.specs.Found as found
use Rattle.vlt_meaning.specs.Found.{Found, Named}
use Rattle.vlt_meaning.specs.Objects.{owned_at, with_owner, with_changed_object, objects_after_move}
use Rattle.vlt_meaning.specs.HostAnswers as host
use Rattle.vlt_meaning.specs.HostAnswers.{natural, each, piece_of, case_read, variant_read, state_in, case_with, Piece}
use Rattle.vlt_meaning.specs.Externals as ext
use Rattle.vlt_meaning.specs.Externals.{with_result, case_objects, objects_of_keys}
use Rattle.vlt_meaning.specs.Step as step
use Rattle.c_syntax.specs.declared.program.CVar.{CVar}
use Rattle.c_syntax.specs.declared.program.CPrim.TheVariants as prim
use Rattle.c_syntax.specs.View.{stmts_made}
use Rattle.c_syntax.specs.C as syntax
use Rattle.c_syntax.specs.C.{Stmt}
use Rattle.c_meaning.specs.World as cw
use Rattle.c_meaning.specs.Run as crun
use Rattle.c_meaning.specs.Run.{goes, does_stmts, count_in}
use Rattle.c_lower.specs.Slots.{Sort, of_number, of_reference, of_owner, Numbers, first_temps, past, variant_sorts, var_at, vars_at, Starts, variant_starts, payload_positions, payload_sort, after_start}
use Rattle.c_lower.specs.Expressions.{variable}
use Rattle.c_lower.specs.Statements.{runtime_call, case_positions, payload_in, after_first, return_stmts}
use Rattle.c_lower.specs.Glue.{per_case, slot_at, payloads, case_keys_back, key_in, key_slot, variant_code}
use Rattle.c_lower.specs.Glue as glue
use Rattle.c_lower_worlds.specs.Operators.Codes.{AreAlike, IsBelow}
use Rattle.c_lower_worlds.proofs.OfOperators.Codes.{up_self}
use Rattle.c_lower_worlds.specs.Worlds.{Registers, AreRegisters, c_world, variant_values, unused}
use Rattle.c_lower_worlds.specs.Given.{IsFed}
use Rattle.c_lower_worlds.specs.Shapes.{types_of, AreShaped, IsCase}
use Rattle.c_lower_worlds.specs.Frames.{HaveValues}
use Rattle.c_lower_worlds.specs.Operands.{RegistersSuffice}
use Rattle.c_lower_worlds.specs.Naming.Lists.{Each}
use Rattle.c_lower_runs.proofs.ClearedSlots.{clear_all, clears_run, clear_kept, clear_depth, clear_glue, cleared_at, temps_alike}
use Rattle.c_lower_worlds.proofs.FrameChanges.{var_kept, var_set}
use Rattle.c_lower_runs.proofs.GlueSteps.{Glued, Gave, AreWords, parted, natural_left, states_left}
use Rattle.c_lower_runs.proofs.ClauseKeys.{KeyParameter}
use Rattle.c_lower_worlds.proofs.MovedObjects.{with_blocks, Refer}
use Rattle.c_lower_runs.proofs.HostMoves.{backs_run}
use Rattle.c_lower_runs.proofs.HostMoves as moving
use Rattle.c_lower_worlds.proofs.VariantSlots.{inside, numbers, references, owners, length_replicate}
use Rattle.c_lower_runs.proofs.PerCase.{per_case_goes, per_case_stops}
use Rattle.c_lower_runs.proofs.AnswerPieces.{PiecesFit, PartsStand, AllMade, HeapEnded, pieces_kept, numbers_stand, pieces_made}
use Rattle.c_lower_runs.proofs.PayloadPlaces.{IsPayload, Lies, AllDiffer, positions_lie, positions_differ, slot_is, slots_differ, Placed, have_places, each_at}
use Rattle.c_lower_runs.proofs.AnswerReading as reading
use Rattle.c_lower_runs.proofs.AnswerReading.{left_to_read, IsProper, AreAnswered}
use Rattle.c_lower_runs.proofs.GlueResults.{ResultParts, finish}
use Rattle.c_lower_worlds.proofs.StatementLists.{Runs, stops_there, goes_on}
use Rattle.c_lower_runs.proofs.SingleResults.{small_range}
use Rattle.c_lower_worlds.proofs.VariableSlots.{Apart, AllApart, apart_back, slots_apart, each_map}
use Rattle.c_lower_runs.proofs.VariantAnswers.{variant_reads, natural_passes, there_is}

-- ---- what an external may give as a variant

abbrev pub IsGivenPayload : Program → Ty → Type 0
IsGivenPayload p core.int = Unit {0}
IsGivenPayload p core.bool = Unit {0}
IsGivenPayload p (core.owning states t args) = IsProper states × (fields_of p t ≡ [])
IsGivenPayload p ty = ⊥

-- a key of a case is that of a reference that is handed over
pub record IsGivenKey (gf : Func) (others : List ℕ) (k : CaseKey) : Type 0 where
  pub proper : IsProper k.states
  pub key : ℕ
  pub at : slice_get others k.position ≡ Some key
  pub parameter : KeyParameter gf key

pub record IsVariantResult (p : Program) (gf : Func) (t : ℕ) (others : List ℕ) : Type 0 where
  pub few : length (cases_of p t) ≤ 32
  pub payloads : (c : ℕ) (d : CaseDecl) → slice_get (cases_of p t) c ≡ Some d → Each (IsGivenPayload p) d.payload
  pub keys : (c : ℕ) (d : CaseDecl) → slice_get (cases_of p t) c ≡ Some d → Each (IsGivenKey gf others) d.keys

-- ---- payloads

given_answered : (R : crun.Setup) (cm : crun.Meaning) (p : Program) (ts : List Ty) → Each (IsGivenPayload p) ts → AreAnswered R cm ts
given_answered R cm p [] h = tt
given_answered R cm p (core.int ∷ ts) h = (tt, given_answered R cm p ts h.1)
given_answered R cm p (core.bool ∷ ts) h = (tt, given_answered R cm p ts h.1)
given_answered R cm p (core.owning st u args ∷ ts) h = (h.0.0, given_answered R cm p ts h.1)
given_answered R cm p (core.tracked k u args ∷ ts) h = absurd h.0
given_answered R cm p (core.guarded k u args ∷ ts) h = absurd h.0
given_answered R cm p (core.variant u args ∷ ts) h = absurd h.0
given_answered R cm p (core.owning_variant u args ∷ ts) h = absurd h.0

given_payloads : (p : Program) (ts : List Ty) → Each (IsGivenPayload p) ts → Each IsPayload ts
given_payloads p [] h = tt
given_payloads p (core.int ∷ ts) h = (tt, given_payloads p ts h.1)
given_payloads p (core.bool ∷ ts) h = (tt, given_payloads p ts h.1)
given_payloads p (core.owning st u args ∷ ts) h = (tt, given_payloads p ts h.1)
given_payloads p (core.tracked k u args ∷ ts) h = absurd h.0
given_payloads p (core.guarded k u args ∷ ts) h = absurd h.0
given_payloads p (core.variant u args ∷ ts) h = absurd h.0
given_payloads p (core.owning_variant u args ∷ ts) h = absurd h.0

positions_long : (ts : List Ty) (s : Starts) → length (payload_positions s ts) ≡ length ts
positions_long [] s = refl
positions_long (t ∷ ts) s = ap suc (positions_long ts (after_start (payload_sort t) s))

map_long : {A B : Type 0} (go : A → B) (xs : List A) → length (map go xs) ≡ length xs
map_long go [] = refl
map_long go (x ∷ xs) = ap suc (map_long go xs)

-- what a piece of an answer is
record IsPlain (ty : Ty) (x : Piece) : Type 0 where
  number : ℤ
  is : host.plain number ≡ x

pieces_fit : (p : Program) (ts : List Ty) → Each (IsGivenPayload p) ts → (zs us : List ℤ) (pieces : List Piece) → AreWords zs → each piece_of ts zs ≡ Some (pieces, us) → PiecesFit p ts pieces
pieces_fit p [] h zs us pieces words e = subst (PiecesFit p []) (ap (λ (q : List Piece × List ℤ). q.0) (same_Some ([], zs) (pieces, us) e)) tt
pieces_fit p (core.int ∷ ts) h zs us pieces words e =
    let r = parted (piece_of core.int) (λ a. each piece_of ts) (λ a rest. a ∷ rest) zs pieces us e in
    subst (PiecesFit p (core.int ∷ ts)) r.is (by zs r.a r.mid r.b words r.one (λ words2. pieces_fit p ts h.1 r.mid us r.b words2 r.two))
  where
    by : (zs : List ℤ) (a : Piece) (mid : List ℤ) (rest : List Piece) → AreWords zs → piece_of core.int zs ≡ Some (a, mid) → (AreWords mid → PiecesFit p ts rest) → PiecesFit p (core.int ∷ ts) (a ∷ rest)
    by [] a mid rest words e more = absurd (none-some (a, mid) e)
    by (z ∷ zs) a mid rest words e more =
        let same = same_Some (host.plain z, zs) (a, mid) e in
        subst (λ (q : Piece × List ℤ). (AreWords q.1 → PiecesFit p ts rest) → PiecesFit p (core.int ∷ ts) (q.0 ∷ rest)) same (λ more. (words.0, more words.1)) more
pieces_fit p (core.bool ∷ ts) h zs us pieces words e =
    let r = parted (piece_of core.bool) (λ a. each piece_of ts) (λ a rest. a ∷ rest) zs pieces us e in
    subst (PiecesFit p (core.bool ∷ ts)) r.is (by zs r.a r.mid r.b words r.one (λ words2. pieces_fit p ts h.1 r.mid us r.b words2 r.two))
  where
    by_test : (b : Bool) (n : ℕ) (zs : List ℤ) (a : Piece) (mid : List ℤ) (rest : List Piece) → nat_lt n 2 ≡ b → AreWords zs →
        host.then_reads (λ n. host.reads (host.plain (pos n))) (let o : Option (ℕ × List ℤ) = if b then Some (n, zs) else None in o) ≡ Some (a, mid) → (AreWords mid → PiecesFit p ts rest) → PiecesFit p (core.bool ∷ ts) (a ∷ rest)
    by_test false n zs a mid rest t words e more = absurd (none-some (a, mid) e)
    by_test true n zs a mid rest t words e more =
        subst (λ (q : Piece × List ℤ). (AreWords q.1 → PiecesFit p ts rest) → PiecesFit p (core.bool ∷ ts) (q.0 ∷ rest)) (same_Some (host.plain (pos n), zs) (a, mid) e) (λ more. (small_range n t, more words)) more

    by : (zs : List ℤ) (a : Piece) (mid : List ℤ) (rest : List Piece) → AreWords zs → piece_of core.bool zs ≡ Some (a, mid) → (AreWords mid → PiecesFit p ts rest) → PiecesFit p (core.bool ∷ ts) (a ∷ rest)
    by [] a mid rest words e more = absurd (none-some (a, mid) e)
    by (Rattle.std.specs.Prelude.negsuc n ∷ zs) a mid rest words e more = absurd (none-some (a, mid) e)
    by (pos n ∷ zs) a mid rest words e more = by_test (nat_lt n 2) n zs a mid rest refl words.1 e more
pieces_fit p (core.owning st u args ∷ ts) h zs us pieces words e =
    let r = parted (piece_of (core.owning st u args)) (λ a. each piece_of ts) (λ a rest. a ∷ rest) zs pieces us e in
    subst (PiecesFit p (core.owning st u args ∷ ts)) r.is (by (state_in st zs) refl r.a r.mid r.b r.one (λ words2. pieces_fit p ts h.1 r.mid us r.b words2 r.two))
  where
    by : (o : Option (ℕ × List ℤ)) → state_in st zs ≡ o → (a : Piece) (mid : List ℤ) (rest : List Piece) → host.then_reads (λ n. host.reads (host.new_in n)) o ≡ Some (a, mid) → (AreWords mid → PiecesFit p ts rest) →
        PiecesFit p (core.owning st u args ∷ ts) (a ∷ rest)
    by None q a mid rest e more = absurd (none-some (a, mid) e)
    by (Some x) q a mid rest e more =
        subst (λ (q : Piece × List ℤ). (AreWords q.1 → PiecesFit p ts rest) → PiecesFit p (core.owning st u args ∷ ts) (q.0 ∷ rest)) (same_Some (host.new_in x.0, x.1) (a, mid) e)
        (λ more. (h.0.1, more (Rattle.c_lower_runs.proofs.GlueSteps.state_left st (host.members st) zs x.1 x.0 q words))) more
pieces_fit p (core.tracked k u args ∷ ts) h zs us pieces words e = absurd h.0
pieces_fit p (core.guarded k u args ∷ ts) h zs us pieces words e = absurd h.0
pieces_fit p (core.variant u args ∷ ts) h zs us pieces words e = absurd h.0
pieces_fit p (core.owning_variant u args ∷ ts) h zs us pieces words e = absurd h.0

-- ---- what an answer says of a variant

record SaysCase (p : Program) (t : ℕ) (x : host.Result) : Type 0 where
  case : ℕ
  decl : CaseDecl
  at : slice_get (cases_of p t) case ≡ Some decl
  states : List ℕ
  pieces : List Piece
  is : case_with case states pieces ≡ x

record SaysFit (p : Program) (t : ℕ) (mid : List ℤ) (x : host.Result) : Type 0 where
  says : SaysCase p t x
  fit : AreWords mid → PiecesFit p says.decl.payload says.pieces

says_case : (p : Program) (gf : Func) (t : ℕ) (others : List ℕ) (given : IsVariantResult p gf t others) (mid us : List ℤ) (x : host.Result) → variant_read p t mid ≡ Some (x, us) → SaysFit p t mid x
says_case p gf t others given mid us x e = by (natural (λ c. nat_lt c (length (cases_of p t))) mid) refl e
  where
    by : (o : Option (ℕ × List ℤ)) → natural (λ c. nat_lt c (length (cases_of p t))) mid ≡ o → host.then_reads (λ c. case_read c (slice_get (cases_of p t) c)) o ≡ Some (x, us) → SaysFit p t mid x
    by None q e = absurd (none-some (x, us) e)
    by (Some (c, rest)) q e =
        let there = there_is (cases_of p t) c (natural_passes (λ c. nat_lt c (length (cases_of p t))) mid rest c q).passes in
        let d = there.element in
        let e2 : case_read c (Some d) rest ≡ Some (x, us) = subst (λ o. case_read c o rest ≡ Some (x, us)) there.at e in
        let r = parted (each host.key_state d.keys) (λ ns. each piece_of d.payload) (λ ns pieces. case_with c ns pieces) rest x us e2 in
        record {
          says = record { case = c; decl = d; at = there.at; states = r.a; pieces = r.b; is = r.is };
          fit = λ words. pieces_fit p d.payload (given.payloads c d there.at) r.mid us r.b
              (states_left (λ (k : CaseKey). k.states) d.keys rest r.mid r.a r.one (natural_left (λ c. nat_lt c (length (cases_of p t))) mid rest c q words)) r.two;
        }

-- ---- slots

-- a position after the first has a slot
record HasSlot (slots : List CVar) (j : ℕ) : Type 0 where
  slot : CVar
  at : slice_get slots j ≡ Some slot
  following : 1 ≤ j

slot_there : (slots : List CVar) (j : ℕ) → j < length slots → (v : CVar) × (slice_get slots j ≡ Some v)
slot_there [] j l = absurd (omega arith)
slot_there (v ∷ slots) zero l = (v, refl)
slot_there (v ∷ slots) (suc j) l = slot_there slots j (omega arith)

vars_long : (t : Numbers) (ss : List Sort) → length (vars_at t ss) ≡ length ss
vars_long t [] = refl
vars_long t (s ∷ ss) = ap suc (vars_long (past t s) ss)

sorts_long : (p : Program) (t : ℕ) → length (variant_sorts p t) ≡ suc (most_of is_number p t + most_of is_guarded p t + most_of is_owning p t)
sorts_long p t = ap suc
    (length-append (replicate (most_of is_number p t) of_number ++ replicate (most_of is_guarded p t) of_reference) (replicate (most_of is_owning p t) of_owner)
    ∙ ap (λ n. n + length (replicate (most_of is_owning p t) of_owner)) (length-append (replicate (most_of is_number p t) of_number) (replicate (most_of is_guarded p t) of_reference))
    ∙ ap (λ n. n + length (replicate (most_of is_guarded p t) of_reference) + length (replicate (most_of is_owning p t) of_owner)) (length_replicate (most_of is_number p t) of_number)
    ∙ ap (λ n. most_of is_number p t + n + length (replicate (most_of is_owning p t) of_owner)) (length_replicate (most_of is_guarded p t) of_reference)
    ∙ ap (λ n. most_of is_number p t + most_of is_guarded p t + n) (length_replicate (most_of is_owning p t) of_owner))

slots_there : (slots : List CVar) (js : List ℕ) (u : CVar) → Each (HasSlot slots) js → Each (Apart u) slots → Each (Apart u) (map (slot_at slots) js)
slots_there slots [] u h a = tt
slots_there slots (j ∷ js) u h a = (subst (Apart u) (sym (slot_is slots j h.0.slot h.0.at)) (each_at u slots j h.0.slot a h.0.at), slots_there slots js u h.1 a)

-- a slot at another place is none of these
others_there : (slots : List CVar) (js : List ℕ) (i : ℕ) (u : CVar) → AllApart slots → slice_get slots i ≡ Some u → Each (HasSlot slots) js → Each (λ j. i ≢ j) js → Each (Apart u) (map (slot_at slots) js)
others_there slots [] i u a at h e = tt
others_there slots (j ∷ js) i u a at h e =
    (subst (Apart u) (sym (slot_is slots j h.0.slot h.0.at)) (slots_differ slots i j u h.0.slot a at h.0.at e.0), others_there slots js i u a at h.1 e.1)

all_apart : (slots : List CVar) (js : List ℕ) → AllApart slots → Each (HasSlot slots) js → AllDiffer js → AllApart (map (slot_at slots) js)
all_apart slots [] a h d = tt
all_apart slots (j ∷ js) a h d =
    (subst (λ u. Each (Apart u) (map (slot_at slots) js)) (sym (slot_is slots j h.0.slot h.0.at)) (others_there slots js j h.0.slot a h.0.at h.1 d.0), all_apart slots js a h.1 d.1)

placed : (slots : List CVar) (js : List ℕ) (parts : List Part) (f : crun.Frame) → PartsStand (map (slot_at slots) js) parts f → Placed slots js parts f
placed slots [] [] f h = tt
placed slots [] (a ∷ parts) f h = absurd h
placed slots (j ∷ js) [] f h = absurd h
placed slots (j ∷ js) (a ∷ parts) f h = (h.0, placed slots js parts f h.1)

not_in : (js : List ℕ) (i : ℕ) → has js i ≡ false → Each (λ j. i ≢ j) js
not_in [] i e = tt
not_in (j ∷ js) i e = ((λ same. absurd (false≢true (sym (or_first (j == i) (has js i) e) ∙ eq-eqb j i (sym same)))), not_in js i (or_last (j == i) (has js i) e))
  where
    or_first : (a b : Bool) → (a || b) ≡ false → a ≡ false
    or_first true b e = e
    or_first false b e = refl

    or_last : (a b : Bool) → (a || b) ≡ false → b ≡ false
    or_last true b e = absurd (false≢true (sym e))
    or_last false b e = e

-- ---- numbers in their slots keep a frame's other parts

module _ (R : crun.Setup) (cm : crun.Meaning) where
  pieces_depth : (vs : List (CVar × Ty)) (pieces : List Piece) (f : crun.Frame) → (reading.with_pieces R cm vs pieces f).depth ≡ f.depth
  pieces_depth [] pieces f = refl
  pieces_depth (v ∷ vs) [] f = refl
  pieces_depth (v ∷ vs) (host.plain z ∷ rest) f = pieces_depth vs rest (crun.with_var v.0 (cw.number z) f)
  pieces_depth (v ∷ vs) (host.new_in s ∷ rest) f = pieces_depth vs rest f

  pieces_glue : (vs : List (CVar × Ty)) (pieces : List Piece) (f : crun.Frame) → (reading.with_pieces R cm vs pieces f).is_glue ≡ f.is_glue
  pieces_glue [] pieces f = refl
  pieces_glue (v ∷ vs) [] f = refl
  pieces_glue (v ∷ vs) (host.plain z ∷ rest) f = pieces_glue vs rest (crun.with_var v.0 (cw.number z) f)
  pieces_glue (v ∷ vs) (host.new_in s ∷ rest) f = pieces_glue vs rest f

-- ---- objects of a case's keys

-- objects that become loose, one after another
abbrev loose_all : List ℕ → List (ℕ × Owner)
loose_all ns = map (λ n. (n, loose)) ns

loose_free : (R : crun.Setup) (cm : crun.Meaning) (p : Program) (ns : List ℕ) → moving.AreFreeOwners R cm p (loose_all ns)
loose_free R cm p [] = tt
loose_free R cm p (n ∷ ns) = (record { above = refl; out = refl; live = refl }, loose_free R cm p ns)

loose_come : (R : crun.Setup) (cm : crun.Meaning) (p : Program) (ns : List ℕ) (os : List Object) → moving.come_all R cm p (loose_all ns) os ≡ objects_after_move is_out loose ns os
loose_come R cm p [] os = refl
loose_come R cm p (n ∷ ns) os = by (owned_at is_out os n) (λ os. loose_come R cm p ns os)
  where
    by : (r : Found Named) → ((os : List Object) → moving.come_all R cm p (loose_all ns) os ≡ objects_after_move is_out loose ns os) →
        found.◌>>=◌ (found.◌>>=◌ r (λ m. Ok (with_changed_object n (with_owner loose) os))) (moving.come_all R cm p (loose_all ns))
        ≡ found.◌>>=◌ r (λ m. objects_after_move is_out loose ns (with_changed_object n (with_owner loose) os))
    by (Ok m) more = more (with_changed_object n (with_owner loose) os)
    by (Err o) more = refl

loose_numbers : (ns : List ℕ) → map (λ (q : ℕ × Owner). q.0) (loose_all ns) ≡ ns
loose_numbers [] = refl
loose_numbers (n ∷ ns) = ap (λ ms. n ∷ ms) (loose_numbers ns)

-- a key that is handed over is in its slot
pub record KeyThere (p : Program) (gf : Func) (keys : List ℕ) (s : source.Frame) (G : crun.Frame) (k : ℕ) : Type 0 where
  pub number : ℕ
  pub names : option_and_then s.keys (slice_get keys k) ≡ Some number
  pub at : G.vars (key_slot p gf k) ≡ Some (cw.reference (Some number))
  pub below : IsBelow (first_temps p gf) (key_slot p gf k)

abbrev pub KeysThere : Program → Func → List ℕ → source.Frame → crun.Frame → Type 0
KeysThere p gf keys s G = (k : ℕ) → KeyParameter gf k → KeyThere p gf keys s G k

module _ (p : Program) (R : crun.Setup) (cm : crun.Meaning) (enough : RegistersSuffice p) (gf : Func) (keys : List ℕ) (s : source.Frame) (args : List source.Value) (G : crun.Frame)
    (t : ℕ) (others : List ℕ) (given : IsVariantResult p gf t others) (there : KeysThere p gf keys s G) where
  abbrev temps : Numbers
  temps = first_temps p gf

  abbrev slots : List CVar
  slots = vars_at temps (variant_sorts p t)

  abbrev v : CVar
  v = var_at temps of_number

  abbrev cleared : crun.Frame
  cleared = clear_all slots G

  abbrev to_case : Option CaseDecl → ℕ → List Piece → crun.Frame
  to_case None c pieces = cleared
  to_case (Some d) c pieces = reading.with_pieces R cm (payloads p t slots (c, d)) pieces (crun.with_var v (cw.number (pos c)) cleared)

  abbrev to_frame : host.Result → crun.Frame
  to_frame (case_with c states pieces) = to_case (slice_get (cases_of p t) c) c pieces
  to_frame x = cleared

  abbrev slots_of_case : ℕ → List CVar
  slots_of_case c = map (slot_at slots) (case_positions p t c)

  positions_there : (c : ℕ) (d : CaseDecl) → slice_get (cases_of p t) c ≡ Some d → Each (HasSlot slots) (case_positions p t c)
  positions_there c d at =
      subst (λ o. Each (HasSlot slots) (payload_positions (variant_starts p t) (payload_in o))) (sym at)
      (each_map (Lies (variant_starts p t) (numbers p t c d at) (references p t c d at) (owners p t c d at)) (HasSlot slots) (payload_positions (variant_starts p t) d.payload) lies
      (positions_lie d.payload (variant_starts p t) (numbers p t c d at) (references p t c d at) (owners p t c d at) (given_payloads p d.payload (given.payloads c d at)) (inside p t c d at)))
    where
      long : length slots ≡ suc (most_of is_number p t + most_of is_guarded p t + most_of is_owning p t)
      long = vars_long temps (variant_sorts p t) ∙ sorts_long p t

      has_slot : (j : ℕ) → 1 ≤ j → j < length slots → HasSlot slots j
      has_slot j l m = let q = slot_there slots j m in record { slot = q.0; at = q.1; following = l }

      lies : (j : ℕ) → Lies (variant_starts p t) (numbers p t c d at) (references p t c d at) (owners p t c d at) j → HasSlot slots j
      lies j (inl x) = let a = x.from in let b = x.below in let l = long in has_slot j (omega arith) (omega arith)
      lies j (inr (inl x)) = let a = x.from in let b = x.below in let l = long in has_slot j (omega arith) (omega arith)
      lies j (inr (inr x)) = let a = x.from in let b = x.below in let l = long in has_slot j (omega arith) (omega arith)

  positions_apart : (c : ℕ) (d : CaseDecl) → slice_get (cases_of p t) c ≡ Some d → AllApart (slots_of_case c)
  positions_apart c d at =
      all_apart slots (case_positions p t c) (slots_apart temps (variant_sorts p t)) (positions_there c d at)
      (subst (λ o. AllDiffer (payload_positions (variant_starts p t) (payload_in o))) (sym at)
      (positions_differ d.payload (variant_starts p t) (numbers p t c d at) (references p t c d at) (owners p t c d at) (given_payloads p d.payload (given.payloads c d at)) (inside p t c d at)))

  slots_long : (c : ℕ) (d : CaseDecl) → slice_get (cases_of p t) c ≡ Some d → length (slots_of_case c) ≡ length d.payload
  slots_long c d at = map_long (slot_at slots) (case_positions p t c) ∙ ap (λ o. length (payload_positions (variant_starts p t) (payload_in o))) at ∙ positions_long d.payload (variant_starts p t)

  -- the slot of the case's number is none of the payloads'
  case_apart : (c : ℕ) (d : CaseDecl) → slice_get (cases_of p t) c ≡ Some d → Each (Apart v) (slots_of_case c)
  case_apart c d at =
      others_there slots (case_positions p t c) 0 v (slots_apart temps (variant_sorts p t)) refl (positions_there c d at)
      (each_map (HasSlot slots) (λ j. 0 ≢ j) (case_positions p t c) (λ j h e. let l = h.following in absurd (omega arith)) (positions_there c d at))

  to_is : (c : ℕ) (d : CaseDecl) (states : List ℕ) (pieces : List Piece) → slice_get (cases_of p t) c ≡ Some d →
      to_frame (case_with c states pieces) ≡ reading.with_pieces R cm (payloads p t slots (c, d)) pieces (crun.with_var v (cw.number (pos c)) cleared)
  to_is c d states pieces at = ap (λ o. to_case o c pieces) at

  -- only slots have changed
  case_kept : (o : Option CaseDecl) (c : ℕ) (pieces : List Piece) → slice_get (cases_of p t) c ≡ o → (u : CVar) → Each (Apart u) slots → (to_case o c pieces).vars u ≡ G.vars u
  case_kept None c pieces at u h = clear_kept slots G u h
  case_kept (Some d) c pieces at u h =
      pieces_kept R cm (slots_of_case c) d.payload pieces (crun.with_var v (cw.number (pos c)) cleared) u (slots_there slots (case_positions p t c) u (positions_there c d at) h)
      ∙ var_kept v (cw.number (pos c)) u cleared h.0 ∙ clear_kept slots G u h

  case_depth : (o : Option CaseDecl) (c : ℕ) (pieces : List Piece) → (to_case o c pieces).depth ≡ G.depth
  case_depth None c pieces = clear_depth slots G
  case_depth (Some d) c pieces = pieces_depth R cm (payloads p t slots (c, d)) pieces (crun.with_var v (cw.number (pos c)) cleared) ∙ clear_depth slots G

  case_glue : (o : Option CaseDecl) (c : ℕ) (pieces : List Piece) → (to_case o c pieces).is_glue ≡ G.is_glue
  case_glue None c pieces = clear_glue slots G
  case_glue (Some d) c pieces = pieces_glue R cm (payloads p t slots (c, d)) pieces (crun.with_var v (cw.number (pos c)) cleared) ∙ clear_glue slots G

  cleared_alike : AreAlike temps G cleared
  cleared_alike = temps_alike temps (variant_sorts p t) G cleared (up_self temps) (λ u h. clear_kept slots G u h) (clear_depth slots G) (clear_glue slots G)

  frame_alike : (x : host.Result) → AreAlike temps G (to_frame x)
  frame_alike (case_with c states pieces) =
      temps_alike temps (variant_sorts p t) G (to_case (slice_get (cases_of p t) c) c pieces) (up_self temps) (λ u h. case_kept (slice_get (cases_of p t) c) c pieces refl u h)
      (case_depth (slice_get (cases_of p t) c) c pieces) (case_glue (slice_get (cases_of p t) c) c pieces)
  frame_alike host.nothing = cleared_alike
  frame_alike (host.piece x) = cleared_alike

  -- the number of the case
  case_number : (c : ℕ) (d : CaseDecl) (states : List ℕ) (pieces : List Piece) → slice_get (cases_of p t) c ≡ Some d → (to_frame (case_with c states pieces)).vars v ≡ Some (cw.number (pos c))
  case_number c d states pieces at =
      ap (λ f. f.vars v) (to_is c d states pieces at)
      ∙ pieces_kept R cm (slots_of_case c) d.payload pieces (crun.with_var v (cw.number (pos c)) cleared) v (case_apart c d at) ∙ var_set v (cw.number (pos c)) cleared

  -- ---- objects that come back

  record BackFor (ks : List CaseKey) : Type 0 where
    numbers : List ℕ
    is : objects_of_keys keys s (filter_map (λ (k : CaseKey). option_map (λ j. (let x : KeyIn = record { key = j; states = k.states } in x)) (slice_get others k.position)) ks) ≡ numbers
    refer : Refer (map (λ (k : CaseKey). key_slot p gf (key_in others k.position)) ks) numbers G
    below : Each (IsBelow temps) (map (λ (k : CaseKey). key_slot p gf (key_in others k.position)) ks)

  back_for : (ks : List CaseKey) → Each (IsGivenKey gf others) ks → BackFor ks
  back_for [] h = record { numbers = []; is = refl; refer = tt; below = tt }
  back_for (k ∷ ks) h =
      let rest = back_for ks h.1 in
      let key = there h.0.key h.0.parameter in
      let at = h.0.at in
      let names = key.names in
      record {
        numbers = key.number ∷ rest.numbers;
        is = rw (at, names) (ap (λ ns. key.number ∷ ns) rest.is);
        refer = rw at (key.at, rest.refer);
        below = rw at (key.below, rest.below);
      }

  refer_alike : (vs : List CVar) (ns : List ℕ) (f g : crun.Frame) → AreAlike temps f g → Each (IsBelow temps) vs → Refer vs ns f → Refer vs ns g
  refer_alike [] [] f g a b h = tt
  refer_alike [] (n ∷ ns) f g a b h = absurd h
  refer_alike (u ∷ vs) [] f g a b h = absurd h
  refer_alike (u ∷ vs) (n ∷ ns) f g a b h = (sym (a.vars u b.0) ∙ h.0, refer_alike vs ns f g a b.1 h.1)

  map_twice : (ks : List CaseKey) →
      map (λ u. runtime_call prim.Back (syntax.variable u ∷ [])) (map (λ (k : CaseKey). key_slot p gf (key_in others k.position)) ks) ≡ map (λ (k : CaseKey). runtime_call prim.Back (syntax.variable (key_slot p gf (key_in others k.position)) ∷ [])) ks
  map_twice [] = refl
  map_twice (k ∷ ks) = ap (λ ys. runtime_call prim.Back (syntax.variable (key_slot p gf (key_in others k.position)) ∷ []) ∷ ys) (map_twice ks)

  abbrev IsVariantOf : Type 0
  IsVariantOf = variant_in gf.result ≡ Some (let x : VariantOf = record { type = t; args = others } in x)

  objects_are : IsVariantOf → (c : ℕ) (d : CaseDecl) (states : List ℕ) (pieces : List Piece) → (at : slice_get (cases_of p t) c ≡ Some d) →
      case_objects p gf keys s (case_with c states pieces) ≡ (back_for d.keys (given.keys c d at)).numbers
  objects_are e c d states pieces at =
      ap (λ o. objects_of_keys keys s (ext.keys_of_case p o (case_with c states pieces))) e
      ∙ ap (λ o. objects_of_keys keys s (keys_in others o)) at ∙ (back_for d.keys (given.keys c d at)).is

  -- the objects of the case's keys come back
  backs_of_case : IsVariantOf → (x : host.Result) → SaysCase p t x → (w : cw.World) (zs : List ℤ) (os : List Object) →
      moving.BacksTo R cm p (per_case (cases_of p t) v (case_keys_back p gf others)) (to_frame x) w zs os (objects_after_move is_out loose (case_objects p gf keys s x) os)
  backs_of_case e x says w zs os =
      subst (λ x. moving.BacksTo R cm p (per_case (cases_of p t) v (case_keys_back p gf others)) (to_frame x) w zs os (objects_after_move is_out loose (case_objects p gf keys s x) os)) says.is
      (subst (λ ns. moving.BacksTo R cm p (per_case (cases_of p t) v (case_keys_back p gf others)) f w zs os (objects_after_move is_out loose ns os)) (sym (objects_are e says.case says.decl says.states says.pieces says.at))
      (by (objects_after_move is_out loose back.numbers os) one))
    where
      f : crun.Frame
      f = to_frame (case_with says.case says.states says.pieces)

      back : BackFor says.decl.keys
      back = back_for says.decl.keys (given.keys says.case says.decl says.at)

      code : List Stmt
      code = case_keys_back p gf others (says.case, says.decl)

      one : moving.BacksTo R cm p code f w zs os (objects_after_move is_out loose back.numbers os)
      one =
          subst (λ r. moving.BacksTo R cm p code f w zs os r) (loose_come R cm p back.numbers os)
          (subst (λ xs. moving.BacksTo R cm p xs f w zs os (moving.come_all R cm p (loose_all back.numbers) os)) (map_twice says.decl.keys)
          (backs_run R cm p (map (λ (k : CaseKey). key_slot p gf (key_in others k.position)) says.decl.keys) (loose_all back.numbers) f w zs os
          (subst (λ ns. Refer (map (λ (k : CaseKey). key_slot p gf (key_in others k.position)) says.decl.keys) ns f) (sym (loose_numbers back.numbers))
          (refer_alike (map (λ (k : CaseKey). key_slot p gf (key_in others k.position)) says.decl.keys) back.numbers G f (frame_alike (case_with says.case says.states says.pieces)) back.below back.refer))
          (loose_free R cm p back.numbers)))

      number : f.vars v ≡ Some (cw.number (pos says.case))
      number = case_number says.case says.decl says.states says.pieces says.at

      by : (r : Found (List Object)) → moving.BacksTo R cm p code f w zs os r → moving.BacksTo R cm p (per_case (cases_of p t) v (case_keys_back p gf others)) f w zs os r
      by (Ok after) h = per_case_goes R cm v (case_keys_back p gf others) (cases_of p t) says.case says.decl f f (left_to_read (with_blocks p w os) zs) (left_to_read (with_blocks p w after) zs) says.at number refl h
      by (Err o) off = record {
        world = off.world;
        runs = per_case_stops R cm v (case_keys_back p gf others) (cases_of p t) says.case says.decl f (left_to_read (with_blocks p w os) zs) off.world (cw.bad_answer w.taken) says.at number off.runs;
        events = off.events;
        fuel = off.fuel;
      }

  -- ---- the value

  abbrev ty_of : Bool → Ty
  ty_of true = core.owning_variant t others
  ty_of false = core.variant t others

  finish_variant : (b : Bool) → gf.result ≡ Some (ty_of b) → (c : ℕ) (parts : List Part) (ns : List ℕ) (f : crun.Frame) (w w2 : source.World) (regs : Registers) → IsCase p (types_of w2.objects) t (of_case c parts ns) →
      HaveValues slots (variant_values p t c parts) f → AreRegisters regs → AreShaped p w2.objects → Rattle.c_lower_worlds.proofs.LaterShapes.Later (types_of w.objects) (types_of w2.objects) → w2.fuel ≡ w.fuel → (IsFed w.input w.answers → IsFed w2.input w2.answers) → (i : ℕ) →
      Gave p gf (Some (of_case c parts ns)) s s w w2 (does_stmts R cm i (stmts_made (return_stmts (Some (ty_of b)) (map variable slots))) f (c_world p regs w2))
  finish_variant true e c parts ns f w w2 regs shape have are shaped later fuel fed i = finish p R cm enough gf keys s args G (core.owning_variant t others) e (of_case c parts ns) f w w2 regs shape have are shaped later fuel fed i
  finish_variant false e c parts ns f w w2 regs shape have are shaped later fuel fed i = finish p R cm enough gf keys s args G (core.variant t others) e (of_case c parts ns) f w w2 regs shape have are shaped later fuel fed i

  result_is : (b : Bool) → gf.result ≡ Some (ty_of b) → IsVariantOf
  result_is true e = ap variant_in e
  result_is false e = ap variant_in e

  -- no keys, no objects of keys
  bare_objects : IsVariantOf → (c : ℕ) (d : CaseDecl) (states : List ℕ) (pieces : List Piece) → slice_get (cases_of p t) c ≡ Some d → d.keys ≡ [] → case_objects p gf keys s (case_with c states pieces) ≡ []
  bare_objects e c d states pieces at none =
      ap (λ o. objects_of_keys keys s (ext.keys_of_case p o (case_with c states pieces))) e
      ∙ ap (λ o. objects_of_keys keys s (keys_in others o)) at
      ∙ ap (λ ks. objects_of_keys keys s (filter_map (λ (k : CaseKey). option_map (λ j. (let x : KeyIn = record { key = j; states = k.states } in x)) (slice_get others k.position)) ks)) none

  abbrev given_code : Bool → List Stmt
  given_code b = return_stmts (Some (ty_of b)) (map variable slots)

  made_of : (b : Bool) → gf.result ≡ Some (ty_of b) → (all : List ℕ) (x : host.Result) (says : SaysCase p t x) → PiecesFit p says.decl.payload says.pieces → (w : source.World) (regs : Registers) → AreShaped p w.objects → AreRegisters regs → (i : ℕ) →
      Glued p gf s w (λ go. with_result R.heap p gf keys all x s w go) (does_stmts R cm i (stmts_made (per_case (cases_of p t) v (glue.case_objects p t slots) ++ given_code b)) (to_frame x) (c_world p regs w))
  unfolding with_result step.with_found
  made_of b e all x says fit w regs shaped are i =
      subst (λ x. Glued p gf s w (λ go. with_result R.heap p gf keys all x s w go) (does_stmts R cm i (stmts_made (per_case (cases_of p t) v (glue.case_objects p t slots) ++ given_code b)) (to_frame x) (c_world p regs w))) says.is
      (by (pieces_made p R cm regs vs d.payload says.pieces f w (slots_long c d says.at) (positions_apart c d says.at) fit
      (subst (λ g. Rattle.c_lower_runs.proofs.AnswerPieces.NumbersStand vs says.pieces g) (sym (to_is c d says.states says.pieces says.at))
      (numbers_stand R cm p vs d.payload says.pieces (crun.with_var v (cw.number (pos c)) cleared) (positions_apart c d says.at) fit)) shaped))
    where
      c : ℕ
      c = says.case

      d : CaseDecl
      d = says.decl

      f : crun.Frame
      f = to_frame (case_with c says.states says.pieces)

      vs : List CVar
      vs = slots_of_case c

      ns : List ℕ
      ns = case_objects p gf keys s (case_with c says.states says.pieces)

      objects : List Stmt
      objects = per_case (cases_of p t) v (glue.case_objects p t slots)

      source_is : (go : Option source.Value → source.Frame → source.World → step.Step) → with_result R.heap p gf keys all (case_with c says.states says.pieces) s w go ≡
          ext.with_pieces R.heap d.payload says.pieces w (λ parts w. go (Some (of_case c parts ns)) s w)
      source_is go = rw (result_is b e, says.at) refl

      by : AllMade p R cm regs vs d.payload says.pieces f w ⊎ HeapEnded p R cm regs vs d.payload says.pieces f w →
          Glued p gf s w (λ go. with_result R.heap p gf keys all (case_with c says.states says.pieces) s w go) (does_stmts R cm i (stmts_made (objects ++ given_code b)) f (c_world p regs w))
      by (inr h) = inl (record {
        outcome = source.heap_end;
        world = h.w2;
        is = λ go. source_is go ∙ h.is (λ parts w. go (Some (of_case c parts ns)) s w);
        ended = record {
          world = c_world p regs h.w2;
          is = stops_there R cm objects (given_code b) f (c_world p regs w) (c_world p regs h.w2) cw.heap_end
              (per_case_stops R cm v (glue.case_objects p t slots) (cases_of p t) c d f (c_world p regs w) (c_world p regs h.w2) cw.heap_end says.at (case_number c d says.states says.pieces says.at) h.runs) i;
          events = refl;
          fuel = refl;
        };
      })
      by (inl h) =
          let number : h.to.vars v ≡ Some (cw.number (pos c)) = h.kept v (case_apart c d says.at) ∙ case_number c d says.states says.pieces says.at in
          let g = finish_variant b e c h.parts ns h.to w h.w2 regs
          (record { case = c; decl = d; parts = h.parts; keys = ns; is = refl; declared = says.at; shape = h.shapes; bare = λ none. bare_objects (result_is b e) c d says.states says.pieces says.at none }) (
            number,
            have_places slots (case_positions p t c) h.parts h.to (after_first (variant_sorts p t)) (after_first slots) 1 (placed slots (case_positions p t c) h.parts h.to h.stand)
                (vars_long (past temps of_number) (after_first (variant_sorts p t))) (λ m u q. slot_is slots (1 + m) u (next m u q)) (λ m u st q r out. free h m u st q r out),
          )
          are h.shaped h.later h.fuel h.fed (i + count_in (stmts_made objects)) in
          inr (record {
            a = Some (of_case c h.parts ns);
            s2 = s;
            w2 = h.w2;
            is = λ go. source_is go ∙ h.is (λ parts w. go (Some (of_case c parts ns)) s w);
            gave = record {
              value = g.value;
              registers = g.registers;
              is = goes_on R cm objects (given_code b) f h.to (c_world p regs w) (c_world p regs h.w2)
                  (per_case_goes R cm v (glue.case_objects p t slots) (cases_of p t) c d f h.to (c_world p regs w) (c_world p regs h.w2) says.at (case_number c d says.states says.pieces says.at) (h.kept v (case_apart c d says.at)) h.runs) i ∙ g.is;
              gives = g.gives;
              later = g.later;
              shaped = g.shaped;
              are = g.are;
              fuel = g.fuel;
              fed = g.fed;
              vars = g.vars;
              depth = g.depth;
            };
          })
        where
          one : (m : ℕ) → 1 + m ≡ suc m
          one m = omega arith

          next : (m : ℕ) (u : CVar) → slice_get (after_first slots) m ≡ Some u → slice_get slots (1 + m) ≡ Some u
          next m u q = ap (slice_get slots) (one m) ∙ q

          free : (h : AllMade p R cm regs vs d.payload says.pieces f w) (m : ℕ) (u : CVar) (st : Sort) → slice_get (after_first slots) m ≡ Some u → slice_get (after_first (variant_sorts p t)) m ≡ Some st →
              has (case_positions p t c) (1 + m) ≡ false → h.to.vars u ≡ Some (unused st)
          free h m u st q r out =
              let apart = others_there slots (case_positions p t c) (1 + m) u (slots_apart temps (variant_sorts p t)) (next m u q) (positions_there c d says.at) (not_in (case_positions p t c) (1 + m) out) in
              let first : Apart u v = apart_back v u (slots_differ slots 0 (1 + m) v u (slots_apart temps (variant_sorts p t)) refl (next m u q) (λ z. absurd (omega arith))) in
              h.kept u apart ∙ ap (λ f. f.vars u) (to_is c d says.states says.pieces says.at)
              ∙ pieces_kept R cm vs d.payload says.pieces (crun.with_var v (cw.number (pos c)) cleared) u apart
              ∙ var_kept v (cw.number (pos c)) u cleared first
              ∙ cleared_at temps (variant_sorts p t) G (suc m) u st q r

  -- ---- the parts

  clears_there : (w : cw.World) → Runs R cm (map glue.clear slots) G w (goes cleared w)
  clears_there w = clears_run R cm slots G w

  numbers_there : reading.Reads R cm (variant_code p gf t others slots).numbers cleared to_frame (variant_read p t)
  numbers_there =
      variant_reads p R cm t slots v given.few
      (λ c d at. each_map (IsGivenKey gf others) (λ (k : CaseKey). IsProper k.states) d.keys (λ k h. h.proper) (given.keys c d at))
      (λ c d at. given_answered R cm p d.payload (given.payloads c d at)) slots_long case_apart cleared to_frame to_is

  pub variant_parts : gf.result ≡ Some (core.variant t others) → ResultParts p R cm enough gf keys s args G (Some (core.variant t others))
  variant_parts e = record {
    cleared = cleared;
    to = to_frame;
    alike = cleared_alike;
    alike_to = frame_alike;
    clears = clears_there;
    numbers = numbers_there;
    backs = λ x mid us q w zs os. backs_of_case (result_is false e) x (says_case p gf t others given mid us x q).says w zs os;
    made = λ states x mid us long words q w regs shaped are i. let r = says_case p gf t others given mid us x q in made_of false e states x r.says (r.fit words) w regs shaped are i;
  }

  pub owning_variant_parts : gf.result ≡ Some (core.owning_variant t others) → ResultParts p R cm enough gf keys s args G (Some (core.owning_variant t others))
  owning_variant_parts e = record {
    cleared = cleared;
    to = to_frame;
    alike = cleared_alike;
    alike_to = frame_alike;
    clears = clears_there;
    numbers = numbers_there;
    backs = λ x mid us q w zs os. backs_of_case (result_is true e) x (says_case p gf t others given mid us x q).says w zs os;
    made = λ states x mid us long words q w regs shaped are i. let r = says_case p gf t others given mid us x q in made_of true e states x r.says (r.fit words) w regs shaped are i;
  }
