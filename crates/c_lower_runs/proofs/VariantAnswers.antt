-- The numbers of an answer that gives a variant: its case, and then the states of the case's keys and its payloads.
use Rattle.std.proofs.Common.{◌≡◌, ◌≤◌, ◌<◌, ℕ, zero, suc, ◌+◌, nat_lt, Bool, true, false, if◌then◌else◌, ℤ, pos, negsuc, List, [], ◌∷◌, ◌++◌, map, filter, length, Option, Some, None, slice_get, refl, sym, ap, ◌∙◌, subst, arith}
use Rattle.std.proofs.lemmas.Bool.Decides.{nat_tests}
use Rattle.std.specs.List.{flat_map, range_with_len}
use Rattle.std.proofs.lemmas.Option.{none-some, same_Some}
use Rattle.vlt_core.specs.Core.{CaseKey, CaseDecl, Program}
use Rattle.vlt_core.specs.Lookups.{cases_of}
use Rattle.vlt_meaning.specs.HostAnswers as host
use Rattle.vlt_meaning.specs.HostAnswers.{natural, each, piece_of, case_read, variant_read, case_with, Piece}
use Rattle.c_syntax.specs.declared.program.CVar.{CVar}
use Rattle.c_syntax.specs.declared.program.CPrim.TheVariants as prim
use Rattle.c_syntax.specs.C.{Stmt}
use Rattle.c_meaning.specs.World as cw
use Rattle.c_meaning.specs.Run as crun
use Rattle.c_meaning.specs.Run.{goes, stops}
use Rattle.c_lower.specs.Statements.{runtime_value, case_positions}
use Rattle.c_lower.specs.Glue.{mask, per_case, case_numbers, payloads, slot_at, payload_number, pick_state}
use Rattle.c_lower_worlds.specs.Naming.Lists.{Each}
use Rattle.c_lower_worlds.proofs.FrameChanges.{var_set}
use Rattle.c_lower_runs.proofs.StateMasks.{is_among}
use Rattle.c_lower_runs.proofs.PerCase.{per_case_goes, per_case_stops}
use Rattle.c_lower_runs.proofs.AnswerPieces.{pieces_kept}
use Rattle.c_lower_runs.proofs.AnswerReading as reading
use Rattle.c_lower_runs.proofs.AnswerReading.{left_to_read, Reads, ReadsTo, both_read, natural_into, pieces_read, AreAnswered, IsProper}
use Rattle.c_lower_runs.proofs.GlueSteps.{parted, states_read}
use Rattle.c_lower_worlds.proofs.StatementLists.{Runs, runs_then, stops_there}
use Rattle.c_lower_worlds.proofs.VariableSlots.{Apart}

all_pass : (test : ℕ → Bool) (n b : ℕ) → ((i : ℕ) → i < b + n → test i ≡ true) → range_with_len b n ≡ filter test (range_with_len b n)
all_pass test zero b h = refl
all_pass test (suc n) b h =
    ap (λ xs. b ∷ xs) (all_pass test n (b + 1) (λ i l. h i (omega arith)))
    ∙ ap (λ (c : Bool). if c then b ∷ filter test (range_with_len (b + 1) n) else filter test (range_with_len (b + 1) n)) (sym (h b (omega arith)))

-- what was read of a number passes the test
pub record IsNatural (test : ℕ → Bool) (c : ℕ) : Type 0 where
  pub passes : test c ≡ true

pub natural_passes : (test : ℕ → Bool) (zs us : List ℤ) (c : ℕ) → natural test zs ≡ Some (c, us) → IsNatural test c
natural_passes test [] us c e = absurd (none-some (c, us) e)
natural_passes test (negsuc k ∷ zs) us c e = absurd (none-some (c, us) e)
natural_passes test (pos k ∷ zs) us c e = by (test k) refl e
  where
    by : (b : Bool) → test k ≡ b → (let o : Option (ℕ × List ℤ) = if b then Some (k, zs) else None in o ≡ Some (c, us)) → IsNatural test c
    by true q e = record { passes = ap test (sym (ap (λ (q : ℕ × List ℤ). q.0) (same_Some (k, zs) (c, us) e))) ∙ q }
    by false q e = absurd (none-some (c, us) e)

pub record There {A : Type 0} (xs : List A) (i : ℕ) : Type 0 where
  pub element : A
  pub at : slice_get xs i ≡ Some element

pub there_is : {A : Type 0} (xs : List A) (i : ℕ) → nat_lt i (length xs) ≡ true → There xs i
there_is [] i e = absurd (none i e)
  where
    none : (i : ℕ) → nat_lt i 0 ≡ true → ⊥
    none i e = grind (arith, nat_tests)
there_is (x ∷ xs) zero e = record { element = x; at = refl }
there_is (x ∷ xs) (suc i) e = let r = there_is xs i (grind (arith, nat_tests)) in record { element = r.element; at = r.at }

module _ (p : Program) (R : crun.Setup) (cm : crun.Meaning) (t : ℕ) (slots : List CVar) (v : CVar) (few : length (cases_of p t) ≤ 32)
    (proper : (c : ℕ) (d : CaseDecl) → slice_get (cases_of p t) c ≡ Some d → Each (λ (k : CaseKey). IsProper k.states) d.keys)
    (answered : (c : ℕ) (d : CaseDecl) → slice_get (cases_of p t) c ≡ Some d → AreAnswered R cm d.payload)
    (long : (c : ℕ) (d : CaseDecl) → slice_get (cases_of p t) c ≡ Some d → length (map (slot_at slots) (case_positions p t c)) ≡ length d.payload)
    (apart : (c : ℕ) (d : CaseDecl) → slice_get (cases_of p t) c ≡ Some d → Each (Apart v) (map (slot_at slots) (case_positions p t c)))
    (f : crun.Frame) (to : host.Result → crun.Frame)
    (to_is : (c : ℕ) (d : CaseDecl) (states : List ℕ) (pieces : List Piece) → slice_get (cases_of p t) c ≡ Some d →
    to (case_with c states pieces) ≡ reading.with_pieces R cm (payloads p t slots (c, d)) pieces (crun.with_var v (cw.number (pos c)) f)) where
  abbrev test : ℕ → Bool
  test c = nat_lt c (length (cases_of p t))

  is_case : (i : ℕ) → Rattle.c_meaning.specs.Primitives.is_bit_of (pos (Rattle.std.specs.List.sum_by (λ n. Rattle.std.specs.Prelude.◌^◌ 2 n) (range_with_len 0 (length (cases_of p t))))) (pos i) ≡ test i
  is_case i = is_among test (length (cases_of p t)) (range_with_len 0 (length (cases_of p t)))
      (all_pass test (length (cases_of p t)) 0 (λ i l. grind (arith, nat_tests))) i (omega arith) (λ j e. grind (arith, nat_tests))

  abbrev pub picks : List Stmt
  picks = runtime_value v prim.Pick (mask (range_with_len 0 (length (cases_of p t))) ∷ []) ∷ []

  abbrev pub rest : List Stmt
  rest = per_case (cases_of p t) v (case_numbers p t slots)

  -- the numbers of one case
  case_reads : (c : ℕ) (d : CaseDecl) → slice_get (cases_of p t) c ≡ Some d → (w : cw.World) (us : List ℤ) →
      ReadsTo R cm rest (crun.with_var v (cw.number (pos c)) f) w us to (case_read c (Some d) us)
  case_reads c d at w us = by (case_read c (Some d) us) refl (one.at w us)
    where
      g : crun.Frame
      g = crun.with_var v (cw.number (pos c)) f

      one : Reads R cm (case_numbers p t slots (c, d)) g to (case_read c (Some d))
      one =
          both_read R cm (flat_map (λ (k : CaseKey). pick_state k.states) d.keys) (flat_map (λ x. payload_number x.0 x.1) (payloads p t slots (c, d))) g (λ ns. g)
          (λ ns pieces. reading.with_pieces R cm (payloads p t slots (c, d)) pieces g) to (each host.key_state d.keys) (λ ns. each piece_of d.payload) (λ ns pieces. case_with c ns pieces)
          (states_read R cm (λ (k : CaseKey). k.states) d.keys g (proper c d at))
          (λ ns. pieces_read R cm (map (slot_at slots) (case_positions p t c)) d.payload g (answered c d at) (long c d at)) (λ ns pieces. to_is c d ns pieces at)

      kept : (x : host.Result) (vs : List ℤ) → case_read c (Some d) us ≡ Some (x, vs) → (to x).vars v ≡ g.vars v
      kept x vs e =
          let r = parted (each host.key_state d.keys) (λ ns. each piece_of d.payload) (λ ns pieces. case_with c ns pieces) us x vs e in
          ap (λ x. (to x).vars v) (sym r.is) ∙ ap (λ h. h.vars v) (to_is c d r.a r.b at) ∙ pieces_kept R cm (map (slot_at slots) (case_positions p t c)) d.payload r.b g v (apart c d at)

      by : (r : Option (host.Result × List ℤ)) → case_read c (Some d) us ≡ r → ReadsTo R cm (case_numbers p t slots (c, d)) g w us to r → ReadsTo R cm rest g w us to r
      by None e off = record {
        world = off.world;
        runs = per_case_stops R cm v (case_numbers p t slots) (cases_of p t) c d g (left_to_read w us) off.world (cw.bad_answer w.taken) at (var_set v (cw.number (pos c)) f) off.runs;
        events = off.events;
        fuel = off.fuel;
      }
      by (Some q) e on =
          per_case_goes R cm v (case_numbers p t slots) (cases_of p t) c d g (to q.0) (left_to_read w us) (left_to_read w q.1) at (var_set v (cw.number (pos c)) f) (kept q.0 q.1 e) on

  pub variant_reads : Reads R cm (picks ++ rest) f to (variant_read p t)
  variant_reads = record { at = λ w zs. by w zs (natural test zs) refl (pick.at w zs) }
    where
      pick : Reads R cm (runtime_value v prim.Pick (mask (range_with_len 0 (length (cases_of p t))) ∷ []) ∷ []) f (λ c. crun.with_var v (cw.number (pos c)) f) (natural test)
      pick = natural_into R cm (range_with_len 0 (length (cases_of p t))) test v f is_case

      later : (w : cw.World) (zs : List ℤ) (c : ℕ) (us : List ℤ) (o : Option CaseDecl) → Runs R cm (runtime_value v prim.Pick (mask (range_with_len 0 (length (cases_of p t))) ∷ []) ∷ []) f (left_to_read w zs) (goes (crun.with_var v (cw.number (pos c)) f) (left_to_read w us)) →
          (r : Option (host.Result × List ℤ)) → ReadsTo R cm rest (crun.with_var v (cw.number (pos c)) f) w us to r → ReadsTo R cm (runtime_value v prim.Pick (mask (range_with_len 0 (length (cases_of p t))) ∷ []) ∷ rest) f w zs to r
      later w zs c us o first None off = record {
        world = off.world;
        runs = runs_then R cm (runtime_value v prim.Pick (mask (range_with_len 0 (length (cases_of p t))) ∷ []) ∷ []) rest f (crun.with_var v (cw.number (pos c)) f) (left_to_read w zs) (left_to_read w us) (stops (cw.bad_answer w.taken) off.world) first off.runs;
        events = off.events;
        fuel = off.fuel;
      }
      later w zs c us o first (Some q) on =
          runs_then R cm (runtime_value v prim.Pick (mask (range_with_len 0 (length (cases_of p t))) ∷ []) ∷ []) rest f (crun.with_var v (cw.number (pos c)) f) (left_to_read w zs) (left_to_read w us) (goes (to q.0) (left_to_read w q.1)) first on

      by : (w : cw.World) (zs : List ℤ) (r : Option (ℕ × List ℤ)) → natural test zs ≡ r → ReadsTo R cm (runtime_value v prim.Pick (mask (range_with_len 0 (length (cases_of p t))) ∷ []) ∷ []) f w zs (λ c. crun.with_var v (cw.number (pos c)) f) r →
          ReadsTo R cm (runtime_value v prim.Pick (mask (range_with_len 0 (length (cases_of p t))) ∷ []) ∷ rest) f w zs to (host.then_reads (λ c. case_read c (slice_get (cases_of p t) c)) r)
      by w zs None e off = record {
        world = off.world;
        runs = stops_there R cm (runtime_value v prim.Pick (mask (range_with_len 0 (length (cases_of p t))) ∷ []) ∷ []) rest f (left_to_read w zs) off.world (cw.bad_answer w.taken) off.runs;
        events = off.events;
        fuel = off.fuel;
      }
      by w zs (Some q) e first =
          let c = there_is (cases_of p t) q.0 (natural_passes test zs q.1 q.0 e).passes in
          subst (λ o. ReadsTo R cm (runtime_value v prim.Pick (mask (range_with_len 0 (length (cases_of p t))) ∷ []) ∷ rest) f w zs to (case_read q.0 o q.1)) (sym c.at)
          (later w zs q.0 q.1 (Some c.element) first (case_read q.0 (Some c.element) q.1) (case_reads q.0 c.element c.at w q.1))
