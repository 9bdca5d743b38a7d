-- A call ends a run in a bad answer exactly where the answer doesn't keep the external's clause.
use Rattle.std.proofs.Common.{◌≡◌, ℕ, ◌+◌, ℤ, Bool, true, false, IsTrue, List, [], ◌∷◌, Option, Some, None, Ok, Err, if◌then◌else◌, refl, sym, ap, ◌∙◌, subst}
use Rattle.std.specs.List.{flat_map}
use Rattle.std.specs.Result.{is_ok}
use Rattle.vlt_core.specs.Core.{Ty, Func, Program}
use Rattle.vlt_core.specs.Lookups.{variant_in}
use Rattle.vlt_meaning.specs.World.{Part, Value, objects_in, out, Owner, is_at, is_loose, called, Object, World, Frame, is_full, bad_answer, Reason}
use Rattle.vlt_meaning.specs.Found.{Found, or_fault}
use Rattle.vlt_meaning.specs.Objects.{objects_after_move}
use Rattle.vlt_meaning.specs.Step.{Step, ends, with_found, where_so, with_event, with_objects, with_answer, first_answer, with_moved, with_made, fill, deliver}
use Rattle.vlt_meaning.specs.Calls.{passed_objects, Binding}
use Rattle.vlt_meaning.specs.HostAnswers.{Piece, plain, new_in, Result, nothing, piece, case_with}
use Rattle.vlt_meaning.specs.Externals.{awaited_keys, named_objects, taken_objects, Fitting, fitting, or_bad, with_answered, with_pieces, with_fresh, with_result, call_external, KeepsClause}
use Rattle.vlt_meaning_laws.specs.BadAnswers.{IsAnswered, EndsInBadAnswer}

-- ---- steps that end in no bad answer

abbrev IsOther : Step → Type 0
IsOther (ends (bad_answer n) w) = ⊥
IsOther a = Unit {0}

-- as a record, so that a step is found from it
record NotBad (a : Step) : Type 0 where
  is : IsOther a

found_good : {A : Type 0} (r : Reason) (o : Option A) (w : World) (go : A → Step) → ((x : A) → NotBad (go x)) → NotBad (with_found (or_fault r o) w go)
unfolding with_found
found_good r (Some x) w go t = t x
found_good r None w go t = record { is = tt }

if_good : (b : Bool) (a c : Step) → NotBad a → NotBad c → NotBad (if b then a else c)
if_good true a c s t = s
if_good false a c s t = t

made_good : (heap : ℕ) (o : Object) (w : World) (go : ℕ → World → Step) → ((n : ℕ) (w : World) → NotBad (go n w)) → NotBad (with_made heap o w go)
unfolding with_made
made_good heap o w go t = if_good (is_full heap w.objects) _ _ (record { is = tt }) (t _ _)

fill_good : (b : Bool) (r : Reason) (n : Option ℕ) (w : World) (go : World → Step) → ((w : World) → NotBad (go w)) → NotBad (where_so b r n w go)
unfolding where_so
fill_good true r n w go t = t w
fill_good false r n w go t = record { is = tt }

deliver_good : (f : Func) (target : Option ℕ) (a : Option Value) (frame : Frame) (w : World) → NotBad (deliver f target a frame w)
unfolding deliver fill
deliver_good f None a frame w = record { is = tt }
deliver_good f (Some v) a frame w = found_good _ a w _ (λ b. fill_good _ _ _ w _ (λ w. record { is = tt }))

pieces_good : (heap : ℕ) (ts : List Ty) (ps : List Piece) (w : World) (go : List Part → World → Step) →
    ((a : List Part) (w : World) → NotBad (go a w)) → NotBad (with_pieces heap ts ps w go)
unfolding with_pieces
pieces_good heap (ty ∷ ts) (plain z ∷ ps) w go t = pieces_good heap ts ps w _ (λ parts. t _)
pieces_good heap (ty ∷ ts) (new_in s ∷ ps) w go t = made_good heap _ w _ (λ n v. pieces_good heap ts ps v _ (λ parts. t _))
pieces_good heap [] ps w go t = t [] w
pieces_good heap (ty ∷ ts) [] w go t = t [] w

fresh_good : (heap ty : ℕ) (b : Option Binding) (frame : Frame) (w : World) (go : Option Value → Frame → World → Step) →
    ((a : Option Value) (frame : Frame) (w : World) → NotBad (go a frame w)) → NotBad (with_fresh heap ty b frame w go)
unfolding with_fresh
fresh_good heap ty None frame w go t = t None frame w
fresh_good heap ty (Some b) frame w go t = made_good heap _ w _ (λ n v. t _ _ v)

result_good : (heap : ℕ) (p : Program) (g : Func) (keys ss : List ℕ) (r : Result) (frame : Frame) (w : World)
    (go : Option Value → Frame → World → Step) → ((a : Option Value) (frame : Frame) (w : World) → NotBad (go a frame w)) →
    NotBad (with_result heap p g keys ss r frame w go)
unfolding with_result
result_good heap p g keys ss nothing frame w go t = fresh_good heap _ _ frame w go t
result_good heap p g keys ss (piece (plain z)) frame w go t = t _ frame w
result_good heap p g keys ss (piece (new_in s)) frame w go t = made_good heap _ w _ (λ n v. t _ frame v)
result_good heap p g keys ss (case_with c zs ps) frame w go t =
    found_good _ (variant_in g.result) w _ (λ v. pieces_good heap _ ps w _ (λ parts u. t _ frame u))

-- ---- the answer

module _ (heap : ℕ) (p : Program) (f : Func) (target : Option ℕ) (keys : List ℕ) (g : Func) (args : List Value) (frame : Frame)
    (w : World) (a : IsAnswered p keys g args frame w) where
  -- the world where the answer was taken, and the one where what the host takes is out
  told : World
  told = record (with_event w (called g.name args)) { answers = a.rest; taken = w.taken + 1 }

  following : World
  following = with_objects told a.objects

  -- what is done with an answer, with one that fits, and what comes before
  fitted : World → Fitting → Step
  fitted v q = with_result heap p g keys q.answer.states q.answer.result frame
      (with_objects v (with_answered p g keys frame q.answer q.objects)) (deliver f target)

  heeded : List ℤ → World → Step
  heeded zs v = with_found (or_bad v.taken (fitting p g keys frame zs v.objects)) v (fitted v)

  handed : List ℤ → World → Step
  handed zs v = with_moved is_loose out (flat_map objects_in args) v (heeded zs)

  taken : List ℤ → World → Step
  taken zs v = with_moved (is_at frame.depth) out (taken_objects keys frame g.clause) v (handed zs)

  asked : Step
  asked = with_answer (with_event w (called g.name args)) taken

  found_is : {A : Type 0} (x : Found A) (y : A) (w : World) (go : A → Step) → x ≡ Ok y → with_found x w go ≡ go y
  unfolding with_found
  found_is x y w go e = ap (λ x. with_found x w go) e

  moved_is : (from : Owner → Bool) (ns : List ℕ) (os : List Object) (w : World) (go : World → Step) →
      objects_after_move from out ns w.objects ≡ Ok os → with_moved from out ns w go ≡ go (with_objects w os)
  unfolding with_moved
  moved_is from ns os w go e = found_is (objects_after_move from out ns w.objects) os w (λ os. go (with_objects w os)) e

  at_asked : call_external heap p f target keys g args frame w ≡ asked
  unfolding call_external asked taken handed heeded fitted
  at_asked =
      found_is (passed_objects p g keys frame w.objects g.clause) a.passed w _ a.passes ∙
      found_is (named_objects keys frame (awaited_keys p g)) a.awaited w (λ ms. asked) a.finds

  at_taken : asked ≡ taken a.numbers told
  unfolding asked with_answer first_answer told
  at_taken = ap (λ all. first_answer all (with_event w (called g.name args)) taken) a.answer

  at_answer : call_external heap p f target keys g args frame w ≡
      with_found (or_bad (w.taken + 1) (fitting p g keys frame a.numbers a.objects)) following (fitted following)
  unfolding taken handed heeded following told
  at_answer = at_asked ∙ at_taken ∙
      moved_is (is_at frame.depth) (taken_objects keys frame g.clause) a.sent told (handed a.numbers) a.sends ∙
      moved_is is_loose (flat_map objects_in args) a.objects (with_objects told a.sent) (heeded a.numbers) a.hands

  fitted_good : (q : Fitting) → NotBad (fitted following q)
  unfolding fitted
  fitted_good q =
      result_good heap p g keys q.answer.states q.answer.result frame _ (deliver f target) (λ b fr v. deliver_good f target b fr v)

  pub bad_unless_kept : (KeepsClause p g keys frame a.numbers a.objects → ⊥) →
      EndsInBadAnswer (w.taken + 1) (call_external heap p f target keys g args frame w)
  unfolding with_found
  bad_unless_kept unkept = by (fitting p g keys frame a.numbers a.objects) unkept at_answer
    where
      by : (x : Found Fitting) → (IsTrue (is_ok x) → ⊥) →
          call_external heap p f target keys g args frame w ≡ with_found (or_bad (w.taken + 1) x) following (fitted following) →
          EndsInBadAnswer (w.taken + 1) (call_external heap p f target keys g args frame w)
      by (Ok q) unkept e = absurd (unkept refl)
      by (Err o) unkept e = record { world = following; is = e }

  pub good_where_kept : KeepsClause p g keys frame a.numbers a.objects → (n : ℕ) →
      EndsInBadAnswer n (call_external heap p f target keys g args frame w) → ⊥
  unfolding with_found
  good_where_kept kept n bad = by (fitting p g keys frame a.numbers a.objects) kept at_answer
    where
      clash : NotBad (ends (bad_answer n) bad.world) → ⊥
      clash h = h.is

      by : (x : Found Fitting) → IsTrue (is_ok x) →
          call_external heap p f target keys g args frame w ≡ with_found (or_bad (w.taken + 1) x) following (fitted following) → ⊥
      by (Ok q) kept e = clash (subst NotBad (sym e ∙ bad.is) (fitted_good q))
      by (Err o) kept e = cc
