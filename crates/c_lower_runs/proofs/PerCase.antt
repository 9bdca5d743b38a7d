-- Code that is run for one case of a variant: that of the other cases is passed by.
use Rattle.std.proofs.Common.{◌≡◌, ◌≢◌, ◌<◌, ℕ, zero, suc, ◌+◌, true, false, pos, List, [], ◌∷◌, Some, slice_get, refl, sym, ap, ◌∙◌, subst, arith}
use Rattle.std.proofs.lemmas.Bool.Decides.{nat_tests}
use Rattle.std.proofs.lemmas.Int.{ints}
use Rattle.std.proofs.lemmas.Option.{none-some, same_Some}
use Rattle.std.specs.List.{flat_map, enumerate_from}
use Rattle.vlt_ops.specs.Operator.{equals}
use Rattle.vlt_core.specs.Core.{CaseDecl}
use Rattle.c_syntax.specs.declared.program.CVar.{CVar}
use Rattle.c_syntax.specs.C.{Stmt}
use Rattle.c_meaning.specs.World as cw
use Rattle.c_meaning.specs.World.{World, Outcome}
use Rattle.c_meaning.specs.Run as crun
use Rattle.c_meaning.specs.Run.{Setup, Meaning, Frame, Step, goes, stops, then_do}
use Rattle.c_lower.specs.Glue.{CaseAt, when_case, per_case}
use Rattle.c_lower_worlds.proofs.StatementLists.{Runs, runs_then, stops_there, then_ends}

same_number : (k : ℕ) → equals (pos k) (pos k) ≡ true
same_number k = grind (arith, ints, nat_tests)

other_number : (c k : ℕ) → c ≢ k → equals (pos c) (pos k) ≡ false
other_number c k e = grind (arith, ints, nat_tests)

module _ (R : Setup) (rest_of : Meaning) (s : CVar) where
  other_case : (c k : ℕ) (xs : List Stmt) (f : Frame) (w : World) → f.vars s ≡ Some (cw.number (pos c)) → c ≢ k → Runs R rest_of (when_case s k xs) f w (goes f w)
  unfolding crun.with_found then_do
  other_case c k [] f w at e n = refl
  other_case c k (x ∷ xs) f w at e n = rw (at, other_number c k e) refl

  this_case : (k : ℕ) (xs : List Stmt) (f : Frame) (w : World) (st : Step) → f.vars s ≡ Some (cw.number (pos k)) → Runs R rest_of xs f w st → Runs R rest_of (when_case s k xs) f w st
  unfolding crun.with_found
  this_case k [] f w st at h n = h n
  this_case k (x ∷ xs) f w st at h n = rw (at, same_number k) (ap (λ st. then_do st goes) (h (suc n)) ∙ then_ends st)

  module _ (code : CaseAt → List Stmt) where
    others_run : (cases : List CaseDecl) (from c : ℕ) (f : Frame) (w : World) → f.vars s ≡ Some (cw.number (pos c)) → c < from →
        Runs R rest_of (flat_map (λ q. when_case s q.0 (code q)) (enumerate_from from cases)) f w (goes f w)
    others_run [] from c f w at l = λ n. refl
    others_run (d ∷ cases) from c f w at l =
        runs_then R rest_of (when_case s from (code (from, d))) (flat_map (λ q. when_case s q.0 (code q)) (enumerate_from (from + 1) cases)) f f w w (goes f w)
        (other_case c from (code (from, d)) f w at (λ e. absurd (omega arith))) (others_run cases (from + 1) c f w at (omega arith))

    case_goes : (cases : List CaseDecl) (from i : ℕ) (d : CaseDecl) (f g : Frame) (w v : World) → slice_get cases i ≡ Some d → f.vars s ≡ Some (cw.number (pos (from + i))) →
        g.vars s ≡ f.vars s → Runs R rest_of (code (from + i, d)) f w (goes g v) →
        Runs R rest_of (flat_map (λ q. when_case s q.0 (code q)) (enumerate_from from cases)) f w (goes g v)
    case_goes [] from i d f g w v here at kept h = absurd (none-some d here)
    case_goes (x ∷ cases) from zero d f g w v here at kept h =
        let same : from + 0 ≡ from = omega arith in
        let at_from : f.vars s ≡ Some (cw.number (pos from)) = at ∙ ap (λ k. Some (cw.number (pos k))) same in
        runs_then R rest_of (when_case s from (code (from, x))) (flat_map (λ q. when_case s q.0 (code q)) (enumerate_from (from + 1) cases)) f g w v (goes g v)
        (this_case from (code (from, x)) f w (goes g v) at_from
        (subst (λ k. Runs R rest_of (code (k, x)) f w (goes g v)) same (subst (λ d. Runs R rest_of (code (from + 0, d)) f w (goes g v)) (sym (same_Some x d here)) h)))
        (others_run cases (from + 1) from g v (kept ∙ at_from) (omega arith))
    case_goes (x ∷ cases) from (suc i) d f g w v here at kept h =
        let same : from + suc i ≡ from + 1 + i = omega arith in
        runs_then R rest_of (when_case s from (code (from, x))) (flat_map (λ q. when_case s q.0 (code q)) (enumerate_from (from + 1) cases)) f f w w (goes g v)
        (other_case (from + suc i) from (code (from, x)) f w at (λ e. absurd (omega arith)))
        (case_goes cases (from + 1) i d f g w v here (at ∙ ap (λ k. Some (cw.number (pos k))) same) kept (subst (λ k. Runs R rest_of (code (k, d)) f w (goes g v)) same h))

    case_stops : (cases : List CaseDecl) (from i : ℕ) (d : CaseDecl) (f : Frame) (w v : World) (o : Outcome) → slice_get cases i ≡ Some d → f.vars s ≡ Some (cw.number (pos (from + i))) →
        Runs R rest_of (code (from + i, d)) f w (stops o v) →
        Runs R rest_of (flat_map (λ q. when_case s q.0 (code q)) (enumerate_from from cases)) f w (stops o v)
    case_stops [] from i d f w v o here at h = absurd (none-some d here)
    case_stops (x ∷ cases) from zero d f w v o here at h =
        let same : from + 0 ≡ from = omega arith in
        let at_from : f.vars s ≡ Some (cw.number (pos from)) = at ∙ ap (λ k. Some (cw.number (pos k))) same in
        stops_there R rest_of (when_case s from (code (from, x))) (flat_map (λ q. when_case s q.0 (code q)) (enumerate_from (from + 1) cases)) f w v o
        (this_case from (code (from, x)) f w (stops o v) at_from
        (subst (λ k. Runs R rest_of (code (k, x)) f w (stops o v)) same (subst (λ d. Runs R rest_of (code (from + 0, d)) f w (stops o v)) (sym (same_Some x d here)) h)))
    case_stops (x ∷ cases) from (suc i) d f w v o here at h =
        let same : from + suc i ≡ from + 1 + i = omega arith in
        runs_then R rest_of (when_case s from (code (from, x))) (flat_map (λ q. when_case s q.0 (code q)) (enumerate_from (from + 1) cases)) f f w w (stops o v)
        (other_case (from + suc i) from (code (from, x)) f w at (λ e. absurd (omega arith)))
        (case_stops cases (from + 1) i d f w v o here (at ∙ ap (λ k. Some (cw.number (pos k))) same) (subst (λ k. Runs R rest_of (code (k, d)) f w (stops o v)) same h))

    -- the code of the case at hand, which keeps the case's number
    pub per_case_goes : (cases : List CaseDecl) (i : ℕ) (d : CaseDecl) (f g : Frame) (w v : World) → slice_get cases i ≡ Some d → f.vars s ≡ Some (cw.number (pos i)) →
        g.vars s ≡ f.vars s → Runs R rest_of (code (i, d)) f w (goes g v) → Runs R rest_of (per_case cases s code) f w (goes g v)
    per_case_goes cases i d f g w v here at kept h =
        let same : i ≡ 0 + i = omega arith in
        case_goes cases 0 i d f g w v here (at ∙ ap (λ k. Some (cw.number (pos k))) same) kept (subst (λ k. Runs R rest_of (code (k, d)) f w (goes g v)) same h)

    pub per_case_stops : (cases : List CaseDecl) (i : ℕ) (d : CaseDecl) (f : Frame) (w v : World) (o : Outcome) → slice_get cases i ≡ Some d → f.vars s ≡ Some (cw.number (pos i)) →
        Runs R rest_of (code (i, d)) f w (stops o v) → Runs R rest_of (per_case cases s code) f w (stops o v)
    per_case_stops cases i d f w v o here at h =
        let same : i ≡ 0 + i = omega arith in
        case_stops cases 0 i d f w v o here (at ∙ ap (λ k. Some (cw.number (pos k))) same) (subst (λ k. Runs R rest_of (code (k, d)) f w (stops o v)) same h)
