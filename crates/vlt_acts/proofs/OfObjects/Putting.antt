-- A field that gets a value.
use Rattle.std.proofs.Common.{◌≡◌, ℕ, nat_lt, ◌<◌, true, length, Result, Ok, Err, refl, sym, ap, ◌∙◌, subst, arith}
use Rattle.std.proofs.lemmas.Bool.Decides.{nat_tests}
use Rattle.vlt_ops.specs.declared.TrapKind.{TrapKind}
use Rattle.vlt_core.specs.Core as core
use Rattle.vlt_core.specs.Core.{Expr}
use Rattle.vlt_heap.specs.declared.heap.Heap.{Heap}
use Rattle.vlt_heap.specs.Items.{Items}
use Rattle.vlt_meaning.specs.World.{Value, World, trap, fault, done, fuel_end, heap_end, depth_end, input_end, answers_end, bad_answer, missing}
use Rattle.vlt_meaning.specs.Found.{Found}
use Rattle.vlt_meaning.specs.Objects.{with_cell}
use Rattle.vlt_meaning.specs.Values.{value_of, touchable}
use Rattle.vlt_meaning.specs.Step.{Step, goes, with_found, with_changed}
use Rattle.vlt_meaning.specs.Run.{does_simple}
use Rattle.vlt_acts.specs.declared.values.values.Values.{Values}
use Rattle.vlt_acts.specs.Values.Parts.{HaveValue}
use Rattle.vlt_acts.specs.Values.Shown.{ShowObjects, Seen, IsGrown, IsWritten}
use Rattle.vlt_acts.proofs.OfValues.Touching.{touch_fault, touched}
use Rattle.vlt_acts.proofs.OfValues.Pushing.{frame_grown, seen_grown}
use Rattle.vlt_acts.specs.Acts.Acts.{setup, Does}
use Rattle.vlt_acts.proofs.OfActs.Keeping.{frame_kept}
use Rattle.vlt_acts.specs.Objects.Cells.{SetsCell}
use Rattle.vlt_acts.proofs.OfObjects.Going.{found_goes, so_goes}

abbrev is_fine : Result (Unit {0}) TrapKind → Type 0
is_fine (Ok u) = Unit {0}
is_fine (Err t) = ⊥

pub ok_err : {t : TrapKind} → ◌≡◌ {A = Result (Unit {0}) TrapKind} (Ok tt) (Err t) → ⊥
ok_err e = subst is_fine e tt

-- ---- what follows from a value that was written

pub written_goes : (items : Items) (mid : Values) (to : ℕ) (q : Found Value) (r : Result (Unit {0}) TrapKind) → r ≡ Ok tt → IsWritten items mid to r q → (before : Items) (h : Heap) (v : Values) (w : World) (go : Value → Step)
    → ((a : Value) → HaveValue items mid.slots.items to mid.width a → Does before h v (Ok tt) (go a)) → Does before h v (Ok tt) (with_found q w go)
unfolding with_found
written_goes items mid to (Ok a) r is written before h v w go then = then a written.value
written_goes items mid to (Err (trap t)) r is written before h v w go then = absurd (ok_err (sym is ∙ written))
written_goes items mid to (Err done) r is written before h v w go then = written
written_goes items mid to (Err fuel_end) r is written before h v w go then = written
written_goes items mid to (Err heap_end) r is written before h v w go then = written
written_goes items mid to (Err depth_end) r is written before h v w go then = written
written_goes items mid to (Err input_end) r is written before h v w go then = written
written_goes items mid to (Err answers_end) r is written before h v w go then = written
written_goes items mid to (Err (bad_answer n)) r is written before h v w go then = written
written_goes items mid to (Err (fault s n)) r is written before h v w go then = written

pub trapped_goes : (items : Items) (mid : Values) (to : ℕ) (q : Found Value) (r : Result (Unit {0}) TrapKind) (t : TrapKind) → r ≡ Err t → IsWritten items mid to r q → (before : Items) (h : Heap) (v : Values) (w : World) (go : Value → Step) → Does before h v (Err t) (with_found q w go)
unfolding with_found
trapped_goes items mid to (Ok a) r t is written before h v w go = absurd (ok_err (sym written.is ∙ is))
trapped_goes items mid to (Err (trap s)) r t is written before h v w go = sym is ∙ written
trapped_goes items mid to (Err done) r t is written before h v w go = written
trapped_goes items mid to (Err fuel_end) r t is written before h v w go = written
trapped_goes items mid to (Err heap_end) r t is written before h v w go = written
trapped_goes items mid to (Err depth_end) r t is written before h v w go = written
trapped_goes items mid to (Err input_end) r t is written before h v w go = written
trapped_goes items mid to (Err answers_end) r t is written before h v w go = written
trapped_goes items mid to (Err (bad_answer n)) r t is written before h v w go = written
trapped_goes items mid to (Err (fault s n)) r t is written before h v w go = written

-- ---- the statement

below_is : (i n : ℕ) → nat_lt i n ≡ true → i < n
below_is i n e = grind (arith, nat_tests)

module _ (old : Heap) (values mid after : Values) (c : Seen old values) (w : World) (n d x i to : ℕ) (e : Expr) (r : Result (Unit {0}) TrapKind) (same : w.objects ≡ c.objects) (g : IsGrown values mid) (k : IsGrown values after) where
  pub put_does : (new : Heap) → r ≡ Ok tt → IsWritten c.items mid to r (value_of c.program c.func e c.frame c.objects) → SetsCell x i to mid old new → Does c.items new after (Ok tt) (does_simple (setup c.program n d) c.func (core.put x i e) c.frame w)
  put_does new is written sets =
      written_goes c.items mid to (value_of c.program c.func e c.frame w.objects) r is (subst (λ os. IsWritten c.items mid to r (value_of c.program c.func e c.frame os)) (sym same) written) c.items new after w _ (λ a has.
      found_goes c.items new after (Ok tt) (touchable c.program c.func x i c.frame w.objects) w _ (touch_fault c.program c.func x i c.frame w.objects) (λ m at.
      so_goes c.items new after (Ok tt) (nat_lt i (length m.object.cells)) missing _ w (λ w. goes c.frame (with_changed w m.number (with_cell i a))) (λ l.
      let t = touched c.program c.func x i c.frame c.objects m (ap (touchable c.program c.func x i c.frame) (sym same) ∙ at) in
      let s = sets (seen_grown old values mid g c) m.number m.object a (record { var = t.var; at = t.at; live = t.live; within = below_is i (length m.object.cells) l }) has in
      record {
        is = refl;
        shows = record {
          items = s.items;
          holds = s.holds;
          objects_shown = subst (λ z. ShowObjects s.items z (with_changed w m.number (with_cell i a)).objects) (g.width ∙ sym k.width) (subst (λ os. ShowObjects s.items mid.width (with_changed (record w { objects = os }) m.number (with_cell i a)).objects) (sym same) s.shown);
          frame_shown = frame_grown s.items values after c.frame k (frame_kept c.items s.items values c.frame s.kept c.fits);
          kept = s.kept;
        };
      })))

  pub put_traps : (t : TrapKind) → r ≡ Err t → IsWritten c.items mid to r (value_of c.program c.func e c.frame c.objects) → Does c.items old after (Err t) (does_simple (setup c.program n d) c.func (core.put x i e) c.frame w)
  put_traps t is written =
      trapped_goes c.items mid to (value_of c.program c.func e c.frame w.objects) r t is (subst (λ os. IsWritten c.items mid to r (value_of c.program c.func e c.frame os)) (sym same) written) c.items old after w _
