-- What is known of an answer that fits.
use Rattle.std.proofs.Common.{◌≡◌, ℕ, ℤ, List, Option, Some, None, Ok, ap, subst}
use Rattle.vlt_core.specs.Core.{Func, Program}
use Rattle.vlt_meaning.specs.World.{is_out, loose, Object, Frame, Reason, missing}
use Rattle.vlt_meaning.specs.Found.{or_fault}
use Rattle.vlt_meaning.specs.Objects.{objects_after_move}
use Rattle.vlt_meaning.specs.HostAnswers.{answer_of}
use Rattle.vlt_meaning.specs.Externals.{come_back, case_objects, Fitting, fitting}
use Rattle.vlt_sound_calls.proofs.Finding.{found_then, same_ok}

was_there : {A : Type 0} (r : Reason) (o : Option A) (a : A) → or_fault r o ≡ Ok a → o ≡ Some a
was_there r (Some b) a e = ap Some (same_ok b a e)
was_there r None a e = cc

pub record IsFitted (p : Program) (g : Func) (keys : List ℕ) (frame : Frame) (numbers : List ℤ) (os : List Object)
    (q : Fitting) : Type 0 where
  pub said : answer_of p g numbers ≡ Some q.answer
  pub back : List Object
  pub came : come_back keys frame g.clause os ≡ Ok back
  pub moves : objects_after_move is_out loose (case_objects p g keys frame q.answer.result) back ≡ Ok q.objects

pub fitted : (p : Program) (g : Func) (keys : List ℕ) (frame : Frame) (numbers : List ℤ) (os : List Object) (q : Fitting) →
    fitting p g keys frame numbers os ≡ Ok q → IsFitted p g keys frame numbers os q
fitted p g keys frame numbers os q e =
    let a = found_then (or_fault missing (answer_of p g numbers)) _ q e in
    let back = found_then (come_back keys frame g.clause os) _ q a.rest in
    let all = found_then (objects_after_move is_out loose (case_objects p g keys frame a.first.result) back.first) _ q back.rest in
    subst (IsFitted p g keys frame numbers os) (same_ok (record { answer = a.first; objects = all.first }) q all.rest)
    (record {
      said = was_there missing (answer_of p g numbers) a.first a.was;
      back = back.first;
      came = back.was;
      moves = all.was;
    })
