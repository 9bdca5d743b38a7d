-- What the answer for the notes of a whole program means.
use Rattle.std.specs.Prelude.{◌≡◌, ◌<◌, ◌+◌, ℕ, false, List, Some, Result, Err, slice_get}
use Rattle.vlt_core.specs.Core.{Tok, Func, Program}
use Rattle.vlt_core.specs.Maps.{Status, Wanted}
use Rattle.vlt_core.specs.Least.{first_number}
use Rattle.vlt_core.specs.View.{tok_of}
use Rattle.vlt_core.specs.HeldView.{status_of, wanted_of}
use Rattle.cert_format.specs.Notes.{Note}
use Rattle.cert_check.specs.Tests as test
use Rattle.cert_check.specs.Tests.{Hold, FirstFails, refused, refusal, function_tests}
use Rattle.cert_check.specs.declared.whole.LocalRefusal.{LocalRefusal}
use Rattle.cert_check.specs.declared.whole.LocalError.{LocalError}
use Rattle.cert_check.specs.declared.whole.LocalError.TheVariants.{Refused, Unfit}

-- A token that is refused, with the function's number and the statement's, which is counted over the whole program.
pub record ProgramRefusal : Type 0 where
  pub func : ℕ
  pub statement : ℕ
  pub tok : Tok
  pub found : Status
  pub wanted : Wanted

abbrev pub refusal_in : LocalRefusal → ProgramRefusal
refusal_in x = record {
  func = x.func;
  statement = x.statement;
  tok = tok_of x.tok;
  found = status_of x.found;
  wanted = wanted_of x.wanted;
}

-- if the function of this number has a body, all tests of its notes hold
abbrev pub HoldAt : Program → List (List Note) → (g : ℕ) → Type 0
HoldAt p all g = (f : Func) (notes : List Note) → slice_get p.fns g ≡ Some f → slice_get all g ≡ Some notes →
    f.external ≡ false → Hold (function_tests p f notes)

-- The function of this number has a body, and the first test that its notes fail refuses so.
pub record IsRefusedAt (p : Program) (all : List (List Note)) (x : ProgramRefusal) : Type 0 where
  pub f : Func
  pub notes : List Note
  pub there : slice_get p.fns x.func ≡ Some f
  pub noted : slice_get all x.func ≡ Some notes
  pub own : f.external ≡ false
  -- the statement's number in the function
  pub number : ℕ
  pub counted : x.statement ≡ first_number p x.func + number
  pub first : FirstFails (function_tests p f notes) (refused (refusal number x.tok x.found x.wanted))

-- The first test that the notes of a program fail, function by function, refuses so.
pub record IsFirstRefusal (p : Program) (all : List (List Note)) (x : ProgramRefusal) : Type 0 where
  pub at : IsRefusedAt p all x
  pub before : (g : ℕ) → g < x.func → HoldAt p all g

-- ---- facts for errors

pub record IfRefused {A : Type 0} (r : Result A LocalError) (P : ProgramRefusal → Type 0) : Type 0 where
  pub holds : (x : LocalRefusal) → r ≡ Err (Refused x) → P (refusal_in x)

pub record IfUnfit {A : Type 0} (r : Result A LocalError) (P : Type 0) : Type 0 where
  pub holds : r ≡ Err Unfit → P
