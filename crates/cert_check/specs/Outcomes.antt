-- What the answer of a test of an annotation means: all of its tests hold, or this is the first that fails.
use Rattle.std.specs.Prelude.{◌<◌, ◌^◌, List, Result, Ok, Err}
use Rattle.vlt_core.specs.View.{tok_of}
use Rattle.vlt_core.specs.HeldView.{status_of, wanted_of}
use Rattle.cert_check.specs.Tests as test
use Rattle.cert_check.specs.Tests.{Test, Hold, FirstFails, refused, lost}
use Rattle.cert_check.specs.declared.errors.Refusal.{Refusal}
use Rattle.cert_check.specs.declared.errors.Stop.{Stop}
use Rattle.cert_check.specs.declared.errors.Stop.TheVariants.{Refused, Unfit, Memory}

abbrev pub refusal_of : Refusal → test.Refusal
refusal_of x = record { statement = x.statement; tok = tok_of x.tok; found = status_of x.found; wanted = wanted_of x.wanted }

-- All tests hold and the fact holds of the answer, or this is how the first one fails. Nothing is said where there was no
-- memory.
abbrev pub HasOutcome : {A : Type 0} → Result A Stop → List Test → (A → Type 0) → Type 0
HasOutcome (Ok x) ts P = Hold ts × P x
HasOutcome (Err (Refused x)) ts P = FirstFails ts (refused (refusal_of x))
HasOutcome (Err Unfit) ts P = FirstFails ts lost
HasOutcome (Err Memory) ts P = Unit {0}

pub record AreTested {A : Type 0} (r : Result A Stop) (ts : List Test) (P : A → Type 0) : Type 0 where
  pub outcome : HasOutcome r ts P

-- The same, where there is another cause too for which the tests aren't made; the statement has a number below 2^62.
abbrev pub HasOutcomeUnless : {A : Type 0} → (cause : Type 0) → Result A Stop → List Test → (A → Type 0) → Type 0
HasOutcomeUnless cause (Ok x) ts P = Hold ts × P x
HasOutcomeUnless cause (Err (Refused x)) ts P = FirstFails ts (refused (refusal_of x)) × (x.statement < 2 ^ 62)
HasOutcomeUnless cause (Err Unfit) ts P = cause
HasOutcomeUnless cause (Err Memory) ts P = Unit {0}

pub record AreTestedUnless {A : Type 0} (cause : Type 0) (r : Result A Stop) (ts : List Test) (P : A → Type 0) : Type 0 where
  pub outcome : HasOutcomeUnless cause r ts P

-- private contracts alone cite this: an error on the way to a body's tests
abbrev pub IsUnlessMemory : (cause : Type 0) → Stop → Type 0
IsUnlessMemory cause (Refused x) = ⊥
IsUnlessMemory cause Unfit = cause
IsUnlessMemory cause Memory = Unit {0}
