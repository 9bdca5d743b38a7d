-- Which programs have a certificate, and with which notes.
use Rattle.std.specs.Prelude.{◌≡◌, ℕ, List, [], ◌∷◌, map, Option}
use Rattle.vlt_core.specs.Core.{Func, Program}
use Rattle.vlt_core.specs.Bodies.{body_flow}
use Rattle.vlt_core.specs.Kinded.{IsKinded}
use Rattle.vlt_core.specs.Least.{Noted, a_loop, a_join, noted_block}
use Rattle.vlt_core.specs.View.{program_of}
use Rattle.vlt_core.specs.declared.program.Program.{Program as CodeProgram}
use Rattle.cert_rows.specs.Parts.{All}
use Rattle.cert_rows.specs.Values.{maps_part}
use Rattle.cert_format.specs.Places.{unplaced_program}
use Rattle.cert_format.specs.Notes.{Note, at_loop, at_join}
use Rattle.cert_format.specs.Bounds.{instances}
use Rattle.cert_format.specs.Certificate.{FitsCertificate}
use Rattle.cert_format_laws.specs.Versions.{is_ordered}
use Rattle.cert_fit_laws.specs.Limits.{IsLimitedProgram}

-- which statement a note is of
abbrev pub named_by : Note → Noted
named_by (at_loop n around exit) = a_loop n
named_by (at_join n maps) = a_join n

-- Its maps fit a row of a function with so many instances: there is one for each, and in each one
-- tokens ascend and none is absent.
abbrev pub FitsNote : (instances : Option ℕ) → Note → Type 0
FitsNote i (at_loop n around exit) = (maps_part i).Fits around × (maps_part i).Fits exit
FitsNote i (at_join n maps) = (maps_part i).Fits maps

-- The notes are those of each loop and each choice that can be passed, in order.
pub record IsComplete (p : Program) (f : Func) (notes : List Note) : Type 0 where
  pub names : map named_by notes ≡ noted_block 0 (body_flow p f)
  pub fit : All (FitsNote (instances p f)) notes

abbrev pub AreComplete : Program → List Func → List (List Note) → Type 0
AreComplete p [] [] = Unit {0}
AreComplete p (f ∷ fs) (notes ∷ all) = IsComplete p f notes × AreComplete p fs all
AreComplete p _ _ = ⊥

-- A program of the code that breaks no rule on names and types and keeps the limits has, without its
-- places, a certificate with such notes: of version 1 without links and bound entries, else of version 2.
abbrev pub LimitedProgramsFit : Type 0
LimitedProgramsFit =
    (p : CodeProgram) (all : List (List Note)) → IsKinded (program_of p) →
    IsLimitedProgram (program_of p) → AreComplete (program_of p) (program_of p).fns all →
    (let q = unplaced_program (program_of p) in FitsCertificate (is_ordered q) q all)
