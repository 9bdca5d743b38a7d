-- Annotations of a program's functions, as they are written into a certificate.
use Rattle.std.specs.Prelude.{◌≡◌, ℕ, MatchBool, List, [], ◌∷◌, map, length, Option}
use Rattle.vlt_core.specs.Instances.{instance, origins}
use Rattle.vlt_core.specs.Least.{IsLeast}
use Rattle.vlt_core.specs.View.{func_of, program_of}
use Rattle.vlt_core.specs.declared.notes.Annotation.{Annotation}
use Rattle.vlt_core.specs.declared.program.Func.{Func}
use Rattle.vlt_core.specs.declared.program.Program.{Program}
use Rattle.vlt_flow.specs.Notes.Listed.{note_of, AreListed}

-- the least annotation of the function's instance of this origin, as `vlt_flow::annotate` gives it
pub record IsAnnotatedIn (p : Program) (f : Func) (origin : Option ℕ) (a : Annotation) : Type 0 where
  pub least : IsLeast (program_of p) (instance (program_of p) (func_of f) origin) (map note_of a.maps)
  pub listed : AreListed (length f.keys) (length f.vars) a.maps

-- those of these instances
abbrev pub AreAnnotatedIn : Program → Func → List (Option ℕ) → List Annotation → Type 0
AreAnnotatedIn p f [] [] = Unit {0}
AreAnnotatedIn p f (o ∷ os) (a ∷ list) = IsAnnotatedIn p f o a × AreAnnotatedIn p f os list
AreAnnotatedIn p f _ _ = ⊥

-- Annotations of a function as `cert_write::to_text` takes them: of one with a body one of each
-- instance, by ascending origin, and of an external none.
abbrev pub IsAnnotatedBy : Program → Func → List Annotation → Type 0
IsAnnotatedBy p f annotations =
    MatchBool f.external (annotations ≡ [])
    (AreAnnotatedIn p f (origins (program_of p) (func_of f)) annotations)

abbrev pub AreAnnotatedBy : Program → List Func → List (List Annotation) → Type 0
AreAnnotatedBy p [] [] = Unit {0}
AreAnnotatedBy p (f ∷ fs) (annotations ∷ all) =
    IsAnnotatedBy p f annotations × AreAnnotatedBy p fs all
AreAnnotatedBy p _ _ = ⊥
