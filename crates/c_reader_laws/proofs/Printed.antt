-- A program that some text stands for has a canonical text.
use Rattle.std.proofs.Common.{ℕ, Bool, true, false, if◌then◌else◌, List, [], ◌∷◌, ◌++◌, map, Option, sym, subst}
use Rattle.vlt_base.specs.declared.places.Span.{Span}
use Rattle.c_syntax.specs.C.{Func, Program}
use Rattle.c_syntax.specs.Unit.{Body, TranslationUnit}
use Rattle.c_syntax.specs.Text.{before_mark}
use Rattle.c_syntax.specs.Grammar.{Bounds, language, AreStmts, AreBodies}
use Rattle.c_syntax.specs.Kinds.{same_bool}
use Rattle.c_syntax.specs.Programs.{AreFuncsOf, bodies_of, IsProgramOf}
use Rattle.c_syntax.specs.Reading.{places_in, IsCProgramOf}
use Rattle.c_syntax.specs.Canonical.{AreReadable, body_of, AreSorted, IsProgram}
use Rattle.c_reader_laws.proofs.OfPrinterLaws.ReadAgain.{read_again}
use Rattle.c_reader_laws.specs.Laws.{TextsAreReadAgain}
use Rattle.c_reader_laws.proofs.Unrefused.{kinds_again}
use Rattle.c_reader_laws.proofs.Readable.{tokens_readable}
use Rattle.c_reader_laws.proofs.Parts.{readable_again}

chosen_within : (b : Bounds) (glue : Bool) (bs : List Body) → AreBodies b bs → AreBodies b (bodies_of glue bs)
chosen_within b glue [] are = tt
chosen_within b glue (x ∷ xs) are = by (same_bool glue x.head.name.glue) (chosen_within b glue xs are.1)
  where
    by : (d : Bool) → AreBodies b (bodies_of glue xs) → AreBodies b (if d then x ∷ bodies_of glue xs else bodies_of glue xs)
    by true rest = (are.0, rest)
    by false rest = rest

all_within : (b : Bounds) (xs ys : List Body) → AreBodies b xs → AreBodies b ys → AreBodies b (xs ++ ys)
all_within b [] ys are also = also
all_within b (x ∷ xs) ys are also = (are.0, all_within b xs ys are.1 also)

funcs_within : (b : Bounds) (glue : Bool) (bs : List Body) (fs : List Func) → AreBodies b bs → AreFuncsOf bs fs → AreBodies b (map (body_of glue) fs)
funcs_within b glue [] [] are is = tt
funcs_within b glue [] (f ∷ fs) are is = absurd is
funcs_within b glue (x ∷ xs) [] are is = absurd is
funcs_within b glue (x ∷ xs) (f ∷ fs) are is = (subst (AreStmts _ _) (sym is.0.body) are.0, funcs_within b glue xs fs are.1 is.1)

sorted_again : (bs : List Body) (fs : List Func) → AreFuncsOf bs fs → AreSorted fs
sorted_again [] [] is = tt
sorted_again [] (f ∷ fs) is = absurd is
sorted_again (b ∷ bs) [] is = absurd is
sorted_again (b ∷ bs) (f ∷ fs) is = (is.0.sorted, sorted_again bs fs is.1)

read_programs : (text : List ℕ) (p : Program) (c : Option Span) → IsCProgramOf text p c → IsProgram p
read_programs text p c is =
    let u : TranslationUnit = is.unit in
    let of : IsProgramOf u p = is.program in
    record {
      main = (of.main.0, of.main.1);
      within = all_within language (map (body_of true) p.glue) (map (body_of false) p.fns) (funcs_within language true (bodies_of true u.bodies) p.glue (chosen_within language true u.bodies is.reads.within) of.glue)
          (funcs_within language false (bodies_of false u.bodies) p.fns (chosen_within language false u.bodies is.reads.within) of.fns);
      kinds = kinds_again (places_in is.lexemes) u p is.kinds of;
      readable = readable_again u p of (subst AreReadable is.reads.spelled (tokens_readable (before_mark text) is.lexemes is.reads.tokens));
      glue_sorted = sorted_again (bodies_of true u.bodies) p.glue of.glue;
      fns_sorted = sorted_again (bodies_of false u.bodies) p.fns of.fns;
    }

pub printed : TextsAreReadAgain
printed text p c is = let of = read_programs text p c is in record { is_program = of; again = read_again p of }
