-- The sets, types, functions and notes of pieces, and the program that they make.
use Rattle.std.specs.Prelude.{true, false, List, [], ◌∷◌, ◌++◌}
use Rattle.vlt_core.specs.Core as core
use Rattle.vlt_core.specs.Core.{SetDecl, TypeDecl, Func, Program}
use Rattle.cert_format.specs.Notes.{Note}
use Rattle.cert_format.specs.Bodies.{core_list, list_notes}
use Rattle.cert_format.specs.Certificate.{main_from}
use Rattle.cert_format.specs.Pieces.{Piece, a_set, an_abstract, a_struct, a_variant, an_external, a_function, func_of}

abbrev pub set_in : Piece → List SetDecl
set_in (a_set d) = d ∷ []
set_in x = []

abbrev pub type_in : Piece → List TypeDecl
type_in (an_abstract name set) = core.an_abstract name set ∷ []
type_in (a_struct d) = core.a_struct d ∷ []
type_in (a_variant name h count cases) = core.a_variant (record { name = name; header = h; cases = cases }) ∷ []
type_in x = []

abbrev pub fn_in : Piece → List Func
fn_in (an_external f) = func_of true f core.done ∷ []
fn_in (a_function f ss) = func_of false f (core_list ss) ∷ []
fn_in x = []

abbrev pub notes_in : Piece → List (List Note)
notes_in (an_external f) = [] ∷ []
notes_in (a_function f ss) = list_notes 0 ss ∷ []
notes_in x = []

abbrev pub sets_of : List Piece → List SetDecl
sets_of [] = []
sets_of (x ∷ xs) = set_in x ++ sets_of xs

abbrev pub types_of : List Piece → List TypeDecl
types_of [] = []
types_of (x ∷ xs) = type_in x ++ types_of xs

abbrev pub fns_of : List Piece → List Func
fns_of [] = []
fns_of (x ∷ xs) = fn_in x ++ fns_of xs

abbrev pub all_of : List Piece → List (List Note)
all_of [] = []
all_of (x ∷ xs) = notes_in x ++ all_of xs

abbrev pub program_of : List Piece → Program
program_of ps = record { sets = sets_of ps; types = types_of ps; fns = fns_of ps; main = main_from 0 (fns_of ps) }
