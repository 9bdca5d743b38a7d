-- A program is the one that its text as it is written stands for.
use Rattle.std.proofs.Common.{◌≡◌, Bool, true, false, List, [], ◌∷◌, ◌++◌, map, refl, sym, ap, ◌∙◌, subst}
use Rattle.std.specs.List.Sorted.{IsPermutation, IsSorted}
use Rattle.std.proofs.lemmas.List.Sorted.{IsPermutation-refl}
use Rattle.c_syntax.specs.declared.program.CVar.{CVar}
use Rattle.c_syntax.specs.C.{Func, Program}
use Rattle.c_syntax.specs.Unit.{Body}
use Rattle.c_syntax.specs.Kinds.{names_of}
use Rattle.c_syntax.specs.Programs.{variable_order, IsFuncOf, AreFuncsOf, bodies_of, IsProgramOf}
use Rattle.c_syntax.specs.Canonical.{declaration_of, body_of, main_number, unit_of, AreSorted, IsProgram}

pub names_same : (vs : List CVar) → names_of (map declaration_of vs) ≡ vs
names_same [] = refl
names_same (v ∷ vs) = ap (λ ws. v ∷ ws) (names_same vs)

func_again : (glue : Bool) (f : Func) → IsSorted variable_order f.vars → IsFuncOf (body_of glue f) f
func_again glue f sorted = record {
  number = refl;
  result = refl;
  params = sym (names_same f.params);
  declares = subst (λ vs. IsPermutation vs f.vars) (sym (names_same f.vars)) (IsPermutation-refl f.vars);
  sorted = sorted;
  body = refl;
}

funcs_again : (glue : Bool) (fs : List Func) → AreSorted fs → AreFuncsOf (map (body_of glue) fs) fs
funcs_again glue [] sorted = tt
funcs_again glue (f ∷ fs) sorted = (func_again glue f sorted.0, funcs_again glue fs sorted.1)

own : (glue : Bool) (fs : List Func) (rest : List Body) → bodies_of glue (map (body_of glue) fs ++ rest) ≡ map (body_of glue) fs ++ bodies_of glue rest
own true [] rest = refl
own true (f ∷ fs) rest = ap (λ bs. body_of true f ∷ bs) (own true fs rest)
own false [] rest = refl
own false (f ∷ fs) rest = ap (λ bs. body_of false f ∷ bs) (own false fs rest)

others : (fs : List Func) → bodies_of true (map (body_of false) fs) ≡ []
others [] = refl
others (f ∷ fs) = others fs

past_glue : (gs : List Func) (rest : List Body) → bodies_of false (map (body_of true) gs ++ rest) ≡ bodies_of false rest
past_glue [] rest = refl
past_glue (g ∷ gs) rest = past_glue gs rest

nothing_more : (bs : List Body) → bs ++ [] ≡ bs
nothing_more [] = refl
nothing_more (b ∷ bs) = ap (λ cs. b ∷ cs) (nothing_more bs)

own_alone : (glue : Bool) (fs : List Func) → bodies_of glue (map (body_of glue) fs) ≡ map (body_of glue) fs
own_alone true [] = refl
own_alone true (f ∷ fs) = ap (λ bs. body_of true f ∷ bs) (own_alone true fs)
own_alone false [] = refl
own_alone false (f ∷ fs) = ap (λ bs. body_of false f ∷ bs) (own_alone false fs)

pub program_again : (p : Program) → IsProgram p → IsProgramOf (unit_of p) p
program_again p is =
    let glue : List Body = map (body_of true) p.glue in
    let fns : List Body = map (body_of false) p.fns in
    let first : bodies_of true (glue ++ fns) ≡ glue = own true p.glue fns ∙ ap (λ bs. glue ++ bs) (others p.fns) ∙ nothing_more glue in
    let second : bodies_of false (glue ++ fns) ≡ fns = past_glue p.glue fns ∙ own_alone false p.fns in
    record {
      glue = subst (λ bs. AreFuncsOf bs p.glue) (sym first) (funcs_again true p.glue is.glue_sorted);
      fns = subst (λ bs. AreFuncsOf bs p.fns) (sym second) (funcs_again false p.fns is.fns_sorted);
      main = (is.main.0, is.main.1, sym (ap main_number is.main.1));
    }
