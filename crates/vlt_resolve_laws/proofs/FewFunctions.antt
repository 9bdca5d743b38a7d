-- An elaborated program has no more functions than its tree has declarations.
use Rattle.std.proofs.Common.{◌≡◌, ◌≤◌, suc, List, [], ◌∷◌, length, refl, ap, subst, arith}
use Rattle.std.proofs.lemmas.List.{length-append}
use Rattle.vlt_syntax.specs.Tree as s
use Rattle.vlt_syntax.specs.Tree.{Decl, Tree}
use Rattle.vlt_core.specs.Core.{Func, Program}
use Rattle.vlt_kinds_types.specs.Files.{File}
use Rattle.vlt_kinds_heads.specs.Phase.{core_heads_in, core_heads}
use Rattle.vlt_kinds_types.specs.Kinds.{Kinds}
use Rattle.vlt_kinds.specs.Tables.{kinds_of}
use Rattle.vlt_resolve_laws.specs.Made.{AreMade}
use Rattle.vlt_resolve_laws.specs.Elaborated.{IsElaborated}
use Rattle.vlt_resolve_laws.proofs.Made.{told}
use Rattle.vlt_resolve_laws.proofs.Whole.{facts_of}

one_head : (file : File) (d : Decl) → length (core_heads_in file d) ≤ 1
one_head file (s.extern h at) = omega arith
one_head file (s.function h b at) = omega arith
one_head file (s.stateset n ss at) = omega arith
one_head file (s.abstract n ss at) = omega arith
one_head file (s.struct n ps ss xs r at) = omega arith
one_head file (s.variant n ps cs at) = omega arith

pub few_heads : (file : File) (ds : List Decl) → length (core_heads file ds) ≤ length ds
few_heads file [] = omega arith
few_heads file (d ∷ ds) =
    let both = length-append (core_heads_in file d) (core_heads file ds) in
    omega (arith, both, one_head file d, few_heads file ds)

pub as_many : (kinds : Kinds) (hs fs : List Func) → AreMade kinds hs fs → length fs ≡ length hs
as_many kinds [] [] m = refl
as_many kinds [] (f ∷ fs) m = absurd m
as_many kinds (h ∷ hs) [] m = absurd m
as_many kinds (h ∷ hs) (f ∷ fs) m = ap suc (as_many kinds hs fs m.1)

pub elaborated_few_functions : (t : Tree) (kinds : Kinds) (p : Program) → IsElaborated t kinds p → length p.fns ≤ 4096
elaborated_few_functions t kinds p e =
    let same = (told t.decls kinds e.told).same in
    let heads : length kinds.heads ≤ length t.decls = subst (λ k. length k.heads ≤ length t.decls) same (few_heads (kinds_of t.decls).file t.decls) in
    let all = as_many kinds kinds.heads p.fns (facts_of t kinds p e).functions.made in
    let few : length t.decls ≤ 4096 = e.tree.1 in
    omega (arith, heads, all, few)
