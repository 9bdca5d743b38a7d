use Rattle.std.proofs.Common.{◌≡◌, MatchOption, map, sym, ap, ap₂, ◌∙◌, subst}
use Rattle.vlt_core.specs.View as view
use Rattle.c_syntax.specs.C as plain
use Rattle.c_syntax.specs.View.{func_of, program_of}
use Rattle.c_match.specs.Pieces.{program_pieces}
use Rattle.c_match.specs.Seen.{piece_seen, PartAt}
use Rattle.c_match.specs.Whole.{whole_of}
use Rattle.c_match.proofs.Places.{told}
use Rattle.c_match.proofs.Saying.{pieces_say_all}
use Rattle.c_match.proofs.matching.first_differing.Goals as goal

pub unreachable-requires : goal.unreachable-requires
unreachable-requires c =
    let lowering = c.args.lowering.now in
    let given = c.args.given.now in
    let xs = map piece_seen c.as_slice-3.result.now in
    let ys = map piece_seen c.as_slice-4.result.now in
    let wanted : xs ≡ program_pieces (whole_of lowering) =
    ap (map piece_seen) c.as_slice-3.ensures ∙ c.in_ok-wanted.ensures
    ∙ ap₂ (λ g f. program_pieces (let x : plain.Program = record { glue = map func_of g; fns = map func_of f; main = lowering.main } in x)) c.as_slice-glue.ensures c.as_slice-fns.ensures in
    let found : ys ≡ program_pieces (program_of given) =
    ap (map piece_seen) c.as_slice-4.ensures ∙ c.in_ok-found.ensures
    ∙ ap₂ (λ g f. program_pieces (let x : plain.Program = record { glue = map func_of g; fns = map func_of f; main = c.from-main.result } in x)) c.as_slice.ensures c.as_slice-2.ensures
    ∙ ap (λ m. program_pieces (let x : plain.Program = record { glue = map func_of given.glue; fns = map func_of given.fns; main = m } in x)) c.from-main.ensures in
    let same = subst (λ r. MatchOption r (xs ≡ ys) (PartAt xs ys)) c.in-None.is c.first_apart.ensures in
    c.requires.other (pieces_say_all (program_of given) (whole_of lowering) (sym found ∙ sym same ∙ wanted))

pub returns : goal.returns
returns c =
    let p = view.program_of c.args.program.now in
    let lowering = c.args.lowering.now in
    let given = c.args.given.now in
    let xs = map piece_seen c.as_slice-3.result.now in
    let ys = map piece_seen c.as_slice-4.result.now in
    let wanted : xs ≡ program_pieces (whole_of lowering) =
    ap (map piece_seen) c.as_slice-3.ensures ∙ c.in_ok-wanted.ensures
    ∙ ap₂ (λ g f. program_pieces (let x : plain.Program = record { glue = map func_of g; fns = map func_of f; main = lowering.main } in x)) c.as_slice-glue.ensures c.as_slice-fns.ensures in
    let found : ys ≡ program_pieces (program_of given) =
    ap (map piece_seen) c.as_slice-4.ensures ∙ c.in_ok-found.ensures
    ∙ ap₂ (λ g f. program_pieces (let x : plain.Program = record { glue = map func_of g; fns = map func_of f; main = c.from-main.result } in x)) c.as_slice.ensures c.as_slice-2.ensures
    ∙ ap (λ m. program_pieces (let x : plain.Program = record { glue = map func_of given.glue; fns = map func_of given.fns; main = m } in x)) c.from-main.ensures in
    let part = subst (λ r. MatchOption r (xs ≡ ys) (PartAt xs ys)) c.in-Some.is c.first_apart.ensures in
    let owners = c.in_ok-owners.owners in
    told p (program_of given) xs ys owners.owners owners.statements c.in-Some.at c.number.result
    (wanted ∙ ap program_pieces c.requires.lowering) found c.in_ok-owners.ensures.owners c.in_ok-owners.ensures.statements part c.number.ensures
