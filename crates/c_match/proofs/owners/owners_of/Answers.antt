use Rattle.std.proofs.Common.{◌≡◌, [], ◌∷◌, ◌++◌, length, map, replicate, flat_map, None, ap, ◌∙◌}
use Rattle.vlt_core.specs.View as view
use Rattle.c_syntax.specs.View.{func_of}
use Rattle.c_match.specs.Pieces.{func_pieces}
use Rattle.c_match.specs.Owners.{owners_in, bodies_from, number_after}
use Rattle.c_match.proofs.Owning.{all_after, all_owners}
use Rattle.c_match.proofs.owners.owners_of.Goals as goal

pub loop-func-init : goal.loop-func-init
loop-func-init c =
    let p = view.program_of c.args.program.now in
    let glue = map func_of c.args.glue.now in
    let first : c.push.new.owners ≡ None ∷ [] = c.in_ok-push.ensures ∙ ap (λ l. l ++ None ∷ []) c.new-owners.ensures in
    let outer : c.push-2.new.owners ≡ c.push.new.owners ++ replicate (length (flat_map func_pieces glue)) None =
    c.in_ok-push-2.ensures ∙ ap (λ k. c.push.new.owners ++ replicate k None) c.in_ok-externals.ensures in
    record {
      owners =
          ap (λ fs. c.push-2.new.owners ++ owners_in (bodies_from p 0 (map view.func_of fs))) c.as_slice-func-items.ensures
          ∙ all_owners p glue c.push.new.owners c.push-2.new.owners c.requires.glue first outer;
      counted = ap (λ fs. number_after 0 (map view.func_of fs)) c.as_slice-func-items.ensures ∙ all_after p;
    }
