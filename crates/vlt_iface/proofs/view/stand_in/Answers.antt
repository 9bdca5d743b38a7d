use Rattle.std.proofs.Common.{◌≡◌, sym, ap, ◌∙◌, subst, IfOk}
use Rattle.vlt_syntax.specs.View.{decl_of}
use Rattle.vlt_syntax_copies.specs.Shifted.{shifted}
use Rattle.vlt_syntax_copies.proofs.Zero.{shifted_by_nothing}
use Rattle.std.specs.Prelude.{option_map, unwrap_or}
use Rattle.vlt_iface.specs.declared.places.TheConstants.{RAISE}
use Rattle.vlt_iface.specs.Seen.{decl_seen}
use Rattle.vlt_iface.proofs.view.stand_in.Goals as goal

pub returns-in-Some : goal.returns-in-Some
returns-in-Some c =
    subst (λ o. IfOk c.shifted_decl.result (λ d. decl_of d ≡ unwrap_or (option_map (shifted RAISE) o) (decl_of c.args.wanted.now)))
    (sym (ap (option_map decl_seen) c.in-Some.is) ∙ c.giver.ensures)
    c.shifted_decl.ensures

pub returns-in-None : goal.returns-in-None
returns-in-None c =
    subst (λ o. IfOk c.shifted_decl-in-None.result (λ d. decl_of d ≡ unwrap_or (option_map (shifted RAISE) o) (decl_of c.args.wanted.now)))
    (sym (ap (option_map decl_seen) c.in-None.is) ∙ c.giver.ensures)
    (subst (λ x. IfOk c.shifted_decl-in-None.result (λ d. decl_of d ≡ x)) (shifted_by_nothing (decl_of c.args.wanted.now)) c.shifted_decl-in-None.ensures)
