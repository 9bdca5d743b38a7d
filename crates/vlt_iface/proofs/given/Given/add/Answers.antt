use Rattle.std.proofs.Common.{[], ◌∷◌, ◌++◌, sym, ap, ◌∙◌}
use Rattle.std.specs.List.{find}
use Rattle.std.proofs.lemmas.List.{map-append}
use Rattle.vlt_syntax.specs.View.{decl_of}
use Rattle.vlt_iface.specs.View.{gives}
use Rattle.vlt_iface.specs.Seen.{decl_seen, decls_seen}
use Rattle.vlt_iface.specs.Given.{giver_in}
use Rattle.vlt_iface.proofs.Tables.{givers_more, with_all}
use Rattle.vlt_iface.proofs.given.Given.add.Goals as goal

pub returns-clause-givers : goal.returns-clause-givers
returns-clause-givers c = λ i.
    givers_more (giver_in c.args.self.now) (giver_in (record c.note.new.self { all = c.push.new.self })) (decls_seen c.args.self.now.all) (decl_of c.args.decl.now)
    c.requires (λ k. with_all c.note.new.self c.push.new.self k ∙ c.in_ok-note.ensures.givers k) i ∙
    ap (find (gives i)) (sym
    (ap decls_seen (c.in_ok-push.ensures.ok ∙ ap (λ ds. ds ++ c.args.decl ∷ []) c.note.ensures.all) ∙
    map-append decl_seen c.args.self.now.all (c.args.decl ∷ [])))

pub returns-clause-all : goal.returns-clause-all
returns-clause-all c =
    ap decls_seen (c.in_ok-push.ensures.ok ∙ ap (λ ds. ds ++ c.args.decl ∷ []) c.note.ensures.all) ∙
    map-append decl_seen c.args.self.now.all (c.args.decl ∷ [])
