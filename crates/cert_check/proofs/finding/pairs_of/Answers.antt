use Rattle.std.proofs.Common.{sym, ap, ◌∙◌}
use Rattle.cert_check.specs.Notes.{pairs_at, pairs_of}
use Rattle.cert_check.proofs.Lookups.{loop_around, loop_after, join_around, join_after}
use Rattle.cert_check.proofs.finding.pairs_of.Goals as goal

pub returns-in-Loop-Around : goal.returns-in-Loop-Around
returns-in-Loop-Around c =
    let i = c.args.given.now.instance in
    c.pairs_at.ensures ∙ ap (λ l. pairs_at l i) c.as_slice.ensures ∙ loop_around i c.args.given.now.notes.now _ c.args.n _ c.requires c.in-Some.ensures.some c.index-notes-i.is _ _ _ c.in-Loop-Around.is-0 ∙
    sym (ap (λ s. pairs_of s i c.args.given.now.notes.now c.args.n) c.in-Loop-Around.is-1)

pub returns-in-Loop-Following : goal.returns-in-Loop-Following
returns-in-Loop-Following c =
    let i = c.args.given.now.instance in
    c.pairs_at-in-Loop-Following.ensures ∙ ap (λ l. pairs_at l i) c.as_slice-in-Loop-Following.ensures ∙ loop_after i c.args.given.now.notes.now _ c.args.n _ c.requires c.in-Some.ensures.some c.index-notes-i.is _ _ _ c.in-Loop-Following.is-0 ∙
    sym (ap (λ s. pairs_of s i c.args.given.now.notes.now c.args.n) c.in-Loop-Following.is-1)

pub returns-in-Join-Following : goal.returns-in-Join-Following
returns-in-Join-Following c =
    let i = c.args.given.now.instance in
    c.pairs_at-in-Join-Following.ensures ∙ ap (λ l. pairs_at l i) c.as_slice-in-Join-Following.ensures ∙ join_after i c.args.given.now.notes.now _ c.args.n _ c.requires c.in-Some.ensures.some c.index-notes-i.is _ _ c.in-Join-Following.is-0 ∙
    sym (ap (λ s. pairs_of s i c.args.given.now.notes.now c.args.n) c.in-Join-Following.is-1)

pub returns-in-Join-Around : goal.returns-in-Join-Around
returns-in-Join-Around c =
    let i = c.args.given.now.instance in
    join_around i c.args.given.now.notes.now _ c.args.n _ c.requires c.in-Some.ensures.some c.index-notes-i.is _ _ c.in-Join-Around.is-0 ∙
    sym (ap (λ s. pairs_of s i c.args.given.now.notes.now c.args.n) c.in-Join-Around.is-1)
