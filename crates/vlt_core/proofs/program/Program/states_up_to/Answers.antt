use Rattle.std.proofs.Common.{◌≡◌, ◌&&◌, nat_lt, ℕ, sym, ap, ◌∙◌, subst}
use Rattle.vlt_base.specs.States.{has_state}
use Rattle.vlt_core.specs.View.{program_of}
use Rattle.vlt_core.specs.HeldView.{IsSetOrNone}
use Rattle.vlt_core.specs.Lookups.{leads_up, all_states, links_of_type, state_count}
use Rattle.vlt_core.proofs.Orders.{up_of_none, up_to_far, cut}
use Rattle.vlt_core.proofs.program.Program.states_up_to.Goals as goal
use Rattle.vlt_core.proofs.program.Program.states_up_to.Goals.{then-count-eq0-via-then-count-eq0, then-count-eq0-via-else-count-eq0+then-state-ge32}

pub returns-then-count-eq0 : goal.returns-then-count-eq0
returns-then-count-eq0 c =
    let p = program_of c.args.self.now in
    let t = c.args.t.0 in
    elim c.then-count-eq0.branch [
      | then-count-eq0-via-then-count-eq0 w ↦ up_of_none (state_count p t) (λ i. leads_up (links_of_type p t) 31 i c.args.state) (sym c.state_count-count.ensures ∙ w.if-count-eq0.true)
      | then-count-eq0-via-else-count-eq0+then-state-ge32 w ↦ up_to_far (all_states p t) (links_of_type p t) c.args.state w.if-state-ge32.true
    ]

pub returns : goal.returns
returns c =
    let p = program_of c.args.self.now in
    let t = c.args.t.0 in
    let same = cut c.first_up_to_32.result c.leading_up-up.result (state_count p t) (λ i. leads_up (links_of_type p t) 31 i c.args.state)
    (subst (λ n. (i : ℕ) → has_state c.first_up_to_32.result i ≡ (nat_lt i 32 && nat_lt i n)) c.state_count-count.ensures c.first_up_to_32.ensures)
    (λ i below. c.leading_up-up.ensures i below ∙ ap (λ ls. leads_up ls 31 i c.args.state) c.links.ensures) in
    subst (λ f. IsSetOrNone f c.both.result) same c.both.ensures
