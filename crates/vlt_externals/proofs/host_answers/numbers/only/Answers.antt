use Rattle.std.proofs.Common.{◌+◌, refl, subst, arith}
use Rattle.vlt_base.specs.States.{has_state}
use Rattle.vlt_externals.specs.HostAnswers.Read.{IsFirst}
use Rattle.vlt_externals.proofs.OfHostAnswers.Members.{only_none, only_one, only_many}
use Rattle.vlt_externals.proofs.host_answers.numbers.only.Goals as goal

pub returns-in_default : goal.returns-in_default
returns-in_default c = only_none (has_state c.args.states) (subst (IsFirst (has_state c.args.states) 0 32) c.in_default.is (c.first_member.ensures 32 refl))

pub overflow_add-s : goal.overflow_add-s
overflow_add-s c =
    let f = subst (IsFirst (has_state c.args.states) 0 32) c.in-Some.is (c.first_member.ensures 32 refl) in
    let l = f.1 in omega (arith, l)

pub first_member-requires-2 : goal.first_member-requires-2
first_member-requires-2 c =
    let f = subst (IsFirst (has_state c.args.states) 0 32) c.in-Some.is (c.first_member.ensures 32 refl) in
    let l = f.1 in omega (arith, l)

pub returns-in-None : goal.returns-in-None
returns-in-None c =
    only_one (has_state c.args.states) c.in-Some.s (subst (IsFirst (has_state c.args.states) 0 32) c.in-Some.is (c.first_member.ensures 32 refl))
    (λ n all. subst (IsFirst (has_state c.args.states) (c.in-Some.s + 1) n) c.in-None.is (c.first_member-2.ensures n all))

pub returns-in-Some-first_member : goal.returns-in-Some-first_member
returns-in-Some-first_member c =
    only_many (has_state c.args.states) c.in-Some.s c.in-Some-first_member.field-0 (subst (IsFirst (has_state c.args.states) 0 32) c.in-Some.is (c.first_member.ensures 32 refl))
    (λ n all. subst (IsFirst (has_state c.args.states) (c.in-Some.s + 1) n) c.in-Some-first_member.is (c.first_member-2.ensures n all))
