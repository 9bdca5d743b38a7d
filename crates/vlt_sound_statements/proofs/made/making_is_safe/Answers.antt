use Rattle.vlt_sound_statements.proofs.Builds.{build_safe}
use Rattle.vlt_sound_statements.proofs.Makes.{make_safe}
use Rattle.vlt_sound_statements.proofs.Swaps.{swap_safe}
use Rattle.vlt_sound_statements.proofs.made.making_is_safe.Goals as goal

pub returns-clause-made : goal.returns-clause-made
returns-clause-made c =
    λ x os r f typed keyed kinds y h ids frame w scoped agrees kinded pass.
    make_safe r f typed keyed kinds scoped w agrees x os kinded pass

pub returns-clause-built : goal.returns-clause-built
returns-clause-built c =
    λ v case os r f typed keyed kinds y h ids frame w scoped agrees kinded pass.
    build_safe r f typed kinds w agrees v case os kinded pass

pub returns-clause-swapped : goal.returns-clause-swapped
returns-clause-swapped c =
    λ x i v r f y h ids frame w typed keyed scoped agrees kinded pass. swap_safe r f typed w agrees x i v kinded pass
