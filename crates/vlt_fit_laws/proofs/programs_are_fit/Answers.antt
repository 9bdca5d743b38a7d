use Rattle.vlt_fit_laws.proofs.Fit.{fit}
use Rattle.vlt_fit_laws.proofs.programs_are_fit.Goals as goal

pub returns : goal.returns
returns c = fit (record {
  kinded = c.elaborated_programs_are_kinded.ensures;
  states = c.elaborated_programs_have_states.ensures;
  arms = c.elaborated_programs_have_arms.ensures;
  proper = c.elaborated_programs_have_proper_bodies.ensures;
  sets = c.elaborated_programs_have_sets.ensures;
  vars = c.elaborated_programs_have_few_variables.ensures;
  keys = c.elaborated_programs_have_few_keys.ensures;
  functions = c.elaborated_programs_have_few_functions.ensures;
  blank = c.elaborated_programs_have_blank_externals.ensures;
  small = c.declared_sets_are_small.ensures;
  fields = c.declared_structs_are_small.ensures;
  narrow = c.declared_externals_are_narrow.ensures;
})
