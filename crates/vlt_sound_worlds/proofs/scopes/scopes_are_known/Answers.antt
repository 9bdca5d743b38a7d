use Rattle.vlt_sound_worlds.proofs.Binding.{arm_scoped}
use Rattle.vlt_sound_worlds.proofs.Scoping.{simple_scoped, focus_scoped, form_scoped}
use Rattle.vlt_sound_worlds.proofs.Starting.{start_scoped}
use Rattle.vlt_sound_worlds.proofs.scopes.scopes_are_known.Goals as goal

pub returns-clause-start : goal.returns-clause-start
returns-clause-start c = λ p f x. start_scoped p f

pub returns-clause-simple : goal.returns-clause-simple
returns-clause-simple c = λ p f x ids s keyed. simple_scoped p keyed s

pub returns-clause-form : goal.returns-clause-form
returns-clause-form c = λ p f x ids around s keyed. form_scoped p keyed around s

pub returns-clause-arm : goal.returns-clause-arm
returns-clause-arm c = λ f x ids wanted vs keyed. arm_scoped keyed wanted vs

pub returns-clause-focus : goal.returns-clause-focus
returns-clause-focus c = λ p f x ids y z keyed. focus_scoped p keyed y z
