use Rattle.vlt_core.specs.View.{form_of}
use Rattle.vlt_paths.proofs.Pairing.{meets_none}
use Rattle.vlt_paths.proofs.together.meet_step.Goals as goal

pub returns : goal.returns
returns c p f ts h at x = meets_none h at p f ts (form_of c.args.form.now) x c.requires
