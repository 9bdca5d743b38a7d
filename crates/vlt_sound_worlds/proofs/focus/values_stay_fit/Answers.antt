use Rattle.vlt_sound_worlds.proofs.Fits.{fits_kept, fits_after, fits_before}
use Rattle.vlt_sound_worlds.proofs.focus.values_stay_fit.Goals as goal

pub returns-clause-kept : goal.returns-clause-kept
returns-clause-kept c = λ p s t names ty v grows same fits. fits_kept p grows names ty v same fits

pub returns-clause-following : goal.returns-clause-following
returns-clause-following c = λ p s names keys ty v fits. fits_after p s names keys ty v fits

pub returns-clause-before : goal.returns-clause-before
returns-clause-before c = λ p s names keys ty v fits. fits_before p s names keys ty v fits
