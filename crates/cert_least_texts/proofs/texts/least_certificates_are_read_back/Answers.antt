use Rattle.vlt_core.specs.View.{program_of}
use Rattle.cert_format.specs.Places.{unplaced_program}
use Rattle.cert_format.specs.Text.{marked}
use Rattle.cert_format.specs.Readings.{certificate}
use Rattle.cert_format_laws.specs.Versions.{is_ordered}
use Rattle.cert_least_texts.proofs.Readings.{one_of}
use Rattle.cert_least_texts.proofs.texts.least_certificates_are_read_back.Goals as goal

pub returns : goal.returns
returns c = λ p all body is has written.
    let q = unplaced_program (program_of p) in
    let v = c.least_certificates_verify.ensures p all is has in
    let text = (c.certificates_are_written.ensures (is_ordered q) q all v.fits).certificate body written in
    record {
      certificate = text;
      only = λ r notes other. one_of r q notes all (c.texts_have_one_reading.ensures (marked body) (certificate r notes) (certificate q all) other text);
    }
