use Rattle.vlt_all_faults_lines.proofs.Beginning.{shown_first}
use Rattle.vlt_all_faults_lines.proofs.paths_begin_with_the_first.Goals as goal

pub returns : goal.returns
returns c = λ p text lines variable x f first there told.
    let s = shown_first text p variable lines x f (c.listings_begin_with_the_first_fault.ensures p) first there told in
    (s.first, s.second, s.rest, s.shows, s.is)
