use Rattle.std.proofs.Common.{refl, sym, ap, ◌∙◌}
use Rattle.std.specs.Option.{unwrap_or}
use Rattle.vlt_base.proofs.Surely.{so}
use Rattle.c_lower.specs.Lowering.{lowered}
use Rattle.c_match.specs.Pieces.{program_pieces}
use Rattle.c_match.specs.Owned.{owned_lowering}
use Rattle.c_match.specs.Apart.{all_statements}
use Rattle.c_match.proofs.Apartness.{apart_once, never_apart, surely_apart}
use Rattle.c_match.proofs.Forgetting.{lowering_forgets}
use Rattle.c_match.proofs.Saying.{pieces_say_all}
use Rattle.c_match.proofs.apart_at_one.Goals as goal

pub returns : goal.returns
returns c = record {
  lowering = λ p n x. never_apart (owned_lowering p) (program_pieces (lowered p)) x.owner (lowering_forgets p) x.first;
  one =
      λ p x m n a b.
      let same = apart_once (owned_lowering p) (program_pieces x) a.owner b.owner a.first b.first in
      a.counted ∙ ap (λ o. unwrap_or o (all_statements p)) same ∙ sym b.counted;
  others =
      λ p x other.
      so (surely_apart (owned_lowering p) (program_pieces x)
      (λ e. other (pieces_say_all x (lowered p) (sym e ∙ lowering_forgets p))))
      (λ q. (unwrap_or q.0 (all_statements p), record { owner = q.0; first = q.1; counted = refl }));
}
