-- The points of each instance of a program with a least certificate show its notes.
use Rattle.std.proofs.Common.{false, List, map, subst}
use Rattle.vlt_base.proofs.Surely.{so}
use Rattle.vlt_core.specs.Core.{Tok, Func, Program}
use Rattle.vlt_core.specs.Bodies.{body_flow}
use Rattle.vlt_core.specs.Derives.{start_map, IsAcceptedFunc}
use Rattle.vlt_core.specs.Found.{Has}
use Rattle.vlt_core.specs.Instances.{instance}
use Rattle.vlt_core.specs.Least as least
use Rattle.vlt_core.specs.Least.{notes_in, IsLeast}
use Rattle.vlt_core_laws.specs.Fit.{IsFitBody}
use Rattle.vlt_core_laws.specs.Sweep.{Many, found_head_block, found_exit_block}
use Rattle.vlt_core_laws.proofs.Deriving.{accepted}
use Rattle.vlt_core_laws.proofs.Formed.{formed_bodies}
use Rattle.vlt_core_laws.proofs.Origins.{origin_is}
use Rattle.vlt_core_laws.proofs.Showing.{shows_block}
use Rattle.vlt_core_laws.proofs.Sweeping.{fits_block}
use Rattle.vlt_flow.proofs.OfNotes.Alike.{SameBlock}
use Rattle.vlt_points_laws.specs.Points.{AreFoundIn}
use Rattle.cert_least_laws.specs.LeastNotes.{note_at}
use Rattle.cert_least_laws.proofs.Holding.{least_at}
use Rattle.cert_least_laws.proofs.OneList.{one_least}
use Rattle.cert_least_laws.proofs.OfBodies.Agreeing.{read_alike}
use Rattle.cert_least_laws.proofs.OfBodies.Found.{none_faulty, shown_least}
use Rattle.cert_least_laws.proofs.OfBodies.Tables.{IsShown, surely_shown}
use Rattle.cert_points_laws.specs.Laws.{PointsShowCertificates}
use Rattle.cert_points_laws.specs.Noted.{AreNotedBlock}
use Rattle.cert_points_laws.proofs.Points.{OfBlock, noted_block}

module _ (p : Program) (f : Func) (fit : IsFitBody p f) (notes : List least.Note) (is : IsLeast p f notes) where
  derived : IsAcceptedFunc p f
  derived = accepted (body_flow p f) fit.scope (start_map p f) fit.scoped fit.absent (notes_in notes, is.local)

  -- what the notes that are found show, and that these are the least
  shown : (t : Tok) → IsShown p f fit → OfBlock (notes_in notes) t 0 (λ t. Has (start_map p f t)) (body_flow p f)
  shown t x = (
    x.notes,
    (
      subst (λ ns. SameBlock x.notes (notes_in ns) 0 (body_flow p f)) (one_least p f _ notes (shown_least p f fit x.notes x.shows x.local) is) (read_alike x.notes (body_flow p f)),
      shows_block (body_flow p f) x.notes 0 (λ t. Has (start_map p f t)) (λ t. false) (λ t i. found_head_block t (body_flow p f) 0 (Has (start_map p f t)) i) (λ t i. found_exit_block t (body_flow p f) 0 (Has (start_map p f t)) i)
          fit.fit.tame fit.fit.filled fit.start.good (none_faulty p f fit derived)
          (λ t. fits_block (body_flow p f) _ _ t 0 (Has (start_map p f t)) (record { there = λ i o b c d. d; back = λ i o d. d }) (record { there = λ i o b c d. d; back = λ i o d. d }))
          (record { around = x.shows.around; following = x.shows.following }),
    ),
  )

  pub body_shows : (t : Tok) (ms : List Many) → AreFoundIn p f t ms → AreNotedBlock (notes_in notes) t 0 (body_flow p f) ms
  body_shows t ms found = noted_block (notes_in notes) t (body_flow p f) fit.scope 0 (λ t. Has (start_map p f t)) ms fit.scoped found (so (surely_shown p f fit derived) (shown t))

pub points_show : PointsShowCertificates
points_show p all well is g i f o notes points there own at noted points_are =
    λ t among. body_shows p (instance p f o) (formed_bodies p g f o well there own (origin_is p f i o at)) (map (note_at i) notes)
    (((least_at p p.fns all is g f notes there noted).body own).least i o at)
    t (map (λ m. m t) points) (points_are.each t among)
