-- A body that is accepted leaves what its clause says.
use Rattle.std.proofs.Common.{◌≡◌, true, false, if◌then◌else◌, [], refl, subst}
use Rattle.vlt_core.specs.Core.{Form, simple, call, choose, loop, switch, focus, scope, return, jump, Block, block, Stmts, done, next, Arms, no_arms, arm, Func}
use Rattle.vlt_core.specs.Maps.{HeldMap}
use Rattle.vlt_core.specs.Derives.{start_map, IsAcceptedFunc}
use Rattle.vlt_core.specs.KindedHeads.{unless}
use Rattle.vlt_core.specs.declared.rules.TheConstants as rule
use Rattle.vlt_core.specs.KindedScopes.{Ids}
use Rattle.vlt_core.specs.KindedBodies as kinded
use Rattle.vlt_core.specs.KindedBodies.{first_ids, body_rows, end_broken, stmts_rows, ids_following_stmts}
use Rattle.vlt_meaning.specs.World.{World, Frame}
use Rattle.vlt_meaning.specs.Step.{Step, goes, jumps, leaves, ends}
use Rattle.vlt_meaning.specs.Run.{Setup, Meaning, does_stmts}
use Rattle.vlt_meaning_laws.specs.Ends.{form_ends, block_ends, list_ends, arms_end, Stops}
use Rattle.vlt_meaning_laws.proofs.Ends.{list_stops}
use Rattle.vlt_sound_worlds.specs.Agrees.{Context, Agrees}
use Rattle.vlt_sound_worlds.specs.Safe.{Safe}
use Rattle.vlt_sound_worlds.proofs.Empty.{both_so, unless_so}
use Rattle.vlt_sound_worlds.specs.Scoped.{IsScoped}
use Rattle.vlt_sound_calls.specs.Returned.{IsEntered, returns_to}
use Rattle.vlt_sound_statements.specs.Kinded.{BreakNone}
use Rattle.vlt_sound_statements.specs.Sites.{Site, comes_to}
use Rattle.vlt_sound_statements.specs.Statements.{RestIsSafe}
use Rattle.vlt_sound_statements.specs.Parts.{HasSafeParts}
use Rattle.vlt_sound_statements.proofs.StatementsLaws.{stmts_safe}

-- ---- a list that ends

mutual
  form_last : (s : Form) → kinded.ends s ≡ true → form_ends s ≡ true
  form_last (return value) e = refl
  form_last (jump continues) e = refl
  form_last (scope b) e = block_last b e
  form_last (choose x a b) e =
      let both = both_so (kinded.block_ends a) (kinded.block_ends b) e in rw (block_last a both.0, block_last b both.1) refl
  form_last (switch v arms end) e = arms_last arms e
  form_last (simple s) e = cc
  form_last (call g target keys args) e = cc
  form_last (loop x b) e = cc
  form_last (focus y z b) e = cc

  block_last : (b : Block) → kinded.block_ends b ≡ true → block_ends b ≡ true
  block_last (block ss bound end) e = list_last ss e

  list_last : (ss : Stmts) → kinded.list_ends false ss ≡ true → list_ends ss ≡ true
  list_last done e = cc
  list_last (next at s done) e = form_last s e
  list_last (next at s (next at' s' rest)) e = list_last (next at' s' rest) e

  arms_last : (arms : Arms) → kinded.arms_end arms ≡ true → arms_end arms ≡ true
  arms_last no_arms e = refl
  arms_last (arm c vs b rest) e =
      let both = both_so (kinded.block_ends b) (kinded.arms_end rest) e in rw (block_last b both.0, arms_last rest both.1) refl

-- ---- bodies

module _ (r : Setup) (rest_of : Meaning) (f : Func) (parts : HasSafeParts r rest_of f) (rest : RestIsSafe r rest_of f)
    (c : Context) where
  -- the site of a whole body
  abbrev outermost : (breaks turns : HeldMap) → Site
  outermost breaks turns = record {
    context = c;
    around = record { jumps = false; returns = true };
    left = [];
    breaks = breaks;
    turns = turns;
    outer = first_ids r.program f;
  }

  -- nothing comes out of it but its returns
  returned : (breaks turns k : HeldMap) (ids : Ids) (a : Step) → Stops a →
      Safe (comes_to r.program f (outermost breaks turns) k ids) a → Safe (returns_to r.program f c) a
  returned breaks turns k ids (goes frame w) stops safe = absurd (stops.not_on frame w refl)
  returned breaks turns k ids (jumps d frame w) stops safe = let q = safe.allowed in cc
  returned breaks turns k ids (leaves v kept w) stops safe = safe.returned
  returned breaks turns k ids (ends o w) stops safe = safe

  pub body_safe : f.external ≡ false → IsAcceptedFunc r.program f → BreakNone (body_rows r.program f) →
      end_broken r.program f ≡ [] → IsEntered r.program f c → IsScoped f c (first_ids r.program f) → (frame : Frame) (w : World) →
      Agrees r.program f c (start_map r.program f) (first_ids r.program f) [] frame w.objects →
      Safe (returns_to r.program f c) (does_stmts r rest_of f f.body frame w)
  body_safe internal accepted rows last entered scoped frame w agrees =
      let s = outermost accepted.0 accepted.1 in
      let body = accepted.2.1 in
      let rows_now = subst (λ b. BreakNone (if b then [] else stmts_rows r.program f s.around (first_ids r.program f) false f.body)) internal rows in
      let ends_now = unless_so (kinded.list_ends false f.body) rule.NO_END (subst (λ b. (if b then [] else unless (kinded.list_ends false f.body) rule.NO_END) ≡ []) internal last) in
      returned accepted.0 accepted.1 body.0 (ids_following_stmts r.program f f.body (first_ids r.program f)) (does_stmts r rest_of f f.body frame w)
      (list_stops r rest_of f f.body (list_last f.body ends_now) frame w)
      (stmts_safe r rest_of f parts rest f.body s (start_map r.program f) body.0 (first_ids r.program f) false frame w
      (record { entered = entered; scoped = scoped; outer = λ v e. e }) rows_now body.1 agrees)
