-- Some annotation holds in each instance of each body of an accepted program, and is written as notes.
use Rattle.std.proofs.Common.{◌≡◌, ◌<◌, ◌≤◌, ◌^◌, ⊎_elim, ℕ, false, [], length, Option, Some, slice_get, arith}
use Rattle.vlt_core.specs.Core as core
use Rattle.vlt_core.specs.Core.{Func, Program}
use Rattle.vlt_core.specs.Derives.{start_map, IsAccepted}
use Rattle.vlt_core.specs.Flow.{size_block}
use Rattle.vlt_core.specs.Instances.{instance, IsOrigin}
use Rattle.vlt_core.specs.Bodies.{body_flow}
use Rattle.vlt_core_laws.specs.Fit.{IsWellFormed}
use Rattle.vlt_core_laws.proofs.Formed.{formed_bodies}
use Rattle.vlt_core_laws.proofs.Deriving.{annotated}
use Rattle.vlt_flow.specs.Unfit as walk
use Rattle.vlt_flow.specs.Notes.Noted.{IsUnnoted}
use Rattle.cert_format.specs.Bodies.{count_list}
use Rattle.cert_fit_laws.proofs.Sizes.{flow_size_block}
use Rattle.cert_text_laws.specs.Texts.{most_of_function}
use Rattle.cert_emit.specs.Causes.{HasRefused, HasUnfit}
use Rattle.cert_verify_laws.specs.Causes.{HasFlows}

pub not_refused : (p : Program) → IsWellFormed p → IsAccepted p → HasRefused p → ⊥
not_refused p well accepted r =
    let o = r.in_some.origin in
    let f = instance p r.func o in
    let fit = formed_bodies p r.number r.func o well r.there r.with_body r.in_some.is in
    let some = annotated (body_flow p f) (start_map p f) fit.fit.jumping (accepted r.number r.func o r.there r.with_body r.in_some.is) in
    r.in_some.holds some.0 some.1

-- ---- statements are few

few_numbers : (n m : ℕ) → n ≡ m → m ≤ most_of_function → n < 2 ^ 32
few_numbers n m same few = omega (arith, same, few)

not_so_many : (n : ℕ) → n < 2 ^ 32 → 2 ^ 62 ≤ n → ⊥
not_so_many n few many = omega (arith, few, many)

-- ---- so each body can be walked and has notes

abbrev pub HaveNotes : Program → Type 0
HaveNotes p =
    (g : ℕ) (f : Func) (o : Option ℕ) → slice_get p.fns g ≡ Some f → f.external ≡ false → IsOrigin p f o →
    size_block (body_flow p (instance p f o)) < 2 ^ 32 →
    IsUnnoted (length f.keys) (length f.vars) (body_flow p (instance p f o)) (start_map p (instance p f o)) → ⊥

module _ (p : Program) (flows : HasFlows p) (few : (g : ℕ) (f : Func) → slice_get p.fns g ≡ Some f → count_list f.body ≤ most_of_function) (noted : HaveNotes p) where
  few_in : (g : ℕ) (f : Func) (o : Option ℕ) → slice_get p.fns g ≡ Some f → size_block (body_flow p (instance p f o)) < 2 ^ 32
  few_in g f o there = few_numbers _ _ (flow_size_block p (instance p f o) (core.block f.body [] f.end) []) (few g f there)

  can_walk : (g : ℕ) (f : Func) (o : Option ℕ) → slice_get p.fns g ≡ Some f → f.external ≡ false → IsOrigin p f o → walk.IsUnfit p (instance p f o) → ⊥
  can_walk g f o there own is (walk.no_flow none) = flows.flow g f o there own is none
  can_walk g f o there own is (walk.no_start none) = flows.start g f o there own is none
  can_walk g f o there own is (walk.many_statements many) = not_so_many _ (few_in g f o there) many

  pub not_unfit : HasUnfit p → ⊥
  not_unfit u =
      let o = u.in_some.origin in
      ⊎_elim (can_walk u.number u.func o u.there u.with_body u.in_some.is)
      (noted u.number u.func o u.there u.with_body u.in_some.is (few_in u.number u.func o u.there)) u.in_some.holds
