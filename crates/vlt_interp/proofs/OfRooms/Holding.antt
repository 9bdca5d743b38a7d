-- Room that is counted.
use Rattle.std.proofs.Common.{◌≡◌, ◌≤◌, ◌<◌, ◌+◌, ◌*◌, ℕ, max, length, Option, Some, None, Result, Ok, Err, IfSome, ◌^◌, sym, ap, ◌∙◌, subst, arith}
use Rattle.std.specs.Result.{OkIff, result_ok}
use Rattle.std.specs.Option.{SomeIff}
use Rattle.std.proofs.lemmas.Option.{same_Some, none-some}
use Rattle.std.proofs.Math.Nat.{mul-le-mul_left}
use Rattle.vlt_core.specs.Core.{TypeDecl, Program}
use Rattle.vlt_core.specs.Lookups.{fields_in, fields_of}
use Rattle.vlt_core.specs.Widths.{greatest}
use Rattle.vlt_meaning_laws.specs.Machine.Bounds.{tall_of}
use Rattle.vlt_interp.specs.Tasks.Sizes.{parts_of, frame_slots, IsWide}
use Rattle.vlt_interp.specs.Rooms.Sorts.{parts_in_vars, parts_in_result, parts_in_type}
use Rattle.vlt_interp.specs.Rooms.Rooms.{HoldsFields, slots_of_frames, HoldsFrames, HoldsTasks}
use Rattle.vlt_interp.proofs.OfRooms.Lists.{fields_at_most}

-- a number that fits
pub some_fitted : (o : Option ℕ) (Q : Type 0) (n : ℕ) (P : ℕ → Type 0) → SomeIff o Q n → P n → IfSome o P
some_fitted None Q n P is holds = tt
some_fitted (Some x) Q n P is holds = subst P (sym is.1) holds

pub fitted : {E : Type 0} (r : Result ℕ E) (o : Option ℕ) (Q : Type 0) (n : ℕ) (P : ℕ → Type 0) → OkIff r Q n → o ≡ result_ok r → P n → IfSome o P
fitted (Ok x) o Q n P is e holds = subst (λ y. IfSome y P) (sym e) (subst P (sym is.1) holds)
fitted (Err x) o Q n P is e holds = subst (λ y. IfSome y P) (sym e) tt

-- the number of an answer
pub found_in : {E : Type 0} (r : Result ℕ E) (o : Option ℕ) (m x limit : ℕ) → OkIff r (m < limit) m → o ≡ result_ok r → o ≡ Some x → (x ≡ m) × (m < limit)
found_in (Ok y) o m x limit is e found = (same_Some x y (sym found ∙ e) ∙ is.1, is.0)
found_in (Err y) o m x limit is e found = absurd (none-some x (sym e ∙ found))

pub is_wide : (p : Program) (a b c m k n : ℕ) → a ≡ greatest (parts_in_vars p) p.fns → b ≡ greatest (parts_in_result p) p.fns → c ≡ greatest (parts_in_type p) p.types → m ≡ max a b → k ≡ max m c → n ≡ max k 1 → IsWide p n
is_wide p a b c m k n e f g u v w = record {
  some = omega arith;
  vars = omega (arith, e);
  results = omega (arith, f);
  fields = fields_at_most (greatest (λ d. parts_of p d.ty)) n p (omega arith) (omega (arith, g));
}

pub fields_held : (p : Program) (most width n : ℕ) → most ≡ greatest (λ (t : TypeDecl). length (fields_in (Some t))) p.types → most < 2 ^ 32 → n ≡ most * width → HoldsFields p width n
fields_held p most width n e few is = record {
  few = λ t. let a = fields_at_most length most p (omega arith) (omega (arith, e)) t in omega (arith, a, few);
  fields = λ t.
      let a = fields_at_most length most p (omega arith) (omega (arith, e)) t in
      let b = mul-le-mul_left width a in
      omega (arith, b, is);
}

-- the operands of a value and of an object stand after the frames
pub frames_held : (p : Program) (depth width frame most operands n : ℕ) → frame ≡ frame_slots p width → most ≡ greatest (λ (t : TypeDecl). length (fields_in (Some t))) p.types
    → operands ≡ max most width * width → n ≡ (depth + 1) * frame + operands → HoldsFrames p depth width n
frames_held p depth width frame most operands n f e o is =
    let g : (depth + 1) * frame ≡ slots_of_frames p depth width = ap (λ x. (depth + 1) * x) f in
    record {
      parts = let b : width * width ≤ max most width * width = (let k : width ≤ max most width = omega arith in let l = mul-le-mul_left width k in omega (arith, l)) in omega (arith, b, g, o, is);
      fields = λ t.
          let a : length (fields_of p t) ≤ max most width = (let k = fields_at_most length most p (omega arith) (omega (arith, e)) t in omega (arith, k)) in
          let b : length (fields_of p t) * width ≤ max most width * width = (let l = mul-le-mul_left width a in omega (arith, l)) in
          omega (arith, b, g, o, is);
    }

pub tasks_held : (p : Program) (depth tall n : ℕ) → tall ≡ tall_of p → n ≡ depth * (tall + 1) + 3 → HoldsTasks p depth n
tasks_held p depth tall n e is = let g = ap (λ x. depth * (x + 1) + 3) e in omega (arith, g, is)
