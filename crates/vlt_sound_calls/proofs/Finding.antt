-- What was found where a step went on, and what it says.
use Rattle.std.proofs.Common.{◌≡◌, ℕ, Bool, true, false, Option, Some, None, Ok, Err, refl, ap}
use Rattle.vlt_meaning.specs.World as world
use Rattle.vlt_meaning.specs.World.{Owner, out, is_out, Object, Reason}
use Rattle.vlt_meaning.specs.Found.{Found, ◌>>=◌, or_fault, Named, if_so}
use Rattle.vlt_meaning.specs.Objects.{named_in}

pub record WasFound {A B : Type 0} (a : Found A) (go : A → Found B) (b : B) : Type 0 where
  pub first : A
  pub was : a ≡ Ok first
  pub rest : go first ≡ Ok b

pub found_then : {A B : Type 0} (a : Found A) (go : A → Found B) (b : B) → (a >>= go) ≡ Ok b → WasFound a go b
found_then (Ok x) go b e = record { first = x; was = refl; rest = e }
found_then (Err o) go b e = cc

pub same_ok : {A : Type 0} (a b : A) → ◌≡◌ {A = Found A} (Ok a) (Ok b) → a ≡ b
same_ok a b e = cc

pub was_there : {A : Type 0} (r : Reason) (o : Option A) (a : A) → or_fault r o ≡ Ok a → o ≡ Some a
was_there r (Some b) a e = ap Some (same_ok b a e)
was_there r None a e = cc

pub was_so : (b : Bool) (r : Reason) (m n : Named) → if_so b r m ≡ Ok n → b ≡ true
was_so true r m n e = refl
was_so false r m n e = cc

pub was_named : (n : ℕ) (o : Option Object) (m : Named) → named_in n o ≡ Ok m → o ≡ Some m.object
was_named n (Some o) m e = ap (λ m. Some m.object) (same_ok (record { number = n; object = o }) m e)
was_named n None m e = cc

pub out_is : (q : Owner) → is_out q ≡ true → q ≡ out
out_is out e = refl
out_is (world.held d k) e = cc
out_is (world.lent d k) e = cc
out_is world.loose e = cc
out_is (world.inside n) e = cc
out_is (world.adopted_by n) e = cc
out_is world.gone e = cc
