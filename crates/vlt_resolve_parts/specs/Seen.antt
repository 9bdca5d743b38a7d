-- What the code has of the names of arms and cases, as plain data.
use Rattle.std.specs.Prelude.{ℕ, List, map}
use Rattle.std.specs.Borrow.{Bor}

abbrev pub texts_seen : List (Bor (List ℕ)) → List (List ℕ)
texts_seen = map (λ n. n.now)
