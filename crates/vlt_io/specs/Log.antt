-- What a store with a log has read.
use Rattle.std.specs.Prelude.{ℕ, List, map}
use Rattle.vlt_io.specs.declared.logged.Logged.{Logged}

abbrev pub inner_of : {S : Type 0} → Logged S → S
inner_of s = s.inner

-- the bytes of each read, in order
abbrev pub log_of : {S : Type 0} → Logged S → List (List ℕ)
log_of s = map (λ v. v.items) s.log.items
