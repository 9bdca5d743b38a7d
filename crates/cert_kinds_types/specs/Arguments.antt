-- The arguments of a type against the header's types, as `ty_broken` has them.
use Rattle.std.specs.Prelude.{ℕ, nat_lt, ◌==◌, Bool, false, List, [], ◌∷◌, ◌++◌, length, Option, Some, None, slice_get}
use Rattle.vlt_core.specs.Core.{States, Ty, owning, variant, TypeDecl, Header, Program}
use Rattle.vlt_core.specs.Types.{args_of, header_of}
use Rattle.vlt_core.specs.KindedHeads.{Rules, unless, when_some, shape_broken}
use Rattle.vlt_core.specs.declared.rules.TheConstants as rule

-- what each key breaks that stands for a header's key of a given type
abbrev pub args_broken : (arg_broken : (key type : ℕ) → Rules) → List ℕ → Header → Rules
args_broken go (k ∷ ks) (h ∷ hs) = when_some h (go k) ++ args_broken go ks hs
args_broken go _ _ = []

-- the header's key has this type
abbrev pub fits : ℕ → Option ℕ → Bool
fits t None = false
fits t (Some u) = t == u

-- a key of a part's type that stands for a header's key of this type
abbrev pub part_arg_broken : Header → (key type : ℕ) → Rules
part_arg_broken header k t = when_some (slice_get header k) (λ h. unless (fits t h) rule.KEY_ARGUMENT)

-- a key of a part's type is a position of the header
abbrev pub part_key_broken : Header → (key : ℕ) → Rules
part_key_broken header k = unless (nat_lt k (length header)) rule.KEY_NOT_IN_HEADER

-- a declared type in a declaration or in a function, where it is found
abbrev pub declared_broken : Program → (arg_broken : (key type : ℕ) → Rules) → Ty → ℕ → Option TypeDecl → Rules
declared_broken p go ty t None = rule.NOT_A_TYPE ∷ []
declared_broken p go ty t (Some d) =
    unless (length (args_of ty) == length (header_of p t)) rule.KEY_COUNT ++
    shape_broken p ty ++
    args_broken go (args_of ty) (header_of p t)

-- the parts of a type that its prefix is read by
abbrev pub bare_owning : ℕ → States → Ty
bare_owning t states = owning states t []

abbrev pub bare_variant : ℕ → Ty
bare_variant t = variant t []
