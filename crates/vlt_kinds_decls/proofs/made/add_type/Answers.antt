use Rattle.vlt_kinds_decls.proofs.Known.{known_more}
use Rattle.vlt_kinds_decls.proofs.made.add_type.Goals as goal

pub returns-in_ok-push-in-Abstract-clause-known : goal.returns-in_ok-push-in-Abstract-clause-known
returns-in_ok-push-in-Abstract-clause-known c =
    known_more _ _ _ _ c.in_ok-push-in-Abstract.ensures.ok c.requires.known c.in_ok-made-in-Abstract.ensures.known

pub returns-in_ok-push-in-Struct-clause-known : goal.returns-in_ok-push-in-Struct-clause-known
returns-in_ok-push-in-Struct-clause-known c =
    known_more _ _ _ _ c.in_ok-push-in-Struct.ensures.ok c.requires.known c.in_ok-made-in-Struct.ensures.known

pub returns-in_ok-push-in-Variant-clause-known : goal.returns-in_ok-push-in-Variant-clause-known
returns-in_ok-push-in-Variant-clause-known c =
    known_more _ _ _ _ c.in_ok-push-in-Variant.ensures.ok c.requires.known c.in_ok-made-in-Variant.ensures.known
