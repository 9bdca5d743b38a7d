use Rattle.std.proofs.Common.{◌≡◌, ◌++◌, OnOk, sym, subst}
use Rattle.std.proofs.lemmas.Fmt.{decimal_digit}
use Rattle.c_printer.proofs.write.write_number.Goals as goal

pub returns-then-number-lt10 : goal.returns-then-number-lt10
returns-then-number-lt10 c =
    subst (λ l. OnOk c.write_byte.result (c.write_byte.new.out.items ≡ c.args.out.now.items ++ l)) (sym (decimal_digit c.args.number c.if-number-lt10.true)) c.write_byte.ensures
