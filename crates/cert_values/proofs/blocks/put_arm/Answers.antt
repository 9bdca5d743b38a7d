use Rattle.std.proofs.Common.{◌≡◌, subst, sym, OnOk}
use Rattle.cert_rows.specs.Rows.{arm}
use Rattle.cert_values.specs.Laid.{laid}
use Rattle.cert_values.proofs.Lengths.{arm_head_parts}
use Rattle.cert_values.proofs.blocks.put_arm.Goals as goal

pub returns : goal.returns
returns c =
    subst (λ h. OnOk c.put_arm_row.result (c.put_arm_row.new.out ≡ laid (arm.data_of h) c.args.out.now)) (sym (arm_head_parts c.args.item.now))
    (rw (c.as_slice.ensures, c.len.ensures, c.as_slice-2.ensures) at c.put_arm_row.ensures)
