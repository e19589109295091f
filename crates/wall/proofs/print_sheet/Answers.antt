-- `wall::print_sheet` meets its contract. Assumes nothing.
use native.Mathlib.Omega.{arith}
use Rattle.wall.proofs.Sheets.{sheet-inside, sheet-refused}
use Rattle.wall.proofs.print_sheet.Goals as goal

pub hand_out-requires : goal.hand_out-requires
hand_out-requires c = omega (arith, sheet-inside _ _ _ _ _ _ c.in-Ok.ensures, c.large_buffer-out.ensures)

pub tell_refusal-requires : goal.tell_refusal-requires
tell_refusal-requires c = rw c.in-Err-Refused.field-0-is (sheet-refused _ _ _ _ _ _ (rw c.in-Err-Refused.field-0-is at c.in-Err-Refused.ensures) (omega (arith, c.large_buffer-out.ensures)))
