use Rattle.std.proofs.Common.{refl}
use Rattle.statuses.proofs.Taking.{put-line}
use Rattle.statuses.proofs.lines.put_input.Goals as goal

pub returns-in-ImageEmpty : goal.returns-in-ImageEmpty
returns-in-ImageEmpty g c = put-line _ _ _ _ _ _ _ _ (rw (c.in-ImageEmpty.is) refl) c.put_all.ensures

pub returns-in-ImageTooLarge : goal.returns-in-ImageTooLarge
returns-in-ImageTooLarge g c = put-line _ _ _ _ _ _ _ _ (rw (c.in-ImageTooLarge.is) refl) c.put_two.ensures

pub returns-in-Line : goal.returns-in-Line
returns-in-Line g c = put-line _ _ _ _ _ _ _ _ (rw (c.in-Line.is) refl) c.put_one.ensures

pub returns-in-Assembly : goal.returns-in-Assembly
returns-in-Assembly g c = put-line _ _ _ _ _ _ _ _ (rw (c.in-Assembly.is) refl) c.put_assembly.ensures

pub returns-in-UartInput : goal.returns-in-UartInput
returns-in-UartInput g c = put-line _ _ _ _ _ _ _ _ (rw (c.in-UartInput.is) refl) c.put_two-in-UartInput.ensures

pub returns-in-DiskImage : goal.returns-in-DiskImage
returns-in-DiskImage g c = put-line _ _ _ _ _ _ _ _ (rw (c.in-DiskImage.is) refl) c.put_two-in-DiskImage.ensures

pub returns-in-Malformed : goal.returns-in-Malformed
returns-in-Malformed g c = put-line _ _ _ _ _ _ _ _ (rw (c.in-Malformed.is) refl) c.put_packet.ensures

pub returns-in-Truncated : goal.returns-in-Truncated
returns-in-Truncated g c = put-line _ _ _ _ _ _ _ _ (rw (c.in-Truncated.is) refl) c.put_two-in-Truncated.ensures

pub returns-in-Words : goal.returns-in-Words
returns-in-Words g c = put-line _ _ _ _ _ _ _ _ (rw (c.in-Words.is) refl) c.put_one-in-Words.ensures
