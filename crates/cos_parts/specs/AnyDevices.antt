-- A device of any kind: each call is that of the device which it is.
use Rattle.std.specs.Prelude.{◌≡◌, ℕ, ◌<◌, ◌≤◌, Option, Some, None}
use Rattle.cosim_model.specs.declared.values.Access.{Access}
use Rattle.cosim_model.specs.declared.values.Answer.{Answer}
use Rattle.cosim_model.specs.declared.values.Caps.{Caps}
use Rattle.cosim_model.specs.declared.values.Reply.{Reply}
use Rattle.cosim_model.specs.declared.values.Want.{Want}
use Rattle.cosim_model.specs.Parts.{DeviceModel, IsDevice, IsWant}
use Rattle.dev_timer.specs.Timers.{timer_model}
use Rattle.dev_timer.specs.TimerLaws.{timer_lawful}
use Rattle.dev_uart.specs.Uarts.{uart_model}
use Rattle.dev_uart.specs.UartLaws.{uart_lawful}
use Rattle.dev_dma.specs.Dmas.{dma_model}
use Rattle.dev_dma.specs.DmaLaws.{dma_lawful}
use Rattle.dev_disk.specs.Disks.{disk_model}
use Rattle.dev_disk.specs.DiskLaws.{disk_lawful}
use Rattle.cos_parts.specs.Nulls.{null_model, null_lawful}
use Rattle.cos_parts.specs.declared.any_device.AnyDevice.{AnyDevice}
use Rattle.cos_parts.specs.declared.any_device.AnyDevice.TheVariants.{Null, Timer, Uart, Dma, Disk}

abbrev pub any_access : AnyDevice → ℕ → Access → AnyDevice × Answer
any_access (Null s) tick a = (Null (null_model.access s tick a).0, (null_model.access s tick a).1)
any_access (Timer s) tick a = (Timer (timer_model.access s tick a).0, (timer_model.access s tick a).1)
any_access (Uart s) tick a = (Uart (uart_model.access s tick a).0, (uart_model.access s tick a).1)
any_access (Dma s) tick a = (Dma (dma_model.access s tick a).0, (dma_model.access s tick a).1)
any_access (Disk s) tick a = (Disk (disk_model.access s tick a).0, (disk_model.access s tick a).1)

abbrev pub any_advance : AnyDevice → ℕ → AnyDevice
any_advance (Null s) tick = Null (null_model.advance s tick)
any_advance (Timer s) tick = Timer (timer_model.advance s tick)
any_advance (Uart s) tick = Uart (uart_model.advance s tick)
any_advance (Dma s) tick = Dma (dma_model.advance s tick)
any_advance (Disk s) tick = Disk (disk_model.advance s tick)

abbrev pub any_want : AnyDevice → Option Want
any_want (Null s) = null_model.want s
any_want (Timer s) = timer_model.want s
any_want (Uart s) = uart_model.want s
any_want (Dma s) = dma_model.want s
any_want (Disk s) = disk_model.want s

abbrev pub any_feed : AnyDevice → Reply → AnyDevice
any_feed (Null s) reply = Null (null_model.feed s reply)
any_feed (Timer s) reply = Timer (timer_model.feed s reply)
any_feed (Uart s) reply = Uart (uart_model.feed s reply)
any_feed (Dma s) reply = Dma (dma_model.feed s reply)
any_feed (Disk s) reply = Disk (disk_model.feed s reply)

abbrev pub any_seen : AnyDevice → ℕ
any_seen (Null s) = null_model.seen s
any_seen (Timer s) = timer_model.seen s
any_seen (Uart s) = uart_model.seen s
any_seen (Dma s) = dma_model.seen s
any_seen (Disk s) = disk_model.seen s

abbrev pub any_due : AnyDevice → ℕ
any_due (Null s) = null_model.due s
any_due (Timer s) = timer_model.due s
any_due (Uart s) = uart_model.due s
any_due (Dma s) = dma_model.due s
any_due (Disk s) = disk_model.due s

abbrev pub any_left : AnyDevice → ℕ
any_left (Null s) = null_model.left s
any_left (Timer s) = timer_model.left s
any_left (Uart s) = uart_model.left s
any_left (Dma s) = dma_model.left s
any_left (Disk s) = disk_model.left s

abbrev pub any_needs : AnyDevice → Caps
any_needs (Null s) = null_model.needs s
any_needs (Timer s) = timer_model.needs s
any_needs (Uart s) = uart_model.needs s
any_needs (Dma s) = dma_model.needs s
any_needs (Disk s) = disk_model.needs s

abbrev pub any_model : DeviceModel AnyDevice
any_model = record {
  access = any_access;
  advance = any_advance;
  want = any_want;
  feed = any_feed;
  seen = any_seen;
  due = any_due;
  left = any_left;
  needs = any_needs;
}

-- The laws, device by device.

access_keeps : (s : AnyDevice) (t : ℕ) (a : Access) (w : Want) → any_seen s ≤ t → any_want s ≡ Some w
    → (any_want (any_access s t a).0 ≡ Some w) × (any_due (any_access s t a).0 ≡ any_due s)
access_keeps (Null s) = null_lawful.access_keeps s
access_keeps (Timer s) = timer_lawful.access_keeps s
access_keeps (Uart s) = uart_lawful.access_keeps s
access_keeps (Dma s) = dma_lawful.access_keeps s
access_keeps (Disk s) = disk_lawful.access_keeps s

advance_keeps : (s : AnyDevice) (t : ℕ) (w : Want) → any_seen s ≤ t → any_want s ≡ Some w
    → (any_want (any_advance s t) ≡ Some w) × (any_due (any_advance s t) ≡ any_due s)
advance_keeps (Null s) = null_lawful.advance_keeps s
advance_keeps (Timer s) = timer_lawful.advance_keeps s
advance_keeps (Uart s) = uart_lawful.advance_keeps s
advance_keeps (Dma s) = dma_lawful.advance_keeps s
advance_keeps (Disk s) = disk_lawful.advance_keeps s

feed_left : (s : AnyDevice) (r : Reply) (w : Want) → any_want s ≡ Some w → any_left (any_feed s r) < any_left s
feed_left (Null s) = null_lawful.feed_left s
feed_left (Timer s) = timer_lawful.feed_left s
feed_left (Uart s) = uart_lawful.feed_left s
feed_left (Dma s) = dma_lawful.feed_left s
feed_left (Disk s) = disk_lawful.feed_left s

left_none : (s : AnyDevice) → any_left s ≡ 0 → any_want s ≡ None
left_none (Null s) = null_lawful.left_none s
left_none (Timer s) = timer_lawful.left_none s
left_none (Uart s) = uart_lawful.left_none s
left_none (Dma s) = dma_lawful.left_none s
left_none (Disk s) = disk_lawful.left_none s

none_left : (s : AnyDevice) → any_want s ≡ None → any_left s ≡ 0
none_left (Null s) = null_lawful.none_left s
none_left (Timer s) = timer_lawful.none_left s
none_left (Uart s) = uart_lawful.none_left s
none_left (Dma s) = dma_lawful.none_left s
none_left (Disk s) = disk_lawful.none_left s

left_most : (s : AnyDevice) → any_left s ≤ 4096
left_most (Null s) = null_lawful.left_most s
left_most (Timer s) = timer_lawful.left_most s
left_most (Uart s) = uart_lawful.left_most s
left_most (Dma s) = dma_lawful.left_most s
left_most (Disk s) = disk_lawful.left_most s

access_seen : (s : AnyDevice) (t : ℕ) (a : Access) → any_seen s ≤ t → any_seen (any_access s t a).0 ≡ t
access_seen (Null s) = null_lawful.access_seen s
access_seen (Timer s) = timer_lawful.access_seen s
access_seen (Uart s) = uart_lawful.access_seen s
access_seen (Dma s) = dma_lawful.access_seen s
access_seen (Disk s) = disk_lawful.access_seen s

advance_seen : (s : AnyDevice) (t : ℕ) → any_seen s ≤ t → any_seen (any_advance s t) ≡ t
advance_seen (Null s) = null_lawful.advance_seen s
advance_seen (Timer s) = timer_lawful.advance_seen s
advance_seen (Uart s) = uart_lawful.advance_seen s
advance_seen (Dma s) = dma_lawful.advance_seen s
advance_seen (Disk s) = disk_lawful.advance_seen s

feed_seen : (s : AnyDevice) (r : Reply) → any_seen (any_feed s r) ≡ any_seen s
feed_seen (Null s) = null_lawful.feed_seen s
feed_seen (Timer s) = timer_lawful.feed_seen s
feed_seen (Uart s) = uart_lawful.feed_seen s
feed_seen (Dma s) = dma_lawful.feed_seen s
feed_seen (Disk s) = disk_lawful.feed_seen s

due_seen : (s : AnyDevice) → any_due s ≤ any_seen s
due_seen (Null s) = null_lawful.due_seen s
due_seen (Timer s) = timer_lawful.due_seen s
due_seen (Uart s) = uart_lawful.due_seen s
due_seen (Dma s) = dma_lawful.due_seen s
due_seen (Disk s) = disk_lawful.due_seen s

access_due : (s : AnyDevice) (t : ℕ) (a : Access) → any_seen s ≤ t → any_due s ≤ any_due (any_access s t a).0
access_due (Null s) = null_lawful.access_due s
access_due (Timer s) = timer_lawful.access_due s
access_due (Uart s) = uart_lawful.access_due s
access_due (Dma s) = dma_lawful.access_due s
access_due (Disk s) = disk_lawful.access_due s

advance_due : (s : AnyDevice) (t : ℕ) → any_seen s ≤ t → any_due s ≤ any_due (any_advance s t)
advance_due (Null s) = null_lawful.advance_due s
advance_due (Timer s) = timer_lawful.advance_due s
advance_due (Uart s) = uart_lawful.advance_due s
advance_due (Dma s) = dma_lawful.advance_due s
advance_due (Disk s) = disk_lawful.advance_due s

feed_due : (s : AnyDevice) (r : Reply) → any_due s ≤ any_due (any_feed s r)
feed_due (Null s) = null_lawful.feed_due s
feed_due (Timer s) = timer_lawful.feed_due s
feed_due (Uart s) = uart_lawful.feed_due s
feed_due (Dma s) = dma_lawful.feed_due s
feed_due (Disk s) = disk_lawful.feed_due s

access_needs : (s : AnyDevice) (t : ℕ) (a : Access) → any_needs (any_access s t a).0 ≡ any_needs s
access_needs (Null s) = null_lawful.access_needs s
access_needs (Timer s) = timer_lawful.access_needs s
access_needs (Uart s) = uart_lawful.access_needs s
access_needs (Dma s) = dma_lawful.access_needs s
access_needs (Disk s) = disk_lawful.access_needs s

advance_needs : (s : AnyDevice) (t : ℕ) → any_needs (any_advance s t) ≡ any_needs s
advance_needs (Null s) = null_lawful.advance_needs s
advance_needs (Timer s) = timer_lawful.advance_needs s
advance_needs (Uart s) = uart_lawful.advance_needs s
advance_needs (Dma s) = dma_lawful.advance_needs s
advance_needs (Disk s) = disk_lawful.advance_needs s

feed_needs : (s : AnyDevice) (r : Reply) → any_needs (any_feed s r) ≡ any_needs s
feed_needs (Null s) = null_lawful.feed_needs s
feed_needs (Timer s) = timer_lawful.feed_needs s
feed_needs (Uart s) = uart_lawful.feed_needs s
feed_needs (Dma s) = dma_lawful.feed_needs s
feed_needs (Disk s) = disk_lawful.feed_needs s

want_is : (s : AnyDevice) (w : Want) → any_want s ≡ Some w → IsWant (any_needs s) w
want_is (Null s) = null_lawful.want_is s
want_is (Timer s) = timer_lawful.want_is s
want_is (Uart s) = uart_lawful.want_is s
want_is (Dma s) = dma_lawful.want_is s
want_is (Disk s) = disk_lawful.want_is s

pub any_lawful : IsDevice any_model
any_lawful = record {
  access_keeps = access_keeps;
  advance_keeps = advance_keeps;
  feed_left = feed_left;
  left_none = left_none;
  none_left = none_left;
  left_most = left_most;
  access_seen = access_seen;
  advance_seen = advance_seen;
  feed_seen = feed_seen;
  due_seen = due_seen;
  access_due = access_due;
  advance_due = advance_due;
  feed_due = feed_due;
  access_needs = access_needs;
  advance_needs = advance_needs;
  feed_needs = feed_needs;
  want_is = want_is;
}
