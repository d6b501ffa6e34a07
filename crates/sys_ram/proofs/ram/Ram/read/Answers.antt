use Rattle.std.proofs.Common.{ap, length, map, ◌≡◌, ◌∙◌, sym}
use Rattle.sys_ram.specs.Memory.{read_at, part_of, as_byte}
use Rattle.sys_ram.specs.Pages.{memory_of}
use Rattle.sys_ram.proofs.Bytes.{as_byte-map}
use Rattle.sys_ram.proofs.ram.Ram.read.Goals as goal

pub returns-in-Some : goal.returns-in-Some
returns-in-Some c =
    let n = length c.args.out.now in
    let part : c.copy_out.new.out ≡ part_of c.args.self.now c.in-Some.at n
    = c.copy_out.ensures ∙ ap (λ ps. part_of (memory_of ps) c.in-Some.at n) c.deref.ensures.value ∙ ap (λ bytes. part_of bytes c.in-Some.at n) c.self.view_is in
    ap (read_at c.args.self.now n) (sym c.in-Some.ensures)
    ∙ ap (λ bytes. (0, map as_byte bytes)) (sym part)
    ∙ ap (λ bytes. (0, bytes)) (as_byte-map c.copy_out.new.out c.type_inv.out)
