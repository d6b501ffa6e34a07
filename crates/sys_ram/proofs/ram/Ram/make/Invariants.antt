use Rattle.std.proofs.Common.{◌≡◌, replicate}
use Rattle.std.specs.declared.option.Option.TheVariants.{None}
use Rattle.sys_ram.proofs.ram.Ram.make.Given as goal

abbrev pub invariant-pages : goal.invariant-pages
invariant-pages l = l.pages.items ≡ replicate l._index None
