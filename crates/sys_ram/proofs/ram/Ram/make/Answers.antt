use Rattle.std.proofs.Common.{◌≡◌, ℕ, ◌*◌, ap, arith, length, replicate, sym, ◌∙◌, subst}
use Rattle.std.specs.declared.option.Option.TheVariants.{None}
use Rattle.std.proofs.lemmas.List.{length-replicate}
use Rattle.sys_ram.specs.Pages.{memory_of, ArePages}
use Rattle.sys_ram.proofs.Paging.{no_pages, no_pages-are}
use Rattle.sys_ram.proofs.ram.Ram.make.Goals as goal

pub invariant_of-result : goal.invariant_of-result
invariant_of-result c = (
  subst ArePages (sym c.pages.invariant) (no_pages-are c.pages._index),
  (let long = ap length c.pages.invariant ∙ length-replicate c.pages._index None in omega (arith, long)),
)

pub returns : goal.returns
returns c =
    let all : 4096 * c.pages._index ≡ c.args.size = omega arith in
    ap memory_of c.pages.invariant ∙ no_pages c.pages._index ∙ ap (λ n. replicate {A = ℕ} n 0) all
