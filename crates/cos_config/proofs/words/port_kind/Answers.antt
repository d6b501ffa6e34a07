use Rattle.cos_config.proofs.Texts.{differs}
use Rattle.cos_config.proofs.words.port_kind.Goals as goal

pub returns-in_default : goal.returns-in_default
returns-in_default c =
    let n = c.in_default in
    rw (differs _ _ n.not-null, differs _ _ n.not-timer, differs _ _ n.not-uart, differs _ _ n.not-dma, differs _ _ n.not-disk)
