use Rattle.std.proofs.Common.{refl}
use Rattle.cosim_cli.proofs.Keeping.{kept-uses, kept-promises}
use Rattle.cosim_cli.proofs.top.cosim.Goals as goal
use Rattle.cosim_cli.proofs.top.cosim.Goals.{in-Ok, in-Err}

pub returns-clause-usage : goal.returns-clause-usage
returns-clause-usage g c = elim c.match-command_of.branch [
  | in-Ok w ↦ rw w.status-is (kept-uses _ _ _ _ w.in-Ok.ensures.ok.0 w.in-Ok.ensures.ok.1 w.perform-status.ensures)
  | in-Err w ↦ rw w.status-is w.in-Err.ensures.err
]

pub returns-clause-promises : goal.returns-clause-promises
returns-clause-promises g c = elim c.match-command_of.branch [
  | in-Ok w ↦ rw w.files-is (rw w.out-is (rw w.net-is (rw w.children-is (rw w.status-is (kept-promises _ _ _ _ w.in-Ok.ensures.ok.0 w.in-Ok.ensures.ok.1 w.perform-status.ensures)))))
  | in-Err w ↦ rw w.files-is (rw w.out-is (rw w.net-is (rw w.children-is (rw w.status-is (record { count = refl; same = refl }, record { count = refl; same = refl }, record { count = refl; same = refl }, record { count = refl; same = refl }, refl)))))
]
