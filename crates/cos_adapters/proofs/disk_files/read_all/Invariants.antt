use Rattle.std.proofs.Common.{◌-◌, length}
use Rattle.cos_adapters.proofs.disk_files.read_all.Given as goal

abbrev pub decreases-pieces : goal.decreases-pieces
decreases-pieces g l = 134217729 - length l.bytes.bytes
