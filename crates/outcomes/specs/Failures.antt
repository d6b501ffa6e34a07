-- How a step that failed, or a refusal, stops a command.
use Rattle.outcomes.specs.declared.failures.FilesFailure.{FilesFailure}
use Rattle.outcomes.specs.declared.failures.FilesFailure.TheVariants as files
use Rattle.outcomes.specs.declared.failures.OutFailure.{OutFailure}
use Rattle.outcomes.specs.declared.failures.JudgeFault.{JudgeFault}
use Rattle.outcomes.specs.declared.failures.JudgeFault.TheVariants as judge
use Rattle.outcomes.specs.declared.failures.ReadFault.{ReadFault}
use Rattle.outcomes.specs.declared.failures.ReadFault.TheVariants as read
use Rattle.outcomes.specs.declared.object.Object.TheVariants as object
use Rattle.outcomes.specs.declared.stop.Stop.{Stop}
use Rattle.outcomes.specs.declared.stop.Stop.TheVariants.{Refused, Outside, NoMemory}

abbrev pub stop_of_files : {R : Type 0} → FilesFailure → Stop R
stop_of_files (files.Failed count) = Outside object.Files count
stop_of_files files.NoMemory = NoMemory

abbrev pub stop_of_out : {R : Type 0} → OutFailure → Stop R
stop_of_out failure = Outside object.Out failure.count

abbrev pub stop_of_judge : {R : Type 0} → JudgeFault R → Stop R
stop_of_judge (judge.Refused r) = Refused r
stop_of_judge judge.NoMemory = NoMemory

abbrev pub stop_of_read : {R : Type 0} → ReadFault R → Stop R
stop_of_read (read.Refused r) = Refused r
stop_of_read (read.Failed count) = Outside object.Files count
stop_of_read read.NoMemory = NoMemory
