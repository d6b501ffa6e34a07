-- How the help text that is put keeps the promise of `help`.
use Rattle.std.proofs.Common.{[], refl, sym, ◌∙◌}
use Rattle.std.specs.declared.result.Result.{Result}
use Rattle.std.specs.declared.result.Result.TheVariants.{Ok, Err}
use Rattle.outcomes.specs.declared.failures.OutFailure.{OutFailure}
use Rattle.outcomes.specs.declared.object.Object.TheVariants as object
use Rattle.outcomes.specs.Asked.{AsksNone}
use Rattle.outcomes.specs.Seen.{IsUntouched}
use Rattle.outcomes.specs.Steps.{IsPrinted, IsRoomFor}
use Rattle.outcomes.proofs.Asking.{none-all}
use Rattle.outcomes.proofs.Commands.{untouched-stands}
use Rattle.outcomes.proofs.Performing.{put_result, text-performs}
use Rattle.statuses.specs.declared.status.Status.{Status}
use Rattle.statuses.specs.declared.status.Status.TheVariants as status
use Rattle.cosim_cli.specs.Help.{Helps, help_text}
use Rattle.cosim_cli.specs.Promises.{Around, Performed, none_refused}

abbrev pub help_status : Result Unit OutFailure → Status
help_status (Ok u) = status.Done
help_status (Err e) = status.Outside object.Out e.count

pub helps : {L : Type 0} (a : Around L) (r : Result Unit OutFailure) → IsUntouched a.files → AsksNone a.names → IsUntouched a.net → IsUntouched a.children → IsPrinted a.out help_text r → (a.sound_out → IsRoomFor a.room help_text r) → Performed none_refused Helps (λ m. []) (λ m. []) a (help_status r)
helps a (Ok u) files none net children printed fits = record {
  result = Ok u;
  performs = text-performs Helps a.files a.out (a.sound_files × a.sound_out) a.room help_text (Ok u) refl (untouched-stands a.files files) printed (λ sound. fits sound.1) (λ sound o p first then. first ∙ sym then);
  asks = none-all a.names none;
  status = refl;
  net = net;
  children = children;
}
helps a (Err e) files none net children printed fits = record {
  result = put_result (Err e);
  performs = text-performs Helps a.files a.out (a.sound_files × a.sound_out) a.room help_text (Err e) refl (untouched-stands a.files files) printed (λ sound. fits sound.1) (λ sound o p first then. first ∙ sym then);
  asks = none-all a.names none;
  status = refl;
  net = net;
  children = children;
}
