-- How the steps of a command make up its promise, exit by exit.
use Rattle.std.proofs.Common.{ℕ, ◌≡◌, ◌≤◌, List, [], ◌∷◌, ◌++◌, length, IsSome, refl, ◌∙◌, inl, inr, arith}
use Rattle.std.specs.declared.result.Result.{Result}
use Rattle.std.specs.declared.result.Result.TheVariants.{Ok, Err}
use Rattle.cos_base.specs.Stores.{Store}
use Rattle.outcomes.specs.declared.failures.FilesFailure.{FilesFailure}
use Rattle.outcomes.specs.declared.failures.FilesFailure.TheVariants as files
use Rattle.outcomes.specs.declared.failures.JudgeFault.{JudgeFault}
use Rattle.outcomes.specs.declared.failures.JudgeFault.TheVariants as judge
use Rattle.outcomes.specs.declared.failures.OutFailure.{OutFailure}
use Rattle.outcomes.specs.declared.failures.ReadFault.{ReadFault}
use Rattle.outcomes.specs.declared.failures.ReadFault.TheVariants as read
use Rattle.outcomes.specs.declared.stop.Stop.{Stop}
use Rattle.outcomes.specs.declared.stop.Stop.TheVariants.{Refused, NoMemory}
use Rattle.outcomes.specs.Failures.{stop_of_files, stop_of_out, stop_of_judge, stop_of_read}
use Rattle.outcomes.specs.Seen.{Seen, IsUntouched}
use Rattle.outcomes.specs.Outcomes.{Written, Outcome, Lacks, Refuses, Works, OfFile, PrintsAll, PrintsBefore, Performs}
use Rattle.outcomes.specs.Steps.{IsStanding, IsRead, IsUnread, IsLacking, ComesRefused, ComesUnread, ComesLacking, IsPrinted, IsRoomFor, IsWritten, BlamesNone}
use Rattle.outcomes.proofs.After.{both, blamed-after}
use Rattle.outcomes.proofs.Commands.{comes-read, IsOne, LacksSome, lacks-file, one-of-file, meets-each, told-stand, prints-nothing, before-rises}
use Rattle.outcomes.proofs.Writing.{AreWritten, nothing-written, hold-failed, hold-unwritten}

abbrev files_result : {R : Type 0} → FilesFailure → Result Unit (Stop R)
files_result e = Err (stop_of_files e)

-- A file couldn't be read.
pub unread-performs : {R : Type 0} (Comes : Outcome R → Type 0) (f : Seen Store) (k : Seen (List ℕ)) (S : Type 0) (room : ℕ) (e : FilesFailure) → IsUnread f e → IsUntouched k → (S → LacksSome Comes e) → (S → IsOne Comes) → Performs Comes f k S room (Err (stop_of_files e))
unread-performs {R} Comes f k S room (files.Failed n) unread same lacks one = record {
  blames = (unread.0, same.count);
  ends = (same, inl unread.1);
  sound = λ s. (Lacks (lacks s).0, (lacks s).1, ((lacks s).0, refl));
  complete = λ s. meets-each Comes room (files_result {R = R} (files.Failed n)) (one s) (Lacks (lacks s).0, (lacks s).1, ((lacks s).0, refl));
  before = λ s. tt;
}
unread-performs Comes f k S room files.NoMemory unread same lacks one = record {
  blames = (unread.0, same.count);
  ends = (same, inl unread.1);
  sound = λ s. tt;
  complete = λ s o comes. tt;
  before = λ s. tt;
}

pub file-unread : {R : Type 0} (name : List ℕ) (judge : List ℕ → Outcome R → Type 0) (f : Seen Store) (k : Seen (List ℕ)) (S : Type 0) (room : ℕ) (e : FilesFailure) → ((bytes : List ℕ) → IsOne (judge bytes)) → IsUnread f e → IsUntouched k → (S → IsLacking f.old name e) → (S → IsSome f.old)
    → Performs (OfFile name judge f.old) f k S room (Err (stop_of_files e))
file-unread name judge f k S room e one unread same lacking told =
    unread-performs (OfFile name judge f.old) f k S room e unread same (λ s. lacks-file name judge f.old e (lacking s)) (λ s. one-of-file name judge f.old (told s) one)

-- There was no memory.
pub memory-performs : {R : Type 0} (Comes : Outcome R → Type 0) (f : Seen Store) (k : Seen (List ℕ)) (S : Type 0) (room : ℕ) → IsStanding f → IsUntouched k → Performs Comes f k S room (Err NoMemory)
memory-performs Comes f k S room stands same = record {
  blames = (stands.count, same.count);
  ends = (same, inl (told-stand f stands.told));
  sound = λ s. tt;
  complete = λ s o comes. tt;
  before = λ s. tt;
}

-- It is refused, after the text that stands before.
pub refused-performs : {R : Type 0} (Comes : Outcome R → Type 0) (f : Seen Store) (k : Seen (List ℕ)) (S : Type 0) (room : ℕ) (r : R) (text : List ℕ) → Comes (Refuses r text) → IsStanding f → PrintsBefore k text → (S → length text ≤ room → PrintsAll k text) → (S → IsOne Comes)
    → Performs Comes f k S room (Err (Refused r))
refused-performs Comes f k S room r text comes stands put all one = record {
  blames = (stands.count, before-rises k text put);
  ends = (text, comes, stands.told, put);
  sound = λ s. (Refuses r text, comes, (text, refl));
  complete = λ s. meets-each Comes room (Err (Refused r)) (one s) (Refuses r text, comes, (text, refl));
  before = λ s. (text, comes, all s);
}

pub silently-refused : {R : Type 0} (Comes : Outcome R → Type 0) (f : Seen Store) (k : Seen (List ℕ)) (S : Type 0) (room : ℕ) (r : R) → Comes (Refuses r []) → IsStanding f → IsUntouched k → (S → IsOne Comes) → Performs Comes f k S room (Err (Refused r))
silently-refused Comes f k S room r comes stands same one = refused-performs Comes f k S room r [] comes stands same (λ s fits. prints-nothing k same) one

-- The text was put, after the files were written.
abbrev pub put_result : {R : Type 0} → Result Unit OutFailure → Result Unit (Stop R)
put_result (Ok u) = Ok u
put_result (Err e) = Err (stop_of_out e)

pub printed-performs : {R : Type 0} (Comes : Outcome R → Type 0) (f : Seen Store) (k : Seen (List ℕ)) (S : Type 0) (room : ℕ) (done : List Written) (text : List ℕ) (r : Result Unit OutFailure) → Comes (Works done text) → AreWritten f done → IsPrinted k text r → (S → IsRoomFor room text r) → (S → IsOne Comes)
    → Performs Comes f k S room (put_result r)
printed-performs Comes f k S room done text (Ok u) comes are printed fits one = record {
  blames = (are.count, printed.0);
  ends = (done, text, comes, are.hold, printed.1);
  sound = λ s. (Works done text, comes, (done, text, refl, fits s));
  complete = λ s. meets-each Comes room (Ok u) (one s) (Works done text, comes, (done, text, refl, fits s));
  before = λ s. tt;
}
printed-performs {R} Comes f k S room done text (Err e) comes are printed fits one = record {
  blames = (are.count, printed.0);
  ends = (done, text, comes, are.hold, printed.1);
  sound = λ s. (Works done text, comes, (done, text, refl, fits s));
  complete = λ s. meets-each Comes room (put_result {R = R} (Err e)) (one s) (Works done text, comes, (done, text, refl, fits s));
  before = λ s. tt;
}

pub text-performs : {R : Type 0} (Comes : Outcome R → Type 0) (f : Seen Store) (k : Seen (List ℕ)) (S : Type 0) (room : ℕ) (text : List ℕ) (r : Result Unit OutFailure) → Comes (Works [] text) → IsStanding f → IsPrinted k text r → (S → IsRoomFor room text r) → (S → IsOne Comes)
    → Performs Comes f k S room (put_result r)
text-performs Comes f k S room text r comes stands printed fits one = printed-performs Comes f k S room [] text r comes (nothing-written f stands) printed fits one

-- The files were written, and nothing is to be printed.
pub written-performs : {R : Type 0} (Comes : Outcome R → Type 0) (f : Seen Store) (k : Seen (List ℕ)) (S : Type 0) (room : ℕ) (done : List Written) → Comes (Works done []) → AreWritten f done → IsUntouched k → (S → IsOne Comes) → Performs Comes f k S room (Ok tt)
written-performs Comes f k S room done comes are same one =
    printed-performs Comes f k S room done [] (Ok tt) comes are (same.count, prints-nothing k same) (λ s. omega arith) one

-- Writing stopped at a file.
pub unwritten-performs : {R : Type 0} (Comes : Outcome R → Type 0) (f g : Seen Store) (k : Seen (List ℕ)) (S : Type 0) (room : ℕ) (done : List Written) (one : Written) (left : List Written) (text : List ℕ) (e : FilesFailure) → Comes (Works (done ++ (one ∷ left)) text) → AreWritten f done
    → g.before ≡ f.now → g.old ≡ f.new → IsWritten g one.name one.bytes (Err e) → IsUntouched k → (S → BlamesNone (Err e)) → Performs Comes (both f g) k S room (Err (stop_of_files e))
unwritten-performs Comes f g k S room done one left text (files.Failed n) comes are joined same written untouched none = record {
  blames = (blamed-after f.before g.before g.now n (joined ∙ are.count) written.0, untouched.count);
  ends = (untouched, inr (done ++ (one ∷ left), text, comes, record { done = done; one = one; left = left; all = refl }, hold-failed f g done one.name are same written.1));
  sound = λ s. absurd (none s);
  complete = λ s. absurd (none s);
  before = λ s. tt;
}
unwritten-performs Comes f g k S room done one left text files.NoMemory comes are joined same written untouched none = record {
  blames = (written.0 ∙ joined ∙ are.count, untouched.count);
  ends = (untouched, inr (done ++ (one ∷ left), text, comes, record { done = done; one = one; left = left; all = refl }, hold-unwritten f g done are same written.1));
  sound = λ s. tt;
  complete = λ s o comes. tt;
  before = λ s. tt;
}

-- What was read is refused, or there was no memory.
pub judge-performs : {R : Type 0} (Comes : Outcome R → Type 0) (f : Seen Store) (k : Seen (List ℕ)) (S : Type 0) (room : ℕ) (fault : JudgeFault R) → ComesRefused Comes fault → IsStanding f → IsUntouched k → (S → IsOne Comes) → Performs Comes f k S room (Err (stop_of_judge fault))
judge-performs Comes f k S room (judge.Refused r) comes stands same one = silently-refused Comes f k S room r comes stands same one
judge-performs Comes f k S room judge.NoMemory comes stands same one = memory-performs Comes f k S room stands same

refused-read : {R : Type 0} (name : List ℕ) (judge_by : List ℕ → Outcome R → Type 0) (f : Seen Store) (bytes : List ℕ) (fault : JudgeFault R) → IsRead f name bytes → ComesRefused (judge_by bytes) fault → ComesRefused (OfFile name judge_by f.old) fault
refused-read name judge_by f bytes (judge.Refused r) read comes = comes-read name judge_by f bytes (Refuses r []) read comes
refused-read name judge_by f bytes judge.NoMemory read comes = tt

-- The same of a command that reads one file.

pub file-refused : {R : Type 0} (name : List ℕ) (judge_by : List ℕ → Outcome R → Type 0) (f : Seen Store) (k : Seen (List ℕ)) (S : Type 0) (room : ℕ) (bytes : List ℕ) (fault : JudgeFault R) → ((bytes : List ℕ) → IsOne (judge_by bytes)) → IsRead f name bytes → ComesRefused (judge_by bytes) fault → IsUntouched k
    → (S → IsSome f.old) → Performs (OfFile name judge_by f.old) f k S room (Err (stop_of_judge fault))
file-refused name judge_by f k S room bytes fault one read comes same told =
    judge-performs (OfFile name judge_by f.old) f k S room fault (refused-read name judge_by f bytes fault read comes) read.stands same (λ s. one-of-file name judge_by f.old (told s) one)

pub file-printed : {R : Type 0} (name : List ℕ) (judge_by : List ℕ → Outcome R → Type 0) (f : Seen Store) (k : Seen (List ℕ)) (S : Type 0) (room : ℕ) (bytes text : List ℕ) (r : Result Unit OutFailure) → ((bytes : List ℕ) → IsOne (judge_by bytes)) → IsRead f name bytes → judge_by bytes (Works [] text)
    → IsPrinted k text r → (S → IsRoomFor room text r) → (S → IsSome f.old) → Performs (OfFile name judge_by f.old) f k S room (put_result r)
file-printed name judge_by f k S room bytes text r one read comes printed fits told =
    text-performs (OfFile name judge_by f.old) f k S room text r (comes-read name judge_by f bytes (Works [] text) read comes) read.stands printed fits (λ s. one-of-file name judge_by f.old (told s) one)

-- What several files hold wasn't had.
pub inputs-perform : {R : Type 0} (Comes : Outcome R → Type 0) (f : Seen Store) (k : Seen (List ℕ)) (S : Type 0) (room : ℕ) (fault : ReadFault R) → ComesUnread Comes f fault → IsUntouched k → (S → ComesLacking Comes fault) → (S → IsOne Comes) → Performs Comes f k S room (Err (stop_of_read fault))
inputs-perform Comes f k S room (read.Refused r) unread same lacks one = silently-refused Comes f k S room r unread.1 unread.0 same one
inputs-perform Comes f k S room (read.Failed n) unread same lacks one = unread-performs Comes f k S room (files.Failed n) unread same lacks one
inputs-perform Comes f k S room read.NoMemory unread same lacks one = unread-performs Comes f k S room files.NoMemory unread same lacks one
