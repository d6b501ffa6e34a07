-- What `asm` comes to, by the bytes of the file that it reads.
use Rattle.std.specs.Prelude.{ℕ, ◌≡◌, ◌⊎◌, List, [], ◌∷◌}
use Rattle.std.specs.declared.option.Option.{Option}
use Rattle.std.specs.declared.result.Result.{Result}
use Rattle.std.specs.declared.result.Result.TheVariants.{Ok, Err}
use Rattle.std.specs.Str.{IsUtf8}
use Rattle.cos_base.specs.Stores.{Store}
use Rattle.rv_asm.specs.declared.fault.AsmFault.TheVariants.{Line}
use Rattle.rv_asm.specs.declared.fault.Cause.{Cause}
use Rattle.rv_asm.specs.declared.fault.Cause.TheVariants.{Syntax}
use Rattle.rv_asm.specs.Programs.{program}
use Rattle.rv_asm.specs.Statements.{Assembled}
use Rattle.outcomes.specs.declared.failures.JudgeFault.{JudgeFault}
use Rattle.outcomes.specs.declared.failures.JudgeFault.TheVariants as judge
use Rattle.outcomes.specs.Outcomes.{Outcome, Refuses, Works, OfFile}
use Rattle.cosim_assembly.specs.declared.refusals.AsmRefusal.{AsmRefusal}
use Rattle.cosim_assembly.specs.declared.refusals.AsmRefusal.TheVariants.{Assembly}
use Rattle.cosim_assembly.specs.Images.{image_of}

-- The first faulty line of the text, and its cause. Bytes that aren't UTF-8 are refused at line 1.
abbrev pub IsFaulty : List ℕ → ℕ → Cause → Type 0
IsFaulty bytes number cause =
    (IsUtf8 bytes × Assembled (program 0x80000000 bytes) (Err (Line number cause)))
    ⊎ ((IsUtf8 bytes → ⊥) × (number ≡ 1) × (cause ≡ Syntax))

-- the image of a text whose first word lies where RAM begins, or why it is refused
abbrev pub Images : List ℕ → Result (List ℕ) AsmRefusal → Type 0
Images bytes (Ok image) = IsUtf8 bytes × (words : List ℕ) × Assembled (program 0x80000000 bytes) (Ok words)
    × (image ≡ image_of words)
Images bytes (Err fault) = (number : ℕ) × (cause : Cause) × (fault ≡ Assembly number cause)
    × IsFaulty bytes number cause

-- Why the bytes gave no image.
abbrev pub IsRefused : List ℕ → JudgeFault AsmRefusal → Type 0
IsRefused bytes (judge.Refused refusal) = Images bytes (Err refusal)
IsRefused bytes judge.NoMemory = Unit {0}

-- an image is written, and a fault refused
abbrev pub outcome_of : List ℕ → Result (List ℕ) AsmRefusal → Outcome AsmRefusal
outcome_of target (Ok image) = Works (record { name = target; bytes = image } ∷ []) []
outcome_of target (Err fault) = Refuses fault []

abbrev pub Judges : List ℕ → List ℕ → Outcome AsmRefusal → Type 0
Judges target bytes o = (r : Result (List ℕ) AsmRefusal) × Images bytes r × (o ≡ outcome_of target r)

-- what `asm` comes to over files: the file is lacking, or its bytes are judged
abbrev pub AsmComes : List ℕ → List ℕ → Option Store → Outcome AsmRefusal → Type 0
AsmComes file target told o = OfFile file (Judges target) told o
