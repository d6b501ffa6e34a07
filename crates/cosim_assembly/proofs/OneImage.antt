-- A file's bytes have one image, or one refusal.
use Rattle.std.proofs.Common.{◌≡◌, ℕ, ◌⊎◌, inl, inr, List, [], ◌∷◌, Result, Ok, Err, refl, ap, sym, subst, ◌∙◌}
use Rattle.std.specs.Str.{IsUtf8}
use Rattle.rv_asm.specs.declared.fault.AsmFault.{AsmFault}
use Rattle.rv_asm.specs.declared.fault.AsmFault.TheVariants.{Line, NoMemory}
use Rattle.rv_asm.specs.declared.fault.Cause.{Cause}
use Rattle.rv_asm.specs.declared.fault.Cause.TheVariants.{Syntax}
use Rattle.rv_asm.specs.Programs.{program}
use Rattle.rv_asm.specs.Statements.{Assembled}
use Rattle.rv_asm.proofs.OneMeaning.{one-meaning}
use Rattle.outcomes.specs.declared.failures.JudgeFault.{JudgeFault}
use Rattle.outcomes.specs.declared.failures.JudgeFault.TheVariants as judge
use Rattle.outcomes.specs.Outcomes.{Works}
use Rattle.outcomes.specs.Steps.{ComesRefused}
use Rattle.outcomes.proofs.Commands.{IsOne}
use Rattle.cosim_assembly.specs.declared.refusals.AsmRefusal.{AsmRefusal}
use Rattle.cosim_assembly.specs.declared.refusals.AsmRefusal.TheVariants.{Assembly}
use Rattle.cosim_assembly.specs.Images.{image_of}
use Rattle.cosim_assembly.specs.Assemblies.{IsFaulty, Images, IsRefused, outcome_of, Judges}

-- what a text assembles to, and what a file that has it is judged to
abbrev judged : Result (List ℕ) AsmFault → Result (List ℕ) AsmRefusal
judged (Ok words) = Ok (image_of words)
judged (Err (Line number cause)) = Err (Assembly number cause)
judged (Err NoMemory) = Err (Assembly 0 Syntax)

same : (bytes : List ℕ) (a b : Result (List ℕ) AsmFault) → (a ≡ Err NoMemory → ⊥) → (b ≡ Err NoMemory → ⊥) → Assembled (program 0x80000000 bytes) a → Assembled (program 0x80000000 bytes) b → a ≡ b
same bytes a b na nb p q = sym (one-meaning (program 0x80000000 bytes) a na p) ∙ one-meaning (program 0x80000000 bytes) b nb q

-- The bytes are a text that assembles to this, or no text.
abbrev Seen : List ℕ → Result (List ℕ) AsmRefusal → Type 0
Seen bytes r =
    (IsUtf8 bytes × (a : Result (List ℕ) AsmFault) × (a ≡ Err NoMemory → ⊥) × Assembled (program 0x80000000 bytes) a × (r ≡ judged a)) ⊎ ((IsUtf8 bytes → ⊥) × (r ≡ Err (Assembly 1 Syntax)))

faulty-seen : (bytes : List ℕ) (fault : AsmRefusal) (number : ℕ) (cause : Cause) → fault ≡ Assembly number cause → IsFaulty bytes number cause → Seen bytes (Err fault)
faulty-seen bytes fault number cause e (inl f) = inl (f.0, Err (Line number cause), (λ q. cc), f.1, ap (λ x. Err x) e)
faulty-seen bytes fault number cause e (inr f) =
    inr (f.0, ap (λ x. Err x) e ∙ ap (λ n. Err (Assembly n cause)) f.1 ∙ ap (λ c. Err (Assembly 1 c)) f.2)

seen : (bytes : List ℕ) (r : Result (List ℕ) AsmRefusal) → Images bytes r → Seen bytes r
seen bytes (Ok image) h = inl (h.0, Ok h.1, (λ q. cc), h.2, ap (λ x. Ok x) h.3)
seen bytes (Err fault) h = faulty-seen bytes fault h.0 h.1 h.2 h.3

one-seen : (bytes : List ℕ) (r s : Result (List ℕ) AsmRefusal) → Seen bytes r → Seen bytes s → r ≡ s
one-seen bytes r s (inl p) (inl q) = p.4 ∙ ap judged (same bytes p.1 q.1 p.2 q.2 p.3 q.3) ∙ sym q.4
one-seen bytes r s (inl p) (inr q) = absurd (q.0 p.0)
one-seen bytes r s (inr p) (inl q) = absurd (p.0 q.0)
one-seen bytes r s (inr p) (inr q) = p.1 ∙ sym q.1

pub one-judged : (target bytes : List ℕ) → IsOne (Judges target bytes)
one-judged target bytes o p first then =
    first.2 ∙ ap (outcome_of target) (one-seen bytes first.0 then.0 (seen bytes first.0 first.1) (seen bytes then.0 then.1)) ∙ sym then.2

pub image-judges : (target text bytes image : List ℕ) → text ≡ bytes → Images text (Ok image) → Judges target bytes (Works (record { name = target; bytes = image } ∷ []) [])
image-judges target text bytes image e h =
    let P : List ℕ → Type 0 = λ b. Images b (Ok image) in (Ok image, subst P e h, refl)

pub fault-judges : (target text bytes : List ℕ) (fault : JudgeFault AsmRefusal) → text ≡ bytes → IsRefused text fault → ComesRefused (Judges target bytes) fault
fault-judges target text bytes (judge.Refused r) e h =
    let P : List ℕ → Type 0 = λ b. Images b (Err r) in (Err r, subst P e h, refl)
fault-judges target text bytes judge.NoMemory e h = tt
