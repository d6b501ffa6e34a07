-- Every step of a script fits the machine.
use Rattle.std.proofs.Common.{◌≡◌, ◌==◌, ℕ, zero, suc, ◌+◌, Bool, true, false, if◌then◌else◌, List, [], ◌∷◌, ◌++◌, Option, Some, None, Result, Ok, Err, refl, sym, ap, ◌∙◌, subst, arith, append_assoc}
use Rattle.std.specs.Prelude.{codes}
use Rattle.std.specs.Str.{bytes_eq}
use Rattle.std.proofs.lemmas.List.Elements.{All-append}
use Rattle.cos_script.specs.declared.step.ScriptStep.{ScriptStep}
use Rattle.cos_script.specs.declared.step.ScriptStep.TheVariants.{Read, Write, Wait}
use Rattle.cos_script.specs.Steps.{fits, is_wait}
use Rattle.cos_text.specs.Lines.{lines}
use Rattle.cos_script.specs.Scripts.{words, numbers, fitting, read_step, write_step, wait_step, named_step, step_of, one_step, line_steps, before_steps, with_line, lines_steps, script_of}
use Rattle.cos_script.specs.Masters.{HaveFit}

test-fits : (ports : ℕ) (step s : ScriptStep) (b : Bool) → fits ports step ≡ b → (if b then Some step else None) ≡ Some s → fits ports s ≡ true
test-fits ports step s true e f = (let same : step ≡ s = cc in ap (fits ports) (sym same) ∙ e)
test-fits ports step s false e f = absurd (cc)

fitting-fits : (ports : ℕ) (step s : ScriptStep) → fitting ports step ≡ Some s → fits ports s ≡ true
fitting-fits ports step s e = test-fits ports step s (fits ports step) refl e

read-fits : (ports : ℕ) (o : Option (List ℕ)) (s : ScriptStep) → read_step ports o ≡ Some s → fits ports s ≡ true
read-fits ports (Some (p ∷ a ∷ n ∷ [])) s e = fitting-fits ports (Read p a n) s e
read-fits ports o s e = absurd (cc)

write-fits : (ports : ℕ) (posted : Bool) (o : Option (List ℕ)) (s : ScriptStep) → write_step ports posted o ≡ Some s → fits ports s ≡ true
write-fits ports posted (Some (p ∷ a ∷ n ∷ v ∷ [])) s e = fitting-fits ports (Write p a n v posted) s e
write-fits ports posted o s e = absurd (cc)

wait-fits : (ports : ℕ) (o : Option (List ℕ)) (s : ScriptStep) → wait_step o ≡ Some s → fits ports s ≡ true
wait-fits ports (Some (n ∷ [])) s e = test-fits ports (Wait n) s (is_wait n) refl e
wait-fits ports o s e = absurd (cc)

named-fits : (ports : ℕ) (name : List ℕ) (ws : List (List ℕ)) (s : ScriptStep) → named_step ports name ws ≡ Some s → fits ports s ≡ true
named-fits ports name ws s e = by (bytes_eq name (codes "read")) (bytes_eq name (codes "write")) (bytes_eq name (codes "post")) (bytes_eq name (codes "wait")) e
  where
    by : (a b c d : Bool) → (if a then read_step ports (numbers 3 ws) else if b then write_step ports false (numbers 4 ws) else if c then write_step ports true (numbers 4 ws) else if d then wait_step (numbers 1 ws) else None) ≡ Some s → fits ports s ≡ true
    by true b c d f = read-fits ports (numbers 3 ws) s f
    by false true c d f = write-fits ports false (numbers 4 ws) s f
    by false false true d f = write-fits ports true (numbers 4 ws) s f
    by false false false true f = wait-fits ports (numbers 1 ws) s f
    by false false false false f = absurd (cc)

step-fits : (ports : ℕ) (ws : List (List ℕ)) (s : ScriptStep) → step_of ports ws ≡ Some s → fits ports s ≡ true
step-fits ports [] s e = absurd (cc)
step-fits ports (name ∷ ws) s e = named-fits ports name ws s e

none-fit : (ports : ℕ) → HaveFit ports []
none-fit ports k d h = absurd (omega arith)

one-fits : (ports : ℕ) (s : ScriptStep) → fits ports s ≡ true → HaveFit ports (s ∷ [])
one-fits ports s e zero d h = e
one-fits ports s e (suc k) d h = absurd (omega arith)

line-fits : (ports : ℕ) (line : List ℕ) (steps : List ScriptStep) → line_steps ports line ≡ Some steps → HaveFit ports steps
line-fits ports [] steps e = (let same : [] ≡ steps = cc in subst (λ xs. HaveFit ports xs) same (none-fit ports))
line-fits ports (c ∷ cs) steps e = by (c == 35) e
  where
    read : (o : Option ScriptStep) → step_of ports (words (c ∷ cs)) ≡ o → one_step o ≡ Some steps → HaveFit ports steps
    read None f g = absurd (cc)
    read (Some s) f g = (let same : s ∷ [] ≡ steps = cc in subst (λ xs. HaveFit ports xs) same (one-fits ports s (step-fits ports (words (c ∷ cs)) s f)))

    by : (b : Bool) → (if b then Some [] else one_step (step_of ports (words (c ∷ cs)))) ≡ Some steps → HaveFit ports steps
    by true f = (let same : [] ≡ steps = cc in subst (λ xs. HaveFit ports xs) same (none-fit ports))
    by false f = read (step_of ports (words (c ∷ cs))) refl f

lines-fit : (ports number : ℕ) (ls : List (List ℕ)) (steps : List ScriptStep) → lines_steps ports number ls ≡ Ok steps → HaveFit ports steps
lines-fit ports number [] steps e = (let same : [] ≡ steps = cc in subst (λ xs. HaveFit ports xs) same (none-fit ports))
lines-fit ports number (line ∷ ls) steps e = by (line_steps ports line) (lines_steps ports (suc number) ls) (line-fits ports line) (lines-fit ports (suc number) ls) e
  where
    by : (o : Option (List ScriptStep)) (r : Result (List ScriptStep) ℕ) → ((xs : List ScriptStep) → o ≡ Some xs → HaveFit ports xs) → ((xs : List ScriptStep) → r ≡ Ok xs → HaveFit ports xs) → with_line number o r ≡ Ok steps → HaveFit ports steps
    by None r here more f = absurd (cc)
    by (Some xs) (Err n) here more f = absurd (cc)
    by (Some xs) (Ok ys) here more f = (let same : xs ++ ys ≡ steps = cc in subst (λ zs. HaveFit ports zs) same (All-append (λ s. fits ports s ≡ true) xs ys (here xs refl) (more ys refl)))

pub script-fits : (ports : ℕ) (text : List ℕ) (steps : List ScriptStep) → script_of ports text ≡ Ok steps → HaveFit ports steps
script-fits ports text steps e = lines-fit ports 1 (lines text) steps e

-- Steps before steps, and a line more.

both-before : (xs ys : List ScriptStep) (r : Result (List ScriptStep) ℕ) → before_steps xs (before_steps ys r) ≡ before_steps (xs ++ ys) r
both-before xs ys (Ok zs) = ap Ok (sym (append_assoc xs ys zs))
both-before xs ys (Err n) = refl

pub line-more : (ports passed : ℕ) (line rest after : List ℕ) (old new more : List ScriptStep) → lines rest ≡ line ∷ lines after → line_steps ports line ≡ Some more → new ≡ old ++ more → before_steps old (lines_steps ports (suc passed) (lines rest)) ≡ before_steps new (lines_steps ports (suc (passed + 1)) (lines after))
line-more ports passed line rest after old new more first is e =
    ap (λ ls. before_steps old (lines_steps ports (suc passed) ls)) first
    ∙ ap (λ o. before_steps old (with_line (suc passed) o (lines_steps ports (suc (suc passed)) (lines after)))) is
    ∙ both-before old more (lines_steps ports (suc (suc passed)) (lines after))
    ∙ ap (λ xs. before_steps xs (lines_steps ports (suc (suc passed)) (lines after))) (sym e)
    ∙ ap (λ n. before_steps new (lines_steps ports (suc n) (lines after))) one
  where
    one : suc passed ≡ passed + 1
    one = omega arith
