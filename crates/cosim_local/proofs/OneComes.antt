-- The command comes to one outcome.
use Rattle.std.specs.Prelude.{IsSome}
use Rattle.std.proofs.Common.{ℕ, suc, ◌≡◌, ◌≤◌, ◌^◌, ◌+◌, inl, inr, Bool, true, false, List, [], ◌∷◌, ◌++◌, length, refl, ap, sym, ◌∙◌, subst, arith}
use Rattle.std.specs.declared.option.Option.{Option}
use Rattle.std.specs.declared.option.Option.TheVariants.{Some, None}
use Rattle.std.specs.declared.result.Result.{Result}
use Rattle.std.specs.declared.result.Result.TheVariants.{Ok, Err}
use Rattle.std.specs.Str.{is_utf8}
use Rattle.cos_base.specs.Stores.{Store}
use Rattle.cos_config.specs.declared.config.Config.{Config as Settings}
use Rattle.cos_config.specs.declared.config.Sockets.TheVariants.{Unneeded}
use Rattle.cos_config.specs.declared.fault.ConfigFault.{ConfigFault}
use Rattle.cos_config.specs.First.{Found as Ruled}
use Rattle.cos_config.specs.Rules.{config_found}
use Rattle.cos_config.specs.Settings.{config_of}
use Rattle.cos_parts.specs.AnyDevices as devices
use Rattle.cos_parts.specs.AnyMasters as masters
use Rattle.cos_schedules.specs.declared.step.Step.{Step}
use Rattle.cos_schedules.specs.Texts.{AllSpell, Spells, IsFirstBad}
use Rattle.cos_schedules.proofs.Texts.{one-list}
use Rattle.cos_text.specs.Lines.{lines}
use Rattle.cosim_inputs.specs.declared.refusals.InputsRefusal.{InputsRefusal}
use Rattle.cosim_inputs.specs.Inputs.{trouble, machine_files}
use Rattle.cosim_inputs.specs.Judging.{by_rules, judged_as, judged}
use Rattle.cosim_inputs.specs.Limits.{IsWithinLimits}
use Rattle.cosim_inputs.proofs.Limiting.{kept-within}
use Rattle.outcomes.specs.Outcomes.{Outcome, Works}
use Rattle.outcomes.proofs.Commands.{IsOne}
use Rattle.toml.specs.Data.{Members}
use Rattle.toml.specs.Parse.{parse_document}
use Rattle.world.proofs.OneRun.{one-end}
use Rattle.cosim_local.specs.declared.order.Order.{Order}
use Rattle.cosim_local.specs.declared.order.Order.TheVariants.{Schedule, Steps}
use Rattle.cosim_local.specs.declared.refusal.LocalRefusal.{LocalRefusal}
use Rattle.cosim_local.specs.Ordering.{SpellsSteps, Ordered, schedule_of, OrdersBy, Orders}
use Rattle.cosim_local.specs.Locals.{Found, or_stands, judged_to, found_to, found, start_of, written_by, local_lines, OrderedTo, FoundTo, LocalComes}

-- A configuration that is had has few ports.

within-ruled : (t : Members) (ruled : Ruled) (c : Settings) → config_found Unneeded t ≡ ruled
    → by_rules ruled (config_of t) ≡ Ok c → IsWithinLimits c
within-ruled t None c none is =
    let same : config_of t ≡ c = cc is in subst IsWithinLimits same (kept-within Unneeded t none)
within-ruled t (Some f) c some is = absurd (cc is)

within-judged : (b : Bool) (o : Option Members) (c : Settings) → judged_as Unneeded b o ≡ Ok c → IsWithinLimits c
within-judged true (Some t) c is = within-ruled t (config_found Unneeded t) c refl is
within-judged true None c is = absurd (cc is)
within-judged false o c is = absurd (cc is)

abbrev had : Settings → Result Settings ConfigFault
had c = Ok c

stands-had : (s : Settings) (o : Option (Outcome InputsRefusal)) (c : Settings) → or_stands s o ≡ Ok c → had s ≡ had c
stands-had s None c is = let same : s ≡ c = cc is in ap had same
stands-had s (Some stands) c is = absurd (cc is)

judged-had : (m : Store) (r : Result Settings ConfigFault) (c : Settings) → judged_to m r ≡ Ok c → r ≡ had c
judged-had m (Ok s) c is = stands-had s (trouble m (machine_files s)) c is
judged-had m (Err f) c is = absurd (cc is)

within-found : (m : Store) (name : List ℕ) (o : Option (List ℕ)) (c : Settings) → found_to m name o ≡ Ok c
    → IsWithinLimits c
within-found m name None c is = absurd (cc is)
within-found m name (Some bytes) c is =
    within-judged (is_utf8 bytes) (parse_document bytes) c (judged-had m (judged Unneeded bytes) c is)

-- Bytes spell one list of steps, or have one first line that spells none.

spells-mid : (ports : ℕ) (front : List (List ℕ)) (line : List ℕ) (back : List (List ℕ)) (steps : List Step)
    → AllSpell ports (front ++ line ∷ back) steps → (step : Step) × Spells ports line step
spells-mid ports [] line back [] all = absurd all
spells-mid ports [] line back (s ∷ steps) all = (s, all.0)
spells-mid ports (l ∷ front) line back [] all = absurd all
spells-mid ports (l ∷ front) line back (s ∷ steps) all = spells-mid ports front line back steps all.1

same-front : (ports : ℕ) (xs : List (List ℕ)) (x : List ℕ) (xb : List (List ℕ)) (ys : List (List ℕ)) (y : List ℕ)
    (yb : List (List ℕ)) (ss ts : List Step) → xs ++ x ∷ xb ≡ ys ++ y ∷ yb → AllSpell ports xs ss → AllSpell ports ys ts
    → ((step : Step) → Spells ports x step → ⊥) → ((step : Step) → Spells ports y step → ⊥) → length xs ≡ length ys
same-front ports [] x xb [] y yb ss ts same first next bad worse = refl
same-front ports [] x xb (l ∷ ys) y yb ss [] same first next bad worse = absurd next
same-front ports [] x xb (l ∷ ys) y yb ss (t ∷ ts) same first next bad worse =
    let is : l ≡ x = cc (same) in absurd (bad t (subst (λ k. Spells ports k t) is next.0))
same-front ports (k ∷ xs) x xb [] y yb [] ts same first next bad worse = absurd first
same-front ports (k ∷ xs) x xb [] y yb (s ∷ ss) ts same first next bad worse =
    let is : k ≡ y = cc (same) in absurd (worse s (subst (λ k. Spells ports k s) is first.0))
same-front ports (k ∷ xs) x xb (l ∷ ys) y yb [] ts same first next bad worse = absurd first
same-front ports (k ∷ xs) x xb (l ∷ ys) y yb (s ∷ ss) [] same first next bad worse = absurd next
same-front ports (k ∷ xs) x xb (l ∷ ys) y yb (s ∷ ss) (t ∷ ts) same first next bad worse =
    let rest : xs ++ x ∷ xb ≡ ys ++ y ∷ yb = cc (same) in
    ap suc (same-front ports xs x xb ys y yb ss ts rest first.1 next.1 bad worse)

all-or-bad : (ports : ℕ) (bytes : List ℕ) (steps : List Step) (line : ℕ) → AllSpell ports (lines bytes) steps
    → IsFirstBad ports bytes line → ⊥
all-or-bad ports bytes steps line all bad =
    let one = spells-mid ports bad.before bad.bad bad.behind steps
    (subst (λ ls. AllSpell ports ls steps) bad.lines_are all) in
    bad.none one.0 one.1

one-bad : (ports : ℕ) (bytes : List ℕ) (n k : ℕ) → IsFirstBad ports bytes n → IsFirstBad ports bytes k → n ≡ k
one-bad ports bytes n k a b =
    a.line_is
    ∙ ap (λ l. l + 1)
    (same-front ports a.before a.bad a.behind b.before b.bad b.behind a.steps b.steps (sym a.lines_are ∙ b.lines_are)
    a.spelled b.spelled a.none b.none)
    ∙ sym b.line_is

one-spelling : (ports : ℕ) (bytes : List ℕ) (a b : Result (List Step) ℕ) → ports ≤ 2 ^ 32 → SpellsSteps ports bytes a
    → SpellsSteps ports bytes b → a ≡ b
one-spelling ports bytes (Ok ss) (Ok ts) few a b =
    ap (λ l. Ok l) (one-list ports (lines bytes) ts ss few b.1 a.1)
one-spelling ports bytes (Ok ss) (Err k) few a (inl b) = absurd (all-or-bad ports bytes ss k a.1 b.1)
one-spelling ports bytes (Ok ss) (Err k) few a (inr b) = absurd (b.0 a.0)
one-spelling ports bytes (Err n) (Ok ts) few (inl a) b = absurd (all-or-bad ports bytes ts n b.1 a.1)
one-spelling ports bytes (Err n) (Ok ts) few (inr a) b = absurd (a.0 b.0)
one-spelling ports bytes (Err n) (Err k) few (inl a) (inl b) = ap (λ l. Err l) (one-bad ports bytes n k a.1 b.1)
one-spelling ports bytes (Err n) (Err k) few (inl a) (inr b) = absurd (b.0 a.0)
one-spelling ports bytes (Err n) (Err k) few (inr a) (inl b) = absurd (a.0 b.0)
one-spelling ports bytes (Err n) (Err k) few (inr a) (inr b) = ap (λ l. Err l) (a.1 ∙ sym b.1)

-- An order names one schedule.

one-list-order : (ports : ℕ) (file : List ℕ) (o : Option (List ℕ)) (a b : Ordered) → ports ≤ 2 ^ 32
    → OrdersBy ports file o a → OrdersBy ports file o b → a ≡ b
one-list-order ports file None a b few first next = first ∙ sym next
one-list-order ports file (Some bytes) a b few (s, spells, is) (t, also, at) =
    is ∙ ap schedule_of (one-spelling ports bytes s t few spells also) ∙ sym at

one-order : (ports : ℕ) (order : Order) (m : Store) (a b : Ordered) → ports ≤ 2 ^ 32 → Orders ports order m a
    → Orders ports order m b → a ≡ b
one-order ports (Schedule number) m a b few first next = first ∙ sym next
one-order ports (Steps file) m a b few first next = one-list-order ports file.now (m file.now) a b few first next

-- A schedule brings the world to one end.
one-ordered : (m : Store) (c : Settings) (r : Ordered) (o p : Outcome LocalRefusal) → OrderedTo m c r o
    → OrderedTo m c r p → o ≡ p
one-ordered m c (Err stands) o p first next = first ∙ sym next
one-ordered m c (Ok schedule) o p (n, ends, is) (k, also, at) =
    is
    ∙ ap (λ l. Works (written_by m c) (local_lines m c l))
    (one-end masters.any_model devices.any_model schedule (start_of m c) n k ends also)
    ∙ sym at

one-found : (m : Store) (name : List ℕ) (order : Order) (r : Found) (o p : Outcome LocalRefusal) → found m name ≡ r
    → FoundTo m order r o → FoundTo m order r p → o ≡ p
one-found m name order (Err stands) o p is first next = first ∙ sym next
one-found m name order (Ok c) o p is (a, orders, to) (b, also, at) =
    let within = within-found m name (m name) c is in
    let few : length c.ports ≤ 2 ^ 32 = let few = within.few in omega arith in
    one-ordered m c a o p to
    (subst (λ r. OrderedTo m c r p) (sym (one-order (length c.ports) order m a b few orders also)) at)

pub one-comes : (old : Option Store) (name : List ℕ) (order : Order) → IsSome old → IsOne (LocalComes old name order)
one-comes None name order some o p first next = absurd (cc)
one-comes (Some m) name order some o p first next = one-found m name order (found m name) o p refl first next
