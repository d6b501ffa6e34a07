-- Which names `local` asks for.
use Rattle.std.specs.Prelude.{IfSome}
use Rattle.std.proofs.Common.{ℕ, ◌≡◌, List, [], ◌++◌, ap, sym, ◌∙◌, subst, append_assoc}
use Rattle.std.proofs.lemmas.List.{append-nil}
use Rattle.std.specs.declared.option.Option.{Option}
use Rattle.std.specs.declared.option.Option.TheVariants.{Some, None}
use Rattle.std.specs.declared.result.Result.TheVariants.{Ok}
use Rattle.cos_base.specs.Stores.{Store}
use Rattle.cos_config.specs.declared.config.Config.{Config as Settings}
use Rattle.cosim_direct.specs.Directs.{direct_names}
use Rattle.cosim_inputs.specs.declared.refusals.InputsRefusal.{InputsRefusal}
use Rattle.cosim_inputs.proofs.Asking.{all-told, some-told}
use Rattle.outcomes.specs.declared.failures.ReadFault.{ReadFault}
use Rattle.outcomes.specs.declared.failures.ReadFault.TheVariants.{Refused, Failed, NoMemory}
use Rattle.outcomes.specs.Asked.{Asking, Names, AsksAll, Begins, AsksSome, AsksUpTo}
use Rattle.outcomes.specs.Outcomes.{Refuses}
use Rattle.outcomes.specs.Seen.{Seen}
use Rattle.outcomes.specs.Steps.{ComesUnread}
use Rattle.outcomes.proofs.Asking.{both_asked, Joined, all-both, some-both}
use Rattle.cosim_local.specs.declared.order.Order.{Order}
use Rattle.cosim_local.specs.declared.refusal.LocalRefusal.{LocalRefusal}
use Rattle.cosim_local.specs.Ordering.{order_names}
use Rattle.cosim_local.specs.Locals.{found, names_behind, local_names}
use Rattle.cosim_local.specs.Steps.{StandsAgainst, inputs_fault}

-- a beginning of names is one of these and more
pub some-more : (a : Asking) (names more : Names) → AsksSome a names → AsksSome a (λ m. names m ++ more m)
some-more a names more some = by a.held some
  where
    by : (held : Option Store) → IfSome held (λ m. Begins a.before a.now (names m))
        → IfSome held (λ m. Begins a.before a.now (names m ++ more m))
    by None is = tt
    by (Some m) is = record {
      first = is.first;
      rest = is.rest ++ more m;
      whole = ap (λ l. l ++ more m) is.whole ∙ append_assoc is.first is.rest (more m);
      grew = is.grew;
    }

-- The machine isn't had: no other file is asked for.

refused-names : (old : Option Store) (name : List ℕ) (order : Order) (r : InputsRefusal)
    → StandsAgainst old name (Refuses r []) → IfSome old (λ m. direct_names name m ≡ local_names name order m)
refused-names None name order r is = tt
refused-names (Some m) name order r is =
    sym (ap (λ x. direct_names name m ++ names_behind x (order_names order)) is ∙ append-nil (direct_names name m))

pub parts-ask : (f : Seen Store) (name : List ℕ) (order : Order) (a : Asking) (fault : ReadFault InputsRefusal)
    → f.old ≡ a.held → ComesUnread (StandsAgainst f.old name) f fault → AsksUpTo (direct_names name) a fault
    → AsksUpTo (local_names name order) a (inputs_fault fault)
parts-ask f name order a (Refused r) same unread asks =
    all-told a (direct_names name) (local_names name order)
    (refused-names a.held name order r (subst (λ o. StandsAgainst o name (Refuses r [])) same unread.1)) asks
parts-ask f name order a (Failed n) same unread asks =
    some-more a (direct_names name) (λ m. names_behind (found m name) (order_names order)) asks
parts-ask f name order a NoMemory same unread asks =
    some-more a (direct_names name) (λ m. names_behind (found m name) (order_names order)) asks

-- It is had: the file of steps is asked for.

had-names : (old : Option Store) (name : List ℕ) (order : Order) (c : Settings) → IfSome old (λ m. found m name ≡ Ok c)
    → IfSome old (λ m. direct_names name m ++ order_names order ≡ local_names name order m)
had-names None name order c is = tt
had-names (Some m) name order c is = sym (ap (λ x. direct_names name m ++ names_behind x (order_names order)) is)

pub order-asked : (name : List ℕ) (order : Order) (c : Settings) (a b : Asking)
    → IfSome a.held (λ m. found m name ≡ Ok c) → Joined a b → AsksAll a (direct_names name)
    → AsksAll b (λ m. order_names order) → AsksAll (both_asked a b) (local_names name order)
order-asked name order c a b is joined first then =
    all-told (both_asked a b) (λ m. direct_names name m ++ order_names order) (local_names name order)
    (had-names a.held name order c is) (all-both a b (direct_names name) (λ m. order_names order) joined first then)

order-some : (name : List ℕ) (order : Order) (c : Settings) (a b : Asking)
    → IfSome a.held (λ m. found m name ≡ Ok c) → Joined a b → AsksAll a (direct_names name)
    → AsksSome b (λ m. order_names order) → AsksSome (both_asked a b) (local_names name order)
order-some name order c a b is joined first then =
    some-told (both_asked a b) (λ m. direct_names name m ++ order_names order) (local_names name order)
    (had-names a.held name order c is) (some-both a b (direct_names name) (λ m. order_names order) joined first then)

pub order-asks : (name : List ℕ) (order : Order) (c : Settings) (a b : Asking) (fault : ReadFault LocalRefusal)
    → IfSome a.held (λ m. found m name ≡ Ok c) → Joined a b → AsksAll a (direct_names name)
    → AsksUpTo (λ m. order_names order) b fault → AsksUpTo (local_names name order) (both_asked a b) fault
order-asks name order c a b (Refused r) is joined first then = order-asked name order c a b is joined first then
order-asks name order c a b (Failed n) is joined first then = order-some name order c a b is joined first then
order-asks name order c a b NoMemory is joined first then = order-some name order c a b is joined first then
