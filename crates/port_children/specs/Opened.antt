-- How the links of children are had: their sockets are listened under by port, and then, port by port, the child is
-- started and its link taken.
use Rattle.std.specs.Prelude.{ℕ, ◌≡◌, ◌⊎◌, ◌+◌, ◌<◌, ◌≤◌, List, [], ◌∷◌, ◌++◌, length, IfSome, IsSomeAnd}
use Rattle.std.specs.declared.option.Option.{Option}
use Rattle.std.specs.declared.option.Option.TheVariants.{None}
use Rattle.std.specs.declared.result.Result.{Result}
use Rattle.std.specs.declared.result.Result.TheVariants.{Ok, Err}
use Rattle.cos_base.specs.Networks.{Coming}
use Rattle.cos_children.specs.Children.{Children, with_started}
use Rattle.outcomes.specs.Seen.{Seen, CountStands, IsBlamed}
use Rattle.port_children.specs.declared.fault.OpenFault.{OpenFault}
use Rattle.port_children.specs.declared.fault.OpenFault.TheVariants as fault
use Rattle.port_children.specs.Peers.{words_from}

-- The network was given these names, and these links are the first that were to come.
pub record HasGiven {L : Type 0} (names : List (List ℕ)) (links : List L) (old new : Coming L) : Type 0 where
  pub coming : old.coming ≡ links ++ new.coming
  pub names_are : new.names ≡ old.names ++ names

-- and it still tells, or may
abbrev pub Gives : {L : Type 0} → List (List ℕ) → List L → Option (Coming L) → Option (Coming L) → Type 0
Gives names links old new = IfSome old (λ o. IsSomeAnd new (λ n. HasGiven names links o n))

abbrev pub MayGive : {L : Type 0} → List (List ℕ) → List L → Option (Coming L) → Option (Coming L) → Type 0
MayGive names links old new = IfSome old (λ o. IfSome new (λ n. HasGiven names links o n))

-- one child after another was started, by these words, and got these numbers
abbrev pub with_all : Children → List (List (List ℕ)) → List ℕ → Children
with_all c [] ns = c
with_all c (words ∷ more) [] = c
with_all c (words ∷ more) (n ∷ ns) = with_all (with_started c words n) more ns

-- what that adds to the children that were started
abbrev pub pairs : List (List (List ℕ)) → List ℕ → List (List (List ℕ) × ℕ)
pairs [] ns = []
pairs (words ∷ more) [] = []
pairs (words ∷ more) (n ∷ ns) = (words, n) ∷ pairs more ns

-- and that is still told, or may be
abbrev pub StartsAll : List (List (List ℕ)) → List ℕ → Option Children → Option Children → Type 0
StartsAll words numbers old new = IfSome old (λ o. IsSomeAnd new (λ n. n ≡ with_all o words numbers))

abbrev pub MayStart : List (List (List ℕ)) → List ℕ → Option Children → Option Children → Type 0
MayStart words numbers old new = IfSome old (λ o. IfSome new (λ n. n ≡ with_all o words numbers))

-- Each port has its link and its child, and no call failed.
pub record IsOpened {L : Type 0} (sockets : List (List ℕ)) (words : List (List (List ℕ))) (net : Seen (Coming L))
    (children : Seen Children) (links : List L) (numbers : List ℕ) : Type 0 where
  pub net_stands : CountStands net
  pub children_stand : CountStands children
  pub each_link : length links ≡ length sockets
  pub each_child : length numbers ≡ length sockets
  pub gives : Gives sockets links net.old net.new
  pub starts : StartsAll words numbers children.old children.new
  -- what isn't told isn't told later
  pub untold : children.old ≡ None → children.new ≡ None

-- The network is blamed only where its count rose, and so is the spawner.
abbrev pub Blames : {L : Type 0} → Seen (Coming L) → Seen Children → OpenFault → Type 0
Blames net children (fault.Net n) = IsBlamed net n × CountStands children
Blames net children (fault.Spawner n) = CountStands net × IsBlamed children n
Blames net children fault.NoMemory = CountStands net × CountStands children

-- Some were had, and then a call failed. No child was started unless all sockets were listened under, and of those that
-- were started each but the last has its link.
pub record IsUnopened {L : Type 0} (sockets : List (List ℕ)) (words : List (List (List ℕ))) (net : Seen (Coming L))
    (children : Seen Children) (links : List L) (numbers : List ℕ) (f : OpenFault) : Type 0 where
  pub blames : Blames net children f
  pub names : List (List ℕ)
  pub unnamed : List (List ℕ)
  pub sockets_are : sockets ≡ names ++ unnamed
  pub started : List (List (List ℕ))
  pub unstarted : List (List (List ℕ))
  pub words_are : words ≡ started ++ unstarted
  pub each_child : length numbers ≡ length started
  pub few_links : length links ≤ length numbers
  pub port_by_port : length numbers ≤ length links + 1
  pub listens_first : (unnamed ≡ []) ⊎ (started ≡ [])
  pub gives : MayGive names links net.old net.new
  pub starts : MayStart started numbers children.old children.new
  -- what isn't told isn't told later
  pub untold : children.old ≡ None → children.new ≡ None

abbrev pub Opens :
    {L : Type 0} → List ℕ → List ℕ → List (List ℕ) → Seen (Coming L) → Seen Children → List L → List ℕ
    → Result Unit OpenFault → Type 0
Opens program config sockets net children links numbers (Ok u) =
    IsOpened sockets (words_from program config 0 sockets) net children links numbers
Opens program config sockets net children links numbers (Err f) =
    IsUnopened sockets (words_from program config 0 sockets) net children links numbers f

-- Over sound objects the network is blamed only where fewer links are to come than there are ports, and the spawner isn't.
abbrev pub OpensSoundly : {L : Type 0} → List (List ℕ) → Option (Coming L) → Result Unit OpenFault → Type 0
OpensSoundly sockets old (Ok u) = Unit {0}
OpensSoundly sockets old (Err (fault.Net n)) = IsSomeAnd old (λ t. length t.coming < length sockets)
OpensSoundly sockets old (Err (fault.Spawner n)) = ⊥
OpensSoundly sockets old (Err fault.NoMemory) = Unit {0}
