-- How having the links of children stops.
use Rattle.std.proofs.Common.{ℕ, ◌≡◌, ◌+◌, ◌≤◌, List, [], ◌++◌, length, take, drop, refl, ap, sym, ◌∙◌, subst, arith, inl, inr}
use Rattle.std.proofs.lemmas.List.{append-nil, take-append-drop, length-map}
use Rattle.std.proofs.Math.Seq.{take-length}
use Rattle.std.specs.Prelude.{Option}
use Rattle.cos_base.specs.Counts.{Rose}
use Rattle.cos_base.specs.Networks.{Coming}
use Rattle.cos_children.specs.Children.{Children}
use Rattle.cos_config.specs.declared.config.PortConfig.{PortConfig}
use Rattle.port_children.specs.declared.fault.OpenFault.{OpenFault}
use Rattle.port_children.specs.declared.fault.OpenFault.TheVariants as fault
use Rattle.port_children.specs.Opened.{StartsAll, Blames, IsOpened, IsUnopened}
use Rattle.port_children.specs.Peers.{name_of, sockets_of, words_from}
use Rattle.port_children.specs.Steps.{AreStarted, IsUnstarted, IsGiven, IsCutOff, IsPart, NetBlames, SpawnBlames}
use Rattle.port_children.proofs.Parts.{between, gives-weak, starts-may, starts-weak, starts-none, cut-more, words-length}

net-blames : {L : Type 0} (x y v w : ℕ) (a b : Option (Coming L)) (e d : Option Children) (f : OpenFault)
    → NetBlames (between x y a b) f → w ≡ v → Blames (between x y a b) (between v w e d) f
net-blames x y v w a b e d (fault.Net n) blames stands = (blames, stands)
net-blames x y v w a b e d (fault.Spawner n) blames stands = absurd blames
net-blames x y v w a b e d fault.NoMemory blames stands = (blames, stands)

spawn-blames : {L : Type 0} (x y v u w : ℕ) (a b : Option (Coming L)) (e m d : Option Children) (f : OpenFault)
    → y ≡ x → u ≡ v → SpawnBlames (between u w m d) f → Blames (between x y a b) (between v w e d) f
spawn-blames x y v u w a b e m d (fault.Net n) stands same blames = absurd blames
spawn-blames x y v u w a b e m d (fault.Spawner n) stands same blames =
    (stands, (subst (λ k. Rose k n) same blames.0, blames.1))
spawn-blames x y v u w a b e m d fault.NoMemory stands same blames = (stands, blames ∙ same)

-- a network or its memory failed while it listened: no child was started
pub stop-listening : {L : Type 0} (sockets : List (List ℕ)) (words : List (List (List ℕ))) (links : List L)
    (numbers : List ℕ) (x y v : ℕ) (a b : Option (Coming L)) (e : Option Children) (f : OpenFault) → links ≡ []
    → numbers ≡ [] → IsPart sockets (between x y a b) f
    → IsUnopened sockets words (between x y a b) (between v v e e) links numbers f
stop-listening sockets words links numbers x y v a b e f no-links no-numbers part =
    subst (λ ls. IsUnopened sockets words (between x y a b) (between v v e e) ls numbers f) (sym no-links)
    (subst (λ ns. IsUnopened sockets words (between x y a b) (between v v e e) [] ns f) (sym no-numbers)
    (record {
      blames = net-blames x y v v a b e e f part.cut.blames refl;
      names = part.given;
      unnamed = part.left;
      sockets_are = part.all;
      started = [];
      unstarted = words;
      words_are = refl;
      each_child = refl;
      few_links = omega arith;
      port_by_port = omega arith;
      listens_first = inr refl;
      gives = part.cut.gives;
      starts = starts-weak [] [] e e (starts-none e);
      untold = λ none. none;
    }))

-- memory was short before a child was started
pub stop-short : {L : Type 0} (sockets : List (List ℕ)) (words : List (List (List ℕ))) (i : ℕ) (links : List L)
    (numbers : List ℕ) (x y v w : ℕ) (a b : Option (Coming L)) (e d : Option Children)
    → IsGiven sockets links (between x y a b) → AreStarted (take i words) numbers (between v w e d)
    → length links ≡ length numbers
    → IsUnopened sockets words (between x y a b) (between v w e d) links numbers fault.NoMemory
stop-short sockets words i links numbers x y v w a b e d given started few = record {
  blames = (given.stands, started.stands);
  names = sockets;
  unnamed = [];
  sockets_are = sym (append-nil sockets);
  started = take i words;
  unstarted = drop i words;
  words_are = sym (take-append-drop i words);
  each_child = started.each;
  few_links = omega (arith, few);
  port_by_port = omega (arith, few);
  listens_first = inl refl;
  gives = gives-weak sockets links a b given.gives;
  starts = starts-weak (take i words) numbers e d started.starts;
  untold = started.untold;
}

-- a child wasn't started
pub stop-starting : {L : Type 0} (sockets : List (List ℕ)) (words : List (List (List ℕ))) (i : ℕ) (links : List L)
    (numbers : List ℕ) (x y v u w : ℕ) (a b : Option (Coming L)) (e m d : Option Children) (f : OpenFault)
    → IsGiven sockets links (between x y a b) → AreStarted (take i words) numbers (between v u e m)
    → IsUnstarted (between u w m d) f → length links ≡ length numbers
    → IsUnopened sockets words (between x y a b) (between v w e d) links numbers f
stop-starting sockets words i links numbers x y v u w a b e m d f given started none few = record {
  blames = spawn-blames x y v u w a b e m d f given.stands started.stands none.blames;
  names = sockets;
  unnamed = [];
  sockets_are = sym (append-nil sockets);
  started = take i words;
  unstarted = drop i words;
  words_are = sym (take-append-drop i words);
  each_child = started.each;
  few_links = omega (arith, few);
  port_by_port = omega (arith, few);
  listens_first = inl refl;
  gives = gives-weak sockets links a b given.gives;
  starts = starts-may (take i words) numbers e m d started.starts none.starts;
  untold = λ told. none.untold (started.untold told);
}

-- the link of a child that was started wasn't had
pub stop-accepting : {L : Type 0} (sockets : List (List ℕ)) (words : List (List (List ℕ))) (i : ℕ) (links : List L)
    (numbers : List ℕ) (x y z v w : ℕ) (a b c : Option (Coming L)) (e d : Option Children) (f : OpenFault)
    → IsGiven sockets links (between x y a b) → IsCutOff {L = L} [] [] (between y z b c) f
    → AreStarted (take i words) numbers (between v w e d) → length numbers ≡ length links + 1
    → IsUnopened sockets words (between x z a c) (between v w e d) links numbers f
stop-accepting {L} sockets words i links numbers x y z v w a b c e d f given cut started few =
    let stopped : IsCutOff sockets links (between x z a c) f =
    subst (λ l. IsCutOff sockets l (between x z a c) f) (append-nil links)
    (subst (λ l. IsCutOff l (links ++ []) (between x z a c) f) (append-nil sockets)
    (cut-more sockets [] links [] x y z a b c f given cut)) in
    record {
      blames = net-blames x z v w a c e d f stopped.blames started.stands;
      names = sockets;
      unnamed = [];
      sockets_are = sym (append-nil sockets);
      started = take i words;
      unstarted = drop i words;
      words_are = sym (take-append-drop i words);
      each_child = started.each;
      few_links = omega (arith, few);
      port_by_port = omega (arith, few);
      listens_first = inl refl;
      gives = stopped.gives;
      starts = starts-weak (take i words) numbers e d started.starts;
      untold = started.untold;
    }

-- each port has its link and its child
pub opened : {L : Type 0} (p q : List ℕ) (ports : List PortConfig) (i : ℕ) (links : List L) (numbers : List ℕ)
    (x y v w : ℕ) (a b : Option (Coming L)) (e d : Option Children)
    → IsGiven (sockets_of ports) links (between x y a b)
    → AreStarted (take i (words_from p q 0 (sockets_of ports))) numbers (between v w e d) → length links ≡ i
    → length numbers ≡ i → i ≤ length ports → length ports ≤ i
    → IsOpened (sockets_of ports) (words_from p q 0 (sockets_of ports)) (between x y a b) (between v w e d) links numbers
opened p q ports i links numbers x y v w a b e d given started each_link each_child within past =
    let words = words_from p q 0 (sockets_of ports) in
    let many = length-map ports (λ (c : PortConfig). name_of c.socket) in
    let whole : i ≡ length words = omega (arith, within, past, many, words-length p q 0 (sockets_of ports)) in
    let all : take i words ≡ words = ap (λ n. take n words) whole ∙ take-length words in
    record {
      net_stands = given.stands;
      children_stand = started.stands;
      each_link = omega (arith, each_link, within, past, many);
      each_child = omega (arith, each_child, within, past, many);
      gives = given.gives;
      starts = subst (λ l. StartsAll l numbers e d) all started.starts;
      untold = started.untold;
    }
