-- What a network gave and what a spawner started in two parts of a call.
use Rattle.std.proofs.Common.{ℕ, ◌≡◌, List, [], ◌∷◌, ◌++◌, ◌+◌, ◌<◌, length, take, drop, get_or, zero, suc, refl, ap, sym, ◌∙◌, subst, arith, append_assoc}
use Rattle.std.proofs.lemmas.List.{append-nil, take_more, take-append-drop, map-append, length-append, length-map}
use Rattle.std.proofs.lemmas.List.Elements.{All-head}
use Rattle.std.specs.Prelude.{All, IsSomeAnd, Option, Some, None}
use Rattle.std.specs.declared.result.Result.TheVariants.{Ok, Err}
use Rattle.cos_base.specs.Counts.{Rises, Rose}
use Rattle.cos_base.specs.Networks.{Coming, Hands, Listens as NetListens}
use Rattle.cos_base.specs.declared.networks.NetFault.TheVariants as net
use Rattle.cos_children.specs.Children.{Children, with_started}
use Rattle.outcomes.specs.Seen.{Seen, IsBlamed}
use Rattle.cos_config.specs.declared.config.PortConfig.{PortConfig}
use Rattle.port_children.specs.declared.fault.OpenFault.{OpenFault}
use Rattle.port_children.specs.declared.fault.OpenFault.TheVariants as fault
use Rattle.port_children.specs.Peers.{child_words, name_of, sockets_of, words_from}
use Rattle.port_children.specs.Steps.{AreStarted, IsStarted, IsTaken, IsGiven, IsCutOff, IsPart, NetBlames}
use Rattle.port_children.specs.Opened.{HasGiven, Gives, MayGive, with_all, StartsAll, MayStart}

given-both : {L : Type 0} (m n : List (List ℕ)) (k l : List L) (o p q : Coming L) → HasGiven m k o p → HasGiven n l p q
    → HasGiven (m ++ n) (k ++ l) o q
given-both m n k l o p q x y = record {
  coming = x.coming ∙ ap (λ r. k ++ r) y.coming ∙ sym (append_assoc k l q.coming);
  names_are = y.names_are ∙ ap (λ r. r ++ n) x.names_are ∙ append_assoc o.names m n;
}

pub gives-both : {L : Type 0} (m n : List (List ℕ)) (k l : List L) (a b c : Option (Coming L)) → Gives m k a b
    → Gives n l b c → Gives (m ++ n) (k ++ l) a c
gives-both m n k l None b c x y = tt
gives-both m n k l (Some o) None c x y = absurd x
gives-both m n k l (Some o) (Some p) None x y = absurd y
gives-both m n k l (Some o) (Some p) (Some q) x y = given-both m n k l o p q x y

pub gives-may : {L : Type 0} (m n : List (List ℕ)) (k l : List L) (a b c : Option (Coming L)) → Gives m k a b
    → MayGive n l b c → MayGive (m ++ n) (k ++ l) a c
gives-may m n k l None b c x y = tt
gives-may m n k l (Some o) None c x y = absurd x
gives-may m n k l (Some o) (Some p) None x y = tt
gives-may m n k l (Some o) (Some p) (Some q) x y = given-both m n k l o p q x y

-- what is still told may be
pub gives-weak : {L : Type 0} (m : List (List ℕ)) (k : List L) (a b : Option (Coming L)) → Gives m k a b → MayGive m k a b
gives-weak m k None b x = tt
gives-weak m k (Some o) None x = tt
gives-weak m k (Some o) (Some p) x = x

-- nothing happened
pub gives-none : {L : Type 0} (a : Option (Coming L)) → Gives [] [] a a
gives-none None = tt
gives-none (Some o) = record { coming = refl; names_are = sym (append-nil o.names) }

pub with-both : (c : Children) (ws vs : List (List (List ℕ))) (ns ms : List ℕ) → length ns ≡ length ws
    → with_all c (ws ++ vs) (ns ++ ms) ≡ with_all (with_all c ws ns) vs ms
with-both c [] vs [] ms each = refl
with-both c [] vs (n ∷ ns) ms each = absurd (omega (arith, each))
with-both c (w ∷ ws) vs [] ms each = absurd (omega (arith, each))
with-both c (w ∷ ws) vs (n ∷ ns) ms each = with-both (with_started c w n) ws vs ns ms (omega (arith, each))

pub starts-both : (ws vs : List (List (List ℕ))) (ns ms : List ℕ) (a b c : Option Children) → length ns ≡ length ws
    → StartsAll ws ns a b → StartsAll vs ms b c → StartsAll (ws ++ vs) (ns ++ ms) a c
starts-both ws vs ns ms None b c each x y = tt
starts-both ws vs ns ms (Some o) None c each x y = absurd x
starts-both ws vs ns ms (Some o) (Some p) None each x y = absurd y
starts-both ws vs ns ms (Some o) (Some p) (Some q) each x y =
    y ∙ ap (λ d. with_all d vs ms) x ∙ sym (with-both o ws vs ns ms each)

-- what was started before a call that started none
pub starts-may : (ws : List (List (List ℕ))) (ns : List ℕ) (a b c : Option Children) → StartsAll ws ns a b
    → MayStart [] [] b c → MayStart ws ns a c
starts-may ws ns None b c x y = tt
starts-may ws ns (Some o) None c x y = absurd x
starts-may ws ns (Some o) (Some p) None x y = tt
starts-may ws ns (Some o) (Some p) (Some q) x y = y ∙ x

pub starts-weak : (ws : List (List (List ℕ))) (ns : List ℕ) (a b : Option Children) → StartsAll ws ns a b
    → MayStart ws ns a b
starts-weak ws ns None b x = tt
starts-weak ws ns (Some o) None x = tt
starts-weak ws ns (Some o) (Some p) x = x

pub starts-none : (a : Option Children) → StartsAll [] [] a a
starts-none None = tt
starts-none (Some o) = refl

-- an object of the outside, by its counts and by what it tells
abbrev pub between : {T : Type 0} → ℕ → ℕ → Option T → Option T → Seen T
between x y a b = record { before = x; now = y; old = a; new = b }

listen-told : {L : Type 0} (names : List (List ℕ)) (a b : Option (Coming L)) → NetListens a b names (Err net.Failed)
    → MayGive names [] a b
listen-told names None b tells = tt
listen-told names (Some o) None tells = tt
listen-told names (Some o) (Some p) tells =
    record { coming = ap (λ (t : Coming _). t.coming) (sym tells); names_are = ap (λ (t : Coming _). t.names) tells }

-- a count that rose is blamed
pub blamed : {T : Type 0} (x y n : ℕ) (a b : Option T) → Rises x y → n ≡ y → IsBlamed (between x y a b) n
blamed x y n a b rises is = (subst (λ m. Rose x m) (sym is) rises.1, omega (arith, is))

pub listen-failed : {L : Type 0} (name : List ℕ) (x y n : ℕ) (a b : Option (Coming L)) → Rises x y
    → NetListens a b (name ∷ []) (Err net.Failed) → n ≡ y
    → IsPart (name ∷ []) (between x y a b) (fault.Net n)
listen-failed name x y n a b rises tells is = record {
  given = name ∷ [];
  left = [];
  all = refl;
  cut = record { blames = blamed x y n a b rises is; gives = listen-told (name ∷ []) a b tells };
}

-- one part of a call after another
pub given-more : {L : Type 0} (m n : List (List ℕ)) (k l : List L) (x y z : ℕ) (a b c : Option (Coming L))
    → IsGiven m k (between x y a b) → IsGiven n l (between y z b c) → IsGiven (m ++ n) (k ++ l) (between x z a c)
given-more m n k l x y z a b c first next = record {
  stands = next.stands ∙ first.stands;
  gives = gives-both m n k l a b c first.gives next.gives;
}

cut-blames : {L : Type 0} (x y z : ℕ) (a b c : Option (Coming L)) (f : OpenFault) → y ≡ x → NetBlames (between y z b c) f
    → NetBlames (between x z a c) f
cut-blames x y z a b c (fault.Net n) same blames = (subst (λ k. Rose k n) same blames.0, blames.1)
cut-blames x y z a b c (fault.Spawner n) same blames = absurd blames
cut-blames x y z a b c fault.NoMemory same blames = blames ∙ same

pub cut-more : {L : Type 0} (m n : List (List ℕ)) (k l : List L) (x y z : ℕ) (a b c : Option (Coming L)) (f : OpenFault)
    → IsGiven m k (between x y a b) → IsCutOff n l (between y z b c) f
    → IsCutOff (m ++ n) (k ++ l) (between x z a c) f
cut-more m n k l x y z a b c f first next = record {
  blames = cut-blames x y z a b c f first.stands next.blames;
  gives = gives-may m n k l a b c first.gives next.gives;
}

-- memory was short after a part
pub cut-short : {L : Type 0} (m : List (List ℕ)) (k : List L) (x y : ℕ) (a b : Option (Coming L))
    → IsGiven m k (between x y a b) → IsCutOff m k (between x y a b) fault.NoMemory
cut-short m k x y a b first = record { blames = first.stands; gives = gives-weak m k a b first.gives }

-- the names of a part, and the others
pub part-behind : {L : Type 0} (all m n left : List (List ℕ)) (x y z : ℕ) (a b c : Option (Coming L)) (f : OpenFault)
    → all ≡ (m ++ n) ++ left → IsGiven {L = L} m [] (between x y a b) → IsPart n (between y z b c) f
    → IsPart all (between x z a c) f
part-behind {L} all m n left x y z a b c f is first part = record {
  given = m ++ part.given;
  left = part.left ++ left;
  all = is ∙ ap (λ l. (m ++ l) ++ left) part.all ∙ ap (λ l. l ++ left) (sym (append_assoc m part.given part.left))
      ∙ append_assoc (m ++ part.given) part.left left;
  cut = cut-more m part.given [] [] x y z a b c f first part.cut;
}

pub part-short : {L : Type 0} (all m left : List (List ℕ)) (x y : ℕ) (a b : Option (Coming L)) → all ≡ m ++ left
    → IsGiven {L = L} m [] (between x y a b) → IsPart all (between x y a b) fault.NoMemory
part-short all m left x y a b is first =
    record { given = m; left = left; all = is; cut = cut-short m [] x y a b first }

pub sockets-more : (ports : List PortConfig) (i : ℕ) (d : PortConfig) → i < length ports
    → sockets_of (take (i + 1) ports) ≡ sockets_of (take i ports) ++ name_of (get_or ports i d).socket ∷ []
sockets-more ports i d small =
    ap sockets_of (take_more ports i d small)
    ∙ map-append (λ (p : PortConfig). name_of p.socket) (take i ports) (get_or ports i d ∷ [])

pub sockets-all : (ports : List PortConfig) (i : ℕ) → sockets_of ports ≡ sockets_of (take i ports) ++ sockets_of (drop i ports)
sockets-all ports i =
    ap sockets_of (sym (take-append-drop i ports))
    ∙ map-append (λ (p : PortConfig). name_of p.socket) (take i ports) (drop i ports)

-- one child more was started
pub started-more : (ws : List (List (List ℕ))) (w : List (List ℕ)) (ns : List ℕ) (n : ℕ) (x y z : ℕ)
    (a b c : Option Children) → AreStarted ws ns (between x y a b) → AreStarted (w ∷ []) (n ∷ []) (between y z b c)
    → AreStarted (ws ++ w ∷ []) (ns ++ n ∷ []) (between x z a c)
started-more ws w ns n x y z a b c first next = record {
  stands = next.stands ∙ first.stands;
  starts = starts-both ws (w ∷ []) ns (n ∷ []) a b c first.each first.starts next.starts;
  each = omega (arith, first.each, length-append ns (n ∷ []), length-append ws (w ∷ []));
  untold = λ none. next.untold (first.untold none);
}

pub words-length : (p c : List ℕ) (k : ℕ) (ss : List (List ℕ)) → length (words_from p c k ss) ≡ length ss
words-length p c k [] = refl
words-length p c k (s ∷ ss) = omega (arith, words-length p c (k + 1) ss)

words-at : (p c : List ℕ) (k : ℕ) (ports : List PortConfig) (i : ℕ) (d : PortConfig) (e : List (List ℕ))
    → i < length ports
    → get_or (words_from p c k (sockets_of ports)) i e ≡ child_words p c (name_of (get_or ports i d).socket) (k + i)
words-at p c k [] i d e small = absurd (omega (arith, small))
words-at p c k (x ∷ xs) zero d e small =
    let same : k ≡ k + 0 = omega arith in ap (λ n. child_words p c (name_of x.socket) n) same
words-at p c k (x ∷ xs) (suc i) d e small =
    let same : (k + 1) + i ≡ k + suc i = omega arith in
    words-at p c (k + 1) xs i d e (omega (arith, small))
    ∙ ap (λ n. child_words p c (name_of (get_or xs i d).socket) n) same

pub words-more : (p c : List ℕ) (ports : List PortConfig) (i : ℕ) (d : PortConfig) → i < length ports
    → take (i + 1) (words_from p c 0 (sockets_of ports))
    ≡ take i (words_from p c 0 (sockets_of ports)) ++ child_words p c (name_of (get_or ports i d).socket) i ∷ []
words-more p c ports i d small =
    let words = words_from p c 0 (sockets_of ports) in
    let none : 0 + i ≡ i = omega arith in
    take_more words i []
    (omega (arith, small, words-length p c 0 (sockets_of ports), length-map ports (λ (x : PortConfig). name_of x.socket)))
    ∙ ap (λ w. take i words ++ w ∷ [])
    (words-at p c 0 ports i d [] small ∙ ap (λ n. child_words p c (name_of (get_or ports i d).socket) n) none)

-- a name more, by the port that it is of
pub sockets-next : (ports : List PortConfig) (i : ℕ) (x : PortConfig) (name : List ℕ) → x ≡ get_or ports i x
    → name ≡ name_of x.socket → i < length ports
    → sockets_of (take (i + 1) ports) ≡ sockets_of (take i ports) ++ name ∷ []
sockets-next ports i x name item is small =
    sockets-more ports i x small
    ∙ ap (λ n. sockets_of (take i ports) ++ n ∷ [])
    (ap (λ (p : PortConfig). name_of p.socket) (sym item) ∙ sym is)

-- the links to come of a sound network are sound, the first among them
pub first-sound : {L : Type 0} (sound : L → Type 0) (a b : Option (Coming L)) (names : List (List ℕ)) (l : L)
    → IsSomeAnd a (λ t. All sound t.coming) → Hands a b names (Ok l) → sound l
first-sound sound None b names l all hands = absurd all
first-sound sound (Some t) b names l all (rest, first, is) =
    All-head sound l rest (subst (λ ls. All sound ls) first all)

-- the words of a child more, by the port that it serves
pub words-next : (p c : List ℕ) (ports : List PortConfig) (i : ℕ) (x : PortConfig) (name : List ℕ) (texts : List (List ℕ))
    → x ≡ get_or ports i x → name ≡ name_of x.socket → texts ≡ child_words p c name i → i < length ports
    → take (i + 1) (words_from p c 0 (sockets_of ports)) ≡ take i (words_from p c 0 (sockets_of ports)) ++ texts ∷ []
words-next p c ports i x name texts item is are small =
    words-more p c ports i x small
    ∙ ap (λ w. take i (words_from p c 0 (sockets_of ports)) ++ w ∷ [])
    (ap (λ (y : PortConfig). child_words p c (name_of y.socket) i) (sym item)
    ∙ ap (λ n. child_words p c n i) (sym is) ∙ sym are)

-- the next child was started, and the next link was taken
pub started-next : (all ws : List (List (List ℕ))) (w : List (List ℕ)) (ns new : List ℕ) (x y z : ℕ)
    (a b c : Option Children) → all ≡ ws ++ w ∷ [] → AreStarted ws ns (between x y a b)
    → IsStarted w (between y z b c) ns new → AreStarted all new (between x z a c)
started-next all ws w ns new x y z a b c are first next =
    subst (λ l. AreStarted l new (between x z a c)) (sym are)
    (subst (λ l. AreStarted (ws ++ w ∷ []) l (between x z a c)) (sym next.behind)
    (started-more ws w ns next.number x y z a b c first next.one))

pub taken-next : {L : Type 0} (m : List (List ℕ)) (k had new : List L) (x y z : ℕ) (a b c : Option (Coming L))
    → had ≡ k → IsGiven m k (between x y a b) → IsTaken (between y z b c) had new → IsGiven m new (between x z a c)
taken-next m k had new x y z a b c same first next =
    let behind = next.behind ∙ ap (λ l. l ++ next.link ∷ []) same in
    subst (λ l. IsGiven m l (between x z a c)) (sym behind)
    (subst (λ l. IsGiven l (k ++ next.link ∷ []) (between x z a c)) (append-nil m)
    (given-more m [] k (next.link ∷ []) x y z a b c first next.given))

pub one-longer : {A : Type 0} (xs ys : List A) (x : A) (i : ℕ) → ys ≡ xs ++ x ∷ [] → length xs ≡ i → length ys ≡ i + 1
one-longer xs ys x i is old = omega (arith, ap length is, length-append xs (x ∷ []), old)
