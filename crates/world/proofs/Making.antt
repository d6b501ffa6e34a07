-- The ends at the start.
use Rattle.std.proofs.Common.{◌≡◌, ℕ, zero, suc, List, [], ◌∷◌, length, get_or, map, replicate, refl, sym, ap, ◌∙◌, subst, arith}
use Rattle.std.specs.Prelude.{All, None}
use Rattle.std.proofs.lemmas.List.{length-map, length-replicate}
use Rattle.process_network.specs.PacketStar.{fresh_leaf}
use Rattle.process_network.specs.Star.{Link, new_link}
use Rattle.device_turns.specs.Ends.{End as DeviceTurns, core_of as device_core}
use Rattle.machine_turns.specs.Ends.{End, Received, core_of, fresh as fresh_machine}
use Rattle.world.specs.Seats.{IsFresh, SeatValue, leaf_of}
use Rattle.world.specs.Stars.{IsHeard, IsHub, ends_of, nothing_received, unsent}

pub same-list : {A : Type 0} (xs : List A) → xs ≡ map (λ x. x) xs
same-list [] = refl
same-list (x ∷ xs) = ap (λ ys. x ∷ ys) (same-list xs)

none-taken : (n : ℕ) → map (λ (r : Received). r.taken) (replicate n nothing_received) ≡ replicate n 0
none-taken zero = refl
none-taken (suc n) = ap (λ ts. 0 ∷ ts) (none-taken n)

new-links : {A B : Type 0} (f : A → B) (xs : List A) → map (λ (x : A). new_link) xs ≡ replicate (length (map f xs)) new_link
new-links f [] = refl
new-links f (x ∷ xs) = ap (λ ks. new_link ∷ ks) (new-links f xs)

link-or : {A : Type 0} (xs : List A) (p : ℕ) → get_or (map (λ (x : A). new_link) xs) p new_link ≡ new_link
link-or [] p = refl
link-or (x ∷ xs) zero = refl
link-or (x ∷ xs) (suc p) = link-or xs p

port-or : (n p : ℕ) → get_or (replicate n nothing_received) p nothing_received ≡ nothing_received
port-or zero p = refl
port-or (suc n) zero = refl
port-or (suc n) (suc p) = port-or n p

fresh-leaf : {S : Type 0} (e : DeviceTurns S) → IsFresh e → leaf_of e ≡ fresh_leaf (device_core e)
fresh-leaf {S} e is = ap (λ n. record { core = device_core e; taken = n }) (ap (λ (x : DeviceTurns S). x.taken) is.is)

all-leaves : {S : Type 0} (es : List (DeviceTurns S)) → All IsFresh es
    → map leaf_of es ≡ map (λ (x : DeviceTurns S). fresh_leaf (device_core x)) es
all-leaves [] all = refl
all-leaves {S} (e ∷ es) all =
    let here = fresh-leaf e (all 0 e (omega arith)) in
    let rest = all-leaves es (λ n x within. all (suc n) x (omega (arith, within))) in
    λ i. here i ∷ rest i

ends-leaves : {S : Type 0} (seats : List (SeatValue S))
    → map (λ (s : SeatValue S). leaf_of s.end) seats ≡ map leaf_of (map (λ (s : SeatValue S). s.end) seats)
ends-leaves [] = refl
ends-leaves (s ∷ seats) = ap (λ ls. leaf_of s.end ∷ ls) (ends-leaves seats)

module _ {M S : Type 0} (e : End M) (seats : List (SeatValue S)) (es : List (DeviceTurns S))
    (fresh : e ≡ fresh_machine e.clear (length es)) (ends : map (λ (s : SeatValue S). s.end) seats ≡ es)
    (links : map (λ (s : SeatValue S). s.link) seats ≡ map (λ (x : DeviceTurns S). new_link) es) where
  ports-are : e.ports ≡ replicate (length es) nothing_received
  ports-are = ap (λ (x : End M). x.ports) fresh

  nothing-heard : IsHeard new_link nothing_received
  nothing-heard = record { taken = omega arith; small = omega arith; fits = omega arith; holds = refl }

  pub made-hub : IsHub e (map (λ (s : SeatValue S). s.link) seats)
  made-hub = record {
    clear = ap (λ (x : End M). x.kept) fresh;
    size = ap length ports-are ∙ length-replicate (length es) nothing_received
        ∙ sym (length-map es (λ (x : DeviceTurns S). new_link)) ∙ sym (ap length links);
    heard = λ p.
        subst (λ ks. IsHeard (get_or ks p new_link) (get_or e.ports p nothing_received)) (sym links)
        (subst (λ rs. IsHeard (get_or (map (λ (x : DeviceTurns S). new_link) es) p new_link) (get_or rs p nothing_received)) (sym ports-are)
        (subst (λ k. IsHeard k (get_or (replicate (length es) nothing_received) p nothing_received)) (sym (link-or es p))
        (subst (λ r. IsHeard new_link r) (sym (port-or (length es) p)) nothing-heard)));
  }

  pub made-as : All IsFresh es → ends_of e seats ≡ unsent e es
  made-as all = λ i. record {
    hub = record {
      core = core_of e;
      taken = (ap (map (λ (r : Received). r.taken)) ports-are ∙ none-taken (length es)) i;
    };
    leaves = (ends-leaves seats ∙ ap (map leaf_of) ends ∙ all-leaves es all) i;
    links = (links ∙ new-links (λ (x : DeviceTurns S). fresh_leaf (device_core x)) es) i;
  }
