-- Tests of numbers, and capabilities.
use Rattle.std.proofs.Common.{◌≡◌, ℕ, ◌<◌, ◌≤◌, Bool, true, false, refl, arith}
use Rattle.std.specs.Prelude.{nat_eq, nat_lt, nat_le}
use Rattle.std.proofs.lemmas.Bool.{le-ltb, lt-leb, eqb-true}
use Rattle.std.proofs.Math.Dec.{T, eqb, eqb_refl}
use Rattle.cosim_model.specs.declared.values.Caps.{Caps}
use Rattle.cosim_model.specs.Values.{all_caps}
use Rattle.cosim_model.specs.Packets.{caps_of, offered}
use Rattle.cosim_model.specs.Sessions.{both}

truth : (b : Bool) → T b → b ≡ true
truth true t = refl
truth false t = absurd t

pub same_number : (n : ℕ) → nat_eq n n ≡ true
same_number n = truth (nat_eq n n) (eqb_refl n)

pub not_below : (a b : ℕ) → b ≤ a → nat_lt a b ≡ false
not_below a b l = le-ltb a b l

pub common_here : (o : Caps) → both (caps_of (offered o)) all_caps ≡ o
common_here o = λ d. go o.base o.enables o.posted d
  where
    go : (a b c : Bool) → both (caps_of (offered (record { base = a; enables = b; posted = c }))) all_caps ≡ record { base = a; enables = b; posted = c }
    go true true true = refl
    go true true false = refl
    go true false true = refl
    go true false false = refl
    go false true true = refl
    go false true false = refl
    go false false true = refl
    go false false false = refl

pub below_limit : (n : ℕ) → n < 8191 → nat_le 8191 n ≡ false
below_limit n l = lt-leb 8191 n l

pub other_number : (a b : ℕ) → a < b → nat_eq a b ≡ false
other_number a b l = go (nat_eq a b) refl
  where
    go : (c : Bool) → nat_eq a b ≡ c → nat_eq a b ≡ false
    go false e = e
    go true e = let s = eqb-true a b e in absurd (omega arith)
