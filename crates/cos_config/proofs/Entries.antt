-- A list of numbers read entry by entry.
use Rattle.std.proofs.Common.{◌≡◌, ℕ, pos, negsuc, ◌+◌, ◌<◌, ◌≤◌, List, [], ◌∷◌, ◌++◌, length, drop, get_or, Some, None, refl, sym, ◌∙◌, ap, arith, append_assoc, inl, inr}
use Rattle.std.proofs.lemmas.Bool.Decides.{nat_tests}
use Rattle.toml.specs.Data.{Data, string, integer, float, boolean, datetime, array, table, Items, item}
use Rattle.toml.specs.View.{view, items_view}
use Rattle.toml.specs.declared.value.Value.{Value}
use Rattle.toml.proofs.Views.{items_view-drop}
use Rattle.cos_config.specs.declared.fault.TableName.{TableName}
use Rattle.cos_config.specs.declared.fault.ConfigFault.{ConfigFault}
use Rattle.cos_config.specs.First.{or_else, Refuses}
use Rattle.cos_config.specs.Keys.{number_found, number_in, entries_found}
use Rattle.cos_config.specs.Settings.{numbers_of}

-- What was read of a list and what is left of it: the whole is what is left, from the next lower limit on.
pub record Entering (name : TableName) (key : List ℕ) (low high : ℕ) (all : Items) (least : ℕ) (numbers : List ℕ) (rest : Items) : Type 0 where
  pub found : entries_found name key low high all ≡ entries_found name key least high rest
  pub values : numbers_of all ≡ numbers ++ numbers_of rest

pub enters-first : (name : TableName) (key : List ℕ) (low high : ℕ) (all : Items) → Entering name key low high all low [] all
enters-first name key low high all = record { found = refl; values = refl }

next-number : (name : TableName) (key : List ℕ) (low high least : ℕ) (all : Items) (numbers : List ℕ) (d : Data) (later : Items) → number_found name key least high 1 d ≡ None → Entering name key low high all least numbers (item d later) → Entering name key low high all (number_in 0 (Some d) + 1) (numbers ++ number_in 0 (Some d) ∷ []) later
next-number name key low high least all numbers d later none e = record {
  found = e.found ∙ ap (λ f. or_else f (entries_found name key (number_in 0 (Some d) + 1) high later)) none;
  values = e.values ∙ sym (append_assoc numbers (number_in 0 (Some d) ∷ []) (numbers_of later));
}

pub enters-next : (name : TableName) (key : List ℕ) (low high least : ℕ) (all : Items) (numbers : List ℕ) (vs : List Value) (i n : ℕ) (d : Value) → i < length vs → number_found name key least high 1 (view (get_or vs i d)) ≡ None → n ≡ number_in 0 (Some (view (get_or vs i d))) → Entering name key low high all least numbers (items_view (drop i vs)) → Entering name key low high all (n + 1) (numbers ++ n ∷ []) (items_view (drop (i + 1) vs))
enters-next name key low high least all numbers vs i n d here none is e =
    let v = view (get_or vs i d) in
    let next = next-number name key low high least all numbers v (items_view (drop (i + 1) vs)) none (rw (items_view-drop vs i d here) at e) in
    rw is next

pub enters-refused : (name : TableName) (key : List ℕ) (low high least : ℕ) (all : Items) (numbers : List ℕ) (vs : List Value) (i : ℕ) (d : Value) (f : ConfigFault) → i < length vs → Refuses (number_found name key least high 1 (view (get_or vs i d))) f → Entering name key low high all least numbers (items_view (drop i vs)) → Refuses (entries_found name key low high all) f
enters-refused name key low high least all numbers vs i d f here refused e =
    elim refused [
      | inl memory ↦ inl memory
      | inr found ↦ inr (e.found ∙ (rw (items_view-drop vs i d here) (ap (λ x. or_else x (entries_found name key (number_in 0 (Some (view (get_or vs i d))) + 1) high (items_view (drop (i + 1) vs)))) found)))
    ]

pub number-below : (name : TableName) (key : List ℕ) (low high : ℕ) (d : Data) → number_found name key low high 1 d ≡ None → number_in 0 (Some d) ≤ high
number-below name key low high (integer (pos n)) none = grind (arith, nat_tests)
number-below name key low high (integer (negsuc n)) none = cc
number-below name key low high (string s) none = cc
number-below name key low high (float x) none = cc
number-below name key low high (boolean b) none = cc
number-below name key low high (datetime t) none = cc
number-below name key low high (array xs) none = cc
number-below name key low high (table m) none = cc
