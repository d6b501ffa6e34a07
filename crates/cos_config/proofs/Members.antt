-- The keys of a table, gone through in their order.
use Rattle.std.proofs.Common.{◌≡◌, ◌⊎◌, ℕ, true, false, if◌then◌else◌, List, [], ◌∷◌, map, Some, None, String, Global, string_bytes, refl, ap, ◌∙◌, sym, inl, inr}
use Rattle.toml.specs.declared.value.Value.{Value}
use Rattle.toml.specs.View.{members_view}
use Rattle.cos_config.specs.declared.fault.TableName.{TableName}
use Rattle.cos_config.specs.declared.fault.ConfigFault.{ConfigFault}
use Rattle.cos_config.specs.declared.fault.ConfigFault.TheVariants.{Unknown, NoMemory}
use Rattle.cos_config.specs.First.{Found, Refuses}
use Rattle.cos_config.specs.Keys.{is_among, unknown_found}

-- the first of the keys that isn't among the names
abbrev pub first_unknown : TableName → List (List ℕ) → List (String Global) → Found
first_unknown name names [] = None
first_unknown name names (key ∷ keys) = if is_among (string_bytes key) names then first_unknown name names keys else Some (Unknown name (string_bytes key))

pub of_members : (name : TableName) (names : List (List ℕ)) (es : List (String Global × Value)) → first_unknown name names (map (λ e. e.0) es) ≡ unknown_found name names (members_view es)
of_members name names [] = refl
of_members name names (e ∷ es) = ap (λ later. if is_among (string_bytes e.0) names then later else Some (Unknown name (string_bytes e.0))) (of_members name names es)

pub passes : (name : TableName) (names : List (List ℕ)) (key : String Global) (keys : List (String Global)) → is_among (string_bytes key) names ≡ true → first_unknown name names (key ∷ keys) ≡ first_unknown name names keys
passes name names key keys known = rw known

pub stops : (name : TableName) (names : List (List ℕ)) (key : String Global) (keys : List (String Global)) → is_among (string_bytes key) names ≡ false → first_unknown name names (key ∷ keys) ≡ Some (Unknown name (string_bytes key))
stops name names key keys unknown = rw unknown

pub refuses : (found : Found) (name : TableName) (key : List ℕ) (f : ConfigFault) → found ≡ Some (Unknown name key) → (f ≡ NoMemory) ⊎ (f ≡ Unknown name key) → Refuses found f
refuses found name key f is answer = elim answer [ inl memory ↦ inl memory | inr same ↦ inr (is ∙ ap (λ x. Some x) (sym same)) ]
