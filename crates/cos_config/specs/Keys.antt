-- What stands at a key of a table, and what is wrong with it.
use Rattle.std.specs.Prelude.{ℕ, ◌+◌, ◌%◌, ℤ, pos, negsuc, Bool, false, ◌&&◌, nat_le, nat_eq, if◌then◌else◌, List, [], ◌∷◌, map, Option, Some, None}
use Rattle.std.specs.Str.{bytes_eq}
use Rattle.std.specs.List.{list_any}
use Rattle.toml.specs.Data.{Data, string, integer, array, Items, no_items, item, Members, no_members, member, get_member}
use Rattle.cos_config.specs.declared.fault.TableName.{TableName}
use Rattle.cos_config.specs.declared.fault.ConfigFault.TheVariants.{Unknown, Missing, Kind, Word, Range}
use Rattle.cos_config.specs.First.{Found, or_else}

-- A value is a text of which a test says that it is one of the key's words; a whole number from `low` to `high` that is
-- a multiple of `step`; any text; or a list of whole numbers from `low` to `high`, each above the one before it.
pub data Shape : Type 0 where
  A_word : (is_word : List ℕ → Bool) → Shape
  A_number : (low high step : ℕ) → Shape
  A_text : Shape
  Ascending : (low high : ℕ) → Shape

abbrev pub is_within : ℕ → ℕ → ℕ → ℤ → Bool
is_within low high step (pos n) = nat_le low n && (nat_le n high && nat_eq (n % step) 0)
is_within low high step (negsuc n) = false

abbrev pub natural : ℤ → ℕ
natural (pos n) = n
natural (negsuc n) = 0

abbrev pub number_in : ℕ → Option Data → ℕ
number_in default (Some (integer z)) = natural z
number_in default _ = default

abbrev pub number_found : TableName → List ℕ → ℕ → ℕ → ℕ → Data → Found
number_found name key low high step (integer z) = if is_within low high step z then None else Some (Range name key z)
number_found name key low high step _ = Some (Kind name key)

-- the first entry that is no whole number, or is outside the limits, of which the lower one is above the entry before
abbrev pub entries_found : TableName → List ℕ → ℕ → ℕ → Items → Found
entries_found name key low high no_items = None
entries_found name key low high (item entry later) =
    or_else (number_found name key low high 1 entry) (entries_found name key (number_in 0 (Some entry) + 1) high later)

abbrev pub value_found : TableName → List ℕ → Shape → Data → Found
value_found name key (A_word is_word) (string s) = if is_word s then None else Some (Word name key)
value_found name key (A_number low high step) value = number_found name key low high step value
value_found name key A_text (string s) = None
value_found name key (Ascending low high) (array entries) = entries_found name key low high entries
value_found name key _ _ = Some (Kind name key)

-- A key of a table: its name, whether it has to be there, and what stands at it.
pub record Key : Type 0 where
  pub name : List ℕ
  pub required : Bool
  pub holds : Shape

abbrev pub at_found : TableName → Key → Option Data → Found
at_found name key None = if key.required then Some (Missing name key.name) else None
at_found name key (Some value) = value_found name key.name key.holds value

abbrev pub key_found : TableName → Members → Key → Found
key_found name members key = at_found name key (get_member key.name members)

abbrev pub name_of : Key → List ℕ
name_of key = key.name

abbrev pub is_among : List ℕ → List (List ℕ) → Bool
is_among name names = list_any (λ known. bytes_eq known name) names

-- the first member whose key isn't among the names; members stand in the order of their keys' bytes
abbrev pub unknown_found : TableName → List (List ℕ) → Members → Found
unknown_found name names no_members = None
unknown_found name names (member key value later) = if is_among key names then unknown_found name names later
    else Some (Unknown name key)

abbrev pub keys_found : TableName → Members → List Key → Found
keys_found name held [] = None
keys_found name held (key ∷ keys) = or_else (key_found name held key) (keys_found name held keys)

-- what is wrong with a table: its least unknown key, then its keys in their order
abbrev pub table_found : TableName → List Key → Members → Found
table_found name keys members = or_else (unknown_found name (map name_of keys) members) (keys_found name members keys)
