-- What files in memory tell: the bytes of the first file of a name.
use Rattle.std.proofs.Common.{ℕ, List, [], ◌∷◌, Bool, cond, string_bytes}
use Rattle.std.specs.Str.{bytes_eq}
use Rattle.std.specs.declared.option.Option.TheVariants.{Some, None}
use Rattle.cos_memory.specs.declared.mem_files.MemFile.{MemFile}
use Rattle.cos_base.specs.Stores.{Store}

-- whether a file has this name
abbrev pub is_named : List ℕ → MemFile → Bool
is_named name f = bytes_eq (string_bytes f.name) name

abbrev pub store_of : List MemFile → Store
store_of [] name = None
store_of (f ∷ fs) name = cond (is_named name f) (Some f.bytes.bytes) (store_of fs name)
