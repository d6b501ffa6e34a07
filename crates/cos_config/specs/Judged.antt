-- When bytes are the TOML text of a table.
use Rattle.std.specs.Prelude.{◌≡◌, ℕ, List, Some}
use Rattle.std.specs.Str.{IsUtf8}
use Rattle.toml.specs.Data.{Members}
use Rattle.toml.specs.Parse.{parse_document}

pub record IsToml (bytes : List ℕ) (m : Members) : Type 0 where
  pub utf8 : IsUtf8 bytes
  pub parsed : parse_document bytes ≡ Some m
