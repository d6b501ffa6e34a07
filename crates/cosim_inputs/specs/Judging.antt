-- What a text is judged as: a configuration, or the first rule that it breaks.
use Rattle.std.specs.Prelude.{ℕ, Bool, true, false, List, Option, Some, None, Result, Ok, Err}
use Rattle.std.specs.Str.{is_utf8}
use Rattle.toml.specs.Data.{Members}
use Rattle.toml.specs.Parse.{parse_document}
use Rattle.cos_config.specs.declared.config.Config.{Config}
use Rattle.cos_config.specs.declared.config.Sockets.{Sockets}
use Rattle.cos_config.specs.declared.fault.ConfigFault.{ConfigFault}
use Rattle.cos_config.specs.declared.fault.ConfigFault.TheVariants.{Text}
use Rattle.cos_config.specs.First.{Found}
use Rattle.cos_config.specs.Rules.{config_found}
use Rattle.cos_config.specs.Settings.{config_of}

abbrev pub by_rules : Found → Config → Result Config ConfigFault
by_rules None c = Ok c
by_rules (Some f) c = Err f

-- by whether it is UTF-8, and by the table that it is the TOML of
abbrev pub judged_as : Sockets → Bool → Option Members → Result Config ConfigFault
judged_as sockets true (Some t) = by_rules (config_found sockets t) (config_of t)
judged_as sockets true None = Err Text
judged_as sockets false t = Err Text

abbrev pub judged : Sockets → List ℕ → Result Config ConfigFault
judged sockets bytes = judged_as sockets (is_utf8 bytes) (parse_document bytes)
