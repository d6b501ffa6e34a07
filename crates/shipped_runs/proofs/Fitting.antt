-- A configuration that breaks no rule has parts that fit.
use Rattle.std.proofs.Common.{◌≡◌, ℕ, All, Bool, true, false, List, [], ◌∷◌, length, map, Option, Some, None, Result, Ok, Err, refl, ap, ap₂, subst, arith}
use Rattle.std.specs.Str.{is_utf8}
use Rattle.std.proofs.lemmas.List.{length-map}
use Rattle.std.proofs.lemmas.List.Elements.{All-nil, All-cons}
use Rattle.toml.specs.Data.{Members}
use Rattle.toml.specs.Parse.{parse_document}
use Rattle.cos_base.specs.Stores.{Store}
use Rattle.cos_config.specs.declared.config.Config.{Config}
use Rattle.cos_config.specs.declared.config.Sockets.{Sockets}
use Rattle.cos_config.specs.declared.config.PortConfig.{PortConfig}
use Rattle.cos_config.specs.declared.config.PortKind.{PortKind}
use Rattle.cos_config.specs.declared.config.PortKind.TheVariants.{Null, Timer, Uart, Dma, Disk}
use Rattle.cos_config.specs.declared.config.MachineKind.{MachineKind}
use Rattle.cos_config.specs.declared.config.MachineKind.TheVariants.{Rv, Script}
use Rattle.cos_config.specs.declared.fault.ConfigFault.{ConfigFault}
use Rattle.cos_config.specs.First.{Found}
use Rattle.cos_config.specs.Rules.{config_found}
use Rattle.cos_config.specs.Settings.{config_of}
use Rattle.cosim_inputs.specs.Fresh.{device_as, device_of, devices_of, device_kinds, port_kinds, kind_of, master_as, master_of, window_of}
use Rattle.cosim_inputs.specs.Judging.{by_rules, judged_as, judged}
use Rattle.cosim_inputs.specs.Limits.{IsWithinLimits}
use Rattle.cosim_inputs.proofs.Limiting.{kept-within}
use Rattle.cosim_ends.proofs.FittingParts.{fits}
use Rattle.cos_parts.specs.declared.any_device.AnyDevice.{AnyDevice}
use Rattle.cos_parts.specs.AnyDevices as devices
use Rattle.cos_parts.specs.AnyMasters as masters
use Rattle.ends_model.specs.World.{Side, Fit}
use Rattle.cos_config.specs.Plans.{plan_of}
use Rattle.shipped_runs.specs.Ports.{ports_of}

-- A device at reset, by its kind.

fresh-kind : (kind : PortKind) (files : Store) (p : PortConfig) → kind_of (device_as kind files p) ≡ kind
fresh-kind Null files p = refl
fresh-kind Timer files p = refl
fresh-kind Uart files p = refl
fresh-kind Dma files p = refl
fresh-kind Disk files p = refl

fresh-kinds : (files : Store) (ps : List PortConfig) → device_kinds (devices_of files ps) ≡ port_kinds ps
fresh-kinds files [] = refl
fresh-kinds files (p ∷ ps) = ap₂ (λ k ks. k ∷ ks) (fresh-kind p.kind files p) (fresh-kinds files ps)

fresh-seen : (kind : PortKind) (files : Store) (p : PortConfig) → devices.any_seen (device_as kind files p) ≡ 0
fresh-seen Null files p = refl
fresh-seen Timer files p = refl
fresh-seen Uart files p = refl
fresh-seen Dma files p = refl
fresh-seen Disk files p = refl

all-fresh : (files : Store) (ps : List PortConfig) → All (λ d. devices.any_seen d ≡ 0) (devices_of files ps)
all-fresh files [] = All-nil (λ d. devices.any_seen d ≡ 0)
all-fresh files (p ∷ ps) =
    All-cons (λ d. devices.any_seen d ≡ 0) (device_of files p) (devices_of files ps) (fresh-seen p.kind files p)
    (all-fresh files ps)

-- A master at reset.

fresh-reach : (kind : MachineKind) (files : Store) (c : Config) → masters.any_reach (master_as kind files c)
    ≡ length c.ports
fresh-reach Rv files c = length-map c.ports window_of
fresh-reach Script files c = refl

fresh-issued : (kind : MachineKind) (files : Store) (c : Config) → masters.any_issued (master_as kind files c) ≡ None
fresh-issued Rv files c = refl
fresh-issued Script files c = refl

-- Settings that break no rule.

abbrev FitsFiles : Config → Type 0
FitsFiles c = (files : Store)
    → Fit masters.any_model devices.any_model (plan_of c) (master_of files c) (ports_of files c.ports)

within-fits : (c : Config) → IsWithinLimits c → FitsFiles c
within-fits c within files =
    let reach = fresh-reach c.kind files c in
    let size : length (devices_of files c.ports) ≡ length c.ports = length-map c.ports (device_of files) in
    fits c (master_of files c) (devices_of files c.ports) within (fresh-kinds files c.ports) (all-fresh files c.ports)
    (omega (arith, reach, size)) (fresh-issued c.kind files c)

-- A text that is judged to be a configuration.

same-config : (a b : Config) → ◌≡◌ {A = Result Config ConfigFault} (Ok a) (Ok b) → a ≡ b
same-config a b e = cc

not-config : {A : Type 0} (f : ConfigFault) (b : Config) → ◌≡◌ {A = Result Config ConfigFault} (Err f) (Ok b) → A
not-config f b e = absurd (cc e)

pub judged-fits : (sockets : Sockets) (text : List ℕ) (c : Config) (files : Store) → judged sockets text ≡ Ok c
    → Fit masters.any_model devices.any_model (plan_of c) (master_of files c) (ports_of files c.ports)
judged-fits sockets text c files is = read (is_utf8 text) (parse_document text) is files
  where
    ruled : (t : Members) (found : Found) → config_found sockets t ≡ found → by_rules found (config_of t) ≡ Ok c
        → FitsFiles c
    ruled t (Some f) e is = not-config f c is
    ruled t None e is =
        subst FitsFiles (same-config (config_of t) c is) (within-fits (config_of t) (kept-within sockets t e))

    read : (utf8 : Bool) (table : Option Members) → judged_as sockets utf8 table ≡ Ok c → FitsFiles c
    read true (Some t) is = ruled t (config_found sockets t) refl is
    read true None is = not-config _ c is
    read false table is = not-config _ c is

-- The devices are those of the direct machine.
pub same-devices : (files : Store) (ports : List PortConfig)
    → map (λ (x : Side × AnyDevice). x.1) (ports_of files ports) ≡ devices_of files ports
same-devices files [] = refl
same-devices files (p ∷ ps) = ap (λ ds. device_of files p ∷ ds) (same-devices files ps)
