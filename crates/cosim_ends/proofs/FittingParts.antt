-- A master and devices of a configuration that is within limits fit.
use Rattle.std.proofs.Common.{◌≡◌, ℕ, zero, suc, ◌+◌, ◌≤◌, inl, All, Bool, true, false, List, [], ◌∷◌, length, Some, None, slice_get, refl, sym, ap, subst, arith}
use Rattle.std.proofs.lemmas.List.Elements.{All-head, All-tail}
use Rattle.std.proofs.lemmas.Option.{none-some, same_Some}
use Rattle.cos_config.specs.declared.config.Config.{Config}
use Rattle.cos_config.specs.declared.config.PortConfig.{PortConfig}
use Rattle.cos_config.specs.declared.config.PortKind.{PortKind}
use Rattle.cos_config.specs.declared.config.PortKind.TheVariants as kind
use Rattle.cos_config.specs.Plans.{plan_of}
use Rattle.cos_config.specs.Rules.{port_needs, needs_found}
use Rattle.cos_parts.specs.declared.any_device.AnyDevice.{AnyDevice}
use Rattle.cos_parts.specs.declared.any_device.AnyDevice.TheVariants.{Null, Timer, Uart, Dma, Disk}
use Rattle.cos_parts.specs.declared.any_master.AnyMaster.{AnyMaster}
use Rattle.cos_parts.specs.declared.any_master.AnyMaster.TheVariants.{Rv, Script}
use Rattle.cos_parts.specs.AnyDevices as devices
use Rattle.cos_parts.specs.AnyMasters as masters
use Rattle.cosim_model.specs.declared.values.Caps.{Caps}
use Rattle.cosim_inputs.specs.Fresh.{kind_of, device_kinds, port_kinds}
use Rattle.cosim_inputs.specs.Limits.{IsWithinLimits}
use Rattle.cosim_inputs.proofs.Limiting.{or_else-none}
use Rattle.ends_model.specs.World.{Side, Fit}
use Rattle.cosim_ends.specs.Sides.{port_side, sides_of}

-- A DMA's end offers capabilities 1 and 2.

abbrev pub IsOffered : PortKind → Caps → Type 0
IsOffered kind.Dma caps = (caps.base ≡ true) × (caps.enables ≡ true)
IsOffered kind.Null caps = Unit {0}
IsOffered kind.Timer caps = Unit {0}
IsOffered kind.Uart caps = Unit {0}
IsOffered kind.Disk caps = Unit {0}

offered : (port : ℕ) (k : PortKind) (caps : Caps) → port_needs port k caps.base caps.enables ≡ None → IsOffered k caps
offered port kind.Dma caps none = by caps.base caps.enables refl refl none
  where
    by : (b e : Bool) → caps.base ≡ b → caps.enables ≡ e → port_needs port kind.Dma b e ≡ None
        → (caps.base ≡ true) × (caps.enables ≡ true)
    by false e f g none = absurd (cc none)
    by true false f g none = absurd (cc none)
    by true true f g none = (f, g)
offered port kind.Null caps none = tt
offered port kind.Timer caps none = tt
offered port kind.Uart caps none = tt
offered port kind.Disk caps none = tt

-- What a device needs is offered.

false-true : {A : Type 0} → false ≡ true → A
false-true e = absurd (cc e)

needs-base : (d : AnyDevice) (caps : Caps) → IsOffered (kind_of d) caps → (devices.any_needs d).base ≡ true
    → caps.base ≡ true
needs-base (Null s) caps is e = false-true e
needs-base (Timer s) caps is e = false-true e
needs-base (Uart s) caps is e = false-true e
needs-base (Dma s) caps is e = is.0
needs-base (Disk s) caps is e = false-true e

needs-enables : (d : AnyDevice) (caps : Caps) → IsOffered (kind_of d) caps → (devices.any_needs d).enables ≡ true
    → caps.enables ≡ true
needs-enables (Null s) caps is e = false-true e
needs-enables (Timer s) caps is e = false-true e
needs-enables (Uart s) caps is e = false-true e
needs-enables (Dma s) caps is e = is.1
needs-enables (Disk s) caps is e = false-true e

needs-posted : (d : AnyDevice) (caps : Caps) → (devices.any_needs d).posted ≡ true → caps.posted ≡ true
needs-posted (Null s) caps e = false-true e
needs-posted (Timer s) caps e = false-true e
needs-posted (Uart s) caps e = false-true e
needs-posted (Dma s) caps e = false-true e
needs-posted (Disk s) caps e = false-true e

-- No master disables a lane.
full : (m : AnyMaster) → masters.any_full m ≡ true
full (Rv m) = refl
full (Script m) = refl

-- A side is that of a port and a device of the port's kind.
pub record IsOfPort (x : Side × AnyDevice) : Type 0 where
  pub port : PortConfig
  pub device : AnyDevice
  pub is : port_side (port, device) ≡ x
  pub offers : IsOffered (kind_of device) port.caps
  pub seen : devices.any_seen device ≡ 0

kinds-head : (p : PortConfig) (d : AnyDevice) (ps : List PortConfig) (ds : List AnyDevice)
    → device_kinds (d ∷ ds) ≡ port_kinds (p ∷ ps) → kind_of d ≡ p.kind
kinds-head p d ps ds same = cc (same)

kinds-tail : (p : PortConfig) (d : AnyDevice) (ps : List PortConfig) (ds : List AnyDevice)
    → device_kinds (d ∷ ds) ≡ port_kinds (p ∷ ps) → device_kinds ds ≡ port_kinds ps
kinds-tail p d ps ds same = cc (same)

of-port : (number : ℕ) (ps : List PortConfig) (ds : List AnyDevice) → needs_found number ps ≡ None
    → device_kinds ds ≡ port_kinds ps → All (λ d. devices.any_seen d ≡ 0) ds
    → (i : ℕ) (x : Side × AnyDevice) → slice_get (sides_of ps ds) i ≡ Some x → IsOfPort x
of-port number [] ds needs same fresh i x at = absurd (none-some x at)
of-port number (p ∷ ps) [] needs same fresh i x at = absurd (none-some x at)
of-port number (p ∷ ps) (d ∷ ds) needs same fresh zero x at =
    let both = or_else-none (port_needs number p.kind p.caps.base p.caps.enables) (needs_found (number + 1) ps) needs in
    record {
      port = p;
      device = d;
      is = same_Some (port_side (p, d)) x at;
      offers = subst (λ k. IsOffered k p.caps) (sym (kinds-head p d ps ds same)) (offered number p.kind p.caps both.0);
      seen = All-head (λ d. devices.any_seen d ≡ 0) d ds fresh;
    }
of-port number (p ∷ ps) (d ∷ ds) needs same fresh (suc i) x at =
    let both = or_else-none (port_needs number p.kind p.caps.base p.caps.enables) (needs_found (number + 1) ps) needs in
    of-port (number + 1) ps ds both.1 (kinds-tail p d ps ds same)
    (All-tail (λ d. devices.any_seen d ≡ 0) d ds fresh) i x at

length-sides : (ps : List PortConfig) (ds : List AnyDevice) → device_kinds ds ≡ port_kinds ps
    → (length (sides_of ps ds) ≡ length ps) × (length ds ≡ length ps)
length-sides [] [] same = (refl, refl)
length-sides [] (d ∷ ds) same = absurd (cc (same))
length-sides (p ∷ ps) [] same = absurd (cc (same))
length-sides (p ∷ ps) (d ∷ ds) same =
    let both = length-sides ps ds (kinds-tail p d ps ds same) in (ap suc both.0, ap suc both.1)

pub fits : (c : Config) (m : AnyMaster) (ds : List AnyDevice) → IsWithinLimits c → device_kinds ds ≡ port_kinds c.ports
    → All (λ d. devices.any_seen d ≡ 0) ds → masters.any_reach m ≤ length ds → masters.any_issued m ≡ None
    → Fit masters.any_model devices.any_model (plan_of c) m (sides_of c.ports ds)
fits c m ds within same fresh reach issued = record {
  ports = (let few = within.few in let sizes = length-sides c.ports ds same in omega (arith, sizes.0));
  quantum = (let some = within.machine.quantum in omega arith);
  units = (let most = within.machine.units in omega arith);
  seen = λ p x at. let from = there p x at in subst (λ (x : Side × AnyDevice). devices.any_seen x.1 ≡ 0) from.is from.seen;
  needs = λ p x at. let from = there p x at in
      subst (λ (x : Side × AnyDevice). devices.any_needs x.1 ≡ x.0.needs) from.is refl;
  base = λ p x at. let from = there p x at in
      subst (λ (x : Side × AnyDevice). x.0.needs.base ≡ true → x.0.offer.base ≡ true) from.is
      (needs-base from.device from.port.caps from.offers);
  enables = λ p x at. let from = there p x at in
      subst (λ (x : Side × AnyDevice). x.0.needs.enables ≡ true → x.0.offer.enables ≡ true) from.is
      (needs-enables from.device from.port.caps from.offers);
  wires = λ p x at. let from = there p x at in
      subst (λ (x : Side × AnyDevice). x.0.needs.posted ≡ true → x.0.offer.posted ≡ true) from.is
      (needs-posted from.device from.port.caps);
  reach = (let sizes = length-sides c.ports ds same in omega (arith, sizes.0, sizes.1, reach));
  issued = issued;
  full = inl (full m);
}
  where
    there : (p : ℕ) (x : Side × AnyDevice) → slice_get (sides_of c.ports ds) p ≡ Some x → IsOfPort x
    there = of-port 0 c.ports ds within.needs same fresh
