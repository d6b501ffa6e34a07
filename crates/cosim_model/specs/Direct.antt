-- A machine that calls its devices directly. There are no packets, numbers, queues or phases in it.
use Rattle.std.specs.Prelude.{ℕ, zero, suc, ◌+◌, Bool, true, false, if◌then◌else◌, List, [], ◌∷◌, ◌++◌, length, set, map, Option, Some, None, is_some, slice_get}
use Rattle.cosim_model.specs.declared.values.Want.{Want}
use Rattle.cosim_model.specs.declared.values.Call.{Call}
use Rattle.cosim_model.specs.declared.values.Bus.{Bus}
use Rattle.cosim_model.specs.Values.{plain}
use Rattle.cosim_model.specs.declared.values.Call.TheVariants as call
use Rattle.cosim_model.specs.Parts.{DeviceModel, MasterModel, served}
use Rattle.cosim_model.specs.declared.values.Plan.{Plan}
use Rattle.cosim_model.specs.Order.{least, at_quantum}

-- A call, or a boundary at a tick.
pub data Moment : Type 0 where
  Called : (call : Call) → Moment
  Boundary : (tick : ℕ) → Moment

-- `history` is the calls and the boundaries in the order of the run.
pub record Direct (M S : Type 0) : Type 0 where
  pub master : M
  pub devices : List S
  pub calls : List Call
  pub tick : ℕ
  pub history : List Moment

abbrev pub direct_start : {M S : Type 0} → M → List S → Direct M S
direct_start m devices = record { master = m; devices = devices; calls = []; tick = 0; history = [] }

module _ {M S : Type 0} (k : MasterModel M) (d : DeviceModel S) (plan : Plan) where
  -- A unit: a local one, or an access of a device. A port that is not there has no device, and nothing happens.

  abbrev pub access_device : Direct M S → M → Bus → Option S → Direct M S
  access_device r m b None = r
  access_device r m b (Some s) = record {
    master = k.finish m (plain b.access (d.access s r.tick b.access).1);
    devices = set r.devices b.port (d.access s r.tick b.access).0;
    calls = r.calls ++ call.Access r.tick b.port b.access (plain b.access (d.access s r.tick b.access).1) ∷ [];
    tick = suc r.tick;
    history = r.history ++ Called (call.Access r.tick b.port b.access (plain b.access (d.access s r.tick b.access).1))
        ∷ [];
  }

  abbrev pub unit_of : Direct M S → M → Option Bus → Direct M S
  unit_of r m None = record r { master = m; tick = suc r.tick }
  unit_of r m (Some b) = access_device r m b (slice_get r.devices b.port)

  abbrev pub unit : Direct M S → Direct M S
  unit r = unit_of r (k.issue r.master).0 (k.issue r.master).1

  -- A boundary: every device advances, then the wants are served, that of the least due time first, and that of the
  -- least port among equals.

  abbrev pub due_of : S → Option Want → Option ℕ
  due_of s None = None
  due_of s (Some w) = Some (d.due s)

  abbrev pub want_time : S → Option ℕ
  want_time s = due_of s (d.want s)

  abbrev pub serve_want : Direct M S → ℕ → S → Option Want → Direct M S
  serve_want r p s None = r
  serve_want r p s (Some w) = record {
    master = (served k r.master w).0;
    devices = set r.devices p (d.feed s (served k r.master w).1);
    calls = r.calls ++ call.Served r.tick p (d.due s) w (served k r.master w).1 ∷ [];
    tick = r.tick;
    history = r.history ++ Called (call.Served r.tick p (d.due s) w (served k r.master w).1) ∷ [];
  }

  abbrev pub serve_device : Direct M S → ℕ → Option S → Direct M S
  serve_device r p None = r
  serve_device r p (Some s) = serve_want r p s (d.want s)

  abbrev pub serve_next : Direct M S → Option (ℕ × ℕ) → Direct M S
  serve_next r None = r
  serve_next r (Some q) = serve_device r q.0 (slice_get r.devices q.0)

  abbrev pub serve_one : Direct M S → Direct M S
  serve_one r = serve_next r (least (map want_time r.devices))

  -- at most so many wants
  abbrev pub serve_all : ℕ → Direct M S → Direct M S
  serve_all zero r = r
  serve_all (suc n) r = serve_all n (serve_one r)

  abbrev pub all_left : List S → ℕ
  all_left [] = 0
  all_left (s ∷ ss) = d.left s + all_left ss

  abbrev pub advance_all : Direct M S → Direct M S
  advance_all r = record r { devices = map (λ s. d.advance s r.tick) r.devices }

  -- Each want that is fed lowers `left` of its device.
  abbrev pub serve_left : Direct M S → Direct M S
  serve_left r = serve_all (all_left r.devices) r

  abbrev pub mark : Direct M S → Direct M S
  mark r = record r { history = r.history ++ Boundary r.tick ∷ [] }

  abbrev pub boundary : Direct M S → Direct M S
  boundary r = serve_left (advance_all (mark r))

  -- With n units left: where the master has stopped or none is left, the last boundary; else a boundary where the tick
  -- is a multiple of the quantum above 0, then a unit.

  abbrev pub boundary_if : Bool → Direct M S → Direct M S
  boundary_if true r = boundary r
  boundary_if false r = r

  abbrev pub met_quantum : Direct M S → Direct M S
  met_quantum r = boundary_if (at_quantum plan r.tick) r

  abbrev pub direct_from : ℕ → Direct M S → Direct M S
  direct_from zero r = boundary r
  direct_from (suc n) r = if is_some (k.stopped r.master) then boundary r else direct_from n (unit (met_quantum r))

  abbrev pub direct : M → List S → Direct M S
  direct m devices = direct_from plan.units (direct_start m devices)

  -- The same with the wants served port by port: while port p wants, its want is served.

  abbrev pub serve_port : ℕ → ℕ → Direct M S → Direct M S
  serve_port zero p r = r
  serve_port (suc n) p r = serve_port n p (serve_device r p (slice_get r.devices p))

  abbrev pub advance_device : Direct M S → ℕ → Option S → Direct M S
  advance_device r p None = r
  advance_device r p (Some s) =
      serve_port (d.left (d.advance s r.tick)) p (record r { devices = set r.devices p (d.advance s r.tick) })

  abbrev pub each_port : ℕ → ℕ → Direct M S → Direct M S
  each_port zero p r = r
  each_port (suc n) p r = each_port n (suc p) (advance_device r p (slice_get r.devices p))

  abbrev pub boundary_by_port : Direct M S → Direct M S
  boundary_by_port r = each_port (length r.devices) 0 (mark r)

  abbrev pub by_port_if : Bool → Direct M S → Direct M S
  by_port_if true r = boundary_by_port r
  by_port_if false r = r

  abbrev pub by_port_from : ℕ → Direct M S → Direct M S
  by_port_from zero r = boundary_by_port r
  by_port_from (suc n) r = if is_some (k.stopped r.master) then boundary_by_port r
      else by_port_from n (unit (by_port_if (at_quantum plan r.tick) r))

  abbrev pub direct_by_port : M → List S → Direct M S
  direct_by_port m devices = by_port_from plan.units (direct_start m devices)
