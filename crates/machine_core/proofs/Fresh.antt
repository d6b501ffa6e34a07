-- A machine end that has done nothing.
use Rattle.std.proofs.Common.{◌≡◌, ℕ, zero, suc, ◌<◌, ◌≤◌, false, List, [], refl, sym, subst, arith}
use Rattle.std.specs.Prelude.{replicate, Some, None, slice_get}
use Rattle.std.proofs.lemmas.List.{length-replicate}
use Rattle.cosim_model.specs.declared.values.Plan.{Plan}
use Rattle.cosim_model.specs.Parts.{MasterModel}
use Rattle.cosim_model.specs.Sessions.{fresh_session}
use Rattle.cosim_model.specs.Values.{all_caps, no_caps}
use Rattle.cosim_model.specs.declared.session.Role.TheVariants.{Machine}
use Rattle.cosim_model.specs.declared.values.Call.{Call}
use Rattle.ends_model.specs.declared.ends.Phase.{Phase}
use Rattle.ends_model.specs.declared.ends.Phase.TheVariants.{Greet}
use Rattle.ends_model.specs.MachineTurn.{PortEnd, MachineEnd, start_phase}
use Rattle.ends_model.specs.World.{machine_start}
use Rattle.rp_packet.specs.declared.fault.Cause.{Cause}
use Rattle.machine_core.specs.Machines.{IsMachine, IsPortIn}
use Rattle.machine_core.proofs.Syncing.{none-lower}

same-item : {A : Type 0} (n i : ℕ) (x y : A) → slice_get (replicate n x) i ≡ Some y → x ≡ y
same-item zero i x y e = absurd (cc)
same-item (suc n) zero x y e = cc
same-item (suc n) (suc i) x y e = same-item n i x y e

pub fresh-machine : {M : Type 0} (k : MasterModel M) (m : M) (n : ℕ) (plan : Plan) → k.issued m ≡ None → k.reach m ≤ n
    → 0 < plan.quantum → n ≤ 4294967295 → IsMachine k (machine_start Cause m n plan)
fresh-machine k m zero plan free reach quantum few = record {
  quantum = quantum;
  ticks = omega arith;
  reach = reach;
  few = few;
  ports = λ i q at. absurd (cc (at));
  phase = (free, λ marked. absurd (cc (marked)));
}
fresh-machine k m (suc n) plan free reach quantum few =
    let fresh : PortEnd = record { session = fresh_session Machine all_caps no_caps; held = None; last = 0 } in
    let size = length-replicate (suc n) fresh in
    record {
      quantum = quantum;
      ticks = omega arith;
      reach = omega (arith, reach, size);
      few = omega (arith, few, size);
      ports = λ i q at.
          (let same = same-item (suc n) i fresh q at in
          subst (λ x. IsPortIn (Greet 0) i x) same (record { greeted = none-lower i; other = refl; sync = refl }));
      phase = (omega (arith, size), free, refl);
    }

pub made-machine : {M : Type 0} (k : MasterModel M) (m : M) (n : ℕ) (plan : Plan) (phase : Phase) (qs : List PortEnd)
    (cs : List Call) → k.issued m ≡ None → k.reach m ≤ n → 0 < plan.quantum → n ≤ 4294967295 → phase ≡ start_phase n
    → qs ≡ replicate n (record { session = fresh_session Machine all_caps no_caps; held = None; last = 0 }) → cs ≡ []
    → IsMachine k (record {
      plan = plan;
      phase = phase;
      master = m;
      ports = qs;
      calls = cs;
      tick = 0;
      marked = false;
      fault = None;
    })
made-machine {M} k m n plan phase qs cs free reach quantum few phase_is ports_are calls_are =
    subst (λ (h : MachineEnd M Cause). IsMachine k h)
    (λ i. record (machine_start Cause m n plan) { phase = sym phase_is i; ports = sym ports_are i; calls = sym calls_are i })
    (fresh-machine k m n plan free reach quantum few)
