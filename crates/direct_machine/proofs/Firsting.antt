-- The loop that serves the wants of a boundary, the earliest first.
use Rattle.std.proofs.Common.{◌≡◌, ℕ, zero, suc, ◌≤◌, List, [], ◌∷◌, ◌++◌, length, map, get_or, Some, None, false, All, sym, ap, ◌∙◌, subst, arith}
use Rattle.std.proofs.lemmas.List.{length-map, get_or-map}
use Rattle.cosim_model.specs.declared.values.Plan.{Plan}
use Rattle.cosim_model.specs.Parts.{DeviceModel, MasterModel, IsDevice, IsMaster}
use Rattle.cosim_model.specs.Direct.{Moment, boundary, serve_all}
use Rattle.cosim_model.specs.Direct.Moment.{Boundary}
use Rattle.direct_machine.specs.declared.run.Run.{Run}
use Rattle.direct_machine.specs.Wants.{first_port}
use Rattle.direct_machine.specs.Runs.{at, Leads, IsReady, HasServed, ServesFirst}
use Rattle.direct_machine.proofs.Units.{held}
use Rattle.direct_machine.proofs.Serving.{IsKept, kept-same, kept-both, wants_left, all-left, left-falls, served-kept, served-ready, serves-leads, one-of, one-none, all-none}

-- From `now` on at most n wants are left of the boundary that began at `start`.
pub record Serving {M S : Type 0} (k : MasterModel M) (d : DeviceModel S) (start now : Run M S) : Type 0 where
  pub ready : IsReady k d now
  pub tick : now.tick ≡ start.tick
  pub kept : IsKept k start.master now.master
  pub n : ℕ
  pub few : wants_left d now.devices.items ≤ n
  pub leads : (plan : Plan) (before : List Moment) → (after : List Moment) × (boundary k d plan (at start before) ≡ serve_all k d plan n (at now after))

module _ {M S : Type 0} (k : MasterModel M) (d : DeviceModel S) (law : IsDevice d) (law' : IsMaster k) where
  pub begins : (start now : Run M S) → IsReady k d start → now.master ≡ start.master → now.devices.items ≡ map (λ s. d.advance s start.tick) start.devices.items → now.calls.calls ≡ start.calls.calls → now.tick ≡ start.tick → Serving k d start now
  begins start now r master devices calls tick = record {
    ready = record {
      ports = (let a = r.ports in let e = long in omega arith);
      reach = (let a = r.reach in let b = ap k.reach master in let e = long in omega arith);
      issued = ap k.issued master ∙ r.issued;
      seen = subst (λ ss. All (λ (s : S). d.seen s ≤ now.tick) ss) (sym devices) late;
    };
    tick = tick;
    kept = subst (λ m. IsKept k start.master m) (sym master) (kept-same k start.master);
    n = wants_left d now.devices.items;
    few = omega arith;
    leads = λ plan before. (
      before ++ Boundary start.tick ∷ [],
      ap (λ n. serve_all k d plan n (held start.master advanced start.calls.calls start.tick (before ++ Boundary start.tick ∷ []))) (all-left k d plan advanced)
          ∙ (λ i. serve_all k d plan (wants_left d (sym devices i)) (held (sym master i) (sym devices i) (sym calls i) (sym tick i) (before ++ Boundary start.tick ∷ []))),
    );
  }
    where
      advanced : List S
      advanced = map (λ s. d.advance s start.tick) start.devices.items

      long : length now.devices.items ≡ length start.devices.items
      long = ap length devices ∙ length-map start.devices.items (λ s. d.advance s start.tick)

      late : All (λ (s : S). d.seen s ≤ now.tick) advanced
      late i x within =
          let here = get_or-map (λ s. d.advance s start.tick) start.devices.items i x x (let e = length-map start.devices.items (λ s. d.advance s start.tick) in omega arith) in
          let seen = law.advance_seen (get_or start.devices.items i x) start.tick (r.seen i x (let e = length-map start.devices.items (λ s. d.advance s start.tick) in omega arith)) in
          subst (λ (s : S). d.seen s ≤ now.tick) (sym here) (omega arith)

  pub goes_on : (start now next : Run M S) (port : ℕ) → first_port d now.devices.items ≡ Some port → HasServed k d port now next → Serving k d start now → Serving k d start next
  goes_on start now next port first h on = by on.n on.few on.leads
    where
      by : (n : ℕ) → wants_left d now.devices.items ≤ n → ((plan : Plan) (before : List Moment) → (after : List Moment) × (boundary k d plan (at start before) ≡ serve_all k d plan n (at now after))) → Serving k d start next
      by zero few leads = absurd (let less = left-falls k d law law' port now next h in omega arith)
      by (suc n) few leads = record {
        ready = served-ready k d law law' port now next h on.ready;
        tick = h.tick ∙ on.tick;
        kept = kept-both k start.master now.master next.master on.kept (served-kept k d law law' port now next h);
        n = n;
        few = (let less = left-falls k d law law' port now next h in omega arith);
        leads = λ plan before. (
            let was = leads plan before in
            let served = serves-leads k d law law' port now next h plan was.0 in
            (served.0, was.1 ∙ ap (serve_all k d plan n) (one-of k d law law' plan (at now was.0) port first ∙ served.1)));
      }

  pub ends : (start now : Run M S) → first_port d now.devices.items ≡ None → Serving k d start now → Leads (boundary k d) start now
  ends start now none on plan before =
      let was = on.leads plan before in
      (was.0, was.1 ∙ all-none k d law law' plan on.n (at now was.0) (one-none k d law law' plan (at now was.0) none))

  pub ends-at : (start now new : Run M S) → ServesFirst k d now new false → Serving k d start now → Leads (boundary k d) start new
  ends-at start now new idle on = subst (λ r. Leads (boundary k d) start r) (sym idle.1) (ends start now idle.0 on)
