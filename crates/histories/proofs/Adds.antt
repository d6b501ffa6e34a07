-- Steps of the direct machine that add calls of one tick.
use Rattle.std.proofs.Common.{◌≡◌, ℕ, ◌≤◌, List, [], ◌++◌, length, map, refl, sym, ap, ◌∙◌, append_assoc, append-nil, arith}
use Rattle.std.proofs.lemmas.List.{map-append}
use Rattle.cosim_model.specs.declared.values.Call.{Call}
use Rattle.cosim_model.specs.Parts.{MasterModel}
use Rattle.cosim_model.specs.Direct.{Direct}
use Rattle.cosim_model.specs.Direct.Moment.{Called}
use Rattle.histories.specs.Histories.{tick_of}
use Rattle.histories.proofs.Merges.{Each, each-append}

-- From `old` to `new` calls of tick t were added and nothing else, and `new` is at tick u. The master names no more ports
-- than before.
pub record Adds {M S : Type 0} (k : MasterModel M) (t u : ℕ) (old new : Direct M S) : Type 0 where
  pub calls : List Call
  pub of_tick : Each (λ c. tick_of c ≡ t) calls
  pub called : new.calls ≡ old.calls ++ calls
  pub history : new.history ≡ old.history ++ map Called calls
  pub tick : new.tick ≡ u
  pub ports : length new.devices ≡ length old.devices
  pub reach : k.reach new.master ≤ k.reach old.master

pub adds-none : {M S : Type 0} (k : MasterModel M) (t : ℕ) (r : Direct M S) → r.tick ≡ t → Adds k t t r r
adds-none k t r e = record {
  calls = [];
  of_tick = tt;
  called = sym (append-nil r.calls);
  history = sym (append-nil r.history);
  tick = e;
  ports = refl;
  reach = omega arith;
}

pub adds-both : {M S : Type 0} (k : MasterModel M) (t u : ℕ) (a b c : Direct M S) → Adds k t t a b → Adds k t u b c → Adds k t u a c
adds-both k t u a b c x y = record {
  calls = x.calls ++ y.calls;
  of_tick = each-append (λ c. tick_of c ≡ t) x.calls y.calls x.of_tick y.of_tick;
  called = y.called ∙ ap (λ cs. cs ++ y.calls) x.called ∙ append_assoc a.calls x.calls y.calls;
  history =
      y.history
      ∙ ap (λ h. h ++ map Called y.calls) x.history
      ∙ append_assoc a.history (map Called x.calls) (map Called y.calls)
      ∙ ap (λ h. a.history ++ h) (sym (map-append Called x.calls y.calls));
  tick = y.tick;
  ports = y.ports ∙ x.ports;
  reach = (let p = x.reach in let q = y.reach in omega arith);
}
