-- The null device: no registers, no wants and no line.
use Rattle.std.specs.Prelude.{None, refl}
use Rattle.std.proofs.Common.{arith}
use Rattle.cosim_model.specs.Values.{no_caps}
use Rattle.cosim_model.specs.Parts.{DeviceModel, IsDevice}
use Rattle.cos_parts.specs.declared.null.Null.{Null}

abbrev pub null_model : DeviceModel Null
null_model = record {
  access = λ s tick a. (record { seen = tick }, record { code = 2; value = 0 });
  advance = λ s tick. record { seen = tick };
  want = λ s. None;
  feed = λ s reply. s;
  seen = λ s. s.seen;
  due = λ s. 0;
  left = λ s. 0;
  needs = λ s. no_caps;
}

pub null_lawful : IsDevice null_model
null_lawful = record {
  access_keeps = λ s tick a x later e. absurd (cc);
  advance_keeps = λ s tick x later e. absurd (cc);
  feed_left = λ s r x e. absurd (cc);
  left_none = λ s e. refl;
  none_left = λ s e. refl;
  left_most = λ s. omega arith;
  access_seen = λ s tick a later. refl;
  advance_seen = λ s tick later. refl;
  feed_seen = λ s r. refl;
  due_seen = λ s. omega arith;
  access_due = λ s tick a later. omega arith;
  advance_due = λ s tick later. omega arith;
  feed_due = λ s r. omega arith;
  access_needs = λ s tick a. refl;
  advance_needs = λ s tick. refl;
  feed_needs = λ s r. refl;
  want_is = λ s x e. absurd (cc);
}
