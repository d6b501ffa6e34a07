use Rattle.std.proofs.Common.{◌≡◌, ℕ, ◌+◌, List, ◌++◌, take, drop, ap, sym, ◌∙◌, subst, append_assoc}
use Rattle.std.proofs.Math.Seq.{take-add}
use Rattle.std.specs.declared.option.Option.{Option}
use Rattle.std.specs.declared.option.Option.TheVariants.{Some, None}
use Rattle.cos_base.specs.Links.{Wire, PutTold}
use Rattle.cos_base.specs.declared.links.Put.TheVariants as put
use Rattle.rp_framing.specs.Sending.{Sent}

-- one write more
pub Sent-more : (old mid new : Option Wire) (xs from : List ℕ) (at count : ℕ) → from ≡ drop at xs → Sent old mid (take at xs) → PutTold mid new (put.Bytes count) from → Sent old new (take (at + count) xs)
Sent-more None mid new xs from at count is before step = tt
Sent-more (Some w) mid new xs from at count is before step =
    let told : PutTold (Some (record w { sent = w.sent ++ take at xs })) new (put.Bytes count) (drop at xs) = subst (λ m. PutTold m new (put.Bytes count) (drop at xs)) before (subst (λ f. PutTold mid new (put.Bytes count) f) is step) in
    told ∙ ap (λ part. Some (record w { sent = part })) (append_assoc w.sent (take at xs) (take count (drop at xs)) ∙ ap (λ part. w.sent ++ part) (sym (take-add at count xs)))
