use Rattle.std.proofs.Common.{◌≡◌, ap, sym, ◌∙◌, subst}
use Rattle.std.specs.Prelude.{Some, None}
use Rattle.rp_packet.specs.Refusals.{first}
use Rattle.rp_framing.specs.Framing.{Frames, fault_in}
use Rattle.rp_framing.specs.CutLaws.{cut-front, cut-kept, stays-front, few-front}
use Rattle.rp_framing.proofs.framer.Framer.next.Goals as goal

pub returns-in-Some-clause-any_cut : goal.returns-in-Some-clause-any_cut
returns-in-Some-clause-any_cut c = λ given b are.
    let kept = c.self.invariant.1 c.in-Some.fault c.in-Some.is in
    cut-kept given b c.args.self.now c.in-Some.fault (subst (λ (f : Frames). fault_in f.taken (first f.held) ≡ Some c.in-Some.fault) c.self.view_is kept) are

pub returns-in-None-clause-any_cut : goal.returns-in-None-clause-any_cut
returns-in-None-clause-any_cut c = λ given b are.
    let none : c.args.self.now.kept ≡ None = ap (λ f. f.kept) (sym c.self.view_is) ∙ c.in-None.is in
    cut-front given b _ _ _ none c.take_front.ensures.bytes c.take_front.ensures.nexts are

pub returns-in-None-clause-stays : goal.returns-in-None-clause-stays
returns-in-None-clause-stays c = λ given b are.
    let none : c.args.self.now.kept ≡ None = ap (λ f. f.kept) (sym c.self.view_is) ∙ c.in-None.is in
    stays-front given b _ _ _ none c.take_front.ensures.nexts are

pub returns-in-None-clause-few : goal.returns-in-None-clause-few
returns-in-None-clause-few c =
    let none : c.args.self.now.kept ≡ None = ap (λ f. f.kept) (sym c.self.view_is) ∙ c.in-None.is in
    few-front _ _ _ none c.take_front.ensures.nexts
