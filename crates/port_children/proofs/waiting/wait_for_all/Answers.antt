use Rattle.std.proofs.Common.{◌≡◌, IfSome, length, take, get_or, sym, subst, ◌∙◌, arith}
use Rattle.std.proofs.lemmas.List.{take_more, length-take}
use Rattle.port_children.specs.Waited.{AllRun, NotSpawner}
use Rattle.port_children.proofs.Waits.{first_of_both, waited-more, came-ok, came-err, drop-next, run-left, run-first, not-first}
use Rattle.port_children.proofs.waiting.wait_for_all.Goals as goal
use Rattle.port_children.proofs.waiting.wait_for_all.Goals.{then-is_ok, else-is_ok}

pub children-preserved : goal.children-preserved
children-preserved g c =
    let ns = c.args.numbers.now in
    let port = c.children.port in
    let small = c.children-test.true in
    let before = c.children.invariant in
    let waits = c.wait_for-waited.ensures.waits in
    let is : c.if-is_ok.first ≡ first_of_both c.children.first c.wait_for-waited.result =
    elim c.if-is_ok.branch [
      | then-is_ok w ↦ came-ok _ _ _ (sym c.is_ok.ensures.value ∙ w.if-is_ok.true) w.first-is
      | else-is_ok w ↦ came-err _ _ _ (sym c.is_ok.ensures.value ∙ w.if-is_ok.false) w.first-is
    ] in
    let at : port ≡ length (take port ns) = omega (arith, small, length-take port ns) in
    record {
      waited = waited-more _ _ _ _ _ _ (take port ns) (get_or ns port 0) port _ c.children.first c.wait_for-waited.result _
          (take_more ns port 0 small) at is before.waited before.grew waits c.wait_for-waited.ensures.grows;
      grew = omega (arith, before.grew, c.wait_for-waited.ensures.grows);
      is_sound = λ sound.
          let was = before.is_sound sound in
          let after = c.wait_for-waited.ensures.is_sound was.0 in (
            after.0,
            λ run.
                let left = was.1 run in
                let rest = subst (λ l. IfSome (g.S.Spawner.told c.children.children) (AllRun l)) (drop-next ns port small) left.0 in (
                  run-left _ _ _ _ waits.given rest waits.waits waits.untold,
                  subst NotSpawner (sym is) (not-first _ _ left.1 (after.1 (run-first _ _ _ rest))),
                ),
          );
    }
