use Rattle.std.proofs.Common.{refl}
use Rattle.outcomes.specs.Seen.{seen}
use Rattle.cosim_cli.proofs.Helping.{helps}
use Rattle.cosim_cli.proofs.Performing.{performs-under, none-asked}
use Rattle.cosim_cli.proofs.top.perform.Goals as goal
use Rattle.std.specs.declared.result.Result.TheVariants.{Ok, Err}

pub returns-in-DeviceNull : goal.returns-in-DeviceNull
returns-in-DeviceNull g c =
    rw c.in-DeviceNull.is
    (record {
      result = c.serve_null.result;
      serves = c.serve_null.ensures;
      status = c.status_of.ensures;
      files = record { count = refl; same = refl };
      asks = refl;
      out = record { count = refl; same = refl };
      children = record { count = refl; same = refl };
    })

pub returns-in-DeviceTimer : goal.returns-in-DeviceTimer
returns-in-DeviceTimer g c =
    rw c.in-DeviceTimer.is
    (record {
      result = c.serve_timer.result;
      serves = c.serve_timer.ensures;
      status = c.status_of-in-DeviceTimer.ensures;
      files = record { count = refl; same = refl };
      asks = refl;
      out = record { count = refl; same = refl };
      children = record { count = refl; same = refl };
    })

pub returns-in-DevicePort : goal.returns-in-DevicePort
returns-in-DevicePort g c =
    rw c.in-DevicePort.is
    (record {
      result = c.serve_port.result;
      serves = c.serve_port.ensures;
      status = c.status_of-in-DevicePort.ensures;
      out = record { count = refl; same = refl };
      children = record { count = refl; same = refl };
    })

pub returns-in-Show : goal.returns-in-Show
returns-in-Show g c =
    rw c.in-Show.is (record { result = c.show.result; performs = c.show.ensures.performs; asks = c.show.ensures.asks; status = c.status_of-in-Show.ensures; net = record { count = refl; same = refl }; children = record { count = refl; same = refl } })

pub returns-in-Pack : goal.returns-in-Pack
returns-in-Pack g c =
    rw c.in-Pack.is (record { result = c.pack.result; performs = c.pack.ensures.performs; asks = c.pack.ensures.asks; status = c.status_of-in-Pack.ensures; net = record { count = refl; same = refl }; children = record { count = refl; same = refl } })

pub returns-in-Asm : goal.returns-in-Asm
returns-in-Asm g c =
    rw c.in-Asm.is
    (record {
      result = c.asm.result;
      performs = performs-under _ _ _ _ _ _ c.asm.result (λ sound. sound.0) (c.asm.ensures.performs _ _ (record { count = refl; same = refl }));
      asks = c.asm.ensures.asks;
      status = c.status_of-in-Asm.ensures;
      net = record { count = refl; same = refl };
      children = record { count = refl; same = refl };
    })

pub returns-in-Dis : goal.returns-in-Dis
returns-in-Dis g c =
    rw c.in-Dis.is (record { result = c.dis.result; performs = c.dis.ensures.performs; asks = c.dis.ensures.asks; status = c.status_of-in-Dis.ensures; net = record { count = refl; same = refl }; children = record { count = refl; same = refl } })

pub returns-in-Direct : goal.returns-in-Direct
returns-in-Direct g c =
    rw c.in-Direct.is (record { result = c.direct.result; performs = c.direct.ensures.performs; asks = c.direct.ensures.asks; status = c.status_of-in-Direct.ensures; net = record { count = refl; same = refl }; children = record { count = refl; same = refl } })

pub returns-in-Local : goal.returns-in-Local
returns-in-Local g c =
    rw c.in-Local.is (
      c.order_of.result,
      c.order_of.ensures,
      record {
        result = c.local.result;
        performs = c.local.ensures.performs;
        asks = c.local.ensures.asks;
        status = c.status_of-in-Local.ensures;
        net = record { count = refl; same = refl };
        children = record { count = refl; same = refl };
      },
    )

pub returns-in-Gen : goal.returns-in-Gen
returns-in-Gen g c =
    let files = seen g.F.Files.count g.F.Files.told c.args.files.now c.args.files.now in
    let performs = c.run_generated.ensures files (record { count = refl; same = refl }) in
    rw c.in-Gen.is
    (record {
      result = c.run_generated.result;
      performs = performs-under _ _ _ _ _ _ c.run_generated.result (λ sound. sound.1) performs;
      asks = none-asked _ _ _ _ _ _ c.run_generated.result refl performs;
      status = c.sure_status_of.ensures;
      net = record { count = refl; same = refl };
      children = record { count = refl; same = refl };
    })

pub returns-in-Run : goal.returns-in-Run
returns-in-Run g c =
    rw c.in-Run.is (record { result = c.run.result; runs = c.run.ensures; status = c.status_of-in-Run.ensures })

pub returns-in-Ok : goal.returns-in-Ok
returns-in-Ok g c =
    rw c.in-Help.is (helps _ (Ok tt) (record { count = refl; same = refl }) refl (record { count = refl; same = refl }) (record { count = refl; same = refl }) c.in-Ok.ensures.puts c.in-Ok.ensures.is_sound)

pub returns-in-Err : goal.returns-in-Err
returns-in-Err g c =
    rw c.in-Help.is (helps _ (Err c.in-Err.field-0) (record { count = refl; same = refl }) refl (record { count = refl; same = refl }) (record { count = refl; same = refl }) c.in-Err.ensures.puts c.in-Err.ensures.is_sound)
