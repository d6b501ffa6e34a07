-- What the steps of `run` come to.
use Rattle.std.specs.Prelude.{◌≡◌, ℕ, List}
use Rattle.std.specs.declared.result.Result.{Result}
use Rattle.std.specs.declared.result.Result.TheVariants.{Ok, Err}
use Rattle.cos_base.specs.Networks.{Coming}
use Rattle.cos_children.specs.Children.{Children}
use Rattle.cos_config.specs.declared.config.PortConfig.{PortConfig}
use Rattle.configured_machine.specs.declared.parts.Parts.{Parts}
use Rattle.cosim_inputs.specs.declared.refusals.InputsRefusal.{InputsRefusal}
use Rattle.cosim_serve.specs.Serves.{NetView}
use Rattle.outcomes.specs.declared.failures.ReadFault.{ReadFault}
use Rattle.outcomes.specs.declared.failures.ReadFault.TheVariants as read
use Rattle.outcomes.specs.declared.object.Object.TheVariants as object
use Rattle.outcomes.specs.declared.stop.Stop.{Stop}
use Rattle.outcomes.specs.declared.stop.Stop.TheVariants.{Refused, Outside, NoMemory}
use Rattle.outcomes.specs.Seen.{Seen}
use Rattle.port_children.specs.declared.fault.WaitFault.{WaitFault}
use Rattle.transcript.specs.ClosingLines.{run_text}
use Rattle.cosim_run.specs.declared.command.Finished.{Finished}
use Rattle.cosim_run.specs.declared.conversation.Driven.{Driven}
use Rattle.cosim_run.specs.declared.refusal.RunRefusal.{RunRefusal}
use Rattle.cosim_run.specs.declared.refusal.RunRefusal.TheVariants.{Inputs}
use Rattle.cosim_run.specs.Conversations.{IsConversation, Machine, RunEnded}
use Rattle.cosim_run.specs.Runs.{WithChildren, lines_of, unended}

module _ {L : Type 0} (program config : List ℕ) (view : NetView L) (p : Parts) (net : Seen (Coming L))
    (children : Seen Children) (numbers : List ℕ) where
  -- The machine was driven to its end, and this is had of it.
  pub record ComesDriven (d : Driven) : Type 0 where
    pub settings : d.config ≡ p.config
    pub talks : IsConversation program config view p net children numbers d.end.clear (Ok tt)

  -- It wasn't.
  pub record ComesUndriven (e : Stop RunRefusal) : Type 0 where
    pub left : Machine
    pub talks : IsConversation program config view p net children numbers left (Err e)

-- how a configuration that isn't had ends the command
abbrev pub unread : ReadFault InputsRefusal → Stop RunRefusal
unread (read.Refused r) = Refused (Inputs r)
unread (read.Failed n) = Outside object.Files n
unread read.NoMemory = NoMemory

-- the first fault: of the conversation, or of the waits
abbrev pub StopsBy : RunEnded → Result Unit WaitFault → Stop RunRefusal → Type 0
StopsBy (Err f) waited e = e ≡ f
StopsBy (Ok u) (Err f) e = e ≡ unended f
StopsBy (Ok u) (Ok w) e = ⊥

module _ {L : Type 0} (program config : List ℕ) (view : NetView L) (p : Parts) (net : Seen (Coming L))
    (children : Seen Children) where
  -- The machine was run with its children, and each of these ended with status 0.
  pub record RanWell (d : Driven) : Type 0 where
    pub settings : d.config ≡ p.config
    pub peers : WithChildren program config view p net children d.end.clear (Ok tt) (Ok tt)

  -- Something stands against it.
  pub record RanIll (e : Stop RunRefusal) : Type 0 where
    pub left : Machine
    pub driven : RunEnded
    pub waited : Result Unit WaitFault
    pub peers : WithChildren program config view p net children left driven waited
    pub stops : StopsBy driven waited e

-- What is printed of a machine that was driven.
pub record IsFinished (d : Driven) (f : Finished) : Type 0 where
  pub text : run_text f.driven.end.clear.calls f.end ≡ lines_of d.end.clear d.config.ports
  pub driven : f.driven ≡ d
