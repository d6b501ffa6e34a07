-- The rows of session faults in three parts, and some rows by the one field of a session that they look at.
use Rattle.std.specs.Prelude.{ℕ, Bool, true, false, not, Option, Some, None}
use Rattle.cosim_model.specs.declared.session.Event.{Event}
use Rattle.cosim_model.specs.declared.session.Event.TheVariants.{Asked, Told, Answered}
use Rattle.cosim_model.specs.declared.session.OwnRequest.{OwnRequest}
use Rattle.cosim_model.specs.declared.session.SessionFault.{SessionFault}
use Rattle.cosim_model.specs.declared.session.SessionFault.TheVariants as session_fault
use Rattle.cosim_model.specs.declared.session.Ticket.{Ticket}
use Rattle.cosim_model.specs.Packets.{Body, Packet, cmd_of, is_response}
use Rattle.cosim_model.specs.Packets.Body.{Nop, Read, Write, Interrupt, Sync}
use Rattle.cosim_model.specs.Sessions.{Session, is_posted, fault_if, or_else, hello_missing, hello_again, wrong_version, hello_lacks, unsupported, stray_answer, is_answer_of, wrong_answer, wrong_len, not_in_common, time_backwards, early_posted, is_taken, second_request}

abbrev pub hello_rows : Session → Packet → Option SessionFault
hello_rows s p =
    or_else (hello_missing s.hello_came p.body)
    (or_else (hello_again s.hello_came p.body) (or_else (wrong_version p.body) (hello_lacks s.needs p.body)))

abbrev pub answer_rows : Session → Packet → Option SessionFault
answer_rows s p =
    or_else (unsupported s.role (is_response p) p.body)
    (or_else (stray_answer (is_response p) s p.id p.body) (wrong_answer (is_response p) s p.id p.body))

abbrev pub request_rows : Session → Packet → Option SessionFault
request_rows s p =
    or_else (not_in_common (is_response p) s.common p.body) (or_else (time_backwards (is_response p) s.peer_time p.body)
    (or_else (early_posted s.role (is_response p) (is_posted s.common p) s.own_sync p.id)
    (second_request (is_response p) (is_posted s.common p) s p.id p.body)))

-- a stray answer, by the own request of its class
abbrev pub stray_row : Bool → Option OwnRequest → ℕ → Body → Option SessionFault
stray_row false own id b = None
stray_row true own id Nop = None
stray_row true own id b = fault_if (not (is_answer_of own id b)) (session_fault.StrayAnswer id (cmd_of b))

-- a wrong answer, by the own request that isn't a sync
abbrev pub wrong_row : Bool → Option OwnRequest → ℕ → Body → Option SessionFault
wrong_row true own id (Read f) = wrong_len own id f
wrong_row _ own id _ = None

-- a second request, by the unanswered requests
abbrev pub second_row : Bool → Bool → Option Ticket → Option Ticket → ℕ → Body → Option SessionFault
second_row false false sync other id (Read f) = is_taken other id
second_row false false sync other id (Write f) = is_taken other id
second_row false false sync other id (Interrupt time vector line val) = is_taken other id
second_row false false sync other id (Sync time) = is_taken sync id
second_row _ _ sync other id _ = None

-- what an access or an interrupt means, or its answer
abbrev pub other_event : Session → Bool → Bool → ℕ → Ticket → Session × Event
other_event s true posted time ticket = (record s { own_other = None }, Answered)
other_event s false true time ticket = (record s { peer_time = time }, Told)
other_event s false false time ticket = (record s { peer_time = time; peer_other = Some ticket }, Asked ticket)
