-- What the tags of own requests and answers are, and which requests are out.
use Rattle.std.specs.Prelude.{◌≡◌, ℕ, Bool, true, false, not, ◌||◌, Option, Some}
use Rattle.cosim_model.specs.declared.values.Caps.{Caps}
use Rattle.cosim_model.specs.declared.session.Command.{Command}
use Rattle.cosim_model.specs.declared.session.Command.TheVariants as command
use Rattle.cosim_model.specs.declared.session.Event.{Event}
use Rattle.cosim_model.specs.declared.session.Event.TheVariants.{Nothing, Met, Asked, Told, Answered, SyncDone}
use Rattle.cosim_model.specs.declared.session.OwnRequest.{OwnRequest}
use Rattle.cosim_model.specs.declared.session.Ticket.{Ticket}
use Rattle.cosim_model.specs.Sessions.{Session, next_number, request_flags, answered_flags, sync_answered, other_answered}
use Rattle.rp_packet.specs.declared.packet.Tag.{Tag}

-- the own request of a command's class that awaits its answer
abbrev pub own_of_kind : Session → Command → Option OwnRequest
own_of_kind s command.Sync = s.own_sync
own_of_kind s command.Nop = s.own_other
own_of_kind s command.Hello = s.own_other
own_of_kind s command.Cfg = s.own_other
own_of_kind s command.Read = s.own_other
own_of_kind s command.Write = s.own_other
own_of_kind s command.Interrupt = s.own_other

-- the peer's unanswered request of a command's class
abbrev pub peer_of_kind : Session → Command → Option Ticket
peer_of_kind s command.Sync = s.peer_sync
peer_of_kind s command.Nop = s.peer_other
peer_of_kind s command.Hello = s.peer_other
peer_of_kind s command.Cfg = s.peer_other
peer_of_kind s command.Read = s.peer_other
peer_of_kind s command.Write = s.peer_other
peer_of_kind s command.Interrupt = s.peer_other

-- the session once the request of that class is answered
abbrev pub answered : Session → Command → Session
answered s command.Sync = sync_answered s
answered s command.Nop = other_answered s
answered s command.Hello = other_answered s
answered s command.Cfg = other_answered s
answered s command.Read = other_answered s
answered s command.Write = other_answered s
answered s command.Interrupt = other_answered s

-- whether a request of a command, sent so, has no answer
abbrev pub is_posted_kind : Caps → Bool → Command → Bool
is_posted_kind common flag command.Write = flag
is_posted_kind common flag command.Interrupt = flag || not common.posted
is_posted_kind common flag command.Nop = false
is_posted_kind common flag command.Hello = false
is_posted_kind common flag command.Cfg = false
is_posted_kind common flag command.Read = false
is_posted_kind common flag command.Sync = false

-- the session once a request of a command went; a posted one awaits no answer
abbrev pub requested : Session → Bool → Command → ℕ → Session
requested s true kind len = record s { next = next_number s.next }
requested s false command.Sync len =
    record s { next = next_number s.next; own_sync = Some (record { cmd = command.Sync; id = s.next; len = len }) }
requested s false command.Nop len =
    record s { next = next_number s.next; own_other = Some (record { cmd = command.Nop; id = s.next; len = len }) }
requested s false command.Hello len =
    record s { next = next_number s.next; own_other = Some (record { cmd = command.Hello; id = s.next; len = len }) }
requested s false command.Cfg len =
    record s { next = next_number s.next; own_other = Some (record { cmd = command.Cfg; id = s.next; len = len }) }
requested s false command.Read len =
    record s { next = next_number s.next; own_other = Some (record { cmd = command.Read; id = s.next; len = len }) }
requested s false command.Write len =
    record s { next = next_number s.next; own_other = Some (record { cmd = command.Write; id = s.next; len = len }) }
requested s false command.Interrupt len =
    record s {
      next = next_number s.next;
      own_other = Some (record { cmd = command.Interrupt; id = s.next; len = len });
    }

-- what the peer asked is out, until it is answered
abbrev pub AsksOf : Session → Event → Type 0
AsksOf s (Asked ticket) = peer_of_kind s ticket.cmd ≡ Some ticket
AsksOf s Nothing = Unit {0}
AsksOf s Met = Unit {0}
AsksOf s Told = Unit {0}
AsksOf s Answered = Unit {0}
AsksOf s SyncDone = Unit {0}

-- a request has the session's next number
pub record IsRequestTag (s : Session) (posted : Bool) (tag : Tag) : Type 0 where
  pub id : tag.id ≡ s.next
  pub flags : tag.flags ≡ request_flags posted
  pub dev : tag.dev ≡ 0

-- an answer repeats its request, with the response flag
pub record IsAnswerTag (ticket : Ticket) (tag : Tag) : Type 0 where
  pub id : tag.id ≡ ticket.id
  pub flags : tag.flags ≡ answered_flags ticket.flags
  pub dev : tag.dev ≡ ticket.dev
