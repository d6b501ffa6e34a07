-- A held request is served.
use Rattle.std.specs.Prelude.{◌≡◌, ℕ, ◌<◌, Bool, true, false, not, List, [], ◌++◌, None}
use Rattle.cosim_model.specs.declared.values.Call.{Call}
use Rattle.cosim_model.specs.Packets.{Body, Packet, BusFields}
use Rattle.cosim_model.specs.Packets.Body.{Write}
use Rattle.cosim_model.specs.Parts.{MasterModel}
use Rattle.cosim_model.specs.Sessions.{Session, answer_of, other_answered, is_posted, ticket_of}
use Rattle.ends_model.specs.DeviceTurn.{answer_fields}
use Rattle.ends_model.specs.MachineTurn.{PortEnd, Service, serve_body}
use Rattle.rp_packet.specs.Spelling.{packet_bytes}

-- What the code of a write says of its service.
pub record Writes {M : Type 0} (r : Service M) (f : BusFields) (m : M) (before after : List Call) (code : ℕ)
    : Type 0 where
  pub master : m ≡ r.master
  pub calls : after ≡ before ++ r.calls
  pub answer : r.answer ≡ Write (answer_fields f code f.len [])
  pub small : code < 16

-- What is sent for it, and the session then: an answer, where it is not posted.
abbrev pub sent_for : Packet → Body → Bool → List ℕ
sent_for m b true = packet_bytes (answer_of (ticket_of m) b)
sent_for m b false = []

abbrev pub session_after : Session → Bool → Session
session_after s true = other_answered s
session_after s false = s

-- A port serves the request m that it holds: the port, the master, the calls and the bytes sent, each after and before.
pub record Serves {M : Type 0} (k : MasterModel M) (tick port : ℕ) (q : PortEnd) (m : Packet) (master : M)
    (calls : List Call) (before : List ℕ) (r : PortEnd) (new : M) (all : List Call) (after : List ℕ) (answered : Bool)
    : Type 0 where
  pub kind : answered ≡ not (is_posted q.session.common m)
  pub end : r ≡ record q { held = None; session = session_after q.session answered }
  pub does : new ≡ (serve_body k master tick port m.body).master
  pub keeps : all ≡ calls ++ (serve_body k master tick port m.body).calls
  pub sends : after ≡ before ++ sent_for m (serve_body k master tick port m.body).answer answered
