-- The hub's calls as events, what each answers, and what a series of them does to a table.
use Rattle.std.specs.Prelude.{ℕ, List, [], ◌∷◌}
use Rattle.table.specs.Change.{Verdict}
use Rattle.parameters.specs.Read.{Finding}
use Rattle.publish.specs.Outcome.{Publishing}
use Rattle.hub.specs.Receive.{Outcome, received_of}
use Rattle.hub.specs.Calls.{detached, read_of, publish_of}

-- a call: handing in, leaving and reading one parameter, each with its socket, and posting into a lent buffer
pub data Event : Type 0 where
  receive : (socket : ℕ) (bytes : List ℕ) → Event
  detach : (socket : ℕ) → Event
  read : (socket index : ℕ) → Event
  publish : (buffer : List ℕ) → Event

-- what it answers; posting also leaves a list in the buffer
pub data Reply : Type 0 where
  received : (outcome : Outcome) → Reply
  detaching : (verdict : Verdict) → Reply
  finding : (found : Finding) → Reply
  publishing : (publishing : Publishing) → Reply

-- the answer to a call
abbrev pub reply_to : List ℕ → List ℕ → Event → Reply
reply_to c t (receive socket bytes) = received (received_of c t socket bytes).outcome
reply_to c t (detach socket) = detaching (detached c t socket).verdict
reply_to c t (read socket index) = finding (read_of c t socket index)
reply_to c t (publish buffer) = publishing (publish_of c t buffer)

-- the table after a call; reading and posting leave it as it is
abbrev pub after_one : List ℕ → List ℕ → Event → List ℕ
after_one c t (receive socket bytes) = (received_of c t socket bytes).table
after_one c t (detach socket) = (detached c t socket).table
after_one c t (read socket index) = t
after_one c t (publish buffer) = t

-- the table after a series of calls under one catalogue, in order
abbrev pub after_all : List ℕ → List ℕ → List Event → List ℕ
after_all c t [] = t
after_all c t (e ∷ es) = after_all c (after_one c t e) es

-- the answers of a series, in order
abbrev pub replies : List ℕ → List ℕ → List Event → List Reply
replies c t [] = []
replies c t (e ∷ es) = reply_to c t e ∷ replies c (after_one c t e) es
