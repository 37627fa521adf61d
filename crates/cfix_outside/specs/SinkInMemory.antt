-- What a put changes in a sink in memory.
use Rattle.std.specs.Prelude.{ℕ, ◌-◌, ◌<◌, ◌⊎◌, ◌++◌, min, nat_lt, List, length, take, Option, Some, None, if◌then◌else◌}
use Rattle.cfix_outside.specs.Faults.{risen}
use Rattle.cfix_outside.specs.Plan.{named, IsNamed}
use Rattle.cfix_outside.specs.SinkState.{SinkState}

-- a put of so many bytes fails: the plan names this call, or they pass the room that is left
abbrev pub Refuses : SinkState → ℕ → Type 0
Refuses sink size = IsNamed (named sink.plan sink.calls) ⊎ (sink.room < size)

abbrev pub taken_of : Option ℕ → ℕ → ℕ → ℕ
taken_of None room size = min size room
taken_of (Some most) room size = min most (min size room)

-- how many bytes a put takes: as many as fit, and where the plan names the call no more than its number
abbrev pub takes : SinkState → ℕ → ℕ
takes sink size = taken_of (named sink.plan sink.calls) sink.room size

abbrev pub faults_after : Option ℕ → SinkState → ℕ → ℕ
faults_after (Some most) sink size = risen sink.faults
faults_after None sink size = if nat_lt sink.room size then risen sink.faults else sink.faults

-- the sink after a put of a piece
abbrev pub after_put : SinkState → List ℕ → SinkState
after_put sink piece = record sink {
  taken = sink.taken ++ take (takes sink (length piece)) piece;
  room = sink.room - takes sink (length piece);
  calls = risen sink.calls;
  faults = faults_after (named sink.plan sink.calls) sink (length piece);
}
