-- What a sink in memory keeps.
use Rattle.std.specs.Prelude.{◌≡◌, ◌⊎◌, ℕ, List, Option}
use Rattle.gl_outside.specs.declared.memory.MemSink.{MemSink}
use Rattle.gl_outside.specs.Cuts.{Cut, cut_of}
use Rattle.gl_outside.specs.Sink.{last_count}

abbrev pub taken_of : MemSink → List ℕ
taken_of sink = sink.taken.items

-- the numbers of the puts that fail, with the bytes that each takes
abbrev pub failing_of : MemSink → List Cut
failing_of sink = sink.failing

-- how many puts were counted so far, so the number of the next
abbrev pub calls_of : MemSink → ℕ
calls_of sink = sink.calls

abbrev pub faults_of : MemSink → ℕ
faults_of sink = sink.faults

abbrev pub wants_of : MemSink → ℕ
wants_of sink = sink.wants

-- a count stands at its last value, so that the next put can't be counted
abbrev pub IsFull : MemSink → Type 0
IsFull sink = (calls_of sink ≡ last_count) ⊎ (faults_of sink ≡ last_count) ⊎ (wants_of sink ≡ last_count)

-- how many bytes the next put takes, where it is to fail
abbrev pub next_cut : MemSink → Option ℕ
next_cut sink = cut_of (failing_of sink) (calls_of sink)
