-- What a calm sink keeps.
use Rattle.std.specs.Prelude.{ℕ, List}
use Rattle.gl_outside.specs.declared.calm.CalmSink.{CalmSink}

abbrev pub taken_of : CalmSink → List ℕ
taken_of sink = sink.taken.items

-- it never fails
abbrev pub faults_of : CalmSink → ℕ
faults_of _ = 0

abbrev pub wants_of : CalmSink → ℕ
wants_of sink = sink.wants
