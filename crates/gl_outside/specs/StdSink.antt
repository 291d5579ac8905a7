-- What a sink before a stream keeps.
use Rattle.std.specs.Prelude.{ℕ}
use Rattle.gl_outside.specs.declared.real.StdSink.{StdSink}

abbrev pub stream_of : {W : Type 0} → StdSink W → W
stream_of sink = sink.stream

abbrev pub faults_of : {W : Type 0} → StdSink W → ℕ
faults_of sink = sink.faults
