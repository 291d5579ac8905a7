-- What a fault says of the reading of a wire.
use Rattle.std.specs.Prelude.{◌≡◌, Option, None}
use Rattle.gl_wirein.specs.declared.fault.WireFault.{WireFault}
use Rattle.gl_wirein.specs.declared.fault.WireFault.TheVariants as v

-- nothing can be read there; nothing follows where memory is wanting
abbrev pub Fails : {A : Type 0} → WireFault → Option A → Type 0
Fails v.BadWire read = read ≡ None
Fails v.Memory read = Unit {0}
