-- What linking answers of an unknown name.
use Rattle.std.specs.Prelude.{◌≡◌, Option, Some}
use Rattle.gl_meaning.specs.View.{kind_view}
use Rattle.gl_opc.specs.TreeFaults.{Fault}
use Rattle.gl_opc.specs.declared.fault.LinkFault.{LinkFault}
use Rattle.gl_opc.specs.declared.fault.LinkFault.TheVariants as v

-- the name is the first unknown one; want of memory may come at any point
abbrev pub IsFirst : LinkFault → Option Fault → Type 0
IsFirst (v.UnknownName kind name place) found = found ≡ Some (record { unknown = record { kind = kind_view kind; name = name }; place = place })
IsFirst v.Memory found = Unit {0}
