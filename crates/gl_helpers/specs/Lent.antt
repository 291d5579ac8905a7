-- Names with values that are lent.
use Rattle.std.specs.Prelude.{ℕ, List, map, String, string_bytes}
use Rattle.std.specs.Borrow.{Bor}
use Rattle.std.specs.Str.{chars}
use Rattle.std.specs.declared.alloc.Global.{Global}
use Rattle.gl_base.specs.Texts.{Text}
use Rattle.gl_value.specs.Value as v
use Rattle.gl_value.specs.View.{view}
use Rattle.gl_value.specs.declared.value.Value.{Value}

abbrev pub Lent : Type 0
Lent = String Global × Bor Value

-- a name as its characters, with the value that is lent
abbrev pub seen_loan : Lent → Text × v.Value ℕ
seen_loan e = (chars (string_bytes e.0), view e.1.now)

abbrev pub seen_lent : List Lent → List (Text × v.Value ℕ)
seen_lent es = map seen_loan es
