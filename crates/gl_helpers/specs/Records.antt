-- Records as lists of keys with values.
use Rattle.std.specs.Prelude.{nat_eq, ℕ, List, [], ◌∷◌, ◌&&◌, if◌then◌else◌}
use Rattle.std.specs.Str.{bytes_eq}
use Rattle.std.specs.Ordering.{nat_cmp}
use Rattle.std.specs.declared.cmp.Ordering.{Ordering}
use Rattle.std.specs.Cmp.Lexicographic.{slice_cmp}
use Rattle.gl_base.specs.Texts.{Text, bytes_of, text_less}
use Rattle.gl_value.specs.Value.{Value, pairs, same, property}
use Rattle.gl_value.specs.Helpers.{put_member, members_in, is_record, not_deep}

-- the order of two texts, by bytes
abbrev pub text_order : Text → Text → Ordering
text_order s t = slice_cmp nat_cmp (bytes_of s) (bytes_of t)

-- the pairs with x at the key k: in the place of the first pair of that key, or else before the first of a greater key
abbrev pub put_pair : {O : Type 0} → Text → Value O → List (Text × Value O) → List (Text × Value O)
put_pair k x [] = (k, x) ∷ []
put_pair k x (p ∷ ps) = if bytes_eq k p.0 then (k, x) ∷ ps else (if text_less k p.0 then (k, x) ∷ p ∷ ps else p ∷ put_pair k x ps)

-- the pairs with each of these put in, one after another
abbrev pub put_all : {O : Type 0} → List (Text × Value O) → List (Text × Value O) → List (Text × Value O)
put_all ps [] = ps
put_all ps (e ∷ es) = put_all (put_pair e.0 e.1 ps) es

-- a record whose property n is the same as w, with y at the key k; any other value as it is
abbrev pub changed : Text → Value ℕ → Text → Value ℕ → Value ℕ → Value ℕ
changed n w k y v = if is_record v && same nat_eq (property n v) w then not_deep (pairs (put_member k y (members_in v))) else v
