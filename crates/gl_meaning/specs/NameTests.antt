-- Which bytes are names. All that a name consists of is ASCII.
use Rattle.std.specs.Prelude.{ℕ, List, [], ◌∷◌, Bool, true, false, not, ◌&&◌, ◌==◌, slice_index, if◌then◌else◌}
use Rattle.std.specs.List.{list_any, list_all}
use Rattle.std.specs.Str.{bytes_eq}
use Rattle.gl_ast.specs.Marks.{is_capital, starts_name, in_name, in_class}
use Rattle.gl_ast.specs.Words.{reserved}
use Rattle.gl_meaning.specs.Signs.{colon}

-- a letter, `_` or `$`, and then these, digits and `-`
unfoldable pub is_name : List ℕ → Bool
is_name s = starts_name (slice_index s 0) && list_all in_name s

abbrev pub is_one_of : List (List ℕ) → List ℕ → Bool
is_one_of names s = list_any (λ n. bytes_eq n s) names

-- a name that is not reserved
unfoldable pub is_free_name : List ℕ → Bool
is_free_name s = is_name s && not (is_one_of reserved s)

-- A class name is a capital and then what follows one: nothing; a letter or a digit and what follows one;
-- or `::` and a class name.
abbrev mutual
  pub is_class_name : List ℕ → Bool
  is_class_name [] = false
  is_class_name (c ∷ s) = is_capital c && ends_class s

  pub ends_class : List ℕ → Bool
  ends_class [] = true
  ends_class (c ∷ s) = if c == colon then after_colon s else in_class c && ends_class s

  pub after_colon : List ℕ → Bool
  after_colon [] = false
  after_colon (c ∷ s) = c == colon && is_class_name s
