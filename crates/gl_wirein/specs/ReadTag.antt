-- Values, parts of a tag and arguments that are read from their JSON.
use Rattle.std.specs.Prelude.{ℕ, suc, List, [], ◌∷◌, codes, if◌then◌else◌, Option, Some, None}
use Rattle.std.specs.Str.{bytes_eq}
use Rattle.serde_json.specs.Data as json
use Rattle.gl_base.specs.Answers.{◌>>=◌}
use Rattle.gl_base.specs.Reading.{read_all}
use Rattle.gl_base.specs.Texts.{Text}
use Rattle.gl_value.specs.Value as v
use Rattle.gl_ast.specs.Grammar.{deepest_calls}
use Rattle.gl_ast.specs.Template.{Expr, literal, cat, exprs_of, named_of, AttrValue, fixed, live, Part, attribute, modifier, spread}
use Rattle.gl_wirein.specs.Pieces.{text_in, list_in, word_in, fields_in}
use Rattle.gl_wirein.specs.ReadExpr.{exprs_in, pairs_in, read_expr}

-- an expression that stands inside of another or of a block's head
abbrev pub inner_in : List Text → json.Data → Option Expr
inner_in symbols d = read_expr symbols deepest_calls d

-- what a whole mustache has
abbrev pub whole_in : List Text → json.Data → Option Expr
whole_in symbols d = read_expr symbols (suc deepest_calls) d

-- the array of the parts, where the row is of a joined text
abbrev pub parts_of_cat : List json.Data → Option json.Data
parts_of_cat (w ∷ parts ∷ []) = word_in (w ∷ parts ∷ []) >>= λ word. (if bytes_eq word (codes "cat") then Some parts else None)
parts_of_cat _ = None

abbrev pub read_value : List Text → json.Data → Option json.Data → Option Expr
read_value symbols d None = whole_in symbols d
read_value symbols d (Some parts) = exprs_in (λ e. whole_in symbols e) parts >>= λ es. Some (cat (exprs_of es))

-- the value of an attribute or an argument
abbrev pub value_in : List Text → json.Data → Option Expr
value_in symbols d = list_in d >>= λ row. read_value symbols d (parts_of_cat row)

abbrev pub read_fixed : List json.Data → Option Part
read_fixed (name ∷ value ∷ []) = text_in name >>= λ n. (text_in value >>= λ s. Some (attribute n (fixed s)))
read_fixed _ = None

abbrev pub read_live : List Text → List json.Data → Option Part
read_live symbols (name ∷ value ∷ []) = text_in name >>= λ n. (value_in symbols value >>= λ e. Some (attribute n (live e)))
read_live symbols _ = None

abbrev pub read_modifier : List Text → List json.Data → Option Part
read_modifier symbols (name ∷ args ∷ named ∷ []) = text_in name >>= λ n. (exprs_in (λ e. inner_in symbols e) args >>= λ es. (pairs_in (λ e. inner_in symbols e) named >>= λ ns. Some (modifier n (exprs_of es) (named_of ns))))
read_modifier symbols _ = None

abbrev pub read_part : List Text → List ℕ → List json.Data → Option Part
read_part symbols word fields =
    if bytes_eq word (codes "attr") then read_fixed fields else
    (if bytes_eq word (codes "dyn") then read_live symbols fields else
    (if bytes_eq word (codes "mod") then read_modifier symbols fields else
    (if bytes_eq word (codes "spread") then Some spread else None)))

abbrev pub part_in : List Text → json.Data → Option Part
part_in symbols d = list_in d >>= λ row. (word_in row >>= λ word. read_part symbols word (fields_in row))

abbrev pub parts_in : List Text → json.Data → Option (List Part)
parts_in symbols d = list_in d >>= λ ds. read_all (λ p. part_in symbols p) ds

-- a literal text as an argument is a fixed text
abbrev pub given_plain : v.Value ⊥ → AttrValue
given_plain (v.text s) = fixed s
given_plain x = live (literal x)

abbrev pub given : Expr → AttrValue
given (literal x) = given_plain x
given e = live e

abbrev pub read_argument : List Text → List json.Data → Option (Text × AttrValue)
read_argument symbols (name ∷ value ∷ []) = text_in name >>= λ n. (value_in symbols value >>= λ e. Some (n, given e))
read_argument symbols _ = None

abbrev pub argument_in : List Text → json.Data → Option (Text × AttrValue)
argument_in symbols d = list_in d >>= λ row. read_argument symbols row

abbrev pub arguments_in : List Text → json.Data → Option (List (Text × AttrValue))
arguments_in symbols d = list_in d >>= λ ds. read_all (λ a. argument_in symbols a) ds
