-- Expressions that are read from their JSON. Nothing is checked but the form.
use Rattle.std.specs.Prelude.{ℕ, zero, suc, List, [], ◌∷◌, ◌==◌, codes, if◌then◌else◌, Option, Some, None}
use Rattle.std.specs.Str.{bytes_eq, chars}
use Rattle.serde_json.specs.Data as json
use Rattle.serde_json.specs.Find.{as_i64}
use Rattle.gl_base.specs.Answers.{◌>>=◌}
use Rattle.gl_base.specs.Reading.{read_all}
use Rattle.gl_base.specs.Texts.{Text}
use Rattle.gl_value.specs.Value as v
use Rattle.gl_ast.specs.Template.{Plain, Expr, literal, this, argument, bare, call, exprs_of, named_of}
use Rattle.gl_wirein.specs.Pieces.{text_in, list_in, texts_in, symbol_in, word_in, fields_in}

-- a literal but undefined
abbrev pub scalar_in : json.Data → Option Plain
scalar_in json.null = Some v.null
scalar_in (json.boolean b) = Some (v.boolean b)
scalar_in (json.number n) = as_i64 n >>= λ z. Some (v.integer z)
scalar_in (json.string s) = Some (v.text (chars s))
scalar_in _ = None

-- the value of a row of one
abbrev pub read_literal : List json.Data → Option Expr
read_literal (d ∷ []) = scalar_in d >>= λ x. Some (literal x)
read_literal _ = None

-- A path that begins with a symbol: an argument where the symbol begins with `@`, and else a parameter.
abbrev pub symbol_path : Text → List Text → Expr
symbol_path [] ns = bare [] ns
symbol_path (c ∷ n) ns = if c == 64 then argument n ns else bare (c ∷ n) ns

-- a path, by the word and the field of what it begins with, and the segments that follow
abbrev pub read_path : List Text → List ℕ → json.Data → List Text → Option Expr
read_path symbols word d ns =
    if bytes_eq word (codes "sym") then symbol_in symbols d >>= (λ n. Some (symbol_path n ns)) else
    (if bytes_eq word (codes "this") then text_in d >>= (λ n. Some (this n ns)) else
    (if bytes_eq word (codes "free") then text_in d >>= (λ n. Some (bare n ns)) else None))

-- a path by its row
abbrev pub read_head : List Text → List json.Data → List Text → Option Expr
read_head symbols (w ∷ d ∷ []) ns = word_in (w ∷ d ∷ []) >>= λ word. read_path symbols word d ns
read_head symbols _ ns = None

-- a path with segments
abbrev pub read_get : List Text → List json.Data → Option Expr
read_get symbols (head ∷ rest ∷ []) = list_in head >>= λ row. (texts_in rest >>= λ ns. read_head symbols row ns)
read_get symbols _ = None

-- the expressions of an array, each of which `inner` reads
abbrev pub exprs_in : (json.Data → Option Expr) → json.Data → Option (List Expr)
exprs_in inner d = list_in d >>= λ ds. read_all inner ds

abbrev pub pair_of : (json.Data → Option Expr) → List json.Data → Option (Text × Expr)
pair_of inner (name ∷ value ∷ []) = text_in name >>= λ n. (inner value >>= λ e. Some (n, e))
pair_of inner _ = None

-- a name with an expression
abbrev pub pair_in : (json.Data → Option Expr) → json.Data → Option (Text × Expr)
pair_in inner d = list_in d >>= λ ds. pair_of inner ds

abbrev pub pairs_in : (json.Data → Option Expr) → json.Data → Option (List (Text × Expr))
pairs_in inner d = list_in d >>= λ ds. read_all (pair_in inner) ds

-- a call, by what follows the word
abbrev pub read_call : (json.Data → Option Expr) → List json.Data → Option Expr
read_call inner (name ∷ args ∷ named ∷ []) = text_in name >>= λ n. (exprs_in inner args >>= λ es. (pairs_in inner named >>= λ ns. Some (call n (exprs_of es) (named_of ns))))
read_call inner _ = None

-- an expression by its row, where `called` reads what follows the word of a call
abbrev pub read_word : List Text → (List json.Data → Option Expr) → List ℕ → List json.Data → Option Expr
read_word symbols called word row =
    if bytes_eq word (codes "call") then called (fields_in row) else
    (if bytes_eq word (codes "lit") then read_literal (fields_in row) else
    (if bytes_eq word (codes "undef") then Some (literal v.undefined) else
    (if bytes_eq word (codes "get") then read_get symbols (fields_in row) else read_head symbols row [])))

abbrev pub read_row : List Text → (List json.Data → Option Expr) → List json.Data → Option Expr
read_row symbols called row = word_in row >>= λ word. read_word symbols called word row

abbrev pub read_with : List Text → (List json.Data → Option Expr) → json.Data → Option Expr
read_with symbols called d = list_in d >>= λ row. read_row symbols called row

abbrev pub no_call : List json.Data → Option Expr
no_call fields = None

-- an expression, where so many calls may nest
abbrev pub read_expr : List Text → ℕ → json.Data → Option Expr
read_expr symbols zero d = read_with symbols no_call d
read_expr symbols (suc n) d = read_with symbols (λ fields. read_call (λ e. read_expr symbols n e) fields) d

-- what follows the word of a call
abbrev pub read_called : List Text → ℕ → List json.Data → Option Expr
read_called symbols zero fields = None
read_called symbols (suc n) fields = read_call (λ e. read_expr symbols n e) fields
