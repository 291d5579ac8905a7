-- The names of the helpers, each with the helper's number.
use Rattle.std.specs.Prelude.{[], ◌∷◌, codes}
use Rattle.gl_names.specs.Table.{Rows}

unfoldable pub helper_rows : Rows
helper_rows =
    (codes "if", 0) ∷ (codes "unless", 1) ∷ (codes "concat", 2) ∷ (codes "array", 3) ∷ (codes "hash", 4)
    ∷ (codes "get", 5) ∷ (codes "fn", 6) ∷ (codes "add", 7) ∷ (codes "sub", 8) ∷ (codes "mul", 9)
    ∷ (codes "min", 10) ∷ (codes "max", 11) ∷ (codes "eq", 12) ∷ (codes "ne", 13) ∷ (codes "not", 14)
    ∷ (codes "and", 15) ∷ (codes "or", 16) ∷ (codes "lt", 17) ∷ (codes "lte", 18) ∷ (codes "gt", 19)
    ∷ (codes "gte", 20) ∷ (codes "length", 21) ∷ (codes "append", 22) ∷ (codes "removeAt", 23) ∷ (codes "put", 24)
    ∷ (codes "slice", 25) ∷ (codes "reverse", 26) ∷ (codes "includes", 27) ∷ (codes "where", 28) ∷ (codes "removeWhere", 29)
    ∷ (codes "updateWhere", 30) ∷ (codes "pluck", 31) ∷ (codes "join", 32) ∷ []
