-- What each helper gives in some calls: those of its rule, and those at its edges.

use Rattle.std.specs.Char.{encode_utf8}
use Rattle.std.specs.Fmt.{digits}
use Rattle.std.specs.Prelude.{◌≡◌, ℕ, zero, suc, pred, pos, negsuc, List, [], ◌∷◌, map, nat_eq, true, false, codes, Option, Some, None, refl}
use Rattle.gl_base.specs.Texts.{Text}
use Rattle.gl_base.specs.Names.{named}
use Rattle.gl_value.specs.Value.{Value, undefined, null, boolean, integer, text, list, pairs, action, no_values, value, no_members, member}
use Rattle.gl_value.specs.Helpers.{Helper, helper_table, helper_numbered, helper_value}

-- values whose actions are owned by numbers
abbrev V : Type 0
V = Value ℕ

abbrev whole : ℕ → V
whole n = integer (pos n)

abbrev negative : ℕ → V
negative n = integer (negsuc (pred n))

-- 0 in so many lists
abbrev nested : ℕ → V
nested zero = whole 0
nested (suc n) = list (value (nested n) no_values)

abbrev value_of : Option Helper → List V → List (Text × V) → V
value_of None args names = null
value_of (Some h) args names = helper_value nat_eq args names h

-- each call of the helper of that name, with its positional arguments alone, gives the value beside it
abbrev Gives : Text → List (List V × V) → Type 0
Gives n cases = map (λ c. value_of (named n helper_table) c.0 []) cases ≡ map (λ c. c.1) cases

-- the same of calls that have named arguments beside
abbrev GivesNamed : Text → List (List V × List (Text × V) × V) → Type 0
GivesNamed n cases = map (λ c. value_of (named n helper_table) c.0 c.1) cases ≡ map (λ c. c.2) cases

-- the number of a helper is the place of its row
numbers_in_order : map helper_numbered (0 ∷ 4 ∷ 16 ∷ 20 ∷ 31 ∷ 32 ∷ 33 ∷ []) ≡ map (λ n. named n helper_table) (codes "if" ∷ codes "hash" ∷ codes "or" ∷ codes "gte" ∷ codes "pluck" ∷ codes "join" ∷ codes "outlet" ∷ [])
numbers_in_order = refl

if_gives : Gives (codes "if") (
    (boolean true ∷ whole 1 ∷ whole 2 ∷ [], whole 1)
    ∷ (whole 0 ∷ whole 1 ∷ whole 2 ∷ [], whole 2)
    ∷ (text [] ∷ whole 1 ∷ [], undefined)
    ∷ (list no_values ∷ whole 1 ∷ whole 2 ∷ [], whole 2)
    ∷ (list (value (whole 0) no_values) ∷ whole 1 ∷ whole 2 ∷ [], whole 1)
    ∷ (pairs no_members ∷ whole 1 ∷ whole 2 ∷ [], whole 1)
    ∷ (action 4 (codes "go") (value (whole 1) no_values) ∷ whole 1 ∷ whole 2 ∷ [], whole 1)
    ∷ ([], undefined)
    ∷ []
    )
unfolding digits
if_gives = refl

unless_gives : Gives (codes "unless") (
    (boolean true ∷ whole 1 ∷ whole 2 ∷ [], whole 2)
    ∷ (null ∷ whole 1 ∷ whole 2 ∷ [], whole 1)
    ∷ (undefined ∷ whole 1 ∷ [], whole 1)
    ∷ ([], undefined)
    ∷ []
    )
unfolding digits
unless_gives = refl

concat_gives : Gives (codes "concat") (
    (text (codes "a") ∷ whole 1 ∷ boolean true ∷ null ∷ undefined ∷ list (value (whole 1) (value (text (codes "x")) no_values)) ∷ pairs (member (codes "k") (whole 1) no_members) ∷ action 4 (codes "go") (value (whole 1) no_values) ∷ [], text (codes "a1true1,x[object Object][action go]"))
    ∷ ([], text [])
    ∷ []
    )
unfolding digits
concat_gives = refl

named_concat_gives : GivesNamed (codes "concat") (
    (text (codes "a") ∷ [], (codes "k", text (codes "b")) ∷ [], text (codes "a"))
    ∷ []
    )
unfolding digits
named_concat_gives = refl

array_gives : Gives (codes "array") (
    (whole 1 ∷ text (codes "a") ∷ undefined ∷ [], list (value (whole 1) (value (text (codes "a")) (value undefined no_values))))
    ∷ ([], list no_values)
    ∷ (nested 99 ∷ [], nested 100)
    ∷ (nested 100 ∷ [], undefined)
    ∷ []
    )
unfolding digits
array_gives = refl

hash_gives : Gives (codes "hash") (
    ([], pairs no_members)
    ∷ (whole 7 ∷ [], pairs no_members)
    ∷ []
    )
unfolding digits encode_utf8
hash_gives = refl

named_hash_gives : GivesNamed (codes "hash") (
    ([], (codes "b", whole 1) ∷ (codes "a", whole 2) ∷ [], pairs (member (codes "a") (whole 2) (member (codes "b") (whole 1) no_members)))
    ∷ ([], (codes "a", whole 1) ∷ (codes "a", whole 2) ∷ [], pairs (member (codes "a") (whole 2) no_members))
    ∷ ([], (codes "k", nested 99) ∷ [], pairs (member (codes "k") (nested 99) no_members))
    ∷ ([], (codes "k", nested 100) ∷ [], undefined)
    ∷ []
    )
unfolding digits encode_utf8
named_hash_gives = refl

get_gives : Gives (codes "get") (
    (pairs (member (codes "a") (pairs (member (codes "b") (whole 5) no_members)) no_members) ∷ text (codes "a.b") ∷ [], whole 5)
    ∷ (pairs (member (codes "a") (whole 1) no_members) ∷ text (codes "b") ∷ [], undefined)
    ∷ (list (value (whole 7) (value (whole 8) no_values)) ∷ text (codes "1") ∷ [], whole 8)
    ∷ (list (value (whole 7) (value (whole 8) no_values)) ∷ text (codes "01") ∷ [], undefined)
    ∷ (list (value (whole 7) (value (whole 8) no_values)) ∷ text (codes "length") ∷ [], whole 2)
    ∷ (text (233 ∷ 116 ∷ 233 ∷ []) ∷ text (codes "length") ∷ [], whole 3)
    ∷ (whole 5 ∷ text (codes "length") ∷ [], undefined)
    ∷ (pairs (member (codes "1") (whole 2) no_members) ∷ whole 1 ∷ [], whole 2)
    ∷ (pairs (member [] (whole 3) no_members) ∷ text [] ∷ [], whole 3)
    ∷ (pairs (member [] (pairs (member [] (whole 4) no_members)) no_members) ∷ text (codes ".") ∷ [], whole 4)
    ∷ (pairs (member (codes "a") (whole 1) no_members) ∷ [], undefined)
    ∷ []
    )
unfolding digits
get_gives = refl

fn_gives : Gives (codes "fn") (
    (action 4 (codes "go") (value (whole 1) no_values) ∷ whole 2 ∷ text (codes "x") ∷ [], action 4 (codes "go") (value (whole 1) (value (whole 2) (value (text (codes "x")) no_values))))
    ∷ (action 4 (codes "go") (value (whole 1) no_values) ∷ [], action 4 (codes "go") (value (whole 1) no_values))
    ∷ (whole 5 ∷ whole 1 ∷ [], undefined)
    ∷ ([], undefined)
    ∷ (action 4 (codes "go") (value (whole 1) no_values) ∷ nested 99 ∷ [], action 4 (codes "go") (value (whole 1) (value (nested 99) no_values)))
    ∷ (action 4 (codes "go") (value (whole 1) no_values) ∷ nested 100 ∷ [], undefined)
    ∷ []
    )
unfolding digits
fn_gives = refl

add_gives : Gives (codes "add") (
    (whole 1 ∷ whole 2 ∷ [], whole 3)
    ∷ (whole 1 ∷ negative 4 ∷ [], negative 3)
    ∷ (boolean true ∷ boolean true ∷ [], whole 2)
    ∷ (text (codes "5") ∷ whole 1 ∷ [], whole 1)
    ∷ (whole 9007199254740991 ∷ whole 1 ∷ [], whole 9007199254740991)
    ∷ (negative 9007199254740991 ∷ negative 1 ∷ [], negative 9007199254740991)
    ∷ ([], whole 0)
    ∷ (whole 1 ∷ whole 2 ∷ whole 4 ∷ [], whole 3)
    ∷ []
    )
unfolding digits
add_gives = refl

sub_gives : Gives (codes "sub") (
    (whole 1 ∷ whole 2 ∷ [], negative 1)
    ∷ (whole 5 ∷ boolean true ∷ [], whole 4)
    ∷ (negative 9007199254740991 ∷ whole 1 ∷ [], negative 9007199254740991)
    ∷ (whole 9007199254740991 ∷ negative 1 ∷ [], whole 9007199254740991)
    ∷ ([], whole 0)
    ∷ []
    )
unfolding digits
sub_gives = refl

mul_gives : Gives (codes "mul") (
    (whole 3 ∷ negative 4 ∷ [], negative 12)
    ∷ (negative 3 ∷ negative 4 ∷ [], whole 12)
    ∷ (whole 9007199254740991 ∷ whole 9007199254740991 ∷ [], whole 9007199254740991)
    ∷ (whole 9007199254740991 ∷ negative 9007199254740991 ∷ [], negative 9007199254740991)
    ∷ (whole 9007199254740991 ∷ [], whole 0)
    ∷ []
    )
unfolding digits
mul_gives = refl

min_gives : Gives (codes "min") (
    (whole 3 ∷ whole 2 ∷ [], whole 2)
    ∷ (negative 1 ∷ negative 2 ∷ [], negative 2)
    ∷ (boolean false ∷ whole 1 ∷ [], whole 0)
    ∷ (boolean true ∷ whole 5 ∷ [], whole 1)
    ∷ ([], whole 0)
    ∷ []
    )
unfolding digits
min_gives = refl

max_gives : Gives (codes "max") (
    (whole 3 ∷ whole 2 ∷ [], whole 3)
    ∷ (negative 1 ∷ negative 2 ∷ [], negative 1)
    ∷ (negative 1 ∷ [], whole 0)
    ∷ (text (codes "9") ∷ negative 5 ∷ [], whole 0)
    ∷ []
    )
unfolding digits
max_gives = refl

eq_gives : Gives (codes "eq") (
    (whole 1 ∷ whole 1 ∷ [], boolean true)
    ∷ (whole 1 ∷ text (codes "1") ∷ [], boolean false)
    ∷ (whole 0 ∷ boolean false ∷ [], boolean false)
    ∷ (null ∷ undefined ∷ [], boolean false)
    ∷ (undefined ∷ [], boolean true)
    ∷ (list (value (whole 1) (value (pairs (member (codes "k") (whole 2) no_members)) no_values)) ∷ list (value (whole 1) (value (pairs (member (codes "k") (whole 2) no_members)) no_values)) ∷ [], boolean true)
    ∷ (pairs (member (codes "k") (whole 1) no_members) ∷ pairs (member (codes "k") (whole 1) (member (codes "l") (whole 1) no_members)) ∷ [], boolean false)
    ∷ (action 4 (codes "go") (value (whole 1) no_values) ∷ action 4 (codes "go") (value (whole 1) no_values) ∷ [], boolean true)
    ∷ (action 4 (codes "go") (value (whole 1) no_values) ∷ action 5 (codes "go") (value (whole 1) no_values) ∷ [], boolean false)
    ∷ (action 4 (codes "go") (value (whole 1) no_values) ∷ action 4 (codes "go") (value (whole 2) no_values) ∷ [], boolean false)
    ∷ (action 4 (codes "go") (value (whole 1) no_values) ∷ action 4 (codes "no") (value (whole 1) no_values) ∷ [], boolean false)
    ∷ []
    )
unfolding digits
eq_gives = refl

ne_gives : Gives (codes "ne") (
    (whole 1 ∷ whole 1 ∷ [], boolean false)
    ∷ (whole 1 ∷ text (codes "1") ∷ [], boolean true)
    ∷ ([], boolean false)
    ∷ (null ∷ [], boolean true)
    ∷ []
    )
unfolding digits
ne_gives = refl

not_gives : Gives (codes "not") (
    (whole 0 ∷ [], boolean true)
    ∷ (whole 1 ∷ [], boolean false)
    ∷ (text [] ∷ [], boolean true)
    ∷ (text (codes "a") ∷ [], boolean false)
    ∷ (list no_values ∷ [], boolean true)
    ∷ (pairs no_members ∷ [], boolean false)
    ∷ ([], boolean true)
    ∷ []
    )
unfolding digits
not_gives = refl

and_gives : Gives (codes "and") (
    (whole 1 ∷ whole 0 ∷ whole 2 ∷ [], whole 0)
    ∷ (whole 1 ∷ text [] ∷ whole 0 ∷ [], text [])
    ∷ (whole 1 ∷ whole 2 ∷ whole 3 ∷ [], whole 3)
    ∷ (whole 1 ∷ [], whole 1)
    ∷ ([], undefined)
    ∷ []
    )
unfolding digits
and_gives = refl

or_gives : Gives (codes "or") (
    (whole 0 ∷ whole 5 ∷ whole 6 ∷ [], whole 5)
    ∷ (text [] ∷ null ∷ whole 0 ∷ [], whole 0)
    ∷ (list no_values ∷ pairs no_members ∷ [], pairs no_members)
    ∷ ([], undefined)
    ∷ []
    )
unfolding digits
or_gives = refl

lt_gives : Gives (codes "lt") (
    (whole 1 ∷ whole 2 ∷ [], boolean true)
    ∷ (whole 2 ∷ whole 2 ∷ [], boolean false)
    ∷ (negative 3 ∷ negative 2 ∷ [], boolean true)
    ∷ (text (codes "a") ∷ text (codes "b") ∷ [], boolean true)
    ∷ (text (codes "b") ∷ text (codes "a") ∷ [], boolean false)
    ∷ (text (codes "a") ∷ text (codes "ab") ∷ [], boolean true)
    ∷ (text [] ∷ text (codes "a") ∷ [], boolean true)
    ∷ (text (codes "Z") ∷ text (codes "a") ∷ [], boolean true)
    ∷ (text (codes "10") ∷ text (codes "9") ∷ [], boolean true)
    ∷ (text (65535 ∷ []) ∷ text (65536 ∷ []) ∷ [], boolean true)
    ∷ (text (codes "5") ∷ whole 1 ∷ [], boolean true)
    ∷ (text (codes "5") ∷ whole 0 ∷ [], boolean false)
    ∷ (whole 0 ∷ boolean true ∷ [], boolean true)
    ∷ []
    )
unfolding digits encode_utf8
lt_gives = refl

lte_gives : Gives (codes "lte") (
    (whole 1 ∷ whole 2 ∷ [], boolean true)
    ∷ (whole 2 ∷ whole 2 ∷ [], boolean true)
    ∷ (whole 3 ∷ whole 2 ∷ [], boolean false)
    ∷ (text (codes "a") ∷ text (codes "a") ∷ [], boolean true)
    ∷ (text (codes "b") ∷ text (codes "a") ∷ [], boolean false)
    ∷ ([], boolean true)
    ∷ []
    )
unfolding digits encode_utf8
lte_gives = refl

gt_gives : Gives (codes "gt") (
    (whole 2 ∷ whole 1 ∷ [], boolean true)
    ∷ (whole 2 ∷ whole 2 ∷ [], boolean false)
    ∷ (text (codes "b") ∷ text (codes "a") ∷ [], boolean true)
    ∷ (text (codes "ab") ∷ text (codes "a") ∷ [], boolean true)
    ∷ (whole 1 ∷ text (codes "5") ∷ [], boolean true)
    ∷ ([], boolean false)
    ∷ []
    )
unfolding digits encode_utf8
gt_gives = refl

gte_gives : Gives (codes "gte") (
    (whole 2 ∷ whole 2 ∷ [], boolean true)
    ∷ (whole 1 ∷ whole 2 ∷ [], boolean false)
    ∷ (text (codes "a") ∷ text (codes "a") ∷ [], boolean true)
    ∷ (text (codes "a") ∷ text (codes "b") ∷ [], boolean false)
    ∷ ([], boolean true)
    ∷ []
    )
unfolding digits encode_utf8
gte_gives = refl

length_gives : Gives (codes "length") (
    (list (value (whole 1) (value (whole 2) (value (whole 3) no_values))) ∷ [], whole 3)
    ∷ (text (8364 ∷ 117 ∷ 114 ∷ 111 ∷ []) ∷ [], whole 4)
    ∷ (pairs (member (codes "length") (whole 5) no_members) ∷ [], whole 0)
    ∷ (whole 7 ∷ [], whole 0)
    ∷ (list no_values ∷ [], whole 0)
    ∷ ([], whole 0)
    ∷ []
    )
unfolding digits
length_gives = refl

append_gives : Gives (codes "append") (
    (list (value (whole 1) no_values) ∷ whole 2 ∷ [], list (value (whole 1) (value (whole 2) no_values)))
    ∷ (list no_values ∷ [], list (value undefined no_values))
    ∷ (text (codes "ab") ∷ whole 1 ∷ [], list (value (whole 1) no_values))
    ∷ (list (value (whole 1) no_values) ∷ list (value (whole 2) no_values) ∷ [], list (value (whole 1) (value (list (value (whole 2) no_values)) no_values)))
    ∷ (list no_values ∷ nested 100 ∷ [], undefined)
    ∷ []
    )
unfolding digits
append_gives = refl

remove_at_gives : Gives (codes "removeAt") (
    (list (value (whole 5) (value (whole 6) (value (whole 7) no_values))) ∷ whole 1 ∷ [], list (value (whole 5) (value (whole 7) no_values)))
    ∷ (list (value (whole 5) (value (whole 6) (value (whole 7) no_values))) ∷ whole 3 ∷ [], list (value (whole 5) (value (whole 6) (value (whole 7) no_values))))
    ∷ (list (value (whole 5) (value (whole 6) (value (whole 7) no_values))) ∷ negative 1 ∷ [], list (value (whole 5) (value (whole 6) (value (whole 7) no_values))))
    ∷ (list (value (whole 5) (value (whole 6) (value (whole 7) no_values))) ∷ [], list (value (whole 6) (value (whole 7) no_values)))
    ∷ (list (value (whole 5) (value (whole 6) (value (whole 7) no_values))) ∷ boolean true ∷ [], list (value (whole 5) (value (whole 7) no_values)))
    ∷ (whole 5 ∷ whole 0 ∷ [], list no_values)
    ∷ []
    )
unfolding digits
remove_at_gives = refl

put_gives : Gives (codes "put") (
    (pairs (member (codes "b") (whole 1) no_members) ∷ text (codes "a") ∷ whole 2 ∷ [], pairs (member (codes "a") (whole 2) (member (codes "b") (whole 1) no_members)))
    ∷ (pairs (member (codes "b") (whole 1) no_members) ∷ text (codes "c") ∷ whole 2 ∷ [], pairs (member (codes "b") (whole 1) (member (codes "c") (whole 2) no_members)))
    ∷ (pairs (member (codes "a") (whole 1) (member (codes "b") (whole 1) (member (codes "c") (whole 1) no_members))) ∷ text (codes "b") ∷ whole 2 ∷ [], pairs (member (codes "a") (whole 1) (member (codes "b") (whole 2) (member (codes "c") (whole 1) no_members))))
    ∷ (null ∷ text (codes "a") ∷ whole 2 ∷ [], pairs (member (codes "a") (whole 2) no_members))
    ∷ (pairs no_members ∷ whole 1 ∷ [], pairs (member (codes "1") undefined no_members))
    ∷ (pairs (member (codes "a") (whole 1) no_members) ∷ text (codes "b") ∷ nested 100 ∷ [], undefined)
    ∷ (pairs (member (65536 ∷ []) (whole 1) no_members) ∷ text (65535 ∷ []) ∷ whole 2 ∷ [], pairs (member (65535 ∷ []) (whole 2) (member (65536 ∷ []) (whole 1) no_members)))
    ∷ []
    )
unfolding digits encode_utf8
put_gives = refl

slice_gives : Gives (codes "slice") (
    (list (value (whole 5) (value (whole 6) (value (whole 7) (value (whole 8) no_values)))) ∷ whole 1 ∷ whole 3 ∷ [], list (value (whole 6) (value (whole 7) no_values)))
    ∷ (list (value (whole 5) (value (whole 6) (value (whole 7) no_values))) ∷ whole 1 ∷ [], list (value (whole 6) (value (whole 7) no_values)))
    ∷ (list (value (whole 5) (value (whole 6) (value (whole 7) no_values))) ∷ negative 1 ∷ [], list (value (whole 5) (value (whole 6) (value (whole 7) no_values))))
    ∷ (list (value (whole 5) (value (whole 6) (value (whole 7) no_values))) ∷ whole 0 ∷ negative 1 ∷ [], list no_values)
    ∷ (list (value (whole 5) (value (whole 6) (value (whole 7) no_values))) ∷ whole 2 ∷ whole 1 ∷ [], list no_values)
    ∷ (list (value (whole 5) (value (whole 6) no_values)) ∷ [], list (value (whole 5) (value (whole 6) no_values)))
    ∷ (list (value (whole 5) (value (whole 6) (value (whole 7) no_values))) ∷ whole 0 ∷ whole 9 ∷ [], list (value (whole 5) (value (whole 6) (value (whole 7) no_values))))
    ∷ (list (value (whole 5) (value (whole 6) (value (whole 7) no_values))) ∷ whole 0 ∷ null ∷ [], list no_values)
    ∷ (text (codes "abc") ∷ whole 0 ∷ [], list no_values)
    ∷ []
    )
unfolding digits
slice_gives = refl

reverse_gives : Gives (codes "reverse") (
    (list (value (whole 1) (value (whole 2) (value (whole 3) no_values))) ∷ [], list (value (whole 3) (value (whole 2) (value (whole 1) no_values))))
    ∷ (list no_values ∷ [], list no_values)
    ∷ (text (codes "ab") ∷ [], list no_values)
    ∷ ([], list no_values)
    ∷ []
    )
unfolding digits
reverse_gives = refl

includes_gives : Gives (codes "includes") (
    (list (value (whole 1) (value (text (codes "2")) (value (list (value (whole 3) no_values)) no_values))) ∷ list (value (whole 3) no_values) ∷ [], boolean true)
    ∷ (list (value (whole 1) (value (whole 2) no_values)) ∷ text (codes "1") ∷ [], boolean false)
    ∷ (list (value undefined no_values) ∷ [], boolean true)
    ∷ (list no_values ∷ [], boolean false)
    ∷ (text (codes "abc") ∷ text (codes "a") ∷ [], boolean false)
    ∷ []
    )
unfolding digits
includes_gives = refl

where_gives : Gives (codes "where") (
    (list (value (pairs (member (codes "k") (text (codes "a")) (member (codes "n") (whole 1) no_members))) (value (pairs (member (codes "k") (text (codes "b")) (member (codes "n") (whole 3) no_members))) (value (pairs (member (codes "k") (text (codes "a")) (member (codes "n") (whole 2) no_members))) no_values))) ∷ text (codes "k") ∷ text (codes "a") ∷ [], list (value (pairs (member (codes "k") (text (codes "a")) (member (codes "n") (whole 1) no_members))) (value (pairs (member (codes "k") (text (codes "a")) (member (codes "n") (whole 2) no_members))) no_values)))
    ∷ (list (value (pairs (member (codes "k") (text (codes "a")) (member (codes "n") (whole 1) no_members))) (value (pairs (member (codes "k") (text (codes "b")) (member (codes "n") (whole 3) no_members))) (value (pairs (member (codes "k") (text (codes "a")) (member (codes "n") (whole 2) no_members))) no_values))) ∷ text (codes "z") ∷ [], list (value (pairs (member (codes "k") (text (codes "a")) (member (codes "n") (whole 1) no_members))) (value (pairs (member (codes "k") (text (codes "b")) (member (codes "n") (whole 3) no_members))) (value (pairs (member (codes "k") (text (codes "a")) (member (codes "n") (whole 2) no_members))) no_values))))
    ∷ (list (value (pairs (member (codes "k") (text (codes "a")) (member (codes "n") (whole 1) no_members))) (value (pairs (member (codes "k") (text (codes "b")) (member (codes "n") (whole 3) no_members))) (value (pairs (member (codes "k") (text (codes "a")) (member (codes "n") (whole 2) no_members))) no_values))) ∷ text (codes "k") ∷ text (codes "c") ∷ [], list no_values)
    ∷ (list (value (text (codes "ab")) (value (list (value (whole 1) (value (whole 2) no_values))) (value (text (codes "c")) no_values))) ∷ text (codes "length") ∷ whole 2 ∷ [], list (value (text (codes "ab")) (value (list (value (whole 1) (value (whole 2) no_values))) no_values)))
    ∷ (whole 5 ∷ text (codes "k") ∷ [], list no_values)
    ∷ []
    )
unfolding digits
where_gives = refl

remove_where_gives : Gives (codes "removeWhere") (
    (list (value (pairs (member (codes "k") (text (codes "a")) (member (codes "n") (whole 1) no_members))) (value (pairs (member (codes "k") (text (codes "b")) (member (codes "n") (whole 3) no_members))) (value (pairs (member (codes "k") (text (codes "a")) (member (codes "n") (whole 2) no_members))) no_values))) ∷ text (codes "k") ∷ text (codes "a") ∷ [], list (value (pairs (member (codes "k") (text (codes "b")) (member (codes "n") (whole 3) no_members))) no_values))
    ∷ (list (value (pairs (member (codes "k") (text (codes "a")) (member (codes "n") (whole 1) no_members))) (value (pairs (member (codes "k") (text (codes "b")) (member (codes "n") (whole 3) no_members))) (value (pairs (member (codes "k") (text (codes "a")) (member (codes "n") (whole 2) no_members))) no_values))) ∷ text (codes "z") ∷ [], list no_values)
    ∷ (list (value (pairs (member (codes "k") (text (codes "a")) (member (codes "n") (whole 1) no_members))) (value (pairs (member (codes "k") (text (codes "b")) (member (codes "n") (whole 3) no_members))) (value (pairs (member (codes "k") (text (codes "a")) (member (codes "n") (whole 2) no_members))) no_values))) ∷ text (codes "k") ∷ text (codes "c") ∷ [], list (value (pairs (member (codes "k") (text (codes "a")) (member (codes "n") (whole 1) no_members))) (value (pairs (member (codes "k") (text (codes "b")) (member (codes "n") (whole 3) no_members))) (value (pairs (member (codes "k") (text (codes "a")) (member (codes "n") (whole 2) no_members))) no_values))))
    ∷ (whole 5 ∷ text (codes "k") ∷ [], list no_values)
    ∷ []
    )
unfolding digits
remove_where_gives = refl

update_where_gives : Gives (codes "updateWhere") (
    (list (value (pairs (member (codes "k") (text (codes "a")) (member (codes "n") (whole 1) no_members))) (value (pairs (member (codes "k") (text (codes "b")) (member (codes "n") (whole 3) no_members))) (value (pairs (member (codes "k") (text (codes "a")) (member (codes "n") (whole 2) no_members))) no_values))) ∷ text (codes "k") ∷ text (codes "a") ∷ text (codes "n") ∷ whole 0 ∷ [], list (value (pairs (member (codes "k") (text (codes "a")) (member (codes "n") (whole 0) no_members))) (value (pairs (member (codes "k") (text (codes "b")) (member (codes "n") (whole 3) no_members))) (value (pairs (member (codes "k") (text (codes "a")) (member (codes "n") (whole 0) no_members))) no_values))))
    ∷ (list (value (whole 1) (value (pairs (member (codes "k") (text (codes "a")) (member (codes "n") (whole 1) no_members))) (value (text (codes "x")) (value (list (value (whole 2) no_values)) no_values)))) ∷ text (codes "n") ∷ whole 1 ∷ text (codes "on") ∷ boolean true ∷ [], list (value (whole 1) (value (pairs (member (codes "k") (text (codes "a")) (member (codes "n") (whole 1) (member (codes "on") (boolean true) no_members)))) (value (text (codes "x")) (value (list (value (whole 2) no_values)) no_values)))))
    ∷ (list (value (text (codes "ab")) (value (pairs (member (codes "length") (whole 2) no_members)) no_values)) ∷ text (codes "length") ∷ whole 2 ∷ text (codes "k") ∷ whole 1 ∷ [], list (value (text (codes "ab")) (value (pairs (member (codes "k") (whole 1) (member (codes "length") (whole 2) no_members))) no_values)))
    ∷ (list (value (pairs (member (codes "k") (text (codes "a")) (member (codes "n") (whole 1) no_members))) no_values) ∷ text (codes "n") ∷ whole 1 ∷ [], list (value (pairs (member [] undefined (member (codes "k") (text (codes "a")) (member (codes "n") (whole 1) no_members)))) no_values))
    ∷ (list (value (pairs (member (codes "k") (text (codes "a")) (member (codes "n") (whole 1) no_members))) no_values) ∷ text (codes "n") ∷ whole 1 ∷ text (codes "d") ∷ nested 99 ∷ [], undefined)
    ∷ (list (value (pairs (member (codes "k") (text (codes "a")) (member (codes "n") (whole 1) no_members))) (value (pairs (member (codes "k") (text (codes "b")) (member (codes "n") (whole 3) no_members))) no_values)) ∷ text (codes "n") ∷ whole 1 ∷ text (codes "d") ∷ nested 100 ∷ [], list (value undefined (value (pairs (member (codes "k") (text (codes "b")) (member (codes "n") (whole 3) no_members))) no_values)))
    ∷ (whole 5 ∷ text (codes "k") ∷ [], list no_values)
    ∷ []
    )
unfolding digits encode_utf8
update_where_gives = refl

pluck_gives : Gives (codes "pluck") (
    (list (value (pairs (member (codes "k") (text (codes "a")) (member (codes "n") (whole 1) no_members))) (value (pairs (member (codes "k") (text (codes "b")) (member (codes "n") (whole 3) no_members))) (value (pairs (member (codes "k") (text (codes "a")) (member (codes "n") (whole 2) no_members))) no_values))) ∷ text (codes "n") ∷ [], list (value (whole 1) (value (whole 3) (value (whole 2) no_values))))
    ∷ (list (value (text (codes "ab")) (value (list (value (whole 1) no_values)) (value (whole 5) no_values))) ∷ text (codes "length") ∷ [], list (value (whole 2) (value (whole 1) (value undefined no_values))))
    ∷ (pairs (member (codes "k") (whole 1) no_members) ∷ text (codes "k") ∷ [], list no_values)
    ∷ []
    )
unfolding digits
pluck_gives = refl

join_gives : Gives (codes "join") (
    (list (value (text (codes "a")) (value (whole 1) (value (boolean true) no_values))) ∷ text (codes ", ") ∷ [], text (codes "a, 1, true"))
    ∷ (list (value (text (codes "a")) (value null (value (text (codes "b")) no_values))) ∷ text (codes "-") ∷ [], text (codes "a--b"))
    ∷ (list (value (text (codes "a")) no_values) ∷ text (codes "-") ∷ [], text (codes "a"))
    ∷ (list no_values ∷ text (codes "-") ∷ [], text [])
    ∷ (list (value (whole 1) (value (whole 2) no_values)) ∷ [], text (codes "12"))
    ∷ (list (value (whole 1) (value (whole 2) no_values)) ∷ whole 0 ∷ [], text (codes "102"))
    ∷ (text (codes "ab") ∷ text (codes "-") ∷ [], text [])
    ∷ []
    )
unfolding digits
join_gives = refl
