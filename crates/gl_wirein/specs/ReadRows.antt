-- Statements that are read from their rows, the last row first, in both versions. A row `end` opens a body that the row with
-- which its statement or its block begins takes; a row `else` begins the body before it.
use Rattle.std.specs.Prelude.{◌≡◌, ℕ, List, [], ◌∷◌, Bool, true, false, ◌||◌, codes, nat_lt, length, if◌then◌else◌, Option, Some, None}
use Rattle.std.specs.Str.{bytes_eq}
use Rattle.serde_json.specs.Data as json
use Rattle.serde_json.specs.Find.{get}
use Rattle.gl_base.specs.Answers.{◌>>=◌}
use Rattle.gl_base.specs.Texts.{Text}
use Rattle.gl_ast.specs.Template.{exprs_of, Stmt, text_stmt, comment_stmt, put, element, component_stmt, if_stmt, each, let_stmt, yield, Body, end, stmt, Slots, no_slots, block}
use Rattle.gl_wirein.specs.Pieces.{text_in, list_in, texts_in, symbols_in, word_in, fields_in}
use Rattle.gl_wirein.specs.ReadExpr.{exprs_in}
use Rattle.gl_wirein.specs.ReadTag.{inner_in, whole_in, parts_in, arguments_in}

-- A body that is open, what stands behind its else, and the blocks that it has. What a statement takes that has no else is the first
-- alone, and what a component takes that has a row for each block is the last.
abbrev pub Open : Type 0
Open = Body × Body × Slots

-- the innermost open body, and those round it
abbrev pub State : Type 0
State = Open × List Open

abbrev pub closed : Open
closed = (end, end, no_slots)

abbrev pub start : State
start = (closed, [])

-- How many bodies may be open: a component and its block `default`, which nest as one, open two.
abbrev pub deepest_open : ℕ
deepest_open = 200

abbrev pub read_text : List json.Data → Option Stmt
read_text (s ∷ []) = text_in s >>= λ s. Some (text_stmt s)
read_text _ = None

abbrev pub read_comment : List json.Data → Option Stmt
read_comment (s ∷ []) = text_in s >>= λ s. Some (comment_stmt s)
read_comment _ = None

abbrev pub read_put : List Text → List json.Data → Option Stmt
read_put symbols (e ∷ []) = whole_in symbols e >>= λ e. Some (put e)
read_put symbols _ = None

abbrev pub read_leaf : List Text → List json.Data → Option Stmt
read_leaf symbols (class ∷ parts ∷ args ∷ []) = text_in class >>= λ c. (parts_in symbols parts >>= λ ps. (arguments_in symbols args >>= λ es. Some (component_stmt c ps es no_slots)))
read_leaf symbols _ = None

-- the block that a yield shows: `default` where its row names none
abbrev pub yield_name : List json.Data → Option Text
yield_name [] = Some (codes "default")
yield_name (name ∷ []) = text_in name
yield_name _ = None

abbrev pub read_yield : List Text → List json.Data → Option Stmt
read_yield symbols (values ∷ names) = exprs_in (λ e. inner_in symbols e) values >>= λ es. (yield_name names >>= λ to. Some (yield (exprs_of es) to))
read_yield symbols _ = None

-- a statement that has no body
abbrev pub is_simple : List ℕ → Bool
is_simple word = bytes_eq word (codes "text") || bytes_eq word (codes "comment") || bytes_eq word (codes "put") || bytes_eq word (codes "leaf") || bytes_eq word (codes "yield")

abbrev pub read_simple : List Text → List ℕ → List json.Data → Option Stmt
read_simple symbols word fields =
    if bytes_eq word (codes "text") then read_text fields else
    (if bytes_eq word (codes "comment") then read_comment fields else
    (if bytes_eq word (codes "put") then read_put symbols fields else
    (if bytes_eq word (codes "leaf") then read_leaf symbols fields else read_yield symbols fields)))

abbrev pub read_element : List Text → List json.Data → Open → Option Stmt
read_element symbols (tag ∷ parts ∷ []) inside = text_in tag >>= λ t. (parts_in symbols parts >>= λ ps. Some (element t ps inside.0))
read_element symbols _ inside = None

-- the blocks of a component: `default` alone where its row has parameters, and else those that have rows
abbrev pub read_blocks : List Text → List json.Data → Open → Option Slots
read_blocks symbols [] inside = Some inside.2
read_blocks symbols (params ∷ []) inside = symbols_in symbols params >>= λ ns. Some (block (codes "default") ns inside.0 no_slots)
read_blocks symbols _ inside = None

abbrev pub read_component : List Text → List json.Data → Open → Option Stmt
read_component symbols (class ∷ parts ∷ args ∷ params) inside = text_in class >>= λ c. (parts_in symbols parts >>= λ ps. (arguments_in symbols args >>= λ es.
    (read_blocks symbols params inside >>= λ ss. Some (component_stmt c ps es ss))))
read_component symbols _ inside = None

abbrev pub read_if : List Text → Bool → List json.Data → Open → Option Stmt
read_if symbols unless (test ∷ []) inside = inner_in symbols test >>= λ e. Some (if_stmt e unless inside.0 inside.1)
read_if symbols unless _ inside = None

abbrev pub read_each : List Text → List json.Data → Open → Option Stmt
read_each symbols (list ∷ key ∷ params ∷ []) inside = inner_in symbols list >>= λ e. (text_in key >>= λ k. (symbols_in symbols params >>= λ ns. Some (each e k ns inside.0 inside.1)))
read_each symbols _ inside = None

abbrev pub read_let : List Text → List json.Data → Open → Option Stmt
read_let symbols (values ∷ params ∷ []) inside = exprs_in (λ e. inner_in symbols e) values >>= λ es. (symbols_in symbols params >>= λ ns. Some (let_stmt (exprs_of es) ns inside.0))
read_let symbols _ inside = None

-- a statement that has bodies
abbrev pub read_opening : List Text → List ℕ → List json.Data → Open → Option Stmt
read_opening symbols word fields inside =
    if bytes_eq word (codes "el") then read_element symbols fields inside else
    (if bytes_eq word (codes "comp") then read_component symbols fields inside else
    (if bytes_eq word (codes "if") then read_if symbols false fields inside else
    (if bytes_eq word (codes "unless") then read_if symbols true fields inside else
    (if bytes_eq word (codes "each") then read_each symbols fields inside else
    (if bytes_eq word (codes "let") then read_let symbols fields inside else None)))))

-- the state with a statement before the innermost body
abbrev pub with_stmt : Stmt → State → State
with_stmt s state = ((stmt s state.0.0, state.0.1, state.0.2), state.1)

-- a block, by its name, its parameters and its body
abbrev pub Block : Type 0
Block = Text × (List Text × Body)

-- the state with a block before those of the innermost body
abbrev pub with_block : Block → State → State
with_block b state = ((state.0.0, state.0.1, block b.0 b.1.0 b.1.1 state.0.2), state.1)

-- no more bodies are open than may be
abbrev pub add_end : State → Option State
add_end state = if nat_lt (length state.1) deepest_open then Some (closed, state.0 ∷ state.1) else None

abbrev pub add_else : State → State
add_else state = ((end, state.0.0, no_slots), state.1)

-- a statement takes the innermost body, and stands in the one round it
abbrev pub add_opening : List Text → List ℕ → List json.Data → State → Option State
add_opening symbols word fields (inside, []) = None
add_opening symbols word fields (inside, (outside ∷ more)) = read_opening symbols word fields inside >>= λ s. Some (with_stmt s (outside, more))

abbrev pub read_block : List Text → List json.Data → Open → Option Block
read_block symbols (name ∷ params ∷ []) inside = text_in name >>= λ n. (symbols_in symbols params >>= λ ns. Some (n, (ns, inside.0)))
read_block symbols _ inside = None

-- and so does a block
abbrev pub add_block : List Text → List json.Data → State → Option State
add_block symbols fields (inside, []) = None
add_block symbols fields (inside, (outside ∷ more)) = read_block symbols fields inside >>= λ b. Some (with_block b (outside, more))

-- the innermost body is taken, where another is round it
abbrev pub Closes : State → State → Option Open → Type 0
Closes old new None = old.1 ≡ []
Closes old new (Some inside) = old ≡ (inside, new.0 ∷ new.1)

abbrev pub add_word : List Text → List ℕ → List json.Data → State → Option State
add_word symbols word fields state =
    if bytes_eq word (codes "end") then add_end state else
    (if bytes_eq word (codes "else") then Some (add_else state) else
    (if bytes_eq word (codes "slot") then add_block symbols fields state else
    (if is_simple word then read_simple symbols word fields >>= (λ s. Some (with_stmt s state)) else add_opening symbols word fields state)))

-- the state with a row before it
abbrev pub add_row : List Text → json.Data → State → Option State
add_row symbols d state = list_in d >>= λ row. (word_in row >>= λ word. add_word symbols word (fields_in row) state)

abbrev pub read_rows : List Text → List json.Data → Option State
read_rows symbols [] = Some start
read_rows symbols (d ∷ ds) = read_rows symbols ds >>= λ state. add_row symbols d state

-- a template is read where no body is left open
abbrev pub whole_body : State → Option Body
whole_body (innermost, []) = Some innermost.0
whole_body (innermost, (o ∷ more)) = None

abbrev pub read_body : List Text → json.Data → Option Body
read_body symbols d = list_in d >>= λ ds. (read_rows symbols ds >>= λ state. whole_body state)

-- the tree that the JSON of a wire is read as
unfoldable pub tree_in : json.Data → Option Body
tree_in d = get (codes "symbols") d >>= λ s. (texts_in s >>= λ symbols. (get (codes "body") d >>= λ b. read_body symbols b))
