-- What is rendered, from the templates and the cells.
use Rattle.std.specs.Prelude.{ℕ, zero, suc, List, [], ◌∷◌, ◌++◌, map, filter, Bool, true, false, ◌&&◌, ◌||◌, if◌then◌else◌, Option, Some, None}
use Rattle.std.specs.Str.{bytes_eq}
use Rattle.gl_base.specs.Texts.{Text}
use Rattle.gl_value.specs.Value.{list, Values, no_values, value, text_of, same, key_of, count_value}
use Rattle.gl_ast.specs.Template.{Plain, Stmt, text_stmt, comment_stmt, put, element, component_stmt, if_stmt, each, let_stmt, yield, Body, end, stmt, Slots, no_slots, block}
use Rattle.gl_meaning.specs.App.{App}
use Rattle.gl_meaning.specs.Path.{at, main, otherwise, items, item, into, slot, empty, attribute_at, Path, V, no_owners}
use Rattle.gl_meaning.specs.Scope.{item_value, item_index, Pair, NamedPairs, Scope, scope, Passed, nothing_passed, passed, with_locals, bind}
use Rattle.gl_meaning.specs.Eval.{Store, takes_first, class_at, eval, eval_all, eval_given}
use Rattle.gl_meaning.specs.Parts.{Attrs, Modifier, Written, written_parts, WrittenValue, attributes_in, distinct_names, taken_values, some_live, attrs_from, modifiers_in, taken_pairs, modifiers_of}

-- Pieces

-- A rendering is a forest of pieces. Each has its path.
mutual
  pub data Piece : Type 0 where
    -- the nodes, which are printed: an element has its tag, attributes, modifiers and children
    element_node : Path → Text → Attrs → List Modifier → Forest → Piece
    text_node : Path → Text → Piece
    comment_node : Path → Text → Piece
    -- the regions, which are no nodes: the body of a component (with the scope of its template), what `if`, `unless` or `each`
    -- renders, and an item of an `each` (with its value and index)
    component : Path → Scope → Forest → Piece
    branch : Path → Forest → Piece
    item_region : Path → V → ℕ → Forest → Piece
    -- a position, which says what was read there: a text mustache, an attribute that takes a live value, a condition, an `each`
    -- list or a modifier's arguments, with the Pair of each of its expressions
    position : Path → List Pair → Piece
    -- a component that would stand deeper than the limit
    too_deep : Path → Piece

  pub data Forest : Type 0 where
    no_pieces : Forest
    piece : Piece → Forest → Forest

abbrev pub single : Piece → Forest
single p = piece p no_pieces

abbrev pub join : Forest → Forest → Forest
join no_pieces g = g
join (piece p f) g = piece p (join f g)

abbrev pub forest_of : List Piece → Forest
forest_of [] = no_pieces
forest_of (p ∷ ps) = piece p (forest_of ps)

-- whether a node is or stands in it
abbrev mutual
  pub is_node : Piece → Bool
  is_node (element_node p t a m f) = true
  is_node (text_node p t) = true
  is_node (comment_node p t) = true
  is_node (component p s f) = has_node f
  is_node (branch p f) = has_node f
  is_node (item_region p v i f) = has_node f
  is_node (position p v) = false
  is_node (too_deep p) = false

  pub has_node : Forest → Bool
  has_node no_pieces = false
  has_node (piece p f) = is_node p || has_node f

-- A branch or an item that renders no node leaves one comment with an empty text.
abbrev pub or_comment : Path → Forest → Forest
or_comment p f = join f (if has_node f then no_pieces else single (comment_node (empty ∷ p) []))

-- Statements, from what is in them

-- A text mustache is one text node, also where its text is empty.
abbrev pub put_of : Path → Pair → Forest
put_of p v = piece (position p (v ∷ [])) (single (text_node p (text_of v.value)))

-- An attribute is a position where it takes a live value.
abbrev pub attr_positions : Path → List (WrittenValue Scope) → (Text → List Pair) → List Piece
attr_positions p ws pairs =
    map (λ n. position (attribute_at n ∷ p) (pairs n))
    (filter (λ n. some_live (taken_values n ws)) (distinct_names ws))

-- A modifier's arguments are one position, also where there are none: the positional ones, then the named ones.
abbrev pub modifier_positions : List Modifier → List Piece
modifier_positions ms = map (λ m. position m.path (m.args ++ map (λ n. n.1) m.names)) ms

-- An element: its positions, and the node with what is in it.
abbrev pub element_from : Path → Text → List (WrittenValue Scope) → (Text → List Pair) → List Modifier → Forest → Forest
element_from p tag ws pairs ms f =
    join (forest_of (attr_positions p ws pairs ++ modifier_positions ms))
    (single (element_node p tag (attrs_from ws pairs) ms f))

abbrev pub element_of : App → Store → Path → Text → List (Written Scope) → Forest → Forest
element_of app store p tag ws f =
    element_from p tag (attributes_in ws) (taken_pairs app store (attributes_in ws)) (modifiers_of app store p 0 (modifiers_in ws)) f

abbrev pub region_at : Path → Forest → Forest
region_at p f = single (branch p (or_comment p f))

-- `if` and `unless`: the condition is a position, and one of the bodies is rendered.
abbrev pub if_of : Path → Bool → Pair → Forest → Forest → Forest
if_of p unless v f other =
    piece (position p (v ∷ []))
    (if takes_first unless v.value then region_at (main ∷ p) f else region_at (otherwise ∷ p) other)

-- Items

-- an item of an `each`, with its key and its occurrence: how many items before it have an equal key
pub record Entry : Type 0 where
  pub key : Plain
  pub occurrence : ℕ
  pub value : V
  pub index : ℕ

abbrev pub occurrences : Plain → List Plain → ℕ
occurrences k [] = 0
occurrences k (l ∷ ls) = if same no_owners k l then suc (occurrences k ls) else occurrences k ls

-- the items of a list, where the first has the index i and the keys of those before it are given
abbrev pub entries : Text → ℕ → List Plain → Values Path → List Entry
entries k i before no_values = []
entries k i before (value v vs) =
    record { key = key_of k i v; occurrence = occurrences (key_of k i v) before; value = v; index = i }
    ∷ entries k (suc i) (key_of k i v ∷ before) vs

-- What an item's two parameters stand for: its value and its index, each with itself as the one source.
abbrev pub entry_pairs : Path → Entry → List Pair
entry_pairs q e =
    record { value = e.value; sources = item_value q ∷ [] }
    ∷ record { value = count_value e.index; sources = item_index q ∷ [] }
    ∷ []

-- each item's region, where `one` renders the body for an item at its path
abbrev pub render_entries : (Path → Entry → Forest) → Path → List Entry → Forest
render_entries one p [] = no_pieces
render_entries one p (e ∷ es) =
    let q = item e.key e.occurrence ∷ p in
    piece (item_region q e.value e.index (or_comment q (one q e))) (render_entries one p es)

abbrev pub values_listed : V → Values Path
values_listed (list vs) = vs
values_listed _ = no_values

-- An empty list, and anything that isn't a list, renders the `else` body.
abbrev pub items_or_else : Path → Values Path → (Values Path → Forest) → Forest → Forest
items_or_else p no_values f other = region_at (otherwise ∷ p) other
items_or_else p (value v vs) f other = single (branch (items ∷ p) (f (value v vs)))

-- `each`: the list is a position.
abbrev pub each_of : Path → Pair → (Values Path → Forest) → Forest → Forest
each_of p v f other = piece (position p (v ∷ [])) (items_or_else p (values_listed v.value) f other)

-- Templates
--
-- Three recursions, each over a structure of its own: the statements of a template, the chain of the scopes that wrote the blocks,
-- and the nesting of components. Each is given the one that is below it as a function.

-- how a component is rendered at its instance's path, with its arguments and with what is passed to it
abbrev pub Components : Type 0
Components = Path → NamedPairs → Passed → Forest

-- how the passed block of a name is rendered at the path of its `yield`, with the values yielded
abbrev pub Yields : Type 0
Yields = Text → List Pair → Path → Forest

-- Recursion over the statements. The path of a body is that of what it is the body of; i counts its statements.
module _ (app : App) (store : Store) (components : Components) (yields : Yields) where
  abbrev mutual
    pub render_stmt : Scope → Path → Stmt → Forest
    render_stmt s p (text_stmt t) = single (text_node p t)
    render_stmt s p (comment_stmt t) = single (comment_node p t)
    render_stmt s p (put e) = put_of p (eval app store s e)
    render_stmt s p (element tag ps b) = element_of app store p tag (written_parts s ps) (render_body s p 0 b)
    render_stmt s p (component_stmt c ps given bs) = components (into c ∷ p) (eval_given app store s given) (passed ps bs s)
    render_stmt s p (if_stmt e unless b c) =
        if_of p unless (eval app store s e) (render_body s (main ∷ p) 0 b) (render_body s (otherwise ∷ p) 0 c)
    render_stmt s p (each e k ns b c) =
        each_of p (eval app store s e)
        (λ vs. render_entries (λ q x. render_body (with_locals (bind ns (entry_pairs q x)) s) q 0 b) (items ∷ p) (entries k 0 [] vs))
        (render_body s (otherwise ∷ p) 0 c)
    render_stmt s p (let_stmt es ns b) = render_body (with_locals (bind ns (eval_all app store s es)) s) (main ∷ p) 0 b
    render_stmt s p (yield es n) = yields n (eval_all app store s es) p

    pub render_body : Scope → Path → ℕ → Body → Forest
    render_body s p i end = no_pieces
    render_body s p i (stmt t b) = join (render_stmt s (at i ∷ p) t) (render_body s p (suc i) b)

pub record Block : Type 0 where
  pub params : List Text
  pub body : Body

abbrev pub block_named : Text → Slots → Option Block
block_named n no_slots = None
block_named n (block m ns b bs) = if bytes_eq n m then Some (record { params = ns; body = b }) else block_named n bs

abbrev pub in_block : Option Block → (Block → Forest) → Forest
in_block None f = no_pieces
in_block (Some b) f = f b

-- A passed block is rendered in the scope that wrote it, with its parameters; where none of that name was passed, nothing is.
-- A `yield` in the block yields to what was passed to the scope that wrote it: recursion over the chain of these scopes.
abbrev pub yields_of : App → Store → Components → Passed → Yields
yields_of app store components nothing_passed n vs p = no_pieces
yields_of app store components (passed ps bs (scope t a l w)) n vs p =
    in_block (block_named n bs)
    (λ b. render_body app store components (yields_of app store components w) (scope t a (l ++ bind b.params vs) w) (slot n ∷ p) 0 b.body)

-- A component, with n levels of nesting left: its class's template, without an element round it. Recursion over the nesting.
abbrev pub components_at : ℕ → App → Store → Components
components_at zero app store q given w = single (too_deep q)
components_at (suc n) app store q given w =
    let s = scope q given [] w in
    let inner = components_at n app store in
    single (component q s (render_body app store inner (yields_of app store inner w) s q 0 (class_at app q).template))

-- The whole app. The root is an instance with the empty path; nothing is passed to it, and it counts as one level of nesting.
abbrev pub draw : App → Store → Forest
draw app store = components_at app.limit app store [] [] nothing_passed

-- whether no component would stand too deep
abbrev mutual
  pub piece_fits : Piece → Bool
  piece_fits (element_node p t a m f) = fits f
  piece_fits (component p s f) = fits f
  piece_fits (branch p f) = fits f
  piece_fits (item_region p v i f) = fits f
  piece_fits (too_deep p) = false
  piece_fits _ = true

  pub fits : Forest → Bool
  fits no_pieces = true
  fits (piece p f) = piece_fits p && fits f

-- The rendering; there is none exactly where a component would nest deeper than the app's limit.
abbrev pub render : App → Store → Option Forest
render app store = if fits (draw app store) then Some (draw app store) else None
