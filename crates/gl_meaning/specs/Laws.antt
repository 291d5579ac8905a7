-- The laws of the definitions, each with the words that it needs. `src/laws.rt` proves each.
use Rattle.std.specs.Prelude.{◌≡◌, ◌≤◌, ◌<◌, ◌⊎◌, ℕ, List, [], ◌∷◌, ◌++◌, map, false, Option, Some, None}
use Rattle.gl_base.specs.Texts.{Text}
use Rattle.gl_value.specs.Value.{list, pairs, action, Values, no_values, value, Members, no_members, member}
use Rattle.gl_ast.specs.Template.{Expr, this}
use Rattle.gl_meaning.specs.App.{App, Event}
use Rattle.gl_meaning.specs.Path.{Path, V, at_path}
use Rattle.gl_meaning.specs.Scope.{Source, cell, item_value, item_index, Pair, NamedPairs, Scope, this_of, arguments_of, own_scope}
use Rattle.gl_meaning.specs.Eval.{class_at, Held, Store, getter_member, member_of, with_properties, eval}
use Rattle.gl_meaning.specs.Render.{Piece, element_node, text_node, comment_node, component, branch, item_region, position, Forest, no_pieces, piece, draw, render}
use Rattle.gl_meaning.specs.Changes.{piece_path, nodes, instances, regions, Position, positions, rendered_items, modifiers, settle, Numbers, number, Sets, touched, stale}
use Rattle.gl_meaning.specs.Print.{modifier_paths}
use Rattle.gl_meaning.specs.Parts.{Modifier}
use Rattle.gl_meaning.specs.Actions.{lay, owner_nesting, run_at, run}
use Rattle.gl_meaning.specs.Session.{State, first_state, Turn, applied, step, session}
use Rattle.gl_meaning.specs.Known.{Among, HasNoCycle}

-- Lists

-- nothing stands in the list twice
abbrev pub NoRepeat : {A : Type 0} → List A → Type 0
NoRepeat [] = Unit {0}
NoRepeat (x ∷ xs) = (Among x xs → ⊥) × NoRepeat xs

-- x stands in the list before y
abbrev pub Before : {A : Type 0} → A → A → List A → Type 0
Before x y [] = ⊥
Before x y (z ∷ zs) = ((x ≡ z) × Among y zs) ⊎ Before x y zs

-- Pieces

-- the piece x stands in a forest
abbrev mutual
  pub InPiece : Piece → Piece → Type 0
  InPiece x (element_node p t a m f) = (x ≡ element_node p t a m f) ⊎ In x f
  InPiece x (component p s f) = (x ≡ component p s f) ⊎ In x f
  InPiece x (branch p f) = (x ≡ branch p f) ⊎ In x f
  InPiece x (item_region p v i f) = (x ≡ item_region p v i f) ⊎ In x f
  InPiece x q = x ≡ q

  pub In : Piece → Forest → Type 0
  In x no_pieces = ⊥
  In x (piece q f) = InPiece x q ⊎ In x f

-- Paths

-- the place j is i, or stands below i
abbrev pub Within : Path → Path → Type 0
Within i [] = i ≡ []
Within i (k ∷ j) = (i ≡ k ∷ j) ⊎ Within i j

-- the place k stands above i
abbrev pub IsAbove : Path → Path → Type 0
IsAbove k [] = ⊥
IsAbove k (l ∷ i) = Within k i

-- Owners and sources

-- where a source stands: the instance of the cell, or the item
abbrev pub source_path : Source → Path
source_path (cell i x) = i
source_path (item_value i) = i
source_path (item_index i) = i

-- For a property of paths.
module _ (P : Path → Type 0) where
  -- each owner of an action in a value has the property
  abbrev mutual
    pub Owners : V → Type 0
    Owners (list vs) = OwnersAll vs
    Owners (pairs ms) = OwnersMembers ms
    Owners (action o n vs) = P o × OwnersAll vs
    Owners _ = Unit {0}

    pub OwnersAll : Values Path → Type 0
    OwnersAll no_values = Unit {0}
    OwnersAll (value x vs) = Owners x × OwnersAll vs

    pub OwnersMembers : Members Path → Type 0
    OwnersMembers no_members = Unit {0}
    OwnersMembers (member n x ms) = Owners x × OwnersMembers ms

  -- each source has it
  abbrev pub Sources : List Source → Type 0
  Sources [] = Unit {0}
  Sources (x ∷ xs) = P (source_path x) × Sources xs

  -- each source that was read for a value has it, and each owner of an action in the value
  abbrev pub PairIn : Pair → Type 0
  PairIn x = Sources x.sources × Owners x.value

  abbrev pub PairsIn : List Pair → Type 0
  PairsIn [] = Unit {0}
  PairsIn (x ∷ xs) = PairIn x × PairsIn xs

  abbrev pub NamesIn : NamedPairs → Type 0
  NamesIn [] = Unit {0}
  NamesIn (x ∷ xs) = PairIn x.1 × NamesIn xs

  -- each owner of an action in what the cells hold has it
  abbrev pub HeldIn : List Held → Type 0
  HeldIn [] = Unit {0}
  HeldIn (x ∷ xs) = Owners x.value × HeldIn xs

-- the property that no path has
abbrev pub NoPath : Path → Type 0
NoPath i = ⊥

-- no value that the cells hold has an action in it
abbrev pub HoldsNoAction : List Held → Type 0
HoldsNoAction cells = HeldIn NoPath cells

abbrev pub AtOrAbove : Path → Path → Type 0
AtOrAbove i k = Within k i

abbrev pub AboveOf : Path → Path → Type 0
AboveOf i k = IsAbove k i

-- What a position read, and the owners in what it read, stand at or above it. What was read for an argument of an instance, and
-- the owners in it, stand above the instance.
abbrev pub ReadsAbove : Piece → Type 0
ReadsAbove (position i ps) = PairsIn (AtOrAbove i) ps
ReadsAbove (component i s f) = NamesIn (AboveOf i) (arguments_of s)
ReadsAbove _ = Unit {0}

abbrev pub AllReadAbove : Forest → Type 0
AllReadAbove f = (x : Piece) → In x f → ReadsAbove x

-- Kinds of nodes

pub data NodeKind : Type 0 where
  an_element : Text → NodeKind
  a_text : NodeKind
  a_comment : NodeKind

-- what kind of node a piece is; an element with its tag
abbrev pub node_kind : Piece → Option NodeKind
node_kind (element_node p t a m f) = Some (an_element t)
node_kind (text_node p t) = Some a_text
node_kind (comment_node p t) = Some a_comment
node_kind _ = None

-- What is kept

-- For a property of sources, as that of not being touched.
module _ (U : Source → Type 0) where
  -- each source has the property
  abbrev pub Untouched : List Source → Type 0
  Untouched [] = Unit {0}
  Untouched (x ∷ xs) = U x × Untouched xs

  -- where each source of the one has it, both are the same
  abbrev pub Keeps : Pair → Pair → Type 0
  Keeps v w = Untouched v.sources → v ≡ w

  -- as many of both, of which each keeps the other
  pub data KeepsAll : List Pair → List Pair → Type 0 where
    keeps_none : KeepsAll [] []
    keeps_more : {v w : Pair} {vs ws : List Pair} → Keeps v w → KeepsAll vs ws → KeepsAll (v ∷ vs) (w ∷ ws)

-- an event didn't touch the source
abbrev pub IsUntouched : Forest → Forest → Sets → Source → Type 0
IsUntouched old new sets x = touched old new sets x ≡ false

-- Numbers

-- each number is below the next one, and two paths of one number are one path
abbrev pub ValidNumbers : Numbers → Type 0
ValidNumbers ns =
    ((i : Path) (n : ℕ) → at_path i ns.of ≡ Some n → n < ns.next)
    × ((i j : Path) (n : ℕ) → at_path i ns.of ≡ Some n → at_path j ns.of ≡ Some n → i ≡ j)

-- States

-- The states after the turns of a session: after turn 0, and after each further turn.
pub data Reached (app : App) : State → Type 0 where
  started : {t : Turn} → step app first_state None ≡ Some t → Reached app t.state
  stepped : {s : State} {t : Turn} (e : Event) → Reached app s → step app s (Some e) ≡ Some t → Reached app t.state

-- The laws

-- Rendering

-- What is rendered from the settled store is the same rendering.
abbrev pub SettledIsRendered : Type 0
SettledIsRendered = (app : App) (store : Store) → render app (settle app store (draw app store)) ≡ render app store

-- To settle the settled store changes nothing.
abbrev pub SettledIsSettled : Type 0
SettledIsSettled = (app : App) (store : Store) → let f = draw app store in settle app (settle app store f) f ≡ settle app store f

-- Where no getter reaches itself, a getter is the value of its expression, with the same `this` and the same arguments, without
-- block parameters.
abbrev pub GetterIsItsExpression : Type 0
GetterIsItsExpression =
    (app : App) (store : Store) (s : Scope) (g : Text) (ks : List Text) (e : Expr)
    → HasNoCycle app → member_of (class_at app (this_of s)) g ≡ getter_member e
    → eval app store s (this g ks) ≡ with_properties ks (eval app store (own_scope s) e)

-- In one rendering the path of a node stands once, and so does that of a position, of a region, of an instance and of an item.
abbrev pub NodesStandOnce : Type 0
NodesStandOnce = (app : App) (store : Store) → NoRepeat (nodes (draw app store))

abbrev pub PositionsStandOnce : Type 0
PositionsStandOnce = (app : App) (store : Store) → NoRepeat (map (λ q. q.path) (positions (draw app store)))

abbrev pub RegionsStandOnce : Type 0
RegionsStandOnce = (app : App) (store : Store) → NoRepeat (regions (draw app store))

abbrev pub InstancesStandOnce : Type 0
InstancesStandOnce = (app : App) (store : Store) → NoRepeat (instances (draw app store))

abbrev pub ItemsStandOnce : Type 0
ItemsStandOnce = (app : App) (store : Store) → NoRepeat (map (λ i. i.path) (rendered_items (draw app store)))

-- The path of a modifier stands once too, and is that of the position which has its arguments.
abbrev pub ModifiersStandOnce : Type 0
ModifiersStandOnce = (app : App) (store : Store) → NoRepeat (modifier_paths (draw app store))

abbrev pub ModifierIsPosition : Type 0
ModifierIsPosition =
    (app : App) (store : Store) (m : Modifier)
    → Among m (modifiers (draw app store))
    → Among (record { path = m.path; pairs = m.args ++ map (λ n. n.1) m.names }) (positions (draw app store))

-- What a position read, and each owner of an action in it, stands at or above the position; what was read for an instance's
-- argument, and each owner in it, above the instance.
abbrev pub SourcesStandAbove : Type 0
SourcesStandAbove = (app : App) (store : Store) → HoldsNoAction store → AllReadAbove (draw app store)

-- Two renderings

-- At a path that is in both renderings of an app stands the same kind of node, and an element of the same tag.
abbrev pub KindIsKept : Type 0
KindIsKept =
    (app : App) (store later : Store) (x y : Piece) (k l : NodeKind)
    → In x (draw app store) → In y (draw app later) → piece_path x ≡ piece_path y
    → node_kind x ≡ Some k → node_kind y ≡ Some l → k ≡ l

-- A position that is in the renderings before and after some sets has as many Pairs in both, and each of which no source is
-- touched is the same in both.
abbrev pub UntouchedIsKept : Type 0
UntouchedIsKept =
    (app : App) (store : Store) (sets : Sets) → let old = draw app store in let new = draw app (lay sets store) in
    (q r : Position) → Among q (positions old) → Among r (positions new) → q.path ≡ r.path
    → KeepsAll (IsUntouched old new sets) q.pairs r.pairs

-- A position that persists and isn't stale reads what it read before.
abbrev pub OnlyStaleChanges : Type 0
OnlyStaleChanges =
    (app : App) (store : Store) (sets : Sets) → let old = draw app store in let new = draw app (lay sets store) in
    (q r : Position) → Among q (positions old) → Among r (positions new) → q.path ≡ r.path → stale old new sets q.path ≡ false
    → q.pairs ≡ r.pairs

-- Actions

-- What an action calls ends: with as many levels of calls as the nesting of its owner, or more, it sets the same.
abbrev pub CallsEnd : Type 0
CallsEnd =
    (app : App) (store rendered : Store) → HoldsNoAction rendered → (v : V) (given : List V) (sofar : Sets) (n : ℕ) → owner_nesting v ≤ n
    → run_at n app store (draw app rendered) v given sofar ≡ run app store (draw app rendered) v given sofar

-- Numbers

-- A node that has a number keeps it.
abbrev pub NumberIsKept : Type 0
NumberIsKept =
    (ns : Numbers) (f : Forest) (i : Path) (n : ℕ)
    → Among i (nodes f) → at_path i ns.of ≡ Some n → at_path i (number ns f).of ≡ Some n

-- Each other node gets a number from `next` on. No other path has a number.
abbrev pub OthersAreNumbered : Type 0
OthersAreNumbered =
    (ns : Numbers) (f : Forest) (i : Path)
    → Among i (nodes f) → at_path i ns.of ≡ None
    → (n : ℕ) × (ns.next ≤ n) × (at_path i (number ns f).of ≡ Some n)

abbrev pub NodesAloneAreNumbered : Type 0
NodesAloneAreNumbered = (ns : Numbers) (f : Forest) (i : Path) (n : ℕ) → at_path i (number ns f).of ≡ Some n → Among i (nodes f)

-- Numbers stay below the next one, and different for different paths.
abbrev pub NumbersStayValid : Type 0
NumbersStayValid = (ns : Numbers) (f : Forest) → ValidNumbers ns → ValidNumbers (number ns f)

-- Sessions

-- The state after each turn of a session is reached.
abbrev pub TurnsAreReached : Type 0
TurnsAreReached = (app : App) (es : List Event) (t : Turn) → Among t (session app es).turns → Reached app t.state

-- After each turn the rendering is that of the cells as they then stand.
abbrev pub StateIsRendered : Type 0
StateIsRendered = (app : App) (s : State) → Reached app s → render app s.store ≡ Some s.rendering

-- After each turn the store is the settled one.
abbrev pub StateIsSettled : Type 0
StateIsSettled = (app : App) (s : State) → Reached app s → settle app s.store s.rendering ≡ s.store

-- After each turn no cell holds an action.
abbrev pub StateHoldsNoAction : Type 0
StateHoldsNoAction = (app : App) (s : State) → Reached app s → HoldsNoAction s.store

-- After each turn what was read stands above its reader.
abbrev pub StateReadsAbove : Type 0
StateReadsAbove = (app : App) (s : State) → Reached app s → AllReadAbove s.rendering

-- After each turn the numbers are different for different nodes, and below the next one.
abbrev pub StateNumbersAreValid : Type 0
StateNumbersAreValid = (app : App) (s : State) → Reached app s → ValidNumbers s.numbers

-- A number never comes again for another path.
abbrev pub NumbersNeverComeAgain : Type 0
NumbersNeverComeAgain =
    (app : App) (es : List Event) (t u : Turn) → Before t u (session app es).turns
    → (i j : Path) (n : ℕ) → at_path i t.state.numbers.of ≡ Some n → at_path j u.state.numbers.of ≡ Some n → i ≡ j

-- In each turn after the first, a position that persists and isn't stale reads what it read before.
abbrev pub TurnChangesOnlyStale : Type 0
TurnChangesOnlyStale =
    (app : App) (s : State) (e : Event) (t : Turn) → Reached app s → step app s (Some e) ≡ Some t
    → (q r : Position) → Among q (positions s.rendering) → Among r (positions t.state.rendering) → q.path ≡ r.path
    → stale s.rendering t.state.rendering (applied app s (Some e)).sets q.path ≡ false
    → q.pairs ≡ r.pairs
