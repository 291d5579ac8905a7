-- The text of a turn.
use Rattle.std.specs.Prelude.{ℕ, suc, List, [], ◌∷◌, ◌++◌, map, filter, flat_map, Bool, ◌&&◌, if◌then◌else◌, Option, Some, None, unwrap_or, codes, decimal}
use Rattle.gl_base.specs.Texts.{Text}
use Rattle.gl_value.specs.Value.{text_of}
use Rattle.gl_value.specs.Quote.{quoted}
use Rattle.gl_meaning.specs.App.{App, Event, set_event, fire, batch, Events, no_events, event}
use Rattle.gl_meaning.specs.Path.{Path, at_path}
use Rattle.gl_meaning.specs.Eval.{class_at}
use Rattle.gl_meaning.specs.Parts.{Modifier}
use Rattle.gl_meaning.specs.Signs.{line_feed, blank, number_sign, equals}
use Rattle.gl_meaning.specs.Render.{Piece, element_node, text_node, comment_node, component, branch, item_region, Forest, no_pieces, piece}
use Rattle.gl_meaning.specs.Changes.{instances, modifiers, is_new, is_gone, Numbers, Sets, stale}

-- each line is ended by a line feed
abbrev pub line : Text → Text
line t = t ++ line_feed ∷ []

-- Head

abbrev pub events_count : Events → ℕ
events_count no_events = 0
events_count (event e es) = suc (events_count es)

abbrev pub event_text : Event → Text
event_text (set_event x v) = codes "set " ++ x
event_text (fire n name v) = codes "fire #" ++ (decimal n ++ blank ∷ quoted name)
event_text (batch es) = codes "batch " ++ decimal (events_count es)

abbrev pub cause_text : Option Event → Text
cause_text None = codes "start"
cause_text (Some e) = event_text e

-- the number of the turn, and its event
abbrev pub head_line : ℕ → Option Event → Text
head_line k e = line (codes "= " ++ (decimal k ++ blank ∷ cause_text e))

-- a line for each event that was fired where there was no such node or no such listener
abbrev pub missing_lines : List ℕ → Text
missing_lines ns = flat_map (λ n. line (codes "no node " ++ decimal n)) ns

-- Tree

-- `#` and the number of the node at a path
abbrev pub number_text : Path → Numbers → Text
number_text p numbers = number_sign ∷ decimal (unwrap_or (at_path p numbers.of) 0)

-- an attribute that is left out isn't printed
abbrev pub attr_text : Text × Option Text → Text
attr_text (n, None) = []
attr_text (n, Some v) = blank ∷ (n ++ equals ∷ quoted v)

-- A line for each node, an element before its children, with two blanks of indentation per depth.
module _ (numbers : Numbers) where
  abbrev mutual
    pub piece_lines : Text → Piece → Text
    piece_lines indent (element_node p t a m f) =
        line (indent ++ (number_text p numbers ++ (codes " <" ++ (t ++ (flat_map attr_text a ++ codes ">")))))
        ++ tree_lines (blank ∷ blank ∷ indent) f
    piece_lines indent (text_node p t) = line (indent ++ (number_text p numbers ++ blank ∷ quoted t))
    piece_lines indent (comment_node p t) = line (indent ++ (number_text p numbers ++ (codes " !" ++ quoted t)))
    piece_lines indent (component p s f) = tree_lines indent f
    piece_lines indent (branch p f) = tree_lines indent f
    piece_lines indent (item_region p v i f) = tree_lines indent f
    piece_lines indent _ = []

    pub tree_lines : Text → Forest → Text
    tree_lines indent no_pieces = []
    tree_lines indent (piece p f) = piece_lines indent p ++ tree_lines indent f

-- Log

-- the pieces, children before their parents
abbrev mutual
  pub last_in : Piece → List Piece
  last_in (element_node p t a m f) = children_first f ++ element_node p t a m f ∷ []
  last_in (component p s f) = children_first f ++ component p s f ∷ []
  last_in (branch p f) = children_first f
  last_in (item_region p v i f) = children_first f
  last_in p = p ∷ []

  pub children_first : Forest → List Piece
  children_first no_pieces = []
  children_first (piece p f) = last_in p ++ children_first f

-- a blank and the quoted text for each positional argument, then a blank, the name, `=` and the quoted text for each named one
abbrev pub modifier_values : Modifier → Text
modifier_values m =
    flat_map (λ p. blank ∷ quoted (text_of p.value)) m.args
    ++ flat_map (λ n. blank ∷ (n.0 ++ equals ∷ quoted (text_of n.1.value))) m.names

-- the lines of the modifiers on a piece that pass the test, in their order
abbrev pub modifier_lines : (Modifier → Bool) → (Path → Modifier → Text) → Piece → Text
modifier_lines test write (element_node p t a ms f) = flat_map (λ m. line (write p m)) (filter test ms)
modifier_lines test write _ = []

-- an instance that doesn't persist and whose class has teardown
abbrev pub destroyed_instance : App → Forest → Piece → Text
destroyed_instance app new (component p s f) =
    if (class_at app p).teardown && is_gone p (instances new) then line (codes "destroy " ++ (class_at app p).name) else []
destroyed_instance app new _ = []

abbrev pub modifier_paths : Forest → List Path
modifier_paths f = map (λ m. m.path) (modifiers f)

module _ (app : App) (old new : Forest) (sets : Sets) (before after : Numbers) where
  -- modifiers and instances of the old rendering that don't persist, with the numbers from before the turn
  abbrev pub destroy_lines : Piece → Text
  destroy_lines q =
      modifier_lines (λ m. is_gone m.path (modifier_paths new)) (λ p m. codes "destroy " ++ (number_text p before ++ blank ∷ m.name)) q
      ++ destroyed_instance app new q

  -- modifiers that are new
  abbrev pub install_lines : Piece → Text
  install_lines =
      modifier_lines (λ m. is_new m.path (modifier_paths old))
      (λ p m. codes "install " ++ (number_text p after ++ blank ∷ (m.name ++ modifier_values m)))

  -- modifiers that are stale
  abbrev pub update_lines : Piece → Text
  update_lines =
      modifier_lines (λ m. stale old new sets m.path)
      (λ p m. codes "update " ++ (number_text p after ++ blank ∷ (m.name ++ modifier_values m)))

  -- The three groups, the first by a walk of the old rendering and the others by one of the new, each children first.
  abbrev pub log : Text
  log = flat_map destroy_lines (children_first old) ++ (flat_map install_lines (children_first new) ++ flat_map update_lines (children_first new))
