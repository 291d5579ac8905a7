-- The laws of the nodes of a page by look-ups.
use Rattle.std.specs.Prelude.{◌≡◌, ℕ, [], map, Option, Some, None}
use Rattle.gl_meaning.specs.App.{App}
use Rattle.gl_meaning.specs.Eval.{Store}
use Rattle.gl_meaning.specs.Known.{Among}
use Rattle.gl_meaning.specs.Path.{Path}
use Rattle.gl_meaning.specs.Render.{draw}
use Rattle.gl_meaning.specs.Session as session
use Rattle.gl_plain.specs.State.{State}
use Rattle.gl_plain.specs.Live.{Live}
use Rattle.gl_plain.specs.Machine.{StandsFor, OnlyTouched}
use Rattle.gl_plain.specs.Renew.{renew_app}
use Rattle.gl_machine.specs.Shape.{in_order, nest, placed_nest, forest_nest}
use Rattle.gl_machine.specs.UpdateLaws.{kept_content, drawn_content}
use Rattle.gl_follows.specs.Turns.{FollowsBy}
use Rattle.gl_children.specs.Children.{children, placed_children, drawn_children}

-- The children of a node of a tree have places in it.
abbrev pub ChildrenHavePlaces : Type 0
ChildrenHavePlaces = (l : Live) (o : Option ℕ) → map (λ x. x.1) (placed_children o l) ≡ children o (nest l)

-- Where a machine stands, the nodes at the top are those of the rendering, in order, with the same paths, and each is what it is there;
abbrev pub TopIsDrawn : Type 0
TopIsDrawn =
    (app : App) (τ : Store) (st : State) (l : Live) → StandsFor app τ τ st l
    → map (kept_content st.look) (placed_children None l) ≡ map drawn_content (drawn_children None (forest_nest (draw app τ)))

-- and so are the children of each node: those of the rendering in the node at its path.
abbrev pub ChildrenAreDrawn : Type 0
ChildrenAreDrawn =
    (app : App) (τ : Store) (st : State) (l : Live) → StandsFor app τ τ st l → (q : Path) (n : ℕ) → Among (q, n) (in_order (placed_nest [] l))
    → map (kept_content st.look) (placed_children (Some n) l) ≡ map drawn_content (drawn_children (Some q) (forest_nest (draw app τ)))

-- So it is after an update, of the rendering over the fields of now.
abbrev pub UpdatedChildren : Type 0
UpdatedChildren =
    (app : App) (σ τ : Store) (st : State) (l : Live) → StandsFor app σ τ st l → OnlyTouched app σ τ st → let r = renew_app app τ l st in
    (map (kept_content r.1.look) (placed_children None r.0) ≡ map drawn_content (drawn_children None (forest_nest (draw app τ))))
    × ((q : Path) (n : ℕ) → Among (q, n) (in_order (placed_nest [] r.0))
    → map (kept_content r.1.look) (placed_children (Some n) r.0) ≡ map drawn_content (drawn_children (Some q) (forest_nest (draw app τ))))

-- A machine by numbers that follows a state of a session has the children of its rendering: their paths are these, in order.
abbrev pub ChildrenBy : Type 0
ChildrenBy =
    (app : App) (s : session.State) (st : State) (l : Live) → FollowsBy app s st l
    → (map (λ x. x.0) (placed_children None l) ≡ map (λ x. x.0) (drawn_children None (forest_nest (draw app s.store))))
    × ((q : Path) (n : ℕ) → Among (q, n) (in_order (placed_nest [] l)) → map (λ x. x.0) (placed_children (Some n) l) ≡ map (λ x. x.0) (drawn_children (Some q) (forest_nest (draw app s.store))))
