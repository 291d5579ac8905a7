-- Worked turns: how many questions an update asks, beside what the meaning says.
use Rattle.std.proofs.Common.{◌≡◌, ℕ, List, [], ◌∷◌, true, refl}
use Rattle.std.specs.Prelude.{pos, codes, false}
use Rattle.gl_value.specs.Value.{boolean, integer, text}
use Rattle.gl_ast.specs.Template.{this, literal, put, element, if_stmt, end, stmt}
use Rattle.gl_meaning.specs.App.{App}
use Rattle.gl_meaning.specs.Path.{has_path, V}
use Rattle.gl_meaning.specs.Scope.{cell}
use Rattle.gl_meaning.specs.Eval.{Store}
use Rattle.gl_meaning.specs.Render.{draw}
use Rattle.gl_meaning.specs.Work.{asked}
use Rattle.gl_plain.specs.Ids.{hit}
use Rattle.gl_plain.specs.State.{State, touch}
use Rattle.gl_plain.specs.Live.{Live}
use Rattle.gl_plain.specs.Grow.{grow_app}
use Rattle.gl_plain.specs.Renew.{renew_app}
use Rattle.gl_plain.specs.Stands.{top}
use Rattle.gl_plain.specs.Turns.{blank, begin}
use Rattle.gl_plain.proofs.Cases.{branch_app, list_app, list_now, component_app}
use Rattle.gl_kept.specs.Asked.{regions_of, asks}

-- The first turn of an app, and one more in which a field of the root, of which the cell has the number r, is set.
module _ (app : App) (r : ℕ) (f : List ℕ) (v : V) where
  abbrev first : Live × State
  first = grow_app app [] blank

  abbrev store : Store
  store = record { instance = []; field = f; value = v } ∷ []

  abbrev set : State
  set = touch r (cell [] f) v (begin first.1)

  abbrev second : Live × State
  second = renew_app app store first.0 set

  -- what the update asks, and what the meaning says
  abbrev questions : ℕ × ℕ
  questions = (asks set.look second.1.touched (λ q. has_path q (regions_of [] second.0)) [] first.0, asked (draw app []) (draw app store) store)

-- A branch that flips: the guard of the whole, the condition, and the branch's guard. What goes is not entered.
branch : questions branch_app 1 (codes "on") (boolean false) ≡ (3, 3)
unfolding branch_app hit top
branch = refl

-- A text in a branch that stays: the guard of the whole, the condition, the branch's guard, and the text.
inside : questions branch_app 0 (codes "n") (text (codes "y")) ≡ (4, 4)
unfolding branch_app hit top
inside = refl

-- A keyed list that moves: the guard of the whole, the list, and the guard of its items. No item reads what is touched.
moves : questions list_app 0 (codes "xs") list_now ≡ (3, 3)
unfolding list_app hit top
moves = refl

-- A component with a yielded block and a modifier: the guard of the whole and that of the component, the text and the modifier.
component : questions component_app 0 (codes "n") (integer (pos 2)) ≡ (4, 4)
unfolding component_app hit top
component = refl

-- Nothing is set: the guard of the whole.
quiet : (let st = begin (first branch_app 0 [] (boolean false)).1 in asks st.look st.touched (λ q. true) [] (first branch_app 0 [] (boolean false)).0) ≡ 1
unfolding branch_app hit top
quiet = refl

-- A region without a touched source costs one question: <i>{{this.a}}</i>{{#if true}}{{this.b}}{{this.b}}{{this.b}}{{/if}}
unfoldable guarded_app : App
guarded_app = record {
  root = codes "App";
  limit = 3;
  modifiers = [];
  classes = record {
    name = codes "App";
    file = codes "app.hbs";
    fields = (codes "a", integer (pos 1)) ∷ (codes "b", integer (pos 1)) ∷ [];
    getters = [];
    actions = [];
    teardown = false;
    template = stmt (element (codes "i") [] (stmt (put (this (codes "a") [])) end))
        (stmt (if_stmt (literal (boolean true)) false (stmt (put (this (codes "b") [])) (stmt (put (this (codes "b") [])) (stmt (put (this (codes "b") [])) end))) end) end);
  } ∷ [];
}

guarded : questions guarded_app 0 (codes "a") (integer (pos 2)) ≡ (4, 4)
unfolding guarded_app hit top
guarded = refl
