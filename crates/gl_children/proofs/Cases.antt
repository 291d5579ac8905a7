-- A worked page: <i>{{this.a}}{{this.a}}</i>{{#if true}}<b>{{this.a}}</b>{{this.a}}{{/if}}
use Rattle.std.proofs.Common.{◌≡◌, ℕ, List, [], ◌∷◌, true, Some, None, refl}
use Rattle.std.specs.Prelude.{pos, codes, false}
use Rattle.gl_value.specs.Value.{boolean, integer}
use Rattle.gl_ast.specs.Template.{this, literal, put, element, if_stmt, end, stmt}
use Rattle.gl_meaning.specs.App.{App}
use Rattle.gl_plain.specs.Ids.{hit}
use Rattle.gl_plain.specs.Grow.{grow_app}
use Rattle.gl_plain.specs.Stands.{top}
use Rattle.gl_plain.specs.Turns.{blank}
use Rattle.gl_machine.specs.Shape.{nest}
use Rattle.gl_children.specs.Children.{children}

unfoldable app : App
app = record {
  root = codes "App";
  limit = 3;
  modifiers = [];
  classes = record {
    name = codes "App";
    file = codes "app.hbs";
    fields = (codes "a", integer (pos 1)) ∷ [];
    getters = [];
    actions = [];
    teardown = false;
    template = stmt (element (codes "i") [] (stmt (put (this (codes "a") [])) (stmt (put (this (codes "a") [])) end)))
        (stmt (if_stmt (literal (boolean true)) false (stmt (element (codes "b") [] (stmt (put (this (codes "a") [])) end)) (stmt (put (this (codes "a") [])) end)) end) end);
  } ∷ [];
}

abbrev at : ℕ → List ℕ
at n = children (Some n) (nest (grow_app app [] blank).0)

-- the top
tops_are : children None (nest (grow_app app [] blank).0) ≡ 0 ∷ 3 ∷ 5 ∷ []
unfolding app hit top
tops_are = refl

-- each element, and a text
abbrev kids : List ℕ × List ℕ × List ℕ
kids = (at 0, at 3, at 5)

abbrev those : List ℕ × List ℕ × List ℕ
those = (1 ∷ 2 ∷ [], 4 ∷ [], [])

kids_are : kids ≡ those
unfolding app hit top
kids_are = refl
