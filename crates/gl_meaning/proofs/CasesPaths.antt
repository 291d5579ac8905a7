-- Worked paths: where each kind of step leads.
use Rattle.std.specs.Fmt.{digits}
use Rattle.std.specs.Prelude.{◌≡◌, ℕ, pos, [], ◌∷◌, map, true, false, codes, refl}
use Rattle.gl_value.specs.Value.{boolean, integer, text, list, pairs, no_values, value, no_members, member}
use Rattle.gl_ast.specs.Template.{literal, this, bare, no_exprs, expr, no_named, live, attribute, modifier, text_stmt, put, element, component_stmt, if_stmt, each, let_stmt, yield, end, stmt, no_slots, block}
use Rattle.gl_meaning.specs.App.{App}
use Rattle.gl_meaning.specs.Path.{Path, at, main, otherwise, items, item, into, slot, empty, attribute_at, modifier_at}
use Rattle.gl_meaning.specs.Scope.{cell, sources_of}
use Rattle.gl_meaning.specs.Render.{Forest, draw}
use Rattle.gl_meaning.specs.Changes.{nodes, positions, regions, instances}

-- An app in which each kind of step leads somewhere.
--
-- app.hbs: <p title={{this.t}} {{tip}}>{{#if this.t}}{{else}}x{{/if}}</p>{{#each this.l key="k" as |x|}}{{#let 1 as |y|}}{{y}}{{/let}}{{/each}}<Box>hi</Box>{{#if true}}{{/if}}
-- box.hbs: {{yield}}
all_steps_app : App
all_steps_app = record {
  root = codes "App";
  limit = 16;
  modifiers = (codes "tip" ∷ []);
  classes = (
      record {
        name = codes "App";
        file = codes "app.hbs";
        teardown = false;
        fields = ((codes "l", list (value (pairs (member (codes "k") (text (codes "a")) no_members)) (value (pairs (member (codes "k") (text (codes "a")) no_members)) no_values))) ∷ (codes "t", text []) ∷ []);
        getters = [];
        actions = [];
        template = stmt (element (codes "p") (attribute (codes "title") (live (this (codes "t") [])) ∷ modifier (codes "tip") no_exprs no_named ∷ []) (stmt (if_stmt (this (codes "t") []) false end (stmt (text_stmt (codes "x")) end)) end)) (stmt (each (this (codes "l") []) (codes "k") (codes "x" ∷ []) (stmt (let_stmt (expr (literal (integer (pos 1))) no_exprs) (codes "y" ∷ []) (stmt (put (bare (codes "y") [])) end)) end) end) (stmt (component_stmt (codes "Box") [] [] (block (codes "default") [] (stmt (text_stmt (codes "hi")) end) no_slots)) (stmt (if_stmt (literal (boolean true)) false end end) end)));
      }
      ∷ record {
        name = codes "Box";
        file = codes "box.hbs";
        teardown = false;
        fields = [];
        getters = [];
        actions = [];
        template = stmt (yield no_exprs (codes "default")) end;
      }
      ∷ []
      );
}

abbrev drawn : Forest
drawn = draw all_steps_app []

-- the path of an item of the `each`, whose keys are equal
abbrev item_at : ℕ → Path
item_at n = item (text (codes "a")) n ∷ items ∷ at 1 ∷ []

the_nodes : nodes drawn ≡ (at 0 ∷ [])
    ∷ (at 0 ∷ otherwise ∷ at 0 ∷ at 0 ∷ [])
    ∷ (at 0 ∷ main ∷ at 0 ∷ item_at 0)
    ∷ (at 0 ∷ main ∷ at 0 ∷ item_at 1)
    ∷ (at 0 ∷ slot (codes "default") ∷ at 0 ∷ into (codes "Box") ∷ at 2 ∷ [])
    ∷ (empty ∷ main ∷ at 3 ∷ [])
    ∷ []
unfolding all_steps_app digits
the_nodes = refl

the_positions : map (λ q. q.path) (positions drawn) ≡ (attribute_at (codes "title") ∷ at 0 ∷ [])
    ∷ (modifier_at 0 ∷ at 0 ∷ [])
    ∷ (at 0 ∷ at 0 ∷ [])
    ∷ (at 1 ∷ [])
    ∷ (at 0 ∷ main ∷ at 0 ∷ item_at 0)
    ∷ (at 0 ∷ main ∷ at 0 ∷ item_at 1)
    ∷ (at 3 ∷ [])
    ∷ []
unfolding all_steps_app digits
the_positions = refl

the_regions : regions drawn ≡ []
    ∷ (otherwise ∷ at 0 ∷ at 0 ∷ [])
    ∷ (items ∷ at 1 ∷ [])
    ∷ item_at 0
    ∷ item_at 1
    ∷ (into (codes "Box") ∷ at 2 ∷ [])
    ∷ (main ∷ at 3 ∷ [])
    ∷ []
unfolding all_steps_app digits
the_regions = refl

the_instances : instances drawn ≡ [] ∷ (into (codes "Box") ∷ at 2 ∷ []) ∷ []
unfolding all_steps_app digits
the_instances = refl

the_sources : map (λ q. sources_of q.pairs) (positions drawn) ≡ (cell [] (codes "t") ∷ [])
    ∷ []
    ∷ (cell [] (codes "t") ∷ [])
    ∷ (cell [] (codes "l") ∷ [])
    ∷ []
    ∷ []
    ∷ []
    ∷ []
unfolding all_steps_app digits
the_sources = refl
