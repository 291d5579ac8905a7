-- The manifest and the templates of the sample: a list of rows, each of which is switched on by a click.
use Rattle.std.specs.Prelude.{ℕ, List, [], ◌∷◌, ◌++◌, codes}
use Rattle.gl_base.specs.Texts.{Text}
use Rattle.gl_outside.specs.Shelf.{Entry}
use Rattle.gl_gen.specs.Rows.{rows, array}

-- the manifest, with the rows as the first value of the field
unfoldable pub manifest : ℕ → Text
manifest n =
    codes "{\"classes\":{\"App\":{\"actions\":{\"pick\":{\"do\":[{\"set\":\"rows\",\"to\":\"(updateWhere this.rows 'id' id 'on' true)\"}],\"params\":[\"id\"]}},\"fields\":{\"rows\":"
    ++ (array (rows n) ++ codes "},\"template\":\"app.hbs\"},\"Row\":{\"template\":\"row.hbs\"}},\"root\":\"App\"}")

-- the template of the list, and that of a row
unfoldable pub templates : List Entry
templates =
    (codes "app.hbs", codes "<ul>{{#each this.rows key=\"id\" as |r|}}<Row @r={{r}} @pick={{fn this.pick r.id}} />{{/each}}</ul>")
    ∷ (codes "row.hbs", codes "<li class={{if @r.on \"on\"}} {{on \"click\" @pick}}>{{@r.t}}</li>")
    ∷ []
