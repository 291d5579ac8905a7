-- Worked samples: the whole texts of those of one, two and three rows, and the places that the 16 events of 10,000 rows have.
use Rattle.std.specs.Fmt.{digits}
use Rattle.std.specs.Prelude.{⊤, ◌≡◌, [], ◌∷◌, ◌%◌, codes, map, refl}
use Rattle.std.specs.List.{range_with_len}
use Rattle.gl_base.specs.Texts.{joined}
use Rattle.gl_gen.specs.Rows.{rows}
use Rattle.gl_gen.specs.Application.{manifest}
use Rattle.gl_gen.specs.Script.{random, event, script}

unfoldable on_literals : ⊤
unfolding digits rows manifest random event script
on_literals = tt

manifest_one : manifest 1 ≡ codes "{\"classes\":{\"App\":{\"actions\":{\"pick\":{\"do\":[{\"set\":\"rows\",\"to\":\"(updateWhere this.rows 'id' id 'on' true)\"}],\"params\":[\"id\"]}},\"fields\":{\"rows\":[{\"id\":0,\"t\":\"r0\"}]},\"template\":\"app.hbs\"},\"Row\":{\"template\":\"row.hbs\"}},\"root\":\"App\"}"
unfolding on_literals
manifest_one = refl

manifest_two : manifest 2 ≡ codes "{\"classes\":{\"App\":{\"actions\":{\"pick\":{\"do\":[{\"set\":\"rows\",\"to\":\"(updateWhere this.rows 'id' id 'on' true)\"}],\"params\":[\"id\"]}},\"fields\":{\"rows\":[{\"id\":0,\"t\":\"r0\"},{\"id\":1,\"t\":\"r1\"}]},\"template\":\"app.hbs\"},\"Row\":{\"template\":\"row.hbs\"}},\"root\":\"App\"}"
unfolding on_literals
manifest_two = refl

manifest_three : manifest 3 ≡ codes "{\"classes\":{\"App\":{\"actions\":{\"pick\":{\"do\":[{\"set\":\"rows\",\"to\":\"(updateWhere this.rows 'id' id 'on' true)\"}],\"params\":[\"id\"]}},\"fields\":{\"rows\":[{\"id\":0,\"t\":\"r0\"},{\"id\":1,\"t\":\"r1\"},{\"id\":2,\"t\":\"r2\"}]},\"template\":\"app.hbs\"},\"Row\":{\"template\":\"row.hbs\"}},\"root\":\"App\"}"
unfolding on_literals
manifest_three = refl

script_one : script 1 ≡ joined (
    codes "[{\"fire\":2,\"event\":\"click\"}"
    ∷ codes ",{\"set\":\"rows\",\"to\":[{\"id\":0,\"t\":\"r0\"}]}"
    ∷ codes ",{\"fire\":2,\"event\":\"click\"}"
    ∷ codes ",{\"set\":\"rows\",\"to\":[{\"id\":0,\"t\":\"r0\"}]}"
    ∷ codes ",{\"fire\":2,\"event\":\"click\"}"
    ∷ codes ",{\"set\":\"rows\",\"to\":[{\"id\":0,\"t\":\"r0\"}]}"
    ∷ codes ",{\"fire\":2,\"event\":\"click\"}"
    ∷ codes ",{\"set\":\"rows\",\"to\":[{\"id\":0,\"t\":\"r0\"}]}"
    ∷ codes ",{\"fire\":2,\"event\":\"click\"}"
    ∷ codes ",{\"set\":\"rows\",\"to\":[{\"id\":0,\"t\":\"r0\"}]}"
    ∷ codes ",{\"fire\":2,\"event\":\"click\"}"
    ∷ codes ",{\"set\":\"rows\",\"to\":[{\"id\":0,\"t\":\"r0\"}]}"
    ∷ codes ",{\"fire\":2,\"event\":\"click\"}"
    ∷ codes ",{\"set\":\"rows\",\"to\":[{\"id\":0,\"t\":\"r0\"}]}"
    ∷ codes ",{\"fire\":2,\"event\":\"click\"}"
    ∷ codes ",{\"set\":\"rows\",\"to\":[{\"id\":0,\"t\":\"r0\"}]}"
    ∷ codes "]"
    ∷ [])
unfolding on_literals
script_one = refl

script_two : script 2 ≡ joined (
    codes "[{\"fire\":2,\"event\":\"click\"}"
    ∷ codes ",{\"set\":\"rows\",\"to\":[{\"id\":1,\"t\":\"r1\"},{\"id\":0,\"t\":\"r0\"}]}"
    ∷ codes ",{\"fire\":2,\"event\":\"click\"}"
    ∷ codes ",{\"set\":\"rows\",\"to\":[{\"id\":1,\"t\":\"r1\"},{\"id\":0,\"t\":\"r0\"}]}"
    ∷ codes ",{\"fire\":2,\"event\":\"click\"}"
    ∷ codes ",{\"set\":\"rows\",\"to\":[{\"id\":1,\"t\":\"r1\"},{\"id\":0,\"t\":\"r0\"}]}"
    ∷ codes ",{\"fire\":2,\"event\":\"click\"}"
    ∷ codes ",{\"set\":\"rows\",\"to\":[{\"id\":1,\"t\":\"r1\"},{\"id\":0,\"t\":\"r0\"}]}"
    ∷ codes ",{\"fire\":2,\"event\":\"click\"}"
    ∷ codes ",{\"set\":\"rows\",\"to\":[{\"id\":1,\"t\":\"r1\"},{\"id\":0,\"t\":\"r0\"}]}"
    ∷ codes ",{\"fire\":2,\"event\":\"click\"}"
    ∷ codes ",{\"set\":\"rows\",\"to\":[{\"id\":1,\"t\":\"r1\"},{\"id\":0,\"t\":\"r0\"}]}"
    ∷ codes ",{\"fire\":2,\"event\":\"click\"}"
    ∷ codes ",{\"set\":\"rows\",\"to\":[{\"id\":1,\"t\":\"r1\"},{\"id\":0,\"t\":\"r0\"}]}"
    ∷ codes ",{\"fire\":2,\"event\":\"click\"}"
    ∷ codes ",{\"set\":\"rows\",\"to\":[{\"id\":1,\"t\":\"r1\"},{\"id\":0,\"t\":\"r0\"}]}"
    ∷ codes "]"
    ∷ [])
unfolding on_literals
script_two = refl

script_three : script 3 ≡ joined (
    codes "[{\"fire\":2,\"event\":\"click\"}"
    ∷ codes ",{\"set\":\"rows\",\"to\":[{\"id\":1,\"t\":\"r1\"},{\"id\":2,\"t\":\"r2\"},{\"id\":0,\"t\":\"r0\"}]}"
    ∷ codes ",{\"fire\":2,\"event\":\"click\"}"
    ∷ codes ",{\"set\":\"rows\",\"to\":[{\"id\":2,\"t\":\"r2\"},{\"id\":0,\"t\":\"r0\"},{\"id\":1,\"t\":\"r1\"}]}"
    ∷ codes ",{\"fire\":4,\"event\":\"click\"}"
    ∷ codes ",{\"set\":\"rows\",\"to\":[{\"id\":1,\"t\":\"r1\"},{\"id\":2,\"t\":\"r2\"},{\"id\":0,\"t\":\"r0\"}]}"
    ∷ codes ",{\"fire\":4,\"event\":\"click\"}"
    ∷ codes ",{\"set\":\"rows\",\"to\":[{\"id\":0,\"t\":\"r0\"},{\"id\":1,\"t\":\"r1\"},{\"id\":2,\"t\":\"r2\"}]}"
    ∷ codes ",{\"fire\":2,\"event\":\"click\"}"
    ∷ codes ",{\"set\":\"rows\",\"to\":[{\"id\":0,\"t\":\"r0\"},{\"id\":1,\"t\":\"r1\"},{\"id\":2,\"t\":\"r2\"}]}"
    ∷ codes ",{\"fire\":4,\"event\":\"click\"}"
    ∷ codes ",{\"set\":\"rows\",\"to\":[{\"id\":1,\"t\":\"r1\"},{\"id\":2,\"t\":\"r2\"},{\"id\":0,\"t\":\"r0\"}]}"
    ∷ codes ",{\"fire\":6,\"event\":\"click\"}"
    ∷ codes ",{\"set\":\"rows\",\"to\":[{\"id\":1,\"t\":\"r1\"},{\"id\":2,\"t\":\"r2\"},{\"id\":0,\"t\":\"r0\"}]}"
    ∷ codes ",{\"fire\":4,\"event\":\"click\"}"
    ∷ codes ",{\"set\":\"rows\",\"to\":[{\"id\":2,\"t\":\"r2\"},{\"id\":0,\"t\":\"r0\"},{\"id\":1,\"t\":\"r1\"}]}"
    ∷ codes "]"
    ∷ [])
unfolding on_literals
script_three = refl

places_of_many : map (λ k. random 10000 k % 10000) (range_with_len 0 16) ≡ 0 ∷ 8921 ∷ 1118 ∷ 5151 ∷ 8716 ∷ 1189 ∷ 3482 ∷ 4811 ∷ 5672 ∷ 9089 ∷ 3670 ∷ 311 ∷ 1876 ∷ 1037 ∷ 5186 ∷ 2019 ∷ []
unfolding on_literals
places_of_many = refl
