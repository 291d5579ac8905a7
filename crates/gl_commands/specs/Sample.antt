-- The sample application, and what is written of its session.
use Rattle.std.specs.Prelude.{ℕ, List, [], ◌∷◌, ◌++◌, codes, decimal, length, Result}
use Rattle.gl_base.specs.Texts.{Text, bytes_of, joined}
use Rattle.gl_outside.specs.Shelf.{Entry}
use Rattle.gl_gen.specs.Application.{manifest, templates}
use Rattle.gl_gen.specs.Script.{script}
use Rattle.gl_load.specs.Load.{Whole, whole_in}
use Rattle.gl_load.specs.Refusal.{Refusal}

-- the files of the sample of so many rows
unfoldable pub sample_files : ℕ → List Entry
sample_files rows = templates ++ (codes "m.json", bytes_of (manifest rows)) ∷ (codes "s.json", bytes_of (script rows)) ∷ []

-- the application of these files with its script
unfoldable pub sample_whole : ℕ → Result Whole Refusal
sample_whole rows = whole_in (sample_files rows) (codes "m.json") (codes "s.json")

-- the last of these texts, the first of which is apart
abbrev pub last_of : Text → List Text → Text
last_of t [] = t
last_of t (u ∷ us) = last_of u us

abbrev pub last_text : List Text → Text
last_text [] = []
last_text (t ∷ ts) = last_of t ts

abbrev pub byte_count : Text → ℕ
byte_count text = length (bytes_of text)

-- so many turns, the bytes of all their texts, and the bytes of the last
abbrev pub sums_line : ℕ → ℕ → ℕ → Text
sums_line turns bytes last =
    codes "turns " ++ (decimal turns ++ (codes " bytes " ++ (decimal bytes ++ (codes " last " ++ (decimal last ++ codes "\n")))))

-- what is written of a session whose turns have these texts
abbrev pub sample_line : List Text → Text
sample_line texts = sums_line (length texts) (byte_count (joined texts)) (byte_count (last_text texts))
