-- The pieces of a wire's JSON: words, texts, lists and names by their places among the symbols.
use Rattle.std.specs.Prelude.{ℕ, List, [], ◌∷◌, Option, Some, None, option_and_then, slice_get}
use Rattle.std.specs.Str.{chars}
use Rattle.serde_json.specs.Data as json
use Rattle.serde_json.specs.Find.{as_number, as_str, as_u64}
use Rattle.gl_base.specs.Answers.{◌>>=◌}
use Rattle.gl_base.specs.Reading.{read_all}
use Rattle.gl_base.specs.Texts.{Text}

-- the text of a string
abbrev pub text_in : json.Data → Option Text
text_in d = as_str d >>= λ s. Some (chars s)

abbrev pub data_of : json.Items → List json.Data
data_of json.no_items = []
data_of (json.item d ds) = d ∷ data_of ds

-- the data of an array
abbrev pub list_in : json.Data → Option (List json.Data)
list_in (json.array ds) = Some (data_of ds)
list_in _ = None

abbrev pub texts_in : json.Data → Option (List Text)
texts_in d = list_in d >>= λ ds. read_all text_in ds

-- a symbol, by its place
abbrev pub symbol_in : List Text → json.Data → Option Text
symbol_in symbols d = option_and_then as_u64 (as_number d) >>= λ i. slice_get symbols i

abbrev pub symbols_in : List Text → json.Data → Option (List Text)
symbols_in symbols d = list_in d >>= λ ds. read_all (symbol_in symbols) ds

-- a row begins with a word
abbrev pub word_in : List json.Data → Option (List ℕ)
word_in [] = None
word_in (d ∷ ds) = as_str d

-- what stands in a row after its word
abbrev pub fields_in : List json.Data → List json.Data
fields_in [] = []
fields_in (d ∷ ds) = ds
