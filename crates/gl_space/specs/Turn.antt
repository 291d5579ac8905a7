-- One turn of the pass over the tokens.
use Rattle.std.specs.Prelude.{ℕ, List, [], ◌∷◌, ◌++◌, Bool, false, not, ◌&&◌, take, drop, if◌then◌else◌, Option, Some, None}
use Rattle.std.specs.Str.{chars}
use Rattle.gl_base.specs.Texts.{Text, bytes_of}
use Rattle.gl_ast.specs.Settling.{is_text, kept, next_edge, edge_after, within_tag}
use Rattle.gl_ast.specs.declared.edge.Edge.{Edge}
use Rattle.gl_ast.specs.declared.edge.Edge.TheVariants.{Keep}
use Rattle.gl_ast.specs.declared.token.Token.{Token}

-- what the first of the tokens has as its new text
unfoldable pub changed : List ℕ → Bool → Edge → List Token → Option Text
changed bs tag front [] = None
changed bs tag front (t ∷ ts) = if not tag && is_text t.kind then Some (chars (kept front (next_edge bs ts) (bytes_of t.text))) else None

-- what is removed at the front of a text after it
unfoldable pub front_after : List ℕ → Bool → Edge → List Token → Edge
front_after bs tag front [] = Keep
front_after bs tag front (t ∷ ts) = edge_after bs tag front t ts

-- whether what follows it stands in a tag
abbrev pub tag_after : Bool → List Token → Bool
tag_after tag [] = false
tag_after tag (t ∷ ts) = within_tag tag t.kind

abbrev pub with_text : Token → Option Text → Token
with_text t None = t
with_text t (Some text) = record t { text = text }

abbrev pub put_first : Option Text → List Token → List Token
put_first o [] = []
put_first o (t ∷ ts) = with_text t o ∷ ts

-- the tokens, with a new text at a place
abbrev pub put_at : ℕ → Option Text → List Token → List Token
put_at place text list = take place list ++ put_first text (drop place list)
