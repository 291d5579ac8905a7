-- What white-space control and lone tags remove from the text of a template. Only characters of the content's texts
-- are removed, and only white space.
use Rattle.std.specs.Prelude.{ℕ, List, [], ◌∷◌, ◌+◌, ◌-◌, Bool, true, false, not, ◌||◌, ◌&&◌, ◌==◌, nat_lt, codes, length, take, drop, reverse, if◌then◌else◌, Option, Some, None}
use Rattle.std.specs.List.{list_all, prefix_len}
use Rattle.std.specs.Str.{bytes_eq, chars}
use Rattle.gl_base.specs.Texts.{bytes_of}
use Rattle.gl_ast.specs.Marks.{is_white, is_blank}
use Rattle.gl_ast.specs.Scans.{begins, after_all}
use Rattle.gl_ast.specs.declared.token.Token.{Token}
use Rattle.gl_ast.specs.declared.token.TokenKind.{TokenKind}
use Rattle.gl_ast.specs.declared.token.TokenKind.TheVariants as k
use Rattle.gl_ast.specs.declared.edge.Edge.{Edge}
use Rattle.gl_ast.specs.declared.edge.Edge.TheVariants.{Keep, Line, White}

-- the white space that is removed at an end of a text
abbrev pub strips : Edge → (ℕ → Bool)
strips Keep = λ b. false
strips Line = is_blank
strips White = is_white

-- how many bytes the line break at the front has: a line feed, or a carriage return and a line feed
abbrev pub break_width : List ℕ → ℕ
break_width [] = 0
break_width (b ∷ bs) = if b == 10 then 1 else (if b == 13 && begins (codes "\n") bs then 2 else 0)

-- How many bytes of a text are removed by what stands directly before it. A mustache that closes with `~}}` removes
-- the run of white space there. A lone tag removes the blanks there and the line break after them.
abbrev pub front_width : Edge → List ℕ → ℕ
front_width Keep text = 0
front_width White text = prefix_len is_white text
front_width Line text = prefix_len is_blank text + break_width (drop (prefix_len is_blank text) text)

-- Whether the byte at a place is in the run that ends the text. A mustache that opens with `{{~` removes the white
-- space there, and a lone tag the blanks.
abbrev pub in_back : Edge → List ℕ → ℕ → Bool
in_back back text place = list_all (strips back) (drop place text)

-- whether the byte at a place of a text is removed
abbrev pub removed : Edge → Edge → List ℕ → ℕ → Bool
removed front back text place = nat_lt place (front_width front text) || in_back back text place

-- the bytes from a place on that are kept
abbrev pub kept_from : Edge → Edge → List ℕ → ℕ → List ℕ → List ℕ
kept_from front back text place [] = []
kept_from front back text place (b ∷ bs) =
    if removed front back text place then kept_from front back text (place + 1) bs
    else b ∷ kept_from front back text (place + 1) bs

abbrev pub kept : Edge → Edge → List ℕ → List ℕ
kept front back text = kept_from front back text 0 text

-- Only blanks stand between a tag and the line feed before it, or the start of the template: `front` is what stands
-- before the tag.
abbrev pub starts_line : List ℕ → Bool
starts_line [] = true
starts_line (b ∷ bs) = b == 10

unfoldable pub opens_line : List ℕ → Bool
opens_line front = starts_line (after_all is_blank (reverse front))

-- Only blanks stand between it and the line break after it, or the end of the template: `back` is what stands after it.
-- A line break is a line feed, or a carriage return and a line feed.
abbrev pub breaks_line : List ℕ → Bool
breaks_line [] = true
breaks_line (b ∷ bs) = b == 10 || (b == 13 && begins (codes "\n") bs)

unfoldable pub closes_line : List ℕ → Bool
closes_line back = breaks_line (after_all is_blank back)

-- A tag from this place to that one has its line for itself.
unfoldable pub alone : List ℕ → ℕ → ℕ → Bool
alone bs start end = opens_line (take start bs) && closes_line (drop end bs)

-- What is removed on one side of a mustache or comment. Where `~` stands there, all white space is, and so is what a
-- lone tag removes there.
abbrev pub edge : Bool → Bool → Edge
edge strips lone = if strips then White else (if lone then Line else Keep)

abbrev pub is_text : TokenKind → Bool
is_text k.Text = true
is_text _ = false

abbrev pub is_comment : TokenKind → Bool
is_comment k.MustacheComment = true
is_comment _ = false

-- the opening or the end of a block
abbrev pub opens_block : TokenKind → Bool
opens_block k.OpenBlock = true
opens_block k.OpenClosing = true
opens_block _ = false

abbrev pub opens_mustache : TokenKind → Bool
opens_mustache k.OpenMustache = true
opens_mustache kind = opens_block kind

abbrev pub closes_mustache : TokenKind → Bool
closes_mustache k.CloseMustache = true
closes_mustache _ = false

abbrev pub opens_tag : TokenKind → Bool
opens_tag k.TagOpening = true
opens_tag _ = false

abbrev pub closes_tag : TokenKind → Bool
closes_tag k.TagEnd = true
closes_tag k.SelfEnd = true
closes_tag _ = false

abbrev pub is_path : TokenKind → Bool
is_path k.Path = true
is_path _ = false

-- the token that closes a mustache
abbrev pub closing : List Token → Option Token
closing [] = None
closing (t ∷ ts) = if closes_mustache t.kind then Some t else closing ts

-- the mustache is an else
abbrev pub is_else : List Token → Bool
is_else [] = false
is_else (t ∷ ts) = is_path t.kind && bytes_eq (bytes_of t.text) (codes "else")

-- Lone tags are the opening, the else and the end of a block, and comments.
abbrev pub may_be_lone : Token → List Token → Bool
may_be_lone t ts = opens_block t.kind || is_else ts

abbrev pub opens_tilde : Token → Bool
opens_tilde t = begins (codes "{{~") (bytes_of t.text)

abbrev pub ends_tilde : List ℕ → Bool
ends_tilde text = begins (codes "~}}") (drop (length text - 3) text)

abbrev pub closes_tilde : Token → Bool
closes_tilde t = ends_tilde (bytes_of t.text)

-- the mustache that is opened by t and closed by c has its line for itself
abbrev pub is_lone : List ℕ → Token → List Token → Token → Bool
is_lone bs t ts c = may_be_lone t ts && alone bs t.start c.end

-- what a mustache removes before it
abbrev pub left_of : List ℕ → Token → List Token → Option Token → Edge
left_of bs t ts None = Keep
left_of bs t ts (Some c) = edge (opens_tilde t) (is_lone bs t ts c)

-- and after it
abbrev pub right_of : List ℕ → Token → List Token → Option Token → Edge
right_of bs t ts None = Keep
right_of bs t ts (Some c) = edge (closes_tilde c) (is_lone bs t ts c)

-- what the token t, with ts after it, removes before it
unfoldable pub left_edge : List ℕ → Token → List Token → Edge
left_edge bs t ts =
    if is_comment t.kind then edge (opens_tilde t) (alone bs t.start t.end)
    else (if opens_mustache t.kind then left_of bs t ts (closing ts) else Keep)

-- what the token t, or the mustache that it opens, removes after it
unfoldable pub right_edge : List ℕ → Token → List Token → Edge
right_edge bs t ts =
    if is_comment t.kind then edge (closes_tilde t) (alone bs t.start t.end)
    else (if opens_mustache t.kind then right_of bs t ts (closing ts) else Keep)

abbrev pub next_edge : List ℕ → List Token → Edge
next_edge bs [] = Keep
next_edge bs (t ∷ ts) = left_edge bs t ts

-- Within a tag nothing is removed: where a token stands in the content, in a tag or in a mustache of the content.
abbrev pub within_tag : Bool → TokenKind → Bool
within_tag true kind = if closes_tag kind then false else true
within_tag false kind = opens_tag kind

-- tokens of the content that stand directly after a text, and not after a mustache: the text after them begins anew
abbrev pub begins_anew : TokenKind → Bool
begins_anew k.Text = true
begins_anew k.HtmlComment = true
begins_anew k.EndTag = true
begins_anew k.TagOpening = true
begins_anew _ = false

-- what is removed at the front of a text that follows the token t, where `front` was before it
abbrev pub edge_after : List ℕ → Bool → Edge → Token → List Token → Edge
edge_after bs tag front t ts =
    if tag || begins_anew t.kind then Keep
    else (if is_comment t.kind || opens_mustache t.kind then right_edge bs t ts else front)

-- the text of the content, without what is removed
abbrev pub settled_token : List ℕ → Bool → Edge → Token → List Token → Token
settled_token bs tag front t ts =
    if not tag && is_text t.kind then record t { text = chars (kept front (next_edge bs ts) (bytes_of t.text)) } else t

abbrev pub settle_from : List ℕ → Bool → Edge → List Token → List Token
settle_from bs tag front [] = []
settle_from bs tag front (t ∷ ts) = settled_token bs tag front t ts ∷ settle_from bs (within_tag tag t.kind) (edge_after bs tag front t ts) ts

-- the tokens of a text, each text of the content without what is removed
unfoldable pub settled : List ℕ → List Token → List Token
settled bs list = settle_from bs false Keep list
