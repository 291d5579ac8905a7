-- The text of a wire from its pieces: what stands before the rows, the rows one after another, the symbols and the version.
use Rattle.std.proofs.Common.{◌≡◌, ℕ, List, [], ◌∷◌, ◌++◌, Bool, true, false, refl, sym, append_assoc, append-nil}
use Rattle.std.specs.Prelude.{codes}
use Rattle.std.specs.Fmt.{digits}
use Rattle.serde_json.proofs.OnLiterals.{serde_json_on_literals}
use Rattle.serde_json.specs.Data.{Data}
use Rattle.serde_json.specs.View.{items_of}
use Rattle.serde_json.specs.Written.{comma_if, compact_text, items_text}
use Rattle.gl_wire.specs.Json.{texts_json, stmt_rows, body_rows, json_in}
use Rattle.gl_wire.specs.Wire.{Stmt, text_stmt, comment_stmt, put, element, component_stmt, if_stmt, each, let_stmt, yield, no_slots, block, Wire}
use Rattle.gl_wire.specs.Written.{rows_text, later_after}
use Rattle.gl_wire.specs.declared.version.Version.TheVariants.{Second}

-- what stands before stays there
later_stays : (ds : List Data) → later_after true ds ≡ true
later_stays [] = refl
later_stays (d ∷ ds) = refl

rows_append : (later : Bool) (ds es : List Data) → rows_text later (ds ++ es) ≡ rows_text later ds ++ rows_text (later_after later ds) es
rows_append later [] es = refl
rows_append later (d ∷ ds) es = rw (rows_append true ds es, later_stays ds) (simp append_assoc)

-- rows behind one another, where something stands before them
pub rows_join : (ds es : List Data) → rows_text true (ds ++ es) ≡ rows_text true ds ++ rows_text true es
rows_join ds es = rw (rows_append true ds es, later_stays ds) refl

-- a row, further ones and a last one, by what stands after each of these
pub last_written : (old opened inside new : List ℕ) (later : Bool) (d e : Data) (ds : List Data) → opened ≡ old ++ (comma_if later ++ compact_text d) → inside ≡ opened ++ rows_text true ds → new ≡ inside ++ (comma_if true ++ compact_text e) → new ≡ old ++ rows_text later (d ∷ (ds ++ e ∷ []))
last_written old opened inside new later d e ds a b c = rw (c, b, a, rows_join ds (e ∷ [])) (simp (append_assoc, append-nil))

-- a row, further ones and one behind them, before more
pub block_written : (old opened inside new : List ℕ) (d e : Data) (ds es : List Data) → opened ≡ old ++ (comma_if true ++ compact_text d) → inside ≡ opened ++ rows_text true ds → new ≡ inside ++ (comma_if true ++ compact_text e) → new ++ rows_text true es ≡ old ++ rows_text true (d ∷ (ds ++ e ∷ es))
block_written old opened inside new d e ds es a b c = rw (c, b, a, rows_join ds (e ∷ es)) (simp append_assoc)

-- a statement has a row
pub has_row : (later : Bool) (s : Stmt) → later_after later (stmt_rows Second s) ≡ true
has_row later (text_stmt s) = refl
has_row later (comment_stmt s) = refl
has_row later (put e) = refl
has_row later (element tag ps b) = refl
has_row later (component_stmt c ps es no_slots) = refl
has_row later (component_stmt c ps es (block name is b ss)) = refl
has_row later (if_stmt e unless b c) = refl
has_row later (each e key is b c) = refl
has_row later (let_stmt es is b) = refl
has_row later (yield es to) = refl

-- what rows have added, before more
pub rows_more : (text new : List ℕ) (later next : Bool) (ds es : List Data) → new ≡ text ++ rows_text later ds → next ≡ later_after later ds → new ++ rows_text next es ≡ text ++ rows_text later (ds ++ es)
rows_more text new later next ds es written is = rw (written, is, rows_append later ds es) (simp append_assoc)

-- the text of an array of rows, behind its opening bracket
closed : (later : Bool) (ds : List Data) → items_text later (items_of ds) ≡ rows_text later ds ++ 93 ∷ []
closed later [] = refl
closed later (d ∷ ds) = rw (closed true ds) (simp append_assoc)

-- the same pieces as they are nested in JSON, and as they are written
pieces : (a rows b symbols c : List ℕ) → a ++ ((rows ++ 93 ∷ []) ++ (b ++ (symbols ++ c))) ≡ (((a ++ rows) ++ (93 ∷ b)) ++ symbols) ++ c
pieces a rows b symbols c = simp append_assoc

wire_pieces : (w : Wire) → compact_text (json_in Second w) ≡ (((codes "{\"body\":[" ++ rows_text false (body_rows Second w.body)) ++ codes "],\"symbols\":") ++ compact_text (texts_json w.symbols)) ++ codes ",\"v\":2}"
unfolding json_in serde_json_on_literals digits
wire_pieces w = rw (closed false (body_rows Second w.body)) (pieces (codes "{\"body\":[") (rows_text false (body_rows Second w.body)) (codes ",\"symbols\":") (compact_text (texts_json w.symbols)) (codes ",\"v\":2}"))

-- the text of a wire, by what stands after each of its pieces
pub wire_written : (w : Wire) (opened rows named symbols all : List ℕ) → opened ≡ codes "{\"body\":[" → rows ≡ opened ++ rows_text false (body_rows Second w.body) → named ≡ rows ++ codes "],\"symbols\":" → symbols ≡ named ++ compact_text (texts_json w.symbols) → all ≡ symbols ++ codes ",\"v\":2}" → all ≡ compact_text (json_in Second w)
wire_written w opened rows named symbols all a b c d e = rw (e, d, c, b, a) (sym (wire_pieces w))
