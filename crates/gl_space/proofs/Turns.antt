-- A turn of the pass over the tokens.
use Rattle.std.proofs.Common.{◌≡◌, ◌<◌, ℕ, zero, suc, List, [], ◌∷◌, ◌++◌, Bool, true, false, ◌&&◌, not, cond, Option, Some, None, length, take, drop, refl, sym, ap, arith, get_or, set}
use Rattle.std.specs.Str.{chars}
use Rattle.gl_base.specs.Texts.{Text, bytes_of}
use Rattle.gl_ast.specs.Settling.{settle_from, within_tag, edge_after, is_text, kept, next_edge}
use Rattle.gl_ast.specs.declared.edge.Edge.{Edge}
use Rattle.gl_ast.specs.declared.token.Token.{Token}
use Rattle.gl_space.specs.Turn.{changed, front_after, tag_after, with_text, put_at}

token_case : (t : Token) (b : Bool) (text : Text) → with_text t (cond b (Some text) None) ≡ cond b (record t { text = text }) t
token_case t true text = refl
token_case t false text = refl

-- the first token is settled, and then those after it
first_turn : (bs : List ℕ) (tag : Bool) (front : Edge) (t : Token) (ts : List Token)
    → settle_from bs tag front (t ∷ ts) ≡ with_text t (changed bs tag front (t ∷ ts)) ∷ settle_from bs (tag_after tag (t ∷ ts)) (front_after bs tag front (t ∷ ts)) ts
unfolding changed front_after
first_turn bs tag front t ts =
    ap (λ u. u ∷ settle_from bs (within_tag tag t.kind) (edge_after bs tag front t ts) ts) (sym (token_case t (not tag && is_text t.kind) (chars (kept front (next_edge bs ts) (bytes_of t.text)))))

-- the tokens up to a place are settled, and those after it are to be
pub turn : (bs : List ℕ) (tag : Bool) (front : Edge) (place : ℕ) (list : List Token) → place < length list
    → let left = drop place list in
    let new = put_at place (changed bs tag front left) list in
    take (suc place) new ++ settle_from bs (tag_after tag left) (front_after bs tag front left) (drop (suc place) new) ≡ take place list ++ settle_from bs tag front left
turn bs tag front place [] h = absurd (omega arith)
turn bs tag front zero (t ∷ ts) h = sym (first_turn bs tag front t ts)
turn bs tag front (suc n) (t ∷ ts) h = ap (λ l. t ∷ l) (turn bs tag front n ts (omega arith))

pub put_length : (o : Option Text) (place : ℕ) (list : List Token) → length (put_at place o list) ≡ length list
put_length o zero [] = refl
put_length o zero (t ∷ ts) = refl
put_length o (suc n) [] = refl
put_length o (suc n) (t ∷ ts) = ap suc (put_length o n ts)

-- a new text is put in where it stands
pub put_set : (place : ℕ) (list : List Token) (t : Token) (text : Text) → place < length list → t ≡ get_or list place t → set list place (record t { text = text }) ≡ put_at place (Some text) list
put_set place [] t text h e = absurd (omega arith)
put_set zero (u ∷ us) t text h e = ap (λ (v : Token). record v { text = text } ∷ us) e
put_set (suc n) (u ∷ us) t text h e = ap (λ l. u ∷ l) (put_set n us t text (omega arith) e)
