-- White-space control and lone tags remove nothing from texts without white space at their ends.
use Rattle.std.proofs.Common.{◌≡◌, ◌+◌, ℕ, List, [], ◌∷◌, ◌++◌, Bool, true, false, cond, ltb, length, drop, refl, sym, ap, subst, ◌∙◌, append_assoc, append-nil, length-append, arith}
use Rattle.std.specs.Prelude.{◌&&◌, ◌||◌, ◌==◌, not, nat_lt, encode_utf8}
use Rattle.std.specs.List.{list_all}
use Rattle.std.specs.Str.{chars, all_scalars}
use Rattle.std.proofs.Math.Seq.{drop-append_seam}
use Rattle.std.proofs.lemmas.Bool.Decides.{nat_tests}
use Rattle.std.proofs.lemmas.Str.{chars-encodes}
use Rattle.gl_base.specs.Texts.{Text, bytes_of}
use Rattle.gl_ast.specs.Grammar.{is_empty_text}
use Rattle.gl_ast.specs.Marks.{is_white, is_blank}
use Rattle.gl_ast.specs.Settling.{strips, front_width, removed, kept_from, kept, is_text, within_tag, next_edge, edge_after, settled_token, settle_from, settled}
use Rattle.gl_ast.specs.declared.edge.Edge.{Edge}
use Rattle.gl_ast.specs.declared.edge.Edge.TheVariants.{Keep, Line, White}
use Rattle.gl_ast.specs.declared.token.Token.{Token}
use Rattle.gl_ast.proofs.Forward.{both}
use Rattle.gl_show.proofs.Decoding.{ends_append}
use Rattle.gl_show.proofs.Lexed.{EndsTight, IsTight, IsCleanText, IsClean}
use Rattle.gl_show.proofs.Runs.{char_bytes}
use Rattle.gl_show.proofs.Scanning.{Stops}
use Rattle.gl_show.proofs.Strings.{all_high}

-- the bytes of such a text have none either
high_ends : (b : ℕ) (bs : List ℕ) → all_high (b ∷ bs) ≡ true → EndsTight (b ∷ bs)
high_ends b [] h = grind (arith, nat_tests)
high_ends b (c ∷ cs) h = high_ends c cs (both (not (ltb b 128)) (all_high (c ∷ cs)) h).1

high_front : (b : ℕ) → not (ltb b 128) ≡ true → is_white b ≡ false
high_front b h = grind (arith, nat_tests)

char_ends : (c : ℕ) → is_white c ≡ false → EndsTight (bytes_of (c ∷ []))
char_ends c w = char_bytes (λ bs. EndsTight (bs ++ [])) c (λ l. w) (λ b bs h a. subst (λ (x : List ℕ). EndsTight x) (sym (append-nil (b ∷ bs))) (high_ends b bs a))

some_bytes : (c : ℕ) (cs : Text) → is_empty_text (bytes_of (c ∷ cs)) ≡ false
some_bytes c cs = char_bytes (λ bs. is_empty_text (bs ++ bytes_of cs) ≡ false) c (λ l. refl) (λ b bs h a. refl)

bytes_end : (cs : Text) → EndsTight cs → EndsTight (bytes_of cs)
bytes_end [] e = e
bytes_end (c ∷ []) e = char_ends c e
bytes_end (c ∷ d ∷ ds) e = ends_append (encode_utf8 c) (bytes_of (d ∷ ds)) (some_bytes d ds) (bytes_end (d ∷ ds) e)

bytes_stop : (cs : Text) → Stops is_white cs → Stops is_white (bytes_of cs)
bytes_stop [] s = tt
bytes_stop (c ∷ cs) s = char_bytes (λ bs. Stops is_white (bs ++ bytes_of cs)) c (λ l. s) (λ b bs h a. high_front b (both (not (ltb b 128)) (all_high bs) a).0)

-- nothing is removed in front
white_blank : (b : ℕ) → is_white b ≡ false → is_blank b ≡ false
white_blank b e = grind (arith, nat_tests)

white_break : (b : ℕ) → is_white b ≡ false → ((b == 10) ≡ false) × ((b == 13) ≡ false)
white_break b e = (grind (arith, nat_tests), grind (arith, nat_tests))

no_front : (e : Edge) (b : ℕ) (bs : List ℕ) → is_white b ≡ false → front_width e (b ∷ bs) ≡ 0
no_front Keep b bs w = refl
no_front White b bs w = rw w refl
no_front Line b bs w = let h = white_blank b w in let g = white_break b w in let g0 = g.0 in let g1 = g.1 in rw (h, g0, g1) refl

-- and nothing at the end
strips_white : (e : Edge) (b : ℕ) → is_white b ≡ false → strips e b ≡ false
strips_white Keep b w = refl
strips_white Line b w = white_blank b w
strips_white White b w = w

never : (t : Bool) → (t && false) ≡ false
never true = refl
never false = refl

no_back : (e : Edge) (b : ℕ) (bs : List ℕ) → EndsTight (b ∷ bs) → list_all (strips e) (b ∷ bs) ≡ false
no_back e b [] t = let h = strips_white e b t in rw h refl
no_back e b (c ∷ cs) t = let h = no_back e c cs t in ap (λ x. strips e b && x) h ∙ never (strips e b)

-- so every byte is kept
tail_ends : (b c : ℕ) (xs cs : List ℕ) → xs ≡ c ∷ cs → EndsTight (b ∷ xs) → EndsTight (c ∷ cs)
tail_ends b c [] cs h g = cc
tail_ends b c (x ∷ xs) cs h g = subst (λ (l : List ℕ). EndsTight l) h g

kept_all : (front back : Edge) (text before rest : List ℕ) (place : ℕ) → text ≡ before ++ rest → place ≡ length before → front_width front text ≡ 0 → ((b : ℕ) (bs : List ℕ) → rest ≡ b ∷ bs → EndsTight (b ∷ bs))
    → kept_from front back text place rest ≡ rest
kept_all front back text before [] place e p w t = refl
kept_all front back text before (b ∷ bs) place e p w t =
    let here : drop place text ≡ b ∷ bs = ap (λ n. drop n text) p ∙ ap (λ l. drop (length before) l) e ∙ drop-append_seam before (b ∷ bs) in
    let none : list_all (strips back) (drop place text) ≡ false = ap (λ l. list_all (strips back) l) here ∙ no_back back b bs (t b bs refl) in
    let low : nat_lt place (front_width front text) ≡ false = ap (λ n. nat_lt place n) w ∙ (let z : nat_lt place 0 ≡ false = grind (arith, nat_tests) in z) in
    let next : text ≡ (before ++ b ∷ []) ++ bs = e ∙ sym (append_assoc before (b ∷ []) bs) in
    let at : place + 1 ≡ length (before ++ b ∷ []) = omega (arith, length-append before (b ∷ [])) in
    let more = kept_all front back text (before ++ b ∷ []) bs (place + 1) next at w (λ c cs h. tail_ends b c bs cs h (t b bs refl)) in
    let no : removed front back text place ≡ false = ap (λ x. x || list_all (strips back) (drop place text)) low ∙ none in
    ap (λ x. cond x (kept_from front back text (place + 1) bs) (b ∷ kept_from front back text (place + 1) bs)) no ∙ ap (λ l. b ∷ l) more

kept_bytes : (front back : Edge) (bs : List ℕ) → Stops is_white bs → EndsTight bs → kept front back bs ≡ bs
kept_bytes front back [] s t = refl
kept_bytes front back (b ∷ bs) s t = kept_all front back (b ∷ bs) [] (b ∷ bs) 0 refl refl (no_front front b bs s) (λ c cs h. subst (λ (l : List ℕ). EndsTight l) h t)

kept_text : (front back : Edge) (cs : Text) → IsTight cs → all_scalars cs ≡ true → chars (kept front back (bytes_of cs)) ≡ cs
kept_text front back cs t a = ap chars (kept_bytes front back (bytes_of cs) (bytes_stop cs t.0) (bytes_end cs t.1)) ∙ chars-encodes cs a

-- a clean token is settled as it is
settled_clean : (bs : List ℕ) (tag : Bool) (front : Edge) (t : Token) (ts : List Token) (x : Bool) → is_text t.kind ≡ x → IsCleanText x tag t.text → settled_token bs tag front t ts ≡ t
settled_clean bs false front t ts true e c = rw e (ap (λ (y : Text). record t { text = y }) (kept_text front (next_edge bs ts) t.text c.0 c.1))
settled_clean bs true front t ts true e c = refl
settled_clean bs true front t ts false e c = refl
settled_clean bs false front t ts false e c = rw e refl

pub settle_clean : (bs : List ℕ) (tag : Bool) (front : Edge) (ts : List Token) → IsClean tag ts → settle_from bs tag front ts ≡ ts
settle_clean bs tag front [] c = refl
settle_clean bs tag front (t ∷ ts) c =
    ap (λ x. x ∷ settle_from bs (within_tag tag t.kind) (edge_after bs tag front t ts) ts) (settled_clean bs tag front t ts (is_text t.kind) refl c.0)
    ∙ ap (λ l. t ∷ l) (settle_clean bs (within_tag tag t.kind) (edge_after bs tag front t ts) ts c.1)

pub settled_same : (bs : List ℕ) (ts : List Token) → IsClean false ts → settled bs ts ≡ ts
unfolding settled
settled_same bs ts c = settle_clean bs false Keep ts c
