-- The tokens of a text that open tags have names in which nothing ends the name of an end tag.
use Rattle.std.proofs.Common.{◌≡◌, ◌≤◌, ◌<◌, ◌-◌, ◌+◌, ℕ, zero, suc, List, [], ◌∷◌, ◌++◌, Bool, true, false, not, ◌&&◌, inl, inr, Option, Some, None, length, take, refl, sym, ap, ◌∙◌, subst, append_assoc, length-append, arith}
use Rattle.std.specs.Prelude.{if◌then◌else◌, codes}
use Rattle.std.specs.List.{list_all}
use Rattle.std.specs.Str.{chars}
use Rattle.std.proofs.Math.Seq.{take-append_seam}
use Rattle.std.proofs.lemmas.Bool.Decides.{nat_tests}
use Rattle.gl_base.specs.Names.{or_else}
use Rattle.gl_base.specs.Texts.{Text, is_ascii_text, bytes_of}
use Rattle.gl_base.proofs.Chars.{chars_of_ascii}
use Rattle.gl_ast.specs.Marks.{is_capital, is_small, starts_name, in_name, in_class, in_tag}
use Rattle.gl_ast.specs.Modes.{Found, found, token, spaced}
use Rattle.gl_ast.specs.Scans.{after, after_all, after_word, after_pieces}
use Rattle.gl_ast.specs.Settling.{settled, settle_from, settled_token, within_tag, edge_after, is_text, kept, next_edge}
use Rattle.gl_ast.specs.TokenReading.{width, token_at, stands_white}
use Rattle.gl_ast.specs.TokenText.{is_name, ends_tag_name}
use Rattle.gl_ast.specs.Tokens.{forms, IsOneOf}
use Rattle.gl_ast.specs.Words.{after_class_part, after_more_class, after_parts, after_class, after_tag, after_element_name, after_block_name, after_slot_name, after_label, after_tag_opening}
use Rattle.gl_ast.specs.declared.edge.Edge.{Edge}
use Rattle.gl_ast.specs.declared.edge.Edge.TheVariants.{Keep}
use Rattle.gl_ast.specs.declared.mode.Mode.{Mode}
use Rattle.gl_ast.specs.declared.mode.Mode.TheVariants as m
use Rattle.gl_ast.specs.declared.token.Token.{Token}
use Rattle.gl_ast.specs.declared.token.TokenKind.{TokenKind}
use Rattle.gl_ast.specs.declared.token.TokenKind.TheVariants as k
use Rattle.gl_ast.proofs.BlockNames.{block_read}
use Rattle.gl_ast.proofs.Forward.{Moves, both, bind_some, if_some, piece_step, piece_end}
use Rattle.gl_ast.proofs.Longest.{found_left, after_is_front}
use Rattle.gl_ast.proofs.Progress.{more_class_moves}
use Rattle.gl_ast.proofs.Readings.{token_longest}
use Rattle.gl_lex.specs.Front.{front_from, front_or, with_front, stop_at}
use Rattle.gl_lex.proofs.Turns.{falls}
use Rattle.gl_exprs.specs.Take.{same_kind}
use Rattle.gl_exprs.proofs.Takings.{some_is}

-- nothing in it ends the name of an end tag
abbrev pub IsTagName : Text → Type 0
IsTagName [] = Unit {0}
IsTagName (c ∷ cs) = (c < 128) × (ends_tag_name c ≡ false) × IsTagName cs

-- a token that opens a tag has such a name
abbrev pub IsGood : Token → Type 0
IsGood t = t.kind ≡ k.TagOpening → (n : Text) → t.text ≡ 60 ∷ n → IsTagName n

abbrev pub AreGood : List Token → Type 0
AreGood [] = Unit {0}
AreGood (t ∷ ts) = IsGood t × AreGood ts

-- What is written of a name.

abbrev Written : List ℕ → List ℕ → Type 0
Written bs rest = (w : List ℕ) × (bs ≡ w ++ rest) × IsTagName w

names_join : (v w : List ℕ) → IsTagName v → IsTagName w → IsTagName (v ++ w)
names_join [] w p q = q
names_join (c ∷ v) w p q = (p.0, p.1, names_join v w p.2 q)

written_then : (bs xs rest : List ℕ) → Written bs xs → Written xs rest → Written bs rest
written_then bs xs rest p q = (p.0 ++ q.0, p.1 ∙ ap (λ l. p.0 ++ l) q.1 ∙ sym (append_assoc p.0 q.0 rest), names_join p.0 q.0 p.2 q.2)

-- a character of a name
abbrev IsNameSign : ℕ → Type 0
IsNameSign b = (b < 128) × (ends_tag_name b ≡ false)

all_written : (p : ℕ → Bool) → ((b : ℕ) → p b ≡ true → IsNameSign b) → (bs : List ℕ) → Written bs (after_all p bs)
all_written p h [] = ([], refl, tt)
all_written p h (b ∷ bs) = by_test (p b) refl (all_written p h bs) where
  by_test : (t : Bool) → p b ≡ t → Written bs (after_all p bs) → Written (b ∷ bs) (if t then after_all p bs else b ∷ bs)
  by_test true e w = let q = h b e in (b ∷ w.0, ap (λ l. b ∷ l) w.1, (q.0, q.1, w.2))
  by_test false e w = ([], refl, tt)

word_written : (first more : ℕ → Bool) → ((b : ℕ) → first b ≡ true → IsNameSign b) → ((b : ℕ) → more b ≡ true → IsNameSign b) → (bs rest : List ℕ) → after_word first more bs ≡ Some rest → Written bs rest
word_written first more f g [] rest e = cc
word_written first more f g (b ∷ bs) rest e =
    let s = if_some (first b) (Some (after_all more bs)) rest e in
    let w = all_written more g bs in
    let q = f b s.0 in
    (b ∷ w.0, ap (λ l. b ∷ l) (w.1 ∙ ap (λ l. w.0 ++ l) (some_is (after_all more bs) rest s.1)), (q.0, q.1, w.2))

small_sign : (b : ℕ) → is_small b ≡ true → IsNameSign b
small_sign b e = (grind (arith, nat_tests), grind (arith, nat_tests))

capital_sign : (b : ℕ) → is_capital b ≡ true → IsNameSign b
capital_sign b e = (grind (arith, nat_tests), grind (arith, nat_tests))

class_sign : (b : ℕ) → in_class b ≡ true → IsNameSign b
class_sign b e = (grind (arith, nat_tests), grind (arith, nat_tests))

tag_sign : (b : ℕ) → in_tag b ≡ true → IsNameSign b
tag_sign b e = (grind (arith, nat_tests), grind (arith, nat_tests))

more_written : (bs rest : List ℕ) → after_more_class bs ≡ Some rest → Written bs rest
unfolding after_more_class
more_written bs rest e =
    let b = bind_some (after (codes "::") bs) after_class_part rest e in
    let colon : IsNameSign 58 = (omega arith, refl) in
    written_then bs b.0 rest (codes "::", after_is_front (codes "::") bs b.0 b.1, (colon.0, colon.1, (colon.0, colon.1, tt))) (word_written is_capital in_class capital_sign class_sign b.0 rest b.2)

pieces_written : (piece : List ℕ → Option (List ℕ)) → Moves piece → ((bs rest : List ℕ) → piece bs ≡ Some rest → Written bs rest) → (n : ℕ) (bs : List ℕ) → length bs ≤ n → Written bs (after_pieces piece 0 bs)
pieces_written piece moves written zero [] l = ([], refl, tt)
pieces_written piece moves written zero (b ∷ bs) l = absurd (omega (arith, l))
pieces_written piece moves written (suc n) bs l = by_piece (piece bs) refl (λ rest g. pieces_written piece moves written n rest g) where
  by_piece : (o : Option (List ℕ)) → piece bs ≡ o → ((rest : List ℕ) → length rest ≤ n → Written rest (after_pieces piece 0 rest)) → Written bs (after_pieces piece 0 bs)
  by_piece None e more = subst (Written bs) (sym (piece_end piece bs e)) ([], refl, tt)
  by_piece (Some rest) e more =
      let s = moves bs rest e in
      let f = falls bs rest s in
      subst (Written bs) (sym (piece_step piece bs rest e s)) (written_then bs rest (after_pieces piece 0 rest) (written bs rest e) (more rest (omega (arith, l, f))))

class_written : (bs rest : List ℕ) → after_class bs ≡ Some rest → Written bs rest
unfolding after_class
class_written bs rest e =
    let b = bind_some (after_class_part bs) after_parts rest e in
    let l : length b.0 ≤ length b.0 = omega arith in
    written_then bs b.0 rest (word_written is_capital in_class capital_sign class_sign bs b.0 b.1)
    (subst (Written b.0) (some_is (after_pieces after_more_class 0 b.0) rest b.2) (pieces_written after_more_class more_class_moves more_written (length b.0) b.0 l))

one_written : (o p : Option (List ℕ)) (bs rest : List ℕ) → (o ≡ Some rest → Written bs rest) → (p ≡ Some rest → Written bs rest) → or_else o p ≡ Some rest → Written bs rest
one_written None p bs rest f g e = g e
one_written (Some x) p bs rest f g e = f e

element_written : (bs rest : List ℕ) → after_element_name bs ≡ Some rest → Written bs rest
unfolding after_element_name
element_written bs rest e = one_written (after_tag bs) (after_class bs) bs rest (word_written is_small in_tag small_sign tag_sign bs rest) (class_written bs rest) e

name_sign : (b : ℕ) → in_name b ≡ true → IsNameSign b
name_sign b e = (grind (arith, nat_tests), grind (arith, nat_tests))

start_sign : (b : ℕ) → starts_name b ≡ true → IsNameSign b
start_sign b e = (grind (arith, nat_tests), grind (arith, nat_tests))

rest_good : (n : Text) → list_all in_name n ≡ true → IsTagName n
rest_good [] e = tt
rest_good (c ∷ cs) e = let k = both (in_name c) (list_all in_name cs) e in let q = name_sign c k.0 in (q.0, q.1, rest_good cs k.1)

name_good : (n : Text) → is_name n ≡ true → IsTagName n
name_good [] e = tt
name_good (c ∷ cs) e = let k = both (starts_name c) (list_all in_name cs) e in let q = start_sign c k.0 in (q.0, q.1, rest_good cs k.1)

slot_written : (bs rest : List ℕ) → after_slot_name bs ≡ Some rest → Written bs rest
unfolding after_slot_name
slot_written bs rest e =
    let b = bind_some (after (codes ":") bs) after_block_name rest e in
    let colon : IsNameSign 58 = (omega arith, refl) in
    let r = block_read b.0 rest b.2 in
    written_then bs b.0 rest (codes ":", after_is_front (codes ":") bs b.0 b.1, (colon.0, colon.1, tt)) (r.0, r.1, name_good r.0 (both (is_name r.0) _ r.2).0)

label_written : (bs rest : List ℕ) → after_label bs ≡ Some rest → Written bs rest
unfolding after_label
label_written bs rest e = one_written (after_element_name bs) (after_slot_name bs) bs rest (element_written bs rest) (slot_written bs rest) e

opening_written : (bs rest : List ℕ) → after_tag_opening bs ≡ Some rest → (n : List ℕ) × (bs ≡ (60 ∷ n) ++ rest) × IsTagName n
unfolding after_tag_opening
opening_written bs rest e =
    let b = bind_some (after (codes "<") bs) after_label rest e in
    let w = label_written b.0 rest b.2 in
    (w.0, after_is_front (codes "<") bs b.0 b.1 ∙ ap (λ l. 60 ∷ l) w.1, w.2)

-- Which tokens open tags.

abbrev Opens : List ℕ → Option Found → Type 0
Opens bs o = (f : Found) → o ≡ Some f → f.0 ≡ k.TagOpening → after_tag_opening bs ≡ Some f.1

abbrev AllOpen : List ℕ → List (Option Found) → Type 0
AllOpen bs [] = Unit {0}
AllOpen bs (o ∷ os) = Opens bs o × AllOpen bs os

found_kind : (kind : TokenKind) (next : Mode) (o : Option (List ℕ)) (f : Found) → found kind next o ≡ Some f → kind ≡ f.0
found_kind kind next None f e = cc
found_kind kind next (Some x) f e = cc

other : (bs : List ℕ) (kind : TokenKind) (next : Mode) (o : Option (List ℕ)) → same_kind kind k.TagOpening ≡ false → Opens bs (found kind next o)
other bs kind next o differs f e is =
    let yes : same_kind kind k.TagOpening ≡ true = ap (λ x. same_kind x k.TagOpening) (found_kind kind next o f e ∙ is) in
    let r : true ≡ false = sym yes ∙ differs in
    cc

opens : (bs : List ℕ) → Opens bs (found k.TagOpening m.Tag (after_tag_opening bs))
opens bs f e is = found_left k.TagOpening m.Tag (after_tag_opening bs) f e

forms_open : (mode : Mode) (bs : List ℕ) → AllOpen bs (forms mode bs)
forms_open m.Content bs =
    (other bs k.Text _ _ refl, (other bs k.HtmlComment _ _ refl, (other bs k.EndTag _ _ refl, (opens bs, (other bs k.MustacheComment _ _ refl, (other bs k.MustacheComment _ _ refl, (other bs k.OpenBlock _ _ refl, (other bs k.OpenClosing _ _ refl, (other bs k.OpenMustache _ _ refl, tt)))))))))
forms_open m.Tag bs =
    (other bs k.Parameters _ _ refl, (other bs k.Attribute _ _ refl, (other bs k.Argument _ _ refl, (other bs k.Spread _ _ refl, (other bs k.Equals _ _ refl, (other bs k.TagEnd _ _ refl, (other bs k.SelfEnd _ _ refl, (other bs k.MustacheComment _ _ refl, (other bs k.MustacheComment _ _ refl, (other bs k.OpenMustache _ _ refl, tt))))))))))
forms_open m.Equals bs = (other bs k.Unquoted _ _ refl, (other bs k.OpenQuote _ _ refl, (other bs k.OpenQuote _ _ refl, (other bs k.OpenMustache _ _ refl, tt))))
forms_open m.ValueEnd bs = (other bs k.TagEnd _ _ refl, (other bs k.SelfEnd _ _ refl, tt))
forms_open (m.Value q) bs = (other bs k.CloseQuote _ _ refl, (other bs k.Text _ _ refl, (other bs k.OpenMustache _ _ refl, tt)))
forms_open (m.Mustache around) bs =
    (other bs k.Parameters _ _ refl, (other bs k.Path _ _ refl, (other bs k.Number _ _ refl, (other bs k.StringLit _ _ refl, (other bs k.StringLit _ _ refl, (other bs k.OpenParen _ _ refl, (other bs k.CloseParen _ _ refl, (other bs k.Equals _ _ refl, (other bs k.CloseMustache _ _ refl, tt)))))))))
forms_open m.Expression bs =
    (other bs k.Parameters _ _ refl, (other bs k.Path _ _ refl, (other bs k.Number _ _ refl, (other bs k.StringLit _ _ refl, (other bs k.StringLit _ _ refl, (other bs k.OpenParen _ _ refl, (other bs k.CloseParen _ _ refl, (other bs k.Equals _ _ refl, tt))))))))

one_opens : (bs : List ℕ) (os : List (Option Found)) (f : Found) → AllOpen bs os → IsOneOf f os → f.0 ≡ k.TagOpening → after_tag_opening bs ≡ Some f.1
one_opens bs [] f all is e = absurd is
one_opens bs (o ∷ os) f all (inl h) e = all.0 f h e
one_opens bs (o ∷ os) f all (inr h) e = one_opens bs os f all.1 h e

-- The tokens of a text.

read_front : (xs ys : List ℕ) → take (length (xs ++ ys) - length ys) (xs ++ ys) ≡ xs
read_front xs ys =
    let l = length-append xs ys in
    let n : length (xs ++ ys) - length ys ≡ length xs = omega (arith, l) in
    ap (λ i. take i (xs ++ ys)) n ∙ take-append_seam xs ys

name_ascii : (n : Text) → IsTagName n → is_ascii_text n ≡ true
name_ascii [] h = refl
name_ascii (c ∷ cs) (low, inside, more) = let e = name_ascii cs more in grind (arith, nat_tests)

token_good : (mode : Mode) (at : ℕ) (bs : List ℕ) (f : Found) → token mode bs ≡ Some f → IsGood (token_at at bs f)
token_good mode at bs f e is n text =
    let p = opening_written bs f.1 (one_opens bs (forms mode bs) f (forms_open mode bs) (token_longest mode bs f e).0 is) in
    let part : take (width bs f) bs ≡ 60 ∷ p.0 = ap (λ l. take (length l - length f.1) l) p.1 ∙ read_front (60 ∷ p.0) f.1 in
    let read : chars (take (width bs f) bs) ≡ 60 ∷ p.0 = ap chars part ∙ chars_of_ascii (60 ∷ p.0) (name_ascii p.0 p.2) in
    let both : 60 ∷ p.0 ≡ 60 ∷ n = sym read ∙ text in
    let same : p.0 ≡ n = cc in
    subst IsTagName same p.2

found_good : (mode : Mode) (at b : ℕ) (bs : List ℕ) (o : Option Found) → token mode (b ∷ bs) ≡ o → ((next : Mode) (n : ℕ) → AreGood (front_from next n (at + 1) bs).0)
    → AreGood (front_or ([], Some (stop_at mode at (b ∷ bs))) (λ f. with_front (token_at at (b ∷ bs) f ∷ []) (front_from f.2 (width (b ∷ bs) f - 1) (at + 1) bs)) o).0
found_good mode at b bs None e more = tt
found_good mode at b bs (Some f) e more = (token_good mode at (b ∷ bs) f e, more f.2 (width (b ∷ bs) f - 1))

white_good : (mode : Mode) (at b : ℕ) (bs : List ℕ) (t : Bool) → ((next : Mode) (n : ℕ) → AreGood (front_from next n (at + 1) bs).0)
    → AreGood (if t then front_from (spaced mode) zero (at + 1) bs
    else front_or ([], Some (stop_at mode at (b ∷ bs))) (λ f. with_front (token_at at (b ∷ bs) f ∷ []) (front_from f.2 (width (b ∷ bs) f - 1) (at + 1) bs)) (token mode (b ∷ bs))).0
white_good mode at b bs true more = more (spaced mode) zero
white_good mode at b bs false more = found_good mode at b bs (token mode (b ∷ bs)) refl more

pub front_good : (mode : Mode) (skipped at : ℕ) (bs : List ℕ) → AreGood (front_from mode skipped at bs).0
front_good mode skipped at [] = tt
front_good mode (suc skipped) at (b ∷ bs) = front_good mode skipped (at + 1) bs
front_good mode zero at (b ∷ bs) = white_good mode at b bs (stands_white mode (b ∷ bs)) (λ next n. front_good next n (at + 1) bs)

text_opens_none : (kind : TokenKind) → is_text kind ≡ true → kind ≡ k.TagOpening → ⊥
text_opens_none kind e f = let other_kind : is_text kind ≡ false = ap is_text f in let r : true ≡ false = sym e ∙ other_kind in cc

-- white-space control leaves them as they are
settled_one : (bs : List ℕ) (tag : Bool) (front : Edge) (t : Token) (ts : List Token) → IsGood t → IsGood (settled_token bs tag front t ts)
settled_one bs tag front t ts good = by_kind tag (is_text t.kind) refl where
  by_kind : (a b : Bool) → is_text t.kind ≡ b → IsGood (if not a && b then record t { text = chars (kept front (next_edge bs ts) (bytes_of t.text)) } else t)
  by_kind true b e = good
  by_kind false true e = λ f. absurd (text_opens_none t.kind e f)
  by_kind false false e = good

settle_good : (bs : List ℕ) (tag : Bool) (front : Edge) (ts : List Token) → AreGood ts → AreGood (settle_from bs tag front ts)
settle_good bs tag front [] good = tt
settle_good bs tag front (t ∷ ts) good = (settled_one bs tag front t ts good.0, settle_good bs (within_tag tag t.kind) (edge_after bs tag front t ts) ts good.1)

pub settled_good : (bs : List ℕ) (ts : List Token) → AreGood ts → AreGood (settled bs ts)
unfolding settled
settled_good bs ts good = settle_good bs false Keep ts good
