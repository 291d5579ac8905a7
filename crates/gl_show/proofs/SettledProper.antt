-- What is left of a text is a text, and decoded it is one as well.
use Rattle.std.proofs.Common.{◌≡◌, ◌<◌, ◌≤◌, ◌+◌, inl, inr, ℕ, zero, suc, List, [], ◌∷◌, ◌++◌, Bool, true, false, Option, Some, None, cond, eqb, ltb, length, take, drop, refl, sym, ap, subst, ◌∙◌, append_assoc, length-append, arith}
use Rattle.std.specs.Prelude.{◌&&◌, ◌||◌, ◌==◌, not, nat_lt, codes, encode_utf8, is_some}
use Rattle.std.specs.List.{list_all, prefix_len}
use Rattle.std.specs.Str.{chars, all_scalars, bytes_eq}
use lib.Utf8.{scalar}
use Rattle.std.proofs.Math.Seq.{drop-append_seam}
use Rattle.std.proofs.lemmas.Bool.Decides.{nat_tests}
use Rattle.std.proofs.lemmas.Str.{chars-encodes, encode_ascii}
use Rattle.gl_base.specs.Names.{named}
use Rattle.gl_base.specs.Texts.{Text, bytes_of}
use Rattle.gl_ast.specs.Grammar.{is_empty_text}
use Rattle.gl_ast.specs.Marks.{is_white, is_blank, is_digit}
use Rattle.gl_ast.specs.References.{references}
use Rattle.gl_ast.specs.Scans.{begins}
use Rattle.gl_ast.specs.Settling.{strips, break_width, front_width, in_back, removed, kept_from, kept, is_text, within_tag, next_edge, edge_after, settled_token, settle_from, settled}
use Rattle.gl_ast.specs.TokenText.{decoded, decoded_from, reference_or_sign, reference_in, reference_code, numeric_code, decimal_code, hex_code, referable, is_referable, has_char, up_to, is_hex, hex_from}
use Rattle.gl_ast.specs.Words.{number_from}
use Rattle.gl_ast.specs.declared.edge.Edge.{Edge}
use Rattle.gl_ast.specs.declared.edge.Edge.TheVariants.{Keep, Line, White}
use Rattle.gl_ast.specs.declared.token.Token.{Token}
use Rattle.gl_ast.specs.declared.token.TokenKind.{TokenKind}
use Rattle.gl_ast.specs.declared.token.TokenKind.TheVariants as k
use Rattle.gl_ast.proofs.Forward.{both}
use Rattle.gl_show.proofs.ProperTokens.{AreProper, begins_text}
use Rattle.gl_show.proofs.Scanning.{one_of}
use Rattle.gl_show.proofs.Strings.{all_high, high_bytes}
use Rattle.gl_show.proofs.TokenForms.{IsProper}

-- decoded texts
referable_scalar : (n : ℕ) → is_referable n ≡ true → scalar n ≡ true
referable_scalar n e = grind (arith, nat_tests)

referable_is : (m n : ℕ) → referable m ≡ Some n → scalar n ≡ true
referable_is m n e = test_case (is_referable m) refl e
  where
    test_case : (t : Bool) → is_referable m ≡ t → cond t (Some m) None ≡ Some n → scalar n ≡ true
    test_case true h g = let same : m ≡ n = cc in subst (λ (x : ℕ). scalar x ≡ true) same (referable_scalar m h)
    test_case false h g = cc

guarded : (t : Bool) (o : Option ℕ) (n : ℕ) → ((m : ℕ) → o ≡ Some m → scalar m ≡ true) → cond t o None ≡ Some n → scalar n ≡ true
guarded true o n f e = f n e
guarded false o n f e = cc

decimal_scalar : (cs : Text) (n : ℕ) → decimal_code cs ≡ Some n → scalar n ≡ true
decimal_scalar cs n e = guarded (list_all is_digit cs && nat_lt 0 (length cs)) (referable (number_from 0 cs)) n (λ m h. referable_is (number_from 0 cs) m h) e

hex_scalar : (cs : Text) (n : ℕ) → hex_code cs ≡ Some n → scalar n ≡ true
hex_scalar cs n e = guarded (list_all is_hex cs && nat_lt 0 (length cs)) (referable (hex_from 0 cs)) n (λ m h. referable_is (hex_from 0 cs) m h) e

chosen : (t : Bool) (o p : Option ℕ) (n : ℕ) → (o ≡ Some n → scalar n ≡ true) → (p ≡ Some n → scalar n ≡ true) → cond t o p ≡ Some n → scalar n ≡ true
chosen true o p n f g e = f e
chosen false o p n f g e = g e

numeric_scalar : (cs : Text) (n : ℕ) → numeric_code cs ≡ Some n → scalar n ≡ true
numeric_scalar [] n e = cc
numeric_scalar (c ∷ cs) n e = chosen (c == 120 || c == 88) (hex_code cs) (decimal_code (c ∷ cs)) n (hex_scalar cs n) (decimal_scalar (c ∷ cs) n) e

named_scalar : (x : Text) (rows : List (Text × ℕ)) (n : ℕ) → list_all (λ r. scalar r.1) rows ≡ true → named x rows ≡ Some n → scalar n ≡ true
named_scalar x [] n a e = cc
named_scalar x (r ∷ rows) n a e =
    let h = both (scalar r.1) (list_all (λ r. scalar r.1) rows) a in
    chosen (bytes_eq x r.0) (Some r.1) (named x rows) n (λ g. let same : r.1 ≡ n = cc in subst (λ (y : ℕ). scalar y ≡ true) same h.0) (named_scalar x rows n h.1) e

references_scalar : list_all (λ r. scalar r.1) references ≡ true
unfolding references
references_scalar = refl

code_scalar : (cs : Text) (n : ℕ) → reference_code cs ≡ Some n → scalar n ≡ true
code_scalar [] n e = cc
code_scalar (c ∷ cs) n e = chosen (c == 35) (numeric_code cs) (named (c ∷ cs) references) n (numeric_scalar cs n) (named_scalar (c ∷ cs) references n references_scalar) e

sign_scalar : (cs : Text) (o : Option ℕ) → ((n : ℕ) → o ≡ Some n → scalar n ≡ true) → scalar (reference_or_sign o cs).0 ≡ true
sign_scalar cs None f = refl
sign_scalar cs (Some n) f = f n refl

in_scalar : (cs : Text) (n : ℕ) → reference_in cs ≡ Some n → scalar n ≡ true
in_scalar cs n e = guarded (has_char 59 cs) (reference_code (up_to 59 cs)) n (λ m h. code_scalar (up_to 59 cs) m h) e

from_scalars : (skipped : ℕ) (cs : Text) → all_scalars cs ≡ true → all_scalars (decoded_from skipped cs) ≡ true
from_scalars zero [] a = refl
from_scalars (suc n) [] a = refl
from_scalars (suc n) (c ∷ cs) a = from_scalars n cs (both (scalar c) (all_scalars cs) a).1
from_scalars zero (c ∷ cs) a =
    let h = both (scalar c) (all_scalars cs) a in
    and_case (c == 38) h.0 (sign_scalar cs (reference_in cs) (in_scalar cs)) (from_scalars (reference_or_sign (reference_in cs) cs).1 cs h.1) (from_scalars zero cs h.1)
  where
    and_case : (t : Bool) → scalar c ≡ true → scalar (reference_or_sign (reference_in cs) cs).0 ≡ true → all_scalars (decoded_from (reference_or_sign (reference_in cs) cs).1 cs) ≡ true → all_scalars (decoded_from zero cs) ≡ true
        → all_scalars (cond t ((reference_or_sign (reference_in cs) cs).0 ∷ decoded_from (reference_or_sign (reference_in cs) cs).1 cs) (c ∷ decoded_from zero cs)) ≡ true
    and_case true s g more other = rw g more
    and_case false s g more other = rw s other

pub decoded_scalars : (cs : Text) → all_scalars cs ≡ true → all_scalars (decoded cs) ≡ true
unfolding decoded
decoded_scalars cs a = from_scalars zero cs a

pub decoded_some : (cs : Text) → is_empty_text cs ≡ false → is_empty_text (decoded cs) ≡ false
unfolding decoded
decoded_some [] e = cc
decoded_some (c ∷ cs) e = and_case (c == 38)
  where
    and_case : (t : Bool) → is_empty_text (cond t ((reference_or_sign (reference_in cs) cs).0 ∷ decoded_from (reference_or_sign (reference_in cs) cs).1 cs) (c ∷ decoded_from zero cs)) ≡ false
    and_case true = refl
    and_case false = refl

-- only white space is removed
blank_white : (b : ℕ) → is_blank b ≡ true → is_white b ≡ true
blank_white b e = grind (arith, nat_tests)

prefix_white : (p : ℕ → Bool) → ((b : ℕ) → p b ≡ true → is_white b ≡ true) → (text : List ℕ) → list_all is_white (take (prefix_len p text) text) ≡ true
prefix_white p h [] = refl
prefix_white p h (b ∷ bs) = test_case (p b) refl (prefix_white p h bs)
  where
    test_case : (t : Bool) → p b ≡ t → list_all is_white (take (prefix_len p bs) bs) ≡ true → list_all is_white (take (cond t (1 + prefix_len p bs) 0) (b ∷ bs)) ≡ true
    test_case true e more = let one : 1 + prefix_len p bs ≡ suc (prefix_len p bs) = omega arith in let w = h b e in rw (one, w) more
    test_case false e more = refl

ten_white : (b : ℕ) → (b == 10) ≡ true → is_white b ≡ true
ten_white b e = grind (arith, nat_tests)

break_white : (b : ℕ) (bs : List ℕ) → list_all is_white (take (break_width (b ∷ bs)) (b ∷ bs)) ≡ true
break_white b bs = ten_case (b == 10) refl
  where
    line_first : (bs : List ℕ) → begins (codes "\n") bs ≡ true → list_all is_white (take 1 bs) ≡ true
    line_first [] e = cc
    line_first (c ∷ cs) e = same_case (eqb 10 c) refl e
      where
        same_case : (t : Bool) → eqb 10 c ≡ t → is_some (cond t (Some cs) None) ≡ true → list_all is_white (take 1 (c ∷ cs)) ≡ true
        same_case true h g = let w : is_white c ≡ true = grind (arith, nat_tests) in rw w refl
        same_case false h g = cc

    return_case : (t s : Bool) → (b == 13) ≡ t → begins (codes "\n") bs ≡ s → list_all is_white (take (cond (t && s) 2 0) (b ∷ bs)) ≡ true
    return_case true true e h = let w : is_white b ≡ true = grind (arith, nat_tests) in ap (λ x. x && list_all is_white (take 1 bs)) w ∙ line_first bs h
    return_case true false e h = refl
    return_case false s e h = refl

    ten_case : (t : Bool) → (b == 10) ≡ t → list_all is_white (take (cond t 1 (cond (b == 13 && begins (codes "\n") bs) 2 0)) (b ∷ bs)) ≡ true
    ten_case true e = let w = ten_white b e in rw w refl
    ten_case false e = return_case (b == 13) (begins (codes "\n") bs) refl refl

line_white : (text : List ℕ) → list_all is_white (take (prefix_len is_blank text + break_width (drop (prefix_len is_blank text) text)) text) ≡ true
line_white [] = refl
line_white (b ∷ bs) = blank_case (is_blank b) refl (line_white bs)
  where
    blank_case : (t : Bool) → is_blank b ≡ t → list_all is_white (take (prefix_len is_blank bs + break_width (drop (prefix_len is_blank bs) bs)) bs) ≡ true
        → list_all is_white (take (cond t (1 + prefix_len is_blank bs) 0 + break_width (drop (cond t (1 + prefix_len is_blank bs) 0) (b ∷ bs))) (b ∷ bs)) ≡ true
    blank_case true e more =
        let one : 1 + prefix_len is_blank bs ≡ suc (prefix_len is_blank bs) = omega arith in
        let two : suc (prefix_len is_blank bs) + break_width (drop (prefix_len is_blank bs) bs) ≡ suc (prefix_len is_blank bs + break_width (drop (prefix_len is_blank bs) bs)) = omega arith in
        let w = blank_white b e in
        ap (λ n. list_all is_white (take (n + break_width (drop n (b ∷ bs))) (b ∷ bs))) one ∙ ap (λ n. list_all is_white (take n (b ∷ bs))) two ∙ rw w more
    blank_case false e more = let z : 0 + break_width (b ∷ bs) ≡ break_width (b ∷ bs) = omega arith in ap (λ n. list_all is_white (take n (b ∷ bs))) z ∙ break_white b bs

front_white : (e : Edge) (text : List ℕ) → list_all is_white (take (front_width e text) text) ≡ true
front_white Keep text = refl
front_white White text = prefix_white is_white (λ b h. h) text
front_white Line text = line_white text

white_at : (n : ℕ) (text : List ℕ) (place b : ℕ) (bs : List ℕ) → list_all is_white (take n text) ≡ true → place < n → drop place text ≡ b ∷ bs → is_white b ≡ true
white_at zero text place b bs a h e = absurd (omega arith)
white_at (suc n) [] zero b bs a h e = cc
white_at (suc n) [] (suc place) b bs a h e = cc
white_at (suc n) (x ∷ xs) zero b bs a h e = let same : x ≡ b = cc in subst (λ (y : ℕ). is_white y ≡ true) same (both (is_white x) (list_all is_white (take n xs)) a).0
white_at (suc n) (x ∷ xs) (suc place) b bs a h e = let less : place < n = omega arith in white_at n xs place b bs (both (is_white x) (list_all is_white (take n xs)) a).1 less e

strips_white : (e : Edge) (b : ℕ) → strips e b ≡ true → is_white b ≡ true
strips_white Keep b h = cc
strips_white Line b h = blank_white b h
strips_white White b h = h

removed_white : (front back : Edge) (text : List ℕ) (place b : ℕ) (bs : List ℕ) → drop place text ≡ b ∷ bs → removed front back text place ≡ true → is_white b ≡ true
removed_white front back text place b bs e h = elim (one_of (nat_lt place (front_width front text)) (in_back back text place) h) [
  | inl g ↦ let less : place < front_width front text = grind (arith, nat_tests) in white_at (front_width front text) text place b bs (front_white front text) less e
  | inr g ↦ strips_white back b (both (strips back b) (list_all (strips back) bs) (ap (λ l. list_all (strips back) l) (sym e) ∙ g)).0
]

-- so bytes that are not ASCII are kept
kept_high : (front back : Edge) (text before bs rest : List ℕ) (place : ℕ) → text ≡ before ++ (bs ++ rest) → place ≡ length before → all_high bs ≡ true → kept_from front back text place (bs ++ rest) ≡ bs ++ kept_from front back text (place + length bs) rest
kept_high front back text before [] rest place e p a = let z : place ≡ place + 0 = omega arith in ap (λ n. kept_from front back text n rest) z
kept_high front back text before (b ∷ bs) rest place e p a =
    let h = both (not (ltb b 128)) (all_high bs) a in
    let here : drop place text ≡ b ∷ (bs ++ rest) = ap (λ n. drop n text) p ∙ ap (λ l. drop (length before) l) e ∙ drop-append_seam before (b ∷ (bs ++ rest)) in
    let no : removed front back text place ≡ false = not_removed (removed front back text place) refl here h.0 in
    let next : text ≡ (before ++ b ∷ []) ++ (bs ++ rest) = e ∙ sym (append_assoc before (b ∷ []) (bs ++ rest)) in
    let at : place + 1 ≡ length (before ++ b ∷ []) = omega (arith, length-append before (b ∷ [])) in
    let size : place + 1 + length bs ≡ place + length (b ∷ bs) = omega arith in
    ap (λ x. cond x (kept_from front back text (place + 1) (bs ++ rest)) (b ∷ kept_from front back text (place + 1) (bs ++ rest))) no
    ∙ ap (λ l. b ∷ l) (kept_high front back text (before ++ b ∷ []) bs rest (place + 1) next at h.1 ∙ ap (λ n. bs ++ kept_from front back text n rest) size)
  where
    not_removed : (t : Bool) → removed front back text place ≡ t → drop place text ≡ b ∷ (bs ++ rest) → not (ltb b 128) ≡ true → t ≡ false
    not_removed true r d l = let w = removed_white front back text place b (bs ++ rest) d r in absurd (high_no_white b w l)
      where
        high_no_white : (b : ℕ) → is_white b ≡ true → not (ltb b 128) ≡ true → ⊥
        high_no_white b w l = let x : is_white b ≡ false = grind (arith, nat_tests) in cc
    not_removed false r d l = refl

-- what is kept of a text's bytes are the bytes of a text
abbrev pub IsKept : Edge → Edge → List ℕ → ℕ → List ℕ → Type 0
IsKept front back text place bs = (ds : Text) × (all_scalars ds ≡ true) × (kept_from front back text place bs ≡ bytes_of ds)

kept_text : (front back : Edge) (text before : List ℕ) (cs : Text) (place : ℕ) → text ≡ before ++ bytes_of cs → place ≡ length before → all_scalars cs ≡ true → IsKept front back text place (bytes_of cs)
kept_text front back text before [] place e p a = ([], refl, refl)
kept_text front back text before (c ∷ cs) place e p a =
    let h = both (scalar c) (all_scalars cs) a in
    let whole : text ≡ (before ++ encode_utf8 c) ++ bytes_of cs = e ∙ sym (append_assoc before (encode_utf8 c) (bytes_of cs)) in
    let at : place + length (encode_utf8 c) ≡ length (before ++ encode_utf8 c) = omega (arith, length-append before (encode_utf8 c)) in
    low_case (ltb c 128) refl h.0 (kept_text front back text (before ++ encode_utf8 c) cs (place + length (encode_utf8 c)) whole at h.1)
  where
    removed_case : (t : Bool) (n : ℕ) → scalar c ≡ true → c < 128 → IsKept front back text n (bytes_of cs) → (ds : Text) × (all_scalars ds ≡ true) × (cond t (kept_from front back text n (bytes_of cs)) (c ∷ kept_from front back text n (bytes_of cs)) ≡ bytes_of ds)
    removed_case true n s l more = more
    removed_case false n s l more = (c ∷ more.0, rw s more.1, ap (λ x. c ∷ x) more.2 ∙ ap (λ x. x ++ bytes_of more.0) (sym (encode_ascii c l)))

    low_case : (t : Bool) → ltb c 128 ≡ t → scalar c ≡ true → IsKept front back text (place + length (encode_utf8 c)) (bytes_of cs) → IsKept front back text place (encode_utf8 c ++ bytes_of cs)
    low_case true l s more =
        let n : c < 128 = grind (arith, nat_tests) in
        let one : place + length (encode_utf8 c) ≡ place + 1 = ap (λ x. place + length x) (encode_ascii c n) in
        let moved : IsKept front back text (place + 1) (bytes_of cs) = subst (λ (x : ℕ). IsKept front back text x (bytes_of cs)) one more in
        subst (λ (x : List ℕ). IsKept front back text place (x ++ bytes_of cs)) (sym (encode_ascii c n)) (removed_case (removed front back text place) (place + 1) s n moved)
    low_case false l s more =
        let n : 128 ≤ c = grind (arith, nat_tests) in
        (c ∷ more.0, rw s more.1, kept_high front back text before (encode_utf8 c) (bytes_of cs) place e p (high_bytes c n) ∙ ap (λ x. encode_utf8 c ++ x) more.2)

kept_scalars : (front back : Edge) (cs : Text) → all_scalars cs ≡ true → all_scalars (chars (kept front back (bytes_of cs))) ≡ true
kept_scalars front back cs a =
    let r = kept_text front back (bytes_of cs) [] cs 0 refl refl a in
    ap (λ l. all_scalars (chars l)) r.2 ∙ ap all_scalars (chars-encodes r.0 r.1) ∙ r.1

-- settled tokens have texts of their kinds
token_settled : (bs : List ℕ) (tag : Bool) (front : Edge) (t : Token) (ts : List Token) → (settled_token bs tag front t ts).kind ≡ t.kind
token_settled bs tag front t ts = kind_case (not tag && is_text t.kind)
  where
    kind_case : (x : Bool) → (cond x (record t { text = chars (kept front (next_edge bs ts) (bytes_of t.text)) }) t).kind ≡ t.kind
    kind_case true = refl
    kind_case false = refl

settled_begins : (bs : List ℕ) (tag : Bool) (front : Edge) (ts : List Token) → begins_text (settle_from bs tag front ts) ≡ begins_text ts
settled_begins bs tag front [] = refl
settled_begins bs tag front (t ∷ ts) = ap is_text (token_settled bs tag front t ts)

-- a text is of scalars, and any such text is one
text_in : (kind : TokenKind) (x : Text) → is_text kind ≡ true → IsProper kind x → all_scalars x ≡ true
text_in k.Text x e p = p
text_in _ x e p = cc

text_out : (kind : TokenKind) (x : Text) → is_text kind ≡ true → all_scalars x ≡ true → IsProper kind x
text_out k.Text x e p = p
text_out _ x e p = cc

token_proper : (bs : List ℕ) (tag : Bool) (front : Edge) (t : Token) (ts : List Token) → IsProper t.kind t.text → IsProper (settled_token bs tag front t ts).kind (settled_token bs tag front t ts).text
token_proper bs tag front t ts p = text_case tag (is_text t.kind) refl
  where
    text_case : (g x : Bool) → is_text t.kind ≡ x → IsProper (cond (not g && x) (record t { text = chars (kept front (next_edge bs ts) (bytes_of t.text)) }) t).kind (cond (not g && x) (record t { text = chars (kept front (next_edge bs ts) (bytes_of t.text)) }) t).text
    text_case true x e = p
    text_case false false e = p
    text_case false true e = text_out t.kind (chars (kept front (next_edge bs ts) (bytes_of t.text))) e (kept_scalars front (next_edge bs ts) t.text (text_in t.kind t.text e p))

pub settle_proper : (bs : List ℕ) (tag : Bool) (front : Edge) (ts : List Token) → AreProper ts → AreProper (settle_from bs tag front ts)
settle_proper bs tag front [] p = tt
settle_proper bs tag front (t ∷ ts) p = (
  token_proper bs tag front t ts p.0,
  λ e. settled_begins bs (within_tag tag t.kind) (edge_after bs tag front t ts) ts ∙ p.1 (ap is_text (sym (token_settled bs tag front t ts)) ∙ e),
  settle_proper bs (within_tag tag t.kind) (edge_after bs tag front t ts) ts p.2,
)

pub settled_proper : (bs : List ℕ) (ts : List Token) → AreProper ts → AreProper (settled bs ts)
unfolding settled
settled_proper bs ts p = settle_proper bs false Keep ts p
