-- Blocks and else: what is read is spelled, and what is spelled is read, where that holds of the bodies in them.
use Rattle.std.proofs.Common.{◌≡◌, ◌≤◌, ℕ, suc, List, [], ◌∷◌, Bool, true, false, ◌||◌, Some, None, cond, ◌⊎◌, inl, inr, length, refl, sym, ap, subst, ◌∙◌, arith}
use Rattle.std.specs.Prelude.{codes, nat_le}
use Rattle.std.specs.Str.{bytes_eq}
use Rattle.std.proofs.lemmas.Bool.Decides.{nat_tests}
use Rattle.gl_base.specs.Texts.{Text}
use Rattle.gl_ast.specs.Grammar.{deepest_calls, Mark, Word, IsExpr, AreExprs, IsStmt, AreStmts, IsElse, IsChained, IsKey, IsClosing, AreParameters, if_word, is_some_expr}
use Rattle.gl_ast.specs.Template.{Expr, Exprs, exprs_of, Stmt, if_stmt, each, let_stmt, Body, end, stmt}
use Rattle.gl_ast.specs.TokenText.{string_of}
use Rattle.gl_ast.specs.declared.token.Token.{Token}
use Rattle.gl_ast.specs.declared.token.TokenKind.{TokenKind}
use Rattle.gl_ast.specs.declared.token.TokenKind.TheVariants as k
use Rattle.gl_exprs.specs.ReadExpr.{read_expr, read_exprs, starts_expr}
use Rattle.gl_parse.specs.ReadStmt.{Reader, ends_body, stands_opened, only, read_parameters, read_key, read_two, read_opened, Front, if_front, each_front, let_front, some_values, read_if, read_each, read_let, read_front, read_after_body, read_head, read_after_else, read_else, word_of, take_closing, read_block}
use Rattle.gl_exprs.specs.Take.{same_kind, stands, stands_word, take_kind, take_word}
use Rattle.gl_exprs.proofs.ExprLists.{exprs_list, exprs_of-list, no_expr}
use Rattle.gl_exprs.proofs.FirstTokens.{took, took_mark, takes_mark, takes_some, took_word, takes_word, stands_mark, test_some, bytes_eq_is, is_bytes_eq, stands_is}
use Rattle.gl_parse.proofs.FlatLaws.{IsRead, opened_word, not_opened}
use Rattle.gl_parse.proofs.Lower.{read_expr_is, reads_expr, read_exprs_are, reads_exprs}
use Rattle.gl_parse.proofs.TagLaws.{Sound, Complete, read_parameters_are, reads_parameters}
use Rattle.gl_exprs.proofs.Takings.{first_gave, under_gave, one_gave, some_is}

-- an else, and the block that it has as its head
abbrev pub IsOtherwise : ℕ → List Token → Body → List Token → Type 0
IsOtherwise depth ts c us = IsElse (λ zs. AreStmts depth zs c) (λ zs. IsChained depth zs c) ts c us

abbrev pub IsHead : ℕ → List Token → Stmt → List Token → Type 0
IsHead depth ts s us = IsChained depth ts (only s) us

abbrev pub SoundHead : ℕ → Reader Stmt → Type 0
SoundHead depth chained = (ts : List Token) (p : Stmt × List Token) → chained ts ≡ Some p → IsHead depth ts p.0 p.1

abbrev pub SoundElse : ℕ → Reader Body → Type 0
SoundElse depth otherwise = (ts : List Token) (p : Body × List Token) → otherwise ts ≡ Some p → IsOtherwise depth ts p.0 p.1

pub at_most : (a b : ℕ) → nat_le a b ≡ true → a ≤ b
at_most a b e = grind (arith, nat_tests)

pub within : (a b : ℕ) → a ≤ b → nat_le a b ≡ true
within a b e = grind (arith, nat_tests)

no_path_no_word : (w : Text) (ts : List Token) → stands k.Path ts ≡ false → stands_word w ts ≡ false
unfolding stands stands_word
no_path_no_word w [] e = refl
no_path_no_word w (t ∷ ts) e = rw e refl

word_stands : (w : Text) (ts us : List Token) → Word w ts us → stands_word w ts ≡ true
unfolding stands_word
word_stands w ts us m = rw (m.1, m.2, is_bytes_eq w m.0.text (sym m.3)) refl

-- the key of an each
key_is : (ts : List Token) (p : Text × List Token) → read_key ts ≡ Some p → IsKey ts p.0 p.1
unfolding read_key
key_is ts p e =
    let P : Text × List Token → Type 0 = λ q. IsKey ts q.0 q.1 in
    elim (one_gave (stands_word (codes "key") ts) _ _ p e) [
      | inl h ↦ let word = first_gave (take_word (codes "key") ts) _ p h.1 in
          let mark = first_gave (take_kind k.Equals word.0) _ p word.2 in
          let key = first_gave (take_kind k.StringLit mark.0.1) _ p mark.2 in
          let t = took k.StringLit mark.0.1 key.0 key.1 in
          subst P (some_is _ _ key.2) (inr (word.0, mark.0.1, took_word (codes "key") ts word.0 word.1, took_mark k.Equals word.0 mark.0 mark.1, (t.0, t.1, t.2, ap string_of t.3)))
      | inr h ↦ subst P (some_is _ _ h.1) (inl (refl, refl))
    ]

reads_key : (ts : List Token) (key : Text) (us : List Token) → stands k.Path us ≡ false → IsKey ts key us → read_key ts ≡ Some (key, us)
unfolding read_key
reads_key ts key us none (inl (e, f)) = rw (e, no_path_no_word (codes "key") us none) (ap (λ (x : Text). Some (x, us)) (sym f))
reads_key ts key us none (inr (vs, ws, w, m, s)) =
    rw (word_stands (codes "key") ts vs w, takes_word (codes "key") ts vs w, takes_mark k.Equals vs ws m, takes_some k.StringLit _ ws us s) (ap (λ (x : Text). Some (x, us)) s.3)

two_are : (ts : List Token) (p : List Text × List Token) → read_two ts ≡ Some p → AreParameters ts p.0 p.1 × (length p.0 ≤ 2)
unfolding read_two
two_are ts p e =
    let names = first_gave (read_parameters ts) _ p e in
    let s = test_some (nat_le (length names.0.0) 2) _ p names.2 in
    let P : List Text × List Token → Type 0 = λ q. AreParameters ts q.0 q.1 × (length q.0 ≤ 2) in
    subst P (some_is _ _ s.1) (read_parameters_are ts names.0 names.1, at_most (length names.0.0) 2 s.0)

reads_two : (ts : List Token) (ns : List Text) (us : List Token) → stands k.Parameters us ≡ false → length ns ≤ 2 → AreParameters ts ns us → read_two ts ≡ Some (ns, us)
unfolding read_two
reads_two ts ns us none h are = rw (reads_parameters ts ns us none are, within (length ns) 2 h) refl

-- `}}` and a body
abbrev IsOpened : ℕ → List Token → Body → List Token → Type 0
IsOpened depth ts b us = (vs : List Token) × Mark k.CloseMustache ts vs × AreStmts depth vs b us

opened_is : (depth : ℕ) (inner : Reader Body) → Sound depth inner → (ts : List Token) (p : Body × List Token) → read_opened inner ts ≡ Some p → IsOpened depth ts p.0 p.1
unfolding read_opened
opened_is depth inner sound ts p e =
    let mark = first_gave (take_kind k.CloseMustache ts) _ p e in
    (mark.0.1, took_mark k.CloseMustache ts mark.0 mark.1, sound mark.0.1 p mark.2)

reads_opened : (depth : ℕ) (inner : Reader Body) → Complete depth inner → (ts vs : List Token) (b : Body) (us : List Token) → ends_body us ≡ true → Mark k.CloseMustache ts vs → AreStmts depth vs b us → read_opened inner ts ≡ Some (b, us)
unfolding read_opened
reads_opened depth inner complete ts vs b us ends m i = rw (takes_mark k.CloseMustache ts vs m) (complete vs b us ends i)

abbrev pub IsHeadRead : ℕ → List Token → Stmt × List Token → Type 0
IsHeadRead depth ts p = IsHead depth ts p.0 p.1

-- what stands in a block up to its `}}`
abbrev IsFront : List Token → Front → List Token → Type 0
IsFront ts (if_front e unless) us = (vs : List Token) × Word (if_word unless) ts vs × IsExpr deepest_calls vs e us
IsFront ts (each_front e key ns) us = (length ns ≤ 2) × ((vs ws xs : List Token) × Word (codes "each") ts vs × IsExpr deepest_calls vs e ws × IsKey ws key xs × AreParameters xs ns us)
IsFront ts (let_front es ns) us = (is_some_expr es ≡ true) × ((vs ws : List Token) × Word (codes "let") ts vs × AreExprs deepest_calls vs es ws × AreParameters ws ns us)

abbrev FrontIs : List Token → Front × List Token → Type 0
FrontIs ts p = IsFront ts p.0 p.1

if_is : (unless : Bool) (all ts : List Token) → Word (if_word unless) all ts → (p : Front × List Token) → read_if unless ts ≡ Some p → FrontIs all p
unfolding read_if
if_is unless all ts w p e = let test = under_gave _ (read_expr deepest_calls ts) p e in subst (FrontIs all) test.2 (ts, w, read_expr_is deepest_calls ts test.0.0 test.0.1 test.1)

each_is : (all ts : List Token) → Word (codes "each") all ts → (p : Front × List Token) → read_each ts ≡ Some p → FrontIs all p
unfolding read_each
each_is all ts w p e =
    let items = first_gave (read_expr deepest_calls ts) _ p e in
    let key = first_gave (read_key items.0.1) _ p items.2 in
    let names = first_gave (read_two key.0.1) _ p key.2 in
    let two = two_are key.0.1 names.0 names.1 in
    subst (FrontIs all) (some_is _ _ names.2)
    (two.1, (ts, items.0.1, key.0.1, w, read_expr_is deepest_calls ts items.0.0 items.0.1 items.1, key_is items.0.1 key.0 key.1, two.0))

some_exprs : (es : List Expr) → is_some_expr (exprs_of es) ≡ some_values es
some_exprs [] = refl
some_exprs (e ∷ es) = refl

let_is : (all ts : List Token) → Word (codes "let") all ts → (p : Front × List Token) → read_let ts ≡ Some p → FrontIs all p
unfolding read_let
let_is all ts w p e =
    let values = first_gave (read_exprs (read_expr deepest_calls) (length ts) ts) _ p e in
    let names = first_gave (cond (some_values values.0.0) (read_parameters values.0.1) None) _ p values.2 in
    let s = test_some (some_values values.0.0) (read_parameters values.0.1) names.0 names.1 in
    subst (FrontIs all) (some_is _ _ names.2)
    (some_exprs values.0.0 ∙ s.0, (ts, values.0.1, w, read_exprs_are deepest_calls (length ts) ts values.0.0 values.0.1 values.1, read_parameters_are values.0.1 names.0 s.1))

-- the token in front is a path of this word
word_front : (w : Text) (ts : List Token) (p : Text × List Token) → take_kind k.Path ts ≡ Some p → bytes_eq w p.0 ≡ true → Word w ts p.1
word_front w ts p e h = let t = took k.Path ts p e in (t.0, t.1, t.2, t.3 ∙ sym (bytes_eq_is w p.0 h))

front_is : (ts : List Token) (p : Front × List Token) → read_front ts ≡ Some p → FrontIs ts p
unfolding read_front
front_is ts p e =
    let word = first_gave (take_kind k.Path ts) _ p e in
    elim (one_gave (bytes_eq (codes "if") word.0.0) _ _ p word.2) [
      | inl h ↦ if_is false ts word.0.1 (word_front (codes "if") ts word.0 word.1 h.0) p h.1
      | inr f ↦ elim (one_gave (bytes_eq (codes "unless") word.0.0) _ _ p f.1) [
        | inl h ↦ if_is true ts word.0.1 (word_front (codes "unless") ts word.0 word.1 h.0) p h.1
        | inr g ↦ elim (one_gave (bytes_eq (codes "each") word.0.0) _ _ p g.1) [
          | inl h ↦ each_is ts word.0.1 (word_front (codes "each") ts word.0 word.1 h.0) p h.1
          | inr j ↦ let s = test_some (bytes_eq (codes "let") word.0.0) _ p j.1 in let_is ts word.0.1 (word_front (codes "let") ts word.0 word.1 s.0) p s.1
        ]
      ]
    ]

after_body_is : (depth : ℕ) (otherwise : Reader Body) → SoundElse depth otherwise → (all : List Token) (f : Front) (ts vs ws : List Token) (b : Body) → IsFront all f ts → Mark k.CloseMustache ts vs → AreStmts depth vs b ws → (p : Stmt × List Token)
    → read_after_body otherwise f b ws ≡ Some p → IsHeadRead (suc depth) all p
unfolding read_after_body
after_body_is depth otherwise sound_else all (if_front x unless) ts vs ws b (xs, w, is) m i p e =
    let more = under_gave _ (otherwise ws) p e in
    subst (IsHeadRead (suc depth) all) more.2 (xs, ts, vs, ws, w, is, m, i, sound_else ws more.0 more.1)
after_body_is depth otherwise sound_else all (each_front x key ns) ts vs ws b (two, (us1, us2, us3, w, is, key_is, params)) m i p e =
    let more = under_gave _ (otherwise ws) p e in
    subst (IsHeadRead (suc depth) all) more.2 (two, (us1, us2, us3, ts, vs, ws, w, is, key_is, params, m, i, sound_else ws more.0 more.1))
after_body_is depth otherwise sound_else all (let_front es ns) ts vs ws b (some, (us1, us2, w, are, params)) m i p e =
    subst (IsHeadRead (suc depth) all) (some_is _ _ e) (some, (us1, us2, ts, vs, w, are, params, m, i))

pub head_is : (depth : ℕ) (inner otherwise : Reader Body) → Sound depth inner → SoundElse depth otherwise → (ts : List Token) (p : Stmt × List Token) → read_head inner otherwise ts ≡ Some p → IsHeadRead (suc depth) ts p
unfolding read_head
head_is depth inner otherwise sound sound_else ts p e =
    let front = first_gave (read_front ts) _ p e in
    let body = first_gave (read_opened inner front.0.1) _ p front.2 in
    let o = opened_is depth inner sound front.0.1 body.0 body.1 in
    after_body_is depth otherwise sound_else ts front.0.0 front.0.1 o.0 body.0.1 body.0.0 (front_is ts front.0 front.1) o.1 o.2 p body.2

-- an else
pub else_is : (depth : ℕ) (inner : Reader Body) (chained : Reader Stmt) → Sound depth inner → SoundHead depth chained → SoundElse depth (read_else inner chained)
unfolding read_else read_after_else
else_is depth inner chained sound sound_head ts p e =
    let P : Body × List Token → Type 0 = λ q. IsOtherwise depth ts q.0 q.1 in
    elim (one_gave (stands_opened (codes "else") ts) _ _ p e) [
      | inl h ↦ let front = first_gave (take_kind k.OpenMustache ts) _ p h.1 in
          let word = first_gave (take_word (codes "else") front.0.1) _ p front.2 in
          let m = took_mark k.OpenMustache ts front.0 front.1 in
          let w = took_word (codes "else") front.0.1 word.0 word.1 in
          elim (one_gave (stands k.CloseMustache word.0) _ _ p word.2) [
            | inl g ↦ inr (front.0.1, word.0, m, w, inl (opened_is depth inner sound word.0 p g.1))
            | inr g ↦ let c = under_gave _ (chained word.0) p g.1 in subst P c.2 (inr (front.0.1, word.0, m, w, inr (sound_head word.0 c.0 c.1)))
          ]
      | inr h ↦ subst P (some_is _ _ h.1) (inl (refl, refl))
    ]

-- what is left closes a block
abbrev pub Closes : List Token → Type 0
Closes us = stands k.OpenClosing us ≡ true

abbrev pub CompleteHead : ℕ → Reader Stmt → Type 0
CompleteHead depth chained = (ts : List Token) (s : Stmt) (us : List Token) → Closes us → IsHead depth ts s us → chained ts ≡ Some (s, us)

abbrev pub CompleteElse : ℕ → Reader Body → Type 0
CompleteElse depth otherwise = (ts : List Token) (c : Body) (us : List Token) → Closes us → IsOtherwise depth ts c us → otherwise ts ≡ Some (c, us)

second_of_three : (a b c : Bool) → b ≡ true → (a || b || c) ≡ true
second_of_three true b c e = refl
second_of_three false b c e = rw e refl

third_of_three : (a b c : Bool) → c ≡ true → (a || b || c) ≡ true
third_of_three true b c e = refl
third_of_three false true c e = refl
third_of_three false false c e = e

closing_ends : (us : List Token) → Closes us → ends_body us ≡ true
unfolding ends_body
closing_ends us h = second_of_three (stands k.EndTag us) (stands k.OpenClosing us) (stands_opened (codes "else") us) h

closing_no_else : (us : List Token) → Closes us → stands_opened (codes "else") us ≡ false
closing_no_else us h = let m = stands_is k.OpenClosing us h in not_opened (codes "else") k.OpenClosing us m.1 (m.0, m.2, m.3) refl

else_ends : (depth : ℕ) (ys : List Token) (c : Body) (us : List Token) → Closes us → IsOtherwise depth ys c us → ends_body ys ≡ true
unfolding ends_body
else_ends depth ys c us h (inl (e, f)) = rw e (second_of_three (stands k.EndTag us) (stands k.OpenClosing us) (stands_opened (codes "else") us) h)
else_ends depth ys c us h (inr (vs, ws, m, w, r)) = third_of_three (stands k.EndTag ys) (stands k.OpenClosing ys) (stands_opened (codes "else") ys) (opened_word (codes "else") ys vs ws m w)

-- what stands between a block's values and `}}`
parameters_first : (ws xs ys : List Token) (ns : List Text) → AreParameters ws ns xs → Mark k.CloseMustache xs ys → (vs : List Token) × (Mark k.CloseMustache ws vs ⊎ Mark k.Parameters ws vs)
parameters_first ws xs ys ns (inl (e, f)) m = (ys, inl (m.0, e ∙ m.1, m.2))
parameters_first ws xs ys ns (inr p) m = (xs, inr (p.0, p.1, p.2))

parameters_no : (kind : TokenKind) (ws xs ys : List Token) (ns : List Text) → AreParameters ws ns xs → Mark k.CloseMustache xs ys → same_kind k.CloseMustache kind ≡ false → same_kind k.Parameters kind ≡ false → stands kind ws ≡ false
parameters_no kind ws xs ys ns p m e f =
    let v = parameters_first ws xs ys ns p m in
    elim v.1 [ inl n ↦ stands_mark k.CloseMustache kind ws v.0 n ∙ e | inr n ↦ stands_mark k.Parameters kind ws v.0 n ∙ f ]

parameters_no_expr : (ws xs ys : List Token) (ns : List Text) → AreParameters ws ns xs → Mark k.CloseMustache xs ys → starts_expr ws ≡ false
parameters_no_expr ws xs ys ns p m =
    let v = parameters_first ws xs ys ns p m in
    elim v.1 [ inl n ↦ no_expr k.CloseMustache ws v.0 n refl | inr n ↦ no_expr k.Parameters ws v.0 n refl ]

reads_front : (ts : List Token) (f : Front) (us vs : List Token) → Mark k.CloseMustache us vs → IsFront ts f us → read_front ts ≡ Some (f, us)
unfolding read_front read_if read_each read_let
reads_front ts (if_front e false) us vs m (ws, w, is) = rw (takes_some k.Path _ ts ws w, w.3, reads_expr deepest_calls ws e us is) refl
reads_front ts (if_front e true) us vs m (ws, w, is) = rw (takes_some k.Path _ ts ws w, w.3, reads_expr deepest_calls ws e us is) refl
reads_front ts (each_front e key ns) us vs m (two, (us1, us2, us3, w, is, key_is, params)) =
    rw (
      takes_some k.Path _ ts us1 w,
      w.3,
      reads_expr deepest_calls us1 e us2 is,
      reads_key us2 key us3 (parameters_no k.Path us3 us vs ns params m refl refl) key_is,
      reads_two us3 ns us (stands_mark k.CloseMustache k.Parameters us vs m) two params,
    ) refl
reads_front ts (let_front es ns) us vs m (some, (us1, us2, w, are, params)) =
    let values = reads_exprs deepest_calls (length us1) us1 (exprs_list es) us2 (omega arith) (parameters_no_expr us2 us vs ns params m) (parameters_no k.Equals us2 us vs ns params m refl refl) (subst (λ l. AreExprs deepest_calls us1 l us2) (sym (exprs_of-list es)) are) in
    let h : some_values (exprs_list es) ≡ true = sym (some_exprs (exprs_list es)) ∙ ap is_some_expr (exprs_of-list es) ∙ some in
    rw (
      takes_some k.Path _ ts us1 w,
      w.3,
      values,
      h,
      reads_parameters us2 ns us (stands_mark k.CloseMustache k.Parameters us vs m) params,
    ) (ap (λ (l : Exprs). Some (let_front l ns, us)) (exprs_of-list es))

reads_with_front : (depth : ℕ) (inner otherwise : Reader Body) → Complete depth inner → (ts : List Token) (f : Front) (us vs ws : List Token) (b : Body) (p : Stmt × List Token) → IsFront ts f us → Mark k.CloseMustache us vs → AreStmts depth vs b ws → ends_body ws ≡ true
    → read_after_body otherwise f b ws ≡ Some p → read_head inner otherwise ts ≡ Some p
unfolding read_head
reads_with_front depth inner otherwise complete ts f us vs ws b p is m i ends e =
    rw (reads_front ts f us vs m is, reads_opened depth inner complete us vs b ws ends m i) e

pub reads_head : (depth : ℕ) (inner otherwise : Reader Body) → Complete depth inner → CompleteElse depth otherwise → CompleteHead (suc depth) (read_head inner otherwise)
unfolding read_after_body
reads_head depth inner otherwise complete complete_else ts (if_stmt e unless b c) us h (vs, ws, xs, ys, w, x, m, i, o) =
    reads_with_front depth inner otherwise complete ts (if_front e unless) ws xs ys b (if_stmt e unless b c, us) (vs, w, x) m i (else_ends depth ys c us h o) (rw (complete_else ys c us h o) refl)
reads_head depth inner otherwise complete complete_else ts (each e key ns b c) us h (two, (us1, us2, us3, us4, us5, us6, w, x, key_is, params, m, i, o)) =
    reads_with_front depth inner otherwise complete ts (each_front e key ns) us4 us5 us6 b (each e key ns b c, us) (two, (us1, us2, us3, w, x, key_is, params)) m i (else_ends depth us6 c us h o) (rw (complete_else us6 c us h o) refl)
reads_head depth inner otherwise complete complete_else ts (let_stmt es ns b) us h (some, (vs, ws, xs, ys, w, are, params, m, i)) =
    reads_with_front depth inner otherwise complete ts (let_front es ns) xs ys us b (let_stmt es ns b, us) (some, (vs, ws, w, are, params)) m i (closing_ends us h) refl
reads_head depth inner otherwise complete complete_else ts s us h r = absurd r

-- a chained else is one block
pub chained_only : (depth : ℕ) (ts : List Token) (c : Body) (us : List Token) → IsChained depth ts c us → (s : Stmt) × (c ≡ only s) × IsHead depth ts s us
chained_only (suc depth) ts (stmt (if_stmt e unless b c) end) us h = (if_stmt e unless b c, refl, h)
chained_only (suc depth) ts (stmt (each e key ns b c) end) us h = (each e key ns b c, refl, h)
chained_only (suc depth) ts (stmt (let_stmt es ns b) end) us h = (let_stmt es ns b, refl, h)
chained_only depth ts c us h = absurd h

-- it begins with a word
head_word : (depth : ℕ) (ts : List Token) (s : Stmt) (us : List Token) → IsHead depth ts s us → (vs : List Token) × Mark k.Path ts vs
head_word (suc depth) ts (if_stmt e unless b c) us h = (h.0, (h.4.0, h.4.1, h.4.2))
head_word (suc depth) ts (each e key ns b c) us h = (h.1.0, (h.1.6.0, h.1.6.1, h.1.6.2))
head_word (suc depth) ts (let_stmt es ns b) us h = (h.1.0, (h.1.4.0, h.1.4.1, h.1.4.2))
head_word depth ts s us h = absurd h

pub reads_else : (depth : ℕ) (inner : Reader Body) (chained : Reader Stmt) → Complete depth inner → CompleteHead depth chained → CompleteElse depth (read_else inner chained)
unfolding read_else read_after_else
reads_else depth inner chained complete complete_head ts c us h (inl (e, f)) = rw (e, closing_no_else us h) (ap (λ (x : Body). Some (x, us)) (sym f))
reads_else depth inner chained complete complete_head ts c us h (inr (vs, ws, m, w, inl (xs, n, i))) =
    rw (opened_word (codes "else") ts vs ws m w, takes_mark k.OpenMustache ts vs m, takes_word (codes "else") vs ws w, stands_mark k.CloseMustache k.CloseMustache ws xs n) (reads_opened depth inner complete ws xs c us (closing_ends us h) n i)
reads_else depth inner chained complete complete_head ts c us h (inr (vs, ws, m, w, inr r)) =
    let s = chained_only depth ws c us r in
    let v = head_word depth ws s.0 us s.2 in
    rw (
      opened_word (codes "else") ts vs ws m w,
      takes_mark k.OpenMustache ts vs m,
      takes_word (codes "else") vs ws w,
      stands_mark k.Path k.CloseMustache ws v.0 v.1,
      complete_head ws s.0 us h s.2,
    ) (ap (λ (x : Body). Some (x, us)) (sym s.1))

-- the end of a block
closing_is : (word : Text) (ts us : List Token) → take_closing word ts ≡ Some us → IsClosing ts word us
unfolding take_closing
closing_is word ts us e =
    let front = first_gave (take_kind k.OpenClosing ts) _ us e in
    let name = first_gave (take_word word front.0.1) _ us front.2 in
    let back = first_gave (take_kind k.CloseMustache name.0) _ us name.2 in
    let P : List Token → Type 0 = λ l. IsClosing ts word l in
    subst P (some_is _ _ back.2) (front.0.1, name.0, took_mark k.OpenClosing ts front.0 front.1, took_word word front.0.1 name.0 name.1, took_mark k.CloseMustache name.0 back.0 back.1)

takes_closing : (word : Text) (ts us : List Token) → IsClosing ts word us → take_closing word ts ≡ Some us
unfolding take_closing
takes_closing word ts us (vs, ws, m, w, n) = rw (takes_mark k.OpenClosing ts vs m, takes_word word vs ws w, takes_mark k.CloseMustache ws us n) refl

closing_closes : (word : Text) (ts us : List Token) → IsClosing ts word us → Closes ts
closing_closes word ts us (vs, ws, m, w, n) = stands_mark k.OpenClosing k.OpenClosing ts vs m

abbrev pub is_block : Stmt → Bool
is_block (if_stmt e unless b c) = true
is_block (each e key ns b c) = true
is_block (let_stmt es ns b) = true
is_block s = false

abbrev pub IsBlock : ℕ → List Token → Stmt → List Token → Type 0
IsBlock depth ts s us = (vs ws : List Token) × Mark k.OpenBlock ts vs × IsHead (suc depth) vs s ws × IsClosing ws (word_of s) us

pub block_stmt : (depth : ℕ) (ts : List Token) (s : Stmt) (us : List Token) → IsBlock depth ts s us → IsStmt (suc depth) ts s us
block_stmt depth ts (if_stmt e unless b c) us h = h
block_stmt depth ts (each e key ns b c) us h = h
block_stmt depth ts (let_stmt es ns b) us h = h
block_stmt depth ts s us h = absurd (h.3)

pub stmt_block : (depth : ℕ) (ts : List Token) (s : Stmt) (us : List Token) → is_block s ≡ true → IsStmt (suc depth) ts s us → IsBlock depth ts s us
stmt_block depth ts (if_stmt e unless b c) us f h = h
stmt_block depth ts (each e key ns b c) us f h = h
stmt_block depth ts (let_stmt es ns b) us f h = h
stmt_block depth ts s us f h = let r : ⊥ = cc in absurd r

pub block_is : (depth : ℕ) (head : Reader Stmt) → SoundHead (suc depth) head → (ts : List Token) (p : Stmt × List Token) → read_block head ts ≡ Some p → IsRead (suc depth) ts p
unfolding read_block
block_is depth head sound ts p e =
    let front = first_gave (take_kind k.OpenBlock ts) _ p e in
    let inside = first_gave (head front.0.1) _ p front.2 in
    let rest = first_gave (take_closing (word_of inside.0.0) inside.0.1) _ p inside.2 in
    subst (IsRead (suc depth) ts) (some_is _ _ rest.2)
    (block_stmt depth ts inside.0.0 rest.0 (front.0.1, inside.0.1, took_mark k.OpenBlock ts front.0 front.1, sound front.0.1 inside.0 inside.1, closing_is (word_of inside.0.0) inside.0.1 rest.0 rest.1))

pub reads_block : (depth : ℕ) (head : Reader Stmt) → CompleteHead (suc depth) head → (ts : List Token) (s : Stmt) (us : List Token) → is_block s ≡ true → IsStmt (suc depth) ts s us → read_block head ts ≡ Some (s, us)
unfolding read_block
reads_block depth head complete ts s us f h =
    let b = stmt_block depth ts s us f h in
    rw (takes_mark k.OpenBlock ts b.0 b.2, complete b.0 s b.1 (closing_closes (word_of s) b.1 us b.4) b.3, takes_closing (word_of s) b.1 us b.4) refl

pub block_first : (depth : ℕ) (ts : List Token) (s : Stmt) (us : List Token) → is_block s ≡ true → IsStmt (suc depth) ts s us → (vs : List Token) × Mark k.OpenBlock ts vs
block_first depth ts s us f h = let b = stmt_block depth ts s us f h in (b.0, b.2)
