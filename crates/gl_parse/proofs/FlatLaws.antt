-- Statements without another in them: what is read is spelled, and what is spelled is read.
use Rattle.std.proofs.Common.{◌≡◌, ℕ, List, ◌∷◌, Bool, true, false, Some, None, option_map, inl, inr, length, drop, refl, sym, ap, subst, ◌∙◌, arith}
use Rattle.std.specs.Prelude.{codes}
use Rattle.std.specs.Str.{bytes_eq}
use Rattle.gl_base.specs.Texts.{Text}
use Rattle.gl_ast.specs.Grammar.{deepest_calls, Mark, Stands, Word, IsStmt, AreExprs, IsTarget, IsMustache}
use Rattle.gl_ast.specs.Template.{Expr, Exprs, Stmt, text_stmt, comment_stmt, put, yield}
use Rattle.gl_ast.specs.TokenText.{decoded, comment_of, string_of, is_block_name}
use Rattle.gl_ast.specs.declared.token.Token.{Token}
use Rattle.gl_ast.specs.declared.token.TokenKind.{TokenKind}
use Rattle.gl_ast.specs.declared.token.TokenKind.TheVariants as k
use Rattle.gl_exprs.specs.ReadExpr.{read_expr, read_exprs, read_mustache, read_inner, read_called, read_token, token_expr, path_expr, stands_name, stands_named, starts_expr, constant_of}
use Rattle.gl_parse.specs.ReadStmt.{read_flat, read_target, read_yield, stands_opened}
use Rattle.gl_exprs.specs.Take.{same_kind, stands, stands_word, take_kind, take_word}
use Rattle.gl_exprs.proofs.FirstTokens.{test_some, took, took_mark, takes_mark, took_word, takes_word, stands_mark, stands_some, takes_some, stands_word_is, stands_is, and_true, is_bytes_eq}
use Rattle.gl_parse.proofs.Lower.{read_exprs_are, reads_exprs, read_mustache_is, reads_mustache}
use Rattle.gl_exprs.proofs.ExprLists.{exprs_list, exprs_of-list}
use Rattle.gl_exprs.proofs.Takings.{first_gave, under_gave, one_gave, some_is}

abbrev pub IsRead : ℕ → List Token → Stmt × List Token → Type 0
IsRead depth ts p = IsStmt depth ts p.0 p.1

text_is : (depth : ℕ) (ts : List Token) (p : Stmt × List Token) → option_map (λ t. (text_stmt (decoded t.0), t.1)) (take_kind k.Text ts) ≡ Some p → IsRead depth ts p
text_is depth ts p e =
    let m = under_gave _ (take_kind k.Text ts) p e in
    let t = took k.Text ts m.0 m.1 in
    subst (IsRead depth ts) m.2 (t.0, t.1, t.2, ap decoded t.3)

comment_is : (depth : ℕ) (ts : List Token) (p : Stmt × List Token) → option_map (λ t. (comment_stmt (comment_of t.0), t.1)) (take_kind k.HtmlComment ts) ≡ Some p → IsRead depth ts p
comment_is depth ts p e =
    let m = under_gave _ (take_kind k.HtmlComment ts) p e in
    let t = took k.HtmlComment ts m.0 m.1 in
    subst (IsRead depth ts) m.2 (t.0, t.1, t.2, ap comment_of t.3)

put_is : (depth : ℕ) (ts : List Token) (p : Stmt × List Token) → option_map (λ e. (put e.0, e.1)) (read_mustache ts) ≡ Some p → IsRead depth ts p
put_is depth ts p e =
    let m = under_gave _ (read_mustache ts) p e in
    subst (IsRead depth ts) m.2 (read_mustache_is ts m.0.0 m.0.1 m.1)

target_is : (ts : List Token) (p : Text × List Token) → read_target ts ≡ Some p → IsTarget ts p.0 p.1
unfolding read_target
target_is ts p e =
    let P : Text × List Token → Type 0 = λ q. IsTarget ts q.0 q.1 in
    elim (one_gave (stands_word (codes "to") ts) _ _ p e) [
      | inl h ↦ let word = first_gave (take_word (codes "to") ts) _ p h.1 in
          let mark = first_gave (take_kind k.Equals word.0) _ p word.2 in
          let name = first_gave (take_kind k.StringLit mark.0.1) _ p mark.2 in
          let s = test_some (is_block_name (string_of name.0.0)) _ p name.2 in
          let t = took k.StringLit mark.0.1 name.0 name.1 in
          subst P (some_is _ _ s.1) (inr (word.0, mark.0.1, took_word (codes "to") ts word.0 word.1, took_mark k.Equals word.0 mark.0 mark.1, (t.0, t.1, t.2, (ap string_of t.3, s.0))))
      | inr h ↦ subst P (some_is _ _ h.1) (inl (refl, refl))
    ]

yield_is : (depth : ℕ) (ts : List Token) (p : Stmt × List Token) → read_yield ts ≡ Some p → IsRead depth ts p
unfolding read_yield
yield_is depth ts p e =
    let front = first_gave (take_kind k.OpenMustache ts) _ p e in
    let word = first_gave (take_word (codes "yield") front.0.1) _ p front.2 in
    let values = first_gave (read_exprs (read_expr deepest_calls) (length word.0) word.0) _ p word.2 in
    let target = first_gave (read_target values.0.1) _ p values.2 in
    let back = first_gave (take_kind k.CloseMustache target.0.1) _ p target.2 in
    subst (IsRead depth ts) (some_is _ _ back.2) (
      front.0.1,
      word.0,
      values.0.1,
      target.0.1,
      took_mark k.OpenMustache ts front.0 front.1,
      took_word (codes "yield") front.0.1 word.0 word.1,
      read_exprs_are deepest_calls (length word.0) word.0 values.0.0 values.0.1 values.1,
      target_is values.0.1 target.0 target.1,
      took_mark k.CloseMustache target.0.1 back.0 back.1,
    )

pub read_flat_is : (depth : ℕ) (ts : List Token) (p : Stmt × List Token) → read_flat ts ≡ Some p → IsRead depth ts p
unfolding read_flat
read_flat_is depth ts p e =
    elim (one_gave (stands k.Text ts) _ _ p e) [
      | inl h ↦ text_is depth ts p h.1
      | inr f ↦ elim (one_gave (stands k.HtmlComment ts) _ _ p f.1) [
        | inl h ↦ comment_is depth ts p h.1
        | inr g ↦ elim (one_gave (stands_opened (codes "yield") ts) _ _ p g.1) [ inl h ↦ yield_is depth ts p h.1 | inr h ↦ put_is depth ts p h.1 ]
      ]
    ]

-- `{{` before a word that is no name and no constant opens no mustache
opens_none : (w : Text) (ts : List Token) → ((o t : Token) (us : List Token) → o.kind ≡ k.OpenMustache → t.kind ≡ k.Path → t.text ≡ w → read_mustache (o ∷ (t ∷ us)) ≡ None) → stands_opened w ts ≡ true → read_mustache ts ≡ None
unfolding stands_opened
opens_none w ts none e =
    let both = and_true (stands k.OpenMustache ts) (stands_word w (drop 1 ts)) e in
    let front = stands_is k.OpenMustache ts both.0 in
    let word = stands_word_is w (drop 1 ts) both.1 in
    let same : front.1 ≡ word.0 ∷ word.1 = sym (ap (λ l. drop 1 l) front.2) ∙ word.2 in
    rw (front.2, same) (none front.0 word.0 word.1 front.3 word.3 word.4)

else_none : (o t : Token) (us : List Token) → o.kind ≡ k.OpenMustache → t.kind ≡ k.Path → t.text ≡ codes "else" → read_mustache (o ∷ (t ∷ us)) ≡ None
unfolding read_mustache read_inner read_called read_expr read_token token_expr path_expr stands_name take_kind stands constant_of
else_none o t us a b c = rw (a, b, c) refl

yield_none : (o t : Token) (us : List Token) → o.kind ≡ k.OpenMustache → t.kind ≡ k.Path → t.text ≡ codes "yield" → read_mustache (o ∷ (t ∷ us)) ≡ None
unfolding read_mustache read_inner read_called read_expr read_token token_expr path_expr stands_name take_kind stands constant_of
yield_none o t us a b c = rw (a, b, c) refl

pub never_true : (b : Bool) → (b ≡ true → ⊥) → b ≡ false
never_true true h = absurd (h refl)
never_true false h = refl

pub mustache_no_else : (ts : List Token) (e : Expr) (us : List Token) → IsMustache ts e us → stands_opened (codes "else") ts ≡ false
mustache_no_else ts e us m =
    never_true (stands_opened (codes "else") ts) (λ (h : stands_opened (codes "else") ts ≡ true). let a = opens_none (codes "else") ts else_none h in let b = reads_mustache ts e us m in let r : ⊥ = cc in r)

pub mustache_no_yield : (ts : List Token) (e : Expr) (us : List Token) → IsMustache ts e us → stands_opened (codes "yield") ts ≡ false
mustache_no_yield ts e us m =
    never_true (stands_opened (codes "yield") ts) (λ (h : stands_opened (codes "yield") ts ≡ true). let a = opens_none (codes "yield") ts yield_none h in let b = reads_mustache ts e us m in let r : ⊥ = cc in r)

reads_text : (ts : List Token) (x : Text) (us : List Token) → Stands k.Text (λ y. decoded y ≡ x) ts us → read_flat ts ≡ Some (text_stmt x, us)
unfolding read_flat
reads_text ts x us m = rw (stands_some k.Text k.Text _ ts us m, takes_some k.Text _ ts us m) (ap (λ y. Some (text_stmt y, us)) m.3)

reads_comment : (ts : List Token) (x : Text) (us : List Token) → Stands k.HtmlComment (λ y. comment_of y ≡ x) ts us → read_flat ts ≡ Some (comment_stmt x, us)
unfolding read_flat
reads_comment ts x us m = rw (stands_some k.HtmlComment k.Text _ ts us m, stands_some k.HtmlComment k.HtmlComment _ ts us m, takes_some k.HtmlComment _ ts us m) (ap (λ y. Some (comment_stmt y, us)) m.3)

reads_put : (ts : List Token) (e : Expr) (us : List Token) → IsMustache ts e us → read_flat ts ≡ Some (put e, us)
unfolding read_flat
reads_put ts e us m =
    rw (stands_mark k.OpenMustache k.Text ts m.0 m.2, stands_mark k.OpenMustache k.HtmlComment ts m.0 m.2, mustache_no_yield ts e us m, reads_mustache ts e us m) refl

word_here : (w : Text) (ts us : List Token) → Word w ts us → stands_word w ts ≡ true
unfolding stands_word
word_here w ts us n = rw (n.1, n.2, is_bytes_eq w n.0.text (sym n.3)) refl

-- a word after `{{`
pub opened_word : (w : Text) (ts vs us : List Token) → Mark k.OpenMustache ts vs → Word w vs us → stands_opened w ts ≡ true
unfolding stands_opened stands stands_word
opened_word w ts vs us m n = rw (m.1, n.1, m.2, n.2, is_bytes_eq w n.0.text (sym n.3)) refl

pub not_opened : (w : Text) (kind : TokenKind) (ts us : List Token) → Mark kind ts us → same_kind kind k.OpenMustache ≡ false → stands_opened w ts ≡ false
unfolding stands_opened stands
not_opened w kind ts us m e = rw (m.1, m.2, e) refl

-- and no other word
pub opened_other : (w x : Text) (ts vs us : List Token) → Mark k.OpenMustache ts vs → Word x vs us → bytes_eq w x ≡ false → stands_opened w ts ≡ false
unfolding stands_opened stands stands_word
opened_other w x ts vs us m n e = rw (m.1, n.1, m.2, n.2, n.3, e) refl

-- after the values of a yield no expression stands, and no `=`
target_ends : (ts : List Token) (to : Text) (us vs : List Token) → IsTarget ts to us → Mark k.CloseMustache us vs → (starts_expr ts ≡ false) × (stands k.Equals ts ≡ false)
unfolding starts_expr stands_named stands_name stands
target_ends ts to us vs (inl (e, f)) m = rw (e, m.1, m.2) (refl, refl)
target_ends ts to us vs (inr (xs, ys, w, m, s)) n = rw (w.1, w.2, w.3, m.1, m.2) (refl, refl)

closes : (w : Text) (ts us : List Token) → Mark k.CloseMustache ts us → stands_word w ts ≡ false
unfolding stands_word
closes w ts us m = rw (m.1, m.2) refl

reads_target : (ts : List Token) (to : Text) (us vs : List Token) → IsTarget ts to us → Mark k.CloseMustache us vs → read_target ts ≡ Some (to, us)
unfolding read_target
reads_target ts to us vs (inl (e, f)) m = rw (e, f, closes (codes "to") us vs m) refl
reads_target ts to us vs (inr (xs, ys, w, m, s)) n =
    let named : is_block_name (string_of s.0.text) ≡ true = ap is_block_name s.3.0 ∙ s.3.1 in
    rw (word_here (codes "to") ts xs w, takes_word (codes "to") ts xs w, takes_mark k.Equals xs ys m, takes_some k.StringLit _ ys us s, named) (ap (λ (x : Text). Some (x, us)) s.3.0)

reads_yield : (ts : List Token) (es : Exprs) (to : Text) (us vs ws xs ys : List Token) → Mark k.OpenMustache ts vs → Word (codes "yield") vs ws → AreExprs deepest_calls ws es xs → IsTarget xs to ys → Mark k.CloseMustache ys us → read_flat ts ≡ Some (yield es to, us)
unfolding read_flat read_yield
reads_yield ts es to us vs ws xs ys m w es_are t n =
    let ends = target_ends xs to ys us t n in
    let values = reads_exprs deepest_calls (length ws) ws (exprs_list es) xs (omega arith) ends.0 ends.1 (subst (λ l. AreExprs deepest_calls ws l xs) (sym (exprs_of-list es)) es_are) in
    rw (
      stands_mark k.OpenMustache k.Text ts vs m,
      stands_mark k.OpenMustache k.HtmlComment ts vs m,
      opened_word (codes "yield") ts vs ws m w,
      takes_mark k.OpenMustache ts vs m,
      takes_word (codes "yield") vs ws w,
      values,
      reads_target xs to ys us t n,
      takes_mark k.CloseMustache ys us n,
    ) (ap (λ (l : Exprs). Some (yield l to, us)) (exprs_of-list es))

abbrev pub is_flat : Stmt → Bool
is_flat (text_stmt x) = true
is_flat (comment_stmt x) = true
is_flat (put e) = true
is_flat (yield es to) = true
is_flat s = false

pub reads_flat : (depth : ℕ) (ts : List Token) (s : Stmt) (us : List Token) → is_flat s ≡ true → IsStmt depth ts s us → read_flat ts ≡ Some (s, us)
reads_flat depth ts (text_stmt x) us f h = reads_text ts x us h
reads_flat depth ts (comment_stmt x) us f h = reads_comment ts x us h
reads_flat depth ts (put e) us f h = reads_put ts e us h
reads_flat depth ts (yield es to) us f h =
    reads_yield ts es to us h.0 h.1 h.2 h.3 h.4 h.5 h.6 h.7 h.8
reads_flat depth ts s us f h = let r : ⊥ = cc in absurd r
